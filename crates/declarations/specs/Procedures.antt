-- Procedures, the main body and the program: what is emitted.
use Rattle.std.specs.Prelude.{ℕ, ◌*◌, ◌≡◌, Bool, leb, length, take, Result}
use mathlib.Core.List.{List, [], ◌∷◌}
use Rattle.prelude.specs.Choice.{whether}
use Rattle.source.specs.Kinds
use Rattle.tree.specs.Tree.{Name, Item, Stmts, Program}
use Rattle.layout.specs.Words.{Sym, stmts_words, ◌⧺◌}
use Rattle.layout.specs.Allocation as layout
use Rattle.layout.specs.Limits.{main_limit}
use Rattle.grammar.specs.Parse.{Got, and_then, within, expect}
use Rattle.grammar.specs.Parse.Got.{got, failed}
use Rattle.grammar.specs.Statements.{parse_outermost}
use Rattle.parser.specs.declared.Part.{Part}
use Rattle.parser.specs.declared.Failure.{Failure}
use Rattle.grammar.specs.Declarations as declarations
use Rattle.grammar.specs.Program as programs
use Rattle.emitter.specs.Emitted as emitted
use Rattle.layout.specs.Emission as emission
use Rattle.emitter.specs.Lays.{Lays}
use Rattle.layout.specs.Emission.{stored, local_values, emit_main, emit_program}
use Rattle.emitter.specs.declared.Output.{Output}
use Rattle.declarations.specs.declared.SectorEnds.{SectorEnds}
use Rattle.declarations.specs.declared.Allocation.{Allocation}
use Rattle.declarations.specs.declared.Reading.{Reading}
use Rattle.declarations.specs.Declares.{Declares}
use Rattle.declarations.specs.Frames.{framed}
use Rattle.declarations.specs.Scopes.{table_words}
use Rattle.declarations.specs.Allocations.{end_of, allocation_of, SoundAllocation}

-- where the words of a body find what they name
abbrev pub bases_at : ℕ → Allocation → emission.Bases
bases_at pool_at s = record { pool_at = pool_at; locals = s.output.next }

-- a procedure's statements and its return, after its frame
pub record BodyEmitted (s : Allocation) (table image : List ℕ) (pool_at : ℕ) (name : Name) (output : Output) (table' image' : List ℕ) (inside : List (Name × Item) × Stmts) : Type 0 where
  pub kept : take (7 * s.names) table' ≡ take (7 * s.names) table
  pub lays : Lays (bases_at pool_at s) (framed (allocation_of s table) name inside.0 image) (emitted.emitted_by output image')
      (λ at. stmts_words inside.1 at ⧺ Sym.return (layout.link_of (allocation_of s table) name inside.0) ∷ [])

-- the main body by the allocation before it
unfoldable pub main_in : List ℕ → layout.Allocation → ℕ → Got Stmts
main_in source st at =
    and_then (parse_outermost source st.scope.names at) (λ main n.
    and_then (expect Kinds.END source n) (λ last _.
    within (main_limit st main) last (and_then (expect Kinds.end_of_source source last.next) (λ _ next.
    got main next))))

-- the main body and the last pool
pub record MainEmitted (plan : SectorEnds) (s : Allocation) (table image : List ℕ) (output : Output) (image' : List ℕ) (main : Stmts) : Type 0 where
  pub next : output.next ≡ (layout.finish (allocation_of s table) main).next
  pub pool : emitted.literals_in output.pool ≡ (layout.finish (allocation_of s table) main).pool
  pub laid : image' ≡ emit_main (end_of plan (length (allocation_of s table).ends)) (allocation_of s table) main image

pub record AtStart (s : Allocation) : Type 0 where
  pub allocation : (table : List ℕ) → allocation_of s table ≡ layout.start
  pub sound : SoundAllocation s

-- a program, after the length test
unfoldable pub program_in : List ℕ → Got Program
program_in source =
    and_then (expect Kinds.BEGIN source 0) (λ _ n.
    and_then (declarations.parse_checked source n) (λ checked m.
    and_then (declarations.parse_declarations source checked m) (λ ds k. programs.parse_main source checked ds k)))

-- a program compiled: whether its subscripts are tested, the allocation after the declarations, the last sector's code and pool, and the image
pub record ProgramEmitted (plan : SectorEnds) (image : List ℕ) (flag : Bool) (s : Allocation) (output : Output) (table' image' : List ℕ) (p : Program) : Type 0 where
  pub checked : flag ≡ p.checked
  pub allocation : allocation_of s table' ≡ layout.allocated p.declarations
  pub sound : SoundAllocation s
  pub next : output.next ≡ (layout.finish (layout.allocated p.declarations) p.main).next
  pub pool : emitted.literals_in output.pool ≡ (layout.finish (layout.allocated p.declarations) p.main).pool
  pub laid : image' ≡ emit_program (end_of plan) p image

-- THE WHOLE PROGRAM, with the lengths of what was lent on every path. A table that has no room for 512 names is 2 at 0, as short scratch is (F2), before anything is read
unfoldable pub program_on : List ℕ → List ℕ → Got Program
program_on source table = whether (leb table_words (length table)) (λ _. program_in source) (λ _. failed 2 0)

-- the lengths of the table and of the image
pub record Lengths (table image table' image' : List ℕ) : Type 0 where
  pub table_kept : length table' ≡ length table
  pub image_kept : length image' ≡ length image

abbrev pub Programs : SectorEnds → List ℕ → List ℕ → List ℕ → Result (Part Reading) Failure → List ℕ → List ℕ → Type 0
Programs plan source table image r table' image' =
    Declares (λ p x. ProgramEmitted plan image x.checked x.allocation x.end table' image' p) r (program_on source table) × Lengths table image table' image'
