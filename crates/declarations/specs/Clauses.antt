-- The contracts of the functions that read a part of a declaration, all in one shape: what it starts from and the lent words at entry, the answer and the lent words at exit, and the definition's
-- result.
use Rattle.source.specs.Kinds
use Rattle.layout.specs.Allocation as layout
use Rattle.tree.specs.Symbols as symbols
use Rattle.std.specs.Prelude.{ℕ, ◌+◌, ◌≤◌, Bool, List, [], ◌∷◌, Result, leb, length}
use Rattle.source.specs.declared.Token.{Token}
use Rattle.tree.specs.Tree.{Name, Item, Declaration, Stmts, Program}
use Rattle.grammar.specs.Parse.{Got, and_then, within, separated, expect}
use Rattle.grammar.specs.Parse.Got.{got}
use Rattle.grammar.specs.Cells.{parse_in_range}
use Rattle.grammar.specs.Declarations.{ItemKeyword, size_of, parse_local, parse_initial}
use Rattle.symbols.specs.declared.Packed.{Packed}
use Rattle.symbols.specs.Packing.{unpack}
use Rattle.parser.specs.declared.Part.{Part}
use Rattle.parser.specs.declared.Failure.{Failure}
use Rattle.declarations.specs.declared.SectorEnds.{SectorEnds}
use Rattle.declarations.specs.declared.Scope.{Scope}
use Rattle.declarations.specs.declared.Allocation.{Allocation}
use Rattle.declarations.specs.declared.Frame.{Frame}
use Rattle.declarations.specs.declared.arrays.Head.{Head}
use Rattle.declarations.specs.Declares.{Declares}
use Rattle.declarations.specs.Scopes.{table_words, ItemsDeclared}
use Rattle.declarations.specs.Allocations.{end_of, SoundAllocation, Declared, DeclaredAnyPlan, SectorClosed}
use Rattle.declarations.specs.Forms.{array_in}
use Rattle.declarations.specs.Frames.{FrameEmitted}
use Rattle.emitter.specs.declared.Output.{Output}
use Rattle.declarations.specs.declared.Reading.{Reading}
use Rattle.declarations.specs.Procedures.{BodyEmitted, MainEmitted, ProgramEmitted}

-- ---- What is asked

-- between declarations, with a table that has room for 512 names
abbrev pub Ready : Allocation → List ℕ → Type 0
Ready s table = SoundAllocation s × (table_words ≤ length table)

-- the same, with room for a name more
abbrev pub ReadyForName : Allocation → List ℕ → Type 0
ReadyForName s table = SoundAllocation s × (table_words ≤ length table) × (s.names + 1 ≤ symbols.most_names)

-- ---- What is declared and emitted

-- a part that is answered as a value, or a failure
abbrev pub Answer : Type 0 → Type 0
Answer X = Result (Part X) Failure

module _ (s : Allocation) (table image : List ℕ) where
  -- declarations, by a plan of where the sectors' code ends
  abbrev pub Allocates : SectorEnds → Answer Allocation → List ℕ → List ℕ → Got (List Declaration) → Type 0
  Allocates plan r table' image' g = Declares (λ new s'. Declared (end_of plan) s table image s' table' image' new) r g

  -- declarations without statements: no plan is asked
  abbrev pub AllocatesAnyPlan : Answer Allocation → List ℕ → List ℕ → Got (List Declaration) → Type 0
  AllocatesAnyPlan r table' image' g = Declares (λ new s'. DeclaredAnyPlan s table image s' table' image' new) r g

  -- one of them
  abbrev pub AllocatesOne : Answer Allocation → List ℕ → List ℕ → Got Declaration → Type 0
  AllocatesOne r table' image' g = Declares (λ d s'. DeclaredAnyPlan s table image s' table' image' (d ∷ [])) r g

  -- a procedure's locals and link
  abbrev pub EmitsFrame : Packed → Answer Frame → List ℕ → List ℕ → Got (List (Name × Item)) → Type 0
  EmitsFrame name r table' image' g = Declares (λ locals f. FrameEmitted s table image (unpack name) f.names f.link f.output table' image' locals) r g

-- `.NEXTSECTOR`, which leaves the table alone
abbrev pub ClosesSector : Allocation → List ℕ → Answer Allocation → List ℕ → Got (List Declaration) → Type 0
ClosesSector s image r image' g = Declares (λ new s'. SectorClosed s image s' image' new) r g

module _ (s : Scope) (table image : List ℕ) where
  -- items, at either level
  abbrev pub DeclaresItems : Answer Scope → List ℕ → List ℕ → Got (List (Name × Item)) → Type 0
  DeclaresItems r table' image' g = Declares (λ items s'. ItemsDeclared s table image s' table' image' items) r g

  -- one of them
  abbrev pub DeclaresItem : Answer Scope → List ℕ → List ℕ → Got (Name × Item) → Type 0
  DeclaresItem r table' image' g = Declares (λ one s'. ItemsDeclared s table image s' table' image' (one ∷ [])) r g

-- an array's name and size
abbrev pub tree_head : Head → Name × ℕ
tree_head h = (unpack h.name, h.size)

-- ---- What is parsed

module _ (source : List ℕ) where
  -- a part after a token
  abbrev pub after_token : {A : Type 0} → ℕ → (ℕ → Got A) → ℕ → Got A
  after_token kind part at = and_then (expect kind source at) (λ _ n. part n)

  -- an array's size (D6)
  abbrev pub size_at : symbols.Names → ℕ → Got ℕ
  size_at names at = parse_in_range source names (λ v. leb (size_of v) 8192) at

  -- lists separated by commas
  abbrev pub item_list_at : symbols.Scope → ItemKeyword → ℕ → Got (List (Name × Item))
  item_list_at scope word at = separated source Kinds.comma (parse_local source scope word []) (parse_local source scope word) at

  abbrev pub array_list_at : Bool → layout.Allocation → ℕ → Got (List Declaration)
  array_list_at checked st at = separated source Kinds.comma (array_in source checked st []) (array_in source checked st) at

  abbrev pub value_list_at : symbols.Names → ℕ → ℕ → Got (List ℕ)
  value_list_at names size at = separated source Kinds.comma (parse_initial source names size []) (parse_initial source names size) at

  -- a limit at the last token of a part, and the token that must follow
  abbrev pub limit_then_expect : ℕ → Token → ℕ → Got Token
  limit_then_expect limit last kind = and_then (within limit last (got last last.next)) (λ _ n. expect kind source n)

  -- the same at `.END`
  abbrev pub end_then_expect : ℕ → ℕ → ℕ → Got Token
  end_then_expect limit kind at = and_then (expect Kinds.END source at) (λ last _. limit_then_expect limit last kind)

  -- `]`, where the limit of an array's space is
  abbrev pub closing_at : ℕ → ℕ → Got Token
  closing_at limit at = and_then (expect Kinds.right_bracket source at) (λ t _. within limit t (got t t.next))

module _ (s : Allocation) (table image : List ℕ) where
  -- a procedure's locals, link, statements and return, its sector's pool at an address
  abbrev pub EmitsBody : ℕ → Packed → Answer Output → List ℕ → List ℕ → Got (List (Name × Item) × Stmts) → Type 0
  EmitsBody pool name r table' image' g = Declares (λ inside o. BodyEmitted s table image pool (unpack name) o table' image' inside) r g

  -- the main body and the last pool
  abbrev pub EmitsMain : SectorEnds → Answer Output → List ℕ → Got Stmts → Type 0
  EmitsMain plan r image' g = Declares (λ main o. MainEmitted plan s table image o image' main) r g

-- a program, by a plan
abbrev pub CompilesProgram : SectorEnds → List ℕ → Answer Reading → List ℕ → List ℕ → Got Program → Type 0
CompilesProgram plan image r table' image' g = Declares (λ p x. ProgramEmitted plan image x.checked x.allocation x.end table' image' p) r g
