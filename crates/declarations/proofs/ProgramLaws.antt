-- The main body and the whole program.
use Prim.Native.Nat.{ℕ, ◌+◌, ◌≤◌}
use mathlib.Core.Path.{◌≡◌, refl, sym, ap, ap₂, ◌∙◌}
use mathlib.Core.Bool.{Bool}
use mathlib.Core.List.{List, [], ◌∷◌, foldl}
use native.Mathlib.Omega.{arith}
use lib.ListN.{length, get_or}
use Rattle.source.specs.Kinds
use Rattle.tree.specs.Tree.{Stmts, Declaration}
use Rattle.layout.specs.Words.{Sym, stmts_words, main_words, ◌⧺◌}
use Rattle.layout.specs.Pool.{literals_of, added_all}
use Rattle.layout.specs.Allocation as layout
use Rattle.layout.specs.Limits.{main_limit}
use Rattle.grammar.specs.Parse.{Got, and_then, within, expect}
use Rattle.grammar.specs.Parse.Got.{got, failed}
use Rattle.grammar.specs.Statements.{parse_outermost}
use Rattle.grammar.specs.Declarations.{parse_checked, parse_declarations}
use Rattle.grammar.specs.Program.{parse_main}
use Rattle.instruction.specs.Slot.{HLT}
use Rattle.instruction.specs.Table.{table_of}
use Rattle.symbols.specs.Table as tables
use Rattle.symbols.proofs.Table.{held_all}
use Rattle.emitter.specs.Emitted as emitted
use Rattle.layout.specs.Emission as emission
use Rattle.emitter.specs.Lays.{Lays}
use Rattle.layout.specs.Emission.{stored, item_values, local_values, emit_declaration, emit_declarations, emit_main, emit_program}
use Rattle.emitter.specs.declared.Output.{Output}
use Rattle.emitter.proofs.Lays.{word, sequence}
use Rattle.emitter.proofs.EmittedWords.{generic_word}
use Rattle.declarations.specs.declared.SectorEnds.{SectorEnds}
use Rattle.declarations.specs.declared.Allocation.{Allocation}
use Rattle.declarations.specs.Allocations.{ends_of, end_of, pool_of, allocation_of, SoundAllocation, Declared, sector_number}
use Rattle.declarations.specs.Clauses.{after_token, end_then_expect}
use Rattle.declarations.specs.Procedures.{bases_at, main_in, MainEmitted, program_in, ProgramEmitted}
use Rattle.parser.proofs.Answers.{then_got, then_failed}
use Rattle.parser.proofs.ReadLaws.{then_then}
use Rattle.declarations.proofs.LimitLaws.{sector_number_lem, Exact, same_number, limited_exact}
use Rattle.declarations.proofs.SectorLaws.{ends_length}
use Rattle.declarations.proofs.ProcedureLaws.{ended_then}
use Rattle.declarations.proofs.FormLaws.{main_def}

-- ---- The main body

module _ (source : List ℕ) (st : layout.Allocation) (at : ℕ) where
  pub main_failed : {k a : ℕ} → parse_outermost source st.scope.names at ≡ failed k a → main_in source st at ≡ failed k a
  unfolding main_in
  main_failed e = then_failed _ e

  pub main_ended : {main : Stmts} {n : ℕ} → parse_outermost source st.scope.names at ≡ got main n → (limit : ℕ) → limit ≡ main_limit st main
      → main_in source st at ≡ and_then (end_then_expect source limit Kinds.end_of_source n) (λ _ k. got main k)
  unfolding main_in
  main_ended {main} {n} e limit l =
      then_got _ e ∙ ap (λ z. and_then (expect Kinds.END source n) (λ last _. within z last (and_then (expect Kinds.end_of_source source last.next) (λ _ next. got main next)))) (sym l)
      ∙ ended_then source Kinds.end_of_source limit main (expect Kinds.END source n)

pub main_lays : {f : emission.Bases} {a c : emission.Emitted} (b : emission.Emitted) (main : Stmts) → Lays f a b (stmts_words main) → c ≡ emission.with_word b (get_or table_of HLT 0) → Lays f a c (λ at. stmts_words main at ⧺ Sym.generic HLT ∷ [])
main_lays {f} b main p e = sequence p (rw (← (e ∙ sym (generic_word f b HLT))) at (word {f = f} {a = b} (Sym.generic HLT)))

module _ {s : Allocation} (t : List ℕ) {image image₂ : List ℕ} {pool : ℕ} (output : Output) (main : Stmts) (h : SoundAllocation s)
    (p : Lays (bases_at pool s) (emitted.emitted_by s.output image) (emitted.emitted_by output image₂) (λ at. stmts_words main at ⧺ Sym.generic HLT ∷ [])) where
  ends : length (ends_of s.sectors) ≡ s.sectors.count
  ends = ends_length h.closed

  short : length (pool_of s) ≤ 512
  short = let u = h.used in let f = h.fits in omega (arith, u, f)

  place : s.output.next + length (main_words main s.output.next) ≡ s.output.next + 0 + length (main_words main s.output.next)
  place = omega arith

  pub main_limit_lem : sector_number (output.next + length (emitted.literals_in output.pool)) s.sectors.count s.array ≡ main_limit (allocation_of s t) main
  unfolding main_limit layout.finish main_words
  main_limit_lem =
      same_number p s.sectors.count s.array h.used h.closed.last short
      ∙ ap (λ x. sector_number (x + length (added_all (pool_of s) (literals_of (main_words main s.output.next)))) s.sectors.count s.array) place
      ∙ sym (sector_number_lem (layout.finish (allocation_of s t) main) ends)

  exact : sector_number (output.next + length (emitted.literals_in output.pool)) s.sectors.count s.array ≡ 0 → Exact (bases_at pool s) (emitted.emitted_by s.output image) (emitted.emitted_by output image₂) (main_words main s.output.next) s.sectors.count
  unfolding main_words
  exact z = limited_exact p s.sectors.count s.array h.used h.closed.last short z

  pub main_finished : (plan : SectorEnds) {image' : List ℕ} → pool ≡ end_of plan s.sectors.count → sector_number (output.next + length (emitted.literals_in output.pool)) s.sectors.count s.array ≡ 0
      → image' ≡ stored image₂ output.next (emitted.literals_in output.pool) → MainEmitted plan s t image output image' main
  unfolding layout.finish emit_main
  main_finished plan {image'} pool_is z i =
      let x = exact z in
      let c = x.next ∙ place in
      let at = pool_is ∙ ap (end_of plan) (sym ends) in
      record {
        next = c;
        pool = x.pool;
        laid = i ∙ stored_is (ap (λ e. e.image) x.all ∙ ap (λ a. (emission.emit_all (bases_at a s) (emitted.emitted_by s.output image) (main_words main s.output.next)).image) at) c x.pool;
      }
    where
      stored_is : {a b : List ℕ} {c d : ℕ} {v w : List ℕ} → a ≡ b → c ≡ d → v ≡ w → stored a c v ≡ stored b d w
      stored_is p q r = rw (p, q, r)

-- ---- A program

pub none_alive : (table : List ℕ) → tables.live_names 0 table ≡ []
unfolding tables.entries_of
none_alive table = held_all 0 table (omega arith)

module _ (source : List ℕ) where
  abbrev opened : Got Bool
  opened = after_token source Kinds.BEGIN (parse_checked source) 0

  program_opened : program_in source ≡ and_then opened (λ checked n. and_then (parse_declarations source checked n) (λ ds m. parse_main source checked ds m))
  unfolding program_in
  program_opened = then_then (expect Kinds.BEGIN source 0) (λ _ n. parse_checked source n) _

  pub program_begin : {k a : ℕ} → opened ≡ failed k a → program_in source ≡ failed k a
  program_begin e = program_opened ∙ then_failed _ e

  module _ {checked : Bool} {n : ℕ} (e : opened ≡ got checked n) where
    pub program_declarations : {k a : ℕ} → parse_declarations source checked n ≡ failed k a → program_in source ≡ failed k a
    program_declarations h = program_opened ∙ then_got _ e ∙ then_failed _ h

    pub program_main : {ds : List Declaration} {m : ℕ} {now : layout.Allocation} → parse_declarations source checked n ≡ got ds m → now ≡ layout.allocated ds
        → program_in source ≡ and_then (main_in source now m) (λ main k. got (record { checked = checked; declarations = ds; main = main }) k)
    program_main {ds} {m} h i =
        program_opened ∙ then_got _ e ∙ then_got _ h ∙ main_def source checked ds m
        ∙ ap (λ st. and_then (main_in source st m) (λ main k. got (record { checked = checked; declarations = ds; main = main }) k)) (sym i)

module _ {plan : SectorEnds} {s₀ s : Allocation} {t image t' image₁ image₂ : List ℕ} {output : Output} {checked : Bool} {ds : List Declaration} {main : Stmts} where
  pub program_compiled : allocation_of s₀ t ≡ layout.start → Declared (end_of plan) s₀ t image s t' image₁ ds → MainEmitted plan s t' image₁ output image₂ main → ProgramEmitted plan image checked s output t' image₂ (record { checked = checked; declarations = ds; main = main })
  unfolding layout.allocated emit_program
  program_compiled e p q =
      let allocation = p.allocation ∙ ap (λ x. foldl layout.allocate x ds) e in
      record {
        checked = refl;
        allocation = allocation;
        sound = p.sound;
        next = q.next ∙ ap (λ x. (layout.finish x main).next) allocation;
        pool = q.pool ∙ ap (λ x. (layout.finish x main).pool) allocation;
        laid = q.laid ∙ ap₂ (λ x y. emit_main (end_of plan (length x.ends)) x main y) allocation (p.laid ∙ ap (λ x. emit_declarations (end_of plan) x ds image) e);
      }
