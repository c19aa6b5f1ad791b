-- Demand 1 over calls: of `compile` the lengths, then the text, decide how one ends; of `run` the laws of runs.
use Prim.Native.Nat.{ℕ, ◌≤◌}
use mathlib.Core.Path.{◌≡◌, refl, sym, ap, ◌∙◌}
use mathlib.Core.Bool.{Bool, true, false}
use mathlib.Core.List.{List}
use native.Mathlib.Omega.{arith}
use borrow.Author.Tests.{eqb-true, eqb-false, leb-true, leb-false}
use lib.Dec.{eqb, leb}
use lib.ListN.{length}
use Rattle.prelude.specs.Choice.{whether}
use Rattle.machine.specs.declared.failure.Failure.{Failure}
use Rattle.machine.specs.declared.Outcome.{Outcome}
use Rattle.machine.specs.Failure.{refused}
use Rattle.machine.specs.Clock.{spend_many}
use Rattle.machine.specs.Run.{Ran, idle, report_of}
use Rattle.runs.specs.Outcomes.{Refusal}
use Rattle.runs.specs.Calls.{RunCall, asked, RunCalled}
use Rattle.runs.proofs.RunLaws.{run_laws}
use Rattle.compilation.specs.Compile.{Result, compile_def}
use Rattle.memory_map.proofs.MapLaws.{map_laws}
use Rattle.parsing_laws.proofs.Parsed.Programs.{numbered, short_enough}
use Rattle.compiler.specs.Compile.{scratch_words, result_on, answer_of, image_after, Answer}
use Rattle.compiler.specs.DemandOne.{CompileEnds, RunEnds, Demand1Called}
use Rattle.layout.specs.Addresses.{memory_words}

module _ (source image scratch : List ℕ) (r : Answer) (image' : List ℕ) where
  by_text : length image ≡ memory_words → scratch_words ≤ length scratch → (x : Result) → compile_def source ≡ x → r ≡ answer_of x → image' ≡ image_after x image → CompileEnds source image scratch r image'
  unfolding answer_of image_after
  by_text l s (Result.accepted c) e a i = CompileEnds.accepted l s (short_enough source c e) c.entry c.words c.globals a (ap length i ∙ map_laws.image_size source c e)
  by_text l s (Result.failed n at) e a i = CompileEnds.failed l s n at a (numbered source n at e) i

  by_lengths : (b d : Bool) → eqb (length image) memory_words ≡ b → leb scratch_words (length scratch) ≡ d
      → let x = whether b (λ _. whether d (λ _. compile_def source) (λ _. Result.failed 2 0)) (λ _. Result.failed 1 0) in
      r ≡ answer_of x → image' ≡ image_after x image → CompileEnds source image scratch r image'
  unfolding answer_of image_after
  by_lengths true true l s a i = by_text (eqb-true (length image) memory_words l) (leb-true scratch_words (length scratch) s) (compile_def source) refl a i
  by_lengths true false l s a i = CompileEnds.short_scratch (eqb-true (length image) memory_words l) (leb-false scratch_words (length scratch) s) a i
  by_lengths false d l s a i = CompileEnds.wrong_image (eqb-false (length image) memory_words l) a i

-- ---- Runs

module _ (c : RunCall) (call : RunCalled c) where
  refusal : (n : Failure) → refused (asked c).outcome ≡ true → (asked c).outcome ≡ Outcome.Failed n → RunEnds c
  unfolding spend_many
  refusal n e o =
      let x = run_laws.refusals c.turn.request c.start n in
      let f = x.cause e o in
      let a = x.answer f in
      RunEnds.refused n f (call.reported ∙ ap (report_of c.turn.request c.clock) a) (call.left ∙ ap (λ (d : Ran). d.state.image) a)

  not_refused : refused (asked c).outcome ≡ false → (n : Failure) → Refusal c.turn.request c.start n → ⊥
  not_refused e n f = by_cause n f ((run_laws.refusals c.turn.request c.start n).answer f)
    where
      absurd_at : (n : Failure) → refused (Outcome.Failed n) ≡ true → asked c ≡ idle (Outcome.Failed n) c.start → ⊥
      absurd_at n t a =
          let f : ◌≡◌ {A = Bool} false true = sym e ∙ ap (λ (d : Ran). refused d.outcome) a ∙ t in
          let z : ◌≡◌ {A = ℕ} 0 1 = cc in
          omega arith

      by_cause : (n : Failure) → Refusal c.turn.request c.start n → asked c ≡ idle (Outcome.Failed n) c.start → ⊥
      by_cause n (Refusal.of_cooperative h) a = absurd_at Failure.WrongCooperative refl a
      by_cause n (Refusal.of_image c h) a = absurd_at Failure.WrongImage refl a
      by_cause n (Refusal.of_p c h l) a = absurd_at Failure.WrongP refl a
      by_cause n (Refusal.of_budget c h l) a = absurd_at Failure.OverBudget refl a

  by_refusal : (b : Bool) → refused (asked c).outcome ≡ b → (o : Outcome) → (asked c).outcome ≡ o → RunEnds c
  by_refusal false e o u =
      RunEnds.ended (not_refused e) (rw (call.reported, call.left) (run_laws.ended c.turn.request c.start e)) (rw call.reported refl)
  by_refusal true e (Outcome.Failed n) u = refusal n e u
  by_refusal true e Outcome.Halted u =
      let f : ◌≡◌ {A = Bool} false true = sym (ap refused u) ∙ e in
      let z : ◌≡◌ {A = ℕ} 0 1 = cc in
      absurd (omega arith)
  by_refusal true e Outcome.Spent u =
      let f : ◌≡◌ {A = Bool} false true = sym (ap refused u) ∙ e in
      let z : ◌≡◌ {A = ℕ} 0 1 = cc in
      absurd (omega arith)

pub demand1_called : Demand1Called
unfolding result_on
demand1_called = record {
  compiles = λ source image scratch image' scratch' r call.
      (by_lengths source image scratch r image' (eqb (length image) memory_words) (leb scratch_words (length scratch)) refl refl call.answered call.laid, call.cleared);
  runs = λ c call. by_refusal c call (refused (asked c).outcome) refl (asked c).outcome refl;
}

pub ruleset for_demand_one_called = (demand1_called)
