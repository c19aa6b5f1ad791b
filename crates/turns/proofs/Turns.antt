-- Turns as the loop that takes them sees them: where it begins, after a turn that is spent, after one that is the last, and where none is left.
use Prim.Native.Nat.{ℕ, suc, ◌+◌, ◌-◌, ◌≤◌, ◌<◌}
use mathlib.Core.Path.{◌≡◌, refl, ap, sym, ◌∙◌}
use mathlib.Core.List.{List}
use native.Mathlib.Omega.{arith}
use Rattle.machine.specs.declared.Clock.{Clock}
use Rattle.machine.specs.declared.Report.{Report}
use Rattle.machine.specs.declared.Outcome.{Outcome}
use Rattle.machine.specs.declared.Outcome.TheVariants.{Halted, Spent, Failed}
use Rattle.machine.specs.State.{State, state}
use Rattle.machine.specs.Run.{Work, work, add_work, Ran, ran, more, run_def, Reports}
use Rattle.machine.proofs.RunSteps.{add_work_none, more_more}
use Rattle.turns.specs.Turns.{one_turn, and_then, turns_def}

-- a turn, by what the call reports of it
pub turn_reported : (s : State) (clock : Clock) (answer : Report) (after : List ℕ) → Reports one_turn clock (run_def one_turn s) answer after
    → run_def one_turn s ≡ ran (work answer.steps) answer.outcome (state answer.machine after)
turn_reported s clock answer after h = λ i.
    let a = sym h.0 i in ran (work a.steps) a.outcome (state a.machine (sym h.1 i))

then_none : (r : Ran) (next : State → Ran) (o : Outcome) → (o ≡ Spent → ⊥) → and_then r next o ≡ r
then_none r next Halted h = refl
then_none r next Spent h = absurd (h refl)
then_none r next (Failed f) h = refl

module _ (n i : ℕ) (w : Work) (s₀ s : State) (before : turns_def n s₀ ≡ more w (turns_def (n - i) s)) where
  one_more : i < n → turns_def (n - i) s ≡ and_then (run_def one_turn s) (λ (t : State). turns_def (n - (i + 1)) t) (run_def one_turn s).outcome
  unfolding turns_def
  one_more h = let q : n - i ≡ suc (n - (i + 1)) = omega arith in rw q

  pub turns_onward : {r : Ran} → i < n → run_def one_turn s ≡ r → r.outcome ≡ Spent
      → turns_def n s₀ ≡ more (add_work w r.work) (turns_def (n - (i + 1)) r.state)
  turns_onward {r} h e o =
      let next : State → Ran = λ t. turns_def (n - (i + 1)) t in
      before
      ∙ ap (more w) (one_more h ∙ ap (λ (x : Ran). and_then x next x.outcome) e ∙ ap (and_then r next) o)
      ∙ more_more w r.work (next r.state)

  pub turns_last : {r : Ran} → i < n → run_def one_turn s ≡ r → (r.outcome ≡ Spent → ⊥) → turns_def n s₀ ≡ more w r
  turns_last {r} h e o =
      let next : State → Ran = λ t. turns_def (n - (i + 1)) t in
      before ∙ ap (more w) (one_more h ∙ ap (λ (x : Ran). and_then x next x.outcome) e ∙ then_none r next r.outcome o)

  pub turns_done : n ≤ i → turns_def n s₀ ≡ ran w Spent s
  unfolding turns_def
  turns_done h = let q : n - i ≡ 0 = omega arith in before ∙ ap (λ (k : ℕ). more w (turns_def k s)) q ∙ ap (λ (u : Work). ran u Spent s) (add_work_none w)
