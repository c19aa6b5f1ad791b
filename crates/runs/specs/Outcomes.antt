-- How runs end: what each outcome says, and why a run is refused.
use Rattle.std.specs.Prelude.{ℕ, ◌≤◌, ◌<◌, ◌≡◌, ◌⊎◌, true, false, length}
use Rattle.machine.specs.declared.Request.{Request}
use Rattle.machine.specs.declared.Outcome.{Outcome}
use Rattle.machine.specs.declared.Outcome.TheVariants.{Halted, Spent, Failed}
use Rattle.machine.specs.declared.failure.Failure.{Failure}
use Rattle.machine.specs.declared.failure.Failure.TheVariants.{WrongImage, UnknownWord, LongChain, OverBudget, WrongP, WrongCooperative}
use Rattle.machine.specs.Failure.{refused}
use Rattle.machine.specs.State.{State, Good}
use Rattle.machine.specs.Step.{failed, step_def}
use Rattle.machine.specs.Clock.{cooperatives}
use Rattle.machine.specs.Run.{Ran, idle, run_from, run_def}
use Rattle.runs.specs.Steps.{Steps}

-- what the outcome of a run on a budget says (R3, demand 1b): spent, that no step is left and none was a halt (R4); failed, that the step which failed
-- is the one from the state that is left, with 20 or 21 (R6, demand 1d)
abbrev pub Says : ℕ → Ran → Outcome → Type 0
Says budget r Halted = r.state.machine.halted ≡ true
Says budget r Spent = (r.work.steps ≡ budget) × (r.state.machine.halted ≡ false)
Says budget r (Failed f) =
    (r.work.steps < budget) × (r.state.machine.halted ≡ false) × (step_def r.state ≡ failed f) × ((f ≡ UnknownWord) ⊎ (f ≡ LongChain))

-- r is the end of a run from s on a budget: just so many steps were made as it reports, no more than the budget (R2, demand 1b)
pub record Ended (budget : ℕ) (s : State) (r : Ran) : Type 0 where
  pub made : Steps r.work.steps s r.state
  pub within : r.work.steps ≤ budget
  pub says : Says budget r r.outcome

-- why a run is refused, and with which failure, each where none before it applies (J12, F27, F1, F23, F22)
pub data Refusal : Request → State → Failure → Type 0 where
  of_cooperative : {q : Request} {s : State} → cooperatives ≤ q.cooperative → Refusal q s WrongCooperative
  of_image : {q : Request} {s : State} → q.cooperative < cooperatives → (length s.image ≡ 16384 → ⊥) → Refusal q s WrongImage
  of_p : {q : Request} {s : State} → q.cooperative < cooperatives → length s.image ≡ 16384 → 16383 < s.machine.p → Refusal q s WrongP
  of_budget : {q : Request} {s : State} → q.cooperative < cooperatives → Good s → 1000000 < q.budget → Refusal q s OverBudget

-- a run is refused with the failure f exactly on f's cause; then it makes no step and changes nothing (R7, demand 1d, 2b)
pub record RefusedExactly (q : Request) (s : State) (f : Failure) : Type 0 where
  pub answer : Refusal q s f → run_def q s ≡ idle (Failed f) s
  pub cause : refused (run_def q s).outcome ≡ true → (run_def q s).outcome ≡ Failed f → Refusal q s f

-- any other run, for a cooperative that has a count, is the iteration of the step up to its budget, from an image of 16,384 words with P in it
pub record Allowed (q : Request) (s : State) : Type 0 where
  pub cooperative : q.cooperative < cooperatives
  pub good : Good s
  pub budget : q.budget ≤ 1000000
  pub run : run_def q s ≡ run_from q.budget s
