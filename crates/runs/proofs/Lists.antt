-- A list of runs as one iteration of the step, and what follows where the steps are known.
use Prim.Native.Nat.{ℕ, zero, suc, ◌+◌, ◌-◌, ◌≤◌, ◌<◌}
use mathlib.Core.Path.{◌≡◌, refl, ap, sym, subst, ◌∙◌}
use mathlib.Core.Bool.{true, false, cond}
use mathlib.Core.List.{List, [], ◌∷◌}
use native.Mathlib.Nat.{add-zero, add-suc}
use native.Mathlib.Numerals.{add-one}
use native.Mathlib.Omega.{arith}
use Rattle.instruction.proofs.Choice.{yes, no}
use Rattle.machine.specs.declared.Clock.{Clock}
use Rattle.machine.specs.declared.Request.{Request}
use Rattle.machine.specs.declared.Outcome.TheVariants.{Spent, Failed}
use Rattle.machine.specs.Failure.{refused}
use Rattle.machine.specs.State.{State}
use Rattle.machine.specs.Step.{made, step_def}
use Rattle.machine.specs.Clock.{spend, spend_many}
use Rattle.machine.specs.Run.{Work, no_work, add_work, Ran, idle, more, run_from, run_def}
use Rattle.machine.proofs.RunSteps.{add_work_assoc}
use Rattle.runs.specs.Steps.{Steps, none, one}
use Rattle.runs.specs.Runs.{Turn, Total, runs_def}
use Rattle.runs.specs.RunLaws.{with_budget, Resumed, AsOne}
use Rattle.runs.proofs.Iteration.{steps_join, steps_split, steps_running, run_exact, run_halts, run_plus, run_add}
use Rattle.runs.proofs.Refusals.{Decision, refuses, permits, decided, not_refused, allowed, run_good}
use Rattle.runs.proofs.Keeping.{run_keeps}

-- one run of a list is the iteration of the step for its budget, or for 0 if it is refused
allowance : Request → State → ℕ
allowance q s = cond (refused (run_def q s).outcome) 0 q.budget

record Iterates (q : Request) (s : State) : Type 0 where
  state : (run_def q s).state ≡ (run_from (allowance q s) s).state
  work : (run_def q s).work ≡ (run_from (allowance q s) s).work

iterates_as : (q : Request) (s : State) (n : ℕ) (r : Ran) → run_def q s ≡ r → allowance q s ≡ n → (r.state ≡ (run_from n s).state)
    → (r.work ≡ (run_from n s).work) → Iterates q s
iterates_as q s n r e a x y = record {
  state = ap (λ (z : Ran). z.state) e ∙ x ∙ ap (λ (j : ℕ). (run_from j s).state) (sym a);
  work = ap (λ (z : Ran). z.work) e ∙ y ∙ ap (λ (j : ℕ). (run_from j s).work) (sym a);
}

iterates_by : (q : Request) (s : State) → Decision q s → Iterates q s
unfolding allowance run_from
iterates_by q s (refuses n c r e) =
    iterates_as q s 0 (idle (Failed n) s) e (yes 0 q.budget (ap (λ (z : Ran). refused z.outcome) e ∙ r)) refl refl
iterates_by q s (permits a) =
    iterates_as q s q.budget (run_from q.budget s) a.run
    (no 0 q.budget (ap (λ (z : Ran). refused z.outcome) a.run ∙ not_refused q.budget s)) refl refl

pub list : (vs : List Turn) (s : State) → AsOne vs s
unfolding runs_def allowance run_from
list [] s = record { state = refl; work = refl }
list (v ∷ vs) s =
    let q = v.request in
    let i = iterates_by q s (decided q s) in
    let r = run_def q s in
    let n = allowance q s in
    let m = (runs_def vs r.state).granted in
    let l = list vs r.state in
    let a = run_add n m s in
    record {
      state = l.state ∙ ap (λ (u : State). (run_from m u).state) i.state ∙ sym a.state;
      work =
          ap (add_work r.work) (l.work ∙ ap (λ (u : State). (run_from m u).work) i.state)
          ∙ ap (λ (w : Work). add_work w (run_from m (run_from n s).state).work) i.work
          ∙ sym a.work;
    }

-- the clock after more steps, whatever the budget
pub spend_add : (q : Request) (n m : ℕ) (k : Clock) → spend_many q (n + m) k ≡ spend_many q m (spend_many q n k)
unfolding spend_many
spend_add q n zero k = ap (λ (j : ℕ). spend_many q j k) (add-zero n)
spend_add q n (suc m) k = ap (λ (j : ℕ). spend_many q j k) (add-suc n m) ∙ ap (spend q) (spend_add q n m k)

spend_alike : (v : Turn) (a b n : ℕ) (k : Clock) → spend_many (with_budget v a).request n k ≡ spend_many (with_budget v b).request n k
unfolding spend_many
spend_alike v a b zero k = refl
spend_alike v a b (suc n) k = ap (spend (with_budget v a).request) (spend_alike v a b n k)

total : ℕ → Work → State → Total
total g w s = record { granted = g; work = w; state = s }

resumed_as : (v : Turn) (n m : ℕ) (s : State)
    → let first = run_def (with_budget v n).request s in
    let second = run_def (with_budget v m).request first.state in
    let whole = run_def (with_budget v (n + m)).request s in
    refused first.outcome ≡ false → refused second.outcome ≡ false → whole ≡ more first.work second → Resumed v n m s
unfolding runs_def total
resumed_as v n m s g h e =
    let first = run_def (with_budget v n).request s in
    let second = run_def (with_budget v m).request first.state in
    let whole = run_def (with_budget v (n + m)).request s in
    let w : add_work first.work second.work ≡ whole.work = ap (λ (r : Ran). r.work) (sym e) in
    let o : refused whole.outcome ≡ false = ap (λ (r : Ran). refused r.outcome) e ∙ h in
    let budgets : cond (refused first.outcome) 0 n + (cond (refused second.outcome) 0 m + 0) ≡ cond (refused whole.outcome) 0 (n + m) + 0 =
    rw (g, h, o) (omega arith) in
    let works : add_work first.work (add_work second.work no_work) ≡ add_work whole.work no_work =
    sym (add_work_assoc first.work second.work no_work) ∙ ap (λ (x : Work). add_work x no_work) w in
    record {
      total = λ i. total (budgets i) (works i) (ap (λ (r : Ran). r.state) (sym e) i);
      clock = λ k.
          spend_alike v m (n + m) second.work.steps _
          ∙ ap (spend_many (with_budget v (n + m)).request second.work.steps) (spend_alike v n (n + m) first.work.steps k)
          ∙ sym (spend_add (with_budget v (n + m)).request first.work.steps second.work.steps k)
          ∙ ap (λ (x : Work). spend_many (with_budget v (n + m)).request x.steps k) w;
      outcome = ap (λ (r : Ran). r.outcome) (sym e);
    }

pub resumed : (v : Turn) (n m : ℕ) (s : State) → n + m ≤ 1000000 → (run_def (with_budget v n).request s).outcome ≡ Spent → Resumed v n m s
resumed v n m s h o =
    let first = (with_budget v n).request in
    let second = (with_budget v m).request in
    let ok : refused (run_def first s).outcome ≡ false = ap refused o in
    let a = allowed first s ok in
    let u = (run_def first s).state in
    let e = a.run in
    let again = run_good second u a.cooperative (run_keeps first s ok) (omega arith) in
    let spent : (run_from n s).outcome ≡ Spent = sym (ap (λ (r : Ran). r.outcome) e) ∙ o in
    resumed_as v n m s ok
    (ap (λ (r : Ran). refused r.outcome) again ∙ not_refused m u)
    (run_good (with_budget v (n + m)).request s a.cooperative a.good h
    ∙ run_plus n m s spent
    ∙ ap (λ (r : Ran). more r.work (run_from m r.state)) (sym e)
    ∙ ap (more (run_def first s).work) (sym again))

-- lists, where the steps are known
pub reached : (vs : List Turn) {n : ℕ} {s u : State} → Steps n s u → (runs_def vs s).granted ≡ n
    → ((runs_def vs s).state ≡ u) × ((runs_def vs s).work.steps ≡ n)
reached vs {n} {s} {u} r b =
    let l = list vs s in
    let e = run_exact r in
    (l.state ∙ ap (λ (j : ℕ). (run_from j s).state) b ∙ e.0, ap (λ (w : Work). w.steps) l.work ∙ ap (λ (j : ℕ). (run_from j s).work.steps) b ∙ e.1)

pub halts : (vs : List Turn) {n : ℕ} {s u t : State} → Steps n s u → u.machine.halted ≡ false → step_def u ≡ made t
    → t.machine.halted ≡ true → n < (runs_def vs s).granted → ((runs_def vs s).state ≡ t) × ((runs_def vs s).work.steps ≡ suc n)
halts vs {n} {s} {u} {t} r h e d b =
    let l = list vs s in
    let last = steps_join r (one h e none) in
    let x = run_halts (runs_def vs s).granted last d (omega arith) in
    (l.state ∙ ap (λ (z : Ran). z.state) x, ap (λ (w : Work). w.steps) l.work ∙ ap (λ (z : Ran). z.work.steps) x ∙ (run_exact last).1 ∙ add-one n)

pub all_made : (vs : List Turn) {n : ℕ} {s u : State} → Steps n s u → u.machine.halted ≡ false → (runs_def vs s).granted ≤ n
    → ((runs_def vs s).state.machine.halted ≡ false) × ((runs_def vs s).work.steps ≡ (runs_def vs s).granted)
all_made vs {n} {s} {u} r h b =
    let m = (runs_def vs s).granted in
    let q : n ≡ m + (n - m) = omega arith in
    let x = steps_split m (n - m) (subst (λ (j : ℕ). Steps j s u) q r) in
    let y = reached vs x.1 refl in
    (ap (λ (v : State). v.machine.halted) y.0 ∙ steps_running x.2 h, y.1)
