-- Turns and runs: a run that has halted or failed is the same on any larger budget, so turns are the steps of all of them in one.
use Prim.Native.Nat.{ℕ, zero, suc, ◌+◌, ◌-◌, ◌*◌, ◌<◌}
use mathlib.Core.Path.{◌≡◌, refl, ap, sym, subst, ◌∙◌}
use mathlib.Core.Bool.{true, false}
use native.Mathlib.Nat.{not-suc-le-zero}
use native.Mathlib.Omega.{arith}
use lib.ListN.{replicate}
use Rattle.instruction.proofs.Choice.{no}
use Rattle.machine.specs.declared.failure.Failure.{Failure}
use Rattle.machine.specs.declared.Outcome.{Outcome}
use Rattle.machine.specs.declared.Outcome.TheVariants.{Halted, Spent, Failed}
use Rattle.machine.specs.Failure.{refused}
use Rattle.machine.specs.State.{State, Good}
use Rattle.machine.specs.Run.{no_work, add_work, Ran, ran, idle, more, run_from, run_def}
use Rattle.machine.proofs.RunSteps.{add_work_none, run_failed}
use Rattle.runs.specs.Outcomes.{Says}
use Rattle.runs.specs.Runs.{runs_def}
use Rattle.runs.proofs.Iteration.{run_steps, run_halts, run_ends, run_plus}
use Rattle.runs.proofs.Refusals.{Decision, refuses, permits, decided, not_refused, run_good}
use Rattle.runs.proofs.Keeping.{run_keeps}
use Rattle.runs.proofs.Lists as runs
use Rattle.turns.specs.Turns.{one_turn, and_then, turns_def}
use Rattle.turns.specs.TurnLaws.{listed, AsList, TurnLaws}

-- a run that has halted, or failed, on a larger budget
module _ (b m : ℕ) (s : State) where
  settled_halted : (run_from b s).outcome ≡ Halted → run_from (b + m) s ≡ run_from b s
  settled_halted o =
      let e = run_ends b s in
      let h : Says b (run_from b s) Halted = subst (Says b (run_from b s)) o e.says in
      let l = e.within in
      run_halts (b + m) e.made h (omega arith) ∙ sym (run_halts b e.made h l)

  settled_failed : (f : Failure) → (run_from b s).outcome ≡ Failed f → run_from (b + m) s ≡ run_from b s
  settled_failed f o =
      let e = run_ends b s in
      let h : Says b (run_from b s) (Failed f) = subst (Says b (run_from b s)) o e.says in
      let u = (run_from b s).state in
      let j = (run_from b s).work.steps in
      let l = h.0 in
      let go : (d : ℕ) → 0 < d → run_from (j + d) s ≡ more (run_from j s).work (idle (Failed f) u) = λ d p.
      run_steps d e.made ∙ ap (more (run_from j s).work) (run_failed d u h.1 p h.2) in
      let longer : b + m ≡ j + (b + m - j) = omega arith in
      let whole : b ≡ j + (b - j) = omega arith in
      ap (λ (k : ℕ). run_from k s) longer ∙ go (b + m - j) (omega arith) ∙ sym (go (b - j) (omega arith)) ∙ ap (λ (k : ℕ). run_from k s) (sym whole)

-- ---- Turns from a state that a run accepts

-- a spent turn with no other is that turn
then_no_turn : (r : Ran) → r.outcome ≡ Spent → more r.work (idle Spent r.state) ≡ r
then_no_turn r o = λ i. ran (add_work_none r.work i) (sym o i) r.state

-- a turn, as the iteration of the step
turn_is : (s : State) → Good s → run_def one_turn s ≡ run_from 1000000 s
turn_is s good = run_good one_turn s (omega arith) good (omega arith)

accepted : (s : State) → Good s → refused (run_def one_turn s).outcome ≡ false
accepted s good = ap (λ (r : Ran). refused r.outcome) (turn_is s good) ∙ not_refused 1000000 s

-- n turns from every such state are their steps in one
abbrev AsOne : ℕ → Type 0
AsOne n = (s : State) → 0 < n → Good s → turns_def n s ≡ run_from (n * 1000000) s

spent_by : (n : ℕ) (s : State) → Good s → AsOne n → (run_def one_turn s).outcome ≡ Spent
    → more (run_def one_turn s).work (turns_def n (run_def one_turn s).state) ≡ run_from (1000000 + n * 1000000) s
unfolding turns_def
spent_by zero s good again o = then_no_turn (run_def one_turn s) o ∙ turn_is s good
spent_by (suc n) s good again o =
    let r = run_def one_turn s in
    let e = turn_is s good in
    let k = suc n * 1000000 in
    ap (more r.work) (again r.state (omega arith) (run_keeps one_turn s (accepted s good)))
    ∙ ap (λ (x : Ran). more x.work (run_from k x.state)) e
    ∙ sym (run_plus 1000000 k s (sym (ap (λ (x : Ran). x.outcome) e) ∙ o))

as_one_by : (n : ℕ) (s : State) (o : Outcome) → Good s → AsOne n → (run_def one_turn s).outcome ≡ o
    → and_then (run_def one_turn s) (λ (t : State). turns_def n t) o ≡ run_from (1000000 + n * 1000000) s
as_one_by n s Halted good again o =
    let e = turn_is s good in e ∙ sym (settled_halted 1000000 (n * 1000000) s (sym (ap (λ (x : Ran). x.outcome) e) ∙ o))
as_one_by n s Spent good again o = spent_by n s good again o
as_one_by n s (Failed f) good again o =
    let e = turn_is s good in e ∙ sym (settled_failed 1000000 (n * 1000000) s f (sym (ap (λ (x : Ran). x.outcome) e) ∙ o))

as_one : (n : ℕ) → AsOne n
unfolding turns_def
as_one zero s h good = absurd (not-suc-le-zero h)
as_one (suc n) s h good =
    let all : 1000000 + n * 1000000 ≡ suc n * 1000000 = omega arith in
    as_one_by n s (run_def one_turn s).outcome good (as_one n) refl ∙ ap (λ (k : ℕ). run_from k s) all

granted_all : (n : ℕ) (s : State) → Good s → (runs_def (replicate n listed) s).granted ≡ n * 1000000
unfolding runs_def
granted_all zero s good = refl
granted_all (suc n) s good =
    let ok = accepted s good in
    let i = granted_all n (run_def one_turn s).state (run_keeps one_turn s ok) in
    let a = no {A = ℕ} 0 1000000 ok in
    omega arith

-- ---- Turns from a state that a run refuses

then_refused : (r : Ran) (next : State → Ran) (o : Outcome) → refused o ≡ true → and_then r next o ≡ r
then_refused r next Halted h = refl
then_refused r next Spent h = cc
then_refused r next (Failed f) h = refl

refusal : (n : ℕ) (s : State) → 0 < n → refused (run_def one_turn s).outcome ≡ true → turns_def n s ≡ run_def one_turn s
unfolding turns_def
refusal zero s h o = absurd (not-suc-le-zero h)
refusal (suc n) s h o = then_refused (run_def one_turn s) (λ (t : State). turns_def n t) (run_def one_turn s).outcome o

-- each run of the list is refused again, as nothing has changed
stays : (n : ℕ) (s : State) (f : Failure) → run_def one_turn s ≡ idle (Failed f) s
    → ((runs_def (replicate n listed) s).state ≡ s) × ((runs_def (replicate n listed) s).work ≡ no_work)
unfolding runs_def
stays zero s f e = (refl, refl)
stays (suc n) s f e =
    let i = stays n s f e in
    let vs = replicate n listed in (
      ap (λ (r : Ran). (runs_def vs r.state).state) e ∙ i.0,
      ap (λ (r : Ran). add_work r.work (runs_def vs r.state).work) e ∙ ap (add_work no_work) i.1,
    )

-- ---- Both

list_by : (n : ℕ) (s : State) → Decision one_turn s → AsList (suc n) s
list_by n s (refuses f c r e) =
    let t = refusal (suc n) s (omega arith) (ap (λ (x : Ran). refused x.outcome) e ∙ r) ∙ e in
    let u = stays (suc n) s f e in
    record { state = ap (λ (x : Ran). x.state) t ∙ sym u.0; work = ap (λ (x : Ran). x.work) t ∙ sym u.1 }
list_by n s (permits a) =
    let good = a.good in
    let t = as_one (suc n) s (omega arith) good in
    let l = runs.list (replicate (suc n) listed) s in
    let g = sym (granted_all (suc n) s good) in
    record {
      state = ap (λ (x : Ran). x.state) t ∙ ap (λ (k : ℕ). (run_from k s).state) g ∙ sym l.state;
      work = ap (λ (x : Ran). x.work) t ∙ ap (λ (k : ℕ). (run_from k s).work) g ∙ sym l.work;
    }

list : (n : ℕ) (s : State) → AsList n s
unfolding turns_def runs_def
list zero s = record { state = refl; work = refl }
list (suc n) s = list_by n s (decided one_turn s)

pub turn_laws : TurnLaws
turn_laws = record { list = list; as_one = as_one; refusal = refusal }

pub ruleset for_turns_are_runs = (turn_laws)
