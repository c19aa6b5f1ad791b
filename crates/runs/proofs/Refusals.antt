-- A run is refused on one of four causes, or is the iteration of the step up to its budget.
use Prim.Native.Nat.{ℕ, ◌≤◌, ◌<◌}
use mathlib.Core.Path.{◌≡◌, refl, ap, subst, ◌∙◌}
use mathlib.Core.Logic.{◌⊎◌, inl, inr}
use mathlib.Core.Bool.{Bool, true, false, cond}
use native.Mathlib.Omega.{arith}
use lib.Dec.{eqb, leb, ltb}
use lib.ListN.{length}
use borrow.Author.Tests.{eqb-true, eqb-false, leb-true, leb-false, ltb-true, ltb-false, eq-eqb, ne_eqb, le-leb, lt-leb, lt-ltb, le-ltb}
use Rattle.machine.specs.declared.Request.{Request}
use Rattle.machine.specs.declared.Outcome.{Outcome}
use Rattle.machine.specs.declared.Outcome.TheVariants.{Halted, Spent, Failed}
use Rattle.machine.specs.declared.failure.Failure.{Failure}
use Rattle.machine.specs.declared.failure.Failure.TheVariants.{WrongImage, UnknownWord, LongChain, OverBudget, WrongP, WrongCooperative}
use Rattle.machine.specs.Failure.{refused}
use Rattle.machine.specs.State.{State, Good}
use Rattle.machine.specs.Clock.{cooperatives}
use Rattle.machine.specs.Run.{Ran, idle, run_from, run_def}
use Rattle.runs.specs.Outcomes.{Says, Refusal, of_cooperative, of_image, of_p, of_budget, RefusedExactly, Allowed}
use Rattle.runs.proofs.Iteration.{run_ends}

pub data Decision (q : Request) (s : State) : Type 0 where
  refuses : (f : Failure) → Refusal q s f → refused (Failed f) ≡ true → run_def q s ≡ idle (Failed f) s → Decision q s
  permits : Allowed q s → Decision q s

-- the run by its four tests
by_tests : Request → State → Bool → Bool → Bool → Bool → Ran
by_tests q s cooperative image p budget =
    cond cooperative (idle (Failed WrongCooperative) s)
    (cond image (cond p (idle (Failed WrongP) s) (cond budget (idle (Failed OverBudget) s) (run_from q.budget s))) (idle (Failed WrongImage) s))

module _ (q : Request) (s : State) where
  -- what the tests say, in the order in which they are made
  record Tests (cooperative image p budget : Bool) : Type 0 where
    for : leb cooperatives q.cooperative ≡ cooperative
    sized : eqb (length s.image) 16384 ≡ image
    at : ltb 16383 s.machine.p ≡ p
    asked : ltb 1000000 q.budget ≡ budget

  tested : {cooperative image p budget : Bool} → Tests cooperative image p budget → run_def q s ≡ by_tests q s cooperative image p budget
  unfolding run_def by_tests
  tested t = λ i. by_tests q s (t.for i) (t.sized i) (t.at i) (t.asked i)

  in_image : ltb 16383 s.machine.p ≡ false → s.machine.p < 16384
  in_image h = omega (arith, ltb-false 16383 s.machine.p h)

  decided_by : (cooperative image p budget : Bool) → Tests cooperative image p budget → Decision q s
  unfolding by_tests
  decided_by true image p budget t = refuses WrongCooperative (of_cooperative (leb-true _ _ t.for)) refl (tested t)
  decided_by false false p budget t = refuses WrongImage (of_image (leb-false _ _ t.for) (eqb-false _ _ t.sized)) refl (tested t)
  decided_by false true true budget t =
      refuses WrongP (of_p (leb-false _ _ t.for) (eqb-true _ _ t.sized) (ltb-true _ _ t.at)) refl (tested t)
  decided_by false true false true t =
      refuses OverBudget (of_budget (leb-false _ _ t.for) (eqb-true _ _ t.sized, in_image t.at) (ltb-true _ _ t.asked)) refl (tested t)
  decided_by false true false false t = permits (record {
    cooperative = leb-false _ _ t.for;
    good = (eqb-true _ _ t.sized, in_image t.at);
    budget = ltb-false _ _ t.asked;
    run = tested t;
  })

  pub decided : Decision q s
  decided = decided_by _ _ _ _ (record { for = refl; sized = refl; at = refl; asked = refl })

  refusal_answer : (f : Failure) → Refusal q s f → run_def q s ≡ idle (Failed f) s
  unfolding by_tests
  refusal_answer n (of_cooperative h) = tested (record { for = le-leb _ _ h; sized = refl; at = refl; asked = refl })
  refusal_answer n (of_image c h) = tested (record { for = lt-leb _ _ c; sized = ne_eqb _ _ h; at = refl; asked = refl })
  refusal_answer n (of_p c h l) = tested (record { for = lt-leb _ _ c; sized = eq-eqb _ _ h; at = lt-ltb _ _ l; asked = refl })
  refusal_answer n (of_budget c g l) =
      tested (record { for = lt-leb _ _ c; sized = eq-eqb _ _ g.0; at = le-ltb 16383 s.machine.p (omega arith); asked = lt-ltb _ _ l })

never : {b : Bool} → b ≡ true → b ≡ false → ⊥
never h l = let z : ◌≡◌ {A = ℕ} 0 1 = cc in omega arith

not_refused_by : (n : ℕ) (r : Ran) (o : Outcome) → Says n r o → refused o ≡ false
not_refused_by n r Halted h = refl
not_refused_by n r Spent h = refl
not_refused_by n r (Failed f) h = numbered h.3
  where
    numbered : (f ≡ UnknownWord) ⊎ (f ≡ LongChain) → refused (Failed f) ≡ false
    numbered (inl e) = ap (λ (j : Failure). refused (Failed j)) e
    numbered (inr e) = ap (λ (j : Failure). refused (Failed j)) e

-- an iteration of the step is never refused
pub not_refused : (n : ℕ) (s : State) → refused (run_from n s).outcome ≡ false
not_refused n s = not_refused_by n (run_from n s) (run_from n s).outcome (run_ends n s).says

refusal_cause : (q : Request) (s : State) (n : Failure) → Decision q s → refused (run_def q s).outcome ≡ true → (run_def q s).outcome ≡ Failed n → Refusal q s n
refusal_cause q s n (refuses m c r e) h o =
    let d : m ≡ n = cc in subst (Refusal q s) d c
refusal_cause q s n (permits a) h o =
    let l : refused (run_def q s).outcome ≡ false = ap (λ (r : Ran). refused r.outcome) a.run ∙ not_refused q.budget s in
    absurd (never h l)

pub refusals : (q : Request) (s : State) (n : Failure) → RefusedExactly q s n
refusals q s n = record { answer = refusal_answer q s n; cause = refusal_cause q s n (decided q s) }

allowed_by : (q : Request) (s : State) → Decision q s → refused (run_def q s).outcome ≡ false → Allowed q s
allowed_by q s (refuses n c r e) h =
    let l : refused (run_def q s).outcome ≡ true = ap (λ (x : Ran). refused x.outcome) e ∙ r in
    absurd (never l h)
allowed_by q s (permits a) h = a

pub allowed : (q : Request) (s : State) → refused (run_def q s).outcome ≡ false → Allowed q s
allowed q s h = allowed_by q s (decided q s) h

-- and the other way round
pub run_good : (q : Request) (s : State) → q.cooperative < cooperatives → Good s → q.budget ≤ 1000000 → run_def q s ≡ run_from q.budget s
unfolding by_tests
run_good q s c g h =
    tested q s (record { for = lt-leb _ _ c; sized = eq-eqb _ _ g.0; at = le-ltb 16383 s.machine.p (omega arith); asked = le-ltb 1000000 q.budget h })
