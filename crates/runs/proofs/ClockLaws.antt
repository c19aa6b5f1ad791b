-- The laws of the clock record: of one call, then of a list of them.
use Prim.Native.Nat.{ℕ, zero, suc, ◌+◌, ◌%◌, ◌^◌, ◌≤◌, ◌<◌}
use mathlib.Core.Path.{◌≡◌, refl, ap, sym, subst, ◌∙◌}
use mathlib.Core.Bool.{Bool, true, false, cond}
use mathlib.Core.List.{List, [], ◌∷◌, map}
use native.Mathlib.Omega.{arith}
use lib.Dec.{eqb, leb}
use lib.ListN.{length, get_or, set, length-set}
use lib.Seq.{get_or-set_same, get_or-set_other}
use borrow.Author.Tests.{eqb-true, eqb-false, leb-true, leb-false}
use Rattle.prelude.specs.Sum.{sum}
use Rattle.machine.specs.declared.Clock.{Clock}
use Rattle.machine.specs.State.{State}
use Rattle.machine.specs.declared.failure.Failure.TheVariants.{WrongCooperative}
use Rattle.machine.specs.Clock.{cooperatives, spend_many}
use Rattle.machine.specs.Run.{Ran}
use Rattle.machine.proofs.Ticks.{common_after, counts_after}
use Rattle.runs.specs.Outcomes.{of_cooperative}
use Rattle.runs.specs.Runs.{Turn}
use Rattle.runs.specs.Calls.{RunCall, RunCalled, call_of}
use Rattle.runs.specs.ClockLaws.{CallsOn, none, one, cooperative_of, all_steps, steps_of, Counted, Balanced, ClockLaws}
use Rattle.runs.proofs.Refusals.{refusals}

-- a record as the code has it: sixteen counts, and every number of 32 bits
pub record Fits (k : Clock) : Type 0 where
  pub common : k.common < 2 ^ 32
  pub size : length k.counts ≡ cooperatives
  pub each : (i : ℕ) → get_or k.counts i 0 < 2 ^ 32

sum_set : (l : List ℕ) (i v : ℕ) → i < length l → sum (set l i v) + get_or l i 0 ≡ sum l + v
unfolding sum
sum_set [] i v h = absurd (omega (arith, h))
sum_set (n ∷ l) zero v h = omega arith
sum_set (n ∷ l) (suc i) v h = let e = sum_set l i v (omega (arith, h)) in omega arith

-- ---- One call

-- what it does to a record, and that this fits again
record Moved (c : RunCall) : Type 0 where
  counted : Counted c
  balance : (c.report.clock.common + sum c.clock.counts) % 2 ^ 32 ≡ (c.clock.common + sum c.report.clock.counts) % 2 ^ 32
  size : length c.report.clock.counts ≡ length c.clock.counts

module _ (c : RunCall) (call : RunCalled c) (fits : Fits c.clock) where
  spent : c.report.clock ≡ spend_many c.turn.request c.report.steps c.clock
  spent = rw call.reported refl

  unchanged : c.report.steps ≡ 0 → c.report.clock ≡ c.clock
  unfolding spend_many
  unchanged e = spent ∙ ap (λ (n : ℕ). spend_many c.turn.request n c.clock) e

  clock : c.report.clock.common ≡ (c.clock.common + c.report.steps) % 2 ^ 32
  clock = ap (λ (k : Clock). k.common) spent ∙ common_after c.turn.request c.report.steps c.clock fits.common

  -- a cooperative that has a count
  within : cooperative_of c < cooperatives → Moved c
  within h =
      let i = cooperative_of c in
      let l = c.clock.counts in
      let n = c.report.steps in
      let m = get_or l i 0 in
      let inside : i < length l = omega (arith, fits.size) in
      let e : c.report.clock.counts ≡ set l i ((m + n) % 2 ^ 32) =
      ap (λ (k : Clock). k.counts) spent ∙ counts_after c.turn.request n c.clock inside (fits.each i) in
      record {
        counted = record {
          clock = clock;
          own = ap (λ (x : List ℕ). get_or x i 0) e ∙ get_or-set_same l i ((m + n) % 2 ^ 32) 0 inside;
          others = λ j d. ap (λ (x : List ℕ). get_or x j 0) e ∙ get_or-set_other l i j ((m + n) % 2 ^ 32) 0 d;
          unchanged = unchanged;
        };
        balance =
            let sums = sum_set l i ((m + n) % 2 ^ 32) inside in
            rw (e, clock) (omega arith);
        size = ap length e ∙ length-set l i ((m + n) % 2 ^ 32);
      }

  -- one that has none makes no step
  beyond : cooperatives ≤ cooperative_of c → Moved c
  beyond h =
      let n : c.report.steps ≡ 0 = rw call.reported (ap (λ (r : Ran). r.work.steps) ((refusals c.turn.request c.start WrongCooperative).answer (of_cooperative h))) in
      let e = unchanged n in
      let bound = fits.each (cooperative_of c) in
      record {
        counted = record {
          clock = clock;
          own = rw (e, n) (omega arith);
          others = λ j d. ap (λ (k : Clock). get_or k.counts j 0) e;
          unchanged = unchanged;
        };
        balance = rw (e) refl;
        size = ap (λ (k : Clock). length k.counts) e;
      }

  moved : Moved c
  moved = by_test (leb cooperatives (cooperative_of c)) refl
    where
      by_test : (b : Bool) → leb cooperatives (cooperative_of c) ≡ b → Moved c
      by_test true e = beyond (leb-true _ _ e)
      by_test false e = within (leb-false _ _ e)

  -- any count, by whether it is the call's own
  count_by : (i : ℕ) (b : Bool) → eqb (cooperative_of c) i ≡ b
      → get_or c.report.clock.counts i 0 ≡ (get_or c.clock.counts i 0 + cond b c.report.steps 0) % 2 ^ 32
  count_by i true e =
      subst (λ (j : ℕ). get_or c.report.clock.counts j 0 ≡ (get_or c.clock.counts j 0 + c.report.steps) % 2 ^ 32)
      (eqb-true _ _ e) moved.counted.own
  count_by i false e =
      let bound = fits.each i in
      let same = moved.counted.others i (λ q. eqb-false _ _ e (sym q)) in
      omega arith

  count : (i : ℕ) → get_or c.report.clock.counts i 0 ≡ (get_or c.clock.counts i 0 + cond (eqb (cooperative_of c) i) c.report.steps 0) % 2 ^ 32
  count i = count_by i (eqb (cooperative_of c) i) refl

  fits_after : Fits c.report.clock
  fits_after = record {
    common = let e = clock in omega arith;
    size = moved.size ∙ fits.size;
    each = λ i. let e = count i in omega arith;
  }

-- ---- A list of calls

add_both : (a b c : ℕ) → a % 2 ^ 32 ≡ b % 2 ^ 32 → (a + c) % 2 ^ 32 ≡ (b + c) % 2 ^ 32
add_both a b c e = omega arith

drop_both : (a b c : ℕ) → (a + c) % 2 ^ 32 ≡ (b + c) % 2 ^ 32 → a % 2 ^ 32 ≡ b % 2 ^ 32
drop_both a b c e = omega arith

-- balances one after the other, from the clock k and the counts' sum m
balanced : (k k₁ k₂ m m₁ m₂ : ℕ) → (k₁ + m) % 2 ^ 32 ≡ (k + m₁) % 2 ^ 32 → (k₂ + m₁) % 2 ^ 32 ≡ (k₁ + m₂) % 2 ^ 32 → (k₂ + m) % 2 ^ 32 ≡ (k + m₂) % 2 ^ 32
balanced k k₁ k₂ m m₁ m₂ e f =
    let a : (k₂ + m + (k₁ + m₁)) % 2 ^ 32 ≡ (k + m₁ + (k₂ + m₁)) % 2 ^ 32 =
    ap (λ (n : ℕ). n % 2 ^ 32) (omega arith) ∙ add_both (k₁ + m) (k + m₁) (k₂ + m₁) e in
    let b : (k + m₁ + (k₂ + m₁)) % 2 ^ 32 ≡ (k + m₂ + (k₁ + m₁)) % 2 ^ 32 =
    ap (λ (n : ℕ). n % 2 ^ 32) (omega arith) ∙ add_both (k₂ + m₁) (k₁ + m₂) (k + m₁) f ∙ ap (λ (n : ℕ). n % 2 ^ 32) (omega arith) in
    drop_both (k₂ + m) (k + m₂) (k₁ + m₁) (a ∙ b)

served : {k k' : Clock} {cs : List RunCall} → Fits k → CallsOn k cs k' → Balanced k cs k' × Fits k'
unfolding all_steps steps_of
served {k} f none =
    let low = f.common in (
      record {
        balance = refl;
        clock = omega arith;
        count = λ i. let l = f.each i in omega arith;
        size = f.size;
      },
      f,
    )
served {k' = k'} f (one c {cs = cs} call rest) =
    let e = clock c call f in
    let others = served (fits_after c call f) rest in
    let g = others.0.clock in (
      record {
        balance = balanced _ _ _ _ _ _ (moved c call f).balance others.0.balance;
        clock = omega arith;
        count = λ i.
            let m = count c call f i in
            let n = others.0.count i in
            omega arith;
        size = others.0.size;
      },
      others.1,
    )

called : (asked : List (Turn × State)) (k : Clock)
    → (cs : List RunCall) × (k' : Clock) × CallsOn k cs k' × (map (λ (c : RunCall). (c.turn, c.start)) cs ≡ asked)
called [] k = ([], k, none, refl)
called (a ∷ others) k =
    let c = call_of a.0 k a.1 in
    let rest = called others c.report.clock in
    (c ∷ rest.0, rest.1, one c (record { reported = refl; left = refl }) rest.2, ap (λ (l : List (Turn × State)). a ∷ l) rest.3)

pub clock_laws : (k : Clock) → Fits k → ClockLaws k
clock_laws k f = record {
  call = λ c before call. (moved c call (served f before).1).counted;
  calls = λ s. (served f s).0;
  called = λ asked. called asked k;
}
