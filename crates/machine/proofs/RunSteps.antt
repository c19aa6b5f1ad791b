-- A run, one step at a time, and as the loop that makes the steps sees it.
use Rattle.std.proofs.Common.{◌≡◌, ℕ, zero, suc, ◌+◌, ◌-◌, ◌<◌, true, false, sym, ap, ◌∙◌, not-suc-le-zero, add-zero, add_assoc, zero-add, arith}
use native.Mathlib.Nat.{sub-zero}
use Rattle.instruction.proofs.Choice.{yes, no}
use Rattle.machine.specs.declared.failure.Failure.{Failure}
use Rattle.machine.specs.declared.Outcome.{Outcome}
use Rattle.machine.specs.declared.Outcome.TheVariants.{Halted, Spent, Failed}
use Rattle.machine.specs.State.{State}
use Rattle.machine.specs.Step.{Step, made, failed, step_def}
use Rattle.machine.specs.Run.{Work, work, no_work, work_of, add_work, Ran, ran, idle, more, go_on, run_from}

-- work adds up as numbers do
pub add_work_assoc : (u v w : Work) → add_work (add_work u v) w ≡ add_work u (add_work v w)
add_work_assoc u v w = ap work (add_assoc u.steps v.steps w.steps)

pub add_work_none : (w : Work) → add_work w no_work ≡ w
add_work_none w = ap work (add-zero w.steps)

none_add_work : (w : Work) → add_work no_work w ≡ w
none_add_work w = ap work (zero-add w.steps)

pub run_halted : (n : ℕ) (s : State) → s.machine.halted ≡ true → run_from n s ≡ idle Halted s
unfolding run_from
run_halted zero s h = ap (λ (o : Outcome). idle o s) (yes Halted Spent h)
run_halted (suc n) s h = yes (idle Halted s) (go_on s (λ (u : State). run_from n u) (step_def s)) h

pub run_spent : (n : ℕ) (s : State) → s.machine.halted ≡ false → n ≡ 0 → run_from n s ≡ idle Spent s
unfolding run_from
run_spent n s h e = ap (λ (k : ℕ). run_from k s) e ∙ ap (λ (o : Outcome). idle o s) (no Halted Spent h)

-- a run that is not halted and has a step left goes by that step
pub run_by : (n : ℕ) (s : State) {x : Step} → s.machine.halted ≡ false → 0 < n → step_def s ≡ x
    → run_from n s ≡ go_on s (λ (u : State). run_from (n - 1) u) x
unfolding run_from
run_by zero s h p e = absurd (not-suc-le-zero p)
run_by (suc n) s {x} h p e =
    let q : n ≡ suc n - 1 = omega arith in
    no (idle Halted s) (go_on s (λ (u : State). run_from n u) (step_def s)) h
    ∙ ap (go_on s (λ (u : State). run_from n u)) e
    ∙ ap (λ (k : ℕ). go_on s (λ (u : State). run_from k u) x) q

pub run_failed : (n : ℕ) (s : State) {f : Failure} → s.machine.halted ≡ false → 0 < n → step_def s ≡ failed f → run_from n s ≡ idle (Failed f) s
run_failed n s h p e = run_by n s h p e

pub more_more : (v w : Work) (r : Ran) → more v (more w r) ≡ more (add_work v w) r
more_more v w r = ap (λ (u : Work). ran u r.outcome r.state) (sym (add_work_assoc v w r.work))

pub more_none : (r : Ran) → more no_work r ≡ r
more_none r = ap (λ (u : Work). ran u r.outcome r.state) (none_add_work r.work)

-- the loop: where it begins, after one step more, and where it ends
pub run_start : (n : ℕ) (s : State) → run_from n s ≡ more no_work (run_from (n - 0) s)
run_start n s = rw (sub-zero n) (sym (more_none (run_from n s)))

pub run_onward : (b i : ℕ) (w : Work) (s₀ s : State) {t : State} → run_from b s₀ ≡ more w (run_from (b - i) s) → s.machine.halted ≡ false → i < b
    → step_def s ≡ made t → run_from b s₀ ≡ more (add_work w (work_of s)) (run_from (b - (i + 1)) t)
run_onward b i w s₀ s {t} r h l e =
    let q : (b - i) - 1 ≡ b - (i + 1) = omega arith in
    r ∙ ap (more w) (run_by (b - i) s h (omega arith) e) ∙ more_more w (work_of s) _ ∙ ap (λ (k : ℕ). more (add_work w (work_of s)) (run_from k t)) q

pub run_ended : (b i : ℕ) (w : Work) (s₀ s : State) {o : Outcome} → run_from b s₀ ≡ more w (run_from (b - i) s) → run_from (b - i) s ≡ idle o s
    → run_from b s₀ ≡ ran w o s
run_ended b i w s₀ s {o} r e = r ∙ ap (more w) e ∙ ap (λ (u : Work). ran u o s) (add_work_none w)

pub ruleset for_make_steps = (run_halted, run_spent, run_failed, run_start, run_onward, run_ended)
