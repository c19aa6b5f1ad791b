-- Iteration of the step: runs by the steps that they make, and one iteration after the other.
use Prim.Native.Nat.{ℕ, zero, suc, ◌+◌, ◌-◌, ◌≤◌}
use mathlib.Core.Path.{◌≡◌, refl, ap, sym, subst, ◌∙◌}
use mathlib.Core.Logic.{◌⊎◌, inl, inr}
use mathlib.Core.Bool.{Bool, true, false, cond}
use mathlib.Core.List.{List}
use Rattle.std.specs.Prelude.{Result, Ok, Err}
use native.Mathlib.Nat.{zero-add, suc-add}
use native.Mathlib.Numerals.{one-add}
use native.Mathlib.Omega.{arith}
use lib.ListN.{get_or}
use Rattle.instruction.specs.declared.Instruction.{Instruction}
use Rattle.instruction.specs.declared.Instruction.TheVariants.{Memory, Shift, Generic, Unknown}
use Rattle.instruction.specs.Decode.{decode_def}
use Rattle.machine.specs.declared.Machine.{Machine}
use Rattle.machine.specs.declared.Outcome.{Outcome}
use Rattle.machine.specs.declared.Outcome.TheVariants.{Halted, Spent, Failed}
use Rattle.machine.specs.declared.address.Reached.{Reached}
use Rattle.machine.specs.declared.failure.Failure.{Failure}
use Rattle.machine.specs.declared.failure.Failure.TheVariants.{UnknownWord, LongChain}
use Rattle.instruction.proofs.Choice.{cond_all}
use Rattle.machine.specs.Address.{follow_of, address_of}
use Rattle.machine.specs.State.{State}
use Rattle.machine.specs.Step.{Step, made, failed, memory_step, perform, step_def}
use Rattle.machine.specs.Run.{Work, no_work, work_of, add_work, Ran, ran, idle, more, go_on, run_from}
use Rattle.machine.proofs.RunSteps.{add_work_none, more_more, more_none, run_by, run_halted, run_failed}
use Rattle.runs.specs.Steps.{Steps, none, one}
use Rattle.runs.specs.Outcomes.{Says, Ended}

-- steps one after the other, taken apart and put together
pub steps_join : {n m : ℕ} {s t u : State} → Steps n s t → Steps m t u → Steps (n + m) s u
steps_join {m = m} {s = s} {u = u} none r = subst (λ (j : ℕ). Steps j s u) (sym (zero-add m)) r
steps_join {m = m} {s = s} {u = u} (one {n = n} h e l) r = subst (λ (j : ℕ). Steps j s u) (sym (suc-add n m)) (one h e (steps_join l r))

record First (n : ℕ) (s u : State) : Type 0 where
  next : State
  running : s.machine.halted ≡ false
  step : step_def s ≡ made next
  rest : Steps n next u

first : {n : ℕ} {s u : State} → Steps (suc n) s u → First n s u
first (one {t = t} h e r) = record { next = t; running = h; step = e; rest = r }

pub steps_split : (n m : ℕ) {s u : State} → Steps (n + m) s u → (t : State) × Steps n s t × Steps m t u
steps_split zero m {s} {u} r = (s, none, subst (λ (j : ℕ). Steps j s u) (zero-add m) r)
steps_split (suc n) m {s} {u} r =
    let f = first (subst (λ (j : ℕ). Steps j s u) (suc-add n m) r) in
    let x = steps_split n m f.rest in
    (x.0, one f.running f.step x.1, x.2)

-- where steps lead to a state that is not halted, they began at one
pub steps_running : {n : ℕ} {s u : State} → Steps n s u → u.machine.halted ≡ false → s.machine.halted ≡ false
steps_running none h = h
steps_running (one l e r) h = l

less : (n : ℕ) → suc n - 1 ≡ n
less n = omega arith

-- a run from a state from which n steps lead on goes on from the last
pub run_steps : (m : ℕ) {n : ℕ} {s u : State} → Steps n s u → run_from (n + m) s ≡ more (run_from n s).work (run_from m u)
unfolding run_from
run_steps m {s = s} none = ap (λ (j : ℕ). run_from j s) (zero-add m) ∙ sym (more_none (run_from m s))
run_steps m {s = s} {u = u} (one {n = n} {t = t} h e r) =
    ap (λ (j : ℕ). run_from j s) (suc-add n m)
    ∙ run_by (suc (n + m)) s h (omega arith) e
    ∙ ap (λ (j : ℕ). more (work_of s) (run_from j t)) (less (n + m))
    ∙ ap (more (work_of s)) (run_steps m r)
    ∙ more_more (work_of s) (run_from n t).work (run_from m u)
    ∙ ap (λ (w : Work). more w (run_from m u)) (sym (ap (λ (x : Ran). x.work) (run_by (suc n) s h (omega arith) e ∙ ap (λ (j : ℕ). more (work_of s) (run_from j t)) (less n))))

-- a run of as many steps as can be made, and one that comes to a halt
pub run_exact : {n : ℕ} {s u : State} → Steps n s u → ((run_from n s).state ≡ u) × ((run_from n s).work.steps ≡ n)
unfolding run_from
run_exact none = (refl, refl)
run_exact {s = s} (one {n = n} {t = t} h e r) =
    let x = run_by (suc n) s h (omega arith) e ∙ ap (λ (j : ℕ). more (work_of s) (run_from j t)) (less n) in
    let i = run_exact r in
    (ap (λ (z : Ran). z.state) x ∙ i.0, ap (λ (z : Ran). z.work.steps) x ∙ one-add (run_from n t).work.steps ∙ ap suc i.1)

pub run_halts : (b : ℕ) {n : ℕ} {s u : State} → Steps n s u → u.machine.halted ≡ true → n ≤ b → run_from b s ≡ ran (run_from n s).work Halted u
run_halts b {n} {s} {u} r h l =
    let q : b ≡ n + (b - n) = omega arith in
    ap (λ (j : ℕ). run_from j s) q
    ∙ run_steps (b - n) r
    ∙ ap (more (run_from n s).work) (run_halted (b - n) u h)
    ∙ ap (λ (w : Work). ran w Halted u) (add_work_none (run_from n s).work)

-- a step fails with 20 or 21 only
OneOf : Step → Type 0
OneOf (made s) = Unit {0}
OneOf (failed f) = (f ≡ UnknownWord) ⊎ (f ≡ LongChain)

FollowFails : Result Reached Failure → Type 0
FollowFails (Ok r) = Unit {0}
FollowFails (Err f) = f ≡ LongChain

follow_fails : (image : List ℕ) (n : ℕ) (indirect : Bool) (at : ℕ) → FollowFails (follow_of image n indirect at)
unfolding FollowFails follow_of
follow_fails image zero indirect at = cond_all FollowFails indirect refl tt
follow_fails image (suc n) indirect at = cond_all FollowFails indirect (follow_fails image n _ _) tt

memory_fails : (code : ℕ) (m : Machine) (image : List ℕ) (a : Result Reached Failure) → FollowFails a → OneOf (memory_step code m image a)
unfolding OneOf FollowFails
memory_fails code m image (Ok r) h = tt
memory_fails code m image (Err f) h = inr h

perform_fails : (m : Machine) (image : List ℕ) (i : Instruction) → OneOf (perform m image i)
unfolding OneOf
perform_fails m image (Memory code indirect tag sector address) =
    memory_fails code m image (address_of image m.p indirect tag sector address) (follow_fails image 16 indirect _)
perform_fails m image (Shift kind n) = tt
perform_fails m image (Generic slot) = tt
perform_fails m image Unknown = inl refl

pub step_fails : (s : State) (f : Failure) → step_def s ≡ failed f → (f ≡ UnknownWord) ⊎ (f ≡ LongChain)
unfolding OneOf step_def
step_fails s f e = subst OneOf e (perform_fails s.machine s.image (decode_def (get_or s.image s.machine.p 0)))

-- how every iteration ends
says_more : (n : ℕ) (s : State) (r : Ran) (o : Outcome) → Says n r o → Says (suc n) (more (work_of s) r) o
says_more n s r Halted h = h
says_more n s r Spent h = (omega (arith, h.0), h.1)
says_more n s r (Failed f) h = (omega (arith, h.0), h.1, h.2, h.3)

ended_now : (s : State) (b : Bool) → s.machine.halted ≡ b → Ended 0 s (idle (cond b Halted Spent) s)
ended_now s true h = record { made = none; within = omega arith; says = h }
ended_now s false h = record { made = none; within = omega arith; says = (refl, h) }

ended_by : (n : ℕ) (s : State) (b : Bool) (x : Step) → s.machine.halted ≡ b → step_def s ≡ x
    → ((t : State) → Ended n t (run_from n t)) → Ended (suc n) s (cond b (idle Halted s) (go_on s (λ (v : State). run_from n v) x))
ended_by n s true x h e again = record { made = none; within = omega arith; says = h }
ended_by n s false (made t) h e again =
    let a = again t in
    let r = run_from n t in
    record {
      made = subst (λ (j : ℕ). Steps j s r.state) (sym (one-add r.work.steps)) (one h e a.made);
      within = omega (arith, a.within);
      says = says_more n s r r.outcome a.says;
    }
ended_by n s false (failed f) h e again =
    record { made = none; within = omega arith; says = (omega arith, h, e, step_fails s f e) }

pub run_ends : (n : ℕ) (s : State) → Ended n s (run_from n s)
unfolding run_from
run_ends zero s = ended_now s s.machine.halted refl
run_ends (suc n) s = ended_by n s s.machine.halted (step_def s) refl refl (run_ends n)

-- a run that is spent has made all its steps
pub spent_steps : (n : ℕ) (s : State) → (run_from n s).outcome ≡ Spent → Steps n s (run_from n s).state
spent_steps n s o =
    let e = run_ends n s in
    let h : Says n (run_from n s) Spent = subst (Says n (run_from n s)) o e.says in
    subst (λ (j : ℕ). Steps j s (run_from n s).state) h.0 e.made

-- a spent run of n, then one of m
pub run_plus : (n m : ℕ) (s : State) → (run_from n s).outcome ≡ Spent → run_from (n + m) s ≡ more (run_from n s).work (run_from m (run_from n s).state)
run_plus n m s o = run_steps m (spent_steps n s o)

-- a run that can go no further: a halted state, or one whose step fails
record Stuck (u : State) : Type 0 where
  state_stays : (m : ℕ) → (run_from m u).state ≡ u
  work_none : (m : ℕ) → (run_from m u).work ≡ no_work

stuck_halted : (u : State) → u.machine.halted ≡ true → Stuck u
stuck_halted u h = record {
  state_stays = λ m. ap (λ (r : Ran). r.state) (run_halted m u h);
  work_none = λ m. ap (λ (r : Ran). r.work) (run_halted m u h);
}

stuck_failing : (u : State) (f : Failure) → u.machine.halted ≡ false → step_def u ≡ failed f → Stuck u
unfolding run_from
stuck_failing u f h e = record {
  state_stays = elim [ zero ↦ refl | suc m ↦ ap (λ (r : Ran). r.state) (run_failed (suc m) u h (omega arith) e) ];
  work_none = elim [ zero ↦ refl | suc m ↦ ap (λ (r : Ran). r.work) (run_failed (suc m) u h (omega arith) e) ];
}

-- a run of n, then one of m, however the first ended, come to the run of n + m in state and work
pub record Added (n m : ℕ) (s : State) : Type 0 where
  pub state : (run_from (n + m) s).state ≡ (run_from m (run_from n s).state).state
  pub work : (run_from (n + m) s).work ≡ add_work (run_from n s).work (run_from m (run_from n s).state).work

added_stuck : (n m : ℕ) (s : State) → Ended n s (run_from n s) → Stuck (run_from n s).state → Added n m s
added_stuck n m s e k =
    let j = (run_from n s).work.steps in
    let u = (run_from n s).state in
    let l = e.within in
    let q : n + m ≡ j + (n - j + m) = omega arith in
    let p : n ≡ j + (n - j) = omega arith in
    let go : (d : ℕ) → run_from (j + d) s ≡ more (run_from j s).work (run_from d u) = λ d. run_steps d e.made in
    let stays : (d : ℕ) → (run_from (j + d) s).work ≡ (run_from j s).work = λ d.
    ap (λ (x : Ran). x.work) (go d) ∙ ap (add_work (run_from j s).work) (k.work_none d) ∙ add_work_none (run_from j s).work in
    record {
      state = ap (λ (i : ℕ). (run_from i s).state) q ∙ ap (λ (x : Ran). x.state) (go (n - j + m)) ∙ k.state_stays (n - j + m) ∙ sym (k.state_stays m);
      work =
          ap (λ (i : ℕ). (run_from i s).work) q ∙ stays (n - j + m) ∙ sym (stays (n - j)) ∙ ap (λ (i : ℕ). (run_from i s).work) (sym p)
          ∙ sym (ap (add_work (run_from n s).work) (k.work_none m) ∙ add_work_none (run_from n s).work);
    }

added_by : (n m : ℕ) (s : State) (o : Outcome) → (run_from n s).outcome ≡ o → Ended n s (run_from n s) → Says n (run_from n s) o → Added n m s
added_by n m s Halted q e h = added_stuck n m s e (stuck_halted (run_from n s).state h)
added_by n m s Spent q e h =
    let r = run_plus n m s q in record { state = ap (λ (x : Ran). x.state) r; work = ap (λ (x : Ran). x.work) r }
added_by n m s (Failed f) q e h = added_stuck n m s e (stuck_failing (run_from n s).state f h.1 h.2)

pub run_add : (n m : ℕ) (s : State) → Added n m s
run_add n m s = let e = run_ends n s in added_by n m s (run_from n s).outcome refl e e.says
