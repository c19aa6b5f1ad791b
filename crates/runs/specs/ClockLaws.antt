-- The laws of the clock record, over calls of `run`.
use Rattle.std.specs.Prelude.{ℕ, ◌+◌, ◌%◌, ◌^◌, ◌≡◌, cond, List, [], ◌∷◌, map, eqb, length, get_or}
use Rattle.prelude.specs.Sum.{sum}
use Rattle.machine.specs.declared.Clock.{Clock}
use Rattle.machine.specs.State.{State}
use Rattle.machine.specs.Clock.{cooperatives}
use Rattle.runs.specs.Runs.{Turn}
use Rattle.runs.specs.Calls.{RunCall, RunCalled}

-- calls on one clock record, which they alone write to: each is handed the record that the one before it left. All else is any: machines,
-- images, budgets and cooperatives (R13, demand 2g)
pub data CallsOn : Clock → List RunCall → Clock → Type 0 where
  none : {k : Clock} → CallsOn k [] k
  one : (c : RunCall) {cs : List RunCall} {k : Clock} → RunCalled c → CallsOn c.report.clock cs k → CallsOn c.clock (c ∷ cs) k

abbrev pub cooperative_of : RunCall → ℕ
cooperative_of c = c.turn.request.cooperative

-- the steps that calls report
unfoldable pub all_steps : List RunCall → ℕ
all_steps [] = 0
all_steps (c ∷ cs) = c.report.steps + all_steps cs

-- and those of them that one cooperative asked for
unfoldable pub steps_of : ℕ → List RunCall → ℕ
steps_of i [] = 0
steps_of i (c ∷ cs) = cond (eqb (cooperative_of c) i) c.report.steps 0 + steps_of i cs

-- what a call does to the record (R8, R12, demand 2f): its steps go to the clock and to its own count, and no other count changes. A cooperative above 15 has
-- no count, which reads as 0, and makes no step
pub record Counted (c : RunCall) : Type 0 where
  pub clock : c.report.clock.common ≡ (c.clock.common + c.report.steps) % 2 ^ 32
  pub own : get_or c.report.clock.counts (cooperative_of c) 0 ≡ (get_or c.clock.counts (cooperative_of c) 0 + c.report.steps) % 2 ^ 32
  pub others : (i : ℕ) → (i ≡ cooperative_of c → ⊥) → get_or c.report.clock.counts i 0 ≡ get_or c.clock.counts i 0
  -- with no step (refused, halted before, a budget of 0, or a failure at once) the record is the one handed in
  pub unchanged : c.report.steps ≡ 0 → c.report.clock ≡ c.clock

-- what calls have done to a record, from its start k to k' (R13, demand 2g)
pub record Balanced (k : Clock) (cs : List RunCall) (k' : Clock) : Type 0 where
  -- the clock and the sum of the counts have gone on by as much, modulo 2^32; each start stands on the other side, since a difference below 0 is 0
  pub balance : (k'.common + sum k.counts) % 2 ^ 32 ≡ (k.common + sum k'.counts) % 2 ^ 32
  -- the clock has all the steps, and each count those of its own cooperative
  pub clock : k'.common ≡ (k.common + all_steps cs) % 2 ^ 32
  pub count : (i : ℕ) → get_or k'.counts i 0 ≡ (get_or k.counts i 0 + steps_of i cs) % 2 ^ 32
  pub size : length k'.counts ≡ cooperatives

-- of every list of calls on a record that begins as k. Of which k this holds says `clock_laws` in src/lib.rt: of every one that a program can hold
pub record ClockLaws (k : Clock) : Type 0 where
  -- a call after any others, or after none (demand 2f). That its record comes from k says that it has sixteen counts, and numbers of 32 bits
  pub call : {cs : List RunCall} (c : RunCall) → CallsOn k cs c.clock → RunCalled c → Counted c
  -- all of them together (demand 2g)
  pub calls : {cs : List RunCall} {k' : Clock} → CallsOn k cs k' → Balanced k cs k'
  -- whatever is asked of whatever machines, there are such calls (demand 2g)
  pub called : (asked : List (Turn × State)) → (cs : List RunCall) × (k' : Clock) × CallsOn k cs k' × (map (λ (c : RunCall). (c.turn, c.start)) cs ≡ asked)
