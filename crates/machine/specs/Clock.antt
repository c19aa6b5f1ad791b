-- The clock record: the service's clock, and beside it a count of steps for each cooperative.
use Rattle.std.specs.Prelude.{ℕ, zero, suc, ◌+◌, ◌-◌, ◌%◌, ◌^◌, Bool, List, replicate, nat_lt, slice_index, slice_set}
use Rattle.machine.specs.declared.Clock.{Clock}
use Rattle.machine.specs.declared.Request.{Request}

-- how many cooperatives share it, each with a count of its own (R12)
abbrev pub cooperatives : ℕ
cooperatives = 16

-- the record that a service starts with: all zero (R12)
abbrev pub start_clock : Clock
start_clock = record { common = 0; counts = replicate cooperatives 0 }

-- a number of 32 bits, one up (R8)
abbrev pub tick : ℕ → ℕ
tick n = (n + 1) % 2 ^ 32

-- the counts with one of them one up; an i that no count has leaves them (R12)
abbrev pub tick_at : ℕ → List ℕ → List ℕ
tick_at i counts = slice_set counts i (tick (slice_index counts i))

-- one step of a run goes to the clock and to the count of the cooperative that asked for it (R8, R12)
abbrev pub spend : Request → Clock → Clock
spend request clock = record { common = tick clock.common; counts = tick_at request.cooperative clock.counts }

-- all the steps that were made (R8)
unfoldable pub spend_many : Request → ℕ → Clock → Clock
spend_many request zero clock = clock
spend_many request (suc n) clock = spend request (spend_many request n clock)

-- whether a deadline has come by the clock's number, though that may have passed through zero since it was set (R9)
abbrev pub due_of : ℕ → ℕ → Bool
due_of common deadline = nat_lt ((common + 2 ^ 32 - deadline) % 2 ^ 32) (2 ^ 31)
