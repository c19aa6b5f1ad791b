-- A program run in turns.
use Rattle.std.specs.Prelude.{ℕ, zero, suc, ◌≡◌, false, List}
use Rattle.effect.specs.declared.Switches.{Switches}
use Rattle.machine.specs.declared.Machine.{Machine}
use Rattle.machine.specs.declared.Request.{Request}
use Rattle.machine.specs.declared.Outcome.{Outcome}
use Rattle.machine.specs.declared.Outcome.TheVariants.{Halted, Spent, Failed}
use Rattle.machine.specs.State.{State}
use Rattle.machine.specs.Run.{Ran, idle, more, run_def}
use Rattle.turns.specs.declared.Turned.{Turned}

-- the machine of every program at its start: P at the entry, A, B and C zero (O8)
abbrev pub start_machine : ℕ → Switches → Machine
start_machine entry switches = record { registers = record { a = 0; b = 0; c = false }; p = entry; switches = switches; halted = false }

-- what one turn asks for: the largest budget that a run may have, for cooperative 0 (O7)
abbrev pub one_turn : Request
one_turn = record { budget = 1000000; cooperative = 0 }

-- after a turn that ended so: a spent one is followed by others, any other is the last
abbrev pub and_then : Ran → (State → Ran) → Outcome → Ran
and_then r next Spent = more r.work (next r.state)
and_then r next Halted = r
and_then r next (Failed f) = r

-- so many turns, one after the other while they are spent; no turn is spent after no step (O7)
unfoldable pub turns_def : ℕ → State → Ran
turns_def zero s = idle Spent s
turns_def (suc n) s = let r = run_def one_turn s in and_then r (λ (t : State). turns_def n t) r.outcome

-- the answer for turns that come to this
abbrev pub turned_of : Ran → Turned
turned_of r = record { steps = r.work.steps; outcome = r.outcome; machine = r.state.machine }

-- a call answers for these turns, and leaves their image
abbrev pub Answers : Ran → Turned → List ℕ → Type 0
Answers r answer after = (answer ≡ turned_of r) × (after ≡ r.state.image)
