use Prim.Native.Nat.{◌≤◌, ◌-◌, ◌*◌}
use mathlib.Core.Path.{◌≡◌}
use lib.ListN.{length}
use Rattle.machine.specs.State.{state}
use Rattle.machine.specs.Run.{work, more}
use Rattle.turns.specs.Turns.{turns_def}
use Rattle.turns.proofs.run_turns.Given as goal

-- The loop's invariant: all turns come to the work done so far and the turns that are left, from the state reached.
abbrev pub invariant-loop : goal.invariant-loop
invariant-loop l =
    (turns_def l.turns (state l.initial.m l.initial.image) ≡ more (work l.steps) (turns_def (l.turns - l.counter) (state l.m l.image)))
    × (l.steps ≤ l.counter * 4294967295)
    × (l.counter ≤ l.turns)
    × (length l.image ≡ length l.initial.image)

abbrev pub decreases-loop : goal.decreases-loop
decreases-loop l = l.turns - l.counter
