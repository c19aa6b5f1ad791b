use Rattle.std.proofs.Common.{◌≡◌, ◌-◌, ◌≤◌, length}
use Rattle.machine.specs.State.{state, Good}
use Rattle.machine.specs.Run.{work, more, run_from}
use Rattle.machine.proofs.make_steps.Given as goal

-- The loop's invariant: the whole run is the work done so far and the run of what is left from the state reached.
abbrev pub invariant-loop-m : goal.invariant-loop-m
invariant-loop-m l =
    (run_from l.budget (state l.initial.m l.initial.image) ≡ more (work l.steps) (run_from (l.budget - l.steps) (state l.m l.image)))
    × Good (state l.m l.image)
    × (l.steps ≤ l.budget)
    × (length l.image ≡ length l.initial.image)

abbrev pub decreases-loop-m : goal.decreases-loop-m
decreases-loop-m l = l.budget - l.steps
