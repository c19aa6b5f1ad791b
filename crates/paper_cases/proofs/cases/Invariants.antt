use Prim.Native.Nat.{◌≤◌, ◌-◌}
use Rattle.paper_cases.proofs.cases.Given as goal

abbrev pub invariant-loop : goal.invariant-loop
invariant-loop g l = l.counter ≤ l.last

abbrev pub decreases-loop : goal.decreases-loop
decreases-loop g l = l.last - l.counter
