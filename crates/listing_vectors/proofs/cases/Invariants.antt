use Prim.Native.Nat.{◌≤◌, ◌-◌}
use Rattle.listing_vectors.proofs.cases.Given as goal

-- `listing_vectors::cases` is safe and ends.
abbrev pub invariant-loop-i : goal.invariant-loop-i
invariant-loop-i g l = l.i ≤ l.last

abbrev pub decreases-loop-i : goal.decreases-loop-i
decreases-loop-i g l = l.last - l.i
