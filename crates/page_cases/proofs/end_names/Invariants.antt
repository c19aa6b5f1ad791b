use Prim.Native.Nat.{◌*◌, ◌-◌, ◌≤◌}
use mathlib.Core.Path.{◌≡◌}
use lib.ListN.{length}
use Rattle.page_cases.proofs.end_names.Given as goal

-- A store does not change the length.
abbrev pub invariant-loop-i : goal.invariant-loop-i
invariant-loop-i l = (2 * l.i-end ≤ length l.initial.names) × (length l.names ≡ length l.initial.names)

abbrev pub decreases-loop-i : goal.decreases-loop-i
decreases-loop-i l = l.i-end - l.i
