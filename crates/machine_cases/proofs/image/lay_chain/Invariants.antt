use Prim.Native.Nat.{◌≤◌, ◌-◌}
use lib.ListN.{length}
use mathlib.Core.Path.{◌≡◌}
use Rattle.machine_cases.proofs.image.lay_chain.Given as goal

abbrev pub invariant-loop-i : goal.invariant-loop-i
invariant-loop-i l = (l.i ≤ 144) × (16384 ≤ length l.image) × (length l.image ≡ length l.initial.image)

abbrev pub decreases-loop-i : goal.decreases-loop-i
decreases-loop-i l = 144 - l.i
