use mathlib.Core.Path.{◌≡◌}
use Prim.Native.Nat.{◌+◌, ◌-◌, ◌^◌, ◌<◌}
use lib.ListN.{length}
use Rattle.digits.specs.Digits.{decimal_by, decimal}
use Rattle.text.proofs.decimal_length.Given as goal

-- The invariant: the digits counted, but for the first one, with those that `rest` has, are those of the number.
abbrev pub invariant-loop-rest : goal.invariant-loop-rest
invariant-loop-rest l =
    (l.count < 21) × (l.rest < 10 ^ (21 - l.count)) × (length (decimal_by (21 - l.count) l.rest) + l.count ≡ length (decimal l.n) + 1)

abbrev pub decreases-loop-rest : goal.decreases-loop-rest
decreases-loop-rest l = l.rest
