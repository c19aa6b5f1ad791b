-- What a comparison can come to.
use Prim.Native.Nat.{ℕ, ◌<◌}
use mathlib.Core.Bool.{Bool, true, false, cond}
use native.Mathlib.Omega.{arith}
use lib.Dec.{eqb, ltb}
use Rattle.word.specs.Arithmetic.{biased, compare_of}

one_of : (b d : Bool) → cond b 0 (cond d 1 2) < 3
one_of true d = omega arith
one_of false true = omega arith
one_of false false = omega arith

pub compare_below : (a v : ℕ) → compare_of a v < 3
unfolding compare_of
compare_below a v = one_of (ltb (biased v) (biased a)) (eqb (biased a) (biased v))
