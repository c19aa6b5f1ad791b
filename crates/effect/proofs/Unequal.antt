-- `!=` of two bools is `differ` of the definitions.
use mathlib.Core.Path.{◌≡◌, refl}
use mathlib.Core.Bool.{Bool, true, false, not, beq}
use Rattle.word.specs.Shift.{differ}

pub unequal : (a b : Bool) → not (beq a b) ≡ differ a b
unequal true true = refl
unequal true false = refl
unequal false true = refl
unequal false false = refl
