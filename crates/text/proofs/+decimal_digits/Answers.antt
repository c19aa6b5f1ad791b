use native.Mathlib.Omega.{arith}
use Rattle.text.proofs.Laws.{then_added, one_digit, more_digits}
use Rattle.text.proofs.+decimal_digits.Goals as goal

pub returns-then-n-lt-TWO_DIGITS : goal.returns-then-n-lt-TWO_DIGITS
returns-then-n-lt-TWO_DIGITS t c = rw (one_digit _ c.if-n-lt-TWO_DIGITS.true) (rw c.decimal_digit.ensures at c.stored.ensures)

pub returns : goal.returns
returns t c =
    rw (more_digits _ c.if-n-lt-TWO_DIGITS.false (omega arith))
    (then_added _ _ _ c.decimal_digits-end.ensures (rw c.decimal_digit-2.ensures at c.stored-2.ensures))
