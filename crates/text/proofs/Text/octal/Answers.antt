use mathlib.Core.Path.{refl}
use Rattle.digits.specs.Digits.{octal_by}
use Rattle.text.proofs.Laws.{then_added}
use Rattle.text.proofs.Text.octal.Goals as goal

pub returns : goal.returns
unfolding octal_by
returns c =
    record {
      same_buffer = refl;
      all =
          then_added _ _ _ (then_added _ _ _ (then_added _ _ _ (then_added _ _ _ (then_added _ _ _ c.octal_digit-len.ensures c.octal_digit-len-2.ensures) c.octal_digit-len-3.ensures) c.octal_digit-len-4.ensures) c.octal_digit-len-5.ensures) c.octal_digit-self.ensures;
    }
