use Rattle.prelude.specs.Choice.{find}
use Rattle.layout.specs.Words.{shift_kind}
use Rattle.expressions.specs.Vocabulary.{looked_up}
use Rattle.expressions.proofs.vocabulary.shift_word.Goals as goal

pub returns-in-Lgl : goal.returns-in-Lgl
unfolding looked_up find shift_kind
returns-in-Lgl c = rw c.in-Lgl.is

pub returns-in-Als : goal.returns-in-Als
unfolding looked_up find shift_kind
returns-in-Als c = rw c.in-Als.is

pub returns-in-Alr : goal.returns-in-Alr
unfolding looked_up find shift_kind
returns-in-Alr c = rw c.in-Alr.is
