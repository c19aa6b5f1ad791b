use Rattle.prelude.specs.Choice.{find}
use Rattle.layout.specs.Words.{operator_form}
use Rattle.expressions.specs.Vocabulary.{looked_up}
use Rattle.expressions.proofs.vocabulary.operator.Goals as goal

pub returns-in-Nev : goal.returns-in-Nev
unfolding looked_up find operator_form
returns-in-Nev c = rw c.in-Nev.is

pub returns-in-Star : goal.returns-in-Star
unfolding looked_up find operator_form
returns-in-Star c = rw c.in-Star.is

pub returns-in-Slash : goal.returns-in-Slash
unfolding looked_up find operator_form
returns-in-Slash c = rw c.in-Slash.is

pub returns-in-Mod : goal.returns-in-Mod
unfolding looked_up find operator_form
returns-in-Mod c = rw c.in-Mod.is
