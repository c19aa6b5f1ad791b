use Rattle.prelude.specs.Choice.{find}
use Rattle.layout.specs.Words.{bare_slot}
use Rattle.expressions.specs.Vocabulary.{looked_up}
use Rattle.expressions.proofs.vocabulary.bare.Goals as goal

pub returns-in-Sense2 : goal.returns-in-Sense2
unfolding looked_up find bare_slot
returns-in-Sense2 c = rw c.in-Sense2.is

pub returns-in-Sense3 : goal.returns-in-Sense3
unfolding looked_up find bare_slot
returns-in-Sense3 c = rw c.in-Sense3.is

pub returns-in-Sense4 : goal.returns-in-Sense4
unfolding looked_up find bare_slot
returns-in-Sense4 c = rw c.in-Sense4.is

pub returns-in-Anykey : goal.returns-in-Anykey
unfolding looked_up find bare_slot
returns-in-Anykey c = rw c.in-Anykey.is

pub returns-in-Nokey : goal.returns-in-Nokey
unfolding looked_up find bare_slot
returns-in-Nokey c = rw c.in-Nokey.is
