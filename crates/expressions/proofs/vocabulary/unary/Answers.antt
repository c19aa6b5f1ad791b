use Rattle.prelude.specs.Choice.{find}
use Rattle.expressions.specs.Vocabulary.{looked_up, last_slot}
use Rattle.expressions.proofs.vocabulary.unary.Goals as goal

pub returns-in-Ssp : goal.returns-in-Ssp
unfolding looked_up find last_slot
returns-in-Ssp c = rw c.in-Ssp.is

pub returns-in-Ssm : goal.returns-in-Ssm
unfolding looked_up find last_slot
returns-in-Ssm c = rw c.in-Ssm.is

pub returns-in-Chs : goal.returns-in-Chs
unfolding looked_up find last_slot
returns-in-Chs c = rw c.in-Chs.is

pub returns-in-Csa : goal.returns-in-Csa
unfolding looked_up find last_slot
returns-in-Csa c = rw c.in-Csa.is

pub returns-in-Not : goal.returns-in-Not
unfolding looked_up find last_slot
returns-in-Not c = rw c.in-Not.is

pub returns-in-Icleft : goal.returns-in-Icleft
unfolding looked_up find last_slot
returns-in-Icleft c = rw c.in-Icleft.is

pub returns-in-Cleft : goal.returns-in-Cleft
unfolding looked_up find last_slot
returns-in-Cleft c = rw c.in-Cleft.is

pub returns-in-Swop : goal.returns-in-Swop
unfolding looked_up find last_slot
returns-in-Swop c = rw c.in-Swop.is

pub returns-in-Icright : goal.returns-in-Icright
unfolding looked_up find last_slot
returns-in-Icright c = rw c.in-Icright.is

pub returns-in-Cright : goal.returns-in-Cright
unfolding looked_up find last_slot
returns-in-Cright c = rw c.in-Cright.is

pub returns-in-Abs : goal.returns-in-Abs
unfolding looked_up find last_slot
returns-in-Abs c = rw c.in-Abs.is
