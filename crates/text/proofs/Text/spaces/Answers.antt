use Rattle.text.proofs.Laws.{one_space_added}
use Rattle.text.proofs.Text.spaces.Goals as goal

pub loop-preserved : goal.loop-preserved
loop-preserved c = one_space_added _ _ c.loop.invariant c.stored-len.ensures
