use Rattle.text.proofs.Laws.{one_more_added}
use Rattle.text.proofs.Text.put.Goals as goal

pub loop-byte-preserved : goal.loop-byte-preserved
loop-byte-preserved c = one_more_added _ _ _ c.loop-byte-test.true c.loop-byte.invariant c.stored-len.ensures
