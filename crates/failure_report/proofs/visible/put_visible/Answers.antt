use Rattle.failure_report.proofs.Laws.{one_visible}
use Rattle.failure_report.proofs.visible.put_visible.Goals as goal

pub loop-byte-preserved : goal.loop-byte-preserved
loop-byte-preserved c = one_visible _ _ c.loop-byte-test.true c.visible.ensures c.loop-byte.invariant c.byte.ensures
