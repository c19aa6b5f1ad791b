use Rattle.text.proofs.Laws.{and_then}
use Rattle.failure_report.specs.Failure.{failure_text}
use Rattle.failure_report.proofs.put_failure.Goals as goal

pub returns : goal.returns
unfolding failure_text
returns c = rw c.line_start-start.ensures.0 at (and_then c.put_place.ensures (and_then c.put_line.ensures (and_then c.spaces.ensures c.put.ensures)))
