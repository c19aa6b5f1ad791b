use mathlib.Core.List.{map}
use mathlib.Core.Path.{ap}
use Rattle.text.proofs.Laws.{and_then, same_added}
use Rattle.failure_report.specs.Place.{visible}
use Rattle.failure_report.proofs.Laws.{line_bytes}
use Rattle.failure_report.proofs.put_line.Goals as goal

pub returns : goal.returns
returns c = and_then (same_added (ap (map visible) (line_bytes _ _ c.line_end-end.ensures.0)) c.put_visible.ensures) c.put.ensures
