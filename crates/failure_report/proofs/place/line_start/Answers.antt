use mathlib.Core.Path.{ap, ◌∙◌}
use Rattle.std.proofs.Common.{take, length}
use Rattle.std.specs.Option.{unwrap_or}
use Rattle.failure_report.proofs.Laws.{start_inside}
use Rattle.failure_report.proofs.place.line_start.Goals as goal

pub returns : goal.returns
returns c = start_inside _ _ c.min.ensures (c.unwrap_or.ensures ∙ ap (λ o. unwrap_or o (length (take c.min.result c.args.source.now))) c.last_newline.ensures)
