use mathlib.Core.Path.{ap, ◌∙◌}
use Rattle.std.proofs.Common.{◌-◌, take, drop, length}
use Rattle.std.specs.Option.{unwrap_or}
use Rattle.failure_report.proofs.Laws.{line_inside}
use Rattle.failure_report.proofs.place.line_end.Goals as goal

pub returns : goal.returns
returns c = line_inside _ _ c.requires (c.unwrap_or.ensures ∙ ap (λ o. unwrap_or o (length (take (length c.args.source.now - c.args.from) (drop c.args.from c.args.source.now)))) c.first_newline.ensures)
