use mathlib.Core.Path.{ap, ◌∙◌}
use Rattle.std.proofs.Common.{take}
use Rattle.std.specs.List.{count_by}
use Rattle.text.specs.Wrote.{up_of}
use Rattle.failure_report.specs.Place.{is_newline}
use Rattle.failure_report.proofs.Laws.{counted}
use Rattle.failure_report.proofs.place.line.Goals as goal

pub returns : goal.returns
returns c =
    c.saturating_add.ensures ∙ ap up_of (c.newlines.ensures ∙ ap (λ n. count_by is_newline (take n c.args.source.now)) c.min.ensures ∙ counted c.args.source.now c.args.at)
