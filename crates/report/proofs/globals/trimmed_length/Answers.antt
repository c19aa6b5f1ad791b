use mathlib.Core.Path.{ap, ◌∙◌}
use lib.ListN.{length}
use Rattle.std.specs.Option.{unwrap_or}
use Rattle.report.proofs.Laws.{trimmed_at}
use Rattle.report.proofs.globals.trimmed_length.Goals as goal

pub returns : goal.returns
returns c = trimmed_at _ (c.unwrap_or.ensures ∙ ap (λ o. unwrap_or o (length c.args.bytes.now)) c.last_byte.ensures)
