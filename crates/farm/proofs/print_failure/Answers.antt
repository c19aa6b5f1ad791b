use mathlib.Core.Path.{sym, ap, ◌∙◌}
use Rattle.std.specs.Prelude.{Some}
use Rattle.failure_report.specs.Failure as table
use Rattle.farm.proofs.Words.{in_words}
use Rattle.farm.proofs.print_failure.Goals as goal

pub print_in_words-requires : goal.print_in_words-requires
print_in_words-requires g c = ap Some (in_words c.args.failure ∙ ap table.words_of (sym c.number.ensures))

pub returns : goal.returns
returns g c = in_words
