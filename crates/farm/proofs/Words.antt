-- The table, looked up at the numbers of a page's failures.
use mathlib.Core.Path.{refl}
use Rattle.prelude.specs.Choice.{find}
use Rattle.failure_report.specs.Failure as table
use Rattle.page.specs.declared.failure.Failure.TheVariants.{BadLitres, BadName, BadLists}
use Rattle.farm.specs.Words.{FailuresInWords}

pub in_words : FailuresInWords
unfolding table.words_of find
in_words BadLitres = refl
in_words BadName = refl
in_words BadLists = refl
