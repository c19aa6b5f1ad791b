-- The words that a failed page is printed with.
use Rattle.std.specs.Prelude.{◌≡◌}
use Rattle.failure_report.specs.Failure as table
use Rattle.page.specs.Failures.{number_of, words_of}
use Rattle.page.specs.declared.failure.Failure.{Failure}

-- A FAILURE'S WORDS: what `page` has for it is what the table of all failures has for its number (O3)
abbrev pub FailuresInWords : Type 0
FailuresInWords = (f : Failure) → words_of f ≡ table.words_of (number_of f)
