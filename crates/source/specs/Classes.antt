-- The classes of bytes that the code reads spans of.
use Rattle.std.specs.Prelude.{ℕ, Bool}
use Rattle.source.specs.Bytes.{is_letter, is_digit, is_octal_digit, is_letter_or_digit, is_blank}
use Rattle.source.specs.declared.span.Class.{Class}
use Rattle.source.specs.declared.span.Class.TheVariants.{Blank, Digit, OctalDigit, Letter, LetterOrDigit}

abbrev pub passes : Class → ℕ → Bool
passes Blank = is_blank
passes Digit = is_digit
passes OctalDigit = is_octal_digit
passes Letter = is_letter
passes LetterOrDigit = is_letter_or_digit
