-- The listing as a text, and what is written of it.
use Rattle.std.specs.Prelude.{ℕ, ◌≤◌, ◌≡◌, List, ◌++◌, length}
use Rattle.std.proofs.lemmas.List.Edits.{sets}
use Rattle.digits.specs.Digits.{octal, decimal}
use Rattle.prelude.specs.Text.{bytes}
use Rattle.text.specs.Wrote.{largest}
use Rattle.text.specs.Adds.{Adds}
use Rattle.text.specs.declared.Text.{Text}
use Rattle.tree.specs.Tree.{Program}
use Rattle.compilation.specs.Compile.{Result}
use Rattle.compilation.specs.Listing.{line, listing_def}
use Rattle.std.specs.Prelude.{Ok, Err}
use Rattle.parser.specs.Failures.{number_of}
use Rattle.compiler.specs.Compile.{result_on, answer_of, image_after, Answer}

-- the listing's parts, as in `listing_def`: a word's line (P2),
unfoldable pub word_line : List ℕ → ℕ → ℕ → List ℕ
word_line name at word = name ++ (octal at ++ line (bytes ":") (octal word))

-- the first two lines, all of a failure (P1, P4),
unfoldable pub result_lines : ℕ → ℕ → List ℕ
result_lines number at = line (bytes "result=") (decimal number) ++ line (bytes "at=") (decimal at)

-- and the next three (P1)
unfoldable pub count_lines : ℕ → ℕ → ℕ → List ℕ
count_lines entry words globals = line (bytes "entry=") (octal entry) ++ (line (bytes "words=") (decimal words) ++ line (bytes "globals=") (decimal globals))

-- what an answer of `compile` and its image say of a result: all but the program, which no line depends on
abbrev pub result_for : Program → Answer → List ℕ → Result
result_for program (Ok c) image =
    Result.accepted (record { program = program; image = image; entry = c.entry; words = c.words; globals = c.globals })
result_for program (Err e) image = Result.failed (number_of e.cause) e.at

-- the listing is added, and is shorter than the largest offset
abbrev pub AddsListing : Answer → List ℕ → Text → Text → Type 0
AddsListing answer image before after =
    (program : Program)
    → Adds before after (listing_def (result_for program answer image)) × (length (listing_def (result_for program answer image)) ≤ largest)

-- the listing stands at the buffer's start, as far as it goes, and its length is answered
abbrev pub Listed : Answer → List ℕ → List ℕ → List ℕ → ℕ → Type 0
Listed answer image before after next =
    (program : Program)
    → (after ≡ sets before 0 (listing_def (result_for program answer image))) × (next ≡ length (listing_def (result_for program answer image)))

-- no listing is longer: five lines of 9 + 5 + 13 + 12 + 12 bytes, then 16 bytes for each of at most 384 globals and 15,871 words of code and pool (P1, P2)
abbrev pub longest : ℕ
longest = 260131

pub record ListingLaws : Type 0 where
  -- of what `compile` answers and leaves for a result, the lines are that result's
  pub same : (result : Result) (image : List ℕ) (program : Program) → listing_def (result_for program (answer_of result) (image_after result image)) ≡ listing_def result
  -- the listing of every call of `compile` fits in so many bytes, of failures 1 and 2 too, which are not the source's own
  pub fits : (source image scratch : List ℕ) → length (listing_def (result_on source image scratch)) ≤ longest
