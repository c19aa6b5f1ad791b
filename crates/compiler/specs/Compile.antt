-- What `compile` answers, and what it leaves in the lent words.
use Rattle.std.specs.Prelude.{ℕ, ◌≡◌, List, eqb, leb, length, replicate, Ok, Err}
use Rattle.std.specs.Prelude.{Result as Answered}
use Rattle.prelude.specs.Choice.{whether}
use Rattle.compilation.specs.Compile.{Result, compile_def}
use Rattle.parser.specs.declared.Failure.{Failure}
use Rattle.parser.specs.Failures.{cause_of}
use Rattle.compiler.specs.declared.Program.{Program}
use Rattle.layout.specs.Addresses.{memory_words}

-- how much scratch a compile asks for (F2)
abbrev pub scratch_words : ℕ
scratch_words = 6144

-- first what was lent is judged, the image (F1), then scratch (F2), both at 0; the rest, 3 first, is the source's own (J1, J15)
unfoldable pub result_on : List ℕ → List ℕ → List ℕ → Result
result_on source image scratch =
    whether (eqb (length image) memory_words)
    (λ _. whether (leb scratch_words (length scratch)) (λ _. compile_def source) (λ _. Result.failed 2 0))
    (λ _. Result.failed 1 0)

-- ---- The code's answer

abbrev pub Answer : Type 0
Answer = Answered Program Failure

-- the failure of a number, at an offset
abbrev pub failure_with : ℕ → ℕ → Failure
failure_with n at = record { cause = cause_of n; at = at }

abbrev pub accepted_with : ℕ → ℕ → ℕ → Answer
accepted_with entry words globals = Ok (record { entry = entry; words = words; globals = globals })

abbrev pub failed_with : ℕ → ℕ → Answer
failed_with n at = Err (failure_with n at)

-- the values of each case of the answer: entry and the two counts (A11), or the failure's number and offset (C5)
unfoldable pub answer_of : Result → Answer
answer_of (Result.accepted c) = accepted_with c.entry c.words c.globals
answer_of (Result.failed n at) = failed_with n at

-- an accepted source leaves its image; a failed one leaves the image as it was (J13, demand 1c)
unfoldable pub image_after : Result → List ℕ → List ℕ
image_after (Result.accepted c) image = c.image
image_after (Result.failed n at) image = image

-- the answer and the image of a result
abbrev pub Answers : Result → List ℕ → Answer → List ℕ → Type 0
Answers result image r image' = (r ≡ answer_of result) × (image' ≡ image_after result image)

-- A CALL OF `compile`: the answer, the image, and scratch all zeros (J13, demand 1e, 2a, 2b)
pub record CompileCalled (source image scratch : List ℕ) (r : Answer) (image' scratch' : List ℕ) : Type 0 where
  pub answered : r ≡ answer_of (result_on source image scratch)
  pub laid : image' ≡ image_after (result_on source image scratch) image
  pub cleared : scratch' ≡ replicate (length scratch) 0
