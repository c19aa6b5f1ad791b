-- The machine's failures by their numbers.
use Rattle.std.specs.Prelude.{ℕ, Bool, true, false, List, ◌++◌, cond, codes, ◌==◌}
use Rattle.std.specs.Fmt.{decimal}
use Rattle.machine.specs.declared.failure.Failure.{Failure}
use Rattle.machine.specs.declared.failure.Failure.TheVariants.{WrongImage, UnknownWord, LongChain, OverBudget, WrongP, WrongCooperative}
use Rattle.machine.specs.declared.Outcome.{Outcome}
use Rattle.machine.specs.declared.Outcome.TheVariants.{Halted, Spent, Failed}

-- an image of another length (F1)
abbrev pub wrong_image : ℕ
wrong_image = 1

-- no instruction at P (F20)
abbrev pub unknown_word : ℕ
unknown_word = 20

-- a chain of more than 16 indirect words (F21)
abbrev pub long_chain : ℕ
long_chain = 21

-- more steps asked for than a run may make (F22)
abbrev pub over_budget : ℕ
over_budget = 22

-- P outside of the image (F23)
abbrev pub wrong_p : ℕ
wrong_p = 23

-- a cooperative above 15 (F27)
abbrev pub wrong_cooperative : ℕ
wrong_cooperative = 27

-- each failure's number
abbrev pub number_of : Failure → ℕ
number_of WrongImage = wrong_image
number_of UnknownWord = unknown_word
number_of LongChain = long_chain
number_of OverBudget = over_budget
number_of WrongP = wrong_p
number_of WrongCooperative = wrong_cooperative

-- and its words
abbrev pub words_of : Failure → List ℕ
words_of WrongImage = codes "the image has not 16,384 words"
words_of UnknownWord = codes "the word at P is no instruction"
words_of LongChain = codes "more than 16 indirect words in a row"
words_of OverBudget = codes "budget above 1,000,000 steps"
words_of WrongP = codes "P is outside the 16,384 words"
words_of WrongCooperative = codes "cooperative above 15"

-- an outcome in words
abbrev pub outcome_text : Outcome → List ℕ
outcome_text Halted = codes "halted"
outcome_text Spent = codes "spent"
outcome_text (Failed f) = codes "failed " ++ decimal (number_of f)

-- the failure's number, or 0 (C5)
abbrev pub failure_of : Outcome → ℕ
failure_of Halted = 0
failure_of Spent = 0
failure_of (Failed f) = number_of f

-- every number but 20 and 21 refuses a run (R7); 0 is no failure's number
abbrev pub is_refusal : ℕ → Bool
is_refusal n = cond (n == 0) false (cond (n == unknown_word) false (cond (n == long_chain) false true))

-- whether a run that ended so was refused (R7)
abbrev pub refused : Outcome → Bool
refused o = is_refusal (failure_of o)
