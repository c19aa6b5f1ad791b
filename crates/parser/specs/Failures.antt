-- The failures of a source by their numbers.
use Rattle.std.specs.Prelude.{ℕ, ◌≡◌, eqb}
use Rattle.prelude.specs.Choice.{whether}
use Rattle.grammar.specs.Parse.{Got}
use Rattle.grammar.specs.Parse.Got.{failed}
use Rattle.parser.specs.declared.Cause.{Cause}
use Rattle.parser.specs.declared.Cause.TheVariants.{WrongImage, ShortScratch, LongSource, UnknownByte, OutOfRange, NotAllowed, WrongName, NameTaken, TooDeep, TooManyNames, NoGlobalLeft, SectorFull, MemoryFull, TooManyValues, Other}
use Rattle.parser.specs.declared.Failure.{Failure}

-- THE NUMBER of each cause (F1 to F14)
abbrev pub number_of : Cause → ℕ
number_of WrongImage = 1
number_of ShortScratch = 2
number_of LongSource = 3
number_of UnknownByte = 4
number_of OutOfRange = 5
number_of NotAllowed = 6
number_of WrongName = 7
number_of NameTaken = 8
number_of TooDeep = 9
number_of TooManyNames = 10
number_of NoGlobalLeft = 11
number_of SectorFull = 12
number_of MemoryFull = 13
number_of TooManyValues = 14
number_of (Other n) = n

-- the cause that has a number
unfoldable pub cause_of : ℕ → Cause
cause_of n =
    whether (eqb n 1) (λ _. WrongImage) λ _.
    whether (eqb n 2) (λ _. ShortScratch) λ _.
    whether (eqb n 3) (λ _. LongSource) λ _.
    whether (eqb n 4) (λ _. UnknownByte) λ _.
    whether (eqb n 5) (λ _. OutOfRange) λ _.
    whether (eqb n 6) (λ _. NotAllowed) λ _.
    whether (eqb n 7) (λ _. WrongName) λ _.
    whether (eqb n 8) (λ _. NameTaken) λ _.
    whether (eqb n 9) (λ _. TooDeep) λ _.
    whether (eqb n 10) (λ _. TooManyNames) λ _.
    whether (eqb n 11) (λ _. NoGlobalLeft) λ _.
    whether (eqb n 12) (λ _. SectorFull) λ _.
    whether (eqb n 13) (λ _. MemoryFull) λ _.
    whether (eqb n 14) (λ _. TooManyValues) λ _.
    Other n

-- a failure is the one that parsing ends in: with its number and offset, and of the causes with that number the number's own, so that nothing of it is free
abbrev pub Fails : {A : Type 0} → Failure → Got A → Type 0
Fails e g = (g ≡ failed (number_of e.cause) e.at) × (e.cause ≡ cause_of (number_of e.cause))
