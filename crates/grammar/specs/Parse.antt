-- What every parsing definition is made of.
use Rattle.std.specs.Prelude.{ℕ, zero, suc, Bool, List, [], ◌∷◌, ◌++◌, length, eqb}
use Rattle.std.proofs.Math.Option.{Option, none, some}
use Rattle.prelude.specs.Choice.{whether, given}
use Rattle.source.specs.Kinds.{kind_number}
use Rattle.source.specs.declared.Token.{Token}
use Rattle.source.specs.Tokens.{token_at, failure_at}
use Rattle.layout.specs.Limits.{no_failure}

-- a part of the source as a tree, with the offset after it; or a failure's number and offset
pub data Got (A : Type 0) : Type 0 where
  got : A → ℕ → Got A
  failed : ℕ → ℕ → Got A

-- what comes after a part; a failure is the answer, whatever stands behind it (J2)
unfoldable pub and_then : {A B : Type 0} → Got A → (A → ℕ → Got B) → Got B
and_then (got tree next) f = f tree next
and_then (failed n at) f = failed n at

-- the only place where a token fails: by the lowest number (J3), at its first byte (J4)
unfoldable pub fail_at : {A : Type 0} → Token → ℕ → Got A
fail_at t n = failed (failure_at t n) t.at

-- goes on where everything fits, else fails with the limit's number at the token
unfoldable pub within : {A : Type 0} → ℕ → Token → Got A → Got A
within limit t g = whether (eqb limit no_failure) (λ _. g) (λ _. fail_at t limit)

abbrev pub is : ℕ → Token → Bool
is kind t = eqb (kind_number t.kind) kind

-- the token of a kind; any other is 6, a name and the end of the source too (J6, F6)
unfoldable pub expect : ℕ → List ℕ → ℕ → Got Token
expect kind source at =
    let t = token_at source at in
    whether (is kind t) (λ _. got t t.next) (λ _. fail_at t 6)

-- a list in the order of the source, and one more
abbrev pub snoc : {A : Type 0} → List A → A → List A
snoc xs x = xs ++ (x ∷ [])

-- any number of parts: `more` adds one to what is read so far, or is none where no more stands. As many turns as the source has bytes are enough for every use of it: parsing_laws/Turns `TurnsEnough`
unfoldable pub repeat_by : {A : Type 0} → (A → ℕ → Option (Got A)) → ℕ → A → ℕ → Got A
repeat_by more zero done at = got done at
repeat_by more (suc k) done at = given (more done at) (λ g. and_then g (λ longer next. repeat_by more k longer next)) (λ _. got done at)

unfoldable pub repeat : {A : Type 0} → List ℕ → (A → ℕ → Option (Got A)) → A → ℕ → Got A
repeat source more done at = repeat_by more (length source) done at

-- one part more, behind a separator; none where no separator stands
abbrev pub more_separated : {A : Type 0} → List ℕ → ℕ → (A → ℕ → Got A) → A → ℕ → Option (Got A)
more_separated source separator more done n =
    let t = token_at source n in
    whether (is separator t) (λ _. some (more done t.next)) (λ _. none)

-- one part, then any number more, each after a separator
unfoldable pub separated : {A : Type 0} → List ℕ → ℕ → (ℕ → Got A) → (A → ℕ → Got A) → ℕ → Got A
separated source separator first more at =
    and_then (first at) (λ one next. repeat source (more_separated source separator more) one next)
