-- Bytes of the source, and what is asked of lists of them.
use Rattle.std.specs.Prelude.{ℕ, suc, Bool, true, false, ◌||◌, List, [], ◌∷◌, eqb}
use Rattle.prelude.specs.Choice.{whether, between}

-- the letters, capitals alone (T2); the signs are a table in Tokens
abbrev pub is_letter : ℕ → Bool
is_letter b = between 65 90 b

-- the digits (T2)
abbrev pub is_digit : ℕ → Bool
is_digit b = between 48 57 b

-- the digits of an octal numeral (T8)
abbrev pub is_octal_digit : ℕ → Bool
is_octal_digit b = between 48 55 b

-- what a name goes on with (T7)
abbrev pub is_letter_or_digit : ℕ → Bool
is_letter_or_digit b = is_letter b || is_digit b

-- the blanks: space and newline (T2, T3)
abbrev pub is_blank : ℕ → Bool
is_blank b = eqb b 32 || eqb b 10

-- how many of the first bytes pass a test, as many as can (T4)
unfoldable pub span : (ℕ → Bool) → List ℕ → ℕ
span p [] = 0
span p (b ∷ bs) = whether (p b) (λ _. suc (span p bs)) (λ _. 0)

unfoldable pub same_bytes : List ℕ → List ℕ → Bool
same_bytes [] [] = true
same_bytes [] (c ∷ cs) = false
same_bytes (b ∷ bs) [] = false
same_bytes (b ∷ bs) (c ∷ cs) = whether (eqb b c) (λ _. same_bytes bs cs) (λ _. false)

unfoldable pub starts_with : List ℕ → List ℕ → Bool
starts_with [] bs = true
starts_with (c ∷ cs) [] = false
starts_with (c ∷ cs) (b ∷ bs) = whether (eqb c b) (λ _. starts_with cs bs) (λ _. false)
