-- Numbers as text.
use Rattle.std.specs.Prelude.{ℕ, zero, suc, ◌+◌, ◌-◌, ◌*◌, ◌/◌, ◌%◌, List, [], ◌∷◌, ◌++◌, eqb, ltb, length, replicate}
use Rattle.std.proofs.Math.Option.{Option, none, some}
use Rattle.prelude.specs.Choice.{whether, between}

abbrev pub newline : List ℕ
newline = 10 ∷ []

-- so many of a number's octal digits, from the highest
unfoldable pub octal_by : ℕ → ℕ → List ℕ
octal_by zero n = []
octal_by (suc k) n = octal_by k (n / 8) ++ ((48 + n % 8) ∷ [])

-- six of them (P3)
abbrev pub octal : ℕ → List ℕ
octal n = octal_by 6 n

-- a number in decimal, with as many digits as it has, but no more than the fuel (P3)
unfoldable pub decimal_by : ℕ → ℕ → List ℕ
decimal_by zero n = []
decimal_by (suc k) n = whether (ltb n 10) (λ _. []) (λ _. decimal_by k (n / 10)) ++ ((48 + n % 10) ∷ [])

abbrev pub decimal : ℕ → List ℕ
decimal n = decimal_by 20 n

-- a word as a signed number
unfoldable pub signed : ℕ → List ℕ
signed w = whether (ltb w 32768) (λ _. decimal w) (λ _. 45 ∷ decimal (65536 - w))

-- ---- In columns: spaces fill them, and what is wider than they are is not cut

-- a text left in so many columns (B2)
unfoldable pub left_in : ℕ → List ℕ → List ℕ
left_in width text = text ++ replicate (width - length text) 32

-- a number right in so many columns (B2)
unfoldable pub right_in : ℕ → ℕ → List ℕ
right_in width n = replicate (width - length (decimal n)) 32 ++ decimal n

-- the number that digits go on to show, behind those that came before; nothing, where another byte is among them
unfoldable pub digits_from : ℕ → List ℕ → Option ℕ
digits_from n [] = some n
digits_from n (b ∷ bs) = whether (between 48 57 b) (λ _. digits_from (10 * n + (b - 48)) bs) (λ _. none)

-- the number that columns show: spaces, then digits, at least one; anything else shows none (demand 2e)
unfoldable pub shown : List ℕ → Option ℕ
shown [] = none
shown (b ∷ bs) = whether (eqb b 32) (λ _. shown bs) (λ _. digits_from 0 (b ∷ bs))
