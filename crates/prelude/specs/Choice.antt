-- Choice, in the shapes that every definition uses: by a test, by what may be there, by a key of a table.
use Rattle.std.specs.Prelude.{ℕ, Bool, true, false, ◌&&◌, List, [], ◌∷◌, leb}
use Rattle.std.proofs.Math.Option.{Option, none, some}

-- the first of two where a test holds, else the second; only the one that is chosen is computed
abbrev pub whether : {A : Type 0} → Bool → (Unit {0} → A) → (Unit {0} → A) → A
whether true f g = f tt
whether false f g = g tt

-- what is there goes to the first of two, else the second is computed
abbrev pub given : {A B : Type 0} → Option A → (A → B) → (Unit {0} → B) → B
given (some a) f g = f a
given none f g = g tt

-- the first row of a table whose key passes a test
unfoldable pub find : {K A : Type 0} → (K → Bool) → List (K × A) → Option (K × A)
find p [] = none
find p (r ∷ rs) = whether (p r.0) (λ _. some r) (λ _. find p rs)

abbrev pub between : ℕ → ℕ → ℕ → Bool
between low high n = leb low n && leb n high
