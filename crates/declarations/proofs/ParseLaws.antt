-- Results of parsing: what they came from, and limits.
use Prim.Native.Nat.{ℕ}
use mathlib.Core.Path.{◌≡◌, refl}
use mathlib.Core.Bool.{Bool, true, false}
use borrow.Author.Tests.{eq-eqb, ne_eqb}
use lib.Dec.{eqb}
use Rattle.prelude.specs.Choice.{whether}
use Rattle.source.specs.declared.Token.{Token}
use Rattle.grammar.specs.Parse.{Got, and_then, fail_at, within}
use Rattle.grammar.specs.Parse.Got.{got, failed}
use Rattle.parser.proofs.ReadLaws.{never}

pub then_inv : {A B : Type 0} (g : Got A) (f : A → ℕ → Got B) {t : B} {n : ℕ} → and_then g f ≡ got t n → (x : A) × (k : ℕ) × (g ≡ got x k) × (f x k ≡ got t n)
unfolding and_then
then_inv (got x k) f h = (x, k, refl, h)
then_inv (failed k a) f h = absurd (never h refl)

pub within_on : {A : Type 0} (limit : ℕ) (t : Token) (g : Got A) → limit ≡ 0 → within limit t g ≡ g
unfolding within
within_on limit t g e = rw (eq-eqb limit 0 e)

pub within_failed : {A : Type 0} (limit : ℕ) (t : Token) (g : Got A) → (limit ≡ 0 → ⊥) → within limit t g ≡ fail_at t limit
unfolding within
within_failed limit t g e = rw (ne_eqb limit 0 e)

-- what comes after a limit is under it
pub within_then : {A B : Type 0} (limit : ℕ) (t : Token) (g : Got A) (f : A → ℕ → Got B) → and_then (within limit t g) f ≡ within limit t (and_then g f)
unfolding within and_then fail_at
within_then limit t g f = go (eqb limit 0)
  where
    go : (b : Bool) → and_then (whether b (λ _. g) (λ _. fail_at t limit)) f ≡ whether b (λ _. and_then g f) (λ _. fail_at t limit)
    go true = refl
    go false = refl
