-- Members of a list of numbers, by the decoder's test and by bounds.
use Prim.Native.Nat.{ℕ, zero, suc, ◌+◌, ◌≤◌}
use mathlib.Core.Path.{◌≡◌, refl, ap, sym, ◌∙◌}
use mathlib.Core.Logic.{◌⊎◌, inl, inr}
use mathlib.Core.Bool.{Bool, true, false, ◌&&◌, ◌||◌, false≢true, or_assoc, and-eq-true_iff}
use mathlib.Core.List.{List, [], ◌∷◌, ◌++◌, Memᴰ}
use native.Mathlib.Omega.{arith}
use lib.Dec.{eqb, leb}
use borrow.Author.Tests.{eqb-true, eqb-false, eq-eqb, leb-true, le-leb}
use Rattle.instruction.specs.Decode.{is_in}

pub or_either : (a b : Bool) → (a || b) ≡ true → (a ≡ true) ⊎ (b ≡ true)
or_either true b e = inl refl
or_either false b e = inr e

pub or_right : (a : Bool) {b : Bool} → b ≡ true → (a || b) ≡ true
or_right true e = refl
or_right false e = e

-- the test and the members
pub in_member : (n : ℕ) (l : List ℕ) → is_in n l ≡ true → Memᴰ n l
in_member n [] e = absurd (false≢true e)
in_member n (m ∷ ms) e = by (or_either (eqb n m) (is_in n ms) e) (in_member n ms)
  where
    by : (eqb n m ≡ true) ⊎ (is_in n ms ≡ true) → (is_in n ms ≡ true → Memᴰ n ms) → Memᴰ n (m ∷ ms)
    by (inl h) again = Memᴰ.head (eqb-true n m h)
    by (inr h) again = Memᴰ.tail (again h)

pub member_in : (n : ℕ) (l : List ℕ) → Memᴰ n l → is_in n l ≡ true
member_in n (m ∷ ms) (Memᴰ.head e) = ap (λ (b : Bool). b || is_in n ms) (eq-eqb n m e)
member_in n (m ∷ ms) (Memᴰ.tail h) = or_right (eqb n m) (member_in n ms h)
member_in n [] x' = elim x' [ ]

-- the numbers from low to low + k, and two such lists
unfoldable pub range : ℕ → ℕ → List ℕ
range low zero = low ∷ []
range low (suc k) = low ∷ range (suc low) k

in_bounds : (n low k : ℕ) → is_in n (range low k) ≡ true → (low ≤ n) × (n ≤ low + k)
unfolding range
in_bounds n low zero e = by (or_either (eqb n low) false e)
  where
    by : (eqb n low ≡ true) ⊎ (false ≡ true) → (low ≤ n) × (n ≤ low + zero)
    by (inl h) = let q = eqb-true n low h in (omega arith, omega arith)
    by (inr h) = absurd (false≢true h)
in_bounds n low (suc k) e = by (or_either (eqb n low) (is_in n (range (suc low) k)) e) (in_bounds n (suc low) k)
  where
    by : (eqb n low ≡ true) ⊎ (is_in n (range (suc low) k) ≡ true) → (is_in n (range (suc low) k) ≡ true → (suc low ≤ n) × (n ≤ suc low + k))
        → (low ≤ n) × (n ≤ low + suc k)
    by (inl h) again = let q = eqb-true n low h in (omega arith, omega arith)
    by (inr h) again = let b = again h in (omega (arith, b.0), omega (arith, b.1))

bounds_in : (n low k : ℕ) → low ≤ n → n ≤ low + k → is_in n (range low k) ≡ true
unfolding range
bounds_in n low zero l h = ap (λ (b : Bool). b || false) (eq-eqb n low (omega arith))
bounds_in n low (suc k) l h = by (eqb n low) refl (bounds_in n (suc low) k)
  where
    by : (b : Bool) → eqb n low ≡ b → (suc low ≤ n → n ≤ suc low + k → is_in n (range (suc low) k) ≡ true) → (b || is_in n (range (suc low) k)) ≡ true
    by true e again = refl
    by false e again = let d = eqb-false n low e in again (omega arith) (omega arith)

same : (a b : Bool) → (a ≡ true → b ≡ true) → (b ≡ true → a ≡ true) → a ≡ b
same true b f g = sym (f refl)
same false true f g = g refl
same false false f g = refl

-- a range is decided by its bounds
pub in_range : (n low k : ℕ) → is_in n (range low k) ≡ (leb low n && leb n (low + k))
in_range n low k =
    same _ _
    (λ e. let b = in_bounds n low k e in ap (λ (c : Bool). c && leb n (low + k)) (le-leb low n b.0) ∙ le-leb n (low + k) b.1)
    (λ e. let b = (and-eq-true_iff (leb low n) _).0 e in bounds_in n low k (leb-true low n b.0) (leb-true n (low + k) b.1))

pub in_either : (n : ℕ) (l m : List ℕ) → is_in n (l ++ m) ≡ (is_in n l || is_in n m)
in_either n [] m = refl
in_either n (x ∷ l) m = ap (λ (b : Bool). eqb n x || b) (in_either n l m) ∙ sym (or_assoc (eqb n x) (is_in n l) (is_in n m))
