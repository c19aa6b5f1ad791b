-- Comparing bytes.
use mathlib.Core.Path.{◌≡◌, refl}
use Prim.Native.Nat.{ℕ}
use mathlib.Core.Bool.{Bool, true, false, ◌&&◌}
use mathlib.Core.List.{List, [], ◌∷◌}
use borrow.Author.Tests.{eqb-true}
use lib.Dec.{T, eqb}
use Rattle.std.specs.Str.{bytes_eq}
use Rattle.prelude.specs.Choice.{whether}
use Rattle.source.specs.Bytes.{same_bytes}

-- what `==` of two slices says
pub same_is : (a b : List ℕ) → bytes_eq a b ≡ same_bytes a b
unfolding same_bytes
same_is [] [] = refl
same_is [] (y ∷ b) = refl
same_is (x ∷ a) [] = refl
same_is (x ∷ a) (y ∷ b) = go (eqb x y) (same_is a b)
  where
    go : (t : Bool) → bytes_eq a b ≡ same_bytes a b → (t && bytes_eq a b) ≡ whether t (λ _. same_bytes a b) (λ _. false)
    go true e = e
    go false e = refl

pub equal : (a b : List ℕ) → T (same_bytes a b) → a ≡ b
unfolding same_bytes
equal [] [] t = refl
equal [] (y ∷ b) t = absurd t
equal (x ∷ a) [] t = absurd t
equal (x ∷ a) (y ∷ b) t = go (eqb x y) refl (equal a b) t
  where
    go : (u : Bool) → eqb x y ≡ u → (T (same_bytes a b) → a ≡ b) → T (whether u (λ _. same_bytes a b) (λ _. false)) → x ∷ a ≡ y ∷ b
    go true e f t = let h = eqb-true x y e in let r = f t in cc
    go false e f t = absurd t
