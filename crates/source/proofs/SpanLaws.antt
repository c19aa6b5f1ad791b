-- Spans of bytes that pass a test, for every test.
use mathlib.Core.Path.{◌≡◌, refl, ◌∙◌}
use Prim.Native.Nat.{ℕ, suc, ◌+◌, ◌≤◌}
use mathlib.Core.Bool.{Bool, true, false, cond}
use mathlib.Core.List.{List, [], ◌∷◌}
use native.Mathlib.Omega.{arith}
use lib.ListN.{length, drop, length-drop}
use Rattle.std.specs.List.{prefix_len}
use Rattle.prelude.specs.Choice.{whether}
use Rattle.source.specs.Bytes.{span}

-- what std's words say of the front that passes
pub of_front : (p : ℕ → Bool) (bs : List ℕ) (n : ℕ) → n ≡ prefix_len p bs → n ≡ span p bs
unfolding span
of_front p bs n e = e ∙ same bs
  where
    same : (bs : List ℕ) → prefix_len p bs ≡ span p bs
    same [] = refl
    same (b ∷ bs) = go (p b) (same bs)
      where
        go : (t : Bool) → prefix_len p bs ≡ span p bs → cond t (1 + prefix_len p bs) 0 ≡ whether t (λ _. suc (span p bs)) (λ _. 0)
        go true e = omega arith
        go false e = refl

pub most : (p : ℕ → Bool) (l : List ℕ) → span p l ≤ length l
unfolding span
most p [] = omega arith
most p (b ∷ bs) = go (p b) (most p bs)
  where
    go : (t : Bool) → span p bs ≤ length bs → whether t (λ _. suc (span p bs)) (λ _. 0) ≤ suc (length bs)
    go true h = omega arith
    go false h = omega arith

-- a span from an offset in the source ends in the source
pub within : (p : ℕ → Bool) (s : List ℕ) (i : ℕ) → i ≤ length s → i + span p (drop i s) ≤ length s
within p s i h = omega (arith, most p (drop i s), length-drop i s)
