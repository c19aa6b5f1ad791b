-- The literal pool as the code keeps it: up to 512 words, the count of those that it holds, and the place of a value among them.
use Prim.Native.Nat.{ℕ, zero, suc, ◌+◌, ◌≤◌, ◌<◌}
use mathlib.Core.Path.{◌≡◌, refl, sym, ap, ◌∙◌}
use mathlib.Core.Bool.{Bool, true, false, cond}
use mathlib.Core.List.{List, [], ◌∷◌, ◌++◌}
use Rattle.prelude.specs.Choice.{whether}
use native.Mathlib.Numerals.{add-one}
use native.Mathlib.Omega.{arith}
use borrow.Author.Tests.{ltb-false, lt-ltb, le-ltb}
use lib.ListN.{length, set, take, length-append}
use lib.Seq.{take_all, take_at, take-suc-set}
use Rattle.std.specs.List.{position_or_len}
use Rattle.std.proofs.Common.{Option, Some, None}
use Rattle.std.specs.Option.{unwrap_or}
use Rattle.std.proofs.lemmas.List.Recursion.{is_position_or_len}
use lib.Dec.{eqb, ltb}
use Rattle.layout.specs.Pool.{index_of, added}
use Rattle.layout.specs.Emission.{with_literal}

-- as many words as are held are the words that are held
pub counted : (n : ℕ) (w : List ℕ) → take (length (take n w)) w ≡ take n w
counted zero w = refl
counted (suc n) [] = refl
counted (suc n) (x ∷ w) = ap (λ l. x ∷ l) (counted n w)

-- ---- The place of a value

-- it is the first position at which the value stands
positioned : (v : ℕ) (l : List ℕ) → index_of l v ≡ position_or_len (λ x. eqb x v) l
unfolding index_of
positioned v l = is_position_or_len (λ l. index_of l v) (λ x. eqb x v) refl (λ x xs. step (eqb x v) (index_of xs v)) l
  where
    step : (b : Bool) (n : ℕ) → whether b (λ _. 0) (λ _. suc n) ≡ cond b 0 (1 + n)
    step true n = refl
    step false n = omega arith

pub index_within : (v : ℕ) (l : List ℕ) → index_of l v ≤ length l
unfolding index_of
index_within v [] = omega arith
index_within v (x ∷ xs) = let h = index_within v xs in go (eqb x v) h
  where
    go : (b : Bool) → index_of xs v ≤ length xs → whether b (λ _. 0) (λ _. suc (index_of xs v)) ≤ suc (length xs)
    go true h = omega arith
    go false h = omega (arith, h)

pub placed : (l : List ℕ) (v : ℕ) {r : Option ℕ} → r ≡ cond (ltb (position_or_len (λ x. eqb x v) l) (length l)) (Some (position_or_len (λ x. eqb x v) l)) None → unwrap_or r (length l) ≡ index_of l v
placed l v e = rw (e, positioned v l) (go (ltb (position_or_len (λ x. eqb x v) l) (length l)) refl)
  where
    go : (b : Bool) → ltb (position_or_len (λ x. eqb x v) l) (length l) ≡ b → unwrap_or (cond b (Some (position_or_len (λ x. eqb x v) l)) None) (length l) ≡ position_or_len (λ x. eqb x v) l
    go true q = refl
    go false q = let h = ltb-false _ _ q in let m = index_within v l in let n = positioned v l in omega (arith, h, m, n)

-- ---- A value more

module _ (p : List ℕ) (v i n : ℕ) (held : n ≡ length p) (place : i ≡ index_of p v) where
  pub known : n ≤ 512 → i < n → with_literal p v ≡ p
  unfolding with_literal added
  known l h = rw (← place, ← held, lt-ltb i n h) (take_all 512 p (omega arith))

  pub new : n < 512 → n ≤ i → with_literal p v ≡ p ++ (v ∷ [])
  unfolding with_literal added
  new l h = rw (← place, ← held, le-ltb i n h) (take_all 512 (p ++ (v ∷ [])) (omega (arith, length-append p (v ∷ []))))

  pub full : n ≡ 512 → n ≤ i → with_literal p v ≡ p
  unfolding with_literal added
  full e h = rw (← place, ← held, le-ltb i n h) (take_at p (v ∷ []) 512 (sym held ∙ e))

-- with a word after those that it holds
pub appended : (n : ℕ) (w : List ℕ) (v k : ℕ) → k ≡ length (take n w) → k < length w → take (k + 1) (set w k v) ≡ take n w ++ (v ∷ [])
appended n w v k e h = rw add-one (take-suc-set w k v h ∙ ap (λ l. l ++ (v ∷ [])) (ap (λ j. take j w) e ∙ counted n w))
