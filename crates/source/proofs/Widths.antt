-- Where a keyword ends.
use mathlib.Core.Path.{◌≡◌, refl}
use Prim.Native.Nat.{ℕ, ◌+◌, min}
use mathlib.Core.Bool.{true, false}
use mathlib.Core.List.{List, [], ◌∷◌}
use native.Mathlib.Omega.{arith}
use lib.ListN.{length, take, drop}
use Rattle.prelude.specs.Text.{bytes}
use Rattle.std.specs.Str.{bytes_eq}
use Rattle.source.specs.Bytes.{is_letter, is_digit, span}
use Rattle.source.specs.Keywords.{keyword_length}
use Rattle.source.proofs.Same.{same_is}

at_most_one : (bs : List ℕ) → take (min (length bs) 1) bs ≡ take 1 bs
at_most_one [] = refl
at_most_one (b ∷ bs) = let e : min (length (b ∷ bs)) 1 ≡ 1 = omega arith in rw e

module _ (bs : List ℕ) (n : ℕ) (e : n ≡ span is_letter bs) where
  pub sense : (m : ℕ) → bytes_eq (take n bs) (bytes "SENSE") ≡ true → m ≡ span is_digit (take (min (length (drop n bs)) 1) (drop n bs)) → n + m ≡ keyword_length bs
  unfolding keyword_length
  sense m t q = rw (← e, ← same_is, t, q, at_most_one)

  pub letters : bytes_eq (take n bs) (bytes "SENSE") ≡ false → n ≡ keyword_length bs
  unfolding keyword_length
  letters t = rw (← e, ← same_is, t)

pub ruleset for_keyword_width = (sense, letters)
