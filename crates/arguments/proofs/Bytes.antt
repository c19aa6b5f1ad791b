-- Bytes that all pass a test, and a count of turns, byte by byte.
use Prim.Native.Nat.{ℕ, ◌+◌, ◌-◌, ◌*◌, ◌≤◌, ◌<◌}
use mathlib.Core.Path.{◌≡◌, refl, ap}
use mathlib.Core.Bool.{Bool, true, false, ◌&&◌}
use mathlib.Core.List.{List, [], ◌∷◌}
use Rattle.std.specs.Prelude.{Option, Some, None}
use Rattle.std.specs.List.{list_all}
use native.Mathlib.Numerals.{add-one}
use native.Mathlib.Omega.{arith}
use borrow.Author.Tests.{le-leb, lt-leb, leb-true}
use lib.Dec.{leb}
use lib.ListN.{length, get_or, drop, drop_of_length-le}
use lib.Seq.{drop-cons}
use Rattle.source.specs.Bytes.{is_digit}
use Rattle.source.specs.Tokens.{number}
use Rattle.prelude.specs.Text.{all}
use Rattle.arguments.specs.Arguments.{count_of}

first : (s : List ℕ) (i : ℕ) → i < length s → drop i s ≡ get_or s i 0 ∷ drop (i + 1) s
first s i h = rw (add-one, drop-cons s i 0 h)

-- ---- All bytes

pub same_all : (p : ℕ → Bool) (s : List ℕ) → list_all p s ≡ all p s
unfolding all
same_all p [] = refl
same_all p (b ∷ bs) = ap (λ t. p b && t) (same_all p bs)

-- ---- A count of turns

-- a digit's bounds, which make its value one of 0 to 9
pub bounds : (b : ℕ) → is_digit b ≡ true → (48 ≤ b) × (b ≤ 57)
bounds b h = by_tests (leb 48 b) (leb b 57) refl refl h
  where
    by_tests : (x y : Bool) → leb 48 b ≡ x → leb b 57 ≡ y → x && y ≡ true → (48 ≤ b) × (b ≤ 57)
    by_tests true true e f h = (leb-true 48 b e, leb-true b 57 f)
    by_tests true false e f h = let z : ◌≡◌ {A = ℕ} 0 1 = cc in absurd (omega arith)
    by_tests false y e f h = let z : ◌≡◌ {A = ℕ} 0 1 = cc in absurd (omega arith)

-- by the number read so far and the bytes that are left
abbrev pub count_from : ℕ → List ℕ → Option ℕ
count_from n bs = count_of (all is_digit bs) (number 10 n bs)

grows : (bs : List ℕ) (n : ℕ) → n ≤ number 10 n bs
unfolding number
grows [] n = omega arith
grows (b ∷ bs) n = let m = grows bs (10 * n + (b - 48)) in omega arith

too_many : (digits : Bool) (n : ℕ) → 1000000 < n → count_of digits n ≡ None
too_many false n h = refl
too_many true n h = rw (le-leb 1 n (omega arith), lt-leb n 1000000 h)

pub over : (n : ℕ) (bs : List ℕ) → 1000000 < n → count_from n bs ≡ None
over n bs h = let m = grows bs n in too_many (all is_digit bs) (number 10 n bs) (omega arith)

pub counted : (n : ℕ) → 0 < n → n ≤ 1000000 → count_of true n ≡ Some n
counted n h l = rw (le-leb 1 n h, le-leb n 1000000 l)

module _ (s : List ℕ) (i n : ℕ) where
  pub digit : i < length s → is_digit (get_or s i 0) ≡ true → count_from n (drop i s) ≡ count_from (10 * n + (get_or s i 0 - 48)) (drop (i + 1) s)
  unfolding all number
  digit h e = rw (first s i h, e)

  pub other : i < length s → is_digit (get_or s i 0) ≡ false → count_from n (drop i s) ≡ None
  unfolding all number
  other h e = rw (first s i h, e)

  pub done : length s ≤ i → count_from n (drop i s) ≡ count_of true n
  unfolding all number
  done h = rw (drop_of_length-le s h)

pub ruleset for_switches = (same_all)

pub ruleset for_turns = (digit, other, over, done, counted, bounds)
