-- Lines of a source, byte by byte.
use Prim.Native.String.{String}
use mathlib.Core.Option.{none}
use Prim.Native.Nat.{ℕ, zero, suc, ◌+◌, ◌-◌, ◌≤◌, ◌<◌, min}
use mathlib.Core.Path.{◌≡◌, refl, sym, ap, ◌∙◌}
use mathlib.Core.Bool.{Bool, true, false, cond, not}
use mathlib.Core.List.{List, [], ◌∷◌, ◌++◌, map}
use native.Mathlib.Nat.{add-zero}
use native.Mathlib.Numerals.{add-one}
use native.Mathlib.Omega.{arith}
use borrow.Author.Tests.{ne_eqb, leb-true, leb-false, ltb-false}
use lib.Dec.{eqb, leb, ltb}
use lib.ListN.{length, get_or, take, drop, get_or-eq_default}
use lib.Seq.{take-suc}
use Rattle.std.specs.List.{position, position_or_len, prefix_len, count_by}
use Rattle.std.specs.Prelude.{Some, None, reverse}
use Rattle.std.specs.Option.{unwrap_or}
use Rattle.std.proofs.lemmas.List.{reverse-append, length-reverse, length-take, length-drop, take_all}
use Rattle.std.proofs.lemmas.List.Sums.{prefix_len-le-length, count_by_more_yes, count_by_more_no}
use Rattle.prelude.specs.Choice.{find, whether}
use Rattle.prelude.specs.Text.{bytes}
use Rattle.source.specs.Bytes.{span}
use Rattle.failure_report.specs.Failure.{failures, words_of}
use Rattle.failure_report.specs.Place.{is_newline, newlines_before, line_start, line_length, line_from, visible}
use Rattle.std.proofs.lemmas.List.{map-append}
use Rattle.text.specs.Adds.{Adds}
use Rattle.text.specs.declared.Text.{Text}
use Rattle.text.proofs.Laws.{and_then, same_added}

-- ---- The first newline, and the last

-- where there is none, the whole length
pub first_place : (p : ℕ → Bool) (xs : List ℕ) → unwrap_or (position p xs) (length xs) ≡ position_or_len p xs
first_place p xs = go (ltb (position_or_len p xs) (length xs)) refl
  where
    go : (b : Bool) → ltb (position_or_len p xs) (length xs) ≡ b → unwrap_or (cond b (Some (position_or_len p xs)) None) (length xs) ≡ position_or_len p xs
    go true q = refl
    go false q = omega (arith, ltb-false (position_or_len p xs) (length xs) q, prefix_len-le-length (λ x. not (p x)) xs)

span_prefix : (p : ℕ → Bool) (xs : List ℕ) → span p xs ≡ prefix_len p xs
unfolding span
span_prefix p [] = refl
span_prefix p (x ∷ xs) = go (p x) (span_prefix p xs)
  where
    go : (b : Bool) → span p xs ≡ prefix_len p xs → whether b (λ _. suc (span p xs)) (λ _. 0) ≡ cond b (1 + prefix_len p xs) 0
    go true e = omega (arith, e)
    go false e = refl

most_of : (p : ℕ → Bool) (xs : List ℕ) → span p xs ≤ length xs
most_of p xs = omega (arith, span_prefix p xs, prefix_len-le-length p xs)

-- how many bytes of a line there are
to_newline : (xs : List ℕ) → unwrap_or (position is_newline xs) (length xs) ≡ line_length xs
to_newline xs = first_place is_newline xs ∙ sym (span_prefix (λ b. not (is_newline b)) xs)

-- ---- Up to an offset

inside : (f : ℕ → ℕ) (l : ℕ) → ((n : ℕ) → l ≤ n → f (suc n) ≡ f n) → (n : ℕ) → f n ≡ f (min n l)
inside f l h zero = ap f (omega arith)
inside f l h (suc n) = go (leb (suc n) l) refl (inside f l h n)
  where
    go : (b : Bool) → leb (suc n) l ≡ b → f n ≡ f (min n l) → f (suc n) ≡ f (min (suc n) l)
    go true q e = ap f (omega (arith, leb-true (suc n) l q))
    go false q e = let k = leb-false (suc n) l q in h n (omega (arith, k)) ∙ e ∙ ap f (omega (arith, k))

-- ---- Past the end of a source no newline stands

module _ (s : List ℕ) where
  no_newline : (n : ℕ) → length s ≤ n → is_newline (get_or s n 0) ≡ false
  no_newline n h = rw (get_or-eq_default s 0 {n = n} h)

  counted_inside : (n : ℕ) → n ≤ length s → newlines_before s n ≡ count_by is_newline (take n s)
  unfolding newlines_before
  counted_inside zero h = refl
  counted_inside (suc n) h = go (is_newline (get_or s n 0)) refl (counted_inside n (omega (arith, h)))
    where
      one_longer : count_by is_newline (take (n + 1) s) ≡ count_by is_newline (take (suc n) s)
      one_longer = ap (λ k. count_by is_newline (take k s)) (add-one n)

      go : (b : Bool) → is_newline (get_or s n 0) ≡ b → newlines_before s n ≡ count_by is_newline (take n s)
          → newlines_before s n + whether b (λ _. 1) (λ _. 0) ≡ count_by is_newline (take (suc n) s)
      go true q e = ap (λ k. k + 1) e ∙ sym (count_by_more_yes is_newline s n 0 (omega (arith, h)) q) ∙ one_longer
      go false q e = add-zero (newlines_before s n) ∙ e ∙ sym (count_by_more_no is_newline s n 0 (omega (arith, h)) q) ∙ one_longer

  past : (n : ℕ) → length s ≤ n → newlines_before s (suc n) ≡ newlines_before s n
  unfolding newlines_before
  past n h = rw (no_newline n h, add-zero)

  pub counted : (n : ℕ) → count_by is_newline (take (min n (length s)) s) ≡ newlines_before s n
  counted n = sym (counted_inside (min n (length s)) (omega arith)) ∙ sym (inside (newlines_before s) (length s) past n)

  starts_inside : (n : ℕ) → n ≤ length s → line_start s n ≡ n - position_or_len is_newline (reverse (take n s))
  unfolding line_start
  starts_inside zero h = refl
  starts_inside (suc n) h =
      rw (ap reverse (take-suc s n 0 (omega (arith, h))) ∙ reverse-append (take n s) (get_or s n 0 ∷ [])) (go (is_newline (get_or s n 0)) (starts_inside n (omega (arith, h))))
    where
      behind : ℕ
      behind = position_or_len is_newline (reverse (take n s))

      go : (b : Bool) → line_start s n ≡ n - behind → whether b (λ _. suc n) (λ _. line_start s n) ≡ suc n - cond (not b) (1 + behind) 0
      go true e = omega arith
      go false e = omega (arith, e)

  starts_past : (n : ℕ) → length s ≤ n → line_start s (suc n) ≡ line_start s n
  unfolding line_start
  starts_past n h = rw (no_newline n h)

  -- by a newline's place from the end
  pub start_inside : (at : ℕ) {m k : ℕ} → m ≡ min at (length s) → k ≡ unwrap_or (position is_newline (reverse (take m s))) (length (take m s))
      → (length (take m s) - k ≡ line_start s at) × (length (take m s) - k ≤ at) × (length (take m s) - k ≤ length s)
  start_inside at {m} {k} e f =
      let l : length (take m s) ≡ m = length-take m s ∙ omega (arith, e) in
      let p : k ≡ position_or_len is_newline (reverse (take m s)) =
      f ∙ ap (unwrap_or (position is_newline (reverse (take m s)))) (sym (length-reverse (take m s))) ∙ first_place is_newline (reverse (take m s)) in
      let q = starts_inside m (omega (arith, e)) in
      let r : line_start s at ≡ line_start s m = inside (line_start s) (length s) starts_past at ∙ ap (line_start s) (sym e) in
      (omega (arith, l, p, q, r), omega (arith, l, e), omega (arith, l, e))

  -- and where that line ends
  pub line_inside : (from : ℕ) {k : ℕ} → from ≤ length s → k ≡ unwrap_or (position is_newline (take (length s - from) (drop from s))) (length (take (length s - from) (drop from s)))
      → (from + k ≡ from + line_length (drop from s)) × (from ≤ from + k) × (from + k ≤ length s)
  line_inside from {k} h e =
      let l = length-drop from s in
      let t : take (length s - from) (drop from s) ≡ drop from s = take_all (length s - from) (drop from s) (omega (arith, l)) in
      let f : k ≡ line_length (drop from s) = e ∙ ap (λ t. unwrap_or (position is_newline t) (length t)) t ∙ to_newline (drop from s) in
      let g = most_of (λ b. not (is_newline b)) (drop from s) in
      (omega (arith, f), omega arith, omega (arith, f, g, l, h))

-- ---- The words of a number that no failure has

abbrev pub Absent : ℕ → List (ℕ × String) → Type 0
Absent n [] = Unit
Absent n (row ∷ rows) = (n ≡ row.0 → ⊥) × Absent n rows

none_found : (n : ℕ) (rows : List (ℕ × String)) → Absent n rows → find (eqb n) rows ≡ none
unfolding find
none_found n [] a = refl
none_found n (row ∷ rows) a = rw (ne_eqb _ _ a.0) (none_found n rows a.1)

pub no_words_lem : (n : ℕ) → Absent n failures → words_of n ≡ bytes "no failure has this number"
unfolding words_of
no_words_lem n a = rw (none_found n failures a)

-- ---- Bytes as they are shown

pub one_visible : {a b c : Text} {r : ℕ} (text : List ℕ) (i : ℕ) → i < length text → r ≡ visible (get_or text i 0) → Adds a b (map visible (take i text)) → Adds b c (r ∷ [])
    → Adds a c (map visible (take (i + 1) text))
one_visible text i h e p q =
    same_added
    (sym (ap (λ n. map visible (take n text)) (add-one i) ∙ ap (map visible) (take-suc text i 0 h) ∙ map-append visible (take i text) (get_or text i 0 ∷ []) ∙ ap (λ b. map visible (take i text) ++ (b ∷ [])) (sym e)))
    (and_then p q)

-- the bytes from the line's start to its end
pub line_bytes : (s : List ℕ) (from : ℕ) {end : ℕ} → end ≡ from + line_length (drop from s) → take (end - from) (drop from s) ≡ line_from s from
line_bytes s from {end} e = let n : end - from ≡ line_length (drop from s) = omega (arith, e) in ap (λ k. take k (drop from s)) n
