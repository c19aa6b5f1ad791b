-- A number, byte by byte, and words set, one by one.
use Prim.Native.Nat.{ℕ, suc, ◌+◌, ◌-◌, ◌%◌, ◌≤◌, ◌<◌}
use mathlib.Core.Path.{◌≡◌, ap}
use mathlib.Core.Bool.{true, false}
use mathlib.Core.List.{List}
use native.Mathlib.Numerals.{add-one}
use native.Mathlib.Omega.{arith}
use lib.ListN.{length, get_or, set, drop, drop_of_length-le}
use lib.Seq.{drop-cons}
use Rattle.case_input.specs.Cases.{is_digit, grown, number_from, value_from, word_from, set_from}

module _ (text : List ℕ) (at value : ℕ) where
  pub ended : length text ≤ at → number_from (drop at text) value at ≡ record { value = value; next = at }
  unfolding number_from
  ended h = rw (drop_of_length-le text h)

  pub digit : at < length text → is_digit (get_or text at 0) ≡ true → number_from (drop at text) value at ≡ number_from (drop (at + 1) text) (grown value (get_or text at 0)) (at + 1)
  unfolding number_from
  digit h e = rw (add-one, drop-cons text at 0 h, e)

  pub other : at < length text → is_digit (get_or text at 0) ≡ false → number_from (drop at text) value at ≡ record { value = value; next = at + 1 }
  unfolding number_from
  other h e = rw (add-one, drop-cons text at 0 h, e)

module _ (text : List ℕ) (left counter at : ℕ) (image : List ℕ) where
  pub all_set : left ≤ counter → set_from text (left - counter) at image ≡ (image, at)
  unfolding set_from
  all_set h = rw (none_left h)
    where
      none_left : left ≤ counter → left - counter ≡ 0
      none_left h = omega arith

  pub one_set : {address next word end : ℕ} → counter < left → (address, next) ≡ value_from text at → (word, end) ≡ word_from text next
      → set_from text (left - counter) at image ≡ set_from text (left - (counter + 1)) end (set image (address % 16384) word)
  unfolding set_from
  one_set h a w = rw (one_more h, ap (λ (p : ℕ × ℕ). p.0) a, ap (λ (p : ℕ × ℕ). p.0) w, ap (λ (p : ℕ × ℕ). p.1) w, ap (λ (p : ℕ × ℕ). p.1) a)
    where
      one_more : counter < left → left - counter ≡ suc (left - (counter + 1))
      one_more h = omega arith

pub ruleset for_parse_number = (ended, digit, other)

pub ruleset for_set_words = (all_set)
