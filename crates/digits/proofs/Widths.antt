-- Texts and numbers in columns: how wide they are, and what is read back from them.
use Prim.Native.Nat.{ℕ, zero, suc, ◌+◌, ◌-◌, ◌*◌, ◌/◌, ◌%◌, ◌^◌, ◌≤◌, ◌<◌}
use mathlib.Core.Path.{◌≡◌, refl, ap, ◌∙◌}
use mathlib.Core.Bool.{Bool, true, false}
use mathlib.Core.List.{List, [], ◌∷◌, ◌++◌}
use mathlib.Core.Option.{none, some, none-ne-some}
use native.Mathlib.Nat.{pow-suc}
use native.Mathlib.Omega.{arith}
use borrow.Author.Tests.{eqb-true, ltb-true, ltb-false, lt-ltb, le-ltb, le-leb}
use lib.Dec.{eqb, ltb}
use lib.ListN.{length, replicate, length-append, length-replicate}
use Rattle.prelude.specs.Choice.{whether, given, between}
use Rattle.digits.specs.Digits.{decimal_by, decimal, left_in, right_in, digits_from, shown}

-- ---- Spaces

pub next_space : (n : ℕ) → 0 < n → ◌≡◌ {A = List ℕ} (replicate n 32) ((32 ∷ []) ++ replicate (n - 1) 32)
next_space n h = let e : n ≡ suc (n - 1) = omega (arith, h) in ap (λ k. replicate {A = ℕ} k 32) e

pub no_space : (n : ℕ) → n ≤ 0 → ◌≡◌ {A = List ℕ} (replicate n 32) []
no_space n h = let e : n ≡ 0 = omega (arith, h) in ap (λ k. replicate {A = ℕ} k 32) e

-- ---- How many digits

-- at most so many
pub decimal_length : (k n : ℕ) → length (decimal_by k n) ≤ k
unfolding decimal_by
decimal_length zero n = omega arith
decimal_length (suc k) n = go (ltb n 10) (decimal_length k (n / 10))
  where
    go : (b : Bool) → length (decimal_by k (n / 10)) ≤ k → length (whether b (λ _. []) (λ _. decimal_by k (n / 10)) ++ ((48 + n % 10) ∷ [])) ≤ suc k
    go true h = omega arith
    go false h = simp length-append (omega (arith, h))

pub one_digit : (k n : ℕ) → 0 < k → n < 10 → length (decimal_by k n) ≡ 1
unfolding decimal_by
one_digit zero n h l = absurd (omega (arith, h))
one_digit (suc k) n h l = rw (lt-ltb n 10 l)

-- a number of two digits and more, and what is left of it without the last
pub record Shorter (k n : ℕ) : Type 0 where
  pub left : 0 < k - 1
  pub below : n / 10 < 10 ^ (k - 1)
  pub one : length (decimal_by k n) ≡ length (decimal_by (k - 1) (n / 10)) + 1

pub shorter : (k n : ℕ) → 10 ≤ n → n < 10 ^ k → Shorter k n
unfolding decimal_by
shorter zero n h l = absurd (omega (arith, h, l))
shorter (suc zero) n h l = absurd (omega (arith, h, l))
shorter (suc (suc k)) n h l =
    let e = pow-suc 10 (suc k) in
    let j : suc (suc k) - 1 ≡ suc k = omega arith in
    record {
      left = omega arith;
      below = rw j (omega (arith, l, e));
      one = rw (le-ltb n 10 h, j) (length-append (decimal_by (suc k) (n / 10)) _);
    }

pub next_digit : (k n : ℕ) → 10 ≤ n → decimal_by (suc k) n ≡ decimal_by k (n / 10) ++ ((48 + n % 10) ∷ [])
unfolding decimal_by
next_digit k n h = rw (le-ltb n 10 h)

-- more fuel than a number has digits adds none
pub no_more_digits : (k n : ℕ) → 0 < k → n < 10 ^ k → decimal_by (suc k) n ≡ decimal_by k n
unfolding decimal_by
no_more_digits zero n h l = absurd (omega (arith, h))
no_more_digits (suc k) n h l = go (ltb n 10) refl (λ p q. no_more_digits k (n / 10) p q)
  where
    go : (b : Bool) → ltb n 10 ≡ b → (0 < k → n / 10 < 10 ^ k → decimal_by (suc k) (n / 10) ≡ decimal_by k (n / 10))
        → whether b (λ _. []) (λ _. decimal_by (suc k) (n / 10)) ++ ((48 + n % 10) ∷ []) ≡ whether b (λ _. []) (λ _. decimal_by k (n / 10)) ++ ((48 + n % 10) ∷ [])
    go true q rest = refl
    go false q rest =
        let s = shorter (suc k) n (ltb-false n 10 q) l in
        let a = s.left in
        let b = s.below in
        let j : suc k - 1 ≡ k = omega arith in
        ap (λ ds. ds ++ ((48 + n % 10) ∷ [])) (rest (rw j at a) (rw j at b))

-- a number below a power of ten has at most so many digits
pub few_digits : (k w n : ℕ) → 0 < w → n < 10 ^ w → length (decimal_by k n) ≤ w
unfolding decimal_by
few_digits zero w n h l = omega arith
few_digits (suc k) w n h l = go (ltb n 10) refl (λ p q. few_digits k (w - 1) (n / 10) p q)
  where
    go : (b : Bool) → ltb n 10 ≡ b → (0 < w - 1 → n / 10 < 10 ^ (w - 1) → length (decimal_by k (n / 10)) ≤ w - 1) → length (whether b (λ _. []) (λ _. decimal_by k (n / 10)) ++ ((48 + n % 10) ∷ [])) ≤ w
    go true q rest = omega (arith, h)
    go false q rest =
        let s = shorter w n (ltb-false n 10 q) l in
        let f = rest s.left s.below in
        let j = s.left in
        simp length-append (omega (arith, f, j))

-- ---- As wide as the columns

pub left_width : (w : ℕ) (text : List ℕ) → length text ≤ w → length (left_in w text) ≡ w
unfolding left_in
left_width w text h =
    let r = length-replicate {A = ℕ} (w - length text) 32 in
    length-append text (replicate (w - length text) 32) ∙ omega (arith, h, r)

pub right_width : (w n : ℕ) → 0 < w → n < 10 ^ w → length (right_in w n) ≡ w
unfolding right_in
right_width w n h l =
    let f = few_digits 20 w n h l in
    let r = length-replicate {A = ℕ} (w - length (decimal n)) 32 in
    length-append (replicate (w - length (decimal n)) 32) (decimal n) ∙ omega (arith, f, r)

-- ---- Read back

digits_append : (a : ℕ) (us vs : List ℕ) → digits_from a (us ++ vs) ≡ given (digits_from a us) (λ n. digits_from n vs) (λ _. none)
unfolding digits_from
digits_append a [] vs = refl
digits_append a (u ∷ us) vs = go (between 48 57 u) (digits_append (10 * a + (u - 48)) us vs)
  where
    next : ℕ
    next = 10 * a + (u - 48)

    go : (t : Bool) → digits_from next (us ++ vs) ≡ given (digits_from next us) (λ n. digits_from n vs) (λ _. none)
        → whether t (λ _. digits_from next (us ++ vs)) (λ _. none) ≡ given (whether t (λ _. digits_from next us) (λ _. none)) (λ n. digits_from n vs) (λ _. none)
    go true rest = rest
    go false rest = refl

digit : (n : ℕ) → between 48 57 (48 + n % 10) ≡ true
digit n = rw (le-leb 48 (48 + n % 10) (omega arith), le-leb (48 + n % 10) 57 (omega arith))

last_digit : (n : ℕ) → digits_from (n / 10) ((48 + n % 10) ∷ []) ≡ some n
unfolding digits_from
last_digit n = let e : 10 * (n / 10) + (48 + n % 10 - 48) ≡ n = omega arith in rw (digit n, e)

digits_decimal : (k n : ℕ) → n < 10 ^ k → digits_from 0 (decimal_by k n) ≡ some n
unfolding decimal_by digits_from
digits_decimal zero n h = let e : 0 ≡ n = omega (arith, h) in ap some e
digits_decimal (suc k) n h = go (ltb n 10) refl (λ l. digits_decimal k (n / 10) l)
  where
    Rest : Type 0
    Rest = n / 10 < 10 ^ k → digits_from 0 (decimal_by k (n / 10)) ≡ some (n / 10)

    first : (b : Bool) → ltb n 10 ≡ b → Rest → digits_from 0 (whether b (λ _. []) (λ _. decimal_by k (n / 10))) ≡ some (n / 10)
    first true q rest = let l = ltb-true n 10 q in let e : 0 ≡ n / 10 = omega (arith, l) in ap some e
    first false q rest = let e = pow-suc 10 k in rest (omega (arith, h, e))

    go : (b : Bool) → ltb n 10 ≡ b → Rest → digits_from 0 (whether b (λ _. []) (λ _. decimal_by k (n / 10)) ++ ((48 + n % 10) ∷ [])) ≡ some n
    go b q rest =
        digits_append 0 (whether b (λ _. []) (λ _. decimal_by k (n / 10))) _
        ∙ ap (λ o. given o (λ m. digits_from m ((48 + n % 10) ∷ [])) (λ _. none)) (first b q rest)
        ∙ last_digit n

-- a space is no digit, so digits alone are what columns show
digits_shown : (b : ℕ) (bs : List ℕ) (n : ℕ) → digits_from 0 (b ∷ bs) ≡ some n → shown (b ∷ bs) ≡ some n
unfolding shown digits_from
digits_shown b bs n e = go (eqb b 32) refl
  where
    go : (t : Bool) → eqb b 32 ≡ t → whether t (λ _. shown bs) (λ _. digits_from 0 (b ∷ bs)) ≡ some n
    go false q = e
    go true q = absurd (none-ne-some n (rw (eqb-true b 32 q) at e))

ended_shown : (us : List ℕ) (b n : ℕ) → digits_from 0 (us ++ (b ∷ [])) ≡ some n → shown (us ++ (b ∷ [])) ≡ some n
ended_shown [] b n e = digits_shown b [] n e
ended_shown (u ∷ us) b n e = digits_shown u (us ++ (b ∷ [])) n e

spaces_shown : (j : ℕ) (text : List ℕ) → shown (replicate j 32 ++ text) ≡ shown text
unfolding shown
spaces_shown zero text = refl
spaces_shown (suc j) text = spaces_shown j text

decimal_shown : (k n : ℕ) → n < 10 ^ suc k → shown (decimal_by (suc k) n) ≡ some n
unfolding decimal_by
decimal_shown k n h = ended_shown (whether (ltb n 10) (λ _. []) (λ _. decimal_by k (n / 10))) (48 + n % 10) n (digits_decimal (suc k) n h)

pub right_shown : (w n : ℕ) → n < 10 ^ 20 → shown (right_in w n) ≡ some n
unfolding right_in
right_shown w n h = spaces_shown (w - length (decimal n)) (decimal n) ∙ decimal_shown 19 n h

pub ruleset for_decimal_length = (one_digit, shorter)
