-- When the sign changes on the way: exactly if the magnitude times 2^n does not fit a word.
--
use Prim.Native.Nat.{ℕ, zero, suc, ◌-◌, ◌*◌, ◌≤◌, ◌<◌, ◌/◌, ◌%◌, ◌^◌}
use mathlib.Core.Path.{◌≡◌, refl, ap, sym, ◌∙◌}
use mathlib.Core.Bool.{Bool, true, false, cond}
use native.Mathlib.Nat.{le_refl, mul-one, mul_assoc, mul_comm, mul-le-mul, pow-suc, pow-zero}
use native.Mathlib.Omega.{arith}
use lib.Pow.{pow_pos}
use lib.Dec.{leb, ltb}
use borrow.Author.Tests.{le-leb, lt-leb, lt-ltb, le-ltb, leb-true, leb-false}
use Rattle.word.specs.Arithmetic.{negative}
use Rattle.word.specs.Shift.{sign_changes, differ}

-- one move more
move : (m n : ℕ) → m * 2 * 2 ^ n ≡ m * 2 ^ suc n
move m n = mul_assoc m 2 (2 ^ n) ∙ ap (λ (k : ℕ). m * k) (mul_comm 2 (2 ^ n) ∙ sym (pow-suc 2 n))

no_move : (m : ℕ) → m * 2 ^ 0 ≡ m
no_move m = ap (λ (k : ℕ). m * k) (pow-zero 2) ∙ mul-one m

larger : (m n : ℕ) → m ≤ m * 2 ^ n
larger m n = let h : m * 1 ≤ m * 2 ^ n = mul-le-mul (le_refl m) (pow_pos n) in omega (arith, mul-one m)

-- a word whose sign is +
module _ (n w : ℕ) (small : w < 32768) (again : (v : ℕ) → v < 32768 → sign_changes n v ≡ leb 32768 (v * 2 ^ n)) where
  up_by : (b : Bool) → negative (w * 2 % 65536) ≡ b → cond b true (sign_changes n (w * 2 % 65536)) ≡ leb 32768 (w * 2 ^ suc n)
  up_by true e =
      let h : 32768 ≤ w * 2 % 65536 = leb-true _ _ e in
      let l = larger (w * 2) n in
      sym (le-leb 32768 (w * 2 ^ suc n) (rw (← move w n) (omega arith)))
  up_by false e =
      let h : w * 2 % 65536 < 32768 = leb-false _ _ e in
      let q : w * 2 % 65536 ≡ w * 2 = omega arith in
      rw q (again (w * 2) (omega arith)) ∙ ap (λ (k : ℕ). leb 32768 k) (move w n)

pub positive_changes : (n w : ℕ) → w < 32768 → sign_changes n w ≡ leb 32768 (w * 2 ^ n)
unfolding sign_changes
positive_changes zero w small = sym (lt-leb 32768 (w * 2 ^ 0) (omega (arith, no_move w)))
positive_changes (suc n) w small = rw (lt-leb 32768 w small) (up_by n w small (positive_changes n) (negative (w * 2 % 65536)) refl)

double : (w : ℕ) → 32768 ≤ w → w < 65536 → w * 2 % 65536 ≡ w * 2 - 65536
double w large fits = let q : w * 2 / 65536 ≡ 1 = omega arith in omega arith

-- a word whose sign is -, by its magnitude m
module _ (n m : ℕ) (some : 0 < m) (small : m ≤ 32768) (again : (k : ℕ) → 0 < k → k ≤ 32768 → sign_changes n (65536 - k) ≡ ltb 32768 (k * 2 ^ n)) where
  down_by : (b : Bool) → negative ((65536 - m) * 2 % 65536) ≡ b
      → cond (differ true b) true (sign_changes n ((65536 - m) * 2 % 65536)) ≡ ltb 32768 (m * 2 ^ suc n)
  down_by true e =
      let h : 32768 ≤ (65536 - m) * 2 % 65536 = leb-true _ _ e in
      let d : (65536 - m) * 2 % 65536 ≡ (65536 - m) * 2 - 65536 = double (65536 - m) (omega arith) (omega arith) in
      let q : (65536 - m) * 2 % 65536 ≡ 65536 - m * 2 = omega arith in
      rw q (again (m * 2) (omega arith) (omega arith)) ∙ ap (λ (k : ℕ). ltb 32768 k) (move m n)
  down_by false e =
      let h : (65536 - m) * 2 % 65536 < 32768 = leb-false _ _ e in
      let l = larger (m * 2) n in
      sym (lt-ltb 32768 (m * 2 ^ suc n) (rw (← move m n) (omega arith)))

magnitude_changes : (n m : ℕ) → 0 < m → m ≤ 32768 → sign_changes n (65536 - m) ≡ ltb 32768 (m * 2 ^ n)
unfolding sign_changes
magnitude_changes zero m some small = sym (le-ltb 32768 (m * 2 ^ 0) (omega (arith, no_move m)))
magnitude_changes (suc n) m some small =
    let h : 32768 ≤ 65536 - m = omega arith in
    rw (le-leb 32768 (65536 - m) h) (down_by n m some small (magnitude_changes n) (negative ((65536 - m) * 2 % 65536)) refl)

pub negative_changes : (n w : ℕ) → 32768 ≤ w → w < 65536 → sign_changes n w ≡ ltb 32768 ((65536 - w) * 2 ^ n)
negative_changes n w large fits =
    let q : 65536 - (65536 - w) ≡ w = omega arith in
    ap (sign_changes n) (sym q) ∙ magnitude_changes n (65536 - w) (omega arith) (omega arith)

pub ruleset for_sign_changes = (positive_changes, negative_changes)
