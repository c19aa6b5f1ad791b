-- Constants: the token of a capped number is that of the number.
use mathlib.Core.Path.{◌≡◌, refl, ap, ◌∙◌}
use Prim.Native.Nat.{ℕ, suc, ◌+◌, ◌≤◌, ◌<◌, min}
use mathlib.Core.Bool.{Bool, true, false}
use mathlib.Core.List.{List}
use native.Mathlib.Omega.{arith}
use borrow.Author.Tests.{leb-true, leb-false, le-leb, lt-leb, eq-eqb, ne_eqb}
use lib.Dec.{leb}
use lib.ListN.{take}
use Rattle.source.specs.Bytes.{is_digit, span}
use Rattle.source.specs.Classes.{passes}
use Rattle.source.specs.Signed.{bits_of, signed_token}
use Rattle.source.specs.Tokens.{token, number, constant_token, decimal_token}
use Rattle.source.specs.declared.constant.Sign.{Sign}

pub same :
    (n m limit v w at width : ℕ) → limit < 65536 → m ≡ min n 65536 → (n ≤ limit → w ≡ v)
    → constant_token m limit w at width ≡ constant_token n limit v at width
unfolding constant_token
same n m limit v w at width small e f = go (leb n limit) refl
  where
    go : (t : Bool) → leb n limit ≡ t → constant_token m limit w at width ≡ constant_token n limit v at width
    go true q = let l = leb-true n limit q in rw (q, le-leb m limit (omega arith), f l)
    go false q = let l = leb-false n limit q in rw (q, lt-leb m limit (omega arith))

module _ (bs : List ℕ) (m at width : ℕ) where
  -- the constant of a span of digits, whose word goes by its number
  of_span :
      (p : ℕ → Bool) (base limit : ℕ) (f : ℕ → ℕ) (w : ℕ) → limit < 65536 → width ≡ span p bs → m ≡ min (number base 0 (take width bs)) 65536
      → constant_token m limit (f m) at w ≡ constant_token (number base 0 (take (span p bs) bs)) limit (f (number base 0 (take (span p bs) bs))) at w
  of_span p base limit f w small e q =
      let r : m ≡ min (number base 0 (take (span p bs) bs)) 65536 = rw (← e) q in
      same _ m limit _ _ at w small r (λ l. ap f (omega arith))

  pub of_digits : width ≡ span is_digit bs → m ≡ min (number 10 0 (take width bs)) 65536 → constant_token m 32767 m at width ≡ decimal_token bs at
  unfolding decimal_token
  of_digits e q = of_span is_digit 10 32767 (λ n. n) width (omega arith) e q ∙ rw e refl

  pub behind :
      (sign : Sign) → sign.limit < 65536 → width ≡ span (passes sign.digits) bs → (width ≡ 0 → ⊥) → m ≡ min (number sign.base 0 (take width bs)) 65536
      → constant_token m sign.limit (bits_of sign.negates m) at (width + 1) ≡ signed_token sign bs at
  behind sign small e some q =
      let n : width + 1 ≡ suc (span (passes sign.digits) bs) = omega arith in
      rw (ne_eqb (span (passes sign.digits) bs) 0 (λ z. some (omega arith)), n) (of_span (passes sign.digits) sign.base sign.limit (bits_of sign.negates) _ small e q)

  pub alone : (sign : Sign) → width ≡ span (passes sign.digits) bs → width ≡ 0 → token sign.kind 0 at 1 ≡ signed_token sign bs at
  alone sign e none = rw (eq-eqb (span (passes sign.digits) bs) 0 (omega arith)) refl

-- a word of 16 bits
pub small : (negates : Bool) (n limit : ℕ) → limit < 65536 → n ≤ limit → bits_of negates n < 65536
small true n limit s h = omega arith
small false n limit s h = omega arith

pub ruleset for_decimal = (of_digits)

pub ruleset for_signed = (behind, alone, small)
