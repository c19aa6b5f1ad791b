-- Where a token lies: not before its offset, in the source, and with a width unless the source has ended. Parsing goes forward by these.
use mathlib.Core.Path.{◌≡◌, refl}
use Prim.Native.Nat.{ℕ, zero, suc, ◌+◌, ◌-◌, ◌%◌, ◌≤◌, ◌<◌}
use mathlib.Core.Bool.{Bool, true, false}
use mathlib.Core.List.{List, [], ◌∷◌}
use native.Mathlib.Omega.{arith}
use lib.Dec.{leb, eqb}
use lib.ListN.{length, take, drop, length-drop}
use Rattle.prelude.specs.Choice.{whether}
use Rattle.prelude.specs.Text.{bytes}
use Rattle.source.specs.Bytes.{is_letter, is_digit, is_octal_digit, is_letter_or_digit, is_blank, span, same_bytes}
use Rattle.source.specs.Kinds
use Rattle.source.specs.Kinds.{kind_number}
use Rattle.source.specs.declared.kind.Kind.{Kind}
use Rattle.source.specs.declared.kind.Kind.TheVariants.{EndOfSource, Numeral, OutOfRange, Quote, MinusSign}
use Rattle.source.specs.Keywords.{keyword_length}
use Rattle.source.specs.declared.Token.{Token}
use Rattle.source.specs.Tokens.{token, number, constant_token, decimal_token, negative_token, octal_token, keyword_token, token_of, operator_of, after_blanks, token_at, operator_at}
use Rattle.source.proofs.SpanLaws.{most, within}
use Rattle.source.proofs.Signs.{Wide, sign_wide}

pub record Lies (s : List ℕ) (at : ℕ) (t : Token) : Type 0 where
  pub from : at ≤ t.at
  pub inside : at ≤ length s → t.next ≤ length s
  pub forward : t.at ≤ t.next
  pub wide : (kind_number t.kind ≡ Kinds.end_of_source → ⊥) → t.at < t.next

wide : (kind : Kind) (value at width n : ℕ) → 0 < width → width ≤ n → Wide at n (token kind value at width)
wide kind value at width n h k = record { here = refl; some = omega arith; fits = omega arith }

-- of two, both of which are so
either : (b : Bool) (f g : Unit {0} → Token) {at n : ℕ} → Wide at n (f tt) → Wide at n (g tt) → Wide at n (whether b f g)
either true f g h k = h
either false f g h k = k

constant_wide : (m limit word at width n : ℕ) → 0 < width → width ≤ n → Wide at n (constant_token m limit word at width)
unfolding constant_token
constant_wide m limit word at width n h k =
    either (leb m limit) (λ _. token Numeral word at width) (λ _. token OutOfRange 0 at width) (wide _ _ at width n h k) (wide _ _ at width n h k)

one_more : (p : ℕ → Bool) (bs : List ℕ) → suc (span p bs) ≤ suc (length bs)
one_more p bs = omega (arith, most p bs)

-- the sign alone where no digit follows, else a constant
alone :
    (p : ℕ → Bool) (bs : List ℕ) (kind : Kind) (m limit word at : ℕ)
    → Wide at (suc (length bs)) (whether (eqb (span p bs) 0) (λ _. token kind 0 at 1) (λ _. constant_token m limit word at (suc (span p bs))))
alone p bs kind m limit word at =
    either (eqb (span p bs) 0) (λ _. token kind 0 at 1) (λ _. constant_token m limit word at (suc (span p bs)))
    (wide kind 0 at 1 _ (omega arith) (omega arith)) (constant_wide m limit word at _ _ (omega arith) (one_more p bs))

take_fewer : (n : ℕ) (l : List ℕ) → length (take n l) ≤ length l
take_fewer zero l = omega arith
take_fewer (suc n) [] = omega arith
take_fewer (suc n) (x ∷ l) = omega (arith, take_fewer n l)

keyword_most : (bs : List ℕ) → keyword_length bs ≤ length bs
unfolding keyword_length
keyword_most bs = go (same_bytes (take (span is_letter bs) bs) (bytes "SENSE"))
  where
    go : (t : Bool) → whether t (λ _. span is_letter bs + span is_digit (take 1 (drop (span is_letter bs) bs))) (λ _. span is_letter bs) ≤ length bs
    go true =
        omega (arith, most is_letter bs, most is_digit (take 1 (drop (span is_letter bs) bs)), take_fewer 1 (drop (span is_letter bs) bs), length-drop (span is_letter bs) bs)
    go false = most is_letter bs

digits_some : (p : ℕ → Bool) (b : ℕ) (bs : List ℕ) → p b ≡ true → 0 < span p (b ∷ bs)
unfolding span
digits_some p b bs e = rw e (omega arith)

-- the token of bytes of which there is one
of_wide : (b : ℕ) (bs : List ℕ) (at : ℕ) → Wide at (suc (length bs)) (token_of (b ∷ bs) at)
unfolding token_of decimal_token negative_token octal_token keyword_token
of_wide b bs at = letter (is_letter b) refl
  where
    point : is_letter b ≡ false → is_digit b ≡ false → eqb b 45 ≡ false → eqb b 39 ≡ false → (t : Bool) → eqb b 46 ≡ t → Wide at (suc (length bs)) (token_of (b ∷ bs) at)
    point l d m q true e = rw (l, d, m, q, e) (wide _ _ at _ _ (omega arith) (omega (arith, keyword_most bs)))
    point l d m q false e = rw (l, d, m, q, e) (sign_wide b bs at)

    quote : is_letter b ≡ false → is_digit b ≡ false → eqb b 45 ≡ false → (t : Bool) → eqb b 39 ≡ t → Wide at (suc (length bs)) (token_of (b ∷ bs) at)
    quote l d m true e = rw (l, d, m, e) (alone is_octal_digit bs Quote (number 8 0 (take (span is_octal_digit bs) bs)) 65535 (number 8 0 (take (span is_octal_digit bs) bs)) at)
    quote l d m false e = point l d m e (eqb b 46) refl

    minus : is_letter b ≡ false → is_digit b ≡ false → (t : Bool) → eqb b 45 ≡ t → Wide at (suc (length bs)) (token_of (b ∷ bs) at)
    minus l d true e = rw (l, d, e) (alone is_digit bs MinusSign (number 10 0 (take (span is_digit bs) bs)) 32768 ((65536 - number 10 0 (take (span is_digit bs) bs)) % 65536) at)
    minus l d false e = quote l d e (eqb b 39) refl

    digit : is_letter b ≡ false → (t : Bool) → is_digit b ≡ t → Wide at (suc (length bs)) (token_of (b ∷ bs) at)
    digit l true e = rw (l, e) (constant_wide _ 32767 _ at _ _ (digits_some is_digit b bs e) (most is_digit (b ∷ bs)))
    digit l false e = minus l e (eqb b 45) refl

    letter : (t : Bool) → is_letter b ≡ t → Wide at (suc (length bs)) (token_of (b ∷ bs) at)
    letter true e = rw e (wide _ _ at _ _ (omega arith) (one_more is_letter_or_digit bs))
    letter false e = digit e (is_digit b) refl

operator_wide : (b : ℕ) (bs : List ℕ) (at : ℕ) → Wide at (suc (length bs)) (operator_of (b ∷ bs) at)
unfolding operator_of
operator_wide b bs at =
    either (eqb b 45) (λ _. token MinusSign 0 at 1) (λ _. token_of (b ∷ bs) at) (wide _ _ at 1 _ (omega arith) (omega arith)) (of_wide b bs at)

-- after the blanks, for both ways to take a token
module _
    (f : List ℕ → ℕ → Token) (none : (at : ℕ) → f [] at ≡ token EndOfSource 0 at 0)
    (some : (b : ℕ) (bs : List ℕ) (at : ℕ) → Wide at (suc (length bs)) (f (b ∷ bs) at)) where
  from_rest : (s : List ℕ) (at i : ℕ) (l : List ℕ) → at ≤ i → (at ≤ length s → i + length l ≤ length s) → Lies s at (f l i)
  from_rest s at i [] h k = rw none (record { from = h; inside = λ q. omega (arith, k q); forward = omega arith; wide = λ n. absurd (n refl) })
  from_rest s at i (b ∷ bs) h k =
      let w = some b bs i in
      record { from = omega (arith, w.here); inside = λ q. omega (arith, k q, w.fits); forward = omega (arith, w.here, w.some); wide = λ n. omega (arith, w.here, w.some) }

  after_lies : (s : List ℕ) (at : ℕ) → Lies s at (after_blanks f s at)
  unfolding after_blanks
  after_lies s at =
      from_rest s at (at + span is_blank (drop at s)) (drop (span is_blank (drop at s)) (drop at s)) (omega arith)
      (λ q. omega (arith, within is_blank s at q, length-drop at s, length-drop (span is_blank (drop at s)) (drop at s)))

pub token_lies : (s : List ℕ) (at : ℕ) → Lies s at (token_at s at)
unfolding token_at token_of
token_lies s at = after_lies token_of (λ _. refl) of_wide s at

pub operator_lies : (s : List ℕ) (at : ℕ) → Lies s at (operator_at s at)
unfolding operator_at operator_of token_of
operator_lies s at = after_lies operator_of (λ _. refl) operator_wide s at
