-- The 16 bits of a constant in figures are a word.
use Prim.Native.Nat.{ℕ, ◌<◌, ◌≤◌}
use mathlib.Core.List.{List, [], ◌∷◌}
use native.Mathlib.Omega.{arith}
use lib.Dec.{leb, eqb}
use borrow.Author.Tests.{leb-true}
use Rattle.source.specs.Bytes.{is_letter, is_digit, is_octal_digit, span, starts_with}
use Rattle.prelude.specs.Choice.{find}
use Rattle.source.specs.declared.Token.{Token}
use Rattle.source.specs.Tokens.{constant_token, decimal_token, negative_token, octal_token, keyword_token, signs, sign_token, token_of, operator_of, after_blanks, token_at, operator_at}
use Rattle.parsing_laws.proofs.Parsed.Choices.{choice, if_given}

abbrev pub IsWord : ℕ → Type 0
IsWord v = v < 65536

abbrev HasWord : Token → Type 0
HasWord t = IsWord t.value

-- a token whose value is 0
zero_word : IsWord 0
zero_word = omega arith

constant_word : (n limit word at width : ℕ) → (n ≤ limit → IsWord word) → HasWord (constant_token n limit word at width)
unfolding constant_token
constant_word n limit word at width h = choice HasWord (leb n limit) _ _ (λ e. h (leb-true n limit e)) (λ e. zero_word)

of_word : (bs : List ℕ) (at : ℕ) → HasWord (token_of bs at)
unfolding token_of decimal_token negative_token octal_token keyword_token sign_token
of_word [] at = zero_word
of_word (b ∷ bs) at =
    choice HasWord (is_letter b) _ _ (λ e. zero_word)
    (λ e. choice HasWord (is_digit b) _ _ (λ e. constant_word _ 32767 _ at _ (λ h. omega arith))
    (λ e. choice HasWord (eqb b 45) _ _
    (λ e. choice HasWord (eqb (span is_digit bs) 0) _ _ (λ e. zero_word) (λ e. constant_word _ 32768 _ at _ (λ h. omega arith)))
    (λ e. choice HasWord (eqb b 39) _ _
    (λ e. choice HasWord (eqb (span is_octal_digit bs) 0) _ _ (λ e. zero_word) (λ e. constant_word _ 65535 _ at _ (λ h. omega arith)))
    (λ e. choice HasWord (eqb b 46) _ _ (λ e. zero_word)
    (λ e. if_given HasWord (find (λ sign. starts_with sign (b ∷ bs)) signs) _ _ (λ r. zero_word) zero_word)))))

operator_of_word : (bs : List ℕ) (at : ℕ) → HasWord (operator_of bs at)
unfolding operator_of
operator_of_word [] at = of_word [] at
operator_of_word (b ∷ bs) at = choice HasWord (eqb b 45) _ _ (λ e. zero_word) (λ e. of_word (b ∷ bs) at)

module _ (source : List ℕ) (at : ℕ) where
  pub token_word : IsWord (token_at source at).value
  unfolding token_at after_blanks
  token_word = of_word _ _

  pub operator_word : IsWord (operator_at source at).value
  unfolding operator_at after_blanks
  operator_word = operator_of_word _ _
