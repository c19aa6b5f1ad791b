-- Tokens: what stands at an offset of the source.
use Rattle.std.specs.Prelude.{ℕ, suc, ◌+◌, ◌-◌, ◌*◌, ◌%◌, min, List, [], ◌∷◌, length, take, drop, leb, eqb}
use Rattle.prelude.specs.Choice.{whether, find, given}
use Rattle.prelude.specs.Text.{bytes}
use Rattle.source.specs.Bytes.{is_letter, is_digit, is_octal_digit, is_letter_or_digit, is_blank, span, starts_with}
use Rattle.source.specs.Kinds
use Rattle.source.specs.Kinds.{kind_number}
use Rattle.source.specs.declared.kind.Kind.{Kind}
use Rattle.source.specs.declared.kind.Kind.TheVariants.{Numeral, OutOfRange, MinusSign, Quote, NotEqual, AtMost, AtLeast, Less, Greater, Equal, Semicolon, Comma, PlusSign, Star, Slash, LeftParenthesis, RightParenthesis, LeftBracket, RightBracket, At, Hash, Unknown, EndOfSource, Name}
use Rattle.source.specs.Keywords.{keyword_length, keyword_kind}
-- the code's struct: its kind; the 16 bits of a constant in figures; the offsets of its first byte and after its last
use Rattle.source.specs.declared.Token.{Token}

abbrev pub token : Kind → ℕ → ℕ → ℕ → Token
token kind value at width = record { kind = kind; value = value; at = at; next = at + width }

-- the number that digits are in a base
unfoldable pub number : ℕ → ℕ → List ℕ → ℕ
number base n [] = n
number base n (d ∷ ds) = number base (base * n + (d - 48)) ds

-- a numeral's token with its 16 bits, if its number is up to a limit; else one that carries failure 5 (T9, F5)
unfoldable pub constant_token : ℕ → ℕ → ℕ → ℕ → ℕ → Token
constant_token n limit word at width = whether (leb n limit) (λ _. token Numeral word at width) (λ _. token OutOfRange 0 at width)

-- decimal digits, up to 32767, from the first one (T8)
unfoldable pub decimal_token : List ℕ → ℕ → Token
decimal_token bs at =
    let width = span is_digit bs in
    let n = number 10 0 (take width bs) in
    constant_token n 32767 n at width

-- a minus and decimal digits, down to -32768, from after the minus; with no digit it is that sign alone (T8, T10)
unfoldable pub negative_token : List ℕ → ℕ → Token
negative_token bs at =
    let width = span is_digit bs in
    let n = number 10 0 (take width bs) in
    whether (eqb width 0) (λ _. token MinusSign 0 at 1) (λ _. constant_token n 32768 ((65536 - n) % 65536) at (suc width))

-- a quote and octal digits, up to '177777, from after the quote; with no such digit it is that sign alone (T8, T10)
unfoldable pub octal_token : List ℕ → ℕ → Token
octal_token bs at =
    let width = span is_octal_digit bs in
    let n = number 8 0 (take width bs) in
    whether (eqb width 0) (λ _. token Quote 0 at 1) (λ _. constant_token n 65535 n at (suc width))

-- a keyword, from after the point (T6)
unfoldable pub keyword_token : List ℕ → ℕ → Token
keyword_token bs at =
    let width = keyword_length bs in
    token (keyword_kind (take width bs)) 0 at (suc width)

-- the signs that are tokens by themselves (T5); those of two bytes stand first, since the longest is taken (T4). Minus, quote and point are above
abbrev pub signs : List (List ℕ × Kind)
signs =
    (bytes "<>", NotEqual) ∷ (bytes "<=", AtMost) ∷ (bytes ">=", AtLeast) ∷
    (bytes "<", Less) ∷ (bytes ">", Greater) ∷ (bytes "=", Equal) ∷
    (bytes ";", Semicolon) ∷ (bytes ",", Comma) ∷ (bytes "+", PlusSign) ∷ (bytes "*", Star) ∷ (bytes "/", Slash) ∷
    (bytes "(", LeftParenthesis) ∷ (bytes ")", RightParenthesis) ∷
    (bytes "[", LeftBracket) ∷ (bytes "]", RightBracket) ∷ (bytes "@", At) ∷ (bytes "#", Hash) ∷ []

-- a byte that begins no sign is unknown: a token that carries failure 4 (T2, F4)
unfoldable pub sign_token : List ℕ → ℕ → Token
sign_token bs at =
    given (find (λ sign. starts_with sign bs) signs)
    (λ row. token row.1 0 at (length row.0))
    (λ _. token Unknown 0 at 1)

-- the token of these bytes, whose first is at an offset; at the end of the source it has none (T13).
-- A letter begins a name (T7), and a minus here is a numeral's sign (T11)
unfoldable pub token_of : List ℕ → ℕ → Token
token_of [] at = token EndOfSource 0 at 0
token_of (b ∷ bs) at =
    whether (is_letter b) (λ _. token Name 0 at (suc (span is_letter_or_digit bs))) λ _.
    whether (is_digit b) (λ _. decimal_token (b ∷ bs) at) λ _.
    whether (eqb b 45) (λ _. negative_token bs at) λ _.
    whether (eqb b 39) (λ _. octal_token bs at) λ _.
    whether (eqb b 46) (λ _. keyword_token bs at) λ _.
    sign_token (b ∷ bs) at

-- the same where a minus is the operator (T11)
unfoldable pub operator_of : List ℕ → ℕ → Token
operator_of [] at = token_of [] at
operator_of (b ∷ bs) at = whether (eqb b 45) (λ _. token MinusSign 0 at 1) (λ _. token_of (b ∷ bs) at)

-- from an offset of the source on, after any blanks (T1, T3)
unfoldable pub after_blanks : (List ℕ → ℕ → Token) → List ℕ → ℕ → Token
after_blanks token_from source at =
    let rest = drop at source in
    let blanks = span is_blank rest in
    token_from (drop blanks rest) (at + blanks)

-- THE TOKEN AT AN OFFSET, where a minus is a numeral's sign (T1, T11)
unfoldable pub token_at : List ℕ → ℕ → Token
token_at source at = after_blanks token_of source at

-- the token where an operation may stand: after a term, a cell or an amount (T11, T12)
unfoldable pub operator_at : List ℕ → ℕ → Token
operator_at source at = after_blanks operator_of source at

-- all of a token's bytes (T14)
abbrev pub spelling : List ℕ → Token → List ℕ
spelling source t = take (t.next - t.at) (drop t.at source)

-- the characters of a name that count, its first six (T7)
unfoldable pub name_of : List ℕ → Token → List ℕ
name_of source t = take 6 (spelling source t)

-- the lowest number at a token: n, or the token's own, 4 for unknown bytes and 5 for a numeral out of range (J3, F4, F5)
unfoldable pub failure_at : Token → ℕ → ℕ
failure_at t n =
    whether (eqb (kind_number t.kind) Kinds.unknown) (λ _. min 4 n) λ _.
    whether (eqb (kind_number t.kind) Kinds.out_of_range) (λ _. min 5 n) λ _. n
