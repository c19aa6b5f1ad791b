-- Worked examples of tokens, decided by computation.
use Rattle.std.specs.Prelude.{◌≡◌, refl, ℕ, zero, suc, List, [], ◌∷◌, ◌++◌, map, eqb}
use Rattle.prelude.specs.Choice.{whether, find}
use Rattle.prelude.specs.Text.{bytes}
use Rattle.source.specs.Bytes.{span, same_bytes, starts_with}
use Rattle.source.specs.Kinds
use Rattle.source.specs.Kinds.{kind_number, kinds, kind_of}
use Rattle.source.specs.Keywords.{keywords, keyword_length, keyword_kind}
use Rattle.source.specs.Tokens.{number, constant_token, decimal_token, negative_token, octal_token, keyword_token, sign_token, token_of, after_blanks, token_at, spelling, name_of}

-- so many numbers from one on
abbrev from : ℕ → ℕ → List ℕ
from n zero = []
from n (suc k) = n ∷ from (suc n) k

-- no two kinds are one number
kinds_differ :
    (Kinds.end_of_source ∷ Kinds.unknown ∷ Kinds.out_of_range ∷ Kinds.name ∷ Kinds.numeral ∷ Kinds.semicolon ∷ Kinds.comma ∷ Kinds.equal ∷ Kinds.not_equal ∷ Kinds.less ∷ Kinds.greater ∷ Kinds.at_most ∷
    Kinds.at_least ∷ Kinds.plus ∷ Kinds.minus ∷ Kinds.left_parenthesis ∷ Kinds.right_parenthesis ∷ Kinds.left_bracket ∷ Kinds.right_bracket ∷ Kinds.quote ∷ Kinds.at ∷ Kinds.hash ∷ [])
    ++ (map (λ row. kind_number row.1) keywords ++ (Kinds.star ∷ Kinds.slash ∷ []))
    ≡ from 0 76 ++ (100 ∷ 101 ∷ [])
kinds_differ = refl

-- the tokens of a source: kind, value and offset of each. Its line lists what an example unfolds
tokens_by : ℕ → List ℕ → ℕ → List (ℕ × ℕ × ℕ)
unfolding span same_bytes starts_with find keyword_length keyword_kind number constant_token decimal_token negative_token octal_token keyword_token sign_token token_of after_blanks token_at
tokens_by zero source at = []
tokens_by (suc k) source at =
    let t = token_at source at in
    whether (eqb (kind_number t.kind) Kinds.end_of_source) (λ _. []) (λ _. (kind_number t.kind, t.value, t.at) ∷ tokens_by k source t.next)

-- those of some bytes that alone are no unknown token
known_of : List ℕ → List ℕ
unfolding span same_bytes starts_with find keyword_length keyword_kind number constant_token decimal_token negative_token octal_token keyword_token sign_token token_of after_blanks token_at
known_of [] = []
known_of (b ∷ bs) = whether (eqb (kind_number (token_at (b ∷ []) 0).kind) Kinds.unknown) (λ _. known_of bs) (λ _. b ∷ known_of bs)

taken_longest :
    tokens_by 99 (bytes "5A<>=<=>'18.LGL3-5- 5 -32768 40000\n!.FOO.SENSE12X'9 ") 0
    ≡ (Kinds.numeral, 5, 0) ∷ (Kinds.name, 0, 1) ∷ (Kinds.not_equal, 0, 2) ∷ (Kinds.equal, 0, 4) ∷ (Kinds.at_most, 0, 5) ∷ (Kinds.greater, 0, 7) ∷ (Kinds.numeral, 1, 8) ∷ (Kinds.numeral, 8, 10) ∷
    (Kinds.LGL, 0, 11) ∷ (Kinds.numeral, 3, 15) ∷ (Kinds.numeral, 65531, 16) ∷ (Kinds.minus, 0, 18) ∷ (Kinds.numeral, 5, 20) ∷ (Kinds.numeral, 32768, 22) ∷ (Kinds.out_of_range, 0, 29) ∷
    (Kinds.unknown, 0, 35) ∷ (Kinds.unknown, 0, 36) ∷ (Kinds.SENSE1, 0, 40) ∷ (Kinds.numeral, 2, 47) ∷ (Kinds.name, 0, 48) ∷ (Kinds.quote, 0, 49) ∷ (Kinds.numeral, 9, 50) ∷ []
unfolding tokens_by
taken_longest = refl

-- every sign
every_sign :
    map {B = ℕ × ℕ} (λ t. (t.0, t.2)) (tokens_by 99 (bytes ";,=<><<=>>=+-()[]@#*/'1") 0)
    ≡ (Kinds.semicolon, 0) ∷ (Kinds.comma, 1) ∷ (Kinds.equal, 2) ∷ (Kinds.not_equal, 3) ∷ (Kinds.less, 5) ∷ (Kinds.at_most, 6) ∷ (Kinds.greater, 8) ∷ (Kinds.at_least, 9) ∷ (Kinds.plus, 11) ∷ (Kinds.minus, 12) ∷
    (Kinds.left_parenthesis, 13) ∷ (Kinds.right_parenthesis, 14) ∷ (Kinds.left_bracket, 15) ∷ (Kinds.right_bracket, 16) ∷ (Kinds.at, 17) ∷ (Kinds.hash, 18) ∷
    (Kinds.star, 19) ∷ (Kinds.slash, 20) ∷ (Kinds.numeral, 21) ∷ []
unfolding tokens_by
every_sign = refl

-- every keyword, in the order of the kinds
every_keyword :
    map (λ t. t.0) (tokens_by 99 (bytes ".BEGIN .END .INTEGER .CONSTANT .COMPCONSTANT .ARRAY .NEXTSECTOR .PROCEDURE .ACCUMULATOR .IF .THEN .ELSE .WHEN .WHILE .DO .FOR"
    ++ (bytes " .ZERO .AND .NEV .ADDC .INC .NEG .SSP .SSM .CHS .CSA .NOT .ICLEFT .CLEFT .SWOP .ICRIGHT .CRIGHT .ABS"
    ++ bytes " .LGR .ARS .ARR .LGL .ALS .ALR .NONZERO .PLUS .MINUS .ODD .EVEN .CSET .NOTC .SENSE1 .SENSE2 .SENSE3 .SENSE4 .ANYKEY .NOKEY .MOD .CHECKED")) 0)
    ≡ from 22 54
unfolding tokens_by
every_keyword = refl

-- what is no keyword, each unknown at its point: a letter less or more, though the first six are the same; `SENSE` without a digit right behind it, or with another; a point before a blank (T6)
no_keywords :
    tokens_by 99 (bytes ".INTEGE.INTEGERS.SENSE.SENSE0.SENSE 1. BEGIN") 0
    ≡ (Kinds.unknown, 0, 0) ∷ (Kinds.unknown, 0, 7) ∷ (Kinds.unknown, 0, 16) ∷ (Kinds.unknown, 0, 22) ∷ (Kinds.unknown, 0, 29) ∷ (Kinds.numeral, 1, 36) ∷ (Kinds.unknown, 0, 37) ∷ (Kinds.name, 0, 39) ∷ []
unfolding tokens_by
no_keywords = refl

-- every byte that is of the language, of all 256 (T2); a point alone is no token, though it begins some
every_byte :
    known_of (from 0 256)
    ≡ 10 ∷ 32 ∷ 35 ∷ 39 ∷ 40 ∷ 41 ∷ 42 ∷ 43 ∷ 44 ∷ 45 ∷ 47 ∷ 48 ∷ 49 ∷ 50 ∷ 51 ∷ 52 ∷ 53 ∷ 54 ∷ 55 ∷ 56 ∷ 57 ∷ 59 ∷ 60 ∷ 61 ∷ 62 ∷ 64 ∷ from 65 26 ++ (91 ∷ 93 ∷ [])
unfolding known_of
every_byte = refl

-- bytes that are none: lower case, tab, carriage return, `!`, `:`, 0 and 255; a blank is no token
bad_bytes : map (λ t. t.0) (tokens_by 99 (bytes "a \t\r!:" ++ (0 ∷ 255 ∷ 32 ∷ 10 ∷ [])) 0) ≡ map (λ _. Kinds.unknown) (from 0 7)
unfolding tokens_by
bad_bytes = refl

-- the limits of constants
constants :
    tokens_by 99 (bytes "32767 32768 -32768 -32769 -0 '177777 '200000 000000000007") 0
    ≡ (Kinds.numeral, 32767, 0) ∷ (Kinds.out_of_range, 0, 6) ∷ (Kinds.numeral, 32768, 12) ∷ (Kinds.out_of_range, 0, 19) ∷ (Kinds.numeral, 0, 26) ∷ (Kinds.numeral, 65535, 29) ∷ (Kinds.out_of_range, 0, 37) ∷ (Kinds.numeral, 7, 45) ∷ []
unfolding tokens_by
constants = refl

-- a numeral takes all digits that follow, zeros in front or not, and its number counts (T4, T8)
long_constants :
    tokens_by 99 (bytes "'0000177777 '1777777 -0000032768 -327680 327670") 0
    ≡ (Kinds.numeral, 65535, 0) ∷ (Kinds.out_of_range, 0, 12) ∷ (Kinds.numeral, 32768, 21) ∷ (Kinds.out_of_range, 0, 33) ∷ (Kinds.out_of_range, 0, 41) ∷ []
unfolding tokens_by
long_constants = refl

-- the end of the source is a token of no bytes, at the source's length, blanks before it or not: kind, offset, and the offset after it (T13)
end_of_source_lem :
    map {B = ℕ × ℕ × ℕ} (λ at. let t = token_at (bytes "A \n") at in (kind_number t.kind, t.at, t.next)) (1 ∷ 3 ∷ []) ≡ (Kinds.end_of_source, 3, 3) ∷ (Kinds.end_of_source, 3, 3) ∷ []
unfolding tokens_by
end_of_source_lem = refl

six_count : name_of (bytes " ABCDE1234 ") (token_at (bytes " ABCDE1234 ") 0) ≡ bytes "ABCDE1"
unfolding tokens_by name_of
six_count = refl

-- a name in full has its seventh character and all behind it
whole_name : spelling (bytes " ABCDE1234 ") (token_at (bytes " ABCDE1234 ") 0) ≡ bytes "ABCDE1234"
unfolding tokens_by
whole_name = refl

-- a shorter name has no character of what follows it
fewer_count : name_of (bytes " ABC12 X ") (token_at (bytes " ABC12 X ") 0) ≡ bytes "ABC12"
unfolding tokens_by name_of
fewer_count = refl

-- each kind is that of its number
numbered : map (λ kind. kind_of (kind_number kind)) kinds ≡ kinds
unfolding kind_of
numbered = refl
