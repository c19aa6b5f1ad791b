-- Keywords: what stands behind a point.
use Rattle.std.specs.Prelude.{ℕ, ◌+◌, List, [], ◌∷◌, take, drop}
use Rattle.prelude.specs.Choice.{whether, given, find}
use Rattle.prelude.specs.Text.{bytes}
use Rattle.source.specs.Bytes.{is_letter, is_digit, span, same_bytes}
use Rattle.source.specs.declared.kind.Kind.{Kind}
use Rattle.source.specs.declared.kind.Kind.TheVariants.{Begin, End, Integer, Constant, Compconstant, Array, Nextsector, Procedure, Accumulator, If, Then, Else, When, While, Do, For, Zero, And, Nev, Addc, Inc, Neg, Ssp, Ssm, Chs, Csa, Not, Icleft, Cleft, Swop, Icright, Cright, Abs, Lgr, Ars, Arr, Lgl, Als, Alr, Nonzero, Plus, Minus, Odd, Even, Cset, Notc, Sense1, Sense2, Sense3, Sense4, Anykey, Nokey, Mod, Checked, Unknown}

-- the keywords: what follows the point, with its kind (T6)
abbrev pub keywords : List (List ℕ × Kind)
keywords =
    (bytes "BEGIN", Begin) ∷ (bytes "END", End) ∷ (bytes "INTEGER", Integer) ∷ (bytes "CONSTANT", Constant) ∷ (bytes "COMPCONSTANT", Compconstant) ∷
    (bytes "ARRAY", Array) ∷ (bytes "NEXTSECTOR", Nextsector) ∷ (bytes "PROCEDURE", Procedure) ∷ (bytes "ACCUMULATOR", Accumulator) ∷
    (bytes "IF", If) ∷ (bytes "THEN", Then) ∷ (bytes "ELSE", Else) ∷ (bytes "WHEN", When) ∷ (bytes "WHILE", While) ∷ (bytes "DO", Do) ∷ (bytes "FOR", For) ∷
    (bytes "ZERO", Zero) ∷ (bytes "AND", And) ∷ (bytes "NEV", Nev) ∷
    (bytes "ADDC", Addc) ∷ (bytes "INC", Inc) ∷ (bytes "NEG", Neg) ∷ (bytes "SSP", Ssp) ∷ (bytes "SSM", Ssm) ∷ (bytes "CHS", Chs) ∷
    (bytes "CSA", Csa) ∷ (bytes "NOT", Not) ∷ (bytes "ICLEFT", Icleft) ∷ (bytes "CLEFT", Cleft) ∷ (bytes "SWOP", Swop) ∷
    (bytes "ICRIGHT", Icright) ∷ (bytes "CRIGHT", Cright) ∷ (bytes "ABS", Abs) ∷
    (bytes "LGR", Lgr) ∷ (bytes "ARS", Ars) ∷ (bytes "ARR", Arr) ∷ (bytes "LGL", Lgl) ∷ (bytes "ALS", Als) ∷ (bytes "ALR", Alr) ∷
    (bytes "NONZERO", Nonzero) ∷ (bytes "PLUS", Plus) ∷ (bytes "MINUS", Minus) ∷ (bytes "ODD", Odd) ∷ (bytes "EVEN", Even) ∷
    (bytes "CSET", Cset) ∷ (bytes "NOTC", Notc) ∷ (bytes "SENSE1", Sense1) ∷ (bytes "SENSE2", Sense2) ∷
    (bytes "SENSE3", Sense3) ∷ (bytes "SENSE4", Sense4) ∷ (bytes "ANYKEY", Anykey) ∷ (bytes "NOKEY", Nokey) ∷ (bytes "MOD", Mod) ∷ (bytes "CHECKED", Checked) ∷ []

-- how many bytes after the point belong to its keyword: its letters, and one digit after `SENSE` (T4, T6)
unfoldable pub keyword_length : List ℕ → ℕ
keyword_length bs =
    let n = span is_letter bs in
    whether (same_bytes (take n bs) (bytes "SENSE")) (λ _. n + span is_digit (take 1 (drop n bs))) (λ _. n)

-- the kind of a keyword; what is not in the table is unknown, a kind that carries failure 4 (T6, F4)
unfoldable pub keyword_kind : List ℕ → Kind
keyword_kind keyword = given (find (same_bytes keyword) keywords) (λ row. row.1) (λ _. Unknown)
