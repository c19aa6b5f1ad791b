-- The words and signs of expressions and conditions, with what they stand for.
use Rattle.std.specs.Prelude.{ℕ, List, [], ◌∷◌, eqb}
use Rattle.prelude.specs.Choice.{find, given}
use Rattle.source.specs.Kinds
use Rattle.source.specs.Kinds.{kind_number}
use Rattle.source.specs.declared.Token.{Token}
use Rattle.tree.specs.Tree.{Unary, Operator, Shift, Relation, Test, Bare}

-- the unary words (E4)
abbrev pub unaries : List (ℕ × Unary)
unaries =
    (Kinds.ADDC, Unary.addc) ∷ (Kinds.INC, Unary.inc) ∷ (Kinds.NEG, Unary.neg) ∷ (Kinds.SSP, Unary.ssp) ∷ (Kinds.SSM, Unary.ssm) ∷
    (Kinds.CHS, Unary.chs) ∷ (Kinds.CSA, Unary.csa) ∷ (Kinds.NOT, Unary.not) ∷ (Kinds.ICLEFT, Unary.icleft) ∷ (Kinds.CLEFT, Unary.cleft) ∷
    (Kinds.SWOP, Unary.swop) ∷ (Kinds.ICRIGHT, Unary.icright) ∷ (Kinds.CRIGHT, Unary.cright) ∷ (Kinds.ABS, Unary.abs) ∷ []

-- the operators (E7)
abbrev pub operators : List (ℕ × Operator)
operators =
    (Kinds.plus, Operator.add) ∷ (Kinds.minus, Operator.subtract) ∷ (Kinds.AND, Operator.and) ∷ (Kinds.NEV, Operator.nev) ∷
    (Kinds.star, Operator.multiply) ∷ (Kinds.slash, Operator.divide) ∷ (Kinds.MOD, Operator.modulo) ∷ []

-- the shift words (E7)
abbrev pub shifts : List (ℕ × Shift)
shifts =
    (Kinds.LGR, Shift.lgr) ∷ (Kinds.ARS, Shift.ars) ∷ (Kinds.ARR, Shift.arr) ∷ (Kinds.LGL, Shift.lgl) ∷ (Kinds.ALS, Shift.als) ∷ (Kinds.ALR, Shift.alr) ∷ []

-- the relations (E8)
abbrev pub relations : List (ℕ × Relation)
relations =
    (Kinds.equal, Relation.equal) ∷ (Kinds.not_equal, Relation.not_equal) ∷ (Kinds.less, Relation.less) ∷
    (Kinds.greater, Relation.greater) ∷ (Kinds.at_most, Relation.at_most) ∷ (Kinds.at_least, Relation.at_least) ∷ []

-- the tests of A (E8)
abbrev pub tests : List (ℕ × Test)
tests =
    (Kinds.ZERO, Test.zero) ∷ (Kinds.NONZERO, Test.nonzero) ∷ (Kinds.PLUS, Test.plus) ∷ (Kinds.MINUS, Test.minus) ∷ (Kinds.ODD, Test.odd) ∷ (Kinds.EVEN, Test.even) ∷ []

-- the tests that stand alone (E8)
abbrev pub bares : List (ℕ × Bare)
bares =
    (Kinds.CSET, Bare.cset) ∷ (Kinds.NOTC, Bare.notc) ∷ (Kinds.SENSE1, Bare.sense1) ∷ (Kinds.SENSE2, Bare.sense2) ∷
    (Kinds.SENSE3, Bare.sense3) ∷ (Kinds.SENSE4, Bare.sense4) ∷ (Kinds.ANYKEY, Bare.anykey) ∷ (Kinds.NOKEY, Bare.nokey) ∷ []

-- what a token stands for in such a table goes to the first of two, else the second is computed
abbrev pub as_one_of : {A B : Type 0} → List (ℕ × A) → Token → (A → B) → (Unit {0} → B) → B
as_one_of table t f g = given (find (eqb (kind_number t.kind)) table) (λ row. f row.1) g
