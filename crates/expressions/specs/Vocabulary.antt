-- The words that stand for an instruction, as the code looks them up.
use Rattle.std.specs.Prelude.{ℕ, Bool, true, false, List, [], eqb, Option, Some, None}
use Rattle.prelude.specs.Choice.{find, given}
use Rattle.instruction.specs.Slot.{ACA, AOA, CAL, CAR, CHS, CMA, CSA, ICA, ICL, ICR, SSM, SSP, TCA}
use Rattle.tree.specs.Tree.{Unary}
use Rattle.grammar.specs.Vocabulary.{operators}
use Rattle.layout.specs.Words.{Plain, operator_form}

-- the number of a kind's row, if there is one
unfoldable pub looked_up : {A : Type 0} → List (ℕ × A) → (A → ℕ) → ℕ → Option ℕ
looked_up table number kind = given (find (eqb kind) table) (λ row. Some (number row.1)) (λ _. None)

-- whether there is one
unfoldable pub stands_in : {A : Type 0} → List (ℕ × A) → ℕ → Bool
stands_in table kind = given (find (eqb kind) table) (λ _. true) (λ _. false)

-- the last instruction of a unary word; only `.ABS` has another, SPL, before it (W5)
unfoldable pub last_slot : Unary → ℕ
last_slot Unary.addc = ACA
last_slot Unary.inc = AOA
last_slot Unary.neg = TCA
last_slot Unary.ssp = SSP
last_slot Unary.ssm = SSM
last_slot Unary.chs = CHS
last_slot Unary.csa = CSA
last_slot Unary.not = CMA
last_slot Unary.icleft = ICL
last_slot Unary.cleft = CAL
last_slot Unary.swop = ICA
last_slot Unary.icright = ICR
last_slot Unary.cright = CAR
last_slot Unary.abs = TCA

-- what stands before and after an operator's instruction, by its token's kind; nothing where it is no operator (W18)
unfoldable pub before_by : ℕ → List Plain
before_by kind = given (find (eqb kind) operators) (λ row. (operator_form row.1).before) (λ _. [])

unfoldable pub after_by : ℕ → List Plain
after_by kind = given (find (eqb kind) operators) (λ row. (operator_form row.1).after) (λ _. [])
