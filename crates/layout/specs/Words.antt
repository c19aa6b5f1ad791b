-- The words of each form, still symbolic (group W of docs/REFERENCE.md), and the address after a form that is emitted from an address on.
use Rattle.std.specs.Prelude.{ℕ, suc, ◌+◌, cond, List, [], ◌∷◌, length}
use Rattle.std.proofs.Math.Option.{Option, some, none}
use Rattle.prelude.specs.Choice.{given}
use Rattle.word.specs.Shift.{LGR, ARS, ARR, LGL, ALS, ALR, LRS, LLS}
use Rattle.instruction.specs.Opcode.{ADD, ANA, CAS, DIV, ERA, IRS, JST, LDA, LDX, MPY, STA, SUB}
use Rattle.instruction.specs.Slot.{ACA, AOA, CAL, CAR, CHS, CMA, CRA, CSA, HLT, IAB, ICA, ICL, ICR, NOP, SKP, SLN, SLZ, SMI, SNZ, SPL, SRC, SS1, SS2, SS3, SS4, SSC, SSM, SSP, SSR, SSS, SZE, TCA}
use Rattle.tree.specs.Tree.{Id, Array, Operand, Subscript, Cell, Unary, Operator, Shift, Operation, Relation, Test, Bare, Expr, Term, Cond, Target, Stmt, Stmts, lowest}

-- a word to be emitted, its operand not yet an address: a generic instruction, by its slot; a shift; a memory reference to an integer, a constant or a literal;
-- one that goes indirectly through an array word or a procedure word, by its number among the globals; a jump to an address of code; a return through a link;
-- a memory reference to the word that keeps A while a subscript is tested; the HLT of such a test
pub data Sym : Type 0 where
  generic : ℕ → Sym
  shift : ℕ → ℕ → Sym
  memory : ℕ → Operand → Sym
  through : ℕ → ℕ → Sym
  jump : ℕ → Sym
  return : ℕ → Sym
  saved : ℕ → Sym
  stop : Sym

-- one run of words after another. A definition of its own, so that a proof sees the two runs
infixr 67 ◌⧺◌
unfoldable pub ◌⧺◌ : List Sym → List Sym → List Sym
◌⧺◌ [] ws = ws
◌⧺◌ (v ∷ vs) ws = v ∷ (vs ⧺ ws)

-- the address after words that are emitted from `at` on
abbrev pub after : List Sym → ℕ → ℕ
after ws at = at + length ws

-- ---- Cells

-- the LDX of a subscript, none for `#` (W2)
unfoldable pub load_words : Subscript → List Sym
load_words (Subscript.by o) = Sym.memory LDX o ∷ []
load_words Subscript.hash = []

-- the test of X as a subscript, its first half: A is kept, and X compared with -1; HLT if it is above (W19)
unfoldable pub above_words : List Sym
above_words = Sym.saved STA ∷ Sym.memory LDA (Operand.named Id.x) ∷ Sym.memory CAS (Operand.literal 65535) ∷ Sym.stop ∷ Sym.generic NOP ∷ []

-- and its second: X compared with -size; HLT if it is below, else A is back (W19)
unfoldable pub below_words : ℕ → List Sym
below_words low = Sym.memory CAS (Operand.literal low) ∷ Sym.generic NOP ∷ Sym.generic SKP ∷ Sym.stop ∷ Sym.saved LDA ∷ []

-- both halves, with the array's -size (W19)
unfoldable pub test_words : Array → List Sym
test_words a = above_words ⧺ below_words (lowest a)

-- of an element: its subscript in X, and the test of it if the array's subscripts are tested (W2, W19)
unfoldable pub subscript_words : Array → Subscript → List Sym
subscript_words a s = load_words s ⧺ cond a.checked (test_words a) []

-- what reaches a cell, before the instruction on it (W2)
unfoldable pub reach_words : Cell → List Sym
reach_words (Cell.plain o) = []
reach_words (Cell.item a s) = subscript_words a s

-- the instruction on it: with the operand's own address, or indirect through the array's word (W1, W2)
unfoldable pub instruction_word : ℕ → Cell → Sym
instruction_word opcode (Cell.plain o) = Sym.memory opcode o
instruction_word opcode (Cell.item a s) = Sym.through opcode a.number

-- `OP c`: what reaches the cell, then the instruction (W2)
unfoldable pub cell_words : ℕ → Cell → List Sym
cell_words opcode c = reach_words c ⧺ instruction_word opcode c ∷ []

-- ---- Expressions

-- instructions that act on the registers alone and never skip: a generic one, by its slot; a shift, by its kind and amount
pub data Plain : Type 0 where
  generic : ℕ → Plain
  shift : ℕ → ℕ → Plain

abbrev pub plain_words : List Plain → List Sym
plain_words [] = []
plain_words (Plain.generic slot ∷ ps) = Sym.generic slot ∷ plain_words ps
plain_words (Plain.shift kind n ∷ ps) = Sym.shift kind n ∷ plain_words ps

-- the instruction of a unary word; `.ABS` has two, of which the first skips (W5)
abbrev pub unary_plain : Unary → Option Plain
unary_plain Unary.addc = some (Plain.generic ACA)
unary_plain Unary.inc = some (Plain.generic AOA)
unary_plain Unary.neg = some (Plain.generic TCA)
unary_plain Unary.ssp = some (Plain.generic SSP)
unary_plain Unary.ssm = some (Plain.generic SSM)
unary_plain Unary.chs = some (Plain.generic CHS)
unary_plain Unary.csa = some (Plain.generic CSA)
unary_plain Unary.not = some (Plain.generic CMA)
unary_plain Unary.icleft = some (Plain.generic ICL)
unary_plain Unary.cleft = some (Plain.generic CAL)
unary_plain Unary.swop = some (Plain.generic ICA)
unary_plain Unary.icright = some (Plain.generic ICR)
unary_plain Unary.cright = some (Plain.generic CAR)
unary_plain Unary.abs = none

-- its words: `.ABS` is SPL, TCA (W5)
unfoldable pub unary_words : Unary → List Sym
unary_words u = given (unary_plain u) (λ p. plain_words (p ∷ [])) (λ _. Sym.generic SPL ∷ Sym.generic TCA ∷ [])

-- unary words, the last one written first (W4)
unfoldable pub unaries_words : List Unary → List Sym
unaries_words [] = []
unaries_words (u ∷ us) = unaries_words us ⧺ unary_words u

-- an operator's instructions: the one on its cell, and what stands before and after it, on the registers alone
pub record Operated : Type 0 where
  pub before : List Plain
  pub opcode : ℕ
  pub after : List Plain

abbrev alone : ℕ → Operated
alone opcode = record { before = []; opcode = opcode; after = [] }

-- those of each operator (W6, W18): LLS brings a product into A, LRS makes a double value of A to divide, IAB brings a remainder into A
unfoldable pub operator_form : Operator → Operated
operator_form Operator.add = alone ADD
operator_form Operator.subtract = alone SUB
operator_form Operator.and = alone ANA
operator_form Operator.nev = alone ERA
operator_form Operator.multiply = record { before = []; opcode = MPY; after = Plain.shift LLS 15 ∷ [] }
operator_form Operator.divide = record { before = Plain.shift LRS 15 ∷ []; opcode = DIV; after = [] }
operator_form Operator.modulo = record { before = Plain.shift LRS 15 ∷ []; opcode = DIV; after = Plain.generic IAB ∷ [] }

abbrev pub operator_opcode : Operator → ℕ
operator_opcode o = (operator_form o).opcode

-- the shift of each shift word (W6)
unfoldable pub shift_kind : Shift → ℕ
shift_kind Shift.lgr = LGR
shift_kind Shift.ars = ARS
shift_kind Shift.arr = ARR
shift_kind Shift.lgl = LGL
shift_kind Shift.als = ALS
shift_kind Shift.alr = ALR

abbrev pub shift_plain : Shift → ℕ → Plain
shift_plain s n = Plain.shift (shift_kind s) n

-- an operation: what reaches its cell, then the operator's instruction on it, with what stands before and after; or the shift by its amount (W6, W18)
unfoldable pub operation_words : Operation → List Sym
operation_words (Operation.binary o c) = reach_words c ⧺ plain_words (operator_form o).before ⧺ instruction_word (operator_form o).opcode c ∷ plain_words (operator_form o).after
operation_words (Operation.shift s n) = plain_words (shift_plain s n ∷ [])

-- operations, from left to right (W4)
unfoldable pub operations_words : List Operation → List Sym
operations_words [] = []
operations_words (o ∷ os) = operation_words o ⧺ operations_words os

-- the JST of a call, indirect through the procedure's word (W14)
abbrev pub call_word : ℕ → Sym
call_word p = Sym.through JST p

-- ---- Conditions

-- the skip of each test of A (W8)
unfoldable pub test_slot : Test → ℕ
test_slot Test.zero = SZE
test_slot Test.nonzero = SNZ
test_slot Test.plus = SPL
test_slot Test.minus = SMI
test_slot Test.odd = SLN
test_slot Test.even = SLZ

-- the skip of each test that stands alone (W9)
unfoldable pub bare_slot : Bare → ℕ
bare_slot Bare.cset = SSC
bare_slot Bare.notc = SRC
bare_slot Bare.sense1 = SS1
bare_slot Bare.sense2 = SS2
bare_slot Bare.sense3 = SS3
bare_slot Bare.sense4 = SS4
bare_slot Bare.anykey = SSS
bare_slot Bare.nokey = SSR

-- what may stand after a relation's CAS: NOP, SKP, a JMP past the condition, and a JMP to where it goes if it does not hold (W7)
pub data Control : Type 0 where
  nop skip past fails : Control

-- which of these each relation has (W7)
unfoldable pub controls : Relation → List Control
controls Relation.equal = Control.skip ∷ Control.skip ∷ Control.fails ∷ []
controls Relation.not_equal = Control.skip ∷ Control.fails ∷ []
controls Relation.greater = Control.past ∷ Control.nop ∷ Control.fails ∷ []
controls Relation.at_least = Control.nop ∷ Control.skip ∷ Control.fails ∷ []
controls Relation.less = Control.nop ∷ Control.fails ∷ []
controls Relation.at_most = Control.fails ∷ Control.nop ∷ []

-- as a word, by where the condition ends and where it goes if it does not hold (W7)
unfoldable pub control_word : ℕ → ℕ → Control → Sym
control_word end failing Control.nop = Sym.generic NOP
control_word end failing Control.skip = Sym.generic SKP
control_word end failing Control.past = Sym.jump end
control_word end failing Control.fails = Sym.jump failing

unfoldable pub control_words : ℕ → ℕ → List Control → List Sym
control_words end failing [] = []
control_words end failing (c ∷ cs) = control_word end failing c ∷ control_words end failing cs

-- ---- Where each form ends: the address after its words, given apart from them since a jump forward needs it first. That it is that address is a theorem, `WordEnds` in layout_laws

unfoldable mutual
  pub expr_end : Expr → ℕ → ℕ
  expr_end (Expr.chain us t os) at = after (operations_words os) (after (unaries_words us) (term_end t at))
  expr_end (Expr.choose c s t) at = expr_end t (suc (expr_end s (cond_end c at)))

  pub term_end : Term → ℕ → ℕ
  term_end (Term.cell c) at = after (cell_words LDA c) at
  term_end Term.accumulator at = at
  term_end Term.zero at = suc at
  term_end (Term.bracket e) at = expr_end e at
  term_end (Term.call p) at = suc at
  term_end (Term.call_with p e) at = suc (expr_end e at)

  pub cond_end : Cond → ℕ → ℕ
  cond_end (Cond.relation r e c) at = length (controls r) + after (cell_words CAS c) (expr_end e at)
  cond_end (Cond.test t e) at = suc (suc (expr_end e at))
  cond_end (Cond.bare b) at = suc (suc at)

-- the left side of an assignment, as a cell that is stored to (W12)
unfoldable pub target_cell : Target → Cell
target_cell (Target.integer i) = Cell.plain (Operand.named i)
target_cell (Target.item a s) = Cell.item a s

unfoldable mutual
  pub stmt_end : Stmt → ℕ → ℕ
  stmt_end Stmt.empty at = at
  stmt_end (Stmt.assign t e) at = after (cell_words STA (target_cell t)) (expr_end e at)
  stmt_end (Stmt.to_a e) at = expr_end e at
  stmt_end (Stmt.set_x c) at = after (cell_words LDX c) at
  stmt_end (Stmt.if c s t) at = stmt_end t (suc (stmt_end s (cond_end c at)))
  stmt_end (Stmt.when c s) at = stmt_end s (cond_end c at)
  stmt_end (Stmt.while c s) at = suc (stmt_end s (cond_end c at))
  stmt_end (Stmt.for i e s) at = suc (suc (stmt_end s (suc (expr_end e at))))
  stmt_end (Stmt.for_x c s) at = suc (suc (stmt_end s (after (cell_words LDX c) at)))
  stmt_end (Stmt.call p) at = suc at
  stmt_end (Stmt.call_with p e) at = suc (expr_end e at)
  stmt_end (Stmt.compound ss) at = stmts_end ss at

  pub stmts_end : Stmts → ℕ → ℕ
  stmts_end (Stmts.one s) at = stmt_end s at
  stmts_end (Stmts.more ss s) at = stmt_end s (stmts_end ss at)

-- ---- The words of each form from an address on

unfoldable mutual
  -- the words of an expression: its term, its unary words, its operations (W4)
  pub expr_words : Expr → ℕ → List Sym
  expr_words (Expr.chain us t os) at = term_words t at ⧺ unaries_words us ⧺ operations_words os
  -- `.IF`: the condition, the first part, a JMP to the end, the second part, where the condition goes if it does not hold (W10)
  expr_words (Expr.choose c s t) at =
      let part = cond_end c at in
      let end = expr_end s part in
      cond_words c at (suc end) ⧺ expr_words s part ⧺ Sym.jump (expr_end t (suc end)) ∷ expr_words t (suc end)

  -- LDA of a cell, nothing for `@`, CRA for `.ZERO`, the words of an expression; of a call its argument, then the JST (W3, W14)
  pub term_words : Term → ℕ → List Sym
  term_words (Term.cell c) at = cell_words LDA c
  term_words Term.accumulator at = []
  term_words Term.zero at = Sym.generic CRA ∷ []
  term_words (Term.bracket e) at = expr_words e at
  term_words (Term.call p) at = call_word p ∷ []
  term_words (Term.call_with p e) at = expr_words e at ⧺ call_word p ∷ []

  -- a relation, a test of A, a test alone: each goes to `failing` where it does not hold (W7, W8, W9)
  pub cond_words : Cond → ℕ → ℕ → List Sym
  cond_words (Cond.relation r e c) at failing =
      expr_words e at ⧺ cell_words CAS c ⧺ control_words (cond_end (Cond.relation r e c) at) failing (controls r)
  cond_words (Cond.test t e) at failing = expr_words e at ⧺ Sym.generic (test_slot t) ∷ Sym.jump failing ∷ []
  cond_words (Cond.bare b) at failing = Sym.generic (bare_slot b) ∷ Sym.jump failing ∷ []

unfoldable mutual
  -- the words of a statement; an empty one has none (W15)
  pub stmt_words : Stmt → ℕ → List Sym
  stmt_words Stmt.empty at = []
  -- an assignment: the value, then the LDX that the left side may need, then STA; no STA to `@` (W12)
  stmt_words (Stmt.assign t e) at = expr_words e at ⧺ cell_words STA (target_cell t)
  stmt_words (Stmt.to_a e) at = expr_words e at
  -- `# =` is LDX (W12)
  stmt_words (Stmt.set_x c) at = cell_words LDX c
  -- `.IF`, as the expression above (W10)
  stmt_words (Stmt.if c s t) at =
      let part = cond_end c at in
      let end = stmt_end s part in
      cond_words c at (suc end) ⧺ stmt_words s part ⧺ Sym.jump (stmt_end t (suc end)) ∷ stmt_words t (suc end)
  -- `.WHEN`: where the condition does not hold it goes past the statement (W11)
  stmt_words (Stmt.when c s) at = cond_words c at (stmt_end s (cond_end c at)) ⧺ stmt_words s (cond_end c at)
  -- `.WHILE`: a JMP back to the condition, which goes past that if it does not hold (W11)
  stmt_words (Stmt.while c s) at =
      let part = cond_end c at in cond_words c at (suc (stmt_end s part)) ⧺ stmt_words s part ⧺ Sym.jump at ∷ []
  -- `.FOR`: the start, STA to the counter, the body, IRS of the counter, a JMP back to the body (W13)
  stmt_words (Stmt.for i e s) at =
      let body = suc (expr_end e at) in
      expr_words e at ⧺ Sym.memory STA (Operand.named i) ∷ stmt_words s body ⧺ Sym.memory IRS (Operand.named i) ∷ Sym.jump body ∷ []
  -- `.FOR #`: X is the counter, loaded by LDX (W13)
  stmt_words (Stmt.for_x c s) at =
      let body = after (cell_words LDX c) at in
      cell_words LDX c ⧺ stmt_words s body ⧺ Sym.memory IRS (Operand.named Id.x) ∷ Sym.jump body ∷ []
  -- a call: the argument if it has one, then the JST (W14)
  stmt_words (Stmt.call p) at = call_word p ∷ []
  stmt_words (Stmt.call_with p e) at = expr_words e at ⧺ call_word p ∷ []
  -- a compound: its statements (W15)
  stmt_words (Stmt.compound ss) at = stmts_words ss at

  -- statements one after the other (W15)
  pub stmts_words : Stmts → ℕ → List Sym
  stmts_words (Stmts.one s) at = stmt_words s at
  stmts_words (Stmts.more ss s) at = stmts_words ss at ⧺ stmt_words s (stmts_end ss at)

-- ---- Bodies

-- what follows a procedure's link: its statements, then JMP, indirect, to the link (W16)
unfoldable pub procedure_words : Stmts → ℕ → List Sym
procedure_words body link = stmts_words body (suc link) ⧺ Sym.return link ∷ []

-- the statements of the main body, then HLT (W17)
unfoldable pub main_words : Stmts → ℕ → List Sym
main_words main at = stmts_words main at ⧺ Sym.generic HLT ∷ []
