-- The semantics (group M of docs/REFERENCE.md), which knows a program and a start, but no address. Each form is one definition, with the meanings of its parts as parameters;
-- expressions, conditions and statements call each other, and the nesting left falls, as in parsing.
use Rattle.std.specs.Prelude.{ℕ, zero, suc, ◌+◌, Bool, true, false, cond, List, [], ◌∷◌, eqb}
use Rattle.prelude.specs.Choice.{given}
use Rattle.word.specs.Arithmetic.{compare_of}
use Rattle.instruction.specs.Opcode.{LDA}
use Rattle.instruction.specs.Slot.{CRA}
use Rattle.tree.specs.Tree.{CellId, Unary, Operator, Operation, Relation, Expr, Term, Cond, Target, Stmt, Stmts, Declaration, Program}
use Rattle.layout.specs.Words.{unary_plain, operator_form, shift_plain, test_slot, bare_slot}
use Rattle.semantics.specs.Trace.{State, Trace, bind, next, ended}
use Rattle.semantics.specs.Acts.{Place, value_of, tick, ticks, x_cell, entered, reach, operated_on, operate, store_a, set_x, generic, absolute, plain_on, test, jump, counted}
use Rattle.tree.specs.Symbols.{globals_of}

-- ---- Expressions

-- a unary word does what its instructions do (M4)
unfoldable pub unary_on : Unary → State → State
unary_on u σ = given (unary_plain u) (λ p. plain_on (p ∷ []) σ) (λ _. absolute σ)

-- the last one written first (M4)
unfoldable pub unaries_on : List Unary → State → State
unaries_on [] σ = σ
unaries_on (u ∷ us) σ = unary_on u (unaries_on us σ)

-- an operator with the operand: its instruction, and what stands before and after it (M4)
unfoldable pub operator_on : Operator → Place → State → Trace (Unit {0})
operator_on o p σ = Trace.done tt (plain_on (operator_form o).after (operated_on (operator_form o).opcode p (plain_on (operator_form o).before σ)))

-- an operation with its cell, which is reached first, or a shift (M4)
unfoldable pub operation_on : Operation → State → Trace (Unit {0})
operation_on (Operation.binary o c) σ = bind (reach c σ) (operator_on o)
operation_on (Operation.shift s n) σ = Trace.done tt (plain_on (shift_plain s n ∷ []) σ)

-- from left to right (M4)
unfoldable pub operations_on : List Operation → State → Trace (Unit {0})
operations_on [] σ = Trace.done tt σ
operations_on (o ∷ os) σ = bind (operation_on o σ) (next (operations_on os))

-- the meanings of the procedures, by their numbers
abbrev pub Procedures : Type 0
Procedures = ℕ → State → Trace (Unit {0})

-- `JST*`, the procedure's statements, `JMP*` (M8)
unfoldable pub called : Procedures → ℕ → State → Trace (Unit {0})
called procedures p σ = bind (procedures p (tick σ)) jump

-- the part that a test chooses (M6)
unfoldable pub chosen : {B : Type 0} → (State → Trace B) → (State → Trace B) → Bool → State → Trace B
chosen f g true σ = f σ
chosen f g false σ = g σ

-- a part with no level of nesting left, or a procedure that is not declared: no source that is accepted has one, but for empty statements
abbrev pub unreachable : {A : Type 0} → A → State → Trace (Unit {0})
unreachable part σ = Trace.out σ

-- ---- Conditions

-- how A stands to the operand
pub data Order : Type 0 where
  greater equal less : Order

-- by how many words CAS skips (M14)
unfoldable pub order_of : ℕ → Order
order_of zero = Order.greater
order_of (suc zero) = Order.equal
order_of (suc (suc n)) = Order.less

-- whether a relation holds where A stands so to the operand (M14)
unfoldable pub holds : Relation → Order → Bool
holds Relation.equal Order.greater = false
holds Relation.equal Order.equal = true
holds Relation.equal Order.less = false
holds Relation.not_equal Order.greater = true
holds Relation.not_equal Order.equal = false
holds Relation.not_equal Order.less = true
holds Relation.less Order.greater = false
holds Relation.less Order.equal = false
holds Relation.less Order.less = true
holds Relation.greater Order.greater = true
holds Relation.greater Order.equal = false
holds Relation.greater Order.less = false
holds Relation.at_most Order.greater = false
holds Relation.at_most Order.equal = true
holds Relation.at_most Order.less = true
holds Relation.at_least Order.greater = true
holds Relation.at_least Order.equal = true
holds Relation.at_least Order.less = false

-- how many of the words after the CAS are done: SKP, NOP, JMP (M5)
unfoldable pub words_after : Relation → Order → ℕ
words_after Relation.equal Order.greater = 2
words_after Relation.equal Order.equal = 1
words_after Relation.equal Order.less = 1
words_after Relation.not_equal Order.greater = 1
words_after Relation.not_equal Order.equal = 1
words_after Relation.not_equal Order.less = 0
words_after Relation.less Order.greater = 2
words_after Relation.less Order.equal = 1
words_after Relation.less Order.less = 0
words_after Relation.greater Order.greater = 1
words_after Relation.greater Order.equal = 2
words_after Relation.greater Order.less = 1
words_after Relation.at_most Order.greater = 1
words_after Relation.at_most Order.equal = 1
words_after Relation.at_most Order.less = 0
words_after Relation.at_least Order.greater = 2
words_after Relation.at_least Order.equal = 1
words_after Relation.at_least Order.less = 1

-- CAS and the words after it (M4, M5)
unfoldable pub related : Relation → Place → State → Trace Bool
related r p σ = let o = order_of (compare_of σ.registers.a (value_of p σ)) in Trace.done (holds r o) (ticks (words_after r o) (tick σ))

-- ---- Parts of statements

-- the test, and where it holds the body, the JMP back, a step too, and the next turn; as many turns as there is fuel (M6)
unfoldable pub while_turns : ℕ → (State → Trace Bool) → (State → Trace (Unit {0})) → State → Trace (Unit {0})
while_turns zero c body σ = Trace.out σ
while_turns (suc fuel) c body σ =
    bind (c σ) (chosen (λ τ. bind (body τ) (λ _ υ. while_turns fuel c body (tick υ))) (λ τ. Trace.done tt τ))

-- the body, the IRS, and unless that made 0 the JMP back and the next turn; as many turns as there is fuel (M7)
unfoldable pub for_turns : ℕ → CellId → (State → Trace (Unit {0})) → State → Trace (Unit {0})
for_turns zero i body σ = Trace.out σ
for_turns (suc fuel) i body σ =
    bind (bind (body σ) (counted i)) (chosen (λ τ. for_turns fuel i body (tick τ)) (λ τ. Trace.done tt τ))

-- A is stored; in an element only now its subscript is loaded, behind the value (M4, M9)
unfoldable pub assigned : Target → State → Trace (Unit {0})
assigned (Target.integer i) σ = store_a (CellId.named i) σ
assigned (Target.item a s) σ = bind (entered a s σ) store_a

-- statements from left to right (M6)
unfoldable pub stmts_by : (Stmt → State → Trace (Unit {0})) → Stmts → State → Trace (Unit {0})
stmts_by stmt (Stmts.one s) σ = stmt s σ
stmts_by stmt (Stmts.more ss s) σ = bind (stmts_by stmt ss σ) (next (stmt s))

module _ (procedures : Procedures) where
  -- a term; `inner` is the meaning of an expression that is one level deeper (M4, M8)
  unfoldable pub term_by : (Expr → State → Trace (Unit {0})) → Term → State → Trace (Unit {0})
  term_by inner (Term.cell c) σ = bind (reach c σ) (operate LDA)
  term_by inner Term.accumulator σ = Trace.done tt σ
  term_by inner Term.zero σ = Trace.done tt (generic CRA σ)
  term_by inner (Term.bracket e) σ = inner e σ
  term_by inner (Term.call p) σ = called procedures p σ
  term_by inner (Term.call_with p e) σ = bind (inner e σ) (next (called procedures p))

  -- a condition: its expression, then its test (M4)
  unfoldable pub cond_by : (Expr → State → Trace (Unit {0})) → Cond → State → Trace Bool
  cond_by expr (Cond.relation r e c) σ = bind (expr e σ) (λ _ τ. bind (reach c τ) (related r))
  cond_by expr (Cond.test t e) σ = bind (expr e σ) (next (test (test_slot t)))
  cond_by expr (Cond.bare b) σ = test (bare_slot b) σ

  -- term, unary words, operations (M4); or the part that the condition chooses, the JMP behind the first part being a step (M5, M6)
  unfoldable pub expr_by : (Expr → State → Trace (Unit {0})) → Expr → State → Trace (Unit {0})
  expr_by inner (Expr.chain us t os) σ = bind (term_by inner t σ) (λ _ τ. operations_on os (unaries_on us τ))
  expr_by inner (Expr.choose c s t) σ = bind (cond_by inner c σ) (chosen (λ τ. bind (inner s τ) jump) (inner t))

  -- with `left` levels of nesting left, its own among them
  unfoldable pub expr_at : ℕ → Expr → State → Trace (Unit {0})
  expr_at zero e σ = unreachable e σ
  expr_at (suc left) e σ = expr_by (expr_at left) e σ

  -- ---- Statements

  module _ (fuel : ℕ) where
    -- a statement without its end's observation; `expr` is the meaning of its own expressions, `inner` that of the statements in it
    unfoldable pub body_by : (Expr → State → Trace (Unit {0})) → (Stmt → State → Trace (Unit {0})) → (Stmts → State → Trace (Unit {0})) → Stmt → State → Trace (Unit {0})
    body_by expr inner list Stmt.empty σ = Trace.done tt σ
    -- assignments: the value, then the store; a cell, then the LDX (M4)
    body_by expr inner list (Stmt.assign t e) σ = bind (expr e σ) (next (assigned t))
    body_by expr inner list (Stmt.to_a e) σ = expr e σ
    body_by expr inner list (Stmt.set_x c) σ = bind (reach c σ) set_x
    -- the chosen part; the end of `.IF` comes after the JMP that closes its first part (M6, M12)
    body_by expr inner list (Stmt.if c s t) σ = bind (cond_by expr c σ) (chosen (λ τ. bind (inner s τ) jump) (inner t))
    body_by expr inner list (Stmt.when c s) σ = bind (cond_by expr c σ) (chosen (inner s) (λ τ. Trace.done tt τ))
    -- the turns of a `.WHILE` (M6)
    body_by expr inner list (Stmt.while c s) σ = while_turns fuel (cond_by expr c) (inner s) σ
    -- the start is stored in the counter, then the turns (M7)
    body_by expr inner list (Stmt.for i e s) σ = bind (expr e σ) (λ _ τ. bind (store_a (CellId.named i) τ) (next (for_turns fuel (CellId.named i) (inner s))))
    body_by expr inner list (Stmt.for_x c s) σ = bind (bind (reach c σ) set_x) (next (for_turns fuel x_cell (inner s)))
    -- the argument if there is one, then the call, whose end comes after the procedure's last JMP (M8, M12)
    body_by expr inner list (Stmt.call p) σ = called procedures p σ
    body_by expr inner list (Stmt.call_with p e) σ = bind (expr e σ) (next (called procedures p))
    body_by expr inner list (Stmt.compound ss) σ = list ss σ

    -- a statement and then its end, which so comes after those of the statements in it, in a loop before the JMP back or the IRS (M11, M12)
    unfoldable pub stmt_at : ℕ → Stmt → State → Trace (Unit {0})
    stmt_at zero s σ = bind (body_by unreachable unreachable unreachable s σ) ended
    stmt_at (suc left) s σ = bind (body_by (expr_at (suc left)) (stmt_at left) (stmts_by (stmt_at left)) s σ) ended

-- ---- Procedures and a program

-- the levels 0 to 32, as parsing has them
abbrev pub outermost : Procedures → ℕ → Stmts → State → Trace (Unit {0})
outermost procedures fuel ss σ = stmts_by (stmt_at procedures fuel 33) ss σ

-- a procedure sees the earlier ones; its locals' cells are as those of globals, so that a later call finds what an earlier one left (M3)
unfoldable pub with_declaration : ℕ → ℕ → Procedures → Declaration → Procedures
with_declaration fuel n procedures (Declaration.item name item) = procedures
with_declaration fuel n procedures (Declaration.array name size checked values) = procedures
with_declaration fuel n procedures (Declaration.procedure name accumulator locals body) =
    λ p σ. cond (eqb p n) (outermost procedures fuel body σ) (procedures p σ)
with_declaration fuel n procedures Declaration.next_sector = procedures

unfoldable pub procedures_from : ℕ → ℕ → Procedures → List Declaration → Procedures
procedures_from fuel n procedures [] = procedures
procedures_from fuel n procedures (d ∷ ds) = procedures_from fuel (n + globals_of d) (with_declaration fuel n procedures d) ds

unfoldable pub procedures_of : ℕ → List Declaration → Procedures
procedures_of fuel ds = procedures_from fuel 0 (λ p σ. unreachable p σ) ds

-- the meaning, from a program and a start alone (M1, M13), with fuel for the turns of each loop: the start is observed (M11), then what the main body does,
-- with whose last statement it ends (M10)
unfoldable pub meaning : ℕ → Program → State → Trace (Unit {0})
meaning fuel p σ = Trace.observe σ (outermost (procedures_of fuel p.declarations) fuel p.main σ)
