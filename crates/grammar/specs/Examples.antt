-- Worked examples of trees, decided by computation.
use Rattle.std.specs.Prelude.{◌≡◌, refl, ℕ, true, false, List, [], ◌∷◌, map}
use Rattle.prelude.specs.Text.{bytes}
use Rattle.tree.specs.Tree.{Id, Array, Operand, Subscript, Cell, Unary, Operator, Shift, Operation, Relation, Test, Bare, Expr, Term, Cond, Target, Stmt, Stmts, Item, Declaration}
use Rattle.grammar.specs.Parse.{Got, and_then}
use Rattle.grammar.specs.Parse.Got.{got}
use Rattle.grammar.specs.Expressions.{parse_cond, parse_expr}
use Rattle.grammar.specs.Statements.{parse_stmt}
use Rattle.grammar.specs.Program.{parse_program}
use Rattle.grammar.specs.Computed.{computed}

-- the first program (K1)
first_program_lem :
    parse_program (bytes ".BEGIN .INTEGER A; A = 2140 + 1875 + 960 .END")
    ≡ got
    (record {
      checked = false;
      declarations = Declaration.item (bytes "A") Item.integer ∷ [];
      main = Stmts.one (Stmt.assign (Target.integer (Id.global 0)) (Expr.chain [] (Term.cell (Cell.plain (Operand.literal 2140)))
          (Operation.binary Operator.add (Cell.plain (Operand.literal 1875)) ∷ Operation.binary Operator.add (Cell.plain (Operand.literal 960)) ∷ [])));
    })
    45
unfolding computed
first_program_lem = refl

-- it holds one empty statement
empty_program : parse_program (bytes ".BEGIN .END") ≡ got (record { checked = false; declarations = []; main = Stmts.one Stmt.empty }) 11
unfolding computed
empty_program = refl

abbrev t : Array
t = record { number = 1; size = 2; checked = false }

-- a constant's name as value, a negative size, octal; locals that hide globals; an accumulator procedure; ids, which count all globals that take a word
every_declaration :
    parse_program (bytes ".BEGIN .CONSTANT K=3; .COMPCONSTANT C=-1; .ARRAY T[-2](K,'17); .ACCUMULATOR .PROCEDURE P; .BEGIN .COMPCONSTANT C=5; .INTEGER K; K=C .END; .NEXTSECTOR; P; P(1); @=P; T[C]=P(T[#]) + K .END")
    ≡ got
    (record {
      checked = false;
      declarations =
          Declaration.item (bytes "K") (Item.constant 3) ∷ Declaration.item (bytes "C") (Item.compconstant 65535) ∷ Declaration.array (bytes "T") 2 false (3 ∷ 15 ∷ []) ∷
          Declaration.procedure (bytes "P") true ((bytes "C", Item.compconstant 5) ∷ (bytes "K", Item.integer) ∷ [])
          (Stmts.one (Stmt.assign (Target.integer (Id.local 2 0)) (Expr.chain [] (Term.cell (Cell.plain (Operand.literal 5))) []))) ∷
          Declaration.next_sector ∷ [];
      main =
          Stmts.more (Stmts.more (Stmts.more (Stmts.one (Stmt.call 2)) (Stmt.call_with 2 (Expr.chain [] (Term.cell (Cell.plain (Operand.literal 1))) []))) (Stmt.to_a (Expr.chain [] (Term.call 2) [])))
          (Stmt.assign (Target.item t (Subscript.by (Operand.literal 65535)))
          (Expr.chain [] (Term.call_with 2 (Expr.chain [] (Term.cell (Cell.item t Subscript.hash)) [])) (Operation.binary Operator.add (Cell.plain (Operand.named (Id.global 0))) ∷ [])));
    })
    186
unfolding computed
every_declaration = refl

-- with `.CHECKED` first, every array and every use of it has the flag, in a procedure and in the main body (D17)
abbrev u : Array
u = record { number = 0; size = 1; checked = true }

checked_program :
    parse_program (bytes ".BEGIN .CHECKED; .ARRAY U[1]; .PROCEDURE P; .BEGIN @ = U[#] .END; U[-1] = @ .END")
    ≡ got
    (record {
      checked = true;
      declarations =
          Declaration.array (bytes "U") 1 true [] ∷
          Declaration.procedure (bytes "P") false [] (Stmts.one (Stmt.to_a (Expr.chain [] (Term.cell (Cell.item u Subscript.hash)) []))) ∷ [];
      main = Stmts.one (Stmt.assign (Target.item u (Subscript.by (Operand.literal 65535))) (Expr.chain [] Term.accumulator []));
    })
    80
unfolding computed
checked_program = refl

-- an expression or a statement that stands alone, with no name but X
abbrev expression : List ℕ → Got Expr
expression source = parse_expr source [] 33 0

abbrev statement : List ℕ → Got Stmt
statement source = parse_stmt source [] 33 0

abbrev from_x : List Unary → List Operation → Expr
from_x us os = Expr.chain us (Term.cell (Cell.plain (Operand.named Id.x))) os

abbrev x : Expr
x = from_x [] []

abbrev number : ℕ → Cell
number v = Cell.plain (Operand.literal v)

abbrev less : ℕ → Operation
less v = Operation.binary Operator.subtract (number v)

abbrev to_a : Stmt
to_a = Stmt.to_a x

-- its offset is left out
abbrev condition_of : List ℕ → Got Cond
condition_of source = and_then (parse_cond source [] (parse_expr source [] 33) 0) (λ c next. got c 0)

-- every unary word before the term, every operation after it, all in the order of the source
every_operation :
    expression (bytes ".ADDC .INC .NEG .SSP .SSM .CHS .CSA .NOT .ICLEFT .CLEFT .SWOP .ICRIGHT .CRIGHT .ABS X + 1 - 2 .AND 3 .NEV 4 .LGR 1 .ARS 2 .ARR 3 .LGL 4 .ALS 5 .ALR 15 * 5 / X .MOD -7")
    ≡ got
    (from_x
    (Unary.addc ∷ Unary.inc ∷ Unary.neg ∷ Unary.ssp ∷ Unary.ssm ∷ Unary.chs ∷ Unary.csa ∷ Unary.not ∷ Unary.icleft ∷ Unary.cleft ∷ Unary.swop ∷ Unary.icright ∷ Unary.cright ∷ Unary.abs ∷ [])
    (Operation.binary Operator.add (number 1) ∷ Operation.binary Operator.subtract (number 2) ∷ Operation.binary Operator.and (number 3) ∷ Operation.binary Operator.nev (number 4) ∷
    Operation.shift Shift.lgr 1 ∷ Operation.shift Shift.ars 2 ∷ Operation.shift Shift.arr 3 ∷ Operation.shift Shift.lgl 4 ∷ Operation.shift Shift.als 5 ∷ Operation.shift Shift.alr 15 ∷
    Operation.binary Operator.multiply (number 5) ∷ Operation.binary Operator.divide (Cell.plain (Operand.named Id.x)) ∷ Operation.binary Operator.modulo (number 65529) ∷ []))
    166
unfolding computed
every_operation = refl

-- every relation and test
every_condition :
    map condition_of
    (bytes "X=1" ∷ bytes "X<>1" ∷ bytes "X<1" ∷ bytes "X>1" ∷ bytes "X<=1" ∷ bytes "X>=1" ∷
    bytes "X .ZERO" ∷ bytes "X .NONZERO" ∷ bytes "X .PLUS" ∷ bytes "X .MINUS" ∷ bytes "X .ODD" ∷ bytes "X .EVEN" ∷
    bytes ".CSET" ∷ bytes ".NOTC" ∷ bytes ".SENSE1" ∷ bytes ".SENSE2" ∷ bytes ".SENSE3" ∷ bytes ".SENSE4" ∷ bytes ".ANYKEY" ∷ bytes ".NOKEY" ∷ [])
    ≡ map (λ c. got c 0)
    (Cond.relation Relation.equal x (number 1) ∷ Cond.relation Relation.not_equal x (number 1) ∷ Cond.relation Relation.less x (number 1) ∷
    Cond.relation Relation.greater x (number 1) ∷ Cond.relation Relation.at_most x (number 1) ∷ Cond.relation Relation.at_least x (number 1) ∷
    Cond.test Test.zero x ∷ Cond.test Test.nonzero x ∷ Cond.test Test.plus x ∷ Cond.test Test.minus x ∷ Cond.test Test.odd x ∷ Cond.test Test.even x ∷
    Cond.bare Bare.cset ∷ Cond.bare Bare.notc ∷ Cond.bare Bare.sense1 ∷ Cond.bare Bare.sense2 ∷ Cond.bare Bare.sense3 ∷ Cond.bare Bare.sense4 ∷ Cond.bare Bare.anykey ∷ Cond.bare Bare.nokey ∷ [])
unfolding computed
every_condition = refl

-- an operation after `.ELSE` belongs to the second part (E5)
conditional : expression (bytes ".IF .CSET .THEN @ .ELSE .ZERO + 1") ≡ got (Expr.choose (Cond.bare Bare.cset) (Expr.chain [] Term.accumulator []) (Expr.chain [] Term.zero (Operation.binary Operator.add (number 1) ∷ []))) 33
unfolding computed
conditional = refl

-- the minus: operator after a cell, else a numeral's sign (T12)
minus_operator : expression (bytes "X-1") ≡ got (from_x [] (less 1 ∷ [])) 3
unfolding computed
minus_operator = refl

minus_joined : expression (bytes "X--1") ≡ got (from_x [] (less 65535 ∷ [])) 4
unfolding computed
minus_joined = refl

minus_apart : expression (bytes "X - -1") ≡ got (from_x [] (less 65535 ∷ [])) 6
unfolding computed
minus_apart = refl

-- every statement: as the parts of one compound
every_statement :
    statement (bytes ".BEGIN ; X=1; @=X; #=X; .IF .CSET .THEN .ELSE @=X; .WHEN .CSET .THEN @=X; .WHILE .CSET .DO @=X; .FOR X=X .DO @=X; .FOR #=X .DO @=X; .BEGIN .END .END")
    ≡ got
    (Stmt.compound
    (Stmts.more (Stmts.more (Stmts.more (Stmts.more (Stmts.more (Stmts.more (Stmts.more (Stmts.more (Stmts.more (Stmts.one Stmt.empty)
    (Stmt.assign (Target.integer Id.x) (Expr.chain [] (Term.cell (number 1)) []))) to_a) (Stmt.set_x (Cell.plain (Operand.named Id.x))))
    (Stmt.if (Cond.bare Bare.cset) Stmt.empty to_a)) (Stmt.when (Cond.bare Bare.cset) to_a)) (Stmt.while (Cond.bare Bare.cset) to_a))
    (Stmt.for Id.x x to_a)) (Stmt.for_x (Cell.plain (Operand.named Id.x)) to_a)) (Stmt.compound (Stmts.one Stmt.empty))))
    148
unfolding computed
every_statement = refl
