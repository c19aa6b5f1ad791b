-- Worked examples of symbolic words, of the pool, of the map and of limits, decided by computation. Those on whole sources are in the crate compilation.
use Rattle.std.specs.Prelude.{◌≡◌, refl, ℕ, true, false, take, drop, replicate, List, [], ◌∷◌, map}
use Rattle.word.specs.Shift.{LRS, LLS}
use Rattle.instruction.specs.Opcode.{LDA, STA, ADD, CAS, IRS, LDX, MPY, DIV}
use Rattle.instruction.specs.Slot.{HLT, SKP, NOP, SSC, CRA, TCA, AOA, IAB}
use Rattle.tree.specs.Tree.{Id, CellId, Array, Operand, Subscript, Cell, Unary, Operator, Operation, Relation, Bare, Expr, Term, Cond, Target, Stmt, Stmts, Item, Declaration, Program}
use Rattle.layout.specs.Words.{Sym, ◌⧺◌, stmt_end, expr_words, cond_words, stmt_words, main_words}
use Rattle.layout.specs.Pool.{literals_of, index_of, added_all}
use Rattle.layout.specs.Map.{Role, word_of, image_of, map_at}
use Rattle.layout.specs.Computed.{computed}
use Rattle.layout.specs.Allocation.{Allocation, start, allocate}
use Rattle.layout.specs.Limits.{space_limit, sector_limit, declaration_limit, main_limit}

-- two integers, two arrays, a literal, and an expression and a statement of one word
abbrev i : Id
i = Id.global 2

abbrev j : Id
j = Id.global 3

abbrev a : Array
a = record { number = 0; size = 3; checked = false }

abbrev b : Array
b = record { number = 1; size = 2; checked = false }

-- the first of them with its subscripts tested
abbrev tested : Array
tested = record { number = 0; size = 3; checked = true }

abbrev five : Operand
five = Operand.literal 5

abbrev zero : Expr
zero = Expr.chain [] Term.zero []

abbrev clear : Stmt
clear = Stmt.to_a zero

-- `.NEG .INC @ + 5`: unary words ahead of the addition (K6)
unary_first :
    expr_words (Expr.chain (Unary.neg ∷ Unary.inc ∷ []) Term.accumulator (Operation.binary Operator.add (Cell.plain five) ∷ [])) 0o1000
    ≡ Sym.generic AOA ∷ Sym.generic TCA ∷ Sym.memory ADD five ∷ []
unfolding computed
unary_first = refl

-- `A[I] = B[J]`: the LDX of I behind the value (K6)
element_to_element :
    stmt_words (Stmt.assign (Target.item a (Subscript.by (Operand.named i))) (Expr.chain [] (Term.cell (Cell.item b (Subscript.by (Operand.named j)))) [])) 0o1000
    ≡ Sym.memory LDX (Operand.named j) ∷ Sym.through LDA 1 ∷ Sym.memory LDX (Operand.named i) ∷ Sym.through STA 0 ∷ []
unfolding computed
element_to_element = refl

-- `*`, `/` and `.MOD`, each with 5, `A[I]` and `B[#]`: a subscript's LDX ahead of all (W18)
abbrev operated : Operator → List (List Sym)
operated o =
    map (λ c. expr_words (Expr.chain [] Term.accumulator (Operation.binary o c ∷ [])) 0o1000)
    (Cell.plain five ∷ Cell.item a (Subscript.by (Operand.named i)) ∷ Cell.item b Subscript.hash ∷ [])

multiplied :
    operated Operator.multiply
    ≡ (Sym.memory MPY five ∷ Sym.shift LLS 15 ∷ []) ∷
    (Sym.memory LDX (Operand.named i) ∷ Sym.through MPY 0 ∷ Sym.shift LLS 15 ∷ []) ∷
    (Sym.through MPY 1 ∷ Sym.shift LLS 15 ∷ []) ∷ []
unfolding computed
multiplied = refl

divided :
    operated Operator.divide
    ≡ (Sym.shift LRS 15 ∷ Sym.memory DIV five ∷ []) ∷
    (Sym.memory LDX (Operand.named i) ∷ Sym.shift LRS 15 ∷ Sym.through DIV 0 ∷ []) ∷
    (Sym.shift LRS 15 ∷ Sym.through DIV 1 ∷ []) ∷ []
unfolding computed
divided = refl

-- the test of a subscript: behind the LDX, in its place for `#`, and ahead of the LRS of `.MOD` (W19)
abbrev test : ℕ → List Sym
test low =
    Sym.saved STA ∷ Sym.memory LDA (Operand.named Id.x) ∷ Sym.memory CAS (Operand.literal 65535) ∷ Sym.stop ∷ Sym.generic NOP ∷
    Sym.memory CAS (Operand.literal low) ∷ Sym.generic NOP ∷ Sym.generic SKP ∷ Sym.stop ∷ Sym.saved LDA ∷ []

loaded : expr_words (Expr.chain [] (Term.cell (Cell.item tested (Subscript.by (Operand.named i)))) []) 0o1000 ≡ (Sym.memory LDX (Operand.named i) ∷ test 65533) ⧺ Sym.through LDA 0 ∷ []
unfolding computed
loaded = refl

stored : stmt_words (Stmt.assign (Target.item tested Subscript.hash) zero) 0o1000 ≡ (Sym.generic CRA ∷ test 65533) ⧺ Sym.through STA 0 ∷ []
unfolding computed
stored = refl

set_x_lem : stmt_words (Stmt.set_x (Cell.item tested (Subscript.by five))) 0o1000 ≡ (Sym.memory LDX five ∷ test 65533) ⧺ Sym.through LDX 0 ∷ []
unfolding computed
set_x_lem = refl

for_x_lem :
    stmt_words (Stmt.for_x (Cell.item tested Subscript.hash) Stmt.empty) 0o1000
    ≡ test 65533 ⧺ Sym.through LDX 0 ∷ Sym.memory IRS (Operand.named Id.x) ∷ Sym.jump 0o1013 ∷ []
unfolding computed
for_x_lem = refl

divided_by_tested :
    map (λ s. expr_words (Expr.chain [] Term.accumulator (Operation.binary Operator.modulo (Cell.item tested s) ∷ [])) 0o1000) (Subscript.by five ∷ Subscript.hash ∷ [])
    ≡ ((Sym.memory LDX five ∷ test 65533) ⧺ Sym.shift LRS 15 ∷ Sym.through DIV 0 ∷ Sym.generic IAB ∷ []) ∷
    (test 65533 ⧺ Sym.shift LRS 15 ∷ Sym.through DIV 0 ∷ Sym.generic IAB ∷ []) ∷ []
unfolding computed
divided_by_tested = refl

compared_with_tested :
    cond_words (Cond.relation Relation.equal zero (Cell.item tested Subscript.hash)) 0o1000 0o2000
    ≡ (Sym.generic CRA ∷ test 65533) ⧺ Sym.through CAS 0 ∷ Sym.generic SKP ∷ Sym.generic SKP ∷ Sym.jump 0o2000 ∷ []
unfolding computed
compared_with_tested = refl

remainder :
    operated Operator.modulo
    ≡ (Sym.shift LRS 15 ∷ Sym.memory DIV five ∷ Sym.generic IAB ∷ []) ∷
    (Sym.memory LDX (Operand.named i) ∷ Sym.shift LRS 15 ∷ Sym.through DIV 0 ∷ Sym.generic IAB ∷ []) ∷
    (Sym.shift LRS 15 ∷ Sym.through DIV 1 ∷ Sym.generic IAB ∷ []) ∷ []
unfolding computed
remainder = refl

-- `@ = 5` and the other relations, from '1000 on; what fails goes to '2000
abbrev compared : Relation → List Sym
compared r = cond_words (Cond.relation r (Expr.chain [] Term.accumulator []) (Cell.plain five)) 0o1000 0o2000

abbrev cas : List Sym → List Sym
cas ws = Sym.memory CAS five ∷ ws

-- `<` has not the words of `>` (K6)
every_relation :
    map compared (Relation.equal ∷ Relation.not_equal ∷ Relation.greater ∷ Relation.at_least ∷ Relation.less ∷ Relation.at_most ∷ [])
    ≡ cas (Sym.generic SKP ∷ Sym.generic SKP ∷ Sym.jump 0o2000 ∷ []) ∷
    cas (Sym.generic SKP ∷ Sym.jump 0o2000 ∷ []) ∷
    cas (Sym.jump 0o1004 ∷ Sym.generic NOP ∷ Sym.jump 0o2000 ∷ []) ∷
    cas (Sym.generic NOP ∷ Sym.generic SKP ∷ Sym.jump 0o2000 ∷ []) ∷
    cas (Sym.generic NOP ∷ Sym.jump 0o2000 ∷ []) ∷
    cas (Sym.jump 0o2000 ∷ Sym.generic NOP ∷ []) ∷ []
unfolding computed
every_relation = refl

-- `.IF`, `.WHEN`, `.WHILE`, `.FOR I`, `.FOR #`
every_jump :
    map {B = List Sym} (λ s. stmt_words s 0o1000)
    (Stmt.if (Cond.bare Bare.cset) clear clear ∷ Stmt.when (Cond.bare Bare.cset) clear ∷ Stmt.while (Cond.bare Bare.cset) clear ∷ Stmt.for i zero clear ∷ Stmt.for_x (Cell.plain five) clear ∷ [])
    ≡ (Sym.generic SSC ∷ Sym.jump 0o1004 ∷ Sym.generic CRA ∷ Sym.jump 0o1005 ∷ Sym.generic CRA ∷ []) ∷
    (Sym.generic SSC ∷ Sym.jump 0o1003 ∷ Sym.generic CRA ∷ []) ∷
    (Sym.generic SSC ∷ Sym.jump 0o1004 ∷ Sym.generic CRA ∷ Sym.jump 0o1000 ∷ []) ∷
    (Sym.generic CRA ∷ Sym.memory STA (Operand.named i) ∷ Sym.generic CRA ∷ Sym.memory IRS (Operand.named i) ∷ Sym.jump 0o1002 ∷ []) ∷
    (Sym.memory LDX five ∷ Sym.generic CRA ∷ Sym.memory IRS (Operand.named Id.x) ∷ Sym.jump 0o1001 ∷ []) ∷ []
unfolding computed
every_jump = refl

-- where each of them ends
every_end :
    map {B = ℕ} (λ s. stmt_end s 0o1000)
    (Stmt.if (Cond.bare Bare.cset) clear clear ∷ Stmt.when (Cond.bare Bare.cset) clear ∷ Stmt.while (Cond.bare Bare.cset) clear ∷ Stmt.for i zero clear ∷ Stmt.for_x (Cell.plain five) clear ∷ [])
    ≡ 0o1005 ∷ 0o1003 ∷ 0o1004 ∷ 0o1005 ∷ 0o1004 ∷ []
unfolding computed
every_end = refl

-- every statement's words, one after the other, then HLT
main_words_lem : main_words (Stmts.more (Stmts.more (Stmts.one clear) (Stmt.set_x (Cell.plain five))) clear) 0o1000 ≡ Sym.generic CRA ∷ Sym.memory LDX five ∷ Sym.generic CRA ∷ Sym.generic HLT ∷ []
unfolding computed
main_words_lem = refl

-- `(.ZERO) + 5`, then a compound of an empty statement and two others: what is inside, and no word more
inner_parts :
    expr_words (Expr.chain [] (Term.bracket zero) (Operation.binary Operator.add (Cell.plain five) ∷ [])) 0o1000 ∷
    stmt_words (Stmt.compound (Stmts.more (Stmts.more (Stmts.one Stmt.empty) clear) (Stmt.set_x (Cell.plain five)))) 0o1000 ∷ []
    ≡ (Sym.generic CRA ∷ Sym.memory ADD five ∷ []) ∷ (Sym.generic CRA ∷ Sym.memory LDX five ∷ []) ∷ []
unfolding computed
inner_parts = refl

-- `A[-1] = 5` pools 5, then -1
pool_order : literals_of (stmt_words (Stmt.assign (Target.item a (Subscript.by (Operand.literal 65535))) (Expr.chain [] (Term.cell (Cell.plain five)) [])) 0o1000) ≡ 5 ∷ 65535 ∷ []
unfolding computed
pool_order = refl

-- `@ / B[-2] .MOD 5` pools -2, then 5
pool_order_divided :
    literals_of (expr_words (Expr.chain [] Term.accumulator (Operation.binary Operator.divide (Cell.item b (Subscript.by (Operand.literal 65534))) ∷ Operation.binary Operator.modulo (Cell.plain five) ∷ [])) 0o1000)
    ≡ 65534 ∷ 5 ∷ []
unfolding computed
pool_order_divided = refl

-- a value once, at the place of its first use (K6)
shared : added_all (7 ∷ []) (5 ∷ 7 ∷ 6 ∷ 5 ∷ []) ≡ 7 ∷ 5 ∷ 6 ∷ []
unfolding computed
shared = refl

places : map (index_of (7 ∷ 5 ∷ 6 ∷ [])) (7 ∷ 5 ∷ 6 ∷ 8 ∷ []) ≡ 0 ∷ 1 ∷ 2 ∷ 3 ∷ []
unfolding computed
places = refl

-- ---- The map

-- A and `.PROCEDURE P; .BEGIN A = 5 .END; .NEXTSECTOR;`, then `A = 6 + 5`
abbrev two_sectors : Program
two_sectors =
    let assigned = Stmt.assign (Target.integer (Id.global 0)) in
    record {
      checked = false;
      declarations =
          Declaration.item [] Item.integer ∷ Declaration.procedure [] false [] (Stmts.one (assigned (Expr.chain [] (Term.cell (Cell.plain five)) []))) ∷ Declaration.next_sector ∷ [];
      main = Stmts.one (assigned (Expr.chain [] (Term.cell (Cell.plain (Operand.literal 6))) (Operation.binary Operator.add (Cell.plain five) ∷ [])));
    }

-- X; A and P's word; the link, LDA 5, STA A, JMP* '1000, 5; LDA 6, ADD 5, STA A, HLT, 6, 5: each sector has a pool of its own, and each global a word
two_sectors_lem :
    map {B = List ℕ} (λ at. take 6 (drop at (image_of two_sectors))) (0 ∷ 0o200 ∷ 0o1000 ∷ 0o2000 ∷ [])
    ≡ (0 ∷ 0 ∷ 0 ∷ 0 ∷ 0 ∷ 0 ∷ []) ∷ (0 ∷ 0o001000 ∷ 0 ∷ 0 ∷ 0 ∷ 0 ∷ []) ∷ (0 ∷ 0o005004 ∷ 0o010200 ∷ 0o103000 ∷ 5 ∷ 0 ∷ []) ∷
    (0o005004 ∷ 0o015005 ∷ 0o010200 ∷ 0 ∷ 6 ∷ 5 ∷ []) ∷ []
unfolding computed
two_sectors_lem = refl

-- `.CHECKED; .ARRAY T[size]`, then `@ = T[7]`: LDX 7, the ten words of the test, LDA* T, HLT; the pool has 7, -1 and -size, equal ones once (W19, A7)
abbrev tested_program : ℕ → Program
tested_program size =
    let array : Array = record { number = 0; size = size; checked = true } in
    record {
      checked = true;
      declarations = Declaration.array [] size true [] ∷ [];
      main = Stmts.one (Stmt.to_a (Expr.chain [] (Term.cell (Cell.item array (Subscript.by (Operand.literal 7)))) []));
    }

tested_words :
    map {B = List ℕ} (λ size. take 17 (drop 0o1000 (image_of (tested_program size)))) (3 ∷ 1 ∷ 0 ∷ [])
    ≡ (0o073015 ∷ 0o010002 ∷ 0o004000 ∷ 0o023016 ∷ 0o000000 ∷ 0o101000 ∷ 0o023017 ∷ 0o101000 ∷ 0o100000 ∷ 0o000000 ∷ 0o004002 ∷ 0o104200 ∷ 0o000000 ∷ 7 ∷ 65535 ∷ 65533 ∷ 0 ∷ []) ∷
    (0o073015 ∷ 0o010002 ∷ 0o004000 ∷ 0o023016 ∷ 0o000000 ∷ 0o101000 ∷ 0o023016 ∷ 0o101000 ∷ 0o100000 ∷ 0o000000 ∷ 0o004002 ∷ 0o104200 ∷ 0o000000 ∷ 7 ∷ 65535 ∷ 0 ∷ 0 ∷ []) ∷
    (0o073015 ∷ 0o010002 ∷ 0o004000 ∷ 0o023016 ∷ 0o000000 ∷ 0o101000 ∷ 0o023017 ∷ 0o101000 ∷ 0o100000 ∷ 0o000000 ∷ 0o004002 ∷ 0o104200 ∷ 0o000000 ∷ 7 ∷ 65535 ∷ 0 ∷ 0 ∷ []) ∷ []
unfolding computed
tested_words = refl

-- `.CONSTANT K = 7; .ARRAY T[2](8); .COMPCONSTANT C = 9; .INTEGER B`, then `B = K`: K, T's word, B; LDA K, STA B; the lowest element first, and 16,383, which no array has
abbrev globals : Program
globals =
    record {
      checked = false;
      declarations = Declaration.item [] (Item.constant 7) ∷ Declaration.array [] 2 false (8 ∷ []) ∷ Declaration.item [] (Item.compconstant 9) ∷ Declaration.item [] Item.integer ∷ [];
      main = Stmts.one (Stmt.assign (Target.integer (Id.global 2)) (Expr.chain [] (Term.cell (Cell.plain (Operand.named (Id.global 0)))) []));
    }

every_global :
    map {B = List ℕ} (λ at. take 4 (drop at (image_of globals))) (0o200 ∷ 0o1000 ∷ 16380 ∷ [])
    ≡ (7 ∷ 0o077777 ∷ 0 ∷ 0 ∷ []) ∷ (0o004200 ∷ 0o010202 ∷ 0 ∷ 0 ∷ []) ∷ (0 ∷ 8 ∷ 0 ∷ 0 ∷ []) ∷ []
unfolding computed
every_global = refl

-- the words of a test that are not those of other forms, and what word 2 is at first (W19, A12)
test_words_lem :
    map (word_of (record { pool = []; pool_at = 0o1000; locals = 0o1000 })) (Sym.saved STA ∷ Sym.saved LDA ∷ Sym.stop ∷ []) ∷ take 3 (image_of (tested_program 3)) ∷ []
    ≡ (0o010002 ∷ 0o004002 ∷ 0 ∷ []) ∷ (0 ∷ 0 ∷ 0 ∷ []) ∷ []
unfolding computed
test_words_lem = refl

-- what the map tells apart: X, word 2 only where subscripts are tested, and the two HLTs of a test, but not the one that ends the main body (A12)
told_apart :
    map (map_at (tested_program 3)) (0 ∷ 1 ∷ 2 ∷ 0o1004 ∷ 0o1005 ∷ 0o1011 ∷ 0o1014 ∷ []) ∷ map (map_at globals) (0 ∷ 1 ∷ 2 ∷ []) ∷ []
    ≡ (Role.cell (CellId.named Id.x) 0 ∷ Role.free ∷ Role.saved ∷ Role.stop ∷ Role.fixed 0o101000 ∷ Role.stop ∷ Role.fixed 0 ∷ []) ∷
    (Role.cell (CellId.named Id.x) 0 ∷ Role.free ∷ Role.free ∷ []) ∷ []
unfolding computed
told_apart = refl

-- ---- Limits

-- an allocation: next address of code, words in the pool, sectors closed, element 0 of the next array
abbrev allocation_of : ℕ → ℕ → ℕ → ℕ → Allocation
allocation_of next pool closed array = record { scope = start.scope; next = next; pool = replicate pool 0; ends = replicate closed 0; array = array }

-- `.NEXTSECTOR` moves to the next sector, from an empty one and from one that is exactly full
full_sector : map {B = ℕ} (λ next. (allocate (allocation_of next 0 0 16383) Declaration.next_sector).next) (0o1000 ∷ 0o1777 ∷ 0o2000 ∷ []) ≡ 0o2000 ∷ 0o2000 ∷ 0o2000 ∷ []
unfolding computed
full_sector = refl

-- and its pool is empty, whatever the one that is closed holds (A9)
emptied : map (λ pool. (allocate (allocation_of 0o1004 pool 0 16383) Declaration.next_sector).pool) (0 ∷ 1 ∷ 512 ∷ []) ≡ [] ∷ [] ∷ [] ∷ []
unfolding computed
emptied = refl

-- 12 at the `.END` of the program: LDA 0, STA X, HLT and the 0 that they pool are four words, three if it is pooled already
abbrev zero_x : Stmts
zero_x = Stmts.one (Stmt.assign (Target.integer Id.x) (Expr.chain [] (Term.cell (Cell.plain (Operand.literal 0))) []))

main_limit_lem :
    main_limit (allocation_of 0o1774 0 0 16383) zero_x ∷ main_limit (allocation_of 0o1775 0 0 16383) zero_x ∷
    main_limit (allocation_of 0o1774 1 0 16383) zero_x ∷ main_limit (allocation_of 0o1775 1 0 16383) zero_x ∷ []
    ≡ 0 ∷ 12 ∷ 0 ∷ 12 ∷ []
unfolding computed
main_limit_lem = refl

-- 12 at the `.END` of a procedure: its link and its `JMP* link` are two words
abbrev empty_procedure : Declaration
empty_procedure = Declaration.procedure [] false [] (Stmts.one Stmt.empty)

procedure_limit :
    declaration_limit (allocation_of 0o1776 0 0 16383) empty_procedure ∷ declaration_limit (allocation_of 0o1777 0 0 16383) empty_procedure ∷
    declaration_limit (allocation_of 0o1775 1 0 16383) empty_procedure ∷ declaration_limit (allocation_of 0o1776 1 0 16383) empty_procedure ∷ []
    ≡ 0 ∷ 12 ∷ 0 ∷ 12 ∷ []
unfolding computed
procedure_limit = refl

-- the pending pool counts; equal passes
array_limit : space_limit (allocation_of 0o1000 3 0 0o1007) 4 ∷ space_limit (allocation_of 0o1000 3 0 0o1007) 5 ∷ sector_limit (allocation_of 0o1004 3 0 0o1007) ∷ sector_limit (allocation_of 0o1005 3 0 0o1007) ∷ [] ≡ 0 ∷ 13 ∷ 0 ∷ 13 ∷ []
unfolding computed
array_limit = refl

-- in the last sector no other follows, 13; 12 goes first
last_sector_full : declaration_limit (allocation_of 0o37777 0 30 16383) Declaration.next_sector ∷ declaration_limit (allocation_of 0o40001 0 30 16383) Declaration.next_sector ∷ [] ≡ 13 ∷ 12 ∷ []
unfolding computed
last_sector_full = refl
