-- Each symbolic word of a well-formed part can be emitted: its instruction is one, and what it refers to is in reach.
use Prim.Native.Nat.{ℕ, zero, suc, ◌≤◌, ◌<◌}
use mathlib.Core.Path.{◌≡◌, refl, sym, subst}
use mathlib.Core.Bool.{Bool, true, false, cond}
use mathlib.Core.Logic.{◌⊎◌, inl, inr}
use mathlib.Core.List.{List, [], ◌∷◌, Memᴰ}
use native.Mathlib.Nat.{le-add_right}
use native.Mathlib.Omega.{arith}
use lib.Dec.{T}
use lib.ListN.{length, get_or}
use Rattle.instruction.specs.Opcode.{ADD, ANA, CAS, DIV, ERA, IRS, JST, LDA, LDX, MPY, STA, SUB, opcodes}
use Rattle.word.specs.Shift.{LRS, LLS}
use Rattle.instruction.specs.Slot.{CRA, IAB, NOP, SKP}
use Rattle.instruction.specs.Table.{short_kinds, long_kinds, generics, table_of}
use Rattle.instruction.specs.Encode.{shift_word, Encodes}
use Rattle.instruction.specs.declared.Instruction.TheVariants.{Shift}
use Rattle.instruction.specs.Decode.{find_word, generic_of, is_in, shift_of, memory_of, decode_def}
use Rattle.instruction.proofs.Members.{in_member}
use Rattle.instruction.proofs.Rows.{is_at}
use Rattle.tree.specs.Tree as tree
use Rattle.tree.specs.Tree.{Id, Array, Operand, Subscript, Cell, Unary, Operator, Operation, Test, Bare, Expr, Term, Cond, Target, Stmt, Stmts, lowest}
use Rattle.layout.specs.Words.{Sym, ◌⧺◌, after, load_words, above_words, below_words, test_words, subscript_words, reach_words, instruction_word, cell_words, plain_words, unary_words, unaries_words, Operated, operator_form, shift_kind, operation_words, operations_words, test_slot, bare_slot, Control, controls, control_word, control_words, expr_end, term_end, cond_end, target_cell, stmt_end, stmts_end, expr_words, term_words, cond_words, stmt_words, stmts_words}
use Rattle.parsing_laws.specs.WellFormed.{Kind, Context, IdOk, OperandOk, ArrayOk, ProcedureOk, SubscriptOk, CellOk, OperationsOk, TermOk, CondOk, ExprBy, ExprOk, TargetOk, StmtBy, StmtsBy, IsEmpty, StmtOk}
use Rattle.layout_laws.proofs.Spans.{Span, span_expr, span_cond, span_stmt, span_stmts, span_end, along}

-- an opcode of the instruction table
abbrev pub OpcodeOk : ℕ → Type 0
OpcodeOk code = Memᴰ code opcodes ⊎ (code ≡ LDX)

pub plain_code : (code : ℕ) → is_in code opcodes ≡ true → OpcodeOk code
plain_code code e = inl (in_member code opcodes e)

-- a slot's word decodes to it
abbrev pub SlotOk : ℕ → Type 0
SlotOk slot = T (is_at slot (decode_def (get_or table_of slot 0)))

-- jumps go to addresses from lo to hi
abbrev pub WordOk : Context → ℕ → ℕ → Sym → Type 0
WordOk x lo hi (Sym.generic slot) = SlotOk slot
WordOk x lo hi (Sym.shift kind n) = Encodes (Shift kind n) (shift_word kind n)
WordOk x lo hi (Sym.memory code o) = OpcodeOk code × OperandOk x o
WordOk x lo hi (Sym.through code n) = OpcodeOk code × (n < length x.globals)
WordOk x lo hi (Sym.jump z) = (lo ≤ z) × (z ≤ hi)
WordOk x lo hi (Sym.return link) = (lo ≤ link) × (link ≤ hi)
WordOk x lo hi (Sym.saved code) = OpcodeOk code
WordOk x lo hi Sym.stop = Unit {0}

pub data AllOk (x : Context) (lo hi : ℕ) : List Sym → Type 0 where
  none : AllOk x lo hi []
  word : {w : Sym} {ws : List Sym} → WordOk x lo hi w → AllOk x lo hi ws → AllOk x lo hi (w ∷ ws)

pub both : {x : Context} {lo hi : ℕ} {us vs : List Sym} → AllOk x lo hi us → AllOk x lo hi vs → AllOk x lo hi (us ⧺ vs)
unfolding ◌⧺◌
both none q = q
both (word h p) q = word h (both p q)

-- what is declared is among the globals
among : (ks : List Kind) (n : ℕ) (k : Kind) → (k ≡ Kind.none → ⊥) → get_or ks n Kind.none ≡ k → n < length ks
among [] n k some e = absurd (some (sym e))
among (j ∷ ks) zero k some e = omega arith
among (j ∷ ks) (suc n) k some e = let h = among ks n k some e in omega arith

-- a part ends no earlier than it begins
pub grows : {a b : ℕ} {ws : List Sym} → Span a ws b → a ≤ b
grows {a} {b} {ws} p = subst (λ (n : ℕ). a ≤ n) (sym (span_end p)) (le-add_right a (length ws))

module _ (x : Context) (lo hi : ℕ) where
  array_among : (r : Array) → ArrayOk x r → r.number < length x.globals
  array_among r h = among x.globals r.number (Kind.array r.size r.checked) (λ e. let z : ◌≡◌ {A = ℕ} 0 1 = cc in omega arith) h

  procedure_among : (p : ℕ) → ProcedureOk x p → p < length x.globals
  procedure_among p h = among x.globals p Kind.procedure (λ e. let z : ◌≡◌ {A = ℕ} 0 1 = cc in omega arith) h

  abbrev A : List Sym → Type 0
  A ws = AllOk x lo hi ws

  lda : OpcodeOk LDA
  lda = plain_code LDA refl

  sta : OpcodeOk STA
  sta = plain_code STA refl

  cas : OpcodeOk CAS
  cas = plain_code CAS refl

  ldx : OpcodeOk LDX
  ldx = inr refl

  loading : (s : Subscript) → SubscriptOk x s → A (load_words s)
  unfolding load_words
  loading (Subscript.by o) h = word {w = Sym.memory LDX o} (ldx, h) none
  loading Subscript.hash h = none

  testing : (r : Array) (checked : Bool) → A (cond checked (test_words r) [])
  unfolding test_words above_words below_words ◌⧺◌ is_at decode_def generic_of find_word generics shift_of memory_of table_of
  testing r true =
      word {w = Sym.saved STA} sta (word {w = Sym.memory LDA (Operand.named Id.x)} (lda, tt)
      (word {w = Sym.memory CAS (Operand.literal 65535)} (cas, omega arith) (word {w = Sym.stop} tt (word {w = Sym.generic NOP} tt
      (word {w = Sym.memory CAS (Operand.literal (lowest r))} (cas, omega arith) (word {w = Sym.generic NOP} tt (word {w = Sym.generic SKP} tt
      (word {w = Sym.stop} tt (word {w = Sym.saved LDA} lda none)))))))))
  testing r false = none

  reaching : (c : Cell) → CellOk x c → A (reach_words c)
  unfolding reach_words subscript_words
  reaching (Cell.plain o) h = none
  reaching (Cell.item r s) h = both (loading s h.1) (testing r r.checked)

  order : (code : ℕ) (c : Cell) → OpcodeOk code → CellOk x c → WordOk x lo hi (instruction_word code c)
  unfolding instruction_word
  order code (Cell.plain o) k h = (k, h)
  order code (Cell.item r s) k h = (k, array_among r h.0)

  cell : (code : ℕ) (c : Cell) → OpcodeOk code → CellOk x c → A (cell_words code c)
  unfolding cell_words
  cell code c k h = both (reaching c h) (word {w = instruction_word code c} (order code c k h) none)

  unary : (u : Unary) → A (unary_words u)
  unfolding unary_words is_at decode_def generic_of find_word generics shift_of memory_of table_of
  unary Unary.addc = word tt none
  unary Unary.inc = word tt none
  unary Unary.neg = word tt none
  unary Unary.ssp = word tt none
  unary Unary.ssm = word tt none
  unary Unary.chs = word tt none
  unary Unary.csa = word tt none
  unary Unary.not = word tt none
  unary Unary.icleft = word tt none
  unary Unary.cleft = word tt none
  unary Unary.swop = word tt none
  unary Unary.icright = word tt none
  unary Unary.cright = word tt none
  unary Unary.abs = word tt (word tt none)

  unaries : (us : List Unary) → A (unaries_words us)
  unfolding unaries_words
  unaries [] = none
  unaries (u ∷ us) = both (unaries us) (unary u)

  long_shift : (kind : ℕ) → is_in kind long_kinds ≡ true → A (Sym.shift kind 15 ∷ [])
  long_shift kind e = word {w = Sym.shift kind 15} (Encodes.long (in_member kind long_kinds e)) none

  record FormOk (form : Operated) : Type 0 where
    before : A (plain_words form.before)
    code : OpcodeOk form.opcode
    after : A (plain_words form.after)

  alone : (code : ℕ) → is_in code opcodes ≡ true → FormOk (record { before = []; opcode = code; after = [] })
  alone code e = record { before = none; code = plain_code code e; after = none }

  operator : (o : Operator) → FormOk (operator_form o)
  unfolding operator_form is_at decode_def generic_of find_word generics shift_of memory_of table_of
  operator Operator.add = alone ADD refl
  operator Operator.subtract = alone SUB refl
  operator Operator.and = alone ANA refl
  operator Operator.nev = alone ERA refl
  operator Operator.multiply = record { before = none; code = plain_code MPY refl; after = long_shift LLS refl }
  operator Operator.divide = record { before = long_shift LRS refl; code = plain_code DIV refl; after = none }
  operator Operator.modulo = record { before = long_shift LRS refl; code = plain_code DIV refl; after = word {w = Sym.generic IAB} tt none }

  is_kind : (s : tree.Shift) → is_in (shift_kind s) short_kinds ≡ true
  unfolding shift_kind
  is_kind tree.Shift.lgr = refl
  is_kind tree.Shift.ars = refl
  is_kind tree.Shift.arr = refl
  is_kind tree.Shift.lgl = refl
  is_kind tree.Shift.als = refl
  is_kind tree.Shift.alr = refl

  shift_kind_lem : (s : tree.Shift) → Memᴰ (shift_kind s) short_kinds
  shift_kind_lem s = in_member (shift_kind s) short_kinds (is_kind s)

  operations : (os : List Operation) → OperationsOk x os → A (operations_words os)
  unfolding operations_words operation_words
  operations [] h = none
  operations (Operation.binary o c ∷ os) h =
      let ok = operator o in
      both (both (reaching c h.0) (both ok.before (word {w = instruction_word (operator_form o).opcode c} (order (operator_form o).opcode c ok.code h.0) ok.after))) (operations os h.1)
  operations (Operation.shift s n ∷ os) h = both (word {w = Sym.shift (shift_kind s) n} (Encodes.shift (shift_kind_lem s) h.0.0 h.0.1) none) (operations os h.1)

  test_slot_lem : (t : Test) → SlotOk (test_slot t)
  unfolding test_slot is_at decode_def generic_of find_word generics shift_of memory_of table_of
  test_slot_lem Test.zero = tt
  test_slot_lem Test.nonzero = tt
  test_slot_lem Test.plus = tt
  test_slot_lem Test.minus = tt
  test_slot_lem Test.odd = tt
  test_slot_lem Test.even = tt

  bare_slot_lem : (b : Bare) → SlotOk (bare_slot b)
  unfolding bare_slot is_at decode_def generic_of find_word generics shift_of memory_of table_of
  bare_slot_lem Bare.cset = tt
  bare_slot_lem Bare.notc = tt
  bare_slot_lem Bare.sense1 = tt
  bare_slot_lem Bare.sense2 = tt
  bare_slot_lem Bare.sense3 = tt
  bare_slot_lem Bare.sense4 = tt
  bare_slot_lem Bare.anykey = tt
  bare_slot_lem Bare.nokey = tt

  zero_slot : SlotOk CRA
  unfolding is_at decode_def generic_of find_word generics shift_of memory_of table_of
  zero_slot = tt

  control : (end failing : ℕ) (c : Control) → lo ≤ end → end ≤ hi → lo ≤ failing → failing ≤ hi → WordOk x lo hi (control_word end failing c)
  unfolding control_word is_at decode_def generic_of find_word generics shift_of memory_of table_of
  control end failing Control.nop a b c d = tt
  control end failing Control.skip a b c d = tt
  control end failing Control.past a b c d = (a, b)
  control end failing Control.fails a b c d = (c, d)

  control_words_lem : (end failing : ℕ) (cs : List Control) → lo ≤ end → end ≤ hi → lo ≤ failing → failing ≤ hi → A (control_words end failing cs)
  unfolding control_words
  control_words_lem end failing [] a b c d = none
  control_words_lem end failing (k ∷ ks) a b c d = word {w = control_word end failing k} (control end failing k a b c d) (control_words_lem end failing ks a b c d)

  call : (p : ℕ) → ProcedureOk x p → WordOk x lo hi (Sym.through JST p)
  call p h = (plain_code JST refl, procedure_among p h)

  -- ---- Forms, with the expressions in them

  module _ (P : Expr → Type 0) (inner : (e : Expr) (a : ℕ) → P e → lo ≤ a → expr_end e a ≤ hi → A (expr_words e a)) where
    term : (t : Term) (a : ℕ) → TermOk x P t → lo ≤ a → term_end t a ≤ hi → A (term_words t a)
    unfolding term_words term_end expr_end expr_words
    term (Term.cell c) a h l m = cell LDA c lda h
    term Term.accumulator a h l m = none
    term Term.zero a h l m = word {w = Sym.generic CRA} zero_slot none
    term (Term.bracket e) a h l m = inner e a h l m
    term (Term.call p) a h l m = word {w = Sym.through JST p} (call p h) none
    term (Term.call_with p e) a h l m = both (inner e a h.1 l (omega arith)) (word {w = Sym.through JST p} (call p h.0) none)

    pub condition : (c : Cond) (a z : ℕ) → CondOk x P c → lo ≤ a → cond_end c a ≤ hi → lo ≤ z → z ≤ hi → A (cond_words c a z)
    unfolding cond_words cond_end expr_end expr_words
    condition (Cond.relation r e c) a z h l m n o =
        let g = grows (span_expr e a) in
        both (inner e a h.0 l (omega arith))
        (both (cell CAS c cas h.1) (control_words_lem _ z (controls r) (omega arith) m n o))
    condition (Cond.test t e) a z h l m n o = both (inner e a h l (omega arith)) (word {w = Sym.generic (test_slot t)} (test_slot_lem t) (word {w = Sym.jump z} (n, o) none))
    condition (Cond.bare b) a z h l m n o = word {w = Sym.generic (bare_slot b)} (bare_slot_lem b) (word {w = Sym.jump z} (n, o) none)

    expr_by_lem : (e : Expr) (a : ℕ) → ExprBy x P e → lo ≤ a → expr_end e a ≤ hi → A (expr_words e a)
    unfolding expr_end expr_words
    expr_by_lem (Expr.chain us t os) a h l m = both (term t a h.0 l (omega arith)) (both (unaries us) (operations os h.1))
    expr_by_lem (Expr.choose c s t) a h l m =
        let g = grows (span_cond c a 0) in
        let i = grows (span_expr s (cond_end c a)) in
        let j = grows (span_expr t (suc (expr_end s (cond_end c a)))) in
        both (condition c a _ h.0 l (omega arith) (omega arith) (omega arith))
        (both (inner s _ h.1 (omega arith) (omega arith)) (word {w = Sym.jump (expr_end t (suc (expr_end s (cond_end c a))))} (omega arith, m) (inner t _ h.2 (omega arith) m)))

  pub expression : (left : ℕ) (e : Expr) (a : ℕ) → ExprOk x left e → lo ≤ a → expr_end e a ≤ hi → A (expr_words e a)
  unfolding ExprOk
  expression zero e a h l m = absurd h
  expression (suc left) e a h l m = expr_by_lem (ExprOk x left) (expression left) e a h l m

  -- ---- Statements

  target : (t : Target) → TargetOk x t → CellOk x (target_cell t)
  unfolding target_cell
  target (Target.integer i) h = h
  target (Target.item a s) h = h

  counter : (code : ℕ) (i : Id) → OpcodeOk code → IdOk x i → WordOk x lo hi (Sym.memory code (Operand.named i))
  counter code i k h = (k, h)

  irs : OpcodeOk IRS
  irs = plain_code IRS refl

  module _ (P : Expr → Type 0) (expr : (e : Expr) (a : ℕ) → P e → lo ≤ a → expr_end e a ≤ hi → A (expr_words e a))
      (Q : Stmt → Type 0) (inner : (s : Stmt) (a : ℕ) → Q s → lo ≤ a → stmt_end s a ≤ hi → A (stmt_words s a)) where
    pub statements : (ss : Stmts) (a : ℕ) → StmtsBy Q ss → lo ≤ a → stmts_end ss a ≤ hi → A (stmts_words ss a)
    unfolding stmt_words stmt_end
    statements (Stmts.one s) a h l m = inner s a h l m
    statements (Stmts.more ss s) a h l m =
        let g = grows (span_stmts ss a) in
        let i = grows (span_stmt s (stmts_end ss a)) in
        both (statements ss a h.0 l (omega arith)) (inner s _ h.1 (omega arith) m)

    stmt_by_lem : (s : Stmt) (a : ℕ) → StmtBy x P Q s → lo ≤ a → stmt_end s a ≤ hi → A (stmt_words s a)
    unfolding stmt_words stmt_end
    stmt_by_lem Stmt.empty a h l m = none
    stmt_by_lem (Stmt.assign t e) a h l m = both (expr e a h.1 l (omega arith)) (cell STA (target_cell t) sta (target t h.0))
    stmt_by_lem (Stmt.to_a e) a h l m = expr e a h l m
    stmt_by_lem (Stmt.set_x c) a h l m = cell LDX c ldx h
    stmt_by_lem (Stmt.if c s t) a h l m =
        let g = grows (span_cond c a 0) in
        let i = grows (span_stmt s (cond_end c a)) in
        let j = grows (span_stmt t (suc (stmt_end s (cond_end c a)))) in
        both (condition P expr c a _ h.0 l (omega arith) (omega arith) (omega arith))
        (both (inner s _ h.1 (omega arith) (omega arith))
        (word {w = Sym.jump (stmt_end t (suc (stmt_end s (cond_end c a))))} (omega arith, m) (inner t _ h.2 (omega arith) m)))
    stmt_by_lem (Stmt.when c s) a h l m =
        let g = grows (span_cond c a 0) in
        let i = grows (span_stmt s (cond_end c a)) in
        both (condition P expr c a _ h.0 l (omega arith) (omega arith) m) (inner s _ h.1 (omega arith) m)
    stmt_by_lem (Stmt.while c s) a h l m =
        let g = grows (span_cond c a 0) in
        let i = grows (span_stmt s (cond_end c a)) in
        both (condition P expr c a _ h.0 l (omega arith) (omega arith) m)
        (both (inner s _ h.1 (omega arith) (omega arith)) (word {w = Sym.jump a} (l, omega arith) none))
    stmt_by_lem (Stmt.for i e s) a h l m =
        let g = grows (span_expr e a) in
        let j = grows (span_stmt s (suc (expr_end e a))) in
        both (expr e a h.1 l (omega arith))
        (word {w = Sym.memory STA (Operand.named i)} (counter STA i sta h.0)
        (both (inner s _ h.2 (omega arith) (omega arith))
        (word {w = Sym.memory IRS (Operand.named i)} (counter IRS i irs h.0) (word {w = Sym.jump (suc (expr_end e a))} (omega arith, omega arith) none))))
    stmt_by_lem (Stmt.for_x c s) a h l m =
        let g = grows (along (cell_words LDX c) a) in
        let j = grows (span_stmt s (after (cell_words LDX c) a)) in
        both (cell LDX c ldx h.0)
        (both (inner s _ h.1 (omega arith) (omega arith))
        (word {w = Sym.memory IRS (Operand.named Id.x)} (counter IRS Id.x irs tt) (word {w = Sym.jump (after (cell_words LDX c) a)} (omega arith, omega arith) none)))
    stmt_by_lem (Stmt.call p) a h l m = word {w = Sym.through JST p} (call p h) none
    stmt_by_lem (Stmt.call_with p e) a h l m = both (expr e a h.1 l (omega arith)) (word {w = Sym.through JST p} (call p h.0) none)
    stmt_by_lem (Stmt.compound ss) a h l m = statements ss a h l m

  is_empty : (s : Stmt) (a : ℕ) → IsEmpty s → A (stmt_words s a)
  unfolding stmt_words
  is_empty Stmt.empty a h = none
  is_empty (Stmt.assign t e) a h = absurd h
  is_empty (Stmt.to_a e) a h = absurd h
  is_empty (Stmt.set_x c) a h = absurd h
  is_empty (Stmt.if c s t) a h = absurd h
  is_empty (Stmt.when c s) a h = absurd h
  is_empty (Stmt.while c s) a h = absurd h
  is_empty (Stmt.for i e s) a h = absurd h
  is_empty (Stmt.for_x c s) a h = absurd h
  is_empty (Stmt.call p) a h = absurd h
  is_empty (Stmt.call_with p e) a h = absurd h
  is_empty (Stmt.compound ss) a h = absurd h

  statement : (left : ℕ) (s : Stmt) (a : ℕ) → StmtOk x left s → lo ≤ a → stmt_end s a ≤ hi → A (stmt_words s a)
  unfolding StmtOk
  statement zero s a h l m = is_empty s a h
  statement (suc left) s a h l m = stmt_by_lem (ExprOk x (suc left)) (expression (suc left)) (StmtOk x left) (statement left) s a h l m

  pub body_words : (ss : Stmts) (a : ℕ) → StmtsBy (StmtOk x 33) ss → lo ≤ a → stmts_end ss a ≤ hi → A (stmts_words ss a)
  body_words ss a h l m = statements (ExprOk x 33) (expression 33) (StmtOk x 33) (statement 33) ss a h l m
