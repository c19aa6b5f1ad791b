-- Where each symbolic word stands in the map, the parts do, as the relations of specs/Laid say.
use Prim.Native.Nat.{ℕ, zero, suc, ◌+◌}
use mathlib.Core.Path.{◌≡◌, refl, sym, subst, ◌∙◌}
use mathlib.Core.Bool.{Bool, true, false, cond}
use mathlib.Core.List.{List, [], ◌∷◌}
use native.Mathlib.Nat.{zero-add, add-suc, suc-add}
use mathlib.Core.Option.{Option}
use lib.ListN.{length}
use Rattle.prelude.specs.Choice.{given}
use Rattle.instruction.specs.Opcode.{JMP, LDA, STA, JST, CAS, IRS, LDX}
use Rattle.instruction.specs.Slot.{SPL, TCA}
use Rattle.instruction.specs.declared.Instruction.TheVariants.{Shift, Generic}
use Rattle.tree.specs.Tree.{Id, CellId, Array, Operand, Subscript, Cell, Unary, Operation, Expr, Term, Cond, Target, Stmt, Stmts}
use Rattle.layout.specs.Words.{Sym, ◌⧺◌, Plain, plain_words, unary_plain, shift_plain, after, load_words, above_words, below_words, test_words, subscript_words, reach_words, instruction_word, cell_words, unary_words, unaries_words, operator_form, operation_words, operations_words, Control, controls, control_word, control_words, expr_end, term_end, cond_end, target_cell, stmt_end, stmts_end, expr_words, term_words, cond_words, stmt_words, stmts_words}
use Rattle.layout.specs.Map.{Role, saved_role}
use Rattle.layout.specs.Addresses.{saved_word}
use Rattle.memory_map.specs.Laid.{Map, Sits, Stops, Refers, Direct, ArrayAt, ProcedureWord, Known, Knows, LaidLoad, TestWords, LaidTest, LaidSubscript, LaidCell, LaidOn, LaidJump, LaidCall, LaidPlain, LaidUnary, LaidUnaries, LaidOperations, ControlSits, LaidControls, LaidExpr, LaidTerm, LaidCond, LaidStmt, LaidStmts}
use Rattle.parsing_laws.specs.WellFormed.{Context, ArrayOk, ProcedureOk, CellOk, OperationsOk, TermOk, CondOk, ExprBy, ExprOk, TargetOk, StmtBy, StmtsBy, IsEmpty, StmtOk}
use Rattle.layout_laws.proofs.Spans.{Span, join, same, along, span_expr, span_term, span_cond, span_stmt, span_stmts}

-- what a context's arrays and procedures have in the map; word 2 is as the arrays' flags say
pub record Globals (M : Map) (ps : Known) (x : Context) : Type 0 where
  pub arrays : (r : Array) → ArrayOk x r → ArrayAt M r (0o200 + r.number)
  pub saved_at : (r : Array) → ArrayOk x r → M saved_word ≡ saved_role r.checked
  pub procedures : (p : ℕ) → ProcedureOk x p → ProcedureWord M p (0o200 + p) × Knows ps p

-- a memory reference whose operand is where it refers to
pub record StandsCell (M : Map) (code : ℕ) (o : Operand) (a : ℕ) : Type 0 where
  pub at : ℕ
  pub refers : Refers M a code false at
  pub direct : Direct M o at

-- a symbolic word stands at a: its instruction is there, and refers to what the word names
abbrev pub Stands : Map → ℕ → Sym → Type 0
Stands M a (Sym.generic slot) = Sits M a (Generic slot)
Stands M a (Sym.shift kind n) = Sits M a (Shift kind n)
Stands M a (Sym.memory code o) = StandsCell M code o a
Stands M a (Sym.through code n) = Refers M a code true (0o200 + n)
Stands M a (Sym.jump z) = Refers M a JMP false z
Stands M a (Sym.return link) = Refers M a JMP true link
Stands M a (Sym.saved code) = Refers M a code false saved_word
Stands M a Sym.stop = Stops M a

pub data Covers (M : Map) : ℕ → List Sym → Type 0 where
  none : {a : ℕ} → Covers M a []
  word : {a : ℕ} {w : Sym} {ws : List Sym} → Stands M a w → Covers M (suc a) ws → Covers M a (w ∷ ws)

module _ (M : Map) where
  pub first : {a : ℕ} {w : Sym} {ws : List Sym} → Covers M a (w ∷ ws) → Stands M a w
  first (Covers.word s k) = s

  pub rest : {a : ℕ} {w : Sym} {ws : List Sym} → Covers M a (w ∷ ws) → Covers M (suc a) ws
  rest (Covers.word s k) = k

  pub split : {us vs : List Sym} {a b : ℕ} → Span a us b → Covers M a (us ⧺ vs) → Covers M a us × Covers M b vs
  unfolding ◌⧺◌
  split Span.none k = (Covers.none, k)
  split (Span.word p) (Covers.word s k) = let r = split p k in (Covers.word s r.0, r.1)

  -- ---- Words that name no procedure

  load : (s : Subscript) (a b : ℕ) → Span a (load_words s) b → Covers M a (load_words s) → LaidLoad M s a b
  unfolding load_words
  load (Subscript.by o) a b (Span.word Span.none) k = LaidLoad.by (first k).refers (first k).direct
  load Subscript.hash a b Span.none k = LaidLoad.hash

  plain : (ps : List Plain) (a b : ℕ) → Span a (plain_words ps) b → Covers M a (plain_words ps) → LaidPlain M ps a b
  plain [] a b Span.none k = LaidPlain.none
  plain (Plain.generic slot ∷ ps) a b (Span.word q) (Covers.word s k) = LaidPlain.generic s (plain ps (suc a) b q k)
  plain (Plain.shift kind n ∷ ps) a b (Span.word q) (Covers.word s k) = LaidPlain.shift s (plain ps (suc a) b q k)

  unary : (u : Unary) (a b : ℕ) → Span a (unary_words u) b → Covers M a (unary_words u) → LaidUnary M u a b
  unfolding unary_words
  unary u a b q k = go (unary_plain u) refl b q k
    where
      words : Option Plain → List Sym
      words o = given o (λ p. plain_words (p ∷ [])) (λ _. Sym.generic SPL ∷ Sym.generic TCA ∷ [])

      go : (o : Option Plain) → unary_plain u ≡ o → (b : ℕ) → Span a (words o) b → Covers M a (words o) → LaidUnary M u a b
      go (Option.some p) e b q k = LaidUnary.plain e (plain (p ∷ []) a b q k)
      go Option.none e b (Span.word (Span.word Span.none)) k = LaidUnary.abs e (first k) (first (rest k))

  -- the last unary word comes first
  unaries : (us : List Unary) (a b : ℕ) → Span a (unaries_words us) b → Covers M a (unaries_words us) → LaidUnaries M us a b
  unfolding unaries_words
  unaries [] a b Span.none k = LaidUnaries.none
  unaries (u ∷ us) a b p k =
      let q = split (along (unaries_words us) a) k in
      let m = after (unaries_words us) a in
      subst (LaidUnaries M (u ∷ us) a) (ends p)
      (LaidUnaries.more (unaries us a m (along (unaries_words us) a) q.0) (unary u m _ (along (unary_words u) m) q.1))
    where
      ends : Span a (unaries_words us ⧺ unary_words u) b → after (unary_words u) (after (unaries_words us) a) ≡ b
      ends p = same (join (along (unaries_words us) a) (along (unary_words u) _)) p

  control : (end failing a : ℕ) (c : Control) → Stands M a (control_word end failing c) → ControlSits M a end failing c
  unfolding control_word
  control end failing a Control.nop s = s
  control end failing a Control.skip s = s
  control end failing a Control.past s = LaidJump.jump s
  control end failing a Control.fails s = LaidJump.jump s

  after_cas : (end failing : ℕ) (cs : List Control) (a : ℕ) → length cs + a ≡ end → Covers M a (control_words end failing cs) → LaidControls M failing cs a end
  unfolding control_words
  after_cas end failing [] a e k = subst (LaidControls M failing [] a) (sym (zero-add a) ∙ e) LaidControls.none
  after_cas end failing (c ∷ cs) a e k =
      LaidControls.more (control end failing a c (first k)) (after_cas end failing cs (suc a) (add-suc (length cs) a ∙ sym (suc-add (length cs) a) ∙ e) (rest k))

-- the counter of a loop is where it was stored, and X is word 0
module _ (M : Map) (once : (k l : ℕ) (i : CellId) (v w : ℕ) → M k ≡ Role.cell i v → M l ≡ Role.cell i w → k ≡ l)
    (x_at : M 0 ≡ Role.cell (CellId.named Id.x) 0) where
  same_home : {i : Id} {k l : ℕ} → Direct M (Operand.named i) k → Direct M (Operand.named i) l → k ≡ l
  same_home {i} {k} {l} (Direct.named {v = v} h e) (Direct.named {v = w} j d) = once k l (CellId.named i) v w e d

  again : (i : Id) {a b : ℕ} → (irs : StandsCell M IRS (Operand.named i) a) → (sta : StandsCell M STA (Operand.named i) b) → Refers M a IRS false sta.at
  again i {a} irs sta = subst (Refers M a IRS false) (same_home irs.direct sta.direct) irs.refers

  at_x : {code a : ℕ} → StandsCell M code (Operand.named Id.x) a → Refers M a code false 0
  at_x {code} {a} s = subst (Refers M a code false) (home s.direct) s.refers
    where
      home : {k : ℕ} → Direct M (Operand.named Id.x) k → k ≡ 0
      home {k} (Direct.named {v = v} h e) = once k 0 (CellId.named Id.x) v 0 e x_at

  -- ---- Subscripts

  test_words_lem : (r : Array) (a : ℕ) → Covers M a (test_words r) → TestWords M r a
  unfolding test_words above_words below_words ◌⧺◌
  test_words_lem r a (Covers.word save (Covers.word load (Covers.word high (Covers.word above (Covers.word equal
      (Covers.word low (Covers.word over (Covers.word skip (Covers.word below (Covers.word restore Covers.none)))))))))) = record {
        high = high.at;
        low = low.at;
        save = save;
        load = at_x load;
        compare_high = high.refers;
        at_high = high.direct;
        stop_above = above;
        nop_equal = equal;
        compare_low = low.refers;
        at_low = low.direct;
        nop_over = over;
        skip = skip;
        stop_below = below;
        restore = restore;
      }

  test : (r : Array) (checked : Bool) → r.checked ≡ checked → M saved_word ≡ saved_role checked → (a b : ℕ) → Span a (cond checked (test_words r) []) b
      → Covers M a (cond checked (test_words r) []) → LaidTest M r a b
  unfolding test_words above_words below_words ◌⧺◌ saved_role
  test r true e s a b (Span.word (Span.word (Span.word (Span.word (Span.word (Span.word (Span.word (Span.word (Span.word (Span.word Span.none)))))))))) k =
      LaidTest.words e s (test_words_lem r a k)
  test r false e s a b Span.none k = LaidTest.none e s

  subscript : (r : Array) (s : Subscript) → M saved_word ≡ saved_role r.checked → (a b : ℕ) → Span a (subscript_words r s) b → Covers M a (subscript_words r s)
      → LaidSubscript M r s a b
  unfolding subscript_words
  subscript r s saved a b p k =
      let l = along (load_words s) a in
      let m = after (load_words s) a in
      let ws = cond r.checked (test_words r) [] in
      let q = split M l k in
      subst (LaidSubscript M r s a) (same (join l (along ws m)) p) (LaidSubscript.both (load M s a m l q.0) (test r r.checked refl saved m _ (along ws m) q.1))

module _ (M : Map) (ps : Known) (x : Context) (g : Globals M ps x) (once : (k l : ℕ) (i : CellId) (v w : ℕ) → M k ≡ Role.cell i v → M l ≡ Role.cell i w → k ≡ l)
    (x_at : M 0 ≡ Role.cell (CellId.named Id.x) 0) where
  -- ---- Cells and operations

  -- what reaches a cell, and the instruction on it, right behind that or later
  record Reached (code : ℕ) (c : Cell) (a m n : ℕ) : Type 0 where
    indirect : Bool
    at : ℕ
    cell : LaidCell M c a m indirect at
    refers : Refers M n code indirect at

  reached : (code : ℕ) (c : Cell) (a m n : ℕ) → CellOk x c → Span a (reach_words c) m → Covers M a (reach_words c) → Stands M n (instruction_word code c) → Reached code c a m n
  unfolding reach_words instruction_word
  reached code (Cell.plain o) a m n h Span.none k s = record { indirect = false; at = s.at; cell = LaidCell.plain s.direct; refers = s.refers }
  reached code (Cell.item r s) a m n h p k t = record { indirect = true; at = 0o200 + r.number; cell = LaidCell.item (subscript M once x_at r s (g.saved_at r h.0) a m p k) (g.arrays r h.0); refers = t }

  on_cell : (code : ℕ) (c : Cell) (a : ℕ) → CellOk x c → Covers M a (cell_words code c) → LaidOn M code c a (after (cell_words code c) a)
  unfolding cell_words
  on_cell code c a h k =
      let p = along (reach_words c) a in
      let q = split M p k in
      let r = reached code c a _ _ h p q.0 (first M q.1) in
      subst (LaidOn M code c a) (same (join p (Span.word Span.none)) (along (reach_words c ⧺ instruction_word code c ∷ []) a)) (LaidOn.on r.cell r.refers)

  operations : (os : List Operation) (a b : ℕ) → OperationsOk x os → Span a (operations_words os) b → Covers M a (operations_words os) → LaidOperations M os a b
  unfolding operations_words operation_words
  operations [] a b h Span.none k = LaidOperations.none
  operations (Operation.binary o c ∷ os) a b h p k =
      let before = plain_words (operator_form o).before in
      let behind = plain_words (operator_form o).after in
      let m = after (reach_words c) a in
      let n = after before m in
      let l = after behind (suc n) in
      let whole = join (along (reach_words c) a) (join (along before m) (Span.word (along behind (suc n)))) in
      let q = split M whole k in
      let r = split M (along (reach_words c) a) q.0 in
      let s = split M (along before m) r.1 in
      let i = reached (operator_form o).opcode c a m n h.0 (along (reach_words c) a) r.0 (first M s.1) in
      LaidOperations.binary {k = i.at} {indirect = i.indirect} i.cell (plain M (operator_form o).before m n (along before m) s.0) i.refers
      (plain M (operator_form o).after (suc n) l (along behind (suc n)) (rest M s.1))
      (subst (LaidOperations M os l) (same (join whole (along (operations_words os) l)) p) (operations os l (after (operations_words os) l) h.1 (along (operations_words os) l) q.1))
  operations (Operation.shift s n ∷ os) a b h p k =
      let q = split M (Span.word Span.none) k in
      LaidOperations.shift (plain M (shift_plain s n ∷ []) a (suc a) (Span.word Span.none) q.0)
      (subst (LaidOperations M os (suc a)) (same (join (Span.word Span.none) (along (operations_words os) (suc a))) p)
      (operations os (suc a) (after (operations_words os) (suc a)) h.1 (along (operations_words os) (suc a)) q.1))

  call : (p a : ℕ) → ProcedureOk x p → Refers M a JST true (0o200 + p) → LaidCall M ps p a
  call p a h s = let d = g.procedures p h in LaidCall.call d.1 d.0 s

  -- ---- Forms, with the expressions in them

  module _ (P : Expr → Type 0) (inner : (e : Expr) (a : ℕ) → P e → Covers M a (expr_words e a) → LaidExpr M ps e a (expr_end e a)) where
    pub term : (t : Term) (a : ℕ) → TermOk x P t → Covers M a (term_words t a) → LaidTerm M ps t a (term_end t a)
    unfolding term_words term_end expr_end expr_words
    term (Term.cell c) a h k = LaidTerm.cell (on_cell LDA c a h k)
    term Term.accumulator a h k = LaidTerm.accumulator
    term Term.zero a h k = LaidTerm.zero (first M k)
    term (Term.bracket e) a h k = LaidTerm.bracket (inner e a h k)
    term (Term.call p) a h k = LaidTerm.call (call p a h (first M k))
    term (Term.call_with p e) a h k =
        let q = split M (span_expr e a) k in LaidTerm.call_with (inner e a h.1 q.0) (call p (expr_end e a) h.0 (first M q.1))

    pub condition : (c : Cond) (a z : ℕ) → CondOk x P c → Covers M a (cond_words c a z) → LaidCond M ps c a (cond_end c a) z
    unfolding cond_words cond_end expr_end expr_words
    condition (Cond.relation r e c) a z h k =
        let q = split M (span_expr e a) k in
        let m = expr_end e a in
        let s = split M (along (cell_words CAS c) m) q.1 in
        LaidCond.relation (inner e a h.0 q.0) (on_cell CAS c m h.1 s.0) (after_cas M _ z (controls r) (after (cell_words CAS c) m) refl s.1)
    condition (Cond.test t e) a z h k =
        let q = split M (span_expr e a) k in LaidCond.test (inner e a h q.0) (first M q.1) (LaidJump.jump (first M (rest M q.1)))
    condition (Cond.bare b) a z h k = LaidCond.bare (first M k) (LaidJump.jump (first M (rest M k)))

    expr_by_lem : (e : Expr) (a : ℕ) → ExprBy x P e → Covers M a (expr_words e a) → LaidExpr M ps e a (expr_end e a)
    unfolding expr_end expr_words
    expr_by_lem (Expr.chain us t os) a h k =
        let q = split M (span_term t a) k in
        let m = term_end t a in
        let s = split M (along (unaries_words us) m) q.1 in
        let n = after (unaries_words us) m in
        LaidExpr.chain (term t a h.0 q.0) (unaries M us m n (along (unaries_words us) m) s.0)
        (operations os n (after (operations_words os) n) h.1 (along (operations_words os) n) s.1)
    expr_by_lem (Expr.choose c s t) a h k =
        let m = cond_end c a in
        let n = expr_end s m in
        let q = split M (span_cond c a (suc n)) k in
        let r = split M (span_expr s m) q.1 in
        LaidExpr.choose (condition c a (suc n) h.0 q.0) (inner s m h.1 r.0) (LaidJump.jump (first M r.1)) (inner t (suc n) h.2 (rest M r.1))

  pub expression : (left : ℕ) (e : Expr) (a : ℕ) → ExprOk x left e → Covers M a (expr_words e a) → LaidExpr M ps e a (expr_end e a)
  unfolding ExprOk
  expression zero e a h k = absurd h
  expression (suc left) e a h k = expr_by_lem (ExprOk x left) (expression left) e a h k

  -- ---- Statements

  target : (t : Target) → TargetOk x t → CellOk x (target_cell t)
  unfolding target_cell
  target (Target.integer i) h = h
  target (Target.item a s) h = h

  module _ (P : Expr → Type 0) (expr : (e : Expr) (a : ℕ) → P e → Covers M a (expr_words e a) → LaidExpr M ps e a (expr_end e a))
      (Q : Stmt → Type 0) (inner : (s : Stmt) (a : ℕ) → Q s → Covers M a (stmt_words s a) → LaidStmt M ps s a (stmt_end s a)) where
    pub statements : (ss : Stmts) (a : ℕ) → StmtsBy Q ss → Covers M a (stmts_words ss a) → LaidStmts M ps ss a (stmts_end ss a)
    unfolding stmt_words stmt_end
    statements (Stmts.one s) a h k = LaidStmts.one (inner s a h k)
    statements (Stmts.more ss s) a h k =
        let q = split M (span_stmts ss a) k in LaidStmts.more (statements ss a h.0 q.0) (inner s (stmts_end ss a) h.1 q.1)

    stmt_by_lem : (s : Stmt) (a : ℕ) → StmtBy x P Q s → Covers M a (stmt_words s a) → LaidStmt M ps s a (stmt_end s a)
    unfolding stmt_words stmt_end
    stmt_by_lem Stmt.empty a h k = LaidStmt.empty
    stmt_by_lem (Stmt.assign t e) a h k =
        let q = split M (span_expr e a) k in LaidStmt.assign (expr e a h.1 q.0) (on_cell STA (target_cell t) (expr_end e a) (target t h.0) q.1)
    stmt_by_lem (Stmt.to_a e) a h k = LaidStmt.to_a (expr e a h k)
    stmt_by_lem (Stmt.set_x c) a h k = LaidStmt.set_x (on_cell LDX c a h k)
    stmt_by_lem (Stmt.if c s t) a h k =
        let m = cond_end c a in
        let n = stmt_end s m in
        let q = split M (span_cond c a (suc n)) k in
        let r = split M (span_stmt s m) q.1 in
        LaidStmt.if (condition P expr c a (suc n) h.0 q.0) (inner s m h.1 r.0) (LaidJump.jump (first M r.1)) (inner t (suc n) h.2 (rest M r.1))
    stmt_by_lem (Stmt.when c s) a h k =
        let m = cond_end c a in
        let q = split M (span_cond c a (stmt_end s m)) k in
        LaidStmt.when (condition P expr c a (stmt_end s m) h.0 q.0) (inner s m h.1 q.1)
    stmt_by_lem (Stmt.while c s) a h k =
        let m = cond_end c a in
        let n = stmt_end s m in
        let q = split M (span_cond c a (suc n)) k in
        let r = split M (span_stmt s m) q.1 in
        LaidStmt.while (condition P expr c a (suc n) h.0 q.0) (inner s m h.1 r.0) (LaidJump.jump (first M r.1))
    stmt_by_lem (Stmt.for i e s) a h k =
        let q = split M (span_expr e a) k in
        let m = expr_end e a in
        let n = stmt_end s (suc m) in
        let r = split M (span_stmt s (suc m)) (rest M q.1) in
        let sta = first M q.1 in
        let irs = first M r.1 in
        LaidStmt.for (expr e a h.1 q.0) sta.direct sta.refers (inner s (suc m) h.2 r.0) (again M once x_at i irs sta) (LaidJump.jump (first M (rest M r.1)))
    stmt_by_lem (Stmt.for_x c s) a h k =
        let q = split M (along (cell_words LDX c) a) k in
        let m = after (cell_words LDX c) a in
        let r = split M (span_stmt s m) q.1 in
        LaidStmt.for_x (on_cell LDX c a h.0 q.0) (inner s m h.1 r.0) (at_x M once x_at (first M r.1)) (LaidJump.jump (first M (rest M r.1)))
    stmt_by_lem (Stmt.call p) a h k = LaidStmt.call (call p a h (first M k))
    stmt_by_lem (Stmt.call_with p e) a h k =
        let q = split M (span_expr e a) k in LaidStmt.call_with (expr e a h.1 q.0) (call p (expr_end e a) h.0 (first M q.1))
    stmt_by_lem (Stmt.compound ss) a h k = LaidStmt.compound (statements ss a h k)

  is_empty : (s : Stmt) (a : ℕ) → IsEmpty s → LaidStmt M ps s a (stmt_end s a)
  unfolding stmt_end
  is_empty Stmt.empty a h = LaidStmt.empty
  is_empty (Stmt.assign t e) a h = absurd h
  is_empty (Stmt.to_a e) a h = absurd h
  is_empty (Stmt.set_x c) a h = absurd h
  is_empty (Stmt.if c s t) a h = absurd h
  is_empty (Stmt.when c s) a h = absurd h
  is_empty (Stmt.while c s) a h = absurd h
  is_empty (Stmt.for i e s) a h = absurd h
  is_empty (Stmt.for_x c s) a h = absurd h
  is_empty (Stmt.call p) a h = absurd h
  is_empty (Stmt.call_with p e) a h = absurd h
  is_empty (Stmt.compound ss) a h = absurd h

  pub statement : (left : ℕ) (s : Stmt) (a : ℕ) → StmtOk x left s → Covers M a (stmt_words s a) → LaidStmt M ps s a (stmt_end s a)
  unfolding StmtOk
  statement zero s a h k = is_empty s a h
  statement (suc left) s a h k = stmt_by_lem (ExprOk x (suc left)) (expression (suc left)) (StmtOk x left) (statement left) s a h k

  pub body : (ss : Stmts) (a : ℕ) → StmtsBy (StmtOk x 33) ss → Covers M a (stmts_words ss a) → LaidStmts M ps ss a (stmts_end ss a)
  body ss a h k = statements (ExprOk x 33) (expression 33) (StmtOk x 33) (statement 33) ss a h k
