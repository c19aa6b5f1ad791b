-- The words of each form go from its address to its end.
use Prim.Native.Nat.{ℕ, suc, ◌+◌}
use mathlib.Core.Path.{◌≡◌, refl, sym, subst, ◌∙◌}
use mathlib.Core.List.{List, [], ◌∷◌}
use native.Mathlib.Nat.{add-zero, add-suc, suc-add, add_comm}
use lib.ListN.{length}
use Rattle.instruction.specs.Opcode.{LDA, STA, CAS, LDX}
use Rattle.tree.specs.Tree.{Expr, Term, Cond, Stmt, Stmts}
use Rattle.layout_laws.specs.WordEnds.{WordEnds}
use Rattle.layout.specs.Words.{Sym, ◌⧺◌, after, cell_words, unaries_words, operations_words, Control, control_words, controls, expr_end, term_end, cond_end, target_cell, stmt_end, stmts_end, expr_words, term_words, cond_words, stmt_words, stmts_words}

-- the words go from a to b
pub data Span : ℕ → List Sym → ℕ → Type 0 where
  none : {a : ℕ} → Span a [] a
  word : {a b : ℕ} {w : Sym} {ws : List Sym} → Span (suc a) ws b → Span a (w ∷ ws) b

pub join : {us vs : List Sym} {a b c : ℕ} → Span a us b → Span b vs c → Span a (us ⧺ vs) c
unfolding ◌⧺◌
join none q = q
join (word p) q = word (join p q)

pub along : (ws : List Sym) (a : ℕ) → Span a ws (after ws a)
along [] a = subst (λ (b : ℕ). Span a [] b) (sym (add-zero a)) none
along (w ∷ ws) a = word (subst (λ (b : ℕ). Span (suc a) ws b) (suc-add a (length ws) ∙ sym (add-suc a (length ws))) (along ws (suc a)))

controls_along : (end failing : ℕ) (cs : List Control) (a : ℕ) → Span a (control_words end failing cs) (length cs + a)
unfolding control_words
controls_along end failing [] a = subst (λ (b : ℕ). Span a [] b) (sym (add_comm 0 a ∙ add-zero a)) none
controls_along end failing (c ∷ cs) a =
    word (subst (λ (b : ℕ). Span (suc a) (control_words end failing cs) b) (add-suc (length cs) a ∙ sym (suc-add (length cs) a)) (controls_along end failing cs (suc a)))

mutual
  unfolding expr_end expr_words

  pub span_expr : (e : Expr) (a : ℕ) → Span a (expr_words e a) (expr_end e a)
  span_expr (Expr.chain us t os) a = join (span_term t a) (join (along (unaries_words us) _) (along (operations_words os) _))
  span_expr (Expr.choose c s t) a = join (span_cond c a (suc (expr_end s (cond_end c a)))) (join (span_expr s _) (word (span_expr t _)))

  pub span_term : (t : Term) (a : ℕ) → Span a (term_words t a) (term_end t a)
  span_term (Term.cell c) a = along (cell_words LDA c) a
  span_term Term.accumulator a = none
  span_term Term.zero a = word none
  span_term (Term.bracket e) a = span_expr e a
  span_term (Term.call p) a = word none
  span_term (Term.call_with p e) a = join (span_expr e a) (word none)

  pub span_cond : (c : Cond) (a z : ℕ) → Span a (cond_words c a z) (cond_end c a)
  span_cond (Cond.relation r e c) a z = join (span_expr e a) (join (along (cell_words CAS c) _) (controls_along _ z (controls r) _))
  span_cond (Cond.test t e) a z = join (span_expr e a) (word (word none))
  span_cond (Cond.bare b) a z = word (word none)

mutual
  unfolding stmt_end stmt_words

  pub span_stmt : (s : Stmt) (a : ℕ) → Span a (stmt_words s a) (stmt_end s a)
  span_stmt Stmt.empty a = none
  span_stmt (Stmt.assign t e) a = join (span_expr e a) (along (cell_words STA (target_cell t)) _)
  span_stmt (Stmt.to_a e) a = span_expr e a
  span_stmt (Stmt.set_x c) a = along (cell_words LDX c) a
  span_stmt (Stmt.if c s t) a = join (span_cond c a (suc (stmt_end s (cond_end c a)))) (join (span_stmt s _) (word (span_stmt t _)))
  span_stmt (Stmt.when c s) a = join (span_cond c a _) (span_stmt s _)
  span_stmt (Stmt.while c s) a = join (span_cond c a (suc (stmt_end s (cond_end c a)))) (join (span_stmt s _) (word none))
  span_stmt (Stmt.for i e s) a = join (span_expr e a) (word (join (span_stmt s _) (word (word none))))
  span_stmt (Stmt.for_x c s) a = join (along (cell_words LDX c) a) (join (span_stmt s _) (word (word none)))
  span_stmt (Stmt.call p) a = word none
  span_stmt (Stmt.call_with p e) a = join (span_expr e a) (word none)
  span_stmt (Stmt.compound ss) a = span_stmts ss a

  pub span_stmts : (ss : Stmts) (a : ℕ) → Span a (stmts_words ss a) (stmts_end ss a)
  span_stmts (Stmts.one s) a = span_stmt s a
  span_stmts (Stmts.more ss s) a = join (span_stmts ss a) (span_stmt s _)

-- the end is as many words on
pub span_end : {a b : ℕ} {ws : List Sym} → Span a ws b → b ≡ a + length ws
span_end {a} none = sym (add-zero a)
span_end {a} (word {ws = ws} p) = span_end p ∙ suc-add a (length ws) ∙ sym (add-suc a (length ws))

pub same : {a b c : ℕ} {ws : List Sym} → Span a ws b → Span a ws c → b ≡ c
same none none = refl
same (word p) (word q) = same p q

-- ---- As sums

pub expr_end_lem : (e : Expr) (at : ℕ) → at + length (expr_words e at) ≡ expr_end e at
expr_end_lem e at = sym (span_end (span_expr e at))

pub cond_end_lem : (c : Cond) (at failing : ℕ) → at + length (cond_words c at failing) ≡ cond_end c at
cond_end_lem c at failing = sym (span_end (span_cond c at failing))

pub stmt_end_lem : (s : Stmt) (at : ℕ) → at + length (stmt_words s at) ≡ stmt_end s at
stmt_end_lem s at = sym (span_end (span_stmt s at))

pub stmts_end_lem : (ss : Stmts) (at : ℕ) → at + length (stmts_words ss at) ≡ stmts_end ss at
stmts_end_lem ss at = sym (span_end (span_stmts ss at))

pub word_ends : WordEnds
word_ends = record {
  expr = λ e a. span_end (span_expr e a);
  term = λ t a. span_end (span_term t a);
  cond = λ c a z. span_end (span_cond c a z);
  stmt = λ s a. span_end (span_stmt s a);
  stmts = λ ss a. span_end (span_stmts ss a);
}
