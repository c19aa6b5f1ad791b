-- Where a form ends, stated: `expr_end`, `stmt_end` and the others give the address after the form's words.
use Rattle.std.specs.Prelude.{ℕ, ◌≡◌}
use Rattle.tree.specs.Tree.{Expr, Term, Cond, Stmt, Stmts}
use Rattle.layout.specs.Words.{after, expr_end, term_end, cond_end, stmt_end, stmts_end, expr_words, term_words, cond_words, stmt_words, stmts_words}

pub record WordEnds : Type 0 where
  pub expr : (e : Expr) (at : ℕ) → expr_end e at ≡ after (expr_words e at) at
  pub term : (t : Term) (at : ℕ) → term_end t at ≡ after (term_words t at) at
  -- wherever a condition goes if it fails
  pub cond : (c : Cond) (at failing : ℕ) → cond_end c at ≡ after (cond_words c at failing) at
  pub stmt : (s : Stmt) (at : ℕ) → stmt_end s at ≡ after (stmt_words s at) at
  pub stmts : (ss : Stmts) (at : ℕ) → stmts_end ss at ≡ after (stmts_words ss at) at
