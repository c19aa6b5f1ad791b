-- A statement by its first token.
use Prim.Native.Nat.{ℕ, zero, suc, ◌-◌}
use mathlib.Core.Path.{◌≡◌, refl, ap, ◌∙◌}
use mathlib.Core.Bool.{true, false}
use mathlib.Core.List.{List}
use native.Mathlib.Numerals.{sub-one}
use native.Mathlib.Omega.{arith}
use Rattle.source.specs.declared.Token.{Token}
use Rattle.source.specs.Tokens.{token_at, failure_at}
use Rattle.tree.specs.Tree.{Stmt}
use Rattle.tree.specs.Symbols.{Names}
use Rattle.grammar.specs.Parse.{fail_at}
use Rattle.grammar.specs.Parse.Got.{got, failed}
use Rattle.grammar.specs.Statements.{StmtStart, stmt_start, ends_statement, stmt_from, stmt_by, parse_stmt}
use Rattle.grammar.specs.Expressions.{parse_expr}
use Rattle.parser.proofs.Answers.{then_got, then_failed}

-- ---- A statement by its first token

module _ (source : List ℕ) (names : Names) (at : ℕ) (t : Token) (e : t ≡ token_at source at) where
  pub stmt_empty : (left : ℕ) → ends_statement t ≡ true → parse_stmt source names left at ≡ got Stmt.empty at
  unfolding parse_stmt stmt_by
  stmt_empty zero q = rw (← e, q)
  stmt_empty (suc left) q = rw (← e, q)

  module _ (q : ends_statement t ≡ false) where
    pub stmt_unknown : (left : ℕ) {k o : ℕ} → stmt_start source names (token_at source at) ≡ failed k o → parse_stmt source names left at ≡ failed k o
    unfolding parse_stmt stmt_by
    stmt_unknown zero i = rw (← e, q, e) (then_failed _ i)
    stmt_unknown (suc left) i = rw (← e, q, e) (then_failed _ i)

    module _ {start : StmtStart} {n : ℕ} (i : stmt_start source names (token_at source at) ≡ got start n) where
      started : stmt_start source names t ≡ got start n
      started = ap (stmt_start source names) e ∙ i

      pub stmt_deep : (left : ℕ) → left ≡ 0 → parse_stmt source names left at ≡ failed (failure_at t 9) t.at
      unfolding parse_stmt stmt_by fail_at
      stmt_deep zero z = rw (← e, q) (then_got _ started)
      stmt_deep (suc left) z = absurd (omega arith)

      pub stmt_on : (left : ℕ) → (left ≡ 0 → ⊥) → parse_stmt source names left at ≡ stmt_from source names (parse_expr source names left) (parse_stmt source names (left - 1)) start n
      unfolding parse_stmt stmt_by
      stmt_on zero z = absurd (z refl)
      stmt_on (suc left) z = rw (sub-one, ← e, q) (then_got _ started)
