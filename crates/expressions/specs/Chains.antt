-- The lists of a chain, one step at a time.
use Rattle.std.specs.Prelude.{ℕ, zero, suc, ◌+◌, List, [], ◌∷◌, length}
use Rattle.std.proofs.Math.Option.{Option, none, some}
use Rattle.prelude.specs.Choice.{between}
use Rattle.source.specs.Kinds
use Rattle.source.specs.declared.Token.{Token}
use Rattle.source.specs.Tokens.{token_at}
use Rattle.instruction.specs.Opcode.{CAS}
use Rattle.tree.specs.Tree.{Cell, Unary, Operation, Relation, Test, Expr, Cond}
use Rattle.tree.specs.Symbols.{Names}
use Rattle.grammar.specs.Parse.{Got, and_then, fail_at, expect}
use Rattle.grammar.specs.Parse.Got.{got}
use Rattle.grammar.specs.Vocabulary.{unaries, operators, shifts, relations, tests, as_one_of}
use Rattle.layout.specs.Words.{Sym, ◌⧺◌, reach_words, instruction_word, cell_words, plain_words, controls, control_words, test_slot}
use Rattle.grammar.specs.Cells.{parse_in_range, parse_cell, parse_lone_cell}
use Rattle.expressions.specs.Vocabulary.{before_by, after_by}

module _ (source : List ℕ) where
  -- the unary words from an offset on, up to so many, and the offset after them
  unfoldable pub unaries_by : ℕ → ℕ → List Unary × ℕ
  unaries_by zero at = ([], at)
  unaries_by (suc k) at =
      let t = token_at source at in
      as_one_of unaries t (λ u. let rest = unaries_by k t.next in (u ∷ rest.0, rest.1)) (λ _. ([], at))

  unfoldable pub unaries_of : ℕ → List Unary
  unaries_of at = (unaries_by (length source) at).0

  unfoldable pub unaries_next : ℕ → ℕ
  unaries_next at = (unaries_by (length source) at).1

  -- the operation that a token begins, if it does
  unfoldable pub operation_at : Names → Token → Option (Got Operation)
  operation_at names t =
      as_one_of operators t (λ o. some (and_then (parse_cell source names t.next) (λ c next. got (Operation.binary o c) next))) λ _.
      as_one_of shifts t (λ s. some (and_then (parse_in_range source names (between 1 15) t.next) (λ n next. got (Operation.shift s n) next))) λ _.
      none

-- the words of an operator's instruction on a cell, by the kind of the operator's token (W6, W18)
unfoldable pub operator_words : ℕ → ℕ → Cell → List Sym
operator_words kind opcode c = reach_words c ⧺ plain_words (before_by kind) ⧺ instruction_word opcode c ∷ plain_words (after_by kind)

-- what follows a condition's expression
pub data Comparison : Type 0 where
  relation : Relation → Cell → Comparison
  test : Test → Comparison

unfoldable pub cond_of : Expr → Comparison → Cond
cond_of e (Comparison.relation r c) = Cond.relation r e c
cond_of e (Comparison.test t) = Cond.test t e

unfoldable pub comparison_of : List ℕ → Names → Token → Got Comparison
comparison_of source names t =
    as_one_of relations t (λ r. and_then (parse_lone_cell source names t.next) (λ cell next. got (Comparison.relation r cell) next)) λ _.
    as_one_of tests t (λ test. got (Comparison.test test) t.next) λ _.
    fail_at t 6

-- its words, by where the first one stands and where the condition goes if it fails (W7, W8)
unfoldable pub relation_words : Relation → ℕ → ℕ → List Sym
relation_words r at failing = control_words (at + length (controls r)) failing (controls r)

unfoldable pub comparison_words : Comparison → ℕ → ℕ → List Sym
comparison_words (Comparison.relation r c) at failing = cell_words CAS c ⧺ relation_words r (at + length (cell_words CAS c)) failing
comparison_words (Comparison.test t) at failing = Sym.generic (test_slot t) ∷ Sym.jump failing ∷ []

-- the second part of a conditional expression, with its `.ELSE` (E5)
unfoldable pub else_expr : List ℕ → (ℕ → Got Expr) → ℕ → Got Expr
else_expr source inner at = and_then (expect Kinds.ELSE source at) (λ _ next. inner next)
