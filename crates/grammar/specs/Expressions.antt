-- Expressions and conditions.
use Rattle.std.specs.Prelude.{ℕ, zero, suc, List, []}
use Rattle.std.proofs.Math.Option.{Option, none, some}
use Rattle.prelude.specs.Choice.{whether, between, given}
use Rattle.source.specs.Kinds
use Rattle.source.specs.declared.Token.{Token}
use Rattle.source.specs.Tokens.{token_at, operator_at}
use Rattle.tree.specs.Tree.{Unary, Operation, Expr, Term, Cond}
use Rattle.tree.specs.Symbols.{Names, as_function}
use Rattle.grammar.specs.Parse.{Got, and_then, fail_at, is, expect, snoc, repeat}
use Rattle.grammar.specs.Parse.Got.{got}
use Rattle.grammar.specs.Vocabulary.{unaries, operators, shifts, relations, tests, bares, as_one_of}
use Rattle.grammar.specs.Cells.{CellStart, name_as, parse_in_range, cell_start, cell_from, parse_cell, parse_lone_cell}

-- ---- Terms

-- how a term begins: like a cell, or as one of the others
pub data TermStart : Type 0 where
  cell : CellStart → TermStart
  accumulator : TermStart
  zero_word : TermStart
  bracket : TermStart
  call : ℕ → TermStart

module _ (source : List ℕ) (names : Names) where
  -- the first token of a term (E6, J5)
  unfoldable pub term_start : Token → Got TermStart
  term_start t =
      whether (is Kinds.at t) (λ _. got TermStart.accumulator t.next) λ _.
      whether (is Kinds.ZERO t) (λ _. got TermStart.zero_word t.next) λ _.
      whether (is Kinds.left_parenthesis t) (λ _. got TermStart.bracket t.next) λ _.
      given (name_as source names as_function t) (λ p. got (TermStart.call p) t.next) λ _.
      and_then (cell_start source names t) (λ c next. got (TermStart.cell c) next)

  -- an expression and `)`, after the `(` (E6)
  unfoldable pub parse_bracketed : (ℕ → Got Expr) → ℕ → Got Expr
  parse_bracketed expr at =
      and_then (expr at) (λ e n.
      and_then (expect Kinds.right_parenthesis source n) (λ _ next. got e next))

  -- a call from after its name, given what it is without and with an argument (E6, S9)
  unfoldable pub parse_call : {A : Type 0} → (ℕ → Got Expr) → A → (Expr → A) → ℕ → Got A
  parse_call expr alone with at =
      let t = token_at source at in
      whether (is Kinds.left_parenthesis t) (λ _. and_then (parse_bracketed expr t.next) (λ e next. got (with e) next)) (λ _. got alone at)

  -- a term from after its first token, with the parser of the expressions in it (E6)
  unfoldable pub term_from : (ℕ → Got Expr) → TermStart → ℕ → Got Term
  term_from inner (TermStart.cell c) at = and_then (cell_from source names c at) (λ c next. got (Term.cell c) next)
  term_from inner TermStart.accumulator at = got Term.accumulator at
  term_from inner TermStart.zero_word at = got Term.zero at
  term_from inner TermStart.bracket at = and_then (parse_bracketed inner at) (λ e next. got (Term.bracket e) next)
  term_from inner (TermStart.call p) at = parse_call inner (Term.call p) (Term.call_with p) at

  -- ---- Expressions

  -- one unary word more (E4)
  abbrev pub more_unaries : List Unary → ℕ → Option (Got (List Unary))
  more_unaries done n =
      let t = token_at source n in
      as_one_of unaries t (λ u. some (got (snoc done u) t.next)) (λ _. none)

  -- any unary words (E4)
  unfoldable pub parse_unaries : ℕ → Got (List Unary)
  parse_unaries at = repeat source more_unaries [] at

  -- one operation, added to those before it: an operator and a cell, or a shift word and its amount (E7)
  unfoldable pub operation_of : List Operation → Token → Option (Got (List Operation))
  operation_of done t =
      as_one_of operators t (λ o. some (and_then (parse_cell source names t.next) (λ cell next. got (snoc done (Operation.binary o cell)) next))) λ _.
      as_one_of shifts t (λ o. some (and_then (parse_in_range source names (between 1 15) t.next) (λ n next. got (snoc done (Operation.shift o n)) next))) λ _.
      none

  -- one operation more (E7)
  abbrev pub more_operations : List Operation → ℕ → Option (Got (List Operation))
  more_operations done n = operation_of done (operator_at source n)

  -- any operations; where one may stand, a minus is the operator (E4, T11)
  unfoldable pub parse_operations : ℕ → Got (List Operation)
  parse_operations at = repeat source more_operations [] at

  -- unary words, a term and operations (E4)
  unfoldable pub parse_chain : (ℕ → Got Expr) → ℕ → Got Expr
  parse_chain inner at =
      and_then (parse_unaries at) (λ us term_at.
      and_then (term_start (token_at source term_at)) (λ start after_start.
      and_then (term_from inner start after_start) (λ term term_end.
      and_then (parse_operations term_end) (λ os next.
      got (Expr.chain us term os) next))))

  -- a condition from after its expression: a relation and a cell, or a test of A (E8); else 6 (J6)
  unfoldable pub cond_from : Expr → Token → Got Cond
  cond_from e t =
      as_one_of relations t (λ r. and_then (parse_lone_cell source names t.next) (λ cell next. got (Cond.relation r e cell) next)) λ _.
      as_one_of tests t (λ test. got (Cond.test test e) t.next) λ _.
      fail_at t 6

  -- a condition: a test that stands alone, or one that begins with an expression (E8)
  unfoldable pub parse_cond : (ℕ → Got Expr) → ℕ → Got Cond
  parse_cond expr at =
      let t = token_at source at in
      as_one_of bares t (λ b. got (Cond.bare b) t.next) λ _.
      and_then (expr at) (λ e n. cond_from e (token_at source n))

  -- a conditional expression, after its `.IF`; all three parts are one level deeper (E5, S13)
  unfoldable pub parse_choice : (ℕ → Got Expr) → ℕ → Got Expr
  parse_choice inner at =
      and_then (parse_cond inner at) (λ c condition_end.
      and_then (expect Kinds.THEN source condition_end) (λ _ first_at.
      and_then (inner first_at) (λ e first_end.
      and_then (expect Kinds.ELSE source first_end) (λ _ second_at.
      and_then (inner second_at) (λ f next.
      got (Expr.choose c e f) next)))))

  -- an expression at a level too many: 9 at its first token, unless that fails by a lower number (J10, F9)
  unfoldable pub too_deep_expr : Token → Got Expr
  too_deep_expr t =
      whether (is Kinds.IF t) (λ _. fail_at t 9) λ _.
      as_one_of unaries t (λ _. fail_at t 9) λ _.
      and_then (term_start t) (λ _ _. fail_at t 9)

  -- an expression with `left` levels left, its own among them; those within it have one less (E5, S11, S13)
  unfoldable pub parse_expr : ℕ → ℕ → Got Expr
  parse_expr zero at = too_deep_expr (token_at source at)
  parse_expr (suc left) at =
      let t = token_at source at in
      whether (is Kinds.IF t) (λ _. parse_choice (parse_expr left) t.next) (λ _. parse_chain (parse_expr left) at)
