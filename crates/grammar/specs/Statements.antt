-- Statements.
use Rattle.std.specs.Prelude.{ℕ, zero, suc, Bool, ◌||◌, List, [], ◌∷◌}
use Rattle.prelude.specs.Choice.{whether, given}
use Rattle.source.specs.Kinds
use Rattle.source.specs.declared.Token.{Token}
use Rattle.source.specs.Tokens.{token_at}
use Rattle.tree.specs.Tree.{Id, Array, Expr, Cond, Target, Stmt, Stmts}
use Rattle.tree.specs.Symbols.{Names, as_integer, as_array, as_procedure}
use Rattle.grammar.specs.Parse.{Got, and_then, fail_at, is, expect, separated}
use Rattle.grammar.specs.Parse.Got.{got}
use Rattle.grammar.specs.Vocabulary.{as_one_of}
use Rattle.grammar.specs.Cells.{refuse, name_as, parse_subscript, parse_lone_cell}
use Rattle.grammar.specs.Expressions.{parse_call, parse_cond, parse_expr}

-- what the first token of a statement says that it is
pub data StmtStart : Type 0 where
  integer : Id → StmtStart
  element : Array → StmtStart
  accumulator hash if when while for compound : StmtStart
  call : ℕ → StmtStart

-- the statements that do not begin with a name
abbrev pub statement_starts : List (ℕ × StmtStart)
statement_starts =
    (Kinds.at, StmtStart.accumulator) ∷ (Kinds.hash, StmtStart.hash) ∷ (Kinds.IF, StmtStart.if) ∷ (Kinds.WHEN, StmtStart.when) ∷
    (Kinds.WHILE, StmtStart.while) ∷ (Kinds.FOR, StmtStart.for) ∷ (Kinds.BEGIN, StmtStart.compound) ∷ []

-- a statement is empty where a token stands that may follow one (S1)
abbrev pub ends_statement : Token → Bool
ends_statement t = is Kinds.semicolon t || is Kinds.END t || is Kinds.ELSE t

module _ (source : List ℕ) (names : Names) where
  -- the first token of a statement: what is assigned to (S2), a procedure (S9), or one of the table; else it is refused (J5)
  unfoldable pub stmt_start : Token → Got StmtStart
  stmt_start t =
      given (name_as source names as_integer t) (λ i. got (StmtStart.integer i) t.next) λ _.
      given (name_as source names as_array t) (λ a. got (StmtStart.element a) t.next) λ _.
      given (name_as source names as_procedure t) (λ p. got (StmtStart.call p) t.next) λ _.
      as_one_of statement_starts t (λ start. got start t.next) λ _.
      refuse t

  -- ---- The forms, each from after its first token

  -- `=` and an expression, after what is to the left (S2)
  unfoldable pub parse_assigned : (ℕ → Got Expr) → (Expr → Stmt) → ℕ → Got Stmt
  parse_assigned expr stmt at =
      and_then (expect Kinds.equal source at) (λ _ n.
      and_then (expr n) (λ e next. got (stmt e) next))

  -- an assignment to an element, after the array's name (S2)
  unfoldable pub parse_element : (ℕ → Got Expr) → Array → ℕ → Got Stmt
  parse_element expr a at =
      and_then (parse_subscript source names at) (λ subscript n.
      parse_assigned expr (Stmt.assign (Target.item a subscript)) n)

  -- X loaded from a cell, after the `#` (S3)
  unfoldable pub parse_set_x : ℕ → Got Stmt
  parse_set_x at =
      and_then (expect Kinds.equal source at) (λ _ n.
      and_then (parse_lone_cell source names n) (λ cell next. got (Stmt.set_x cell) next))

  -- what `.IF`, `.WHEN` and `.WHILE` begin with: a condition, the word after it, and the statement that it guards (S4, S5, S6)
  unfoldable pub parse_guarded : (ℕ → Got Expr) → (ℕ → Got Stmt) → ℕ → ℕ → Got (Cond × Stmt)
  parse_guarded expr inner keyword at =
      and_then (parse_cond source names expr at) (λ c condition_end.
      and_then (expect keyword source condition_end) (λ _ statement_at.
      and_then (inner statement_at) (λ s next.
      got (c, s) next)))

  -- a choice of two statements (S4)
  unfoldable pub parse_if : (ℕ → Got Expr) → (ℕ → Got Stmt) → ℕ → Got Stmt
  parse_if expr inner at =
      and_then (parse_guarded expr inner Kinds.THEN at) (λ first first_end.
      and_then (expect Kinds.ELSE source first_end) (λ _ second_at.
      and_then (inner second_at) (λ t next.
      got (Stmt.if first.0 first.1 t) next)))

  -- a statement done or not (S5)
  unfoldable pub parse_when : (ℕ → Got Expr) → (ℕ → Got Stmt) → ℕ → Got Stmt
  parse_when expr inner at = and_then (parse_guarded expr inner Kinds.THEN at) (λ part next. got (Stmt.when part.0 part.1) next)

  -- a loop with its test first (S6)
  unfoldable pub parse_while : (ℕ → Got Expr) → (ℕ → Got Stmt) → ℕ → Got Stmt
  parse_while expr inner at = and_then (parse_guarded expr inner Kinds.DO at) (λ part next. got (Stmt.while part.0 part.1) next)

  -- `.DO` and the body, of a `.FOR` whose head is read (S7, S8)
  unfoldable pub parse_body : (ℕ → Got Stmt) → (Stmt → Stmt) → ℕ → Got Stmt
  parse_body inner loop at =
      and_then (expect Kinds.DO source at) (λ _ n.
      and_then (inner n) (λ s next. got (loop s) next))

  -- a loop with an integer as its counter, after that integer (S7)
  unfoldable pub parse_for_integer : (ℕ → Got Expr) → (ℕ → Got Stmt) → Id → ℕ → Got Stmt
  parse_for_integer expr inner i at =
      and_then (expect Kinds.equal source at) (λ _ n.
      and_then (expr n) (λ e m. parse_body inner (Stmt.for i e) m))

  -- a loop with X as its counter, after the `#` (S8)
  unfoldable pub parse_for_x : (ℕ → Got Stmt) → ℕ → Got Stmt
  parse_for_x inner at =
      and_then (expect Kinds.equal source at) (λ _ n.
      and_then (parse_lone_cell source names n) (λ cell m. parse_body inner (Stmt.for_x cell) m))

  -- the token after `.FOR` says which; another is refused (S7, S8, J5)
  unfoldable pub parse_for : (ℕ → Got Expr) → (ℕ → Got Stmt) → Token → Got Stmt
  parse_for expr inner t =
      whether (is Kinds.hash t) (λ _. parse_for_x inner t.next) λ _.
      given (name_as source names as_integer t) (λ i. parse_for_integer expr inner i t.next) λ _.
      refuse t

  -- one more statement, added to those before it (S10)
  abbrev pub parse_another : (ℕ → Got Stmt) → Stmts → ℕ → Got Stmts
  parse_another stmt done at = and_then (stmt at) (λ s next. got (Stmts.more done s) next)

  -- statements with `;` between them (D1, S10)
  unfoldable pub parse_stmts : (ℕ → Got Stmt) → ℕ → Got Stmts
  parse_stmts stmt at = separated source Kinds.semicolon (λ n. and_then (stmt n) (λ s next. got (Stmts.one s) next)) (parse_another stmt) at

  -- a compound, after its `.BEGIN` (S10)
  unfoldable pub parse_compound : (ℕ → Got Stmt) → ℕ → Got Stmt
  parse_compound inner at =
      and_then (parse_stmts inner at) (λ ss n.
      and_then (expect Kinds.END source n) (λ _ next. got (Stmt.compound ss) next))

  -- a statement from after its first token, with the parsers of its expressions and of the statements in it
  unfoldable pub stmt_from : (ℕ → Got Expr) → (ℕ → Got Stmt) → StmtStart → ℕ → Got Stmt
  stmt_from expr inner (StmtStart.integer i) at = parse_assigned expr (Stmt.assign (Target.integer i)) at
  stmt_from expr inner (StmtStart.element a) at = parse_element expr a at
  stmt_from expr inner StmtStart.accumulator at = parse_assigned expr Stmt.to_a at
  stmt_from expr inner StmtStart.hash at = parse_set_x at
  stmt_from expr inner StmtStart.if at = parse_if expr inner at
  stmt_from expr inner StmtStart.when at = parse_when expr inner at
  stmt_from expr inner StmtStart.while at = parse_while expr inner at
  stmt_from expr inner StmtStart.for at = parse_for expr inner (token_at source at)
  stmt_from expr inner StmtStart.compound at = parse_compound inner at
  stmt_from expr inner (StmtStart.call p) at = parse_call source names expr (Stmt.call p) (Stmt.call_with p) at

  -- an empty statement (S1), or one that goes on from its first token
  unfoldable pub stmt_by : (StmtStart → ℕ → Got Stmt) → ℕ → Token → Got Stmt
  stmt_by from at t = whether (ends_statement t) (λ _. got Stmt.empty at) (λ _. and_then (stmt_start t) from)

  -- a statement with `left` levels left, its own among them: its expressions have as many (S13), the statements in it one less (S12).
  -- Where none is left it is empty, or 9 at its first token (S11, F9), unless that fails by a lower number (J10)
  unfoldable pub parse_stmt : ℕ → ℕ → Got Stmt
  parse_stmt zero at = stmt_by (λ _ _. fail_at (token_at source at) 9) at (token_at source at)
  parse_stmt (suc left) at = stmt_by (stmt_from (parse_expr source names (suc left)) (parse_stmt left)) at (token_at source at)

  -- the statements of a body, at level 0: 33 levels are left, 0 to 32 (S11, S12)
  unfoldable pub parse_outermost : ℕ → Got Stmts
  parse_outermost at = parse_stmts (parse_stmt 33) at
