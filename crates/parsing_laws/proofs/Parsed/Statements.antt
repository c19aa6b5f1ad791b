-- Statements.
use Prim.Native.Nat.{ℕ, zero, suc}
use mathlib.Core.Path.{◌≡◌}
use mathlib.Core.List.{List}
use native.Mathlib.Omega.{arith}
use Rattle.prelude.specs.Choice.{find}
use Rattle.source.specs.Kinds
use Rattle.source.specs.declared.Token.{Token}
use Rattle.source.specs.Tokens.{token_at}
use Rattle.tree.specs.Tree.{Id, Array, Expr, Cond, Target, Stmt}
use Rattle.tree.specs.Symbols.{Names, as_integer, as_array, as_procedure}
use Rattle.grammar.specs.Parse.{Got, fail_at, and_then, is}
use Rattle.grammar.specs.Cells.{refuse, name_as}
use Rattle.grammar.specs.Statements.{StmtStart, statement_starts, ends_statement, stmt_start, parse_assigned, parse_element, parse_set_x, parse_guarded, parse_if, parse_when, parse_body, parse_while, parse_for_integer, parse_for_x, parse_for, parse_stmts, parse_compound, stmt_from, stmt_by, parse_stmt, parse_outermost}
use Rattle.parsing_laws.specs.WellFormed.{Context, IdOk, ArrayOk, ProcedureOk, CondOk, StmtBy, StmtsBy, StmtOk}
use Rattle.parsing_laws.proofs.Parsed.Choices.{Rows, last, row, row_of}
use Rattle.parsing_laws.proofs.Parsed.Parts.{Parsed, fine, Parses, Ended, Held, token_held, fails, unless_ended, either, and_then_lem, skipped, some_separated}
use Rattle.parsing_laws.proofs.Parsed.Names.{NamesOk, named}
use Rattle.parsing_laws.proofs.Parsed.Forms.{refused, subscripts, lone_cells, calls, conditions, expressions}

module _ (source : List ℕ) (x : Context) {names : Names} (known : NamesOk x names) where
  abbrev StartOk : StmtStart → Type 0
  StartOk (StmtStart.integer i) = IdOk x i
  StartOk (StmtStart.element a) = ArrayOk x a
  StartOk StmtStart.accumulator = Unit {0}
  StartOk StmtStart.hash = Unit {0}
  StartOk StmtStart.if = Unit {0}
  StartOk StmtStart.when = Unit {0}
  StartOk StmtStart.while = Unit {0}
  StartOk StmtStart.for = Unit {0}
  StartOk StmtStart.compound = Unit {0}
  StartOk (StmtStart.call p) = ProcedureOk x p

  opening_rows : Rows (λ (k : ℕ) (s : StmtStart). StartOk s) statement_starts
  opening_rows = row tt (row tt (row tt (row tt (row tt (row tt (row tt last))))))

  starts : {t : Token} → Held source t → Parsed source StartOk (stmt_start source names t)
  unfolding stmt_start
  starts {t = t} i =
      named source x known as_integer t (λ s u. u.integer) (λ a p. fine p i.after)
      (named source x known as_array t (λ s u. u.array) (λ a p. fine p i.after)
      (named source x known as_procedure t (λ s u. u.procedure) (λ a p. fine p i.after)
      (row_of (Parsed source StartOk) t _ _ opening_rows (λ s p. fine p i.after) (refused i))))

  -- the forms, with the parsers of their expressions and of the statements in them
  module _ {P : Expr → Type 0} {expr : ℕ → Got Expr} (exprs : Parses source P expr) {Q : Stmt → Type 0} {inner : ℕ → Got Stmt} (stmts : Parses source Q inner) where
    abbrev R : Stmt → Type 0
    R s = StmtBy x P Q s

    assigned : (stmt : Expr → Stmt) → ((e : Expr) → P e → R (stmt e)) → Parses source R (parse_assigned source names expr stmt)
    unfolding parse_assigned
    assigned stmt k at h = skipped Kinds.equal h (λ n h. and_then_lem (exprs n h) (λ e p m h. fine (k e p) h))

    element : (a : Array) → ArrayOk x a → Parses source R (parse_element source names expr a)
    unfolding parse_element
    element a p at h = and_then_lem (subscripts source x known at h) (λ s q. assigned (Stmt.assign (Target.item a s)) (λ e r. ((p, q), r)))

    set_x_lem : Parses source R (parse_set_x source names)
    unfolding parse_set_x
    set_x_lem at h = skipped Kinds.equal h (λ n h. and_then_lem (lone_cells source x known n h) (λ c p m h. fine p h))

    guarded : (word : ℕ) → Parses source (λ (part : Cond × Stmt). CondOk x P part.0 × Q part.1) (parse_guarded source names expr inner word)
    unfolding parse_guarded
    guarded word at h =
        and_then_lem (conditions source x known exprs at h) (λ c p n h.
        skipped word h (λ m h.
        and_then_lem (stmts m h) (λ s q k h. fine (p, q) h)))

    if_form : Parses source R (parse_if source names expr inner)
    unfolding parse_if
    if_form at h =
        and_then_lem (guarded Kinds.THEN at h) (λ first p n h.
        skipped Kinds.ELSE h (λ m h.
        and_then_lem (stmts m h) (λ t q k h. fine (p.0, p.1, q) h)))

    when_form : Parses source R (parse_when source names expr inner)
    unfolding parse_when
    when_form at h = and_then_lem (guarded Kinds.THEN at h) (λ part p n h. fine p h)

    while_form : Parses source R (parse_while source names expr inner)
    unfolding parse_while
    while_form at h = and_then_lem (guarded Kinds.DO at h) (λ part p n h. fine p h)

    body_form : (loop : Stmt → Stmt) → ((s : Stmt) → Q s → R (loop s)) → Parses source R (parse_body source names inner loop)
    unfolding parse_body
    body_form loop k at h = skipped Kinds.DO h (λ n h. and_then_lem (stmts n h) (λ s q m h. fine (k s q) h))

    for_integer : (i : Id) → IdOk x i → Parses source R (parse_for_integer source names expr inner i)
    unfolding parse_for_integer
    for_integer i p at h = skipped Kinds.equal h (λ n h. and_then_lem (exprs n h) (λ e q. body_form (Stmt.for i e) (λ s r. (p, q, r))))

    for_x_lem : Parses source R (parse_for_x source names inner)
    unfolding parse_for_x
    for_x_lem at h = skipped Kinds.equal h (λ n h. and_then_lem (lone_cells source x known n h) (λ c p. body_form (Stmt.for_x c) (λ s q. (p, q))))

    for_form : {t : Token} → Held source t → Parsed source R (parse_for source names expr inner t)
    unfolding parse_for
    for_form {t = t} i =
        either (is Kinds.hash t) (λ e. for_x_lem t.next i.after)
        (λ e. named source x known as_integer t (λ s u. u.integer) (λ a p. for_integer a p t.next i.after) (refused i))

    pub statements : Parses source (StmtsBy Q) (parse_stmts source names inner)
    unfolding parse_stmts
    statements = some_separated Kinds.semicolon _ _ (λ n h. and_then_lem (stmts n h) (λ s p m h. fine p h)) (λ done p n h. and_then_lem (stmts n h) (λ s q m h. fine (p, q) h))

    compound : Parses source R (parse_compound source names inner)
    unfolding parse_compound
    compound at h = and_then_lem (statements at h) (λ ss p n h. skipped Kinds.END h (λ m h. fine p h))

    from_start : (s : StmtStart) → StartOk s → Parses source R (stmt_from source names expr inner s)
    unfolding stmt_from
    from_start (StmtStart.integer i) p at h = assigned (Stmt.assign (Target.integer i)) (λ e q. (p, q)) at h
    from_start (StmtStart.element a) p at h = element a p at h
    from_start StmtStart.accumulator p at h = assigned Stmt.to_a (λ e q. q) at h
    from_start StmtStart.hash p at h = set_x_lem at h
    from_start StmtStart.if p at h = if_form at h
    from_start StmtStart.when p at h = when_form at h
    from_start StmtStart.while p at h = while_form at h
    from_start StmtStart.for p at h = for_form (token_held source h)
    from_start StmtStart.compound p at h = compound at h
    from_start (StmtStart.call q) p at h = calls source x known exprs (Stmt.call q) (Stmt.call_with q) p (λ e r. (p, r)) at h

  -- 9 is at the first token of a statement
  no_statement : (from : StmtStart → ℕ → Got Stmt) (at : ℕ) (t : Token) → Ended t → stmt_by source names from at t ≡ fail_at t 6
  unfolding stmt_by stmt_start find name_as refuse and_then fail_at
  no_statement from at t e = rw e

  one_statement : (left : ℕ) → Parses source (StmtOk x left) (parse_stmt source names left)
  unfolding parse_stmt stmt_by StmtOk
  one_statement zero at h =
      let t = token_at source at in
      let i = token_held source h in
      unless_ended i (no_statement (λ _ _. fail_at t 9) at t) (λ b.
      either (ends_statement t) (λ e. fine tt h) (λ e. and_then_lem (starts i) (λ s p n h. fails i 9 b (omega arith) (omega arith))))
  one_statement (suc left) at h =
      either (ends_statement (token_at source at)) (λ e. fine tt h)
      (λ e. and_then_lem (starts (token_held source h)) (from_start (expressions source x known (suc left)) (one_statement left)))

  pub outermost : Parses source (StmtsBy (StmtOk x 33)) (parse_outermost source names)
  unfolding parse_outermost
  outermost = statements (expressions source x known 33) (one_statement 33)
