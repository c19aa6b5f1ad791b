-- Each part of a repetition takes a token, and so a byte: a walk over parsing that shows where what is got ends, whatever the names stand for.
use Prim.Native.Nat.{ℕ, zero, suc, ◌+◌, ◌≤◌, ◌<◌}
use mathlib.Core.Path.{◌≡◌, refl}
use mathlib.Core.Bool.{Bool, true, false}
use mathlib.Core.List.{List, [], foldl}
use mathlib.Core.Option.{Option, none, some}
use native.Mathlib.Nat.{le_refl, le_trans}
use native.Mathlib.Omega.{arith}
use lib.Dec.{eqb, leb, ltb}
use lib.ListN.{length}
use borrow.Author.Tests.{eqb-true}
use Rattle.prelude.specs.Choice.{whether, find, given, between}
use Rattle.source.specs.Kinds.{kind_number}
use Rattle.source.specs.Kinds
use Rattle.source.specs.declared.Token.{Token}
use Rattle.source.specs.Tokens.{token_at, operator_at, name_of}
use Rattle.source.proofs.Bounds.{Lies, token_lies, operator_lies}
use Rattle.tree.specs.Tree.{Name, Item, Unary, Operation, Expr, Term, Target, Stmt, Stmts, Declaration}
use Rattle.tree.specs.Symbols.{Names, Scope, is_taken, most_names, declare_item, local_scope, as_constant, as_integer, as_operand, as_array, as_procedure, as_function}
use Rattle.layout.specs.Allocation.{allocated}
use Rattle.layout.specs.Limits.{name_limit, space_limit, declaration_limit}
use Rattle.grammar.specs.Parse.{Got, and_then, fail_at, within, is, expect, repeat_by, repeat, more_separated, separated}
use Rattle.grammar.specs.Parse.Got.{got, failed}
use Rattle.grammar.specs.Vocabulary.{unaries, operators, shifts, relations, tests, bares, as_one_of}
use Rattle.grammar.specs.Cells.{CellStart, refuse, name_as, constant_of, parse_constant, parse_in_range, operand_of, subscript_of, parse_subscript, cell_start, cell_from, parse_cell, parse_lone_cell}
use Rattle.grammar.specs.Expressions.{TermStart, term_start, parse_bracketed, parse_call, term_from, more_unaries, parse_unaries, operation_of, more_operations, parse_operations, parse_chain, cond_from, parse_cond, parse_choice, too_deep_expr, parse_expr}
use Rattle.grammar.specs.Statements.{StmtStart, statement_starts, ends_statement, stmt_start, parse_assigned, parse_element, parse_set_x, parse_guarded, parse_if, parse_when, parse_body, parse_while, parse_for_integer, parse_for_x, parse_for, parse_another, parse_stmts, parse_compound, stmt_from, stmt_by, parse_stmt, parse_outermost}
use Rattle.grammar.specs.Declarations.{ItemKeyword, item_keywords, item_limit, size_of, new_name, parse_value, item_from, parse_item, parse_list, parse_local, more_locals, parse_locals, parse_global, parse_initial, parse_initials, parse_array, parse_limited, parse_procedure, parse_accumulator, declaration_keywords, more_declarations}
use Rattle.parsing_laws.specs.Turns.{Repeats, ends, fails, goes_on, Enough, TurnsEnough}
use Rattle.parsing_laws.proofs.Parsed.Choices.{choice, Some, there, nothing, if_given, Rows, last, row, one_of, row_of}
use Rattle.parsing_laws.proofs.Parsed.Parts.{Ended, by_end}

-- what is got ends in the source and not before an offset; of a failure nothing need hold
data Moves (source : List ℕ) (low : ℕ) {A : Type 0} : Got A → Type 0 where
  moved : {a : A} {n : ℕ} → low ≤ n → n ≤ length source → Moves source low (got a n)
  failing : {n at : ℕ} → Moves source low (failed n at)

-- of a parser, from any offset in the source
abbrev Forward : {A : Type 0} → List ℕ → (ℕ → Got A) → Type 0
Forward source parse = (at : ℕ) → at ≤ length source → Moves source at (parse at)

-- one part more takes a byte
record Takes (source : List ℕ) (at : ℕ) {A : Type 0} (g : Got A) : Type 0 where
  inside : at < length source
  moves : Moves source (suc at) g

abbrev Advances : {A : Type 0} → List ℕ → (A → ℕ → Option (Got A)) → Type 0
Advances {A = A} source more = (done : A) (at : ℕ) → at ≤ length source → Some (Takes source at) (more done at)

lower : {A : Type 0} {source : List ℕ} {low at : ℕ} {g : Got A} → low ≤ at → Moves source at g → Moves source low g
lower h (moved l k) = moved (le_trans h l) k
lower h failing = failing

-- ---- Repetition

module _ {A : Type 0} {source : List ℕ} {more : A → ℕ → Option (Got A)} (advances : Advances source more) where
  enough_by : (k : ℕ) (done : A) (at : ℕ) → at ≤ length source → length source ≤ k + at → Repeats more done at (repeat_by more k done at)
  unfolding repeat_by and_then
  enough_by zero done at i h = go (more done at) refl (advances done at i)
    where
      go : (o : Option (Got A)) → more done at ≡ o → Some (Takes source at) o → Repeats more done at (got done at)
      go none e s = ends e
      go (some g) e (there t) = absurd (omega (arith, t.inside))
  enough_by (suc k) done at i h = go (enough_by k) (more done at) refl (advances done at i)
    where
      go : ((done : A) (at : ℕ) → at ≤ length source → length source ≤ k + at → Repeats more done at (repeat_by more k done at))
          → (o : Option (Got A)) → more done at ≡ o → Some (Takes source at) o → Repeats more done at (given o (λ g. and_then g (λ longer next. repeat_by more k longer next)) (λ _. got done at))
      go again none e s = ends e
      go again (some (failed n m)) e s = fails e
      go again (some (got longer next)) e (there t) = on t.moves
        where
          on : Moves source (suc at) (got longer next) → Repeats more done at (repeat_by more k longer next)
          on (moved l m) = goes_on e (again longer next m (omega arith))

  enough : Enough source more
  unfolding repeat
  enough done at i = enough_by _ done at i (omega arith)

-- what a repetition gets moves too
module _ {A : Type 0} {source : List ℕ} {more : A → ℕ → Option (Got A)} (advances : Advances source more) where
  on_to : {at next : ℕ} {longer : A} → Some (Takes source at) (some (got longer next)) → (suc at ≤ next) × (next ≤ length source)
  on_to (there t) = go t.moves
    where
      go : {at next : ℕ} {longer : A} → Moves source at (got longer next) → (at ≤ next) × (next ≤ length source)
      go (moved l h) = (l, h)

  moves_on : {done : A} {at : ℕ} {g : Got A} → at ≤ length source → Repeats more done at g → Moves source at g
  moves_on i (ends e) = moved (le_refl _) i
  moves_on i (fails e) = failing
  moves_on {done = done} {at = at} i (goes_on e r) =
      let n = on_to (rw e at (advances done at i)) in
      lower (omega (arith, n.0)) (moves_on n.1 r)

  repeated : (done : A) → Forward source (repeat source more done)
  repeated done at i = moves_on i (enough advances done at i)

-- ---- One part after another

module _ {source : List ℕ} {low : ℕ} {A : Type 0} where
  fail : (t : Token) (n : ℕ) → Moves source low {A = A} (fail_at t n)
  unfolding fail_at
  fail t n = failing

  either : (b : Bool) {g k : Got A} → Moves source low g → Moves source low k → Moves source low (whether b (λ _. g) (λ _. k))
  either b p q = choice (Moves source low) b _ _ (λ e. p) (λ e. q)

  refused : (t : Token) → Moves source low {A = A} (refuse t)
  unfolding refuse
  refused t = either (is Kinds.name t) (fail t 7) (fail t 6)

  maybe : {B : Type 0} (o : Option B) {f : B → Got A} {g : Got A} → ((b : B) → Moves source low (f b)) → Moves source low g → Moves source low (given o f (λ _. g))
  maybe o p q = if_given (Moves source low) o _ _ p q

  then : {B : Type 0} {g : Got B} {f : B → ℕ → Got A} → Moves source low g → ((b : B) → Forward source (f b)) → Moves source low (and_then g f)
  unfolding and_then
  then (moved l h) k = lower l (k _ _ h)
  then failing k = failing

  limited : (limit : ℕ) (t : Token) {g : Got A} → Moves source low g → Moves source low (within limit t g)
  unfolding within
  limited limit t p = either (eqb limit 0) p (fail t limit)

-- the same of parsers: nothing more, and one after another
module _ {source : List ℕ} {A : Type 0} where
  all : {a : A} → Forward source (got a)
  all at h = moved (le_refl at) h

  after : {B : Type 0} {parse : ℕ → Got B} {f : B → ℕ → Got A} → Forward source parse → ((b : B) → Forward source (f b)) → Forward source (λ at. and_then (parse at) f)
  after p k at h = then (p at h) k

-- ---- Tokens

-- a token that ends in the source, and not before an offset
record Ahead (source : List ℕ) (low : ℕ) (t : Token) : Type 0 where
  from : low ≤ t.next
  inside : t.next ≤ length source

module _ (source : List ℕ) {at : ℕ} (h : at ≤ length source) where
  lies : {t : Token} → Lies source at t → Ahead source at t
  lies l = record { from = omega (arith, l.from, l.forward); inside = l.inside h }

  token : Ahead source at (token_at source at)
  token = lies (token_lies source at)

  operator : Ahead source at (operator_at source at)
  operator = lies (operator_lies source at)

  -- one more part, from a token on
  taken : {A : Type 0} {t : Token} {g : Got A} → Lies source at t → (Ended t → ⊥) → Moves source t.next g → Takes source at g
  taken l b p =
      let w = l.wide b in
      let i = l.inside h in
      record { inside = omega (arith, l.from); moves = lower (omega (arith, l.from)) p }

-- from a token on
module _ {source : List ℕ} {low : ℕ} {t : Token} (b : Ahead source low t) {A : Type 0} where
  past : {a : A} → Moves source low (got a t.next)
  past = moved b.from b.inside

  next : {parse : ℕ → Got A} → Forward source parse → Moves source low (parse t.next)
  next p = lower b.from (p t.next b.inside)

-- none where the source has ended, as no part begins there
unless_ended : {A : Type 0} {P : Got A → Type 0} (t : Token) {o : Option (Got A)} → (Ended t → o ≡ none) → ((Ended t → ⊥) → Some P o) → Some P o
unless_ended t e k = by_end t (λ z. rw (e z) nothing) k

module _ (source : List ℕ) where
  -- a token of a kind, and what comes after it
  expected : (kind : ℕ) → Forward source (expect kind source)
  unfolding expect
  expected kind at h = either (is kind (token_at source at)) (past (token source h)) (fail (token_at source at) 6)

  skipped : {A : Type 0} {f : ℕ → Got A} (kind : ℕ) → Forward source f → Forward source (λ at. and_then (expect kind source at) (λ _ n. f n))
  skipped kind k = after (expected kind) (λ t. k)

  -- ---- Parts with a separator between them

  module _ {A : Type 0} {separator s : ℕ} (e : separator ≡ suc s) {more : A → ℕ → Got A} (parts : (done : A) → Forward source (more done)) where
    separators : Advances source (more_separated source separator more)
    separators done at h =
        let t = token_at source at in
        choice (Some (Takes source at)) (is separator t) _ _
        (λ i. there (taken source h (token_lies source at) (λ z. omega (arith, eqb-true (kind_number t.kind) separator i)) (parts done t.next (token source h).inside)))
        (λ i. nothing)

    list : {first : ℕ → Got A} → Forward source first → Forward source (separated source separator first more)
    unfolding separated
    list p = after p (repeated separators)

module _ (source : List ℕ) (names : Names) where
  -- ---- Cells

  constant_of_lem : {low : ℕ} {t : Token} → Ahead source low t → Moves source low (constant_of source names t)
  unfolding constant_of
  constant_of_lem {t = t} b = either (is Kinds.numeral t) (past b) (maybe (name_as source names as_constant t) (λ v. past b) (refused t))

  constants : Forward source (parse_constant source names)
  unfolding parse_constant
  constants at h = constant_of_lem (token source h)

  in_range : (test : ℕ → Bool) → Forward source (parse_in_range source names test)
  unfolding parse_in_range
  in_range test at h = then (constants at h) (λ v n h. either (test v) (all n h) (fail (token_at source at) 5))

  operand_of_lem : {low : ℕ} {t : Token} → Ahead source low t → Moves source low (operand_of source names t)
  unfolding operand_of
  operand_of_lem {t = t} b = either (is Kinds.numeral t) (past b) (maybe (name_as source names as_operand t) (λ o. past b) (refused t))

  subscript_of_lem : {low : ℕ} {t : Token} → Ahead source low t → Moves source low (subscript_of source names t)
  unfolding subscript_of
  subscript_of_lem {t = t} b = either (is Kinds.hash t) (past b) (then (operand_of_lem b) (λ o. all))

  subscripts : Forward source (parse_subscript source names)
  unfolding parse_subscript
  subscripts = skipped source Kinds.left_bracket (λ n h. then (subscript_of_lem (token source h)) (λ s. skipped source Kinds.right_bracket all))

  cell_start_lem : {low : ℕ} {t : Token} → Ahead source low t → Moves source low (cell_start source names t)
  unfolding cell_start
  cell_start_lem {t = t} b = maybe (name_as source names as_array t) (λ a. past b) (then (operand_of_lem b) (λ o. all))

  cell_from_lem : (start : CellStart) → Forward source (cell_from source names start)
  unfolding cell_from
  cell_from_lem (CellStart.operand o) = all
  cell_from_lem (CellStart.element a) = after subscripts (λ _. all)

  cells : Forward source (parse_cell source names)
  unfolding parse_cell
  cells at h = then (cell_start_lem (token source h)) cell_from_lem

  lone_cells : Forward source (parse_lone_cell source names)
  unfolding parse_lone_cell
  lone_cells = after cells (λ c n h. either (is Kinds.minus (operator_at source n)) (fail (operator_at source n) 6) (all n h))

  -- ---- Expressions

  term_start_lem : {low : ℕ} {t : Token} → Ahead source low t → Moves source low (term_start source names t)
  unfolding term_start
  term_start_lem {t = t} b =
      either (is Kinds.at t) (past b) (either (is Kinds.ZERO t) (past b) (either (is Kinds.left_parenthesis t) (past b)
      (maybe (name_as source names as_function t) (λ p. past b) (then (cell_start_lem b) (λ c. all)))))

  no_unary : {B : Type 0} (f : Unary → Option B) (t : Token) → Ended t → as_one_of unaries t f (λ _. none) ≡ none
  unfolding find
  no_unary f t e = rw e

  unary_words_lem : Advances source (more_unaries source names)
  unary_words_lem done at h =
      let t = token_at source at in
      unless_ended t (no_unary _ t) (λ b. one_of (Some (Takes source at)) unaries t _ _ (λ u. there (taken source h (token_lies source at) b (all t.next (token source h).inside))) nothing)

  no_operation : (done : List Operation) (t : Token) → Ended t → operation_of source names done t ≡ none
  unfolding operation_of find
  no_operation done t e = rw e

  operations : Advances source (more_operations source names)
  unfolding operation_of
  operations done at h =
      let t = operator_at source at in
      let i = (operator source h).inside in
      unless_ended t (no_operation done t) (λ b.
      one_of (Some (Takes source at)) operators t _ _ (λ o. there (taken source h (operator_lies source at) b (after cells (λ _. all) t.next i)))
      (one_of (Some (Takes source at)) shifts t _ _ (λ o. there (taken source h (operator_lies source at) b (after (in_range (between 1 15)) (λ _. all) t.next i))) nothing))

  module _ {inner : ℕ → Got Expr} (inside : Forward source inner) where
    bracketed : Forward source (parse_bracketed source names inner)
    unfolding parse_bracketed
    bracketed = after inside (λ e. skipped source Kinds.right_parenthesis all)

    calls : {A : Type 0} (alone : A) (with : Expr → A) → Forward source (parse_call source names inner alone with)
    unfolding parse_call
    calls alone with at h = either (is Kinds.left_parenthesis (token_at source at)) (next (token source h) (after bracketed (λ _. all))) (all at h)

    term_from_lem : (start : TermStart) → Forward source (term_from source names inner start)
    unfolding term_from
    term_from_lem (TermStart.cell c) = after (cell_from_lem c) (λ _. all)
    term_from_lem TermStart.accumulator = all
    term_from_lem TermStart.zero_word = all
    term_from_lem TermStart.bracket = after bracketed (λ _. all)
    term_from_lem (TermStart.call p) = calls (Term.call p) (Term.call_with p)

    chains : Forward source (parse_chain source names inner)
    unfolding parse_chain parse_unaries parse_operations
    chains = after (repeated unary_words_lem []) (λ us n h. then (term_start_lem (token source h)) (λ start. after (term_from_lem start) (λ term. after (repeated operations []) (λ _. all))))

    conditions : Forward source (parse_cond source names inner)
    unfolding parse_cond cond_from
    conditions at h =
        one_of (Moves source at) bares (token_at source at) _ _ (λ b. past (token source h))
        (then (inside at h) (λ e n h.
        let t = token_at source n in
        one_of (Moves source n) relations t _ _ (λ r. next (token source h) (after lone_cells (λ _. all)))
        (one_of (Moves source n) tests t _ _ (λ u. past (token source h)) (fail t 6))))

    choices : Forward source (parse_choice source names inner)
    unfolding parse_choice
    choices = after conditions (λ c. skipped source Kinds.THEN (after inside (λ e. skipped source Kinds.ELSE (after inside (λ _. all)))))

  too_deep : {low : ℕ} {t : Token} → Ahead source low t → Moves source low (too_deep_expr source names t)
  unfolding too_deep_expr
  too_deep {low = low} {t = t} b =
      either (is Kinds.IF t) (fail t 9) (one_of (Moves source low) unaries t _ _ (λ u. fail t 9) (then (term_start_lem b) (λ s n h. fail t 9)))

  expressions : (left : ℕ) → Forward source (parse_expr source names left)
  unfolding parse_expr
  expressions zero at h = too_deep (token source h)
  expressions (suc left) at h = either (is Kinds.IF (token_at source at)) (next (token source h) (choices (expressions left))) (chains (expressions left) at h)

  -- ---- Statements

  stmt_start_lem : {low : ℕ} {t : Token} → Ahead source low t → Moves source low (stmt_start source names t)
  unfolding stmt_start
  stmt_start_lem {low = low} {t = t} b =
      maybe (name_as source names as_integer t) (λ i. past b) (maybe (name_as source names as_array t) (λ a. past b) (maybe (name_as source names as_procedure t) (λ p. past b)
      (one_of (Moves source low) statement_starts t _ _ (λ s. past b) (refused t))))

  module _ {expr : ℕ → Got Expr} (exprs : Forward source expr) {inner : ℕ → Got Stmt} (stmts : Forward source inner) where
    assigned : (stmt : Expr → Stmt) → Forward source (parse_assigned source names expr stmt)
    unfolding parse_assigned
    assigned stmt = skipped source Kinds.equal (after exprs (λ _. all))

    guarded : (keyword : ℕ) → Forward source (parse_guarded source names expr inner keyword)
    unfolding parse_guarded
    guarded keyword = after (conditions exprs) (λ c. skipped source keyword (after stmts (λ _. all)))

    body : (loop : Stmt → Stmt) → Forward source (parse_body source names inner loop)
    unfolding parse_body
    body loop = skipped source Kinds.DO (after stmts (λ _. all))

    for_form : {low : ℕ} {t : Token} → Ahead source low t → Moves source low (parse_for source names expr inner t)
    unfolding parse_for parse_for_x parse_for_integer
    for_form {t = t} b =
        either (is Kinds.hash t) (next b (skipped source Kinds.equal (after lone_cells (λ c. body (Stmt.for_x c)))))
        (maybe (name_as source names as_integer t) (λ i. next b (skipped source Kinds.equal (after exprs (λ e. body (Stmt.for i e))))) (refused t))

    another : (done : Stmts) → Forward source (parse_another source names inner done)
    another done = after stmts (λ _. all)

    statements : Forward source (parse_stmts source names inner)
    unfolding parse_stmts
    statements = list source refl another (after stmts (λ _. all))

    from_start : (s : StmtStart) → Forward source (stmt_from source names expr inner s)
    unfolding stmt_from parse_element parse_set_x parse_if parse_when parse_while parse_compound
    from_start (StmtStart.integer i) = assigned (Stmt.assign (Target.integer i))
    from_start (StmtStart.element a) = after subscripts (λ s. assigned (Stmt.assign (Target.item a s)))
    from_start StmtStart.accumulator = assigned Stmt.to_a
    from_start StmtStart.hash = skipped source Kinds.equal (after lone_cells (λ _. all))
    from_start StmtStart.if = after (guarded Kinds.THEN) (λ first. skipped source Kinds.ELSE (after stmts (λ _. all)))
    from_start StmtStart.when = after (guarded Kinds.THEN) (λ _. all)
    from_start StmtStart.while = after (guarded Kinds.DO) (λ _. all)
    from_start StmtStart.for = λ at h. for_form (token source h)
    from_start StmtStart.compound = after statements (λ ss. skipped source Kinds.END all)
    from_start (StmtStart.call p) = calls exprs (Stmt.call p) (Stmt.call_with p)

  one_statement : (left : ℕ) → Forward source (parse_stmt source names left)
  unfolding parse_stmt stmt_by
  one_statement zero at h = either (ends_statement (token_at source at)) (all at h) (then (stmt_start_lem (token source h)) (λ s n k. fail (token_at source at) 9))
  one_statement (suc left) at h =
      either (ends_statement (token_at source at)) (all at h) (then (stmt_start_lem (token source h)) (from_start (expressions (suc left)) (one_statement left)))

  outermost : Forward source (parse_outermost source names)
  unfolding parse_outermost
  outermost = statements (expressions 33) (one_statement 33)

module _ (source : List ℕ) where
  -- ---- Declarations

  new_name_lem : {low : ℕ} (scope : Scope) (limit : ℕ) {t : Token} → Ahead source low t → Moves source low (new_name source scope limit t)
  unfolding new_name
  new_name_lem scope limit {t = t} b =
      either (is Kinds.name t)
      (either (is_taken scope (name_of source t)) (fail t 8) (either (leb most_names (length scope.names)) (fail t 10) (limited limit t (past b))))
      (fail t 6)

  values : (scope : Scope) (name : Name) (item : ℕ → Item) → Forward source (parse_value source scope name item)
  unfolding parse_value
  values scope name item = skipped source Kinds.equal (after (constants source scope.names) (λ _. all))

  item_from_lem : (keyword : ItemKeyword) (scope : Scope) (name : Name) → Forward source (item_from source keyword scope name)
  unfolding item_from
  item_from_lem ItemKeyword.integer scope name = all
  item_from_lem ItemKeyword.constant scope name = values scope name Item.constant
  item_from_lem ItemKeyword.compconstant scope name = values scope name Item.compconstant

  items : (keyword : ItemKeyword) (scope : Scope) → Forward source (parse_item source keyword scope)
  unfolding parse_item
  items keyword scope at h = then (new_name_lem scope (item_limit keyword scope) (token source h)) (item_from_lem keyword scope)

  lists : {A : Type 0} {more : A → ℕ → Got A} → ((done : A) → Forward source (more done)) → (done : A) → Forward source (parse_list source more done)
  unfolding parse_list
  lists parts done = after (list source refl parts (parts done)) (λ _. skipped source Kinds.semicolon all)

  local_items_lem : (scope : Scope) (keyword : ItemKeyword) (done : List (Name × Item)) → Forward source (parse_local source scope keyword done)
  unfolding parse_local
  local_items_lem scope keyword done = after (items keyword (foldl declare_item scope done)) (λ _. all)

  no_item : {B : Type 0} (f : ItemKeyword → Option B) (t : Token) → Ended t → as_one_of item_keywords t f (λ _. none) ≡ none
  unfolding find
  no_item f t e = rw e

  local_lists : (scope : Scope) → Advances source (more_locals source scope)
  local_lists scope done at h =
      let t = token_at source at in
      unless_ended t (no_item _ t) (λ b. one_of (Some (Takes source at)) item_keywords t _ _
      (λ keyword. there (taken source h (token_lies source at) b (lists (local_items_lem scope keyword) done t.next (token source h).inside))) nothing)

  global_items : (keyword : ItemKeyword) (ds : List Declaration) → Forward source (parse_global source keyword ds)
  unfolding parse_global
  global_items keyword ds = after (items keyword (allocated ds).scope) (λ _. all)

  initial : (names : Names) (size : ℕ) (values : List ℕ) → Forward source (parse_initial source names size values)
  unfolding parse_initial
  initial names size values at h = then (constants source names at h) (λ v n h. either (ltb (length values) size) (all n h) (fail (token_at source at) 14))

  initials : (names : Names) (size : ℕ) → Forward source (parse_initials source names size)
  unfolding parse_initials
  initials names size at h =
      either (is Kinds.left_parenthesis (token_at source at))
      (next (token source h) (after (list source refl (initial names size) (initial names size [])) (λ _. skipped source Kinds.right_parenthesis all))) (all at h)

  arrays : (checked : Bool) (ds : List Declaration) → Forward source (parse_array source checked ds)
  unfolding parse_array
  arrays checked ds at h =
      let st = allocated ds in
      then (new_name_lem st.scope (name_limit st.scope) (token source h)) (λ name.
      skipped source Kinds.left_bracket (after (in_range source st.scope.names (λ v. leb (size_of v) 8192)) (λ v.
      after (expected source Kinds.right_bracket) (λ closing n h.
      limited (space_limit st (size_of v)) closing (after (initials st.scope.names (size_of v)) (λ _. all) n h)))))

  -- from a token on
  abbrev Onward : {A : Type 0} → (Token → Got A) → Type 0
  Onward parse = (t : Token) → t.next ≤ length source → Moves source t.next (parse t)

  judged : (ds : List Declaration) (d : Declaration) → Onward (parse_limited source ds d)
  unfolding parse_limited
  judged ds d t h = limited (declaration_limit (allocated ds) d) t (skipped source Kinds.semicolon all t.next h)

  expected_last : {A : Type 0} {parse : Token → Got A} (kind : ℕ) → Onward parse → Forward source (λ at. and_then (expect kind source at) (λ t _. parse t))
  unfolding expect and_then fail_at
  expected_last {parse = parse} kind p at h =
      let t = token_at source at in
      let b = token source h in
      choice (λ g. Moves source at (and_then g (λ t _. parse t))) (is kind t) (got t t.next) (fail_at t 6) (λ e. lower b.from (p t b.inside)) (λ e. failing)

  procedures : (ds : List Declaration) (accumulator : Bool) → Forward source (parse_procedure source ds accumulator)
  unfolding parse_procedure parse_locals
  procedures ds accumulator at h =
      let scope = (allocated ds).scope in
      then (new_name_lem scope (name_limit scope) (token source h)) (λ name.
      skipped source Kinds.semicolon (skipped source Kinds.BEGIN (after (repeated (local_lists (local_scope scope name)) []) (λ locals.
      after (outermost source (foldl declare_item (local_scope scope name) locals).names) (λ body.
      expected_last Kinds.END (judged ds (Declaration.procedure name accumulator locals body)))))))

  -- what each keyword begins
  abbrev Begins : ℕ → (List Declaration → Token → Got (List Declaration)) → Type 0
  Begins kind parse = (ds : List Declaration) → Onward (parse ds)

  keyword_rows : (checked : Bool) → Rows Begins (declaration_keywords source checked)
  unfolding parse_accumulator
  keyword_rows checked =
      row (λ ds t h. lists (global_items ItemKeyword.integer) ds t.next h)
      (row (λ ds t h. lists (global_items ItemKeyword.constant) ds t.next h)
      (row (λ ds t h. lists (global_items ItemKeyword.compconstant) ds t.next h)
      (row (λ ds t h. lists (arrays checked) ds t.next h)
      (row (λ ds. judged ds Declaration.next_sector)
      (row (λ ds t h. procedures ds false t.next h)
      (row (λ ds t h. skipped source Kinds.PROCEDURE (procedures ds true) t.next h) last))))))

  no_declaration : {B : Type 0} (checked : Bool) (f : (List Declaration → Token → Got (List Declaration)) → Option B) (t : Token) → Ended t → as_one_of (declaration_keywords source checked) t f (λ _. none) ≡ none
  unfolding find
  no_declaration checked f t e = rw e

  declarations : (checked : Bool) → Advances source (more_declarations source checked)
  declarations checked ds at h =
      let t = token_at source at in
      unless_ended t (no_declaration checked _ t) (λ b. row_of (Some (Takes source at)) t _ _ (keyword_rows checked)
      (λ parse p. there (taken source h (token_lies source at) b (p ds t (token source h).inside))) nothing)

pub turns_enough : TurnsEnough
turns_enough = record {
  unaries = λ source names. enough (unary_words_lem source names);
  operations = λ source names. enough (operations source names);
  statements = λ source names left. enough (separators source refl (another source names (expressions source names left) (one_statement source names left)));
  globals = λ source keyword. enough (separators source refl (global_items source keyword));
  arrays = λ source checked. enough (separators source refl (arrays source checked));
  items = λ source scope keyword. enough (separators source refl (local_items_lem source scope keyword));
  initials = λ source names size. enough (separators source refl (initial source names size));
  locals = λ source scope. enough (local_lists source scope);
  declarations = λ source checked. enough (declarations source checked);
}
