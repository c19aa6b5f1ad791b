-- Cells, expressions and conditions.
use Prim.Native.Nat.{ℕ, zero, suc, ◌≤◌}
use mathlib.Core.Path.{◌≡◌, refl}
use mathlib.Core.Bool.{Bool, true, false, ◌&&◌}
use mathlib.Core.List.{List, [], ◌∷◌}
use native.Mathlib.Omega.{arith}
use lib.Dec.{leb}
use lib.ListN.{length}
use borrow.Author.Tests.{eqb-true, leb-true}
use Rattle.prelude.specs.Choice.{find, between}
use Rattle.source.specs.Kinds.{kind_number}
use Rattle.source.specs.Kinds
use Rattle.source.specs.declared.Token.{Token}
use Rattle.source.specs.Tokens.{token_at, operator_at}
use Rattle.tree.specs.Tree.{Operation, Expr, Term}
use Rattle.tree.specs.Symbols.{Names, as_constant, as_operand, as_array, as_function}
use Rattle.grammar.specs.Parse.{Got, and_then, fail_at, is, snoc}
use Rattle.grammar.specs.Vocabulary.{unaries, operators, shifts, relations, tests, bares}
use Rattle.grammar.specs.Cells.{CellStart, refuse, name_as, constant_of, parse_constant, parse_in_range, operand_of, subscript_of, parse_subscript, cell_start, cell_from, parse_cell, parse_lone_cell}
use Rattle.grammar.specs.Expressions.{TermStart, term_start, parse_bracketed, parse_call, term_from, parse_unaries, operation_of, parse_operations, parse_chain, cond_from, parse_cond, parse_choice, too_deep_expr, parse_expr}
use Rattle.parsing_laws.specs.WellFormed.{All, Context, OperandOk, ArrayOk, ProcedureOk, SubscriptOk, CellOk, OperationOk, OperationsOk, TermOk, CondOk, ExprBy, ExprOk}
use Rattle.parsing_laws.proofs.Parsed.Choices.{Some, there, nothing, one_of}
use Rattle.parsing_laws.proofs.Parsed.Words.{IsWord}
use Rattle.parsing_laws.proofs.Parsed.Parts.{Parsed, fine, Parses, Any, Ended, Held, token_held, operator_held, begun, fails, not_allowed, unless_ended, either, and_then_lem, skipped, repeated}
use Rattle.parsing_laws.proofs.Parsed.Names.{NamesOk, named}

-- one more at the end
pub all_snoc : {A : Type 0} (P : A → Type 0) (done : List A) (a : A) → All P done → P a → All P (snoc done a)
all_snoc P [] a p q = (q, tt)
all_snoc P (first ∷ done) a p q = (p.0, all_snoc P done a p.1 q)

both : (a b : Bool) → a && b ≡ true → (a ≡ true) × (b ≡ true)
both true b e = (refl, e)
both false b e = let z : ◌≡◌ {A = ℕ} 0 1 = cc in absurd (omega arith)

amount : (v : ℕ) → between 1 15 v ≡ true → (1 ≤ v) × (v ≤ 15)
amount v e = let b = both (leb 1 v) (leb v 15) e in (leb-true 1 v b.0, leb-true v 15 b.1)

pub refused : {A : Type 0} {P : A → Type 0} {source : List ℕ} {t : Token} → Held source t → Parsed source P (refuse t)
unfolding refuse
refused {t = t} i =
    either (is Kinds.name t) (λ e. fails i 7 (begun (eqb-true (kind_number t.kind) Kinds.name e)) (omega arith) (omega arith)) (λ e. not_allowed i)

module _ (source : List ℕ) (x : Context) {names : Names} (known : NamesOk x names) where
  -- ---- Cells

  constant_of_lem : {t : Token} → Held source t → Parsed source IsWord (constant_of source names t)
  unfolding constant_of
  constant_of_lem {t = t} i =
      either (is Kinds.numeral t) (λ e. fine i.word i.after)
      (λ e. named source x known as_constant t (λ s u. u.constant) (λ v p. fine p i.after) (refused i))

  pub constants : Parses source IsWord (parse_constant source names)
  unfolding parse_constant
  constants at h = constant_of_lem (token_held source h)

  no_constant : {A : Type 0} (f : ℕ → ℕ → Got A) (t : Token) → Ended t → and_then (constant_of source names t) f ≡ fail_at t 6
  unfolding constant_of name_as refuse and_then fail_at
  no_constant f t e = rw e

  -- a constant, judged by its value: where the source has ended there is none
  pub judged : {A : Type 0} {P : A → Type 0} {f : ℕ → ℕ → Got A} {at : ℕ} → at ≤ length source
      → ((Ended (token_at source at) → ⊥) → (v : ℕ) → IsWord v → Parses source P (f v)) → Parsed source P (and_then (parse_constant source names at) f)
  unfolding parse_constant
  judged {f = f} {at = at} h k =
      let i = token_held source h in
      unless_ended i (no_constant f (token_at source at)) (λ b. and_then_lem (constant_of_lem i) (k b))

  pub in_range : (test : ℕ → Bool) → Parses source (λ (v : ℕ). test v ≡ true) (parse_in_range source names test)
  unfolding parse_in_range
  in_range test at h =
      judged h (λ b v p n k. either (test v) (λ e. fine e k) (λ e. fails (token_held source h) 5 b (omega arith) (omega arith)))

  operands : {t : Token} → Held source t → Parsed source (OperandOk x) (operand_of source names t)
  unfolding operand_of
  operands {t = t} i =
      either (is Kinds.numeral t) (λ e. fine i.word i.after)
      (λ e. named source x known as_operand t (λ s u. u.operand) (λ o p. fine p i.after) (refused i))

  subscript_of_lem : {t : Token} → Held source t → Parsed source (SubscriptOk x) (subscript_of source names t)
  unfolding subscript_of
  subscript_of_lem {t = t} i = either (is Kinds.hash t) (λ e. fine tt i.after) (λ e. and_then_lem (operands i) (λ o p n h. fine p h))

  pub subscripts : Parses source (SubscriptOk x) (parse_subscript source names)
  unfolding parse_subscript
  subscripts at h =
      skipped Kinds.left_bracket h (λ n h.
      and_then_lem (subscript_of_lem (token_held source h)) (λ s p m h.
      skipped Kinds.right_bracket h (λ k h. fine p h)))

  abbrev StartOk : CellStart → Type 0
  StartOk (CellStart.operand o) = OperandOk x o
  StartOk (CellStart.element a) = ArrayOk x a

  cell_starts : {t : Token} → Held source t → Parsed source StartOk (cell_start source names t)
  unfolding cell_start
  cell_starts {t = t} i = named source x known as_array t (λ s u. u.array) (λ a p. fine p i.after) (and_then_lem (operands i) (λ o p n h. fine p h))

  cells_from : (start : CellStart) → StartOk start → Parses source (CellOk x) (cell_from source names start)
  unfolding cell_from
  cells_from (CellStart.operand o) p at h = fine p h
  cells_from (CellStart.element a) p at h = and_then_lem (subscripts at h) (λ s q n h. fine (p, q) h)

  cells : Parses source (CellOk x) (parse_cell source names)
  unfolding parse_cell
  cells at h = and_then_lem (cell_starts (token_held source h)) cells_from

  pub lone_cells : Parses source (CellOk x) (parse_lone_cell source names)
  unfolding parse_lone_cell
  lone_cells at h = and_then_lem (cells at h) (λ c p n h. either (is Kinds.minus (operator_at source n)) (λ e. not_allowed (operator_held source h)) (λ e. fine p h))

  -- ---- Expressions, with the parser of the expressions in them

  abbrev TermStartOk : TermStart → Type 0
  TermStartOk (TermStart.cell c) = StartOk c
  TermStartOk TermStart.accumulator = Unit {0}
  TermStartOk TermStart.zero_word = Unit {0}
  TermStartOk TermStart.bracket = Unit {0}
  TermStartOk (TermStart.call p) = ProcedureOk x p

  term_starts : {t : Token} → Held source t → Parsed source TermStartOk (term_start source names t)
  unfolding term_start
  term_starts {t = t} i =
      either (is Kinds.at t) (λ e. fine tt i.after)
      (λ e. either (is Kinds.ZERO t) (λ e. fine tt i.after)
      (λ e. either (is Kinds.left_parenthesis t) (λ e. fine tt i.after)
      (λ e. named source x known as_function t (λ s u. u.function) (λ q p. fine p i.after)
      (and_then_lem (cell_starts i) (λ c p n h. fine p h)))))

  unary_words_lem : Parses source Any (parse_unaries source names)
  unfolding parse_unaries
  unary_words_lem =
      repeated _ (λ done p n h. one_of (Some (Parsed source Any)) unaries (token_at source n) _ _ (λ u. there (fine tt (token_held source h).after)) nothing) [] tt

  operations : Parses source (OperationsOk x) (parse_operations source names)
  unfolding parse_operations operation_of
  operations =
      repeated _ (λ done p n h.
      let t = operator_at source n in
      let k = (operator_held source h).after in
      one_of (Some (Parsed source (OperationsOk x))) operators t _ _
      (λ o. there (and_then_lem (cells t.next k) (λ c q m h. fine (all_snoc (OperationOk x) done (Operation.binary o c) p q) h)))
      (one_of (Some (Parsed source (OperationsOk x))) shifts t _ _
      (λ s. there (and_then_lem (in_range (between 1 15) t.next k) (λ v q m h. fine (all_snoc (OperationOk x) done (Operation.shift s v) p (amount v q)) h)))
      nothing))
      [] tt

  module _ {P : Expr → Type 0} {inner : ℕ → Got Expr} (inside : Parses source P inner) where
    bracketed : Parses source P (parse_bracketed source names inner)
    unfolding parse_bracketed
    bracketed at h = and_then_lem (inside at h) (λ e p n h. skipped Kinds.right_parenthesis h (λ m h. fine p h))

    pub calls : {A : Type 0} {Q : A → Type 0} (alone : A) (with : Expr → A) → Q alone → ((e : Expr) → P e → Q (with e)) → Parses source Q (parse_call source names inner alone with)
    unfolding parse_call
    calls alone with q k at h =
        either (is Kinds.left_parenthesis (token_at source at))
        (λ e. and_then_lem (bracketed (token_at source at).next (token_held source h).after) (λ e p n h. fine (k e p) h)) (λ e. fine q h)

    terms : (start : TermStart) → TermStartOk start → Parses source (TermOk x P) (term_from source names inner start)
    unfolding term_from
    terms (TermStart.cell c) p at h = and_then_lem (cells_from c p at h) (λ c p n h. fine p h)
    terms TermStart.accumulator p at h = fine tt h
    terms TermStart.zero_word p at h = fine tt h
    terms TermStart.bracket p at h = and_then_lem (bracketed at h) (λ e p n h. fine p h)
    terms (TermStart.call q) p at h = calls (Term.call q) (Term.call_with q) p (λ e r. (p, r)) at h

    chains : Parses source (ExprBy x P) (parse_chain source names inner)
    unfolding parse_chain
    chains at h =
        and_then_lem (unary_words_lem at h) (λ us _ n h.
        and_then_lem (term_starts (token_held source h)) (λ s p m h.
        and_then_lem (terms s p m h) (λ t p k h.
        and_then_lem (operations k h) (λ os q l h. fine (p, q) h))))

    pub conditions : Parses source (CondOk x P) (parse_cond source names inner)
    unfolding parse_cond cond_from
    conditions at h =
        one_of (Parsed source (CondOk x P)) bares (token_at source at) _ _ (λ b. fine tt (token_held source h).after)
        (and_then_lem (inside at h) (λ e p n h.
        let t = token_at source n in
        let i = token_held source h in
        one_of (Parsed source (CondOk x P)) relations t _ _ (λ r. and_then_lem (lone_cells t.next i.after) (λ c q m h. fine (p, q) h))
        (one_of (Parsed source (CondOk x P)) tests t _ _ (λ u. fine p i.after) (not_allowed i))))

    choices : Parses source (ExprBy x P) (parse_choice source names inner)
    unfolding parse_choice
    choices at h =
        and_then_lem (conditions at h) (λ c p n h.
        skipped Kinds.THEN h (λ m h.
        and_then_lem (inside m h) (λ e q k h.
        skipped Kinds.ELSE h (λ l h.
        and_then_lem (inside l h) (λ f r j h. fine (p, q, r) h)))))

  -- 9 is at the first token of an expression
  no_expression : (t : Token) → Ended t → too_deep_expr source names t ≡ fail_at t 6
  unfolding too_deep_expr find term_start cell_start operand_of name_as refuse and_then fail_at
  no_expression t e = rw e

  too_deep : {P : Expr → Type 0} {t : Token} → Held source t → Parsed source P (too_deep_expr source names t)
  unfolding too_deep_expr
  too_deep {P = P} {t = t} i =
      unless_ended i (no_expression t) (λ b.
      let nine : Parsed source P (fail_at t 9) = fails i 9 b (omega arith) (omega arith) in
      either (is Kinds.IF t) (λ e. nine)
      (λ e. one_of (Parsed source P) unaries t _ _ (λ u. nine) (and_then_lem (term_starts i) (λ s p n h. nine))))

  pub expressions : (left : ℕ) → Parses source (ExprOk x left) (parse_expr source names left)
  unfolding parse_expr ExprOk
  expressions zero at h = too_deep (token_held source h)
  expressions (suc left) at h =
      let t = token_at source at in
      either (is Kinds.IF t) (λ e. choices (expressions left) t.next (token_held source h).after) (λ e. chains (expressions left) at h)
