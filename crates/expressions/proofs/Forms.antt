-- The forms of an expression, each from what its parts were compiled as.
use Prim.Native.Nat.{ℕ, zero, suc, ◌+◌, ◌-◌}
use mathlib.Core.Path.{◌≡◌, refl, sym, ap, ◌∙◌}
use mathlib.Core.Bool.{true, false}
use mathlib.Core.List.{List, [], ◌∷◌}
use native.Mathlib.Omega.{arith}
use borrow.Author.Tests.{eq-eqb, ne_eqb}
use lib.ListN.{length, get_or}
use Rattle.source.specs.Kinds.{kind_number}
use Rattle.source.specs.Kinds
use Rattle.source.specs.declared.Token.{Token}
use Rattle.source.specs.Tokens.{token_at}
use Rattle.instruction.specs.Opcode.{LDA, JST, JMP}
use Rattle.instruction.specs.Slot.{CRA}
use Rattle.instruction.specs.Table.{table_of}
use Rattle.tree.specs.Tree.{Unary, Operation, Cell, Expr, Term, Cond}
use Rattle.tree.specs.Symbols.{Names}
use Rattle.grammar.specs.Parse.{Got, and_then, expect}
use Rattle.grammar.specs.Cells.{cell_from}
use Rattle.grammar.specs.Parse.Got.{got}
use Rattle.layout.specs.Words.{Sym, ◌⧺◌, cell_words, unaries_words, operations_words, expr_end, cond_end, expr_words, term_words, cond_words}
use Rattle.grammar.specs.Expressions.{term_start, term_from, parse_bracketed, parse_call, parse_unaries, parse_operations, parse_chain, parse_cond, parse_choice, parse_expr}
use Rattle.grammar.specs.Expressions as expressions
use Rattle.layout.specs.Map.{reference}
use Rattle.std.specs.Prelude.{Result, Ok, Err}
use Rattle.parser.specs.declared.Part.{Part}
use Rattle.parser.specs.declared.Failure.{Failure}
use Rattle.parser.specs.Failures.{Fails}
use Rattle.parser.specs.Reads.{Gives}
use Rattle.parser.specs.Reads.Reads.{read, fails}
use Rattle.cells.specs.declared.CellStart.{CellStart}
use Rattle.cells.specs.declared.TermStart.{TermStart}
use Rattle.cells.specs.Answers.{tree_cell_start, tree_term_start}
use Rattle.layout.specs.Emission.{Emitted, with_word, Bases}
use Rattle.emitter.specs.declared.Output.{Output}
use Rattle.emitter.specs.Emitted.{emitted_by}
use Rattle.emitter.specs.Lays.{Lays, filled}
use Rattle.emitter.proofs.Lays.{append_assoc, append_length, filled_in, here, of_kept, kept_image, kept_then, kept_set, nothing, sequence, same, before_rest}
use Rattle.layout_laws.proofs.Spans.{expr_end_lem, cond_end_lem}
use Rattle.expressions.specs.declared.Guarded.{Guarded}
use Rattle.expressions.specs.Chains.{unaries_of, unaries_next, else_expr}
use Rattle.expressions.specs.Compiles.{Compiles, Tests, Alternates, Always, AlwaysForwardJump}
use Rattle.expressions.proofs.Leaves as leaves
use Rattle.expressions.proofs.UnaryLaws.{unaries_parsed}
use Rattle.expressions.proofs.Branches.{branch_words, branches}
use Rattle.parser.proofs.Answers.{gives_read, onward, then_got, then_failed}
use Rattle.parser.proofs.ReadLaws.{then_then, came, failed_as, kept_as, pass, missing, reads_as}
use Rattle.expressions.proofs.Compiles.{failing, as_tree}

abbrev Reading : Type 0 → Type 0
Reading X = Result (Part X) Failure

abbrev Answer : Type 0
Answer = Reading Output

-- ---- Brackets and calls

module _ (source : List ℕ) (names : Names) (inner : ℕ → Got Expr) (at : ℕ) {f : Bases} {a : Emitted} {after : List ℕ} {r : Answer} {p : Part Output} (h : Compiles f expr_words a after r (inner at)) (i : r ≡ Ok p) {close : Reading Token} (g : Gives (λ t. t) close (expect Kinds.right_parenthesis source p.next)) where
  pub close_missing : {e : Failure} → close ≡ Err e → Compiles f expr_words a after (Err e) (parse_bracketed source names inner at)
  unfolding parse_bracketed
  close_missing k = let v = came h i in missing (λ t. t) _ _ g k (then_got _ v.is) (of_kept v.holds.kept)

  pub bracketed_closed : {q : Part Token} → close ≡ Ok q → Compiles f expr_words a after (Ok (record { value = p.value; next = q.next })) (parse_bracketed source names inner at)
  unfolding parse_bracketed
  bracketed_closed k = let v = came h i in read (then_got _ v.is ∙ then_got _ (gives_read (λ t. t) g k)) refl v.holds

module _ (source : List ℕ) (names : Names) (inner : ℕ → Got Expr) (p at : ℕ) (t : Token) (e : t ≡ token_at source at) where
  call_alone : (kind_number t.kind ≡ Kinds.left_parenthesis → ⊥) → parse_call source names inner (Term.call p) (Term.call_with p) at ≡ got (Term.call p) at
  unfolding parse_call
  call_alone n = rw (← e, ne_eqb (kind_number t.kind) Kinds.left_parenthesis n)

  call_with_lem : kind_number t.kind ≡ Kinds.left_parenthesis → parse_call source names inner (Term.call p) (Term.call_with p) at ≡ and_then (parse_bracketed source names inner t.next) (λ e next. got (Term.call_with p e) next)
  unfolding parse_call
  call_with_lem n = rw (← e, eq-eqb (kind_number t.kind) Kinds.left_parenthesis n)

  pub called_alone : {f : Bases} {a : Emitted} {o : Output} {after : List ℕ} → (kind_number t.kind ≡ Kinds.left_parenthesis → ⊥) → emitted_by o after ≡ with_word a (reference JST true (0o200 + p))
      → Compiles f term_words a after (Ok (record { value = o; next = at })) (parse_call source names inner (Term.call p) (Term.call_with p) at)
  unfolding term_words
  called_alone {f} n h = read (call_alone n) refl (leaves.call f p h)

  module _ {f : Bases} {a : Emitted} {after : List ℕ} {r : Answer} (n : kind_number t.kind ≡ Kinds.left_parenthesis) (h : Compiles f expr_words a after r (parse_bracketed source names inner t.next)) where
    pub call_failed : {e : Failure} → r ≡ Err e → Compiles f term_words a after r (parse_call source names inner (Term.call p) (Term.call_with p) at)
    call_failed i = failing _ h i (call_with_lem n) (λ w. w)

    pub called_with : {q : Part Output} {o : Output} {last : List ℕ} → r ≡ Ok q → emitted_by o last ≡ with_word (emitted_by q.value after) (reference JST true (0o200 + p))
        → Compiles f term_words a last (Ok (record { value = o; next = q.next })) (parse_call source names inner (Term.call p) (Term.call_with p) at)
    unfolding term_words
    called_with i k = let v = came h i in read (call_with_lem n ∙ then_got _ v.is) refl (sequence v.holds (leaves.call f p k))

-- ---- Terms

pub zero_term : {f : Bases} {a b : Emitted} → b ≡ with_word a (get_or table_of CRA 0) → Lays f a b (term_words Term.zero)
unfolding term_words
zero_term {f} h = leaves.generic f CRA h

pub accumulator_term : {f : Bases} {a : Emitted} → Lays f a a (term_words Term.accumulator)
unfolding term_words
accumulator_term = nothing

pub cell_term : (c : Cell) (at : ℕ) → cell_words LDA c ≡ term_words (Term.cell c) at
unfolding term_words
cell_term c at = refl

pub bracket_term : (e : Expr) (at : ℕ) → expr_words e at ≡ term_words (Term.bracket e) at
unfolding term_words
bracket_term e at = refl

-- ---- Chains

pub unaries_upto : (source : List ℕ) (names : Names) (at from : ℕ) → from ≡ unaries_next source at → parse_unaries source names at ≡ got (unaries_of source at) from
unaries_upto source names at from e = unaries_parsed source names at ∙ ap (got (unaries_of source at)) (sym e)

chain_words : (us : List Unary) (t : Term) (os : List Operation) (at : ℕ) → (term_words t at ⧺ unaries_words us) ⧺ operations_words os ≡ expr_words (Expr.chain us t os) at
unfolding expr_words
chain_words us t os at = append_assoc (term_words t at) (unaries_words us) (operations_words os)

module _ (source : List ℕ) (names : Names) (inner : ℕ → Got Expr) (at from : ℕ) (parsed : parse_unaries source names at ≡ got (unaries_of source at) from) {start : Reading TermStart} (g : Gives tree_term_start start (term_start source names (token_at source from))) where
  pub start_failed : {f : Bases} {a : Emitted} {e : Failure} → start ≡ Err e → Compiles f expr_words a a.image (Err e) (parse_chain source names inner at)
  unfolding parse_chain
  start_failed i = missing tree_term_start _ _ g i (then_got _ parsed) here

  module _ {p : Part TermStart} (i : start ≡ Ok p) {f : Bases} {a : Emitted} {after : List ℕ} {r : Answer} (h : Compiles f term_words a after r (term_from source names inner (tree_term_start p.value) p.next)) where
    pub term_failed : {e : Failure} → r ≡ Err e → Compiles f expr_words a after r (parse_chain source names inner at)
    unfolding parse_chain
    term_failed k = failing _ h k (then_got _ parsed ∙ then_got _ (gives_read tree_term_start g i)) (λ w. w)

    pub chained : {q : Part Output} {c : Emitted} {last : List ℕ} {end : Answer} → r ≡ Ok q → Always (emitted_by q.value after) c (λ _. unaries_words (unaries_of source at))
        → Compiles f (λ os _. operations_words os) c last end (parse_operations source names q.next) → Compiles f expr_words a last end (parse_chain source names inner at)
    unfolding parse_chain
    chained k u (read {t = os} is e l) =
        let v = came h k in
        read (then_got _ parsed ∙ then_got _ (gives_read tree_term_start g i) ∙ then_got _ v.is ∙ then_got _ is) e (same (chain_words (unaries_of source at) v.tree os) (sequence (sequence v.holds (u.lays f)) l))
    chained k u (fails is e w) =
        let v = came h k in
        fails (onward is (λ s. then_got _ parsed ∙ then_got _ (gives_read tree_term_start g i) ∙ then_got _ v.is ∙ then_failed _ s)) e (kept_image (kept_then v.holds.kept (u.lays f).kept) w)

-- ---- Choices

choose_words : (c : Cond) (s t : Expr) (at : ℕ) → branch_words (λ at z. cond_words c at z ⧺ expr_words s (at + length (cond_words c at 0))) (expr_words t) at ≡ expr_words (Expr.choose c s t) at
unfolding expr_words
choose_words c s t at =
    let n = append_length (cond_words c at 0) (expr_words s (cond_end c at)) in
    let e : at + length (cond_words c at 0 ⧺ expr_words s (cond_end c at)) ≡ expr_end s (cond_end c at) = omega (arith, n, cond_end_lem c at 0, expr_end_lem s (cond_end c at)) in
    rw (cond_end_lem c at 0, e, expr_end_lem t (suc (expr_end s (cond_end c at)))) (append_assoc (cond_words c at _) (expr_words s (cond_end c at)) _)

module _ (source : List ℕ) (names : Names) (inner : ℕ → Got Expr) (at : ℕ) {f : Bases} {a : Emitted} {after : List ℕ} {r : Reading Guarded} (h : Tests f cond_words a after r (parse_cond source names inner at)) where
  pub test_failed : {e : Failure} → r ≡ Err e → Compiles f expr_words a after (Err e) (parse_choice source names inner at)
  unfolding parse_choice
  test_failed i = pass _ h i refl (λ w. w)

  module _ {p : Part Guarded} (i : r ≡ Ok p) {then : Reading Token} (g : Gives (λ t. t) then (expect Kinds.THEN source p.next)) where
    pub then_missing : {e : Failure} → then ≡ Err e → Compiles f expr_words a after (Err e) (parse_choice source names inner at)
    unfolding parse_choice
    then_missing k = let v = came h i in missing (λ t. t) _ _ g k (then_got _ v.is) (of_kept v.holds.lays.kept)

    module _ {q : Part Token} (k : then ≡ Ok q) {image : List ℕ} {one : Answer} (l : Compiles f expr_words (emitted_by p.value.output after) image one (inner q.next)) where
      pub first_failed : {e : Failure} → one ≡ Err e → Compiles f expr_words a image one (parse_choice source names inner at)
      unfolding parse_choice
      first_failed j = let v = came h i in failing _ l j (then_got _ v.is ∙ then_got _ (gives_read (λ t. t) g k)) (kept_image v.holds.lays.kept)

      pub chosen : {u : Part Output} {d : Emitted} {place : ℕ} {last : List ℕ} {two : Answer} → one ≡ Ok u → AlwaysForwardJump (emitted_by u.value image) d (λ at z. Sym.jump z ∷ []) place
          → Alternates f expr_words (filled_in d p.value.hole d.next) last place two (else_expr source inner u.next) → Compiles f expr_words a last two (parse_choice source names inner at)
      unfolding parse_choice else_expr
      chosen {u} {d} j m n =
          let v = came h i in
          let w = came l j in
          let first = before_rest v.holds w.holds in
          let lays = before_rest first (m.forward f).lays in
          reads_as (Expr.choose v.tree w.tree) n
          (then_got _ v.is ∙ then_got _ (gives_read (λ t. t) g k) ∙ then_got _ w.is ∙ then_then (expect Kinds.ELSE source u.next) (λ _ l. inner l) (λ f next. got (Expr.choose v.tree w.tree f) next))
          (λ t x o. rw o.is (same (choose_words v.tree w.tree t) (branches first (m.forward f) o.lays)))
          (kept_image (kept_set p.value.hole (reference JMP false d.next) lays.inside lays.lays.kept))

-- what comes after a state that is known otherwise
pub from_state : {f : Bases} {a a' : Emitted} {after : List ℕ} {place : ℕ} {r : Answer} {g : Got Expr} → a ≡ a' → Alternates f expr_words a after place r g → Alternates f expr_words a' after place r g
from_state e h = rw (← e) h

-- the second part
module _ (source : List ℕ) (inner : ℕ → Got Expr) (at : ℕ) {f : Bases} {a : Emitted} {otherwise : Reading Token} (g : Gives (λ t. t) otherwise (expect Kinds.ELSE source at)) where
  pub else_missing : {place : ℕ} {e : Failure} → otherwise ≡ Err e → Alternates f expr_words a a.image place (Err e) (else_expr source inner at)
  unfolding else_expr
  else_missing i = missing (λ t. t) _ _ g i refl here

  module _ {q : Part Token} (i : otherwise ≡ Ok q) {after : List ℕ} {r : Answer} (h : Compiles f expr_words a after r (inner q.next)) where
    pub second_failed : {place : ℕ} {e : Failure} → r ≡ Err e → Alternates f expr_words a after place r (else_expr source inner at)
    unfolding else_expr
    second_failed k = fails (onward (failed_as h k) (λ s. then_got _ (gives_read (λ t. t) g i) ∙ s)) k (kept_as h k)

    pub second_read : {place : ℕ} {p : Part Output} {last : List ℕ} → r ≡ Ok p → last ≡ filled after place p.value.next → Alternates f expr_words a last place (Ok p) (else_expr source inner at)
    unfolding else_expr
    second_read {p = p} k e = let v = came h k in read (then_got _ (gives_read (λ t. t) g i) ∙ v.is) refl (record { end = _; lays = v.holds; is = ap (emitted_by p.value) e })

-- ---- Terms, by how they begin

module _ (source : List ℕ) (names : Names) (inner : ℕ → Got Expr) (at : ℕ) {f : Bases} {a : Emitted} {after : List ℕ} {start : TermStart} where
  pub begins_cell : {c : CellStart} {r : Answer} → start ≡ TermStart.Cell c → Compiles f (λ c _. cell_words LDA c) a after r (cell_from source names (tree_cell_start c) at)
      → Compiles f term_words a after r (term_from source names inner (tree_term_start start) at)
  unfolding tree_term_start term_from
  begins_cell e h = rw e (as_tree Term.cell cell_term h refl)

  pub begins_zero : {o : Output} → start ≡ TermStart.Zero → emitted_by o after ≡ with_word a (get_or table_of CRA 0) → Compiles f term_words a after (Ok (record { value = o; next = at })) (term_from source names inner (tree_term_start start) at)
  unfolding tree_term_start term_from
  begins_zero e h = rw e (read refl refl (zero_term h))

  pub begins_bracket : {r : Answer} → start ≡ TermStart.Bracket → Compiles f expr_words a after r (parse_bracketed source names inner at)
      → Compiles f term_words a after r (term_from source names inner (tree_term_start start) at)
  unfolding tree_term_start term_from
  begins_bracket e h = rw e (as_tree Term.bracket bracket_term h refl)

  pub begins_call : {p : ℕ} {r : Answer} → start ≡ TermStart.Call p → Compiles f term_words a after r (parse_call source names inner (Term.call p) (Term.call_with p) at)
      → Compiles f term_words a after r (term_from source names inner (tree_term_start start) at)
  unfolding tree_term_start term_from
  begins_call e h = rw e h

pub begins_accumulator : (source : List ℕ) (names : Names) (inner : ℕ → Got Expr) (at : ℕ) {f : Bases} {o : Output} {image : List ℕ} {start : TermStart} → start ≡ TermStart.Accumulator
    → Compiles f term_words (emitted_by o image) image (Ok (record { value = o; next = at })) (term_from source names inner (tree_term_start start) at)
unfolding tree_term_start term_from
begins_accumulator source names inner at e = rw e (read refl refl accumulator_term)

-- ---- Expressions

module _ (source : List ℕ) (names : Names) (left at : ℕ) where
  pub too_deep : left ≡ 0 → parse_expr source names left at ≡ expressions.too_deep_expr source names (token_at source at)
  unfolding parse_expr
  too_deep e = rw e

pub deep_failed : (source : List ℕ) (names : Names) (left at : ℕ) {f : Bases} {a : Emitted} {e : Failure} → left ≡ 0 → Fails e (expressions.too_deep_expr source names (token_at source at)) → Compiles f expr_words a a.image (Err e) (parse_expr source names left at)
deep_failed source names left at z h = fails (onward h (λ s. too_deep source names left at z ∙ s)) refl here

sub_one : (n : ℕ) → suc n - 1 ≡ n
sub_one n = omega arith

module _ (source : List ℕ) (names : Names) (at : ℕ) (t : Token) (e : t ≡ token_at source at) where
  pub is_choice : (left : ℕ) → (left ≡ 0 → ⊥) → kind_number t.kind ≡ Kinds.IF → parse_expr source names left at ≡ parse_choice source names (parse_expr source names (left - 1)) t.next
  unfolding parse_expr
  is_choice zero n k = absurd (n refl)
  is_choice (suc left) n k = rw (← e, eq-eqb (kind_number t.kind) Kinds.IF k, sub_one left)

  pub is_chain : (left : ℕ) → (left ≡ 0 → ⊥) → (kind_number t.kind ≡ Kinds.IF → ⊥) → parse_expr source names left at ≡ parse_chain source names (parse_expr source names (left - 1)) at
  unfolding parse_expr
  is_chain zero n k = absurd (n refl)
  is_chain (suc left) n k = rw (← e, ne_eqb (kind_number t.kind) Kinds.IF k, sub_one left)
