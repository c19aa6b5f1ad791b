-- The `.FOR` loops: their head and their body.
use Prim.Native.Nat.{ℕ, suc, ◌+◌}
use mathlib.Core.Path.{◌≡◌, refl, sym, ap, ◌∙◌}
use mathlib.Core.Bool.{Bool, true, false}
use mathlib.Core.List.{List, [], ◌∷◌}
use mathlib.Core.Option.{Option, none, some}
use native.Mathlib.Omega.{arith}
use types.Run.{OneOf, miss}
use borrow.Author.Tests.{ne_eqb}
use denote.Enum.Declared.{tag_of}
use lib.ListN.{length}
use Rattle.prelude.specs.Choice.{whether, given}
use Rattle.source.specs.Kinds.{kind_number}
use Rattle.source.specs.Kinds
use Rattle.source.specs.declared.Token.{Token}
use Rattle.source.specs.Tokens.{token_at, failure_at}
use Rattle.instruction.specs.Opcode.{JMP, STA, IRS}
use Rattle.tree.specs.Tree.{Id, Operand, Expr, Stmt}
use Rattle.tree.specs.Symbols.{Names, as_integer}
use Rattle.grammar.specs.Parse.{Got, and_then, fail_at, is, expect}
use Rattle.grammar.specs.Parse.Got.{got, failed}
use Rattle.layout.specs.Words.{Sym, ◌⧺◌, reach_words, instruction_word, cell_words, expr_end, expr_words, stmt_words}
use Rattle.grammar.specs.Cells.{refuse, name_as, parse_lone_cell}
use Rattle.grammar.specs.Statements.{parse_body, parse_for, parse_for_integer, parse_for_x}
use Rattle.symbols.specs.declared.Id.{Id as CodeId}
use Rattle.symbols.specs.Trees.{tree_id, tree_symbol}
use Rattle.symbols.specs.declared.Symbol.{Symbol}
use Rattle.symbols.specs.Lookup.{symbol_at}
use Rattle.symbols.specs.contracts.Symbol.{the_type}
use Rattle.layout.specs.Emission.{Emitted, Bases, with_word, emit_word, emit_all}
use Rattle.layout.specs.Map.{reference}
use Rattle.emitter.proofs.EmittedWords as words
use Rattle.emitter.specs.Lays.{Lays}
use Rattle.emitter.proofs.Lays as lays
use Rattle.layout_laws.proofs.Spans as ends
use Rattle.statements.specs.Forms.{followed, after_equal, Head, loop_of, counter_of, parse_head, stored_words, loaded_words, head_words}
use Rattle.parser.proofs.Answers.{then_failed, refused_any}
use Rattle.cells.proofs.StartNames.{name_as_lem}
use Rattle.parser.proofs.ReadLaws.{then_then}

-- ---- The head of a `.FOR`

-- a name used as an integer
named_integer : (source : List ℕ) (names : Names) (t : Token) → name_as source names as_integer t ≡ as_integer (symbol_at source names t)
unfolding as_integer
named_integer = name_as_lem as_integer refl (λ v. refl)

no_integer : (s : Symbol) → OneOf (1 ∷ 2 ∷ 3 ∷ 4 ∷ 5 ∷ []) (tag_of the_type s) → as_integer (tree_symbol s) ≡ none
unfolding as_integer tree_symbol
no_integer (Symbol.Integer i) h = absurd (miss (1 ∷ 2 ∷ 3 ∷ 4 ∷ 5 ∷ []) 0 tt h)
no_integer (Symbol.Constant i v) h = refl
no_integer (Symbol.Compconstant v) h = refl
no_integer (Symbol.Array a) h = refl
no_integer (Symbol.Procedure p accumulator) h = refl
no_integer Symbol.Unknown h = refl

module _ (source : List ℕ) (names : Names) (expr : ℕ → Got Expr) (at : ℕ) (t : Token) (e : t ≡ token_at source at) where
  pub head_hash :
      kind_number t.kind ≡ Kinds.hash
      → parse_head source names expr (token_at source at) ≡ and_then (after_equal source (parse_lone_cell source names) t.next) (λ c n. got (Head.hash c) n)
  unfolding parse_head
  head_hash q = rw (← e, q)

  module _ (s : Symbol) (n : kind_number t.kind ≡ Kinds.hash → ⊥) (q : tree_symbol s ≡ symbol_at source names (token_at source at)) where
    named : name_as source names as_integer t ≡ as_integer (tree_symbol s)
    named = ap (name_as source names as_integer) e ∙ named_integer source names (token_at source at) ∙ ap as_integer (sym q)

    pub head_integer :
        (i : CodeId) → s ≡ Symbol.Integer i
        → parse_head source names expr (token_at source at) ≡ and_then (after_equal source expr t.next) (λ x n. got (Head.integer (tree_id i) x) n)
    unfolding parse_head as_integer tree_symbol
    head_integer i k = rw (← e, ne_eqb _ Kinds.hash n, named, k)

    pub head_refused : OneOf (1 ∷ 2 ∷ 3 ∷ 4 ∷ 5 ∷ []) (tag_of the_type s) → parse_head source names expr (token_at source at) ≡ refuse (token_at source at)
    unfolding parse_head
    head_refused k = rw (← e, ne_eqb _ Kinds.hash n, named, no_integer s k)

-- a token that is refused: 7 at a name, 6 at any other
refusal : Token → ℕ
refusal t = failure_at t (whether (is Kinds.name t) (λ _. 7) (λ _. 6))

refuse_is : (A : Type 0) (t : Token) → ◌≡◌ {A = Got A} (refuse t) (failed (refusal t) t.at)
unfolding refuse fail_at refusal
refuse_is A t = go (is Kinds.name t)
  where
    go : (b : Bool) → ◌≡◌ {A = Got A} (whether b (λ _. failed (failure_at t 7) t.at) (λ _. failed (failure_at t 6) t.at)) (failed (failure_at t (whether b (λ _. 7) (λ _. 6))) t.at)
    go true = refl
    go false = refl

-- no head
pub no_head : {g' : Got Head} (t : Token) {k at : ℕ} → g' ≡ refuse t → refuse {A = ℕ} t ≡ failed k at → g' ≡ failed k at
no_head t q p = q ∙ refused_any t p

-- ---- The loop

module _ (source : List ℕ) (names : Names) (expr : ℕ → Got Expr) (inner : ℕ → Got Stmt) where
  -- the body after a head
  body : Head → ℕ → Got Stmt
  body h m = and_then (inner m) (λ s n. got (loop_of h s) n)

  loop_as :
      {A : Type 0} (p : ℕ → Got A) (h : A → Head) (at : ℕ)
      → and_then (expect Kinds.equal source at) (λ _ n. and_then (p n) (λ x m. parse_body source names inner (loop_of (h x)) m))
      ≡ and_then (followed source Kinds.DO (and_then (after_equal source p at) (λ x n. got (h x) n))) body
  unfolding and_then after_equal followed parse_body body
  loop_as {A} p h at = go (expect Kinds.equal source at)
    where
      go_on : (y : Got A) → and_then y (λ x m. parse_body source names inner (loop_of (h x)) m) ≡ and_then (followed source Kinds.DO (and_then y (λ x n. got (h x) n))) body
      go_on (got x m) = then_then (expect Kinds.DO source m) (λ _ n. got (h x) n) body
      go_on (failed k o) = refl

      go : (x : Got Token) → and_then x (λ _ n. and_then (p n) (λ x m. parse_body source names inner (loop_of (h x)) m)) ≡ and_then (followed source Kinds.DO (and_then (and_then x (λ _ n. p n)) (λ x n. got (h x) n))) body
      go (got u n) = go_on (p n)
      go (failed k o) = refl

  pub for_as : (t : Token) → parse_for source names expr inner t ≡ and_then (followed source Kinds.DO (parse_head source names expr t)) (λ h m. and_then (inner m) (λ s n. got (loop_of h s) n))
  unfolding parse_for parse_for_x parse_for_integer parse_head loop_of body and_then followed
  for_as t = go (is Kinds.hash t) (name_as source names as_integer t)
    where
      refused : refuse t ≡ and_then (followed source Kinds.DO (refuse t)) body
      refused = refuse_is Stmt t ∙ sym (then_failed body (then_failed _ (refuse_is Head t)))

      go : (b : Bool) (o : Option Id)
          → whether b (λ _. parse_for_x source names inner t.next) (λ _. given o (λ i. parse_for_integer source names expr inner i t.next) (λ _. refuse t))
          ≡ and_then (followed source Kinds.DO (whether b (λ _. and_then (after_equal source (parse_lone_cell source names) t.next) (λ c n. got (Head.hash c) n)) (λ _. given o (λ i. and_then (after_equal source expr t.next) (λ e n. got (Head.integer i e) n)) (λ _. refuse t)))) body
      go true o = loop_as (parse_lone_cell source names) Head.hash t.next
      go false (some i) = loop_as expr (Head.integer i) t.next
      go false none = refused

-- the words after the body
abbrev last_words : Head → ℕ → List Sym
last_words h to = Sym.memory IRS (Operand.named (counter_of h)) ∷ Sym.jump to ∷ []

loop_words : (h : Head) (s : Stmt) (at : ℕ) → head_words h at ⧺ stmt_words s (at + length (head_words h at)) ⧺ last_words h (at + length (head_words h at)) ≡ stmt_words (loop_of h s) at
unfolding head_words stored_words loaded_words reach_words instruction_word cell_words loop_of counter_of stmt_words ◌⧺◌
loop_words (Head.integer i e) s at =
    let sets = Sym.memory STA (Operand.named i) ∷ [] in
    let l = lays.append_length (expr_words e at) sets in
    let x = ends.expr_end_lem e at in
    let n : at + length (expr_words e at ⧺ sets) ≡ suc (expr_end e at) = omega (arith, l, x) in
    rw n (lays.append_assoc (expr_words e at) sets (stmt_words s (suc (expr_end e at)) ⧺ last_words (Head.integer i e) (suc (expr_end e at))))
loop_words (Head.hash c) s at = refl

module _ {f : Bases} {a b d g e : Emitted} (h : Head) (s : Stmt) where
  pub for_lays :
      {counter : Id} → Lays f a b (head_words h) → counter ≡ counter_of h → Lays f b d (stmt_words s)
      → g ≡ emit_word f d (Sym.memory IRS (Operand.named counter)) → e ≡ with_word g (reference JMP false b.next) → Lays f a e (stmt_words (loop_of h s))
  unfolding emit_all
  for_lays p n q i j = lays.same (loop_words h s) (lays.sequence p looped)
    where
      counted : Lays f d e (λ _. last_words h b.next)
      counted = rw (j, i, n, ← words.jump_word f (emit_word f d (Sym.memory IRS (Operand.named (counter_of h)))) b.next) (lays.words (last_words h b.next))

      looped : Lays f b e (λ at. stmt_words s at ⧺ last_words h at)
      looped = lays.same_here {v = λ at. stmt_words s at ⧺ last_words h at} refl (lays.sequence q counted)
