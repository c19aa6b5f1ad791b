-- What follows a condition's expression, and the condition of both.
use Prim.Native.Nat.{ℕ, ◌+◌}
use mathlib.Core.Path.{◌≡◌, refl, sym, ap, ap₂, ◌∙◌}
use mathlib.Core.Bool.{Bool, true, false}
use Rattle.std.specs.Prelude.{Option as Found, Some, None, Result, Ok, Err}
use mathlib.Core.List.{List, [], ◌∷◌}
use mathlib.Core.Option.{Option, none, some}
use native.Mathlib.Omega.{arith}
use lib.Dec.{eqb}
use lib.ListN.{length}
use Rattle.prelude.specs.Choice.{find, given}
use Rattle.source.specs.Kinds.{kind_number}
use Rattle.source.specs.declared.Token.{Token}
use Rattle.source.specs.Tokens.{token_at, failure_at}
use Rattle.instruction.specs.Opcode.{CAS}
use Rattle.tree.specs.Tree.{Cell, Relation, Test, Expr, Cond}
use Rattle.tree.specs.Symbols.{Names}
use Rattle.grammar.specs.Parse.{Got, and_then, fail_at}
use Rattle.grammar.specs.Parse.Got.{got, failed}
use Rattle.grammar.specs.Vocabulary.{relations, tests, bares, as_one_of}
use Rattle.layout.specs.Words.{Sym, ◌⧺◌, cell_words, controls, control_words, test_slot, bare_slot, cond_end, expr_words, cond_words}
use Rattle.grammar.specs.Cells.{parse_lone_cell}
use Rattle.grammar.specs.Expressions.{cond_from, parse_cond}
use Rattle.parser.specs.declared.Part.{Part}
use Rattle.parser.specs.declared.Failure.{Failure}
use Rattle.parser.specs.Failures.{number_of, cause_of}
use Rattle.emitter.specs.declared.Output.{Output}
use Rattle.emitter.specs.Emitted.{emitted_by}
use Rattle.expressions.specs.declared.Guarded.{Guarded}
use Rattle.layout.specs.Emission.{Emitted, Bases}
use Rattle.emitter.proofs.Lays.{here, kept_image, after_words, same_forward}
use Rattle.layout_laws.proofs.Spans.{expr_end_lem}
use Rattle.expressions.specs.Vocabulary.{looked_up, stands_in}
use Rattle.expressions.specs.Chains.{Comparison, cond_of, comparison_of, relation_words, comparison_words}
use Rattle.expressions.specs.Compiles.{Compiles, Tests, Compares, AlwaysForwardJump, Related}
use Rattle.expressions.proofs.VocabularyLaws.{as_row, as_some, as_none, standing, as_standing, not_standing}
use Rattle.parser.proofs.Answers.{onward, then_got, then_failed}
use Rattle.parser.specs.Reads.Reads.{read, fails}
use Rattle.parser.proofs.ReadLaws.{came, pass, reads_on}

-- ---- A comparison

-- after the relation
module _ {f : Bases} {kind : ℕ} {a : Emitted} {after : List ℕ} {r : Result (Part Output) Failure} {g : Got Cell} (h : Compiles f (λ c _. cell_words CAS c) a after r g) where
  pub related_failed : {e : Failure} → r ≡ Err e → Compares f kind a after (Err e) g
  related_failed i = record { tests = λ k. pass _ h i refl (λ w. w) }

  pub related_read : {p : Part Output} {j : Guarded} {last : List ℕ} → r ≡ Ok p → Related kind (emitted_by p.value after) (emitted_by j.output last) j.hole → Compares f kind a last (Ok (record { value = j; next = p.next })) g
  unfolding comparison_words
  related_read i k =
      let v = came h i in record { tests = λ q. read (then_got _ v.is) refl (same_forward (λ at z. refl) (after_words v.holds (k.forward f q))) }

module _ (source : List ℕ) (names : Names) (at : ℕ) (t : Token) (e : t ≡ token_at source at) {b : Bool} (related : b ≡ stands_in relations (kind_number t.kind)) {f : Bases} {a : Emitted} where
  pub relation_compared : {after : List ℕ} {r : Result (Part Guarded) Failure} → b ≡ true → Compares f (kind_number t.kind) a after r (parse_lone_cell source names t.next) → Tests f comparison_words a after r (comparison_of source names (token_at source at))
  unfolding comparison_of
  relation_compared h k =
      let row = standing relations (kind_number t.kind) related h in reads_on (ap (comparison_of source names) (sym e) ∙ as_standing relations t _ _ row) (k.tests row.found)

  module _ (no : b ≡ false) {s : Found ℕ} (tested : s ≡ looked_up tests test_slot (kind_number t.kind)) where
    pub test_read : {n : ℕ} {after : List ℕ} {j : Guarded} → s ≡ Some n → AlwaysForwardJump a (emitted_by j.output after) (λ at z. Sym.generic n ∷ Sym.jump z ∷ []) j.hole
        → Tests f comparison_words a after (Ok (record { value = j; next = t.next })) (comparison_of source names (token_at source at))
    unfolding comparison_of comparison_words
    test_read h k =
        let r = as_row tests test_slot (kind_number t.kind) tested h in
        read (ap (comparison_of source names) (sym e) ∙ (not_standing relations t _ _ related no ∙ as_some tests test_slot t _ _ r)) refl
        (same_forward (λ at z. ap (λ x. Sym.generic x ∷ Sym.jump z ∷ []) r.is) (k.forward f))

    pub no_comparison : {x : Failure} → s ≡ None → number_of x.cause ≡ failure_at t 6 → x.cause ≡ cause_of (failure_at t 6) → x.at ≡ t.at → Tests f comparison_words a a.image (Err x) (comparison_of source names (token_at source at))
    unfolding comparison_of fail_at
    no_comparison h n c p =
        fails (ap (comparison_of source names) (sym e) ∙ (not_standing relations t _ _ related no ∙ (as_none tests test_slot t _ _ tested h ∙ ap₂ (λ k i. failed k i) (sym n) (sym p))), c ∙ ap cause_of (sym n)) refl here

-- ---- A condition

cond_then : {A : Type 0} (g : Got A) (h : A → Comparison) (e : Expr) (k : A → Cond) → ((x : A) → cond_of e (h x) ≡ k x)
    → and_then g (λ x n. got (k x) n) ≡ and_then (and_then g (λ x n. got (h x) n)) (λ c n. got (cond_of e c) n)
unfolding and_then
cond_then (got t n) h e k q = ap (λ x. got x n) (sym (q t))
cond_then (failed m at) h e k q = refl

module _ (source : List ℕ) (names : Names) where
  cond_from_lem : (e : Expr) (t : Token) → cond_from source names e t ≡ and_then (comparison_of source names t) (λ c n. got (cond_of e c) n)
  unfolding cond_from comparison_of cond_of and_then fail_at
  cond_from_lem e t = go (find (eqb (kind_number t.kind)) relations) (find (eqb (kind_number t.kind)) tests)
    where
      cell : Got Cell
      cell = parse_lone_cell source names t.next

      go : (o : Option (ℕ × Relation)) (s : Option (ℕ × Test))
          → given o (λ r. and_then cell (λ c n. got (Cond.relation r.1 e c) n)) (λ _. given s (λ r. got (Cond.test r.1 e) t.next) (λ _. fail_at t 6))
          ≡ and_then (given o (λ r. and_then cell (λ c n. got (Comparison.relation r.1 c) n)) (λ _. given s (λ r. got (Comparison.test r.1) t.next) (λ _. fail_at t 6))) (λ c n. got (cond_of e c) n)
      go (some r) s = cond_then cell (Comparison.relation r.1) e (Cond.relation r.1 e) (λ c. refl)
      go none (some r) = refl
      go none none = refl

cond_words_lem : (e : Expr) (c : Comparison) (at z : ℕ) → expr_words e at ⧺ comparison_words c (at + length (expr_words e at)) z ≡ cond_words (cond_of e c) at z
unfolding cond_of comparison_words cond_words cond_end relation_words
cond_words_lem e (Comparison.relation r c) at z =
    let h = expr_end_lem e at in
    let end : at + length (expr_words e at) + length (cell_words CAS c) + length (controls r) ≡ cond_end (Cond.relation r e c) at = omega (arith, h) in
    ap (λ x. expr_words e at ⧺ cell_words CAS c ⧺ control_words x z (controls r)) end
cond_words_lem e (Comparison.test t) at z = refl

module _ (source : List ℕ) (names : Names) (expr : ℕ → Got Expr) (at : ℕ) (t : Token) (e : t ≡ token_at source at) {b : Found ℕ} (alone : b ≡ looked_up bares bare_slot (kind_number t.kind)) where
  not_bare : b ≡ None → parse_cond source names expr at ≡ and_then (expr at) (λ e n. cond_from source names e (token_at source n))
  unfolding parse_cond
  not_bare h =
      ap (λ x. as_one_of bares x (λ b. got (Cond.bare b) x.next) (λ _. and_then (expr at) (λ e n. cond_from source names e (token_at source n)))) (sym e) ∙ as_none bares bare_slot t _ _ alone h

  pub bare_read : {f : Bases} {a : Emitted} {after : List ℕ} {n : ℕ} {j : Guarded} → b ≡ Some n → AlwaysForwardJump a (emitted_by j.output after) (λ at z. Sym.generic n ∷ Sym.jump z ∷ []) j.hole
      → Tests f cond_words a after (Ok (record { value = j; next = t.next })) (parse_cond source names expr at)
  unfolding parse_cond cond_words
  bare_read {f} h k =
      let r = as_row bares bare_slot (kind_number t.kind) alone h in
      read (ap (λ x. as_one_of bares x (λ b. got (Cond.bare b) x.next) (λ _. and_then (expr at) (λ e n. cond_from source names e (token_at source n)))) (sym e) ∙ as_some bares bare_slot t _ _ r) refl
      (same_forward (λ at z. ap (λ x. Sym.generic x ∷ Sym.jump z ∷ []) r.is) (k.forward f))

  module _ (no : b ≡ None) {f : Bases} {a : Emitted} {after : List ℕ} {r : Result (Part Output) Failure} (h : Compiles f expr_words a after r (expr at)) where
    pub value_failed : {x : Failure} → r ≡ Err x → Tests f cond_words a after (Err x) (parse_cond source names expr at)
    value_failed i = pass _ h i (not_bare no) (λ w. w)

    pub value_compared : {p : Part Output} {last : List ℕ} {end : Result (Part Guarded) Failure} → r ≡ Ok p → Tests f comparison_words (emitted_by p.value after) last end (comparison_of source names (token_at source p.next))
        → Tests f cond_words a last end (parse_cond source names expr at)
    value_compared {p = p} i (read {t = c} is q l) =
        let v = came h i in
        read (not_bare no ∙ then_got _ v.is ∙ cond_from_lem source names v.tree (token_at source p.next) ∙ then_got _ is) q (same_forward (cond_words_lem v.tree c) (after_words v.holds l))
    value_compared {p = p} i (fails is q w) =
        let v = came h i in
        fails (onward is (λ s. not_bare no ∙ then_got _ v.is ∙ cond_from_lem source names v.tree (token_at source p.next) ∙ then_failed _ s)) q (kept_image v.holds.kept w)
