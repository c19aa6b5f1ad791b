-- The words after a relation's CAS (W7).
use Prim.Native.Nat.{ℕ, ◌+◌, ◌<◌}
use mathlib.Core.Path.{◌≡◌, refl, sym, ap, ◌∙◌}
use mathlib.Core.Bool.{Bool, true, false}
use mathlib.Core.List.{List, [], ◌∷◌}
use mathlib.Core.Option.{none, some}
use native.Mathlib.Omega.{arith}
use lib.Dec.{eqb}
use lib.ListN.{length, get_or}
use borrow.Author.Tests.{ne_eqb}
use Rattle.prelude.specs.Choice.{whether, find}
use Rattle.source.specs.Kinds
use Rattle.instruction.specs.Slot.{SKP, NOP}
use Rattle.instruction.specs.Table.{table_of}
use Rattle.tree.specs.Tree.{Relation}
use Rattle.grammar.specs.Vocabulary.{relations}
use Rattle.layout.specs.Words.{Sym, ◌⧺◌, controls, control_word, control_words}
use Rattle.layout.specs.Emission.{Emitted, last_address, with_word, Bases}
use Rattle.emitter.specs.Lays.{Lays, ForwardJump, filled}
use Rattle.emitter.proofs.Lays.{append_length, filled_in, before_rest, after_words, same_forward, fill}
use Rattle.expressions.specs.Chains.{relation_words}
use Rattle.expressions.specs.Compiles.{AlwaysForwardJump, Related}
use Rattle.expressions.proofs.Leaves.{generic, last_jump}

some_value : {A : Type 0} {k : ℕ} {x : A} {row : ℕ × A} → some (k, x) ≡ some row → row.1 ≡ x
some_value {A} {k} {x} {row} e = let r : (k, x) ≡ row = cc in sym (ap (λ y. y.1) r)

none_some : {A : Type 0} {x : A} → none ≡ some x → ⊥
none_some e = let z : ◌≡◌ {A = ℕ} 0 1 = cc in absurd (omega arith)

-- a relation's words, by its row
by_row : (kind : ℕ) (r : Relation) {a b : Emitted} {hole : ℕ} → find (eqb kind) relations ≡ some (kind, r) → ((f : Bases) → ForwardJump f a b (relation_words r) hole) → Related kind a b hole
by_row kind r {a} {b} {hole} e h = record { forward = λ f q. rw (some_value (sym e ∙ q)) (h f) }

module _ {a b : Emitted} {place : ℕ} where
  pub same_kind : {k kind : ℕ} → kind ≡ k → Related k a b place → Related kind a b place
  same_kind e h = rw e h

  -- `<>` and `<`: SKP or NOP, and the jump
  pub not_equal : AlwaysForwardJump a b (λ at z. Sym.generic SKP ∷ Sym.jump z ∷ []) place → Related Kinds.not_equal a b place
  unfolding find relation_words controls control_words control_word
  not_equal h = by_row Kinds.not_equal Relation.not_equal refl (λ f. same_forward (λ at z. refl) (h.forward f))

  pub less : AlwaysForwardJump a b (λ at z. Sym.generic NOP ∷ Sym.jump z ∷ []) place → Related Kinds.less a b place
  unfolding find relation_words controls control_words control_word
  less h = by_row Kinds.less Relation.less refl (λ f. same_forward (λ at z. refl) (h.forward f))

-- a relation that is none of the others
pub last_kind : {a b : Emitted} {place kind : ℕ} → (kind ≡ Kinds.equal → ⊥) → (kind ≡ Kinds.not_equal → ⊥) → (kind ≡ Kinds.less → ⊥) → (kind ≡ Kinds.greater → ⊥) → (kind ≡ Kinds.at_most → ⊥)
    → Related Kinds.at_least a b place → Related kind a b place
unfolding find
last_kind {a} {b} {place} {kind} e n l g m h =
    record { forward = λ f q. go f (eqb kind Kinds.at_least) (sym (rw (ne_eqb kind _ e, ne_eqb kind _ n, ne_eqb kind _ l, ne_eqb kind _ g, ne_eqb kind _ m)) ∙ q) }
  where
    go : {row : ℕ × Relation} (f : Bases) (t : Bool) → whether t (λ _. some (Kinds.at_least, Relation.at_least)) (λ _. none) ≡ some row → ForwardJump f a b (relation_words row.1) place
    go f true q = rw (some_value q) (h.forward f refl)
    go f false q = absurd (none_some q)

module _ {a b c : Emitted} {place : ℕ} where
  -- `<=`: the jump, then NOP
  pub at_most_lem : AlwaysForwardJump a b (λ at z. Sym.jump z ∷ []) place → c ≡ with_word b (get_or table_of NOP 0) → Related Kinds.at_most a c place
  unfolding find relation_words controls control_words control_word ◌⧺◌
  at_most_lem h e = by_row Kinds.at_most Relation.at_most refl (λ f. same_forward (λ at z. refl) (before_rest (h.forward f) (generic f NOP e)))

  -- `=` and `>=`: SKP or NOP, then SKP and the jump
  pub equal : b ≡ with_word a (get_or table_of SKP 0) → AlwaysForwardJump b c (λ at z. Sym.generic SKP ∷ Sym.jump z ∷ []) place → Related Kinds.equal a c place
  unfolding find relation_words controls control_words control_word ◌⧺◌
  equal e h = by_row Kinds.equal Relation.equal refl (λ f. same_forward (λ at z. refl) (after_words (generic f SKP e) (h.forward f)))

  pub at_least_lem : b ≡ with_word a (get_or table_of NOP 0) → AlwaysForwardJump b c (λ at z. Sym.generic SKP ∷ Sym.jump z ∷ []) place → Related Kinds.at_least a c place
  unfolding find relation_words controls control_words control_word ◌⧺◌
  at_least_lem e h = by_row Kinds.at_least Relation.at_least refl (λ f. same_forward (λ at z. refl) (after_words (generic f NOP e) (h.forward f)))

-- `>`: a jump past all, NOP, and the jump
module _ {a b c d : Emitted} {past place : ℕ} {image : List ℕ} where
  pub greater : AlwaysForwardJump a b (λ at z. Sym.jump z ∷ []) past → c ≡ with_word b (get_or table_of NOP 0) → AlwaysForwardJump c d (λ at z. Sym.jump z ∷ []) place → image ≡ filled d.image past d.next
      → Related Kinds.greater a (record { image = image; next = d.next; pool = d.pool }) place
  unfolding find relation_words controls control_words control_word ◌⧺◌
  greater h e k i = by_row Kinds.greater Relation.greater refl (λ f. rw i (same_forward (λ at z. refl) (last_jump (λ at. Sym.jump (at + 3) ∷ Sym.generic NOP ∷ []) (filled_past f) (at_place f) (omega (arith, (before_last f).lays.kept.grows, (k.forward f).inside)))))
    where
      before_last : (f : Bases) → ForwardJump f a c (λ at y. Sym.jump y ∷ Sym.generic NOP ∷ []) past
      before_last f = same_forward (λ at y. refl) (before_rest (h.forward f) (generic f NOP e))

      whole : (f : Bases) → ForwardJump f a d (λ at y. Sym.jump y ∷ Sym.generic NOP ∷ Sym.jump 0 ∷ []) past
      whole f = same_forward (λ at y. refl) (before_rest (before_last f) (k.forward f).lays)

      filled_past : (f : Bases) → Lays f a (filled_in d past d.next) (λ at. Sym.jump (at + 3) ∷ Sym.generic NOP ∷ Sym.jump 0 ∷ [])
      filled_past f = fill (whole f) (λ at. at + 3) (λ l. (whole f).lays.counts l)

      at_place : (f : Bases) → d.next < last_address → place ≡ a.next + 2
      at_place f l =
          let g = (k.forward f).lays.kept.grows in
          let n = (before_last f).lays.counts (omega (arith, g, l)) in
          let first = (k.forward f).before c.next in
          let size : 1 ≡ length (first ⧺ Sym.jump 0 ∷ (k.forward f).rest c.next) = ap length ((k.forward f).cut c.next 0) in
          let parts = append_length first (Sym.jump 0 ∷ (k.forward f).rest c.next) in
          let p = (k.forward f).place l in
          omega (arith, n, size, parts, p)

pub ruleset for_emit_relation = (same_kind, not_equal, less, equal, last_kind, at_least_lem)
