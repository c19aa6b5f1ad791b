-- Statements with a condition: their jumps filled in.
use Prim.Native.Nat.{ℕ, suc, ◌+◌}
use mathlib.Core.Path.{◌≡◌, ap, ◌∙◌}
use mathlib.Core.Bool.{false}
use mathlib.Core.List.{List, [], ◌∷◌}
use native.Mathlib.Omega.{arith}
use lib.ListN.{length}
use Rattle.source.specs.Kinds
use Rattle.instruction.specs.Opcode.{JMP}
use Rattle.tree.specs.Tree.{Expr, Cond, Stmt}
use Rattle.tree.specs.Symbols.{Names}
use Rattle.grammar.specs.Parse.{Got, and_then}
use Rattle.grammar.specs.Parse.Got.{got}
use Rattle.layout.specs.Words.{Sym, ◌⧺◌, cond_end, stmt_end, cond_words, stmt_words}
use Rattle.grammar.specs.Statements.{parse_guarded, parse_if}
use Rattle.grammar.specs.Expressions.{parse_cond}
use Rattle.std.specs.Prelude.{Result}
use Rattle.parser.specs.declared.Part.{Part}
use Rattle.parser.specs.declared.Failure.{Failure}
use Rattle.expressions.specs.declared.Guarded.{Guarded}
use Rattle.layout.specs.Emission.{Emitted, Bases, with_word}
use Rattle.layout.specs.Map.{reference}
use Rattle.emitter.proofs.EmittedWords as words
use Rattle.emitter.specs.Lays.{Kept, Lays, ForwardJump, filled}
use Rattle.emitter.proofs.Lays as lays
use Rattle.emitter.proofs.Lays.{of_kept}
use Rattle.layout_laws.proofs.Spans as ends
use Rattle.expressions.specs.Compiles.{Tests, AlwaysForwardJump}
use Rattle.expressions.proofs.Branches.{branch_words, branches}
use Rattle.statements.specs.Forms.{followed, Follows, guarded_words}
use Rattle.statements.proofs.Forms.{followed_then, follow}

module _ (source : List ℕ) (names : Names) (expr : ℕ → Got Expr) (inner : ℕ → Got Stmt) where
  pub guarded_as : (word at : ℕ)
      → parse_guarded source names expr inner word at ≡ and_then (followed source word (parse_cond source names expr at)) (λ c m. and_then (inner m) (λ s n. got (c, s) n))
  unfolding parse_guarded
  guarded_as word at = followed_then source word (parse_cond source names expr at) (λ c m. and_then (inner m) (λ s n. got (c, s) n))

  pub if_as : (at : ℕ)
      → parse_if source names expr inner at
      ≡ and_then (followed source Kinds.ELSE (parse_guarded source names expr inner Kinds.THEN at)) (λ first m. and_then (inner m) (λ t n. got (Stmt.if first.0 first.1 t) n))
  unfolding parse_if
  if_as at = followed_then source Kinds.ELSE (parse_guarded source names expr inner Kinds.THEN at) (λ first m. and_then (inner m) (λ t n. got (Stmt.if first.0 first.1 t) n))

-- what is emitted, on another image
abbrev pub on : Emitted → List ℕ → Emitted
on e image = record { image = image; next = e.next; pool = e.pool }

module _ {f : Bases} {a b : Emitted} where
  -- a jump to the address after all
  pub fill_end :
      {w : ℕ → ℕ → List Sym} {hole : ℕ} {exit : List ℕ} (end : ℕ → ℕ) → ((at : ℕ) → at + length (w at 0) ≡ end at)
      → ForwardJump f a b w hole → exit ≡ filled b.image hole b.next → Lays f a (on b exit) (λ at. w at (end at))
  fill_end end ends p e = rw e (lays.fill p end (λ h. p.lays.counts h ∙ ends a.next))

-- a part with a jump that is not filled in yet, and a token after it
pub after_test : {A : Type 0} {f : Bases} {words : A → ℕ → ℕ → List Sym} {a : Emitted} {after : List ℕ} {r r' : Result (Part Guarded) Failure} {g : Got A} (source : List ℕ) (kind : ℕ) → Tests f words a after r g
    → Follows source kind r r' → Tests f words a after r' (followed source kind g)
after_test source kind h e = follow source kind h e (λ t j l. of_kept l.lays.kept) (λ w. w)

-- a condition and the statement after it
pub guards : {f : Bases} {a b d : Emitted} {hole : ℕ} (c : Cond) (s : Stmt) → ForwardJump f a b (cond_words c) hole → Lays f b d (stmt_words s) → ForwardJump f a d (guarded_words (c, s)) hole
unfolding guarded_words
guards c s p q = lays.same_forward (λ at z. ap (λ x. cond_words c at z ⧺ stmt_words s x) (ends.cond_end_lem c at 0)) (lays.before_rest p q)

guarded_end : (part : Cond × Stmt) (at : ℕ) → at + length (guarded_words part at 0) ≡ stmt_end part.1 (cond_end part.0 at)
unfolding guarded_words
guarded_end part at =
    let c = part.0 in
    let s = part.1 in
    let l = lays.append_length (cond_words c at 0) (stmt_words s (cond_end c at)) in
    omega (arith, ends.cond_end_lem c at 0, ends.stmt_end_lem s (cond_end c at), l)

module _ {f : Bases} {a d : Emitted} {hole : ℕ} (part : Cond × Stmt) (p : ForwardJump f a d (guarded_words part) hole) where
  pub when_lays : {exit : List ℕ} → exit ≡ filled d.image hole d.next → Lays f a (on d exit) (stmt_words (Stmt.when part.0 part.1))
  unfolding stmt_words guarded_words
  when_lays e = fill_end (λ at. stmt_end part.1 (cond_end part.0 at)) (guarded_end part) p e

  pub while_lays :
      {e : Emitted} {exit : List ℕ} → e ≡ with_word d (reference JMP false a.next) → exit ≡ filled e.image hole e.next
      → Lays f a (on e exit) (stmt_words (Stmt.while part.0 part.1))
  unfolding stmt_words guarded_words
  while_lays {e} {exit} j x =
      lays.same_here {v = stmt_words (Stmt.while c s)} (lays.append_assoc (cond_words c a.next (suc (stmt_end s (cond_end c a.next)))) (stmt_words s (cond_end c a.next)) (Sym.jump a.next ∷ []))
      (fill_end (λ at. suc (stmt_end s (cond_end c at))) back_end (lays.before_rest p jumps) x)
    where
      c : Cond
      c = part.0

      s : Stmt
      s = part.1

      jumps : Lays f d e (λ _. Sym.jump a.next ∷ [])
      jumps = rw (j, ← words.jump_word f d a.next) (lays.word (Sym.jump a.next))

      back_end : (at : ℕ) → at + length (guarded_words part at 0 ⧺ Sym.jump a.next ∷ []) ≡ suc (stmt_end s (cond_end c at))
      back_end at = let l = lays.append_length (guarded_words part at 0) (Sym.jump a.next ∷ []) in omega (arith, guarded_end part at, l)

  -- the first part of an `.IF`, with the jump to its end
  module _ {e : Emitted} {later : ℕ} {exit : List ℕ} (j : AlwaysForwardJump d e (λ at z. Sym.jump z ∷ []) later) (x : exit ≡ filled e.image hole e.next) where
    pub first_kept : Kept a (on e exit)
    first_kept = let h = lays.before_rest p (j.forward f).lays in rw x (lays.kept_set hole (reference JMP false e.next) h.inside h.lays.kept)

    pub if_lays : {g : Emitted} {last : List ℕ} (t : Stmt) → Lays f (on e exit) g (stmt_words t) → last ≡ filled g.image later g.next → Lays f a (on g last) (stmt_words (Stmt.if part.0 part.1 t))
    unfolding stmt_words guarded_words
    if_lays {g} {last} t l y = rw y (lays.same words_are (branches p (j.forward f) second))
      where
        c : Cond
        c = part.0

        s : Stmt
        s = part.1

        second : Lays f (lays.filled_in e hole e.next) g (stmt_words t)
        second = rw (← x) l

        words_are : (at : ℕ) → branch_words (guarded_words part) (stmt_words t) at ≡ stmt_words (Stmt.if c s t) at
        words_are at = rw (guarded_end part at, ends.stmt_end_lem t (suc (stmt_end s (cond_end c at)))) (lays.append_assoc (cond_words c at _) (stmt_words s (cond_end c at)) _)
