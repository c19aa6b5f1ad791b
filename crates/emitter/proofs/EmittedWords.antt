-- Each leaf of emission emits a symbolic word.
use Prim.Native.Nat.{ℕ, ◌+◌}
use mathlib.Core.Path.{◌≡◌, refl, sym, ap, ◌∙◌}
use mathlib.Core.Bool.{true, false}
use mathlib.Core.List.{List, [], ◌∷◌}
use lib.ListN.{get_or}
use Rattle.instruction.specs.Opcode.{JMP}
use Rattle.instruction.specs.Table.{table_of}
use Rattle.instruction.specs.Encode.{shift_word}
use Rattle.tree.specs.Tree.{Id, Operand}
use Rattle.layout.specs.Words.{Sym, ◌⧺◌}
use Rattle.layout.specs.Pool.{literal_of, literals_of}
use Rattle.layout.specs.Addresses.{saved_word}
use Rattle.layout.specs.Map.{address_of, reference, halt_word, word_of}
use Rattle.layout.specs.Emission.{Emitted, Bases, with_word, with_literals, frame_of, emit_word, emit_all}
use Rattle.emitter.specs.Emitted.{emitted_by, pooled_all, Puts, Emits}
use Rattle.emitter.specs.declared.Pool.{Pool}
use Rattle.emitter.specs.declared.Output.{Output}
use Rattle.emitter.proofs.Lays.{emit_append}

-- a literal is its operand's, whatever the opcode, and no name's address depends on the pool
literal_same : (c d : ℕ) (o : Operand) → literal_of (Sym.memory c o) [] ≡ literal_of (Sym.memory d o) []
unfolding literal_of
literal_same c d (Operand.named i) = refl
literal_same c d (Operand.literal v) = refl

pub named_same : (b : Bases) (p q : List ℕ) (i : Id) → address_of (frame_of b p) (Operand.named i) ≡ address_of (frame_of b q) (Operand.named i)
unfolding address_of
named_same b p q Id.x = refl
named_same b p q (Id.global n) = refl
named_same b p q (Id.local m n) = refl

module _ (b : Bases) (e : Emitted) where
  pub generic_word : (slot : ℕ) → emit_word b e (Sym.generic slot) ≡ with_word e (get_or table_of slot 0)
  unfolding emit_word word_of with_literals literal_of
  generic_word slot = refl

  pub shift_word_lem : (kind amount : ℕ) → emit_word b e (Sym.shift kind amount) ≡ with_word e (shift_word kind amount)
  unfolding emit_word word_of with_literals literal_of
  shift_word_lem kind amount = refl

  pub through_word : (opcode number : ℕ) → emit_word b e (Sym.through opcode number) ≡ with_word e (reference opcode true (0o200 + number))
  unfolding emit_word word_of with_literals literal_of
  through_word opcode number = refl

  pub jump_word : (target : ℕ) → emit_word b e (Sym.jump target) ≡ with_word e (reference JMP false target)
  unfolding emit_word word_of with_literals literal_of
  jump_word target = refl

  pub return_word : (link : ℕ) → emit_word b e (Sym.return link) ≡ with_word e (reference JMP true link)
  unfolding emit_word word_of with_literals literal_of
  return_word link = refl

  saved_word_lem : (opcode : ℕ) → emit_word b e (Sym.saved opcode) ≡ with_word e (reference opcode false saved_word)
  unfolding emit_word word_of with_literals literal_of
  saved_word_lem opcode = refl

  stop_word : emit_word b e Sym.stop ≡ with_word e halt_word
  unfolding emit_word word_of with_literals literal_of
  stop_word = refl

  pub memory_word_lem :
      (opcode : ℕ) (o : Operand) (pool : List ℕ) (address word : ℕ)
      → pool ≡ with_literals e.pool (literal_of (Sym.memory 0 o) []) → address ≡ address_of (frame_of b pool) o → word ≡ reference opcode false address
      → with_word (record { image = e.image; next = e.next; pool = pool }) word ≡ emit_word b e (Sym.memory opcode o)
  unfolding emit_word word_of
  memory_word_lem opcode o pool address word held at is = rw (literal_same opcode 0 o, ← held, ← at, is)

pub memory_literals : (opcode : ℕ) (o : Operand) → literal_of (Sym.memory 0 o) [] ≡ literals_of (Sym.memory opcode o ∷ [])
unfolding literals_of
memory_literals opcode o = literal_same 0 opcode o

-- ---- Words after words, with their literals

pooled_then : (p : Pool) (w : Sym) (vs : List ℕ) → pooled_all (pooled_all p (literal_of w [])) vs ≡ pooled_all p (literal_of w vs)
unfolding pooled_all literal_of
pooled_then p (Sym.generic slot) vs = refl
pooled_then p (Sym.shift kind n) vs = refl
pooled_then p (Sym.memory opcode (Operand.named i)) vs = refl
pooled_then p (Sym.memory opcode (Operand.literal v)) vs = refl
pooled_then p (Sym.through opcode n) vs = refl
pooled_then p (Sym.jump z) vs = refl
pooled_then p (Sym.return link) vs = refl
pooled_then p (Sym.saved opcode) vs = refl
pooled_then p Sym.stop vs = refl

pooled_append : (p : Pool) (us ws : List Sym) → pooled_all (pooled_all p (literals_of us)) (literals_of ws) ≡ pooled_all p (literals_of (us ⧺ ws))
unfolding literals_of ◌⧺◌ pooled_all
pooled_append p [] ws = refl
pooled_append p (u ∷ us) ws =
    ap (λ q. pooled_all q (literals_of ws)) (sym (pooled_then p u (literals_of us)))
    ∙ pooled_append (pooled_all p (literal_of u [])) us ws
    ∙ pooled_then p u (literals_of (us ⧺ ws))

pub emits_then : {b : Bases} {o q r : Output} {i j k : List ℕ} {us ws : List Sym} → Emits b o i q j us → Emits b q j r k ws → Emits b o i r k (us ⧺ ws)
emits_then {b} {o} {i = i} {us = us} {ws = ws} p n =
    record {
      emitted = n.emitted ∙ ap (λ e. emit_all b e ws) p.emitted ∙ sym (emit_append b (emitted_by o i) us ws);
      pool = n.pool ∙ ap (λ x. pooled_all x (literals_of ws)) p.pool ∙ pooled_append o.pool us ws;
    }

pub emits_none : {b : Bases} {o : Output} {i : List ℕ} → Emits b o i o i []
unfolding emit_all pooled_all literals_of
emits_none = record { emitted = refl; pool = refl }

-- a word that has no literal
emits_word : {b : Bases} {o r : Output} {i j : List ℕ} (w : Sym) {n : ℕ} → literal_of w [] ≡ [] → emit_word b (emitted_by o i) w ≡ with_word (emitted_by o i) n → Puts o i r j n → Emits b o i r j (w ∷ [])
unfolding emit_all literals_of pooled_all
emits_word w none is p = record { emitted = p.emitted ∙ sym is; pool = rw none p.pool }

module _ {b : Bases} {o r : Output} {i j : List ℕ} where
  pub emits_through : {number : ℕ} (opcode : ℕ) → Puts o i r j (reference opcode true (0o200 + number)) → Emits b o i r j (Sym.through opcode number ∷ [])
  unfolding literal_of
  emits_through {number} opcode p = emits_word (Sym.through opcode number) refl (through_word b (emitted_by o i) opcode number) p

  pub emits_shift : (kind n : ℕ) → Puts o i r j (shift_word kind n) → Emits b o i r j (Sym.shift kind n ∷ [])
  unfolding literal_of
  emits_shift kind n p = emits_word (Sym.shift kind n) refl (shift_word_lem b (emitted_by o i) kind n) p

  pub emits_generic : (slot : ℕ) → Puts o i r j (get_or table_of slot 0) → Emits b o i r j (Sym.generic slot ∷ [])
  unfolding literal_of
  emits_generic slot p = emits_word (Sym.generic slot) refl (generic_word b (emitted_by o i) slot) p

  pub emits_saved : (opcode : ℕ) → Puts o i r j (reference opcode false saved_word) → Emits b o i r j (Sym.saved opcode ∷ [])
  unfolding literal_of
  emits_saved opcode p = emits_word (Sym.saved opcode) refl (saved_word_lem b (emitted_by o i) opcode) p

  pub emits_stop : Puts o i r j halt_word → Emits b o i r j (Sym.stop ∷ [])
  unfolding literal_of
  emits_stop p = emits_word Sym.stop refl (stop_word b (emitted_by o i)) p
