-- What the leaf functions of emission emit.
use Prim.Native.Nat.{ℕ, ◌+◌, ◌≤◌, ◌<◌}
use mathlib.Core.Path.{◌≡◌, refl}
use mathlib.Core.Bool.{true, false}
use mathlib.Core.List.{List, [], ◌∷◌}
use lib.ListN.{length, get_or}
use Rattle.instruction.specs.Opcode.{JMP, JST}
use Rattle.instruction.specs.Table.{table_of}
use Rattle.instruction.specs.Encode.{shift_word}
use Rattle.layout.specs.Words.{Sym, ◌⧺◌, call_word}
use Rattle.layout.specs.Map.{reference}
use Rattle.layout.specs.Emission.{Emitted, last_address, with_word, Bases, emit_word}
use Rattle.emitter.specs.Emitted.{emitted_by}
use Rattle.emitter.specs.Lays.{WordsAt, Lays, ForwardJump}
use Rattle.emitter.proofs.Lays.{nothing, word, jump_later, same_forward}
use Rattle.emitter.specs.declared.Output.{Output}
use Rattle.expressions.specs.declared.Guarded.{Guarded}
use Rattle.expressions.specs.Compiles.{AlwaysForwardJump, PutsHole}
use Rattle.emitter.proofs.EmittedWords.{generic_word, shift_word_lem, through_word, jump_word}

module _ (f : Bases) {a b : Emitted} where
  -- a word, by what it is
  pub one : (w : Sym) (n : ℕ) → b ≡ with_word a n → emit_word f a w ≡ with_word a n → Lays f a b (λ _. w ∷ [])
  one w n e h = rw (e, ← h) (word w)

  pub generic : (slot : ℕ) → b ≡ with_word a (get_or table_of slot 0) → Lays f a b (λ _. Sym.generic slot ∷ [])
  generic slot e = one (Sym.generic slot) _ e (generic_word f a slot)

  pub shift : (kind n : ℕ) → b ≡ with_word a (shift_word kind n) → Lays f a b (λ _. Sym.shift kind n ∷ [])
  shift kind n e = one (Sym.shift kind n) _ e (shift_word_lem f a kind n)

  pub call : (p : ℕ) → b ≡ with_word a (reference JST true (0o200 + p)) → Lays f a b (λ _. call_word p ∷ [])
  call p e = one (call_word p) _ e (through_word f a JST p)

  pub jump : (z : ℕ) → b ≡ with_word a (reference JMP false z) → Lays f a b (λ _. Sym.jump z ∷ [])
  jump z e = one (Sym.jump z) _ e (jump_word f a z)

  -- a jump that is filled in later
  pub hole : b ≡ with_word a (reference JMP false 0) → ForwardJump f a b (λ at z. Sym.jump z ∷ []) a.next
  unfolding ◌⧺◌
  hole e = rw (e, ← jump_word f a 0) (same_forward (λ at z. refl) (jump_later {f = f} {a = a} {b = a} nothing))

pub hole_later : {o : Output} {i j : List ℕ} {r : Guarded} → PutsHole o i r j → AlwaysForwardJump (emitted_by o i) (emitted_by r.output j) (λ at z. Sym.jump z ∷ []) r.hole
hole_later h = record { forward = λ f. rw h.at (hole f h.puts.emitted) }

-- the last word as a jump that is filled in later
pub last_jump : {f : Bases} {a b : Emitted} {place : ℕ} (u : WordsAt) → Lays f a b (λ at. u at ⧺ Sym.jump 0 ∷ []) → (b.next < last_address → place ≡ a.next + length (u a.next)) → a.next ≤ place
    → ForwardJump f a b (λ at z. u at ⧺ Sym.jump z ∷ []) place
last_jump u p e h = record { before = u; rest = λ _. []; cut = λ at z. refl; lays = p; place = e; inside = h }
