-- Symbolic words emitted one after another, their literals pooled on the way, are the words under the finished pool.
use Prim.Native.Nat.{ℕ, suc, ◌+◌, ◌≤◌, ◌<◌}
use mathlib.Core.Path.{◌≡◌, refl, sym, ap, ◌∙◌, subst}
use mathlib.Core.Bool.{false}
use mathlib.Core.List.{List, [], ◌∷◌, map, foldl}
use native.Mathlib.Omega.{arith}
use borrow.Author.Tests.{lt-ltb, eq-eqb}
use lib.ListN.{length, set, length-append}
use lib.Seq.{take_all}
use Rattle.tree.specs.Tree.{Id, Operand}
use Rattle.layout.specs.Words.{Sym}
use Rattle.layout.specs.Pool.{literal_of, literals_of, index_of, added, added_all}
use Rattle.layout.specs.Map.{Frame, address_of, reference, word_of, role_of, initial, fixed_words}
use Rattle.memory_map.specs.MapLaws.{Among, Extends}
use Rattle.memory_map.proofs.PoolLaws.{joined, added_all_end, index_stays, all_among}
use Rattle.layout.specs.Emission.{Emitted, Bases, frame_of, next_address, with_word, with_literal, with_literals, emit_word, emit_all, stored}

-- pooled literal by literal: what a literal adds, and then what the others add
pooled_on : (pool : List ℕ) (w : Sym) (vs : List ℕ) → added_all pool (literal_of w vs) ≡ added_all (added_all pool (literal_of w [])) vs
unfolding literal_of added_all
pooled_on pool (Sym.generic slot) vs = refl
pooled_on pool (Sym.shift kind n) vs = refl
pooled_on pool (Sym.memory code (Operand.named i)) vs = refl
pooled_on pool (Sym.memory code (Operand.literal v)) vs = refl
pooled_on pool (Sym.through code n) vs = refl
pooled_on pool (Sym.jump z) vs = refl
pooled_on pool (Sym.return link) vs = refl
pooled_on pool (Sym.saved code) vs = refl
pooled_on pool Sym.stop vs = refl

next_address_lem : (at : ℕ) → at < 65535 → next_address at ≡ suc at
unfolding next_address
next_address_lem at h = rw (lt-ltb at 65535 h)

-- the word that a role has in the image
role_value : (f : Frame) (w : Sym) → initial (role_of f w) ≡ word_of f w
unfolding role_of word_of
role_value f (Sym.generic slot) = refl
role_value f (Sym.shift kind n) = refl
role_value f (Sym.memory code o) = refl
role_value f (Sym.through code n) = refl
role_value f (Sym.jump z) = refl
role_value f (Sym.return link) = refl
role_value f (Sym.saved code) = refl
role_value f Sym.stop = refl

module _ (b : Bases) (F : List ℕ) (few : length F ≤ 512) where
  -- a pool that the finished one begins with is never cut
  not_cut : (pool : List ℕ) → Extends pool F → length pool ≤ 512
  not_cut pool x = omega (arith, ap length x.is, length-append pool x.new)

  literals_kept : (pool vs : List ℕ) → Extends (added_all pool vs) F → with_literals pool vs ≡ added_all pool vs
  unfolding with_literals with_literal added_all
  literals_kept pool [] x = refl
  literals_kept pool (v ∷ vs) x =
      let n = not_cut (added pool v) (joined (added_all_end (added pool v) vs) x) in
      ap (λ (l : List ℕ). foldl with_literal l vs) (take_all 512 (added pool v) n) ∙ literals_kept (added pool v) vs x

  -- a literal that is pooled has the index that it will have
  word_stays : (pool : List ℕ) (w : Sym) → Extends (added_all pool (literal_of w [])) F → word_of (frame_of b (added_all pool (literal_of w []))) w ≡ word_of (frame_of b F) w
  unfolding word_of address_of literal_of index_of
  word_stays pool (Sym.generic slot) x = refl
  word_stays pool (Sym.shift kind n) x = refl
  word_stays pool (Sym.memory code (Operand.named Id.x)) x = refl
  word_stays pool (Sym.memory code (Operand.named (Id.global n))) x = refl
  word_stays pool (Sym.memory code (Operand.named (Id.local p n))) x = refl
  word_stays pool (Sym.memory code (Operand.literal v)) x =
      let one : Among (v ∷ []) v = rw (eq-eqb v v refl) (omega arith) in
      ap (λ (k : ℕ). reference code false (b.pool_at + k)) (sym (index_stays v x (all_among pool (v ∷ []) v one)))
  word_stays pool (Sym.through code n) x = refl
  word_stays pool (Sym.jump z) x = refl
  word_stays pool (Sym.return link) x = refl
  word_stays pool (Sym.saved code) x = refl
  word_stays pool Sym.stop x = refl

  one_word : (e : Emitted) (w : Sym) → Extends (added_all e.pool (literal_of w [])) F → e.next < 65535
      → emit_word b e w ≡ record { image = set e.image e.next (initial (role_of (frame_of b F) w)); next = suc e.next; pool = added_all e.pool (literal_of w []) }
  unfolding emit_word with_word
  one_word e w x h = rw (literals_kept e.pool (literal_of w []) x, word_stays e.pool w x, next_address_lem e.next h, role_value (frame_of b F) w)

  pub emitted : (ws : List Sym) (e : Emitted) → Extends (added_all e.pool (literals_of ws)) F → e.next + length ws < 65535
      → (emit_all b e ws).image ≡ stored e.image e.next (map initial (fixed_words (frame_of b F) ws))
  unfolding emit_all stored fixed_words literals_of
  emitted [] e x h = refl
  emitted (w ∷ ws) e x h =
      let y : Extends (added_all (added_all e.pool (literal_of w [])) (literals_of ws)) F = subst (λ (l : List ℕ). Extends l F) (pooled_on e.pool w (literals_of ws)) x in
      let one = one_word e w (joined (added_all_end (added_all e.pool (literal_of w [])) (literals_of ws)) y) (omega arith) in
      ap (λ (r : Emitted). (emit_all b r ws).image) one
      ∙ emitted ws (record { image = set e.image e.next (initial (role_of (frame_of b F) w)); next = suc e.next; pool = added_all e.pool (literal_of w []) }) y (omega arith)
