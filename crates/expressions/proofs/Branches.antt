-- Two parts of which a condition chooses one: the words of both, with their jumps.
use Prim.Native.Nat.{ℕ, suc, ◌+◌, ◌<◌}
use mathlib.Core.Path.{◌≡◌, refl, sym, ap, ◌∙◌}
use mathlib.Core.List.{List, [], ◌∷◌}
use native.Mathlib.Omega.{arith}
use lib.ListN.{length}
use Rattle.layout.specs.Words.{Sym, ◌⧺◌}
use Rattle.layout.specs.Emission.{Emitted, last_address, Bases}
use Rattle.emitter.specs.Lays.{WordsAt, Lays, ForwardJump}
use Rattle.emitter.proofs.Lays.{append_length, append_assoc, filled_in, same, before_rest, fill}
use Rattle.expressions.proofs.Leaves.{last_jump}

jump_then : (z : ℕ) (ws : List Sym) → (Sym.jump z ∷ []) ⧺ ws ≡ Sym.jump z ∷ ws
unfolding ◌⧺◌
jump_then z ws = refl

-- a jump alone is where it begins
pub jump_at : {f : Bases} {a b : Emitted} {hole : ℕ} → ForwardJump f a b (λ at z. Sym.jump z ∷ []) hole → b.next < last_address → hole ≡ a.next
jump_at {a = a} p h =
    let first = p.before a.next in
    let size : 1 ≡ length (first ⧺ Sym.jump 0 ∷ p.rest a.next) = ap length (p.cut a.next 0) in
    let parts = append_length first (Sym.jump 0 ∷ p.rest a.next) in
    let q = p.place h in
    omega (arith, size, parts, q)

-- the words of a part with a hole are as many whatever fills it
forward_length : {f : Bases} {a b : Emitted} {w : ℕ → ℕ → List Sym} {hole : ℕ} → ForwardJump f a b w hole → (at y z : ℕ) → length (w at y) ≡ length (w at z)
forward_length p at y z =
    let c = ap length (p.cut at y) ∙ append_length (p.before at) (Sym.jump y ∷ p.rest at) in
    let d = ap length (p.cut at z) ∙ append_length (p.before at) (Sym.jump z ∷ p.rest at) in
    c ∙ sym d

-- both parts with the jump between them (W10); the condition and the first part are w
abbrev pub branch_words : (ℕ → ℕ → List Sym) → WordsAt → WordsAt
branch_words w t at = let next = suc (at + length (w at 0)) in w at next ⧺ Sym.jump (next + length (t next)) ∷ t next

module _ {f : Bases} {a b c m : Emitted} {w : ℕ → ℕ → List Sym} {t : WordsAt} {hole place : ℕ} where
  pub branches : ForwardJump f a b w hole → ForwardJump f b c (λ at z. Sym.jump z ∷ []) place → Lays f (filled_in c hole c.next) m t → Lays f a (filled_in m place m.next) (branch_words w t)
  branches p j r = same joined (fill whole (λ at. next at + length (t (next at))) ended)
    where
      next : ℕ → ℕ
      next at = suc (at + length (w at 0))

      first : WordsAt
      first at = w at (next at)

      both : ForwardJump f a c (λ at y. w at y ⧺ Sym.jump 0 ∷ []) hole
      both = before_rest p j.lays

      first_ended : c.next < last_address → c.next ≡ next a.next
      first_ended h = let n = both.lays.counts h in let l = append_length (w a.next 0) (Sym.jump 0 ∷ []) in omega (arith, n, l)

      one : Lays f a (filled_in c hole c.next) (λ at. first at ⧺ Sym.jump 0 ∷ [])
      one = fill both next first_ended

      at_place : c.next < last_address → place ≡ a.next + length (first a.next)
      at_place h =
          let e = jump_at j h in
          let g = j.lays.counts h in
          let n = first_ended h in
          let l = forward_length p a.next (next a.next) 0 in
          omega (arith, e, g, n, l)

      second_at : (at : ℕ) → at + length (first at ⧺ Sym.jump 0 ∷ []) ≡ next at
      second_at at = let l = append_length (first at) (Sym.jump 0 ∷ []) in let k = forward_length p at (next at) 0 in omega (arith, l, k)

      whole : ForwardJump f a m (λ at z. (first at ⧺ Sym.jump z ∷ []) ⧺ t (at + length (first at ⧺ Sym.jump 0 ∷ []))) place
      whole = before_rest (last_jump first one at_place (omega (arith, p.lays.kept.grows, j.inside))) r

      ended : m.next < last_address → m.next ≡ next a.next + length (t (next a.next))
      ended h =
          let n = whole.lays.counts h in
          let l = append_length (first a.next ⧺ Sym.jump 0 ∷ []) (t (a.next + length (first a.next ⧺ Sym.jump 0 ∷ []))) in
          let e = second_at a.next in
          let k = ap (λ x. length (t x)) e in
          omega (arith, n, l, e, k)

      joined : (at : ℕ) → (first at ⧺ Sym.jump (next at + length (t (next at))) ∷ []) ⧺ t (at + length (first at ⧺ Sym.jump 0 ∷ [])) ≡ branch_words w t at
      joined at =
          let z = next at + length (t (next at)) in
          ap (λ x. (first at ⧺ Sym.jump z ∷ []) ⧺ t x) (second_at at)
          ∙ append_assoc (first at) (Sym.jump z ∷ []) (t (next at))
          ∙ ap (λ x. first at ⧺ x) (jump_then z (t (next at)))
