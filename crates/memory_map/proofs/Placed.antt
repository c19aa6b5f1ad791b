-- A map with some words from an address on replaced: what stands where.
use Prim.Native.Nat.{ℕ, ◌+◌, ◌-◌, ◌≤◌, ◌<◌}
use mathlib.Core.Path.{◌≡◌, sym, ap, ◌∙◌}
use mathlib.Core.List.{List, [], ◌∷◌, ◌++◌}
use native.Mathlib.Omega.{arith}
use lib.ListN.{length, get_or, take, drop, length-append, length-drop, length-replicate, replicate, get_or-append}
use lib.Seq.{length-take-le, get_or-take, get_or-drop, get_or-append-add}
use Rattle.tree.specs.Tree.{Id, CellId, Program}
use Rattle.layout.specs.Map.{Role, placed, saved_role, front}

module _ (m : List Role) (at : ℕ) (ws : List Role) (fits : at + length ws ≤ length m) where
  head_length : length (take at m) ≡ at
  head_length = length-take-le at m (omega arith)

  pub placed_size : length (placed m at ws) ≡ length m
  unfolding placed
  placed_size =
      omega (arith, head_length, length-append (take at m) (ws ++ drop (at + length ws) m), length-append ws (drop (at + length ws) m), length-drop (at + length ws) m)

  pub placed_before_lem : (k : ℕ) → k < at → get_or (placed m at ws) k Role.free ≡ get_or m k Role.free
  unfolding placed
  placed_before_lem k h = get_or-append (take at m) (ws ++ drop (at + length ws) m) Role.free k (omega (arith, head_length)) ∙ get_or-take at m k Role.free h

  beyond : (j : ℕ) → get_or (placed m at ws) (at + j) Role.free ≡ get_or (ws ++ drop (at + length ws) m) j Role.free
  unfolding placed
  beyond j =
      ap (λ (n : ℕ). get_or (take at m ++ (ws ++ drop (at + length ws) m)) (n + j) Role.free) (sym head_length)
      ∙ get_or-append-add (take at m) (ws ++ drop (at + length ws) m) j Role.free

  pub placed_in : (j : ℕ) → j < length ws → get_or (placed m at ws) (at + j) Role.free ≡ get_or ws j Role.free
  placed_in j h = beyond j ∙ get_or-append ws (drop (at + length ws) m) Role.free j h

  pub placed_after : (k : ℕ) → at + length ws ≤ k → get_or (placed m at ws) k Role.free ≡ get_or m k Role.free
  placed_after k h =
      let i : ℕ = k - (at + length ws) in
      let e : k ≡ at + (length ws + i) = omega arith in
      let f : (at + length ws) + i ≡ k = omega arith in
      ap (λ (n : ℕ). get_or (placed m at ws) n Role.free) e ∙ beyond (length ws + i) ∙ get_or-append-add ws (drop (at + length ws) m) i Role.free
      ∙ get_or-drop (at + length ws) m i Role.free ∙ ap (λ (n : ℕ). get_or m n Role.free) f

pub placed_first : (m : List Role) (at : ℕ) (w : Role) (ws : List Role) → at + length (w ∷ ws) ≤ length m → get_or (placed m at (w ∷ ws)) at Role.free ≡ w
placed_first m at w ws h =
    let e : at ≡ at + 0 = omega arith in
    ap (λ (n : ℕ). get_or (placed m at (w ∷ ws)) n Role.free) e ∙ placed_in m at (w ∷ ws) h 0 (omega arith)

-- ---- Before the declarations

-- the words at the front: X, and the one for A while a subscript is tested
abbrev pub front_words : Program → List Role
front_words p = Role.cell (CellId.named Id.x) 0 ∷ Role.free ∷ saved_role p.checked ∷ []

module _ (p : Program) where
  pub front_fits : 0 + length (front_words p) ≤ length (replicate 16384 Role.free)
  front_fits = omega (arith, length-replicate 16384 Role.free)

  pub front_size : length (front p) ≡ 16384
  unfolding front
  front_size = placed_size (replicate 16384 Role.free) 0 (front_words p) front_fits ∙ length-replicate 16384 Role.free

  pub front_in : (j : ℕ) → j < 3 → get_or (front p) (0 + j) Role.free ≡ get_or (front_words p) j Role.free
  unfolding front
  front_in j h = placed_in (replicate 16384 Role.free) 0 (front_words p) front_fits j h
