-- Words stored one after another give the image of the words placed.
use Prim.Native.Nat.{ℕ, zero, suc, ◌+◌, ◌≤◌, ◌<◌}
use mathlib.Core.Path.{◌≡◌, refl, sym, ap, ◌∙◌}
use mathlib.Core.List.{List, [], ◌∷◌, ◌++◌, map, append_assoc}
use native.Mathlib.Nat.{add-zero, ne_of_gt}
use native.Mathlib.Omega.{arith}
use lib.ListN.{length, set, replicate, take, drop}
use lib.Seq.{set_comm, sets, sets-eq}
use Rattle.layout.specs.Map.{Role, initial, placed}
use Rattle.layout.specs.Emission.{stored}

map_set : (m : List Role) (k : ℕ) (w : Role) → map initial (set m k w) ≡ set (map initial m) k (initial w)
map_set [] k w = refl
map_set (v ∷ m) zero w = refl
map_set (v ∷ m) (suc k) w = ap (λ (l : List ℕ). initial v ∷ l) (map_set m k w)

map_sets : (m : List Role) (at : ℕ) (ws : List Role) → map initial (sets m at ws) ≡ stored (map initial m) at (map initial ws)
unfolding stored
map_sets m at [] = refl
map_sets m at (w ∷ ws) = map_sets (set m at w) (suc at) ws ∙ ap (λ (l : List ℕ). stored l (suc at) (map initial ws)) (map_set m at w)

placed_sets : (m : List Role) (at : ℕ) (ws : List Role) → at + length ws ≤ length m → placed m at ws ≡ sets m at ws
unfolding placed
placed_sets m at ws h = sym (sets-eq ws m at h ∙ append_assoc (take at m) ws (drop (at + length ws) m))

pub placed_stored : (m : List Role) (at : ℕ) (ws : List Role) → at + length ws ≤ length m → map initial (placed m at ws) ≡ stored (map initial m) at (map initial ws)
placed_stored m at ws h = ap (map initial) (placed_sets m at ws h) ∙ map_sets m at ws

pub stored_append : (image : List ℕ) (at : ℕ) (us vs : List ℕ) → stored image at (us ++ vs) ≡ stored (stored image at us) (at + length us) vs
unfolding stored
stored_append image at [] vs = ap (λ (k : ℕ). stored image k vs) (sym (add-zero at))
stored_append image at (u ∷ us) vs =
    let e : suc at + length us ≡ at + suc (length us) = omega arith in
    stored_append (set image at u) (suc at) us vs ∙ ap (λ (k : ℕ). stored (stored (set image at u) (suc at) us) k vs) e

-- a word below others may be stored before or after them
pub stored_below : (image : List ℕ) (k v at : ℕ) (ws : List ℕ) → k < at → stored (set image k v) at ws ≡ set (stored image at ws) k v
unfolding stored
stored_below image k v at [] h = refl
stored_below image k v at (w ∷ ws) h =
    ap (λ (l : List ℕ). stored l (suc at) ws) (sym (set_comm image at k w v (ne_of_gt h))) ∙ stored_below (set image at w) k v (suc at) ws (omega arith)

-- a procedure's word is stored between its locals and its link
pub in_order : (image : List ℕ) (k link at : ℕ) (us vs : List ℕ) → k < at → at + length us ≡ link
    → stored (set image k link) at (us ++ (0 ∷ vs)) ≡ stored (set (set (stored image at us) k link) link 0) (suc link) vs
unfolding stored
in_order image k link at us vs h e =
    stored_append (set image k link) at us (0 ∷ vs) ∙ ap (λ (n : ℕ). stored (stored (set image k link) at us) n (0 ∷ vs)) e
    ∙ ap (λ (l : List ℕ). stored (set l link 0) (suc link) vs) (stored_below image k link at us h)

-- ---- The image at the start

pub free_words : (n : ℕ) → map initial (replicate n Role.free) ≡ replicate n 0
free_words zero = refl
free_words (suc n) = ap (λ (l : List ℕ). 0 ∷ l) (free_words n)

zero_again : (n k : ℕ) → set {A = ℕ} (replicate n 0) k 0 ≡ replicate n 0
zero_again zero k = refl
zero_again (suc n) zero = refl
zero_again (suc n) (suc k) = ap (λ (l : List ℕ). 0 ∷ l) (zero_again n k)

pub zeros_again : (n at k : ℕ) → stored (replicate n 0) at (replicate k 0) ≡ replicate n 0
unfolding stored
zeros_again n at zero = refl
zeros_again n at (suc k) = ap (λ (l : List ℕ). stored l (suc at) (replicate k 0)) (zero_again n at) ∙ zeros_again n (suc at) k
