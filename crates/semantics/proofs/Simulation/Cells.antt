-- Cells of the semantics by their ids: `same_cell` is equality, and a store changes one cell only.
use Prim.Native.Nat.{ℕ}
use mathlib.Core.Path.{◌≡◌, refl, ap, ap₂}
use mathlib.Core.Bool.{Bool, true, false, cond}
use lib.Dec.{eqb}
use borrow.Author.Tests.{eqb-true, eq-eqb}
use Rattle.instruction.proofs.Choice.{yes, no}
use Rattle.tree.specs.Tree.{Id, CellId, same_id, same_cell}
use Rattle.semantics.specs.Acts.{updated}

both : (b d : Bool) → cond b d false ≡ true → (b ≡ true) × (d ≡ true)
both true d e = (refl, e)
both false d e = (e, cc)

pair_self : (m n : ℕ) → cond (eqb m m) (eqb n n) false ≡ true
pair_self m n = rw (eq-eqb m m refl, eq-eqb n n refl)

same_id_lem : (i j : Id) → same_id i j ≡ true → i ≡ j
unfolding same_id
same_id_lem Id.x Id.x e = refl
same_id_lem Id.x (Id.global n) e = cc
same_id_lem Id.x (Id.local q n) e = cc
same_id_lem (Id.global m) Id.x e = cc
same_id_lem (Id.global m) (Id.global n) e = ap Id.global (eqb-true m n e)
same_id_lem (Id.global m) (Id.local q n) e = cc
same_id_lem (Id.local p m) Id.x e = cc
same_id_lem (Id.local p m) (Id.global n) e = cc
same_id_lem (Id.local p m) (Id.local q n) e = let h = both (eqb p q) (eqb m n) e in ap₂ Id.local (eqb-true p q h.0) (eqb-true m n h.1)

self_id : (i : Id) → same_id i i ≡ true
unfolding same_id
self_id Id.x = refl
self_id (Id.global n) = eq-eqb n n refl
self_id (Id.local p n) = pair_self p n

pub same_cell_lem : (i j : CellId) → same_cell i j ≡ true → i ≡ j
unfolding same_cell
same_cell_lem (CellId.named i) (CellId.named j) e = ap CellId.named (same_id_lem i j e)
same_cell_lem (CellId.named i) (CellId.element b w) e = cc
same_cell_lem (CellId.element a v) (CellId.named j) e = cc
same_cell_lem (CellId.element a v) (CellId.element b w) e = let h = both (eqb a b) (eqb v w) e in ap₂ CellId.element (eqb-true a b h.0) (eqb-true v w h.1)

pub self_cell : (i : CellId) → same_cell i i ≡ true
unfolding same_cell
self_cell (CellId.named i) = self_id i
self_cell (CellId.element a v) = pair_self a v

pub updated_same : (c : CellId → ℕ) (i : CellId) (v : ℕ) → updated c i v i ≡ v
unfolding updated
updated_same c i v = yes v (c i) (self_cell i)

pub updated_other : (c : CellId → ℕ) (i j : CellId) (v : ℕ) → (i ≡ j → ⊥) → updated c i v j ≡ c j
unfolding updated
updated_other c i j v h = by_test (same_cell i j) refl
  where
    by_test : (b : Bool) → same_cell i j ≡ b → cond (same_cell i j) v (c j) ≡ c j
    by_test true e = absurd (h (same_cell_lem i j e))
    by_test false e = no v (c j) e
