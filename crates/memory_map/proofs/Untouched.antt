-- A declaration places its words in what is still free, and leaves the rest as it was.
use Prim.Native.Nat.{ℕ, suc, ◌+◌, ◌-◌, ◌*◌, ◌≤◌, ◌<◌}
use mathlib.Core.Path.{◌≡◌, ◌∙◌}
use mathlib.Core.Logic.{◌⊎◌, inl, inr}
use mathlib.Core.List.{List, [], ◌∷◌, ◌++◌, map}
use native.Mathlib.Omega.{arith}
use lib.ListN.{length, get_or, length-map}
use Rattle.tree.specs.Tree.{Id, Declaration}
use Rattle.tree.specs.Symbols.{declare, declare_item}
use Rattle.layout.specs.Words.{procedure_words}
use Rattle.layout.specs.Allocation.{Allocation, sector_of, local_words, link_of, allocate}
use Rattle.layout.specs.Map.{Role, Plan, frame, fixed_words, placed, item_words, local_items, elements, place_declaration}
use Rattle.parsing_laws.specs.WellFormed.{Kind, DeclarationOk}
use Rattle.memory_map.proofs.Placed.{placed_size, placed_before_lem, placed_after}
use Rattle.memory_map.proofs.Room.{Fits, space_fits, next_follows}
use Rattle.memory_map.proofs.DeclarationWords.{item_length, elements_length, procedure_length}

-- the room at an allocation
pub record FreeSpace (st : Allocation) : Type 0 where
  pub low : 512 * sector_of st ≤ st.next
  pub sectors : sector_of st ≤ 31
  pub top : st.array ≤ 16383
  pub few : st.scope.taken ≤ 384
  pub fits : Fits st

-- what is no longer free: the globals so far, the code so far, the arrays so far
pub data Outside (st : Allocation) (k : ℕ) : Type 0 where
  global : k < 0o200 + st.scope.taken → Outside st k
  code : 512 ≤ k → k < st.next → Outside st k
  array : st.array ≤ k → Outside st k

from_globals : (st : Allocation) (k : ℕ) → FreeSpace st → Outside st k → (k < 0o200 + st.scope.taken) ⊎ (512 ≤ k)
from_globals st k r (Outside.global h) = inl h
from_globals st k r (Outside.code l h) = inr l
from_globals st k r (Outside.array h) = inr (omega (arith, r.low, r.fits.space))

from_code : (st : Allocation) (k : ℕ) → FreeSpace st → Outside st k → (k < st.next) ⊎ (st.array ≤ k)
from_code st k r (Outside.global h) = inl (omega (arith, r.low, r.few))
from_code st k r (Outside.code l h) = inl h
from_code st k r (Outside.array h) = inr h

aside : (m : List Role) (at : ℕ) (ws : List Role) (lo hi k : ℕ) → lo ≤ at → at + length ws ≤ hi → hi ≤ length m → (k < lo) ⊎ (hi ≤ k)
    → get_or (placed m at ws) k Role.free ≡ get_or m k Role.free
aside m at ws lo hi k l h s (inl e) = placed_before_lem m at ws (omega arith) k (omega arith)
aside m at ws lo hi k l h s (inr e) = placed_after m at ws (omega arith) k (omega arith)

-- words placed among the globals, and among the code and arrays
module _ (st : Allocation) (r : FreeSpace st) (m : List Role) (size : length m ≡ 16384) (at : ℕ) (ws : List Role) where
  pub in_globals : 0o200 + st.scope.taken ≤ at → at + length ws ≤ 512 → (k : ℕ) → Outside st k → get_or (placed m at ws) k Role.free ≡ get_or m k Role.free
  in_globals l h k o = aside m at ws (0o200 + st.scope.taken) 512 k l h (omega arith) (from_globals st k r o)

  pub in_code : st.next ≤ at → at + length ws ≤ st.array → (k : ℕ) → Outside st k → get_or (placed m at ws) k Role.free ≡ get_or m k Role.free
  in_code l h k o = let t = r.top in aside m at ws st.next st.array k l h (omega arith) (from_code st k r o)

  pub same_size : at + length ws ≤ 16384 → length (placed m at ws) ≡ 16384
  same_size h = placed_size m at ws (omega arith) ∙ size

-- a map as long and the same where it is no longer free
pub record Same (st : Allocation) (m n : List Role) : Type 0 where
  pub size : length n ≡ 16384
  pub same : (k : ℕ) → Outside st k → get_or n k Role.free ≡ get_or m k Role.free

pub same_trans : {st : Allocation} {a b c : List Role} → Same st a b → Same st b c → Same st a c
same_trans f g = record { size = g.size; same = λ k o. g.same k o ∙ f.same k o }

module _ (st : Allocation) (r : FreeSpace st) (m : List Role) (size : length m ≡ 16384) where
  pub lay_global : (ws : List Role) → st.scope.taken + length ws ≤ 384 → Same st m (placed m (0o200 + st.scope.taken) ws)
  lay_global ws h = record {
    size = same_size st r m size (0o200 + st.scope.taken) ws (omega arith);
    same = in_globals st r m size (0o200 + st.scope.taken) ws (omega arith) (omega arith);
  }

  pub lay_code : (at : ℕ) (ws : List Role) → st.next ≤ at → at + length ws ≤ st.array → Same st m (placed m at ws)
  lay_code at ws l h = record {
    size = let t = r.top in same_size st r m size at ws (omega arith);
    same = in_code st r m size at ws l h;
  }

-- ---- Each declaration

pub laid : (st : Allocation) (ks : List Kind) (d : Declaration) (plan : Plan) (m : List Role) → FreeSpace st → Fits (allocate st d) → DeclarationOk st ks d → length m ≡ 16384
    → Same st m (place_declaration plan st d m)
unfolding place_declaration allocate
laid st ks (Declaration.item name item) plan m r f h size =
    lay_global st r m size (item_words (Id.global st.scope.taken) item) (omega (arith, item_length (Id.global st.scope.taken) item, h.1))
laid st ks (Declaration.array name values_size checked values) plan m r f h size =
    let number = st.scope.taken in
    let a = lay_global st r m size (Role.fixed (0o40000 + st.array) ∷ []) (omega (arith, h.0)) in
    let l : length (elements number (65536 - values_size) values_size values) ≡ values_size = elements_length number (65536 - values_size) values_size values in
    let s : st.next + length st.pool + values_size ≤ st.array = space_fits st values_size h.4 in
    same_trans a (lay_code st r (placed m (0o200 + number) (Role.fixed (0o40000 + st.array) ∷ [])) a.size (st.array - values_size)
    (elements number (65536 - values_size) values_size values) (omega arith) (omega arith))
laid st ks (Declaration.procedure name accumulator locals body) plan m r f h size =
    let number = st.scope.taken in
    let at = link_of st name locals in
    let a = lay_global st r m size (Role.fixed at ∷ []) (omega (arith, h.0)) in
    let ws = local_items number 0 locals ++ (Role.link number ∷ fixed_words (frame plan st.next) (procedure_words body at)) in
    let l : length ws ≡ local_words st name locals + suc (length (procedure_words body at)) = procedure_length st name number locals (frame plan st.next) (procedure_words body at) in
    same_trans a (lay_code st r (placed m (0o200 + number) (Role.fixed at ∷ [])) a.size st.next ws (omega arith) (omega (arith, f.space, l)))
laid st ks Declaration.next_sector plan m r f h size =
    let s = (next_follows st h).0 in
    lay_code st r m size st.next (map Role.fixed st.pool) (omega arith) (omega (arith, length-map st.pool Role.fixed, s.space))

-- what is no longer free stays so
pub outside_on : (st : Allocation) (ks : List Kind) (d : Declaration) (k : ℕ) → FreeSpace st → DeclarationOk st ks d → Outside st k → Outside (allocate st d) k
unfolding allocate declare_item declare
outside_on st ks (Declaration.item name item) k r h (Outside.global l) = Outside.global (omega arith)
outside_on st ks (Declaration.item name item) k r h (Outside.code l u) = Outside.code l u
outside_on st ks (Declaration.item name item) k r h (Outside.array l) = Outside.array l
outside_on st ks (Declaration.array name size checked values) k r h (Outside.global l) = Outside.global (omega arith)
outside_on st ks (Declaration.array name size checked values) k r h (Outside.code l u) = Outside.code l u
outside_on st ks (Declaration.array name size checked values) k r h (Outside.array l) = Outside.array (omega arith)
outside_on st ks (Declaration.procedure name accumulator locals body) k r h (Outside.global l) = Outside.global (omega arith)
outside_on st ks (Declaration.procedure name accumulator locals body) k r h (Outside.code l u) = Outside.code l (omega arith)
outside_on st ks (Declaration.procedure name accumulator locals body) k r h (Outside.array l) = Outside.array l
outside_on st ks Declaration.next_sector k r h (Outside.global l) = Outside.global l
outside_on st ks Declaration.next_sector k r h (Outside.code l u) = let s = (next_follows st h).0 in Outside.code l (omega (arith, s.sector))
outside_on st ks Declaration.next_sector k r h (Outside.array l) = Outside.array l
