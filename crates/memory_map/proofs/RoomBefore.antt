-- What well-formed declarations leave of room, each under the allocation before it, from the front.
use Prim.Native.Nat.{◌≤◌}
use mathlib.Core.List.{List, [], ◌∷◌, ◌++◌, foldl}
use native.Mathlib.Nat.{le_refl, le_trans}
use native.Mathlib.Omega.{arith}
use Rattle.tree.specs.Tree.{Declaration, Program}
use Rattle.tree.specs.Symbols.{declare, declare_item}
use Rattle.layout.specs.Allocation.{Allocation, start, allocate, allocated}
use Rattle.layout.specs.Limits.{declaration_limit}
use Rattle.parsing_laws.specs.WellFormed.{Kind, kinds_of, DeclarationOk, DeclarationsOk, none, more, WellFormed}
use Rattle.memory_map.proofs.Room.{space_fits, sector_fits, next_follows, finish_fits, main_fits}

-- ---- What is needed of each declaration

abbrev pub Needs : Allocation → Declaration → Type 0
Needs st (Declaration.item name item) = st.scope.taken ≤ 384
Needs st (Declaration.array name size checked values) = (st.scope.taken ≤ 384) × (size ≤ 8192) × (size ≤ st.array)
Needs st (Declaration.procedure name accumulator locals body) = (st.scope.taken ≤ 384) × (st.next ≤ st.array)
Needs st Declaration.next_sector = st.next ≤ st.array

needs_of : (st : Allocation) (ks : List Kind) (d : Declaration) → DeclarationOk st ks d → Needs st d
unfolding allocate declaration_limit
needs_of st ks (Declaration.item name item) h = let l = h.1 in omega arith
needs_of st ks (Declaration.array name size checked values) h = let l = space_fits st size h.4 in (omega (arith, h.0), h.1, omega arith)
needs_of st ks (Declaration.procedure name accumulator locals body) h =
    let l = (sector_fits (allocate st (Declaration.procedure name accumulator locals body)) h.3).space in (omega (arith, h.0), omega arith)
needs_of st ks Declaration.next_sector h = let l = (next_follows st h).0.space in omega arith

-- ---- All, from the front

pub data AllFit : Allocation → List Declaration → Type 0 where
  last : {st : Allocation} → AllFit st []
  next : {st : Allocation} {d : Declaration} {ds : List Declaration} → Needs st d → AllFit (allocate st d) ds → AllFit st (d ∷ ds)

fit_snoc : {st : Allocation} {ds : List Declaration} (d : Declaration) → AllFit st ds → Needs (foldl allocate st ds) d → AllFit st (ds ++ (d ∷ []))
fit_snoc d last h = next h last
fit_snoc d (next g gs) h = next g (fit_snoc d gs h)

pub all_fit : {ds : List Declaration} → DeclarationsOk ds → AllFit start ds
unfolding allocated
all_fit none = last
all_fit (more ds d h ok) = fit_snoc d (all_fit h) (needs_of (allocated ds) (kinds_of ds) d ok)

pub main_below : (p : Program) → WellFormed p → (allocated p.declarations).next ≤ (allocated p.declarations).array
main_below p w = let st = allocated p.declarations in let l = (main_fits st p.main (finish_fits st p.main w.fits)).space in omega arith

-- ---- What only goes up, and what only goes down

pub words_up : (st : Allocation) (d : Declaration) → st.scope.taken ≤ (allocate st d).scope.taken
unfolding allocate declare_item declare
words_up st (Declaration.item name item) = omega arith
words_up st (Declaration.array name size checked values) = omega arith
words_up st (Declaration.procedure name accumulator locals body) = omega arith
words_up st Declaration.next_sector = le_refl _

pub array_down : (st : Allocation) (d : Declaration) → (allocate st d).array ≤ st.array
unfolding allocate
array_down st (Declaration.item name item) = le_refl _
array_down st (Declaration.array name size checked values) = omega arith
array_down st (Declaration.procedure name accumulator locals body) = le_refl _
array_down st Declaration.next_sector = le_refl _

pub arrays_down : (st : Allocation) (ds : List Declaration) → (foldl allocate st ds).array ≤ st.array
arrays_down st [] = le_refl _
arrays_down st (d ∷ ds) = le_trans (arrays_down (allocate st d) ds) (array_down st d)
