-- The spot of each number in a program's declarations: found by the number, since numbers only go up.
use Prim.Native.Nat.{ℕ, ◌≤◌, ◌<◌}
use mathlib.Core.Path.{◌≡◌, sym, ap, ◌∙◌}
use mathlib.Core.Bool.{cond}
use mathlib.Core.List.{List, [], ◌∷◌}
use native.Mathlib.Nat.{le_refl, le_trans}
use native.Mathlib.Omega.{arith}
use lib.Dec.{ltb}
use borrow.Author.Tests.{lt-ltb, le-ltb}
use Rattle.tree.specs.Tree.{Declaration}
use Rattle.tree.specs.Symbols.{words_taken, declare}
use Rattle.layout.specs.Allocation.{Allocation, link_of, allocate}
use Rattle.memory_map.proofs.Belonging.{Spots}
use Rattle.memory_map.proofs.RoomBefore.{words_up}

abbrev here : Allocation → Declaration → ℕ × ℕ
here st (Declaration.item name item) = (0, 0)
here st (Declaration.array name size checked values) = (st.array, 0)
here st (Declaration.procedure name accumulator locals body) = (st.next, link_of st name locals)
here st Declaration.next_sector = (0, 0)

unfoldable pub spots_from : Allocation → List Declaration → Spots
spots_from st [] q = (0, 0)
spots_from st (d ∷ ds) q = cond (ltb q (allocate st d).scope.taken) (here st d) (spots_from (allocate st d) ds q)

-- the spots are those of the declarations
abbrev pub Spotted : Spots → Allocation → Declaration → Type 0
Spotted f st (Declaration.item name item) = Unit {0}
Spotted f st (Declaration.array name size checked values) = (f st.scope.taken).0 ≡ st.array
Spotted f st (Declaration.procedure name accumulator locals body) = f st.scope.taken ≡ (st.next, link_of st name locals)
Spotted f st Declaration.next_sector = Unit {0}

pub data AllSpotted (f : Spots) : Allocation → List Declaration → Type 0 where
  last : {st : Allocation} → AllSpotted f st []
  next : {st : Allocation} {d : Declaration} {ds : List Declaration} → Spotted f st d → AllSpotted f (allocate st d) ds → AllSpotted f st (d ∷ ds)

module _ (f g : Spots) where
  same_spot : (st : Allocation) (d : Declaration) → f st.scope.taken ≡ g st.scope.taken → Spotted f st d → Spotted g st d
  same_spot st (Declaration.item name item) e h = tt
  same_spot st (Declaration.array name size checked values) e h = sym (ap (λ (s : ℕ × ℕ). s.0) e) ∙ h
  same_spot st (Declaration.procedure name accumulator locals body) e h = sym e ∙ h
  same_spot st Declaration.next_sector e h = tt

  same_spots : {st : Allocation} {ds : List Declaration} → ((q : ℕ) → st.scope.taken ≤ q → f q ≡ g q) → AllSpotted f st ds → AllSpotted g st ds
  same_spots e last = last
  same_spots {st = st} e (next {d = d} h hs) = next (same_spot st d (e st.scope.taken (le_refl _)) h) (same_spots (λ q l. e q (le_trans (words_up st d) l)) hs)

found : (st : Allocation) (d : Declaration) (ds : List Declaration) → st.scope.taken < (allocate st d).scope.taken → spots_from st (d ∷ ds) st.scope.taken ≡ here st d
unfolding spots_from
found st d ds l = rw (lt-ltb st.scope.taken (allocate st d).scope.taken l)

later : (st : Allocation) (d : Declaration) (ds : List Declaration) (q : ℕ) → (allocate st d).scope.taken ≤ q → spots_from (allocate st d) ds q ≡ spots_from st (d ∷ ds) q
unfolding spots_from
later st d ds q l = rw (le-ltb q (allocate st d).scope.taken l)

first : (st : Allocation) (d : Declaration) (ds : List Declaration) → Spotted (spots_from st (d ∷ ds)) st d
unfolding allocate declare words_taken
first st (Declaration.item name item) ds = tt
first st (Declaration.array name size checked values) ds = ap (λ (s : ℕ × ℕ). s.0) (found st (Declaration.array name size checked values) ds (omega arith))
first st (Declaration.procedure name accumulator locals body) ds = found st (Declaration.procedure name accumulator locals body) ds (omega arith)
first st Declaration.next_sector ds = tt

pub all_spotted : (st : Allocation) (ds : List Declaration) → AllSpotted (spots_from st ds) st ds
all_spotted st [] = last
all_spotted st (d ∷ ds) = next (first st d ds) (same_spots (spots_from (allocate st d) ds) (spots_from st (d ∷ ds)) (later st d ds) (all_spotted (allocate st d) ds))
