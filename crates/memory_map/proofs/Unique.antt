-- No cell and no link stands twice in the map of a program, and its cells are those that it declares.
use Prim.Native.Nat.{ℕ, ◌+◌, ◌-◌, ◌≤◌}
use mathlib.Core.Path.{◌≡◌, refl, sym, ap, subst, ◌∙◌}
use mathlib.Core.List.Memᴰ
use mathlib.Core.List.{List, [], ◌∷◌, ◌++◌, map, Memᴰ}
use native.Mathlib.Nat.{zero-add, le_refl, le_trans}
use native.Mathlib.Omega.{arith}
use lib.ListN.{length, get_or, replicate, length-replicate}
use Rattle.tree.specs.Tree.{Id, CellId, Name, Item, Declaration, Program}
use Rattle.layout.specs.Words.{procedure_words, main_words}
use Rattle.layout.specs.Allocation.{Allocation, start, local_words, link_of, allocate, allocated}
use Rattle.layout.specs.Map.{Role, Plan, frame, fixed_words, placed, local_items, place_declaration, place_all, plan_of, front, map_of, map_at}
use Rattle.layout.specs.Map as map
use Rattle.tree.specs.Symbols.{declare, declare_item}
use Rattle.tree.specs.Variables.{item_variables, item_constants, locals_by, elements_of, declared_by, variables_of, constants_of, Declares}
use Rattle.parsing_laws.specs.WellFormed.{WellFormed}
use Rattle.memory_map.proofs.Belonging.{Cells, Spots, AtHome, Variables, Constants, at_home, homes_append, homes_pool, homes_code, homes_free, saved_home, Settled, settle, item_home, locals_home, elements_home}
use Rattle.memory_map.proofs.Belonging as homes
use Rattle.memory_map.proofs.Placed.{front_words}
use Rattle.memory_map.proofs.DeclarationWords.{local_length}
use Rattle.memory_map.proofs.RoomBefore.{Needs, AllFit, all_fit, main_below, array_down, arrays_down}
use Rattle.memory_map.proofs.RoomBefore as fit
use Rattle.memory_map.proofs.HomesByNumber.{spots_from, Spotted, AllSpotted, next, all_spotted}

-- ---- The link follows the locals

local_words_lem : (st : Allocation) (name : Name) (ls : List (Name × Item)) (q : ℕ) → local_words st name ls ≡ length (local_items q 0 ls)
local_words_lem st name ls q = sym (local_length st name q ls)

-- ---- The cells of declarations, of which the first takes the word after `taken`

abbrev elements_in : ℕ → ℕ → List CellId
elements_in number size = elements_of number (65536 - size) size

record Known (P : Cells) (taken : ℕ) (ds : List Declaration) : Type 0 where
  variables : Variables P (declared_by item_variables elements_in taken ds)
  constants : Constants P (declared_by item_constants (λ number size. []) taken ds)

known_next : {P : Cells} (st : Allocation) (d : Declaration) (ds : List Declaration) → Known P st.scope.taken (d ∷ ds) → Known P (allocate st d).scope.taken ds
unfolding declared_by allocate declare_item declare
known_next st (Declaration.item name item) ds k =
    let i = Id.global st.scope.taken in
    record { variables = λ c m. k.variables c (Memᴰ.append_right (item_variables i item) m); constants = λ c m. k.constants c (Memᴰ.append_right (item_constants i item) m) }
known_next {P} st (Declaration.array name size checked values) ds k =
    let q = st.scope.taken in
    subst (λ (n : ℕ). Known P n ds) (omega arith)
    (record { variables = λ c m. k.variables c (Memᴰ.append_right (elements_in q size) m); constants = k.constants })
known_next {P} st (Declaration.procedure name accumulator locals body) ds k =
    let q = st.scope.taken in
    subst (λ (n : ℕ). Known P n ds) (omega arith)
    (record {
      variables = λ c m. k.variables c (Memᴰ.append_right (locals_by item_variables q 0 locals) m);
      constants = λ c m. k.constants c (Memᴰ.append_right (locals_by item_constants q 0 locals) m);
    })
known_next st Declaration.next_sector ds k = record { variables = k.variables; constants = k.constants }

-- ---- Each declaration keeps the map settled

module _ (P : Cells) (f : Spots) (n : ℕ) (big : 16384 ≤ n) where
  declaration_settled : (plan : Plan) (st : Allocation) (d : Declaration) (ds : List Declaration) (m : List Role) → st.array ≤ 16383 → Needs st d → Spotted f st d
      → Known P st.scope.taken (d ∷ ds) → Settled P f n m → Settled P f n (place_declaration plan st d m)
  unfolding place_declaration declared_by
  declaration_settled plan st (Declaration.item name item) ds m low h s k g =
      settle (0o200 + st.scope.taken) (omega arith) g
      (item_home (Id.global st.scope.taken) item _ refl (λ c i. k.variables c (Memᴰ.append_left _ i)) (λ c i. k.constants c (Memᴰ.append_left _ i)))
  declaration_settled plan st (Declaration.array name size checked values) ds m low h s known g =
      let k : ℕ = st.array - size in
      let fits : size ≤ st.array = h.2 in
      let small : size ≤ 8192 = h.1 in
      settle k (omega arith) (settle (0o200 + st.scope.taken) (omega (arith, h.0)) g (homes.more tt homes.none))
      (elements_home st.scope.taken (65536 - size) size values k (omega arith) (omega arith) (λ c i. known.variables c (Memᴰ.append_left _ i)))
  declaration_settled plan st (Declaration.procedure name accumulator locals body) ds m low h s k g =
      let q : ℕ = st.scope.taken in
      let words = local_words_lem st name locals q in
      let code : st.next ≤ st.array = h.1 in
      let own : (f q).0 ≡ st.next = ap (λ (t : ℕ × ℕ). t.0) s in
      let link : (f q).1 ≡ link_of st name locals = ap (λ (t : ℕ × ℕ). t.1) s in
      let first : st.next ≡ (f q).0 + 0 = omega arith in
      let after : st.next + length (local_items q 0 locals) ≡ (f q).1 = omega arith in
      settle st.next (omega arith) (settle (0o200 + q) (omega (arith, h.0)) g (homes.more tt homes.none))
      (homes_append (locals_home q 0 locals st.next first (λ c i. k.variables c (Memᴰ.append_left _ i)) (λ c i. k.constants c (Memᴰ.append_left _ i))) refl
      (homes.more after (homes_code (frame plan st.next) (procedure_words body (link_of st name locals)) _)))
  declaration_settled plan st Declaration.next_sector ds m low h s k g =
      settle st.next (omega arith) g (homes_pool st.pool st.next)

  all_settled : (plan : ℕ → Plan) {st : Allocation} {ds : List Declaration} (m : List Role) → st.array ≤ 16383 → AllFit st ds → AllSpotted f st ds
      → Known P st.scope.taken ds → Settled P f n m → Settled P f n (place_all plan st ds m)
  unfolding place_all
  all_settled plan m low fit.last s k g = g
  all_settled plan {st = st} m low (fit.next {d = d} {ds = ds} h hs) (next s ss) k g =
      all_settled plan (place_declaration (plan (length st.ends)) st d m) (le_trans (array_down st d) low) hs ss (known_next st d ds k)
      (declaration_settled (plan (length st.ends)) st d ds m low h s k g)

-- ---- The whole map

-- the map over so many words
unfoldable built : Program → ℕ → List Role
built p n =
    let plan = plan_of p (length (map.declared p).ends) in
    placed (place_all (plan_of p) start p.declarations (placed (replicate n Role.free) 0 (front_words p))) (map.declared p).next
    (fixed_words (frame plan (map.declared p).next) (main_words p.main (map.declared p).next) ++ map Role.fixed plan.pool)

map_built : (p : Program) → map_of p ≡ built p 16384
unfolding map_of built front
map_built p = refl

module _ (p : Program) (w : WellFormed p) where
  abbrev spots : Spots
  spots = spots_from start p.declarations

  -- what is listed for the declarations is declared
  all_known : Known (Declares p) 0 p.declarations
  unfolding variables_of constants_of
  all_known = record { variables = λ c m v. Declares.variable (Memᴰ.tail m); constants = λ c m. Declares.constant m }

  x_known : Declares p (CellId.named Id.x) 0
  unfolding variables_of
  x_known = Declares.variable (Memᴰ.head refl)

  built_settled : (n : ℕ) → 16384 ≤ n → Settled (Declares p) spots n (built p n)
  unfolding built map.declared allocated
  built_settled n big =
      let below = main_below p w in
      let array = arrays_down start p.declarations in
      let free : Settled (Declares p) spots n (replicate n Role.free) = record { homes = homes_free n 0; long = omega (arith, length-replicate n Role.free) } in
      let plan = plan_of p (length (map.declared p).ends) in
      let at : ℕ = (map.declared p).next in
      settle at (omega arith)
      (all_settled (Declares p) spots n big (plan_of p) _ (le_refl _) (all_fit w.declarations) (all_spotted start p.declarations) all_known
      (settle 0 (omega arith) free (homes.more {w = Role.cell (CellId.named Id.x) 0} (refl, x_known) (homes.more tt (homes.more (saved_home (Declares p) spots p.checked 2) homes.none)))))
      (homes_append (homes_code (frame plan at) (main_words p.main at) at) refl (homes_pool plan.pool _))

  at_spot : (k : ℕ) (c : Role) → map_at p k ≡ c → AtHome (Declares p) spots k c
  at_spot k c e =
      let s = built_settled 16384 (le_refl _) in
      subst (λ (d : Role). AtHome (Declares p) spots k d) (ap (λ (m : List Role). get_or m k Role.free) (sym (map_built p)) ∙ e)
      (subst (λ (j : ℕ). AtHome (Declares p) spots j (get_or (built p 16384) k Role.free)) (zero-add k) (at_home s.homes k))

pub once : (p : Program) → WellFormed p → (k l : ℕ) (i : CellId) (v u : ℕ) → map_at p k ≡ Role.cell i v → map_at p l ≡ Role.cell i u → k ≡ l
once p w k l i v u e d = (at_spot p w k (Role.cell i v) e).0 ∙ sym (at_spot p w l (Role.cell i u) d).0

pub cell_declared : (p : Program) → WellFormed p → (k : ℕ) (i : CellId) (v : ℕ) → map_at p k ≡ Role.cell i v → Declares p i v
cell_declared p w k i v e = (at_spot p w k (Role.cell i v) e).1

pub link_once : (p : Program) → WellFormed p → (k l n : ℕ) → map_at p k ≡ Role.link n → map_at p l ≡ Role.link n → k ≡ l
link_once p w k l n e d = at_spot p w k (Role.link n) e ∙ sym (at_spot p w l (Role.link n) d)
