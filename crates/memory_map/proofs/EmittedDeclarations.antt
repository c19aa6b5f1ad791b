-- A declaration emitted on the image of the map before it gives the image of the map after it.
use Prim.Native.Nat.{ℕ, zero, suc, ◌+◌, ◌-◌, ◌*◌, ◌≤◌, ◌<◌}
use mathlib.Core.Path.{◌≡◌, refl, sym, ap, ◌∙◌}
use mathlib.Core.Bool.{Bool}
use mathlib.Core.List.{List, [], ◌∷◌, ◌++◌, map, map-append}
use native.Mathlib.Omega.{arith}
use lib.ListN.{length, set, length-map}
use Rattle.tree.specs.Tree.{Id, Name, Item, Stmts, Declaration, Program}
use Rattle.layout.specs.Words.{procedure_words}
use Rattle.layout.specs.Allocation.{Allocation, sector_of, link_of, allocate}
use Rattle.layout.specs.Map.{Role, initial, frame, fixed_words, placed, item_words, local_items, elements, place_declaration, plan_of}
use Rattle.parsing_laws.specs.WellFormed.{Kind, kinds_of}
use Rattle.memory_map.proofs.Room.{space_fits, next_follows}
use Rattle.memory_map.proofs.DeclarationWords.{item_length, elements_length, local_length, procedure_length}
use Rattle.memory_map.proofs.Untouched.{lay_global}
use Rattle.memory_map.proofs.AtDeclaration.{Here, placing, next}
use Rattle.memory_map.proofs.SectorPools.{Closing, closing, pool_of, pool_from}
use Rattle.memory_map.proofs.FinishedMap.{code_room}
use Rattle.layout.specs.Emission.{stored, item_values, local_values, padded, emit_declaration}
use Rattle.memory_map.proofs.Images.{placed_stored, in_order}
use Rattle.memory_map.proofs.GrowingPool.{emitted}
use Rattle.tree.specs.Symbols.{item_value, words_taken}

-- ---- The values of words

item_values_lem : (i : Id) (item : Item) → map initial (item_words i item) ≡ item_values item
unfolding item_words item_values words_taken item_value
item_values_lem i Item.integer = refl
item_values_lem i (Item.constant v) = refl
item_values_lem i (Item.compconstant v) = refl

local_values_lem : (p n : ℕ) (ls : List (Name × Item)) → map initial (local_items p n ls) ≡ local_values ls
unfolding local_items local_values
local_values_lem p n [] = refl
local_values_lem p n (l ∷ ls) =
    let ws = item_words (Id.local p n) l.1 in
    map-append initial ws (local_items p (n + length ws) ls) ∙ ap (λ (vs : List ℕ). vs ++ map initial (local_items p (n + length ws) ls)) (item_values_lem (Id.local p n) l.1)
    ∙ ap (λ (vs : List ℕ). item_values l.1 ++ vs) (local_values_lem p (n + length ws) ls)

element_values : (number subscript n : ℕ) (values : List ℕ) → map initial (elements number subscript n values) ≡ padded n values
unfolding elements padded
element_values number subscript zero values = refl
element_values number subscript (suc n) [] = ap (λ (vs : List ℕ). 0 ∷ vs) (element_values number (suc subscript) n [])
element_values number subscript (suc n) (v ∷ vs) = ap (λ (us : List ℕ). v ∷ us) (element_values number (suc subscript) n vs)

pub fixed_values : (vs : List ℕ) → map initial (map Role.fixed vs) ≡ vs
fixed_values [] = refl
fixed_values (v ∷ vs) = ap (λ (us : List ℕ). v ∷ us) (fixed_values vs)

-- ---- The finished pool of a sector

-- it fits in the sector
pub few_literals : (p : Program) (st : Allocation) → Closing p st → 512 * sector_of st ≤ st.next → length (pool_of p st) ≤ 512
few_literals p st c low = let a : st.next ≤ pool_from p st = c.after in omega (arith, c.sector)

-- ---- Each declaration

module _ (p : Program) (st : Allocation) (ks : List Kind) (ds : List Declaration) (m : List Role) where
  -- the emission of a declaration under its place's plan
  abbrev Emits : Declaration → Type 0
  Emits d = emit_declaration (pool_from p st) st d (map initial m) ≡ map initial (placing p st d m)

  item_emitted : (name : Name) (item : Item) → Here p st ks (Declaration.item name item ∷ ds) m → Emits (Declaration.item name item)
  unfolding emit_declaration place_declaration
  item_emitted name item h =
      let i = Id.global st.scope.taken in
      sym (placed_stored m (0o200 + st.scope.taken) (item_words i item) (omega (arith, item_length i item, h.ok.0.1, h.size))
      ∙ ap (stored (map initial m) (0o200 + st.scope.taken)) (item_values_lem i item))

  array_emitted : (name : Name) (size : ℕ) (checked : Bool) (values : List ℕ) → Here p st ks (Declaration.array name size checked values ∷ ds) m → Emits (Declaration.array name size checked values)
  unfolding emit_declaration place_declaration stored
  array_emitted name size checked values h =
      let number = st.scope.taken in
      let word = Role.fixed (0o40000 + st.array) ∷ [] in
      let words = elements number (65536 - size) size values in
      let few : number < 384 = h.ok.0.0 in
      let g = lay_global st h.room m h.size word (omega arith) in
      let fits : st.next + length st.pool + size ≤ st.array = space_fits st size h.ok.0.4 in
      sym (placed_stored (placed m (0o200 + number) word) (st.array - size) words
      (omega (arith, elements_length number (65536 - size) size values, h.room.top, g.size))
      ∙ ap (λ (l : List ℕ). stored l (st.array - size) (map initial words)) (placed_stored m (0o200 + number) word (omega (arith, h.size)))
      ∙ ap (stored (set (map initial m) (0o200 + number) (0o40000 + st.array)) (st.array - size)) (element_values number (65536 - size) size values))

  sector_emitted : Here p st ks (Declaration.next_sector ∷ ds) m → Emits Declaration.next_sector
  unfolding emit_declaration place_declaration
  sector_emitted h =
      sym (placed_stored m st.next (map Role.fixed st.pool)
      (omega (arith, length-map st.pool Role.fixed, (next_follows st h.ok.0).0.space, h.room.top, h.size))
      ∙ ap (stored (map initial m) st.next) (fixed_values st.pool))

  module _ (name : Name) (accumulator : Bool) (locals : List (Name × Item)) (body : Stmts) (h : Here p st ks (Declaration.procedure name accumulator locals body ∷ ds) m) where
    abbrev link : ℕ
    link = link_of st name locals

    abbrev words : List Role
    words = fixed_words (frame (plan_of p (length st.ends)) st.next) (procedure_words body link)

    abbrev codes : List Role
    codes = local_items st.scope.taken 0 locals ++ (Role.link st.scope.taken ∷ words)

    -- the link follows the locals
    link_at : st.next + length (local_values locals) ≡ link
    link_at =
        let n = st.scope.taken in
        omega (arith, local_length st name n locals, length-map (local_items n 0 locals) initial, ap length (local_values_lem n 0 locals))

    code_values : map initial codes ≡ local_values locals ++ (0 ∷ map initial words)
    code_values =
        let n = st.scope.taken in
        map-append initial (local_items n 0 locals) (Role.link n ∷ words) ∙ ap (λ (vs : List ℕ). vs ++ (0 ∷ map initial words)) (local_values_lem n 0 locals)

    placed_procedure : map initial (placing p st (Declaration.procedure name accumulator locals body) m)
        ≡ stored (set (map initial m) (0o200 + st.scope.taken) link) st.next (local_values locals ++ (0 ∷ map initial words))
    unfolding place_declaration stored
    placed_procedure =
        let n = st.scope.taken in
        let word = Role.fixed link ∷ [] in
        let few : n < 384 = h.ok.0.0 in
        let g = lay_global st h.room m h.size word (omega arith) in
        let l = procedure_length st name n locals (frame (plan_of p (length st.ends)) st.next) (procedure_words body link) in
        placed_stored (placed m (0o200 + n) word) st.next codes
        (omega (arith, l, (code_room p st ks ds m name accumulator locals body h).0, h.room.top, g.size))
        ∙ ap (λ (i : List ℕ). stored i st.next (map initial codes)) (placed_stored m (0o200 + n) word (omega (arith, h.size)))
        ∙ ap (stored (set (map initial m) (0o200 + n) link) st.next) code_values

    procedure_emitted : Emits (Declaration.procedure name accumulator locals body)
    unfolding emit_declaration allocate
    procedure_emitted =
        let d = Declaration.procedure name accumulator locals body in
        let n = st.scope.taken in
        let few : n < 384 = h.ok.0.0 in
        let low : 512 * sector_of st ≤ st.next = h.room.low in
        let room = (code_room p st ks ds m name accumulator locals body h).0 in
        let c : Closing p (allocate st d) = closing p ds (allocate st d) (ks ++ kinds_of (d ∷ [])) (placing p st d m) (next p st ks d ds m h) in
        let head = set (set (stored (map initial m) st.next (local_values locals)) (0o200 + n) link) link 0 in
        emitted (record { pool_at = pool_from p st; locals = st.next }) (pool_of p st) (few_literals p (allocate st d) c (omega arith)) (procedure_words body link)
        (record { image = head; next = suc link; pool = st.pool }) c.grown (omega (arith, h.room.top))
        ∙ sym (in_order (map initial m) (0o200 + n) link st.next (local_values locals) (map initial words) (omega arith) link_at) ∙ sym placed_procedure

  pub declaration_emitted : (d : Declaration) → Here p st ks (d ∷ ds) m → Emits d
  declaration_emitted (Declaration.item name item) h = item_emitted name item h
  declaration_emitted (Declaration.array name size checked values) h = array_emitted name size checked values h
  declaration_emitted (Declaration.procedure name accumulator locals body) h = procedure_emitted name accumulator locals body h
  declaration_emitted Declaration.next_sector h = sector_emitted h
