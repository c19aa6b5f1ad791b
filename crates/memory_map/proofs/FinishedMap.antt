-- What each declaration has in the finished map.
use Prim.Native.Nat.{ℕ, suc, ◌+◌, ◌-◌, ◌*◌, ◌/◌, ◌%◌, ◌≤◌, ◌<◌}
use mathlib.Core.Path.{◌≡◌, refl, ap, ◌∙◌, subst}
use mathlib.Core.Bool.{Bool, true, false, cond}
use mathlib.Core.List.{List, [], ◌∷◌, ◌++◌}
use native.Mathlib.Omega.{arith}
use borrow.Author.Tests.{leb-true, ltb-true, lt-leb, eq-eqb}
use lib.Dec.{leb, ltb}
use lib.ListN.{length, get_or, length-append, get_or-append}
use lib.Seq.{get_or-append-add}
use Rattle.tree.specs.Tree.{Id, CellId, Array, Name, Item, Stmts, Declaration, Program, is_inside}
use Rattle.tree.specs.Symbols.{declare, words_taken}
use Rattle.layout.specs.Words.{procedure_words}
use Rattle.layout.specs.Allocation.{Allocation, sector_of, local_words, link_of, allocate}
use Rattle.layout.specs.Map.{Role, Frame, frame, fixed_words, placed, item_words, local_items, elements, place_declaration, plan_of, map_at}
use Rattle.parsing_laws.specs.WellFormed.{Kind, item_kinds, kinds_of}
use Rattle.memory_map.specs.Laid.{ArrayWord, ProcedureWord}
use Rattle.memory_map.proofs.Bodies.{Fixed}
use Rattle.memory_map.proofs.Placed.{placed_in, placed_first, placed_before_lem}
use Rattle.memory_map.proofs.Room.{space_fits}
use Rattle.memory_map.proofs.DeclarationWords.{item_length, elements_length, elements_at, local_length, Local, local_at, procedure_length, fixed_from}
use Rattle.memory_map.proofs.Untouched.{Outside, lay_global}
use Rattle.memory_map.proofs.AtDeclaration.{Here, words_on, fits_on, placing, next, kept}

-- the word of a global cell
pub record CellAt (p : Program) (n : ℕ) : Type 0 where
  pub value : ℕ
  pub few : n < 384
  pub is : map_at p (0o200 + n) ≡ Role.cell (CellId.named (Id.global n)) value

pub inside_bounds : (a : Array) (v : ℕ) → is_inside a v ≡ true → (65536 - a.size ≤ v) × (v < 65536)
unfolding is_inside
inside_bounds a v h = go (leb (65536 - a.size) v) (ltb v 65536) refl refl h
  where
    go : (b c : Bool) → leb (65536 - a.size) v ≡ b → ltb v 65536 ≡ c → cond b c false ≡ true → (65536 - a.size ≤ v) × (v < 65536)
    go true true e f h = (leb-true (65536 - a.size) v e, ltb-true v 65536 f)
    go true false e f h = let z : ◌≡◌ {A = ℕ} 0 1 = cc in absurd (omega arith)
    go false c e f h = let z : ◌≡◌ {A = ℕ} 0 1 = cc in absurd (omega arith)

module _ (p : Program) (st : Allocation) (ks : List Kind) (ds : List Declaration) (m : List Role) where
  -- what a declaration has placed is as it will be
  stays : (d : Declaration) → Here p st ks (d ∷ ds) m → (k : ℕ) → Outside (allocate st d) k → map_at p k ≡ get_or (placing p st d m) k Role.free
  stays d h k o = (kept p ds (allocate st d) (ks ++ kinds_of (d ∷ [])) (placing p st d m) (next p st ks d ds m h)).same k o

  few_on : (d : Declaration) → Here p st ks (d ∷ ds) m → st.scope.taken + length (kinds_of (d ∷ [])) ≤ 384
  few_on d h = subst (λ (n : ℕ). n ≤ 384) (words_on st d) (next p st ks d ds m h).room.few

  -- ---- An item

  pub item_laid : (name : Name) (item : Item) → length (item_kinds item) ≡ 1 → Here p st ks (Declaration.item name item ∷ ds) m
      → (st.scope.taken < 384) × (map_at p (0o200 + st.scope.taken) ≡ get_or (item_words (Id.global st.scope.taken) item) 0 Role.free)
  unfolding place_declaration kinds_of
  item_laid name item one h =
      let n = st.scope.taken in
      let d = Declaration.item name item in
      let l : length (item_words (Id.global n) item) ≡ 1 = item_length (Id.global n) item ∙ one in
      let k : length (kinds_of (d ∷ [])) ≡ length (item_kinds item) + 0 = length-append (item_kinds item) [] in
      let f : n + length (kinds_of (d ∷ [])) ≤ 384 = few_on d h in
      let z : 0o200 + n ≡ 0o200 + n + 0 = omega arith in (
        omega arith,
        ap (map_at p) z ∙ stays d h (0o200 + n + 0) (Outside.global (omega (arith, words_on st d)))
            ∙ placed_in m (0o200 + n) (item_words (Id.global n) item) (omega (arith, h.size)) 0 (omega arith),
      )

  -- ---- An array

  module _ (name : Name) (size : ℕ) (checked : Bool) (values : List ℕ) (h : Here p st ks (Declaration.array name size checked values ∷ ds) m) where
    abbrev number : ℕ
    number = st.scope.taken

    pub array_low : st.next + size ≤ st.array
    array_low = omega (arith, space_fits st size h.ok.0.4)

    pub element_at_lem : (j : ℕ) → j < size → map_at p (st.array - size + j) ≡ Role.cell (CellId.element number (65536 - size + j)) (get_or values j 0)
    unfolding place_declaration allocate
    element_at_lem j l =
        let g = lay_global st h.room m h.size (Role.fixed (0o40000 + st.array) ∷ []) (omega (arith, h.ok.0.0)) in
        let e : length (elements number (65536 - size) size values) ≡ size = elements_length number (65536 - size) size values in
        stays (Declaration.array name size checked values) h (st.array - size + j) (Outside.array (omega arith))
        ∙ placed_in (placed m (0o200 + number) (Role.fixed (0o40000 + st.array) ∷ [])) (st.array - size) (elements number (65536 - size) size values)
        (omega (arith, array_low, h.room.top, g.size)) j (omega arith)
        ∙ elements_at number (65536 - size) size values j l

    pub array_word : ArrayWord (map_at p) (record { number = number; size = size; checked = checked }) (0o200 + number)
    unfolding place_declaration allocate declare words_taken
    array_word =
        let few : number < 384 = h.ok.0.0 in
        let most : size ≤ 8192 = h.ok.0.1 in
        let top : st.array ≤ 16383 = h.room.top in
        let low : 512 * sector_of st ≤ st.next = h.room.low in
        let fit : st.next + size ≤ st.array = array_low in
        let g = lay_global st h.room m h.size (Role.fixed (0o40000 + st.array) ∷ []) (omega arith) in
        let e : length (elements number (65536 - size) size values) ≡ size = elements_length number (65536 - size) size values in
        let one : (0o40000 + st.array) / 0o40000 % 2 ≡ 1 = omega arith in
        record {
          below = omega arith;
          small = most;
          word = 0o40000 + st.array;
          here = stays (Declaration.array name size checked values) h (0o200 + number) (Outside.global (omega arith))
              ∙ placed_before_lem (placed m (0o200 + number) (Role.fixed (0o40000 + st.array) ∷ [])) (st.array - size) (elements number (65536 - size) size values)
              (omega (arith, g.size)) (0o200 + number) (omega arith)
              ∙ placed_first m (0o200 + number) (Role.fixed (0o40000 + st.array)) [] (omega (arith, h.size));
          straight = lt-leb 0o100000 (0o40000 + st.array) (omega arith);
          tagged = eq-eqb ((0o40000 + st.array) / 0o40000 % 2) 1 one;
          initial = λ v. get_or values (v - (65536 - size)) 0;
          elements = λ v b.
              let r = inside_bounds (record { number = number; size = size; checked = checked }) v b in
              let lo : 65536 - size ≤ v = r.0 in
              let hi : v < 65536 = r.1 in
              let j : ℕ = v - (65536 - size) in
              let there : ((0o40000 + st.array) % 16384 + v) % 16384 ≡ st.array - size + j = omega arith in
              let same : 65536 - size + j ≡ v = omega arith in
              ap (map_at p) there ∙ element_at_lem j (omega arith) ∙ ap (λ (n : ℕ). Role.cell (CellId.element number n) (get_or values j 0)) same;
        }

  -- ---- A procedure

  module _ (name : Name) (accumulator : Bool) (locals : List (Name × Item)) (body : Stmts) (h : Here p st ks (Declaration.procedure name accumulator locals body ∷ ds) m) where
    abbrev own : ℕ
    own = st.scope.taken

    abbrev pub at : ℕ
    at = link_of st name locals

    abbrev pub over : Frame
    over = frame (plan_of p (length st.ends)) st.next

    abbrev codes : List Role
    codes = local_items own 0 locals ++ (Role.link own ∷ fixed_words over (procedure_words body at))

    pub code_room : (st.next + local_words st name locals + suc (length (procedure_words body at)) ≤ st.array)
        × (st.next + local_words st name locals + suc (length (procedure_words body at)) ≤ 512 * suc (sector_of st))
    unfolding allocate
    code_room = let f = fits_on p st ks (Declaration.procedure name accumulator locals body) ds m h in (omega (arith, f.space), omega (arith, f.sector))

    code_at : (j : ℕ) → j < length codes → map_at p (st.next + j) ≡ get_or codes j Role.free
    unfolding place_declaration allocate
    code_at j l =
        let e : length codes ≡ local_words st name locals + suc (length (procedure_words body at)) = procedure_length st name own locals over (procedure_words body at) in
        let g = lay_global st h.room m h.size (Role.fixed at ∷ []) (omega (arith, h.ok.0.0)) in
        let low : 512 * sector_of st ≤ st.next = h.room.low in
        stays (Declaration.procedure name accumulator locals body) h (st.next + j) (Outside.code (omega arith) (omega arith))
        ∙ placed_in (placed m (0o200 + own) (Role.fixed at ∷ [])) st.next codes (omega (arith, code_room.0, h.room.top, g.size)) j l

    pub local_laid : (n : ℕ) → n < local_words st name locals → map_at p (st.next + n) ≡ get_or (local_items own 0 locals) n Role.free
    local_laid n l =
        let e : length (local_items own 0 locals) ≡ local_words st name locals = local_length st name own locals in
        code_at n (omega (arith, length-append (local_items own 0 locals) (Role.link own ∷ fixed_words over (procedure_words body at))))
        ∙ get_or-append (local_items own 0 locals) (Role.link own ∷ fixed_words over (procedure_words body at)) Role.free n (omega arith)

    pub local_word : (n : ℕ) → n < local_words st name locals → Local own n (map_at p (st.next + n))
    local_word n l =
        let e : length (local_items own 0 locals) ≡ local_words st name locals = local_length st name own locals in
        let q = local_at own 0 locals n (omega arith) in
        let z : 0 + n ≡ n = omega arith in
        record { value = q.value; is = local_laid n l ∙ q.is ∙ ap (λ (k : ℕ). Role.cell (CellId.named (Id.local own k)) q.value) z }

    after_locals : (j : ℕ) → j < suc (length (procedure_words body at)) → map_at p (at + j) ≡ get_or (Role.link own ∷ fixed_words over (procedure_words body at)) j Role.free
    after_locals j l =
        let e : length (local_items own 0 locals) ≡ local_words st name locals = local_length st name own locals in
        let q : length codes ≡ local_words st name locals + suc (length (procedure_words body at)) = procedure_length st name own locals over (procedure_words body at) in
        let z : at + j ≡ st.next + (length (local_items own 0 locals) + j) = omega arith in
        ap (map_at p) z ∙ code_at (length (local_items own 0 locals) + j) (omega arith)
        ∙ get_or-append-add (local_items own 0 locals) (Role.link own ∷ fixed_words over (procedure_words body at)) j Role.free

    pub link_word : map_at p at ≡ Role.link own
    link_word = let z : at ≡ at + 0 = omega arith in ap (map_at p) z ∙ after_locals 0 (omega arith)

    pub body_fixed : Fixed (map_at p) over (suc at) (procedure_words body at)
    body_fixed = fixed_from (map_at p) over (procedure_words body at) (suc at) (λ j l. let z : suc at + j ≡ at + suc j = omega arith in ap (map_at p) z ∙ after_locals (suc j) (omega arith))

    pub procedure_word : ProcedureWord (map_at p) own (0o200 + own)
    unfolding place_declaration allocate declare words_taken
    procedure_word =
        let few : own < 384 = h.ok.0.0 in
        let top : st.array ≤ 16383 = h.room.top in
        let low : 512 * sector_of st ≤ st.next = h.room.low in
        let fit = code_room.0 in
        let g = lay_global st h.room m h.size (Role.fixed at ∷ []) (omega arith) in
        let e : length codes ≡ local_words st name locals + suc (length (procedure_words body at)) = procedure_length st name own locals over (procedure_words body at) in
        record {
          below = omega arith;
          link = at;
          here = stays (Declaration.procedure name accumulator locals body) h (0o200 + own) (Outside.global (omega arith))
              ∙ placed_before_lem (placed m (0o200 + own) (Role.fixed at ∷ [])) st.next codes (omega (arith, g.size)) (0o200 + own) (omega arith)
              ∙ placed_first m (0o200 + own) (Role.fixed at) [] (omega (arith, h.size));
          small = omega arith;
          item = link_word;
        }
