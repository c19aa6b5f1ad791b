-- Everything of a well-formed program stands in its map, where no cell and no link stands twice.
use Prim.Native.Nat.{ℕ, zero, suc, ◌+◌, ◌-◌, ◌*◌, ◌/◌, ◌≤◌, ◌<◌}
use mathlib.Core.Path.{◌≡◌, refl, sym, ap, ◌∙◌, subst}
use mathlib.Core.Bool.{Bool, true}
use mathlib.Core.Logic.{◌⊎◌, inl, inr}
use mathlib.Core.List.Memᴰ
use mathlib.Core.List.{List, [], ◌∷◌, ◌++◌, map, append-nil, Memᴰ}
use native.Mathlib.Omega.{arith}
use lib.ListN.{length, get_or, length-append, get_or-append}
use Rattle.tree.specs.Tree.{Id, CellId, Array, Operand, Name, Item, Stmts, Declaration, Program, is_inside}
use Rattle.layout.specs.Words.{procedure_words, main_words}
use Rattle.layout.specs.Pool.{literals_of, index_of}
use Rattle.layout.specs.Allocation.{Allocation, start, sector_of, allocated, local_words, link_of, allocate, finish}
use Rattle.layout.specs.Map.{Frame, address_of, Role, Plan, frame, fixed_words, place_all, plan_of, front, Home, map_at}
use Rattle.tree.specs.Variables.{item_variables, elements_of, declared_by, variables_of, constants_of, Declares}
use Rattle.parsing_laws.specs.WellFormed.{Kind, IdOk, kinds_of, WellFormed}
use Rattle.memory_map.specs.Laid.{Direct}
use Rattle.memory_map.proofs.Bodies.{Near, Body, Placement}
use Rattle.memory_map.proofs.Placed.{placed_in, front_words, front_in}
use Rattle.parsing_laws.proofs.Parsed.Scopes.{kinds_append}
use Rattle.memory_map.proofs.DeclarationWords.{Local, fixed_length, fixed_from}
use Rattle.memory_map.proofs.Untouched.{FreeSpace, Outside}
use Rattle.memory_map.proofs.AtDeclaration.{Here, next, placing, split, tail, tail_length, last_pool, kept, begin}
use Rattle.memory_map.proofs.SectorPools.{Closing, closing, pool_of, Literal, literal as in_pool}
use Rattle.memory_map.proofs.FinishedMap.{CellAt, link_word, body_fixed, local_word, code_room}
use Rattle.memory_map.proofs.Homes.{GlobalAt, global_as, globals, Stood, variables, constants}
use Rattle.memory_map.proofs.PoolLaws.{same, all_held}
use Rattle.memory_map.proofs.Apart.{no_element_constant}
use Rattle.memory_map.proofs.Unique.{cell_declared}
use Rattle.memory_map.proofs.Subscripts.{elements, array_declared}
use Rattle.memory_map.specs.MapLaws.{Extends, StandsAt}

-- an address in a sector
pub in_sector : (s k : ℕ) → 512 * s ≤ k → k < 512 * suc s → Near s k
in_sector s k l h = let e : k / 512 ≡ s = omega arith in inr e

-- what is declared stays
some_cell : (ks ls : List Kind) (n : ℕ) → get_or ks n Kind.none ≡ Kind.cell → get_or (ks ++ ls) n Kind.none ≡ Kind.cell
some_cell [] ls n e = let z : ◌≡◌ {A = ℕ} 0 1 = cc in absurd (omega arith)
some_cell (k ∷ ks) ls zero e = e
some_cell (k ∷ ks) ls (suc n) e = some_cell ks ls n e

module _ (p : Program) (w : WellFormed p) where
  -- ---- Globals

  pub global_at : (n : ℕ) → GlobalAt p n (get_or (kinds_of p.declarations) n Kind.none)
  global_at n = global_as p (get_or (kinds_of p.declarations) n Kind.none) (0 + n) n (omega arith) (globals p p.declarations start [] (front p) (begin p w) n)

  -- declarations place nothing at the front
  front_at : (j : ℕ) → j < 3 → map_at p (0 + j) ≡ get_or (front_words p) j Role.free
  front_at j h = (kept p p.declarations start [] (front p) (begin p w)).same (0 + j) (Outside.global (omega arith)) ∙ front_in p j h

  pub x_at : map_at p 0 ≡ Role.cell (CellId.named Id.x) 0
  x_at = front_at 0 (omega arith)

  -- ---- Names in reach of a body

  module _ (st : Allocation) (ks : List Kind) (room : FreeSpace st) (cells : (n : ℕ) → get_or ks n Kind.none ≡ Kind.cell → CellAt p n) (plan : Plan) where
    abbrev over : Frame
    over = frame plan st.next

    abbrev Reached : Operand → Type 0
    Reached o = Direct (map_at p) o (address_of over o) × Near (sector_of st) (address_of over o)

    x_reached : Reached (Operand.named Id.x)
    unfolding address_of
    x_reached = (Direct.named {k = 0} {v = 0} (omega arith) x_at, inl (omega arith))

    global_reached : (n : ℕ) → get_or ks n Kind.none ≡ Kind.cell → Reached (Operand.named (Id.global n))
    unfolding address_of
    global_reached n h = let c = cells n h in let l : n < 384 = c.few in (Direct.named {k = 0o200 + n} {v = c.value} (omega arith) c.is, inl (omega arith))

    local_reached : (q n : ℕ) (l : Local q n (map_at p (st.next + n))) → st.next + n < 16384 → st.next + n < 512 * suc (sector_of st) → Reached (Operand.named (Id.local q n))
    unfolding address_of
    local_reached q n l t s = (Direct.named {k = st.next + n} {v = l.value} t l.is, in_sector (sector_of st) (st.next + n) (omega (arith, room.low)) s)

    literal_reached : (v : ℕ) → v < 65536 → map_at p (plan.pool_at + index_of plan.pool v) ≡ Role.fixed v → index_of plan.pool v < length plan.pool
        → st.next ≤ plan.pool_at → plan.pool_at + length plan.pool ≤ 512 * suc (sector_of st) → plan.pool_at + length plan.pool ≤ 16383 → Reached (Operand.literal v)
    unfolding address_of
    literal_reached v small e i lo hi top =
        (Direct.literal {k = plan.pool_at + index_of plan.pool v} (omega arith) small e, in_sector (sector_of st) (plan.pool_at + index_of plan.pool v) (omega (arith, room.low)) (omega arith))

  -- ---- A procedure's body

  module _ (st : Allocation) (ks : List Kind) (ds : List Declaration) (m : List Role) (cells : (n : ℕ) → get_or ks n Kind.none ≡ Kind.cell → CellAt p n) where
    procedure_body : (name : Name) (accumulator : Bool) (locals : List (Name × Item)) (body : Stmts) → Here p st ks (Declaration.procedure name accumulator locals body ∷ ds) m
        → Body (map_at p) (frame (plan_of p (length st.ends)) st.next) (record { globals = ks; own = st.scope.taken; locals = local_words st name locals })
        (suc (link_of st name locals)) (procedure_words body (link_of st name locals))
    unfolding allocate
    procedure_body name accumulator locals body h =
        let d = Declaration.procedure name accumulator locals body in
        let at = link_of st name locals in
        let ws = procedure_words body at in
        let plan = plan_of p (length st.ends) in
        let room = code_room p st ks ds m name accumulator locals body h in
        let top : st.array ≤ 16383 = h.room.top in
        let one : st.next + local_words st name locals + suc (length ws) ≤ st.array = room.0 in
        let two : st.next + local_words st name locals + suc (length ws) ≤ 512 * suc (sector_of st) = room.1 in
        let c : Closing p (allocate st d) = closing p ds (allocate st d) (ks ++ kinds_of (d ∷ [])) (placing p st d m) (next p st ks d ds m h) in
        record {
          fixed = body_fixed p st ks ds m name accumulator locals body h;
          sector = sector_of st;
          low = h.room.low;
          from = omega arith;
          high = omega arith;
          top = omega arith;
          ids = reach name accumulator locals body h one two;
          literals = λ v k small.
              let l : Literal p (allocate st d) v = in_pool p (allocate st d) c v (allocate st d).pool c.grown (all_held v st.pool (literals_of ws) k) in
              literal_reached st ks h.room cells plan v small l.here l.inside (omega (arith, c.after)) c.sector c.top;
        }
      where
        reach : (name : Name) (accumulator : Bool) (locals : List (Name × Item)) (body : Stmts) → Here p st ks (Declaration.procedure name accumulator locals body ∷ ds) m
            → st.next + local_words st name locals + suc (length (procedure_words body (link_of st name locals))) ≤ st.array
            → st.next + local_words st name locals + suc (length (procedure_words body (link_of st name locals))) ≤ 512 * suc (sector_of st)
            → (i : Id) → IdOk (record { globals = ks; own = st.scope.taken; locals = local_words st name locals }) i
            → Direct (map_at p) (Operand.named i) (address_of (frame (plan_of p (length st.ends)) st.next) (Operand.named i))
            × Near (sector_of st) (address_of (frame (plan_of p (length st.ends)) st.next) (Operand.named i))
        reach name accumulator locals body h one two Id.x k = x_reached st ks h.room cells (plan_of p (length st.ends))
        reach name accumulator locals body h one two (Id.global n) k = global_reached st ks h.room cells (plan_of p (length st.ends)) n k
        reach name accumulator locals body h one two (Id.local q n) k =
            let l : n < local_words st name locals = k.1 in
            let t = h.room.top in
            local_reached st ks h.room cells (plan_of p (length st.ends)) q n
            (subst (λ (r : ℕ). Local r n (map_at p (st.next + n))) (sym k.0) (local_word p st ks ds m name accumulator locals body h n l)) (omega arith) (omega arith)

    -- ---- The main body

    main_body : Here p st ks [] m
        → Body (map_at p) (frame (plan_of p (length st.ends)) st.next) (record { globals = ks; own = 0; locals = 0 }) st.next (main_words p.main st.next)
    unfolding finish place_all
    main_body h =
        let ws = main_words p.main st.next in
        let plan = plan_of p (length st.ends) in
        let f = frame plan st.next in
        let c : Closing p st = closing p [] st ks m h in
        let top : st.array ≤ 16383 = h.room.top in
        let one : (finish st p.main).next + length (finish st p.main).pool ≤ st.array = h.last.space in
        let two : (finish st p.main).next + length (finish st p.main).pool ≤ 512 * suc (sector_of st) = h.last.sector in
        let t : st.next + length (tail p st) ≡ (finish st p.main).next + length (finish st p.main).pool = tail_length p st ks m h in
        let q : Extends (finish st p.main).pool (pool_of p st) =
        subst (λ (l : List ℕ). Extends (finish st p.main).pool l) (sym (last_pool p st ks m h)) (same (finish st p.main).pool) in
        record {
          fixed = fixed_from (map_at p) f ws st.next (λ j l.
              ap (λ (n : List Role). get_or n (st.next + j) Role.free) h.is
              ∙ placed_in m st.next (tail p st) (omega (arith, h.size)) j (omega (arith, length-append (fixed_words f ws) (map Role.fixed plan.pool), fixed_length f ws))
              ∙ get_or-append (fixed_words f ws) (map Role.fixed plan.pool) Role.free j (omega (arith, fixed_length f ws)));
          sector = sector_of st;
          low = h.room.low;
          from = omega arith;
          high = omega arith;
          top = omega arith;
          ids = reach h;
          literals = λ v k small.
              let l : Literal p st v = in_pool p st c v (finish st p.main).pool q (all_held v st.pool (literals_of ws) k) in
              literal_reached st ks h.room cells plan v small l.here l.inside c.after c.sector c.top;
        }
      where
        reach : Here p st ks [] m → (i : Id) → IdOk (record { globals = ks; own = 0; locals = 0 }) i
            → Direct (map_at p) (Operand.named i) (address_of (frame (plan_of p (length st.ends)) st.next) (Operand.named i))
            × Near (sector_of st) (address_of (frame (plan_of p (length st.ends)) st.next) (Operand.named i))
        reach h Id.x k = x_reached st ks h.room cells (plan_of p (length st.ends))
        reach h (Id.global n) k = global_reached st ks h.room cells (plan_of p (length st.ends)) n k
        reach h (Id.local q n) k = let l : n < 0 = k.1 in absurd (omega arith)

  -- ---- Each place

  cells_before : (before ds : List Declaration) → p.declarations ≡ before ++ ds → (n : ℕ) → get_or (kinds_of before) n Kind.none ≡ Kind.cell → CellAt p n
  cells_before before ds e n k =
      let q : get_or (kinds_of p.declarations) n Kind.none ≡ Kind.cell =
      ap (λ (l : List Declaration). get_or (kinds_of l) n Kind.none) e ∙ ap (λ (l : List Kind). get_or l n Kind.none) (kinds_append before ds) ∙ some_cell (kinds_of before) (kinds_of ds) n k in
      subst (λ (k : Kind). GlobalAt p n k) q (global_at n)

  at_place : (before ds : List Declaration) → p.declarations ≡ before ++ ds → Here p (allocated before) (kinds_of before) ds (place_all (plan_of p) start before (front p))
  unfolding allocated
  at_place before ds e = split p before start [] ds (front p) (subst (λ (l : List Declaration). Here p start [] l (front p)) e (begin p w))

  -- an element of an array's number that is declared is one of its own
  only : (r : Array) → get_or (kinds_of p.declarations) r.number Kind.none ≡ Kind.array r.size r.checked → (v u : ℕ) → Declares p (CellId.element r.number v) u → is_inside r v ≡ true
  only r e v u (Declares.variable m) = (elements p w r (array_declared p w r e)).only_inside v m
  only r e v u (Declares.constant m) = absurd (no_element_constant p r.number v u m)

  -- a named constant stands with its value
  pub constant_home : (c : CellId × ℕ) → Memᴰ c (constants_of p) → StandsAt p c.0 c.1
  unfolding constants_of
  constant_home = constants p start [] (front p) (begin p w) refl

  module _ (once : (k l : ℕ) (i : CellId) (v u : ℕ) → map_at p k ≡ Role.cell i v → map_at p l ≡ Role.cell i u → k ≡ l)
      (link_once : (k l n : ℕ) → map_at p k ≡ Role.link n → map_at p l ≡ Role.link n → k ≡ l) where
    home : (i : CellId) → Memᴰ i (variables_of p) → Home p i
    unfolding variables_of
    home i h = go (Memᴰ.cases_cons h)
      where
        of : Stood p i → Home p i
        of s = record { at = s.at; value = s.value; below = s.below; here = s.here; only = λ k v l e. once k s.at i v s.value e s.here }

        go : (i ≡ CellId.named Id.x) ⊎ Memᴰ i (declared_by item_variables (λ number size. elements_of number (65536 - size) size) 0 p.declarations) → Home p i
        go (inl e) = of (record { at = 0; value = 0; below = omega arith; here = x_at ∙ ap (λ (c : CellId). Role.cell c 0) (sym e) })
        go (inr k) = of (variables p start [] (front p) (begin p w) refl i k)

    pub placement : Placement p
    placement = record {
      sound = record { x_at = x_at; once = once; link_once = link_once };
      saved_at = front_at 2 (omega arith);
      homes = home;
      arrays = λ r e. record { word = subst (λ (k : Kind). GlobalAt p r.number k) e (global_at r.number); place = refl; only = λ v l u q. only r e v u (cell_declared p w l _ u q) };
      words = λ n e. subst (λ (k : Kind). GlobalAt p n k) e (global_at n);
      procedures = λ before name accumulator locals body more e.
          let d = Declaration.procedure name accumulator locals body in
          let h = at_place before (d ∷ more) e in
          let m = place_all (plan_of p) start before (front p) in (
            link_word p (allocated before) (kinds_of before) more m name accumulator locals body h,
            procedure_body (allocated before) (kinds_of before) more m (cells_before before (d ∷ more) e) name accumulator locals body h,
          );
      main =
          let ds = p.declarations in
          let e : ds ≡ ds ++ [] = sym (append-nil ds) in
          main_body (allocated ds) (kinds_of ds) [] (place_all (plan_of p) start ds (front p)) (cells_before ds [] e) (at_place ds [] e);
    }
