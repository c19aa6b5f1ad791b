-- A place among a program's declarations: the allocation, the room, the pools, and the map as it is there.
use Prim.Native.Nat.{ℕ, suc, ◌+◌, ◌*◌, ◌≤◌}
use mathlib.Core.Path.{◌≡◌, refl, sym, ap, ◌∙◌, subst}
use mathlib.Core.List.{List, [], ◌∷◌, ◌++◌, map, foldl, append-nil}
use native.Mathlib.Omega.{arith}
use native.Mathlib.Nat.{add-zero}
use lib.ListN.{length, get_or, length-append, length-map}
use Rattle.tree.specs.Tree.{Item, Stmts, Declaration, Program}
use Rattle.tree.specs.Symbols.{declare, declare_item, item_symbol, words_taken}
use Rattle.layout.specs.Words.{main_words}
use Rattle.layout.specs.Allocation.{Allocation, start, sector_of, allocate, allocated, finish}
use Rattle.layout.specs.Map.{Role, Plan, frame, fixed_words, placed, place_declaration, place_all, no_plan, plan_at, plans_from, declared, finished, plan_of, front, map_of}
use Rattle.parsing_laws.specs.WellFormed.{Kind, kinds_of, DeclarationOk, WellFormed}
use Rattle.memory_map.proofs.Placed.{front_size}
use Rattle.memory_map.proofs.Room.{FrontOk, front as front_ok, kinds_on, Fits, next_follows, room, all_fits}
use Rattle.memory_map.proofs.DeclarationWords.{fixed_length}
use Rattle.memory_map.proofs.Untouched.{FreeSpace, Same, lay_code, laid, outside_on}

-- ---- The allocation after a declaration

pub words_on : (st : Allocation) (d : Declaration) → (allocate st d).scope.taken ≡ st.scope.taken + length (kinds_of (d ∷ []))
unfolding allocate declare_item declare item_symbol words_taken kinds_of
words_on st (Declaration.item name Item.integer) = refl
words_on st (Declaration.item name (Item.constant v)) = refl
words_on st (Declaration.item name (Item.compconstant v)) = refl
words_on st (Declaration.array name size checked values) = refl
words_on st (Declaration.procedure name accumulator locals body) = refl
words_on st Declaration.next_sector = sym (add-zero st.scope.taken)

few_on : (st : Allocation) (ks : List Kind) (d : Declaration) → st.scope.taken ≤ 384 → DeclarationOk st ks d → st.scope.taken + length (kinds_of (d ∷ [])) ≤ 384
unfolding kinds_of
few_on st ks (Declaration.item name Item.integer) few h = h.1
few_on st ks (Declaration.item name (Item.constant v)) few h = h.1
few_on st ks (Declaration.item name (Item.compconstant v)) few h = h.1
few_on st ks (Declaration.array name size checked values) few h = omega (arith, h.0)
few_on st ks (Declaration.procedure name accumulator locals body) few h = omega (arith, h.0)
few_on st ks Declaration.next_sector few h = omega arith

low_on : (st : Allocation) (ks : List Kind) (d : Declaration) → DeclarationOk st ks d → 512 * sector_of st ≤ st.next → 512 * sector_of (allocate st d) ≤ (allocate st d).next
unfolding allocate
low_on st ks (Declaration.item name item) h l = l
low_on st ks (Declaration.array name size checked values) h l = l
low_on st ks (Declaration.procedure name accumulator locals body) h l = omega arith
low_on st ks Declaration.next_sector h l = omega (arith, length-append st.ends (st.next ∷ []))

sectors_on : (st : Allocation) (ks : List Kind) (d : Declaration) → DeclarationOk st ks d → sector_of st ≤ 31 → sector_of (allocate st d) ≤ 31
unfolding allocate
sectors_on st ks (Declaration.item name item) h l = l
sectors_on st ks (Declaration.array name size checked values) h l = l
sectors_on st ks (Declaration.procedure name accumulator locals body) h l = l
sectors_on st ks Declaration.next_sector h l = omega (arith, (next_follows st h).1, length-append st.ends (st.next ∷ []))

top_on : (st : Allocation) (d : Declaration) → st.array ≤ 16383 → (allocate st d).array ≤ 16383
unfolding allocate
top_on st (Declaration.item name item) l = l
top_on st (Declaration.array name size checked values) l = omega arith
top_on st (Declaration.procedure name accumulator locals body) l = l
top_on st Declaration.next_sector l = l

-- ---- The map from a place on

abbrev pub final : (ℕ → Plan) → Allocation → List Declaration → Stmts → List Role → List Role
final plan st ds main m =
    placed (place_all plan st ds m) (foldl allocate st ds).next
    (fixed_words (frame (plan (length (foldl allocate st ds).ends)) (foldl allocate st ds).next) (main_words main (foldl allocate st ds).next)
    ++ map Role.fixed (plan (length (foldl allocate st ds).ends)).pool)

pub record Here (p : Program) (st : Allocation) (ks : List Kind) (ds : List Declaration) (m : List Role) : Type 0 where
  pub ok : FrontOk st ks ds
  pub room : FreeSpace st
  pub words : st.scope.taken ≡ length ks
  pub last : Fits (finish (foldl allocate st ds) p.main)
  pub plans : (i : ℕ) → plan_of p (length st.ends + i) ≡ get_or (plans_from st ds p.main) i no_plan
  pub size : length m ≡ 16384
  pub is : map_of p ≡ final (plan_of p) st ds p.main m

-- ---- One declaration on

plans_on : (all : ℕ → Plan) (st : Allocation) (d : Declaration) (ds : List Declaration) (main : Stmts)
    → ((i : ℕ) → all (length st.ends + i) ≡ get_or (plans_from st (d ∷ ds) main) i no_plan)
    → (i : ℕ) → all (length (allocate st d).ends + i) ≡ get_or (plans_from (allocate st d) ds main) i no_plan
unfolding allocate plans_from
plans_on all st (Declaration.item name item) ds main h i = h i
plans_on all st (Declaration.array name size checked values) ds main h i = h i
plans_on all st (Declaration.procedure name accumulator locals body) ds main h i = h i
plans_on all st Declaration.next_sector ds main h i =
    let e : length (st.ends ++ (st.next ∷ [])) + i ≡ length st.ends + suc i = omega (arith, length-append st.ends (st.next ∷ [])) in
    ap all e ∙ h (suc i)

module _ (p : Program) where
  pub fits_on : (st : Allocation) (ks : List Kind) (d : Declaration) (ds : List Declaration) (m : List Role) → Here p st ks (d ∷ ds) m → Fits (allocate st d)
  fits_on st ks d ds m h = room ds (allocate st d) (ks ++ kinds_of (d ∷ [])) p.main h.ok.1 h.last

  abbrev pub placing : Allocation → Declaration → List Role → List Role
  placing st d m = place_declaration (plan_of p (length st.ends)) st d m

  pub next : (st : Allocation) (ks : List Kind) (d : Declaration) (ds : List Declaration) (m : List Role) → Here p st ks (d ∷ ds) m
      → Here p (allocate st d) (ks ++ kinds_of (d ∷ [])) ds (placing st d m)
  unfolding place_all
  next st ks d ds m h = record {
    ok = h.ok.1;
    room = record {
      low = low_on st ks d h.ok.0 h.room.low;
      sectors = sectors_on st ks d h.ok.0 h.room.sectors;
      top = top_on st d h.room.top;
      few = subst (λ (n : ℕ). n ≤ 384) (sym (words_on st d)) (few_on st ks d h.room.few h.ok.0);
      fits = fits_on st ks d ds m h;
    };
    words = words_on st d ∙ ap (λ (n : ℕ). n + length (kinds_of (d ∷ []))) h.words ∙ sym (length-append ks (kinds_of (d ∷ [])));
    last = h.last;
    plans = plans_on (plan_of p) st d ds p.main h.plans;
    size = (laid st ks d (plan_of p (length st.ends)) m h.room (fits_on st ks d ds m h) h.ok.0 h.size).size;
    is = h.is;
  }

  -- several declarations on
  pub split : (before : List Declaration) (st : Allocation) (ks : List Kind) (ds : List Declaration) (m : List Role) → Here p st ks (before ++ ds) m
      → Here p (foldl allocate st before) (ks ++ kinds_of before) ds (place_all (plan_of p) st before m)
  unfolding place_all kinds_of
  split [] st ks ds m h = subst (λ (l : List Kind). Here p st l ds m) (sym (append-nil ks)) h
  split (d ∷ before) st ks ds m h =
      subst (λ (l : List Kind). Here p (foldl allocate (allocate st d) before) l ds (place_all (plan_of p) (allocate st d) before (placing st d m))) (sym (kinds_on ks d before))
      (split before (allocate st d) (ks ++ kinds_of (d ∷ [])) ds (placing st d m) (next st ks d (before ++ ds) m h))

  -- ---- At the end

  -- the plan of the open sector is the first of those from there on
  pub open_plan : (st : Allocation) (ks : List Kind) (ds : List Declaration) (m : List Role) → Here p st ks ds m → plan_of p (length st.ends) ≡ get_or (plans_from st ds p.main) 0 no_plan
  open_plan st ks ds m h = ap (plan_of p) (sym (add-zero (length st.ends))) ∙ h.plans 0

  pub last_plan : (st : Allocation) (ks : List Kind) (m : List Role) → Here p st ks [] m → plan_of p (length st.ends) ≡ plan_at (finish st p.main)
  unfolding plans_from
  last_plan st ks m h = open_plan st ks [] m h

  pub last_pool : (st : Allocation) (ks : List Kind) (m : List Role) → Here p st ks [] m → (plan_of p (length st.ends)).pool ≡ (finish st p.main).pool
  last_pool st ks m h = ap (λ (plan : Plan). plan.pool) (last_plan st ks m h)

  abbrev pub tail : Allocation → List Role
  tail st = fixed_words (frame (plan_of p (length st.ends)) st.next) (main_words p.main st.next) ++ map Role.fixed (plan_of p (length st.ends)).pool

  pub tail_length : (st : Allocation) (ks : List Kind) (m : List Role) → Here p st ks [] m → st.next + length (tail st) ≡ (finish st p.main).next + length (finish st p.main).pool
  unfolding finish
  tail_length st ks m h =
      let f = frame (plan_of p (length st.ends)) st.next in
      let ws = main_words p.main st.next in
      omega (
        arith,
        length-append (fixed_words f ws) (map Role.fixed (plan_of p (length st.ends)).pool),
        fixed_length f ws,
        length-map (plan_of p (length st.ends)).pool Role.fixed,
        ap length (last_pool st ks m h),
      )

  pub at_end_lem : (st : Allocation) (ks : List Kind) (m : List Role) → Here p st ks [] m → Same st m (map_of p)
  unfolding place_all finish
  at_end_lem st ks m h =
      subst (λ (n : List Role). Same st m n) (sym h.is)
      (lay_code st h.room m h.size st.next (tail st) (omega arith) (omega (arith, tail_length st ks m h, h.last.space)))

  -- what is no longer free is as it will be
  pub kept : (ds : List Declaration) (st : Allocation) (ks : List Kind) (m : List Role) → Here p st ks ds m → Same st m (map_of p)
  kept [] st ks m h = at_end_lem st ks m h
  kept (d ∷ ds) st ks m h =
      let s = laid st ks d (plan_of p (length st.ends)) m h.room (fits_on st ks d ds m h) h.ok.0 h.size in
      let r = kept ds (allocate st d) (ks ++ kinds_of (d ∷ [])) (placing st d m) (next st ks d ds m h) in
      record { size = r.size; same = λ k o. r.same k (outside_on st ks d k h.room h.ok.0 o) ∙ s.same k o }

  -- ---- The beginning

  pub begin : WellFormed p → Here p start [] p.declarations (front p)
  unfolding map_of declared finished allocated plan_of
  begin w =
      let l = all_fits p.declarations p.main w.fits in
      record {
        ok = front_ok w.declarations;
        room = record { low = omega arith; sectors = omega arith; top = omega arith; few = omega arith; fits = room p.declarations start [] p.main (front_ok w.declarations) l };
        words = refl;
        last = l;
        plans = λ i. ap (λ (n : ℕ). get_or (plans_from start p.declarations p.main) n no_plan) (omega arith);
        size = front_size p;
        is = refl;
      }

pub map_length : (p : Program) → WellFormed p → length (map_of p) ≡ 16384
map_length p w = (kept p p.declarations start [] (front p) (begin p w)).size
