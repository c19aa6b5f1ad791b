-- The pool of each sector: it stands where its code ends, and holds the literals of the sector.
use Prim.Native.Nat.{ℕ, suc, ◌+◌, ◌*◌, ◌≤◌, ◌<◌}
use mathlib.Core.Path.{◌≡◌, refl, sym, ap, ◌∙◌, subst}
use mathlib.Core.List.{List, [], ◌∷◌, ◌++◌, map}
use native.Mathlib.Omega.{arith}
use lib.ListN.{length, get_or, length-append, length-map}
use lib.Seq.{get_or-append-add}
use Rattle.tree.specs.Tree.{Declaration, Program}
use Rattle.layout.specs.Words.{procedure_words, main_words}
use Rattle.layout.specs.Pool.{literals_of, index_of}
use Rattle.layout.specs.Allocation.{Allocation, sector_of, link_of, allocate, finish}
use Rattle.layout.specs.Map.{Role, Plan, frame, fixed_words, place_declaration, place_all, plan_at, plans_from, plan_of, map_at}
use Rattle.parsing_laws.specs.WellFormed.{Kind, kinds_of}
use Rattle.memory_map.proofs.Placed.{placed_in}
use Rattle.memory_map.proofs.Room.{Fits, next_follows}
use Rattle.memory_map.proofs.DeclarationWords.{fixed_length, pool_at_lem}
use Rattle.memory_map.proofs.Untouched.{Outside}
use Rattle.memory_map.proofs.AtDeclaration.{Here, placing, next, open_plan, last_plan, last_pool, tail, tail_length, kept}
use Rattle.memory_map.proofs.PoolLaws.{same, joined, added_all_end, still_among, at_index}
use Rattle.memory_map.specs.MapLaws.{Extends}

module _ (p : Program) where
  abbrev pub pool_of : Allocation → List ℕ
  pool_of st = (plan_of p (length st.ends)).pool

  abbrev pub pool_from : Allocation → ℕ
  pool_from st = (plan_of p (length st.ends)).pool_at

  -- what the open sector of an allocation will have
  pub record Closing (st : Allocation) : Type 0 where
    pub grown : Extends st.pool (pool_of st)
    pub after : st.next ≤ pool_from st
    pub sector : pool_from st + length (pool_of st) ≤ 512 * suc (sector_of st)
    pub top : pool_from st + length (pool_of st) ≤ 16383
    pub stands : (i : ℕ) → i < length (pool_of st) → map_at p (pool_from st + i) ≡ Role.fixed (get_or (pool_of st) i 0)

  -- ---- Where the main body ends

  last_closing : (st : Allocation) (ks : List Kind) (m : List Role) → Here p st ks [] m → Closing st
  unfolding finish place_all
  last_closing st ks m h =
      let e : pool_from st ≡ (finish st p.main).next = ap (λ (plan : Plan). plan.pool_at) (last_plan p st ks m h) in
      let q : pool_of st ≡ (finish st p.main).pool = last_pool p st ks m h in
      let ws = main_words p.main st.next in
      let f = frame (plan_of p (length st.ends)) st.next in
      let l : length (pool_of st) ≡ length (finish st p.main).pool = ap length q in
      let t : st.next + length (tail p st) ≡ (finish st p.main).next + length (finish st p.main).pool = tail_length p st ks m h in
      let a : st.array ≤ 16383 = h.room.top in
      let u : (finish st p.main).next + length (finish st p.main).pool ≤ st.array = h.last.space in
      record {
        grown = subst (λ (l : List ℕ). Extends st.pool l) (sym q) (added_all_end st.pool (literals_of ws));
        after = omega arith;
        sector = omega (arith, h.last.sector);
        top = omega arith;
        stands = λ i s.
            let x : pool_from st + i ≡ st.next + (length (fixed_words f ws) + i) = omega (arith, fixed_length f ws) in
            let y = length-append (fixed_words f ws) (map Role.fixed (pool_of st)) in
            let z = length-map (pool_of st) Role.fixed in
            ap (map_at p) x ∙ ap (λ (n : List Role). get_or n (st.next + (length (fixed_words f ws) + i)) Role.free) h.is
            ∙ placed_in m st.next (tail p st) (omega (arith, h.size)) (length (fixed_words f ws) + i) (omega arith)
            ∙ get_or-append-add (fixed_words f ws) (map Role.fixed (pool_of st)) i Role.free ∙ pool_at_lem (pool_of st) i s;
      }

  -- ---- At `.NEXTSECTOR`

  module _ (st : Allocation) (ks : List Kind) (ds : List Declaration) (m : List Role) (h : Here p st ks (Declaration.next_sector ∷ ds) m) where
    closed_plan : plan_of p (length st.ends) ≡ plan_at st
    unfolding plans_from
    closed_plan = open_plan p st ks (Declaration.next_sector ∷ ds) m h

    next_closing : Closing st
    unfolding allocate place_declaration
    next_closing =
        let e : pool_from st ≡ st.next = ap (λ (plan : Plan). plan.pool_at) closed_plan in
        let q : pool_of st ≡ st.pool = ap (λ (plan : Plan). plan.pool) closed_plan in
        let l : length (pool_of st) ≡ length st.pool = ap length q in
        let f : Fits st = (next_follows st h.ok.0).0 in
        let u : st.next + length st.pool ≤ st.array = f.space in
        let v : st.next + length st.pool ≤ 512 * suc (sector_of st) = f.sector in
        let a : st.array ≤ 16383 = h.room.top in
        let b : 512 * sector_of st ≤ st.next = h.room.low in
        record {
          grown = subst (λ (l : List ℕ). Extends st.pool l) (sym q) (same st.pool);
          after = omega arith;
          sector = omega arith;
          top = omega arith;
          stands = λ i s.
              let r = kept p ds (allocate st Declaration.next_sector) (ks ++ kinds_of (Declaration.next_sector ∷ [])) (placing p st Declaration.next_sector m) (next p st ks Declaration.next_sector ds m h) in
              let z = length-map st.pool Role.fixed in
              ap (map_at p) (ap (λ (n : ℕ). n + i) e)
              ∙ r.same (st.next + i) (Outside.code (omega arith) (omega arith))
              ∙ placed_in m st.next (map Role.fixed st.pool) (omega (arith, h.size)) i (omega arith) ∙ pool_at_lem st.pool i (omega arith)
              ∙ ap (λ (l : List ℕ). Role.fixed (get_or l i 0)) (sym q);
        }

  -- ---- Everywhere

  earlier : (st : Allocation) (d : Declaration) → (allocate st d).ends ≡ st.ends → Extends st.pool (allocate st d).pool → st.next ≤ (allocate st d).next → Closing (allocate st d) → Closing st
  earlier st d e q l c =
      let f : plan_of p (length (allocate st d).ends) ≡ plan_of p (length st.ends) = ap (λ (n : List ℕ). plan_of p (length n)) e in
      let k : length (allocate st d).ends ≡ length st.ends = ap length e in
      record {
        grown = joined q (subst (λ plan. Extends (allocate st d).pool plan.pool) f c.grown);
        after = omega (arith, subst (λ plan. (allocate st d).next ≤ plan.pool_at) f c.after);
        sector = omega (arith, subst (λ plan. plan.pool_at + length plan.pool ≤ 512 * suc (sector_of (allocate st d))) f c.sector);
        top = subst (λ plan. plan.pool_at + length plan.pool ≤ 16383) f c.top;
        stands = subst (λ plan. (i : ℕ) → i < length plan.pool → map_at p (plan.pool_at + i) ≡ Role.fixed (get_or plan.pool i 0)) f c.stands;
      }

  pub closing : (ds : List Declaration) (st : Allocation) (ks : List Kind) (m : List Role) → Here p st ks ds m → Closing st
  unfolding allocate
  closing [] st ks m h = last_closing st ks m h
  closing (Declaration.item name item ∷ ds) st ks m h =
      let d = Declaration.item name item in
      earlier st d refl (same st.pool) (omega arith) (closing ds (allocate st d) (ks ++ kinds_of (d ∷ [])) (placing p st d m) (next p st ks d ds m h))
  closing (Declaration.array name size checked values ∷ ds) st ks m h =
      let d = Declaration.array name size checked values in
      earlier st d refl (same st.pool) (omega arith) (closing ds (allocate st d) (ks ++ kinds_of (d ∷ [])) (placing p st d m) (next p st ks d ds m h))
  closing (Declaration.procedure name accumulator locals body ∷ ds) st ks m h =
      let d = Declaration.procedure name accumulator locals body in
      earlier st d refl (added_all_end st.pool (literals_of (procedure_words body (link_of st name locals)))) (omega arith)
      (closing ds (allocate st d) (ks ++ kinds_of (d ∷ [])) (placing p st d m) (next p st ks d ds m h))
  closing (Declaration.next_sector ∷ ds) st ks m h = next_closing st ks ds m h

  -- a literal of the pool stands in it
  pub record Literal (st : Allocation) (v : ℕ) : Type 0 where
    pub here : map_at p (pool_from st + index_of (pool_of st) v) ≡ Role.fixed v
    pub inside : index_of (pool_of st) v < length (pool_of st)

  pub literal : (st : Allocation) → Closing st → (v : ℕ) (pool : List ℕ) → Extends pool (pool_of st) → index_of pool v < length pool → Literal st v
  literal st c v pool q h =
      let i = still_among v q h in
      record { here = c.stands (index_of (pool_of st) v) i ∙ ap Role.fixed (at_index (pool_of st) v i); inside = i }
