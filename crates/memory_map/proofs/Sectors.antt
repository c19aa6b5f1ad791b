-- Each literal of a body is in the pool of the body's sector.
use Prim.Native.Nat.{ℕ, zero, suc, ◌+◌, ◌≤◌}
use mathlib.Core.Path.{◌≡◌, sym, refl, ap, ◌∙◌}
use mathlib.Core.Bool.{Bool}
use mathlib.Core.List.{List, [], ◌∷◌, ◌++◌, foldl, append-nil, map, append_assoc}
use native.Mathlib.Nat.{le_refl, le_trans}
use native.Mathlib.Omega.{arith}
use lib.ListN.{length, get_or, length-append, get_or-map}
use Rattle.tree.specs.Tree.{Name, Item, Stmts, Declaration, Program}
use Rattle.layout.specs.Words.{procedure_words, main_words}
use Rattle.layout.specs.Pool.{literals_of}
use Rattle.layout.specs.Allocation.{Allocation, start, link_of, allocate, allocated, finish}
use Rattle.layout.specs.Map.{no_plan, plans_from, plan_of, Plan, declared, finished}
use Rattle.memory_map.specs.MapLaws.{Among, Extends}
use Rattle.memory_map.proofs.PoolLaws.{same, joined, added_all_end, still_among, all_among}

-- the pool of the sector that is open: what it holds is still in it when it is placed
pub open_grows : (st : Allocation) (ds : List Declaration) (main : Stmts) → Extends st.pool (get_or (plans_from st ds main) 0 no_plan).pool
unfolding plans_from allocate finish
open_grows st [] main = added_all_end st.pool (literals_of (main_words main st.next))
open_grows st (Declaration.item name item ∷ ds) main = open_grows (allocate st (Declaration.item name item)) ds main
open_grows st (Declaration.array name size checked values ∷ ds) main = open_grows (allocate st (Declaration.array name size checked values)) ds main
open_grows st (Declaration.procedure name accumulator locals body ∷ ds) main =
    joined (added_all_end st.pool (literals_of (procedure_words body (link_of st name locals)))) (open_grows (allocate st (Declaration.procedure name accumulator locals body)) ds main)
open_grows st (Declaration.next_sector ∷ ds) main = same st.pool

-- the pool of each sector begins where its code ends
ends_from : (st : Allocation) (ds : List Declaration) (main : Stmts)
    → st.ends ++ map (λ (plan : Plan). plan.pool_at) (plans_from st ds main) ≡ (finish (foldl allocate st ds) main).ends ++ ((finish (foldl allocate st ds) main).next ∷ [])
unfolding plans_from allocate finish
ends_from st [] main = refl
ends_from st (Declaration.item name item ∷ ds) main = ends_from (allocate st (Declaration.item name item)) ds main
ends_from st (Declaration.array name size checked values ∷ ds) main = ends_from (allocate st (Declaration.array name size checked values)) ds main
ends_from st (Declaration.procedure name accumulator locals body ∷ ds) main = ends_from (allocate st (Declaration.procedure name accumulator locals body)) ds main
ends_from st (Declaration.next_sector ∷ ds) main = sym (append_assoc st.ends (st.next ∷ []) _) ∙ ends_from (allocate st Declaration.next_sector) ds main

pub pool_ends : (p : Program) (k : ℕ) → (plan_of p k).pool_at ≡ get_or ((finished p).ends ++ ((finished p).next ∷ [])) k 0
unfolding plan_of finished declared allocated
pool_ends p k =
    sym (get_or-map (λ (plan : Plan). plan.pool_at) (plans_from start p.declarations p.main) k no_plan)
    ∙ ap (λ (l : List ℕ). get_or l k 0) (ends_from start p.declarations p.main)

-- sectors are closed one at a time
ends_step : (st : Allocation) (d : Declaration) → length st.ends ≤ length (allocate st d).ends
unfolding allocate
ends_step st (Declaration.item name item) = le_refl (length st.ends)
ends_step st (Declaration.array name size checked values) = le_refl (length st.ends)
ends_step st (Declaration.procedure name accumulator locals body) = le_refl (length st.ends)
ends_step st Declaration.next_sector = omega (arith, length-append st.ends (st.next ∷ []))

ends_grow : (st : Allocation) (ds : List Declaration) → length st.ends ≤ length (foldl allocate st ds).ends
ends_grow st [] = le_refl (length st.ends)
ends_grow st (d ∷ ds) = le_trans (ends_step st d) (ends_grow (allocate st d) ds)

-- so the plan of the sector that is open after some declarations is at its number
plan_at_lem : (st : Allocation) (before rest : List Declaration) (main : Stmts) (k : ℕ) → k + length st.ends ≡ length (foldl allocate st before).ends
    → get_or (plans_from st (before ++ rest) main) k no_plan ≡ get_or (plans_from (foldl allocate st before) rest main) 0 no_plan
unfolding plans_from allocate
plan_at_lem st [] rest main k e = let z : k ≡ 0 = omega arith in rw z
plan_at_lem st (Declaration.item name item ∷ ds) rest main k e = plan_at_lem (allocate st (Declaration.item name item)) ds rest main k e
plan_at_lem st (Declaration.array name size checked values ∷ ds) rest main k e = plan_at_lem (allocate st (Declaration.array name size checked values)) ds rest main k e
plan_at_lem st (Declaration.procedure name accumulator locals body ∷ ds) rest main k e = plan_at_lem (allocate st (Declaration.procedure name accumulator locals body)) ds rest main k e
plan_at_lem st (Declaration.next_sector ∷ ds) rest main zero e =
    absurd (omega (arith, ends_grow (allocate st Declaration.next_sector) ds, length-append st.ends (st.next ∷ [])))
plan_at_lem st (Declaration.next_sector ∷ ds) rest main (suc k) e =
    plan_at_lem (allocate st Declaration.next_sector) ds rest main k (omega (arith, length-append st.ends (st.next ∷ [])))

module _ (p : Program) where
  open_plan : (before rest : List Declaration) → p.declarations ≡ before ++ rest
      → plan_of p (length (allocated before).ends) ≡ get_or (plans_from (allocated before) rest p.main) 0 no_plan
  unfolding plan_of allocated
  open_plan before rest e = rw e (plan_at_lem start before rest p.main (length (foldl allocate start before).ends) (omega arith))

  pub in_sector : (before after : List Declaration) (name : Name) (accumulator : Bool) (locals : List (Name × Item)) (body : Stmts) (v : ℕ)
      → p.declarations ≡ before ++ (Declaration.procedure name accumulator locals body ∷ after)
      → Among (literals_of (procedure_words body (link_of (allocated before) name locals))) v → Among (plan_of p (length (allocated before).ends)).pool v
  unfolding plans_from allocate
  in_sector before after name accumulator locals body v e l =
      let st = allocated before in
      rw (open_plan before _ e)
      (still_among v (open_grows (allocate st (Declaration.procedure name accumulator locals body)) after p.main) (all_among st.pool _ v l))

  pub in_last_sector : (v : ℕ) → Among (literals_of (main_words p.main (allocated p.declarations).next)) v → Among (plan_of p (length (allocated p.declarations).ends)).pool v
  unfolding plans_from finish
  in_last_sector v l = rw (open_plan p.declarations [] (sym (append-nil p.declarations))) (all_among (allocated p.declarations).pool _ v l)
