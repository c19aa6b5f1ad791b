-- A program emitted in the order of the code has the image of its map.
use Prim.Native.Nat.{ℕ, ◌+◌, ◌≤◌}
use mathlib.Core.Path.{◌≡◌, refl, sym, ap, ◌∙◌, subst}
use mathlib.Core.Bool.{Bool, true, false}
use mathlib.Core.List.{List, [], ◌∷◌, ◌++◌, map, map-append, foldl}
use native.Mathlib.Omega.{arith}
use lib.ListN.{length, replicate, length-map}
use Rattle.tree.specs.Tree.{Declaration, Program}
use Rattle.layout.specs.Words.{main_words}
use Rattle.layout.specs.Allocation.{Allocation, start, allocate, allocated, finish}
use Rattle.layout.specs.Map.{Role, initial, saved_role, frame, fixed_words, place_all, plan_of, front, map_of, image_of}
use Rattle.parsing_laws.specs.WellFormed.{Kind, kinds_of, WellFormed}
use Rattle.memory_map.specs.MapLaws.{Extends}
use Rattle.parsing_laws.proofs.Parsed.Programs.{well_formed}
use Rattle.memory_map.proofs.PoolLaws.{same}
use Rattle.memory_map.proofs.Placed.{front_words, front_fits}
use Rattle.memory_map.proofs.DeclarationWords.{fixed_length}
use Rattle.memory_map.proofs.AtDeclaration.{Here, placing, next, last_pool, tail, tail_length, begin}
use Rattle.memory_map.proofs.SectorPools.{closing, pool_of, pool_from}
use Rattle.layout.specs.Emission.{stored, emit_declarations, emit_main, emit_program}
use Rattle.memory_map.specs.EmittedImage.{EmittedImage}
use Rattle.memory_map.proofs.Images.{placed_stored, stored_append, free_words, zeros_again}
use Rattle.memory_map.proofs.GrowingPool.{emitted}
use Rattle.memory_map.proofs.EmittedDeclarations.{fixed_values, few_literals, declaration_emitted}

module _ (p : Program) where
  abbrev ends : ℕ → ℕ
  ends k = (plan_of p k).pool_at

  -- ---- The main body and the last pool

  module _ (st : Allocation) (ks : List Kind) (m : List Role) (h : Here p st ks [] m) where
    abbrev words : List Role
    words = fixed_words (frame (plan_of p (length st.ends)) st.next) (main_words p.main st.next)

    tail_values : map initial (tail p st) ≡ map initial words ++ (finish st p.main).pool
    tail_values =
        map-append initial words (map Role.fixed (pool_of p st)) ∙ ap (λ (vs : List ℕ). map initial words ++ vs) (fixed_values (pool_of p st) ∙ last_pool p st ks m h)

    -- the pool follows the code
    pool_from_lem : st.next + length (map initial words) ≡ (finish st p.main).next
    unfolding finish
    pool_from_lem = omega (arith, length-map words initial, fixed_length (frame (plan_of p (length st.ends)) st.next) (main_words p.main st.next))

    main_emitted : emit_main (pool_from p st) st p.main (map initial m) ≡ map initial (map_of p)
    unfolding emit_main finish place_all
    main_emitted =
        let ws = main_words p.main st.next in
        let c = closing p [] st ks m h in
        let x : Extends (finish st p.main).pool (pool_of p st) = subst (Extends (finish st p.main).pool) (sym (last_pool p st ks m h)) (same (finish st p.main).pool) in
        let end : (finish st p.main).next + length (finish st p.main).pool ≤ st.array = h.last.space in
        let top : st.array ≤ 16383 = h.room.top in
        ap (λ (l : List ℕ). stored l (finish st p.main).next (finish st p.main).pool)
        (emitted (record { pool_at = pool_from p st; locals = st.next }) (pool_of p st) (few_literals p st c h.room.low) ws
        (record { image = map initial m; next = st.next; pool = st.pool }) x (omega arith))
        ∙ sym (ap (map initial) h.is ∙ placed_stored m st.next (tail p st) (omega (arith, tail_length p st ks m h, h.size))
        ∙ ap (stored (map initial m) st.next) tail_values
        ∙ stored_append (map initial m) st.next (map initial words) (finish st p.main).pool
        ∙ ap (λ (k : ℕ). stored (stored (map initial m) st.next (map initial words)) k (finish st p.main).pool) pool_from_lem)

  -- ---- Declaration by declaration

  all_emitted : (ds : List Declaration) (st : Allocation) (ks : List Kind) (m : List Role) → Here p st ks ds m
      → emit_main (ends (length (foldl allocate st ds).ends)) (foldl allocate st ds) p.main (emit_declarations ends st ds (map initial m)) ≡ map initial (map_of p)
  unfolding emit_declarations
  all_emitted [] st ks m h = main_emitted st ks m h
  all_emitted (d ∷ ds) st ks m h =
      ap (λ (l : List ℕ). emit_main (ends (length (foldl allocate (allocate st d) ds).ends)) (foldl allocate (allocate st d) ds) p.main (emit_declarations ends (allocate st d) ds l))
      (declaration_emitted p st ks ds m d h)
      ∙ all_emitted ds (allocate st d) (ks ++ kinds_of (d ∷ [])) (placing p st d m) (next p st ks d ds m h)

  -- ---- From the start

  saved_value : (checked : Bool) → initial (saved_role checked) ≡ 0
  unfolding saved_role
  saved_value true = refl
  saved_value false = refl

  start_image : map initial (front p) ≡ replicate 16384 0
  unfolding front
  start_image =
      placed_stored (replicate 16384 Role.free) 0 (front_words p) (front_fits p)
      ∙ ap (λ (v : ℕ). stored (map initial (replicate 16384 Role.free)) 0 (0 ∷ 0 ∷ v ∷ [])) (saved_value p.checked)
      ∙ ap (λ (l : List ℕ). stored l 0 (0 ∷ 0 ∷ 0 ∷ [])) (free_words 16384) ∙ zeros_again 16384 0 3

  program_emitted : WellFormed p → emit_program ends p (replicate 16384 0) ≡ image_of p
  unfolding emit_program image_of allocated
  program_emitted w = ap (emit_program ends p) (sym start_image) ∙ all_emitted p.declarations start [] (front p) (begin p w)

pub emitted_image : EmittedImage
unfolding EmittedImage
emitted_image source p n e = program_emitted p (well_formed source p n e)
