-- Well-formed declarations from the front, and the room that is left at each.
use Prim.Native.Nat.{ℕ, zero, suc, ◌+◌, ◌*◌, ◌≤◌, ◌<◌}
use mathlib.Core.Path.{◌≡◌, refl, sym, ap, ◌∙◌, subst}
use mathlib.Core.Bool.{Bool, true, false}
use mathlib.Core.List.{List, [], ◌∷◌, ◌++◌, foldl, foldl-append, append_assoc, append-nil}
use native.Mathlib.Omega.{arith}
use borrow.Author.Tests.{leb-true, ltb-true, le-leb}
use lib.ListN.{length, length-append}
use lib.Dec.{leb, ltb}
use Rattle.prelude.specs.Choice.{whether}
use Rattle.tree.specs.Tree.{Stmts, Declaration}
use Rattle.layout.specs.Words.{procedure_words, main_words}
use Rattle.layout.specs.Pool.{literals_of}
use Rattle.layout.specs.Allocation.{Allocation, start, sector_of, link_of, allocate, allocated, finish}
use Rattle.layout.specs.Limits.{space_limit, sector_limit, follow_limit, declaration_limit, main_limit}
use Rattle.parsing_laws.specs.WellFormed.{Kind, item_kinds, kinds_of, DeclarationOk, DeclarationsOk, none, more}
use Rattle.memory_map.proofs.PoolLaws.{added_all_end, no_shorter}

-- ---- From the front

pub kinds_cons : (d : Declaration) (ds : List Declaration) → kinds_of (d ∷ ds) ≡ kinds_of (d ∷ []) ++ kinds_of ds
unfolding kinds_of
kinds_cons (Declaration.item name item) ds = ap (λ (l : List Kind). l ++ kinds_of ds) (sym (append-nil (item_kinds item)))
kinds_cons (Declaration.array name size checked values) ds = refl
kinds_cons (Declaration.procedure name accumulator locals body) ds = refl
kinds_cons Declaration.next_sector ds = refl

pub kinds_on : (ks : List Kind) (d : Declaration) (ds : List Declaration) → ks ++ kinds_of (d ∷ ds) ≡ (ks ++ kinds_of (d ∷ [])) ++ kinds_of ds
kinds_on ks d ds = ap (λ (l : List Kind). ks ++ l) (kinds_cons d ds) ∙ sym (append_assoc ks (kinds_of (d ∷ [])) (kinds_of ds))

abbrev pub FrontOk : Allocation → List Kind → List Declaration → Type 0
FrontOk st ks [] = Unit {0}
FrontOk st ks (d ∷ ds) = DeclarationOk st ks d × FrontOk (allocate st d) (ks ++ kinds_of (d ∷ [])) ds

front_snoc : (ds : List Declaration) (st : Allocation) (ks : List Kind) (d : Declaration) → FrontOk st ks ds → DeclarationOk (foldl allocate st ds) (ks ++ kinds_of ds) d
    → FrontOk st ks (ds ++ (d ∷ []))
unfolding kinds_of
front_snoc [] st ks d f h = (subst (λ (l : List Kind). DeclarationOk st l d) (append-nil ks) h, tt)
front_snoc (e ∷ ds) st ks d f h =
    (f.0, front_snoc ds (allocate st e) (ks ++ kinds_of (e ∷ [])) d f.1 (subst (λ (l : List Kind). DeclarationOk (foldl allocate (allocate st e) ds) l d) (kinds_on ks e ds) h))

pub front : {ds : List Declaration} → DeclarationsOk ds → FrontOk start [] ds
unfolding allocated
front none = tt
front (more ds d h ok) = front_snoc ds start [] d (front h) ok

-- ---- Limits that are kept

pub passes : (b : Bool) (f : Unit {0} → ℕ) (n : ℕ) → whether b f (λ _. suc n) ≡ 0 → (b ≡ true) × (f tt ≡ 0)
passes true f n h = (refl, h)
passes false f n h = absurd (omega arith)

-- code and pool are in one sector, and below the arrays
pub record Fits (st : Allocation) : Type 0 where
  pub sector : st.next + length st.pool ≤ 512 * suc (sector_of st)
  pub space : st.next + length st.pool ≤ st.array

pub space_fits : (st : Allocation) (size : ℕ) → space_limit st size ≡ 0 → st.next + length st.pool + size ≤ st.array
unfolding space_limit
space_fits st size h = leb-true (st.next + length st.pool + size) st.array (passes (leb (st.next + length st.pool + size) st.array) (λ _. 0) 12 h).0

pub sector_fits : (st : Allocation) → sector_limit st ≡ 0 → Fits st
unfolding sector_limit
sector_fits st h =
    let r = passes (leb (st.next + length st.pool) (512 * suc (sector_of st))) (λ _. space_limit st 0) 11 h in
    let s = space_fits st 0 r.1 in
    record { sector = leb-true (st.next + length st.pool) (512 * suc (sector_of st)) r.0; space = omega arith }

follow : (st : Allocation) (n : ℕ) → follow_limit st n ≡ 0 → (n ≡ 0) × (sector_of st < 31)
unfolding follow_limit
follow st zero h = (refl, ltb-true (sector_of st) 31 (passes (ltb (sector_of st) 31) (λ _. 0) 12 h).0)
follow st (suc n) h = absurd (omega arith)

pub next_follows : (st : Allocation) → declaration_limit st Declaration.next_sector ≡ 0 → Fits st × (sector_of st < 31)
unfolding declaration_limit
next_follows st h = let r = follow st (sector_limit st) h in (sector_fits st r.0, r.1)

-- ---- Room at every declaration, from the end

pub before : (st : Allocation) (ks : List Kind) (d : Declaration) → DeclarationOk st ks d → Fits (allocate st d) → Fits st
unfolding allocate
before st ks (Declaration.item name item) h f = record { sector = f.sector; space = f.space }
before st ks (Declaration.array name size checked values) h f = record { sector = f.sector; space = omega (arith, f.space) }
before st ks (Declaration.procedure name accumulator locals body) h f =
    let l = no_shorter (added_all_end st.pool (literals_of (procedure_words body (link_of st name locals)))) in
    record { sector = omega (arith, f.sector); space = omega (arith, f.space) }
before st ks Declaration.next_sector h f = (next_follows st h).0

pub finish_fits : (st : Allocation) (main : Stmts) → main_limit st main ≡ 0 → Fits (finish st main)
unfolding main_limit
finish_fits st main h = sector_fits (finish st main) h

pub main_fits : (st : Allocation) (main : Stmts) → Fits (finish st main) → Fits st
unfolding finish
main_fits st main f =
    let l = no_shorter (added_all_end st.pool (literals_of (main_words main st.next))) in
    record { sector = omega (arith, f.sector); space = omega (arith, f.space) }

pub room : (ds : List Declaration) (st : Allocation) (ks : List Kind) (main : Stmts) → FrontOk st ks ds → Fits (finish (foldl allocate st ds) main) → Fits st
room [] st ks main f h = main_fits st main h
room (d ∷ ds) st ks main f h = before st ks d f.0 (room ds (allocate st d) (ks ++ kinds_of (d ∷ [])) main f.1 h)

pub all_fits : (ds : List Declaration) (main : Stmts) → main_limit (allocated ds) main ≡ 0 → Fits (finish (foldl allocate start ds) main)
unfolding allocated
all_fits ds main h = finish_fits (foldl allocate start ds) main h

-- ---- What is read is in one sector, so that 12 does not come at a `.NEXTSECTOR`

abbrev InSector : Allocation → Type 0
InSector st = st.next + length st.pool ≤ 512 * suc (sector_of st)

still_in : (st : Allocation) (ks : List Kind) (d : Declaration) → DeclarationOk st ks d → InSector st → InSector (allocate st d)
unfolding allocate declaration_limit
still_in st ks (Declaration.item name item) ok h = h
still_in st ks (Declaration.array name size checked values) ok h = h
still_in st ks (Declaration.procedure name accumulator locals body) ok h = (sector_fits (allocate st (Declaration.procedure name accumulator locals body)) ok.3).sector
still_in st ks Declaration.next_sector ok h = omega (arith, length-append st.ends (st.next ∷ []))

in_sector : {ds : List Declaration} → DeclarationsOk ds → InSector (allocated ds)
unfolding allocated
in_sector none = omega arith
in_sector (more ds d h ok) = subst InSector (sym (foldl-append allocate start ds (d ∷ []))) (still_in (allocated ds) (kinds_of ds) d ok (in_sector h))

not_12 : (b : Bool) → ◌≡◌ {A = ℕ} (whether b (λ _. 0) (λ _. 13)) 12 → ⊥
not_12 true e = omega arith
not_12 false e = omega arith

followed : (st : Allocation) (b : Bool) → follow_limit st (whether b (λ _. 0) (λ _. 13)) ≡ 12 → ⊥
unfolding follow_limit
followed st true e = not_12 (ltb (sector_of st) 31) e
followed st false e = omega arith

pub never_12 : (ds : List Declaration) → DeclarationsOk ds → declaration_limit (allocated ds) Declaration.next_sector ≡ 12 → ⊥
unfolding declaration_limit sector_limit space_limit
never_12 ds h e = let st = allocated ds in followed st (leb (st.next + length st.pool + 0) st.array) (rw (le-leb _ _ (in_sector h)) at e)
