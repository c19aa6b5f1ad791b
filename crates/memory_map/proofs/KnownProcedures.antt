-- The procedures that declarations make known.
use Prim.Native.Nat.{ℕ, zero, suc, ◌+◌, ◌<◌}
use mathlib.Core.Path.{◌≡◌, refl, sym, ap, subst, ◌∙◌}
use mathlib.Core.List.{List, [], ◌∷◌, ◌++◌}
use native.Mathlib.Nat.{add-zero, zero-add, add_assoc}
use native.Mathlib.Omega.{arith}
use lib.ListN.{length, get_or, length-append}
use Rattle.tree.specs.Tree.{Item, Declaration}
use Rattle.tree.specs.Symbols.{globals_of, words_taken}
use Rattle.parsing_laws.specs.WellFormed.{Kind, kinds_of}
use Rattle.memory_map.specs.Laid.{Known, Knows}
use Rattle.memory_map.proofs.Room.{kinds_cons}
use Rattle.memory_map.specs.KnownProcedures.{with_procedure, known_from, known_of}

-- those known before stay
kept_one : (m : ℕ) (ps : Known) (d : Declaration) (q : ℕ) → Knows ps q → Knows (with_procedure m ps d) q
unfolding with_procedure
kept_one m ps (Declaration.item name item) q k = k
kept_one m ps (Declaration.array name size checked values) q k = k
kept_one m ps (Declaration.procedure name accumulator locals body) q k = Knows.earlier k
kept_one m ps Declaration.next_sector q k = k

kept : (m : ℕ) (ps : Known) (ds : List Declaration) (q : ℕ) → Knows ps q → Knows (known_from m ps ds) q
unfolding known_from
kept m ps [] q k = k
kept m ps (d ∷ ds) q k = kept (m + globals_of d) (with_procedure m ps d) ds q (kept_one m ps d q k)

-- a number counted on from m + 1, and from m
next : (m n : ℕ) → m + 1 + n ≡ m + suc n
next m n = omega arith

-- each procedure among the kinds is known
pub knows : (m : ℕ) (ps : Known) (ds : List Declaration) (n : ℕ) → get_or (kinds_of ds) n Kind.none ≡ Kind.procedure → Knows (known_from m ps ds) (m + n)
unfolding kinds_of known_from globals_of with_procedure words_taken
knows m ps [] n e = let z : ◌≡◌ {A = ℕ} 0 1 = cc in absurd (omega arith)
knows m ps (Declaration.item name Item.integer ∷ ds) zero e = let z : ◌≡◌ {A = ℕ} 0 1 = cc in absurd (omega arith)
knows m ps (Declaration.item name Item.integer ∷ ds) (suc n) e = subst (Knows (known_from (m + 1) ps ds)) (next m n) (knows (m + 1) ps ds n e)
knows m ps (Declaration.item name (Item.constant v) ∷ ds) zero e = let z : ◌≡◌ {A = ℕ} 0 1 = cc in absurd (omega arith)
knows m ps (Declaration.item name (Item.constant v) ∷ ds) (suc n) e = subst (Knows (known_from (m + 1) ps ds)) (next m n) (knows (m + 1) ps ds n e)
knows m ps (Declaration.item name (Item.compconstant v) ∷ ds) n e =
    subst (Knows (known_from (m + 0) ps ds)) (ap (λ (k : ℕ). k + n) (add-zero m)) (knows (m + 0) ps ds n e)
knows m ps (Declaration.array name size checked values ∷ ds) zero e = let z : ◌≡◌ {A = ℕ} 0 1 = cc in absurd (omega arith)
knows m ps (Declaration.array name size checked values ∷ ds) (suc n) e = subst (Knows (known_from (m + 1) ps ds)) (next m n) (knows (m + 1) ps ds n e)
knows m ps (Declaration.procedure name accumulator locals body ∷ ds) zero e =
    subst (Knows (known_from (m + 1) ((m, body) ∷ ps) ds)) (sym (add-zero m)) (kept (m + 1) ((m, body) ∷ ps) ds m Knows.here)
knows m ps (Declaration.procedure name accumulator locals body ∷ ds) (suc n) e =
    subst (Knows (known_from (m + 1) ((m, body) ∷ ps) ds)) (next m n) (knows (m + 1) ((m, body) ∷ ps) ds n e)
knows m ps (Declaration.next_sector ∷ ds) n e =
    subst (Knows (known_from (m + 0) ps ds)) (ap (λ (k : ℕ). k + n) (add-zero m)) (knows (m + 0) ps ds n e)

-- the count of the globals is that of their kinds
count_one : (d : Declaration) → globals_of d ≡ length (kinds_of (d ∷ []))
unfolding kinds_of globals_of words_taken
count_one (Declaration.item name Item.integer) = refl
count_one (Declaration.item name (Item.constant v)) = refl
count_one (Declaration.item name (Item.compconstant v)) = refl
count_one (Declaration.array name size checked values) = refl
count_one (Declaration.procedure name accumulator locals body) = refl
count_one Declaration.next_sector = refl

kinds_more : (d : Declaration) (ds : List Declaration) → length (kinds_of (d ∷ ds)) ≡ length (kinds_of (d ∷ [])) + length (kinds_of ds)
kinds_more d ds = ap length (kinds_cons d ds) ∙ length-append (kinds_of (d ∷ [])) (kinds_of ds)

known_append : (m : ℕ) (ps : Known) (ds : List Declaration) (d : Declaration)
    → known_from m ps (ds ++ (d ∷ [])) ≡ with_procedure (m + length (kinds_of ds)) (known_from m ps ds) d
unfolding known_from kinds_of
known_append m ps [] d = ap (λ (k : ℕ). with_procedure k ps d) (sym (add-zero m))
known_append m ps (c ∷ ds) d =
    known_append (m + globals_of c) (with_procedure m ps c) ds d
    ∙ ap (λ (k : ℕ). with_procedure k (known_from (m + globals_of c) (with_procedure m ps c) ds) d) (counts m c ds)
  where
    counts : (m : ℕ) (c : Declaration) (ds : List Declaration) → m + globals_of c + length (kinds_of ds) ≡ m + length (kinds_of (c ∷ ds))
    counts m c ds = add_assoc m (globals_of c) (length (kinds_of ds)) ∙ ap (λ (k : ℕ). m + k) (ap (λ (k : ℕ). k + length (kinds_of ds)) (count_one c) ∙ sym (kinds_more c ds))

pub known_snoc : (ds : List Declaration) (d : Declaration) → known_of (ds ++ (d ∷ [])) ≡ with_procedure (length (kinds_of ds)) (known_of ds) d
known_snoc ds d = known_append 0 [] ds d ∙ ap (λ (k : ℕ). with_procedure k (known_of ds) d) (zero-add (length (kinds_of ds)))

-- a known procedure has a number below the count
below_one : (m : ℕ) (ps : Known) (d : Declaration) → ((q : ℕ) → Knows ps q → q < m) → (q : ℕ) → Knows (with_procedure m ps d) q → q < m + globals_of d
unfolding with_procedure globals_of words_taken
below_one m ps (Declaration.item name Item.integer) h q k = let l = h q k in omega arith
below_one m ps (Declaration.item name (Item.constant v)) h q k = let l = h q k in omega arith
below_one m ps (Declaration.item name (Item.compconstant v)) h q k = let l = h q k in omega arith
below_one m ps (Declaration.array name size checked values) h q k = let l = h q k in omega arith
below_one m ps (Declaration.procedure name accumulator locals body) h q Knows.here = omega arith
below_one m ps (Declaration.procedure name accumulator locals body) h q (Knows.earlier k) = let l = h q k in omega arith
below_one m ps Declaration.next_sector h q k = let l = h q k in omega arith

below_from : (m : ℕ) (ps : Known) (ds : List Declaration) → ((q : ℕ) → Knows ps q → q < m) → (q : ℕ) → Knows (known_from m ps ds) q → q < m + length (kinds_of ds)
unfolding known_from kinds_of
below_from m ps [] h q k = let l = h q k in omega arith
below_from m ps (d ∷ ds) h q k =
    let l = below_from (m + globals_of d) (with_procedure m ps d) ds (below_one m ps d h) q k in
    let e = count_one d in
    let c = kinds_more d ds in
    omega arith

no_procedure : (q : ℕ) {ps : Known} → ps ≡ [] → Knows ps q → q < 0
no_procedure q e Knows.here = let z : ◌≡◌ {A = ℕ} 0 1 = cc in absurd (omega arith)
no_procedure q e (Knows.earlier k) = let z : ◌≡◌ {A = ℕ} 0 1 = cc in absurd (omega arith)

pub known_below : (ds : List Declaration) (q : ℕ) → Knows (known_of ds) q → q < length (kinds_of ds)
known_below ds q k = let l = below_from 0 [] ds (λ q k. no_procedure q refl k) q k in omega arith
