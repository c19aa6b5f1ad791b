-- The literal pool: no two words of it are equal, it holds each literal, and it only grows at its end.
use Prim.Native.Nat.{ℕ, suc, ◌+◌, ◌≤◌, ◌<◌}
use mathlib.Core.Path.{◌≡◌, refl, sym, ap, subst, ◌∙◌}
use mathlib.Core.Bool.{Bool, true, false}
use mathlib.Core.Logic.{◌⊎◌, inl, inr}
use mathlib.Core.List.{List, [], ◌∷◌, ◌++◌, append_assoc, append-nil, Memᴰ}
use native.Mathlib.Omega.{arith}
use lib.ListN.{length, get_or, length-append, get_or-append}
use lib.Dec.{ltb, eqb}
use borrow.Author.Tests.{ltb-true, ltb-false, eqb-true, eq-eqb}
use Rattle.prelude.specs.Choice.{whether}
use Rattle.layout.specs.Pool.{index_of, added, added_all}
use Rattle.memory_map.specs.MapLaws.{Among, Extends}
use Rattle.parsing_laws.proofs.Parsed.Choices.{choice}

-- ---- The index of a value

-- among a list with a head: it is the head, or among the rest
head_or_rest : (u : ℕ) (us : List ℕ) (v : ℕ) → Among (u ∷ us) v → (u ≡ v) ⊎ Among us v
unfolding index_of
head_or_rest u us v l = by (eqb u v) refl l
  where
    by : (b : Bool) → eqb u v ≡ b → whether b (λ _. 0) (λ _. suc (index_of us v)) < suc (length us) → (u ≡ v) ⊎ Among us v
    by true e l = inl (eqb-true u v e)
    by false e l = inr (omega arith)

head_among : (u : ℕ) (us : List ℕ) (v : ℕ) → u ≡ v → Among (u ∷ us) v
unfolding index_of
head_among u us v e = rw (eq-eqb u v e) (omega arith)

rest_among : (u : ℕ) (us : List ℕ) (v : ℕ) → Among us v → Among (u ∷ us) v
unfolding index_of
rest_among u us v l = choice (λ n. n < suc (length us)) (eqb u v) _ _ (λ e. omega arith) (λ e. omega arith)

one_of_two : (us ws : List ℕ) (v : ℕ) → Among (us ++ ws) v → Among us v ⊎ Among ws v
one_of_two [] ws v l = inr l
one_of_two (u ∷ us) ws v l = by (head_or_rest u (us ++ ws) v l) (one_of_two us ws v)
  where
    by : (u ≡ v) ⊎ Among (us ++ ws) v → (Among (us ++ ws) v → Among us v ⊎ Among ws v) → Among (u ∷ us) v ⊎ Among ws v
    by (inl e) f = inl (head_among u us v e)
    by (inr l) f = then (f l)
      where
        then : Among us v ⊎ Among ws v → Among (u ∷ us) v ⊎ Among ws v
        then (inl m) = inl (rest_among u us v m)
        then (inr m) = inr m

-- what stands after a value does not move it
index_kept : (us ws : List ℕ) (v : ℕ) → Among us v → index_of (us ++ ws) v ≡ index_of us v
unfolding index_of
index_kept [] ws v l = absurd (omega arith)
index_kept (u ∷ us) ws v l = by (eqb u v) (index_kept us ws v) l
  where
    by : (b : Bool) {m n k : ℕ} → (n < k → m ≡ n) → whether b (λ _. 0) (λ _. suc n) < suc k → ◌≡◌ {A = ℕ} (whether b (λ _. 0) (λ _. suc m)) (whether b (λ _. 0) (λ _. suc n))
    by true f l = refl
    by false f l = ap suc (f (omega arith))

-- a value that is not among them stands last, once added
index_last : (us : List ℕ) (v : ℕ) → length us ≤ index_of us v → index_of (us ++ (v ∷ [])) v ≡ length us
unfolding index_of
index_last [] v l = rw (eq-eqb v v refl)
index_last (u ∷ us) v l = by (eqb u v) (index_last us v) l
  where
    by : (b : Bool) {m n k : ℕ} → (k ≤ n → m ≡ k) → suc k ≤ whether b (λ _. 0) (λ _. suc n) → ◌≡◌ {A = ℕ} (whether b (λ _. 0) (λ _. suc m)) (suc k)
    by true f l = absurd (omega arith)
    by false f l = ap suc (f (omega arith))

-- a value stands at its index
pub at_index : (us : List ℕ) (v : ℕ) → Among us v → get_or us (index_of us v) 0 ≡ v
unfolding index_of
at_index [] v l = absurd (omega arith)
at_index (u ∷ us) v l = by (eqb u v) refl (at_index us v) l
  where
    by : (b : Bool) → eqb u v ≡ b → (Among us v → get_or us (index_of us v) 0 ≡ v) → whether b (λ _. 0) (λ _. suc (index_of us v)) < suc (length us)
        → get_or (u ∷ us) (whether b (λ _. 0) (λ _. suc (index_of us v))) 0 ≡ v
    by true e f l = eqb-true u v e
    by false e f l = f (omega arith)

-- ---- Adding at the end

pub joined : {a b c : List ℕ} → Extends a b → Extends b c → Extends a c
joined {a = a} p q = record { new = p.new ++ q.new; is = q.is ∙ ap (λ (l : List ℕ). l ++ q.new) p.is ∙ append_assoc a p.new q.new }

pub same : (pool : List ℕ) → Extends pool pool
same pool = record { new = []; is = sym (append-nil pool) }

added_end : (pool : List ℕ) (v : ℕ) → Extends pool (added pool v)
unfolding added
added_end pool v = choice (Extends pool) (ltb (index_of pool v) (length pool)) _ _ (λ _. same pool) (λ _. record { new = v ∷ []; is = refl })

pub added_all_end : (pool vs : List ℕ) → Extends pool (added_all pool vs)
unfolding added_all
added_all_end pool [] = same pool
added_all_end pool (v ∷ vs) = joined (added_end pool v) (added_all_end (added pool v) vs)

pub index_stays : {pool longer : List ℕ} (v : ℕ) → Extends pool longer → Among pool v → index_of longer v ≡ index_of pool v
index_stays {pool = pool} v x l = rw x.is (index_kept pool x.new v l)

pub still_among : {pool longer : List ℕ} (v : ℕ) → Extends pool longer → Among pool v → Among longer v
still_among {pool = pool} {longer = longer} v x l =
    let n : length longer ≡ length pool + length x.new = ap length x.is ∙ length-append pool x.new in
    omega (arith, index_stays v x l)

pub no_shorter : {pool longer : List ℕ} → Extends pool longer → length pool ≤ length longer
no_shorter {pool = pool} x = omega (arith, ap length x.is, length-append pool x.new)

-- ---- What a pool holds

added_among : (pool : List ℕ) (v : ℕ) → Among (added pool v) v
unfolding added
added_among pool v =
    choice (λ p. Among p v) (ltb (index_of pool v) (length pool)) _ _ (λ e. ltb-true _ _ e)
    (λ e. let n = length-append pool (v ∷ []) in let k = index_last pool v (ltb-false _ _ e) in omega arith)

pub all_among : (pool vs : List ℕ) (v : ℕ) → Among vs v → Among (added_all pool vs) v
unfolding added_all index_of
all_among pool [] v l = absurd (omega arith)
all_among pool (u ∷ us) v l = by (head_or_rest u us v l) (all_among (added pool u) us v)
  where
    by : (u ≡ v) ⊎ Among us v → (Among us v → Among (added_all (added pool u) us) v) → Among (added_all (added pool u) us) v
    by (inl e) f = still_among v (added_all_end (added pool u) us) (subst (λ (w : ℕ). Among (added pool u) w) e (added_among pool u))
    by (inr l) f = f l

pub all_held : (v : ℕ) (pool vs : List ℕ) → Memᴰ v vs → Among (added_all pool vs) v
unfolding added_all
all_held v pool vs (Memᴰ.head {x = u} {xs = us} e) =
    subst (λ (n : ℕ). Among (added_all (added pool u) us) n) (sym e) (still_among u (added_all_end (added pool u) us) (added_among pool u))
all_held v pool vs (Memᴰ.tail {x = u} {xs = us} h) = all_held v (added pool u) us h

-- and nothing else
added_from : (pool : List ℕ) (u v : ℕ) → Among (added pool u) v → Among pool v ⊎ Among (u ∷ []) v
unfolding added
added_from pool u v =
    choice (λ p. Among p v → Among pool v ⊎ Among (u ∷ []) v) (ltb (index_of pool u) (length pool)) _ _ (λ _ l. inl l) (λ _. one_of_two pool (u ∷ []) v)

pub all_from : (pool vs : List ℕ) (v : ℕ) → Among (added_all pool vs) v → Among pool v ⊎ Among vs v
unfolding added_all
all_from pool [] v l = inl l
all_from pool (u ∷ us) v l = by (all_from (added pool u) us v l)
  where
    first : Among pool v ⊎ Among (u ∷ []) v → Among pool v ⊎ Among (u ∷ us) v
    first (inl m) = inl m
    first (inr m) = inr (starts (head_or_rest u [] v m))
      where
        starts : (u ≡ v) ⊎ Among [] v → Among (u ∷ us) v
        starts (inl e) = head_among u us v e
        starts (inr n) = absurd (omega arith)

    by : Among (added pool u) v ⊎ Among us v → Among pool v ⊎ Among (u ∷ us) v
    by (inl m) = first (added_from pool u v m)
    by (inr m) = inr (rest_among u us v m)

-- ---- No two words are equal

abbrev Distinct : List ℕ → Type 0
Distinct us = (k : ℕ) → k < length us → index_of us (get_or us k 0) ≡ k

last_is : (us : List ℕ) (v : ℕ) → get_or (us ++ (v ∷ [])) (length us) 0 ≡ v
last_is [] v = refl
last_is (u ∷ us) v = last_is us v

distinct_last : (us : List ℕ) (v : ℕ) → Distinct us → length us ≤ index_of us v → Distinct (us ++ (v ∷ []))
distinct_last us v d o k l = by (ltb k (length us)) refl
  where
    by : (b : Bool) → ltb k (length us) ≡ b → index_of (us ++ (v ∷ [])) (get_or (us ++ (v ∷ [])) k 0) ≡ k
    by true e =
        let m = ltb-true k (length us) e in
        rw (get_or-append us (v ∷ []) 0 k m) (index_kept us (v ∷ []) (get_or us k 0) (omega (arith, d k m)) ∙ d k m)
    by false e =
        let n = length-append us (v ∷ []) in
        let m = ltb-false k (length us) e in
        let j : k ≡ length us = omega arith in
        rw (j, last_is us v) (index_last us v o)

distinct_added : (pool : List ℕ) (v : ℕ) → Distinct pool → Distinct (added pool v)
unfolding added
distinct_added pool v d = choice Distinct (ltb (index_of pool v) (length pool)) _ _ (λ e. d) (λ e. distinct_last pool v d (ltb-false _ _ e))

pub distinct_all : (pool vs : List ℕ) → Distinct pool → Distinct (added_all pool vs)
unfolding added_all
distinct_all pool [] d = d
distinct_all pool (v ∷ vs) d = distinct_all (added pool v) vs (distinct_added pool v d)
