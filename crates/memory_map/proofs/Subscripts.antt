-- A word is one of an array's subscripts exactly if the element that it names is a variable of the program.
use Prim.Native.Nat.{ℕ, zero, suc, ◌+◌, ◌-◌, ◌≤◌, ◌<◌}
use mathlib.Core.Path.{◌≡◌, refl, sym, ap, subst}
use mathlib.Core.Bool.{Bool, true, false, cond}
use mathlib.Core.Logic.{◌⊎◌, inl, inr}
use mathlib.Core.List.Memᴰ
use mathlib.Core.List.{List, [], ◌∷◌, Memᴰ}
use native.Mathlib.Omega.{arith}
use native.Mathlib.Decide.{ℕ_discrete}
use lib.Dec.{leb, ltb}
use lib.ListN.{get_or}
use borrow.Author.Tests.{leb-true, ltb-true, le-leb, lt-ltb}
use Rattle.tree.specs.Tree.{Id, CellId, Array, Name, Item, Declaration, Program, is_inside}
use Rattle.tree.specs.Symbols.{words_taken}
use Rattle.tree.specs.Variables.{item_variables, locals_by, elements_of, declared_by, variables_of, arrays_of, Elements}
use Rattle.layout.specs.Allocation.{Allocation}
use Rattle.parsing_laws.specs.WellFormed.{All, Kind, kinds_of, Flagged, WellFormed}
use Rattle.memory_map.proofs.Homes.{either, which_element}
use Rattle.memory_map.proofs.Apart.{From, from, elements_in, variables, variable_key, variable_from, local_variable, element_in}
use Rattle.memory_map.proofs.RoomBefore.{AllFit, all_fit}
use Rattle.memory_map.proofs.RoomBefore as fit

-- ---- Inside, as an interval

bounds : (a : Array) (v : ℕ) → is_inside a v ≡ true → (65536 - a.size ≤ v) × (v < 65536)
unfolding is_inside
bounds a v e = go (leb (65536 - a.size) v) refl e
  where
    go : (b : Bool) → leb (65536 - a.size) v ≡ b → cond b (ltb v 65536) false ≡ true → (65536 - a.size ≤ v) × (v < 65536)
    go true l h = (leb-true (65536 - a.size) v l, ltb-true v 65536 h)
    go false l h = let z : ◌≡◌ {A = ℕ} 0 1 = cc in absurd (omega arith)

from_bounds : (a : Array) (v : ℕ) → 65536 - a.size ≤ v → v < 65536 → is_inside a v ≡ true
unfolding is_inside
from_bounds a v l h = rw (le-leb (65536 - a.size) v l, lt-ltb v 65536 h) refl

-- ---- The elements of one array

listed : (number s n v : ℕ) → s ≤ v → v < s + n → Memᴰ (CellId.element number v) (elements_of number s n)
unfolding elements_of
listed number s zero v l h = absurd (omega arith)
listed number s (suc n) v l h = go (listed number (suc s) n v) (ℕ_discrete v s)
  where
    go : (suc s ≤ v → v < suc s + n → Memᴰ (CellId.element number v) (elements_of number (suc s) n)) → Dec (v ≡ s)
        → Memᴰ (CellId.element number v) (CellId.element number s ∷ elements_of number (suc s) n)
    go ih (yes e) = Memᴰ.head (ap (CellId.element number) e)
    go ih (no d) = Memᴰ.tail (ih (omega arith) (omega arith))

-- ---- The arrays of declarations from the nth on

module _ (checked : Bool) where
  abbrev array : ℕ → ℕ → Array
  array number size = record { number = number; size = size; checked = checked }

  abbrev none : Id → Item → List Array
  none i item = []

  abbrev one : ℕ → ℕ → List Array
  one number size = array number size ∷ []

  abbrev arrays : ℕ → List Declaration → List Array
  arrays = declared_by none one

  -- locals are no arrays
  no_local : (q n : ℕ) (ls : List (Name × Item)) (a : Array) → Memᴰ a (locals_by none q n ls) → ⊥
  unfolding locals_by
  no_local q n [] a h = Memᴰ.not-nil h
  no_local q n (l ∷ ls) a h = no_local q (n + words_taken l.1) ls a h

  abbrev first_of : Array → CellId
  first_of a = CellId.element a.number 0

  array_from : (n : ℕ) (ds : List Declaration) (a : Array) → Memᴰ a (arrays n ds) → From n (first_of a)
  array_from =
      from none one first_of (λ i item a h. absurd (Memᴰ.not-nil h)) (λ n size a h. ap (λ (b : Array). b.number) (Memᴰ.eq_of_singleton h))

  -- ---- A subscript's element is a variable

  declared_element : (n : ℕ) (ds : List Declaration) (a : Array) (v : ℕ) → Memᴰ a (arrays n ds) → is_inside a v ≡ true → Memᴰ (CellId.element a.number v) (variables n ds)
  unfolding declared_by
  declared_element n [] a v h i = absurd (Memᴰ.not-nil h)
  declared_element n (Declaration.item name item ∷ ds) a v h i = Memᴰ.append_right (item_variables (Id.global n) item) (declared_element (n + words_taken item) ds a v h i)
  declared_element n (Declaration.array name size flag values ∷ ds) a v h i = go (declared_element (suc n) ds a v) (Memᴰ.cases_cons h)
    where
      go : (Memᴰ a (arrays (suc n) ds) → is_inside a v ≡ true → Memᴰ (CellId.element a.number v) (variables (suc n) ds))
          → (a ≡ array n size) ⊎ Memᴰ a (arrays (suc n) ds) → Memᴰ (CellId.element a.number v) (variables n (Declaration.array name size flag values ∷ ds))
      go ih (inl e) =
          let b = bounds (array n size) v (subst (λ (b : Array). is_inside b v ≡ true) e i) in
          subst (λ (b : Array). Memᴰ (CellId.element b.number v) (variables n (Declaration.array name size flag values ∷ ds))) (sym e)
          (Memᴰ.append_left _ (listed n (65536 - size) size v b.0 (omega (arith, b.1))))
      go ih (inr k) = Memᴰ.append_right (elements_in n size) (ih k i)
  declared_element n (Declaration.procedure name accumulator locals body ∷ ds) a v h i =
      either (locals_by none n 0 locals) (λ k. absurd (no_local n 0 locals a k))
      (λ k. Memᴰ.append_right (locals_by item_variables n 0 locals) (declared_element (suc n) ds a v k i)) h
  declared_element n (Declaration.next_sector ∷ ds) a v h i = declared_element n ds a v h i

  -- ---- A variable that is an element is one of a subscript

  -- an element is of its array's number
  apart : (n : ℕ) (a : Array) (v : ℕ) → a.number ≡ n → From (suc n) (CellId.element a.number v) → ⊥
  apart n a v e r = omega (arith, r.least, r.of)

  inside_of : (n : ℕ) (ds : List Declaration) {st : Allocation} → AllFit st ds → (a : Array) (v : ℕ)
      → Memᴰ a (arrays n ds) → Memᴰ (CellId.element a.number v) (variables n ds) → is_inside a v ≡ true
  unfolding declared_by
  inside_of n [] f a v h k = absurd (Memᴰ.not-nil h)
  inside_of n (Declaration.item name item ∷ ds) (fit.next g f) a v h k =
      either (item_variables (Id.global n) item) (λ x. let e = variable_key (Id.global n) item _ x in let z : ◌≡◌ {A = ℕ} 0 1 = cc in absurd (omega arith))
      (inside_of (n + words_taken item) ds f a v h) k
  inside_of n (Declaration.array name size flag values ∷ ds) (fit.next g f) a v h k = go (inside_of (suc n) ds f a v) (Memᴰ.cases_cons h)
    where
      own : a ≡ array n size → Memᴰ (CellId.element a.number v) (elements_in n size) → is_inside a v ≡ true
      own e x =
          let w = which_element n (65536 - size) size _ x in
          let s : a.size ≡ size = ap (λ (b : Array). b.size) e in
          let i : v ≡ 65536 - size + w.j = let q = w.is in cc in
          from_bounds a v (omega arith) (omega (arith, w.below, g.1))

      go : (Memᴰ a (arrays (suc n) ds) → Memᴰ (CellId.element a.number v) (variables (suc n) ds) → is_inside a v ≡ true)
          → (a ≡ array n size) ⊎ Memᴰ a (arrays (suc n) ds) → is_inside a v ≡ true
      go ih (inl e) =
          either (elements_in n size) (own e)
          (λ x. absurd (apart n a v (ap (λ (b : Array). b.number) e) (variable_from (suc n) ds _ x))) k
      go ih (inr later) =
          either (elements_in n size)
          (λ x. let r = array_from (suc n) ds a later in absurd (omega (arith, r.least, r.of, element_in n size _ x)))
          (ih later) k
  inside_of n (Declaration.procedure name accumulator locals body ∷ ds) (fit.next g f) a v h k =
      either (locals_by none n 0 locals) (λ x. absurd (no_local n 0 locals a x))
      (λ x. either (locals_by item_variables n 0 locals)
      (λ y. let e = (local_variable n 0 locals _ y).is in let z : ◌≡◌ {A = ℕ} 0 1 = cc in absurd (omega arith))
      (inside_of (suc n) ds f a v x) k) h
  inside_of n (Declaration.next_sector ∷ ds) (fit.next g f) a v h k = inside_of n ds f a v h k

  -- ---- What bodies name as an array is one

  array_as : (size number number' : ℕ) (flag : Bool) (n : ℕ) (ds : List Declaration) → number ≡ number' → Memᴰ (record { number = number; size = size; checked = flag }) (arrays n ds)
      → Memᴰ (record { number = number'; size = size; checked = flag }) (arrays n ds)
  array_as size number number' flag n ds e h = subst (λ (k : ℕ). Memᴰ (record { number = k; size = size; checked = flag }) (arrays n ds)) e h

  kind_listed : (n : ℕ) (ds : List Declaration) → All (Flagged checked) ds → (k size : ℕ) (flag : Bool) → get_or (kinds_of ds) k Kind.none ≡ Kind.array size flag
      → Memᴰ (record { number = n + k; size = size; checked = flag }) (arrays n ds)
  unfolding kinds_of declared_by words_taken
  kind_listed n [] f k size flag e = let z : ◌≡◌ {A = ℕ} 0 1 = cc in absurd (omega arith)
  kind_listed n (Declaration.item name Item.integer ∷ ds) f zero size flag e = let z : ◌≡◌ {A = ℕ} 0 1 = cc in absurd (omega arith)
  kind_listed n (Declaration.item name Item.integer ∷ ds) f (suc k) size flag e = array_as size (n + 1 + k) (n + suc k) flag (n + 1) ds (omega arith) (kind_listed (n + 1) ds f.1 k size flag e)
  kind_listed n (Declaration.item name (Item.constant v) ∷ ds) f zero size flag e = let z : ◌≡◌ {A = ℕ} 0 1 = cc in absurd (omega arith)
  kind_listed n (Declaration.item name (Item.constant v) ∷ ds) f (suc k) size flag e = array_as size (n + 1 + k) (n + suc k) flag (n + 1) ds (omega arith) (kind_listed (n + 1) ds f.1 k size flag e)
  kind_listed n (Declaration.item name (Item.compconstant v) ∷ ds) f k size flag e = array_as size (n + 0 + k) (n + k) flag (n + 0) ds (omega arith) (kind_listed (n + 0) ds f.1 k size flag e)
  kind_listed n (Declaration.array name own mark values ∷ ds) f zero size flag e =
      let s : own ≡ size = cc in
      let m : mark ≡ flag = cc in
      let q = f.0 in
      let z : n + 0 ≡ n = omega arith in
      let is : record { number = n + 0; size = size; checked = flag } ≡ array n own = rw (z, ← s, ← m, q) refl in
      Memᴰ.head is
  kind_listed n (Declaration.array name own mark values ∷ ds) f (suc k) size flag e =
      Memᴰ.tail (array_as size (suc n + k) (n + suc k) flag (suc n) ds (omega arith) (kind_listed (suc n) ds f.1 k size flag e))
  kind_listed n (Declaration.procedure name accumulator locals body ∷ ds) f zero size flag e = let z : ◌≡◌ {A = ℕ} 0 1 = cc in absurd (omega arith)
  kind_listed n (Declaration.procedure name accumulator locals body ∷ ds) f (suc k) size flag e =
      Memᴰ.append_right (locals_by none n 0 locals) (array_as size (suc n + k) (n + suc k) flag (suc n) ds (omega arith) (kind_listed (suc n) ds f.1 k size flag e))
  kind_listed n (Declaration.next_sector ∷ ds) f k size flag e = kind_listed n ds f.1 k size flag e

pub array_declared : (p : Program) → WellFormed p → (a : Array) → get_or (kinds_of p.declarations) a.number Kind.none ≡ Kind.array a.size a.checked → Memᴰ a (arrays_of p)
unfolding arrays_of
array_declared p w a e =
    array_as p.checked a.size (0 + a.number) a.number a.checked 0 p.declarations (omega arith)
    (kind_listed p.checked 0 p.declarations w.flags a.number a.size a.checked e)

pub elements : (p : Program) → WellFormed p → (a : Array) → Memᴰ a (arrays_of p) → Elements p a
unfolding arrays_of variables_of
elements p w a h = record {
  inside = λ v i. Memᴰ.tail (declared_element p.checked 0 p.declarations a v h i);
  only_inside = λ v k. either (CellId.named Id.x ∷ []) (λ x. let e = Memᴰ.eq_of_singleton x in let z : ◌≡◌ {A = ℕ} 0 1 = cc in absurd (omega arith))
      (inside_of p.checked 0 p.declarations (all_fit w.declarations) a v h) k;
}
