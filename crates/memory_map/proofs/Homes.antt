-- Every global, every variable and every named constant of a program has its word in the map.
use Prim.Native.Nat.{ℕ, zero, suc, ◌+◌, ◌-◌, ◌<◌}
use mathlib.Core.Path.{◌≡◌, refl, sym, ap, ◌∙◌, subst}
use mathlib.Core.Bool.{Bool}
use mathlib.Core.Logic.{◌⊎◌, inl, inr}
use mathlib.Core.List.Memᴰ
use mathlib.Core.List.{List, [], ◌∷◌, ◌++◌, Memᴰ}
use native.Mathlib.Omega.{arith}
use lib.ListN.{length, get_or}
use Rattle.tree.specs.Tree.{Id, CellId, Name, Item, Stmts, Declaration, Program}
use Rattle.layout.specs.Allocation.{Allocation, local_words, allocate}
use Rattle.layout.specs.Map.{Role, item_words, local_items, map_at}
use Rattle.tree.specs.Symbols.{words_taken, item_value}
use Rattle.tree.specs.Variables.{item_variables, item_constants, locals_by, elements_of, declared_by}
use Rattle.parsing_laws.specs.WellFormed.{Kind, item_kinds, kinds_of}
use Rattle.memory_map.specs.Laid.{ArrayWord, ProcedureWord}
use Rattle.memory_map.proofs.DeclarationWords.{local_length}
use Rattle.memory_map.proofs.AtDeclaration.{Here, words_on, placing, next}
use Rattle.memory_map.proofs.FinishedMap.{CellAt, item_laid, array_low, element_at_lem, array_word, code_room, local_laid, procedure_word}
use Rattle.memory_map.specs.MapLaws.{StandsAt}

-- ---- Globals

abbrev pub GlobalAt : Program → ℕ → Kind → Type 0
GlobalAt p n Kind.cell = CellAt p n
GlobalAt p n (Kind.array size checked) = ArrayWord (map_at p) (record { number = n; size = size; checked = checked }) (0o200 + n)
GlobalAt p n Kind.procedure = ProcedureWord (map_at p) n (0o200 + n)
GlobalAt p n Kind.none = Unit {0}

pub global_as : (p : Program) (k : Kind) (a b : ℕ) → a ≡ b → GlobalAt p a k → GlobalAt p b k
global_as p k a b e h = subst (λ (n : ℕ). GlobalAt p n k) e h

-- an item's word is a cell
integer_cell : (p : Program) (st : Allocation) (ks : List Kind) (ds : List Declaration) (m : List Role) (name : Name) → Here p st ks (Declaration.item name Item.integer ∷ ds) m
    → CellAt p st.scope.taken
unfolding item_words words_taken item_value
integer_cell p st ks ds m name h = let l = item_laid p st ks ds m name Item.integer refl h in record { value = 0; few = l.0; is = l.1 }

constant_cell : (p : Program) (st : Allocation) (ks : List Kind) (ds : List Declaration) (m : List Role) (name : Name) (v : ℕ) → Here p st ks (Declaration.item name (Item.constant v) ∷ ds) m
    → CellAt p st.scope.taken
unfolding item_words words_taken item_value
constant_cell p st ks ds m name v h = let l = item_laid p st ks ds m name (Item.constant v) refl h in record { value = v; few = l.0; is = l.1 }

module _ (p : Program) where
  abbrev Globals : List Declaration → Type 0
  Globals ds = (st : Allocation) (ks : List Kind) (m : List Role) → Here p st ks ds m → (i : ℕ) → GlobalAt p (st.scope.taken + i) (get_or (kinds_of ds) i Kind.none)

  on : (d : Declaration) (ds : List Declaration) → Globals ds → (st : Allocation) (ks : List Kind) (m : List Role) → Here p st ks (d ∷ ds) m
      → (i j : ℕ) → length (kinds_of (d ∷ [])) + i ≡ j → GlobalAt p (st.scope.taken + j) (get_or (kinds_of ds) i Kind.none)
  on d ds below st ks m h i j e =
      global_as p (get_or (kinds_of ds) i Kind.none) ((allocate st d).scope.taken + i) (st.scope.taken + j) (omega (arith, words_on st d))
      (below (allocate st d) (ks ++ kinds_of (d ∷ [])) (placing p st d m) (next p st ks d ds m h) i)

  pub globals : (ds : List Declaration) → Globals ds
  unfolding kinds_of
  globals [] st ks m h i = tt
  globals (Declaration.item name Item.integer ∷ ds) st ks m h zero = global_as p Kind.cell st.scope.taken (st.scope.taken + 0) (omega arith) (integer_cell p st ks ds m name h)
  globals (Declaration.item name Item.integer ∷ ds) st ks m h (suc i) = on (Declaration.item name Item.integer) ds (globals ds) st ks m h i (suc i) (omega arith)
  globals (Declaration.item name (Item.constant v) ∷ ds) st ks m h zero =
      global_as p Kind.cell st.scope.taken (st.scope.taken + 0) (omega arith) (constant_cell p st ks ds m name v h)
  globals (Declaration.item name (Item.constant v) ∷ ds) st ks m h (suc i) = on (Declaration.item name (Item.constant v)) ds (globals ds) st ks m h i (suc i) (omega arith)
  globals (Declaration.item name (Item.compconstant v) ∷ ds) st ks m h i = on (Declaration.item name (Item.compconstant v)) ds (globals ds) st ks m h i i (omega arith)
  globals (Declaration.array name size checked values ∷ ds) st ks m h zero =
      global_as p (Kind.array size checked) st.scope.taken (st.scope.taken + 0) (omega arith) (array_word p st ks ds m name size checked values h)
  globals (Declaration.array name size checked values ∷ ds) st ks m h (suc i) = on (Declaration.array name size checked values) ds (globals ds) st ks m h i (suc i) (omega arith)
  globals (Declaration.procedure name accumulator locals body ∷ ds) st ks m h zero =
      global_as p Kind.procedure st.scope.taken (st.scope.taken + 0) (omega arith) (procedure_word p st ks ds m name accumulator locals body h)
  globals (Declaration.procedure name accumulator locals body ∷ ds) st ks m h (suc i) =
      on (Declaration.procedure name accumulator locals body) ds (globals ds) st ks m h i (suc i) (omega arith)
  globals (Declaration.next_sector ∷ ds) st ks m h i = on Declaration.next_sector ds (globals ds) st ks m h i i (omega arith)

-- ---- All that is declared

pub either : {A R : Type 0} {a : A} (s : List A) {t : List A} → (Memᴰ a s → R) → (Memᴰ a t → R) → Memᴰ a (s ++ t) → R
either {R = R} {a = a} s {t} f g h = go (Memᴰ.append_cases s h)
  where
    go : Memᴰ a s ⊎ Memᴰ a t → R
    go (inl x) = f x
    go (inr x) = g x

-- what holds of everything listed for a program's declarations, if it holds of what is listed for an item whose word stands at an address, and of what is listed for an array
module _ (p : Program) {A : Type 0} (cells : Id → Item → List A) (elements : ℕ → ℕ → List A) (Q : A → Type 0)
    (nothing : (i : Id) (v : ℕ) (a : A) → Memᴰ a (cells i (Item.compconstant v)) → ⊥)
    (of_item : (i : Id) (item : Item) (a : A) → Memᴰ a (cells i item) → (at : ℕ) → at < 16384 → map_at p at ≡ get_or (item_words i item) 0 Role.free → Q a)
    (of_array : (st : Allocation) (ks : List Kind) (ds : List Declaration) (m : List Role) (name : Name) (size : ℕ) (checked : Bool) (values : List ℕ)
    → Here p st ks (Declaration.array name size checked values ∷ ds) m → (a : A) → Memᴰ a (elements st.scope.taken size) → Q a)
  where
    -- which of a procedure's local words, from the nth on, something is listed for
    record Which (q n : ℕ) (ws : List Role) (a : A) : Type 0 where
      j : ℕ
      item : Item
      below : j < length ws
      listed : Memᴰ a (cells (Id.local q (n + j)) item)
      word : get_or ws j Role.free ≡ get_or (item_words (Id.local q (n + j)) item) 0 Role.free

    first : (q n : ℕ) (item : Item) (w : Role) (ws : List Role) (a : A) → item_words (Id.local q n) item ≡ w ∷ [] → Memᴰ a (cells (Id.local q n) item) → Which q n (w ∷ ws) a
    first q n item w ws a e h =
        let z : n ≡ n + 0 = omega arith in
        record {
          j = 0;
          item = item;
          below = omega arith;
          listed = subst (λ (k : ℕ). Memᴰ a (cells (Id.local q k) item)) z h;
          word = sym (ap (λ (l : List Role). get_or l 0 Role.free) e) ∙ ap (λ (k : ℕ). get_or (item_words (Id.local q k) item) 0 Role.free) z;
        }

    later : (q n : ℕ) (w : Role) (ws : List Role) (a : A) → Which q (n + 1) ws a → Which q n (w ∷ ws) a
    later q n w ws a h =
        let z : n + 1 + h.j ≡ n + suc h.j = omega arith in
        record {
          j = suc h.j;
          item = h.item;
          below = omega (arith, h.below);
          listed = subst (λ (k : ℕ). Memᴰ a (cells (Id.local q k) h.item)) z h.listed;
          word = h.word ∙ ap (λ (k : ℕ). get_or (item_words (Id.local q k) h.item) 0 Role.free) z;
        }

    which : (q n : ℕ) (ls : List (Name × Item)) (a : A) → Memᴰ a (locals_by cells q n ls) → Which q n (local_items q n ls) a
    unfolding locals_by words_taken local_items item_words item_value
    which q n [] a h = absurd (Memᴰ.not-nil h)
    which q n ((name, Item.integer) ∷ ls) a h =
        either (cells (Id.local q n) Item.integer) (first q n Item.integer _ _ a refl) (λ x. later q n _ _ a (which q (n + 1) ls a x)) h
    which q n ((name, Item.constant v) ∷ ls) a h =
        either (cells (Id.local q n) (Item.constant v)) (first q n (Item.constant v) _ _ a refl) (λ x. later q n _ _ a (which q (n + 1) ls a x)) h
    which q n ((name, Item.compconstant v) ∷ ls) a h =
        let z : n + 0 ≡ n = omega arith in
        either (cells (Id.local q n) (Item.compconstant v)) (λ x. absurd (nothing (Id.local q n) v a x))
        (λ x. subst (λ (k : ℕ). Which q k (local_items q (n + 0) ls) a) z (which q (n + 0) ls a x)) h

    abbrev Holding : List Declaration → Type 0
    Holding ds = (st : Allocation) (ks : List Kind) (m : List Role) → Here p st ks ds m → (n : ℕ) → n ≡ st.scope.taken → (a : A) → Memᴰ a (declared_by cells elements n ds) → Q a

    further : (d : Declaration) (ds : List Declaration) → Holding ds → (st : Allocation) (ks : List Kind) (m : List Role) → Here p st ks (d ∷ ds) m
        → (n : ℕ) → n ≡ st.scope.taken + length (kinds_of (d ∷ [])) → (a : A) → Memᴰ a (declared_by cells elements n ds) → Q a
    further d ds below st ks m h n e a = below (allocate st d) (ks ++ kinds_of (d ∷ [])) (placing p st d m) (next p st ks d ds m h) n (e ∙ sym (words_on st d)) a

    module _ (st : Allocation) (ks : List Kind) (ds : List Declaration) (m : List Role) where
      of_global : (name : Name) (item : Item) → length (item_kinds item) ≡ 1 → Here p st ks (Declaration.item name item ∷ ds) m
          → (n : ℕ) → n ≡ st.scope.taken → (a : A) → Memᴰ a (cells (Id.global n) item) → Q a
      of_global name item one h n e a k =
          let l = item_laid p st ks ds m name item one h in
          of_item (Id.global st.scope.taken) item a (subst (λ (j : ℕ). Memᴰ a (cells (Id.global j) item)) e k) (0o200 + st.scope.taken) (omega (arith, l.0)) l.1

      of_procedure : (name : Name) (accumulator : Bool) (locals : List (Name × Item)) (body : Stmts) → Here p st ks (Declaration.procedure name accumulator locals body ∷ ds) m
          → (n : ℕ) → n ≡ st.scope.taken → (a : A) → Memᴰ a (locals_by cells n 0 locals) → Q a
      of_procedure name accumulator locals body h n e a k =
          let own = st.scope.taken in
          let q = which own 0 locals a (subst (λ (j : ℕ). Memᴰ a (locals_by cells j 0 locals)) e k) in
          let l : q.j < local_words st name locals = omega (arith, q.below, local_length st name own locals) in
          of_item (Id.local own (0 + q.j)) q.item a q.listed (st.next + q.j)
          (omega (arith, (code_room p st ks ds m name accumulator locals body h).0, h.room.top))
          (local_laid p st ks ds m name accumulator locals body h q.j l ∙ q.word)

    pub everything : (ds : List Declaration) → Holding ds
    unfolding declared_by words_taken kinds_of
    everything [] st ks m h n e a k = absurd (Memᴰ.not-nil k)
    everything (Declaration.item name Item.integer ∷ ds) st ks m h n e a k =
        either (cells (Id.global n) Item.integer) (of_global st ks ds m name Item.integer refl h n e a)
        (further (Declaration.item name Item.integer) ds (everything ds) st ks m h (n + 1) (omega arith) a) k
    everything (Declaration.item name (Item.constant v) ∷ ds) st ks m h n e a k =
        either (cells (Id.global n) (Item.constant v)) (of_global st ks ds m name (Item.constant v) refl h n e a)
        (further (Declaration.item name (Item.constant v)) ds (everything ds) st ks m h (n + 1) (omega arith) a) k
    everything (Declaration.item name (Item.compconstant v) ∷ ds) st ks m h n e a k =
        either (cells (Id.global n) (Item.compconstant v)) (λ x. absurd (nothing (Id.global n) v a x))
        (further (Declaration.item name (Item.compconstant v)) ds (everything ds) st ks m h (n + 0) (omega arith) a) k
    everything (Declaration.array name size checked values ∷ ds) st ks m h n e a k =
        either (elements n size) (λ x. of_array st ks ds m name size checked values h a (subst (λ (j : ℕ). Memᴰ a (elements j size)) e x))
        (further (Declaration.array name size checked values) ds (everything ds) st ks m h (suc n) (omega arith) a) k
    everything (Declaration.procedure name accumulator locals body ∷ ds) st ks m h n e a k =
        either (locals_by cells n 0 locals) (of_procedure st ks ds m name accumulator locals body h n e a)
        (further (Declaration.procedure name accumulator locals body) ds (everything ds) st ks m h (suc n) (omega arith) a) k
    everything (Declaration.next_sector ∷ ds) st ks m h n e a k = further Declaration.next_sector ds (everything ds) st ks m h n (omega arith) a k

-- ---- Variables

pub record Stood (p : Program) (i : CellId) : Type 0 where
  pub at : ℕ
  pub value : ℕ
  pub below : at < 16384
  pub here : map_at p at ≡ Role.cell i value

-- which element a variable is
pub record Element (number subscript n : ℕ) (i : CellId) : Type 0 where
  pub j : ℕ
  pub below : j < n
  pub is : i ≡ CellId.element number (subscript + j)

pub which_element : (number subscript n : ℕ) (i : CellId) → Memᴰ i (elements_of number subscript n) → Element number subscript n i
unfolding elements_of
which_element number subscript zero i h = absurd (Memᴰ.not-nil h)
which_element number subscript (suc n) i h = go (which_element number (suc subscript) n i) (Memᴰ.cases_cons h)
  where
    go : (Memᴰ i (elements_of number (suc subscript) n) → Element number (suc subscript) n i)
        → (i ≡ CellId.element number subscript) ⊎ Memᴰ i (elements_of number (suc subscript) n) → Element number subscript (suc n) i
    go ih (inl e) = let z : subscript ≡ subscript + 0 = omega arith in record { j = 0; below = omega arith; is = e ∙ ap (λ (s : ℕ). CellId.element number s) z }
    go ih (inr r) =
        let q = ih r in
        let z : suc subscript + q.j ≡ subscript + suc q.j = omega arith in
        record { j = suc q.j; below = omega (arith, q.below); is = q.is ∙ ap (λ (s : ℕ). CellId.element number s) z }

module _ (p : Program) where
  of_integer : (i : Id) (item : Item) (c : CellId) → Memᴰ c (item_variables i item) → (at : ℕ) → at < 16384 → map_at p at ≡ get_or (item_words i item) 0 Role.free → Stood p c
  unfolding item_variables item_words words_taken item_value
  of_integer i Item.integer c h at l e = record { at = at; value = 0; below = l; here = e ∙ ap (λ (d : CellId). Role.cell d 0) (sym (Memᴰ.eq_of_singleton h)) }
  of_integer i (Item.constant v) c h at l e = absurd (Memᴰ.not-nil h)
  of_integer i (Item.compconstant v) c h at l e = absurd (Memᴰ.not-nil h)

  of_element : (st : Allocation) (ks : List Kind) (ds : List Declaration) (m : List Role) (name : Name) (size : ℕ) (checked : Bool) (values : List ℕ)
      → Here p st ks (Declaration.array name size checked values ∷ ds) m → (i : CellId) → Memᴰ i (elements_of st.scope.taken (65536 - size) size) → Stood p i
  of_element st ks ds m name size checked values h i k =
      let q = which_element st.scope.taken (65536 - size) size i k in
      let l : q.j < size = q.below in
      record {
        at = st.array - size + q.j;
        value = get_or values q.j 0;
        below = omega (arith, array_low p st ks ds m name size checked values h, h.room.top);
        here = element_at_lem p st ks ds m name size checked values h q.j l ∙ ap (λ (c : CellId). Role.cell c (get_or values q.j 0)) (sym q.is);
      }

  no_variable : (i : Id) (v : ℕ) (c : CellId) → Memᴰ c (item_variables i (Item.compconstant v)) → ⊥
  unfolding item_variables
  no_variable i v c h = Memᴰ.not-nil h

  pub variables : (st : Allocation) (ks : List Kind) (m : List Role) → Here p st ks p.declarations m → 0 ≡ st.scope.taken
      → (i : CellId) → Memᴰ i (declared_by item_variables (λ number size. elements_of number (65536 - size) size) 0 p.declarations) → Stood p i
  variables st ks m h e =
      everything p item_variables (λ number size. elements_of number (65536 - size) size) (Stood p) no_variable of_integer of_element p.declarations st ks m h 0 e

  -- ---- Constants

  of_constant : (i : Id) (item : Item) (c : CellId × ℕ) → Memᴰ c (item_constants i item) → (at : ℕ) → at < 16384 → map_at p at ≡ get_or (item_words i item) 0 Role.free → StandsAt p c.0 c.1
  unfolding item_constants item_words words_taken item_value
  of_constant i Item.integer c h at l e = absurd (Memᴰ.not-nil h)
  of_constant i (Item.constant v) c h at l e = record { at = at; below = l; here = e ∙ ap (λ (d : CellId × ℕ). Role.cell d.0 d.1) (sym (Memᴰ.eq_of_singleton h)) }
  of_constant i (Item.compconstant v) c h at l e = absurd (Memᴰ.not-nil h)

  no_constant : (i : Id) (v : ℕ) (c : CellId × ℕ) → Memᴰ c (item_constants i (Item.compconstant v)) → ⊥
  unfolding item_constants
  no_constant i v c h = Memᴰ.not-nil h

  pub constants : (st : Allocation) (ks : List Kind) (m : List Role) → Here p st ks p.declarations m → 0 ≡ st.scope.taken
      → (c : CellId × ℕ) → Memᴰ c (declared_by item_constants (λ number size. []) 0 p.declarations) → StandsAt p c.0 c.1
  constants st ks m h e =
      everything p item_constants (λ number size. []) (λ c. StandsAt p c.0 c.1) no_constant of_constant (λ st ks ds m name size checked values h c k. absurd (Memᴰ.not-nil k)) p.declarations st ks m h 0 e
