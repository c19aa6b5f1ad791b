-- No variable of a program is one of its named constants.
use Prim.Native.Nat.{ℕ, zero, suc, ◌+◌, ◌-◌, ◌≤◌, ◌<◌}
use mathlib.Core.Path.{◌≡◌, refl, sym, ap, subst, ◌∙◌}
use mathlib.Core.List.Memᴰ
use mathlib.Core.List.{List, [], ◌∷◌, Memᴰ}
use native.Mathlib.Omega.{arith}
use Rattle.tree.specs.Tree.{Id, CellId, Name, Item, Declaration, Program}
use Rattle.tree.specs.Symbols.{words_taken}
use Rattle.tree.specs.Variables.{item_variables, item_constants, locals_by, elements_of, declared_by, variables_of, constants_of}
use Rattle.memory_map.proofs.Homes.{either}

-- the number of the declaration that a cell is of
abbrev pub Of : ℕ → CellId → Type 0
Of n (CellId.named Id.x) = ⊥
Of n (CellId.named (Id.global k)) = k ≡ n
Of n (CellId.named (Id.local q k)) = q ≡ n
Of n (CellId.element a s) = a ≡ n

of_one : (i : CellId) (m n : ℕ) → Of m i → Of n i → m ≡ n
of_one (CellId.named Id.x) m n h k = absurd h
of_one (CellId.named (Id.global l)) m n h k = sym h ∙ k
of_one (CellId.named (Id.local q l)) m n h k = sym h ∙ k
of_one (CellId.element a s) m n h k = sym h ∙ k

pub record From (low : ℕ) (i : CellId) : Type 0 where
  pub number : ℕ
  pub least : low ≤ number
  pub of : Of number i

-- what is listed for declarations from the nth on is of a number of n or more
module _ {A : Type 0} (cells : Id → Item → List A) (elements : ℕ → ℕ → List A) (key : A → CellId)
    (item_key : (i : Id) (item : Item) (a : A) → Memᴰ a (cells i item) → key a ≡ CellId.named i)
    (element_of : (n size : ℕ) (a : A) → Memᴰ a (elements n size) → Of n (key a))
  where
    -- a procedure's locals from the nth on
    pub record LocalFrom (q n : ℕ) (a : A) : Type 0 where
      pub number : ℕ
      pub least : n ≤ number
      pub is : key a ≡ CellId.named (Id.local q number)

    local_from : (q n : ℕ) (ls : List (Name × Item)) (a : A) → Memᴰ a (locals_by cells q n ls) → LocalFrom q n a
    unfolding locals_by
    local_from q n [] a h = absurd (Memᴰ.not-nil h)
    local_from q n (l ∷ ls) a h =
        either (cells (Id.local q n) l.1) (λ x. record { number = n; least = omega arith; is = item_key (Id.local q n) l.1 a x })
        (λ x. let r = local_from q (n + words_taken l.1) ls a x in record { number = r.number; least = omega (arith, r.least); is = r.is }) h

    item_of : (n : ℕ) (item : Item) (a : A) → Memᴰ a (cells (Id.global n) item) → Of n (key a)
    item_of n item a h = subst (Of n) (sym (item_key (Id.global n) item a h)) refl

    here : (n : ℕ) (a : A) → Of n (key a) → From n (key a)
    here n a h = record { number = n; least = omega arith; of = h }

    onward : (m n : ℕ) (a : A) → n ≤ m → From m (key a) → From n (key a)
    onward m n a l r = record { number = r.number; least = omega (arith, r.least); of = r.of }

    pub from : (n : ℕ) (ds : List Declaration) (a : A) → Memᴰ a (declared_by cells elements n ds) → From n (key a)
    unfolding declared_by
    from n [] a h = absurd (Memᴰ.not-nil h)
    from n (Declaration.item name item ∷ ds) a h =
        either (cells (Id.global n) item) (λ x. here n a (item_of n item a x)) (λ x. onward (n + words_taken item) n a (omega arith) (from (n + words_taken item) ds a x)) h
    from n (Declaration.array name size checked values ∷ ds) a h =
        either (elements n size) (λ x. here n a (element_of n size a x)) (λ x. onward (suc n) n a (omega arith) (from (suc n) ds a x)) h
    from n (Declaration.procedure name accumulator locals body ∷ ds) a h =
        either (locals_by cells n 0 locals) (λ x. here n a (subst (Of n) (sym (local_from n 0 locals a x).is) refl)) (λ x. onward (suc n) n a (omega arith) (from (suc n) ds a x)) h
    from n (Declaration.next_sector ∷ ds) a h = from n ds a h

-- ---- Of variables and of constants

abbrev pub elements_in : ℕ → ℕ → List CellId
elements_in number size = elements_of number (65536 - size) size

pub variable_key : (i : Id) (item : Item) (c : CellId) → Memᴰ c (item_variables i item) → c ≡ CellId.named i
unfolding item_variables
variable_key i Item.integer c h = Memᴰ.eq_of_singleton h
variable_key i (Item.constant v) c h = absurd (Memᴰ.not-nil h)
variable_key i (Item.compconstant v) c h = absurd (Memᴰ.not-nil h)

constant_key : (i : Id) (item : Item) (c : CellId × ℕ) → Memᴰ c (item_constants i item) → c.0 ≡ CellId.named i
unfolding item_constants
constant_key i Item.integer c h = absurd (Memᴰ.not-nil h)
constant_key i (Item.constant v) c h = ap (λ (d : CellId × ℕ). d.0) (Memᴰ.eq_of_singleton h)
constant_key i (Item.compconstant v) c h = absurd (Memᴰ.not-nil h)

element_of_array : (number subscript n : ℕ) (c : CellId) → Memᴰ c (elements_of number subscript n) → Of number c
unfolding elements_of
element_of_array number subscript zero c h = absurd (Memᴰ.not-nil h)
element_of_array number subscript (suc n) c h =
    either (CellId.element number subscript ∷ []) (λ x. subst (Of number) (sym (Memᴰ.eq_of_singleton x)) refl) (element_of_array number (suc subscript) n c) h

pub element_in : (n size : ℕ) (c : CellId) → Memᴰ c (elements_in n size) → Of n c
element_in n size = element_of_array n (65536 - size) size

no_element : (n size : ℕ) (c : CellId × ℕ) → Memᴰ c [] → Of n c.0
no_element n size c h = absurd (Memᴰ.not-nil h)

abbrev pub variables : ℕ → List Declaration → List CellId
variables = declared_by item_variables elements_in

abbrev constants : ℕ → List Declaration → List (CellId × ℕ)
constants = declared_by item_constants (λ number size. [])

pub variable_from : (n : ℕ) (ds : List Declaration) (c : CellId) → Memᴰ c (variables n ds) → From n c
variable_from = from item_variables elements_in (λ c. c) variable_key element_in

constant_from : (n : ℕ) (ds : List Declaration) (c : CellId × ℕ) → Memᴰ c (constants n ds) → From n c.0
constant_from = from item_constants (λ number size. []) (λ c. c.0) constant_key no_element

pub local_variable : (q n : ℕ) (ls : List (Name × Item)) (c : CellId) → Memᴰ c (locals_by item_variables q n ls) → LocalFrom item_variables elements_in (λ c. c) variable_key element_in q n c
local_variable = local_from item_variables elements_in (λ c. c) variable_key element_in

local_constant : (q n : ℕ) (ls : List (Name × Item)) (c : CellId × ℕ) → Memᴰ c (locals_by item_constants q n ls)
    → LocalFrom item_constants (λ number size. []) (λ c. c.0) constant_key no_element q n c
local_constant = local_from item_constants (λ number size. []) (λ c. c.0) constant_key no_element

-- ---- Apart

same_local : (q n k : ℕ) → CellId.named (Id.local q n) ≡ CellId.named (Id.local q k) → n ≡ k
same_local q n k e = cc

first_of : (c : CellId) (v w : ℕ) (i : Id) → Memᴰ {A = CellId × ℕ} (c, v) ((CellId.named i, w) ∷ []) → c ≡ CellId.named i
first_of c v w i h = ap (λ (d : CellId × ℕ). d.0) (Memᴰ.eq_of_singleton h)

locals_apart : (q n : ℕ) (ls : List (Name × Item)) (c : CellId) (v : ℕ) → Memᴰ c (locals_by item_variables q n ls) → Memᴰ (c, v) (locals_by item_constants q n ls) → ⊥
unfolding locals_by item_variables item_constants words_taken
locals_apart q n [] c v h k = Memᴰ.not-nil h
locals_apart q n ((name, Item.integer) ∷ ls) c v h k =
    either (CellId.named (Id.local q n) ∷ [])
    (λ x. let r = local_constant q (n + 1) ls (c, v) k in omega (arith, r.least, same_local q n r.number (sym (Memᴰ.eq_of_singleton x) ∙ r.is)))
    (λ x. locals_apart q (n + 1) ls c v x k) h
locals_apart q n ((name, Item.constant w) ∷ ls) c v h k =
    either ((CellId.named (Id.local q n), w) ∷ [])
    (λ x. let r = local_variable q (n + 1) ls c h in omega (arith, r.least, same_local q n r.number (sym (first_of c v w (Id.local q n) x) ∙ r.is)))
    (λ x. locals_apart q (n + 1) ls c v h x) k
locals_apart q n ((name, Item.compconstant w) ∷ ls) c v h k = locals_apart q (n + 0) ls c v h k

-- a cell of one declaration is not of a later one
parted : (n m : ℕ) (i : CellId) → n < m → Of n i → From m i → ⊥
parted n m i l h r = omega (arith, r.least, of_one i n r.number h r.of)

declared_apart : (n : ℕ) (ds : List Declaration) (c : CellId) (v : ℕ) → Memᴰ c (variables n ds) → Memᴰ (c, v) (constants n ds) → ⊥
unfolding declared_by item_variables item_constants words_taken
declared_apart n [] c v h k = Memᴰ.not-nil h
declared_apart n (Declaration.item name Item.integer ∷ ds) c v h k =
    either (CellId.named (Id.global n) ∷ []) (λ x. parted n (n + 1) c (omega arith) (subst (Of n) (sym (Memᴰ.eq_of_singleton x)) refl) (constant_from (n + 1) ds (c, v) k))
    (λ x. declared_apart (n + 1) ds c v x k) h
declared_apart n (Declaration.item name (Item.constant w) ∷ ds) c v h k =
    either ((CellId.named (Id.global n), w) ∷ []) (λ x. parted n (n + 1) c (omega arith) (subst (Of n) (sym (first_of c v w (Id.global n) x)) refl) (variable_from (n + 1) ds c h))
    (λ x. declared_apart (n + 1) ds c v h x) k
declared_apart n (Declaration.item name (Item.compconstant w) ∷ ds) c v h k = declared_apart (n + 0) ds c v h k
declared_apart n (Declaration.array name size checked values ∷ ds) c v h k =
    either (elements_in n size) (λ x. parted n (suc n) c (omega arith) (element_in n size c x) (constant_from (suc n) ds (c, v) k)) (λ x. declared_apart (suc n) ds c v x k) h
declared_apart n (Declaration.procedure name accumulator locals body ∷ ds) c v h k =
    either (locals_by item_variables n 0 locals)
    (λ x. either (locals_by item_constants n 0 locals) (locals_apart n 0 locals c v x)
    (λ y. parted n (suc n) c (omega arith) (subst (Of n) (sym (local_variable n 0 locals c x).is) refl) (constant_from (suc n) ds (c, v) y)) k)
    (λ x. either (locals_by item_constants n 0 locals) (λ y. parted n (suc n) c (omega arith) (subst (Of n) (sym (local_constant n 0 locals (c, v) y).is) refl) (variable_from (suc n) ds c x))
    (declared_apart (suc n) ds c v x) k) h
declared_apart n (Declaration.next_sector ∷ ds) c v h k = declared_apart n ds c v h k

pub apart : (p : Program) (c : CellId) (v : ℕ) → Memᴰ c (variables_of p) → Memᴰ (c, v) (constants_of p) → ⊥
unfolding variables_of constants_of
apart p c v h k =
    either (CellId.named Id.x ∷ [])
    (λ x. let r = constant_from 0 p.declarations (c, v) k in subst (Of r.number) (Memᴰ.eq_of_singleton x) r.of)
    (λ x. declared_apart 0 p.declarations c v x k) h

-- an element is no named constant
constants_named : (n : ℕ) (ds : List Declaration) (a v w : ℕ) → Memᴰ (CellId.element a v, w) (constants n ds) → ⊥
unfolding declared_by
constants_named n [] a v w h = Memᴰ.not-nil h
constants_named n (Declaration.item name item ∷ ds) a v w h =
    either (item_constants (Id.global n) item) (λ x. let e = constant_key (Id.global n) item (CellId.element a v, w) x in let z : ◌≡◌ {A = ℕ} 0 1 = cc in omega arith)
    (constants_named (n + words_taken item) ds a v w) h
constants_named n (Declaration.array name size checked values ∷ ds) a v w h = constants_named (suc n) ds a v w h
constants_named n (Declaration.procedure name accumulator locals body ∷ ds) a v w h =
    either (locals_by item_constants n 0 locals) (λ x. let e = (local_constant n 0 locals (CellId.element a v, w) x).is in let z : ◌≡◌ {A = ℕ} 0 1 = cc in omega arith)
    (constants_named (suc n) ds a v w) h
constants_named n (Declaration.next_sector ∷ ds) a v w h = constants_named n ds a v w h

pub no_element_constant : (p : Program) (a v w : ℕ) → Memᴰ (CellId.element a v, w) (constants_of p) → ⊥
unfolding constants_of
no_element_constant p a v w h = constants_named 0 p.declarations a v w h
