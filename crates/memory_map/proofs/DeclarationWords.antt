-- The words that a declaration becomes: how many, and which.
use Prim.Native.Nat.{ℕ, zero, suc, ◌+◌, ◌<◌}
use mathlib.Core.Path.{◌≡◌, refl, sym, ap, ◌∙◌, subst}
use mathlib.Core.List.{List, [], ◌∷◌, ◌++◌, map, foldl}
use native.Mathlib.Omega.{arith}
use native.Mathlib.Nat.{add-zero}
use lib.ListN.{length, get_or, length-append, length-map}
use Rattle.tree.specs.Tree.{Id, CellId, Name, Item}
use Rattle.tree.specs.Symbols.{Scope, item_symbol, words_taken, declare, declare_item, local_scope, item_value}
use Rattle.layout.specs.Allocation.{Allocation, local_words}
use Rattle.layout.specs.Words.{Sym}
use Rattle.layout.specs.Map.{Role, Frame, role_of, fixed_words, item_words, local_items, elements}
use Rattle.parsing_laws.specs.WellFormed.{item_kinds}
use Rattle.memory_map.specs.Laid.{Map}
use Rattle.memory_map.proofs.Bodies.{Fixed}

on : (a n : ℕ) → suc a + n ≡ a + suc n
on a n = omega arith

pub item_length : (i : Id) (item : Item) → length (item_words i item) ≡ length (item_kinds item)
unfolding item_words words_taken item_value
item_length i Item.integer = refl
item_length i (Item.constant v) = refl
item_length i (Item.compconstant v) = refl

-- ---- Elements

pub elements_length : (number subscript n : ℕ) (values : List ℕ) → length (elements number subscript n values) ≡ n
unfolding elements
elements_length number subscript zero values = refl
elements_length number subscript (suc n) [] = ap suc (elements_length number (suc subscript) n [])
elements_length number subscript (suc n) (v ∷ vs) = ap suc (elements_length number (suc subscript) n vs)

pub elements_at : (number subscript n : ℕ) (values : List ℕ) (j : ℕ) → j < n
    → get_or (elements number subscript n values) j Role.free ≡ Role.cell (CellId.element number (subscript + j)) (get_or values j 0)
unfolding elements
elements_at number subscript zero values j h = absurd (omega arith)
elements_at number subscript (suc n) [] zero h = ap (λ (s : ℕ). Role.cell (CellId.element number s) 0) (sym (add-zero subscript))
elements_at number subscript (suc n) (v ∷ vs) zero h = ap (λ (s : ℕ). Role.cell (CellId.element number s) v) (sym (add-zero subscript))
elements_at number subscript (suc n) [] (suc j) h =
    elements_at number (suc subscript) n [] j (omega arith) ∙ ap (λ (s : ℕ). Role.cell (CellId.element number s) 0) (on subscript j)
elements_at number subscript (suc n) (v ∷ vs) (suc j) h =
    elements_at number (suc subscript) n vs j (omega arith) ∙ ap (λ (s : ℕ). Role.cell (CellId.element number s) (get_or vs j 0)) (on subscript j)

-- ---- Locals

local_count : (p n : ℕ) (scope : Scope) (ls : List (Name × Item)) → (foldl declare_item scope ls).taken ≡ scope.taken + length (local_items p n ls)
unfolding local_items item_words declare_item declare item_symbol words_taken item_value
local_count p n scope [] = sym (add-zero scope.taken)
local_count p n scope ((name, Item.integer) ∷ ls) = local_count p (n + 1) (declare_item scope (name, Item.integer)) ls ∙ one scope.taken _
  where
    one : (a b : ℕ) → a + 1 + b ≡ a + suc b
    one a b = omega arith
local_count p n scope ((name, Item.constant v) ∷ ls) = local_count p (n + 1) (declare_item scope (name, Item.constant v)) ls ∙ one scope.taken _
  where
    one : (a b : ℕ) → a + 1 + b ≡ a + suc b
    one a b = omega arith
local_count p n scope ((name, Item.compconstant v) ∷ ls) = local_count p (n + 0) (declare_item scope (name, Item.compconstant v)) ls ∙ none scope.taken _
  where
    none : (a b : ℕ) → a + 0 + b ≡ a + b
    none a b = omega arith

pub local_length : (st : Allocation) (name : Name) (p : ℕ) (ls : List (Name × Item)) → length (local_items p 0 ls) ≡ local_words st name ls
unfolding local_words local_scope
local_length st name p ls = let h = local_count p 0 (local_scope st.scope name) ls in omega arith

-- the word of a local
pub record Local (p n : ℕ) (w : Role) : Type 0 where
  pub value : ℕ
  pub is : w ≡ Role.cell (CellId.named (Id.local p n)) value

local_as : {p : ℕ} {w : Role} (a b : ℕ) → a ≡ b → Local p a w → Local p b w
local_as {p} {w} a b e h = subst (λ (n : ℕ). Local p n w) e h

pub local_at : (p n : ℕ) (ls : List (Name × Item)) (j : ℕ) → j < length (local_items p n ls) → Local p (n + j) (get_or (local_items p n ls) j Role.free)
unfolding local_items item_words words_taken item_value
local_at p n [] j h = absurd (omega arith)
local_at p n ((name, Item.integer) ∷ ls) zero h = local_as n (n + 0) (omega arith) (record { value = 0; is = refl })
local_at p n ((name, Item.integer) ∷ ls) (suc j) h = local_as (n + 1 + j) (n + suc j) (omega arith) (local_at p (n + 1) ls j (omega arith))
local_at p n ((name, Item.constant v) ∷ ls) zero h = local_as n (n + 0) (omega arith) (record { value = v; is = refl })
local_at p n ((name, Item.constant v) ∷ ls) (suc j) h = local_as (n + 1 + j) (n + suc j) (omega arith) (local_at p (n + 1) ls j (omega arith))
local_at p n ((name, Item.compconstant v) ∷ ls) j h = local_as (n + 0 + j) (n + j) (omega arith) (local_at p (n + 0) ls j h)

-- ---- Fixed words

pub fixed_length : (f : Frame) (ws : List Sym) → length (fixed_words f ws) ≡ length ws
unfolding fixed_words
fixed_length f ws = length-map ws (role_of f)

pub fixed_from : (M : Map) (f : Frame) (ws : List Sym) (a : ℕ) → ((j : ℕ) → j < length ws → M (a + j) ≡ get_or (fixed_words f ws) j Role.free) → Fixed M f a ws
unfolding fixed_words
fixed_from M f [] a h = Fixed.none
fixed_from M f (w ∷ ws) a h =
    Fixed.word (ap M (sym (add-zero a)) ∙ h 0 (omega arith)) (fixed_from M f ws (suc a) (λ j l. ap M (on a j) ∙ h (suc j) (omega arith)))

pub pool_at_lem : (vs : List ℕ) (i : ℕ) → i < length vs → get_or (map Role.fixed vs) i Role.free ≡ Role.fixed (get_or vs i 0)
pool_at_lem [] i h = absurd (omega arith)
pool_at_lem (v ∷ vs) zero h = refl
pool_at_lem (v ∷ vs) (suc i) h = pool_at_lem vs i (omega arith)

-- a procedure's words
pub procedure_length : (st : Allocation) (name : Name) (p : ℕ) (ls : List (Name × Item)) (f : Frame) (ws : List Sym)
    → length (local_items p 0 ls ++ (Role.link p ∷ fixed_words f ws)) ≡ local_words st name ls + suc (length ws)
procedure_length st name p ls f ws =
    omega (arith, length-append (local_items p 0 ls) (Role.link p ∷ fixed_words f ws), local_length st name p ls, fixed_length f ws)
