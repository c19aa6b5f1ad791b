-- The cells that a program declares: its variables, and its named constants with their values (M2); and its arrays.
use Rattle.std.specs.Prelude.{ℕ, zero, suc, ◌+◌, ◌-◌, ◌≡◌, true}
use mathlib.Core.List.{List, [], ◌∷◌, ◌++◌, Memᴰ}
use Rattle.tree.specs.Symbols.{words_taken}
use Rattle.tree.specs.Tree.{Id, CellId, Array, is_inside, Name, Item, Declaration, Program}

-- of an item with the id that it takes, if it takes one
unfoldable pub item_variables : Id → Item → List CellId
item_variables i Item.integer = CellId.named i ∷ []
item_variables i (Item.constant v) = []
item_variables i (Item.compconstant v) = []

unfoldable pub item_constants : Id → Item → List (CellId × ℕ)
item_constants i Item.integer = []
item_constants i (Item.constant v) = (CellId.named i, v) ∷ []
item_constants i (Item.compconstant v) = []

-- a list's items, each with the id of its place among those that take a word
unfoldable pub locals_by : {A : Type 0} → (Id → Item → List A) → ℕ → ℕ → List (Name × Item) → List A
locals_by cells p n [] = []
locals_by cells p n (l ∷ ls) = cells (Id.local p n) l.1 ++ locals_by cells p (n + words_taken l.1) ls

-- the elements of an array, from a subscript on (D7)
unfoldable pub elements_of : ℕ → ℕ → ℕ → List CellId
elements_of number subscript zero = []
elements_of number subscript (suc n) = CellId.element number subscript ∷ elements_of number (suc subscript) n

unfoldable pub declared_by : {A : Type 0} → (Id → Item → List A) → (ℕ → ℕ → List A) → ℕ → List Declaration → List A
declared_by cells elements n [] = []
declared_by cells elements n (Declaration.item name item ∷ ds) = cells (Id.global n) item ++ declared_by cells elements (n + words_taken item) ds
declared_by cells elements n (Declaration.array name size checked values ∷ ds) = elements n size ++ declared_by cells elements (suc n) ds
declared_by cells elements n (Declaration.procedure name accumulator locals body ∷ ds) = locals_by cells n 0 locals ++ declared_by cells elements (suc n) ds
declared_by cells elements n (Declaration.next_sector ∷ ds) = declared_by cells elements n ds

-- the variables, X among them (M2)
unfoldable pub variables_of : Program → List CellId
variables_of p = CellId.named Id.x ∷ declared_by item_variables (λ number size. elements_of number (65536 - size) size) 0 p.declarations

-- the named constants, each with the value that every start gives it (M2)
unfoldable pub constants_of : Program → List (CellId × ℕ)
constants_of p = declared_by item_constants (λ number size. []) 0 p.declarations

-- a cell of the program, and a value that an image may have there: a variable with any, a named constant with its own (M2)
pub data Declares (p : Program) : CellId → ℕ → Type 0 where
  variable : {i : CellId} {v : ℕ} → Memᴰ i (variables_of p) → Declares p i v
  constant : {i : CellId} {v : ℕ} → Memᴰ (i, v) (constants_of p) → Declares p i v

-- the arrays; their subscripts are tested or not as the program says (D5, D17)
unfoldable pub arrays_of : Program → List Array
arrays_of p = declared_by (λ i item. []) (λ number size. record { number = number; size = size; checked = p.checked } ∷ []) 0 p.declarations

-- a word is one of an array's subscripts exactly if the element that it names is a variable (D7, M9)
pub record Elements (p : Program) (a : Array) : Type 0 where
  pub inside : (v : ℕ) → is_inside a v ≡ true → Memᴰ (CellId.element a.number v) (variables_of p)
  pub only_inside : (v : ℕ) → Memᴰ (CellId.element a.number v) (variables_of p) → is_inside a v ≡ true
