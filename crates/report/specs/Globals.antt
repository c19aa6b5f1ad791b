-- The globals as the machine's memory has them.
use Rattle.std.specs.Prelude.{Bool, not, ℕ, zero, suc, ◌+◌, ◌-◌, ◌%◌, ◌||◌, List, [], ◌∷◌, ◌++◌, eqb, get_or}
use Rattle.prelude.specs.Choice.{whether}
use Rattle.digits.specs.Digits.{decimal, signed, newline}
use Rattle.prelude.specs.Text.{bytes}
use Rattle.tree.specs.Tree.{Id, Name, Item, Declaration}
use Rattle.tree.specs.Symbols.{Symbol, Names}
use Rattle.layout.specs.Addresses.{first_global, first_array}
use Rattle.layout.specs.Allocation.{Allocation, allocate}

-- an integer: its name and its word, signed (O5)
unfoldable pub integer_text : List ℕ → Name → ℕ → List ℕ
integer_text memory name number = name ++ (bytes " = " ++ (signed (get_or memory (first_global + number) 0) ++ newline))

-- ---- Arrays, ten elements to a row (O6)

-- the place in its row of the element of subscript -k, in an array of a size
abbrev pub place_in_row : ℕ → ℕ → ℕ
place_in_row size k = (size - k) % 10

-- before an element: at the start of a row the array and the element's subscript, else a comma
unfoldable pub element_head : Name → ℕ → ℕ → List ℕ
element_head name column k = whether (eqb column 0) (λ _. name ++ (bytes "[-" ++ (decimal k ++ bytes "] = "))) (λ _. bytes ", ")

-- behind it: a row ends after ten elements, and with the array
unfoldable pub element_end : ℕ → ℕ → List ℕ
element_end column k = whether (eqb column 9 || eqb k 1) (λ _. newline) (λ _. [])

-- an element, by its column and its word
abbrev pub element_text : Name → ℕ → ℕ → ℕ → List ℕ
element_text name column k word = element_head name column k ++ (signed word ++ element_end column k)

-- the elements of the subscripts -k to -1, k words below element 0 and on (O6)
unfoldable pub elements_text : List ℕ → Name → ℕ → ℕ → ℕ → List ℕ
elements_text memory name size origin zero = []
elements_text memory name size origin (suc n) =
    element_text name (place_in_row size (suc n)) (suc n) (get_or memory (origin - suc n) 0) ++ elements_text memory name size origin n

-- an array, by the address of its element 0 (O6)
unfoldable pub array_text : List ℕ → Name → ℕ → ℕ → List ℕ
array_text memory name size origin =
    whether (eqb size 0) (λ _. name ++ bytes " has no elements\n") (λ _. elements_text memory name size origin size)

-- ---- In order of declaration

-- a declaration, under the allocation before it: the words are those of the memory map (`place_declaration`)
unfoldable pub declaration_text : List ℕ → Allocation → Declaration → List ℕ
declaration_text memory st (Declaration.item name Item.integer) = integer_text memory name st.scope.taken
declaration_text memory st (Declaration.item name (Item.constant v)) = []
declaration_text memory st (Declaration.item name (Item.compconstant v)) = []
declaration_text memory st (Declaration.array name size checked values) = array_text memory name size st.array
declaration_text memory st (Declaration.procedure name accumulator locals body) = []
declaration_text memory st Declaration.next_sector = []

-- THE GLOBALS: each integer and each array (O5, O6)
unfoldable pub globals_text : List ℕ → Allocation → List Declaration → List ℕ
globals_text memory st [] = []
globals_text memory st (d ∷ ds) = declaration_text memory st d ++ globals_text memory (allocate st d) ds

-- ---- The same by the symbol table, newest first

-- a byte of a name, which is none of the zeros that fill it
abbrev pub is_some_byte : ℕ → Bool
is_some_byte b = not (eqb b 0)

-- how many elements a symbol takes, and element 0 of the next array after some names (A5)
unfoldable pub size_of : Symbol → ℕ
size_of (Symbol.integer i) = 0
size_of (Symbol.constant i v) = 0
size_of (Symbol.compconstant v) = 0
size_of (Symbol.array a) = a.size
size_of (Symbol.procedure p accumulator) = 0
size_of Symbol.unknown = 0

unfoldable pub next_array : Names → ℕ
next_array [] = first_array
next_array (row ∷ older) = next_array older - size_of row.1.symbol

unfoldable pub id_text : List ℕ → Name → Id → List ℕ
id_text memory name Id.x = []
id_text memory name (Id.global n) = integer_text memory name n
id_text memory name (Id.local p n) = []

unfoldable pub symbol_text : List ℕ → Name → ℕ → Symbol → List ℕ
symbol_text memory name origin (Symbol.integer i) = id_text memory name i
symbol_text memory name origin (Symbol.constant i v) = []
symbol_text memory name origin (Symbol.compconstant v) = []
symbol_text memory name origin (Symbol.array a) = array_text memory name a.size origin
symbol_text memory name origin (Symbol.procedure p accumulator) = []
symbol_text memory name origin Symbol.unknown = []

unfoldable pub names_text : List ℕ → Names → List ℕ
names_text memory [] = []
names_text memory (row ∷ older) = names_text memory older ++ symbol_text memory row.0 (next_array older) row.1.symbol
