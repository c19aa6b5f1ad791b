-- THE MEMORY MAP of a program (group A of docs/REFERENCE.md): what each of the 16,384 words is for.
--
-- A map gives the word at each address its role, what it is for, and not only what it is at first: a word that nothing changes (code, pool, array words, procedure words; of these the HLT of a
-- subscript's test is told apart), the home of a cell, a procedure's link, the word that keeps A while a subscript is tested, or a word that is not used.
-- The image is the first value of each word; the theorems (crate memory_map) and the simulation (crate semantics) go by the roles.
--
-- From the lowest address up, octal where it has a `'`:
--
--     0              X
--     1              not used
--     2              A, while a subscript is tested, in a program whose subscripts are; else not used
--     3 to '177      not used
--     '200 to '777   the globals, a word each as far as they go: an integer or a constant; an array's word; a procedure's word
--     '1000          sector 1: of each procedure its locals, its link and its code; then the pool of the sector; then words not used
--     '2000          sector 2, and so on; the main body is in the sector that is open at its place, the last one
--                    not used
--     up to '37776   the array bodies, each with its subscripts -size to -1 upward, the first array's at the end
--     '37777         not used: element 0 of the first array
--
-- A literal is addressed in the pool of its sector. That pool begins where the sector's code ends, and it is complete only when the sector is closed: by `.NEXTSECTOR`, and the last by the program's end.
-- So the plan of each sector, its pool and where that begins, is found first (`plans_from`), and the words are placed with the plan of the sector that is filled then (`place_all`). Two sectors:
--
--     '1000                      pool_at              '2000                                 pool_at
--       │ procedures of sector 1   │ pool │ not used    │ procedures of sector 2, main body   │ pool │ not used
--                                  └ plan_of 0                                                └ plan_of 1
--
-- `plan_of` k is the plan of the sector that is filled after k others were closed.
use Rattle.std.specs.Prelude.{ℕ, zero, suc, ◌+◌, ◌-◌, ◌%◌, ◌<◌, ◌≡◌, Bool, true, false, List, [], ◌∷◌, ◌++◌, map, leb, eqb, length, get_or, take, drop, replicate}
use Rattle.instruction.specs.Opcode.{JMP, LDX}
use Rattle.instruction.specs.Slot.{HLT}
use Rattle.instruction.specs.Table.{table_of}
use Rattle.instruction.specs.Encode.{memory_word, shift_word}
use Rattle.tree.specs.Tree.{Id, CellId, Operand, Name, Item, Stmts, Declaration, Program}
use Rattle.tree.specs.Symbols.{words_taken, item_value}
use Rattle.layout.specs.Words.{Sym, procedure_words, main_words}
use Rattle.layout.specs.Pool.{index_of}
use Rattle.layout.specs.Allocation.{Allocation, start, link_of, allocate, allocated, finish}
use Rattle.layout.specs.Addresses.{memory_words, sector_words, first_global, saved_word, array_tag}

-- ---- Symbolic words as words

-- where the words of a body find what they name: the pool of their sector, the address of its first word, and the first local of their procedure
pub record Frame : Type 0 where
  pub pool : List ℕ
  pub pool_at : ℕ
  pub locals : ℕ

-- X is word 0, globals go from '200 on, locals from their procedure's first, literals from the pool's first (W1, A2, A3)
unfoldable pub address_of : Frame → Operand → ℕ
address_of f (Operand.named Id.x) = 0
address_of f (Operand.named (Id.global n)) = first_global + n
address_of f (Operand.named (Id.local p n)) = f.locals + n
address_of f (Operand.literal v) = f.pool_at + index_of f.pool v

-- a memory reference: its sector bit is set if the address is not in sector 0 (A10), its tag if it is LDX (I2)
unfoldable pub reference : ℕ → Bool → ℕ → ℕ
reference opcode indirect address = memory_word opcode indirect (eqb opcode LDX) (leb sector_words address) (address % sector_words)

-- the word of HLT
abbrev pub halt_word : ℕ
halt_word = get_or table_of HLT 0

-- the word of each: indirect through an array's or procedure's word, and to a link (W2, W14, W16); of a test on word 2, and HLT (W19)
unfoldable pub word_of : Frame → Sym → ℕ
word_of f (Sym.generic slot) = get_or table_of slot 0
word_of f (Sym.shift kind n) = shift_word kind n
word_of f (Sym.memory opcode o) = reference opcode false (address_of f o)
word_of f (Sym.through opcode n) = reference opcode true (first_global + n)
word_of f (Sym.jump z) = reference JMP false z
word_of f (Sym.return link) = reference JMP true link
word_of f (Sym.saved opcode) = reference opcode false saved_word
word_of f Sym.stop = halt_word

-- ---- The map

-- the role of a word: one of the image that nothing changes; the HLT of a subscript's test, which nothing changes either; the home of a cell, with its initial value; the link of a procedure;
-- the word that keeps A while a subscript is tested; not used
pub data Role : Type 0 where
  fixed : ℕ → Role
  stop : Role
  cell : CellId → ℕ → Role
  link : ℕ → Role
  saved : Role
  free : Role

-- its value in the image: a link is 0 (W16), and so are the word that keeps A and one that is not used (A6, A12)
abbrev pub initial : Role → ℕ
initial (Role.fixed w) = w
initial Role.stop = halt_word
initial (Role.cell c v) = v
initial (Role.link p) = 0
initial Role.saved = 0
initial Role.free = 0

-- a symbolic word's role
unfoldable pub role_of : Frame → Sym → Role
role_of f (Sym.generic slot) = Role.fixed (word_of f (Sym.generic slot))
role_of f (Sym.shift kind n) = Role.fixed (word_of f (Sym.shift kind n))
role_of f (Sym.memory opcode o) = Role.fixed (word_of f (Sym.memory opcode o))
role_of f (Sym.through opcode n) = Role.fixed (word_of f (Sym.through opcode n))
role_of f (Sym.jump z) = Role.fixed (word_of f (Sym.jump z))
role_of f (Sym.return l) = Role.fixed (word_of f (Sym.return l))
role_of f (Sym.saved opcode) = Role.fixed (word_of f (Sym.saved opcode))
role_of f Sym.stop = Role.stop

unfoldable pub fixed_words : Frame → List Sym → List Role
fixed_words f ws = map (role_of f) ws

-- a map with some words from an address on replaced
unfoldable pub placed : List Role → ℕ → List Role → List Role
placed m at ws = take at m ++ (ws ++ drop (at + length ws) m)

-- the words that an item takes, with the id that is next: an integer one with 0, a constant one with its value (A3, W16)
unfoldable pub item_words : Id → Item → List Role
item_words i item = replicate (words_taken item) (Role.cell (CellId.named i) (item_value item))

-- a procedure's locals, from the nth that takes a word on (W16)
unfoldable pub local_items : ℕ → ℕ → List (Name × Item) → List Role
local_items p n [] = []
local_items p n (l ∷ ls) = let ws = item_words (Id.local p n) l.1 in ws ++ local_items p (n + length ws) ls

-- the elements of an array from a subscript on, upward: its initial values, then zeros (D7, A5)
unfoldable pub elements : ℕ → ℕ → ℕ → List ℕ → List Role
elements number subscript zero values = []
elements number subscript (suc n) [] = Role.cell (CellId.element number subscript) 0 ∷ elements number (suc subscript) n []
elements number subscript (suc n) (v ∷ vs) = Role.cell (CellId.element number subscript) v ∷ elements number (suc subscript) n vs

-- the pool of a sector, and the address of its first word
pub record Plan : Type 0 where
  pub pool : List ℕ
  pub pool_at : ℕ

abbrev pub frame : Plan → ℕ → Frame
frame p locals = record { pool = p.pool; pool_at = p.pool_at; locals = locals }

-- a declaration's words, under the allocation before it and the plan of its sector
unfoldable pub place_declaration : Plan → Allocation → Declaration → List Role → List Role
-- an item: the next word of the globals, if it takes one (A3)
place_declaration p st (Declaration.item name item) m = placed m (first_global + st.scope.taken) (item_words (Id.global st.scope.taken) item)
-- an array: its word, with the tag and the address of element 0 (A3); its elements, -size to -1, end right below that (A5)
place_declaration p st (Declaration.array name size checked values) m =
    let number = st.scope.taken in
    placed (placed m (first_global + number) (Role.fixed (array_tag + st.array) ∷ [])) (st.array - size) (elements number (65536 - size) size values)
-- a procedure: its word, the link's address (A3); its locals, its link, its code (W16)
place_declaration p st (Declaration.procedure name accumulator locals body) m =
    let number = st.scope.taken in
    let at = link_of st name locals in
    placed (placed m (first_global + number) (Role.fixed at ∷ [])) st.next
    (local_items number 0 locals ++ (Role.link number ∷ fixed_words (frame p st.next) (procedure_words body at)))
-- the pool of the sector that is closed, behind its code (A8)
place_declaration p st Declaration.next_sector m = placed m st.next (map Role.fixed st.pool)

-- each declaration under the allocation after those before it, and the plan of the sector that is filled then
unfoldable pub place_all : (ℕ → Plan) → Allocation → List Declaration → List Role → List Role
place_all plan st [] m = m
place_all plan st (d ∷ ds) m = place_all plan (allocate st d) ds (place_declaration (plan (length st.ends)) st d m)

-- the role of word 2, by whether subscripts are tested (A12)
unfoldable pub saved_role : Bool → Role
saved_role true = Role.saved
saved_role false = Role.free

-- of a sector that a program has not
abbrev pub no_plan : Plan
no_plan = record { pool = []; pool_at = 0 }

-- the plan of the sector that is closed at an allocation: the pool begins where the code ends (A8)
abbrev pub plan_at : Allocation → Plan
plan_at st = record { pool = st.pool; pool_at = st.next }

-- the plans of the sectors that are closed from an allocation on, in order: one at each `.NEXTSECTOR`, the last at the program's end (A8)
unfoldable pub plans_from : Allocation → List Declaration → Stmts → List Plan
plans_from st [] main = plan_at (finish st main) ∷ []
plans_from st (Declaration.item name item ∷ ds) main = plans_from (allocate st (Declaration.item name item)) ds main
plans_from st (Declaration.array name size checked values ∷ ds) main = plans_from (allocate st (Declaration.array name size checked values)) ds main
plans_from st (Declaration.procedure name accumulator locals body ∷ ds) main = plans_from (allocate st (Declaration.procedure name accumulator locals body)) ds main
plans_from st (Declaration.next_sector ∷ ds) main = plan_at st ∷ plans_from (allocate st Declaration.next_sector) ds main

module _ (p : Program) where
  -- after the declarations, and after the main body
  unfoldable pub declared : Allocation
  declared = allocated p.declarations

  unfoldable pub finished : Allocation
  finished = finish declared p.main

  -- the plan of the sector after k closed ones
  unfoldable pub plan_of : ℕ → Plan
  plan_of k = get_or (plans_from start p.declarations p.main) k no_plan

  -- before anything is declared: X at word 0 (A2), and at word 2, with `.CHECKED`, the word that keeps A in a test (A12)
  unfoldable pub front : List Role
  front = placed (replicate memory_words Role.free) 0 (Role.cell (CellId.named Id.x) 0 ∷ Role.free ∷ saved_role p.checked ∷ [])

  -- the front, then the declarations; the main body and the last pool come last (A4, A8); nothing else is used (A6)
  unfoldable pub map_of : List Role
  map_of =
      let plan = plan_of (length declared.ends) in
      placed (place_all plan_of start p.declarations front) declared.next
      (fixed_words (frame plan declared.next) (main_words p.main declared.next) ++ map Role.fixed plan.pool)

  -- the image: the initial value of each word (A1)
  unfoldable pub image_of : List ℕ
  image_of = map initial map_of

-- the map as a function of the address
abbrev pub map_at : Program → ℕ → Role
map_at p k = get_or (map_of p) k Role.free

-- the one word where a cell stands (demand 3g)
pub record Home (p : Program) (i : CellId) : Type 0 where
  pub at : ℕ
  pub value : ℕ
  pub below : at < memory_words
  pub here : map_at p at ≡ Role.cell i value
  pub only : (k v : ℕ) → k < memory_words → map_at p k ≡ Role.cell i v → k ≡ at
