-- The live names that a table holds. An entry is seven words: the packed name, the level, and a tag, a number and a value that give the symbol.
use Rattle.std.specs.Prelude.{ℕ, zero, suc, ◌+◌, ◌*◌, ◌/◌, ◌≤◌, ◌≡◌, true, false, cond, List, [], ◌∷◌, get_or, length, set, take, eqb, leb, ltb}
use Rattle.std.specs.Prelude.{Option as Place, None, Some}
use Rattle.std.proofs.Math.Option.{Option, none, some}
use Rattle.prelude.specs.Choice.{whether, find}
use Rattle.source.specs.Bytes.{same_bytes}
use Rattle.tree.specs.Tree.{Id, Name}
use Rattle.tree.specs.Symbols.{Symbol, Level, Entry, Names, next_id}
use Rattle.symbols.specs.declared.Packed.{Packed}
use Rattle.symbols.specs.declared.Data.{Data}
use Rattle.symbols.specs.Packing.{packed_at, unpack}

-- the words of an entry
abbrev pub entry_words : ℕ
entry_words = 7

-- ---- Symbols as words

-- what an id counts at its level
unfoldable pub number_of : Id → ℕ
number_of Id.x = 0
number_of (Id.global n) = n
number_of (Id.local p n) = n

-- an array's value is its size, and its tag says whether its subscripts are tested
unfoldable pub data_of : Symbol → Data
data_of (Symbol.integer i) = record { tag = 1; number = number_of i; value = 0 }
data_of (Symbol.constant i v) = record { tag = 2; number = number_of i; value = v }
data_of (Symbol.compconstant v) = record { tag = 3; number = 0; value = v }
data_of (Symbol.array a) = record { tag = cond a.checked 7 4; number = a.number; value = a.size }
data_of (Symbol.procedure p accumulator) = record { tag = cond accumulator 6 5; number = p; value = 0 }
data_of Symbol.unknown = record { tag = 0; number = 0; value = 0 }

-- the symbol that words give at a level: an id is of that level
unfoldable pub symbol_from : Level → Data → Symbol
symbol_from level d =
    whether (eqb d.tag 1) (λ _. Symbol.integer (next_id level d.number)) λ _.
    whether (eqb d.tag 2) (λ _. Symbol.constant (next_id level d.number) d.value) λ _.
    whether (eqb d.tag 3) (λ _. Symbol.compconstant d.value) λ _.
    whether (eqb d.tag 4) (λ _. Symbol.array (record { number = d.number; size = d.value; checked = false })) λ _.
    whether (eqb d.tag 5) (λ _. Symbol.procedure d.number false) λ _.
    whether (eqb d.tag 6) (λ _. Symbol.procedure d.number true) λ _.
    whether (eqb d.tag 7) (λ _. Symbol.array (record { number = d.number; size = d.value; checked = true })) λ _.
    Symbol.unknown

-- ---- Entries

-- the level of a word: 0 is global, 1 more than a procedure's number is in that procedure
unfoldable pub level_of : ℕ → Level
level_of zero = Level.outer
level_of (suc p) = Level.inner p

-- the entry at an offset of a table
unfoldable pub entry_at : List ℕ → ℕ → Entry
entry_at table at =
    let level = level_of (get_or table (at + 3) 0) in
    record { level = level; symbol = symbol_from level (record { tag = get_or table (at + 4) 0; number = get_or table (at + 5) 0; value = get_or table (at + 6) 0 }) }

unfoldable pub row_at : List ℕ → ℕ → Name × Entry
row_at table at = (unpack (packed_at table at), entry_at table at)

-- the row of a number, counted from 0; past the table's end no characters, and nothing known
unfoldable pub row_of : List ℕ → ℕ → Name × Entry
row_of table i =
    whether (ltb i (length table / entry_words)) (λ _. row_at table (entry_words * i)) (λ _. ([], record { level = Level.outer; symbol = Symbol.unknown }))

-- THE LIVE NAMES of a table's first so many entries, newest first (D16)
unfoldable pub entries_of : ℕ → List ℕ → Names
entries_of zero table = []
entries_of (suc n) table = row_at table (entry_words * n) ∷ entries_of n table

-- ---- Finding a name

-- a table too short for its count holds nothing
unfoldable pub live_names : ℕ → List ℕ → Names
live_names count table = whether (leb count (length table / entry_words)) (λ _. entries_of count table) (λ _. [])

-- the row of a table at a place that was found, counted from 0
unfoldable pub nth_in : List ℕ → Place ℕ → Option (Name × Entry)
nth_in table None = none
nth_in table (Some i) = some (row_at table (entry_words * i))

-- the place of a name's newest row, if there is one
pub record Newest (count : ℕ) (table : List ℕ) (name : Packed) (found : Place ℕ) : Type 0 where
  pub inside : (i : ℕ) → found ≡ Some i → entry_words * i + entry_words ≤ length table
  pub row : find (same_bytes (unpack name)) (live_names count table) ≡ nth_in table found

-- ---- Declaring a name

-- words stored at an offset, from its k-th word on
unfoldable pub with_words : List ℕ → ℕ → ℕ → List ℕ → List ℕ
with_words table at k [] = table
with_words table at k (w ∷ ws) = with_words (set table (at + k) w) at (suc k) ws

-- the words of an entry stored at an offset
unfoldable pub with_row : List ℕ → ℕ → Packed → ℕ → Data → List ℕ
with_row table at name level d =
    with_words (set table at name.one) at 1 (name.two ∷ name.three ∷ level ∷ d.tag ∷ d.number ∷ d.value ∷ [])

-- a table without room stays as it is
unfoldable pub table_with : ℕ → List ℕ → Packed → ℕ → Symbol → List ℕ
table_with count table name level symbol =
    whether (ltb count (length table / entry_words)) (λ _. with_row table (entry_words * count) name level (data_of symbol)) (λ _. table)

-- a symbol as a level has it: an id is of that level
unfoldable pub at_level : Level → Symbol → Symbol
at_level level (Symbol.integer i) = Symbol.integer (next_id level (number_of i))
at_level level (Symbol.constant i v) = Symbol.constant (next_id level (number_of i)) v
at_level level (Symbol.compconstant v) = Symbol.compconstant v
at_level level (Symbol.array a) = Symbol.array a
at_level level (Symbol.procedure p accumulator) = Symbol.procedure p accumulator
at_level level Symbol.unknown = Symbol.unknown

unfoldable pub entry_of : ℕ → Symbol → Entry
entry_of level symbol = record { level = level_of level; symbol = at_level (level_of level) symbol }

-- what a declaration does to a table: these words, so that the new entry is the newest, and the older ones stay
pub record Entered (count : ℕ) (before : List ℕ) (name : Packed) (level : ℕ) (symbol : Symbol) (after : List ℕ) : Type 0 where
  pub words : after ≡ table_with count before name level symbol
  pub newest : entry_words * (count + 1) ≤ length before → entries_of (count + 1) after ≡ (unpack name, entry_of level symbol) ∷ entries_of count before
  pub kept : take (entry_words * count) after ≡ take (entry_words * count) before
