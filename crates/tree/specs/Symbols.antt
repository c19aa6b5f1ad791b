-- The symbol table: what each live name stands for.
use Rattle.std.specs.Prelude.{ℕ, ◌+◌, Bool, true, false, List, ◌∷◌}
use Rattle.std.proofs.Math.Option.{Option, none, some}
use Rattle.prelude.specs.Choice.{whether, find, given}
use Rattle.prelude.specs.Text.{bytes}
use Rattle.source.specs.Bytes.{same_bytes}
use Rattle.tree.specs.Tree.{Id, Array, Operand, Name, Item, Declaration}

-- what a name stands for: an integer; a constant, with its value; a compconstant; an array; a procedure, by its number, which counts
-- with the globals, and whether it is an accumulator procedure; or nothing known: a name not declared, or that of the procedure being read (D15)
pub data Symbol : Type 0 where
  integer : Id → Symbol
  constant : Id → ℕ → Symbol
  compconstant : ℕ → Symbol
  array : Array → Symbol
  procedure : ℕ → Bool → Symbol
  unknown : Symbol

-- the level of a declaration: global, or in the procedure of a number (D14)
pub data Level : Type 0 where
  outer : Level
  inner : ℕ → Level

-- what the table has of a name
pub record Entry : Type 0 where
  pub level : Level
  pub symbol : Symbol

-- as many names may be alive at a time, X not counted (D16, F10)
abbrev pub most_names : ℕ
most_names = 512

-- the live names, newest first; X is not among them (D16)
abbrev pub Names : Type 0
Names = List (Name × Entry)

-- whether a name is X, which needs no declaration (D13)
unfoldable pub is_x : Name → Bool
is_x name = same_bytes name (bytes "X")

-- what a name stands for: X is an integer (D13), any other is what its newest entry says, so that a local hides what is outside (D14)
unfoldable pub symbol_of : Names → Name → Symbol
symbol_of names name =
    whether (is_x name) (λ _. Symbol.integer Id.x) λ _.
    given (find (same_bytes name) names) (λ row. row.1.symbol) (λ _. Symbol.unknown)

-- ---- What a name may be used as

-- a constant or compconstant: its value (D12)
unfoldable pub as_constant : Symbol → Option ℕ
as_constant (Symbol.integer i) = none
as_constant (Symbol.constant i v) = some v
as_constant (Symbol.compconstant v) = some v
as_constant (Symbol.array a) = none
as_constant (Symbol.procedure p accumulator) = none
as_constant Symbol.unknown = none

-- an integer, to be assigned to or to count with (S2, S7)
unfoldable pub as_integer : Symbol → Option Id
as_integer (Symbol.integer i) = some i
as_integer (Symbol.constant i v) = none
as_integer (Symbol.compconstant v) = none
as_integer (Symbol.array a) = none
as_integer (Symbol.procedure p accumulator) = none
as_integer Symbol.unknown = none

-- an integer, a constant or a compconstant (E1)
unfoldable pub as_operand : Symbol → Option Operand
as_operand (Symbol.integer i) = some (Operand.named i)
as_operand (Symbol.constant i v) = some (Operand.named i)
as_operand (Symbol.compconstant v) = some (Operand.literal v)
as_operand (Symbol.array a) = none
as_operand (Symbol.procedure p accumulator) = none
as_operand Symbol.unknown = none

-- an array, whose elements are cells (E2)
unfoldable pub as_array : Symbol → Option Array
as_array (Symbol.integer i) = none
as_array (Symbol.constant i v) = none
as_array (Symbol.compconstant v) = none
as_array (Symbol.array a) = some a
as_array (Symbol.procedure p accumulator) = none
as_array Symbol.unknown = none

-- any procedure, to be called as a statement: its number (S9)
unfoldable pub as_procedure : Symbol → Option ℕ
as_procedure (Symbol.integer i) = none
as_procedure (Symbol.constant i v) = none
as_procedure (Symbol.compconstant v) = none
as_procedure (Symbol.array a) = none
as_procedure (Symbol.procedure p accumulator) = some p
as_procedure Symbol.unknown = none

-- an accumulator procedure, to be called as a term: its number (D10, E6)
unfoldable pub as_function : Symbol → Option ℕ
as_function (Symbol.integer i) = none
as_function (Symbol.constant i v) = none
as_function (Symbol.compconstant v) = none
as_function (Symbol.array a) = none
as_function (Symbol.procedure p true) = some p
as_function (Symbol.procedure p false) = none
as_function Symbol.unknown = none

-- ---- Declaring names

-- whether two levels of live names are one (D14): the locals of a procedure are alive only while it is read, so two inner levels are always the same
unfoldable pub same_level : Level → Level → Bool
same_level Level.outer Level.outer = true
same_level Level.outer (Level.inner p) = false
same_level (Level.inner p) Level.outer = false
same_level (Level.inner p) (Level.inner q) = true

-- what a declaration is read under: the live names, the level that it is at, and how many words are taken there. NUMBERING: a name that takes a word has for its number how many words were taken at its level before it, so `taken` is the number of the next one.
-- A procedure takes a word of the globals; its number is also that of the level of its locals, whose own numbers begin at 0 again
pub record Scope : Type 0 where
  pub names : Names
  pub level : Level
  pub taken : ℕ

-- the id of the next name at a level where so many words are taken
unfoldable pub next_id : Level → ℕ → Id
next_id Level.outer taken = Id.global taken
next_id (Level.inner p) taken = Id.local p taken

-- what an item's name will stand for (D3, D4)
unfoldable pub item_symbol : Scope → Item → Symbol
item_symbol scope Item.integer = Symbol.integer (next_id scope.level scope.taken)
item_symbol scope (Item.constant v) = Symbol.constant (next_id scope.level scope.taken) v
item_symbol scope (Item.compconstant v) = Symbol.compconstant v

-- how many words an item takes: a compconstant has none (D4, A3)
unfoldable pub words_taken : Item → ℕ
words_taken Item.integer = 1
words_taken (Item.constant v) = 1
words_taken (Item.compconstant v) = 0

-- what an item's word starts with (A3, W16); a compconstant's value too, which no word holds
unfoldable pub item_value : Item → ℕ
item_value Item.integer = 0
item_value (Item.constant v) = v
item_value (Item.compconstant v) = v

-- of a declaration, how many words of sector 0 (A3): globals are numbered by them
unfoldable pub globals_of : Declaration → ℕ
globals_of (Declaration.item name item) = words_taken item
globals_of (Declaration.array name size checked values) = 1
globals_of (Declaration.procedure name accumulator locals body) = 1
globals_of Declaration.next_sector = 0

-- the scope after a name's declaration, which takes so many words
unfoldable pub declare : Scope → Name → Symbol → ℕ → Scope
declare scope name symbol words =
    record { names = (name, record { level = scope.level; symbol = symbol }) ∷ scope.names; level = scope.level; taken = scope.taken + words }

-- the scope after an item: from there on its name is known (D15)
unfoldable pub declare_item : Scope → Name × Item → Scope
declare_item scope item = declare scope item.0 (item_symbol scope item.1) (words_taken item.1)

-- the scope of a procedure's locals: the procedure's own name is alive, and not yet known (D15, D16)
unfoldable pub local_scope : Scope → Name → Scope
local_scope scope name = record { names = (declare scope name Symbol.unknown 0).names; level = Level.inner scope.taken; taken = 0 }

-- whether a name may not be declared: it is X, or is declared at this level already (D13, D14, F8)
unfoldable pub is_taken : Scope → Name → Bool
is_taken scope name =
    whether (is_x name) (λ _. true) λ _.
    given (find (same_bytes name) scope.names) (λ row. same_level row.1.level scope.level) (λ _. false)
