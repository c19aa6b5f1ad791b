-- Names and items declared: the code's scope as the definitions'.
use Rattle.std.specs.Prelude.{ℕ, ◌+◌, ◌*◌, ◌≤◌, ◌<◌, ◌≡◌, eqb, leb, length, take, Result, Ok, Err}
use Rattle.std.specs.Prelude.{Option as Found, None, Some}
use Rattle.std.proofs.Math.Option.{Option, none, some}
use mathlib.Core.List.{List, foldl}
use Rattle.prelude.specs.Choice.{whether, find, given}
use Rattle.source.specs.Kinds
use Rattle.source.specs.declared.Token.{Token}
use Rattle.tree.specs.Tree as tree
use Rattle.tree.specs.Symbols as symbols
use Rattle.grammar.specs.Parse.{is}
use Rattle.grammar.specs.Declarations as declarations
use Rattle.symbols.specs.declared.Packed.{Packed}
use Rattle.symbols.specs.Packing.{unpack}
use Rattle.symbols.specs.Table.{level_of, live_names}
use Rattle.parser.specs.declared.Cause.{Cause}
use Rattle.parser.specs.Failures.{number_of}
use Rattle.layout.specs.Emission.{stored, local_values}
use Rattle.declarations.specs.declared.Scope.{Scope}
use Rattle.declarations.specs.declared.ItemKeyword.{ItemKeyword}
use Rattle.declarations.specs.declared.Item.{Item}

-- ABSTRACTION: the definitions' scope that the code's stands for, with the symbol table in lent words
abbrev pub scope_of : Scope → List ℕ → symbols.Scope
scope_of s table = record { names = live_names s.names table; level = level_of s.level; taken = s.taken }

unfoldable pub tree_keyword : ItemKeyword → declarations.ItemKeyword
tree_keyword ItemKeyword.Integer = declarations.ItemKeyword.integer
tree_keyword ItemKeyword.Constant = declarations.ItemKeyword.constant
tree_keyword ItemKeyword.Compconstant = declarations.ItemKeyword.compconstant

unfoldable pub tree_item : Item → tree.Item
tree_item Item.Integer = tree.Item.integer
tree_item (Item.Constant v) = tree.Item.constant v
tree_item (Item.Compconstant v) = tree.Item.compconstant v

-- a name and its item
abbrev pub tree_named : Packed × Item → tree.Name × tree.Item
tree_named x = (unpack x.0, tree_item x.1)

-- the item keyword of a kind of token
unfoldable pub keyword_of : ℕ → Option declarations.ItemKeyword
keyword_of kind = given (find (eqb kind) declarations.item_keywords) (λ row. some row.1) (λ _. none)

unfoldable pub tree_found : Found ItemKeyword → Option declarations.ItemKeyword
tree_found (Some w) = some (tree_keyword w)
tree_found None = none

-- what a limit is by its number, as the definitions have it: 0 where it is not passed
abbrev pub Limits : {X : Type 0} → Result X Cause → ℕ → Type 0
Limits (Ok _) n = n ≡ 0
Limits (Err cause) n = (n ≡ number_of cause) × (0 < n)

-- the failure of a new name, by its token and its characters that count, with the limit of its word; or 0 (F8, F10, J7)
unfoldable pub name_failure : symbols.Scope → ℕ → Token → tree.Name → ℕ
name_failure scope limit t name =
    whether (is Kinds.name t)
    (λ _. whether (symbols.is_taken scope name) (λ _. 8) λ _.
    whether (leb symbols.most_names (length scope.names)) (λ _. 10) λ _. limit)
    (λ _. 6)

-- the words of a table of as many names as may be alive
abbrev pub table_words : ℕ
table_words = 3584

-- the table has room for the 512 names that may be alive, and no more are (D16); each word is a name's
pub record Room (s : Scope) (table : List ℕ) : Type 0 where
  pub long : table_words ≤ length table
  pub few : s.names ≤ symbols.most_names
  pub each : s.taken ≤ s.names

-- items declared: the scope is the definition's, the older entries stay, and the words are stored
pub record ItemsDeclared (s : Scope) (table image : List ℕ) (s' : Scope) (table' image' : List ℕ) (items : List (tree.Name × tree.Item)) : Type 0 where
  pub scope : scope_of s' table' ≡ foldl symbols.declare_item (scope_of s table) items
  pub room : Room s' table'
  pub level : s'.level ≡ s.level
  pub base : s'.base ≡ s.base
  pub grows : s.names ≤ s'.names
  pub kept : take (7 * s.names) table' ≡ take (7 * s.names) table
  pub laid : image' ≡ stored image (s.base + s.taken) (local_values items)
