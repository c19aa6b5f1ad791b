-- What the code's symbols and cells stand for in the definitions.
use Rattle.tree.specs.Tree as tree
use Rattle.tree.specs.Symbols as symbols
use Rattle.symbols.specs.declared.Id.{Id}
use Rattle.symbols.specs.declared.Array.{Array}
use Rattle.symbols.specs.declared.Operand.{Operand}
use Rattle.symbols.specs.declared.Subscript.{Subscript}
use Rattle.symbols.specs.declared.Cell.{Cell}
use Rattle.symbols.specs.declared.Symbol.{Symbol}

unfoldable pub tree_id : Id → tree.Id
tree_id Id.X = tree.Id.x
tree_id (Id.Global n) = tree.Id.global n
tree_id (Id.Local p n) = tree.Id.local p n

abbrev pub tree_array : Array → tree.Array
tree_array a = record { number = a.number; size = a.size; checked = a.checked }

unfoldable pub tree_operand : Operand → tree.Operand
tree_operand (Operand.Named i) = tree.Operand.named (tree_id i)
tree_operand (Operand.Literal v) = tree.Operand.literal v

unfoldable pub tree_subscript : Subscript → tree.Subscript
tree_subscript (Subscript.By o) = tree.Subscript.by (tree_operand o)
tree_subscript Subscript.Hash = tree.Subscript.hash

unfoldable pub tree_cell : Cell → tree.Cell
tree_cell (Cell.Plain o) = tree.Cell.plain (tree_operand o)
tree_cell (Cell.Item a s) = tree.Cell.item (tree_array a) (tree_subscript s)

unfoldable pub tree_symbol : Symbol → symbols.Symbol
tree_symbol (Symbol.Integer i) = symbols.Symbol.integer (tree_id i)
tree_symbol (Symbol.Constant i v) = symbols.Symbol.constant (tree_id i) v
tree_symbol (Symbol.Compconstant v) = symbols.Symbol.compconstant v
tree_symbol (Symbol.Array a) = symbols.Symbol.array (tree_array a)
tree_symbol (Symbol.Procedure p accumulator) = symbols.Symbol.procedure p accumulator
tree_symbol Symbol.Unknown = symbols.Symbol.unknown
