-- Parts of the definitions that a function of its own reads.
use Rattle.prelude.specs.Choice.{given}
use Rattle.source.specs.declared.Token.{Token}
use Rattle.tree.specs.Tree.{Operand}
use Rattle.tree.specs.Symbols.{Symbol, as_operand, as_array, as_function}
use Rattle.grammar.specs.Parse.{Got, and_then}
use Rattle.grammar.specs.Parse.Got.{got}
use Rattle.grammar.specs.Vocabulary.{as_one_of}
use Rattle.grammar.specs.Cells.{CellStart, refuse}
use Rattle.grammar.specs.Expressions.{TermStart}
use Rattle.grammar.specs.Statements.{StmtStart, statement_starts}

-- `operand_of`, `cell_start` and the end of `term_start`, by what a token stands for
module _ (symbol : Symbol) (t : Token) where
  unfoldable pub operand_by : Got Operand
  operand_by = given (as_operand symbol) (λ o. got o t.next) (λ _. refuse t)

  unfoldable pub cell_by : Got CellStart
  cell_by =
      given (as_array symbol) (λ a. got (CellStart.element a) t.next) λ _.
      and_then operand_by (λ o next. got (CellStart.operand o) next)

  unfoldable pub term_by : Got TermStart
  term_by =
      given (as_function symbol) (λ p. got (TermStart.call p) t.next) λ _.
      and_then cell_by (λ c next. got (TermStart.cell c) next)

-- the end of `stmt_start`: a statement that begins with no name
unfoldable pub opening : Token → Got StmtStart
opening t = as_one_of statement_starts t (λ start. got start t.next) (λ _. refuse t)
