-- What the code's answers stand for in the definitions.
use Rattle.std.specs.Prelude.{ℕ, Bool, ◌<◌, ◌≡◌}
use Rattle.tree.specs.Symbols.{Names}
use Rattle.symbols.specs.Table.{live_names}
use Rattle.cells.specs.declared.Reader.{Reader}
use Rattle.grammar.specs.Cells as cells
use Rattle.grammar.specs.Expressions as expressions
use Rattle.grammar.specs.Statements as statements
use Rattle.symbols.specs.Trees.{tree_id, tree_array, tree_operand}
use Rattle.cells.specs.declared.CellStart.{CellStart}
use Rattle.cells.specs.declared.TermStart.{TermStart}
use Rattle.cells.specs.declared.StatementStart.{StatementStart}

-- a reader's live names
abbrev pub live : Reader → Names
live r = live_names r.names.count r.names.words.now

-- a test of words answers as a predicate says
abbrev pub Tells : (ℕ → Bool → Type 0) → (ℕ → Bool) → Type 0
Tells post passes = (v : ℕ) → v < 65536 → (b : Bool) → post v b → b ≡ passes v

unfoldable pub tree_cell_start : CellStart → cells.CellStart
tree_cell_start (CellStart.Whole o) = cells.CellStart.operand (tree_operand o)
tree_cell_start (CellStart.Element a) = cells.CellStart.element (tree_array a)

unfoldable pub tree_term_start : TermStart → expressions.TermStart
tree_term_start (TermStart.Cell c) = expressions.TermStart.cell (tree_cell_start c)
tree_term_start TermStart.Accumulator = expressions.TermStart.accumulator
tree_term_start TermStart.Zero = expressions.TermStart.zero_word
tree_term_start TermStart.Bracket = expressions.TermStart.bracket
tree_term_start (TermStart.Call p) = expressions.TermStart.call p

unfoldable pub tree_statement_start : StatementStart → statements.StmtStart
tree_statement_start (StatementStart.Integer i) = statements.StmtStart.integer (tree_id i)
tree_statement_start (StatementStart.Element a) = statements.StmtStart.element (tree_array a)
tree_statement_start StatementStart.Accumulator = statements.StmtStart.accumulator
tree_statement_start StatementStart.Hash = statements.StmtStart.hash
tree_statement_start StatementStart.If = statements.StmtStart.if
tree_statement_start StatementStart.When = statements.StmtStart.when
tree_statement_start StatementStart.While = statements.StmtStart.while
tree_statement_start StatementStart.For = statements.StmtStart.for
tree_statement_start StatementStart.Compound = statements.StmtStart.compound
tree_statement_start (StatementStart.Call p) = statements.StmtStart.call p
