use Rattle.symbols.specs.Trees.{tree_cell}
use Rattle.layout.specs.Words.{test_words, subscript_words, reach_words}
use Rattle.emitter.proofs.EmittedWords.{emits_then, emits_none}
use Rattle.emitter.proofs.emit_reach.Goals as goal

pub returns-in_default : goal.returns-in_default
unfolding tree_cell reach_words
returns-in_default c = rw c.in_default.is emits_none

pub returns-then-array : goal.returns-then-array
unfolding tree_cell reach_words subscript_words test_words
returns-then-array c = rw (c.in-Item.is, c.if-array.true) (emits_then c.emit_load-loaded.ensures c.emit_subscript_test.ensures)

pub returns : goal.returns
unfolding tree_cell reach_words subscript_words
returns c = rw (c.in-Item.is, c.if-array.false) (emits_then c.emit_load-loaded.ensures emits_none)
