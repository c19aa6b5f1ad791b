use Rattle.symbols.specs.Trees.{tree_cell}
use Rattle.layout.specs.Words.{instruction_word}
use Rattle.emitter.proofs.EmittedWords.{emits_through}
use Rattle.emitter.proofs.emit_instruction.Goals as goal

pub returns-in-Item : goal.returns-in-Item
unfolding tree_cell instruction_word
returns-in-Item c = rw c.in-Item.is (emits_through _ c.emit_through.ensures)
