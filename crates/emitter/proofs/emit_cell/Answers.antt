use Rattle.layout.specs.Words.{cell_words}
use Rattle.emitter.proofs.EmittedWords.{emits_then}
use Rattle.emitter.proofs.emit_cell.Goals as goal

pub returns : goal.returns
unfolding cell_words
returns c = emits_then c.emit_reach-reached.ensures c.emit_instruction.ensures
