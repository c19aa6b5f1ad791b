use Rattle.instruction.specs.Opcode.{LDA}
use Rattle.instruction.specs.Slot.{NOP, SKP}
use Rattle.symbols.specs.Trees.{tree_operand}
use Rattle.layout.specs.Words.{◌⧺◌, below_words}
use Rattle.emitter.proofs.EmittedWords.{emits_then, emits_generic, emits_saved, emits_stop}
use Rattle.emitter.proofs.emit_below.Goals as goal

pub returns : goal.returns
unfolding tree_operand ◌⧺◌ below_words
returns c = emits_then c.emit_memory-compared.ensures
    (emits_then (emits_generic NOP c.emit_generic-passed.ensures)
    (emits_then (emits_generic SKP c.emit_generic-skipped.ensures)
    (emits_then (emits_stop c.emit_generic-stopped.ensures) (emits_saved LDA c.emit_saved.ensures))))
