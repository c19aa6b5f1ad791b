use Rattle.instruction.specs.Opcode.{STA}
use Rattle.instruction.specs.Slot.{NOP}
use Rattle.symbols.specs.Trees.{tree_id, tree_operand}
use Rattle.layout.specs.Words.{◌⧺◌, above_words}
use Rattle.emitter.proofs.EmittedWords.{emits_then, emits_generic, emits_saved, emits_stop}
use Rattle.emitter.proofs.emit_above.Goals as goal

pub returns : goal.returns
unfolding tree_id tree_operand ◌⧺◌ above_words
returns c = emits_then (emits_saved STA c.emit_saved-kept.ensures)
    (emits_then c.emit_memory-loaded.ensures
    (emits_then c.emit_memory-compared.ensures
    (emits_then (emits_stop c.emit_generic-stopped.ensures) (emits_generic NOP c.emit_generic.ensures))))
