use Rattle.layout.specs.Words.{test_words}
use Rattle.emitter.proofs.EmittedWords.{emits_then}
use Rattle.emitter.proofs.emit_subscript_test.Goals as goal

pub returns : goal.returns
unfolding test_words
returns c = emits_then c.emit_above-within.ensures (rw c.lowest_of.ensures at c.emit_below.ensures)
