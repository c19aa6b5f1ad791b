use mathlib.Core.Path.{ap, ◌∙◌}
use Rattle.layout.specs.Emission.{emit_all}
use Rattle.emitter.specs.Emitted.{pooled_all}
use Rattle.emitter.proofs.EmittedWords.{memory_word_lem, memory_literals}
use Rattle.emitter.proofs.emit_memory.Goals as goal

pub returns : goal.returns
unfolding emit_all
returns c = let word = c.emit_word.ensures in
    let pool = c.with_operand-pool.ensures in
    record {
      emitted = word.emitted ∙ memory_word_lem _ _ _ _ _ _ _ pool.held c.address_of-address.ensures c.reference.ensures;
      pool = word.pool ∙ pool.whole ∙ ap (pooled_all _) (memory_literals _ _);
    }
