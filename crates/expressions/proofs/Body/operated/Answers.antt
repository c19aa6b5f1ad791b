use mathlib.Core.Path.{refl}
use Rattle.symbols.specs.Trees.{tree_cell}
use Rattle.layout.specs.Words.{◌⧺◌}
use Rattle.emitter.proofs.Lays.{here, words}
use Rattle.emitter.proofs.EmittedWords.{emits_then}
use Rattle.parser.specs.Reads.Reads.{read, fails}
use Rattle.parser.proofs.Answers.{gives_read, gives_failed}
use Rattle.expressions.specs.Chains.{operator_words}
use Rattle.expressions.proofs.Body.operated.Goals as goal

pub returns-in_default : goal.returns-in_default
returns-in_default c = λ g h. fails (gives_failed tree_cell h c.unwrap_err.ensures) refl here

pub returns : goal.returns
unfolding operator_words ◌⧺◌
returns c = let all = emits_then c.emit_reach-reached.ensures (emits_then (c.emit_before-ready.ensures.emits _) (emits_then c.emit_instruction-done.ensures (c.emit_after-value.ensures.emits _))) in
    λ g h. read (gives_read tree_cell h c.in-Ok.is) refl (rw all.emitted (words _))
