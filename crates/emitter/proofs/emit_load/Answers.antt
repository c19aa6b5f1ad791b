use Rattle.symbols.specs.Trees.{tree_subscript}
use Rattle.layout.specs.Words.{load_words}
use Rattle.emitter.proofs.EmittedWords.{emits_none}
use Rattle.emitter.proofs.emit_load.Goals as goal

pub returns-in_default : goal.returns-in_default
unfolding tree_subscript load_words
returns-in_default c = rw c.in_default.is emits_none
