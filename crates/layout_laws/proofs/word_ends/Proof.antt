use Rattle.layout_laws.proofs.Spans.{word_ends}
use Rattle.layout_laws.proofs.word_ends.Statement.{statement}
use Rattle.layout_laws.proofs.word_ends.Tie as tie

returns : tie.Need-returns
returns c = word_ends

pub word_ends_spec : {M : Type 1} → statement M
word_ends_spec = tie.close (tie.spec returns)
