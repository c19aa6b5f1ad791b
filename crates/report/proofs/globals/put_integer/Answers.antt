use Rattle.symbols.specs.Trees.{tree_id}
use Rattle.text.proofs.Laws.{and_then}
use Rattle.report.specs.Globals.{integer_text, id_text}
use Rattle.report.proofs.globals.put_integer.Goals as goal

pub returns : goal.returns
unfolding id_text integer_text tree_id
returns c = rw c.in-Global.is (rw c.word_at.ensures at (and_then c.put_name.ensures (and_then c.put.ensures (and_then c.signed.ensures c.put-2.ensures))))
