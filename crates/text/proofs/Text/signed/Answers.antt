use mathlib.Core.Path.{sym}
use Rattle.text.proofs.Laws.{and_then, same_added, minus}
use Rattle.text.proofs.Text.signed.Goals as goal

pub returns : goal.returns
returns c = same_added (sym (minus _ c.if-word-lt-SIGN.false)) (and_then c.byte.ensures c.decimal-2.ensures)
