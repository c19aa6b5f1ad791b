use Rattle.text.proofs.Laws.{and_then}
use Rattle.failure_report.specs.Failure.{place_text}
use Rattle.failure_report.proofs.put_place.Goals as goal

pub returns : goal.returns
unfolding place_text
returns c =
    rw (c.line.ensures, c.column.ensures) at (and_then c.put.ensures (and_then c.decimal.ensures (and_then c.put-2.ensures (and_then c.decimal-2.ensures (and_then c.put-3.ensures (and_then c.decimal-3.ensures (and_then c.put-4.ensures (and_then c.put_words.ensures c.put-5.ensures))))))))
