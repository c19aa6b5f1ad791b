use Rattle.text.proofs.Laws.{and_then}
use Rattle.report.specs.Shown.{outcome_text}
use Rattle.report.proofs.run.put_outcome.Goals as goal

pub returns-in-Failed : goal.returns-in-Failed
unfolding outcome_text
returns-in-Failed c =
    rw (c.in-Failed.is, ← c.number-number.ensures) (and_then c.put-in-Failed.ensures (and_then c.decimal.ensures (and_then c.put-in-Failed-2.ensures (and_then c.put_words.ensures c.put-in-Failed-3.ensures))))
