use Rattle.text.proofs.Laws.{and_then}
use Rattle.report.specs.Shown.{registers_text}
use Rattle.report.proofs.run.put_registers.Goals as goal

pub returns : goal.returns
unfolding registers_text
returns c =
    and_then c.put.ensures (and_then c.signed.ensures (and_then c.put-2.ensures (and_then c.signed-2.ensures (and_then c.put-3.ensures (and_then c.put_bit.ensures (and_then c.put-4.ensures (and_then c.signed-3.ensures c.put-5.ensures)))))))
