use Rattle.text.proofs.Laws.{and_then}
use Rattle.report.specs.Shown.{end_text}
use borrow.Author.Tests.{not-false}
use Rattle.report.proofs.run.put_ending.Goals as goal

pub returns : goal.returns
unfolding end_text
returns c = rw (not-false c.args.stopped c.if-not-stopped.false-raw) (and_then c.put.ensures (and_then c.signed.ensures c.put-2.ensures))
