use Rattle.page.proofs.Judging.{Judging}
use Rattle.page.proofs.judge.Given as goal

-- The invariant: what is wrong, and how many names there are, is told by what stands behind `from` and the farms so far.
abbrev pub invariant-loop-delivered : goal.invariant-loop-delivered
invariant-loop-delivered l = Judging l.names l.litres l.from l.delivered-index
