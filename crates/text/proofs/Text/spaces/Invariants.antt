use Rattle.std.proofs.Common.{◌≡◌, replicate}
use Rattle.text.specs.Adds.{added}
use Rattle.text.proofs.Text.spaces.Given as goal

-- The invariant: the spaces so far are added.
abbrev pub invariant-loop : goal.invariant-loop
invariant-loop l = (l.out, l.len) ≡ added (l.initial.out, l.initial.len) (replicate l.counter 32)
