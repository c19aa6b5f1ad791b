use Rattle.std.proofs.Common.{◌≡◌, take}
use Rattle.text.specs.Adds.{added}
use Rattle.text.proofs.Text.put.Given as goal

-- The invariant: the bytes so far are added.
abbrev pub invariant-loop-byte : goal.invariant-loop-byte
invariant-loop-byte l = (l.out, l.len) ≡ added (l.initial.out, l.initial.len) (take l.byte-index l.bytes)
