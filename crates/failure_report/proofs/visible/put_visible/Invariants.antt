use mathlib.Core.List.{map}
use Rattle.std.proofs.Common.{take}
use Rattle.text.specs.Adds.{Adds}
use Rattle.failure_report.specs.Place.{visible}
use Rattle.failure_report.proofs.visible.put_visible.Given as goal

-- The invariant: the bytes so far are added as they are shown.
abbrev pub invariant-loop-byte : goal.invariant-loop-byte
invariant-loop-byte l = Adds l.initial.text l.text (map visible (take l.byte-index l.bytes))
