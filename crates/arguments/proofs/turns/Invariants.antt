use Prim.Native.Nat.{◌≤◌}
use mathlib.Core.Path.{◌≡◌}
use lib.ListN.{drop}
use Rattle.arguments.specs.Arguments.{turns_of}
use Rattle.arguments.proofs.Bytes.{count_from}
use Rattle.arguments.proofs.turns.Given as goal

-- The invariant: what the whole text counts is what the number so far and the bytes that are left count.
abbrev pub invariant-loop-b : goal.invariant-loop-b
invariant-loop-b l = (count_from l.n (drop l.b-index l.text) ≡ turns_of l.text) × (l.n ≤ 1000000)
