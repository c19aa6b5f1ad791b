use mathlib.Core.Path.{◌≡◌}
use Prim.Native.Nat.{◌≤◌, min}
use lib.ListN.{drop}
use Rattle.source.specs.Tokens.{number}
use Rattle.source.proofs.number.number_of.Given as goal

-- The invariant: the number goes on from `n` over the digits that are left.
abbrev pub invariant-loop-b : goal.invariant-loop-b
invariant-loop-b l = (l.n ≤ 65536) × (min (number l.base l.n (drop l.b-index l.digits)) 65536 ≡ min (number l.base 0 l.digits) 65536)
