use mathlib.Core.Path.{◌≡◌}
use lib.ListN.{length, replicate}
use Rattle.layout.specs.Emission.{stored}
use Rattle.declarations.proofs.values.fill.Given as goal

-- The invariant: `i` zeros are stored.
abbrev pub invariant-loop-i : goal.invariant-loop-i
invariant-loop-i l = (length l.image ≡ length l.initial.image) × (l.image ≡ stored l.initial.image l.at (replicate l.i 0))
