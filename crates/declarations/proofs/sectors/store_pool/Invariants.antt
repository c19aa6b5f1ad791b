use mathlib.Core.Path.{◌≡◌}
use lib.ListN.{length, take}
use Rattle.layout.specs.Emission.{stored}
use Rattle.declarations.proofs.sectors.store_pool.Given as goal

-- The invariant: the first `i` words are stored.
abbrev pub invariant-loop-i : goal.invariant-loop-i
invariant-loop-i l = (length l.image ≡ length l.initial.image) × (l.image ≡ stored l.initial.image l.at (take l.i l.pool.words))
