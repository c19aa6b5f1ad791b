use mathlib.Core.Path.{refl, ap}
use Rattle.emitter.specs.Emitted.{literals_in, no_pool}
use Rattle.declarations.proofs.AllocationLaws.{next_closed}
use Rattle.declarations.proofs.Allocation.close.Goals as goal

pub returns : goal.returns
unfolding no_pool
returns c = next_closed _ _ _ _ _ c.requires.0 c.requires.1 c.with_end.ensures refl (ap literals_in c.empty.ensures) c.store_pool.ensures
