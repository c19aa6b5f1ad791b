-- Demand 3.
use Rattle.semantics.specs.Agreement.{Demand3}
use Rattle.memory_map.proofs.Accepted.{accepted}
use Rattle.semantics.proofs.Simulation.Top.{agrees}
use Rattle.memory_map.proofs.LaidPrograms.{placed, laid_at, image_at, end_at}
use Rattle.memory_map.proofs.Unique.{cell_declared}
use Rattle.memory_map.proofs.Subscripts.{elements}

pub demand3 : Demand3
unfolding Demand3
demand3 source c e σ s l =
    let a = accepted source c e in
    let p = placed c.program a.well_formed in
    let w = a.well_formed in
    agrees c (image_at c a) w (laid_at c a) p.homes (cell_declared c.program w) (elements c.program w) p.saved_at (end_at c a) σ s l
