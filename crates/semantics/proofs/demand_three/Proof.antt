use Rattle.semantics.proofs.Demand.Theorem.{demand3}
use Rattle.semantics.proofs.demand_three.Statement.{statement}
use Rattle.semantics.proofs.demand_three.Tie as tie

returns : tie.Need-returns
returns c = demand3

pub demand_three_spec : {M : Type 1} → statement M
demand_three_spec = tie.close (tie.spec returns)
