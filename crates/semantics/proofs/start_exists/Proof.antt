use Rattle.semantics.proofs.Demand.Loading.{loadable}
use Rattle.semantics.proofs.start_exists.Statement.{statement}
use Rattle.semantics.proofs.start_exists.Tie as tie

returns : tie.Need-returns
returns c = loadable

pub start_exists_spec : {M : Type 1} → statement M
start_exists_spec = tie.close (tie.spec returns)
