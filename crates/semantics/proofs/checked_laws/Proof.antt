use Rattle.semantics.proofs.Demand.Checked.{checked_laws}
use Rattle.semantics.proofs.checked_laws.Statement.{statement}
use Rattle.semantics.proofs.checked_laws.Tie as tie

returns : tie.Need-returns
returns c = checked_laws

pub checked_laws_spec : {M : Type 1} → statement M
checked_laws_spec = tie.close (tie.spec returns)
