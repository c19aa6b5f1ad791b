use Rattle.semantics.proofs.Demand.MeaningLaws.{meaning_laws}
use Rattle.semantics.proofs.meaning_laws.Statement.{statement}
use Rattle.semantics.proofs.meaning_laws.Tie as tie

returns : tie.Need-returns
returns c = meaning_laws

pub meaning_laws_spec : {M : Type 1} → statement M
meaning_laws_spec = tie.close (tie.spec returns)
