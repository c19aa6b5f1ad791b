use Rattle.parsing_laws.proofs.Parsed.Programs.{well_formed}
use Rattle.parsing_laws.proofs.accepted_well_formed.Statement.{statement}
use Rattle.parsing_laws.proofs.accepted_well_formed.Tie as tie

returns : tie.Need-returns
returns c = well_formed

pub accepted_well_formed_spec : {M : Type 1} → statement M
accepted_well_formed_spec = tie.close (tie.spec returns)
