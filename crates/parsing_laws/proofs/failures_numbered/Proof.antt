use Rattle.parsing_laws.proofs.Parsed.Programs.{numbered}
use Rattle.parsing_laws.proofs.failures_numbered.Statement.{statement}
use Rattle.parsing_laws.proofs.failures_numbered.Tie as tie

returns : tie.Need-returns
returns c = numbered

pub failures_numbered_spec : {M : Type 1} → statement M
failures_numbered_spec = tie.close (tie.spec returns)
