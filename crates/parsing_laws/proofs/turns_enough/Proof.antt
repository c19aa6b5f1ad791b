use Rattle.parsing_laws.proofs.Turns.{turns_enough}
use Rattle.parsing_laws.proofs.turns_enough.Statement.{statement}
use Rattle.parsing_laws.proofs.turns_enough.Tie as tie

returns : tie.Need-returns
returns c = turns_enough

pub turns_enough_spec : {M : Type 1} → statement M
turns_enough_spec = tie.close (tie.spec returns)
