use Rattle.memory_map.proofs.MapLaws.{map_laws}
use Rattle.memory_map.proofs.map_laws.Statement.{statement}
use Rattle.memory_map.proofs.map_laws.Tie as tie

returns : tie.Need-returns
returns c = map_laws

pub map_laws_spec : {M : Type 1} → statement M
map_laws_spec = tie.close (tie.spec returns)
