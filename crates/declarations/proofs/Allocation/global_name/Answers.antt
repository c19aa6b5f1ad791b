use mathlib.Core.Path.{subst}
use Rattle.symbols.specs.Packing.{unpack}
use Rattle.parser.specs.Reads.{Gives}
use Rattle.declarations.proofs.ArrayLaws.{global_name_lem}
use Rattle.declarations.proofs.Allocation.global_name.Goals as goal

pub returns : goal.returns
returns c = subst (Gives unpack c.new_name.result) (global_name_lem _ c.args.self _ _ c.global_scope-scope.ensures) (c.new_name.ensures _ c.name_limit.ensures)
