use Rattle.symbols.specs.Trees.{tree_symbol}
use Rattle.declarations.proofs.FrameLaws.{inner_is}
use Rattle.declarations.proofs.Allocation.local_scope.Goals as goal

pub returns : goal.returns
unfolding tree_symbol
returns c = inner_is c.args.self _ _ _ c.requires.1 c.requires.2 c.declare.auto.table c.declare.ensures
