use mathlib.Core.Path.{sym, ◌∙◌}
use Rattle.symbols.proofs.Packing.{x_packed, packed_equal}
use Rattle.symbols.proofs.is_x.Goals as goal

pub returns : goal.returns
returns c = c.eq.ensures ∙ packed_equal c.args.name (record { one = 0o054000; two = 0; three = 0 }) ∙ sym (x_packed c.args.name)
