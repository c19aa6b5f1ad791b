use mathlib.Core.Path.{◌≡◌, sym, ◌∙◌}
use native.Mathlib.Omega.{arith}
use Rattle.std.proofs.Common.{◌-◌}
use Rattle.symbols.specs.Table.{nth_in}
use Rattle.symbols.proofs.Table.{row_found}
use Rattle.symbols.proofs.Names.newest.Goals as goal

pub returns-then-is_named : goal.returns-then-is_named
unfolding nth_in
returns-then-is_named c = record {
  inside = λ i e. let q : c.loop-i.i - 1 ≡ i = cc in rw (← q) (omega arith);
  row = sym c.loop-i.invariant ∙ row_found _ _ c.loop-i.i (omega arith) (sym c.is_named.ensures ∙ c.if-is_named.true);
}
