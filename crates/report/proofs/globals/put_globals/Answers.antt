use mathlib.Core.Path.{◌∙◌}
use native.Mathlib.Omega.{arith}
use Prim.Native.Nat.{◌+◌, ◌*◌, ◌≤◌}
use lib.ListN.{length}
use Rattle.text.proofs.Laws.{and_then, same_added}
use Rattle.report.proofs.Laws.{next_name, next_array_lem}
use Rattle.report.proofs.globals.put_globals.Goals as goal

pub loop-i-preserved : goal.loop-i-preserved
loop-i-preserved c = let name = c.row_at-row.ensures.0 in
    let symbol = c.row_at-row.ensures.1 in
    let inside : 7 * (c.loop-i.i + 1) ≤ length c.args.table.now = omega (arith, c.requires, c.loop-i-test.true) in (
      same_added (next_name c.args.image.now _ _ inside name symbol c.loop-i.invariant.1) (and_then c.loop-i.invariant.0 c.put_row.ensures),
      c.saturating_sub-array.ensures ∙ next_array_lem c.args.image.now _ _ inside name symbol c.loop-i.invariant.1 c.size_of.ensures,
    )
