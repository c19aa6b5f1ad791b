use Prim.Native.Nat.{◌*◌, ◌≤◌}
use lib.ListN.{length, drop}
use Rattle.text.proofs.Laws.{Left}
use Rattle.page.specs.Names.{names_of}
use Rattle.page.specs.Page.{lines_from, page_of}
use Rattle.page.specs.Readings.{Sound}
use Rattle.page.proofs.put_lines.Given as goal

-- The invariant: what is written, with the lines of the farms that are left, gives the whole page.
abbrev pub invariant-loop-delivered : goal.invariant-loop-delivered
invariant-loop-delivered l =
    (l.from ≤ length l.names) × (l.total ≤ 32767 * l.delivered-index) × Sound (names_of (drop l.from l.names)) (drop l.delivered-index l.litres)
    × Left l.initial.text l.text (lines_from l.total (names_of (drop l.from l.names)) (drop l.delivered-index l.litres)) (page_of l.names l.litres)
