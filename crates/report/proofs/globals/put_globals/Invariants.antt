use mathlib.Core.Path.{◌≡◌}
use Rattle.symbols.specs.Table.{entries_of}
use Rattle.text.specs.Adds.{Adds}
use Rattle.report.specs.Globals.{next_array, names_text}
use Rattle.report.proofs.globals.put_globals.Given as goal

-- The invariant: the names so far are written, and `array` is element 0 of the next array.
abbrev pub invariant-loop-i : goal.invariant-loop-i
invariant-loop-i l = Adds l.initial.text l.text (names_text l.image (entries_of l.i l.table)) × (l.array ≡ next_array (entries_of l.i l.table))
