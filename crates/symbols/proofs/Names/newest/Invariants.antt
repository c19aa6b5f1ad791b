use mathlib.Core.Path.{◌≡◌}
use Rattle.source.specs.Bytes.{same_bytes}
use Rattle.prelude.specs.Choice.{find}
use Rattle.symbols.specs.Packing.{unpack}
use Rattle.symbols.specs.Table.{entries_of, live_names}
use Rattle.symbols.proofs.Names.newest.Given as goal

abbrev pub invariant-loop-i : goal.invariant-loop-i
invariant-loop-i l = find (same_bytes (unpack l.name)) (entries_of l.i l.self.words.now) ≡ find (same_bytes (unpack l.name)) (live_names l.self.count l.self.words.now)
