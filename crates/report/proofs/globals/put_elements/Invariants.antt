use Prim.Native.Nat.{◌-◌}
use Rattle.symbols.specs.Packing.{unpack}
use Rattle.text.proofs.Laws.{Left}
use Rattle.report.specs.Globals.{elements_text}
use Rattle.report.proofs.globals.put_elements.Given as goal

-- The invariant: what is written, with the elements that are left, gives the whole array.
abbrev pub invariant-loop-place : goal.invariant-loop-place
invariant-loop-place l =
    Left l.initial.text l.text (elements_text l.image (unpack l.name) l.size l.array (l.size - l.place)) (elements_text l.image (unpack l.name) l.size l.array l.size)
