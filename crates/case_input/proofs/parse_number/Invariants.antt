use Rattle.std.proofs.Common.{◌≡◌, ◌≤◌, drop}
use Rattle.case_input.specs.Cases.{number_from}
use Rattle.case_input.proofs.parse_number.Given as goal

-- What is left of the text decides.
abbrev pub invariant-loop-i : goal.invariant-loop-i
invariant-loop-i l = (number_from (drop l.i l.text) l.value l.i ≡ number_from (drop l.at l.text) 0 l.at) × (l.at ≤ l.i)
