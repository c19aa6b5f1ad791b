use Rattle.std.proofs.Common.{◌≡◌, ◌≤◌, length, ◌-◌}
use Rattle.case_input.specs.Cases.{set_from}
use Rattle.case_input.proofs.Numbers.set_words.Given as goal

-- What is left of the count is still to be set; the text stays.
abbrev pub invariant-loop : goal.invariant-loop
invariant-loop l =
    (l.counter ≤ l.end) × (l.self.text.now ≡ l.fn.self.text.now) × (length l.image ≡ length l.initial.image)
    × (set_from l.fn.self.text.now (l.end - l.counter) l.self.at l.image ≡ set_from l.fn.self.text.now l.end l.initial.self.at l.initial.image)
