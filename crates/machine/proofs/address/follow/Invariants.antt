use Rattle.std.proofs.Common.{◌≡◌, ◌-◌, ◌<◌, ◌≤◌}
use Rattle.machine.specs.Address.{follow_of}
use Rattle.machine.proofs.address.follow.Given as goal

-- The loop's invariant: the chain from the address reached, with the words that are left, is the whole chain.
abbrev pub invariant-loop-passed : goal.invariant-loop-passed
invariant-loop-passed l =
    (follow_of l.image (16 - l.passed) l.indirect l.at ≡ follow_of l.image 16 l.indirect-2 l.at-2) × (l.at < 16384) × (l.passed ≤ 16)
