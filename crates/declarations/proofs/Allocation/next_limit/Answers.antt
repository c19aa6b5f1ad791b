use mathlib.Core.Path.{◌∙◌}
use mathlib.Core.List.{[]}
use native.Mathlib.Omega.{arith}
use Rattle.declarations.specs.Allocations.{allocation_of}
use Rattle.declarations.proofs.LimitLaws.{in_limits, sector_number_lem, follow_passed, follow_on, follow_none}
use Rattle.declarations.proofs.SectorLaws.{ends_length}
use Rattle.declarations.proofs.Allocation.next_limit.Goals as goal

pub returns-in_default : goal.returns-in_default
returns-in_default c = let st = allocation_of c.args.self [] in
    rw (sector_number_lem st (ends_length c.requires.closed)) (follow_passed st _ c.sector_limit-limit.ensures c.in_default.is)

pub returns-then-closed-lt-CLOSED_SECTORS : goal.returns-then-closed-lt-CLOSED_SECTORS
returns-then-closed-lt-CLOSED_SECTORS c = let ends = ends_length c.requires.closed in
    rw (sector_number_lem (allocation_of c.args.self []) ends) (follow_on _ ends (in_limits _ c.sector_limit-limit.ensures c.in-Ok.is) c.if-closed-lt-CLOSED_SECTORS.true)

pub returns : goal.returns
returns c = let ends = ends_length c.requires.closed in
    let z = follow_none (allocation_of c.args.self []) ends (sector_number_lem (allocation_of c.args.self []) ends ∙ in_limits _ c.sector_limit-limit.ensures c.in-Ok.is) c.if-closed-lt-CLOSED_SECTORS.false in
    (z, rw z (omega arith))
