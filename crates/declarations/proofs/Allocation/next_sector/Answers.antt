use mathlib.Core.Path.{refl, ◌∙◌}
use mathlib.Core.List.{[]}
use Rattle.layout.specs.Limits.{sector_limit}
use Rattle.parser.specs.Reads.Reads.{read, fails}
use Rattle.parser.proofs.Answers.{then_got, then_failed, gives_read, gives_failed, onward}
use Rattle.declarations.specs.Allocations.{allocation_of}
use Rattle.declarations.proofs.LimitLaws.{follow_fits, next_limited, not_passed}
use Rattle.declarations.proofs.SectorLaws.{ends_length}
use Rattle.declarations.proofs.Allocation.next_sector.Goals as goal

pub returns-in_default : goal.returns-in_default
returns-in_default c = fails (onward (gives_failed (λ t. t) (c.limit_then_expect-ended.ensures _ c.next_limit.ensures) c.unwrap_err.ensures) (λ e. next_limited _ (allocation_of c.args.self []) _ ∙ then_failed _ e)) refl tt

pub close-requires : goal.close-requires
close-requires c =
    let st = allocation_of c.args.self [] in
    let e = gives_read (λ t. t) (c.limit_then_expect-ended.ensures _ c.next_limit.ensures) c.in-Ok.is in
    (c.requires, follow_fits st (ends_length c.requires.closed) (sector_limit st) (not_passed _ _ _ _ e))

pub returns : goal.returns
returns c = read (next_limited _ (allocation_of c.args.self []) _ ∙ then_got _ (gives_read (λ t. t) (c.limit_then_expect-ended.ensures _ c.next_limit.ensures) c.in-Ok.is)) refl c.close.ensures
