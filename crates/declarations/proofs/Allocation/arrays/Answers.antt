use mathlib.Core.Path.{refl, ◌∙◌}
use Rattle.parser.specs.Reads.Reads.{read, fails}
use Rattle.grammar.specs.Declarations.{parse_list}
use Rattle.declarations.specs.Forms.{arrays_in}
use Rattle.parser.proofs.Answers.{then_got, then_failed, gives_read, gives_failed, onward}
use Rattle.parser.proofs.ReadLaws.{came, failed_as}
use Rattle.declarations.proofs.Allocation.arrays.Goals as goal

pub returns-in_default : goal.returns-in_default
unfolding arrays_in parse_list
returns-in_default c = fails (onward (failed_as c.array_list-list.ensures c.in_default.is) (then_failed _)) c.in_default.is tt

pub returns-in_default-end : goal.returns-in_default-end
unfolding arrays_in parse_list
returns-in_default-end c = let r = came c.array_list-list.ensures c.in-Ok.is in
    fails (onward (gives_failed (λ t. t) c.expect-end.ensures c.unwrap_err.ensures) (λ e. then_got _ r.is ∙ then_failed _ e)) refl tt

pub returns : goal.returns
unfolding arrays_in parse_list
returns c = let r = came c.array_list-list.ensures c.in-Ok.is in
    read (then_got _ r.is ∙ then_got _ (gives_read (λ t. t) c.expect-end.ensures c.in-Ok-end.is)) refl r.holds
