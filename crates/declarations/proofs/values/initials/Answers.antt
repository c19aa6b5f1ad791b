use Rattle.source.specs.declared.kind.Kind.TheVariants as Kind
use Rattle.source.proofs.KindLaws.{not_unequal_kinds, unequal_kinds}
use mathlib.Core.Path.{refl, ◌∙◌}
use Rattle.parser.specs.Reads.Reads.{read, fails}
use Rattle.parser.proofs.Answers.{then_got, then_failed, gives_read, gives_failed, onward}
use Rattle.parser.proofs.ReadLaws.{came, failed_as}
use Rattle.declarations.proofs.ArrayLaws.{initials_none, initials_on, none_stored, padded_stored}
use Rattle.declarations.proofs.values.initials.Goals as goal

pub returns-then-ne : goal.returns-then-ne
returns-then-ne c = read (initials_none _ _ _ _ c.token_at-t.ensures (unequal_kinds _ Kind.LeftParenthesis c.ne.ensures c.if-ne.true)) refl (none_stored _ _ _ c.fill.ensures)

pub returns-in_default : goal.returns-in_default
returns-in_default c = fails (onward (failed_as c.values-list.ensures c.unwrap_err.ensures) (λ e. initials_on _ _ _ _ c.token_at-t.ensures (not_unequal_kinds _ Kind.LeftParenthesis c.ne.ensures c.if-ne.false) ∙ then_failed _ e)) refl tt

pub returns-in_default-end : goal.returns-in_default-end
returns-in_default-end c = let r = came c.values-list.ensures c.in-Ok.is in
    fails (onward (gives_failed (λ t. t) c.expect-end.ensures c.unwrap_err-in_default-end.ensures) (λ e. initials_on _ _ _ _ c.token_at-t.ensures (not_unequal_kinds _ Kind.LeftParenthesis c.ne.ensures c.if-ne.false) ∙ then_got _ r.is ∙ then_failed _ e)) refl tt

pub returns : goal.returns
returns c = let r = came c.values-list.ensures c.in-Ok.is in
    read (initials_on _ _ _ _ c.token_at-t.ensures (not_unequal_kinds _ Kind.LeftParenthesis c.ne.ensures c.if-ne.false) ∙ then_got _ r.is ∙ then_got _ (gives_read (λ t. t) c.expect-end.ensures c.in-Ok-end.is)) refl
    (padded_stored _ _ _ _ _ r.holds.laid r.holds.counted r.holds.few c.fill-2.ensures)
