use mathlib.Core.Path.{◌∙◌}
use Rattle.parser.proofs.Answers.{then_got, then_failed, gives_read, gives_failed, onward}
use Rattle.declarations.proofs.NameLaws.{new_is}
use Rattle.declarations.proofs.Scope.new_name.Goals as goal

pub returns-in_default : goal.returns-in_default
returns-in_default c = λ number h. onward (gives_failed (λ t. t) (c.pass_at-passed.ensures _ (c.name_failure.ensures number h)) c.unwrap_err.ensures) (λ e. new_is _ _ number _ c.token_at-t.ensures c.pack-name.ensures ∙ then_failed _ e)

pub returns : goal.returns
returns c = λ number h. new_is _ _ number _ c.token_at-t.ensures c.pack-name.ensures ∙ then_got _ (gives_read (λ t. t) (c.pass_at-passed.ensures _ (c.name_failure.ensures number h)) c.in-Ok.is)
