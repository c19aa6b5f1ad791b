use mathlib.Core.Path.{◌∙◌}
use Rattle.parser.proofs.Answers.{then_got, then_failed, gives_read, gives_failed, onward}
use Rattle.symbols.specs.Packing.{unpack}
use Rattle.declarations.specs.Scopes.{tree_keyword}
use Rattle.declarations.proofs.ScopeLaws.{named_by}
use Rattle.declarations.proofs.Scope.item_at.Goals as goal

pub returns-in_default : goal.returns-in_default
returns-in_default c = onward (gives_failed unpack (c.new_name-named.ensures _ c.item_limit.ensures) c.unwrap_err.ensures) (λ e. named_by _ (tree_keyword c.args.keyword) c.args.self _ _ ∙ then_failed _ e)

pub returns : goal.returns
returns c = rw (named_by _ (tree_keyword c.args.keyword) c.args.self _ _ ∙ then_got _ (gives_read unpack (c.new_name-named.ensures _ c.item_limit.ensures) c.in-Ok.is)) c.item_from.ensures
