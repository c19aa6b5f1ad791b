use mathlib.Core.Path.{◌∙◌}
use Rattle.symbols.specs.Packing.{unpack}
use Rattle.parser.proofs.Answers.{then_got, then_failed, gives_read, gives_failed, onward}
use Rattle.declarations.proofs.ArrayLaws.{head_name, head_size, head_closing}
use Rattle.declarations.proofs.Allocation.array_head.Goals as goal

pub returns-in_default : goal.returns-in_default
returns-in_default c = onward (gives_failed unpack c.global_name-named.ensures c.unwrap_err.ensures) (head_name _ _ _)

pub returns-in_default-valued : goal.returns-in_default-valued
returns-in_default-valued c = onward (gives_failed (λ v. v) c.bracketed-valued.ensures c.unwrap_err-in_default-valued.ensures) (head_size _ _ _ (gives_read unpack c.global_name-named.ensures c.in-Ok.is))

pub returns-in_default-closed : goal.returns-in_default-closed
returns-in_default-closed c =
    onward (gives_failed (λ t. t) (rw c.size_of-size.ensures at c.closing-closed.ensures) c.unwrap_err-in_default-closed.ensures)
    (λ e. head_closing _ _ _ (gives_read unpack c.global_name-named.ensures c.in-Ok.is) (gives_read (λ v. v) c.bracketed-valued.ensures c.in-Ok-valued.is) ∙ then_failed _ e)

pub returns : goal.returns
returns c =
    rw c.size_of-size.ensures
    (head_closing _ _ _ (gives_read unpack c.global_name-named.ensures c.in-Ok.is) (gives_read (λ v. v) c.bracketed-valued.ensures c.in-Ok-valued.is)
    ∙ then_got _ (gives_read (λ t. t) (rw c.size_of-size.ensures at c.closing-closed.ensures) c.in-Ok-closed.is))
