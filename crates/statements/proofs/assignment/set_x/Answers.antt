use mathlib.Core.Path.{refl}
use Rattle.parser.specs.Reads.Reads.{read, fails}
use Rattle.symbols.specs.Trees.{tree_cell}
use Rattle.statements.specs.Forms.{after_equal, loaded_words}
use Rattle.parser.proofs.Answers.{gives_read, gives_failed}
use Rattle.parser.proofs.ReadLaws.{missing}
use Rattle.emitter.proofs.Lays.{here}
use Rattle.statements.proofs.Forms.{from_got, just_words}
use Rattle.statements.proofs.assignment.set_x.Goals as goal

pub returns-in_default : goal.returns-in_default
unfolding after_equal
returns-in_default c = missing (λ t. t) _ _ c.expect-equal.ensures c.unwrap_err.ensures refl here

pub returns-in_default-found : goal.returns-in_default-found
unfolding after_equal
returns-in_default-found c =
    from_got _ (gives_read (λ t. t) c.expect-equal.ensures c.in-Ok.is) (fails (gives_failed tree_cell c.lone_cell_at-found.ensures c.unwrap_err-in_default-found.ensures) refl here)

pub returns : goal.returns
unfolding after_equal loaded_words
returns c =
    from_got _ (gives_read (λ t. t) c.expect-equal.ensures c.in-Ok.is) (read (gives_read tree_cell c.lone_cell_at-found.ensures c.in-Ok-found.is) refl (just_words _ c.emit_cell.ensures.emitted))
