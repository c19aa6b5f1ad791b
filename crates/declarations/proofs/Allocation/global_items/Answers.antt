use mathlib.Core.Path.{refl}
use Rattle.parser.specs.Reads.Reads.{read, fails}
use Rattle.parser.proofs.Answers.{then_got, then_failed, onward}
use Rattle.parser.proofs.ReadLaws.{came, failed_as}
use Rattle.symbols.specs.Table.{level_of}
use Rattle.declarations.specs.Forms.{items_in}
use Rattle.declarations.proofs.GlobalLaws.{globals_declared}
use Rattle.declarations.proofs.Allocation.global_items.Goals as goal

pub returns-in_default : goal.returns-in_default
unfolding items_in level_of
returns-in_default c = fails (onward (failed_as (rw c.global_scope.ensures at c.items-list.ensures) c.unwrap_err.ensures) (then_failed _)) refl tt

pub returns : goal.returns
unfolding items_in level_of
returns c = let r = came (rw c.global_scope.ensures at c.items-list.ensures) c.in-Ok.is in
    read (then_got _ r.is) refl (globals_declared c.args.self c.requires.0 r.holds)
