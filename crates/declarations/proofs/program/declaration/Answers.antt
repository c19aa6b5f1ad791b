use mathlib.Core.Path.{ap, ◌∙◌}
use Rattle.source.specs.Kinds.{kind_number}
use Rattle.source.specs.declared.kind.Kind.TheVariants as Kind
use Rattle.source.proofs.KindLaws.{apart}
use Rattle.declarations.specs.Allocations.{end_of}
use Rattle.declarations.specs.Scopes.{tree_found}
use Rattle.parser.proofs.ReadLaws.{reads_to, reads_on}
use Rattle.declarations.proofs.LimitLaws.{next_any}
use Rattle.declarations.proofs.FormLaws.{in_items, in_array, in_sector, in_procedure_lem, in_accumulator}
use Rattle.declarations.proofs.program.declaration.Goals as goal

pub returns-in-Some : goal.returns-in-Some
unfolding tree_found
returns-in-Some c = reads_to (in_items _ _ _ _ _ (rw c.in-Some.is at c.of_kind.ensures)) (λ _ _ d. d (end_of c.args.plan)) (λ w. w) c.global_items.ensures

pub returns-in-Array : goal.returns-in-Array
returns-in-Array c = reads_to (in_array _ _ _ _ (ap kind_number c.in-Array.is)) (λ _ _ d. d (end_of c.args.plan)) (λ w. w) c.arrays.ensures

pub returns-in-Nextsector : goal.returns-in-Nextsector
returns-in-Nextsector c = reads_to (in_sector _ _ _ c.args.t (ap kind_number c.in-Nextsector.is) ∙ next_any _ c.args.allocation _ _) (λ _ _ d. d.at c.args.table.now (end_of c.args.plan)) (λ w. w) c.next_sector.ensures

pub returns-in-Procedure : goal.returns-in-Procedure
returns-in-Procedure c = reads_on (in_procedure_lem _ _ _ _ (ap kind_number c.in-Procedure.is)) c.procedure.ensures

pub returns-in_default-kind : goal.returns-in_default-kind
unfolding tree_found
returns-in_default-kind c = reads_on (in_accumulator _ _ _ _ (rw c.in_default.is at c.of_kind.ensures) (apart _ Kind.Array c.in_default-kind.not-Array) (apart _ Kind.Nextsector c.in_default-kind.not-Nextsector) (apart _ Kind.Procedure c.in_default-kind.not-Procedure)) c.accumulator.ensures
