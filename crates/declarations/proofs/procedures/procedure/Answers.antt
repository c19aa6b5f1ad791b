use mathlib.Core.Path.{refl, ◌∙◌}
use native.Mathlib.Omega.{arith}
use Rattle.parser.specs.Reads.Reads.{read, fails}
use Rattle.symbols.specs.Packing.{unpack}
use Rattle.symbols.specs.Trees.{tree_symbol}
use Rattle.declarations.specs.Allocations.{allocation_of}
use Rattle.declarations.proofs.NameLaws.{held_length}
use Rattle.parser.proofs.Answers.{then_got, then_failed, gives_read, gives_failed, onward}
use Rattle.parser.proofs.ReadLaws.{came, failed_as}
use Rattle.declarations.proofs.ProcedureLaws.{heading_room, procedure_heading, procedure_body, procedure_ended, procedure_limit, procedure_declared, ended_zero}
use Rattle.declarations.proofs.procedures.procedure.Goals as goal

pub returns-in_default : goal.returns-in_default
returns-in_default c = fails (onward (gives_failed unpack c.heading-named.ensures c.unwrap_err.ensures) (procedure_heading _ _ _ _)) refl tt

pub body-inside-requires : goal.body-inside-requires
body-inside-requires c = let h = c.requires.0 in
    let s = c.args.allocation in
    let table = c.args.table.now in
    let few = heading_room c.args.source.now (allocation_of s table).scope c.args.at (gives_read unpack c.heading-named.ensures c.in-Ok.is) in
    let held = held_length s.names table (let l = c.requires.1 in omega (arith, h.few, l)) in
    (h, c.requires.1, omega (arith, few, held))

pub returns-in_default-inside : goal.returns-in_default-inside
returns-in_default-inside c = let head = gives_read unpack c.heading-named.ensures c.in-Ok.is in
    fails (onward (failed_as c.body-inside.ensures c.unwrap_err-in_default-inside.ensures) (procedure_body _ _ _ _ head)) refl tt

pub returns-in_default-ended : goal.returns-in_default-ended
returns-in_default-ended c = let h = c.requires.0 in
    let head = gives_read unpack c.heading-named.ensures c.in-Ok.is in
    let r = came c.body-inside.ensures c.in-Ok-inside.is in
    fails (onward (gives_failed (λ t. t) c.end_then_expect-ended.ensures c.unwrap_err-in_default-ended.ensures) (λ e. procedure_ended _ _ _ _ head r.is _ (procedure_limit c.args.accumulator h r.holds) ∙ then_failed _ e)) refl tt

pub returns : goal.returns
unfolding tree_symbol
returns c = let h = c.requires.0 in
    let s = c.args.allocation in
    let table = c.args.table.now in
    let head = gives_read unpack c.heading-named.ensures c.in-Ok.is in
    let few = heading_room c.args.source.now (allocation_of s table).scope c.args.at head in
    let held = held_length s.names table (let l = c.requires.1 in omega (arith, h.few, l)) in
    let r = came c.body-inside.ensures c.in-Ok-inside.is in
    let e = gives_read (λ t. t) c.end_then_expect-ended.ensures c.in-Ok-ended.is in
    read (procedure_ended _ _ _ _ head r.is _ (procedure_limit c.args.accumulator h r.holds) ∙ then_got _ e) refl
    (rw c.with_global.ensures.1 (procedure_declared _ h r.holds c.args.plan _ _ refl c.end_of-pool.ensures c.requires.1 held few c.body-inside.auto.table c.with_global.auto.table c.with_global.ensures.0 (ended_zero _ _ _ _ e)))
