use mathlib.Core.Path.{refl, ◌∙◌}
use Rattle.parser.specs.Reads.Reads.{read, fails}
use Rattle.parser.proofs.Answers.{then_got, then_failed, gives_read, gives_failed, onward}
use Rattle.parser.proofs.ReadLaws.{came, failed_as}
use Rattle.declarations.proofs.ProcedureLaws.{ended_zero}
use Rattle.declarations.proofs.ProgramLaws.{main_failed, main_ended, main_lays, main_limit_lem, main_finished}
use Rattle.declarations.proofs.program.main_body.Goals as goal

pub returns-in_default : goal.returns-in_default
returns-in_default c = fails (onward (failed_as c.statements_under-inside.ensures c.in_default.is) (main_failed _ _ _)) c.in_default.is tt

pub returns-in_default-ended : goal.returns-in_default-ended
returns-in_default-ended c = let h = c.requires.0 in
    let q = came c.statements_under-inside.ensures c.in-Ok.is in
    let lays = main_lays _ _ q.holds c.emit_generic-last.ensures.emitted in
    let last = c.emit_generic-last.result in
    fails (onward (gives_failed (λ t. t) c.end_then_expect-ended.ensures c.unwrap_err.ensures) (λ e. main_ended _ _ _ q.is _ (main_limit_lem c.args.table.now last q.tree h lays) ∙ then_failed _ e)) refl tt

pub returns : goal.returns
returns c = let h = c.requires.0 in
    let q = came c.statements_under-inside.ensures c.in-Ok.is in
    let lays = main_lays _ _ q.holds c.emit_generic-last.ensures.emitted in
    let last = c.emit_generic-last.result in
    let e = gives_read (λ t. t) c.end_then_expect-ended.ensures c.in-Ok-ended.is in
    read (main_ended _ _ _ q.is _ (main_limit_lem c.args.table.now last q.tree h lays) ∙ then_got _ e) refl (main_finished c.args.table.now last q.tree h lays _ c.end_of.ensures (ended_zero _ _ _ _ e) c.store_pool.ensures)
