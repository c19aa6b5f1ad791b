use mathlib.Core.Path.{refl}
use Rattle.parser.specs.Reads.Reads.{read, fails}
use Rattle.parser.proofs.Answers.{onward}
use Rattle.parser.proofs.ReadLaws.{came, failed_as}
use Rattle.declarations.proofs.ProcedureLaws.{body_locals, body_statements, body_on, body_bodied}
use Rattle.declarations.proofs.procedures.body.Goals as goal

pub returns-in_default : goal.returns-in_default
returns-in_default c = fails (onward (failed_as c.frame-before.ensures c.unwrap_err.ensures) (body_locals _ _ _ _)) refl tt

pub returns-in_default-inside : goal.returns-in_default-inside
returns-in_default-inside c = let r = came c.frame-before.ensures c.in-Ok.is in
    fails (onward (failed_as c.statements_under-inside.ensures c.in_default-inside.is) (body_statements _ _ _ _ r.is r.holds.alive)) c.in_default-inside.is tt

pub returns : goal.returns
returns c = let r = came c.frame-before.ensures c.in-Ok.is in
    let q = came c.statements_under-inside.ensures c.in-Ok-inside.is in
    read (body_on _ _ _ _ r.is r.holds.alive q.is) refl (body_bodied _ _ r.holds q.holds c.emit_return.ensures.emitted)
