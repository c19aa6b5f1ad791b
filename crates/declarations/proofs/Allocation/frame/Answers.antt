use mathlib.Core.Path.{refl}
use Rattle.parser.specs.Reads.Reads.{read, fails}
use Rattle.parser.proofs.Answers.{onward}
use Rattle.parser.proofs.ReadLaws.{came, failed_as}
use Rattle.declarations.proofs.FrameLaws.{frame_parsed, frame_framed}
use Rattle.declarations.proofs.Allocation.frame.Goals as goal

pub returns-in_default : goal.returns-in_default
returns-in_default c = fails (onward (failed_as c.locals-list.ensures c.unwrap_err.ensures) (frame_parsed _ _ c.local_scope-inner.ensures)) refl tt

pub returns : goal.returns
returns c = let r = came c.locals-list.ensures c.in-Ok.is in
    read (frame_parsed _ _ c.local_scope-inner.ensures r.is) refl (frame_framed _ _ c.local_scope-inner.ensures r.holds c.emit_link.ensures refl refl)
