use mathlib.Core.Path.{refl}
use native.Mathlib.Omega.{arith}
use Rattle.parser.specs.Reads.Reads.{read, fails}
use Rattle.parser.proofs.Answers.{gives_read, gives_failed}
use Rattle.declarations.specs.Scopes.{tree_named}
use Rattle.declarations.proofs.NameLaws.{held_length}
use Rattle.declarations.proofs.ScopeLaws.{one_scoped, item_room}
use Rattle.declarations.proofs.Scope.item.Goals as goal

pub returns-in_default : goal.returns-in_default
returns-in_default c = fails (gives_failed tree_named c.item_at-read.ensures c.unwrap_err.ensures) refl tt

pub returns : goal.returns
returns c = let r = c.requires in
    let scope = c.args.self in
    let parsed = gives_read tree_named c.item_at-read.ensures c.in-Ok.is in
    let few = item_room _ _ _ _ parsed in
    let held = held_length scope.names c.args.table.now (omega (arith, r.long, r.few)) in
    let d = rw c.symbol_of.ensures at c.declare.ensures in
    let l = c.emit_item-size.ensures in
    read parsed refl (one_scoped scope _ _ _ _ _ _ _ r (omega (arith, few, held)) c.declare.auto.table d l.1 l.2 l.0)
