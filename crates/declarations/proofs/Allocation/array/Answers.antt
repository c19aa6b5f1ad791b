use mathlib.Core.Path.{refl}
use native.Mathlib.Omega.{arith}
use Rattle.parser.specs.Reads.Reads.{read, fails}
use Rattle.symbols.specs.Trees.{tree_symbol}
use Rattle.declarations.specs.Allocations.{allocation_of}
use Rattle.declarations.specs.Clauses.{tree_head}
use Rattle.parser.proofs.Answers.{gives_read, gives_failed, onward}
use Rattle.parser.proofs.ReadLaws.{came, failed_as}
use Rattle.declarations.proofs.NameLaws.{held_length}
use Rattle.declarations.proofs.ArrayLaws.{head_room, array_head_lem, array_values, array_on, array_declared}
use Rattle.declarations.proofs.Allocation.array.Goals as goal

pub returns-in_default : goal.returns-in_default
returns-in_default c = fails (onward (gives_failed tree_head c.array_head-head.ensures c.unwrap_err.ensures) (array_head_lem _ _ _ _)) refl tt

pub array_words-filled-requires : goal.array_words-filled-requires
array_words-filled-requires c =
    let room = head_room c.args.source.now (allocation_of c.args.self c.args.table.now) c.args.at (gives_read tree_head c.array_head-head.ensures c.in-Ok.is) in
    omega (arith, room.space)

pub returns-in_default-filled : goal.returns-in_default-filled
returns-in_default-filled c = let head = gives_read tree_head c.array_head-head.ensures c.in-Ok.is in
    fails (onward (failed_as c.array_words-filled.ensures c.unwrap_err-in_default-filled.ensures) (array_values _ _ _ _ head)) refl tt

pub overflow_sub-self : goal.overflow_sub-self
overflow_sub-self c =
    let room = head_room c.args.source.now (allocation_of c.args.self c.args.table.now) c.args.at (gives_read tree_head c.array_head-head.ensures c.in-Ok.is) in
    omega (arith, room.space)

pub returns : goal.returns
unfolding tree_symbol
returns c = let head = gives_read tree_head c.array_head-head.ensures c.in-Ok.is in
    let room = head_room c.args.source.now (allocation_of c.args.self c.args.table.now) c.args.at head in
    let h = c.requires.0 in
    let r = came c.array_words-filled.ensures c.in-Ok-filled.is in
    let held = held_length c.args.self.names c.args.table.now (let l = c.requires.1 in omega (arith, h.few, l)) in
    read (array_on _ _ _ _ head r.is) refl
    (rw c.with_global.ensures.1 (array_declared _ _ _ _ _ _ _ _ _ _ h c.requires.1 room held c.with_global.auto.table c.with_global.ensures.0 c.store_global.ensures r.holds))
