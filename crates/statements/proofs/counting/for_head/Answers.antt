use Rattle.source.specs.declared.kind.Kind.TheVariants as Kind
use Rattle.source.proofs.KindLaws.{equal_kinds, other_kinds}
use mathlib.Core.Path.{refl, ◌∙◌}
use Rattle.symbols.specs.Trees.{tree_id, tree_operand, tree_cell}
use Rattle.statements.specs.Forms.{counter_of, head_words}
use Rattle.parser.specs.Reads.Reads.{read, fails}
use Rattle.parser.proofs.Answers.{onward, then_got}
use Rattle.parser.proofs.ReadLaws.{came, pass}
use Rattle.emitter.proofs.Lays.{here}
use Rattle.statements.proofs.CountingLaws.{head_hash, head_integer, head_refused, no_head}
use borrow.Enum.Refused.{opened}
use Rattle.statements.proofs.counting.for_head.Goals as goal

pub returns-in_default : goal.returns-in_default
returns-in_default c = pass _ c.set_x-read.ensures c.unwrap_err.ensures (head_hash _ _ _ _ _ c.token_at-t.ensures (equal_kinds _ Kind.Hash c.eq.ensures c.if-eq.true)) (λ w. w)

pub returns-then-eq : goal.returns-then-eq
unfolding counter_of head_words tree_id
returns-then-eq c =
    let x = came c.set_x-read.ensures c.in-Ok.is in
    read (head_hash _ _ _ _ _ c.token_at-t.ensures (equal_kinds _ Kind.Hash c.eq.ensures c.if-eq.true) ∙ then_got _ x.is) refl (x.holds, refl)

pub returns-in_default-symbol : goal.returns-in_default-symbol
returns-in_default-symbol c =
    fails (onward c.refuse_at.ensures (no_head _ (head_refused _ _ _ _ _ c.token_at-t.ensures _ (other_kinds _ Kind.Hash c.eq.ensures c.if-eq.false) c.lookup_at-symbol.ensures (opened c.in_default-symbol.in_default-symbol-own.keys2)))) refl here

pub returns-in_default-read : goal.returns-in_default-read
returns-in_default-read c =
    pass _ c.store-read.ensures c.unwrap_err-in_default-read.ensures (head_integer _ _ _ _ _ c.token_at-t.ensures _ (other_kinds _ Kind.Hash c.eq.ensures c.if-eq.false) c.lookup_at-symbol.ensures _ c.in-Integer.is) (λ w. w)

pub returns : goal.returns
unfolding counter_of head_words tree_cell tree_operand
returns c =
    let x = came (rw c.plain.ensures at c.store-read.ensures) c.in-Ok-read.is in
    read (head_integer _ _ _ _ _ c.token_at-t.ensures _ (other_kinds _ Kind.Hash c.eq.ensures c.if-eq.false) c.lookup_at-symbol.ensures _ c.in-Integer.is ∙ then_got _ x.is) refl (x.holds, refl)
