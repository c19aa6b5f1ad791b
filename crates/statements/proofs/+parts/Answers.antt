use Rattle.source.specs.declared.kind.Kind.TheVariants as Kind
use Rattle.source.proofs.KindLaws.{not_unequal_kinds, unequal_kinds}
use mathlib.Core.Path.{◌≡◌, refl, sym, ap, ap₂, ◌∙◌}
use Prim.Native.Nat.{◌+◌, ◌-◌}
use lib.ListN.{length}
use Rattle.source.specs.Tokens.{token_at}
use Rattle.grammar.specs.Parse.Got.{failed}
use native.Mathlib.Omega.{arith}
use Rattle.expressions.proofs.Leaves.{hole_later}
use Rattle.tree.specs.Tree.{Target}
use Rattle.layout.specs.Words.{target_cell, stmt_words}
use Rattle.grammar.specs.Statements.{parse_when, parse_while, stmt_from}
use Rattle.symbols.specs.Trees.{tree_operand, tree_cell}
use Rattle.cells.specs.Answers.{tree_statement_start}
use Rattle.parser.specs.Failures.{cause_of}
use Rattle.parser.specs.Reads.Reads.{read, fails}
use Rattle.parser.proofs.Answers.{then_got, gives_read, gives_failed, onward}
use Rattle.parser.proofs.ReadLaws.{came, pass, reads_on, list_failed, list_last, list_end, sequel_next}
use Rattle.layout.specs.Emission.{emit_all}
use Rattle.emitter.proofs.Lays.{kept_image, here, of_kept, nothing}
use Rattle.statements.proofs.Forms.{follow}
use Rattle.statements.proofs.AssignmentLaws.{stored_as, to_a_lem, to_x, called}
use Rattle.statements.proofs.Branches.{guarded_as, if_as, after_test, guards, when_lays, while_lays, first_kept, if_lays}
use Rattle.statements.proofs.CountingLaws.{for_as, for_lays}
use Rattle.statements.proofs.Lists.{compounded, words_of, listed_one, upcoming_first, upcoming_next}
use Rattle.statements.proofs.Starts.{stmt_empty, stmt_unknown, stmt_deep, stmt_on}
use Rattle.statements.proofs.+parts.Goals as goal

pub compound-returns : goal.compound-returns
compound-returns t c = compounded _ _ _ _ (follow _ _ c.listed-all.ensures c.followed_by.ensures (λ _ _ l. of_kept l.kept) (λ w. w))

pub for_statement-returns-in_default : goal.for_statement-returns-in_default
for_statement-returns-in_default t c =
    pass _ (follow _ _ c.for_head-counted.ensures c.followed_by-head.ensures (λ h o l. of_kept l.0.kept) (λ w. w)) c.unwrap_err.ensures (for_as _ _ _ _ _) (λ w. w)

pub for_statement-returns-in_default-read : goal.for_statement-returns-in_default-read
for_statement-returns-in_default-read t c =
    let x = came (follow _ _ c.for_head-counted.ensures c.followed_by-head.ensures (λ h o l. of_kept l.0.kept) (λ w. w)) c.in-Ok.is in
    rw c.in_default-read.is (pass _ c.statement-read.ensures c.in_default-read.is (for_as _ _ _ _ _ ∙ then_got _ x.is) (kept_image x.holds.0.kept))

pub for_statement-returns : goal.for_statement-returns
unfolding tree_operand emit_all
for_statement-returns t c =
    let x = came (follow _ _ c.for_head-counted.ensures c.followed_by-head.ensures (λ h o l. of_kept l.0.kept) (λ w. w)) c.in-Ok.is in
    let y = came c.statement-read.ensures c.in-Ok-read.is in
    read (for_as _ _ _ _ _ ∙ then_got _ x.is ∙ then_got _ y.is) refl
    (for_lays x.tree y.tree x.holds.0 x.holds.1 y.holds c.emit_memory-after_count.ensures.emitted c.emit_jump.ensures.emitted)

pub form-returns-in-Integer : goal.form-returns-in-Integer
unfolding stmt_from tree_statement_start tree_cell tree_operand target_cell
form-returns-in-Integer t c = rw c.in-Integer.is (stored_as _ _ _ _ (Target.integer _) (rw c.plain.ensures at c.store.ensures))

pub form-returns-in-Element : goal.form-returns-in-Element
unfolding stmt_from tree_statement_start
form-returns-in-Element t c = rw c.in-Element.is c.element.ensures

pub form-returns-in-Accumulator : goal.form-returns-in-Accumulator
unfolding stmt_from tree_statement_start
form-returns-in-Accumulator t c = rw c.in-Accumulator.is (to_a_lem _ _ _ _ c.assigned.ensures)

pub form-returns-in-Hash : goal.form-returns-in-Hash
unfolding stmt_from tree_statement_start
form-returns-in-Hash t c = rw c.in-Hash.is (to_x _ _ _ c.set_x.ensures)

pub form-returns-in-If : goal.form-returns-in-If
unfolding stmt_from tree_statement_start
form-returns-in-If t c = rw c.in-If.is c.if_statement.ensures

pub form-returns-in-When : goal.form-returns-in-When
unfolding stmt_from tree_statement_start
form-returns-in-When t c = rw c.in-When.is c.when_statement.ensures

pub form-returns-in-While : goal.form-returns-in-While
unfolding stmt_from tree_statement_start
form-returns-in-While t c = rw c.in-While.is c.while_statement.ensures

pub form-returns-in-For : goal.form-returns-in-For
unfolding stmt_from tree_statement_start
form-returns-in-For t c = rw c.in-For.is c.for_statement.ensures

pub form-returns-in-Compound : goal.form-returns-in-Compound
unfolding stmt_from tree_statement_start
form-returns-in-Compound t c = rw c.in-Compound.is c.compound.ensures

pub form-returns-in-Call : goal.form-returns-in-Call
unfolding stmt_from tree_statement_start
form-returns-in-Call t c = rw c.in-Call.is (called _ _ _ _ _ c.call.ensures)

pub guarded-returns-in_default : goal.guarded-returns-in_default
guarded-returns-in_default t c =
    rw c.in_default.is (pass _ (after_test _ _ c.condition-condition.ensures c.followed_by-test.ensures) c.in_default.is (guarded_as _ _ _ _ _ _) (λ w. w))

pub guarded-returns-in_default-read : goal.guarded-returns-in_default-read
guarded-returns-in_default-read t c =
    let x = came (after_test _ _ c.condition-condition.ensures c.followed_by-test.ensures) c.in-Ok.is in
    pass _ c.statement-read.ensures c.unwrap_err.ensures (guarded_as _ _ _ _ _ _ ∙ then_got _ x.is) (kept_image x.holds.lays.kept)

pub guarded-returns : goal.guarded-returns
guarded-returns t c =
    let x = came (after_test _ _ c.condition-condition.ensures c.followed_by-test.ensures) c.in-Ok.is in
    let y = came c.statement-read.ensures c.in-Ok-read.is in
    read (guarded_as _ _ _ _ _ _ ∙ then_got _ x.is ∙ then_got _ y.is) refl (guards x.tree y.tree x.holds y.holds)

pub if_statement-returns-in_default : goal.if_statement-returns-in_default
if_statement-returns-in_default t c =
    pass _ (after_test _ _ c.guarded-guarded.ensures c.followed_by-first.ensures) c.unwrap_err.ensures (if_as _ _ _ _ _) (λ w. w)

pub if_statement-returns-in_default-second : goal.if_statement-returns-in_default-second
if_statement-returns-in_default-second t c =
    let x = came (after_test _ _ c.guarded-guarded.ensures c.followed_by-first.ensures) c.in-Ok.is in
    rw c.in_default-second.is (pass _ c.statement-second.ensures c.in_default-second.is (if_as _ _ _ _ _ ∙ then_got _ x.is) (kept_image (first_kept x.tree x.holds (hole_later c.emit_hole-end.ensures) c.fill_jump.ensures)))

pub if_statement-returns : goal.if_statement-returns
if_statement-returns t c =
    let x = came (after_test _ _ c.guarded-guarded.ensures c.followed_by-first.ensures) c.in-Ok.is in
    let y = came c.statement-second.ensures c.in-Ok-second.is in
    read (if_as _ _ _ _ _ ∙ then_got _ x.is ∙ then_got _ y.is) refl
    (if_lays x.tree x.holds (hole_later c.emit_hole-end.ensures) c.fill_jump.ensures y.tree y.holds c.fill_jump-2.ensures)

pub listed-loop-init : goal.listed-loop-init
listed-loop-init t c =
    let q : length c.args.body.now.reader.source.now - 0 ≡ length c.args.body.now.reader.source.now = omega arith in
    (refl, λ a h. rw q (upcoming_first _ _ _ _ h))

pub listed-returns-in_default : goal.listed-returns-in_default
listed-returns-in_default t c =
    let u = c.loop.invariant.1 _ (listed_one _ _ c.statement-one.ensures) in
    rw c.in_default.is (list_failed u.list u.read c.in_default.is (λ w. w))

pub listed-returns-then-ne : goal.listed-returns-then-ne
listed-returns-then-ne t c =
    let u = c.loop.invariant.1 _ (listed_one _ _ c.statement-one.ensures) in
    rw c.in-Ok.is (list_last u.list u.read c.in-Ok.is (c.token_at-t.ensures ∙ ap (λ p. token_at c.args.body.now.reader.source.now p.next) c.in-Ok.field-0-is) (unequal_kinds _ Kind.Semicolon c.ne.ensures c.if-ne.true))

pub listed-loop-preserved : goal.listed-loop-preserved
unfolding words_of
listed-loop-preserved t c =
    let q : length c.args.body.now.reader.source.now - c.loop.counter - 1 ≡ length c.args.body.now.reader.source.now - (c.loop.counter + 1) = omega arith in
    (omega (arith, c.loop.invariant.0, c.statement-one-in-loop.auto), λ a h. let u = c.loop.invariant.1 a h in rw (← q) (upcoming_next (sequel_next u.list u.read c.in-Ok.is (c.token_at-t.ensures ∙ ap (λ p. token_at c.args.body.now.reader.source.now p.next) c.in-Ok.field-0-is) (λ _ h. h) (λ z. absurd (let h = c.loop-test.true in omega (arith, h, z))) (not_unequal_kinds _ Kind.Semicolon c.ne.ensures c.if-ne.false)) (rw c.in-Ok.field-0-is at c.statement-one-in-loop.ensures)))

pub listed-returns : goal.listed-returns
listed-returns t c =
    let u = c.loop.invariant.1 _ (listed_one _ _ c.statement-one.ensures) in
    list_end u.list u.read (let h = c.loop-test.false in omega (arith, h))

pub statement-returns-then-ends_statement : goal.statement-returns-then-ends_statement
unfolding stmt_words
statement-returns-then-ends_statement t c = read (stmt_empty _ _ _ _ c.token_at-t.ensures _ (sym c.ends_statement.ensures ∙ c.if-ends_statement.true)) refl nothing

pub statement-returns-in_default : goal.statement-returns-in_default
statement-returns-in_default t c =
    fails (onward (gives_failed tree_statement_start c.statement_start_at-found.ensures c.unwrap_err.ensures) (stmt_unknown _ _ _ _ c.token_at-t.ensures (sym c.ends_statement.ensures ∙ c.if-ends_statement.false) _)) refl here

pub statement-returns-then-left-eq0 : goal.statement-returns-then-left-eq0
statement-returns-then-left-eq0 t c =
    fails (stmt_deep _ _ _ _ c.token_at-t.ensures (sym c.ends_statement.ensures ∙ c.if-ends_statement.false) (gives_read tree_statement_start c.statement_start_at-found.ensures c.in-Ok.is) _ c.if-left-eq0.true ∙ ap₂ (λ x y. failed x y) (sym c.fail_at.ensures.number) (sym c.fail_at.ensures.at), c.fail_at.ensures.cause ∙ ap cause_of (sym c.fail_at.ensures.number)) refl here

pub statement-returns : goal.statement-returns
statement-returns t c =
    reads_on (stmt_on _ _ _ _ c.token_at-t.ensures (sym c.ends_statement.ensures ∙ c.if-ends_statement.false) (gives_read tree_statement_start c.statement_start_at-found.ensures c.in-Ok.is) _ c.if-left-eq0.false) c.form.ensures

pub when_statement-returns-in_default : goal.when_statement-returns-in_default
unfolding parse_when
when_statement-returns-in_default t c =
    pass _ c.guarded-all.ensures c.unwrap_err.ensures refl (λ w. w)

pub when_statement-returns : goal.when_statement-returns
unfolding parse_when
when_statement-returns t c =
    let x = came c.guarded-all.ensures c.in-Ok.is in
    read (then_got _ x.is) refl (when_lays x.tree x.holds c.fill_jump.ensures)

pub while_statement-returns-in_default : goal.while_statement-returns-in_default
unfolding parse_while
while_statement-returns-in_default t c =
    pass _ c.guarded-all.ensures c.unwrap_err.ensures refl (λ w. w)

pub while_statement-returns : goal.while_statement-returns
unfolding parse_while
while_statement-returns t c =
    let x = came c.guarded-all.ensures c.in-Ok.is in
    read (then_got _ x.is) refl (while_lays x.tree x.holds c.emit_jump-after_jump.ensures.emitted c.fill_jump.ensures)
