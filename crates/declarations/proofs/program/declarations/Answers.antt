use mathlib.Core.Path.{◌≡◌, sym, ◌∙◌, refl}
use Prim.Native.Nat.{◌+◌, ◌-◌}
use lib.ListN.{length}
use native.Mathlib.Omega.{arith}
use borrow.Author.Tests.{not-true, not-false}
use Rattle.parser.proofs.ReadLaws.{turn_zero, turn_none, turn_failed, turn_next}
use Rattle.declarations.proofs.AllocationLaws.{none_declared}
use Rattle.declarations.proofs.FormLaws.{declarations_first, declaration_none, declaration_some, declaration_next}
use Rattle.declarations.proofs.program.declarations.Goals as goal

pub loop-init : goal.loop-init
loop-init c = let q : length c.args.source.now - 0 ≡ length c.args.source.now = omega arith in (rw q (declarations_first _ _ _ (none_declared _ _ _ _ c.requires.0.sound)), refl, refl)

pub returns-after-loop : goal.returns-after-loop
returns-after-loop c = turn_zero c.loop.invariant.0 (let h = c.loop-test.false in omega (arith, h)) (λ new d. d)

pub returns-then-not-begins : goal.returns-then-not-begins
returns-then-not-begins c = turn_none c.loop.invariant.0 (declaration_none _ _ _ _ c.token_at-t.ensures (sym c.begins.ensures ∙ not-true _ c.if-not-begins.true-raw)) (λ new d. d)

pub returns-in_default : goal.returns-in_default
returns-in_default c = let l = c.loop.invariant in
    rw c.in_default.is
    (turn_failed l.0 (λ z. absurd (let h = c.loop-test.true in omega (arith, h, z))) (declaration_some _ _ _ _ c.token_at-t.ensures (sym c.begins.ensures ∙ not-false _ c.if-not-begins.false-raw)) (declaration_next _ _ _ c.args.plan (c.requires.0.allocation c.args.table.now) l.0.holds c.declaration-one.ensures) c.in_default.is (λ w. w))

pub loop-preserved : goal.loop-preserved
loop-preserved c = let l = c.loop.invariant in
    let q : length c.args.source.now - c.loop.counter - 1 ≡ length c.args.source.now - (c.loop.counter + 1) = omega arith in
    (rw (← q) (turn_next l.0 (λ z. absurd (let h = c.loop-test.true in omega (arith, h, z))) (declaration_some _ _ _ _ c.token_at-t.ensures (sym c.begins.ensures ∙ not-false _ c.if-not-begins.false-raw)) (declaration_next _ _ _ c.args.plan (c.requires.0.allocation c.args.table.now) l.0.holds c.declaration-one.ensures) c.in-Ok.is), c.declaration-one.auto.table ∙ l.1, c.declaration-one.auto.image ∙ l.2)
