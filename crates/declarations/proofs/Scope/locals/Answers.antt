use mathlib.Core.Path.{◌≡◌, ◌∙◌, refl}
use Prim.Native.Nat.{◌+◌, ◌-◌}
use lib.ListN.{length}
use native.Mathlib.Omega.{arith}
use Rattle.declarations.specs.Scopes.{tree_found}
use Rattle.parser.proofs.ReadLaws.{turn_zero, turn_none, turn_failed, turn_next}
use Rattle.declarations.proofs.ScopeLaws.{none_scoped}
use Rattle.declarations.proofs.ListLaws.{locals_first, local_none, local_some, locals_next}
use Rattle.declarations.proofs.Scope.locals.Goals as goal

pub loop-init : goal.loop-init
loop-init c = let q : length c.args.source.now - 0 ≡ length c.args.source.now = omega arith in (rw q (locals_first _ _ _ (none_scoped _ _ _ c.requires)), refl, refl)

pub returns-after-loop : goal.returns-after-loop
returns-after-loop c = turn_zero c.loop.invariant.0 (let h = c.loop-test.false in omega (arith, h)) (λ items d. d)

pub returns-in_default : goal.returns-in_default
unfolding tree_found
returns-in_default c = turn_none c.loop.invariant.0 (local_none _ _ _ _ c.token_at-t.ensures (rw c.in_default.is at c.of_kind.ensures)) (λ items d. d)

pub returns-in_default-list : goal.returns-in_default-list
unfolding tree_found
returns-in_default-list c = let l = c.loop.invariant in
    rw c.in_default-list.is
    (turn_failed l.0 (λ z. absurd (let h = c.loop-test.true in omega (arith, h, z))) (local_some _ _ _ _ c.token_at-t.ensures (rw c.in-Some.is at c.of_kind.ensures)) (locals_next _ _ _ l.0.holds c.items-list.ensures) c.in_default-list.is (λ w. w))

pub loop-preserved : goal.loop-preserved
unfolding tree_found
loop-preserved c = let l = c.loop.invariant in
    let q : length c.args.source.now - c.loop.counter - 1 ≡ length c.args.source.now - (c.loop.counter + 1) = omega arith in
    (rw (← q) (turn_next l.0 (λ z. absurd (let h = c.loop-test.true in omega (arith, h, z))) (local_some _ _ _ _ c.token_at-t.ensures (rw c.in-Some.is at c.of_kind.ensures)) (locals_next _ _ _ l.0.holds c.items-list.ensures) c.in-Ok.is), c.items-list.auto.table ∙ l.1, c.items-list.auto.image ∙ l.2)
