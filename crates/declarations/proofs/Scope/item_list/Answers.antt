use Rattle.source.specs.declared.kind.Kind.TheVariants as Kind
use Rattle.source.proofs.KindLaws.{not_unequal_kinds, unequal_kinds}
use mathlib.Core.Path.{◌≡◌, refl, ap, ◌∙◌}
use Rattle.source.specs.Tokens.{token_at}
use mathlib.Core.List.{[]}
use Prim.Native.Nat.{◌+◌, ◌-◌}
use lib.ListN.{length}
use native.Mathlib.Omega.{arith}
use Rattle.parser.proofs.ReadLaws.{list_end, list_first, list_failed, list_last, list_next}
use Rattle.declarations.proofs.ScopeLaws.{none_scoped, local_next}
use Rattle.declarations.proofs.Scope.item_list.Goals as goal

pub loop-init : goal.loop-init
loop-init c = let q : length c.args.source.now - 0 ≡ length c.args.source.now = omega arith in (rw q (list_first _ _ _ [] _ (none_scoped _ _ _ c.requires)), refl, refl)

pub returns-in_default : goal.returns-in_default
returns-in_default c = let l = c.loop.invariant in
    rw c.in_default.is (list_failed l.0 (local_next _ _ _ l.0.holds c.item-one.ensures) c.in_default.is (λ w. w))

pub returns-then-ne : goal.returns-then-ne
returns-then-ne c = let l = c.loop.invariant in
    rw c.in-Ok.is (list_last l.0 (local_next _ _ _ l.0.holds c.item-one.ensures) c.in-Ok.is (c.token_at-t.ensures ∙ ap (λ p. token_at c.args.source.now p.next) c.in-Ok.field-0-is) (unequal_kinds _ Kind.Comma c.ne.ensures c.if-ne.true))

pub loop-preserved : goal.loop-preserved
loop-preserved c = let l = c.loop.invariant in
    let q : length c.args.source.now - c.loop.counter - 1 ≡ length c.args.source.now - (c.loop.counter + 1) = omega arith in
    (rw (c.in-Ok.field-0-is, ← q) (list_next l.0 (local_next _ _ _ l.0.holds c.item-one.ensures) c.in-Ok.is (c.token_at-t.ensures ∙ ap (λ p. token_at c.args.source.now p.next) c.in-Ok.field-0-is) (λ z. absurd (let h = c.loop-test.true in omega (arith, h, z))) (not_unequal_kinds _ Kind.Comma c.ne.ensures c.if-ne.false)), c.item-one.auto.table ∙ l.1, c.item-one.auto.image ∙ l.2)

pub returns : goal.returns
returns c = let l = c.loop.invariant in
    list_end l.0 (local_next _ _ _ l.0.holds c.item.ensures) (let h = c.loop-test.false in omega (arith, h))
