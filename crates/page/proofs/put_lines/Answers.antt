use native.Mathlib.Omega.{arith}
use Prim.Native.Nat.{◌+◌, ◌-◌}
use mathlib.Core.Path.{◌≡◌, ap, ◌∙◌}
use Rattle.std.specs.Option.{unwrap_or}
use Rattle.page.proofs.NameLaws.{sized_back}
use lib.ListN.{length-drop}
use native.Mathlib.Nat.{add_assoc}
use Rattle.text.proofs.Laws.{begins, goes_on, is_whole}
use Rattle.page.proofs.FarmLaws.{Next, next, no_lines}
use Rattle.page.proofs.put_lines.Goals as goal

pub loop-delivered-init : goal.loop-delivered-init
loop-delivered-init c = (omega arith, omega arith, c.requires.0, begins _ _)

pub slice_bounds-put_line-end : goal.slice_bounds-put_line-end
slice_bounds-put_line-end c =
    let there : Next c.args.names.now c.args.litres.now c.loop-delivered.from c.loop-delivered.delivered-index c.unwrap_or.result c.loop-delivered.total =
    next _ _ c.loop-delivered.invariant.0 c.loop-delivered-test.true (c.unwrap_or.ensures ∙ ap (λ o. unwrap_or o 0) c.name_length.ensures ∙ sized_back _) c.loop-delivered.invariant.2 in
    let inside = (there).there.inside in omega (arith, inside)

pub loop-delivered-preserved : goal.loop-delivered-preserved
loop-delivered-preserved c =
    let there : Next c.args.names.now c.args.litres.now c.loop-delivered.from c.loop-delivered.delivered-index c.unwrap_or.result c.loop-delivered.total =
    next _ _ c.loop-delivered.invariant.0 c.loop-delivered-test.true (c.unwrap_or.ensures ∙ ap (λ o. unwrap_or o 0) c.name_length.ensures ∙ sized_back _) c.loop-delivered.invariant.2 in
    let loop = c.loop-delivered in
    let farm = there in
    let inside = farm.there.inside in
    let few = farm.few in
    let size : loop.from + c.unwrap_or.result - loop.from ≡ c.unwrap_or.result = omega arith in
    let more = add_assoc loop.from c.unwrap_or.result 1 in
    (omega (arith, inside), rw c.carried-total.ensures (omega (arith, few, loop.invariant.1)), rw more farm.others, rw (more, c.carried-total.ensures) (goes_on _ _ farm.line loop.invariant.3 (rw (size, c.carried-total.ensures) at c.put_line.ensures)))

pub returns : goal.returns
returns c = let loop = c.loop-delivered in
    let left = length-drop loop.delivered-index c.args.litres.now in
    is_whole (no_lines _ _ _ (omega (arith, left, c.loop-delivered-test.false))) loop.invariant.3
