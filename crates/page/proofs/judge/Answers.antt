use mathlib.Core.Path.{◌≡◌, sym, ap, ◌∙◌}
use Rattle.std.specs.Prelude.{Err}
use Rattle.std.proofs.Common.{rules, get_or, drop}
use Rattle.page.specs.Names.{names_of}
use Rattle.page.specs.Readings.{length_of}
use Rattle.page.specs.Failures.{numbered}
use Rattle.page.proofs.FarmLaws.{Named, name_at_lem}
use Rattle.page.proofs.Judging.{Passed, passed, judging_on, farm_failed}
use Rattle.page.proofs.judge.Goals as goal

pub returns-in_err-size : goal.returns-in_err-size
returns-in_err-size c =
    let same_failure : c.from_residual.result ≡ Err c.in_err-size.field-0.0 = search rules in
    ap numbered same_failure ∙ sym (farm_failed c.loop-delivered.invariant _ _ c.if-names-from.false c.loop-delivered-test.true (sym (rw (c.in_err-size.was, c.name_length.ensures) at c.check_farm.ensures)))

pub loop-delivered-preserved : goal.loop-delivered-preserved
loop-delivered-preserved c =
    let farm-passed : Passed (get_or c.args.litres.now c.loop-delivered.delivered-index 0) (length_of (names_of (drop c.loop-delivered.from c.args.names.now))) c.in_ok-size.size =
    passed _ _ (sym (rw (c.in_ok-size.was, c.name_length.ensures) at c.check_farm.ensures)) in
    let name-there : Named c.args.names.now c.loop-delivered.from c.in_ok-size.size =
    name_at_lem _ _ _ c.loop-delivered.invariant.inside farm-passed.same farm-passed.some_bytes in
    judging_on c.loop-delivered.invariant _ c.loop-delivered-test.true farm-passed.few name-there
