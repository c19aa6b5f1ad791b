use mathlib.Core.Path.{refl}
use mathlib.Core.List.{[]}
use native.Mathlib.Omega.{arith}
use Rattle.std.proofs.Common.{rules}
use Rattle.layout.specs.Words.{operations_words}
use Rattle.grammar.specs.Parse.{repeat}
use Rattle.grammar.specs.Expressions.{parse_operations}
use Rattle.emitter.proofs.Lays.{nothing}
use Rattle.parser.proofs.ReadLaws.{turn_zero, turn_none, turn_failed, turn_next}
use Rattle.expressions.proofs.OperatorLaws.{turn_one, turn_last, more_none, more_some, after_others}
use Rattle.expressions.proofs.Body.operations.Goals as goal

pub loop-left-init : goal.loop-left-init
unfolding parse_operations repeat operations_words
loop-left-init c = record { turning = record { done = []; same = refl; holds = nothing }; long = refl }

pub returns-in_default : goal.returns-in_default
returns-in_default c = let l = c.loop-left.invariant in
    let q = turn_last c.operation.ensures c.in_default.is in
    rw q.1 (turn_none l.turning (more_none _ _ l.turning.done _ c.operator_at-t.ensures q.0) (λ os h. h))

pub returns-in_default-read : goal.returns-in_default-read
returns-in_default-read c = let l = c.loop-left.invariant in
    let q = turn_one c.operation.ensures c.in-Some.is in
    let os = l.turning.done in
    rw c.in_default-read.is (turn_failed l.turning (λ z. omega (arith, z, c.loop-left-test.true))
    (more_some _ _ os _ c.operator_at-t.ensures q.is) (after_others _ _ _ os l.turning.holds q.compiles) c.in_default-read.is (λ w. w))

pub loop-left-preserved : goal.loop-left-preserved
loop-left-preserved c = let l = c.loop-left.invariant in
    let q = turn_one c.operation.ensures c.in-Some.is in
    let os = l.turning.done in
    record {
      turning = turn_next l.turning (λ z. omega (arith, z, c.loop-left-test.true))
          (more_some _ _ os _ c.operator_at-t.ensures q.is) (after_others _ _ _ os l.turning.holds q.compiles) c.in-Ok.is;
      long = search rules;
    }

pub returns : goal.returns
returns c = turn_zero c.loop-left.invariant.turning (omega (arith, c.loop-left-test.false)) (λ os h. h)
