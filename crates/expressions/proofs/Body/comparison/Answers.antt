use Rattle.expressions.proofs.ComparingLaws.{relation_compared, test_read, no_comparison}
use Rattle.expressions.proofs.Body.comparison.Goals as goal

pub returns-then-is_relation : goal.returns-then-is_relation
returns-then-is_relation c = relation_compared _ _ _ _ c.token_at-t.ensures c.is_relation.ensures c.if-is_relation.true c.related.ensures

pub returns-in-Some : goal.returns-in-Some
returns-in-Some c = test_read _ _ _ _ c.token_at-t.ensures c.is_relation.ensures c.if-is_relation.false c.test.ensures c.in-Some.is c.emit_test.ensures

pub returns : goal.returns
returns c = no_comparison _ _ _ _ c.token_at-t.ensures c.is_relation.ensures c.if-is_relation.false c.test.ensures c.in_default.is c.fail_at.ensures.number c.fail_at.ensures.cause c.fail_at.ensures.at
