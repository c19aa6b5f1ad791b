use Rattle.parser.proofs.Answers.{then_got, then_failed, gives_read, gives_failed, onward}
use Rattle.declarations.proofs.limits.limit_then_expect.Goals as goal

pub returns-in_default : goal.returns-in_default
returns-in_default c = λ number h. rw c.in_default.is (onward (gives_failed (λ t. t) (c.pass_at-passed.ensures number h) c.in_default.is) (then_failed _))

pub returns : goal.returns
returns c = λ number h. rw (then_got _ (gives_read (λ t. t) (c.pass_at-passed.ensures number h) c.in-Ok.is)) c.expect.ensures
