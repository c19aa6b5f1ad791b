use mathlib.Core.Path.{refl}
use native.Mathlib.Omega.{arith}
use Rattle.parser.specs.Reads.Reads.{read, fails}
use Rattle.parser.proofs.Answers.{gives_read, gives_failed}
use Rattle.declarations.proofs.ArrayLaws.{value_room}
use Rattle.declarations.proofs.values.stored_value.Goals as goal

pub returns-in_default : goal.returns-in_default
returns-in_default c = fails (gives_failed (λ v. v) c.initial_value-read.ensures c.in_default.is) c.in_default.is tt

pub overflow_add-result : goal.overflow_add-result
overflow_add-result c = let few = value_room _ _ _ _ _ (gives_read (λ v. v) c.initial_value-read.ensures c.in-Ok.is) in let s = c.ranges.size.fits in omega (arith, few, s)

pub returns : goal.returns
returns c = let e = gives_read (λ v. v) c.initial_value-read.ensures c.in-Ok.is in
    read e refl (record { laid = c.store.ensures; counted = refl; few = value_room _ _ _ _ _ e })
