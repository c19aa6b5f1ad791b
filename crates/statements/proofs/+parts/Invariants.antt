use mathlib.Core.Path.{◌≡◌}
use lib.ListN.{length}
use Rattle.emitter.specs.Emitted.{bases_of}
use mathlib.Core.Option.{none}
use Rattle.layout.specs.Words.{stmts_words}
use Rattle.layout.specs.Emission.{Emitted}
use Rattle.expressions.specs.Compiles.{Compiles, source_of}
use Rattle.statements.specs.Forms.{stmt_at, stmts_at}
use Rattle.statements.proofs.Lists.{Upcoming, next}
use Prim.Native.Nat.{◌+◌, ◌*◌, ◌-◌}
use Rattle.statements.proofs.+parts.Given as goal

abbrev pub decreases-compound : goal.decreases-compound
decreases-compound l = 4 * l.inner + 2

abbrev pub decreases-for_statement : goal.decreases-for_statement
decreases-for_statement l = 4 * l.inner + 2

abbrev pub decreases-form : goal.decreases-form
decreases-form l = 4 * l.inner + 3

abbrev pub decreases-guarded : goal.decreases-guarded
decreases-guarded l = 4 * l.inner + 1

abbrev pub decreases-if_statement : goal.decreases-if_statement
decreases-if_statement l = 4 * l.inner + 2

abbrev pub decreases-listed : goal.decreases-listed
decreases-listed l = 4 * l.left + 1

abbrev pub decreases-statement : goal.decreases-statement
decreases-statement l = 4 * l.left

abbrev pub decreases-when_statement : goal.decreases-when_statement
decreases-when_statement l = 4 * l.inner + 2

abbrev pub decreases-while_statement : goal.decreases-while_statement
decreases-while_statement l = 4 * l.inner + 2

abbrev pub invariant-listed-loop : goal.invariant-listed-loop
invariant-listed-loop l =
    (length l.image ≡ length l.initial.image)
    × ((a : Emitted) → Compiles (bases_of l.body.context) stmts_words a l.initial.image l.initial.one (next (stmt_at l.body l.left) none l.at)
    → Upcoming (bases_of l.body.context) a l.image (source_of l.body) (stmt_at l.body l.left) (stmts_at l.body l.left l.at) l.one (l.end - l.counter))
