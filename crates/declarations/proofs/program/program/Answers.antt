use Prim.Native.Nat.{ℕ, ◌≤◌, ◌<◌}
use mathlib.Core.Path.{◌≡◌, refl}
use mathlib.Core.Bool.{true, false}
use lib.Dec.{leb}
use native.Mathlib.Omega.{arith}
use borrow.Author.Tests.{le-leb, lt-leb}
use Rattle.parser.specs.Failures.{cause_of}
use Rattle.parser.specs.Reads.Reads.{fails}
use Rattle.parser.proofs.ReadLaws.{reads_on}
use Rattle.declarations.specs.Scopes.{table_words}
use Rattle.declarations.specs.Procedures.{program_on}
use Rattle.declarations.proofs.program.program.Goals as goal

-- The definition's length, by the one that the code compares with.
short : {n m : ℕ} → n < m → m ≤ table_words → leb table_words n ≡ false
short {n} h l = lt-leb table_words n (omega (arith, h, l))

room : {n m : ℕ} → m ≤ n → table_words ≤ m → leb table_words n ≡ true
room {n} h l = le-leb table_words n (omega (arith, h, l))

-- A short table is refused; else it is the program, and no call changes a length.
pub returns-then-table-lt-TABLE_WORDS : goal.returns-then-table-lt-TABLE_WORDS
unfolding program_on cause_of
returns-then-table-lt-TABLE_WORDS c = (fails (rw (short c.if-table-lt-TABLE_WORDS.true (omega arith)) refl, refl) refl tt, record { table_kept = refl; image_kept = refl })

pub returns : goal.returns
unfolding program_on
returns c = (reads_on (rw (room c.if-table-lt-TABLE_WORDS.false (omega arith)) refl) c.whole.ensures, record { table_kept = c.whole.auto.table; image_kept = c.whole.auto.image })
