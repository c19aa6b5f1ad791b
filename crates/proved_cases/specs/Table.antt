-- Known cases, proved of the definitions: definitions that fail every source, or give all the same words, break rows (C3).
-- A signed value n below 0 is the word 65536 + n.
use Rattle.std.specs.Prelude.{ℕ, ◌+◌, ◌%◌, ◌^◌, ◌<◌, ◌≡◌, true, false, List, [], ◌∷◌, length, set}
use Rattle.prelude.specs.Text.{bytes}
use Rattle.word.specs.Arithmetic.{compare_of}
use Rattle.word.specs.Shift.{LGL}
use Rattle.instruction.specs.declared.Instruction.TheVariants.{Shift}
use Rattle.instruction.specs.Decode.{decode_def}
use Rattle.instruction.specs.Encode.{shift_word}
use Rattle.machine.specs.declared.Request.{Request}
use Rattle.machine.specs.declared.Outcome.TheVariants.{Halted, Spent}
use Rattle.machine.specs.State.{State, state}
use Rattle.machine.specs.Clock.{cooperatives, due_of}
use Rattle.machine.specs.Run.{work, ran, idle, run_def}
use Rattle.compilation.specs.Compile.{Result, compile_def}
use Rattle.compilation.specs.Listing.{listing_def}
use Rattle.proved_cases.specs.Case.{Case, case, Hold}
use Rattle.proved_cases.specs.Samples.{machine_at, run, first_program, absolute, greater, sums}

-- each row begins with its number (K1, K2, K3, K4)
unfoldable pub table : List Case
table =
    case "K1: the listing of the first program"
    (listing_def (compile_def first_program)
    ≡ bytes "result=0\nat=0\nentry=001000\nwords=8\nglobals=1\ng=000200:000000\nw=001000:005005\nw=001001:015006\nw=001002:015007\nw=001003:010200\nw=001004:000000\nw=001005:004134\nw=001006:003523\nw=001007:001700\n")
    ∷ case "K1: its run leaves A at 4975 after 5 steps"
    (run (machine_at 0 0o1000 false) sums ≡ ran (work 5) Halted (state (machine_at 4975 0o1005 true) (set sums 0o200 4975)))
    ∷ case "K2: .BEGIN .END is one HLT"
    (listing_def (compile_def (bytes ".BEGIN .END")) ≡ bytes "result=0\nat=0\nentry=001000\nwords=1\nglobals=0\nw=001000:000000\n")
    ∷ case "K2: an empty source fails with 6 at 0"
    (compile_def (bytes "") ≡ Result.failed 6 0)
    ∷ case "K3: .ABS of -32768 is -32768"
    (run (machine_at 32768 0o1000 false) absolute ≡ ran (work 3) Halted (state (machine_at 32768 0o1003 true) absolute))
    ∷ case "K3: 32767 > -32768 holds: CAS skips 0"
    (compare_of 32767 32768 ≡ 0)
    ∷ case "K3: 32767 > -32768 holds: what follows .THEN is done"
    (run (machine_at 32767 0o1000 false) greater ≡ ran (work 4) Halted (state (machine_at 0 0o1006 true) greater))
    ∷ case "K3: LGL by 1 is 041477"
    (shift_word LGL 1 ≡ 0o041477)
    ∷ case "K3: 041477 is LGL by 1"
    (decode_def 0o041477 ≡ Shift LGL 1)
    ∷ case "K4: clock 5, deadline 4294967290: due"
    (due_of 5 4294967290 ≡ true)
    ∷ case "K4: a deadline one ahead: not due"
    ((n : ℕ) → due_of n ((n + 1) % 2 ^ 32) ≡ false)
    ∷ case "K4: a budget of 0, not halted: spent after 0 steps"
    ((q : Request) (s : State) → q.cooperative < cooperatives → q.budget ≡ 0 → length s.image ≡ 16384 → s.machine.p < 16384 → s.machine.halted ≡ false
    → run_def q s ≡ idle Spent s)
    ∷ []

-- all rows as one theorem (C4)
unfoldable pub TableHolds : Type 0
unfolding table
TableHolds = Hold table
