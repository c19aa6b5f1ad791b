-- Where each number of a run for other languages stands (R11): of the machine, the clock record, the request and the report, a slice each.
use Rattle.std.specs.Prelude.{ℕ}

-- ---- The machine. C, a switch and halted are 0 or 1

abbrev pub A : ℕ
A = 0

abbrev pub B : ℕ
B = 1

abbrev pub C : ℕ
C = 2

abbrev pub P : ℕ
P = 3

abbrev pub SWITCH_1 : ℕ
SWITCH_1 = 4

abbrev pub SWITCH_2 : ℕ
SWITCH_2 = 5

abbrev pub SWITCH_3 : ℕ
SWITCH_3 = 6

abbrev pub SWITCH_4 : ℕ
SWITCH_4 = 7

abbrev pub HALTED : ℕ
HALTED = 8

-- how many numbers there are
abbrev pub MACHINE : ℕ
MACHINE = 9

-- ---- The clock record

abbrev pub COMMON : ℕ
COMMON = 0

-- of cooperative 0; the others follow
abbrev pub COUNTS : ℕ
COUNTS = 1

abbrev pub CLOCK : ℕ
CLOCK = 17

-- ---- The request

abbrev pub BUDGET : ℕ
BUDGET = 0

abbrev pub COOPERATIVE : ℕ
COOPERATIVE = 1

abbrev pub REQUEST : ℕ
REQUEST = 2

-- ---- The report, which says nothing before the run

-- how the run ended
abbrev pub OUTCOME : ℕ
OUTCOME = 0

-- the failure's number, or 0
abbrev pub FAILURE : ℕ
FAILURE = 1

-- the steps made
abbrev pub STEPS : ℕ
STEPS = 2

abbrev pub REPORT : ℕ
REPORT = 3
