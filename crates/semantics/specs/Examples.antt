-- Worked examples of the meaning, decided by computation: the numbers of steps of the observations, how the trace ends, and what A and X are then.
use Rattle.std.specs.Prelude.{ℕ, ◌≡◌, refl, Bool, true, false, List, [], ◌∷◌, map}
use Prim.Native.String.{String}
use Rattle.word.specs.Arithmetic.{compare_of, sum_of, difference_of}
use Rattle.word.specs.Shift.{shift_of, sign_changes}
use Rattle.effect.specs.Double.{multiply_of, divide_of, long_left_of, long_right_of}
use Rattle.effect.specs.Effects.{operate_of, unary_of}
use Rattle.effect.specs.Skips.{skips_of}
use Rattle.prelude.specs.Text.{bytes}
use Rattle.tree.specs.Tree.{Id, CellId, Array, Program, same_id, same_cell, is_inside}
use Rattle.grammar.specs.Parse.{Got}
use Rattle.grammar.specs.Program.{parse_program}
use Rattle.grammar.specs.Computed as grammar
use Rattle.semantics.specs.Trace.{State, Trace, bind, next, ended}
use Rattle.semantics.specs.Acts.{updated, ticks, place_of, value_of, subscripted, pass_steps, stop_steps, tested, element, entered, as_place, reach, operate, store_a, set_x, absolute, test, jump, counted}
use Rattle.semantics.specs.Meaning.{unary_on, unaries_on, operator_on, operation_on, operations_on, called, chosen, order_of, holds, words_after, related, while_turns, for_turns, assigned, stmts_by, term_by, cond_by, expr_by, expr_at, body_by, stmt_at, with_declaration, procedures_from, procedures_of, meaning}
use Rattle.tree.specs.Symbols.{globals_of, words_taken}

-- every definition that a meaning rests on, listed once
unfoldable pub computed : ℕ → Program → State → Trace (Unit {0})
unfolding grammar.computed compare_of sum_of difference_of shift_of sign_changes multiply_of divide_of long_left_of long_right_of operate_of unary_of skips_of same_id same_cell bind next ended updated ticks place_of value_of subscripted is_inside pass_steps stop_steps tested element entered as_place reach operate store_a set_x absolute test jump counted unary_on unaries_on operator_on operation_on operations_on called chosen order_of holds words_after related while_turns for_turns assigned stmts_by term_by cond_by expr_by expr_at body_by stmt_at globals_of with_declaration procedures_from procedures_of meaning words_taken
computed f p σ = meaning f p σ

pub data Ending : Type 0 where
  done broken out refused : ℕ → ℕ → ℕ → Ending

abbrev ending : (ℕ → ℕ → ℕ → Ending) → State → Ending
ending e σ = e σ.steps σ.registers.a (σ.cells (CellId.named Id.x))

-- the steps at each observation, and the end with its steps, A and X
abbrev numbers : Trace (Unit {0}) → List ℕ
numbers (Trace.done u σ) = []
numbers (Trace.broke σ) = []
numbers (Trace.out σ) = []
numbers (Trace.observe m t) = m.steps ∷ numbers t

abbrev end : Trace (Unit {0}) → Ending
end (Trace.done u σ) = ending Ending.done σ
end (Trace.broke σ) = ending Ending.broken σ
end (Trace.out σ) = ending Ending.out σ
end (Trace.observe m t) = end t

-- every cell 0, A 7, no sense switch set
abbrev pub start : State
start = record {
  cells = λ i. 0;
  registers = record { a = 7; b = 0; c = false };
  switches = record { one = false; two = false; three = false; four = false };
  steps = 0;
}

-- with so much fuel, from a start
abbrev pub shown : ℕ → State → Got Program → List ℕ × Ending
shown fuel σ (Got.got p next) = (numbers (meaning fuel p σ), end (meaning fuel p σ))
shown fuel σ (Got.failed n at) = ([], Ending.refused n at 0)

abbrev rows : List (String × List ℕ × Ending)
rows =
    -- one empty statement, which is no word (K2): two observations, both at 0 steps (M11)
    (".BEGIN .END", 0 ∷ 0 ∷ [], Ending.done 0 7 0) ∷
    -- the first program (K1): LDA ADD ADD STA
    (".BEGIN .INTEGER A; A = 2140 + 1875 + 960 .END", 0 ∷ 4 ∷ [], Ending.done 4 4975 0) ∷
    -- unary words, the last one first, before the additions: AOA, TCA, then ADD (K6)
    (".BEGIN @ = .NEG .INC @ + 10 .END", 0 ∷ 3 ∷ [], Ending.done 3 2 0) ∷
    -- SPL skips TCA
    (".BEGIN @ = .ABS @ .END", 0 ∷ 1 ∷ [], Ending.done 1 7 0) ∷
    (".BEGIN @ = .ABS .NEG @ .END", 0 ∷ 3 ∷ [], Ending.done 3 7 0) ∷
    -- `.IF` ends after the JMP that closes its first part; `.WHEN`, where the test fails, after its JMP (M12)
    (".BEGIN .IF @ .ODD .THEN @ = 1 .ELSE @ = 2 .END", 0 ∷ 2 ∷ 3 ∷ [], Ending.done 3 1 0) ∷
    (".BEGIN .IF @ .EVEN .THEN @ = 1 .ELSE @ = 2 .END", 0 ∷ 3 ∷ 3 ∷ [], Ending.done 3 2 0) ∷
    (".BEGIN .WHEN @ .ZERO .THEN @ = 1 .END", 0 ∷ 2 ∷ [], Ending.done 2 7 0) ∷
    -- one pass from -1: a body's end before the IRS, the loop's after it
    (".BEGIN .INTEGER I; .FOR I = -1 .DO @ = .ZERO .END", 0 ∷ 3 ∷ 4 ∷ [], Ending.done 4 0 0) ∷
    -- one pass from -5 as well, if the body sets the counter to -1
    (".BEGIN .INTEGER I; .FOR I = -5 .DO I = -1 .END", 0 ∷ 4 ∷ 5 ∷ [], Ending.done 5 65535 0) ∷
    -- three passes from -3, each LDA, ADD, STA: the loop that docs/DEMANDS.md speaks of
    (".BEGIN .INTEGER I, SUM; .FOR I = -3 .DO SUM = SUM + I .END", 0 ∷ 5 ∷ 10 ∷ 15 ∷ 16 ∷ [], Ending.done 16 65530 0) ∷
    -- two passes from -2, IRS and JMP between them
    (".BEGIN .FOR # = -2 .DO @ = .INC @ .END", 0 ∷ 2 ∷ 5 ∷ 6 ∷ [], Ending.done 6 9 0) ∷
    -- 65,536 passes from 0 are more than the fuel
    (".BEGIN .INTEGER I; .FOR I = .ZERO .DO .END", 0 ∷ 2 ∷ 4 ∷ 6 ∷ [], Ending.out 8 0 0) ∷
    -- a loop that never ends
    (".BEGIN .WHILE .NOKEY .DO .END", 0 ∷ 1 ∷ 3 ∷ 5 ∷ [], Ending.out 6 7 0) ∷
    -- a procedure's statement ends at each call, the call's own after JMP*
    (".BEGIN .PROCEDURE P; .BEGIN @ = .INC @ .END; P; P .END", 0 ∷ 2 ∷ 3 ∷ 5 ∷ 6 ∷ [], Ending.done 6 9 0) ∷
    -- a call that is a term has no observation of its own
    (".BEGIN .ACCUMULATOR .PROCEDURE P; .BEGIN @ = .INC @ .END; @ = P(1) + 1 .END", 0 ∷ 3 ∷ 5 ∷ [], Ending.done 5 3 0) ∷
    -- the value first, then LDX of the target; outside its array it breaks off there, X loaded
    (".BEGIN .ARRAY T[2]; T[-1] = 5 .END", 0 ∷ 3 ∷ [], Ending.done 3 5 65535) ∷
    (".BEGIN .ARRAY T[2]; T[-2] = 5 .END", 0 ∷ 3 ∷ [], Ending.done 3 5 65534) ∷
    (".BEGIN .ARRAY T[2]; T[-3] = 5 .END", 0 ∷ [], Ending.broken 2 5 65533) ∷
    (".BEGIN .ARRAY T[2]; T[0] = 5 .END", 0 ∷ [], Ending.broken 2 5 0) ∷
    (".BEGIN .ARRAY T[1]; T[-1] = 5; T[-2] = 6 .END", 0 ∷ 3 ∷ [], Ending.broken 5 6 65534) ∷
    (".BEGIN .ARRAY T[0]; T[-1] = 5 .END", 0 ∷ [], Ending.broken 2 5 65535) ∷
    -- each subscript by its own array
    (".BEGIN .ARRAY T[3],U[1]; U[-1] = 5; T[-3] = 6; U[-2] = 7 .END", 0 ∷ 3 ∷ 6 ∷ [], Ending.broken 8 7 65534) ∷
    -- a value read from an array: LDX, LDA*
    (".BEGIN .ARRAY T[2]; T[-1] = 5; @ = .ZERO; @ = T[-1] + T[#] .END", 0 ∷ 3 ∷ 4 ∷ 7 ∷ [], Ending.done 7 10 65535) ∷
    (".BEGIN .ARRAY T[2]; @ = T[5] .END", 0 ∷ [], Ending.broken 1 7 5) ∷
    -- `# =`; .WHEN taken; a compound's end after those in it
    (".BEGIN # = 9 .END", 0 ∷ 1 ∷ [], Ending.done 1 7 9) ∷
    (".BEGIN .WHEN @ .ODD .THEN .BEGIN X = @; @ = 1 .END .END", 0 ∷ 2 ∷ 3 ∷ 3 ∷ 3 ∷ [], Ending.done 3 1 7) ∷
    -- a call with an argument, of a procedure that is not the first global; its local keeps its value from call to call
    (".BEGIN .INTEGER I; .CONSTANT K=3; .COMPCONSTANT C=4; .ARRAY T[2]; .PROCEDURE P; .BEGIN .INTEGER L; L = @ + L; @ = L .END; P(3); P(C) .END", 0 ∷ 4 ∷ 5 ∷ 6 ∷ 10 ∷ 11 ∷ 12 ∷ [], Ending.done 12 7 0) ∷
    (".BEGIN .ARRAY T[2]; T[#] = 5 .END", 0 ∷ [], Ending.broken 1 5 0) ∷ []

examples : map (λ row. shown 3 start (parse_program (bytes row.0))) rows ≡ map {B = List ℕ × Ending} (λ row. (row.1, row.2)) rows
unfolding computed
examples = refl

-- ---- `.CHECKED` (M15)

abbrev checked_rows : List (String × List ℕ × Ending)
checked_rows =
    -- LDA, LDX, the test, STA: a test that is passed takes 8 steps for -1, 7 between, 6 for -size, and 7 where that is -1
    (".BEGIN .CHECKED; .ARRAY T[3]; T[-1] = 5 .END", 0 ∷ 11 ∷ [], Ending.done 11 5 65535) ∷
    (".BEGIN .CHECKED; .ARRAY T[3]; T[-2] = 5 .END", 0 ∷ 10 ∷ [], Ending.done 10 5 65534) ∷
    (".BEGIN .CHECKED; .ARRAY T[3]; T[-3] = 5 .END", 0 ∷ 9 ∷ [], Ending.done 9 5 65533) ∷
    (".BEGIN .CHECKED; .ARRAY T[1]; T[-1] = 5 .END", 0 ∷ 10 ∷ [], Ending.done 10 5 65535) ∷
    -- one that is not breaks the meaning off as without it: after the LDX, ahead of the test
    (".BEGIN .CHECKED; .ARRAY T[3]; T[0] = 5 .END", 0 ∷ [], Ending.broken 2 5 0) ∷
    (".BEGIN .CHECKED; .ARRAY T[3]; T[-4] = 5 .END", 0 ∷ [], Ending.broken 2 5 65532) ∷
    (".BEGIN .CHECKED; .ARRAY T[0]; T[-1] = 5 .END", 0 ∷ [], Ending.broken 2 5 65535) ∷
    -- no LDX for `#`: LDX -2, then LDA*, ADD* and STA* with 7 steps before each; outside without a step
    (".BEGIN .CHECKED; .ARRAY T[3]; # = -2; T[#] = T[#] + T[#] .END", 0 ∷ 1 ∷ 25 ∷ [], Ending.done 25 0 65534) ∷
    (".BEGIN .CHECKED; .ARRAY T[3]; T[#] = 5 .END", 0 ∷ [], Ending.broken 1 5 0) ∷
    -- `# =` and `.FOR #` of an element: LDX -3, 6 steps, LDX* to 0; then the IRS, and as many more passes as the fuel allows
    (".BEGIN .CHECKED; .ARRAY T[3]; # = T[-3] .END", 0 ∷ 8 ∷ [], Ending.done 8 7 0) ∷
    (".BEGIN .CHECKED; .ARRAY T[3]; .FOR # = T[-3] .DO .END", 0 ∷ 8 ∷ 10 ∷ 12 ∷ [], Ending.out 14 7 3) ∷
    -- in a procedure too: JST, LDX, 7 steps, LDA*, JMP*
    (".BEGIN .CHECKED; .ARRAY T[3]; .PROCEDURE P; .BEGIN @ = T[-2] .END; P .END", 0 ∷ 10 ∷ 11 ∷ [], Ending.done 11 0 65534) ∷
    -- LDX, 7 steps, LRS, DIV*, here by 0; outside ahead of the LRS
    (".BEGIN .CHECKED; .ARRAY T[3]; @ = @ / T[-2] .END", 0 ∷ 10 ∷ [], Ending.done 10 0 65534) ∷
    (".BEGIN .CHECKED; .ARRAY T[3]; @ = @ / T[3] .END", 0 ∷ [], Ending.broken 1 7 3) ∷
    -- LDX, 7 steps, CAS*, SKP and the JMP
    (".BEGIN .CHECKED; .ARRAY T[3]; .WHEN @ = T[-2] .THEN @ = 1 .END", 0 ∷ 11 ∷ [], Ending.done 11 7 65534) ∷
    -- without an array it changes nothing
    (".BEGIN .CHECKED; .INTEGER A; A = 2140 + 1875 + 960 .END", 0 ∷ 4 ∷ [], Ending.done 4 4975 0) ∷ []

-- among them the known cases (K8)
checked_examples : map (λ row. shown 3 start (parse_program (bytes row.0))) checked_rows ≡ map {B = List ℕ × Ending} (λ row. (row.1, row.2)) checked_rows
unfolding computed
checked_examples = refl

-- the steps of a test by X: passed for -1, -2, -3 and, in an array of one, -1; with the HLT for 0, 32767, -32768, -4 and -1
abbrev of_size : ℕ → Array
of_size n = record { number = 0; size = n; checked = true }

test_steps :
    pass_steps (of_size 3) 65535 ∷ pass_steps (of_size 3) 65534 ∷ pass_steps (of_size 3) 65533 ∷ pass_steps (of_size 1) 65535 ∷
    stop_steps 0 ∷ stop_steps 32767 ∷ stop_steps 32768 ∷ stop_steps 65532 ∷ stop_steps 65535 ∷ []
    ≡ 8 ∷ 7 ∷ 6 ∷ 7 ∷ 4 ∷ 4 ∷ 5 ∷ 5 ∷ 6 ∷ []
unfolding computed
test_steps = refl

-- ---- `*`, `/` and `.MOD`, with B and C at the end (M4)

abbrev pub at_end : Trace (Unit {0}) → State
at_end (Trace.done u σ) = σ
at_end (Trace.broke σ) = σ
at_end (Trace.out σ) = σ
at_end (Trace.observe m t) = at_end t

abbrev left : Got Program → ℕ × Bool
left (Got.got p next) = ((at_end (meaning 3 p start)).registers.b, (at_end (meaning 3 p start)).registers.c)
left (Got.failed n at) = (n, false)

abbrev doubles : List (String × List ℕ × Ending × ℕ × Bool)
doubles =
    -- MPY, LLS; LRS, DIV; LRS, DIV, IAB
    (".BEGIN @ = @ * 3 .END", 0 ∷ 2 ∷ [], Ending.done 2 21 0, 0, false) ∷
    (".BEGIN @ = @ / 2 .END", 0 ∷ 2 ∷ [], Ending.done 2 3 0, 1, false) ∷
    (".BEGIN @ = @ .MOD 4 .END", 0 ∷ 3 ∷ [], Ending.done 3 3 0, 1, false) ∷
    -- -7 by 2 is -3, and -1 is left over; by -2 it is 3
    (".BEGIN @ = .NEG @ / 2 .END", 0 ∷ 3 ∷ [], Ending.done 3 65533 0, 65535, false) ∷
    (".BEGIN @ = .NEG @ .MOD 2 .END", 0 ∷ 4 ∷ [], Ending.done 4 65535 0, 65533, false) ∷
    (".BEGIN @ = .NEG @ .MOD-2 .END", 0 ∷ 4 ∷ [], Ending.done 4 65535 0, 3, false) ∷
    (".BEGIN @ = @ .MOD -2 .END", 0 ∷ 3 ∷ [], Ending.done 3 1 0, 65533, false) ∷
    -- by 0 A and B stay as LRS left them, and C is set: 7 / 0 is 0, -7 / 0 is -1, 7 .MOD 0 is 7
    (".BEGIN @ = @ / 0 .END", 0 ∷ 2 ∷ [], Ending.done 2 0 0, 7, true) ∷
    (".BEGIN @ = .NEG @ / 0 .END", 0 ∷ 3 ∷ [], Ending.done 3 65535 0, 32761, true) ∷
    (".BEGIN @ = @ .MOD 0 .END", 0 ∷ 3 ∷ [], Ending.done 3 7 0, 0, true) ∷
    (".BEGIN @ = .NEG @ .MOD 0 .END", 0 ∷ 4 ∷ [], Ending.done 4 32761 0, 65535, true) ∷
    -- the one quotient of two words that is outside, and quotients at both ends
    (".BEGIN @ = -32768 / -1 .END", 0 ∷ 3 ∷ [], Ending.done 3 65535 0, 0, true) ∷
    (".BEGIN @ = -32768 .MOD -1 .END", 0 ∷ 4 ∷ [], Ending.done 4 0 0, 65535, true) ∷
    (".BEGIN @ = -32768 / 1 .END", 0 ∷ 3 ∷ [], Ending.done 3 32768 0, 0, false) ∷
    (".BEGIN @ = 32767 / -1 .END", 0 ∷ 3 ∷ [], Ending.done 3 32769 0, 0, false) ∷
    -- products outside, C set; the next one inside clears it
    (".BEGIN @ = -32768 * -32768 .END", 0 ∷ 3 ∷ [], Ending.done 3 0 0, 0, true) ∷
    (".BEGIN @ = 200 * 200 .END", 0 ∷ 3 ∷ [], Ending.done 3 40000 0, 0, true) ∷
    (".BEGIN @ = 200 * 200 * 0 .END", 0 ∷ 5 ∷ [], Ending.done 5 0 0, 0, false) ∷
    (".BEGIN @ = -256 * 128 .END", 0 ∷ 3 ∷ [], Ending.done 3 32768 0, 0, false) ∷
    -- from left to right: 30000, 4285, 285; with the others 21, 10, 2, 3; and 8, 24, 20, 10
    (".BEGIN .INTEGER A; A = 300 * 100 / 7 .MOD 1000 .END", 0 ∷ 9 ∷ [], Ending.done 9 285 0, 4, false) ∷
    (".BEGIN @ = @ * 3 / 2 .MOD 4 + 1 .END", 0 ∷ 8 ∷ [], Ending.done 8 3 0, 2, false) ∷
    (".BEGIN @ = @ + 1 * 3 - 4 / 2 .END", 0 ∷ 6 ∷ [], Ending.done 6 10 0, 0, false) ∷
    -- an element: LDX, LRS, DIV; outside its array A and B stay as before the LRS, which would make them 0 and 7
    (".BEGIN .ARRAY T[1]; T[-1] = 3; @ = 20 / T[-1] .END", 0 ∷ 3 ∷ 7 ∷ [], Ending.done 7 6 65535, 2, false) ∷
    (".BEGIN .ARRAY T[1]; T[-1] = 3; @ = 20 .MOD T[#] .END", 0 ∷ 3 ∷ 7 ∷ [], Ending.done 7 2 65535, 6, false) ∷
    (".BEGIN .ARRAY T[1]; T[-1] = 3; @ = 20 * T[#] .END", 0 ∷ 3 ∷ 6 ∷ [], Ending.done 6 60 65535, 0, false) ∷
    (".BEGIN .ARRAY T[2]; @ = @ / T[5] .END", 0 ∷ [], Ending.broken 1 7 5, 0, false) ∷
    (".BEGIN .ARRAY T[2]; @ = @ .MOD T[#] .END", 0 ∷ [], Ending.broken 0 7 0, 0, false) ∷
    (".BEGIN .ARRAY T[2]; @ = @ * T[-3] .END", 0 ∷ [], Ending.broken 1 7 65533, 0, false) ∷ []

-- among them the known cases (K7)
double_examples :
    map (λ row. (shown 3 start (parse_program (bytes row.0)), left (parse_program (bytes row.0)))) doubles
    ≡ map {B = (List ℕ × Ending) × (ℕ × Bool)} (λ row. ((row.1, row.2), (row.3, row.4))) doubles
unfolding computed
double_examples = refl
