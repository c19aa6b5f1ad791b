-- Worked examples, decided by computation.
use Rattle.std.specs.Prelude.{ℕ, zero, suc, ◌+◌, ◌/◌, ◌%◌, ◌≡◌, refl, Bool, true, false, List, [], ◌∷◌, ◌++◌, map, take, drop, set, replicate}
use Prim.Native.String.{String}
use Rattle.word.specs.Arithmetic.{sum_of, compare_of}
use Rattle.instruction.specs.Table.{generics}
use Rattle.instruction.specs.Decode.{find_word, generic_of, shift_of, memory_of, decode_def}
use Rattle.effect.specs.declared.Switches.{Switches}
use Rattle.effect.specs.Effects.{operate_of, unary_of}
use Rattle.effect.specs.Skips.{skips_of}
use Rattle.machine.specs.declared.failure.Failure.TheVariants.{UnknownWord, WrongP}
use Rattle.machine.specs.declared.Outcome.TheVariants.{Halted, Spent, Failed}
use Rattle.machine.specs.Address.{follow_of}
use Rattle.machine.specs.Step.{memory_def, generic_def, step_def}
use Rattle.machine.specs.Run.{run_from, run_def}
use Rattle.turns.specs.Turns.{turns_def}
use Rattle.prelude.specs.Choice.{find}
use Rattle.digits.specs.Digits.{decimal, decimal_by, signed}
use Rattle.prelude.specs.Text.{bytes}
use Rattle.tree.specs.Tree.{Id, Item, Stmt, Stmts, Declaration}
use Rattle.tree.specs.Symbols.{Symbol}
use Rattle.layout.specs.Allocation.{start, allocated}
use Rattle.layout.specs.Computed as layout
use Rattle.compilation.specs.Compile.{Result, compile_def}
use Rattle.compilation.specs.Computed as compilation
use Rattle.compiler.specs.Compile.{scratch_words}
use Rattle.failure_report.specs.Place.{newlines_before, line_start, visible}
use Rattle.failure_report.specs.Failure.{words_of, place_text, failure_text}
use Rattle.report.specs.Globals.{integer_text, element_head, element_end, elements_text, array_text, declaration_text, globals_text, size_of, next_array, id_text, symbol_text, names_text}
use Rattle.report.specs.Shown.{outcome_text, stops_by, end_text, steps_text, bit_text, registers_text, run_text, shown_of, image_shown}

-- ---- Arrays (O6)

-- so many words from a value on, each one more than the one before
abbrev counted : ℕ → ℕ → List ℕ
counted zero k = []
counted (suc n) k = k ∷ counted n (k + 1)

-- an array in words that are each their own address
abbrev array : ℕ → ℕ → List ℕ
array size origin = array_text (counted 30 0) (bytes "T") size origin

-- element -k stands k words below element 0; a row has ten of them, and begins with its subscript
arrays :
    array 0 5 ∷ array 1 5 ∷ array 3 5 ∷ array 9 20 ∷ array 10 12 ∷ array 11 12 ∷ array 20 25 ∷ array 21 25 ∷ []
    ≡ bytes "T has no elements\n"
    ∷ bytes "T[-1] = 4\n"
    ∷ bytes "T[-3] = 2, 3, 4\n"
    ∷ bytes "T[-9] = 11, 12, 13, 14, 15, 16, 17, 18, 19\n"
    ∷ bytes "T[-10] = 2, 3, 4, 5, 6, 7, 8, 9, 10, 11\n"
    ∷ bytes "T[-11] = 1, 2, 3, 4, 5, 6, 7, 8, 9, 10\nT[-1] = 11\n"
    ∷ bytes "T[-20] = 5, 6, 7, 8, 9, 10, 11, 12, 13, 14\nT[-10] = 15, 16, 17, 18, 19, 20, 21, 22, 23, 24\n"
    ∷ bytes "T[-21] = 4, 5, 6, 7, 8, 9, 10, 11, 12, 13\nT[-11] = 14, 15, 16, 17, 18, 19, 20, 21, 22, 23\nT[-1] = 24\n"
    ∷ []
unfolding array_text elements_text element_head element_end signed decimal_by
arrays = refl

negative_elements : array_text (32768 ∷ 65535 ∷ 32767 ∷ 0 ∷ []) (bytes "LENGTH") 4 4 ≡ bytes "LENGTH[-4] = -32768, -1, 32767, 0\n"
unfolding array_text elements_text element_head element_end signed decimal_by
negative_elements = refl

-- ---- The globals in order of declaration (O5, O6)

-- the words that follow '200: I, K, T, P, U, LENGTH, E, LAST; a compconstant takes none
abbrev declarations : List Declaration
declarations =
    Declaration.item (bytes "I") Item.integer
    ∷ Declaration.item (bytes "K") (Item.constant 7)
    ∷ Declaration.array (bytes "T") 3 false []
    ∷ Declaration.item (bytes "C") (Item.compconstant 8)
    ∷ Declaration.procedure (bytes "P") true ((bytes "L", Item.integer) ∷ []) (Stmts.one Stmt.empty)
    ∷ Declaration.next_sector
    ∷ Declaration.array (bytes "U") 2 false (1 ∷ [])
    ∷ Declaration.item (bytes "LENGTH") Item.integer
    ∷ Declaration.array (bytes "E") 0 true []
    ∷ Declaration.item (bytes "LAST") Item.integer
    ∷ []

abbrev laid : List (ℕ × ℕ) → List ℕ
laid [] = replicate 16384 9
laid (w ∷ ws) = set (laid ws) w.0 w.1

-- element 0 of T is 16,383, that of U 16,380
abbrev memory : List ℕ
memory =
    laid
    ((0o200, 5) ∷ (0o201, 7) ∷ (0o202, 0o77777) ∷ (0o203, 0o1001) ∷ (0o204, 0o77774) ∷ (0o205, 32768) ∷ (0o206, 0o77772) ∷ (0o207, 6)
    ∷ (16378, 21) ∷ (16379, 22) ∷ (16380, 11) ∷ (16381, 65535) ∷ (16382, 13) ∷ (16383, 14) ∷ [])

abbrev shown_globals : List ℕ
shown_globals = bytes "I = 5\nT[-3] = 11, -1, 13\nU[-2] = 21, 22\nLENGTH = -32768\nE has no elements\nLAST = 6\n"

globals : globals_text memory start declarations ≡ shown_globals
unfolding globals_text declaration_text integer_text array_text elements_text element_head element_end signed decimal_by layout.computed
globals = refl

-- the same by the symbol table
names : names_text memory (allocated declarations).scope.names ≡ shown_globals
unfolding names_text symbol_text id_text next_array size_of integer_text array_text elements_text element_head element_end signed decimal_by layout.computed
names = refl

no_globals : globals_text memory start [] ∷ names_text memory [] ∷ [] ≡ [] ∷ [] ∷ []
unfolding globals_text names_text
no_globals = refl

-- X, a local and a name that nothing is known of are no globals
not_shown : map (symbol_text memory (bytes "A") 5) (Symbol.integer Id.x ∷ Symbol.integer (Id.local 0 0) ∷ Symbol.unknown ∷ []) ≡ [] ∷ [] ∷ [] ∷ []
unfolding symbol_text id_text
not_shown = refl

-- nor does such a name take a word of the arrays
no_elements : map size_of (Symbol.unknown ∷ Symbol.array (record { number = 3; size = 5; checked = false }) ∷ []) ≡ 0 ∷ 5 ∷ []
unfolding size_of
no_elements = refl

-- ---- The end of a run (O4)

outcomes :
    map outcome_text (Halted ∷ Spent ∷ Failed UnknownWord ∷ Failed WrongP ∷ [])
    ≡ bytes "halted after "
    ∷ bytes "spent: not halted after "
    ∷ bytes "failed with 20, the word at P is no instruction; often a subscript left its array, after "
    ∷ bytes "failed with 23, P is outside the 16,384 words, after "
    ∷ []
unfolding outcome_text words_of find decimal_by
outcomes = refl

-- a stop: halted, with `.CHECKED`, and P not behind the last HLT (O11)
stops :
    stops_by true 520 Halted 517 ∷ stops_by true 520 Halted 520 ∷ stops_by false 520 Halted 517 ∷ stops_by true 520 Spent 517 ∷ stops_by true 520 (Failed UnknownWord) 517 ∷ []
    ≡ true ∷ false ∷ false ∷ false ∷ false ∷ []
unfolding stops_by
stops = refl

ends : end_text true Halted 65532 ∷ end_text false Halted 65532 ∷ [] ≡ bytes "stopped: a subscript left its array, X = -4, after " ∷ bytes "halted after " ∷ []
unfolding end_text outcome_text signed decimal_by
ends = refl

steps : map steps_text (0 ∷ 1 ∷ 2 ∷ 11 ∷ 1000000 ∷ []) ≡ bytes "0 steps\n" ∷ bytes "1 step\n" ∷ bytes "2 steps\n" ∷ bytes "11 steps\n" ∷ bytes "1000000 steps\n" ∷ []
unfolding steps_text decimal_by
steps = refl

abbrev registers : ℕ → ℕ → Bool → ℕ → List ℕ
registers a b c x = registers_text (record { a = a; b = b; c = c }) x

shown_registers :
    registers 65535 7 true 32768 ∷ registers 7 65534 false 5 ∷ []
    ≡ bytes "registers: A = -1, B = 7, C = 1, X = -32768\n" ∷ bytes "registers: A = 7, B = -2, C = 0, X = 5\n" ∷ []
unfolding registers_text bit_text signed decimal_by
shown_registers = refl

-- ---- Whole sources, from their bytes to what is shown (O8)

-- the sense switches
abbrev keys : Bool → Bool → Bool → Bool → Switches
keys one two three four = record { one = one; two = two; three = three; four = four }

abbrev off : Switches
off = keys false false false false

-- every definition that these rest on
unfoldable computed : String → ℕ → Switches → List ℕ
unfolding compilation.computed sum_of compare_of find_word generics generic_of shift_of memory_of decode_def operate_of unary_of skips_of follow_of memory_def generic_def step_def run_from run_def turns_def signed newlines_before line_start visible words_of place_text failure_text integer_text element_head element_end elements_text array_text declaration_text globals_text outcome_text stops_by end_text steps_text bit_text registers_text run_text shown_of image_shown
computed source turns switches = shown_of (bytes source) (compile_def (bytes source)) turns switches

abbrev shown : String → ℕ → Switches → List ℕ
shown source turns switches = shown_of (bytes source) (compile_def (bytes source)) turns switches

-- the first program (K1)
first_program_lem : shown ".BEGIN .INTEGER A; A = 2140 + 1875 + 960 .END" 1 off ≡ bytes "halted after 5 steps\nregisters: A = 4975, B = 0, C = 0, X = 0\nA = 4975\n"
unfolding computed
first_program_lem = refl

-- more turns are the same, none at all is spent
more_turns : shown ".BEGIN .INTEGER A; A = 2140 + 1875 + 960 .END" 3 off ≡ bytes "halted after 5 steps\nregisters: A = 4975, B = 0, C = 0, X = 0\nA = 4975\n"
unfolding computed
more_turns = refl

no_turn : shown ".BEGIN .INTEGER A; A = 1 .END" 0 off ≡ bytes "spent: not halted after 0 steps\nregisters: A = 0, B = 0, C = 0, X = 0\nA = 0\n"
unfolding computed
no_turn = refl

-- every kind of declaration; the main body is not at '1000, for the procedure is before it
declared :
    shown ".BEGIN .INTEGER I; .CONSTANT K = 7; .ARRAY T[2](5, -6), U[1](9); .COMPCONSTANT C = 3; .PROCEDURE P; .BEGIN .END; .INTEGER LENGTH1; LENGTH1 = -3; # = 4 .END" 1 off
    ≡ bytes "halted after 4 steps\nregisters: A = -3, B = 0, C = 0, X = 4\nI = 0\nT[-2] = 5, -6\nU[-1] = 9\nLENGTH = -3\n"
unfolding computed
declared = refl

one_step : shown ".BEGIN .END" 1 off ≡ bytes "halted after 1 step\nregisters: A = 0, B = 0, C = 0, X = 0\n"
unfolding computed
one_step = refl

-- the second and the fourth switch set, then the third and the fourth: no two of them can be exchanged
abbrev sensing : String
sensing = ".BEGIN .INTEGER A, B, C, D; .WHEN .SENSE1 .THEN A = 1; .WHEN .SENSE2 .THEN B = 1; .WHEN .SENSE3 .THEN C = 1; .WHEN .SENSE4 .THEN D = 1 .END"

switched :
    map (shown sensing 1) (keys false true false true ∷ keys false false true true ∷ [])
    ≡ bytes "halted after 11 steps\nregisters: A = 1, B = 0, C = 0, X = 0\nA = 0\nB = 1\nC = 0\nD = 1\n" ∷
    bytes "halted after 11 steps\nregisters: A = 1, B = 0, C = 0, X = 0\nA = 0\nB = 0\nC = 1\nD = 1\n" ∷ []
unfolding computed
switched = refl

-- a subscript that leaves its array: '26000, which is no instruction, goes to '1003
failed_run :
    shown ".BEGIN .ARRAY T[1]; T[-15868] = '26000 .END" 2 off
    ≡ bytes "failed with 20, the word at P is no instruction; often a subscript left its array, after 3 steps\nregisters: A = 11264, B = 0, C = 0, X = -15868\nT[-1] = 0\n"
unfolding computed
failed_run = refl

-- the same with `.CHECKED`: X and A are the subscript that was refused, and nothing is written
stopped_run :
    shown ".BEGIN .CHECKED; .ARRAY T[1]; T[-15868] = '26000 .END" 2 off
    ≡ bytes "stopped: a subscript left its array, X = -15868, after 7 steps\nregisters: A = -15868, B = 0, C = 0, X = -15868\nT[-1] = 0\n"
unfolding computed
stopped_run = refl

stopped_above :
    shown ".BEGIN .CHECKED; .ARRAY T[2]; @ = T[5] .END" 1 off ≡ bytes "stopped: a subscript left its array, X = 5, after 5 steps\nregisters: A = 5, B = 0, C = 0, X = 5\nT[-2] = 0, 0\n"
unfolding computed
stopped_above = refl

-- one that stays inside halts as ever
checked_run :
    shown ".BEGIN .CHECKED; .ARRAY T[2]; T[-2] = 5 .END" 1 off ≡ bytes "halted after 10 steps\nregisters: A = 5, B = 0, C = 0, X = -2\nT[-2] = 5, 0\n"
unfolding computed
checked_run = refl

-- without `.CHECKED` a halt is a halt wherever it is: here the STA writes an HLT over the SSR that is next
halted_elsewhere :
    shown ".BEGIN .ARRAY T[1]; T[-15868] = 0; .WHILE .NOKEY .DO .END" 1 off ≡ bytes "halted after 4 steps\nregisters: A = 0, B = 0, C = 0, X = -15868\nT[-1] = 0\n"
unfolding computed
halted_elsewhere = refl

failed_compile : shown ".BEGIN\nX = A .END" 1 off ≡ bytes "line 2, column 5: 7, name undeclared or of the wrong kind\nX = A .END\n    ^\n"
unfolding computed
failed_compile = refl

-- the image as the run leaves it; after a failure as it was
image_after_run : take 2 (drop 0o200 (image_shown (compile_def (bytes ".BEGIN .INTEGER A; A = 2140 + 1875 + 960 .END")) 1 off [])) ≡ 4975 ∷ 0 ∷ []
unfolding computed
image_after_run = refl

image_after_failure : image_shown (Result.failed 6 0) 1 off (5 ∷ 6 ∷ []) ≡ 5 ∷ 6 ∷ []
unfolding image_shown
image_after_failure = refl

-- the words of failure 2 name the limit itself, its thousands and the rest (F2, O3)
limit_in_words : words_of 2 ≡ bytes "scratch has fewer than " ++ (decimal (scratch_words / 1000) ++ (bytes "," ++ (decimal (scratch_words % 1000) ++ bytes " words")))
unfolding words_of find decimal_by
limit_in_words = refl
