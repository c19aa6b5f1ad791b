-- Worked examples of failures and of nesting, decided by computation.
use Rattle.std.specs.Prelude.{◌≡◌, refl, ℕ, zero, suc, List, [], ◌∷◌, ◌++◌, map, replicate}
use Prim.Native.String.{String}
use Rattle.prelude.specs.Text.{bytes}
use Rattle.source.specs.Tokens.{token_at}
use Rattle.tree.specs.Symbols.{Symbol, Level, Scope, local_scope}
use Rattle.grammar.specs.Parse.{Got}
use Rattle.grammar.specs.Parse.Got.{got, failed}
use Rattle.grammar.specs.Expressions.{parse_expr}
use Rattle.grammar.specs.Declarations.{new_name}
use Rattle.grammar.specs.Program.{parse_program}
use Rattle.grammar.specs.Computed.{computed}

abbrev result_of : {A : Type 0} → Got A → ℕ × ℕ
result_of (got tree next) = (0, 0)
result_of (failed n at) = (n, at)

-- a source, with the number and offset of its failure, or 0 and 0 if it parses
abbrev rows : List (String × ℕ × ℕ)
rows =
    -- the source ends too early (T13)
    ("", 6, 0) ∷
    (" \n ", 6, 3) ∷
    (".BEGIN .INTEGER A; A = 1 ", 6, 25) ∷
    -- the minus (T10 to T12): with no digit; a numeral's sign after a subscript's integer, the operator after a lone cell; a sign after
    -- a left side, a size, a call, a test and an inner `.END`; the operator after an operation's cell and amount
    (".BEGIN @=X---1 .END", 6, 11) ∷
    (".BEGIN @=X-32768 .END", 5, 11) ∷
    (".BEGIN @=- 1 .END", 6, 9) ∷
    (".BEGIN @=-32769 .END", 5, 9) ∷
    (".BEGIN .ARRAY T[3]; T[X-40000]=1 .END", 5, 23) ∷
    (".BEGIN #=X-40000 .END", 6, 10) ∷
    (".BEGIN .FOR #=X-40000 .DO .END", 6, 15) ∷
    (".BEGIN .WHEN X=X-40000 .THEN .END", 6, 16) ∷
    (".BEGIN X-40000=1 .END", 5, 8) ∷
    (".BEGIN .ARRAY T[3-40000]; .END", 5, 17) ∷
    (".BEGIN .PROCEDURE P; .BEGIN .END; P-40000 .END", 5, 35) ∷
    (".BEGIN .WHEN X .ZERO-40000 .THEN .END", 5, 20) ∷
    (".BEGIN .BEGIN .END-40000 .END", 5, 18) ∷
    (".BEGIN @=X+1-40000 .END", 5, 13) ∷
    (".BEGIN @=X .LGL 1-40000 .END", 5, 18) ∷
    -- a sign after an array's name, after an element, `@` or `#` on the left, after the counter of a `.FOR`, the subscript `#` and a value; the operator after
    -- an element or `@` that is a term, and after a lone element; a sign where a value or a term begins, with digits behind it and without
    (".BEGIN .ARRAY T[1]; @=T-40000 .END", 5, 23) ∷
    (".BEGIN .ARRAY T[1]; T[1]-40000=1 .END", 5, 24) ∷
    (".BEGIN @-40000=1 .END", 5, 8) ∷
    (".BEGIN #-40000=1 .END", 5, 8) ∷
    (".BEGIN .FOR X-40000=1 .DO .END", 5, 13) ∷
    (".BEGIN .FOR #-40000=1 .DO .END", 5, 13) ∷
    (".BEGIN .ARRAY T[1]; @=T[#-40000] .END", 5, 25) ∷
    (".BEGIN .ARRAY T[2](5-40000); .END", 5, 20) ∷
    (".BEGIN .ARRAY T[2](5-1); .END", 6, 20) ∷
    (".BEGIN .CONSTANT A=5-40000; .END", 5, 20) ∷
    (".BEGIN .CONSTANT A=5, B=A-40000; .END", 5, 25) ∷
    (".BEGIN .ARRAY T[1]; @=T[1]-40000 .END", 5, 27) ∷
    (".BEGIN @=@-40000 .END", 5, 11) ∷
    (".BEGIN .FOR X=X-40000 .DO .END", 5, 16) ∷
    (".BEGIN .ARRAY T[1]; #=T[1]-40000 .END", 6, 26) ∷
    (".BEGIN .CONSTANT A=-5; .ARRAY T[-2](A,-1); .END", 0, 0) ∷
    (".BEGIN .ARRAY T[- 3]; .END", 6, 16) ∷
    (".BEGIN .ARRAY T[2](5,- 1); .END", 6, 21) ∷
    (".BEGIN .CONSTANT A=-'17; .END", 6, 19) ∷
    (".BEGIN .CONSTANT A=5, B=-A; .END", 6, 24) ∷
    (".BEGIN @=-'17 .END", 6, 9) ∷
    (".BEGIN @=-X .END", 6, 9) ∷
    -- tokens as long as they can be (T4, T6)
    (".BEGIN .WHEN .SENSE12 .THEN .END", 6, 20) ∷
    (".BEGIN .WHEN .SENSE5 .THEN .END", 4, 13) ∷
    (".BEGIN @='18 .END", 6, 11) ∷
    (".BEGIN @=X .LGL15 .END", 0, 0) ∷
    -- the first six characters count (T7)
    (".BEGIN .INTEGER ABCDEFG, ABCDEFH; .END", 8, 25) ∷
    (".BEGIN .INTEGER ABCDE1, ABCDE2; ABCDE2XX=1 .END", 0, 0) ∷
    -- the first token that fails, by its lowest number; a name that stands where none may; what follows the last `.END` (J2, J3, J6, J11)
    (".BEGIN Y=1 ! .END", 7, 7) ∷
    (".BEGIN X=1 ! .END", 4, 11) ∷
    (".BEGIN X=1 40000 .END", 5, 11) ∷
    (".BEGIN X=1 Y .END", 6, 11) ∷
    (".BEGIN .END .END", 6, 12) ∷
    (".BEGIN .END !", 4, 12) ∷
    (".BEGIN .END 40000", 5, 12) ∷
    -- declared names and their kinds (D13 to D15, J5)
    (".BEGIN .INTEGER X; .END", 8, 16) ∷
    (".BEGIN .PROCEDURE P; .BEGIN .INTEGER X; .END; .END", 8, 37) ∷
    (".BEGIN .CONSTANT A=A; .END", 7, 19) ∷
    (".BEGIN .ARRAY A[3](A); .END", 7, 19) ∷
    (".BEGIN .CONSTANT A=3; .PROCEDURE P; .BEGIN .CONSTANT A=A; .END; .END", 0, 0) ∷
    (".BEGIN .CONSTANT A=1, B=A; A=2 .END", 7, 27) ∷
    (".BEGIN .PROCEDURE P; .BEGIN P .END; .END", 7, 28) ∷
    (".BEGIN .PROCEDURE P; .BEGIN .INTEGER P, A; P=A .END; P; A=1 .END", 7, 56) ∷
    (".BEGIN .PROCEDURE P; .BEGIN .END; @=P .END", 7, 36) ∷
    (".BEGIN .ACCUMULATOR .PROCEDURE P; .BEGIN .END; @=X+P .END", 7, 51) ∷
    (".BEGIN .ARRAY T[1]; @=T+1 .END", 6, 23) ∷
    (".BEGIN X[1]=1 .END", 6, 8) ∷
    (".BEGIN .CONSTANT K=1; .FOR K=1 .DO .END", 7, 27) ∷
    (".BEGIN .FOR @=1 .DO .END", 6, 12) ∷
    -- declarations
    (".BEGIN .PROCEDURE P; .BEGIN .INTEGER A, A; .END; .END", 8, 40) ∷
    (".BEGIN .PROCEDURE P; .BEGIN .CONSTANT A=1, B=A; .END; .END", 0, 0) ∷
    (".BEGIN .PROCEDURE P; .BEGIN .ARRAY T[1]; .END; .END", 6, 28) ∷
    (".BEGIN .ACCUMULATOR .INTEGER A; .END", 6, 20) ∷
    (".BEGIN .NEXTSECTOR .END", 6, 19) ∷
    (".BEGIN .ARRAY T[8192],U[7600]; .NEXTSECTOR; .NEXTSECTOR .END", 13, 44) ∷
    (".BEGIN .ARRAY T[8192],U[7600]; .NEXTSECTOR; .NEXTSECTOR; .END", 13, 44) ∷
    (".BEGIN .INTEGER ; .END", 6, 16) ∷
    (".BEGIN .INTEGER A B; .END", 6, 18) ∷
    (".BEGIN .INTEGER A;; .INTEGER B; .END", 6, 20) ∷
    (".BEGIN .ARRAY T[1](); .END", 6, 19) ∷
    -- no sign is left out, and none too many: a comma before the `;`, a constant without its `=`, a procedure's name without its `;` (D3, D4, D9)
    (".BEGIN .INTEGER A,; .END", 6, 18) ∷
    (".BEGIN .CONSTANT A 1; .END", 6, 19) ∷
    (".BEGIN .PROCEDURE P .BEGIN .END; .END", 6, 20) ∷
    -- sizes, initial values, amounts
    (".BEGIN .ARRAY T[8192], U['160000]; .END", 13, 32) ∷
    (".BEGIN .ARRAY T[8193]; .END", 5, 16) ∷
    (".BEGIN .ARRAY T[1](5,6); .END", 14, 21) ∷
    (".BEGIN .ARRAY T[1](5,Y); .END", 7, 21) ∷
    (".BEGIN .ARRAY T[1](5,40000); .END", 5, 21) ∷
    (".BEGIN .ARRAY T[1](5,); .END", 6, 21) ∷
    (".BEGIN @=X .ALS 15 .END", 0, 0) ∷
    (".BEGIN @=X .ALS 16 .END", 5, 16) ∷
    (".BEGIN @=X .ALS 0 .END", 5, 16) ∷
    -- statements
    (".BEGIN .IF .CSET .THEN X=1; .ELSE X=2 .END", 6, 26) ∷
    (".BEGIN .WHEN .ZERO .ZERO .THEN .END", 0, 0) ∷
    (".BEGIN @=X + .ZERO .END", 6, 13) ∷
    (".BEGIN @=.NEG .IF .CSET .THEN 1 .ELSE 2 .END", 6, 14) ∷
    -- `.CHECKED`: right behind the program's `.BEGIN`, once and with its `;`; a second one, one behind another declaration or in a procedure, without its `;`, as a statement, in a compound or an expression, before `.BEGIN`; and `.CHECK`, which is no keyword (D17, F6, T6)
    (".BEGIN .CHECKED; .END", 0, 0) ∷
    (".BEGIN .CHECKED; .INTEGER I; .ARRAY T[2]; .PROCEDURE P; .BEGIN T[I]=1 .END; P; #=T[#] .END", 0, 0) ∷
    (".BEGIN .CHECKED; .CHECKED; .END", 6, 17) ∷
    (".BEGIN .INTEGER I; .CHECKED; .END", 6, 19) ∷
    (".BEGIN .NEXTSECTOR; .CHECKED; .END", 6, 20) ∷
    (".BEGIN .PROCEDURE P; .BEGIN .CHECKED; .END; .END", 6, 28) ∷
    (".BEGIN .CHECKED .INTEGER I; .END", 6, 16) ∷
    (".BEGIN .CHECKED, I; .END", 6, 15) ∷
    (".BEGIN .CHECKED", 6, 15) ∷
    (".BEGIN @=1; .CHECKED .END", 6, 12) ∷
    (".BEGIN .BEGIN .CHECKED; .END .END", 6, 14) ∷
    (".BEGIN @=.CHECKED .END", 6, 9) ∷
    (".CHECKED; .BEGIN .END", 6, 0) ∷
    (".BEGIN .CHECK; .END", 4, 7) ∷
    -- `*`, `/` and `.MOD`: with a cell only, after an expression's part only (E7, T2, F6); the minus behind them and behind their cell (T11)
    (".BEGIN .ARRAY T[2]; @=X*2/T[X] .MOD2*T[#]-1 .END", 0, 0) ∷
    (".BEGIN @=X*(2) .END", 6, 11) ∷
    (".BEGIN @=X/@ .END", 6, 11) ∷
    (".BEGIN @=X .MOD .ZERO .END", 6, 16) ∷
    (".BEGIN @=X*.NEG 2 .END", 6, 11) ∷
    (".BEGIN @=X*#.END", 6, 11) ∷
    (".BEGIN @=X** .END", 6, 11) ∷
    (".BEGIN @=X/;.END", 6, 11) ∷
    (".BEGIN @=*X .END", 6, 9) ∷
    (".BEGIN / .END", 6, 7) ∷
    (".BEGIN .MOD X .END", 6, 7) ∷
    (".BEGIN X*2 .END", 6, 8) ∷
    (".BEGIN .ARRAY T[2*3]; .END", 6, 17) ∷
    (".BEGIN .ARRAY T[2]; @=T[2/1] .END", 6, 25) ∷
    (".BEGIN .WHEN X=2*3 .THEN .END", 6, 16) ∷
    (".BEGIN .WHEN X*2 .THEN .END", 6, 17) ∷
    (".BEGIN #=X*2 .END", 6, 10) ∷
    (".BEGIN .END *", 6, 12) ∷
    (".BEGIN @=X .MODE 2 .END", 4, 11) ∷
    (".BEGIN @=X*-3 .END", 0, 0) ∷
    (".BEGIN @=X/--3 .END", 6, 11) ∷
    (".BEGIN @=X .MOD-40000 .END", 5, 15) ∷
    (".BEGIN @=X*3-40000 .END", 5, 13) ∷
    (".BEGIN @=X/- 3 .END", 6, 11) ∷ []

failures : map (λ row. result_of (parse_program (bytes row.0))) rows ≡ map (λ row. (row.1, row.2)) rows
unfolding computed
failures = refl

-- ---- What a name may be used as (J5): one row for each use, in it the failure of an integer, a constant, a compconstant, an array, a procedure,
-- an accumulator procedure, an undeclared name and X

abbrev used : String → String → List ℕ
used before after =
    map (λ name. (result_of (parse_program (bytes ".BEGIN .INTEGER I; .CONSTANT K=3; .COMPCONSTANT C=4; .ARRAY T[5]; .PROCEDURE P; .BEGIN .END; .ACCUMULATOR .PROCEDURE F; .BEGIN .END; "
    ++ (bytes before ++ (bytes name ++ (bytes after ++ bytes " .END")))))).0)
    ("I" ∷ "K" ∷ "C" ∷ "T" ∷ "P" ∷ "F" ∷ "N" ∷ "X" ∷ [])

uses :
    used ".CONSTANT V=" ";" ∷ used ".FOR " "=1 .DO" ∷ used "@=T[" "]" ∷ used "@=X+" "" ∷ used "@=X/" "" ∷ used "@=" "" ∷ used "" "=1" ∷ used "" "" ∷ []
    ≡ (7 ∷ 0 ∷ 0 ∷ 7 ∷ 7 ∷ 7 ∷ 7 ∷ 7 ∷ []) ∷
    (0 ∷ 7 ∷ 7 ∷ 7 ∷ 7 ∷ 7 ∷ 7 ∷ 0 ∷ []) ∷
    (0 ∷ 0 ∷ 0 ∷ 7 ∷ 7 ∷ 7 ∷ 7 ∷ 0 ∷ []) ∷
    (0 ∷ 0 ∷ 0 ∷ 6 ∷ 7 ∷ 7 ∷ 7 ∷ 0 ∷ []) ∷
    (0 ∷ 0 ∷ 0 ∷ 6 ∷ 7 ∷ 7 ∷ 7 ∷ 0 ∷ []) ∷
    (0 ∷ 0 ∷ 0 ∷ 6 ∷ 7 ∷ 0 ∷ 7 ∷ 0 ∷ []) ∷
    (0 ∷ 7 ∷ 7 ∷ 6 ∷ 6 ∷ 6 ∷ 7 ∷ 0 ∷ []) ∷
    (6 ∷ 7 ∷ 7 ∷ 6 ∷ 0 ∷ 0 ∷ 7 ∷ 6 ∷ []) ∷ []
unfolding computed
uses = refl

-- ---- Nesting: level 32 passes, 33 fails at its first token (S11) unless that fails by a lower number (J10); an empty statement has no level (S12)

abbrev times : ℕ → List ℕ → List ℕ
times zero bs = []
times (suc n) bs = bs ++ times n bs

abbrev bracketed : ℕ → String → ℕ × ℕ
bracketed n inside = result_of (parse_expr (times n (bytes "(") ++ (bytes inside ++ times n (bytes ")"))) [] 33 0)

abbrev compound : ℕ → String → ℕ × ℕ
compound n inside = result_of (parse_program (bytes ".BEGIN " ++ (times n (bytes ".BEGIN ") ++ (bytes inside ++ (times n (bytes " .END") ++ bytes " .END")))))

-- the argument of a call that is a statement is at that statement's level, that of a call that is a term one further in (S13)
abbrev called : ℕ → ℕ × ℕ
called n = result_of (parse_program (bytes ".BEGIN .ACCUMULATOR .PROCEDURE F; .BEGIN .END; " ++ (times n (bytes "F(") ++ (bytes "1" ++ (times n (bytes ")") ++ bytes " .END")))))

-- the body of a procedure is at level 0 too (S12)
abbrev procedure : ℕ → String → ℕ × ℕ
procedure n inside =
    result_of (parse_program (bytes ".BEGIN .PROCEDURE P; .BEGIN " ++ (times n (bytes ".BEGIN ") ++ (bytes inside ++ (times n (bytes " .END") ++ bytes " .END; .END")))))

nesting :
    bracketed 32 "X" ∷ bracketed 33 "X" ∷ bracketed 33 ")" ∷ bracketed 33 "Y" ∷ bracketed 33 "40000" ∷ bracketed 33 "!" ∷ bracketed 33 "*" ∷ bracketed 33 ".NEG" ∷ bracketed 33 ".IF" ∷
    bracketed 31 ".IF X .ZERO .THEN 1 .ELSE 2" ∷ bracketed 32 ".IF X .ZERO .THEN 1 .ELSE 2" ∷ bracketed 32 ".IF .CSET .THEN 1 .ELSE 2" ∷
    compound 32 "X=1" ∷ compound 33 "X=1" ∷ compound 33 "Y=1" ∷ compound 33 ";" ∷ compound 33 "" ∷ compound 31 "X=(1)" ∷ compound 32 "X=(1)" ∷
    called 33 ∷ called 34 ∷ procedure 32 "X=1" ∷ procedure 33 "X=1" ∷ []
    ≡ (0, 0) ∷ (9, 33) ∷ (6, 33) ∷ (7, 33) ∷ (5, 33) ∷ (4, 33) ∷ (6, 33) ∷ (9, 33) ∷ (9, 33) ∷
    (0, 0) ∷ (9, 36) ∷ (9, 48) ∷
    (0, 0) ∷ (9, 238) ∷ (7, 238) ∷ (0, 0) ∷ (0, 0) ∷ (0, 0) ∷ (9, 234) ∷
    (0, 0) ∷ (9, 115) ∷ (0, 0) ∷ (9, 259) ∷ []
unfolding computed
nesting = refl

-- each part of each statement is one level deeper than it: 32 passes, 33 is 9 at the part (S12)
abbrev parts : List String
parts =
    ".FOR X=1 .DO X=1" ∷ ".FOR #=1 .DO X=1" ∷ ".IF .CSET .THEN X=1 .ELSE" ∷ ".IF .CSET .THEN .ELSE X=1" ∷ ".WHEN .CSET .THEN X=1" ∷ ".WHILE .CSET .DO X=1" ∷
    ".BEGIN X=1 .END" ∷ []

nested_parts :
    map (compound 31) parts ∷ map (compound 32) parts ∷ []
    ≡ replicate 7 (0, 0) ∷ ((9, 244) ∷ (9, 244) ∷ (9, 247) ∷ (9, 253) ∷ (9, 249) ∷ (9, 248) ∷ (9, 238) ∷ []) ∷ []
unfolding computed
nested_parts = refl

-- the start of a `.FOR`, the expression of a condition and the right side are at the statement's own level; brackets in them are one level deeper (S13)
own_level :
    map (compound 32) (".FOR X=1 .DO" ∷ ".IF X .ZERO .THEN .ELSE" ∷ ".WHEN X=1 .THEN" ∷ ".WHILE X .ZERO .DO" ∷ "@=1" ∷ "#=1" ∷ []) ∷
    map (compound 32) (".FOR X=(1) .DO" ∷ ".IF (X) .ZERO .THEN .ELSE" ∷ ".WHEN (X)=1 .THEN" ∷ ".WHILE (X) .ZERO .DO" ∷ "@=(1)" ∷ []) ∷ []
    ≡ replicate 6 (0, 0) ∷ ((9, 239) ∷ (9, 236) ∷ (9, 238) ∷ (9, 239) ∷ (9, 234) ∷ []) ∷ []
unfolding computed
own_level = refl

-- the condition and both parts of a conditional expression are one level deeper than it, each by itself (S13)
nested_choice :
    bracketed 30 ".IF (X) .ZERO .THEN (1) .ELSE (2)" ∷ bracketed 31 ".IF (X) .ZERO .THEN 1 .ELSE 2" ∷ bracketed 31 ".IF .CSET .THEN (1) .ELSE 2" ∷
    bracketed 31 ".IF .CSET .THEN 1 .ELSE (2)" ∷ []
    ≡ (0, 0) ∷ (9, 36) ∷ (9, 48) ∷ (9, 56) ∷ []
unfolding computed
nested_choice = refl

-- at level 33 the first token of a statement: 4, 5, 6 or 7 where it begins none, else 9 whatever follows it (J10)
too_deep :
    map (compound 33) ("!" ∷ "40000" ∷ ")" ∷ ".THEN" ∷ "1" ∷ "Y" ∷ "X[" ∷ "@" ∷ "#" ∷ ".IF" ∷ ".WHEN" ∷ ".WHILE" ∷ ".FOR" ∷ ".BEGIN" ∷ [])
    ≡ (4, 238) ∷ (5, 238) ∷ (6, 238) ∷ (6, 238) ∷ (6, 238) ∷ (7, 238) ∷ replicate 8 (9, 238)
unfolding computed
too_deep = refl

-- ---- A sector that is too full at the `.END` of the program or of a procedure: 12 there, whatever stands behind it (J8, J11). With `.CHECKED` each `+T[#]` is eleven words

abbrev in_main : ℕ → String → ℕ × ℕ
in_main n behind = result_of (parse_program (bytes ".BEGIN .CHECKED; .ARRAY T[1]; @=T[#]" ++ (times n (bytes "+T[#]") ++ bytes behind)))

abbrev in_procedure : ℕ → String → ℕ × ℕ
in_procedure n behind = result_of (parse_program (bytes ".BEGIN .CHECKED; .ARRAY T[1]; .PROCEDURE P; .BEGIN @=T[#]" ++ (times n (bytes "+T[#]") ++ bytes behind)))

overfull :
    in_main 45 " .END" ∷ in_main 45 " .END .END" ∷ in_main 46 " .END" ∷ in_main 46 " .END .END" ∷ in_main 46 " .END !" ∷ in_main 46 " ! .END" ∷
    in_procedure 45 " .END .END" ∷ in_procedure 46 " .END .END" ∷ in_procedure 46 " .END; !" ∷ []
    ≡ (0, 0) ∷ (6, 267) ∷ (12, 267) ∷ (12, 267) ∷ (12, 267) ∷ (4, 267) ∷
    (6, 288) ∷ (12, 288) ∷ (12, 288) ∷ []
unfolding computed
overfull = refl

-- ---- 512 live names pass, the 513th is 10, and 8 goes first; a procedure's own name is among those that its locals see (D16, J7)

abbrev scope_of : ℕ → Scope
scope_of n = record { names = replicate n (bytes "A", record { level = Level.outer; symbol = Symbol.unknown }); level = Level.outer; taken = 0 }

abbrev named : Scope → String → ℕ × ℕ
named scope name = result_of (new_name (bytes name) scope 0 (token_at (bytes name) 0))

live_names_lem :
    named (scope_of 511) "B" ∷ named (scope_of 512) "B" ∷ named (scope_of 512) "A" ∷ named (scope_of 512) "X" ∷
    named (local_scope (scope_of 510) (bytes "P")) "A" ∷ named (local_scope (scope_of 511) (bytes "P")) "A" ∷ []
    ≡ (0, 0) ∷ (10, 0) ∷ (8, 0) ∷ (8, 0) ∷ (0, 0) ∷ (10, 0) ∷ []
unfolding computed
live_names_lem = refl

-- ---- 8,192 bytes pass, one more is 3 at 0 (F3)

length_limit : result_of (parse_program (times 8192 (bytes " "))) ∷ result_of (parse_program (times 8193 (bytes " "))) ∷ [] ≡ (6, 8192) ∷ (3, 0) ∷ []
unfolding computed
length_limit = refl
