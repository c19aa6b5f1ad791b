-- Worked examples of whole sources, decided by computation. The words are in octal, worked out by hand from the rules of groups W, A and I.
use Rattle.std.specs.Prelude.{◌≡◌, refl, ℕ, zero, suc, false, List, [], ◌∷◌, ◌++◌, map, take, drop, replicate}
use Prim.Native.String.{String}
use Rattle.prelude.specs.Text.{bytes}
use Rattle.tree.specs.Tree.{Item, Declaration}
use Rattle.grammar.specs.Parse.{Got}
use Rattle.grammar.specs.Declarations.{ItemKeyword, parse_global, parse_array, parse_procedure}
use Rattle.compilation.specs.Compile.{Result, compile_def}
use Rattle.compilation.specs.Listing.{listing_def}
use Rattle.compilation.specs.Computed.{computed}

-- ---- The listing

-- the first program (K1)
first_program_lem :
    listing_def (compile_def (bytes ".BEGIN .INTEGER A; A = 2140 + 1875 + 960 .END"))
    ≡ bytes "result=0\nat=0\nentry=001000\nwords=8\nglobals=1\ng=000200:000000\nw=001000:005005\nw=001001:015006\nw=001002:015007\nw=001003:010200\nw=001004:000000\nw=001005:004134\nw=001006:003523\nw=001007:001700\n"
unfolding computed
first_program_lem = refl

-- each word of a gap has its line: of 513 lines of 16 bytes the last two
gap_lines : drop 8223 (listing_def (compile_def (bytes ".BEGIN .NEXTSECTOR; .END"))) ≡ bytes "w=001777:000000\nw=002000:000000\n"
unfolding computed
gap_lines = refl

-- two arrays of 8,192 words, at the second `]` (K5)
failed_listing : listing_def (compile_def (bytes ".BEGIN .ARRAY T[8192], U[8192]; .END")) ≡ bytes "result=13\nat=29\n"
unfolding computed
failed_listing = refl

-- ---- What an example says of a source

-- the entry, the words from '200 and those from '1000; of a failure its number and offset
abbrev laid : Result → ℕ × List ℕ × List ℕ
laid (Result.accepted c) = (c.entry, take c.globals (drop 0o200 c.image), take c.words (drop 0o1000 c.image))
laid (Result.failed n at) = (n, at ∷ [], [])

abbrev words_of : String → ℕ × List ℕ × List ℕ
words_of source = laid (compile_def (bytes source))

-- so many words from an address on
abbrev part : ℕ → ℕ → Result → List ℕ
part at n (Result.accepted c) = take n (drop at c.image)
part at n (Result.failed m offset) = []

-- number and offset of the failure, or 0 and 0
abbrev failure_of : Result → ℕ × ℕ
failure_of (Result.accepted c) = (0, 0)
failure_of (Result.failed n at) = (n, at)

-- the entry and the count of words from '1000; of a failure its number and offset
abbrev counts : Result → ℕ × ℕ
counts (Result.accepted c) = (c.entry, c.words)
counts (Result.failed n at) = (n, at)

abbrev times : ℕ → String → List ℕ
times zero s = []
times (suc n) s = bytes s ++ times n s

-- ---- Expressions

-- the unary words act on the term, the last one first, ahead of the addition: LDA B, AOA, TCA, ADD 5, STA A (K6)
unary_first : words_of ".BEGIN .INTEGER A, B; A = .NEG .INC B + 5 .END" ≡ (0o1000, 0 ∷ 0 ∷ [], 0o004201 ∷ 0o141206 ∷ 0o140407 ∷ 0o015006 ∷ 0o010200 ∷ 0o000000 ∷ 0o000005 ∷ [])
unfolding computed
unary_first = refl

-- `.ABS` is two words, SPL and TCA
every_unary :
    words_of ".BEGIN @ = .ADDC .INC .NEG .SSP .SSM .CHS .CSA .NOT .ICLEFT .CLEFT .SWOP .ICRIGHT .CRIGHT .ABS @ .END"
    ≡ (0o1000, [], 0o100400 ∷ 0o140407 ∷ 0o141044 ∷ 0o141240 ∷ 0o141340 ∷ 0o141050 ∷ 0o141140 ∷ 0o140401 ∷ 0o140320 ∷ 0o140024 ∷ 0o140500 ∷ 0o140100 ∷ 0o140407 ∷ 0o141206 ∷ 0o141216 ∷ 0o000000 ∷ [])
unfolding computed
every_unary = refl

-- the operators as they are written, then the shifts, each plus 64 - n
every_operation :
    words_of ".BEGIN .INTEGER A; @ = A + A - A .AND A .NEV A .LGR 1 .ARS 2 .ARR 3 .LGL 4 .ALS 5 .ALR 15 .END"
    ≡ (0o1000, 0 ∷ [], 0o004200 ∷ 0o014200 ∷ 0o016200 ∷ 0o006200 ∷ 0o012200 ∷ 0o040477 ∷ 0o040576 ∷ 0o040675 ∷ 0o041474 ∷ 0o041573 ∷ 0o041661 ∷ 0o000000 ∷ [])
unfolding computed
every_operation = refl

-- MPY A, LLS 15; LRS 15, DIV A; LRS 15, DIV A, IAB; and each with T[A], whose LDX is ahead of all (W18)
every_product :
    words_of ".BEGIN .INTEGER A; .ARRAY T[2]; @ = A * A / A .MOD A * T[A] / T[A] .MOD T[A] .END"
    ≡ (
      0o1000,
      0 ∷ 0o077777 ∷ [],
      0o004200 ∷ 0o034200 ∷ 0o041161 ∷ 0o040161 ∷ 0o036200 ∷ 0o040161 ∷ 0o036200 ∷ 0o000201 ∷
          0o072200 ∷ 0o134201 ∷ 0o041161 ∷ 0o072200 ∷ 0o040161 ∷ 0o136201 ∷ 0o072200 ∷ 0o040161 ∷ 0o136201 ∷ 0o000201 ∷ 0o000000 ∷ [],
    )
unfolding computed
every_product = refl

-- LDA A, SZE, JMP '1005, LDA 1, JMP '1006, LDA 2, STA A
conditional : words_of ".BEGIN .INTEGER A; A = .IF A .ZERO .THEN 1 .ELSE 2 .END" ≡ (0o1000, 0 ∷ [], 0o004200 ∷ 0o100040 ∷ 0o003005 ∷ 0o005010 ∷ 0o003006 ∷ 0o005011 ∷ 0o010200 ∷ 0o000000 ∷ 1 ∷ 2 ∷ [])
unfolding computed
conditional = refl

-- ---- Cells and the pool

-- the value first: LDX J, LDA* B, then LDX I, STA* A (K6)
element_to_element : words_of ".BEGIN .ARRAY A[3], B[2]; .INTEGER I, J; A[I] = B[J] .END" ≡ (0o1000, 0o077777 ∷ 0o077774 ∷ 0 ∷ 0 ∷ [], 0o072203 ∷ 0o104201 ∷ 0o072202 ∷ 0o110200 ∷ 0o000000 ∷ [])
unfolding computed
element_to_element = refl

-- no LDX for `#`: LDA* T, LDX -1, ADD* T, STA* T
hash : words_of ".BEGIN .ARRAY T[2]; T[#] = T[#] + T[-1] .END" ≡ (0o1000, 0o077777 ∷ [], 0o104200 ∷ 0o073005 ∷ 0o114200 ∷ 0o110200 ∷ 0o000000 ∷ 0o177777 ∷ [])
unfolding computed
hash = refl

-- `# =` is LDX; the subscript X is LDX 0: LDX 0, LDX* T, LDX* T, LDX 3
set_x_lem : words_of ".BEGIN .ARRAY T[2]; # = T[X]; # = T[#]; # = 3 .END" ≡ (0o1000, 0o077777 ∷ [], 0o072000 ∷ 0o172200 ∷ 0o172200 ∷ 0o073005 ∷ 0o000000 ∷ 3 ∷ [])
unfolding computed
set_x_lem = refl

-- equal literals share a word (K6): LDA 5, ADD 5, SUB 6; -1 and '177777 are equal, and so are a compconstant and a numeral; a named constant has its own word
shared : words_of ".BEGIN .INTEGER A; A = 5 + 5 - 6 .END" ≡ (0o1000, 0 ∷ [], 0o005005 ∷ 0o015005 ∷ 0o017006 ∷ 0o010200 ∷ 0o000000 ∷ 5 ∷ 6 ∷ [])
unfolding computed
shared = refl

shared_spellings :
    words_of ".BEGIN .CONSTANT K=7; .COMPCONSTANT C=7; @ = K + C + 7 - -1 - '177777 .END"
    ≡ (0o1000, 7 ∷ [], 0o004200 ∷ 0o015006 ∷ 0o015006 ∷ 0o017007 ∷ 0o017007 ∷ 0o000000 ∷ 7 ∷ 0o177777 ∷ [])
unfolding computed
shared_spellings = refl

-- pooled as first used, the value before the subscript: LDA 5, LDX -1, STA* S
pool_order : words_of ".BEGIN .ARRAY S[1]; S[-1]=5 .END" ≡ (0o1000, 0o077777 ∷ [], 0o005004 ∷ 0o073005 ∷ 0o110200 ∷ 0o000000 ∷ 5 ∷ 0o177777 ∷ [])
unfolding computed
pool_order = refl

-- procedures and the main body of a sector have one pool, behind them all (A7): the link, LDA 5, JMP* '1000; LDA 6, ADD 5
one_pool :
    words_of ".BEGIN .PROCEDURE P; .BEGIN @ = 5 .END; @ = 6 + 5 .END"
    ≡ (0o1003, 0o001000 ∷ [], 0 ∷ 0o005006 ∷ 0o103000 ∷ 0o005007 ∷ 0o015006 ∷ 0o000000 ∷ 5 ∷ 6 ∷ [])
unfolding computed
one_pool = refl

-- ---- Subscripts that are tested (W19)

-- LDX I, the test, LDA*; LDX -2, the test, STA*: one word in the pool for -1 and one for -2, which is -size too (A7). The HLT of each test is a word 0
tested :
    words_of ".BEGIN .CHECKED; .INTEGER I; .ARRAY T[2]; T[-2] = T[I] .END"
    ≡ (
      0o1000,
      0 ∷ 0o077777 ∷ [],
      0o072200 ∷ 0o010002 ∷ 0o004000 ∷ 0o023031 ∷ 0o000000 ∷ 0o101000 ∷ 0o023032 ∷ 0o101000 ∷ 0o100000 ∷ 0o000000 ∷ 0o004002 ∷ 0o104201 ∷
          0o073032 ∷ 0o010002 ∷ 0o004000 ∷ 0o023031 ∷ 0o000000 ∷ 0o101000 ∷ 0o023032 ∷ 0o101000 ∷ 0o100000 ∷ 0o000000 ∷ 0o004002 ∷ 0o110201 ∷
          0o000000 ∷ 0o177777 ∷ 0o177776 ∷ [],
    )
unfolding computed
tested = refl

-- in a procedure, for `#` in the place of the LDX, and ahead of LRS and `DIV*`; its pool is its sector's
tested_procedure :
    part 0o1000 17 (compile_def (bytes ".BEGIN .CHECKED; .ARRAY T[3]; .PROCEDURE P; .BEGIN @ = @ / T[#] .END; .NEXTSECTOR; P .END"))
    ≡ 0 ∷ 0o010002 ∷ 0o004000 ∷ 0o023016 ∷ 0o000000 ∷ 0o101000 ∷ 0o023017 ∷ 0o101000 ∷ 0o100000 ∷ 0o000000 ∷ 0o004002 ∷ 0o040161 ∷ 0o136200 ∷ 0o103000 ∷
    0o177777 ∷ 0o177775 ∷ 0 ∷ []
unfolding computed
tested_procedure = refl

-- where there is no subscript `.CHECKED` lays nothing; a subscript without it lays what it did
untested :
    map words_of (".BEGIN .CHECKED; .INTEGER A; A = 1 .END" ∷ ".BEGIN .INTEGER A; A = 1 .END" ∷ ".BEGIN .ARRAY T[2]; @ = T[#] .END" ∷ [])
    ≡ (0o1000, 0 ∷ [], 0o005003 ∷ 0o010200 ∷ 0 ∷ 1 ∷ []) ∷ (0o1000, 0 ∷ [], 0o005003 ∷ 0o010200 ∷ 0 ∷ 1 ∷ []) ∷ (0o1000, 0o077777 ∷ [], 0o104200 ∷ 0 ∷ []) ∷ []
unfolding computed
untested = refl

-- the words of a test count: 46 elements are 506 words, with HLT and the pool 508; one more is 12, at the `.END`
too_many_tests :
    map (λ n. counts (compile_def (bytes ".BEGIN .CHECKED; .ARRAY T[1]; @ = T[#]" ++ (times n "+T[#]" ++ bytes " .END")))) (45 ∷ 46 ∷ []) ≡ (0o1000, 508) ∷ (12, 269) ∷ []
unfolding computed
too_many_tests = refl

-- ---- Conditions

abbrev compared : String → List ℕ
compared relation = part 0o1000 7 (compile_def (bytes ".BEGIN .INTEGER A, B; .WHEN A " ++ (bytes relation ++ bytes " B .THEN @ = .ZERO .END")))

-- LDA A, CAS B, the words of the relation, CRA, HLT: what fails goes to the HLT (K6)
every_relation :
    map compared ("=" ∷ "<>" ∷ ">" ∷ ">=" ∷ "<" ∷ "<=" ∷ [])
    -- SKP, SKP, JMP '1006
    ≡ (0o004200 ∷ 0o022201 ∷ 0o100000 ∷ 0o100000 ∷ 0o003006 ∷ 0o140040 ∷ 0o000000 ∷ []) ∷
    -- SKP, JMP '1005
    (0o004200 ∷ 0o022201 ∷ 0o100000 ∷ 0o003005 ∷ 0o140040 ∷ 0o000000 ∷ 0 ∷ []) ∷
    -- JMP '1005, NOP, JMP '1006
    (0o004200 ∷ 0o022201 ∷ 0o003005 ∷ 0o101000 ∷ 0o003006 ∷ 0o140040 ∷ 0o000000 ∷ []) ∷
    -- NOP, SKP, JMP '1006
    (0o004200 ∷ 0o022201 ∷ 0o101000 ∷ 0o100000 ∷ 0o003006 ∷ 0o140040 ∷ 0o000000 ∷ []) ∷
    -- NOP, JMP '1005
    (0o004200 ∷ 0o022201 ∷ 0o101000 ∷ 0o003005 ∷ 0o140040 ∷ 0o000000 ∷ 0 ∷ []) ∷
    -- JMP '1005, NOP
    (0o004200 ∷ 0o022201 ∷ 0o003005 ∷ 0o101000 ∷ 0o140040 ∷ 0o000000 ∷ 0 ∷ []) ∷ []
unfolding computed
every_relation = refl

-- a condition whose expression is a conditional one, without brackets (E8): SSC, JMP '1004, LDA 1, JMP '1005, LDA X, SZE, JMP '1010, CRA
conditional_tested :
    words_of ".BEGIN .WHEN .IF .CSET .THEN 1 .ELSE X .ZERO .THEN @ = .ZERO .END"
    ≡ (0o1000, [], 0o101001 ∷ 0o003004 ∷ 0o005011 ∷ 0o003005 ∷ 0o004000 ∷ 0o100040 ∷ 0o003010 ∷ 0o140040 ∷ 0o000000 ∷ 1 ∷ [])
unfolding computed
conditional_tested = refl

-- each test and its JMP, here to the next test. The skips: SZE, SNZ, SPL, SMI, SLN and SLZ of A; SSC and SRC of C; SS1 to SS4, SSS and SSR of the switches
every_test :
    words_of ".BEGIN .WHEN @ .ZERO .THEN; .WHEN @ .NONZERO .THEN; .WHEN @ .PLUS .THEN; .WHEN @ .MINUS .THEN; .WHEN @ .ODD .THEN; .WHEN @ .EVEN .THEN; .WHEN .CSET .THEN; .WHEN .NOTC .THEN; .WHEN .SENSE1 .THEN; .WHEN .SENSE2 .THEN; .WHEN .SENSE3 .THEN; .WHEN .SENSE4 .THEN; .WHEN .ANYKEY .THEN; .WHEN .NOKEY .THEN .END"
    ≡ (
      0o1000,
      [],
      0o100040 ∷ 0o003002 ∷ 0o101040 ∷ 0o003004 ∷ 0o100400 ∷ 0o003006 ∷ 0o101400 ∷ 0o003010 ∷ 0o101100 ∷ 0o003012 ∷ 0o100100 ∷ 0o003014 ∷
          0o101001 ∷ 0o003016 ∷ 0o100001 ∷ 0o003020 ∷ 0o101020 ∷ 0o003022 ∷ 0o101010 ∷ 0o003024 ∷ 0o101004 ∷ 0o003026 ∷ 0o101002 ∷ 0o003030 ∷
          0o101036 ∷ 0o003032 ∷ 0o100036 ∷ 0o003034 ∷ 0o000000 ∷ [],
    )
unfolding computed
every_test = refl

-- ---- Statements

-- CRA, SZE, JMP '1006, LDA 1, STA A, JMP '1010, LDA 2, STA A
if_statement : words_of ".BEGIN .INTEGER A; .IF .ZERO .ZERO .THEN A = 1 .ELSE A = 2 .END" ≡ (0o1000, 0 ∷ [], 0o140040 ∷ 0o100040 ∷ 0o003006 ∷ 0o005011 ∷ 0o010200 ∷ 0o003010 ∷ 0o005012 ∷ 0o010200 ∷ 0o000000 ∷ 1 ∷ 2 ∷ [])
unfolding computed
if_statement = refl

-- LDA A, SNZ, JMP '1007, LDA A, ADD 1, STA A, JMP '1000
while_statement : words_of ".BEGIN .INTEGER A; .WHILE A .NONZERO .DO A = A + 1 .END" ≡ (0o1000, 0 ∷ [], 0o004200 ∷ 0o101040 ∷ 0o003007 ∷ 0o004200 ∷ 0o015010 ∷ 0o010200 ∷ 0o003000 ∷ 0o000000 ∷ 1 ∷ [])
unfolding computed
while_statement = refl

-- LDA -3, STA I, LDA A, ADD I, STA A, IRS I, JMP '1002
for_statement : words_of ".BEGIN .INTEGER I, A; .FOR I = -3 .DO A = A + I .END" ≡ (0o1000, 0 ∷ 0 ∷ [], 0o005010 ∷ 0o010200 ∷ 0o004201 ∷ 0o014200 ∷ 0o010201 ∷ 0o024200 ∷ 0o003002 ∷ 0o000000 ∷ 0o177775 ∷ [])
unfolding computed
for_statement = refl

-- LDX -2, LDA X, STA* T, IRS 0, JMP '1001
for_x_statement : words_of ".BEGIN .ARRAY T[2]; .FOR # = -2 .DO T[#] = X .END" ≡ (0o1000, 0o077777 ∷ [], 0o073006 ∷ 0o004000 ∷ 0o110200 ∷ 0o024000 ∷ 0o003001 ∷ 0o000000 ∷ 0o177776 ∷ [])
unfolding computed
for_x_statement = refl

-- ---- Declarations

-- L, M, K and the link at '1003; STA L, LDA L, ADD K, JMP* '1003; then, at the entry, LDA 2, JST* P, STA A, JST* P, LDA A, JST* P
procedure :
    words_of ".BEGIN .INTEGER A; .ACCUMULATOR .PROCEDURE P; .BEGIN .INTEGER L, M; .COMPCONSTANT C = 4; .CONSTANT K = 3; L = @; @ = L + K .END; A = P(2); P; P(A) .END"
    ≡ (
      0o1010,
      0 ∷ 0o001003 ∷ [],
      0 ∷ 0 ∷ 3 ∷ 0 ∷ 0o011000 ∷ 0o005000 ∷ 0o015002 ∷ 0o103003 ∷
          0o005017 ∷ 0o120201 ∷ 0o010200 ∷ 0o120201 ∷ 0o004200 ∷ 0o120201 ∷ 0o000000 ∷ 2 ∷ [],
    )
unfolding computed
procedure = refl

-- element 0 of T is 16,383 and that of U 16,380; the values from the lowest address: U[-1]; T[-3], T[-2], T[-1]; and 16,383, which no array has
arrays : words_of ".BEGIN .ARRAY T[3](5, 6), U[1](7); .END" ≡ (0o1000, 0o077777 ∷ 0o077774 ∷ [], 0o000000 ∷ [])
unfolding computed
arrays = refl

array_bodies : part 16378 6 (compile_def (bytes ".BEGIN .ARRAY T[3](5, 6), U[1](7); .END")) ≡ 0 ∷ 7 ∷ 5 ∷ 6 ∷ 0 ∷ 0 ∷ []
unfolding computed
array_bodies = refl

-- a name as the size of an array, here of none, and as an amount: ALS 15 (D6, D12, E7); out of range it is 5 at the name (F5)
named_constants : words_of ".BEGIN .CONSTANT K=0; .COMPCONSTANT C=15; .ARRAY T[K]; @ = @ .ALS C .END" ≡ (0o1000, 0 ∷ 0o077777 ∷ [], 0o041561 ∷ 0o000000 ∷ [])
unfolding computed
named_constants = refl

names_out_of_range :
    map (λ source. failure_of (compile_def (bytes source))) (".BEGIN .CONSTANT K=16; @=X .ALS K .END" ∷ ".BEGIN .CONSTANT K=8193; .ARRAY T[K]; .END" ∷ []) ≡ (5, 32) ∷ (5, 34) ∷ []
unfolding computed
names_out_of_range = refl

-- a pool in each sector, with what that sector names and nothing of the one before it (A9): the link, LDA 4, ADD 5, STA A, JMP* '1000, 4, 5; from '2000: LDA 5, ADD 6, HLT, 5, 6
abbrev two_sectors : Result
two_sectors = compile_def (bytes ".BEGIN .INTEGER A; .PROCEDURE P; .BEGIN A = 4 + 5 .END; .NEXTSECTOR; @ = 5 + 6 .END")

sector_pools :
    part 0o200 3 two_sectors ∷ part 0o1000 8 two_sectors ∷ part 0o1777 7 two_sectors ∷ []
    ≡ (0 ∷ 0o001000 ∷ 0 ∷ []) ∷ (0 ∷ 0o005005 ∷ 0o015006 ∷ 0o010200 ∷ 0o103000 ∷ 4 ∷ 5 ∷ 0 ∷ []) ∷ (0 ∷ 0o005003 ∷ 0o015004 ∷ 0o000000 ∷ 5 ∷ 6 ∷ 0 ∷ []) ∷ []
unfolding computed
sector_pools = refl

-- an empty sector is passed over, with no pool: LDA 5, HLT, 5 from '3000
empty_sector : counts (compile_def (bytes ".BEGIN .NEXTSECTOR; .NEXTSECTOR; @ = 5 .END")) ≡ (0o3000, 0o2003)
unfolding computed
empty_sector = refl

empty_sector_words : part 0o2777 5 (compile_def (bytes ".BEGIN .NEXTSECTOR; .NEXTSECTOR; @ = 5 .END")) ≡ 0 ∷ 0o005002 ∷ 0o000000 ∷ 5 ∷ 0 ∷ []
unfolding computed
empty_sector_words = refl

-- ---- Failures 11 to 13; of an allocation alone they are in the crate layout

-- so many global integers
abbrev integers : ℕ → List Declaration
integers n = replicate n (Declaration.item (bytes "A") Item.integer)

abbrev refusal : {A : Type 0} → Got A → ℕ
refusal (Got.got tree next) = 0
refusal (Got.failed n at) = n

-- 384 global integers take all words there: one more is 11 (K5), as is any name that takes a word, and 8 goes first (J7); a compconstant takes none, a local none of sector 0
global_words_lem :
    refusal (parse_global (bytes "B") ItemKeyword.integer (integers 383) 0) ∷ refusal (parse_global (bytes "B") ItemKeyword.integer (integers 384) 0) ∷
    refusal (parse_global (bytes "B=1") ItemKeyword.constant (integers 384) 0) ∷ refusal (parse_global (bytes "B=1") ItemKeyword.compconstant (integers 384) 0) ∷
    refusal (parse_array (bytes "B[1]") false (integers 384) 0) ∷ refusal (parse_procedure (bytes "B; .BEGIN .END;") (integers 384) false 0) ∷
    refusal (parse_procedure (bytes "B; .BEGIN .INTEGER C, D; .END;") (integers 383) false 0) ∷ refusal (parse_global (bytes "A") ItemKeyword.integer (integers 384) 0) ∷ []
    ≡ 0 ∷ 11 ∷ 11 ∷ 0 ∷ 11 ∷ 11 ∷ 0 ∷ 8 ∷ []
unfolding computed
global_words_lem = refl

-- 13 at `]`, at the `.END` of a procedure and of the program, whatever stands behind that: with arrays of 15,870 words, element 0 of the next is 513
space :
    map (λ source. failure_of (compile_def (bytes source)))
    (".BEGIN .ARRAY T[8192], U[7678]; .END" ∷ ".BEGIN .ARRAY T[8192], U[7679]; .END" ∷ ".BEGIN .ARRAY T[8192], U[7680]; .END" ∷ ".BEGIN .ARRAY T[8192], U[7678]; .PROCEDURE P; .BEGIN .END; .END" ∷
    ".BEGIN .ARRAY T[8192], U[7679]; .END .END" ∷ [])
    ≡ (0, 0) ∷ (13, 32) ∷ (13, 29) ∷ (13, 53) ∷ (13, 32) ∷ []
unfolding computed
space = refl

-- 13 at `.NEXTSECTOR` in sector 31, the last
last_sector_lem :
    map (λ n. counts (compile_def (bytes ".BEGIN " ++ (times n ".NEXTSECTOR; " ++ bytes ".END")))) (30 ∷ 31 ∷ []) ≡ (0o37000, 0o36001) ∷ (13, 397) ∷ []
unfolding computed
last_sector_lem = refl
