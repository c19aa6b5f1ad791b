-- Worked examples of runs, decided by computation: each row's words are laid into an image of zeros, and the rows are the corners of the instruction set.
use Rattle.std.specs.Prelude.{◌≡◌, ℕ, zero, suc, ◌+◌, false, List, [], ◌∷◌, map, replicate, slice_index, slice_set, refl}
use Prim.Native.String.{String}
use Rattle.word.specs.Arithmetic.{compare_of}
use Rattle.instruction.specs.Table.{generics}
use Rattle.instruction.specs.Decode.{find_word, generic_of, shift_of, memory_of, decode_def}
use Rattle.effect.specs.Double.{multiply_of, divide_of, long_left_of, long_right_of}
use Rattle.effect.specs.Effects.{operate_of, unary_of}
use Rattle.effect.specs.Skips.{skips_of}
use Rattle.machine.specs.declared.Machine.{Machine}
use Rattle.machine.specs.Failure.{number_of}
use Rattle.machine.specs.declared.failure.Failure.TheVariants.{WrongImage, UnknownWord, LongChain, OverBudget, WrongP, WrongCooperative}
use Rattle.machine.specs.declared.Outcome.{Outcome}
use Rattle.machine.specs.declared.Outcome.TheVariants.{Halted, Spent, Failed}
use Rattle.machine.specs.State.{state}
use Rattle.machine.specs.Address.{follow_of}
use Rattle.machine.specs.Step.{memory_def, generic_def, step_def}
use Rattle.machine.specs.Run.{Ran, run_from, run_def}

-- words at their addresses
abbrev Words : Type 0
Words = List (ℕ × ℕ)

-- what a row starts from: A, P, the words that are not 0, and the budget
record Before : Type 0 where
  a : ℕ
  p : ℕ
  words : Words
  budget : ℕ

-- and what it comes to: the outcome, the steps, A, P, and what stands at these addresses then
record After : Type 0 where
  outcome : Outcome
  steps : ℕ
  a : ℕ
  p : ℕ
  words : Words

abbrev from : ℕ → ℕ → Words → ℕ → Before
from a p words budget = record { a = a; p = p; words = words; budget = budget }

abbrev to : Outcome → ℕ → ℕ → ℕ → Words → After
to outcome steps a p words = record { outcome = outcome; steps = steps; a = a; p = p; words = words }

abbrev laid : Words → List ℕ
laid [] = replicate 16384 0
laid (w ∷ ws) = slice_set (laid ws) w.0 w.1

abbrev machine_at : ℕ → ℕ → Machine
machine_at a p =
    record {
      registers = record { a = a; b = 0; c = false };
      p = p;
      switches = record { one = false; two = false; three = false; four = false };
      halted = false;
    }

abbrev run : Before → Ran
run b = run_def (record { budget = b.budget; cooperative = 15 }) (state (machine_at b.a b.p) (laid b.words))

abbrev shown : Words → Ran → After
shown asked r =
    to r.outcome r.work.steps r.state.machine.registers.a r.state.machine.p
    (map (λ (w : ℕ × ℕ). (w.0, slice_index r.state.image w.0)) asked)

-- n words from '200 on, each indirect and leading to the next
abbrev chain : ℕ → Words
chain zero = []
chain (suc n) = (0o200 + n, 0o100201 + n) ∷ chain n

abbrev rows : List (String × Before × After)
rows =
    -- the link (I4, I7)
    (
      "JST keeps the two top bits of the word that it stores into",
      from 0 0o1000 ((0o1000, 0o020200) ∷ (0o200, 0o140005) ∷ []) 1,
      to Spent 1 0 0o201 ((0o200, 0o141001) ∷ []),
    ) ∷ (
      "JST at the last word: the link is 0",
      from 0 0o37777 ((0o37777, 0o020200) ∷ (0o200, 0o177777) ∷ []) 1,
      to Spent 1 0 0o201 ((0o200, 0o140000) ∷ []),
    ) ∷ (
      "JST into the last word goes on at 0",
      from 0 0o37000 ((0o37000, 0o021777) ∷ []) 1,
      to Spent 1 0 0 ((0o37777, 0o37001) ∷ []),
    ) ∷
    -- a count that comes to 0 (I8)
    (
      "IRS of 65535 comes to 0 and skips",
      from 0 0o1000 ((0o1000, 0o024200) ∷ (0o200, 0o177777) ∷ []) 1,
      to Spent 1 0 0o1002 ((0o200, 0) ∷ []),
    ) ∷ (
      "IRS of 0 does not",
      from 0 0o1000 ((0o1000, 0o024200) ∷ []) 1,
      to Spent 1 0 0o1001 ((0o200, 1) ∷ []),
    ) ∷
    -- tags, and what X is added to (I3, I4)
    (
      "LDX does not add X for its own tag",
      from 0 0o1000 ((0, 5) ∷ (0o1000, 0o072200) ∷ (0o200, 0o177111) ∷ (0o205, 0o222) ∷ []) 1,
      to Spent 1 0 0o1001 ((0, 0o177111) ∷ []),
    ) ∷ (
      "LDX* adds X for the tag of the indirect word",
      from 0 0o1000 ((0, 5) ∷ (0o1000, 0o172200) ∷ (0o200, 0o40300) ∷ (0o300, 0o111) ∷ (0o305, 0o333) ∷ []) 1,
      to Spent 1 0 0o1001 ((0, 0o333) ∷ []),
    ) ∷ (
      "an index of -1 wraps to the last word",
      from 0 0o1000 ((0, 0o177777) ∷ (0o1000, 0o044000) ∷ (0o37777, 0o4321) ∷ []) 1,
      to Spent 1 0o4321 0o1001 [],
    ) ∷
    -- the sector is that of the instruction itself, X is added before an indirect word is fetched, and each such word has a tag of its own (I3)
    (
      "an instruction in the last word of a sector addresses that sector",
      from 0 0o1777 ((0o1777, 0o005005) ∷ (0o1005, 0o111) ∷ (0o2005, 0o222) ∷ []) 1,
      to Spent 1 0o111 0o2000 [],
    ) ∷ (
      "LDA* with its tag adds X to its own address, not to the one that it fetches",
      from 0 0o1000 ((0, 5) ∷ (0o1000, 0o144200) ∷ (0o200, 0o400) ∷ (0o205, 0o300) ∷ (0o300, 0o111) ∷ (0o405, 0o222) ∷ []) 1,
      to Spent 1 0o111 0o1001 [],
    ) ∷ (
      "an indirect word that leads to another adds X for its tag, and the other has 14 bits of address",
      from 0 0o1000 ((0, 5) ∷ (0o1000, 0o104200) ∷ (0o200, 0o140300) ∷ (0o305, 0o20007) ∷ (7, 0o222) ∷ (0o20007, 0o111) ∷ []) 1,
      to Spent 1 0o111 0o1001 [],
    ) ∷
    -- chains (I5); a step that fails leaves the state (R6)
    (
      "16 indirect words are passed",
      from 0 0o1000 ((0o1000, 0o104200) ∷ (0o217, 0o300) ∷ (0o300, 0o4321) ∷ chain 15) 1,
      to Spent 1 0o4321 0o1001 [],
    ) ∷ (
      "17 are not: STA fails with 21, and A, P and the word stay",
      from 7 0o1000 ((0o1000, 0o110200) ∷ (0o220, 0o300) ∷ (0o300, 0o4321) ∷ chain 16) 1,
      to (Failed LongChain) 0 7 0o1000 ((0o300, 0o4321) ∷ []),
    ) ∷
    -- P past the last word (I4, I8); HLT is a step, and halts with the budget's last (R3, R4)
    (
      "CAS with A less skips two words, from 16,382 to 1",
      from 0 0o37776 ((0o37776, 0o022200) ∷ (0o200, 1) ∷ []) 1,
      to Spent 1 0 1 [],
    ) ∷ (
      "HLT at the last word: halted, P 0, with the last step of the budget",
      from 0 0o37777 [] 1,
      to Halted 1 0 0 [],
    ) ∷
    -- word 0 is X (R1)
    (
      "STA to 0 sets X for the next instruction",
      from 3 0o1000 ((0o1000, 0o010000) ∷ (0o1001, 0o044300) ∷ (0o303, 0o707) ∷ []) 2,
      to Spent 2 0o707 0o1002 ((0, 3) ∷ []),
    ) ∷
    -- the steps before one that fails are counted (R6, F20)
    (
      "a word that is no instruction fails with 20 after the steps before it",
      from 0 0o1000 ((0o1000, 0o101000) ∷ (0o1001, 0o026000) ∷ []) 5,
      to (Failed UnknownWord) 1 0 0o1001 [],
    ) ∷
    -- A and B together (I16 to I19)
    (
      "MPY with its tag adds X: 3 by the 4 at 205; LLS 15 brings the product into A",
      from 3 0o1000 ((0, 5) ∷ (0o1000, 0o074200) ∷ (0o1001, 0o041161) ∷ (0o200, 9) ∷ (0o205, 4) ∷ []) 2,
      to Spent 2 12 0o1002 [],
    ) ∷ (
      "LRS 15, DIV* through 200, IAB: what 7 by 2 leaves over",
      from 7 0o1000 ((0o1000, 0o040161) ∷ (0o1001, 0o136200) ∷ (0o1002, 0o000201) ∷ (0o200, 0o300) ∷ (0o300, 2) ∷ []) 3,
      to Spent 3 1 0o1003 [],
    ) ∷ (
      "LLS by 14 fails with 20",
      from 7 0o1000 ((0o1000, 0o041162) ∷ []) 1,
      to (Failed UnknownWord) 0 7 0o1000 [],
    ) ∷ []

examples : map (λ (row : String × Before × After). shown row.2.words (run row.1)) rows ≡ map {B = After} (λ (row : String × Before × After). row.2) rows
unfolding run_def run_from step_def decode_def shift_of generic_of find_word generics memory_of follow_of memory_def generic_def multiply_of divide_of long_left_of long_right_of operate_of unary_of skips_of compare_of
examples = refl

-- the numbers that the failures of these rows, of `ClockExamples` and of the examples of `runs` and `turns` stand for (F1, F20 to F23, F27)
numbers : map {B = ℕ} number_of (WrongImage ∷ UnknownWord ∷ LongChain ∷ OverBudget ∷ WrongP ∷ WrongCooperative ∷ []) ≡ 1 ∷ 20 ∷ 21 ∷ 22 ∷ 23 ∷ 27 ∷ []
numbers = refl
