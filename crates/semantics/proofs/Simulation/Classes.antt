-- Which instructions read, act on the registers, or skip: those that the forms become.
use mathlib.Core.Path.{refl}
use mathlib.Core.List.{List, [], ◌∷◌}
use mathlib.Core.Option.{Option, some, none}
use Rattle.effect.specs.Effects.{unary_of}
use Rattle.effect.specs.Skips.{skips_of}
use Rattle.instruction.specs.Opcode.{LDA}
use Rattle.instruction.specs.Slot.{SKP, NOP, SPL, CRA, TCA}
use Rattle.machine.specs.Step.{memory_def, generic_def}
use Rattle.tree.specs.Tree.{Unary, Operator, Test, Bare}
use Rattle.layout.specs.Words.{Plain, unary_plain, Operated, operator_form, test_slot, bare_slot}
use Rattle.semantics.proofs.Simulation.Instructions.{Reads, ActsOn, Skips}

pub load_reads : Reads LDA
unfolding memory_def
load_reads e n image = refl

pub clear_acts : ActsOn CRA
unfolding generic_def skips_of
clear_acts n = refl

pub complement_acts : ActsOn TCA
unfolding generic_def skips_of
complement_acts n = refl

pub sign_skips : Skips SPL
unfolding generic_def unary_of
sign_skips n = refl

-- instructions on the registers alone
abbrev pub Acts : List Plain → Type 0
Acts [] = Unit {0}
Acts (Plain.generic slot ∷ ps) = ActsOn slot × Acts ps
Acts (Plain.shift kind n ∷ ps) = Acts ps

-- the instructions of an operator
pub record FormActs (form : Operated) : Type 0 where
  pub before : Acts form.before
  pub reads : Reads form.opcode
  pub after : Acts form.after

pub form_acts : (o : Operator) → FormActs (operator_form o)
unfolding operator_form memory_def generic_def skips_of
form_acts Operator.add = record { before = tt; reads = λ e n image. refl; after = tt }
form_acts Operator.subtract = record { before = tt; reads = λ e n image. refl; after = tt }
form_acts Operator.and = record { before = tt; reads = λ e n image. refl; after = tt }
form_acts Operator.nev = record { before = tt; reads = λ e n image. refl; after = tt }
form_acts Operator.multiply = record { before = tt; reads = λ e n image. refl; after = tt }
form_acts Operator.divide = record { before = tt; reads = λ e n image. refl; after = tt }
form_acts Operator.modulo = record { before = tt; reads = λ e n image. refl; after = (λ n. refl, tt) }

abbrev pub UnaryActs : Option Plain → Type 0
UnaryActs (some p) = Acts (p ∷ [])
UnaryActs none = Unit {0}

pub unary_acts : (u : Unary) → UnaryActs (unary_plain u)
unfolding generic_def skips_of
unary_acts Unary.addc = (λ n. refl, tt)
unary_acts Unary.inc = (λ n. refl, tt)
unary_acts Unary.neg = (λ n. refl, tt)
unary_acts Unary.ssp = (λ n. refl, tt)
unary_acts Unary.ssm = (λ n. refl, tt)
unary_acts Unary.chs = (λ n. refl, tt)
unary_acts Unary.csa = (λ n. refl, tt)
unary_acts Unary.not = (λ n. refl, tt)
unary_acts Unary.icleft = (λ n. refl, tt)
unary_acts Unary.cleft = (λ n. refl, tt)
unary_acts Unary.swop = (λ n. refl, tt)
unary_acts Unary.icright = (λ n. refl, tt)
unary_acts Unary.cright = (λ n. refl, tt)
unary_acts Unary.abs = tt

pub test_skips : (t : Test) → Skips (test_slot t)
unfolding generic_def unary_of test_slot
test_skips Test.zero n = refl
test_skips Test.nonzero n = refl
test_skips Test.plus n = refl
test_skips Test.minus n = refl
test_skips Test.odd n = refl
test_skips Test.even n = refl

pub bare_skips : (t : Bare) → Skips (bare_slot t)
unfolding generic_def unary_of bare_slot
bare_skips Bare.cset n = refl
bare_skips Bare.notc n = refl
bare_skips Bare.sense1 n = refl
bare_skips Bare.sense2 n = refl
bare_skips Bare.sense3 n = refl
bare_skips Bare.sense4 n = refl
bare_skips Bare.anykey n = refl
bare_skips Bare.nokey n = refl

pub nop_skips : Skips NOP
unfolding generic_def unary_of
nop_skips n = refl

pub skp_skips : Skips SKP
unfolding generic_def unary_of
skp_skips n = refl
