-- The states that a step takes and gives: an image of 16,384 words and P in it. And what a step's answer says of the step.
use Rattle.std.proofs.Common.{◌≡◌, ℕ, ◌<◌, eqb, List, Result, Ok, Err, length, get_or, ap, ◌∙◌, arith, length-set}
use Rattle.instruction.specs.Opcode.{JMP, STA, JST, CAS, IRS, LDX}
use Rattle.instruction.specs.Slot.{HLT}
use Rattle.instruction.specs.Decode.{decode_def}
use Rattle.instruction.specs.declared.Instruction.{Instruction}
use Rattle.instruction.specs.declared.Instruction.TheVariants.{Memory, Shift, Generic, Unknown}
use Rattle.instruction.proofs.Choice.{cond_all}
use Rattle.instruction.proofs.Proper.{Proper, decode_proper}
use Rattle.machine.specs.declared.Machine.{Machine}
use Rattle.machine.specs.declared.address.Reached.{Reached}
use Rattle.machine.specs.declared.failure.Failure.{Failure}
use Rattle.machine.specs.State.{State, state, Good}
use Rattle.machine.specs.Address.{address_of}
use Rattle.machine.specs.Step.{past_of, memory_def, generic_def, Step, made, failed, memory_step, perform, step_def, stepped_of, image_left}
use Rattle.machine.proofs.Chains.{Below, address_below}

abbrev pub GoodStep : Step → Type 0
GoodStep (made s) = Good s
GoodStep (failed n) = Unit {0}

past_below : (p k : ℕ) → past_of p k < 16384
past_below p k = omega arith

memory_good : (opcode e : ℕ) (m : Machine) (image : List ℕ) → e < 16384 → length image ≡ 16384 → Good (memory_def opcode e m image)
unfolding memory_def
memory_good opcode e m image h l =
    cond_all Good (eqb opcode JMP) (l, h)
    (cond_all Good (eqb opcode STA) (length-set image e _ ∙ l, past_below m.p 0)
    (cond_all Good (eqb opcode JST) (length-set image e _ ∙ l, past_below e 0)
    (cond_all Good (eqb opcode CAS) (l, past_below m.p _)
    (cond_all Good (eqb opcode IRS) (length-set image e _ ∙ l, past_below m.p _)
    (cond_all Good (eqb opcode LDX) (length-set image 0 _ ∙ l, past_below m.p 0)
    (l, past_below m.p 0))))))

generic_below : (slot : ℕ) (m : Machine) → (generic_def slot m).p < 16384
unfolding generic_def
generic_below slot m = cond_all (λ (n : Machine). n.p < 16384) (eqb slot HLT) (past_below m.p 0) (past_below m.p _)

at_good : (opcode : ℕ) (m : Machine) (image : List ℕ) (a : Result Reached Failure) → Below a → length image ≡ 16384 → GoodStep (memory_step opcode m image a)
at_good opcode m image (Ok r) h l = memory_good opcode r.address m image h l
at_good opcode m image (Err f) h l = tt

perform_good : (m : Machine) (image : List ℕ) (i : Instruction) → Proper i → Good (state m image) → GoodStep (perform m image i)
perform_good m image (Memory opcode indirect tag sector address) h g =
    at_good opcode m image (address_of image m.p indirect tag sector address)
    (address_below image m.p indirect tag sector address g.1 h) g.0
perform_good m image (Shift kind n) h g = (g.0, past_below m.p 0)
perform_good m image (Generic slot) h g = (g.0, generic_below slot m)
perform_good m image Unknown h g = tt

pub step_good : (s : State) → Good s → GoodStep (step_def s)
unfolding step_def
step_good s g =
    let w = get_or s.image s.machine.p 0 in perform_good s.machine s.image (decode_def w) (decode_proper w) g

-- a step whose instruction is known
pub step_of : (m : Machine) (image : List ℕ) {i : Instruction} → decode_def (get_or image m.p 0) ≡ i → step_def (state m image) ≡ perform m image i
unfolding step_def
step_of m image e = ap (perform m image) e

-- what the step's answer and the image that it left say of the step
pub step_made : (image l : List ℕ) (x : Step) {n : Machine} → stepped_of x ≡ Ok n → l ≡ image_left image x → x ≡ made (state n l)
step_made image l (made t) {n} e d = let q : t.machine ≡ n = cc in rw (← q, d)
step_made image l (failed f) {n} e d = cc

pub step_failed : (image l : List ℕ) (x : Step) {f : Failure} → stepped_of x ≡ Err f → l ≡ image_left image x → (x ≡ failed f) × (l ≡ image)
step_failed image l (made t) {f} e d = (cc, cc)
step_failed image l (failed g) {f} e d = (cc, cc)

pub ruleset for_make_steps = (step_good, step_made, step_failed)
