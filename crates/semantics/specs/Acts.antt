-- The acts of the semantics, in the order of the words, each one step with the effect of the machine's own instruction (M4, M5).
use Rattle.std.specs.Prelude.{ℕ, zero, suc, ◌+◌, ◌%◌, Bool, true, false, cond, not, List, [], ◌∷◌, eqb, ltb}
use Rattle.word.specs.Arithmetic.{bit}
use Rattle.effect.specs.declared.Registers.{Registers}
use Rattle.effect.specs.Effects.{operate_of, unary_of, shifted_of}
use Rattle.effect.specs.Skips.{skips_of}
use Rattle.instruction.specs.Slot.{SPL, TCA}
use Rattle.tree.specs.Tree.{Id, Array, Operand, Subscript, Cell, CellId, same_cell, is_inside, lowest}
use Rattle.layout.specs.Words.{Plain}
use Rattle.semantics.specs.Trace.{State, Trace, bind}

-- a step made: what every instruction does besides its own effect
abbrev pub stepped : State → State
stepped σ = record { cells = σ.cells; registers = σ.registers; switches = σ.switches; steps = suc σ.steps }

-- with other registers, or with a cell changed, a step later
abbrev pub with_registers : State → Registers → State
with_registers σ r = stepped (record { cells = σ.cells; registers = r; switches = σ.switches; steps = σ.steps })

unfoldable pub updated : (CellId → ℕ) → CellId → ℕ → CellId → ℕ
updated cells i v j = cond (same_cell i j) v (cells j)

abbrev pub store : CellId → ℕ → State → State
store i v σ = stepped (record { cells = updated σ.cells i v; registers = σ.registers; switches = σ.switches; steps = σ.steps })

-- a step without any other effect: a skip, a NOP, a jump
abbrev pub tick : State → State
tick σ = stepped σ

unfoldable pub ticks : ℕ → State → State
ticks zero σ = σ
ticks (suc n) σ = ticks n (tick σ)

-- X as a cell, which is the index register too (M1)
abbrev pub x_cell : CellId
x_cell = CellId.named Id.x

-- ---- Cells

-- where an operand's value is: in a cell, or in the source
pub data Place : Type 0 where
  held : CellId → Place
  worth : ℕ → Place

unfoldable pub place_of : Operand → Place
place_of (Operand.named i) = Place.held (CellId.named i)
place_of (Operand.literal v) = Place.worth v

unfoldable pub value_of : Place → State → ℕ
value_of (Place.held i) σ = σ.cells i
value_of (Place.worth v) σ = v

-- LDX
abbrev pub load_x : ℕ → State → State
load_x v σ = store x_cell v σ

-- the LDX of a subscript; `#` takes X as it is (E3)
unfoldable pub subscripted : Subscript → State → State
subscripted (Subscript.by o) σ = load_x (value_of (place_of o) σ) σ
subscripted Subscript.hash σ = σ

-- X as an index: its lowest 16 bits, which is all that CAS compares; the definitions allow larger numbers in a memory, a machine has none
abbrev pub index : State → ℕ
index σ = σ.cells x_cell % 65536

-- how many of a test's ten words are done where X passes: STA, LDA, CAS, CAS, SKP and LDA, a NOP if X is -1, a NOP if it is above -size (M15)
unfoldable pub pass_steps : Array → ℕ → ℕ
pass_steps a x = 6 + bit (eqb x 65535) + bit (not (eqb x (lowest a)))

-- and where it does not, with the HLT: four if X is 0 or more, else the second CAS too, and the NOP before it if X is -1, which only an array of none refuses; the size is of no account (M15)
unfoldable pub stop_steps : ℕ → ℕ
stop_steps x = cond (ltb x 32768) 4 (5 + bit (eqb x 65535))

-- a test that is passed: steps, and nothing else; no step where subscripts are not tested (M15)
unfoldable pub tested : Array → State → State
tested a σ = cond a.checked (ticks (pass_steps a (index σ)) σ) σ

-- the element that X names now; the meaning breaks off here if there is none, ahead of the test (M9)
unfoldable pub element : Array → State → Trace CellId
element a σ = cond (is_inside a (index σ)) (Trace.done (CellId.element a.number (index σ)) (tested a σ)) (Trace.broke σ)

-- an array is entered: X loaded, unless it is `#`, and the element that it then names (M9)
unfoldable pub entered : Array → Subscript → State → Trace CellId
entered a s σ = element a (subscripted s σ)

unfoldable pub as_place : CellId → State → Trace Place
as_place i σ = Trace.done (Place.held i) σ

unfoldable pub reach : Cell → State → Trace Place
reach (Cell.plain o) σ = Trace.done (place_of o) σ
reach (Cell.item a s) σ = bind (entered a s σ) as_place

-- ---- What is done with them

-- an instruction with a cell
abbrev pub operated_on : ℕ → Place → State → State
operated_on opcode p σ = with_registers σ (operate_of opcode (value_of p σ) σ.registers)

unfoldable pub operate : ℕ → Place → State → Trace (Unit {0})
operate opcode p σ = Trace.done tt (operated_on opcode p σ)

unfoldable pub store_a : CellId → State → Trace (Unit {0})
store_a i σ = Trace.done tt (store i σ.registers.a σ)

unfoldable pub set_x : Place → State → Trace (Unit {0})
set_x p σ = Trace.done tt (load_x (value_of p σ) σ)

abbrev pub generic : ℕ → State → State
generic slot σ = with_registers σ (unary_of slot σ.registers)

-- `.ABS`: TCA is skipped if A is not negative (W5)
unfoldable pub absolute : State → State
absolute σ = cond (skips_of SPL σ.registers σ.switches) (tick σ) (generic TCA (tick σ))

abbrev pub shifted : ℕ → ℕ → State → State
shifted kind n σ = with_registers σ (shifted_of kind n σ.registers)

abbrev pub plain_on : List Plain → State → State
plain_on [] σ = σ
plain_on (Plain.generic slot ∷ ps) σ = plain_on ps (generic slot σ)
plain_on (Plain.shift kind n ∷ ps) σ = plain_on ps (shifted kind n σ)

-- a test, which skips its JMP where it holds (M14)
unfoldable pub test : ℕ → State → Trace Bool
test slot σ = cond (skips_of slot σ.registers σ.switches) (Trace.done true (tick σ)) (Trace.done false (tick (tick σ)))

-- one more step: the JMP of a loop or of an `.IF`, the `JMP*` of a return
unfoldable pub jump : Unit {0} → State → Trace (Unit {0})
jump u σ = Trace.done tt (tick σ)

-- the IRS of a `.FOR`: its counter has one more, and the loop goes on unless that is 0 (M7)
unfoldable pub counted : CellId → Unit {0} → State → Trace Bool
counted i u σ = let v = (σ.cells i + 1) % 65536 in cond (eqb v 0) (Trace.done false (store i v σ)) (Trace.done true (store i v σ))
