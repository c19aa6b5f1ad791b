-- The state of the semantics, and what a part of a program does from one.
use Rattle.std.specs.Prelude.{ℕ}
use Rattle.effect.specs.declared.Registers.{Registers}
use Rattle.effect.specs.declared.Switches.{Switches}
use Rattle.tree.specs.Tree.{CellId}

-- a word for each integer, X among them, each named constant and each element; A, B and C; the sense switches; the number of steps done (M1)
pub record State : Type 0 where
  pub cells : CellId → ℕ
  pub registers : Registers
  pub switches : Switches
  pub steps : ℕ

-- the observations that a part makes, then how it goes on: done, with a value; broken off at a subscript outside its array; out of the fuel that loops take (M9, M11)
pub data Trace (A : Type 0) : Type 0 where
  done : A → State → Trace A
  broke : State → Trace A
  out : State → Trace A
  observe : State → Trace A → Trace A

unfoldable pub bind : {A B : Type 0} → Trace A → (A → State → Trace B) → Trace B
bind (Trace.done a σ) f = f a σ
bind (Trace.broke σ) f = Trace.broke σ
bind (Trace.out σ) f = Trace.out σ
bind (Trace.observe m t) f = Trace.observe m (bind t f)

-- one after another, where the first hands no value on
unfoldable pub next : {B : Type 0} → (State → Trace B) → Unit {0} → State → Trace B
next f u σ = f σ

-- a statement's end is observed (M11)
unfoldable pub ended : Unit {0} → State → Trace (Unit {0})
ended u σ = Trace.observe σ (Trace.done tt σ)
