-- Laws of the meaning by itself, in which the machine has no part: what is observed, what becomes of a subscript, and how often a `.FOR` does its body.
use Rattle.std.specs.Prelude.{ℕ, zero, suc, ◌+◌, ◌≤◌, ◌<◌, ◌≡◌}
use mathlib.Core.List.{List, [], Memᴰ}
use Rattle.effect.specs.Effects.{operate_of}
use Rattle.instruction.specs.Opcode.{LDA}
use Rattle.tree.specs.Tree.{Id, CellId, Array, Operand, Subscript, Cell, Term, Expr, Target, Stmt, Program}
use Rattle.tree.specs.Variables.{variables_of, arrays_of}
use Rattle.compilation.specs.Compile.{Compiled, Result, compile_def}
use Rattle.semantics.specs.Trace.{State, Trace, bind, ended}
use Rattle.semantics.specs.Acts.{x_cell, index, with_registers, store, tick, load_x, subscripted, tested, entered, as_place, reach, store_a}
use Rattle.semantics.specs.Meaning.{Procedures, assigned, for_turns, stmt_at, meaning}
use Rattle.semantics.specs.Agreement.{Observes, Ends}

-- a body leaves a cell as it was, wherever it is done
abbrev pub Preserves : CellId → (State → Trace (Unit {0})) → Type 0
Preserves i body = (σ τ : State) → Ends τ (body σ) → τ.cells i ≡ σ.cells i

-- n passes: each is the body and the IRS, with the JMP back between two of them; the last IRS makes 0 (M7)
unfoldable pub passes : ℕ → CellId → (State → Trace (Unit {0})) → State → Trace (Unit {0})
passes zero i body σ = Trace.done tt σ
passes (suc zero) i body σ = bind (body σ) (λ _ τ. Trace.done tt (store i 0 τ))
passes (suc (suc n)) i body σ = bind (body σ) (λ _ τ. passes (suc n) i body (tick (store i (τ.cells i + 1) τ)))

-- a numeral as an expression
abbrev pub numeral : ℕ → Expr
numeral v = Expr.chain [] (Term.cell (Cell.plain (Operand.literal v))) []

-- the start of a `.FOR` that is a numeral: LDA and STA (W13)
abbrev pub started : Id → ℕ → State → State
started i v σ = store (CellId.named i) v (with_registers σ (operate_of LDA v σ.registers))

pub record MeaningLaws : Type 0 where
  -- the start is observed (M11),
  pub start_seen : (fuel : ℕ) (p : Program) (σ : State) → Observes σ (meaning fuel p σ)
  -- the end of each statement that comes to one is (M11),
  pub end_seen : (procedures : Procedures) (fuel left : ℕ) (s : Stmt) (σ τ : State) → Ends τ (stmt_at procedures fuel left s σ) → Observes τ (stmt_at procedures fuel left s σ)
  -- and what a part has observed stays, whatever comes after it (M11)
  pub kept : (t : Trace (Unit {0})) (f : Unit {0} → State → Trace (Unit {0})) (m : State) → Observes m t → Observes m (bind t f)
  -- an array is entered where the element that X, loaded by the subscript, names is a variable (M9),
  pub enters : (source : List ℕ) (c : Compiled) → compile_def source ≡ Result.accepted c → (a : Array) → Memᴰ a (arrays_of c.program) → (s : Subscript) (σ : State)
      → let τ = subscripted s σ in let i = CellId.element a.number (index τ) in Memᴰ i (variables_of c.program) → entered a s σ ≡ Trace.done i (tested a τ)
  -- and where it is none, the meaning breaks off, X loaded (M9)
  pub breaks : (source : List ℕ) (c : Compiled) → compile_def source ≡ Result.accepted c → (a : Array) → Memᴰ a (arrays_of c.program) → (s : Subscript) (σ : State)
      → let τ = subscripted s σ in (Memᴰ (CellId.element a.number (index τ)) (variables_of c.program) → ⊥) → entered a s σ ≡ Trace.broke τ
  -- an element is reached by entering its array: so by every form but an assignment to it (M9),
  pub reads : (a : Array) (s : Subscript) (σ : State) → reach (Cell.item a s) σ ≡ bind (entered a s σ) as_place
  -- which enters the array behind the value (M9)
  pub stores : (a : Array) (s : Subscript) (σ : State) → assigned (Target.item a s) σ ≡ bind (entered a s σ) store_a
  -- where its body leaves the counter as it was, a `.FOR` makes as many passes as its counter is below 65,536 (M7):
  pub for_passes : (i : CellId) (body : State → Trace (Unit {0})) → Preserves i body → (n fuel : ℕ) → 0 < n → n ≤ fuel → (σ : State) → σ.cells i + n ≡ 65536
      → for_turns fuel i body σ ≡ passes n i body σ
  -- the whole statement with a numeral as its start (M7),
  pub for_numeral : (procedures : Procedures) (fuel left : ℕ) (i : Id) (s : Stmt) → let body = stmt_at procedures fuel left s in Preserves (CellId.named i) body
      → (v n : ℕ) → v + n ≡ 65536 → 0 < n → n ≤ fuel → (σ : State)
      → stmt_at procedures fuel (suc left) (Stmt.for i (numeral v) s) σ ≡ bind (passes n (CellId.named i) body (started i v σ)) ended
  -- and that with `#` (M7):
  pub for_x_numeral : (procedures : Procedures) (fuel left : ℕ) (s : Stmt) → let body = stmt_at procedures fuel left s in Preserves x_cell body
      → (v n : ℕ) → v + n ≡ 65536 → 0 < n → n ≤ fuel → (σ : State)
      → stmt_at procedures fuel (suc left) (Stmt.for_x (Cell.plain (Operand.literal v)) s) σ ≡ bind (passes n x_cell body (load_x v σ)) ended
  -- from -1 one pass (M7),
  pub for_once : (procedures : Procedures) (fuel left : ℕ) (i : Id) (s : Stmt) → let body = stmt_at procedures fuel left s in Preserves (CellId.named i) body → 1 ≤ fuel → (σ : State)
      → stmt_at procedures fuel (suc left) (Stmt.for i (numeral 65535) s) σ ≡ bind (passes 1 (CellId.named i) body (started i 65535 σ)) ended
  -- and from 0 65,536 (M7)
  pub for_most : (procedures : Procedures) (fuel left : ℕ) (i : Id) (s : Stmt) → let body = stmt_at procedures fuel left s in Preserves (CellId.named i) body → 65536 ≤ fuel → (σ : State)
      → stmt_at procedures fuel (suc left) (Stmt.for i (numeral 0) s) σ ≡ bind (passes 65536 (CellId.named i) body (started i 0 σ)) ended
  -- there are such bodies: an empty statement leaves every cell as it was
  pub preserved : (procedures : Procedures) (fuel left : ℕ) (i : CellId) → Preserves i (stmt_at procedures fuel left Stmt.empty)
