-- The laws of the meaning by itself.
use Prim.Native.Nat.{ℕ, zero, suc, ◌+◌, ◌%◌, ◌≤◌, ◌<◌}
use mathlib.Core.Path.{◌≡◌, refl, ap, ◌∙◌}
use mathlib.Core.Bool.{Bool, true, false}
use mathlib.Core.List.{Memᴰ}
use native.Mathlib.Omega.{arith}
use lib.Dec.{eqb}
use borrow.Author.Tests.{ne_eqb}
use Rattle.effect.specs.Effects.{operate_of}
use Rattle.tree.specs.Tree.{Id, CellId, Array, Operand, Subscript, Cell, Target, Program, Stmt, is_inside}
use Rattle.tree.specs.Variables.{variables_of, arrays_of}
use Rattle.parsing_laws.specs.WellFormed.{WellFormed}
use Rattle.memory_map.proofs.Accepted.{accepted}
use Rattle.memory_map.proofs.Subscripts.{elements}
use Rattle.semantics.specs.Trace.{State, Trace, bind, next, ended}
use Rattle.semantics.specs.Acts.{x_cell, index, store, tick, load_x, subscripted, tested, element, entered, as_place, place_of, reach, value_of, operate, store_a, set_x, counted}
use Rattle.semantics.specs.Meaning.{Procedures, chosen, assigned, for_turns, stmts_by, term_by, unaries_on, operations_on, expr_by, expr_at, body_by, stmt_at, meaning}
use Rattle.semantics.specs.Agreement.{Observes, Ends}
use Rattle.semantics.specs.MeaningLaws.{Preserves, passes, numeral, started, MeaningLaws}
use Rattle.semantics.proofs.Simulation.Cells.{updated_same}

-- ---- Observations

start_seen : (fuel : ℕ) (p : Program) (σ : State) → Observes σ (meaning fuel p σ)
unfolding meaning
start_seen fuel p σ = Observes.here

end_of : (t : Trace (Unit {0})) (τ : State) → Ends τ (bind t ended) → Observes τ (bind t ended)
unfolding bind ended
end_of (Trace.done a σ) τ (Ends.later Ends.here) = Observes.here
end_of (Trace.observe m t) τ (Ends.later e) = Observes.later (end_of t τ e)
end_of (Trace.broke σ) τ e = elim e [ ]
end_of (Trace.out σ) τ e = elim e [ ]

end_seen : (procedures : Procedures) (fuel left : ℕ) (s : Stmt) (σ τ : State) → Ends τ (stmt_at procedures fuel left s σ) → Observes τ (stmt_at procedures fuel left s σ)
unfolding stmt_at
end_seen procedures fuel zero s σ τ e = end_of _ τ e
end_seen procedures fuel (suc left) s σ τ e = end_of _ τ e

kept : (t : Trace (Unit {0})) (f : Unit {0} → State → Trace (Unit {0})) (m : State) → Observes m t → Observes m (bind t f)
unfolding bind
kept (Trace.observe n t) f m Observes.here = Observes.here
kept (Trace.observe n t) f m (Observes.later o) = Observes.later (kept t f m o)
kept (Trace.done a σ) f m o = elim o [ ]
kept (Trace.broke σ) f m o = elim o [ ]
kept (Trace.out σ) f m o = elim o [ ]

-- ---- Subscripts

module _ (p : Program) (w : WellFormed p) (a : Array) (h : Memᴰ a (arrays_of p)) (s : Subscript) (σ : State) where
  abbrev loaded : State
  loaded = subscripted s σ

  by_inside : (b : Bool) → is_inside a (index loaded) ≡ b → (b ≡ true → ⊥) → is_inside a (index loaded) ≡ false
  by_inside true e n = absurd (n refl)
  by_inside false e n = e

  enters : Memᴰ (CellId.element a.number (index loaded)) (variables_of p) → entered a s σ ≡ Trace.done (CellId.element a.number (index loaded)) (tested a loaded)
  unfolding element entered
  enters m = rw ((elements p w a h).only_inside (index loaded) m) refl

  breaks : (Memᴰ (CellId.element a.number (index loaded)) (variables_of p) → ⊥) → entered a s σ ≡ Trace.broke loaded
  unfolding element entered
  breaks n = let e = by_inside (is_inside a (index loaded)) refl (λ t. n ((elements p w a h).inside (index loaded) t)) in rw e refl

reads : (a : Array) (s : Subscript) (σ : State) → reach (Cell.item a s) σ ≡ bind (entered a s σ) as_place
unfolding reach
reads a s σ = refl

stores : (a : Array) (s : Subscript) (σ : State) → assigned (Target.item a s) σ ≡ bind (entered a s σ) store_a
unfolding assigned
stores a s σ = refl

-- ---- The passes of a `.FOR`

-- two parts after a part, taken as one
as_one : {A B C : Type 0} (t : Trace A) (f : A → State → Trace B) (g : B → State → Trace C) (h : A → State → Trace C)
    → ((a : A) (τ : State) → Ends τ t → bind (f a τ) g ≡ h a τ) → bind (bind t f) g ≡ bind t h
unfolding bind
as_one (Trace.done a τ) f g h k = k a τ Ends.here
as_one (Trace.broke τ) f g h k = refl
as_one (Trace.out τ) f g h k = refl
as_one (Trace.observe m t) f g h k = ap (Trace.observe m) (as_one t f g h (λ a τ e. k a τ (Ends.later e)))

module _ (i : CellId) (body : State → Trace (Unit {0})) (alone : Preserves i body) where
  last_pass : (τ : State) (go : State → Trace (Unit {0})) → τ.cells i + 1 ≡ 65536
      → bind (counted i tt τ) (chosen go (λ υ. Trace.done tt υ)) ≡ Trace.done tt (store i 0 τ)
  unfolding bind counted chosen
  last_pass τ go e = let z : (τ.cells i + 1) % 65536 ≡ 0 = omega arith in rw z refl

  one_pass : (τ : State) (go : State → Trace (Unit {0})) → τ.cells i + 1 < 65536
      → bind (counted i tt τ) (chosen go (λ υ. Trace.done tt υ)) ≡ go (store i (τ.cells i + 1) τ)
  unfolding bind counted chosen
  one_pass τ go l =
      let m : (τ.cells i + 1) % 65536 ≡ τ.cells i + 1 = omega arith in
      let z : eqb (τ.cells i + 1) 0 ≡ false = ne_eqb (τ.cells i + 1) 0 (λ e. omega arith) in
      rw (m, z) refl

  for_passes : (n fuel : ℕ) → 0 < n → n ≤ fuel → (σ : State) → σ.cells i + n ≡ 65536 → for_turns fuel i body σ ≡ passes n i body σ
  unfolding for_turns passes
  for_passes zero fuel l m σ e = absurd (omega arith)
  for_passes (suc n) zero l m σ e = absurd (omega arith)
  for_passes (suc zero) (suc fuel) l m σ e =
      as_one (body σ) (counted i) (chosen (λ τ. for_turns fuel i body (tick τ)) (λ τ. Trace.done tt τ)) (λ _ τ. Trace.done tt (store i 0 τ))
      (λ u τ h. last_pass τ (λ υ. for_turns fuel i body (tick υ)) (omega (arith, alone σ τ h)))
  for_passes (suc (suc n)) (suc fuel) l m σ e =
      as_one (body σ) (counted i) (chosen (λ τ. for_turns fuel i body (tick τ)) (λ τ. Trace.done tt τ)) (λ _ τ. passes (suc n) i body (tick (store i (τ.cells i + 1) τ)))
      (λ u τ h. let same = alone σ τ h in let v = updated_same τ.cells i (τ.cells i + 1) in
      one_pass τ (λ υ. for_turns fuel i body (tick υ)) (omega arith)
      ∙ for_passes (suc n) fuel (omega arith) (omega arith) (tick (store i (τ.cells i + 1) τ)) (omega arith))

module _ (procedures : Procedures) (fuel left : ℕ) where
  abbrev body : Stmt → State → Trace (Unit {0})
  body s = stmt_at procedures fuel left s

  -- a statement is its body and then its end
  ended_by : (s : Stmt) (σ : State) → stmt_at procedures fuel (suc left) s σ ≡ bind (body_by procedures fuel (expr_at procedures (suc left)) body (stmts_by body) s σ) ended
  unfolding stmt_at
  ended_by s σ = refl

  from_numeral : (i : Id) (s : Stmt) → Preserves (CellId.named i) (body s) → (v n : ℕ) → v + n ≡ 65536 → 0 < n → n ≤ fuel → (σ : State)
      → body_by procedures fuel (expr_at procedures (suc left)) body (stmts_by body) (Stmt.for i (numeral v) s) σ ≡ passes n (CellId.named i) (body s) (started i v σ)
  unfolding body_by expr_at expr_by term_by reach place_of value_of operate unaries_on operations_on bind next store_a operate_of
  from_numeral i s alone v n e l m σ =
      let x = updated_same σ.cells (CellId.named i) v in
      for_passes (CellId.named i) (body s) alone n fuel l m (started i v σ) (omega arith)

  from_x_numeral : (s : Stmt) → Preserves x_cell (body s) → (v n : ℕ) → v + n ≡ 65536 → 0 < n → n ≤ fuel → (σ : State)
      → body_by procedures fuel (expr_at procedures (suc left)) body (stmts_by body) (Stmt.for_x (Cell.plain (Operand.literal v)) s) σ ≡ passes n x_cell (body s) (load_x v σ)
  unfolding body_by reach place_of value_of set_x bind next
  from_x_numeral s alone v n e l m σ =
      let x = updated_same σ.cells x_cell v in
      for_passes x_cell (body s) alone n fuel l m (load_x v σ) (omega arith)

  for_numeral : (i : Id) (s : Stmt) → Preserves (CellId.named i) (body s) → (v n : ℕ) → v + n ≡ 65536 → 0 < n → n ≤ fuel → (σ : State)
      → stmt_at procedures fuel (suc left) (Stmt.for i (numeral v) s) σ ≡ bind (passes n (CellId.named i) (body s) (started i v σ)) ended
  for_numeral i s alone v n e l m σ = ended_by _ σ ∙ ap (λ (t : Trace (Unit {0})). bind t ended) (from_numeral i s alone v n e l m σ)

  for_x_numeral : (s : Stmt) → Preserves x_cell (body s) → (v n : ℕ) → v + n ≡ 65536 → 0 < n → n ≤ fuel → (σ : State)
      → stmt_at procedures fuel (suc left) (Stmt.for_x (Cell.plain (Operand.literal v)) s) σ ≡ bind (passes n x_cell (body s) (load_x v σ)) ended
  for_x_numeral s alone v n e l m σ = ended_by _ σ ∙ ap (λ (t : Trace (Unit {0})). bind t ended) (from_x_numeral s alone v n e l m σ)

end_alone : (i : CellId) (σ τ : State) → Ends τ (ended tt σ) → τ.cells i ≡ σ.cells i
unfolding ended
end_alone i σ τ (Ends.later Ends.here) = refl

nothing_done : (procedures : Procedures) (fuel left : ℕ) (i : CellId) → Preserves i (stmt_at procedures fuel left Stmt.empty)
unfolding stmt_at body_by bind
nothing_done procedures fuel zero i σ τ e = end_alone i σ τ e
nothing_done procedures fuel (suc left) i σ τ e = end_alone i σ τ e

pub meaning_laws : MeaningLaws
meaning_laws = record {
  start_seen = start_seen;
  end_seen = end_seen;
  kept = kept;
  enters = λ source c e. enters c.program (accepted source c e).well_formed;
  breaks = λ source c e. breaks c.program (accepted source c e).well_formed;
  reads = reads;
  stores = stores;
  for_passes = for_passes;
  for_numeral = for_numeral;
  for_x_numeral = for_x_numeral;
  for_once = λ procedures fuel left i s k l. for_numeral procedures fuel left i s k 65535 1 (omega arith) (omega arith) l;
  for_most = λ procedures fuel left i s k l. for_numeral procedures fuel left i s k 0 65536 (omega arith) (omega arith) l;
  preserved = nothing_done;
}
