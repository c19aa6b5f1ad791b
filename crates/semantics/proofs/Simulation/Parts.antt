-- The machine follows the parts of forms that hold no expression or statement, where they stand in the map: cells, unary words, operations, tests, relations, ends.
use Prim.Native.Nat.{ℕ, zero, suc, ◌+◌, ◌%◌, ◌≤◌, ◌<◌}
use mathlib.Core.Path.{◌≡◌, refl, sym, ap, subst}
use mathlib.Core.Bool.{Bool, true, false}
use mathlib.Core.List.{List}
use native.Mathlib.Nat.{le_refl, le_trans}
use native.Mathlib.Omega.{arith}
use lib.Dec.{eqb}
use Rattle.word.specs.Arithmetic.{compare_of}
use Rattle.word.proofs.Bounds.{compare_below}
use Rattle.effect.specs.Skips.{skips_of}
use Rattle.instruction.specs.Opcode.{STA, CAS, IRS, LDX, DIV}
use Rattle.instruction.specs.Slot.{SPL}
use Rattle.instruction.specs.declared.Instruction.TheVariants.{Generic}
use Rattle.instruction.proofs.Choice.{cond_when}
use Rattle.machine.specs.State as machine
use Rattle.tree.specs.Tree.{CellId, Array, Subscript, Cell, Unary, Operator, Operation, Relation, Target, is_inside}
use Rattle.layout.specs.Words.{Plain, operator_form, controls, target_cell}
use Rattle.layout.specs.Map.{Role}
use Rattle.semantics.specs.Trace.{State, Trace, bind, next, ended}
use Rattle.semantics.specs.Acts.{tick, ticks, x_cell, Place, place_of, value_of, index, subscripted, pass_steps, tested, element, entered, as_place, reach, operate, store_a, set_x, absolute, plain_on, test, jump, counted}
use Rattle.semantics.specs.Meaning.{unary_on, unaries_on, operator_on, operation_on, operations_on, chosen, order_of, words_after, related, assigned}
use Rattle.memory_map.specs.Laid.{Map, Sound, Sits, Refers, ArrayAt, Through, LaidLoad, LaidTest, LaidSubscript, LaidCell, LaidOn, LaidJump, LaidPlain, LaidUnary, LaidUnaries, LaidOperations, LaidControls}
use Rattle.semantics.proofs.Simulation.Relate.{Links, At, stands, Left, Out, Ok, ok_done, ok_broke, ok_observe, follow}
use Rattle.semantics.proofs.Simulation.Tests.{untested, ticked, pass, stop}
use Rattle.semantics.proofs.Simulation.Instructions as instructions
use Rattle.semantics.proofs.Simulation.Instructions.{Located, Reads, Skips, do_generic, do_shift, do_test, do_read, do_store, do_load_x, do_jump, do_compare, do_count, located_direct, located_element}
use Rattle.semantics.proofs.Simulation.Classes.{form_acts, complement_acts, sign_skips, Acts, UnaryActs, unary_acts}
use Rattle.semantics.proofs.Simulation.Control.{fork, skipped, order_skips, table, jump_below, within, sim_controls}

pub le₁ : (n : ℕ) → n ≤ suc n
le₁ n = omega arith

pub le₂ : (n : ℕ) → n ≤ suc (suc n)
le₂ n = omega arith

ticks_up : (n : ℕ) (σ : State) → σ.steps ≤ (ticks n σ).steps
unfolding ticks
ticks_up zero σ = le_refl _
ticks_up (suc n) σ = le_trans (le₁ σ.steps) (ticks_up n (tick σ))

ticks_cells : (n : ℕ) (σ : State) → (ticks n σ).cells ≡ σ.cells
unfolding ticks
ticks_cells zero σ = refl
ticks_cells (suc n) σ = ticks_cells n (tick σ)

module _ (M : Map) (sound : Sound M) (s₀ : machine.State) (N : ℕ) where
  -- the trace is followed, and its end stands at p
  abbrev pub Follows : Links → ℕ → ℕ → Trace (Unit {0}) → Type 0
  Follows κ p low t = Ok M sound s₀ N (λ u σ m. At M sound s₀ κ p σ m) low t

  -- a test goes on at b or at z
  abbrev pub Forks : Links → ℕ → ℕ → ℕ → Trace Bool → Type 0
  Forks κ b z low t = Ok M sound s₀ N (λ v σ m. At M sound s₀ κ (fork b z v) σ m) low t

  -- ---- Cells

  -- the operand of the instruction at b
  abbrev Found : Links → ℕ → Bool → ℕ → Place → State → List ℕ → Type 0
  Found κ b indirect k l σ m = At M sound s₀ κ b σ m × Located M m indirect k l

  -- the element that X names, of the array whose word is at k
  abbrev Enters : Links → ℕ → ℕ → ℕ → Trace CellId → Type 0
  Enters κ b k low t = Ok M sound s₀ N (λ j. Found κ b true k (Place.held j)) low t

  named : {κ : Links} {r : Array} {a b k low : ℕ} {σ : State} {m : List ℕ} → low ≤ σ.steps → LaidTest M r a b → ArrayAt M r k → Through M k b → At M sound s₀ κ a σ m → Enters κ b k low (element r σ)
  unfolding element
  named {κ} {r} {a} {b} {k} {low} {σ} {m} l t placed next h = cond_when (Enters κ b k low) (is_inside r (index σ)) _ _ (inside t) (outside t)
    where
      -- the memory and the state behind the test, where X is the element's
      found : {b : ℕ} {τ : State} {n : List ℕ} → low ≤ τ.steps → τ.cells ≡ σ.cells → tested r σ ≡ τ → At M sound s₀ κ b τ n → is_inside r (index σ) ≡ true
          → Enters κ b k low (Trace.done (CellId.element r.number (index σ)) (tested r σ))
      found {b} {τ} {n} u same is g i =
          let x : index σ ≡ index τ = ap (λ (c : CellId → ℕ). c x_cell % 65536) (sym same) in
          rw (is, x) (ok_done n u (g, located_element M sound s₀ g placed.word (rw (← x) i)))

      inside : {b : ℕ} → LaidTest M r a b → is_inside r (index σ) ≡ true → Enters κ b k low (Trace.done (CellId.element r.number (index σ)) (tested r σ))
      inside (LaidTest.none e free) i = found l refl (untested r σ e) h i
      inside (LaidTest.words e here t) i =
          let n = pass_steps r (index σ) in
          found (le_trans l (ticks_up n σ)) (ticks_cells n σ) (ticked r σ e) (pass M sound s₀ h here placed.word.small t i) i

      out : is_inside r (index σ) ≡ false → Out M sound s₀ σ a
      out i = record { array = r; word = k; placed = placed; behind = b; test = t; through = next; outside = i }

      outside : {b : ℕ} → LaidTest M r a b → is_inside r (index σ) ≡ false → Enters κ b k low (Trace.broke σ)
      outside (LaidTest.none e free) i = ok_broke l (stands M sound s₀ h) (Left.untested free) (out i)
      outside (LaidTest.words e here u) i = ok_broke l (stands M sound s₀ h) (Left.tested (stop M sound s₀ h here placed.word.small u i)) (out i)

  sim_entered : {κ : Links} {r : Array} {s : Subscript} {a b k : ℕ} {σ : State} {m : List ℕ} → LaidSubscript M r s a b → ArrayAt M r k → Through M k b → At M sound s₀ κ a σ m
      → Enters κ b k σ.steps (entered r s σ)
  unfolding entered subscripted
  sim_entered {σ = σ} (LaidSubscript.both (LaidLoad.by r d) t) w next h = named (le₁ σ.steps) t w next (do_load_x M sound s₀ h r (located_direct M sound s₀ h d))
  sim_entered (LaidSubscript.both LaidLoad.hash t) w next h = named (le_refl _) t w next h

  sim_cell : {κ : Links} {c : Cell} {a b k : ℕ} {indirect : Bool} {σ : State} {m : List ℕ} → LaidCell M c a b indirect k → (indirect ≡ true → Through M k b) → At M sound s₀ κ a σ m
      → Ok M sound s₀ N (Found κ b indirect k) σ.steps (reach c σ)
  unfolding reach as_place
  sim_cell {m = m} (LaidCell.plain d) next h = ok_done m (le_refl _) (h, located_direct M sound s₀ h d)
  sim_cell (LaidCell.item s w) next h = follow M sound s₀ (sim_entered s w (next refl) h) (λ j σ₁ m₁ l q. ok_done m₁ (le_refl _) q)

  -- an instruction on a cell goes through an array's word, if its operand is an element
  straight : {b k opcode : ℕ} {indirect : Bool} → (opcode ≡ DIV → ⊥) → Refers M b opcode indirect k → indirect ≡ true → Through M k b
  straight {b} {k} {opcode} other r e = Through.instruction other (subst (λ (i : Bool). Refers M b opcode i k) e r)

  -- and so does an operator's, behind what stands before it
  operating : {a n k : ℕ} {indirect : Bool} (o : Operator) → LaidPlain M (operator_form o).before a n → Refers M n (operator_form o).opcode indirect k → indirect ≡ true → Through M k a
  unfolding operator_form
  operating Operator.add LaidPlain.none r e = straight (λ z. omega arith) r e
  operating Operator.subtract LaidPlain.none r e = straight (λ z. omega arith) r e
  operating Operator.and LaidPlain.none r e = straight (λ z. omega arith) r e
  operating Operator.nev LaidPlain.none r e = straight (λ z. omega arith) r e
  operating Operator.multiply LaidPlain.none r e = straight (λ z. omega arith) r e
  operating {a = a} {k = k} Operator.divide (LaidPlain.shift s LaidPlain.none) r e = Through.division s (subst (λ (i : Bool). Refers M (suc a) DIV i k) e r)
  operating {a = a} {k = k} Operator.modulo (LaidPlain.shift s LaidPlain.none) r e = Through.division s (subst (λ (i : Bool). Refers M (suc a) DIV i k) e r)

  pub sim_read : {κ : Links} {code a b : ℕ} {c : Cell} {σ : State} {m : List ℕ} → Reads code → (code ≡ DIV → ⊥) → LaidOn M code c a b → At M sound s₀ κ a σ m
      → Follows κ b σ.steps (bind (reach c σ) (operate code))
  unfolding operate
  sim_read reads other (LaidOn.on c r) h = follow M sound s₀ (sim_cell c (straight other r) h) (λ l σ m le q. ok_done m (le₁ σ.steps) (do_read M sound s₀ q.0 reads r q.1))

  pub sim_set_x : {κ : Links} {c : Cell} {a b : ℕ} {σ : State} {m : List ℕ} → LaidOn M LDX c a b → At M sound s₀ κ a σ m
      → Follows κ b σ.steps (bind (reach c σ) set_x)
  unfolding set_x
  sim_set_x (LaidOn.on c r) h = follow M sound s₀ (sim_cell c (straight (λ z. omega arith) r) h) (λ l σ m le q. ok_done _ (le₁ σ.steps) (do_load_x M sound s₀ q.0 r q.1))

  pub sim_assigned : {κ : Links} {a b : ℕ} {σ : State} {m : List ℕ} (t : Target) → LaidOn M STA (target_cell t) a b → At M sound s₀ κ a σ m
      → Follows κ b σ.steps (assigned t σ)
  unfolding assigned store_a target_cell place_of
  sim_assigned {σ = σ} (Target.integer i) (LaidOn.on (LaidCell.plain d) r) h =
      ok_done _ (le₁ σ.steps) (do_store M sound s₀ h r (located_direct M sound s₀ h d))
  sim_assigned (Target.item a s) (LaidOn.on (LaidCell.item c w) r) h =
      follow M sound s₀ (sim_entered c w (Through.instruction (λ z. omega arith) r) h) (λ j σ₁ m₁ le q. ok_done _ (le₁ σ₁.steps) (do_store M sound s₀ q.0 r q.1))

  -- ---- Unary words and operations

  abbrev Moves : Links → ℕ → State → State → List ℕ → Type 0
  Moves κ b σ τ m = At M sound s₀ κ b τ m × (σ.steps ≤ τ.steps)

  pub moved : {κ : Links} {b low : ℕ} {τ : State} {m : List ℕ} → At M sound s₀ κ b τ m → low ≤ τ.steps → Follows κ b low (Trace.done tt τ)
  moved {m = m} h l = ok_done m l h

  sim_plain : {κ : Links} {ps : List Plain} {a b : ℕ} {σ : State} {m : List ℕ} → LaidPlain M ps a b → Acts ps → At M sound s₀ κ a σ m → Moves κ b σ (plain_on ps σ) m
  sim_plain LaidPlain.none acts h = (h, le_refl _)
  sim_plain {σ = σ} (LaidPlain.generic s k) acts h = let x = sim_plain k acts.1 (do_generic M sound s₀ h acts.0 s) in (x.0, le_trans (le₁ σ.steps) x.1)
  sim_plain {σ = σ} (LaidPlain.shift s k) acts h = let x = sim_plain k acts (do_shift M sound s₀ h s) in (x.0, le_trans (le₁ σ.steps) x.1)

  sim_unary : {κ : Links} {u : Unary} {a b : ℕ} {σ : State} {m : List ℕ} → LaidUnary M u a b → At M sound s₀ κ a σ m → Moves κ b σ (unary_on u σ) m
  unfolding unary_on absolute
  sim_unary {u = u} (LaidUnary.plain e k) h = rw e (sim_plain k (subst UnaryActs e (unary_acts u)) h)
  sim_unary {κ} {u} {a} {b} {σ} {m} (LaidUnary.abs e s t) h =
      rw e (cond_when (λ (τ : State). Moves κ b σ τ m) (skips_of SPL σ.registers σ.switches) _ _
      (λ e. (do_test M sound s₀ h sign_skips s true e (instructions.over _ t.below), le₁ σ.steps))
      (λ e. (do_generic M sound s₀ (do_test M sound s₀ h sign_skips s false e (instructions.next _ s.below)) complement_acts t, le₂ σ.steps)))

  pub sim_unaries : {κ : Links} {us : List Unary} {a b : ℕ} {σ : State} {m : List ℕ} → LaidUnaries M us a b → At M sound s₀ κ a σ m
      → Moves κ b σ (unaries_on us σ) m
  unfolding unaries_on
  sim_unaries LaidUnaries.none h = (h, le_refl _)
  sim_unaries (LaidUnaries.more us u) h =
      let x = sim_unaries us h in
      let y = sim_unary u x.0 in
      (y.0, le_trans x.1 y.1)

  -- an operator's instruction with what stands before and after it, once its cell is reached; nothing before it changes the memory, so the operand stays where it is
  sim_operator : {κ : Links} {a n b k : ℕ} {indirect : Bool} {l : Place} {σ : State} {m : List ℕ} (o : Operator) → LaidPlain M (operator_form o).before a n → Refers M n (operator_form o).opcode indirect k
      → LaidPlain M (operator_form o).after (suc n) b → At M sound s₀ κ a σ m → Located M m indirect k l → Follows κ b σ.steps (operator_on o l σ)
  unfolding operator_on
  sim_operator o before r behind h q =
      let acts = form_acts o in
      let x = sim_plain before acts.before h in
      let y = sim_plain behind acts.after (do_read M sound s₀ x.0 acts.reads r q) in
      moved y.0 (le_trans x.1 (le_trans (le₁ _) y.1))

  pub sim_operations : {κ : Links} {os : List Operation} {a b : ℕ} {σ : State} {m : List ℕ} → LaidOperations M os a b → At M sound s₀ κ a σ m
      → Follows κ b σ.steps (operations_on os σ)
  unfolding operations_on operation_on next
  sim_operations {m = m} LaidOperations.none h = ok_done m (le_refl _) h
  sim_operations (LaidOperations.binary {o = o} c before r behind os) h =
      follow M sound s₀ (follow M sound s₀ (sim_cell c (operating o before r) h) (λ l σ₁ m₁ le q. sim_operator o before r behind q.0 q.1)) (λ u σ₂ m₂ le h₂. sim_operations os h₂)
  sim_operations (LaidOperations.shift s os) h =
      let x = sim_plain s tt h in follow M sound s₀ (moved x.0 x.1) (λ u σ₁ m₁ l h₁. sim_operations os h₁)

  -- ---- Tests and relations

  pub sim_test : {κ : Links} {slot n z : ℕ} {σ : State} {m : List ℕ} → Skips slot → Sits M n (Generic slot) → LaidJump M (suc n) z
      → At M sound s₀ κ n σ m → Forks κ (suc (suc n)) z σ.steps (test slot σ)
  unfolding test
  sim_test {κ} {slot} {n} {z} {σ} {m} skips s j h =
      cond_when (λ (t : Trace Bool). Forks κ (suc (suc n)) z σ.steps t) (skips_of slot σ.registers σ.switches) _ _
      (λ e. ok_done m (le₁ σ.steps) (do_test M sound s₀ h skips s true e (instructions.over n (jump_below M sound s₀ j))))
      (λ e. ok_done m (le₂ σ.steps) (do_jump M sound s₀ (do_test M sound s₀ h skips s false e (instructions.next n s.below)) j))

  -- CAS and the words after it
  sim_related : {κ : Links} {k n b z : ℕ} {indirect : Bool} {l : Place} {σ : State} {m : List ℕ} (r : Relation) → Refers M n CAS indirect k
      → LaidControls M z (controls r) (suc n) b → At M sound s₀ κ n σ m → Located M m indirect k l → Forks κ b z σ.steps (related r l σ)
  unfolding related ticks
  sim_related {κ} {k} {n} {b} {z} {indirect} {l} {σ} {m} r s c h o =
      let v = compare_of σ.registers.a (value_of l σ) in
      let same : skipped (order_of v) ≡ v = order_skips v (compare_below σ.registers.a (value_of l σ)) in
      let row = table r (order_of v) in
      let inside : v + suc n < 16384 = subst (λ (j : ℕ). j + suc n < 16384) same (within M sound s₀ c (skipped (order_of v)) row.2 s.sits.below) in
      let there = subst (λ (j : ℕ). At M sound s₀ κ (j + suc n) (tick σ) m) (sym same) (do_compare M sound s₀ h s o inside) in
      ok_done m (ticks_up (suc (words_after r (order_of v))) σ) (rw row.0 at (sim_controls M sound s₀ c (skipped (order_of v)) row.1 (tick σ) there))

  pub sim_relation : {κ : Links} {a n b z : ℕ} {c : Cell} {σ : State} {m : List ℕ} (r : Relation) → LaidOn M CAS c a n → LaidControls M z (controls r) n b
      → At M sound s₀ κ a σ m → Forks κ b z σ.steps (bind (reach c σ) (related r))
  sim_relation r (LaidOn.on c s) k h = follow M sound s₀ (sim_cell c (straight (λ z. omega arith) s) h) (λ l σ₁ m₁ le q. sim_related r s k q.0 q.1)

  -- a test, and what follows on either way
  pub branch : {κ : Links} {p z b low : ℕ} {t : Trace Bool} {f g : State → Trace (Unit {0})} → Forks κ p z low t
      → ((σ : State) (m : List ℕ) → low ≤ σ.steps → At M sound s₀ κ p σ m → Follows κ b σ.steps (f σ))
      → ((σ : State) (m : List ℕ) → low ≤ σ.steps → At M sound s₀ κ z σ m → Follows κ b σ.steps (g σ))
      → Follows κ b low (bind t (chosen f g))
  unfolding chosen
  branch {κ} {p} {z} {b} {low} {t} {f} {g} k yes_way no_way = follow M sound s₀ k go
    where
      go : (v : Bool) (σ : State) (m : List ℕ) → low ≤ σ.steps → At M sound s₀ κ (fork p z v) σ m → Follows κ b σ.steps (chosen f g v σ)
      go true σ m l h = yes_way σ m l h
      go false σ m l h = no_way σ m l h

  -- IRS: on to the JMP, or past it
  pub sim_counted : {κ : Links} {n k v : ℕ} {i : CellId} {σ : State} {m : List ℕ} (u : Unit {0}) → Refers M n IRS false k → k < 16384 → M k ≡ Role.cell i v
      → suc (suc n) < 16384 → At M sound s₀ κ n σ m → Forks κ (suc n) (suc (suc n)) σ.steps (counted i u σ)
  unfolding counted
  sim_counted {κ} {n} {k} {v} {i} {σ} {m} u r kb here b h =
      cond_when (λ (t : Trace Bool). Forks κ (suc n) (suc (suc n)) σ.steps t) (eqb ((σ.cells i + 1) % 65536) 0) _ _
      (λ e. ok_done _ (le₁ σ.steps) (do_count M sound s₀ h r kb here true e (instructions.over n b)))
      (λ e. ok_done _ (le₁ σ.steps) (do_count M sound s₀ h r kb here false e (instructions.next n r.sits.below)))

  -- ---- Ends

  pub stay : {κ : Links} {b low : ℕ} (σ : State) (m : List ℕ) → low ≤ σ.steps → At M sound s₀ κ b σ m → Follows κ b σ.steps (Trace.done tt σ)
  stay σ m l h = ok_done m (le_refl _) h

  -- the JMP after a part
  pub then_jump : {κ : Links} {n b low : ℕ} {t : Trace (Unit {0})} → Follows κ n low t → LaidJump M n b → Follows κ b low (bind t jump)
  unfolding jump
  then_jump k j = follow M sound s₀ k (λ u σ m l h. ok_done m (le₁ σ.steps) (do_jump M sound s₀ h j))

  -- the end of a statement
  pub at_end_lem : {κ : Links} {b low : ℕ} {t : Trace (Unit {0})} → Follows κ b low t → Follows κ b low (bind t ended)
  unfolding ended
  at_end_lem k = follow M sound s₀ k (λ u σ m l h. ok_observe (le_refl _) (stands M sound s₀ h) (ok_done m (le_refl _) h))
