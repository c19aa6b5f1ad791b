-- Demand 3 at sample programs: one that ends, one that breaks off, one that never ends; and with `.CHECKED` some that stop at a bad subscript, and one that ends.
use Prim.Native.Nat.{ℕ, zero, suc, ◌≤◌, ◌<◌}
use mathlib.Core.Path.{◌≡◌, refl, sym, ap, subst, ◌∙◌}
use mathlib.Core.Bool.{Bool, true, false, cond, not}
use mathlib.Core.List.{List, [], ◌∷◌}
use native.Mathlib.Omega.{arith}
use lib.ListN.{get_or}
use Rattle.machine.specs.State as machine
use Rattle.runs.specs.Runs.{Total, Comes}
use Rattle.prelude.specs.Text.{bytes}
use Rattle.tree.specs.Tree.{Id, CellId, Array, Operand, Subscript, Cell, Operator, Operation, Bare, Expr, Term, Cond, Target, Stmt, Stmts, Item, Declaration, Program}
use Rattle.grammar.specs.Computed as grammar
use Rattle.compilation.specs.Compile.{Result, compiled, result_of, compile_def}
use Rattle.effect.specs.declared.Switches.{Switches}
use Rattle.effect.specs.Skips.{any_switch, skips_of}
use Rattle.layout.specs.Words.{bare_slot}
use Rattle.semantics.specs.Trace.{State, Trace, bind, ended}
use Rattle.semantics.specs.Acts.{tick, test}
use Rattle.semantics.specs.Meaning.{meaning, while_turns, chosen}
use Rattle.semantics.specs.Agreement.{Loaded, Ends, Breaks, Meets, AllMade, BehindTest, stop_at, ListEnds, Agrees, Demand3}
use Rattle.semantics.specs.Examples.{computed, start}
use Rattle.semantics.proofs.Demand.Theorem.{demand3}

agrees : (source : List ℕ) (p : Program) → compile_def source ≡ Result.accepted (compiled p) → (s : machine.State) → Loaded (compiled p) start s → Agrees (compiled p).program start (Comes s)
unfolding Demand3
agrees source p e s l = demand3 source (compiled p) e start s l

-- the rest of a trace, and its end
ends_on : {τ n : State} {t : Trace (Unit {0})} → Ends τ (Trace.observe n t) → Ends τ t
ends_on (Ends.later e) = e

ends_here : {τ υ : State} {u : Unit {0}} → Ends τ (Trace.done u υ) → υ ≡ τ
ends_here Ends.here = refl

breaks_on : {τ n : State} {t : Trace (Unit {0})} → Breaks τ (Trace.observe n t) → Breaks τ t
breaks_on (Breaks.later e) = e

not_broken : {τ : State} {t : Trace (Unit {0})} (υ : State) → t ≡ Trace.done tt υ → Breaks τ t → ⊥
not_broken υ e Breaks.here = let z : ◌≡◌ {A = ℕ} 0 1 = cc in omega arith
not_broken υ e (Breaks.later b) = let z : ◌≡◌ {A = ℕ} 0 1 = cc in omega arith

-- ---- It ends

unfoldable pub sum : Program
sum = record {
  checked = false;
  declarations = Declaration.item (bytes "A") Item.integer ∷ [];
  main = Stmts.one (Stmt.assign (Target.integer (Id.global 0)) (Expr.chain [] (Term.cell (Cell.plain (Operand.literal 2140)))
      (Operation.binary Operator.add (Cell.plain (Operand.literal 1875)) ∷ Operation.binary Operator.add (Cell.plain (Operand.literal 960)) ∷ [])));
}

sum_accepted : compile_def (bytes ".BEGIN .INTEGER A; A = 2140 + 1875 + 960 .END") ≡ Result.accepted (compiled sum)
unfolding grammar.computed compile_def result_of sum
sum_accepted = refl

-- with any fuel, in 4 steps
sum_ends : (f : ℕ) (τ : State) → Ends τ (meaning f sum start) → τ.steps ≡ 4
unfolding computed sum
sum_ends f τ e = ap (λ (υ : State). υ.steps) (sym (ends_here (ends_on (ends_on e))))

sum_late : (b : ℕ) → ((f : ℕ) (τ : State) → Ends τ (meaning f sum start) → b ≤ τ.steps) → b ≤ 4
unfolding computed sum
sum_late b late = late 0 _ (Ends.later (Ends.later Ends.here))

sum_whole : (f : ℕ) (τ : State) → Breaks τ (meaning f sum start) → ⊥
unfolding computed sum
sum_whole f τ b = not_broken _ refl (breaks_on (breaks_on b))

pub sum_halts : (s : machine.State) → Loaded (compiled sum) start s → (t : Total) → Comes s t → 4 < t.granted → (t.state.machine.halted ≡ true) × (t.work.steps ≡ 5)
unfolding compiled
sum_halts s l t k h = by_end ((agrees _ sum sum_accepted s l).ends (λ f τ b. absurd (sum_whole f τ b)) t k)
  where
    by_end : ListEnds sum start t → (t.state.machine.halted ≡ true) × (t.work.steps ≡ 5)
    by_end (ListEnds.halts f τ e b h) = (h.halted, h.steps ∙ ap suc (sum_ends f τ e))
    by_end (ListEnds.stops f τ e b h) = absurd (sum_whole f τ e)
    by_end (ListEnds.goes_on late early made) = let l = sum_late t.granted late in absurd (omega arith)

-- ---- It breaks off

unfoldable pub outside : Program
outside = record {
  checked = false;
  declarations = Declaration.array (bytes "T") 2 false [] ∷ [];
  main = Stmts.one (Stmt.assign (Target.item (record { number = 0; size = 2; checked = false }) (Subscript.by (Operand.literal 65533)))
      (Expr.chain [] (Term.cell (Cell.plain (Operand.literal 5))) []));
}

outside_accepted : compile_def (bytes ".BEGIN .ARRAY T[2]; T[-3] = 5 .END") ≡ Result.accepted (compiled outside)
unfolding grammar.computed compile_def result_of outside
outside_accepted = refl

-- after the load of 5 and the LDX, X being the subscript
pub outside_breaks : (τ : State) × Breaks τ (meaning 0 outside start) × (τ.steps ≡ 2) × (τ.cells (CellId.named Id.x) ≡ 65533)
unfolding computed outside
outside_breaks = (_, Breaks.later Breaks.here, refl, refl)

pub outside_shows : (s : machine.State) → Loaded (compiled outside) start s → (t : Total) → Comes s t → t.granted ≡ 2 → Meets outside outside_breaks.0 t
unfolding compiled
outside_shows s l t k h =
    let b = outside_breaks in
    ((agrees _ outside outside_accepted s l).broken 0 b.0 b.1 t k (h ∙ sym b.2)).0

-- ---- With `.CHECKED`

abbrev array : ℕ → Array
array size = record { number = 0; size = size; checked = true }

-- `.BEGIN .CHECKED; .ARRAY T[size]; T[v] = 5 .END`
unfoldable pub testing : ℕ → ℕ → Program
testing size v = record {
  checked = true;
  declarations = Declaration.array (bytes "T") size true [] ∷ [];
  main = Stmts.one (Stmt.assign (Target.item (array size) (Subscript.by (Operand.literal v))) (Expr.chain [] (Term.cell (Cell.plain (Operand.literal 5))) []));
}

-- what the meaning shows where it breaks off, whatever the fuel: only the start
abbrev Broken : ℕ → ℕ → State → Type 0
Broken size v τ = (f : ℕ) → meaning f (testing size v) start ≡ Trace.observe start (Trace.broke τ)

no_end_there : {υ τ : State} {t : Trace (Unit {0})} → t ≡ Trace.observe start (Trace.broke τ) → Ends υ t → ⊥
no_end_there e Ends.here = let z : ◌≡◌ {A = ℕ} 0 1 = cc in omega arith
no_end_there e (Ends.later Ends.here) = let z : ◌≡◌ {A = ℕ} 0 1 = cc in omega arith
no_end_there e (Ends.later (Ends.later k)) = let z : ◌≡◌ {A = ℕ} 0 1 = cc in omega arith

one_break : {υ τ : State} {t : Trace (Unit {0})} → t ≡ Trace.observe start (Trace.broke τ) → Breaks υ t → υ ≡ τ
one_break e Breaks.here = let z : ◌≡◌ {A = ℕ} 0 1 = cc in absurd (omega arith)
one_break e (Breaks.later Breaks.here) = cc
one_break e (Breaks.later (Breaks.later k)) = let z : ◌≡◌ {A = ℕ} 0 1 = cc in absurd (omega arith)

-- such a program stops at a test's HLT with so many steps, and not before
pub record StopsWith (size v steps : ℕ) (t : Total) : Type 0 where
  pub stopped : steps ≤ t.granted → (t.state.machine.halted ≡ true) × (t.work.steps ≡ steps) × (get_or t.state.image 2 0 ≡ 5) × BehindTest (testing size v) t.state.machine.p
  pub running : t.granted < steps → AllMade t

stops_with : (source : List ℕ) (size v steps : ℕ) (τ : State) → compile_def source ≡ Result.accepted (compiled (testing size v)) → Broken size v τ → stop_at τ ≡ steps → τ.registers.a ≡ 5
    → (s : machine.State) → Loaded (compiled (testing size v)) start s → (t : Total) → Comes s t → StopsWith size v steps t
unfolding compiled testing
stops_with source size v steps τ accepted broken is has s l t k = by_end ((agrees source (testing size v) accepted s l).ends (λ f υ b. refl) t k)
  where
    by_end : ListEnds (testing size v) start t → StopsWith size v steps t
    by_end (ListEnds.halts f υ e b h) = absurd (no_end_there (broken f) e)
    by_end (ListEnds.stops f υ e b h) =
        let same = one_break (broken f) e in
        let number : stop_at υ ≡ steps = rw same is in
        record {
          stopped = λ g. (h.halted, h.steps ∙ number, h.saved ∙ rw same has, h.place);
          running = λ g. absurd (omega arith);
        }
    by_end (ListEnds.goes_on late early made) =
        let g : t.granted < stop_at τ = early 0 τ (rw (broken 0) (Breaks.later Breaks.here)) in
        record { stopped = λ h. absurd (omega arith); running = λ h. made }

-- LDA and LDX, then up to the HLT: 4 steps above, 5 below, also in an array of one element, and 6 for -1 in an array of none
pub above : (s : machine.State) → Loaded (compiled (testing 2 0)) start s → (t : Total) → Comes s t → StopsWith 2 0 6 t
unfolding grammar.computed compile_def result_of testing computed
above = stops_with (bytes ".BEGIN .CHECKED; .ARRAY T[2]; T[0] = 5 .END") 2 0 6 _ refl (λ f. refl) refl refl

pub below : (s : machine.State) → Loaded (compiled (testing 2 65533)) start s → (t : Total) → Comes s t → StopsWith 2 65533 7 t
unfolding grammar.computed compile_def result_of testing computed
below = stops_with (bytes ".BEGIN .CHECKED; .ARRAY T[2]; T[-3] = 5 .END") 2 65533 7 _ refl (λ f. refl) refl refl

pub below_one : (s : machine.State) → Loaded (compiled (testing 1 65534)) start s → (t : Total) → Comes s t → StopsWith 1 65534 7 t
unfolding grammar.computed compile_def result_of testing computed
below_one = stops_with (bytes ".BEGIN .CHECKED; .ARRAY T[1]; T[-2] = 5 .END") 1 65534 7 _ refl (λ f. refl) refl refl

pub in_none : (s : machine.State) → Loaded (compiled (testing 0 65535)) start s → (t : Total) → Comes s t → StopsWith 0 65535 8 t
unfolding grammar.computed compile_def result_of testing computed
in_none = stops_with (bytes ".BEGIN .CHECKED; .ARRAY T[0]; T[-1] = 5 .END") 0 65535 8 _ refl (λ f. refl) refl refl

-- and one that passes: LDA, LDX, seven steps of the test, STA, and then the main body's HLT
passing_ends : (f : ℕ) (τ : State) → Ends τ (meaning f (testing 1 65535) start) → τ.steps ≡ 10
unfolding computed testing
passing_ends f τ e = ap (λ (υ : State). υ.steps) (sym (ends_here (ends_on (ends_on e))))

passing_whole : (f : ℕ) (τ : State) → Breaks τ (meaning f (testing 1 65535) start) → ⊥
unfolding computed testing
passing_whole f τ b = not_broken _ refl (breaks_on (breaks_on b))

passing_late : (b : ℕ) → ((f : ℕ) (τ : State) → Ends τ (meaning f (testing 1 65535) start) → b ≤ τ.steps) → b ≤ 10
unfolding computed testing
passing_late b late = late 0 _ (Ends.later (Ends.later Ends.here))

passing_accepted : compile_def (bytes ".BEGIN .CHECKED; .ARRAY T[1]; T[-1] = 5 .END") ≡ Result.accepted (compiled (testing 1 65535))
unfolding grammar.computed compile_def result_of testing
passing_accepted = refl

pub passing : (s : machine.State) → Loaded (compiled (testing 1 65535)) start s → (t : Total) → Comes s t → 10 < t.granted
    → (t.state.machine.halted ≡ true) × (t.work.steps ≡ 11) × (t.state.machine.p ≡ 0o1016)
unfolding compiled computed testing
passing s l t k h = by_end ((agrees _ (testing 1 65535) passing_accepted s l).ends (λ f τ b. refl) t k)
  where
    by_end : ListEnds (testing 1 65535) start t → (t.state.machine.halted ≡ true) × (t.work.steps ≡ 11) × (t.state.machine.p ≡ 0o1016)
    by_end (ListEnds.halts f τ e b h) = (h.halted, h.steps ∙ ap suc (passing_ends f τ e), h.place)
    by_end (ListEnds.stops f τ e b h) = absurd (passing_whole f τ e)
    by_end (ListEnds.goes_on late early made) = let l = passing_late t.granted late in absurd (omega arith)

-- ---- It never ends

unfoldable pub loop : Program
loop = record { checked = false; declarations = []; main = Stmts.one (Stmt.while (Cond.bare Bare.nokey) Stmt.empty) }

loop_accepted : compile_def (bytes ".BEGIN .WHILE .NOKEY .DO .END") ≡ Result.accepted (compiled loop)
unfolding grammar.computed compile_def result_of loop
loop_accepted = refl

-- a trace that neither ends nor breaks off
data Endless : Trace (Unit {0}) → Type 0 where
  out : {σ : State} → Endless (Trace.out σ)
  on : {m : State} {t : Trace (Unit {0})} → Endless t → Endless (Trace.observe m t)

no_end : {τ : State} {t : Trace (Unit {0})} → Endless t → Ends τ t → ⊥
no_end out e = out_not e refl
  where
    out_not : {τ σ : State} {t : Trace (Unit {0})} → Ends τ t → t ≡ Trace.out σ → ⊥
    out_not Ends.here d = let z : ◌≡◌ {A = ℕ} 0 1 = cc in omega arith
    out_not (Ends.later e) d = let z : ◌≡◌ {A = ℕ} 0 1 = cc in omega arith
no_end (on t) (Ends.later e) = no_end t e

no_break : {τ : State} {t : Trace (Unit {0})} → Endless t → Breaks τ t → ⊥
no_break out b = out_not b refl
  where
    out_not : {τ σ : State} {t : Trace (Unit {0})} → Breaks τ t → t ≡ Trace.out σ → ⊥
    out_not Breaks.here d = let z : ◌≡◌ {A = ℕ} 0 1 = cc in omega arith
    out_not (Breaks.later e) d = let z : ◌≡◌ {A = ℕ} 0 1 = cc in omega arith
no_break (on t) (Breaks.later b) = no_break t b

-- a loop whose test holds while no sense switch is set, and whose body is empty
Quiet : State → Type 0
Quiet σ = σ.switches ≡ start.switches

turns : (g : ℕ) (c : State → Trace Bool) (b : State → Trace (Unit {0})) → ((σ : State) → Quiet σ → c σ ≡ Trace.done true (tick σ))
    → ((σ : State) → b σ ≡ Trace.observe σ (Trace.done tt σ)) → (σ : State) → Quiet σ → Endless (bind (while_turns g c b σ) ended)
unfolding while_turns bind chosen Quiet
turns zero c b holds empty σ q = Endless.out
turns (suc g) c b holds empty σ q =
    subst (λ (t : Trace Bool). Endless (bind (bind t (chosen (λ τ. bind (b τ) (λ _ υ. while_turns g c b (tick υ))) (λ τ. Trace.done tt τ))) ended)) (sym (holds σ q))
    (subst (λ (t : Trace (Unit {0})). Endless (bind (bind t (λ _ υ. while_turns g c b (tick υ))) ended)) (sym (empty (tick σ)))
    (Endless.on (turns g c b holds empty (tick (tick σ)) q)))

no_key : (σ : State) → Quiet σ → test (bare_slot Bare.nokey) σ ≡ Trace.done true (tick σ)
unfolding test bare_slot skips_of Quiet
no_key σ q = ap (λ (w : Switches). cond (not (any_switch w)) (Trace.done true (tick σ)) (Trace.done false (tick (tick σ)))) q

loop_endless : (f : ℕ) → Endless (meaning f loop start)
unfolding computed loop Quiet
loop_endless f = Endless.on (turns f _ _ no_key (λ σ. refl) start refl)

pub loop_runs : (s : machine.State) → Loaded (compiled loop) start s → (t : Total) → Comes s t → AllMade t
unfolding compiled
loop_runs s l t k = by_end ((agrees _ loop loop_accepted s l).ends (λ f τ b. absurd (no_break (loop_endless f) b)) t k)
  where
    by_end : ListEnds loop start t → AllMade t
    by_end (ListEnds.halts f τ e b h) = absurd (no_end (loop_endless f) e)
    by_end (ListEnds.stops f τ e b h) = absurd (no_break (loop_endless f) e)
    by_end (ListEnds.goes_on late early made) = made
