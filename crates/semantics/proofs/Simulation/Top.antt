-- Demand 3 for every program that stands in a memory map: it agrees with its meaning under every list of runs.
use Prim.Native.Nat.{ℕ, suc, ◌+◌, ◌≤◌, ◌<◌}
use mathlib.Core.Path.{◌≡◌, refl, sym, ap, subst, ◌∙◌}
use mathlib.Core.Bool.{Bool, true, false, cond}
use mathlib.Core.List.{List, Memᴰ}
use native.Mathlib.Nat.{le_refl}
use native.Mathlib.Omega.{arith}
use native.Mathlib.Decide.{dec_lt}
use lib.ListN.{get_or, get_or-map}
use Rattle.machine.specs.declared.Machine.{Machine}
use Rattle.machine.specs.State as machine
use Rattle.runs.specs.Steps.{Steps}
use Rattle.runs.specs.Runs.{Total, Comes}
use Rattle.runs.proofs.Lists as runs
use Rattle.tree.specs.Tree.{CellId, Array}
use Rattle.layout.specs.Words.{after, main_words}
use Rattle.layout.specs.Map.{Role, initial, saved_role, finished, map_of, image_of, Home, map_at}
use Rattle.layout.specs.Addresses.{saved_word}
use Rattle.compilation.specs.Compile.{Compiled}
use Rattle.semantics.specs.Trace.{State, Trace}
use Rattle.semantics.specs.Acts.{index}
use Rattle.semantics.specs.Meaning.{meaning}
use Rattle.tree.specs.Variables.{variables_of, Declares, arrays_of, Elements}
use Rattle.semantics.specs.Agreement.{Loaded, Holds, Shows, Observes, Ends, Breaks, RunsOut, Rising, Meets, AllMade, HaltsAfter, stop_at, StopsAfter, ListEnds, Inside, Leaves, Agrees}
use Rattle.parsing_laws.specs.WellFormed.{WellFormed}
use Rattle.memory_map.specs.Laid.{ArrayWord, Through, LaidTest, LaidProgram}
use Rattle.memory_map.specs.KnownProcedures.{known_of}
use Rattle.semantics.proofs.Simulation.Relate.{Pending, Links, Serves, machine_of, At, peek, Stands, stands, Stopping, Left, Out, ok_done, ok_broke, ok_out, ok_observe}
use Rattle.semantics.proofs.Simulation.Instructions.{do_halt, do_stop}
use Rattle.semantics.proofs.Simulation.Parts.{Follows}
use Rattle.semantics.proofs.Simulation.Statements.{sim_outermost}
use Rattle.semantics.proofs.Simulation.Procedures.{obeys_all}
use Rattle.semantics.proofs.Simulation.Fuel.{more_fuel}

-- how a trace comes out
data Outcome {A : Type 0} (t : Trace A) : Type 0 where
  ends : (τ : State) → Ends τ t → Outcome t
  breaks : (τ : State) → Breaks τ t → Outcome t
  runs_out : (τ : State) → RunsOut τ t → Outcome t

outcome : {A : Type 0} (t : Trace A) → Outcome t
outcome (Trace.done a τ) = ends τ Ends.here
outcome (Trace.broke τ) = breaks τ Breaks.here
outcome (Trace.out τ) = runs_out τ RunsOut.here
outcome (Trace.observe m t) = more (outcome t)
  where
    more : Outcome t → Outcome (Trace.observe m t)
    more (ends τ e) = ends τ (Ends.later e)
    more (breaks τ e) = breaks τ (Breaks.later e)
    more (runs_out τ e) = runs_out τ (RunsOut.later e)

module _ (c : Compiled) (is : c.image ≡ image_of c.program) (well : WellFormed c.program)
    (laid : LaidProgram (map_at c.program) (known_of c.program.declarations) c.program.main c.entry)
    (homes : (i : CellId) → Memᴰ i (variables_of c.program) → Home c.program i) (cells : (k : ℕ) (i : CellId) (v : ℕ) → map_at c.program k ≡ Role.cell i v → Declares c.program i v)
    (elements : (a : Array) → Memᴰ a (arrays_of c.program) → Elements c.program a) (saved_at : map_at c.program saved_word ≡ saved_role c.program.checked)
    (at_end_lem : after (main_words c.program.main c.entry) c.entry ≡ (finished c.program).next)
    (σ : State) (s : machine.State) (loaded : Loaded c σ s) where
  -- ---- The meaning is followed

  abbrev idle : Links
  idle q = Pending.idle

  abbrev Stood : ℕ → State → List ℕ → Type 0
  Stood p τ m = At (map_at c.program) laid.sound s idle p τ m

  image_word_lem : (k : ℕ) → get_or c.image k 0 ≡ initial (map_at c.program k)
  unfolding image_of
  image_word_lem k = ap (λ (l : List ℕ). get_or l k 0) is ∙ get_or-map initial (map_of c.program) k Role.free

  begun : Steps σ.steps s (machine.state (machine_of σ c.entry) s.image)
  begun = rw (loaded.start.begins, ← loaded.registers, ← loaded.switches, ← loaded.entry, ← loaded.running) Steps.none

  start : Stood c.entry σ s.image
  start = record {
    made = begun;
    size = loaded.size;
    serves = λ k b. serve k (map_at c.program k) (image_word_lem k) (loaded.image k b);
  }
    where
      serve : (k : ℕ) (w : Role) → get_or c.image k 0 ≡ initial w → Holds σ w (get_or c.image k 0) (get_or s.image k 0)
          → Serves idle σ.cells w (get_or s.image k 0)
      serve k (Role.fixed w) e h = h ∙ e
      serve k Role.stop e h = h ∙ e
      serve k (Role.cell i v) e h = h
      serve k (Role.link q) e h = let z : get_or s.image k 0 ≡ 0 = h ∙ e in (omega arith, tt)
      serve k Role.saved e h = tt
      serve k Role.free e h = tt

  abbrev Followed : ℕ → ℕ → Trace (Unit {0}) → Type 0
  Followed N low t = Follows (map_at c.program) laid.sound s N idle laid.last low t

  followed : (f : ℕ) → Followed f σ.steps (meaning f c.program σ)
  unfolding meaning
  followed f =
      ok_observe (le_refl _) (stands (map_at c.program) laid.sound s start)
      (sim_outermost (map_at c.program) laid.sound s f f _ _ _
      (obeys_all (map_at c.program) laid.sound s f f c.program.declarations well.declarations laid.procedures)
      idle (λ r k. refl) c.program.main well.main laid.statements σ s.image (omega arith) start)

  -- ---- What a followed trace says

  abbrev Standing : State → Type 0
  Standing τ = Stands (map_at c.program) laid.sound s τ

  module _ {N : ℕ} where
    rising_of : {low : ℕ} {t : Trace (Unit {0})} → Followed N low t → Rising low t
    rising_of (ok_done m l q) = l
    rising_of (ok_broke l h b o) = l
    rising_of (ok_out l n h) = l
    rising_of (ok_observe l h k) = (l, rising_of k)

    observed_of : {low : ℕ} {t : Trace (Unit {0})} {τ : State} → Followed N low t → Observes τ t → Standing τ
    observed_of (ok_observe l h k) Observes.here = h
    observed_of (ok_observe l h k) (Observes.later o) = observed_of k o
    observed_of (ok_done m l q) e = elim e [ ]
    observed_of (ok_broke l h b o) e = elim e [ ]
    observed_of (ok_out l n h) e = elim e [ ]

    broken_of : {low : ℕ} {t : Trace (Unit {0})} {τ : State} → Followed N low t → Breaks τ t → Standing τ × Left (map_at c.program) laid.sound s τ
    broken_of (ok_broke l h b o) Breaks.here = (h, b)
    broken_of (ok_observe l h k) (Breaks.later o) = broken_of k o
    broken_of (ok_done m l q) e = elim e [ ]
    broken_of (ok_out l n h) e = elim e [ ]

    out_at : {low : ℕ} {t : Trace (Unit {0})} {τ : State} (f : Followed N low t) (b : Breaks τ t) → Out (map_at c.program) laid.sound s τ (broken_of f b).0.p
    unfolding broken_of
    out_at (ok_broke l h b o) Breaks.here = o
    out_at (ok_observe l h k) (Breaks.later o) = out_at k o
    out_at (ok_done m l q) e = elim e [ ]
    out_at (ok_out l n h) e = elim e [ ]

    out_of : {low : ℕ} {t : Trace (Unit {0})} {τ : State} → Followed N low t → RunsOut τ t → (N ≤ τ.steps) × Standing τ
    out_of (ok_out l n h) RunsOut.here = (n, h)
    out_of (ok_observe l h k) (RunsOut.later o) = out_of k o
    out_of (ok_done m l q) e = elim e [ ]
    out_of (ok_broke l h b o) e = elim e [ ]

    end_of : {low : ℕ} {t : Trace (Unit {0})} {τ : State} → Followed N low t → Ends τ t → (m : List ℕ) × Stood laid.last τ m
    end_of (ok_done m l q) Ends.here = (m, q)
    end_of (ok_observe l h k) (Ends.later e) = end_of k e
    end_of (ok_broke l h b o) e = elim e [ ]
    end_of (ok_out l n h) e = elim e [ ]

  -- ---- What lists of runs show

  last_word : suc laid.last ≡ (finished c.program).next
  last_word = laid.end ∙ at_end_lem

  shows : {κ : Links} {p : ℕ} {τ : State} {m : List ℕ} → At (map_at c.program) laid.sound s κ p τ m
      → (n : Machine) → n.registers ≡ τ.registers → Shows c.program τ (machine.state n m)
  shows h n e = record { registers = e; cells = λ k i v b here. peek (map_at c.program) laid.sound s h k (Role.cell i v) b here }

  meets : (τ : State) → Standing τ → (t : Total) → Comes s t → t.granted ≡ τ.steps → Meets c.program τ t
  meets τ h t (Comes.list qs) e =
      let r = runs.reached qs h.at.made e in
      record {
        steps = r.1;
        running = ap (λ (u : machine.State). u.machine.halted) r.0;
        shows = rw r.0 (shows h.at (machine_of τ h.p) refl);
      }

  -- a test takes ten words, which a program has or has not
  test_words_lem : {r : Array} {at behind : ℕ} (checked : Bool) → map_at c.program saved_word ≡ saved_role checked → LaidTest (map_at c.program) r at behind → behind ≡ cond checked (10 + at) at
  unfolding saved_role
  test_words_lem true e (LaidTest.none f free) = let z : Role.saved ≡ Role.free = sym e ∙ free in let y : ◌≡◌ {A = ℕ} 0 1 = cc in absurd (omega arith)
  test_words_lem false e (LaidTest.none f free) = refl
  test_words_lem true e (LaidTest.words f here t) = omega arith
  test_words_lem false e (LaidTest.words f here t) = let z : Role.free ≡ Role.saved = sym e ∙ here in let y : ◌≡◌ {A = ℕ} 0 1 = cc in absurd (omega arith)

  apart : {b : Bool} → b ≡ true → b ≡ false → ⊥
  apart e f = let z : ◌≡◌ {A = ℕ} 0 1 = cc in omega arith

  left : (τ : State) (at : ℕ) → Out (map_at c.program) laid.sound s τ at → Leaves c.program τ at
  left τ at o = record {
    array = o.array;
    word = subst (λ (k : ℕ). ArrayWord (map_at c.program) o.array k) o.placed.place o.placed.word;
    behind = o.behind;
    tested = test_words_lem c.program.checked saved_at o.test;
    through = subst (λ (k : ℕ). Through (map_at c.program) k o.behind) o.placed.place o.through;
    outside = λ m. let h = homes (CellId.element o.array.number (index τ)) m in apart (o.placed.only (index τ) h.at h.value h.here) o.outside;
  }

  -- where the meaning breaks off, P stands where X leaves the array
  left_at : (τ : State) (h : Standing τ) → Out (map_at c.program) laid.sound s τ h.p → (t : Total) → Comes s t → t.granted ≡ τ.steps → Leaves c.program τ t.state.machine.p
  left_at τ h o t (Comes.list qs) e =
      let r = runs.reached qs h.at.made e in
      subst (λ (n : ℕ). Leaves c.program τ n) (sym (ap (λ (u : machine.State). u.machine.p) r.0)) (left τ h.p o)

  -- budgets that the machine makes in full
  all_made : (τ : State) → Standing τ → (t : Total) → Comes s t → t.granted ≤ τ.steps → AllMade t
  all_made τ h t (Comes.list qs) l = let r = runs.all_made qs h.at.made refl l in record { steps = r.1; running = r.0 }

  halts_at : (f : ℕ) (τ : State) → Ends τ (meaning f c.program σ) → (t : Total) → Comes s t → τ.steps < t.granted → HaltsAfter c.program τ t
  halts_at f τ e t (Comes.list qs) l =
      let x = end_of (followed f) e in
      let r = runs.halts qs x.1.made refl (do_halt (map_at c.program) laid.sound s x.1 laid.halt) refl l in
      record {
        halted = ap (λ (u : machine.State). u.machine.halted) r.0;
        steps = r.1;
        place = ap (λ (u : machine.State). u.machine.p) r.0 ∙ last_word;
        shows = rw r.0 (shows x.1 (machine.stopped (machine_of τ (suc laid.last))) refl);
      }

  -- where the array's subscripts are tested: to the test's HLT, and with it
  stops_at : (τ : State) → Stopping (map_at c.program) laid.sound s τ → (t : Total) → Comes s t → stop_at τ ≤ t.granted → StopsAfter c.program τ t
  stops_at τ h t (Comes.list qs) l =
      let enough : h.now.steps < t.granted = omega (arith, h.steps) in
      let e = runs.halts qs h.at.made refl (do_stop (map_at c.program) laid.sound s h.at h.stop) refl enough in
      record {
        steps = e.1 ∙ h.steps;
        halted = ap (λ (u : machine.State). u.machine.halted) e.0;
        place = record { test = h.p; below = omega (arith, h.stop.below); is = h.stop.here; behind = ap (λ (u : machine.State). u.machine.p) e.0 };
        cells = λ k i v b here.
            ap (λ (u : machine.State). get_or u.image k 0) e.0
            ∙ peek (map_at c.program) laid.sound s h.at k (Role.cell i v) b here ∙ ap (λ (cells : CellId → ℕ). cells i) h.cells;
        saved = ap (λ (u : machine.State). get_or u.image saved_word 0) e.0 ∙ h.saved;
        registers = ap (λ (u : machine.State). u.machine.registers) e.0 ∙ h.registers;
      }

  -- short of that HLT every step is made
  until_stop : (τ : State) → Stopping (map_at c.program) laid.sound s τ → (t : Total) → Comes s t → t.granted < stop_at τ → AllMade t
  until_stop τ h t k l = all_made h.now (stands (map_at c.program) laid.sound s h.at) t k (omega (arith, h.steps))

  -- a program whose subscripts are tested comes to a test's HLT wherever its meaning breaks off
  stopping : c.program.checked ≡ true → {τ : State} → Left (map_at c.program) laid.sound s τ → Stopping (map_at c.program) laid.sound s τ
  unfolding saved_role
  stopping e (Left.tested h) = h
  stopping e (Left.untested free) =
      let z : Role.saved ≡ Role.free = sym (saved_at ∙ ap saved_role e) ∙ free in
      let y : ◌≡◌ {A = ℕ} 0 1 = cc in
      absurd (omega arith)

  ends_of : Inside c.program σ → (t : Total) → Comes s t → ListEnds c.program σ t
  ends_of inside t k = pick (outcome (meaning t.granted c.program σ))
    where
      stop_of : (f : ℕ) (υ : State) → Breaks υ (meaning f c.program σ) → Stopping (map_at c.program) laid.sound s υ
      stop_of f υ b = stopping (inside f υ b) (broken_of (followed f) b).1

      halted_not : t.state.machine.halted ≡ true → t.state.machine.halted ≡ false → ⊥
      halted_not x y = let z : ◌≡◌ {A = ℕ} 0 1 = cc in omega arith

      late : (f : ℕ) (υ : State) → Ends υ (meaning f c.program σ) → t.state.machine.halted ≡ false → Dec (υ.steps < t.granted) → t.granted ≤ υ.steps
      late f υ e running (yes b) = absurd (halted_not (halts_at f υ e t k b).halted running)
      late f υ e running (no n) = omega arith

      early : (f : ℕ) (υ : State) → Breaks υ (meaning f c.program σ) → t.state.machine.halted ≡ false → Dec (t.granted < stop_at υ) → t.granted < stop_at υ
      early f υ b running (yes l) = l
      early f υ b running (no n) = absurd (halted_not (stops_at υ (stop_of f υ b) t k (omega arith)).halted running)

      on : AllMade t → ListEnds c.program σ t
      on all =
          ListEnds.goes_on (λ f υ e. late f υ e all.running (dec_lt υ.steps t.granted))
          (λ f υ b. early f υ b all.running (dec_lt t.granted (stop_at υ))) all

      goes : (τ : State) → Standing τ → t.granted ≤ τ.steps → ListEnds c.program σ t
      goes τ h l = on (all_made τ h t k l)

      ended_at : (τ : State) → Ends τ (meaning t.granted c.program σ) → Dec (τ.steps < t.granted) → ListEnds c.program σ t
      ended_at τ e (yes l) = ListEnds.halts t.granted τ e l (halts_at t.granted τ e t k l)
      ended_at τ e (no n) = goes τ (stands (map_at c.program) laid.sound s (end_of (followed t.granted) e).1) (omega arith)

      broke_at : (τ : State) → Breaks τ (meaning t.granted c.program σ) → Dec (t.granted < stop_at τ) → ListEnds c.program σ t
      broke_at τ b (yes l) = on (until_stop τ (stop_of t.granted τ b) t k l)
      broke_at τ b (no n) = let l : stop_at τ ≤ t.granted = omega arith in ListEnds.stops t.granted τ b l (stops_at τ (stop_of t.granted τ b) t k l)

      pick : Outcome (meaning t.granted c.program σ) → ListEnds c.program σ t
      pick (ends τ e) = ended_at τ e (dec_lt τ.steps t.granted)
      pick (breaks τ b) = broke_at τ b (dec_lt t.granted (stop_at τ))
      pick (runs_out τ e) = let x = out_of (followed t.granted) e in goes τ x.1 x.0

  result : Agrees c.program σ (Comes s)
  result = record {
    steady = λ f g l. more_fuel f g l c.program σ;
    complete = λ f τ e. (out_of (followed f) e).0;
    rising = λ f. subst (λ (n : ℕ). Rising n (meaning f c.program σ)) loaded.start.begins (rising_of (followed f));
    homes = homes;
    cells = cells;
    elements = elements;
    observed = λ f τ o. meets τ (observed_of (followed f) o);
    broken = λ f τ b t k e. (meets τ (broken_of (followed f) b).0 t k e, left_at τ (broken_of (followed f) b).0 (out_at (followed f) b) t k e);
    until_broken = λ f τ b. all_made τ (broken_of (followed f) b).0;
    halts = halts_at;
    stops = λ e f τ b. stops_at τ (stopping e (broken_of (followed f) b).1);
    ends = ends_of;
  }

pub agrees : (c : Compiled) → c.image ≡ image_of c.program → WellFormed c.program
    → LaidProgram (map_at c.program) (known_of c.program.declarations) c.program.main c.entry
    → ((i : CellId) → Memᴰ i (variables_of c.program) → Home c.program i) → ((k : ℕ) (i : CellId) (v : ℕ) → map_at c.program k ≡ Role.cell i v → Declares c.program i v)
    → ((a : Array) → Memᴰ a (arrays_of c.program) → Elements c.program a) → map_at c.program saved_word ≡ saved_role c.program.checked
    → after (main_words c.program.main c.entry) c.entry ≡ (finished c.program).next
    → (σ : State) (s : machine.State) → Loaded c σ s → Agrees c.program σ (Comes s)
agrees c is well laid homes cells elements saved_at at_end_lem σ s loaded = result c is well laid homes cells elements saved_at at_end_lem σ s loaded
