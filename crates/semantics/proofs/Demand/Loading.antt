-- A machine can be loaded with every accepted program and every start, and every memory that is filled is loaded with one.
use Prim.Native.Nat.{ℕ, zero, suc, ◌<◌}
use mathlib.Core.Path.{◌≡◌, refl, sym, ap, subst, ◌∙◌}
use mathlib.Core.Bool.{Bool, true, false, cond}
use mathlib.Core.List.{List, [], ◌∷◌, map, Memᴰ}
use lib.ListN.{length, get_or, length-map, get_or-map}
use Rattle.machine.specs.declared.Machine.{Machine}
use Rattle.machine.specs.State as machine
use Rattle.tree.specs.Tree.{CellId, Program, same_cell}
use Rattle.layout.specs.Map.{Role, halt_word, initial, map_of, image_of, map_at}
use Rattle.compilation.specs.Compile.{Compiled, compiled}
use Rattle.semantics.specs.Trace.{State}
use Rattle.tree.specs.Variables.{variables_of, constants_of}
use Rattle.semantics.specs.Agreement.{Holds, Start, Loaded, Fills, Loadable}
use Rattle.memory_map.proofs.Unique.{once}
use Rattle.memory_map.proofs.AtDeclaration.{map_length}
use Rattle.memory_map.proofs.Apart.{apart}
use Rattle.memory_map.proofs.Placement.{constant_home}
use Rattle.semantics.proofs.Simulation.Cells.{same_cell_lem, self_cell}
use Rattle.memory_map.proofs.Accepted.{Accepted, accepted}
use Rattle.memory_map.proofs.LaidPrograms.{image_size}

-- a word as the start has it
value_in : State → Role → ℕ
value_in σ (Role.fixed w) = w
value_in σ Role.stop = halt_word
value_in σ (Role.cell i v) = σ.cells i
value_in σ (Role.link p) = 0
value_in σ Role.saved = 0
value_in σ Role.free = 0

held : (σ : State) (w : Role) → Holds σ w (initial w) (value_in σ w)
unfolding value_in
held σ (Role.fixed w) = refl
held σ Role.stop = refl
held σ (Role.cell i v) = refl
held σ (Role.link p) = refl
held σ Role.saved = tt
held σ Role.free = refl

loaded_with : Compiled → State → machine.State
loaded_with c σ = machine.state (record { registers = σ.registers; p = c.entry; switches = σ.switches; halted = false }) (map (value_in σ) (map_of c.program))

image_is : (p : Program) (k : ℕ) → get_or (compiled p).image k 0 ≡ initial (get_or (map_of p) k Role.free)
unfolding compiled image_of
image_is p k = get_or-map initial (map_of p) k Role.free

loaded : (c : Compiled) → Accepted c → (σ : State) → Start c.program σ → Loaded c σ (loaded_with c σ)
unfolding loaded_with value_in
loaded c a σ start = record {
  start = start;
  size = length-map (map_of c.program) (value_in σ) ∙ map_length c.program a.well_formed;
  image = λ k b.
      let w = get_or (map_of c.program) k Role.free in
      let i : get_or c.image k 0 ≡ initial w = ap (λ (d : Compiled). get_or d.image k 0) a.is ∙ image_is c.program k in
      let m : get_or (map (value_in σ) (map_of c.program)) k 0 ≡ value_in σ w = get_or-map (value_in σ) (map_of c.program) k Role.free in
      subst (λ (n : ℕ). Holds σ w n (get_or (map (value_in σ) (map_of c.program)) k 0)) (sym i)
      (subst (λ (n : ℕ). Holds σ w (initial w) n) (sym m) (held σ w));
  registers = refl;
  switches = refl;
  entry = refl;
  running = refl;
}

-- ---- A memory that is filled

-- the address of a cell
is_cell : CellId → Role → Bool
is_cell i (Role.fixed w) = false
is_cell i Role.stop = false
is_cell i (Role.cell j v) = same_cell j i
is_cell i (Role.link p) = false
is_cell i Role.saved = false
is_cell i Role.free = false

home_of : CellId → List Role → ℕ
home_of i [] = 0
home_of i (w ∷ ws) = cond (is_cell i w) 0 (suc (home_of i ws))

held_cell : (i : CellId) (w : Role) → is_cell i w ≡ true → w ≡ Role.cell i (initial w)
unfolding is_cell
held_cell i (Role.fixed w) e = cc
held_cell i Role.stop e = cc
held_cell i (Role.cell j v) e = ap (λ (c : CellId). Role.cell c v) (same_cell_lem j i e)
held_cell i (Role.link p) e = cc
held_cell i Role.saved e = cc
held_cell i Role.free e = cc

-- a cell that stands somewhere is found
abbrev Found : CellId → List Role → ℕ → Type 0
Found i ws k = get_or ws k Role.free ≡ Role.cell i (initial (get_or ws k Role.free))

found : (i : CellId) (v : ℕ) (ws : List Role) (k : ℕ) → get_or ws k Role.free ≡ Role.cell i v → Found i ws (home_of i ws)
unfolding home_of is_cell
found i v [] k e = cc
found i v (w ∷ ws) k e = by_test (is_cell i w) refl k e (found i v ws)
  where
    by_test : (b : Bool) → is_cell i w ≡ b → (k : ℕ) → get_or (w ∷ ws) k Role.free ≡ Role.cell i v
        → ((k : ℕ) → get_or ws k Role.free ≡ Role.cell i v → Found i ws (home_of i ws)) → Found i (w ∷ ws) (cond (is_cell i w) 0 (suc (home_of i ws)))
    by_test true t k e ih = subst (λ (b : Bool). Found i (w ∷ ws) (cond b 0 (suc (home_of i ws)))) (sym t) (held_cell i w t)
    by_test false t zero e ih = let u : is_cell i w ≡ true = ap (is_cell i) e ∙ self_cell i in cc
    by_test false t (suc k) e ih = subst (λ (b : Bool). Found i (w ∷ ws) (cond b 0 (suc (home_of i ws)))) (sym t) (ih k e)

module _ (c : Compiled) (a : Accepted c) (m : Machine) (memory : List ℕ) (fills : (k : ℕ) → k < 16384 → Fills c k (get_or memory k 0)) where
  abbrev p : Program
  p = c.program

  -- the start that a memory has
  start_of : State
  start_of = record { cells = λ i. get_or memory (home_of i (map_of p)) 0; registers = m.registers; switches = m.switches; steps = 0 }

  at_home : (i : CellId) (v k : ℕ) → map_at p k ≡ Role.cell i v → get_or memory k 0 ≡ start_of.cells i
  unfolding start_of
  at_home i v k e =
      ap (λ (n : ℕ). get_or memory n 0) (once p a.well_formed k (home_of i (map_of p)) i v (initial (map_at p (home_of i (map_of p)))) e (found i v (map_of p) k e))

  laid_value : (k : ℕ) → get_or c.image k 0 ≡ initial (map_at p k)
  laid_value k = ap (λ (d : Compiled). get_or d.image k 0) a.is ∙ image_is p k

  -- a constant's word is as it was emitted, since no variable stands there
  constant_kept : (i : CellId) (v : ℕ) → Memᴰ (i, v) (constants_of p) → start_of.cells i ≡ v
  constant_kept i v h =
      let s = constant_home p a.well_formed (i, v) h in
      sym (at_home i v s.at s.here) ∙ by_word s.at s.here (fills s.at s.below)
    where
      by_word : (k : ℕ) → map_at p k ≡ Role.cell i v → Fills c k (get_or memory k 0) → get_or memory k 0 ≡ v
      by_word k e (Fills.laid l) = l ∙ laid_value k ∙ ap initial e
      by_word k e (Fills.given j u n f) =
          let same : j ≡ i = cc in
          absurd (apart p i v (subst (λ (d : CellId). Memᴰ d (variables_of p)) same n) h)
      by_word k e (Fills.saved f) = cc

  as_held : (k : ℕ) → Fills c k (get_or memory k 0) → (w : Role) → map_at p k ≡ w → Holds start_of w (get_or c.image k 0) (get_or memory k 0)
  as_held k (Fills.laid l) (Role.fixed w) e = l
  as_held k (Fills.laid l) Role.stop e = l
  as_held k f (Role.cell i v) e = at_home i v k e
  as_held k (Fills.laid l) (Role.link q) e = l
  as_held k f Role.saved e = tt
  as_held k (Fills.laid l) Role.free e = l
  as_held k (Fills.given i u n f) (Role.fixed w) e = cc
  as_held k (Fills.given i u n f) Role.stop e = cc
  as_held k (Fills.given i u n f) (Role.link q) e = cc
  as_held k (Fills.given i u n f) Role.free e = cc
  as_held k (Fills.saved f) (Role.fixed w) e = cc
  as_held k (Fills.saved f) Role.stop e = cc
  as_held k (Fills.saved f) (Role.link q) e = cc
  as_held k (Fills.saved f) Role.free e = cc

  filled : length memory ≡ 16384 → m.p ≡ c.entry → m.halted ≡ false → Loaded c start_of (machine.state m memory)
  unfolding start_of
  filled size entry running = record {
    start = record { constants = constant_kept; begins = refl };
    size = size;
    image = λ k l. as_held k (fills k l) (map_at p k) refl;
    registers = refl;
    switches = refl;
    entry = entry;
    running = running;
  }

pub loadable : Loadable
unfolding Loadable
loadable source c e =
    let a = accepted source c e in
    record {
      whole = image_size c a;
      filled = λ m memory size fills entry running. (start_of c a m memory fills, filled c a m memory fills size entry running);
      started = λ σ start. (loaded_with c σ, loaded c a σ start);
    }
