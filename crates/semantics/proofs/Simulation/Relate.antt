-- THE SIMULATION. The machine follows the meaning of a part that stands in the map from p to p' (memory_map/specs/Laid): whatever the meaning does, the machine does, in as many steps as the meaning counts.
--
--        meaning         σ ───────── the part's acts ─────────▶ σ'
--                        │                                      │
--             At κ p σ m │                                      │ At κ p' σ' m'
--                        │                                      │
--        machine    p, memory m ── σ'.steps - σ.steps steps ───▶ p', memory m'
--
-- `At κ p σ m` says: the machine that started as s₀ has made σ's number of steps and stands at p, with σ's registers and switches and the memory m, each of whose words serves what the map says that it is for: a fixed word is what it was, a cell
-- has σ's value, a link holds an address of the memory, and the link of a procedure that a call is waiting on (κ) the one to return to; a word that is not used may hold anything, and so may the one that keeps A in a test. κ is the same at both ends of a part: a call adds to it, and its return takes that back.
-- Instructions and Classes move `At` on by one instruction. `Follows` and `Forks` (Parts) are the diagram for a part and for a condition. `Ok` carries it along a trace, to every observation, to a break-off and to the end, and `follow` joins one part to the next:
-- so each form is a few lines (Expressions, Statements).
use Prim.Native.Nat.{ℕ, suc, ◌+◌, ◌≤◌, ◌<◌}
use mathlib.Core.Path.{◌≡◌, refl, ap, ◌∙◌, subst}
use mathlib.Core.Bool.{false}
use mathlib.Core.List.{List}
use native.Mathlib.Nat.{le_trans}
use native.Mathlib.Numerals.{add-one}
use native.Mathlib.Omega.{arith}
use native.Mathlib.Decide.{ℕ_discrete}
use lib.ListN.{get_or, set, length}
use lib.Seq.{get_or-set_same, get_or-set_other}
use Rattle.instruction.specs.Decode.{decode_def}
use Rattle.instruction.specs.declared.Instruction.{Instruction}
use Rattle.machine.specs.declared.Machine.{Machine}
use Rattle.machine.specs.State as machine
use Rattle.machine.specs.Step.{made, perform}
use Rattle.machine.proofs.Good.{step_of}
use Rattle.runs.specs.Steps.{Steps, none, one}
use Rattle.runs.proofs.Iteration.{steps_join}
use Rattle.tree.specs.Tree.{CellId, Array, is_inside}
use Rattle.layout.specs.Map.{Role, halt_word}
use Rattle.layout.specs.Addresses.{saved_word}
use Rattle.semantics.specs.Trace.{State, Trace, bind}
use Rattle.semantics.specs.Acts.{updated, x_cell, index, stop_steps}
use Rattle.memory_map.specs.Laid.{Map, Sound, Sits, Stops, ArrayAt, Through, LaidTest}
use Rattle.semantics.proofs.Simulation.Cells.{updated_same, updated_other}

-- ---- Links

-- a procedure's link is idle, or pending with a return address
pub data Pending : Type 0 where
  idle : Pending
  busy : ℕ → Pending

abbrev pub Links : Type 0
Links = ℕ → Pending

pub pend : Links → ℕ → ℕ → Links
pend κ q v r = elim (ℕ_discrete q r) [ yes e ↦ Pending.busy v | no e ↦ κ r ]

pub pend_same : (κ : Links) (q v : ℕ) → pend κ q v q ≡ Pending.busy v
unfolding pend
pend_same κ q v = go (ℕ_discrete q q)
  where
    go : (d : Dec (q ≡ q)) → ◌≡◌ {A = Pending} (elim d [ yes e ↦ Pending.busy v | no e ↦ κ q ]) (Pending.busy v)
    go (yes e) = refl
    go (no e) = absurd (e refl)

pub pend_other : (κ : Links) (q r v : ℕ) → (q ≡ r → ⊥) → pend κ q v r ≡ κ r
unfolding pend
pend_other κ q r v h = go (ℕ_discrete q r)
  where
    go : (d : Dec (q ≡ r)) → ◌≡◌ {A = Pending} (elim d [ yes e ↦ Pending.busy v | no e ↦ κ r ]) (κ r)
    go (yes e) = absurd (h e)
    go (no e) = refl

abbrev pub Fits : Pending → ℕ → Type 0
Fits Pending.idle v = Unit {0}
Fits (Pending.busy u) v = v ≡ u

-- the word v serves what the map says that it is for
abbrev pub Serves : Links → (CellId → ℕ) → Role → ℕ → Type 0
Serves κ c (Role.fixed w) v = v ≡ w
Serves κ c Role.stop v = v ≡ halt_word
Serves κ c (Role.cell i w) v = v ≡ c i
Serves κ c (Role.link q) v = (v < 16384) × Fits (κ q) v
Serves κ c Role.saved v = Unit {0}
Serves κ c Role.free v = Unit {0}

-- a running machine with the registers and switches of σ
abbrev pub machine_of : State → ℕ → Machine
machine_of σ p = record { registers = σ.registers; p = p; switches = σ.switches; halted = false }

module _ (M : Map) (sound : Sound M) (s₀ : machine.State) where
  -- ---- The relation

  -- the machine that started as s₀ stands at p after σ's number of steps, with the image m, which agrees with σ
  pub record At (κ : Links) (p : ℕ) (σ : State) (m : List ℕ) : Type 0 where
    pub made : Steps σ.steps s₀ (machine.state (machine_of σ p) m)
    pub size : length m ≡ 16384
    pub serves : (k : ℕ) → k < 16384 → Serves κ σ.cells (M k) (get_or m k 0)

  pub peek : {κ : Links} {p : ℕ} {σ : State} {m : List ℕ} → At κ p σ m
      → (k : ℕ) (w : Role) → k < 16384 → M k ≡ w → Serves κ σ.cells w (get_or m k 0)
  peek {κ} {p} {σ} {m} h k w b e = subst (λ (j : Role). Serves κ σ.cells j (get_or m k 0)) e (h.serves k b)

  -- one instruction done
  pub stepped : {κ : Links} {a : ℕ} {σ : State} {m : List ℕ} {i : Instruction} {u : machine.State} → At κ a σ m → Sits M a i
      → perform (machine_of σ a) m i ≡ made u → Steps (suc σ.steps) s₀ u
  stepped {κ} {a} {σ} {m} {i} {u} h s e =
      let w : get_or m a 0 ≡ s.word = peek h a (Role.fixed s.word) (omega (arith, s.below)) s.here in
      let d = step_of (machine_of σ a) m (ap decode_def w ∙ s.decodes) ∙ e in
      rw add-one at (steps_join h.made (one refl d none))

  -- a store to the word of cell i changes that cell only
  pub stored : {κ : Links} {p : ℕ} {σ : State} {m : List ℕ} → At κ p σ m → (e : ℕ) (i : CellId) (v w : ℕ) → e < 16384 → M e ≡ Role.cell i w
      → (k : ℕ) → k < 16384 → Serves κ (updated σ.cells i v) (M k) (get_or (set m e v) k 0)
  stored {κ} {p} {σ} {m} h e i v w b here k kb = go (ℕ_discrete k e)
    where
      other : (it : Role) → (k ≡ e → ⊥) → M k ≡ it → Serves κ (updated σ.cells i v) it (get_or (set m e v) k 0)
      other (Role.fixed u) n it = rw (get_or-set_other m e k v 0 n) (peek h k (Role.fixed u) kb it)
      other Role.stop n it = rw (get_or-set_other m e k v 0 n) (peek h k Role.stop kb it)
      other (Role.cell j u) n it =
          rw (get_or-set_other m e k v 0 n, updated_other σ.cells i j v (λ q. n (sound.once k e j u w it (here ∙ ap (λ (c : CellId). Role.cell c w) q)))) (peek h k (Role.cell j u) kb it)
      other (Role.link q) n it = rw (get_or-set_other m e k v 0 n) (peek h k (Role.link q) kb it)
      other Role.saved n it = tt
      other Role.free n it = tt

      go : Dec (k ≡ e) → Serves κ (updated σ.cells i v) (M k) (get_or (set m e v) k 0)
      go (yes q) = rw (q, here, get_or-set_same m e v 0 (omega (arith, h.size)), updated_same) refl
      go (no n) = other (M k) n refl

  -- a store to the word of a link makes it pending
  pub linked : {κ : Links} {p : ℕ} {σ : State} {m : List ℕ} → At κ p σ m → (e q v : ℕ) → e < 16384 → M e ≡ Role.link q → v < 16384
      → (k : ℕ) → k < 16384 → Serves (pend κ q v) σ.cells (M k) (get_or (set m e v) k 0)
  linked {κ} {p} {σ} {m} h e q v b here vb k kb = go (ℕ_discrete k e)
    where
      other : (it : Role) → (k ≡ e → ⊥) → M k ≡ it → Serves (pend κ q v) σ.cells it (get_or (set m e v) k 0)
      other (Role.fixed u) n it = rw (get_or-set_other m e k v 0 n) (peek h k (Role.fixed u) kb it)
      other Role.stop n it = rw (get_or-set_other m e k v 0 n) (peek h k Role.stop kb it)
      other (Role.cell j u) n it = rw (get_or-set_other m e k v 0 n) (peek h k (Role.cell j u) kb it)
      other (Role.link r) n it =
          rw (get_or-set_other m e k v 0 n, pend_other κ q r v (λ s. n (sound.link_once k e r it (here ∙ ap Role.link s)))) (peek h k (Role.link r) kb it)
      other Role.saved n it = tt
      other Role.free n it = tt

      go : Dec (k ≡ e) → Serves (pend κ q v) σ.cells (M k) (get_or (set m e v) k 0)
      go (yes s) = rw (s, here, get_or-set_same m e v 0 (omega (arith, h.size)), pend_same) (vb, refl)
      go (no n) = other (M k) n refl

  -- a link that is no longer pending
  pub forget : {κ : Links} {p : ℕ} {σ : State} {m : List ℕ} (q v : ℕ) → κ q ≡ Pending.idle → At (pend κ q v) p σ m → At κ p σ m
  forget {κ} {p} {σ} {m} q v was h = record { made = h.made; size = h.size; serves = λ k kb. go k kb (M k) refl }
    where
      link_at : (k r : ℕ) → k < 16384 → M k ≡ Role.link r → Dec (q ≡ r) → Fits (κ r) (get_or m k 0)
      link_at k r kb it (yes e) = rw (← e, was) tt
      link_at k r kb it (no n) = rw (pend_other κ q r v n) at (peek h k (Role.link r) kb it).1

      go : (k : ℕ) → k < 16384 → (it : Role) → M k ≡ it → Serves κ σ.cells (M k) (get_or m k 0)
      go k kb (Role.fixed w) it = rw it (peek h k (Role.fixed w) kb it)
      go k kb Role.stop it = rw it (peek h k Role.stop kb it)
      go k kb (Role.cell i w) it = rw it (peek h k (Role.cell i w) kb it)
      go k kb (Role.link r) it = rw it ((peek h k (Role.link r) kb it).0, link_at k r kb it (ℕ_discrete q r))
      go k kb Role.saved it = rw it tt
      go k kb Role.free it = rw it tt

  -- a store to the word that keeps A in a test changes nothing that the meaning knows of
  pub kept : {κ : Links} {p : ℕ} {σ : State} {m : List ℕ} → At κ p σ m → (e v : ℕ) → e < 16384 → M e ≡ Role.saved
      → (k : ℕ) → k < 16384 → Serves κ σ.cells (M k) (get_or (set m e v) k 0)
  kept {κ} {p} {σ} {m} h e v b here k kb = go (ℕ_discrete k e)
    where
      go : Dec (k ≡ e) → Serves κ σ.cells (M k) (get_or (set m e v) k 0)
      go (yes q) = rw (q, here) tt
      go (no n) = rw (get_or-set_other m e k v 0 n) (h.serves k kb)

  -- ---- Traces

  -- the machine comes to σ
  pub record Stands (σ : State) : Type 0 where
    pub links : Links
    pub p : ℕ
    pub image : List ℕ
    pub at : At links p σ image

  abbrev pub stands : {κ : Links} {p : ℕ} {σ : State} {m : List ℕ} → At κ p σ m → Stands σ
  stands {κ} {p} {σ} {m} h = record { links = κ; p = p; image = m; at = h }

  -- the machine comes to the HLT of a test: X is in A, and the word that keeps A has σ's
  pub record Stopping (σ : State) : Type 0 where
    pub links : Links
    pub p : ℕ
    pub now : State
    pub image : List ℕ
    pub stop : Stops M p
    pub at : At links p now image
    pub cells : now.cells ≡ σ.cells
    pub registers : now.registers ≡ record { a = σ.cells x_cell; b = σ.registers.b; c = σ.registers.c }
    pub steps : suc now.steps ≡ σ.steps + stop_steps (index σ)
    pub saved : get_or image saved_word 0 ≡ σ.registers.a

  -- after a break-off: the subscript is not tested, and then none of the program is; or the machine comes to the test's HLT
  pub data Left (σ : State) : Type 0 where
    untested : M saved_word ≡ Role.free → Left σ
    tested : Stopping σ → Left σ

  -- what comes next at an address goes through the word of an array, behind its test if it is tested, and X is none of its subscripts
  pub record Out (σ : State) (at : ℕ) : Type 0 where
    pub array : Array
    pub word : ℕ
    pub placed : ArrayAt M array word
    pub behind : ℕ
    pub test : LaidTest M array at behind
    pub through : Through M word behind
    pub outside : is_inside array (index σ) ≡ false

  -- The machine comes to every state that the trace shows, their numbers never fall from `low` on, and the end has Q.
  -- A trace that ran out of fuel has made N steps at least.
  pub data Ok {A : Type 0} (N : ℕ) (Q : A → State → List ℕ → Type 0) : ℕ → Trace A → Type 0 where
    ok_done : {low : ℕ} {a : A} {σ : State} (m : List ℕ) → low ≤ σ.steps → Q a σ m → Ok N Q low (Trace.done a σ)
    ok_broke : {low : ℕ} {σ : State} → low ≤ σ.steps → (h : Stands σ) → Left σ → Out σ h.p → Ok N Q low (Trace.broke σ)
    ok_out : {low : ℕ} {σ : State} → low ≤ σ.steps → N ≤ σ.steps → Stands σ → Ok N Q low (Trace.out σ)
    ok_observe : {low : ℕ} {σ : State} {t : Trace A} → low ≤ σ.steps → Stands σ → Ok N Q σ.steps t → Ok N Q low (Trace.observe σ t)

  pub lower : {A : Type 0} {N : ℕ} {Q : A → State → List ℕ → Type 0} {low high : ℕ} {t : Trace A} → low ≤ high → Ok N Q high t → Ok N Q low t
  lower l (ok_done m h q) = ok_done m (le_trans l h) q
  lower l (ok_broke h s b o) = ok_broke (le_trans l h) s b o
  lower l (ok_out h n s) = ok_out (le_trans l h) n s
  lower l (ok_observe h s k) = ok_observe (le_trans l h) s k

  pub relax : {A : Type 0} {N : ℕ} {Q R : A → State → List ℕ → Type 0} {low : ℕ} {t : Trace A}
      → ((a : A) (σ : State) (m : List ℕ) → Q a σ m → R a σ m) → Ok N Q low t → Ok N R low t
  relax k (ok_done {a = a} {σ = σ} m h q) = ok_done m h (k a σ m q)
  relax k (ok_broke h s b o) = ok_broke h s b o
  relax k (ok_out h n s) = ok_out h n s
  relax k (ok_observe h s o) = ok_observe h s (relax k o)

  -- one part after another
  pub follow : {A B : Type 0} {N : ℕ} {Q : A → State → List ℕ → Type 0} {R : B → State → List ℕ → Type 0} {low : ℕ} {t : Trace A} {g : A → State → Trace B}
      → Ok N Q low t → ((a : A) (σ : State) (m : List ℕ) → low ≤ σ.steps → Q a σ m → Ok N R σ.steps (g a σ)) → Ok N R low (bind t g)
  unfolding bind
  follow (ok_done {a = a} {σ = σ} m h q) k = lower h (k a σ m h q)
  follow (ok_broke h s b o) k = ok_broke h s b o
  follow (ok_out h n s) k = ok_out h n s
  follow (ok_observe h s o) k = ok_observe h s (follow o (λ a σ m l q. k a σ m (le_trans h l) q))
