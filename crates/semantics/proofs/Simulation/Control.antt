-- The words after a relation's CAS: a walk over them, followed by the machine, and the six relations as one table.
use Prim.Native.Nat.{ℕ, zero, suc, ◌+◌, ◌≤◌, ◌<◌}
use mathlib.Core.Path.{◌≡◌, refl}
use mathlib.Core.Bool.{Bool, true, false}
use mathlib.Core.List.{List, [], ◌∷◌}
use native.Mathlib.Nat.{zero-add, add_comm, add-suc, suc-add, not-suc-le-zero, le_of_suc-le-suc}
use native.Mathlib.Numerals.{add-one}
use native.Mathlib.Omega.{arith}
use lib.ListN.{length}
use Rattle.effect.specs.Skips.{skips_of}
use Rattle.machine.specs.State as machine
use Rattle.tree.specs.Tree.{Relation}
use Rattle.layout.specs.Words.{Control, controls}
use Rattle.semantics.specs.Trace.{State}
use Rattle.semantics.specs.Acts.{tick, ticks}
use Rattle.semantics.specs.Meaning.{Order, order_of, holds, words_after}
use Rattle.memory_map.specs.Laid.{Map, Sound, LaidJump, ControlSits, LaidControls}
use Rattle.semantics.proofs.Simulation.Relate.{Links, At}
use Rattle.semantics.proofs.Simulation.Instructions.{next, over, do_test, do_jump}
use Rattle.semantics.proofs.Simulation.Classes.{nop_skips, skp_skips}

-- ---- The walk

pub record Walk : Type 0 where
  pub way : Bool
  pub cost : ℕ

longer : Walk → Walk
longer w = record { way = w.way; cost = suc w.cost }

-- from the words cs, with n of them to pass over
pub walk : List Control → ℕ → Walk
walk [] n = record { way = true; cost = 0 }
walk (c ∷ cs) (suc n) = walk cs n
walk (Control.nop ∷ cs) zero = longer (walk cs zero)
walk (Control.skip ∷ cs) zero = longer (walk cs 1)
walk (Control.past ∷ cs) zero = record { way = true; cost = 1 }
walk (Control.fails ∷ cs) zero = record { way = false; cost = 1 }

-- the walk leaves the words only at their end
abbrev pub Fine : List Control → ℕ → Type 0
Fine [] zero = Unit {0}
Fine [] (suc n) = ⊥
Fine (c ∷ cs) (suc n) = Fine cs n
Fine (Control.nop ∷ cs) zero = Fine cs zero
Fine (Control.skip ∷ cs) zero = Fine cs 1
Fine (Control.past ∷ cs) zero = Unit {0}
Fine (Control.fails ∷ cs) zero = Unit {0}

-- where a condition goes on
abbrev pub fork : ℕ → ℕ → Bool → ℕ
fork b z true = b
fork b z false = z

-- ---- The table

-- how many words CAS skips
abbrev pub skipped : Order → ℕ
skipped Order.greater = 0
skipped Order.equal = 1
skipped Order.less = 2

pub order_skips : (n : ℕ) → n < 3 → skipped (order_of n) ≡ n
unfolding order_of
order_skips zero h = refl
order_skips (suc zero) h = refl
order_skips (suc (suc zero)) h = refl
order_skips (suc (suc (suc n))) h = absurd (not-suc-le-zero (le_of_suc-le-suc (le_of_suc-le-suc (le_of_suc-le-suc h))))

-- each way through the words of each relation
pub table : (r : Relation) (o : Order)
    → (walk (controls r) (skipped o) ≡ record { way = holds r o; cost = words_after r o }) × Fine (controls r) (skipped o) × (skipped o ≤ length (controls r))
unfolding walk longer controls holds words_after
table Relation.equal Order.greater = (refl, tt, omega arith)
table Relation.equal Order.equal = (refl, tt, omega arith)
table Relation.equal Order.less = (refl, tt, omega arith)
table Relation.not_equal Order.greater = (refl, tt, omega arith)
table Relation.not_equal Order.equal = (refl, tt, omega arith)
table Relation.not_equal Order.less = (refl, tt, omega arith)
table Relation.less Order.greater = (refl, tt, omega arith)
table Relation.less Order.equal = (refl, tt, omega arith)
table Relation.less Order.less = (refl, tt, omega arith)
table Relation.greater Order.greater = (refl, tt, omega arith)
table Relation.greater Order.equal = (refl, tt, omega arith)
table Relation.greater Order.less = (refl, tt, omega arith)
table Relation.at_most Order.greater = (refl, tt, omega arith)
table Relation.at_most Order.equal = (refl, tt, omega arith)
table Relation.at_most Order.less = (refl, tt, omega arith)
table Relation.at_least Order.greater = (refl, tt, omega arith)
table Relation.at_least Order.equal = (refl, tt, omega arith)
table Relation.at_least Order.less = (refl, tt, omega arith)

-- ---- The machine on it

module _ (M : Map) (sound : Sound M) (s₀ : machine.State) where
  pub jump_below : {a z : ℕ} → LaidJump M a z → suc a < 16384
  jump_below (LaidJump.jump r) = r.sits.below

  control_below : (a b z : ℕ) (c : Control) → ControlSits M a b z c → suc a < 16384
  control_below a b z Control.nop s = s.below
  control_below a b z Control.skip s = s.below
  control_below a b z Control.past s = jump_below s
  control_below a b z Control.fails s = jump_below s

  -- the words lie within the memory
  pub within : {z : ℕ} {cs : List Control} {a b : ℕ} → LaidControls M z cs a b → (n : ℕ) → n ≤ length cs → a < 16384 → n + a < 16384
  within LaidControls.none n l h = omega arith
  within (LaidControls.more s k) zero l h = omega arith
  within {z} {b = b} (LaidControls.more {c = c} {a = a} s k) (suc n) l h = let i = within k n (le_of_suc-le-suc l) (control_below a b z c s) in omega arith

  second : {z : ℕ} {cs : List Control} {a b : ℕ} → LaidControls M z cs a b → Fine cs 1 → suc a < 16384
  second LaidControls.none f = absurd f
  second {z} {b = b} (LaidControls.more {c = c} {a = a} s k) f = control_below a b z c s

  module _ {κ : Links} {m : List ℕ} where
    pub sim_controls : {z : ℕ} {cs : List Control} {a b : ℕ} → LaidControls M z cs a b → (n : ℕ) → Fine cs n → (σ : State) → At M sound s₀ κ (n + a) σ m
        → At M sound s₀ κ (fork b z (walk cs n).way) (ticks (walk cs n).cost σ) m
    unfolding walk longer ticks skips_of
    sim_controls LaidControls.none zero l σ h = rw zero-add at h
    sim_controls LaidControls.none (suc n) l σ h = absurd l
    sim_controls (LaidControls.more s k) (suc n) l σ h = sim_controls k n l σ (rw (add-suc n _, ← suc-add n _) h)
    sim_controls {z} {b = b} (LaidControls.more {c} {cs} {a} s k) zero l σ h = first c s l (λ n l₁ h₁. sim_controls k n l₁ (tick σ) h₁)
      where
        h₀ : At M sound s₀ κ a σ m
        h₀ = rw zero-add at h

        first : (c : Control) → ControlSits M a b z c → Fine (c ∷ cs) zero
            → ((n : ℕ) → Fine cs n → At M sound s₀ κ (n + suc a) (tick σ) m → At M sound s₀ κ (fork b z (walk cs n).way) (ticks (walk cs n).cost (tick σ)) m)
            → At M sound s₀ κ (fork b z (walk (c ∷ cs) zero).way) (ticks (walk (c ∷ cs) zero).cost σ) m
        first Control.nop w f rest = rest 0 f (rw zero-add (do_test M sound s₀ h₀ nop_skips w false refl (next a w.below)))
        first Control.skip w f rest = rest 1 f (rw (add_comm 1 (suc a), add-one) (do_test M sound s₀ h₀ skp_skips w true refl (over a (second k f))))
        first Control.past w f rest = do_jump M sound s₀ h₀ w
        first Control.fails w f rest = do_jump M sound s₀ h₀ w
