-- The machine follows calls, expressions and conditions, where they stand in the map, by the nesting left.
use Prim.Native.Nat.{ℕ, zero, suc, ◌+◌, ◌≤◌, ◌<◌}
use mathlib.Core.Path.{◌≡◌, ◌∙◌}
use mathlib.Core.List.{List}
use native.Mathlib.Nat.{le_refl}
use native.Mathlib.Omega.{arith}
use Rattle.machine.specs.State as machine
use Rattle.tree.specs.Tree.{Expr, Term, Cond}
use Rattle.layout.specs.Map.{Role}
use Rattle.semantics.specs.Trace.{State, Trace, bind, next}
use Rattle.semantics.specs.Acts.{tick, jump}
use Rattle.semantics.specs.Meaning.{Procedures, called, term_by, cond_by, expr_by, expr_at}
use Rattle.parsing_laws.specs.WellFormed.{Context, TermOk, CondOk, ExprBy, ExprOk}
use Rattle.memory_map.specs.Laid.{Map, Sound, Known, Knows, LaidCall, LaidTerm, LaidCond, LaidExpr}
use Rattle.semantics.proofs.Simulation.Relate.{Pending, Links, pend_same, pend_other, At, forget, lower, relax, follow}
use Rattle.semantics.proofs.Simulation.Instructions.{do_generic, do_call}
use Rattle.semantics.proofs.Simulation.Classes.{load_reads, clear_acts, test_skips, bare_skips}
use Rattle.semantics.proofs.Simulation.Parts.{le₁, Follows, Forks, sim_read, sim_unaries, sim_operations, sim_test, sim_relation, branch, moved, stay, then_jump}

-- the links of the procedures ps are idle, but for that of q
abbrev pub Idle : Known → Links → Type 0
Idle ps κ = (r : ℕ) → Knows ps r → κ r ≡ Pending.idle

abbrev pub IdleBut : ℕ → Known → Links → Type 0
IdleBut q ps κ = (r : ℕ) → Knows ps r → (q ≡ r → ⊥) → κ r ≡ Pending.idle

module _ (M : Map) (sound : Sound M) (s₀ : machine.State) (N fuel : ℕ) where
  -- each of the procedures ps, entered with its link pending, comes back to what the link holds
  pub record Obeys (ps : Known) (procedures : Procedures) : Type 0 where
    pub callee : {κ : Links} {k r : ℕ} {σ : State} {m : List ℕ} (q : ℕ) → Knows ps q → k < 16384 → M k ≡ Role.link q → κ q ≡ Pending.busy r → IdleBut q ps κ
        → N ≤ σ.steps + fuel → At M sound s₀ κ (suc k) σ m → Follows M sound s₀ N κ r σ.steps (bind (procedures q σ) jump)

  -- parts that may call the procedures ps, whose links are idle
  module _ (x : Context) (ps : Known) (procedures : Procedures) (obeys : Obeys ps procedures) (κ : Links) (idle : Idle ps κ) where
    pub sim_call : {q a : ℕ} {σ : State} {m : List ℕ} → LaidCall M ps q a → N ≤ σ.steps + fuel → At M sound s₀ κ a σ m
        → Follows M sound s₀ N κ (suc a) σ.steps (called procedures q σ)
    unfolding called
    sim_call {q} {a} {σ} {m} (LaidCall.call knows w r) l h =
        let back = obeys.callee {σ = tick σ} q knows (omega (arith, w.small)) w.item (pend_same κ q (suc a))
        (λ r₁ k₁ n₁. pend_other κ q r₁ (suc a) n₁ ∙ idle r₁ k₁) (omega arith) (do_call M sound s₀ h r w) in
        lower M sound s₀ (le₁ σ.steps) (relax M sound s₀ (λ u σ₁ m₁ h₁. forget M sound s₀ q (suc a) (idle q knows) h₁) back)

    -- a meaning of those expressions that are ok, followed wherever they stand
    abbrev pub ExprsFollow : (Expr → Type 0) → (Expr → State → Trace (Unit {0})) → Type 0
    ExprsFollow ok expr = (e : Expr) (a b : ℕ) → ok e → LaidExpr M ps e a b → (σ : State) (m : List ℕ) → N ≤ σ.steps + fuel → At M sound s₀ κ a σ m
        → Follows M sound s₀ N κ b σ.steps (expr e σ)

    module _ {ok : Expr → Type 0} {expr : Expr → State → Trace (Unit {0})} (inner : ExprsFollow ok expr) where
      sim_term : {a b : ℕ} (t : Term) → TermOk x ok t → LaidTerm M ps t a b → (σ : State) (m : List ℕ) → N ≤ σ.steps + fuel → At M sound s₀ κ a σ m
          → Follows M sound s₀ N κ b σ.steps (term_by procedures expr t σ)
      unfolding term_by next
      sim_term (Term.cell c) o (LaidTerm.cell k) σ m l h = sim_read M sound s₀ N load_reads (λ z. omega arith) k h
      sim_term Term.accumulator o LaidTerm.accumulator σ m l h = stay M sound s₀ N σ m (le_refl _) h
      sim_term Term.zero o (LaidTerm.zero s) σ m l h = moved M sound s₀ N (do_generic M sound s₀ h clear_acts s) (le₁ σ.steps)
      sim_term (Term.bracket e) o (LaidTerm.bracket k) σ m l h = inner e _ _ o k σ m l h
      sim_term (Term.call p) o (LaidTerm.call c) σ m l h = sim_call c l h
      sim_term (Term.call_with p e) o (LaidTerm.call_with k c) σ m l h =
          follow M sound s₀ (inner e _ _ o.1 k σ m l h) (λ u σ₁ m₁ l₁ h₁. sim_call c (omega arith) h₁)

      pub sim_cond : {a b z : ℕ} (c : Cond) → CondOk x ok c → LaidCond M ps c a b z → (σ : State) (m : List ℕ) → N ≤ σ.steps + fuel → At M sound s₀ κ a σ m
          → Forks M sound s₀ N κ b z σ.steps (cond_by procedures expr c σ)
      unfolding cond_by next
      sim_cond (Cond.relation r e c) o (LaidCond.relation k w cs) σ m l h =
          follow M sound s₀ (inner e _ _ o.0 k σ m l h) (λ u σ₁ m₁ l₁ h₁. sim_relation M sound s₀ N r w cs h₁)
      sim_cond (Cond.test t e) o (LaidCond.test k s j) σ m l h =
          follow M sound s₀ (inner e _ _ o k σ m l h) (λ u σ₁ m₁ l₁ h₁. sim_test M sound s₀ N (test_skips t) s j h₁)
      sim_cond (Cond.bare t) o (LaidCond.bare s j) σ m l h = sim_test M sound s₀ N (bare_skips t) s j h

      sim_expr : ExprsFollow (ExprBy x ok) (expr_by procedures expr)
      unfolding expr_by
      sim_expr (Expr.chain us t os) a b o (LaidExpr.chain k v w) σ m l h =
          follow M sound s₀ (sim_term t o.0 k σ m l h)
          (λ u σ₁ m₁ l₁ h₁. let y = sim_unaries M sound s₀ N v h₁ in lower M sound s₀ y.1 (sim_operations M sound s₀ N w y.0))
      sim_expr (Expr.choose c s t) a b o (LaidExpr.choose k p j q) σ m l h =
          branch M sound s₀ N (sim_cond c o.0 k σ m l h)
          (λ σ₁ m₁ l₁ h₁. then_jump M sound s₀ N (inner s _ _ o.1 p σ₁ m₁ (omega arith) h₁) j)
          (λ σ₁ m₁ l₁ h₁. inner t _ _ o.2 q σ₁ m₁ (omega arith) h₁)

    pub sim_expr_at : (left : ℕ) → ExprsFollow (ExprOk x left) (expr_at procedures left)
    unfolding ExprOk expr_at
    sim_expr_at zero e a b o k σ m l h = absurd o
    sim_expr_at (suc left) e a b o k σ m l h = sim_expr (sim_expr_at left) e a b o k σ m l h
