-- The machine follows loops, statements and procedures, where they stand in the map: statements by the nesting left, procedures one after the other.
use Prim.Native.Nat.{ℕ, zero, suc, ◌+◌, ◌≤◌, ◌<◌}
use mathlib.Core.Path.{◌≡◌, refl, sym, subst, ◌∙◌}
use mathlib.Core.Bool.{Bool, false, cond}
use mathlib.Core.List.{List, [], ◌∷◌}
use native.Mathlib.Nat.{le_refl}
use native.Mathlib.Omega.{arith}
use lib.Dec.{eqb}
use borrow.Author.Tests.{eqb-true, eqb-false}
use Rattle.instruction.specs.Opcode.{IRS}
use Rattle.instruction.proofs.Choice.{cond_when}
use Rattle.machine.specs.State as machine
use Rattle.tree.specs.Tree.{CellId, Expr, Cond, Stmt, Stmts}
use Rattle.layout.specs.Map.{Role}
use Rattle.semantics.specs.Trace.{State, Trace, bind, next}
use Rattle.semantics.specs.Acts.{tick, place_of, store_a, jump}
use Rattle.semantics.specs.Meaning.{Procedures, called, while_turns, for_turns, stmts_by, cond_by, expr_at, body_by, stmt_at, outermost}
use Rattle.parsing_laws.specs.WellFormed.{Context, CondOk, IsEmpty, ExprOk, StmtsBy, StmtBy, StmtOk}
use Rattle.memory_map.specs.Laid.{Map, Sound, Refers, Direct, Known, Knows, LaidJump, LaidCall, LaidCond, LaidStmt, LaidStmts, LaidProcedure}
use Rattle.semantics.proofs.Simulation.Relate.{Pending, Links, At, stands, ok_done, ok_out, lower, follow}
use Rattle.semantics.proofs.Simulation.Instructions.{do_store, do_jump, do_return, located_direct}
use Rattle.semantics.proofs.Simulation.Control.{jump_below}
use Rattle.semantics.proofs.Simulation.Parts.{le₁, Follows, Forks, sim_set_x, sim_assigned, sim_counted, branch, moved, stay, then_jump, at_end_lem}
use Rattle.semantics.proofs.Simulation.Expressions.{Idle, IdleBut, Obeys, ExprsFollow, sim_call, sim_cond, sim_expr_at}

known_earlier : {p q : ℕ} {body : Stmts} {ps : Known} → Knows ((p, body) ∷ ps) q → (q ≡ p → ⊥) → Knows ps q
known_earlier Knows.here d = absurd (d refl)
known_earlier (Knows.earlier k) d = k

module _ (M : Map) (sound : Sound M) (s₀ : machine.State) (N fuel : ℕ) where
  -- ---- Loops: each turn's JMP is a step, so a loop that runs out of fuel has made that many

  sim_while : {κ : Links} {a n p z : ℕ} {c : State → Trace Bool} {body : State → Trace (Unit {0})} (g : ℕ) → g ≤ fuel
      → ((σ : State) (m : List ℕ) → N ≤ σ.steps + fuel → At M sound s₀ κ a σ m → Forks M sound s₀ N κ p z σ.steps (c σ))
      → ((σ : State) (m : List ℕ) → N ≤ σ.steps + fuel → At M sound s₀ κ p σ m → Follows M sound s₀ N κ n σ.steps (body σ))
      → LaidJump M n a
      → (σ : State) (m : List ℕ) → N ≤ σ.steps + g → At M sound s₀ κ a σ m → Follows M sound s₀ N κ z σ.steps (while_turns g c body σ)
  unfolding while_turns
  sim_while zero gf c body j σ m l h = let n : N ≤ σ.steps = omega arith in ok_out (le_refl _) n (stands M sound s₀ h)
  sim_while (suc g) gf c body j σ m l h =
      branch M sound s₀ N (c σ m (omega arith) h)
      (λ σ₁ m₁ l₁ h₁. follow M sound s₀ (body σ₁ m₁ (omega arith) h₁)
      (λ u σ₂ m₂ l₂ h₂. lower M sound s₀ (le₁ σ₂.steps) (sim_while g (omega arith) c body j (tick σ₂) m₂ (omega arith) (do_jump M sound s₀ h₂ j))))
      (stay M sound s₀ N)

  sim_for : {κ : Links} {p n k v : ℕ} {i : CellId} {body : State → Trace (Unit {0})} (g : ℕ) → g ≤ fuel
      → ((σ : State) (m : List ℕ) → N ≤ σ.steps + fuel → At M sound s₀ κ p σ m → Follows M sound s₀ N κ n σ.steps (body σ))
      → Refers M n IRS false k → k < 16384 → M k ≡ Role.cell i v → LaidJump M (suc n) p
      → (σ : State) (m : List ℕ) → N ≤ σ.steps + g → At M sound s₀ κ p σ m → Follows M sound s₀ N κ (suc (suc n)) σ.steps (for_turns g i body σ)
  unfolding for_turns
  sim_for zero gf body r b e j σ m l h = let n : N ≤ σ.steps = omega arith in ok_out (le_refl _) n (stands M sound s₀ h)
  sim_for (suc g) gf body r b e j σ m l h =
      branch M sound s₀ N (follow M sound s₀ (body σ m (omega arith) h) (λ u σ₁ m₁ l₁ h₁. sim_counted M sound s₀ N u r b e (jump_below M sound s₀ j) h₁))
      (λ σ₁ m₁ l₁ h₁. lower M sound s₀ (le₁ σ₁.steps) (sim_for g (omega arith) body r b e j (tick σ₁) m₁ (omega arith) (do_jump M sound s₀ h₁ j)))
      (stay M sound s₀ N)

  -- ---- Statements

  module _ (x : Context) (ps : Known) (procedures : Procedures) (obeys : Obeys M sound s₀ N fuel ps procedures) (κ : Links) (idle : Idle ps κ) where
    -- a meaning of those statements that are ok, followed wherever they stand
    abbrev StmtsFollow : (Stmt → Type 0) → (Stmt → State → Trace (Unit {0})) → Type 0
    StmtsFollow ok stmt = (s : Stmt) (a b : ℕ) → ok s → LaidStmt M ps s a b → (σ : State) (m : List ℕ) → N ≤ σ.steps + fuel → At M sound s₀ κ a σ m
        → Follows M sound s₀ N κ b σ.steps (stmt s σ)

    sim_stmts : {ok : Stmt → Type 0} {stmt : Stmt → State → Trace (Unit {0})} → StmtsFollow ok stmt
        → {a b : ℕ} (ss : Stmts) → StmtsBy ok ss → LaidStmts M ps ss a b → (σ : State) (m : List ℕ) → N ≤ σ.steps + fuel → At M sound s₀ κ a σ m
        → Follows M sound s₀ N κ b σ.steps (stmts_by stmt ss σ)
    unfolding stmts_by next
    sim_stmts inner (Stmts.one s) o (LaidStmts.one k) σ m l h = inner s _ _ o k σ m l h
    sim_stmts inner (Stmts.more ss s) o (LaidStmts.more ks k) σ m l h =
        follow M sound s₀ (sim_stmts inner ss o.0 ks σ m l h) (λ u σ₁ m₁ l₁ h₁. inner s _ _ o.1 k σ₁ m₁ (omega arith) h₁)

    -- a statement but for its end, with one more level for its own expressions than for the statements in it
    module _ (left : ℕ) {ok : Stmt → Type 0} {stmt : Stmt → State → Trace (Unit {0})} (inner : StmtsFollow ok stmt) where
      expr : ExprsFollow M sound s₀ N fuel x ps procedures obeys κ idle (ExprOk x left) (expr_at procedures left)
      expr = sim_expr_at M sound s₀ N fuel x ps procedures obeys κ idle left

      test : {a b z : ℕ} (c : Cond) → CondOk x (ExprOk x left) c → LaidCond M ps c a b z → (σ : State) (m : List ℕ) → N ≤ σ.steps + fuel → At M sound s₀ κ a σ m
          → Forks M sound s₀ N κ b z σ.steps (cond_by procedures (expr_at procedures left) c σ)
      test c o k σ m l h = sim_cond M sound s₀ N fuel x ps procedures obeys κ idle expr c o k σ m l h

      call : {q a : ℕ} {σ : State} {m : List ℕ} → LaidCall M ps q a → N ≤ σ.steps + fuel → At M sound s₀ κ a σ m
          → Follows M sound s₀ N κ (suc a) σ.steps (called procedures q σ)
      call c l h = sim_call M sound s₀ N fuel x ps procedures obeys κ idle c l h

      sim_body : StmtsFollow (StmtBy x (ExprOk x left) ok) (body_by procedures fuel (expr_at procedures left) stmt (stmts_by stmt))
      unfolding body_by next store_a place_of
      sim_body Stmt.empty a b o LaidStmt.empty σ m l h = stay M sound s₀ N σ m (le_refl _) h
      sim_body (Stmt.assign t e) a b o (LaidStmt.assign k w) σ m l h =
          follow M sound s₀ (expr e _ _ o.1 k σ m l h) (λ u σ₁ m₁ l₁ h₁. sim_assigned M sound s₀ N t w h₁)
      sim_body (Stmt.to_a e) a b o (LaidStmt.to_a k) σ m l h = expr e _ _ o k σ m l h
      sim_body (Stmt.set_x c) a b o (LaidStmt.set_x w) σ m l h = sim_set_x M sound s₀ N w h
      sim_body (Stmt.if c s t) a b o (LaidStmt.if k p j q) σ m l h =
          branch M sound s₀ N (test c o.0 k σ m l h)
          (λ σ₁ m₁ l₁ h₁. then_jump M sound s₀ N (inner s _ _ o.1 p σ₁ m₁ (omega arith) h₁) j)
          (λ σ₁ m₁ l₁ h₁. inner t _ _ o.2 q σ₁ m₁ (omega arith) h₁)
      sim_body (Stmt.when c s) a b o (LaidStmt.when k p) σ m l h =
          branch M sound s₀ N (test c o.0 k σ m l h) (λ σ₁ m₁ l₁ h₁. inner s _ _ o.1 p σ₁ m₁ (omega arith) h₁) (stay M sound s₀ N)
      sim_body (Stmt.while c s) a b o (LaidStmt.while k p j) σ m l h =
          sim_while fuel (le_refl fuel) (test c o.0 k) (inner s _ _ o.1 p) j σ m l h
      sim_body (Stmt.for i e s) a b o (LaidStmt.for k (Direct.named kb here) r p t j) σ m l h =
          follow M sound s₀ (expr e _ _ o.1 k σ m l h)
          (λ u σ₁ m₁ l₁ h₁. follow M sound s₀
          (moved M sound s₀ N (do_store M sound s₀ h₁ r (located_direct M sound s₀ h₁ (Direct.named kb here))) (le₁ σ₁.steps))
          (λ u₂ σ₂ m₂ l₂ h₂. sim_for fuel (le_refl fuel) (inner s _ _ o.2 p) t kb here j σ₂ m₂ (omega arith) h₂))
      sim_body (Stmt.for_x c s) a b o (LaidStmt.for_x w p t j) σ m l h =
          follow M sound s₀ (sim_set_x M sound s₀ N w h)
          (λ u σ₁ m₁ l₁ h₁. sim_for fuel (le_refl fuel) (inner s _ _ o.1 p) t (omega arith) sound.x_at j σ₁ m₁ (omega arith) h₁)
      sim_body (Stmt.call p) a b o (LaidStmt.call c) σ m l h = call c l h
      sim_body (Stmt.call_with p e) a b o (LaidStmt.call_with k c) σ m l h =
          follow M sound s₀ (expr e _ _ o.1 k σ m l h) (λ u σ₁ m₁ l₁ h₁. call c (omega arith) h₁)
      sim_body (Stmt.compound ss) a b o (LaidStmt.compound ks) σ m l h = sim_stmts inner ss o ks σ m l h

    -- no level left: the statement is empty
    sim_deepest : (expr : Expr → State → Trace (Unit {0})) (stmt : Stmt → State → Trace (Unit {0})) (list : Stmts → State → Trace (Unit {0})) {a b : ℕ} (s : Stmt)
        → IsEmpty s → LaidStmt M ps s a b → (σ : State) (m : List ℕ) → At M sound s₀ κ a σ m
        → Follows M sound s₀ N κ b σ.steps (body_by procedures fuel expr stmt list s σ)
    unfolding body_by
    sim_deepest expr stmt list Stmt.empty o LaidStmt.empty σ m h = stay M sound s₀ N σ m (le_refl _) h
    sim_deepest expr stmt list (Stmt.assign t e) o k σ m h = absurd o
    sim_deepest expr stmt list (Stmt.to_a e) o k σ m h = absurd o
    sim_deepest expr stmt list (Stmt.set_x c) o k σ m h = absurd o
    sim_deepest expr stmt list (Stmt.if c s t) o k σ m h = absurd o
    sim_deepest expr stmt list (Stmt.when c s) o k σ m h = absurd o
    sim_deepest expr stmt list (Stmt.while c s) o k σ m h = absurd o
    sim_deepest expr stmt list (Stmt.for i e s) o k σ m h = absurd o
    sim_deepest expr stmt list (Stmt.for_x c s) o k σ m h = absurd o
    sim_deepest expr stmt list (Stmt.call p) o k σ m h = absurd o
    sim_deepest expr stmt list (Stmt.call_with p e) o k σ m h = absurd o
    sim_deepest expr stmt list (Stmt.compound ss) o k σ m h = absurd o

    sim_stmt : (left : ℕ) → StmtsFollow (StmtOk x left) (stmt_at procedures fuel left)
    unfolding StmtOk stmt_at
    sim_stmt zero s a b o k σ m l h = at_end_lem M sound s₀ N (sim_deepest _ _ _ s o k σ m h)
    sim_stmt (suc left) s a b o k σ m l h = at_end_lem M sound s₀ N (sim_body (suc left) (sim_stmt left) s a b o k σ m l h)

    -- a body, of the program or of a procedure
    pub sim_outermost : {a b : ℕ} (ss : Stmts) → StmtsBy (StmtOk x 33) ss → LaidStmts M ps ss a b → (σ : State) (m : List ℕ) → N ≤ σ.steps + fuel
        → At M sound s₀ κ a σ m → Follows M sound s₀ N κ b σ.steps (outermost procedures fuel ss σ)
    sim_outermost ss o k σ m l h = sim_stmts (sim_stmt 33) ss o k σ m l h

  -- ---- Procedures

  -- a procedure's body and its return
  sim_procedure : (x : Context) {κ : Links} {k q r : ℕ} {ps : Known} {procedures : Procedures} {body : Stmts} {σ : State} {m : List ℕ}
      → Obeys M sound s₀ N fuel ps procedures → StmtsBy (StmtOk x 33) body → LaidProcedure M ps q body → k < 16384 → M k ≡ Role.link q
      → κ q ≡ Pending.busy r → Idle ps κ → N ≤ σ.steps + fuel → At M sound s₀ κ (suc k) σ m
      → Follows M sound s₀ N κ r σ.steps (bind (outermost procedures fuel body σ) jump)
  unfolding jump
  sim_procedure x {κ} {k} {q} {r} {ps} {procedures} {body} {σ} {m} obeys o p kb here e idle l h =
      let same : k ≡ p.link = sound.link_once k p.link q here p.item in
      let start : At M sound s₀ κ (suc p.link) σ m = subst (λ (n : ℕ). At M sound s₀ κ (suc n) σ m) same h in
      let below : p.link < 16384 = subst (λ (n : ℕ). n < 16384) same kb in
      follow M sound s₀ (sim_outermost x ps procedures obeys κ idle body o p.statements σ m l start)
      (λ u σ₁ m₁ l₁ h₁. ok_done m₁ (le₁ σ₁.steps) (do_return M sound s₀ h₁ p.return below p.item e))

  -- no procedure
  pub obeys_none : (procedures : Procedures) → Obeys M sound s₀ N fuel [] procedures
  obeys_none procedures = record { callee = λ q k. absurd (unknown refl k) }
    where
      unknown : {ps : Known} {q : ℕ} → ps ≡ [] → Knows ps q → ⊥
      unknown e Knows.here = let z : ◌≡◌ {A = ℕ} 0 1 = cc in omega arith
      unknown e (Knows.earlier k) = let z : ◌≡◌ {A = ℕ} 0 1 = cc in omega arith

  -- one more
  pub obeys_more : (x : Context) {n : ℕ} {ps : Known} {procedures : Procedures} {body : Stmts} → Obeys M sound s₀ N fuel ps procedures
      → StmtsBy (StmtOk x 33) body → LaidProcedure M ps n body → (Knows ps n → ⊥)
      → Obeys M sound s₀ N fuel ((n, body) ∷ ps) (λ q σ. cond (eqb q n) (outermost procedures fuel body σ) (procedures q σ))
  obeys_more x {n} {ps} {procedures} {body} obeys o p fresh = record { callee = pick }
    where
      pick : {κ : Links} {k r : ℕ} {σ : State} {m : List ℕ} (q : ℕ) → Knows ((n, body) ∷ ps) q → k < 16384 → M k ≡ Role.link q → κ q ≡ Pending.busy r
          → IdleBut q ((n, body) ∷ ps) κ → N ≤ σ.steps + fuel → At M sound s₀ κ (suc k) σ m
          → Follows M sound s₀ N κ r σ.steps (bind (cond (eqb q n) (outermost procedures fuel body σ) (procedures q σ)) jump)
      pick {κ} {k} {r} {σ} {m} q knows kb here e idle l h =
          cond_when (λ (t : Trace (Unit {0})). Follows M sound s₀ N κ r σ.steps (bind t jump)) (eqb q n) _ _
          (λ same. this (eqb-true q n same))
          (λ other. obeys.callee q (known_earlier knows (eqb-false q n other)) kb here e (λ r₁ k₁ d. idle r₁ (Knows.earlier k₁) d) l h)
        where
          this : q ≡ n → Follows M sound s₀ N κ r σ.steps (bind (outermost procedures fuel body σ) jump)
          this same = sim_procedure x obeys o (rw same p) kb here e (λ r₁ k₁. idle r₁ (Knows.earlier k₁) (λ d. fresh (subst (Knows ps) (sym d ∙ same) k₁))) l h
