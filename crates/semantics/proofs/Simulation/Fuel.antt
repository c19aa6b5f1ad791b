-- More fuel only goes on: the trace with less fuel is a beginning of the trace with more.
use Prim.Native.Nat.{ℕ, zero, suc, ◌+◌, ◌≤◌}
use mathlib.Core.Bool.{Bool, true, false, cond}
use mathlib.Core.List.{List, [], ◌∷◌}
use native.Mathlib.Nat.{not-suc-le-zero, le_of_suc-le-suc}
use lib.Dec.{eqb}
use Rattle.tree.specs.Tree.{CellId, Expr, Term, Cond, Stmt, Stmts, Declaration, Program}
use Rattle.semantics.specs.Trace.{State, Trace, bind, next, ended}
use Rattle.semantics.specs.Acts.{tick, x_cell}
use Rattle.semantics.specs.Meaning.{Procedures, called, chosen, while_turns, for_turns, stmts_by, term_by, cond_by, expr_by, expr_at, body_by, stmt_at, outermost, with_declaration, procedures_from, procedures_of, meaning}
use Rattle.tree.specs.Symbols.{globals_of}
use Rattle.semantics.specs.Agreement.{Begins}

same : {A : Type 0} (t : Trace A) → Begins t t
same (Trace.done a σ) = Begins.at_done
same (Trace.broke σ) = Begins.at_broke
same (Trace.out σ) = Begins.at_out
same (Trace.observe m t) = Begins.at_observe (same t)

both : {A B : Type 0} {t u : Trace A} {g h : A → State → Trace B} → Begins t u → ((a : A) (σ : State) → Begins (g a σ) (h a σ)) → Begins (bind t g) (bind u h)
unfolding bind
both Begins.at_out k = Begins.at_out
both (Begins.at_done {a = a} {τ = τ}) k = k a τ
both Begins.at_broke k = Begins.at_broke
both (Begins.at_observe p) k = Begins.at_observe (both p k)

-- the part after is the same
on : {A B : Type 0} {t u : Trace A} (g : A → State → Trace B) → Begins t u → Begins (bind t g) (bind u g)
on g p = both p (λ a σ. same (g a σ))

-- a meaning of parts begins another
abbrev Extends : {P A : Type 0} → (P → State → Trace A) → (P → State → Trace A) → Type 0
Extends {P} f g = (p : P) (σ : State) → Begins (f p σ) (g p σ)

then_next : {f g : State → Trace (Unit {0})} → ((σ : State) → Begins (f σ) (g σ)) → (u : Unit {0}) (σ : State) → Begins (next f u σ) (next g u σ)
unfolding next
then_next k u σ = k σ

ways : {f g h k : State → Trace (Unit {0})} → ((σ : State) → Begins (f σ) (h σ)) → ((σ : State) → Begins (g σ) (k σ)) → (v : Bool) (σ : State)
    → Begins (chosen f g v σ) (chosen h k v σ)
unfolding chosen
ways a b true σ = a σ
ways a b false σ = b σ

stop : (σ : State) → Begins {A = Unit {0}} (Trace.done tt σ) (Trace.done tt σ)
stop σ = Begins.at_done

-- ---- Loops

while_begins : {c d : State → Trace Bool} {b e : State → Trace (Unit {0})} → ((σ : State) → Begins (c σ) (d σ)) → ((σ : State) → Begins (b σ) (e σ))
    → (f g : ℕ) → f ≤ g → (σ : State) → Begins (while_turns f c b σ) (while_turns g d e σ)
unfolding while_turns
while_begins c b zero g l σ = Begins.at_out
while_begins c b (suc f) zero l σ = absurd (not-suc-le-zero l)
while_begins c b (suc f) (suc g) l σ =
    both (c σ) (ways (λ τ. both (b τ) (λ u υ. while_begins c b f g (le_of_suc-le-suc l) (tick υ))) stop)

for_begins : {b e : State → Trace (Unit {0})} (i : CellId) → ((σ : State) → Begins (b σ) (e σ)) → (f g : ℕ) → f ≤ g → (σ : State)
    → Begins (for_turns f i b σ) (for_turns g i e σ)
unfolding for_turns
for_begins i b zero g l σ = Begins.at_out
for_begins i b (suc f) zero l σ = absurd (not-suc-le-zero l)
for_begins i b (suc f) (suc g) l σ = both (on _ (b σ)) (ways (λ τ. for_begins i b f g (le_of_suc-le-suc l) (tick τ)) stop)

stmts_begin : {f g : Stmt → State → Trace (Unit {0})} → Extends f g → Extends (stmts_by f) (stmts_by g)
unfolding stmts_by
stmts_begin k (Stmts.one s) σ = k s σ
stmts_begin k (Stmts.more ss s) σ = both (stmts_begin k ss σ) (then_next (k s))

-- ---- Expressions and statements

module _ {before after : Procedures} (procedures : Extends before after) where
  call_begins : (p : ℕ) (σ : State) → Begins (called before p σ) (called after p σ)
  unfolding called
  call_begins p σ = on _ (procedures p (tick σ))

  module _ {expr expr' : Expr → State → Trace (Unit {0})} (k : Extends expr expr') where
    term_begins : Extends (term_by before expr) (term_by after expr')
    unfolding term_by
    term_begins (Term.cell c) σ = same _
    term_begins Term.accumulator σ = same _
    term_begins Term.zero σ = same _
    term_begins (Term.bracket e) σ = k e σ
    term_begins (Term.call p) σ = call_begins p σ
    term_begins (Term.call_with p e) σ = both (k e σ) (then_next (call_begins p))

    cond_begins : Extends (cond_by before expr) (cond_by after expr')
    unfolding cond_by
    cond_begins (Cond.relation r e c) σ = on _ (k e σ)
    cond_begins (Cond.test t e) σ = on _ (k e σ)
    cond_begins (Cond.bare b) σ = same _

    expr_begins : Extends (expr_by before expr) (expr_by after expr')
    unfolding expr_by
    expr_begins (Expr.chain us t os) σ = on _ (term_begins t σ)
    expr_begins (Expr.choose c s t) σ = both (cond_begins c σ) (ways (λ τ. on _ (k s τ)) (k t))

  exprs_begin : (left : ℕ) → Extends (expr_at before left) (expr_at after left)
  unfolding expr_at
  exprs_begin zero e σ = Begins.at_out
  exprs_begin (suc left) e σ = expr_begins (exprs_begin left) e σ

  module _ (f g : ℕ) (l : f ≤ g) where
    body_begins : {expr expr' : Expr → State → Trace (Unit {0})} {stmt stmt' : Stmt → State → Trace (Unit {0})} {list list' : Stmts → State → Trace (Unit {0})}
        → Extends expr expr' → Extends stmt stmt' → Extends list list' → Extends (body_by before f expr stmt list) (body_by after g expr' stmt' list')
    unfolding body_by
    body_begins k i j Stmt.empty σ = same _
    body_begins k i j (Stmt.assign t e) σ = on _ (k e σ)
    body_begins k i j (Stmt.to_a e) σ = k e σ
    body_begins k i j (Stmt.set_x c) σ = same _
    body_begins k i j (Stmt.if c s t) σ = both (cond_begins k c σ) (ways (λ τ. on _ (i s τ)) (i t))
    body_begins k i j (Stmt.when c s) σ = both (cond_begins k c σ) (ways (i s) stop)
    body_begins k i j (Stmt.while c s) σ = while_begins (cond_begins k c) (i s) f g l σ
    body_begins k i j (Stmt.for n e s) σ = both (k e σ) (λ u τ. both (same _) (then_next (for_begins (CellId.named n) (i s) f g l)))
    body_begins k i j (Stmt.for_x c s) σ = both (same _) (then_next (for_begins x_cell (i s) f g l))
    body_begins k i j (Stmt.call p) σ = call_begins p σ
    body_begins k i j (Stmt.call_with p e) σ = both (k e σ) (then_next (call_begins p))
    body_begins k i j (Stmt.compound ss) σ = j ss σ

    stmt_begins : (left : ℕ) → Extends (stmt_at before f left) (stmt_at after g left)
    unfolding stmt_at
    stmt_begins zero s σ = on ended (body_begins (λ e τ. Begins.at_out) (λ t τ. Begins.at_out) (λ ss τ. Begins.at_out) s σ)
    stmt_begins (suc left) s σ = on ended (body_begins (exprs_begin (suc left)) (stmt_begins left) (stmts_begin (stmt_begins left)) s σ)

    outermost_begins : Extends (outermost before f) (outermost after g)
    outermost_begins ss σ = stmts_begin (stmt_begins 33) ss σ

-- ---- Procedures and a program

module _ (f g : ℕ) (l : f ≤ g) where
  cond_both : {A : Type 0} (b : Bool) {t u v w : Trace A} → Begins t u → Begins v w → Begins (cond b t v) (cond b u w)
  cond_both true p q = p
  cond_both false p q = q

  declaration_begins : (n : ℕ) {before after : Procedures} → Extends before after → (d : Declaration) → Extends (with_declaration f n before d) (with_declaration g n after d)
  unfolding with_declaration
  declaration_begins n k (Declaration.item name item) q σ = k q σ
  declaration_begins n k (Declaration.array name size checked values) q σ = k q σ
  declaration_begins n k (Declaration.procedure name accumulator locals body) q σ = cond_both (eqb q n) (outermost_begins k f g l body σ) (k q σ)
  declaration_begins n k Declaration.next_sector q σ = k q σ

  procedures_begin : (n : ℕ) {before after : Procedures} → Extends before after → (ds : List Declaration) → Extends (procedures_from f n before ds) (procedures_from g n after ds)
  unfolding procedures_from
  procedures_begin n k [] q σ = k q σ
  procedures_begin n k (d ∷ ds) q σ = procedures_begin (n + globals_of d) (declaration_begins n k d) ds q σ

  pub more_fuel : (p : Program) (σ : State) → Begins (meaning f p σ) (meaning g p σ)
  unfolding meaning procedures_of
  more_fuel p σ = Begins.at_observe (outermost_begins (procedures_begin 0 {before = λ q τ. Trace.out τ} {after = λ q τ. Trace.out τ} (λ q τ. Begins.at_out) p.declarations) f g l p.main σ)
