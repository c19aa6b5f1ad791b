-- Assignments and calls, as statements.
use Prim.Native.Nat.{ℕ}
use Rattle.std.specs.Prelude.{Result}
use mathlib.Core.Path.{◌≡◌, sym, ap, ap₂, subst}
use mathlib.Core.Bool.{Bool, true, false}
use mathlib.Core.List.{List}
use native.Mathlib.Omega.{arith}
use Rattle.prelude.specs.Choice.{whether}
use Rattle.source.specs.Kinds
use Rattle.source.specs.Tokens.{token_at}
use Rattle.tree.specs.Tree.{Expr, Term, Target, Stmt}
use Rattle.tree.specs.Symbols.{Names}
use Rattle.grammar.specs.Parse.{Got, and_then, is, expect}
use Rattle.grammar.specs.Parse.Got.{got, failed}
use Rattle.layout.specs.Words.{target_cell, expr_words, term_words, stmt_words}
use Rattle.grammar.specs.Cells.{parse_lone_cell}
use Rattle.grammar.specs.Statements.{parse_assigned, parse_set_x}
use Rattle.grammar.specs.Expressions.{parse_bracketed, parse_call}
use Rattle.parser.specs.declared.Part.{Part}
use Rattle.parser.specs.declared.Failure.{Failure}
use Rattle.emitter.specs.declared.Output.{Output}
use Rattle.layout.specs.Emission.{Emitted, Bases}
use Rattle.expressions.specs.Compiles.{Compiles}
use Rattle.statements.specs.Forms.{after_equal, stored_words, loaded_words}
use Rattle.parser.specs.Failures.{number_of}
use Rattle.parser.specs.Reads.{Reads}
use Rattle.parser.specs.Reads.Reads.{read, fails}
use Rattle.parser.proofs.ReadLaws.{then_then}
use Rattle.statements.proofs.Forms.{as_form}

module _ (source : List ℕ) (names : Names) (expr : ℕ → Got Expr) (at : ℕ) where
  -- `=` expression as some statement
  assigned_as : (stmt : Expr → Stmt) → parse_assigned source names expr stmt at ≡ and_then (after_equal source expr at) (λ e n. got (stmt e) n)
  unfolding parse_assigned after_equal
  assigned_as stmt = then_then (expect Kinds.equal source at) (λ _ n. expr n) (λ e n. got (stmt e) n)

  pub stored_as : {f : Bases} {a : Emitted} {after : List ℕ} {r : Result (Part Output) Failure} (target : Target) → Compiles f (stored_words (target_cell target)) a after r (after_equal source expr at)
      → Compiles f stmt_words a after r (parse_assigned source names expr (Stmt.assign target) at)
  unfolding stored_words stmt_words
  stored_as target c = rw (assigned_as (Stmt.assign target)) (as_form (Stmt.assign target) (λ e o l. l) c)

  pub to_a_lem : {f : Bases} {a : Emitted} {after : List ℕ} {r : Result (Part Output) Failure} → Compiles f expr_words a after r (after_equal source expr at) → Compiles f stmt_words a after r (parse_assigned source names expr Stmt.to_a at)
  unfolding stmt_words
  to_a_lem c = rw (assigned_as Stmt.to_a) (as_form Stmt.to_a (λ e o l. l) c)

module _ (source : List ℕ) (names : Names) (at : ℕ) where
  pub to_x : {f : Bases} {a : Emitted} {after : List ℕ} {r : Result (Part Output) Failure} → Compiles f loaded_words a after r (after_equal source (parse_lone_cell source names) at) → Compiles f stmt_words a after r (parse_set_x source names at)
  unfolding parse_set_x after_equal loaded_words stmt_words
  to_x c =
      rw (then_then (expect Kinds.equal source at) (λ _ n. parse_lone_cell source names n) (λ cell n. got (Stmt.set_x cell) n))
      (as_form Stmt.set_x (λ e o l. l) c)

-- ---- Calls

-- what is got is known
module _ {A B X : Type 0} {done : A → X → Type 0} {done' : B → X → Type 0} {kept : Type 0} {r : Result (Part X) Failure} where
  relabel : {n : ℕ} (x : A) (y : B) → ((v : X) → done x v → done' y v) → Reads done kept r (got x n) → Reads done' kept r (got y n)
  relabel {n} x y k (read {t} {x = v} {n = m} i p l) =
      let e : t ≡ x = cc in
      let q : m ≡ n = cc in
      read (ap (got y) (sym q)) p (k v (subst (λ z. done z v) e l))
  relabel x y k (fails i p w) = absurd (let s = i.0 in let z : ◌≡◌ {A = ℕ} 0 1 = cc in omega arith)

  refail : {k o : ℕ} → Reads done kept r (failed k o) → Reads done' kept r (failed k o)
  refail (read i p l) = absurd (let z : ◌≡◌ {A = ℕ} 0 1 = cc in omega arith)
  refail {k} {o} (fails {e} i p w) =
      let s = i.0 in
      let n : k ≡ number_of e.cause = cc in
      let m : o ≡ e.at = cc in
      fails (ap₂ (λ x y. failed x y) n m, i.1) p w

-- a call has the same words as a statement and as a term
module _ {f : Bases} {a : Emitted} {after : List ℕ} {r : Result (Part Output) Failure} (source : List ℕ) (names : Names) (expr : ℕ → Got Expr) (p at : ℕ) where
  pub called : Compiles f term_words a after r (parse_call source names expr (Term.call p) (Term.call_with p) at) → Compiles f stmt_words a after r (parse_call source names expr (Stmt.call p) (Stmt.call_with p) at)
  unfolding parse_call and_then term_words stmt_words
  called c = go (is Kinds.left_parenthesis (token_at source at)) (parse_bracketed source names expr (token_at source at).next) c
    where
      go : (x : Bool) (g : Got Expr)
          → Compiles f term_words a after r (whether x (λ _. and_then g (λ e n. got (Term.call_with p e) n)) (λ _. got (Term.call p) at))
          → Compiles f stmt_words a after r (whether x (λ _. and_then g (λ e n. got (Stmt.call_with p e) n)) (λ _. got (Stmt.call p) at))
      go true (got e n) c = relabel (Term.call_with p e) (Stmt.call_with p e) (λ v l. l) c
      go true (failed k o) c = refail c
      go false g c = relabel (Term.call p) (Stmt.call p) (λ v l. l) c

pub ruleset for_form = (stored_as, to_a_lem, to_x, called)
