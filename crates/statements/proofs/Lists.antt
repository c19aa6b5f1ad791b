-- Statements separated by `;`, one after another.
use Prim.Native.Nat.{ℕ}
use Rattle.std.specs.Prelude.{Result}
use mathlib.Core.Path.{refl, ap}
use mathlib.Core.List.{List, []}
use mathlib.Core.Option.{Option, none, some}
use native.Mathlib.Nat.{add-zero}
use lib.ListN.{length}
use Rattle.source.specs.Kinds
use Rattle.tree.specs.Tree.{Stmt, Stmts}
use Rattle.tree.specs.Symbols.{Names}
use Rattle.grammar.specs.Parse.{Got, and_then, separated, repeat}
use Rattle.grammar.specs.Parse.Got.{got}
use Rattle.layout.specs.Words.{◌⧺◌, stmt_words, stmts_words}
use Rattle.grammar.specs.Statements.{parse_stmts, parse_compound}
use Rattle.parser.specs.declared.Part.{Part}
use Rattle.parser.specs.declared.Failure.{Failure}
use Rattle.emitter.specs.declared.Output.{Output}
use Rattle.parser.proofs.ReadLaws.{Sequel, reads_as}
use Rattle.layout.specs.Emission.{Emitted, Bases}
use Rattle.emitter.specs.Lays.{WordsAt, Lays}
use Rattle.emitter.proofs.Lays as lays
use Rattle.layout_laws.proofs.Spans as ends
use Rattle.expressions.specs.Compiles.{Compiles}
use Rattle.statements.specs.Forms.{followed}
use Rattle.statements.proofs.Forms.{followed_then, as_form}

module _ {f : Bases} {a : Emitted} {after : List ℕ} {r : Result (Part Output) Failure} (source : List ℕ) (names : Names) (inner : ℕ → Got Stmt) (at : ℕ) where
  pub compounded :
      Compiles f stmts_words a after r (followed source Kinds.END (parse_stmts source names inner at))
      → Compiles f stmt_words a after r (parse_compound source names inner at)
  unfolding parse_compound stmt_words
  compounded c = rw (followed_then source Kinds.END (parse_stmts source names inner at) (λ ss n. got (Stmt.compound ss) n)) (as_form Stmt.compound (λ _ _ l. l) c)

-- ---- The statements so far, if there are any

unfoldable pub with : Option Stmts → Stmt → Stmts
with none s = Stmts.one s
with (some ss) s = Stmts.more ss s

unfoldable pub words_of : Option Stmts → WordsAt
words_of none at = []
words_of (some ss) at = stmts_words ss at

-- the next one
unfoldable pub next : (ℕ → Got Stmt) → Option Stmts → ℕ → Got Stmts
next stmt done n = and_then (stmt n) (λ s m. got (with done s) m)

-- a list that has come to its next statement, with what was emitted before it
abbrev pub Listed : Bases → Emitted → Emitted → List ℕ → (ℕ → Got Stmt) → Got Stmts → ℕ → ℕ → Type 0
Listed f a b source stmt w from left = Sequel source Kinds.semicolon (next stmt) some w (λ done. Lays f a b (words_of done)) from left

pub listed_first : {f : Bases} {a : Emitted} (source : List ℕ) (names : Names) (stmt : ℕ → Got Stmt) (at : ℕ) → Listed f a a source stmt (parse_stmts source names stmt at) at (length source)
unfolding parse_stmts next with words_of separated repeat
listed_first source names stmt at = record { done = none; holds = lays.nothing; same = refl }

-- a statement that is read is the next of the list
pub listed_next : {f : Bases} {a b : Emitted} {after : List ℕ} {r : Result (Part Output) Failure} (stmt : ℕ → Got Stmt) (i : ℕ) (done : Option Stmts) → Lays f a b (words_of done) → Compiles f stmt_words b after r (stmt i)
    → Compiles f stmts_words a after r (next stmt done i)
unfolding next with words_of stmts_words ◌⧺◌
listed_next stmt i none l c = reads_as Stmts.one c refl (λ s o m. lays.same (λ at. ap (stmt_words s) (add-zero at)) (lays.sequence l m)) (lays.kept_image l.kept)
listed_next stmt i (some ss) l c =
    reads_as (Stmts.more ss) c refl (λ s o m. lays.same (λ at. ap (λ n. stmts_words ss at ⧺ stmt_words s n) (ends.stmts_end_lem ss at)) (lays.sequence l m)) (lays.kept_image l.kept)

-- the first statement is the first of the list
pub listed_one : {f : Bases} {a : Emitted} {after : List ℕ} {r : Result (Part Output) Failure} (stmt : ℕ → Got Stmt) (at : ℕ) → Compiles f stmt_words a after r (stmt at) → Compiles f stmts_words a after r (next stmt none at)
unfolding words_of
listed_one stmt at c = listed_next stmt at none lays.nothing c

-- a list that has come to its next statement, and what that answered
pub record Upcoming (f : Bases) (a : Emitted) (after : List ℕ) (source : List ℕ) (stmt : ℕ → Got Stmt) (w : Got Stmts) (r : Result (Part Output) Failure) (left : ℕ) : Type 0 where
  pub before : Emitted
  pub from : ℕ
  pub list : Listed f a before source stmt w from left
  pub read : Compiles f stmts_words a after r (next stmt list.done from)

pub upcoming_first : {f : Bases} {a : Emitted} {after : List ℕ} {r : Result (Part Output) Failure} (source : List ℕ) (names : Names) (stmt : ℕ → Got Stmt) (at : ℕ) → Compiles f stmts_words a after r (next stmt none at)
    → Upcoming f a after source stmt (parse_stmts source names stmt at) r (length source)
unfolding listed_first
upcoming_first {a = a} source names stmt at h = record { before = a; from = at; list = listed_first source names stmt at; read = h }

pub upcoming_next : {f : Bases} {a b : Emitted} {after : List ℕ} {r : Result (Part Output) Failure} {source : List ℕ} {stmt : ℕ → Got Stmt} {w : Got Stmts} {i left : ℕ} → Listed f a b source stmt w i left → Compiles f stmt_words b after r (stmt i)
    → Upcoming f a after source stmt w r left
upcoming_next {b = b} {stmt = stmt} {i = i} l c = record { before = b; from = i; list = l; read = listed_next stmt i l.done l.holds c }
