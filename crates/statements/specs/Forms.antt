-- The parts that the forms of a statement share, and what is promised of each form.
use Rattle.std.specs.Prelude.{ℕ, ◌≡◌, List, Result, Ok, Err}
use Rattle.prelude.specs.Choice.{whether, given}
use Rattle.source.specs.Kinds
use Rattle.source.specs.declared.Token.{Token}
use Rattle.source.specs.Tokens.{token_at}
use Rattle.instruction.specs.Opcode.{STA, LDX}
use Rattle.tree.specs.Tree.{Id, Array, Operand, Cell, Expr, Cond, Stmt, Stmts}
use Rattle.tree.specs.Symbols.{Names, as_integer}
use Rattle.grammar.specs.Parse.{Got, and_then, is, expect}
use Rattle.grammar.specs.Parse.Got.{got}
use Rattle.layout.specs.Words.{Sym, ◌⧺◌, cell_words, cond_end, expr_words, cond_words, stmt_words}
use Rattle.grammar.specs.Cells.{refuse, name_as, parse_lone_cell}
use Rattle.grammar.specs.Statements as stmts
use Rattle.symbols.specs.Trees.{tree_id}
use Rattle.parser.specs.declared.Part.{Part}
use Rattle.parser.specs.declared.Failure.{Failure}
use Rattle.parser.specs.Failures.{Fails}
use Rattle.parser.specs.Reads.{Reads}
use Rattle.emitter.specs.declared.Output.{Output}
use Rattle.emitter.specs.Emitted.{emitted_by, bases_of}
use Rattle.emitter.specs.Lays.{WordsAt, KeptImage, Lays}
use Rattle.expressions.specs.declared.Body.{Body}
use Rattle.expressions.specs.declared.Guarded.{Guarded}
use Rattle.statements.specs.declared.counting.ForHead.{ForHead}
use Rattle.expressions.specs.Compiles.{Does, Decides, source_of, names_of, expr_at}

-- ---- What is parsed

-- a part and the token of a kind after it
unfoldable pub followed : {A : Type 0} → List ℕ → ℕ → Got A → Got A
followed source kind g = and_then g (λ t n. and_then (expect kind source n) (λ _ m. got t m))

-- the same of the code's answers: what was read stays as it was
abbrev pub Follows : {X : Type 0} → List ℕ → ℕ → Result (Part X) Failure → Result (Part X) Failure → Type 0
Follows source kind (Ok p) (Ok q) = (q.value ≡ p.value) × (t : Token) × (expect kind source p.next ≡ got t q.next)
Follows source kind (Ok p) (Err e) = Fails e (expect kind source p.next)
Follows source kind (Err e) r = r ≡ Err e

-- a part after `=`
unfoldable pub after_equal : {A : Type 0} → List ℕ → (ℕ → Got A) → ℕ → Got A
after_equal source part at = and_then (expect Kinds.equal source at) (λ _ n. part n)

-- what a `.FOR` counts: an integer from an expression on, or X from a cell on
pub data Head : Type 0 where
  integer : Id → Expr → Head
  hash : Cell → Head

-- the loop of a head and a body
unfoldable pub loop_of : Head → Stmt → Stmt
loop_of (Head.integer i e) s = Stmt.for i e s
loop_of (Head.hash c) s = Stmt.for_x c s

-- the integer that is counted
unfoldable pub counter_of : Head → Id
counter_of (Head.integer i e) = i
counter_of (Head.hash c) = Id.x

unfoldable pub parse_head : List ℕ → Names → (ℕ → Got Expr) → Token → Got Head
parse_head source names expr t =
    whether (is Kinds.hash t) (λ _. and_then (after_equal source (parse_lone_cell source names) t.next) (λ c n. got (Head.hash c) n)) λ _.
    given (name_as source names as_integer t) (λ i. and_then (after_equal source expr t.next) (λ e n. got (Head.integer i e) n)) λ _.
    refuse t

-- ---- What is emitted

-- an expression, stored in a cell (W12)
unfoldable pub stored_words : Cell → Expr → WordsAt
stored_words c e at = expr_words e at ⧺ cell_words STA c

-- a cell, loaded to X (W12)
unfoldable pub loaded_words : Cell → WordsAt
loaded_words c at = cell_words LDX c

-- what a `.FOR` does before its body (W13)
unfoldable pub head_words : Head → WordsAt
head_words (Head.integer i e) at = stored_words (Cell.plain (Operand.named i)) e at
head_words (Head.hash c) at = loaded_words c at

-- a condition and the statement that it guards, by where the condition goes if it fails
unfoldable pub guarded_words : Cond × Stmt → ℕ → ℕ → List Sym
guarded_words part at z = cond_words part.0 at z ⧺ stmt_words part.1 (cond_end part.0 at)

-- ---- Contracts

-- a statement
abbrev pub Stated : Body → Output → List ℕ → List ℕ → Result (Part Output) Failure → Got Stmt → Type 0
Stated = Does stmt_words

-- a guarded part
abbrev pub Guards : Body → Output → List ℕ → List ℕ → Result (Part Guarded) Failure → Got (Cond × Stmt) → Type 0
Guards = Decides guarded_words

-- the definition of each form, at the levels that are left for its own expressions and for the statements in it
module _ (body : Body) where
  abbrev pub stmt_at : ℕ → ℕ → Got Stmt
  stmt_at left = stmts.parse_stmt (source_of body) (names_of body) left

  abbrev pub guarded_at : ℕ → ℕ → ℕ → ℕ → Got (Cond × Stmt)
  guarded_at word left inner at = stmts.parse_guarded (source_of body) (names_of body) (expr_at body left) (stmt_at inner) word at

  abbrev pub value_at : ℕ → ℕ → Got Expr
  value_at left at = after_equal (source_of body) (expr_at body left) at

  abbrev pub load_at : ℕ → Got Cell
  load_at at = after_equal (source_of body) (parse_lone_cell (source_of body) (names_of body)) at

  abbrev pub element_at : ℕ → Array → ℕ → Got Stmt
  element_at left array at = stmts.parse_element (source_of body) (names_of body) (expr_at body left) array at

  abbrev pub head_at : ℕ → ℕ → Got Head
  head_at left at = parse_head (source_of body) (names_of body) (expr_at body left) (token_at (source_of body) at)

  abbrev pub if_at : ℕ → ℕ → ℕ → Got Stmt
  if_at left inner at = stmts.parse_if (source_of body) (names_of body) (expr_at body left) (stmt_at inner) at

  abbrev pub when_at : ℕ → ℕ → ℕ → Got Stmt
  when_at left inner at = stmts.parse_when (source_of body) (names_of body) (expr_at body left) (stmt_at inner) at

  abbrev pub while_at : ℕ → ℕ → ℕ → Got Stmt
  while_at left inner at = stmts.parse_while (source_of body) (names_of body) (expr_at body left) (stmt_at inner) at

  abbrev pub for_at : ℕ → ℕ → ℕ → Got Stmt
  for_at left inner at = stmts.parse_for (source_of body) (names_of body) (expr_at body left) (stmt_at inner) (token_at (source_of body) at)

  abbrev pub stmts_at : ℕ → ℕ → Got Stmts
  stmts_at left at = stmts.parse_stmts (source_of body) (names_of body) (stmt_at left) at

  abbrev pub outermost_at : ℕ → Got Stmts
  outermost_at at = stmts.parse_outermost (source_of body) (names_of body) at

  abbrev pub compound_at : ℕ → ℕ → Got Stmt
  compound_at inner at = stmts.parse_compound (source_of body) (names_of body) (stmt_at inner) at

  abbrev pub form_at : ℕ → ℕ → stmts.StmtStart → ℕ → Got Stmt
  form_at left inner start at = stmts.stmt_from (source_of body) (names_of body) (expr_at body left) (stmt_at inner) start at

-- a head, with what it counts, of a function's answer
abbrev pub DoesHead : Body → Output → List ℕ → List ℕ → Result (Part ForHead) Failure → Got Head → Type 0
DoesHead body output before after r g =
    let a = emitted_by output before in
    Reads (λ h o. Lays (bases_of body.context) a (emitted_by o.output after) (head_words h) × (tree_id o.id ≡ counter_of h)) (KeptImage a after) r g
