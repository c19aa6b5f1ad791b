-- What each form promises that is parsed and emitted in one go: `Reads`, with what is emitted.
use Rattle.std.specs.Prelude.{ℕ, ◌≡◌, false, List, eqb, Result, Some, None}
use Rattle.std.specs.Prelude.{Option as Turns}
use Rattle.std.proofs.Math.Option.{Option, none, some}
use Rattle.prelude.specs.Choice.{find, between}
use Rattle.source.specs.declared.Token.{Token}
use Rattle.source.specs.Tokens.{token_at}
use Rattle.tree.specs.Tree.{Cell, Operation, Relation, Expr, Cond, Term}
use Rattle.tree.specs.Symbols.{Names}
use Rattle.grammar.specs.Parse.{Got, and_then}
use Rattle.grammar.specs.Parse.Got.{got}
use Rattle.grammar.specs.Vocabulary.{relations}
use Rattle.layout.specs.Words.{Sym, operation_words}
use Rattle.grammar.specs.Cells.{parse_lone_cell, parse_in_range}
use Rattle.grammar.specs.Expressions.{TermStart, term_from, parse_bracketed, parse_call, parse_operations, parse_chain, parse_cond, parse_choice, parse_expr}
use Rattle.parser.specs.declared.Part.{Part}
use Rattle.parser.specs.declared.Failure.{Failure}
use Rattle.parser.specs.Reads.{Reads}
use Rattle.instruction.specs.Opcode.{JMP}
use Rattle.layout.specs.Map.{reference}
use Rattle.emitter.specs.declared.Output.{Output}
use Rattle.layout.specs.Emission.{Emitted, Bases}
use Rattle.emitter.specs.Emitted.{emitted_by, bases_of, Puts, Emits}
use Rattle.emitter.specs.Lays.{WordsAt, KeptImage, Lays, ForwardJump, filled}
use Rattle.cells.specs.Answers.{live}
use Rattle.expressions.specs.declared.Body.{Body}
use Rattle.expressions.specs.declared.Guarded.{Guarded}
use Rattle.expressions.specs.Chains.{Comparison, operation_at, comparison_of, relation_words, comparison_words, else_expr}

-- a part whose words are emitted from a on; of a failed one what is kept of the image
abbrev pub Compiles : {A : Type 0} → Bases → (A → WordsAt) → Emitted → List ℕ → Result (Part Output) Failure → Got A → Type 0
Compiles f words a after r g = Reads (λ t o. Lays f a (emitted_by o after) (words t)) (KeptImage a after) r g

-- a condition, whose jump where it fails is filled in later
abbrev pub Tests : {A : Type 0} → Bases → (A → ℕ → ℕ → List Sym) → Emitted → List ℕ → Result (Part Guarded) Failure → Got A → Type 0
Tests f words a after r g = Reads (λ t j. ForwardJump f a (emitted_by j.output after) (words t) j.hole) (KeptImage a after) r g

-- words after which a jump to their end is filled in
pub record LaysThenFills (f : Bases) (words : WordsAt) (a b : Emitted) (hole : ℕ) : Type 0 where
  pub end : Emitted
  pub lays : Lays f a end words
  pub is : b ≡ record { image = filled end.image hole end.next; next = end.next; pool = end.pool }

abbrev pub Alternates : {A : Type 0} → Bases → (A → WordsAt) → Emitted → List ℕ → ℕ → Result (Part Output) Failure → Got A → Type 0
Alternates f words a after hole r g = Reads (λ t o. LaysThenFills f (words t) a (emitted_by o after) hole) (KeptImage a after) r g

-- ---- The same of a function's answer, on the image before and after it

abbrev pub Does : {A : Type 0} → (A → WordsAt) → Body → Output → List ℕ → List ℕ → Result (Part Output) Failure → Got A → Type 0
Does words body output before after r g = Compiles (bases_of body.context) words (emitted_by output before) after r g

abbrev pub Decides : {A : Type 0} → (A → ℕ → ℕ → List Sym) → Body → Output → List ℕ → List ℕ → Result (Part Guarded) Failure → Got A → Type 0
Decides words body output before after r g = Tests (bases_of body.context) words (emitted_by output before) after r g

abbrev pub DoesThenFills : {A : Type 0} → ℕ → (A → WordsAt) → Body → Output → List ℕ → List ℕ → Result (Part Output) Failure → Got A → Type 0
DoesThenFills hole words body output before after r g = Alternates (bases_of body.context) words (emitted_by output before) after hole r g

-- ---- The definition of each form, at the levels that are left for its expressions

module _ (body : Body) where
  abbrev pub source_of : List ℕ
  source_of = body.reader.source.now

  abbrev pub names_of : Names
  names_of = live body.reader

  abbrev pub expr_at : ℕ → ℕ → Got Expr
  expr_at left at = parse_expr source_of names_of left at

  abbrev pub bracketed_at : ℕ → ℕ → Got Expr
  bracketed_at left at = parse_bracketed source_of names_of (expr_at left) at

  abbrev pub call_at : ℕ → ℕ → ℕ → Got Term
  call_at left number at = parse_call source_of names_of (expr_at left) (Term.call number) (Term.call_with number) at

  abbrev pub term_at : ℕ → TermStart → ℕ → Got Term
  term_at left start at = term_from source_of names_of (expr_at left) start at

  abbrev pub chain_at : ℕ → ℕ → Got Expr
  chain_at left at = parse_chain source_of names_of (expr_at left) at

  abbrev pub cond_at : ℕ → ℕ → Got Cond
  cond_at left at = parse_cond source_of names_of (expr_at left) at

  abbrev pub choice_at : ℕ → ℕ → Got Expr
  choice_at left at = parse_choice source_of names_of (expr_at left) at

  abbrev pub else_at : ℕ → ℕ → Got Expr
  else_at left at = else_expr source_of (expr_at left) at

  abbrev pub comparison_at : ℕ → Got Comparison
  comparison_at at = comparison_of source_of names_of (token_at source_of at)

  abbrev pub lone_cell_at : ℕ → Got Cell
  lone_cell_at at = parse_lone_cell source_of names_of at

  abbrev pub amount_at : ℕ → Got ℕ
  amount_at at = parse_in_range source_of names_of (between 1 15) at

  abbrev pub operation_by : Token → Option (Got Operation)
  operation_by t = operation_at source_of names_of t

  abbrev pub operations_at : ℕ → Got (List Operation)
  operations_at at = parse_operations source_of names_of at

-- ---- Parts of a form

-- one more operation, if there is one
pub data Turned (f : Bases) (output : Output) (before after : List ℕ) (r : Turns (Result (Part Output) Failure)) (g : Option (Got Operation)) : Type 0 where
  one : {o : Got Operation} {answer : Result (Part Output) Failure} → g ≡ some o → r ≡ Some answer → Compiles f (λ o _. operation_words o) (emitted_by output before) after answer o → Turned f output before after r g
  last : g ≡ none → r ≡ None → after ≡ before → Turned f output before after r g

-- the same of a function's answer
abbrev pub DoesTurn : Body → Output → List ℕ → List ℕ → Turns (Result (Part Output) Failure) → Option (Got Operation) → Type 0
DoesTurn body output before after r g = Turned (bases_of body.context) output before after r g

-- words that name nothing are the same whatever the bases
pub record Always (a b : Emitted) (w : WordsAt) : Type 0 where
  pub lays : (f : Bases) → Lays f a b w

pub record AlwaysForwardJump (a b : Emitted) (w : ℕ → ℕ → List Sym) (hole : ℕ) : Type 0 where
  pub forward : (f : Bases) → ForwardJump f a b w hole

-- such words of a function's answer: of an output, and with a forward jump
abbrev pub AlwaysDoes : WordsAt → Output → List ℕ → List ℕ → Output → Type 0
AlwaysDoes words output before after r = Always (emitted_by output before) (emitted_by r after) words

abbrev pub AlwaysDecides : (ℕ → ℕ → List Sym) → Output → List ℕ → List ℕ → Guarded → Type 0
AlwaysDecides words output before after r = AlwaysForwardJump (emitted_by output before) (emitted_by r.output after) words r.hole

-- a jump whose target is filled in later: 0 until then, at the address that is answered
pub record PutsHole (output : Output) (image : List ℕ) (r : Guarded) (image' : List ℕ) : Type 0 where
  pub puts : Puts output image r.output image' (reference JMP false 0)
  pub at : r.hole ≡ output.next

-- words in which no operand stands, so that no address decides them
pub record AlwaysEmits (ws : List Sym) (output : Output) (image : List ℕ) (r : Output) (image' : List ℕ) : Type 0 where
  pub emits : (f : Bases) → Emits f output image r image' ws

-- the words after a relation's CAS, by the relation's token
pub record Related (kind : ℕ) (a b : Emitted) (hole : ℕ) : Type 0 where
  pub forward : {row : ℕ × Relation} (f : Bases) → find (eqb kind) relations ≡ some row → ForwardJump f a b (relation_words row.1) hole

abbrev pub DecidesRelation : ℕ → Output → List ℕ → List ℕ → Guarded → Type 0
DecidesRelation kind output before after r = Related kind (emitted_by output before) (emitted_by r.output after) r.hole

-- a relation's cell and its words, by the relation's token
pub record Compares (f : Bases) (kind : ℕ) (a : Emitted) (after : List ℕ) (r : Result (Part Guarded) Failure) (g : Got Cell) : Type 0 where
  pub tests : {row : ℕ × Relation} → find (eqb kind) relations ≡ some row → Tests f comparison_words a after r (and_then g (λ cell next. got (Comparison.relation row.1 cell) next))

abbrev pub DecidesComparison : ℕ → Body → Output → List ℕ → List ℕ → Result (Part Guarded) Failure → Got Cell → Type 0
DecidesComparison kind body output before after r g = Compares (bases_of body.context) kind (emitted_by output before) after r g
