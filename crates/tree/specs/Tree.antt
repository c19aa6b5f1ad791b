-- The syntax tree: one constructor for each form. It holds ids and values, no addresses, and no names but those that declarations declare.
use Rattle.std.specs.Prelude.{ℕ, ◌-◌, ◌%◌, Bool, true, false, cond, eqb, leb, ltb, List}

-- ---- Cells

-- the id of an integer or a named constant: X; the number of a global, which counts all globals that take a word, in order;
-- the number of its procedure, and its own among the locals of that procedure that take a word, in order
pub data Id : Type 0 where
  x : Id
  global : ℕ → Id
  local : ℕ → ℕ → Id

-- a cell of the semantics: an integer or a named constant; an element of an array, by the array's number and the subscript's word (M1)
pub data CellId : Type 0 where
  named : Id → CellId
  element : ℕ → ℕ → CellId

unfoldable pub same_id : Id → Id → Bool
same_id Id.x Id.x = true
same_id Id.x (Id.global n) = false
same_id Id.x (Id.local q n) = false
same_id (Id.global m) Id.x = false
same_id (Id.global m) (Id.global n) = eqb m n
same_id (Id.global m) (Id.local q n) = false
same_id (Id.local p m) Id.x = false
same_id (Id.local p m) (Id.global n) = false
same_id (Id.local p m) (Id.local q n) = cond (eqb p q) (eqb m n) false

unfoldable pub same_cell : CellId → CellId → Bool
same_cell (CellId.named i) (CellId.named j) = same_id i j
same_cell (CellId.named i) (CellId.element b w) = false
same_cell (CellId.element a v) (CellId.named j) = false
same_cell (CellId.element a v) (CellId.element b w) = cond (eqb a b) (eqb v w) false

-- an array's number, counted with the globals; its size; whether its subscripts are tested (D17)
pub record Array : Type 0 where
  pub number : ℕ
  pub size : ℕ
  pub checked : Bool

-- whether a word is one of the array's subscripts, which are -size to -1 (D7, M9)
unfoldable pub is_inside : Array → ℕ → Bool
is_inside a v = cond (leb (65536 - a.size) v) (ltb v 65536) false

-- -size as a word: the lowest subscript, or 0 of an array that has none (D7, W19)
abbrev pub lowest : Array → ℕ
lowest a = (65536 - a.size) % 65536

-- an operand: an integer or a named constant by its id, a numeral or a compconstant by its value (E1)
pub data Operand : Type 0 where
  named : Id → Operand
  literal : ℕ → Operand

-- a subscript: an operand that X is loaded with, or `#`, X as it stands (E3)
pub data Subscript : Type 0 where
  by : Operand → Subscript
  hash : Subscript

-- a cell: an operand, or an element by its array and subscript (E2)
pub data Cell : Type 0 where
  plain : Operand → Cell
  item : Array → Subscript → Cell

-- ---- Expressions and conditions

-- the unary words (E4)
pub data Unary : Type 0 where
  addc inc neg ssp ssm chs csa not icleft cleft swop icright cright abs : Unary

-- the operators that have a cell behind them (E7)
pub data Operator : Type 0 where
  add subtract and nev multiply divide modulo : Operator

-- the shift words (E7)
pub data Shift : Type 0 where
  lgr ars arr lgl als alr : Shift

-- an operation: an operator with its cell, or a shift with its amount (E7)
pub data Operation : Type 0 where
  binary : Operator → Cell → Operation
  shift : Shift → ℕ → Operation

-- the relations (E8)
pub data Relation : Type 0 where
  equal not_equal less greater at_most at_least : Relation

-- the tests of A (E8)
pub data Test : Type 0 where
  zero nonzero plus minus odd even : Test

-- the tests of C and of the sense switches, which stand alone (E8)
pub data Bare : Type 0 where
  cset notc sense1 sense2 sense3 sense4 anykey nokey : Bare

mutual
  -- unary words, a term and operations, all in the order of the source (E4); or a condition with its two parts (E5)
  pub data Expr : Type 0 where
    chain : List Unary → Term → List Operation → Expr
    choose : Cond → Expr → Expr → Expr

  -- the terms; a call has its procedure's number, and an argument or none (E6)
  pub data Term : Type 0 where
    cell : Cell → Term
    accumulator : Term
    zero : Term
    bracket : Expr → Term
    call : ℕ → Term
    call_with : ℕ → Expr → Term

  -- the conditions: a relation, a test of A, a test that stands alone (E8)
  pub data Cond : Type 0 where
    relation : Relation → Expr → Cell → Cond
    test : Test → Expr → Cond
    bare : Bare → Cond

-- ---- Statements

-- what an assignment stores to, A left out: an integer or an element (S2)
pub data Target : Type 0 where
  integer : Id → Target
  item : Array → Subscript → Target

mutual
  -- the statements, in the order of their rules (S1 to S10): `@ =` is to_a, `# =` is set_x, `.FOR # =` is for_x
  pub data Stmt : Type 0 where
    empty : Stmt
    assign : Target → Expr → Stmt
    to_a : Expr → Stmt
    set_x : Cell → Stmt
    if : Cond → Stmt → Stmt → Stmt
    when : Cond → Stmt → Stmt
    while : Cond → Stmt → Stmt
    for : Id → Expr → Stmt → Stmt
    for_x : Cell → Stmt → Stmt
    call : ℕ → Stmt
    call_with : ℕ → Expr → Stmt
    compound : Stmts → Stmt

  -- statements in a row: one, or some and one more (D1, S10)
  pub data Stmts : Type 0 where
    one : Stmt → Stmts
    more : Stmts → Stmt → Stmts

-- ---- Declarations and a program

-- a name as bytes; a tree has its first six characters (T7)
abbrev pub Name : Type 0
Name = List ℕ

-- what may be declared at both levels, with its value (D3, D4, D11)
pub data Item : Type 0 where
  integer : Item
  constant : ℕ → Item
  compconstant : ℕ → Item

-- one declared name, or the next sector; a list of names is as many declarations
pub data Declaration : Type 0 where
  -- an integer, a constant or a compconstant (D3, D4)
  item : Name → Item → Declaration
  -- with its size, whether its subscripts are tested, and its initial values (D5, D17)
  array : Name → ℕ → Bool → List ℕ → Declaration
  -- with whether it is an accumulator procedure, its locals and its statements (D9, D10)
  procedure : Name → Bool → List (Name × Item) → Stmts → Declaration
  -- without a name (D8)
  next_sector : Declaration

-- whether `.CHECKED` is there (D17), the other declarations, and the statements of the main body (D1)
pub record Program : Type 0 where
  pub checked : Bool
  pub declarations : List Declaration
  pub main : Stmts
