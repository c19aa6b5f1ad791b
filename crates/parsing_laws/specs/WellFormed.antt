-- What holds of every program that is accepted: each name in the tree is declared, nesting and numbers are in range, and everything fits.
use Rattle.std.specs.Prelude.{ℕ, zero, suc, ◌+◌, ◌≤◌, ◌<◌, ◌≡◌, Bool, List, [], ◌∷◌, ◌++◌, length, get_or}
use Rattle.tree.specs.Tree.{Id, Array, Operand, Subscript, Cell, Operation, Expr, Term, Cond, Target, Stmt, Stmts, Name, Item, Declaration, Program}
use Rattle.layout.specs.Allocation.{Allocation, allocated, local_words}
use Rattle.layout.specs.Limits.{no_failure, space_limit, declaration_limit, main_limit}
use Rattle.grammar.specs.Parse.Got.{got}
use Rattle.grammar.specs.Program.{parse_program}
use Rattle.layout.specs.Addresses.{global_words}

-- P holds of each of a list
abbrev pub All : {A : Type 0} → (A → Type 0) → List A → Type 0
All P [] = Unit {0}
All P (a ∷ rest) = P a × All P rest

-- ---- What a body may name

-- what a word of sector 0 is of: an array with its size and whether its subscripts are tested; `none` past the last
pub data Kind : Type 0 where
  cell : Kind
  array : ℕ → Bool → Kind
  procedure : Kind
  none : Kind

-- the kinds of the globals, by number; the procedure whose body it is, with its count of local words (0 in the main body)
pub record Context : Type 0 where
  pub globals : List Kind
  pub own : ℕ
  pub locals : ℕ

abbrev pub kind_at : Context → ℕ → Kind
kind_at x n = get_or x.globals n Kind.none

abbrev pub IdOk : Context → Id → Type 0
IdOk x Id.x = Unit {0}
IdOk x (Id.global n) = kind_at x n ≡ Kind.cell
IdOk x (Id.local p n) = (p ≡ x.own) × (n < x.locals)

abbrev pub OperandOk : Context → Operand → Type 0
OperandOk x (Operand.named i) = IdOk x i
OperandOk x (Operand.literal v) = v < 65536

abbrev pub ArrayOk : Context → Array → Type 0
ArrayOk x a = kind_at x a.number ≡ Kind.array a.size a.checked

abbrev pub ProcedureOk : Context → ℕ → Type 0
ProcedureOk x p = kind_at x p ≡ Kind.procedure

abbrev pub SubscriptOk : Context → Subscript → Type 0
SubscriptOk x (Subscript.by o) = OperandOk x o
SubscriptOk x Subscript.hash = Unit {0}

abbrev pub CellOk : Context → Cell → Type 0
CellOk x (Cell.plain o) = OperandOk x o
CellOk x (Cell.item a s) = ArrayOk x a × SubscriptOk x s

abbrev pub OperationOk : Context → Operation → Type 0
OperationOk x (Operation.binary o c) = CellOk x c
OperationOk x (Operation.shift s n) = (1 ≤ n) × (n ≤ 15)

abbrev pub OperationsOk : Context → List Operation → Type 0
OperationsOk x os = All (OperationOk x) os

-- ---- Forms, by the nesting left as parsing has it

abbrev pub TermOk : Context → (Expr → Type 0) → Term → Type 0
TermOk x inner (Term.cell c) = CellOk x c
TermOk x inner Term.accumulator = Unit {0}
TermOk x inner Term.zero = Unit {0}
TermOk x inner (Term.bracket e) = inner e
TermOk x inner (Term.call p) = ProcedureOk x p
TermOk x inner (Term.call_with p e) = ProcedureOk x p × inner e

abbrev pub CondOk : Context → (Expr → Type 0) → Cond → Type 0
CondOk x expr (Cond.relation r e c) = expr e × CellOk x c
CondOk x expr (Cond.test t e) = expr e
CondOk x expr (Cond.bare b) = Unit {0}

abbrev pub ExprBy : Context → (Expr → Type 0) → Expr → Type 0
ExprBy x inner (Expr.chain us t os) = TermOk x inner t × OperationsOk x os
ExprBy x inner (Expr.choose c s t) = CondOk x inner c × inner s × inner t

unfoldable pub ExprOk : Context → ℕ → Expr → Type 0
ExprOk x zero e = ⊥
ExprOk x (suc left) e = ExprBy x (ExprOk x left) e

abbrev pub TargetOk : Context → Target → Type 0
TargetOk x (Target.integer i) = IdOk x i
TargetOk x (Target.item a s) = ArrayOk x a × SubscriptOk x s

abbrev pub StmtsBy : (Stmt → Type 0) → Stmts → Type 0
StmtsBy stmt (Stmts.one s) = stmt s
StmtsBy stmt (Stmts.more ss s) = StmtsBy stmt ss × stmt s

abbrev pub StmtBy : Context → (Expr → Type 0) → (Stmt → Type 0) → Stmt → Type 0
StmtBy x expr inner Stmt.empty = Unit {0}
StmtBy x expr inner (Stmt.assign t e) = TargetOk x t × expr e
StmtBy x expr inner (Stmt.to_a e) = expr e
StmtBy x expr inner (Stmt.set_x c) = CellOk x c
StmtBy x expr inner (Stmt.if c s t) = CondOk x expr c × inner s × inner t
StmtBy x expr inner (Stmt.when c s) = CondOk x expr c × inner s
StmtBy x expr inner (Stmt.while c s) = CondOk x expr c × inner s
StmtBy x expr inner (Stmt.for i e s) = IdOk x i × expr e × inner s
StmtBy x expr inner (Stmt.for_x c s) = CellOk x c × inner s
StmtBy x expr inner (Stmt.call p) = ProcedureOk x p
StmtBy x expr inner (Stmt.call_with p e) = ProcedureOk x p × expr e
StmtBy x expr inner (Stmt.compound ss) = StmtsBy inner ss

-- a statement with no level left is empty (S12)
abbrev pub IsEmpty : Stmt → Type 0
IsEmpty Stmt.empty = Unit {0}
IsEmpty (Stmt.assign t e) = ⊥
IsEmpty (Stmt.to_a e) = ⊥
IsEmpty (Stmt.set_x c) = ⊥
IsEmpty (Stmt.if c s t) = ⊥
IsEmpty (Stmt.when c s) = ⊥
IsEmpty (Stmt.while c s) = ⊥
IsEmpty (Stmt.for i e s) = ⊥
IsEmpty (Stmt.for_x c s) = ⊥
IsEmpty (Stmt.call p) = ⊥
IsEmpty (Stmt.call_with p e) = ⊥
IsEmpty (Stmt.compound ss) = ⊥

unfoldable pub StmtOk : Context → ℕ → Stmt → Type 0
StmtOk x zero s = IsEmpty s
StmtOk x (suc left) s = StmtBy x (ExprOk x (suc left)) (StmtOk x left) s

-- ---- Declarations

abbrev pub item_kinds : Item → List Kind
item_kinds Item.integer = Kind.cell ∷ []
item_kinds (Item.constant v) = Kind.cell ∷ []
item_kinds (Item.compconstant v) = []

unfoldable pub kinds_of : List Declaration → List Kind
kinds_of [] = []
kinds_of (Declaration.item name item ∷ ds) = item_kinds item ++ kinds_of ds
kinds_of (Declaration.array name size checked values ∷ ds) = Kind.array size checked ∷ kinds_of ds
kinds_of (Declaration.procedure name accumulator locals body ∷ ds) = Kind.procedure ∷ kinds_of ds
kinds_of (Declaration.next_sector ∷ ds) = kinds_of ds

-- a constant's value is a word
abbrev pub ValueOk : Item → Type 0
ValueOk Item.integer = Unit {0}
ValueOk (Item.constant v) = v < 65536
ValueOk (Item.compconstant v) = v < 65536

abbrev pub LocalsOk : List (Name × Item) → Type 0
LocalsOk ls = All (λ (l : Name × Item). ValueOk l.1) ls

abbrev pub WordsOk : List ℕ → Type 0
WordsOk vs = All (λ (v : ℕ). v < 65536) vs

-- a declaration under the allocation and the kinds of those before it: its word of sector 0, its values, its body, and its space
abbrev pub DeclarationOk : Allocation → List Kind → Declaration → Type 0
DeclarationOk st kinds (Declaration.item name item) = ValueOk item × (st.scope.taken + length (item_kinds item) ≤ global_words)
DeclarationOk st kinds (Declaration.array name size checked values) =
    (st.scope.taken < global_words) × (size ≤ 8192) × (length values ≤ size) × WordsOk values × (space_limit st size ≡ no_failure)
DeclarationOk st kinds (Declaration.procedure name accumulator locals body) =
    (st.scope.taken < global_words) × LocalsOk locals
    × StmtsBy (StmtOk (record { globals = kinds; own = st.scope.taken; locals = local_words st name locals }) 33) body
    × (declaration_limit st (Declaration.procedure name accumulator locals body) ≡ no_failure)
DeclarationOk st kinds Declaration.next_sector = declaration_limit st Declaration.next_sector ≡ no_failure

pub data DeclarationsOk : List Declaration → Type 0 where
  none : DeclarationsOk []
  more : (ds : List Declaration) (d : Declaration) → DeclarationsOk ds → DeclarationOk (allocated ds) (kinds_of ds) d → DeclarationsOk (ds ++ (d ∷ []))

-- an array's subscripts are tested exactly if the program's are (D17)
abbrev pub Flagged : Bool → Declaration → Type 0
Flagged checked (Declaration.item name item) = Unit {0}
Flagged checked (Declaration.array name size flag values) = flag ≡ checked
Flagged checked (Declaration.procedure name accumulator locals body) = Unit {0}
Flagged checked Declaration.next_sector = Unit {0}

pub record WellFormed (p : Program) : Type 0 where
  pub declarations : DeclarationsOk p.declarations
  pub flags : All (Flagged p.checked) p.declarations
  pub main : StmtsBy (StmtOk (record { globals = kinds_of p.declarations; own = 0; locals = 0 }) 33) p.main
  pub fits : main_limit (allocated p.declarations) p.main ≡ no_failure

abbrev pub AcceptedWellFormed : Type 0
AcceptedWellFormed = (source : List ℕ) (p : Program) (n : ℕ) → parse_program source ≡ got p n → WellFormed p
