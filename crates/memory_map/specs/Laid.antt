-- The words of each form as a relation (group W of docs/REFERENCE.md): a part of a program stands in a memory map from address a up to (not including) b.
-- It says nothing of how addresses were chosen.
use Rattle.std.specs.Prelude.{ℕ, suc, ◌+◌, ◌%◌, ◌≤◌, ◌<◌, ◌≡◌, Bool, true, false, List, [], ◌∷◌}
use Rattle.std.proofs.Math.Option.{Option}
use Rattle.word.specs.Shift.{LRS}
use Rattle.instruction.specs.Opcode.{JMP, LDA, STA, JST, CAS, IRS, LDX, DIV}
use Rattle.instruction.specs.Slot.{HLT, SKP, NOP, CRA, SPL, TCA}
use Rattle.instruction.specs.Decode.{decode_def}
use Rattle.instruction.specs.Field.{indirect_of, tag_of}
use Rattle.instruction.specs.declared.Instruction.{Instruction}
use Rattle.instruction.specs.declared.Instruction.TheVariants.{Memory, Shift, Generic}
use Rattle.machine.specs.Address.{base_of}
use Rattle.tree.specs.Tree.{Id, CellId, Array, Operand, Subscript, Cell, Unary, Operation, Expr, Term, Cond, Target, Stmt, Stmts, is_inside, lowest}
use Rattle.tree.specs.Tree as tree
use Rattle.layout.specs.Words.{after, main_words, Plain, Control, unary_plain, operator_form, shift_plain, test_slot, bare_slot, controls, target_cell}
use Rattle.layout.specs.Map.{Role}
use Rattle.layout.specs.Addresses.{memory_words, first_global, saved_word}

abbrev pub Map : Type 0
Map = ℕ → Role

-- X is word 0 (A2); no cell and no link stands twice
pub record Sound (M : Map) : Type 0 where
  pub x_at : M 0 ≡ Role.cell (CellId.named Id.x) 0
  pub once : (k l : ℕ) (i : CellId) (v w : ℕ) → M k ≡ Role.cell i v → M l ≡ Role.cell i w → k ≡ l
  pub link_once : (k l p : ℕ) → M k ≡ Role.link p → M l ≡ Role.link p → k ≡ l

-- the fixed word at a is the instruction i
pub record Sits (M : Map) (a : ℕ) (i : Instruction) : Type 0 where
  pub below : suc a < memory_words
  pub word : ℕ
  pub here : M a ≡ Role.fixed word
  pub decodes : decode_def word ≡ i

-- the word at a is the HLT of a subscript's test
pub record Stops (M : Map) (a : ℕ) : Type 0 where
  pub below : suc a < memory_words
  pub here : M a ≡ Role.stop

-- the fixed word at a is a memory reference, without tag, to the address k
pub record Refers (M : Map) (a opcode : ℕ) (indirect : Bool) (k : ℕ) : Type 0 where
  pub sector : Bool
  pub address : ℕ
  pub sits : Sits M a (Memory opcode indirect false sector address)
  pub reaches : base_of a sector address ≡ k

-- an operand stands at k (W1)
pub data Direct (M : Map) : Operand → ℕ → Type 0 where
  named : {i : Id} {k v : ℕ} → k < memory_words → M k ≡ Role.cell (CellId.named i) v → Direct M (Operand.named i) k
  literal : {v k : ℕ} → k < memory_words → v < 65536 → M k ≡ Role.fixed v → Direct M (Operand.literal v) k

-- an array word: no indirect flag, the tag, and the address of element 0 (A3), below which the elements stand (A5), at most 8,192, so that -size as a signed word is below 0 if there are any
pub record ArrayWord (M : Map) (a : Array) (k : ℕ) : Type 0 where
  pub below : k < memory_words
  pub small : a.size ≤ 8192
  pub word : ℕ
  pub here : M k ≡ Role.fixed word
  pub straight : indirect_of word ≡ false
  pub tagged : tag_of word ≡ true
  pub initial : ℕ → ℕ
  pub elements : (v : ℕ) → is_inside a v ≡ true → M ((word % memory_words + v) % memory_words) ≡ Role.cell (CellId.element a.number v) (initial v)

-- an array's word at its place among the globals (A3); nothing in the map is an element of that number but those that the array's subscripts name (D7)
pub record ArrayAt (M : Map) (a : Array) (k : ℕ) : Type 0 where
  pub word : ArrayWord M a k
  pub place : k ≡ first_global + a.number
  pub only : (v l w : ℕ) → M l ≡ Role.cell (CellId.element a.number v) w → is_inside a v ≡ true

-- an instruction at b goes through the word at k; of a division b is its LRS, the word ahead of the DIV (W2, W18)
pub data Through (M : Map) (k : ℕ) : ℕ → Type 0 where
  instruction : {b opcode : ℕ} → (opcode ≡ DIV → ⊥) → Refers M b opcode true k → Through M k b
  division : {b : ℕ} → Sits M b (Shift LRS 15) → Refers M (suc b) DIV true k → Through M k b

-- a procedure word: the link's address (A3)
pub record ProcedureWord (M : Map) (p k : ℕ) : Type 0 where
  pub below : k < memory_words
  pub link : ℕ
  pub here : M k ≡ Role.fixed link
  pub small : suc link < memory_words
  pub item : M link ≡ Role.link p

-- the procedures that a part may call: their numbers and bodies, the latest first
abbrev pub Known : Type 0
Known = List (ℕ × Stmts)

pub data Knows : Known → ℕ → Type 0 where
  here : {p : ℕ} {s : Stmts} {ps : Known} → Knows ((p, s) ∷ ps) p
  earlier : {p q : ℕ} {s : Stmts} {ps : Known} → Knows ps p → Knows ((q, s) ∷ ps) p

module _ (M : Map) where
  -- the LDX of a subscript (W2)
  pub data LaidLoad : Subscript → ℕ → ℕ → Type 0 where
    by : {o : Operand} {a k : ℕ} → Refers M a LDX false k → Direct M o k → LaidLoad (Subscript.by o) a (suc a)
    hash : {a : ℕ} → LaidLoad Subscript.hash a a

  -- the ten words of a test from a on, in their order; `high` and `low` are where -1 and -size stand (W19)
  pub record TestWords (r : Array) (a : ℕ) : Type 0 where
    pub high : ℕ
    pub low : ℕ
    pub save : Refers M a STA false saved_word
    pub load : Refers M (suc a) LDA false 0
    pub compare_high : Refers M (suc (suc a)) CAS false high
    pub at_high : Direct M (Operand.literal 65535) high
    pub stop_above : Stops M (suc (suc (suc a)))
    pub nop_equal : Sits M (suc (suc (suc (suc a)))) (Generic NOP)
    pub compare_low : Refers M (suc (suc (suc (suc (suc a))))) CAS false low
    pub at_low : Direct M (Operand.literal (lowest r)) low
    pub nop_over : Sits M (suc (suc (suc (suc (suc (suc a)))))) (Generic NOP)
    pub skip : Sits M (suc (suc (suc (suc (suc (suc (suc a))))))) (Generic SKP)
    pub stop_below : Stops M (suc (suc (suc (suc (suc (suc (suc (suc a))))))))
    pub restore : Refers M (suc (suc (suc (suc (suc (suc (suc (suc (suc a))))))))) LDA false saved_word

  -- the test of a subscript, if the array's are tested; word 2 is for that only in a program that has such tests (W19, A12)
  pub data LaidTest (r : Array) : ℕ → ℕ → Type 0 where
    none : {a : ℕ} → r.checked ≡ false → M saved_word ≡ Role.free → LaidTest r a a
    words : {a : ℕ} → r.checked ≡ true → M saved_word ≡ Role.saved → TestWords r a → LaidTest r a (suc (suc (suc (suc (suc (suc (suc (suc (suc (suc a))))))))))

  -- a subscript of an array: its LDX, and its test (W2, W19)
  pub data LaidSubscript (r : Array) (s : Subscript) : ℕ → ℕ → Type 0 where
    both : {a m b : ℕ} → LaidLoad s a m → LaidTest r m b → LaidSubscript r s a b

  -- a cell's own words go from a to m; the instruction at m then has the indirect flag i and refers to k (W1, W2)
  pub data LaidCell : Cell → ℕ → ℕ → Bool → ℕ → Type 0 where
    plain : {o : Operand} {a k : ℕ} → Direct M o k → LaidCell (Cell.plain o) a a false k
    item : {r : Array} {s : Subscript} {a m k : ℕ} → LaidSubscript r s a m → ArrayAt M r k → LaidCell (Cell.item r s) a m true k

  pub data LaidOn (opcode : ℕ) : Cell → ℕ → ℕ → Type 0 where
    on : {c : Cell} {a m k : ℕ} {indirect : Bool} → LaidCell c a m indirect k → Refers M m opcode indirect k → LaidOn opcode c a (suc m)

  pub data LaidJump (a z : ℕ) : Type 0 where
    jump : Refers M a JMP false z → LaidJump a z

  -- the JST of a call (W14)
  pub data LaidCall (ps : Known) (p a : ℕ) : Type 0 where
    call : {k : ℕ} → Knows ps p → ProcedureWord M p k → Refers M a JST true k → LaidCall ps p a

  -- instructions on the registers alone
  pub data LaidPlain : List Plain → ℕ → ℕ → Type 0 where
    none : {a : ℕ} → LaidPlain [] a a
    generic : {slot a b : ℕ} {ps : List Plain} → Sits M a (Generic slot) → LaidPlain ps (suc a) b → LaidPlain (Plain.generic slot ∷ ps) a b
    shift : {kind n a b : ℕ} {ps : List Plain} → Sits M a (Shift kind n) → LaidPlain ps (suc a) b → LaidPlain (Plain.shift kind n ∷ ps) a b

  -- unary words, the last in the source first (W4, W5)
  pub data LaidUnary (u : Unary) : ℕ → ℕ → Type 0 where
    plain : {p : Plain} {a b : ℕ} → unary_plain u ≡ Option.some p → LaidPlain (p ∷ []) a b → LaidUnary u a b
    abs : {a : ℕ} → unary_plain u ≡ Option.none → Sits M a (Generic SPL) → Sits M (suc a) (Generic TCA) → LaidUnary u a (suc (suc a))

  pub data LaidUnaries : List Unary → ℕ → ℕ → Type 0 where
    none : {a : ℕ} → LaidUnaries [] a a
    more : {u : Unary} {us : List Unary} {a m b : ℕ} → LaidUnaries us a m → LaidUnary u m b → LaidUnaries (u ∷ us) a b

  -- operations from left to right (W4, W6, W18)
  pub data LaidOperations : List Operation → ℕ → ℕ → Type 0 where
    none : {a : ℕ} → LaidOperations [] a a
    binary : {o : tree.Operator} {c : Cell} {os : List Operation} {a m n l b k : ℕ} {indirect : Bool} → LaidCell c a m indirect k → LaidPlain (operator_form o).before m n
        → Refers M n (operator_form o).opcode indirect k → LaidPlain (operator_form o).after (suc n) l → LaidOperations os l b → LaidOperations (Operation.binary o c ∷ os) a b
    shift : {s : tree.Shift} {n a m b : ℕ} {os : List Operation} → LaidPlain (shift_plain s n ∷ []) a m → LaidOperations os m b
        → LaidOperations (Operation.shift s n ∷ os) a b

  -- the words after a CAS, from a to b; z is where the condition fails (W7)
  abbrev pub ControlSits : ℕ → ℕ → ℕ → Control → Type 0
  ControlSits a b z Control.nop = Sits M a (Generic NOP)
  ControlSits a b z Control.skip = Sits M a (Generic SKP)
  ControlSits a b z Control.past = LaidJump a b
  ControlSits a b z Control.fails = LaidJump a z

  pub data LaidControls (z : ℕ) : List Control → ℕ → ℕ → Type 0 where
    none : {a : ℕ} → LaidControls z [] a a
    more : {c : Control} {cs : List Control} {a b : ℕ} → ControlSits a b z c → LaidControls z cs (suc a) b → LaidControls z (c ∷ cs) a b

  -- parts that may call the procedures ps. A condition goes on to b where it holds, to z where it does not
  mutual
    -- an expression, and a conditional one (W4, W10)
    pub data LaidExpr (ps : Known) : Expr → ℕ → ℕ → Type 0 where
      chain : {us : List Unary} {t : Term} {os : List Operation} {a m n b : ℕ} → LaidTerm ps t a m → LaidUnaries us m n → LaidOperations os n b
          → LaidExpr ps (Expr.chain us t os) a b
      choose : {c : Cond} {s t : Expr} {a m n b : ℕ} → LaidCond ps c a m (suc n) → LaidExpr ps s m n → LaidJump n b → LaidExpr ps t (suc n) b
          → LaidExpr ps (Expr.choose c s t) a b

    -- a term (W3, W14)
    pub data LaidTerm (ps : Known) : Term → ℕ → ℕ → Type 0 where
      cell : {c : Cell} {a b : ℕ} → LaidOn LDA c a b → LaidTerm ps (Term.cell c) a b
      accumulator : {a : ℕ} → LaidTerm ps Term.accumulator a a
      zero : {a : ℕ} → Sits M a (Generic CRA) → LaidTerm ps Term.zero a (suc a)
      bracket : {e : Expr} {a b : ℕ} → LaidExpr ps e a b → LaidTerm ps (Term.bracket e) a b
      call : {p a : ℕ} → LaidCall ps p a → LaidTerm ps (Term.call p) a (suc a)
      call_with : {p a m : ℕ} {e : Expr} → LaidExpr ps e a m → LaidCall ps p m → LaidTerm ps (Term.call_with p e) a (suc m)

    -- a relation, a test of A, a test alone (W7, W8, W9)
    pub data LaidCond (ps : Known) : Cond → ℕ → ℕ → ℕ → Type 0 where
      relation : {r : tree.Relation} {e : Expr} {c : Cell} {a m n b z : ℕ} → LaidExpr ps e a m → LaidOn CAS c m n → LaidControls z (controls r) n b
          → LaidCond ps (Cond.relation r e c) a b z
      test : {t : tree.Test} {e : Expr} {a m z : ℕ} → LaidExpr ps e a m → Sits M m (Generic (test_slot t)) → LaidJump (suc m) z
          → LaidCond ps (Cond.test t e) a (suc (suc m)) z
      bare : {t : tree.Bare} {a z : ℕ} → Sits M a (Generic (bare_slot t)) → LaidJump (suc a) z → LaidCond ps (Cond.bare t) a (suc (suc a)) z

  mutual
    pub data LaidStmt (ps : Known) : Stmt → ℕ → ℕ → Type 0 where
      empty : {a : ℕ} → LaidStmt ps Stmt.empty a a
      -- assignments (W12)
      assign : {t : Target} {e : Expr} {a m b : ℕ} → LaidExpr ps e a m → LaidOn STA (target_cell t) m b → LaidStmt ps (Stmt.assign t e) a b
      to_a : {e : Expr} {a b : ℕ} → LaidExpr ps e a b → LaidStmt ps (Stmt.to_a e) a b
      set_x : {c : Cell} {a b : ℕ} → LaidOn LDX c a b → LaidStmt ps (Stmt.set_x c) a b
      -- `.IF`, `.WHEN` and `.WHILE` (W10, W11)
      if : {c : Cond} {s t : Stmt} {a m n b : ℕ} → LaidCond ps c a m (suc n) → LaidStmt ps s m n → LaidJump n b → LaidStmt ps t (suc n) b
          → LaidStmt ps (Stmt.if c s t) a b
      when : {c : Cond} {s : Stmt} {a m b : ℕ} → LaidCond ps c a m b → LaidStmt ps s m b → LaidStmt ps (Stmt.when c s) a b
      while : {c : Cond} {s : Stmt} {a m n : ℕ} → LaidCond ps c a m (suc n) → LaidStmt ps s m n → LaidJump n a → LaidStmt ps (Stmt.while c s) a (suc n)
      -- both forms of `.FOR` (W13)
      for : {i : Id} {e : Expr} {s : Stmt} {a m n k : ℕ} → LaidExpr ps e a m → Direct M (Operand.named i) k → Refers M m STA false k
          → LaidStmt ps s (suc m) n → Refers M n IRS false k → LaidJump (suc n) (suc m) → LaidStmt ps (Stmt.for i e s) a (suc (suc n))
      for_x : {c : Cell} {s : Stmt} {a m n : ℕ} → LaidOn LDX c a m → LaidStmt ps s m n → Refers M n IRS false 0 → LaidJump (suc n) m
          → LaidStmt ps (Stmt.for_x c s) a (suc (suc n))
      -- calls (W14)
      call : {p a : ℕ} → LaidCall ps p a → LaidStmt ps (Stmt.call p) a (suc a)
      call_with : {p a m : ℕ} {e : Expr} → LaidExpr ps e a m → LaidCall ps p m → LaidStmt ps (Stmt.call_with p e) a (suc m)
      compound : {ss : Stmts} {a b : ℕ} → LaidStmts ps ss a b → LaidStmt ps (Stmt.compound ss) a b

    -- statements one after the other (W15)
    pub data LaidStmts (ps : Known) : Stmts → ℕ → ℕ → Type 0 where
      one : {s : Stmt} {a b : ℕ} → LaidStmt ps s a b → LaidStmts ps (Stmts.one s) a b
      more : {ss : Stmts} {s : Stmt} {a m b : ℕ} → LaidStmts ps ss a m → LaidStmt ps s m b → LaidStmts ps (Stmts.more ss s) a b

  -- a procedure: its link, its code, `JMP* link` (W16)
  pub record LaidProcedure (ps : Known) (p : ℕ) (body : Stmts) : Type 0 where
    pub link : ℕ
    pub item : M link ≡ Role.link p
    pub last : ℕ
    pub statements : LaidStmts ps body (suc link) last
    pub return : Refers M last JMP true link

  -- each procedure may call the earlier ones; no two have one number
  pub data LaidProcedures : Known → Type 0 where
    none : LaidProcedures []
    more : {p : ℕ} {body : Stmts} {ps : Known} → LaidProcedure ps p body → (Knows ps p → ⊥) → LaidProcedures ps → LaidProcedures ((p, body) ∷ ps)

-- a whole program, with its entry: its main body ends in HLT, the last of its words (W17)
pub record LaidProgram (M : Map) (ps : Known) (main : Stmts) (entry : ℕ) : Type 0 where
  pub sound : Sound M
  pub procedures : LaidProcedures M ps
  pub last : ℕ
  pub statements : LaidStmts M ps main entry last
  pub halt : Sits M last (Generic HLT)
  pub end : suc last ≡ after (main_words main entry) entry
