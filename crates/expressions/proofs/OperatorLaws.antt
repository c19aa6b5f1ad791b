-- Operations, one after another.
use Prim.Native.Nat.{ℕ}
use mathlib.Core.Path.{◌≡◌, refl, sym, ap, ◌∙◌}
use mathlib.Core.Bool.{Bool, true, false}
use mathlib.Core.Logic.{◌⊎◌, inl, inr}
use mathlib.Core.List.{List, [], ◌∷◌}
use mathlib.Core.Option.{Option, none, some}
use native.Mathlib.Omega.{arith}
use lib.Dec.{eqb}
use borrow.Author.Tests.{ne_eqb}
use Rattle.prelude.specs.Choice.{between, find, given, whether}
use Rattle.source.specs.Kinds.{kind_number}
use Rattle.source.specs.Kinds
use Rattle.source.specs.declared.Token.{Token}
use Rattle.word.specs.Shift.{LRS, LLS}
use Rattle.instruction.specs.Slot.{IAB}
use Rattle.source.specs.Tokens.{operator_at}
use Rattle.tree.specs.Tree.{Cell, Operator, Shift, Operation}
use Rattle.tree.specs.Symbols.{Names}
use Rattle.grammar.specs.Parse.{Got, and_then, snoc}
use Rattle.grammar.specs.Parse.Got.{got}
use Rattle.grammar.specs.Vocabulary.{operators, shifts}
use Rattle.layout.specs.Words.{Sym, ◌⧺◌, Plain, operator_form, operator_opcode, shift_kind, operation_words, operations_words}
use Rattle.grammar.specs.Cells.{parse_in_range, parse_cell}
use Rattle.grammar.specs.Expressions.{operation_of, more_operations}
use Rattle.std.specs.Prelude.{Option as Found, Some, None, Result}
use Rattle.parser.specs.declared.Part.{Part}
use Rattle.parser.specs.declared.Failure.{Failure}
use Rattle.emitter.specs.declared.Output.{Output}
use Rattle.emitter.specs.Emitted.{emitted_by}
use Rattle.layout.specs.Emission.{Emitted, Bases}
use Rattle.emitter.specs.Lays.{Lays}
use Rattle.emitter.proofs.Lays.{append_assoc, append_none, kept_image, sequence, same}
use Rattle.expressions.specs.Vocabulary.{looked_up, before_by, after_by}
use Rattle.expressions.specs.Chains.{operation_at, operator_words}
use Rattle.expressions.specs.Compiles.{Compiles, Turned}
use Rattle.expressions.proofs.VocabularyLaws.{as_row, as_some, as_none}
use Rattle.parser.proofs.ReadLaws.{then_then, reads_as}
use Rattle.expressions.proofs.Compiles.{as_tree}

-- ---- What stands before and after an operator's instruction

module _ (kind : ℕ) where
  pub before_found : {row : ℕ × Operator} → find (eqb kind) operators ≡ some row → before_by kind ≡ (operator_form row.1).before
  unfolding before_by
  before_found e = ap (λ o. given o (λ row. (operator_form row.1).before) (λ _. [])) e

  pub after_found : {row : ℕ × Operator} → find (eqb kind) operators ≡ some row → after_by kind ≡ (operator_form row.1).after
  unfolding after_by
  after_found e = ap (λ o. given o (λ row. (operator_form row.1).after) (λ _. [])) e

  pub before_division : (kind ≡ Kinds.slash) ⊎ (kind ≡ Kinds.MOD) → before_by kind ≡ Plain.shift LRS 15 ∷ []
  unfolding before_by find operator_form
  before_division (inl e) = rw e refl
  before_division (inr e) = rw e refl

  pub after_product : kind ≡ Kinds.star → after_by kind ≡ Plain.shift LLS 15 ∷ []
  unfolding after_by find operator_form
  after_product e = rw e refl

  pub after_remainder : kind ≡ Kinds.MOD → after_by kind ≡ Plain.generic IAB ∷ []
  unfolding after_by find operator_form
  after_remainder e = rw e refl

  -- the others have nothing, whichever they are: the four of one instruction, and the row that is left
  nothing : (f : Operator → List Plain) (last : ℕ × Operator) → f Operator.add ≡ [] → f Operator.subtract ≡ [] → f Operator.and ≡ [] → f Operator.nev ≡ [] → f last.1 ≡ [] → (p m a n l : Bool)
      → given {A = ℕ × Operator} (whether p (λ _. some (Kinds.plus, Operator.add)) (λ _. whether m (λ _. some (Kinds.minus, Operator.subtract)) (λ _. whether a (λ _. some (Kinds.AND, Operator.and))
      (λ _. whether n (λ _. some (Kinds.NEV, Operator.nev)) (λ _. whether l (λ _. some last) (λ _. none)))))) (λ row. f row.1) (λ _. []) ≡ []
  nothing f last ep em ea en el true m a n l = ep
  nothing f last ep em ea en el false true a n l = em
  nothing f last ep em ea en el false false true n l = ea
  nothing f last ep em ea en el false false false true l = en
  nothing f last ep em ea en el false false false false true = el
  nothing f last ep em ea en el false false false false false = refl

  pub none_before : (kind ≡ Kinds.slash → ⊥) → (kind ≡ Kinds.MOD → ⊥) → before_by kind ≡ []
  unfolding before_by find operator_form
  none_before s m =
      rw (ne_eqb kind Kinds.slash s, ne_eqb kind Kinds.MOD m)
      (nothing (λ o. (operator_form o).before) (Kinds.star, Operator.multiply) refl refl refl refl refl (eqb kind Kinds.plus) (eqb kind Kinds.minus) (eqb kind Kinds.AND) (eqb kind Kinds.NEV) (eqb kind Kinds.star))

  pub none_after : (kind ≡ Kinds.star → ⊥) → (kind ≡ Kinds.MOD → ⊥) → after_by kind ≡ []
  unfolding after_by find operator_form
  none_after s m =
      rw (ne_eqb kind Kinds.star s, ne_eqb kind Kinds.MOD m)
      (nothing (λ o. (operator_form o).after) (Kinds.slash, Operator.divide) refl refl refl refl refl (eqb kind Kinds.plus) (eqb kind Kinds.minus) (eqb kind Kinds.AND) (eqb kind Kinds.NEV) (eqb kind Kinds.slash))

-- ---- One operation

-- an operator's words, by its row
operator_is : (kind n : ℕ) (o : Operator) (c : Cell) → n ≡ operator_opcode o → before_by kind ≡ (operator_form o).before → after_by kind ≡ (operator_form o).after → operator_words kind n c ≡ operation_words (Operation.binary o c)
unfolding operator_words operation_words
operator_is kind n o c e b a = rw (e, b, a)

module _ (source : List ℕ) (names : Names) (t : Token) {o : Found ℕ} (e : o ≡ looked_up operators operator_opcode (kind_number t.kind)) {f : Bases} {output : Output} {before : List ℕ} where
  pub binary_turn : {after : List ℕ} {r : Result (Part Output) Failure} {n : ℕ} → o ≡ Some n → Compiles f (λ c _. operator_words (kind_number t.kind) n c) (emitted_by output before) after r (parse_cell source names t.next) → Turned f output before after (Some r) (operation_at source names t)
  unfolding operation_at
  binary_turn {n = n} h p =
      let row = as_row operators operator_opcode (kind_number t.kind) e h in
      Turned.one (as_some operators operator_opcode t _ _ row) refl
      (as_tree (Operation.binary row.row.1) (λ c at. operator_is (kind_number t.kind) n row.row.1 c row.is (before_found (kind_number t.kind) row.found) (after_found (kind_number t.kind) row.found)) p refl)

  module _ (no : o ≡ None) {s : Found ℕ} (i : s ≡ looked_up shifts shift_kind (kind_number t.kind)) where
    pub shift_turn : {after : List ℕ} {r : Result (Part Output) Failure} {n : ℕ} → s ≡ Some n → Compiles f (λ m _. Sym.shift n m ∷ []) (emitted_by output before) after r (parse_in_range source names (between 1 15) t.next) → Turned f output before after (Some r) (operation_at source names t)
    unfolding operation_at operation_words
    shift_turn h p =
        let row = as_row shifts shift_kind (kind_number t.kind) i h in
        Turned.one (as_none operators operator_opcode t _ _ e no ∙ as_some shifts shift_kind t _ _ row) refl (as_tree (Operation.shift row.row.1) (λ m at. ap (λ x. Sym.shift x m ∷ []) row.is) p refl)

    pub no_turn : s ≡ None → Turned f output before before None (operation_at source names t)
    unfolding operation_at
    no_turn h = Turned.last (as_none operators operator_opcode t _ _ e no ∙ as_none shifts shift_kind t _ _ i h) refl refl

-- what a turn's answer says
pub record Turning (f : Bases) (output : Output) (before after : List ℕ) (r : Result (Part Output) Failure) (g : Option (Got Operation)) : Type 0 where
  pub operation : Got Operation
  pub is : g ≡ some operation
  pub compiles : Compiles f (λ o _. operation_words o) (emitted_by output before) after r operation

module _ {f : Bases} {output : Output} {before after : List ℕ} {r : Found (Result (Part Output) Failure)} {g : Option (Got Operation)} where
  pub turn_last : Turned f output before after r g → r ≡ None → (g ≡ none) × (after ≡ before)
  turn_last (Turned.one i p h) e = absurd (let z : ◌≡◌ {A = ℕ} 0 1 = cc in omega arith)
  turn_last (Turned.last i p h) e = (i, h)

  pub turn_one : {x : Result (Part Output) Failure} → Turned f output before after r g → r ≡ Some x → Turning f output before after x g
  turn_one {x} (Turned.one {o} {answer} i p h) e = let q : answer ≡ x = cc in record { operation = o; is = i; compiles = rw (← q) h }
  turn_one (Turned.last i p h) e = absurd (let z : ◌≡◌ {A = ℕ} 0 1 = cc in omega arith)

-- ---- Any operations

module _ (source : List ℕ) (names : Names) where
  unfoldable pub added : List Operation → Got Operation → Got (List Operation)
  added done g = and_then g (λ o next. got (snoc done o) next)

  one_more : (done : List Operation) (t : Token) → operation_of source names done t ≡ given (operation_at source names t) (λ g. some (added done g)) (λ _. none)
  unfolding operation_of operation_at added and_then
  one_more done t = go (find (eqb (kind_number t.kind)) operators) (find (eqb (kind_number t.kind)) shifts)
    where
      cell : Got Cell
      cell = parse_cell source names t.next

      amount : Got ℕ
      amount = parse_in_range source names (between 1 15) t.next

      go : (o : Option (ℕ × Operator)) (s : Option (ℕ × Shift))
          → given o (λ r. some (and_then cell (λ c next. got (snoc done (Operation.binary r.1 c)) next))) (λ _.
          given s (λ r. some (and_then amount (λ n next. got (snoc done (Operation.shift r.1 n)) next))) (λ _. none))
          ≡ given (given o (λ r. some (and_then cell (λ c next. got (Operation.binary r.1 c) next))) (λ _.
          given s (λ r. some (and_then amount (λ n next. got (Operation.shift r.1 n) next))) (λ _. none))) (λ g. some (added done g)) (λ _. none)
      go (some r) s = ap some (then_then cell (λ c n. got (Operation.binary r.1 c) n) (λ o n. got (snoc done o) n))
      go none (some r) = ap some (then_then amount (λ m n. got (Operation.shift r.1 m) n) (λ o n. got (snoc done o) n))
      go none none = refl

  module _ (done : List Operation) (i : ℕ) {t : Token} (e : t ≡ operator_at source i) where
    pub more_none : operation_at source names t ≡ none → more_operations source names done i ≡ none
    more_none n = rw (← e, one_more done t, n)

    pub more_some : {g : Got Operation} → operation_at source names t ≡ some g → more_operations source names done i ≡ some (added done g)
    more_some n = rw (← e, one_more done t, n)

operations_snoc : (os : List Operation) (o : Operation) → operations_words os ⧺ operation_words o ≡ operations_words (snoc os o)
unfolding operations_words ◌⧺◌
operations_snoc [] o = sym (append_none (operation_words o))
operations_snoc (p ∷ os) o = append_assoc (operation_words p) (operations_words os) (operation_words o) ∙ ap (λ r. operation_words p ⧺ r) (operations_snoc os o)

-- one operation after others
pub after_others : (source : List ℕ) (names : Names) {f : Bases} {a : Emitted} (o : Output) {before after : List ℕ} {r : Result (Part Output) Failure} {g : Got Operation} (os : List Operation) → Lays f a (emitted_by o before) (λ _. operations_words os)
    → Compiles f (λ o _. operation_words o) (emitted_by o before) after r g → Compiles f (λ os _. operations_words os) a after r (added source names os g)
unfolding added
after_others source names o os p h = reads_as (snoc os) h refl (λ o x q. same (λ at. operations_snoc os o) (sequence p q)) (kept_image p.kept)
