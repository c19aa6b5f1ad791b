-- What holds of the branches that a definition chooses among holds of what it chooses.
use Prim.Native.Nat.{ℕ}
use mathlib.Core.Path.{◌≡◌, refl}
use mathlib.Core.Bool.{Bool, true, false}
use mathlib.Core.List.{List, [], ◌∷◌}
use mathlib.Core.Option.{Option, none, some}
use lib.Dec.{eqb}
use borrow.Author.Tests.{eqb-true}
use Rattle.prelude.specs.Choice.{whether, find, given}
use Rattle.source.specs.Kinds.{kind_number}
use Rattle.source.specs.declared.Token.{Token}
use Rattle.grammar.specs.Vocabulary.{as_one_of}

pub choice : {B : Type 0} (P : B → Type 0) (b : Bool) (x y : B) → (b ≡ true → P x) → (b ≡ false → P y) → P (whether b (λ _. x) (λ _. y))
choice P true x y f g = f refl
choice P false x y f g = g refl

-- P holds of what may be there
pub data Some {A : Type 0} (P : A → Type 0) : Option A → Type 0 where
  there : {a : A} → P a → Some P (some a)
  nothing : Some P none

pub if_some : {A B : Type 0} (Q : B → Type 0) {P : A → Type 0} {o : Option A} (f : A → B) (y : B)
    → Some P o → ((a : A) → P a → Q (f a)) → Q y → Q (given o f (λ _. y))
if_some Q f y (there p) h k = h _ p
if_some Q f y nothing h k = k

pub if_given : {A B : Type 0} (Q : B → Type 0) (o : Option A) (f : A → B) (y : B) → ((a : A) → Q (f a)) → Q y → Q (given o f (λ _. y))
if_given Q (some a) f y h k = h a
if_given Q none f y h k = k

-- P holds of every row of a table
pub data Rows {K A : Type 0} (P : K → A → Type 0) : List (K × A) → Type 0 where
  last : Rows P []
  row : {k : K} {a : A} {rs : List (K × A)} → P k a → Rows P rs → Rows P ((k, a) ∷ rs)

pub if_found : {K A B : Type 0} (Q : B → Type 0) {P : K → A → Type 0} (test : K → Bool) {rs : List (K × A)} (f : K × A → B) (y : B)
    → Rows P rs → ((k : K) (a : A) → test k ≡ true → P k a → Q (f (k, a))) → Q y → Q (given (find test rs) f (λ _. y))
unfolding find
if_found Q test f y last h z = z
if_found Q test f y (row {k = k} {a = a} {rs = rs} p rest) h z =
    choice (λ o. Q (given o f (λ _. y))) (test k) (some (k, a)) (find test rs) (λ e. h k a e p) (λ e. if_found Q test f y rest h z)

-- what a token stands for in a table: in any, and in one of which P holds
pub one_of : {A B : Type 0} (Q : B → Type 0) (table : List (ℕ × A)) (t : Token) (f : A → B) (y : B) → ((a : A) → Q (f a)) → Q y → Q (as_one_of table t f (λ _. y))
one_of Q table t f y h k = if_given Q (find (eqb (kind_number t.kind)) table) (λ r. f r.1) y (λ r. h r.1) k

pub row_of : {A B : Type 0} (Q : B → Type 0) {P : ℕ → A → Type 0} {table : List (ℕ × A)} (t : Token) (f : A → B) (y : B)
    → Rows P table → ((a : A) → P (kind_number t.kind) a → Q (f a)) → Q y → Q (as_one_of table t f (λ _. y))
row_of Q {P = P} t f y rows h k = if_found Q (eqb (kind_number t.kind)) (λ r. f r.1) y rows (λ n a e p. let z = eqb-true (kind_number t.kind) n e in h a (rw z p)) k
