-- The laws of `Reads`: what is known after a call of a function that reads, how a part becomes a part of another, and parts in turn.
use Prim.Native.Nat.{ℕ, zero, suc, ◌-◌}
use Rattle.std.specs.Prelude.{Result, Ok, Err}
use mathlib.Core.Path.{subst, ◌≡◌, refl, sym, ap, ◌∙◌}
use mathlib.Core.List.{List}
use mathlib.Core.Option.{Option, none, some}
use native.Mathlib.Omega.{arith}
use lib.ListN.{length}
use borrow.Author.Tests.{eq-eqb, ne_eqb}
use Rattle.source.specs.Kinds.{kind_number}
use Rattle.source.specs.declared.Token.{Token}
use Rattle.source.specs.Tokens.{token_at}
use Rattle.grammar.specs.Parse.{Got, and_then, repeat_by, repeat, more_separated, separated}
use Rattle.grammar.specs.Parse.Got.{got, failed}
use Rattle.parser.specs.declared.Part.{Part}
use Rattle.parser.specs.declared.Failure.{Failure}
use Rattle.parser.specs.Failures.{Fails}
use Rattle.parser.specs.Reads.{Gives, Reads}
use Rattle.parser.specs.Reads.Reads.{read, fails}
use Rattle.parser.proofs.Answers.{Came, gives_failed, onward, then_got, then_failed}

-- ---- Results

pub then_then : {A B C : Type 0} (g : Got A) (p : A → ℕ → Got B) (q : B → ℕ → Got C) → and_then g (λ t n. and_then (p t n) q) ≡ and_then (and_then g p) q
unfolding and_then
then_then (got t n) p q = refl
then_then (failed k a) p q = refl

pub never : {A : Type 0} {g : Got A} {t : A} {n k a : ℕ} → g ≡ got t n → g ≡ failed k a → ⊥
never e f = let q = sym e ∙ f in let z : ◌≡◌ {A = ℕ} 0 1 = cc in omega arith

-- ---- After a call

module _ {A X : Type 0} {done : A → X → Type 0} {kept : Type 0} {r : Result (Part X) Failure} {g : Got A} where
  -- what was read, where the answer is that it was
  pub came : {p : Part X} → Reads done kept r g → r ≡ Ok p → Came done g p.value p.next
  came {p} (read {t} {x} {n} i h d) e =
      let q : ◌≡◌ {A = Part X} (record { value = x; next = n }) p = cc in
      record { tree = t; is = i ∙ ap (λ (y : Part X). got t y.next) q; holds = subst (λ (y : Part X). done t y.value) q d }
  came (fails i h w) e = absurd (let z : ◌≡◌ {A = ℕ} 0 1 = cc in omega arith)

  pub failed_as : {e : Failure} → Reads done kept r g → r ≡ Err e → Fails e g
  failed_as (read i h d) e = absurd (let z : ◌≡◌ {A = ℕ} 0 1 = cc in omega arith)
  failed_as {e} (fails {e = f} i h w) j = let q : f ≡ e = cc in subst (λ (x : Failure). Fails x g) q i

  pub kept_as : {e : Failure} → Reads done kept r g → r ≡ Err e → kept
  kept_as (read i h d) e = absurd (let z : ◌≡◌ {A = ℕ} 0 1 = cc in omega arith)
  kept_as (fails i h w) e = w

  -- a failure is passed upward, whatever the answer would have held
  pub pass : {B Y : Type 0} {done' : B → Y → Type 0} {kept' : Type 0} {g' : Got B} (rest : A → ℕ → Got B) {e : Failure} → Reads done kept r g → r ≡ Err e → g' ≡ and_then g rest → (kept → kept')
      → Reads done' kept' (Err e) g'
  pass rest h i q w = fails (onward (failed_as h i) (λ p. q ∙ then_failed rest p)) refl (w (kept_as h i))

  -- the same part, read as a tree of another definition
  pub reads_as : {B : Type 0} {done' : B → X → Type 0} {kept' : Type 0} {g' : Got B} (f : A → B) → Reads done kept r g → g' ≡ and_then g (λ x n. got (f x) n)
      → ((t : A) (x : X) → done t x → done' (f t) x) → (kept → kept') → Reads done' kept' r g'
  reads_as f (read {t} {x} i h d) q k w = read (q ∙ then_got _ i) h (k t x d)
  reads_as f (fails i h v) q k w = fails (onward i (λ p. q ∙ then_failed _ p)) h (w v)

  pub reads_to : {done' : A → X → Type 0} {kept' : Type 0} {g' : Got A} → g' ≡ g → ((t : A) (x : X) → done t x → done' t x) → (kept → kept') → Reads done kept r g → Reads done' kept' r g'
  reads_to q k w (read {t} {x} i h d) = read (q ∙ i) h (k t x d)
  reads_to q k w (fails i h v) = fails (onward i (λ p. q ∙ p)) h (w v)

  pub reads_on : {g' : Got A} → g' ≡ g → Reads done kept r g → Reads done kept r g'
  reads_on q h = reads_to q (λ t x d. d) (λ w. w) h

-- a token or part that is missing fails the whole
pub missing : {A B X Y : Type 0} (view : X → A) {done : B → Y → Type 0} {kept : Type 0} {r : Result (Part X) Failure} {g' : Got B} (g : Got A) (rest : A → ℕ → Got B) {e : Failure} → Gives view r g → r ≡ Err e → g' ≡ and_then g rest → kept
    → Reads done kept (Err e) g'
missing view g rest h i q w = fails (onward (gives_failed view h i) (λ p. q ∙ then_failed rest p)) refl w

-- ---- Parts in turn

module _ {A : Type 0} (more : A → ℕ → Option (Got A)) (d : A) (at : ℕ) where
  pub repeat_none : (k : ℕ) → more d at ≡ none → repeat_by more k d at ≡ got d at
  unfolding repeat_by
  repeat_none zero e = refl
  repeat_none (suc k) e = rw e

  pub repeat_zero : {k : ℕ} → k ≡ 0 → repeat_by more k d at ≡ got d at
  unfolding repeat_by
  repeat_zero e = rw e

  pub repeat_some : (k : ℕ) {g : Got A} → (k ≡ 0 → ⊥) → more d at ≡ some g → repeat_by more k d at ≡ and_then g (λ l n. repeat_by more (k - 1) l n)
  unfolding repeat_by
  repeat_some zero n e = absurd (n refl)
  repeat_some (suc k) n e = let q : suc k - 1 ≡ k = omega arith in rw (e, q)

-- parts in turn that w has come to, after those that are done and what they did
pub record Turning {A : Type 0} (more : A → ℕ → Option (Got A)) (w : Got A) (held : A → Type 0) (from left : ℕ) : Type 0 where
  pub done : A
  pub holds : held done
  pub same : w ≡ repeat_by more left done from

module _ {A : Type 0} {more : A → ℕ → Option (Got A)} {w : Got A} {held : A → Type 0} {from left : ℕ} (t : Turning more w held from left) where
  pub turn_zero : {X : Type 0} {x : X} {done : A → X → Type 0} {kept : Type 0} → left ≡ 0 → ((a : A) → held a → done a x) → Reads done kept (Ok (record { value = x; next = from })) w
  turn_zero z k = read (t.same ∙ repeat_zero more t.done from z) refl (k t.done t.holds)

  pub turn_none : {X : Type 0} {x : X} {done : A → X → Type 0} {kept : Type 0} → more t.done from ≡ none → ((a : A) → held a → done a x) → Reads done kept (Ok (record { value = x; next = from })) w
  turn_none e k = read (t.same ∙ repeat_none more t.done from left e) refl (k t.done t.holds)

  module _ (z : left ≡ 0 → ⊥) {g : Got A} (e : more t.done from ≡ some g) {X : Type 0} {done : A → X → Type 0} {kept : Type 0} {r : Result (Part X) Failure} (h : Reads done kept r g) where
    pub turn_failed : {Y : Type 0} {done' : A → Y → Type 0} {kept' : Type 0} {f : Failure} → r ≡ Err f → (kept → kept') → Reads done' kept' (Err f) w
    turn_failed i v = pass _ h i (t.same ∙ repeat_some more t.done from left z e) v

    pub turn_next : {p : Part X} → r ≡ Ok p → Turning more w (λ a. done a p.value) p.next (left - 1)
    turn_next i = let one = came h i in record { done = one.tree; holds = one.holds; same = t.same ∙ repeat_some more t.done from left z e ∙ then_got _ one.is }

-- a list w that has come to another part, after what is done so far, which the next part may be read by
pub record Sequel {A B : Type 0} (source : List ℕ) (separator : ℕ) (more : B → ℕ → Got A) (sofar : A → B) (w : Got A) (held : B → Type 0) (from left : ℕ) : Type 0 where
  pub done : B
  pub holds : held done
  pub same : w ≡ and_then (more done from) (λ one next. repeat_by (more_separated source separator (λ a. more (sofar a))) left one next)

-- a list whose first part is read as the others are
abbrev pub Listing : {A : Type 0} → List ℕ → ℕ → (A → ℕ → Got A) → Got A → (A → Type 0) → ℕ → ℕ → Type 0
Listing source separator more w held from left = Sequel source separator more (λ a. a) w held from left

pub list_first : {A B : Type 0} (source : List ℕ) (separator : ℕ) (more : B → ℕ → Got A) {sofar : A → B} (start : B) (at : ℕ) {held : B → Type 0} → held start
    → Sequel source separator more sofar (separated source separator (more start) (λ a. more (sofar a)) at) held at (length source)
unfolding separated repeat
list_first source separator more start at h = record { done = start; holds = h; same = refl }

-- its next part is read
module _ {A B X : Type 0} {source : List ℕ} {separator : ℕ} {more : B → ℕ → Got A} {sofar : A → B} {w : Got A} {held : B → Type 0} {held' : A → X → Type 0} {kept : Type 0} {from left : ℕ}
    (l : Sequel source separator more sofar w held from left) {r : Result (Part X) Failure} (h : Reads held' kept r (more l.done from)) where
  pub list_failed : {done : A → X → Type 0} {kept' : Type 0} {f : Failure} → r ≡ Err f → (kept → kept') → Reads done kept' (Err f) w
  list_failed i v = pass _ h i l.same v

  module _ {p : Part X} (i : r ≡ Ok p) where
    pub list_zero : {kept' : Type 0} → left ≡ 0 → Reads held' kept' (Ok p) w
    list_zero z = let one = came h i in read (l.same ∙ then_got _ one.is ∙ repeat_zero (more_separated source separator (λ a. more (sofar a))) one.tree p.next z) refl one.holds

    module _ {t : Token} (k : t ≡ token_at source p.next) where
      pub list_last : {kept' : Type 0} → (kind_number t.kind ≡ separator → ⊥) → Reads held' kept' (Ok p) w
      list_last n =
          let one = came h i in read (l.same ∙ then_got _ one.is ∙ repeat_none (more_separated source separator (λ a. more (sofar a))) one.tree p.next left (rw (← k, ne_eqb _ _ n))) refl one.holds

      pub sequel_next : {held'' : B → Type 0} → ((a : A) → held' a p.value → held'' (sofar a)) → (left ≡ 0 → ⊥) → kind_number t.kind ≡ separator → Sequel source separator more sofar w held'' t.next (left - 1)
      sequel_next so z n =
          let one = came h i in
          record {
            done = sofar one.tree;
            holds = so one.tree one.holds;
            same = l.same ∙ then_got _ one.is ∙ repeat_some (more_separated source separator (λ a. more (sofar a))) one.tree p.next left z (rw (← k, eq-eqb _ _ n));
          }

-- after the last turn the list ends with one part more
pub list_end : {A B X : Type 0} {source : List ℕ} {separator : ℕ} {more : B → ℕ → Got A} {sofar : A → B} {w : Got A} {held : B → Type 0} {held' : A → X → Type 0} {kept : Type 0} {from left : ℕ}
    (l : Sequel source separator more sofar w held from left) {r : Result (Part X) Failure} → Reads held' kept r (more l.done from) → left ≡ 0 → Reads held' kept r w
list_end {source = source} {separator} {more} {sofar} l (read {t} {n = n} i q d) z = read (l.same ∙ then_got _ i ∙ repeat_zero (more_separated source separator (λ a. more (sofar a))) t n z) q d
list_end l (fails i q k) z = fails (onward i (λ p. l.same ∙ then_failed _ p)) q k

pub list_next : {A X : Type 0} {source : List ℕ} {separator : ℕ} {more : A → ℕ → Got A} {w : Got A} {held : A → Type 0} {held' : A → X → Type 0} {kept : Type 0} {from left : ℕ} (l : Listing source separator more w held from left)
    {r : Result (Part X) Failure} → Reads held' kept r (more l.done from) → {p : Part X} → r ≡ Ok p → {t : Token} → t ≡ token_at source p.next → (left ≡ 0 → ⊥) → kind_number t.kind ≡ separator
    → Listing source separator more w (λ a. held' a p.value) t.next (left - 1)
list_next l h i k z n = sequel_next l h i k (λ a d. d) z n
