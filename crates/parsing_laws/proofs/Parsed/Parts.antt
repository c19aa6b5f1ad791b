-- What holds of every outcome of a parser, and how it goes through the combinators that parsers are made of.
use Prim.Native.Nat.{ℕ, zero, suc, ◌≤◌, ◌<◌}
use mathlib.Core.Path.{◌≡◌, refl}
use mathlib.Core.Bool.{Bool, true, false}
use mathlib.Core.List.{List}
use mathlib.Core.Option.{Option}
use native.Mathlib.Omega.{arith}
use lib.Dec.{eqb}
use lib.ListN.{length}
use borrow.Author.Tests.{eqb-true, eqb-false}
use Rattle.prelude.specs.Choice.{whether}
use Rattle.source.specs.Kinds.{kind_number}
use Rattle.source.specs.Kinds
use Rattle.source.specs.declared.Token.{Token}
use Rattle.source.specs.Tokens.{token_at, operator_at, failure_at}
use Rattle.source.proofs.Bounds.{Lies, token_lies, operator_lies}
use Rattle.grammar.specs.Parse.{Got, and_then, fail_at, within, is, expect, repeat_by, repeat, separated}
use Rattle.grammar.specs.Parse.Got.{got, failed}
use Rattle.parsing_laws.proofs.Parsed.Choices.{choice, Some, there, nothing, if_some}
use Rattle.parsing_laws.proofs.Parsed.Words.{IsWord, token_word, operator_word}

-- the number and offset of a failure that is found in reading
pub record Failure (source : List ℕ) (n at : ℕ) : Type 0 where
  pub least : 4 ≤ n
  pub most : n ≤ 14
  pub inside : at ≤ length source
  pub ended : at ≡ length source → n ≡ 6

-- what is got has P and ends in the source, and what fails is such a failure
pub data Parsed (source : List ℕ) {A : Type 0} (P : A → Type 0) : Got A → Type 0 where
  fine : {t : A} {n : ℕ} → P t → n ≤ length source → Parsed source P (got t n)
  bad : {n at : ℕ} → Failure source n at → Parsed source P (failed n at)

-- a parser of which that holds
abbrev pub Parses : {A : Type 0} → List ℕ → (A → Type 0) → (ℕ → Got A) → Type 0
Parses source P parse = (at : ℕ) → at ≤ length source → Parsed source P (parse at)

-- a part of which nothing more need hold
abbrev pub Any : {A : Type 0} → A → Type 0
Any a = Unit {0}

-- a limit's number: 0 to pass, or one of reading
abbrev pub Limit : ℕ → Type 0
Limit n = (n ≡ 0 → ⊥) → (4 ≤ n) × (n ≤ 14)

-- ---- Tokens

abbrev pub Ended : Token → Type 0
Ended t = kind_number t.kind ≡ Kinds.end_of_source

-- a token of another kind
pub begun : {kind k : ℕ} → kind ≡ suc k → kind ≡ Kinds.end_of_source → ⊥
begun e z = omega arith

-- where a token lies, and its value
pub record Held (source : List ℕ) (t : Token) : Type 0 where
  pub here : t.at ≤ length source
  pub after : t.next ≤ length source
  pub byte : (Ended t → ⊥) → t.at < length source
  pub word : IsWord t.value

held : {source : List ℕ} {at : ℕ} {t : Token} → at ≤ length source → Lies source at t → IsWord t.value → Held source t
held h l w =
    let k = l.inside h in
    record { here = omega (arith, l.forward); after = k; byte = λ n. omega (arith, l.wide n); word = w }

module _ (source : List ℕ) {at : ℕ} (h : at ≤ length source) where
  pub token_held : Held source (token_at source at)
  token_held = held h (token_lies source at) (token_word source at)

  pub operator_held : Held source (operator_at source at)
  operator_held = held h (operator_lies source at) (operator_word source at)

-- ---- Failures

-- the lower of two numbers is one of reading too (J3)
lower : (t : Token) (n : ℕ) → 4 ≤ n → (4 ≤ failure_at t n) × (failure_at t n ≤ n)
unfolding failure_at
lower t n h =
    choice P (eqb (kind_number t.kind) Kinds.unknown) _ _ (λ e. (omega arith, omega arith))
    (λ e. choice P (eqb (kind_number t.kind) Kinds.out_of_range) _ _ (λ e. (omega arith, omega arith)) (λ e. (h, omega arith)))
  where
    P : ℕ → Type 0
    P m = (4 ≤ m) × (m ≤ n)

-- where the source has ended the number is as it was
unlowered : (t : Token) (n : ℕ) → Ended t → failure_at t n ≡ n
unfolding failure_at
unlowered t n e = rw e

-- the source has ended at a token, or not
pub by_end : {Q : Type 0} (t : Token) → (Ended t → Q) → ((Ended t → ⊥) → Q) → Q
by_end {Q = Q} t f g =
    choice (λ (b : Bool). Q) (eqb (kind_number t.kind) Kinds.end_of_source) true false
    (λ e. f (eqb-true (kind_number t.kind) Kinds.end_of_source e)) (λ e. g (eqb-false (kind_number t.kind) Kinds.end_of_source e))

module _ {source : List ℕ} {t : Token} (i : Held source t) {A : Type 0} {P : A → Type 0} where
  -- a failure at a token: 6 if that token is the source's end
  fails_by : (n : ℕ) → 4 ≤ n → n ≤ 14 → (Ended t → n ≡ 6) → Parsed source P (fail_at t n)
  unfolding fail_at
  fails_by n h k e =
      let l = lower t n h in
      bad (record {
        least = l.0;
        most = omega (arith, l.1);
        inside = i.here;
        ended = λ q. by_end t (λ z. omega (arith, unlowered t n z, e z)) (λ b. absurd (omega (arith, i.byte b)));
      })

  pub fails : (n : ℕ) → (Ended t → ⊥) → 4 ≤ n → n ≤ 14 → Parsed source P (fail_at t n)
  fails n b h k = fails_by n h k (λ z. absurd (b z))

  -- a token that may not stand there, or the source's end (F6)
  pub not_allowed : Parsed source P (fail_at t 6)
  not_allowed = fails_by 6 (omega arith) (omega arith) (λ z. refl)

  -- what fails so at the source's end need be looked at only where the source has not ended
  pub unless_ended : {g : Got A} → (Ended t → g ≡ fail_at t 6) → ((Ended t → ⊥) → Parsed source P g) → Parsed source P g
  unless_ended e h = by_end t (λ z. rw (e z) not_allowed) h

-- ---- One part after another

module _ {source : List ℕ} {A : Type 0} {P : A → Type 0} where
  -- one of two, by a test
  pub either : (b : Bool) {g k : Got A} → (b ≡ true → Parsed source P g) → (b ≡ false → Parsed source P k) → Parsed source P (whether b (λ _. g) (λ _. k))
  either b f g = choice (Parsed source P) b _ _ f g

  pub and_then_lem : {B : Type 0} {Q : B → Type 0} {g : Got B} {f : B → ℕ → Got A} → Parsed source Q g → ((b : B) → Q b → Parses source P (f b)) → Parsed source P (and_then g f)
  unfolding and_then
  and_then_lem (fine p h) k = k _ p _ h
  and_then_lem (bad h) k = bad h

  -- a token of a kind, and what comes after it
  pub expected : {f : Token → ℕ → Got A} (kind : ℕ) {at : ℕ} → at ≤ length source
      → ((t : Token) → Held source t → kind_number t.kind ≡ kind → Parses source P (f t)) → Parsed source P (and_then (expect kind source at) f)
  unfolding expect and_then fail_at
  expected {f = f} kind {at = at} h k =
      let t = token_at source at in
      let i = token_held source h in
      choice (λ g. Parsed source P (and_then g f)) (is kind t) (got t t.next) (fail_at t 6)
      (λ e. k t i (eqb-true (kind_number t.kind) kind e) t.next i.after)
      (λ e. not_allowed i)

  -- where only what comes after it counts
  pub skipped : {f : ℕ → Got A} (kind : ℕ) {at : ℕ} → at ≤ length source → Parses source P f → Parsed source P (and_then (expect kind source at) (λ _ n. f n))
  skipped kind h k = expected kind h (λ t i e. k)

  pub limited : {g : Got A} {limit : ℕ} {t : Token} → Limit limit → Held source t → (Ended t → ⊥) → (limit ≡ 0 → Parsed source P g) → Parsed source P (within limit t g)
  unfolding within
  limited {limit = limit} l i b p =
      either (eqb limit 0) (λ e. p (eqb-true limit 0 e)) (λ e. let k = l (eqb-false limit 0 e) in fails i limit b k.0 k.1)

  -- ---- Repetition: each part keeps what holds of those before it

  repeated_by : (more : A → ℕ → Option (Got A)) → ((done : A) → P done → (at : ℕ) → at ≤ length source → Some (Parsed source P) (more done at))
      → (k : ℕ) (done : A) → P done → Parses source P (repeat_by more k done)
  unfolding repeat_by
  repeated_by more h zero done p at i = fine p i
  repeated_by more h (suc k) done p at i = if_some (Parsed source P) _ _ (h done p at i) (λ g q. and_then_lem q (repeated_by more h k)) (fine p i)

  pub repeated : (more : A → ℕ → Option (Got A)) → ((done : A) → P done → (at : ℕ) → at ≤ length source → Some (Parsed source P) (more done at))
      → (done : A) → P done → Parses source P (repeat source more done)
  unfolding repeat
  repeated more h done p at i = repeated_by more h (length source) done p at i

  pub some_separated : (separator : ℕ) (first : ℕ → Got A) (more : A → ℕ → Got A) → Parses source P first → ((done : A) → P done → Parses source P (more done))
      → Parses source P (separated source separator first more)
  unfolding separated
  some_separated separator first more start h at i =
      and_then_lem (start at i) (repeated _ (λ done p m j.
      choice (Some (Parsed source P)) (is separator (token_at source m)) _ _
      (λ e. there (h done p (token_at source m).next (token_held source j).after)) (λ e. nothing)))
