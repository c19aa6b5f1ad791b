-- What answers say of the definitions' results.
use Prim.Native.Nat.{ℕ}
use mathlib.Core.Path.{subst, ◌≡◌, refl, sym, ap, ◌∙◌}
use mathlib.Core.Bool.{Bool, true, false}
use native.Mathlib.Omega.{arith}
use Rattle.std.specs.Prelude.{Result, Ok, Err}
use Rattle.prelude.specs.Choice.{whether}
use Rattle.source.specs.Kinds
use Rattle.source.specs.declared.Token.{Token}
use Rattle.grammar.specs.Parse.{Got, and_then, fail_at, is}
use Rattle.grammar.specs.Cells.{refuse}
use Rattle.parser.specs.declared.Part.{Part}
use Rattle.parser.specs.declared.Failure.{Failure}
use borrow.Author.Tests.{eqb-true}
use lib.Dec.{eqb}
use Rattle.parser.specs.declared.Cause.{Cause}
use Rattle.parser.specs.declared.Cause.TheVariants.{WrongImage, ShortScratch, LongSource, UnknownByte, OutOfRange, NotAllowed, WrongName, NameTaken, TooDeep, TooManyNames, NoGlobalLeft, SectorFull, MemoryFull, TooManyValues}
use Rattle.parser.specs.Failures.{number_of, cause_of, Fails}
use Rattle.parser.specs.Reads.{Gives}

-- ---- What comes after

module _ {A B : Type 0} {g : Got A} (f : A → ℕ → Got B) where
  pub then_got : {t : A} {n : ℕ} → g ≡ Got.got t n → and_then g f ≡ f t n
  unfolding and_then
  then_got e = ap (λ x. and_then x f) e

  pub then_failed : {k at : ℕ} → g ≡ Got.failed k at → and_then g f ≡ Got.failed k at
  unfolding and_then
  then_failed e = ap (λ x. and_then x f) e

-- a result that was read up to an offset, and what was done then
pub record Came {A X : Type 0} (done : A → X → Type 0) (g : Got A) (value : X) (next : ℕ) : Type 0 where
  pub tree : A
  pub is : g ≡ Got.got tree next
  pub holds : done tree value

-- ---- What an answer says of the result

module _ {A X : Type 0} (view : X → A) {g : Got A} where
  pub gives_read : {r : Result (Part X) Failure} {p : Part X} → Gives view r g → r ≡ Ok p → g ≡ Got.got (view p.value) p.next
  gives_read {r = Ok q} {p} h e = let s : q ≡ p = cc in h ∙ ap (λ x. Got.got (view x.value) x.next) s
  gives_read {r = Err q} h e = absurd (let z : ◌≡◌ {A = ℕ} 0 1 = cc in omega arith)

  pub gives_failed : {r : Result (Part X) Failure} {e : Failure} → Gives view r g → r ≡ Err e → Fails e g
  gives_failed {r = Ok q} h i = absurd (let z : ◌≡◌ {A = ℕ} 0 1 = cc in omega arith)
  gives_failed {r = Err q} {e} h i = let s : q ≡ e = cc in subst (λ (x : Failure). Fails x g) s h

-- a failure of one result is another's, where that fails by what it fails by
pub onward : {A B : Type 0} {e : Failure} {g : Got A} {g' : Got B} → Fails e g → (g ≡ Got.failed (number_of e.cause) e.at → g' ≡ Got.failed (number_of e.cause) e.at) → Fails e g'
onward h f = (f h.0, h.1)

-- ---- Failures at a token

module _ {A B : Type 0} (t : Token) {k at : ℕ} where
  -- of which type the tree would have been is no matter
  pub refused_any : refuse {A = A} t ≡ Got.failed k at → refuse {A = B} t ≡ Got.failed k at
  unfolding refuse fail_at
  refused_any e = go (is Kinds.name t) e
    where
      go : (b : Bool) → whether b (λ _. fail_at {A = A} t 7) (λ _. fail_at t 6) ≡ Got.failed k at → whether b (λ _. fail_at {A = B} t 7) (λ _. fail_at t 6) ≡ Got.failed k at
      go true h = cc
      go false h = cc

-- ---- Causes by their numbers

step : (n k : ℕ) (c : Cause) (rest : Unit {0} → Cause) → number_of c ≡ k → number_of (rest tt) ≡ n → number_of (whether (eqb n k) (λ _. c) rest) ≡ n
step n k c rest e h = go (eqb n k) (λ q. eqb-true n k q)
  where
    go : (b : Bool) → (b ≡ true → n ≡ k) → number_of (whether b (λ _. c) rest) ≡ n
    go true f = e ∙ sym (f refl)
    go false f = h

-- the cause of a number has that number
pub numbered : (n : ℕ) → number_of (cause_of n) ≡ n
unfolding cause_of
numbered n =
    step n 1 WrongImage _ refl (
    step n 2 ShortScratch _ refl (
    step n 3 LongSource _ refl (
    step n 4 UnknownByte _ refl (
    step n 5 OutOfRange _ refl (
    step n 6 NotAllowed _ refl (
    step n 7 WrongName _ refl (
    step n 8 NameTaken _ refl (
    step n 9 TooDeep _ refl (
    step n 10 TooManyNames _ refl (
    step n 11 NoGlobalLeft _ refl (
    step n 12 SectorFull _ refl (
    step n 13 MemoryFull _ refl (
    step n 14 TooManyValues _ refl (
    refl))))))))))))))
