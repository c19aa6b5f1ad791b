-- What every function that reads a part of the source promises, against what the part is parsed as.
use Rattle.std.specs.Prelude.{ℕ, ◌≡◌, Result, Ok, Err}
use Rattle.grammar.specs.Parse.{Got}
use Rattle.grammar.specs.Parse.Got.{got}
use Rattle.parser.specs.declared.Part.{Part}
use Rattle.parser.specs.declared.Failure.{Failure}
use Rattle.parser.specs.Failures.{Fails}

-- THE ANSWER IS WHAT THE PART IS PARSED AS. Read up to an offset, and what is answered stands for the tree by `view`; or that failure, with its number and offset
abbrev pub Gives : {A X : Type 0} → (X → A) → Result (Part X) Failure → Got A → Type 0
Gives view (Ok p) g = g ≡ got (view p.value) p.next
Gives view (Err e) g = Fails e g

-- READ, OR FAILED. The part was parsed as t up to n: an answer up to n is given, and of t and the answer `done` holds. Or the failure is answered with its number and offset, and of what was lent `kept` holds
pub data Reads {A X : Type 0} (done : A → X → Type 0) (kept : Type 0) (r : Result (Part X) Failure) (g : Got A) : Type 0 where
  read : {t : A} {x : X} {n : ℕ} → g ≡ got t n → r ≡ Ok (record { value = x; next = n }) → done t x → Reads done kept r g
  fails : {e : Failure} → Fails e g → r ≡ Err e → kept → Reads done kept r g
