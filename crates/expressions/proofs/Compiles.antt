-- A failure passed upward, and a part read as another tree with the same words.
use Prim.Native.Nat.{ℕ}
use mathlib.Core.Path.{◌≡◌}
use mathlib.Core.List.{List}
use Rattle.std.specs.Prelude.{Result, Err}
use Rattle.grammar.specs.Parse.{Got, and_then}
use Rattle.grammar.specs.Parse.Got.{got}
use Rattle.parser.specs.declared.Part.{Part}
use Rattle.parser.specs.declared.Failure.{Failure}
use Rattle.parser.specs.Reads.{Reads}
use Rattle.parser.proofs.ReadLaws.{pass, reads_as}
use Rattle.layout.specs.Emission.{Emitted, Bases}
use Rattle.emitter.specs.declared.Output.{Output}
use Rattle.emitter.specs.Lays.{WordsAt}
use Rattle.emitter.proofs.Lays.{same}
use Rattle.expressions.specs.Compiles.{Compiles}

-- a failed answer as it is
pub failing : {A B X : Type 0} {done : A → X → Type 0} {done' : B → X → Type 0} {kept kept' : Type 0} {r : Result (Part X) Failure} {g : Got A} {g' : Got B} (rest : A → ℕ → Got B) {e : Failure}
    → Reads done kept r g → r ≡ Err e → g' ≡ and_then g rest → (kept → kept') → Reads done' kept' r g'
failing rest h i q w = rw i (pass rest h i q w)

pub as_tree : {A B : Type 0} {f : Bases} {words : A → WordsAt} {words' : B → WordsAt} {a : Emitted} {after : List ℕ} {r : Result (Part Output) Failure} {g : Got A} {g' : Got B} (h : A → B) → ((t : A) (at : ℕ) → words t at ≡ words' (h t) at)
    → Compiles f words a after r g → g' ≡ and_then g (λ t n. got (h t) n) → Compiles f words' a after r g'
as_tree h w r q = reads_as h r q (λ t x l. same (w t) l) (λ k. k)
