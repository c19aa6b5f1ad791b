use mathlib.Core.Path.{◌≡◌}
use Prim.Native.Nat.{ℕ}
use mathlib.Core.List.{List}
use lib.ListN.{length}
use Rattle.layout.specs.Words.{operations_words}
use Rattle.grammar.specs.Expressions.{more_operations}
use Rattle.parser.specs.declared.Part.{Part}
use Rattle.parser.proofs.ReadLaws.{Turning}
use Rattle.emitter.specs.declared.Output.{Output}
use Rattle.emitter.specs.Emitted.{emitted_by, bases_of}
use Rattle.emitter.specs.Lays.{Lays}
use Rattle.expressions.specs.declared.Body.{Body}
use Rattle.expressions.specs.Compiles.{source_of, names_of, operations_at}
use Rattle.expressions.proofs.Body.operations.Given as goal

-- what is left of the source after the operations that are done, whose words are emitted
pub record Inv (body : Body) (image₀ : List ℕ) (at : ℕ) (output : Output) (image : List ℕ) (so_far : Part Output) (left : ℕ) : Type 0 where
  pub turning : Turning (more_operations (source_of body) (names_of body)) (operations_at body at)
      (λ os. Lays (bases_of body.context) (emitted_by output image₀) (emitted_by so_far.value image) (λ _. operations_words os)) so_far.next left
  pub long : length image ≡ length image₀

abbrev pub invariant-loop-left : goal.invariant-loop-left
invariant-loop-left l = Inv l.self l.initial.image l.at l.initial.so_far.value l.image l.so_far l._left
