-- What each part of a declaration promises: `Reads`, with what is declared.
use Rattle.std.specs.Prelude.{Result}
use Rattle.grammar.specs.Parse.{Got}
use Rattle.parser.specs.declared.Part.{Part}
use Rattle.parser.specs.declared.Failure.{Failure}
use Rattle.parser.specs.Reads.{Reads}

-- a part of a declaration: of what was read and the answer `done` holds. Of what was lent a failure promises nothing here; the lengths stay, as the language has it with every call
abbrev pub Declares : {A X : Type 0} → (A → X → Type 0) → Result (Part X) Failure → Got A → Type 0
Declares done r g = Reads done (Unit {0}) r g
