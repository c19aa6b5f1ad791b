-- An accepted program that is emitted in the order of the code has the image of the definition.
use Rattle.std.specs.Prelude.{ℕ, ◌≡◌, List, replicate}
use Rattle.tree.specs.Tree.{Program}
use Rattle.grammar.specs.Parse.Got.{got}
use Rattle.grammar.specs.Program.{parse_program}
use Rattle.layout.specs.Map.{plan_of, image_of}
use Rattle.layout.specs.Emission.{emit_program}
use Rattle.layout.specs.Addresses.{memory_words}

-- from words that are all 0, with the address of each sector's pool known beforehand
unfoldable pub EmittedImage : Type 0
EmittedImage = (source : List ℕ) (p : Program) (n : ℕ) → parse_program source ≡ got p n → emit_program (λ k. (plan_of p k).pool_at) p (replicate memory_words 0) ≡ image_of p
