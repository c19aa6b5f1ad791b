-- The instructions of unary words as the code stores them.
use Rattle.std.specs.Prelude.{ℕ, ◌-◌, List, [], ◌∷◌, eqb, get_or, length}
use Rattle.std.proofs.lemmas.List.Edits.{sets}
use Rattle.prelude.specs.Choice.{whether}
use Rattle.source.specs.Kinds
use Rattle.instruction.specs.Slot.{SPL}
use Rattle.instruction.specs.Table.{table_of}
use Rattle.layout.specs.Words.{Sym, unaries_words}
use Rattle.layout.specs.Map.{word_of}
use Rattle.layout.specs.Emission.{frame_of}
use Rattle.expressions.specs.Chains.{unaries_of}

-- the words of generic instructions: they name nothing, so any frame gives them
unfoldable pub values : List Sym → List ℕ
values [] = []
values (w ∷ ws) = word_of (frame_of (record { pool_at = 0; locals = 0 }) []) w ∷ values ws

-- the instructions of the unary words from an offset on
abbrev pub unary_words_at : List ℕ → ℕ → List Sym
unary_words_at source at = unaries_words (unaries_of source at)

-- their words in an image, up to an address
abbrev pub placed_before : ℕ → List Sym → List ℕ → List ℕ
placed_before end ws image = sets image (end - length ws) (values ws)

-- how many instructions a unary word has (W5)
unfoldable pub width_of : ℕ → ℕ
width_of kind = whether (eqb kind Kinds.ABS) (λ _. 2) (λ _. 1)

-- their words, by the slot of the last
unfoldable pub unary_values : ℕ → ℕ → List ℕ
unary_values kind slot = whether (eqb kind Kinds.ABS) (λ _. get_or table_of SPL 0 ∷ get_or table_of slot 0 ∷ []) (λ _. get_or table_of slot 0 ∷ [])
