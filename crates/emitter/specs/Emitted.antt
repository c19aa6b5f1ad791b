-- What the code has emitted so far, as the definitions have it, and what is promised of each call.
use Rattle.std.specs.Prelude.{ℕ, ◌+◌, ◌≡◌, ltb, length, set, take, replicate}
use mathlib.Core.List.{List, foldl}
use Rattle.prelude.specs.Choice.{whether}
use Rattle.layout.specs.Words.{Sym}
use Rattle.layout.specs.Pool.{literals_of, index_of}
use Rattle.emitter.specs.declared.Pool.{Pool}
use Rattle.emitter.specs.declared.Output.{Output}
use Rattle.emitter.specs.declared.Context.{Context}
use Rattle.layout.specs.Emission.{Emitted, with_word, with_literals, Bases, emit_all}
use Rattle.layout.specs.Addresses.{sector_words}

-- the words of a pool that count
abbrev pub literals_in : Pool → List ℕ
literals_in p = take p.count p.words

abbrev pub emitted_by : Output → List ℕ → Emitted
emitted_by o image = record { image = image; next = o.next; pool = literals_in o.pool }

abbrev pub bases_of : Context → Bases
bases_of c = record { pool_at = c.pool; locals = c.locals }

-- ---- What is promised of each call: the code's pool word for word too, those past its count as well

unfoldable pub no_pool : Pool
no_pool = record { words = replicate sector_words 0; count = 0 }

-- with a literal, once, as long as there is room
unfoldable pub pooled : Pool → ℕ → Pool
pooled p v =
    let n = length (literals_in p) in
    whether (ltb (index_of (literals_in p) v) n) (λ _. p) λ _.
    whether (ltb n sector_words) (λ _. record { words = set p.words n v; count = n + 1 }) λ _.
    p

unfoldable pub pooled_all : Pool → List ℕ → Pool
pooled_all p vs = foldl pooled p vs

-- a pool that takes literals: the words that count, and all of them
pub record Takes (pool : Pool) (vs : List ℕ) (r : Pool) : Type 0 where
  pub held : literals_in r ≡ with_literals (literals_in pool) vs
  pub whole : r ≡ pooled_all pool vs

-- a word at the next address, and no other change
pub record Puts (output : Output) (image : List ℕ) (r : Output) (image' : List ℕ) (w : ℕ) : Type 0 where
  pub emitted : emitted_by r image' ≡ with_word (emitted_by output image) w
  pub pool : r.pool ≡ output.pool

-- symbolic words, one after another, with their literals
pub record Emits (b : Bases) (output : Output) (image : List ℕ) (r : Output) (image' : List ℕ) (ws : List Sym) : Type 0 where
  pub emitted : emitted_by r image' ≡ emit_all b (emitted_by output image) ws
  pub pool : r.pool ≡ pooled_all output.pool (literals_of ws)
