-- The pool of a sector: its literals, equal ones once, as they are first used (A7).
use Rattle.std.specs.Prelude.{ℕ, suc, List, [], ◌∷◌, ◌++◌, length, ltb, eqb}
use Rattle.prelude.specs.Choice.{whether}
use Rattle.tree.specs.Tree.{Operand}
use Rattle.layout.specs.Words.{Sym}

-- the literals of words, in their order
unfoldable pub literal_of : Sym → List ℕ → List ℕ
literal_of (Sym.generic slot) vs = vs
literal_of (Sym.shift kind n) vs = vs
literal_of (Sym.memory opcode (Operand.named i)) vs = vs
literal_of (Sym.memory opcode (Operand.literal v)) vs = v ∷ vs
literal_of (Sym.through opcode n) vs = vs
literal_of (Sym.jump z) vs = vs
literal_of (Sym.return link) vs = vs
literal_of (Sym.saved opcode) vs = vs
literal_of Sym.stop vs = vs

unfoldable pub literals_of : List Sym → List ℕ
literals_of [] = []
literals_of (w ∷ ws) = literal_of w (literals_of ws)

-- the first place of a value, or the length
unfoldable pub index_of : List ℕ → ℕ → ℕ
index_of [] v = 0
index_of (u ∷ us) v = whether (eqb u v) (λ _. 0) (λ _. suc (index_of us v))

-- with a value, once; with each of several, in order
unfoldable pub added : List ℕ → ℕ → List ℕ
added pool v = whether (ltb (index_of pool v) (length pool)) (λ _. pool) (λ _. pool ++ (v ∷ []))

unfoldable pub added_all : List ℕ → List ℕ → List ℕ
added_all pool [] = pool
added_all pool (v ∷ vs) = added_all (added pool v) vs
