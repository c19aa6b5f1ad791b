-- The laws of the memory map: pools, acceptance, the map and the image.
use Rattle.std.specs.Prelude.{ℕ, ◌<◌, ◌≡◌, Bool, length, get_or}
use mathlib.Core.List.{List, [], ◌∷◌, ◌++◌, Memᴰ}
use Rattle.tree.specs.Tree.{CellId, Array, Name, Item, Stmts, Declaration, Program}
use Rattle.layout.specs.Words.{Sym, procedure_words, main_words}
use Rattle.layout.specs.Pool.{literals_of, index_of, added_all}
use Rattle.layout.specs.Allocation.{link_of, allocated}
use Rattle.layout.specs.Map.{plan_of, finished, Role, Home, map_at}
use Rattle.compilation.specs.Compile.{Compiled, Result, compiled, compile_def}
use Rattle.tree.specs.Variables.{variables_of, constants_of, Declares, arrays_of, Elements}
use Rattle.layout.specs.Limits.{declaration_limit}
use Rattle.parsing_laws.specs.WellFormed.{DeclarationsOk, WellFormed}
use Rattle.memory_map.specs.Laid.{Sound, LaidProgram}
use Rattle.memory_map.specs.KnownProcedures.{known_of}
use Rattle.layout.specs.Addresses.{memory_words}

-- a value is among some: of one that is not, `index_of` is their count
abbrev pub Among : List ℕ → ℕ → Type 0
Among vs v = index_of vs v < length vs

-- a list and then others
pub record Extends (pool longer : List ℕ) : Type 0 where
  pub new : List ℕ
  pub is : longer ≡ pool ++ new

-- a cell stands at an address, with a value in the image
pub record StandsAt (p : Program) (i : CellId) (v : ℕ) : Type 0 where
  pub at : ℕ
  pub below : at < memory_words
  pub here : map_at p at ≡ Role.cell i v

pub record MapLaws : Type 0 where
  -- equal literals share a place: no two words of a pool are equal (A7)
  pub distinct : (vs : List ℕ) (k : ℕ) → k < length (added_all [] vs) → index_of (added_all [] vs) (get_or (added_all [] vs) k 0) ≡ k
  -- the literals of words are in the pool after them, each at its index; and a pool has nothing else (A7)
  pub pooled : (pool : List ℕ) (ws : List Sym) (v : ℕ) → Among (literals_of ws) v
      → let after = added_all pool (literals_of ws) in Among after v × (get_or after (index_of after v) 0 ≡ v)
  pub only : (vs : List ℕ) (v : ℕ) → Among (added_all [] vs) v → Among vs v
  -- the pool of each sector begins where its code ends (A8)
  pub pool_ends : (p : Program) (k : ℕ) → (plan_of p k).pool_at ≡ get_or ((finished p).ends ++ ((finished p).next ∷ [])) k 0
  -- a literal of a procedure's body is in the pool of the sector that is filled then, and one of the main body in the last pool (A7)
  pub in_sector : (p : Program) (before after : List Declaration) (name : Name) (accumulator : Bool) (locals : List (Name × Item)) (body : Stmts) (v : ℕ)
      → p.declarations ≡ before ++ (Declaration.procedure name accumulator locals body ∷ after)
      → let st = allocated before in Among (literals_of (procedure_words body (link_of st name locals))) v → Among (plan_of p (length st.ends)).pool v
  pub in_last_sector : (p : Program) (v : ℕ)
      → let st = allocated p.declarations in Among (literals_of (main_words p.main st.next)) v → Among (plan_of p (length st.ends)).pool v
  -- a pool has its literals as they are first used: words emitted later only add at the end, and what is pooled keeps its place (A7)
  pub appended : (pool vs : List ℕ) → Extends pool (added_all pool vs)
  pub stays : (pool vs : List ℕ) (v : ℕ) → Among pool v → index_of (added_all pool vs) v ≡ index_of pool v
  -- every accepted program is well-formed, and nothing but its tree decides what it compiles to
  pub well_formed : (source : List ℕ) (c : Compiled) → compile_def source ≡ Result.accepted c → WellFormed c.program
  pub by_tree : (source : List ℕ) (c : Compiled) → compile_def source ≡ Result.accepted c → c ≡ compiled c.program
  -- 12 never comes at a `.NEXTSECTOR`, behind declarations that are well-formed, as all are that are read (J8)
  pub never_12 : (ds : List Declaration) → DeclarationsOk ds → declaration_limit (allocated ds) Declaration.next_sector ≡ 12 → ⊥
  -- the image has 16,384 words (A1)
  pub image_size : (source : List ℕ) (c : Compiled) → compile_def source ≡ Result.accepted c → length c.image ≡ memory_words
  -- each variable that is declared, X too, has one home (M2, demand 3g)
  pub homes : (source : List ℕ) (c : Compiled) → compile_def source ≡ Result.accepted c → (i : CellId) → Memᴰ i (variables_of c.program) → Home c.program i
  -- and each named constant has one, which holds its value (M2)
  pub constants : (source : List ℕ) (c : Compiled) → compile_def source ≡ Result.accepted c → (i : CellId) (v : ℕ) → Memᴰ (i, v) (constants_of c.program) → StandsAt c.program i v
  -- and there is no other cell: each of the map is a variable or a named constant with its value (M2, demand 3g)
  pub cells : (source : List ℕ) (c : Compiled) → compile_def source ≡ Result.accepted c → (k : ℕ) (i : CellId) (v : ℕ) → map_at c.program k ≡ Role.cell i v → Declares c.program i v
  -- a word is one of an array's subscripts exactly if the element that it names is a variable (D7, M2, M9)
  pub elements : (source : List ℕ) (c : Compiled) → compile_def source ≡ Result.accepted c → (a : Array) → Memᴰ a (arrays_of c.program) → Elements c.program a
  -- X's home is word 0 (A2); no link stands twice
  pub sound : (source : List ℕ) (c : Compiled) → compile_def source ≡ Result.accepted c → Sound (map_at c.program)
  -- code, array words and procedure words are fixed words of the map, in one sector with what they refer to: every body stands there as the relation says
  pub laid : (source : List ℕ) (c : Compiled) → compile_def source ≡ Result.accepted c
      → LaidProgram (map_at c.program) (known_of c.program.declarations) c.program.main c.entry
