-- What stands in the map of a program: its bodies with all that they refer to.
use Prim.Native.Nat.{ℕ, suc, ◌+◌, ◌*◌, ◌/◌, ◌≤◌, ◌<◌}
use mathlib.Core.Path.{◌≡◌}
use mathlib.Core.Bool.{Bool}
use mathlib.Core.Logic.{◌⊎◌}
use mathlib.Core.List.{List, [], ◌∷◌, ◌++◌, Memᴰ}
use lib.ListN.{length, get_or}
use Rattle.tree.specs.Tree.{Id, CellId, Array, Operand, Name, Item, Stmts, Declaration, Program}
use Rattle.layout.specs.Words.{Sym, after, procedure_words, main_words}
use Rattle.layout.specs.Pool.{literals_of}
use Rattle.layout.specs.Allocation.{allocated, local_words, link_of}
use Rattle.layout.specs.Map.{Frame, address_of, role_of, Role, saved_role, frame, plan_of, Home, map_at}
use Rattle.layout.specs.Addresses.{saved_word}
use Rattle.tree.specs.Variables.{variables_of}
use Rattle.parsing_laws.specs.WellFormed.{Kind, Context, IdOk, kinds_of}
use Rattle.memory_map.specs.Laid.{Map, Sound, Direct, ArrayAt, ProcedureWord}

-- the words of a frame stand in the map from a on
pub data Fixed (M : Map) (f : Frame) : ℕ → List Sym → Type 0 where
  none : {a : ℕ} → Fixed M f a []
  word : {a : ℕ} {w : Sym} {ws : List Sym} → M a ≡ role_of f w → Fixed M f (suc a) ws → Fixed M f a (w ∷ ws)

-- an address that code in a sector can refer to
abbrev pub Near : ℕ → ℕ → Type 0
Near sector k = (k < 512) ⊎ (k / 512 ≡ sector)

-- the words ws of a body stand from a on, in one sector, and so does what they refer to
pub record Body (M : Map) (f : Frame) (x : Context) (a : ℕ) (ws : List Sym) : Type 0 where
  pub fixed : Fixed M f a ws
  pub sector : ℕ
  pub low : 512 * sector ≤ f.locals
  pub from : f.locals ≤ a
  pub high : after ws a ≤ 512 * suc sector
  pub top : after ws a ≤ 16383
  pub ids : (i : Id) → IdOk x i → Direct M (Operand.named i) (address_of f (Operand.named i)) × Near sector (address_of f (Operand.named i))
  pub literals : (v : ℕ) → Memᴰ v (literals_of ws) → v < 65536 → Direct M (Operand.literal v) (address_of f (Operand.literal v)) × Near sector (address_of f (Operand.literal v))

-- everything of a program
pub record Placement (p : Program) : Type 0 where
  pub sound : Sound (map_at p)
  pub saved_at : map_at p saved_word ≡ saved_role p.checked
  pub homes : (i : CellId) → Memᴰ i (variables_of p) → Home p i
  pub arrays : (r : Array) → get_or (kinds_of p.declarations) r.number Kind.none ≡ Kind.array r.size r.checked → ArrayAt (map_at p) r (0o200 + r.number)
  pub words : (n : ℕ) → get_or (kinds_of p.declarations) n Kind.none ≡ Kind.procedure → ProcedureWord (map_at p) n (0o200 + n)
  pub procedures : (before : List Declaration) (name : Name) (accumulator : Bool) (locals : List (Name × Item)) (body : Stmts) (more : List Declaration)
      → p.declarations ≡ before ++ (Declaration.procedure name accumulator locals body ∷ more)
      → (map_at p (link_of (allocated before) name locals) ≡ Role.link (allocated before).scope.taken)
      × Body (map_at p) (frame (plan_of p (length (allocated before).ends)) (allocated before).next)
      (record { globals = kinds_of before; own = (allocated before).scope.taken; locals = local_words (allocated before) name locals })
      (suc (link_of (allocated before) name locals)) (procedure_words body (link_of (allocated before) name locals))
  pub main : Body (map_at p) (frame (plan_of p (length (allocated p.declarations).ends)) (allocated p.declarations).next)
      (record { globals = kinds_of p.declarations; own = 0; locals = 0 })
      (allocated p.declarations).next (main_words p.main (allocated p.declarations).next)
