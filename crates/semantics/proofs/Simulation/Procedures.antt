-- The machine follows the procedures that a program declares, where they stand in its map.
use Prim.Native.Nat.{ℕ, ◌+◌}
use mathlib.Core.List.{List, [], ◌∷◌, ◌++◌}
use Rattle.machine.specs.State as machine
use Rattle.tree.specs.Tree.{Stmts, Declaration}
use Rattle.layout.specs.Allocation as layout
use Rattle.semantics.specs.Trace.{Trace}
use Rattle.semantics.specs.Meaning.{Procedures, with_declaration, procedures_from, procedures_of}
use Rattle.tree.specs.Symbols.{globals_of}
use Rattle.parsing_laws.specs.WellFormed.{Context, Kind, StmtsBy, StmtOk, DeclarationOk, DeclarationsOk}
use Rattle.memory_map.specs.Laid.{Map, Sound, Known, Knows, LaidProcedure, LaidProcedures}
use Rattle.memory_map.specs.KnownProcedures.{with_procedure, known_from, known_of}
use Rattle.semantics.proofs.Simulation.Expressions.{Obeys}
use Rattle.semantics.proofs.Simulation.Statements.{obeys_none, obeys_more}

-- ---- The bodies of well-formed declarations

abbrev BodyOk : Declaration → Type 0
BodyOk (Declaration.item name item) = Unit {0}
BodyOk (Declaration.array name size checked values) = Unit {0}
BodyOk (Declaration.procedure name accumulator locals body) = (x : Context) × StmtsBy (StmtOk x 33) body
BodyOk Declaration.next_sector = Unit {0}

abbrev pub BodiesOk : List Declaration → Type 0
BodiesOk [] = Unit {0}
BodiesOk (d ∷ ds) = BodyOk d × BodiesOk ds

body_ok : (st : layout.Allocation) (kinds : List Kind) (d : Declaration) → DeclarationOk st kinds d → BodyOk d
body_ok st kinds (Declaration.item name item) h = tt
body_ok st kinds (Declaration.array name size checked values) h = tt
body_ok st kinds (Declaration.procedure name accumulator locals body) h = (_, h.2)
body_ok st kinds Declaration.next_sector h = tt

bodies_more : (ds : List Declaration) (d : Declaration) → BodiesOk ds → BodyOk d → BodiesOk (ds ++ (d ∷ []))
bodies_more [] d h o = (o, tt)
bodies_more (e ∷ ds) d h o = (h.0, bodies_more ds d h.1 o)

pub bodies_ok : {ds : List Declaration} → DeclarationsOk ds → BodiesOk ds
bodies_ok DeclarationsOk.none = tt
bodies_ok (DeclarationsOk.more ds d h o) = bodies_more ds d (bodies_ok h) (body_ok _ _ d o)

module _ (M : Map) where
  -- ---- Procedures in the map, the earlier ones first

  record Latest (ps : Known) (n : ℕ) (body : Stmts) : Type 0 where
    laid : LaidProcedure M ps n body
    fresh : Knows ps n → ⊥
    before : LaidProcedures M ps

  latest : {ps : Known} {n : ℕ} {body : Stmts} → LaidProcedures M ((n, body) ∷ ps) → Latest ps n body
  latest (LaidProcedures.more p fresh before) = record { laid = p; fresh = fresh; before = before }

  laid_without : (n : ℕ) (ps : Known) (d : Declaration) → LaidProcedures M (with_procedure n ps d) → LaidProcedures M ps
  unfolding with_procedure
  laid_without n ps (Declaration.item name item) k = k
  laid_without n ps (Declaration.array name size checked values) k = k
  laid_without n ps (Declaration.procedure name accumulator locals body) k = (latest k).before
  laid_without n ps Declaration.next_sector k = k

  laid_before : (n : ℕ) (ps : Known) (ds : List Declaration) → LaidProcedures M (known_from n ps ds) → LaidProcedures M ps
  unfolding known_from
  laid_before n ps [] k = k
  laid_before n ps (d ∷ ds) k = laid_without n ps d (laid_before (n + globals_of d) (with_procedure n ps d) ds k)

  -- ---- The machine follows them

  module _ (sound : Sound M) (s₀ : machine.State) (N fuel : ℕ) where
    obeys_with : (n : ℕ) (ps : Known) (procedures : Procedures) (d : Declaration) → Obeys M sound s₀ N fuel ps procedures → BodyOk d
        → LaidProcedures M (with_procedure n ps d) → Obeys M sound s₀ N fuel (with_procedure n ps d) (with_declaration fuel n procedures d)
    unfolding with_procedure with_declaration
    obeys_with n ps procedures (Declaration.item name item) obeys o k = obeys
    obeys_with n ps procedures (Declaration.array name size checked values) obeys o k = obeys
    obeys_with n ps procedures (Declaration.procedure name accumulator locals body) obeys o k =
        let l = latest k in obeys_more M sound s₀ N fuel o.0 obeys o.1 l.laid l.fresh
    obeys_with n ps procedures Declaration.next_sector obeys o k = obeys

    obeys_from : (n : ℕ) (ps : Known) (procedures : Procedures) (ds : List Declaration) → Obeys M sound s₀ N fuel ps procedures → BodiesOk ds
        → LaidProcedures M (known_from n ps ds) → Obeys M sound s₀ N fuel (known_from n ps ds) (procedures_from fuel n procedures ds)
    unfolding known_from procedures_from
    obeys_from n ps procedures [] obeys o k = obeys
    obeys_from n ps procedures (d ∷ ds) obeys o k =
        let here = laid_before (n + globals_of d) (with_procedure n ps d) ds k in
        obeys_from (n + globals_of d) (with_procedure n ps d) (with_declaration fuel n procedures d) ds (obeys_with n ps procedures d obeys o.0 here) o.1 k

    pub obeys_all : (ds : List Declaration) → DeclarationsOk ds → LaidProcedures M (known_of ds)
        → Obeys M sound s₀ N fuel (known_of ds) (procedures_of fuel ds)
    unfolding procedures_of
    obeys_all ds o k = obeys_from 0 [] (λ p σ. Trace.out σ) ds (obeys_none M sound s₀ N fuel (λ p σ. Trace.out σ)) (bodies_ok o) k
