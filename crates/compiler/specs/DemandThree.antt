-- Demand 3 as a caller of `compile` and `run` sees it: about the answers, images and scratch that the calls give.
use Rattle.std.specs.Prelude.{ℕ, ◌≡◌, List}
use Rattle.machine.specs.State as machine
use Rattle.runs.specs.Runs.{Turn, Total, no_run, with_run, runs_def}
use Rattle.runs.specs.Calls.{RunCall, told, RunCalled}
use Rattle.tree.specs.Tree.{Program}
use Rattle.compilation.specs.Compile.{Compiled, Result, compile_def}
use Rattle.semantics.specs.Trace.{State}
use Rattle.semantics.specs.Agreement.{Loaded, Loads, Agrees}
use Rattle.compiler.specs.Compile.{CompileCalled, Answer, accepted_with}

-- ---- The calls

-- a list of calls of `run` from a state, each on the state that the one before it left, and what it comes to (R10, demand 3e).
-- The clock record is the service's, which others' runs move on too: each call may have any, and any cooperative
pub data Calls : machine.State → Total → Type 0 where
  none : {s : machine.State} → Calls s (no_run s)
  one : (c : RunCall) {t : Total} → RunCalled c → Calls (told c).state t → Calls c.start (with_run c.turn (told c) t)

-- ---- The statement

-- a program with what the call of `compile` gave for it
abbrev pub delivered : Program → List ℕ → ℕ → ℕ → ℕ → Compiled
delivered p image entry words globals = record { program = p; image = image; entry = entry; words = words; globals = globals }

-- what is claimed of an accepted source
pub record Accepted (source image : List ℕ) (entry words globals : ℕ) : Type 0 where
  -- the program that the source is, by the definition; its image, entry and counts are those that the call gave (demand 2a, 3a)
  pub program : Program
  pub defined : compile_def source ≡ Result.accepted (delivered program image entry words globals)
  -- of every machine that is loaded with it, the statement about every list of calls (demand 3a to 3j and 3l)
  pub agrees : (σ : State) (s : machine.State) → Loaded (delivered program image entry words globals) σ s → Agrees program σ (Calls s)
  -- every list of turns is such a list of calls, with what its runs come to (demand 3e),
  pub called : (vs : List Turn) (s : machine.State) → Calls s (runs_def vs s)
  -- and such machines exist: the image itself is such a memory, and so it is with any values for the variables, and for word 2 with `.CHECKED` (demand 3k)
  pub loads : Loads (delivered program image entry words globals)

-- DEMAND 3 of every call of `compile` that accepts (demand 3a)
unfoldable pub Demand3Called : Type 0
Demand3Called =
    (source image scratch image' scratch' : List ℕ) (r : Answer) → CompileCalled source image scratch r image' scratch'
    → (entry words globals : ℕ) → r ≡ accepted_with entry words globals → Accepted source image' entry words globals
