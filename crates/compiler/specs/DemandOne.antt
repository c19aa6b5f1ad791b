-- Demand 1 as a caller of `compile` and `run` sees it: how a call can end, whatever is handed in. Clauses are those of docs/DEMANDS.md.
use Rattle.std.specs.Prelude.{ℕ, ◌≤◌, ◌<◌, ◌≡◌, List, length, replicate}
use Rattle.machine.specs.declared.failure.Failure.{Failure}
use Rattle.machine.specs.Clock.{spend_many}
use Rattle.machine.specs.Run.{refusal_of}
use Rattle.runs.specs.Outcomes.{Ended, Refusal}
use Rattle.runs.specs.Calls.{RunCall, told, RunCalled}
use Rattle.parsing_laws.specs.Numbered.{Numbered}
use Rattle.compiler.specs.Compile.{scratch_words, CompileCalled, Answer, accepted_with, failed_with}
use Rattle.layout.specs.Addresses.{memory_words}

-- of `compile` (demand 1a); each way to fail leaves the image as it was (demand 1c)
pub data CompileEnds (source image scratch : List ℕ) (r : Answer) (image' : List ℕ) : Type 0 where
  -- an image of another length: 1 at 0 (F1)
  wrong_image : (length image ≡ memory_words → ⊥) → r ≡ failed_with 1 0 → image' ≡ image → CompileEnds source image scratch r image'
  -- too little scratch: 2 at 0 (F2)
  short_scratch : length image ≡ memory_words → length scratch < scratch_words → r ≡ failed_with 2 0 → image' ≡ image → CompileEnds source image scratch r image'
  -- a failure of the source: 3 to 14, at an offset in it (J4)
  failed : length image ≡ memory_words → scratch_words ≤ length scratch → (n at : ℕ) → r ≡ failed_with n at → Numbered source n at → image' ≡ image → CompileEnds source image scratch r image'
  -- an image (demand 1a); what it is and does says specs/DemandThree
  accepted : length image ≡ memory_words → scratch_words ≤ length scratch → length source ≤ 8192 → (entry words globals : ℕ) → r ≡ accepted_with entry words globals → length image' ≡ memory_words → CompileEnds source image scratch r image'

-- of `run` (demand 1b)
pub data RunEnds (c : RunCall) : Type 0 where
  -- 27, 1, 23 or 22, just on its cause: 0 steps, and everything as it was (R7, J12, demand 1d)
  refused : (f : Failure) → Refusal c.turn.request c.start f → c.report ≡ refusal_of f c.start.machine c.clock → c.image ≡ c.start.image → RunEnds c
  -- halted, spent, or 20 or 21 with the state before that step (R6, demand 1d): the steps that it reports were made, and the clock record counts them
  ended : ((f : Failure) → Refusal c.turn.request c.start f → ⊥) → Ended c.turn.request.budget c.start (told c)
      → c.report.clock ≡ spend_many c.turn.request c.report.steps c.clock → RunEnds c

-- DEMAND 1 of every call
pub record Demand1Called : Type 0 where
  -- of `compile`, and scratch is all zeros after it (demand 1a, 1c, 1e)
  pub compiles : (source image scratch image' scratch' : List ℕ) (r : Answer) → CompileCalled source image scratch r image' scratch'
      → CompileEnds source image scratch r image' × (scratch' ≡ replicate (length scratch) 0)
  -- of `run` (demand 1b, 1d)
  pub runs : (c : RunCall) → RunCalled c → RunEnds c
