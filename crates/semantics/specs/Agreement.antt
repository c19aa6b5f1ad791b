-- Demand 3: what every list of runs of a loaded machine shows of the meaning. Each field cites the clause of docs/DEMANDS.md that it sets down.
use Rattle.std.specs.Prelude.{ℕ, suc, ◌+◌, ◌≤◌, ◌<◌, ◌≡◌, true, false, cond, length, get_or}
use mathlib.Core.List.{List, Memᴰ}
use Rattle.machine.specs.declared.Machine.{Machine}
use Rattle.machine.specs.State as machine
use Rattle.runs.specs.Runs.{Total, Comes}
use Rattle.tree.specs.Tree.{CellId, Array, Program}
use Rattle.layout.specs.Map.{Role, map_at, finished, Home}
use Rattle.compilation.specs.Compile.{Compiled, Result, compile_def}
use Rattle.semantics.specs.Trace.{State, Trace}
use Rattle.semantics.specs.Acts.{x_cell, index, stop_steps}
use Rattle.semantics.specs.Meaning.{meaning}
use Rattle.tree.specs.Variables.{variables_of, constants_of, Declares, arrays_of, Elements}
use Rattle.layout.specs.Addresses.{memory_words, first_global, saved_word}
use Rattle.memory_map.specs.Laid.{ArrayWord, Through}

-- ---- A loaded machine

-- a word of memory, by what the map says that it is for: variables and constants have the start's values; the word that keeps A in a test may hold anything (A12); every other word is the image's
abbrev pub Holds : State → Role → ℕ → ℕ → Type 0
Holds σ (Role.fixed w) image_word word = word ≡ image_word
Holds σ Role.stop image_word word = word ≡ image_word
Holds σ (Role.cell i v) image_word word = word ≡ σ.cells i
Holds σ (Role.link p) image_word word = word ≡ image_word
Holds σ Role.saved image_word word = Unit {0}
Holds σ Role.free image_word word = word ≡ image_word

-- what the meaning starts from: any values but those of the named constants, and nothing done yet (M2)
pub record Start (p : Program) (σ : State) : Type 0 where
  pub constants : (i : CellId) (v : ℕ) → Memᴰ (i, v) (constants_of p) → σ.cells i ≡ v
  pub begins : σ.steps ≡ 0

-- THE PREMISE: the image is loaded, with the start's values, and the machine stands at the entry, not halted (demand 3a)
pub record Loaded (c : Compiled) (σ : State) (s : machine.State) : Type 0 where
  pub start : Start c.program σ
  pub size : length s.image ≡ memory_words
  pub image : (k : ℕ) → k < memory_words → Holds σ (map_at c.program k) (get_or c.image k 0) (get_or s.image k 0)
  pub registers : s.machine.registers ≡ σ.registers
  pub switches : s.machine.switches ≡ σ.switches
  pub entry : s.machine.p ≡ c.entry
  pub running : s.machine.halted ≡ false

-- the word of every cell, X among them, has the meaning's value (demand 3g)
abbrev pub ShowsCells : Program → State → machine.State → Type 0
ShowsCells p σ s = (k : ℕ) (i : CellId) (v : ℕ) → k < memory_words → map_at p k ≡ Role.cell i v → get_or s.image k 0 ≡ σ.cells i

-- and the machine has its A, B and C (demand 3g)
pub record Shows (p : Program) (σ : State) (s : machine.State) : Type 0 where
  pub registers : s.machine.registers ≡ σ.registers
  pub cells : ShowsCells p σ s

-- ---- Traces

-- m is observed
pub data Observes {A : Type 0} (m : State) : Trace A → Type 0 where
  here : {t : Trace A} → Observes m (Trace.observe m t)
  later : {n : State} {t : Trace A} → Observes m t → Observes m (Trace.observe n t)

-- the meaning ends in τ; breaks off in τ; runs out of fuel in τ
pub data Ends {A : Type 0} (τ : State) : Trace A → Type 0 where
  here : {a : A} → Ends τ (Trace.done a τ)
  later : {n : State} {t : Trace A} → Ends τ t → Ends τ (Trace.observe n t)

pub data Breaks {A : Type 0} (τ : State) : Trace A → Type 0 where
  here : Breaks τ (Trace.broke τ)
  later : {n : State} {t : Trace A} → Breaks τ t → Breaks τ (Trace.observe n t)

pub data RunsOut {A : Type 0} (τ : State) : Trace A → Type 0 where
  here : RunsOut τ (Trace.out τ)
  later : {n : State} {t : Trace A} → RunsOut τ t → RunsOut τ (Trace.observe n t)

-- the first trace is a beginning of the second: it ran out of fuel, or they are the same (demand 3b)
pub data Begins {A : Type 0} : Trace A → Trace A → Type 0 where
  at_out : {τ : State} {t : Trace A} → Begins (Trace.out τ) t
  at_done : {a : A} {τ : State} → Begins (Trace.done a τ) (Trace.done a τ)
  at_broke : {τ : State} → Begins (Trace.broke τ) (Trace.broke τ)
  at_observe : {m : State} {t u : Trace A} → Begins t u → Begins (Trace.observe m t) (Trace.observe m u)

-- the numbers of steps never fall, from a number on (demand 3d)
abbrev pub Rising : {A : Type 0} → ℕ → Trace A → Type 0
Rising low (Trace.done a τ) = low ≤ τ.steps
Rising low (Trace.broke τ) = low ≤ τ.steps
Rising low (Trace.out τ) = low ≤ τ.steps
Rising low (Trace.observe m t) = (low ≤ m.steps) × Rising m.steps t

-- ---- The statement

-- a list of runs comes to the meaning's state τ: it has made τ's number of steps, none a halt, and shows τ (demand 3f, 3g)
pub record Meets (p : Program) (τ : State) (t : Total) : Type 0 where
  pub steps : t.work.steps ≡ τ.steps
  pub running : t.state.machine.halted ≡ false
  pub shows : Shows p τ t.state

-- every step that was granted is made, none a halt (demand 3i, 3j)
pub record AllMade (t : Total) : Type 0 where
  pub steps : t.work.steps ≡ t.granted
  pub running : t.state.machine.halted ≡ false

-- the list halts where the meaning ended in τ: by one step more, at the main body's last HLT, behind which P stands, and shows τ (demand 3h)
pub record HaltsAfter (p : Program) (τ : State) (t : Total) : Type 0 where
  pub steps : t.work.steps ≡ suc τ.steps
  pub halted : t.state.machine.halted ≡ true
  pub place : t.state.machine.p ≡ (finished p).next
  pub shows : Shows p τ t.state

-- the steps with which a list stops where the meaning broke off in τ: up to the HLT of its test, and that one too (M15, demand 3l)
abbrev pub stop_at : State → ℕ
stop_at τ = τ.steps + stop_steps (index τ)

-- an address is that behind the HLT of a subscript's test (demand 3l)
pub record BehindTest (p : Program) (at : ℕ) : Type 0 where
  pub test : ℕ
  pub below : test < memory_words
  pub is : map_at p test ≡ Role.stop
  pub behind : at ≡ suc test

-- the list stops at a test's HLT where the meaning broke off in τ: every cell, X among them, B and C are τ's, word 2 has τ's A, and A has X (demand 3l)
pub record StopsAfter (p : Program) (τ : State) (t : Total) : Type 0 where
  pub steps : t.work.steps ≡ stop_at τ
  pub halted : t.state.machine.halted ≡ true
  pub place : BehindTest p t.state.machine.p
  pub cells : ShowsCells p τ t.state
  pub saved : get_or t.state.image saved_word 0 ≡ τ.registers.a
  pub registers : t.state.machine.registers ≡ record { a = τ.cells x_cell; b = τ.registers.b; c = τ.registers.c }

pub data ListEnds (p : Program) (σ : State) (t : Total) : Type 0 where
  -- the meaning ends and more is granted than its last number: the list halts (demand 3h)
  halts : (f : ℕ) (τ : State) → Ends τ (meaning f p σ) → τ.steps < t.granted → HaltsAfter p τ t → ListEnds p σ t
  -- the meaning breaks off, and as much is granted as its test takes to stop: the list stops (demand 3l)
  stops : (f : ℕ) (τ : State) → Breaks τ (meaning f p σ) → stop_at τ ≤ t.granted → StopsAfter p τ t → ListEnds p σ t
  -- no end that the meaning comes to is passed, and no test's HLT: the list goes on, with all its steps made (demand 3i)
  goes_on : ((f : ℕ) (τ : State) → Ends τ (meaning f p σ) → t.granted ≤ τ.steps) → ((f : ℕ) (τ : State) → Breaks τ (meaning f p σ) → t.granted < stop_at τ) → AllMade t
      → ListEnds p σ t

-- THE CONDITION: the meaning breaks off only in a program whose subscripts are tested. With `.CHECKED` nothing is asked by this, without it that no subscript leaves its array (demand 3h, 3l)
abbrev pub Inside : Program → State → Type 0
Inside p σ = (f : ℕ) (τ : State) → Breaks τ (meaning f p σ) → p.checked ≡ true

-- X leaves an array in τ, with P at an address: what comes next there, behind the ten words of a test if subscripts are tested, goes through the word of an array (which has a tag, as no
-- procedure's word has), and the element of that array that X names is no variable (M9, W19, demand 3j)
pub record Leaves (p : Program) (τ : State) (at : ℕ) : Type 0 where
  pub array : Array
  pub word : ArrayWord (map_at p) array (first_global + array.number)
  pub behind : ℕ
  pub tested : behind ≡ cond p.checked (10 + at) at
  pub through : Through (map_at p) (first_global + array.number) behind
  pub outside : Memᴰ (CellId.element array.number (index τ)) (variables_of p) → ⊥

-- THE STATEMENT, of every list of runs from there: `comes t` says that one of them comes to t (demand 3e)
pub record Agrees (p : Program) (σ : State) (comes : Total → Type 0) : Type 0 where
  -- there is one meaning: more fuel only extends what less fuel shows (demand 3b)
  pub steady : (f g : ℕ) → f ≤ g → Begins (meaning f p σ) (meaning g p σ)
  -- none is left out: fuel f shows everything below f steps (demand 3c)
  pub complete : (f : ℕ) (τ : State) → RunsOut τ (meaning f p σ) → f ≤ τ.steps
  -- the numbers of steps are the meaning's own, in which no list has a part, and never fall (demand 3b, 3d)
  pub rising : (f : ℕ) → Rising 0 (meaning f p σ)
  -- every variable that is declared has one home, the word where the memory is said to show it (demand 3g),
  pub homes : (i : CellId) → Memᴰ i (variables_of p) → Home p i
  -- and no word is said to show anything but such a variable, or a named constant with its value (demand 3g)
  pub cells : (k : ℕ) (i : CellId) (v : ℕ) → map_at p k ≡ Role.cell i v → Declares p i v
  -- the subscripts of an array are those words whose elements are variables (M9, demand 3j)
  pub elements : (a : Array) → Memᴰ a (arrays_of p) → Elements p a
  -- granted just the number of an observation, a list makes just those steps and shows what is observed (demand 3f, 3g)
  pub observed : (f : ℕ) (τ : State) → Observes τ (meaning f p σ) → (t : Total) → comes t → t.granted ≡ τ.steps → Meets p τ t
  -- where the meaning breaks off, the machine shows its state, X with the rest, and still runs; and X leaves an array there (M9, demand 3j),
  pub broken : (f : ℕ) (τ : State) → Breaks τ (meaning f p σ) → (t : Total) → comes t → t.granted ≡ τ.steps → Meets p τ t × Leaves p τ t.state.machine.p
  -- and a list that is granted no more than that number makes every step (demand 3j)
  pub until_broken : (f : ℕ) (τ : State) → Breaks τ (meaning f p σ) → (t : Total) → comes t → t.granted ≤ τ.steps → AllMade t
  -- where the meaning ends, a list that is granted more than its last number halts (demand 3h)
  pub halts : (f : ℕ) (τ : State) → Ends τ (meaning f p σ) → (t : Total) → comes t → τ.steps < t.granted → HaltsAfter p τ t
  -- where it breaks off in a program with `.CHECKED`, one that is granted as much as its test takes stops (demand 3l)
  pub stops : p.checked ≡ true → (f : ℕ) (τ : State) → Breaks τ (meaning f p σ) → (t : Total) → comes t → stop_at τ ≤ t.granted → StopsAfter p τ t
  -- and with `.CHECKED`, or without it where no subscript leaves its array, a list ends in these ways alone, else every step is made (demand 3h, 3i, 3l)
  pub ends : Inside p σ → (t : Total) → comes t → ListEnds p σ t

-- DEMAND 3 over the definitions: of every accepted source and every machine loaded with it (demand 3a, 3e)
unfoldable pub Demand3 : Type 0
Demand3 = (source : List ℕ) (c : Compiled) → compile_def source ≡ Result.accepted c → (σ : State) (s : machine.State) → Loaded c σ s → Agrees c.program σ (Comes s)

-- ---- Such machines exist

-- a word of memory before the start: the image's, or anything where a variable stands or A is kept in a test (demand 3k)
pub data Fills (c : Compiled) (k word : ℕ) : Type 0 where
  laid : word ≡ get_or c.image k 0 → Fills c k word
  given : (i : CellId) (v : ℕ) → Memᴰ i (variables_of c.program) → map_at c.program k ≡ Role.cell i v → Fills c k word
  saved : map_at c.program k ≡ Role.saved → Fills c k word

-- the premise can be met (demand 3k)
pub record Loads (c : Compiled) : Type 0 where
  pub whole : length c.image ≡ memory_words
  -- a machine set at the entry, whose memory is the image but for any values of the variables and of the word that keeps A, is loaded with some start; by `whole` the image itself is such a memory
  pub filled : (m : Machine) (memory : List ℕ) → length memory ≡ memory_words → ((k : ℕ) → k < memory_words → Fills c k (get_or memory k 0)) → m.p ≡ c.entry → m.halted ≡ false
      → (σ : State) × Loaded c σ (machine.state m memory)
  -- and every start has a machine that is loaded with it
  pub started : (σ : State) → Start c.program σ → (s : machine.State) × Loaded c σ s

unfoldable pub Loadable : Type 0
Loadable = (source : List ℕ) (c : Compiled) → compile_def source ≡ Result.accepted c → Loads c
