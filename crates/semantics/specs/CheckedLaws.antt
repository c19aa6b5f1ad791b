-- What `.CHECKED` changes, and that without it the words and steps of a subscript, word 2 and the condition on subscripts are as they were.
use Rattle.std.specs.Prelude.{ℕ, ◌≤◌, ◌<◌, ◌≡◌, true, false, List}
use Rattle.tree.specs.Tree.{Array, Subscript, Program}
use Rattle.layout.specs.Words.{load_words, subscript_words}
use Rattle.layout.specs.Map.{Role, finished, map_at}
use Rattle.layout.specs.Addresses.{saved_word}
use Rattle.compilation.specs.Compile.{Compiled, Result, compile_def}
use Rattle.parsing_laws.specs.WellFormed.{All, Flagged}
use Rattle.semantics.specs.Trace.{State}
use Rattle.semantics.specs.Acts.{x_cell, index, pass_steps, stop_steps, tested}
use Rattle.semantics.specs.Meaning.{meaning}
use Rattle.semantics.specs.Agreement.{Breaks, BehindTest, Inside}

pub record CheckedLaws : Type 0 where
  -- one flag for a program: the subscripts of every array are tested, or those of none (D17)
  pub one_flag : (source : List ℕ) (c : Compiled) → compile_def source ≡ Result.accepted c → All (Flagged c.program.checked) c.program.declarations
  -- with `.CHECKED` nothing is asked of the subscripts (demand 3l)
  pub asks_nothing : (p : Program) (σ : State) → p.checked ≡ true → Inside p σ
  -- without it what was asked before is asked: that no subscript leaves its array (demand 3h),
  pub old_condition : (p : Program) (σ : State) → p.checked ≡ false → Inside p σ → (f : ℕ) (τ : State) → Breaks τ (meaning f p σ) → ⊥
  -- and that is enough
  pub old_enough : (p : Program) (σ : State) → ((f : ℕ) (τ : State) → Breaks τ (meaning f p σ) → ⊥) → Inside p σ
  -- without it the words and the steps of a subscript are the old ones, and word 2 is not used (W2, M9, A12)
  pub old_words : (a : Array) (s : Subscript) → a.checked ≡ false → subscript_words a s ≡ load_words s
  pub old_steps : (a : Array) (σ : State) → a.checked ≡ false → tested a σ ≡ σ
  pub old_memory : (source : List ℕ) (c : Compiled) → compile_def source ≡ Result.accepted c → c.program.checked ≡ false → map_at c.program saved_word ≡ Role.free
  -- with it word 2 keeps A (A12)
  pub new_memory : (source : List ℕ) (c : Compiled) → compile_def source ≡ Result.accepted c → c.program.checked ≡ true → map_at c.program saved_word ≡ Role.saved
  -- of every program: X as an index is X itself, where X is a word (M9)
  pub same_index : (σ : State) → σ.cells x_cell < 65536 → index σ ≡ σ.cells x_cell
  -- the HLT that closes the main body is no test's, so P tells where a list halted (demand 3h, 3l, O11)
  pub apart : (source : List ℕ) (c : Compiled) → compile_def source ≡ Result.accepted c → BehindTest c.program (finished c.program).next → ⊥
  -- a test that is passed takes 6 to 8 steps, and one that is not stops with its 4th to 6th (M15)
  pub pass_steps_lem : (a : Array) (x : ℕ) → (6 ≤ pass_steps a x) × (pass_steps a x ≤ 8)
  pub stop_steps_lem : (x : ℕ) → (4 ≤ stop_steps x) × (stop_steps x ≤ 6)
