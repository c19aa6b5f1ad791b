-- What `.CHECKED` changes, and what it leaves.
use Prim.Native.Nat.{ℕ, suc, ◌+◌, ◌≤◌}
use mathlib.Core.Path.{◌≡◌, refl, sym, ap, ◌∙◌}
use mathlib.Core.Bool.{Bool, true, false, cond, not}
use mathlib.Core.List.{[]}
use native.Mathlib.Omega.{arith}
use lib.Dec.{eqb, ltb}
use Rattle.word.specs.Arithmetic.{bit}
use Rattle.tree.specs.Tree.{Array, Subscript, lowest}
use Rattle.layout.specs.Words.{◌⧺◌, load_words, test_words, subscript_words}
use Rattle.layout.specs.Map.{Role, saved_role, finished, map_at}
use Rattle.layout.specs.Addresses.{saved_word}
use Rattle.compilation.specs.Compile.{Compiled}
use Rattle.memory_map.proofs.Accepted.{Accepted, accepted}
use Rattle.memory_map.proofs.LaidPrograms.{placed, laid_at, end_at}
use Rattle.semantics.specs.Acts.{pass_steps, stop_steps}
use Rattle.semantics.specs.Agreement.{BehindTest}
use Rattle.semantics.specs.CheckedLaws.{CheckedLaws}
use Rattle.semantics.proofs.Simulation.Tests.{untested}

no_test : (s : Subscript) → load_words s ⧺ [] ≡ load_words s
unfolding load_words ◌⧺◌
no_test (Subscript.by o) = refl
no_test Subscript.hash = refl

old_words : (a : Array) (s : Subscript) → a.checked ≡ false → subscript_words a s ≡ load_words s
unfolding subscript_words
old_words a s e = ap (λ (b : Bool). load_words s ⧺ cond b (test_words a) []) e ∙ no_test s

saved_as : (c : Compiled) → Accepted c → (b : Bool) → c.program.checked ≡ b → map_at c.program saved_word ≡ saved_role b
saved_as c a b e = (placed c.program a.well_formed).saved_at ∙ ap saved_role e

-- the last word of the main body is a fixed one
apart : (c : Compiled) → Accepted c → BehindTest c.program (finished c.program).next → ⊥
apart c a b =
    let l = laid_at c a in
    let same : b.test ≡ l.last = let e : suc l.last ≡ suc b.test = l.end ∙ end_at c a ∙ b.behind in omega arith in
    let z : Role.stop ≡ Role.fixed l.halt.word = sym b.is ∙ ap (map_at c.program) same ∙ l.halt.here in
    let y : ◌≡◌ {A = ℕ} 0 1 = cc in
    omega arith

pass_steps_lem : (a : Array) (x : ℕ) → (6 ≤ pass_steps a x) × (pass_steps a x ≤ 8)
unfolding pass_steps
pass_steps_lem a x = go (eqb x 65535) (eqb x (lowest a))
  where
    go : (b c : Bool) → (6 ≤ 6 + bit b + bit (not c)) × (6 + bit b + bit (not c) ≤ 8)
    go true true = (omega arith, omega arith)
    go true false = (omega arith, omega arith)
    go false true = (omega arith, omega arith)
    go false false = (omega arith, omega arith)

stop_steps_lem : (x : ℕ) → (4 ≤ stop_steps x) × (stop_steps x ≤ 6)
unfolding stop_steps
stop_steps_lem x = go (ltb x 32768) (eqb x 65535)
  where
    go : (b c : Bool) → (4 ≤ cond b 4 (5 + bit c)) × (cond b 4 (5 + bit c) ≤ 6)
    go true c = (omega arith, omega arith)
    go false true = (omega arith, omega arith)
    go false false = (omega arith, omega arith)

pub checked_laws : CheckedLaws
unfolding saved_role
checked_laws = record {
  one_flag = λ source c e. (accepted source c e).well_formed.flags;
  asks_nothing = λ p σ e f τ b. e;
  old_condition = λ p σ e inside f τ b. let z : true ≡ false = sym (inside f τ b) ∙ e in let y : ◌≡◌ {A = ℕ} 0 1 = cc in omega arith;
  old_enough = λ p σ whole f τ b. absurd (whole f τ b);
  old_words = old_words;
  old_steps = untested;
  old_memory = λ source c e d. saved_as c (accepted source c e) false d;
  new_memory = λ source c e d. saved_as c (accepted source c e) true d;
  same_index = λ σ h. omega arith;
  apart = λ source c e. apart c (accepted source c e);
  pass_steps_lem = pass_steps_lem;
  stop_steps_lem = stop_steps_lem;
}
