-- A program, and the theorems that the walk gives.
use Prim.Native.Nat.{ℕ, ◌≤◌, ◌<◌}
use mathlib.Core.Path.{◌≡◌, refl}
use mathlib.Core.List.{List}
use native.Mathlib.Omega.{arith}
use lib.Dec.{leb}
use lib.ListN.{length}
use borrow.Author.Tests.{leb-true, leb-false}
use Rattle.source.specs.Kinds
use Rattle.tree.specs.Tree.{Program}
use Rattle.grammar.specs.Parse.{Got}
use Rattle.grammar.specs.Parse.Got.{got, failed}
use Rattle.grammar.specs.Program.{parse_program}
use Rattle.compilation.specs.Compile.{Compiled, Result, result_of, compile_def}
use Rattle.parsing_laws.specs.Numbered.{Numbered, FailuresNumbered}
use Rattle.parsing_laws.specs.WellFormed.{WellFormed, AcceptedWellFormed}
use Rattle.parsing_laws.proofs.Parsed.Choices.{choice}
use Rattle.parsing_laws.proofs.Parsed.Parts.{Failure, Parsed, fine, bad, and_then_lem, skipped}
use Rattle.parsing_laws.proofs.Parsed.Declarations.{flags, declarations, mains}

-- what becomes of a source
data Outcome (source : List ℕ) : Got Program → Type 0 where
  accepted : {p : Program} {n : ℕ} → WellFormed p → length source ≤ 8192 → Outcome source (got p n)
  refused : {n at : ℕ} → Numbered source n at → Outcome source (failed n at)

module _ (source : List ℕ) where
  too_long : 8192 < length source → Numbered source 3 0
  too_long h =
      record { least = omega arith; most = omega arith; long = λ _. (refl, refl); only_long = λ _. h; inside = omega arith; ended = λ e. absurd (omega arith) }

  found : (n at : ℕ) → length source ≤ 8192 → Failure source n at → Numbered source n at
  found n at h f = record {
    least = omega arith;
    most = omega arith;
    long = λ k. absurd (omega arith);
    only_long = λ e. absurd (omega arith);
    inside = omega arith;
    ended = f.ended;
  }

  short : {g : Got Program} → length source ≤ 8192 → Parsed source WellFormed g → Outcome source g
  short h (fine w _) = accepted w h
  short h (bad f) = refused (found _ _ h f)

  outcome : Outcome source (parse_program source)
  unfolding parse_program
  outcome =
      choice (Outcome source) (leb (length source) 8192) _ _
      (λ e. short (leb-true (length source) 8192 e) (skipped Kinds.BEGIN (omega arith) (λ n h.
      and_then_lem (flags source n h) (λ checked _ m h. and_then_lem (declarations source checked m h) (mains source checked)))))
      (λ e. refused (too_long (leb-false (length source) 8192 e)))

pub numbered : FailuresNumbered
unfolding compile_def result_of
numbered source n at e = by (parse_program source) (outcome source) e
  where
    by : (g : Got Program) → Outcome source g → result_of g ≡ Result.failed n at → Numbered source n at
    by (got p m) o e = let z : ◌≡◌ {A = ℕ} 0 1 = cc in absurd (omega arith)
    by (failed m i) (refused f) e =
        let j : m ≡ n = cc in
        let k : i ≡ at = cc in
        rw (← j, ← k) f

-- a source that compiles is no longer than 8,192 bytes
pub short_enough : (source : List ℕ) (c : Compiled) → compile_def source ≡ Result.accepted c → length source ≤ 8192
unfolding compile_def result_of
short_enough source c e = by (parse_program source) (outcome source) e
  where
    by : (g : Got Program) → Outcome source g → result_of g ≡ Result.accepted c → length source ≤ 8192
    by (got p m) (accepted w h) e = h
    by (failed m i) o e = let z : ◌≡◌ {A = ℕ} 0 1 = cc in absurd (omega arith)

well_formed_of : {source : List ℕ} {p : Program} {n : ℕ} → Outcome source (got p n) → WellFormed p
well_formed_of (accepted w h) = w

pub well_formed : AcceptedWellFormed
well_formed source p n e = well_formed_of (rw e at (outcome source))
