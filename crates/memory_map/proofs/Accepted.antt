-- What an accepted source gives.
use mathlib.Core.Path.{◌≡◌, subst, refl}
use mathlib.Core.List.{List}
use Prim.Native.Nat.{ℕ}
use native.Mathlib.Omega.{arith}
use Rattle.tree.specs.Tree.{Program}
use Rattle.grammar.specs.Parse.{Got}
use Rattle.grammar.specs.Parse.Got.{got, failed}
use Rattle.grammar.specs.Program.{parse_program}
use Rattle.compilation.specs.Compile.{Compiled, Result, compiled, result_of, compile_def}
use Rattle.parsing_laws.specs.WellFormed.{WellFormed}
use Rattle.parsing_laws.proofs.Parsed.Programs.{well_formed}

pub record Accepted (c : Compiled) : Type 0 where
  pub well_formed : WellFormed c.program
  pub is : c ≡ compiled c.program

pub accepted : (source : List ℕ) (c : Compiled) → compile_def source ≡ Result.accepted c → Accepted c
unfolding compile_def result_of compiled
accepted source c e = by (parse_program source) refl e
  where
    by : (g : Got Program) → parse_program source ≡ g → result_of g ≡ Result.accepted c → Accepted c
    by (got p n) q e = let d : compiled p ≡ c = cc in subst Accepted d (record { well_formed = well_formed source p n q; is = refl })
    by (failed n at) q e = let z : ◌≡◌ {A = ℕ} 0 1 = cc in absurd (omega arith)
