use mathlib.Core.Path.{refl, ap, ap₂}
use native.Mathlib.Omega.{arith}
use lib.ListN.{length}
use mathlib.Core.List.{[]}
use Rattle.tree.specs.Symbols.{Level}
use Rattle.emitter.specs.Emitted.{literals_in, no_pool}
use Rattle.declarations.proofs.ProgramLaws.{none_alive}
use Rattle.declarations.proofs.program.start_allocation.Goals as goal

pub returns : goal.returns
unfolding no_pool
returns c = let e = ap literals_in c.empty.ensures in
    let l = ap length e in
    record {
      allocation = λ table. ap₂ (λ x y. record { scope = record { names = x; level = Level.outer; taken = 0 }; next = 0o1000; pool = y; ends = []; array = 16383 }) (none_alive table) e;
      sound = record { few = omega arith; each = omega arith; closed = record { last = omega arith; long = refl; spare = refl }; used = omega (arith, l); fits = omega (arith, l); top = omega arith };
    }
