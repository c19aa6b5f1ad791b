-- The answer of a program that was read.
use Rattle.std.specs.Prelude.{◌+◌, ◌-◌, length}
use Rattle.emitter.specs.Emitted.{literals_in}
use Rattle.declarations.specs.declared.Reading.{Reading}
use Rattle.compiler.specs.declared.Program.{Program}
use Rattle.layout.specs.Addresses.{first_code}

-- its entry, its words from '1000, its globals
abbrev pub counted_of : Reading → Program
counted_of a = record { entry = a.allocation.output.next; words = a.end.next + length (literals_in a.end.pool) - first_code; globals = a.allocation.taken }
