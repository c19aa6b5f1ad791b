-- The effective address.
use Rattle.std.specs.Prelude.{ℕ, zero, suc, ◌+◌, ◌-◌, ◌*◌, ◌/◌, ◌%◌, Bool, cond, List, Result, Ok, Err, slice_index, slice_index_or}
use Rattle.instruction.specs.Field.{indirect_of, tag_of}
use Rattle.machine.specs.declared.address.Reached.{Reached}
use Rattle.machine.specs.declared.failure.Failure.{Failure}
use Rattle.machine.specs.declared.failure.Failure.TheVariants.{LongChain}

-- an address, and how many indirect words were passed on the way
abbrev pub reached : ℕ → ℕ → Result Reached Failure
reached address passed = Ok (record { address = address; passed = passed })

-- the nine address bits: in P's sector if the sector bit is set, else in sector 0 (I3)
abbrev pub base_of : ℕ → Bool → ℕ → ℕ
base_of p sector address = cond sector (p / 512 * 512 + address) address

-- with X added where the tag is set, and wrapped to the memory (I3, I4)
abbrev pub indexed_of : ℕ → Bool → ℕ → ℕ
indexed_of address tag x = cond tag ((address + x) % 16384) address

-- from one indirect word to the next, each 14 bits of address (I3, I4), with n more of the 16 allowed (I5); it answers how many it passed
unfoldable pub follow_of : List ℕ → ℕ → Bool → ℕ → Result Reached Failure
follow_of image zero indirect at = cond indirect (Err LongChain) (reached at 16)
follow_of image (suc n) indirect at =
    let w = slice_index_or image at 0 in
    cond indirect (follow_of image n (indirect_of w) (indexed_of (w % 16384) (tag_of w) (slice_index image 0))) (reached at (16 - suc n))

-- E, by an instruction's parts (I3, I5)
abbrev pub address_of : List ℕ → ℕ → Bool → Bool → Bool → ℕ → Result Reached Failure
address_of image p indirect tag sector address =
    follow_of image 16 indirect (indexed_of (base_of p sector address) tag (slice_index image 0))
