-- Chains of indirect words, one word at a time, and where they lead.
use Rattle.std.proofs.Common.{◌≡◌, ℕ, zero, suc, ◌-◌, ◌%◌, ◌<◌, ◌≤◌, Bool, true, false, List, Result, Ok, Err, get_or, refl, ap, not-suc-le-zero, arith}
use Rattle.instruction.specs.Field.{indirect_of, tag_of}
use Rattle.instruction.proofs.Choice.{cond_all}
use Rattle.machine.specs.declared.address.Reached.{Reached}
use Rattle.machine.specs.declared.failure.Failure.{Failure}
use Rattle.machine.specs.declared.failure.Failure.TheVariants.{LongChain}
use Rattle.machine.specs.Address.{reached, base_of, indexed_of, follow_of, address_of}

-- a chain that ends, one that is too long, and one that goes on
pub follow_end : (image : List ℕ) (n at : ℕ) → n ≤ 16 → follow_of image n false at ≡ reached at (16 - n)
unfolding follow_of
follow_end image zero at h = refl
follow_end image (suc n) at h = refl

pub follow_long : (image : List ℕ) (n at : ℕ) → n ≡ 0 → follow_of image n true at ≡ Err LongChain
unfolding follow_of
follow_long image n at h = rw h

-- the address that the word w gives
abbrev pub onwards : List ℕ → ℕ → ℕ
onwards image w = indexed_of (w % 16384) (tag_of w) (get_or image 0 0)

pub follow_more : (image : List ℕ) (n at : ℕ) → 0 < n
    → follow_of image n true at ≡ follow_of image (n - 1) (indirect_of (get_or image at 0)) (onwards image (get_or image at 0))
unfolding follow_of
follow_more image zero at h = absurd (not-suc-le-zero h)
follow_more image (suc n) at h =
    let e : n ≡ suc n - 1 = omega arith in
    ap (λ (k : ℕ). follow_of image k (indirect_of (get_or image at 0)) (onwards image (get_or image at 0))) e

-- an address that is reached is one of the image's
abbrev pub Below : Result Reached Failure → Type 0
Below (Ok r) = r.address < 16384
Below (Err f) = Unit {0}

indexed_below : (at x : ℕ) (tag : Bool) → at < 16384 → indexed_of at tag x < 16384
indexed_below at x tag h = cond_all (λ (k : ℕ). k < 16384) tag (omega arith) h

pub follow_below : (image : List ℕ) (n at : ℕ) (indirect : Bool) → at < 16384 → Below (follow_of image n indirect at)
unfolding follow_of
follow_below image zero at indirect h = cond_all Below indirect tt h
follow_below image (suc n) at indirect h =
    let w = get_or image at 0 in
    cond_all Below indirect
    (follow_below image n (onwards image w) (indirect_of w) (indexed_below (w % 16384) (get_or image 0 0) (tag_of w) (omega arith)))
    h

pub address_below : (image : List ℕ) (p : ℕ) (indirect tag sector : Bool) (address : ℕ) → p < 16384 → address < 512
    → Below (address_of image p indirect tag sector address)
address_below image p indirect tag sector address h l =
    follow_below image 16 _ indirect
    (indexed_below (base_of p sector address) (get_or image 0 0) tag (cond_all (λ (k : ℕ). k < 16384) sector (omega arith) (omega arith)))

pub ruleset for_follow = (follow_end, follow_long, follow_more)

pub ruleset for_step = (follow_below)
