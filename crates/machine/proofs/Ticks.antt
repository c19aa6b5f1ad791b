-- The clock record after many steps: their number added to the clock and to one count, modulo 2^32.
use Rattle.std.proofs.Common.{◌≡◌, ℕ, zero, suc, ◌+◌, ◌%◌, ◌^◌, ◌<◌, length, get_or, set, sym, ap, ◌∙◌, arith, get_or-set_same, set-set}
use lib.Seq.{set-get_or}
use Rattle.machine.specs.declared.Clock.{Clock}
use Rattle.machine.specs.declared.Request.{Request}
use Rattle.machine.specs.Clock.{tick, tick_at, spend_many}

-- none and one more, added to a number of 32 bits
added_none : (m : ℕ) → m < 2 ^ 32 → m ≡ (m + 0) % 2 ^ 32
added_none m h = omega arith

added_one : (m n : ℕ) → tick ((m + n) % 2 ^ 32) ≡ (m + suc n) % 2 ^ 32
added_one m n = omega arith

pub common_after : (q : Request) (n : ℕ) (k : Clock) → k.common < 2 ^ 32 → (spend_many q n k).common ≡ (k.common + n) % 2 ^ 32
unfolding spend_many
common_after q zero k h = added_none k.common h
common_after q (suc n) k h = ap tick (common_after q n k h) ∙ added_one k.common n

pub counts_after : (q : Request) (n : ℕ) (k : Clock) → q.cooperative < length k.counts → get_or k.counts q.cooperative 0 < 2 ^ 32
    → (spend_many q n k).counts ≡ set k.counts q.cooperative ((get_or k.counts q.cooperative 0 + n) % 2 ^ 32)
unfolding spend_many
counts_after q zero k l h =
    sym (set-get_or k.counts q.cooperative 0) ∙ ap (set k.counts q.cooperative) (added_none (get_or k.counts q.cooperative 0) h)
counts_after q (suc n) k l h =
    let i = q.cooperative in
    let m = get_or k.counts i 0 in
    ap (tick_at i) (counts_after q n k l h)
    ∙ set-set k.counts i ((m + n) % 2 ^ 32) (tick (get_or (set k.counts i ((m + n) % 2 ^ 32)) i 0))
    ∙ ap (λ (v : ℕ). set k.counts i (tick v)) (get_or-set_same k.counts i ((m + n) % 2 ^ 32) 0 l)
    ∙ ap (set k.counts i) (added_one m n)

pub ruleset for_clock_after = (common_after, counts_after)
