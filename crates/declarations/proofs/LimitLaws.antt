-- Limits at a token, and a sector's by what the code emitted: the code's pool has at most 512 words, and its address stops at the last, but its failures are the definition's.
use Prim.Native.Nat.{ℕ, zero, suc, ◌+◌, ◌*◌, ◌≤◌, ◌<◌}
use mathlib.Core.Path.{◌≡◌, refl, sym, ap, ap₂, ◌∙◌}
use mathlib.Core.Bool.{Bool, true, false}
use mathlib.Core.List.{List, [], ◌∷◌, ◌++◌}
use native.Mathlib.Omega.{arith}
use borrow.Author.Tests.{lt-leb, lt-ltb, le-ltb, eqb-true, eqb-false, leb-true, ltb-true, ltb-false, leb-false}
use lib.Dec.{eqb, leb, ltb}
use lib.ListN.{length, take, length-append}
use lib.Seq.{take_all, take-take, take-append-le, length-take-le}
use Rattle.declarations.specs.declared.Allocation as code
use Rattle.prelude.specs.Choice.{whether}
use Rattle.source.specs.declared.Token.{Token}
use Rattle.grammar.specs.Parse.{Got, and_then, fail_at, within, expect}
use Rattle.grammar.specs.Parse.Got.{got}
use Rattle.layout.specs.Allocation.{Allocation}
use Rattle.source.specs.Kinds
use Rattle.tree.specs.Tree.{Declaration, Operand}
use Rattle.layout.specs.Limits.{space_limit, sector_limit, follow_limit, declaration_limit}
use Rattle.declarations.specs.Forms.{limited_in}
use Rattle.std.specs.Prelude.{Result, Ok, Err}
use Rattle.parser.specs.declared.Cause.{Cause}
use Rattle.declarations.specs.Scopes.{Limits}
use Rattle.declarations.specs.Clauses.{limit_then_expect}
use Rattle.declarations.specs.Allocations.{allocation_of, space_number, sector_number}
use Rattle.parser.proofs.ReadLaws.{never}
use Rattle.declarations.proofs.ParseLaws.{then_inv, within_failed, within_then}
use Rattle.layout.specs.Words.{Sym}
use Rattle.layout.specs.Pool.{literal_of, literals_of, index_of, added, added_all}
use Rattle.layout.specs.Emission.{Emitted, Bases, last_address, with_word, with_literal, with_literals, emit_word, emit_all}
use Rattle.emitter.specs.Lays.{WordsAt, Lays}

pub in_limits : {X : Type 0} {r : Result X Cause} {x : X} (n : ℕ) → Limits r n → r ≡ Ok x → n ≡ 0
in_limits {r = Ok y} n h e = h
in_limits {r = Err c} n h e = absurd (let z : ◌≡◌ {A = ℕ} 0 1 = cc in omega arith)

-- ---- The numbers

module _ (words array : ℕ) where
  pub space_fits : space_number words array ≡ 0 → words ≤ array
  unfolding space_number
  space_fits h = go (leb words array) refl h
    where
      go : (b : Bool) → leb words array ≡ b → whether {A = ℕ} b (λ _. 0) (λ _. 13) ≡ 0 → words ≤ array
      go true e k = leb-true _ _ e
      go false e k = absurd (omega arith)

  module _ (sectors : ℕ) where
    pub sector_over : 512 * (sectors + 2) < words → sector_number words sectors array ≡ 12
    unfolding sector_number
    sector_over h = rw (lt-leb words (512 * (sectors + 2)) h)

    pub sector_fits : sector_number words sectors array ≡ 0 → words ≤ 512 * (sectors + 2)
    unfolding sector_number
    sector_fits h = go (leb words (512 * (sectors + 2))) refl h
      where
        go : (b : Bool) → leb words (512 * (sectors + 2)) ≡ b → whether {A = ℕ} b (λ _. space_number words array) (λ _. 12) ≡ 0 → words ≤ 512 * (sectors + 2)
        go true e k = leb-true _ _ e
        go false e k = absurd (omega arith)

-- ---- The definitions' limits

module _ (st : Allocation) where
  pub space_number_lem : (size : ℕ) → space_limit st size ≡ space_number (st.next + length st.pool + size) st.array
  unfolding space_limit space_number
  space_number_lem size = refl

  pub sector_number_lem : {sectors : ℕ} → length st.ends ≡ sectors → sector_limit st ≡ sector_number (st.next + length st.pool) sectors st.array
  unfolding sector_limit sector_number space_limit space_number
  sector_number_lem {sectors} e =
      let p : suc (suc sectors) ≡ sectors + 2 = omega arith in
      let q : st.next + length st.pool + 0 ≡ st.next + length st.pool = omega arith in
      rw (q, e, p)

  follow_on_lem : (n : ℕ) → 0 < n → follow_limit st n ≡ n
  unfolding follow_limit
  follow_on_lem zero h = absurd (omega arith)
  follow_on_lem (suc n) h = refl

  pub follow_passed : {X : Type 0} {r : Result X Cause} {e : Cause} (n : ℕ) → Limits r n → r ≡ Err e → Limits r (follow_limit st n)
  follow_passed {r = Ok x} n h e = absurd (let z : ◌≡◌ {A = ℕ} 0 1 = cc in omega arith)
  follow_passed {r = Err c} n h e = let q = follow_on_lem n h.1 in (q ∙ h.0, rw q h.1)

  module _ {sectors : ℕ} (e : length st.ends ≡ sectors) where
    pub follow_on : {n : ℕ} → n ≡ 0 → sectors < 30 → follow_limit st n ≡ 0
    unfolding follow_limit
    follow_on z h = rw (z, e, lt-ltb (suc sectors) 31 (omega arith))

    pub follow_none : {n : ℕ} → n ≡ 0 → 30 ≤ sectors → follow_limit st n ≡ 13
    unfolding follow_limit
    follow_none z h = rw (z, e, le-ltb (suc sectors) 31 (omega arith))

    pub follow_fits : (n : ℕ) → follow_limit st n ≡ 0 → sectors + 1 ≤ 30
    unfolding follow_limit
    follow_fits zero h = go (ltb (suc (length st.ends)) 31) refl h
      where
        go : (b : Bool) → ltb (suc (length st.ends)) 31 ≡ b → whether {A = ℕ} b (λ _. 0) (λ _. 13) ≡ 0 → sectors + 1 ≤ 30
        go true i k = let l = ltb-true (suc (length st.ends)) 31 i in omega (arith, l, e)
        go false i k = absurd (omega arith)
    follow_fits (suc n) h = absurd (omega arith)

-- ---- Judged

-- which of two a limit is
pub limit_case : {C : Type 0} (limit : ℕ) → (limit ≡ 0 → C) → ((limit ≡ 0 → ⊥) → C) → C
limit_case {C} limit f g = go (eqb limit 0) refl
  where
    go : (b : Bool) → eqb limit 0 ≡ b → C
    go true e = f (eqb-true _ _ e)
    go false e = g (eqb-false _ _ e)

-- a part behind a limit was read: it is not passed
pub not_passed : {A B : Type 0} (limit : ℕ) (t : Token) (g : Got A) (f : A → ℕ → Got B) {x : B} {n : ℕ} → and_then (within limit t g) f ≡ got x n → limit ≡ 0
unfolding fail_at
not_passed limit t g f e = let r = then_inv _ _ e in limit_case limit (λ z. z) (λ z. absurd (never r.2 (within_failed limit t g z)))

-- a judged token and what follows it, with whatever was read
pub limited_then : {A : Type 0} (limit : ℕ) (t : Token) (kind : ℕ) (source : List ℕ) (v : A) → within limit t (and_then (expect kind source t.next) (λ _ n. got v n)) ≡ and_then (limit_then_expect source limit t kind) (λ _ n. got v n)
unfolding and_then
limited_then limit t kind source v =
    sym (ap (λ g. and_then g (λ _ n. got v n)) (within_then limit t (got t t.next) (λ _ n. expect kind source n)) ∙ within_then limit t (expect kind source t.next) (λ _ n. got v n))

pub next_limited : (source : List ℕ) (st : Allocation) (t : Token) → limited_in source st Declaration.next_sector t ≡ and_then (limit_then_expect source (follow_limit st (sector_limit st)) t Kinds.semicolon) (λ _ n. got (Declaration.next_sector ∷ []) n)
unfolding limited_in declaration_limit
next_limited source st t = limited_then (follow_limit st (sector_limit st)) t Kinds.semicolon source (Declaration.next_sector ∷ [])

-- `.NEXTSECTOR`'s limit does not turn on the names
follow_any : (st st' : Allocation) (n : ℕ) → st.ends ≡ st'.ends → follow_limit st n ≡ follow_limit st' n
unfolding follow_limit
follow_any st st' zero e = rw e
follow_any st st' (suc n) e = refl

pub next_any : (source : List ℕ) (s : code.Allocation) (table : List ℕ) (t : Token) → limited_in source (allocation_of s table) Declaration.next_sector t ≡ limited_in source (allocation_of s []) Declaration.next_sector t
unfolding limited_in declaration_limit sector_limit space_limit
next_any source s table t =
    ap (λ l. within l t (and_then (expect Kinds.semicolon source t.next) (λ _ n. got (Declaration.next_sector ∷ []) n))) (follow_any (allocation_of s table) (allocation_of s []) (sector_limit (allocation_of s table)) refl)

-- ---- The bound: the code's pool is always the first 512 words of the definition's

added_length : (p : List ℕ) (v : ℕ) → length (added p v) ≤ length p + 1
unfolding added
added_length p v = go (ltb (index_of p v) (length p))
  where
    go : (b : Bool) → length (whether b (λ _. p) (λ _. p ++ (v ∷ []))) ≤ length p + 1
    go true = omega arith
    go false = omega (arith, length-append p (v ∷ []))

take_added : (p : List ℕ) (v : ℕ) → 512 ≤ length p → take 512 (added p v) ≡ take 512 p
unfolding added
take_added p v h = go (ltb (index_of p v) (length p))
  where
    go : (b : Bool) → take 512 (whether b (λ _. p) (λ _. p ++ (v ∷ []))) ≡ take 512 p
    go true = refl
    go false = take-append-le 512 p (v ∷ []) h

bounded : (p : List ℕ) (v : ℕ) → with_literal (take 512 p) v ≡ take 512 (added p v)
unfolding with_literal
bounded p v = go (leb (length p) 512) refl
  where
    go : (b : Bool) → leb (length p) 512 ≡ b → take 512 (added (take 512 p) v) ≡ take 512 (added p v)
    go true e = ap (λ q. take 512 (added q v)) (take_all 512 p (leb-true (length p) 512 e))
    go false e =
        let h = leb-false (length p) 512 e in
        let l = length-take-le 512 p (omega (arith, h)) in
        take_added (take 512 p) v (omega (arith, l)) ∙ take-take 512 512 p (omega arith) ∙ sym (take_added p v (omega (arith, h)))

bounded_all : (p vs : List ℕ) → with_literals (take 512 p) vs ≡ take 512 (added_all p vs)
unfolding with_literals added_all
bounded_all p [] = refl
bounded_all p (v ∷ vs) = ap (λ l. with_literals l vs) (bounded p v) ∙ bounded_all (added p v) vs

all_length : (p vs : List ℕ) → length (added_all p vs) ≤ length p + length vs
unfolding added_all
all_length p [] = omega arith
all_length p (v ∷ vs) = let h = all_length (added p v) vs in let l = added_length p v in omega (arith, h, l)

-- each literal has a word that uses it
literals_length : (ws : List Sym) → length (literals_of ws) ≤ length ws
unfolding literals_of literal_of
literals_length [] = omega arith
literals_length (Sym.generic slot ∷ ws) = let h = literals_length ws in omega (arith, h)
literals_length (Sym.shift kind n ∷ ws) = let h = literals_length ws in omega (arith, h)
literals_length (Sym.memory code (Operand.named i) ∷ ws) = let h = literals_length ws in omega (arith, h)
literals_length (Sym.memory code (Operand.literal v) ∷ ws) = let h = literals_length ws in omega (arith, h)
literals_length (Sym.through code n ∷ ws) = let h = literals_length ws in omega (arith, h)
literals_length (Sym.jump z ∷ ws) = let h = literals_length ws in omega (arith, h)
literals_length (Sym.return link ∷ ws) = let h = literals_length ws in omega (arith, h)
literals_length (Sym.saved opcode ∷ ws) = let h = literals_length ws in omega (arith, h)
literals_length (Sym.stop ∷ ws) = let h = literals_length ws in omega (arith, h)

-- the pool after words
literals_one : (p : List ℕ) (w : Sym) (ws : List Sym) → with_literals (with_literals p (literal_of w [])) (literals_of ws) ≡ with_literals p (literals_of (w ∷ ws))
unfolding with_literals literals_of literal_of
literals_one p (Sym.generic slot) ws = refl
literals_one p (Sym.shift kind n) ws = refl
literals_one p (Sym.memory code (Operand.named i)) ws = refl
literals_one p (Sym.memory code (Operand.literal v)) ws = refl
literals_one p (Sym.through code n) ws = refl
literals_one p (Sym.jump z) ws = refl
literals_one p (Sym.return link) ws = refl
literals_one p (Sym.saved opcode) ws = refl
literals_one p Sym.stop ws = refl

emit_pool : (f : Bases) (e : Emitted) (ws : List Sym) → (emit_all f e ws).pool ≡ with_literals e.pool (literals_of ws)
unfolding emit_all emit_word with_word with_literals literals_of
emit_pool f e [] = refl
emit_pool f e (w ∷ ws) = emit_pool f (emit_word f e w) ws ∙ literals_one e.pool w ws

-- ---- Words emitted in a sector, and judged

pub record Exact (f : Bases) (a b : Emitted) (ws : List Sym) (sectors : ℕ) : Type 0 where
  pub all : b ≡ emit_all f a ws
  pub next : b.next ≡ a.next + length ws
  pub pool : b.pool ≡ added_all a.pool (literals_of ws)
  pub used : length b.pool + 512 * (sectors + 1) ≤ b.next
  pub fits : b.next + length b.pool ≤ 512 * (sectors + 2)

module _ {f : Bases} {a b : Emitted} {w : WordsAt} (lays : Lays f a b w) (sectors array : ℕ) (low : length a.pool + 512 * (sectors + 1) ≤ a.next) (few : sectors ≤ 30) (short : length a.pool ≤ 512) where
  abbrev ws : List Sym
  ws = w a.next

  abbrev end : ℕ
  end = a.next + length ws

  abbrev pool' : List ℕ
  pool' = added_all a.pool (literals_of ws)

  grown : length pool' + 512 * (sectors + 1) ≤ end
  grown = let h = all_length a.pool (literals_of ws) in let l = literals_length ws in omega (arith, h, l)

  cut : b.next < last_address → b.pool ≡ take 512 pool'
  cut h = ap (λ x. x.pool) (lays.fits h) ∙ emit_pool f a ws ∙ ap (λ p. with_literals p (literals_of ws)) (sym (take_all 512 a.pool short)) ∙ bounded_all a.pool (literals_of ws)

  -- which of three: the address is above all; the pool was cut, and the code is above its sector; or code and pool are the definition's
  data Which : Type 0 where
    over : 512 * (sectors + 2) < b.next → 512 * (sectors + 2) < end → Which
    exact : b.next < last_address → b.pool ≡ pool' → Which

  which : Which
  which = go (ltb b.next last_address) refl
    where
      held : b.next < last_address → (c : Bool) → leb (length pool') 512 ≡ c → Which
      held h true e = exact h (cut h ∙ take_all 512 pool' (leb-true (length pool') 512 e))
      held h false e =
          let l = leb-false (length pool') 512 e in
          let n = lays.counts h in
          over (omega (arith, l, n, grown)) (omega (arith, l, grown))

      go : (c : Bool) → ltb b.next last_address ≡ c → Which
      go true e = held (ltb-true b.next last_address e) (leb (length pool') 512) refl
      go false e = let h = ltb-false b.next last_address e in let o = lays.over h in over (omega (arith, h)) (omega (arith, o))

  pub same_number : sector_number (b.next + length b.pool) sectors array ≡ sector_number (a.next + length (w a.next) + length (added_all a.pool (literals_of (w a.next)))) sectors array
  same_number = go which
    where
      go : Which → sector_number (b.next + length b.pool) sectors array ≡ sector_number (end + length pool') sectors array
      go (over h k) = sector_over _ array sectors (omega (arith, h)) ∙ sym (sector_over _ array sectors (omega (arith, k)))
      go (exact h p) = ap₂ (λ x y. sector_number (x + length y) sectors array) (lays.counts h) p

  pub limited_exact : sector_number (b.next + length b.pool) sectors array ≡ 0 → Exact f a b (w a.next) sectors
  limited_exact z = go which (sector_fits _ array sectors z)
    where
      go : Which → b.next + length b.pool ≤ 512 * (sectors + 2) → Exact f a b ws sectors
      go (over h k) l = absurd (omega (arith, h, l))
      go (exact h p) l =
          let n = lays.counts h in
          let q = ap length p in
          record { all = lays.fits h; next = n; pool = p; used = omega (arith, n, q, grown); fits = l }

pub ruleset for_sector_limit = (sector_over)
