-- Texts written one after another.
use Prim.Native.Nat.{ℕ, suc, ◌+◌, ◌-◌, ◌/◌, ◌%◌, ◌^◌, ◌≤◌, ◌<◌, min}
use mathlib.Core.Path.{◌≡◌, refl, sym, ap, ◌∙◌}
use mathlib.Core.Bool.{Bool, true, false}
use mathlib.Core.List.{List, [], ◌∷◌, ◌++◌}
use native.Mathlib.Nat.{add-zero, add-suc, suc-add}
use native.Mathlib.Numerals.{add-one}
use native.Mathlib.Omega.{arith}
use borrow.Author.Tests.{leb-true, leb-false, lt-ltb, le-ltb}
use lib.Dec.{leb}
use lib.ListN.{length, take, set, get_or, replicate, length-set, length-append}
use lib.Seq.{sets, set_out, take-suc, length-sets}
use Rattle.std.proofs.lemmas.List.{replicate_more}
use Rattle.digits.specs.Digits.{decimal_by, decimal, signed}
use Rattle.digits.proofs.Widths.{next_digit, no_more_digits}
use Rattle.text.specs.Wrote.{largest, up_of, Wrote}
use Rattle.text.specs.Adds.{added, Adds, TextLaws}
use Rattle.text.specs.declared.Text.{Text}

-- ---- Runs of stores

module _ {A : Type 0} where
  sets_append : (l : List A) (at : ℕ) (us vs : List A) → sets l at (us ++ vs) ≡ sets (sets l at us) (at + length us) vs
  sets_append l at [] vs = rw add-zero
  sets_append l at (u ∷ us) vs = sets_append (set l at u) (suc at) us vs ∙ rw (add-suc at (length us), suc-add at (length us))

  -- past the end nothing is stored
  sets_out : (l : List A) (at : ℕ) (us : List A) → length l ≤ at → sets l at us ≡ l
  sets_out l at [] h = refl
  sets_out l at (u ∷ us) h =
      let e = set_out l at u h in
      ap (λ x. sets x (suc at) us) e ∙ sets_out l (suc at) us (omega (arith, h))

-- so the largest offset will do for any larger one
capped : (l : List ℕ) (n : ℕ) (us : List ℕ) → length l ≤ largest → sets l (min n largest) us ≡ sets l n us
capped l n us h = go (leb n largest) refl
  where
    go : (b : Bool) → leb n largest ≡ b → sets l (min n largest) us ≡ sets l n us
    go true q = let k = leb-true n largest q in let e : min n largest ≡ n = omega (arith, k) in rw e
    go false q =
        let k = leb-false n largest q in
        let e : min n largest ≡ largest = omega (arith, k) in
        ap (λ x. sets l x us) e ∙ sets_out l largest us h ∙ sym (sets_out l n us (omega (arith, k, h)))

-- ---- Texts one after another

module _ {a b c : List ℕ} {at m r : ℕ} {u v : List ℕ} where
  pub then : Wrote a b at m u → Wrote b c m r v → Wrote a c at r (u ++ v)
  then p q =
      let n = p.ends in
      let k = q.ends in
      let l = length-append u v in
      let s = length-sets a at u in
      let h = p.short in
      record {
        written = q.written ∙ ap (λ x. sets x m v) p.written ∙ ap (λ x. sets (sets a at u) x v) n ∙ capped (sets a at u) (at + length u) v (omega (arith, s, h)) ∙ sym (sets_append a at u v);
        ends = omega (arith, n, k, l);
        short = h;
      }

added_append : (t : List ℕ × ℕ) (us vs : List ℕ) → added t (us ++ vs) ≡ added (added t us) vs
unfolding added
added_append t [] vs = refl
added_append t (u ∷ us) vs = added_append (set t.0 t.1 u, up_of t.1) us vs

pub then_added : (t : List ℕ × ℕ) (us vs : List ℕ) {u v : List ℕ × ℕ} → u ≡ added t us → v ≡ added u vs → v ≡ added t (us ++ vs)
then_added t us vs p q = q ∙ ap (λ t. added t vs) p ∙ sym (added_append t us vs)

pub and_then : {a b c : Text} {u v : List ℕ} → Adds a b u → Adds b c v → Adds a c (u ++ v)
and_then {a} {u = u} {v = v} p q = record { same_buffer = q.same_buffer ∙ p.same_buffer; all = then_added (a.out.now, a.len) u v p.all q.all }

pub adds_nothing : (a : Text) → Adds a a []
unfolding added
adds_nothing a = record { same_buffer = refl; all = refl }

pub same_added : {a b : Text} {u v : List ℕ} → u ≡ v → Adds a b u → Adds a b v
same_added e p = rw e at p

pub one_more_added : (t : List ℕ × ℕ) (text : List ℕ) (i : ℕ) {u v : List ℕ × ℕ} → i < length text → u ≡ added t (take i text) → v ≡ added u (get_or text i 0 ∷ [])
    → v ≡ added t (take (i + 1) text)
one_more_added t text i h p q = then_added t (take i text) (get_or text i 0 ∷ []) p q ∙ ap (added t) (sym (ap (λ n. take n text) (add-one i) ∙ take-suc text i 0 h))

pub one_space_added : (t : List ℕ × ℕ) (n : ℕ) {u v : List ℕ × ℕ} → u ≡ added t (replicate n 32) → v ≡ added u (32 ∷ []) → v ≡ added t (replicate (n + 1) 32)
one_space_added t n p q = then_added t (replicate n 32) (32 ∷ []) p q ∙ ap (added t) (replicate_more n 32)

pub one_more : {a b c : Text} (text : List ℕ) (i : ℕ) → i < length text → Adds a b (take i text) → Adds b c (get_or text i 0 ∷ []) → Adds a c (take (i + 1) text)
one_more text i h p q = same_added (sym (ap (λ n. take n text) (add-one i) ∙ take-suc text i 0 h)) (and_then p q)

pub one_space : {a b c : Text} (n : ℕ) → Adds a b (replicate n 32) → Adds b c (32 ∷ []) → Adds a c (replicate (n + 1) 32)
one_space n p q = same_added (replicate_more n 32) (and_then p q)

-- what is still to be added of a text
pub record Left (before now : Text) (rest all : List ℕ) : Type 0 where
  pub same_buffer : now.out.ghost_name ≡ before.out.ghost_name
  pub same_end : added (now.out.now, now.len) rest ≡ added (before.out.now, before.len) all

pub begins : (a : Text) (all : List ℕ) → Left a a all all
begins a all = record { same_buffer = refl; same_end = refl }

pub goes_on : {a b c : Text} {rest all : List ℕ} (u v : List ℕ) → rest ≡ u ++ v → Left a b rest all → Adds b c u → Left a c v all
goes_on {b = b} u v e p q =
    record {
      same_buffer = q.same_buffer ∙ p.same_buffer;
      same_end = ap (λ t. added t v) q.all ∙ sym (added_append (b.out.now, b.len) u v) ∙ ap (added (b.out.now, b.len)) (sym e) ∙ p.same_end;
    }

pub is_whole : {a b : Text} {rest all : List ℕ} → rest ≡ [] → Left a b rest all → Adds a b all
unfolding added
is_whole {b = b} e p = record { same_buffer = p.same_buffer; all = ap (added (b.out.now, b.len)) (sym e) ∙ p.same_end }

-- ---- A text's place and its end

added_length : (t : List ℕ × ℕ) (us : List ℕ) → t.1 ≤ largest → (added t us).1 ≡ min (t.1 + length us) largest
unfolding added
added_length t [] h = omega (arith, h)
added_length t (u ∷ us) h = added_length (set t.0 t.1 u, up_of t.1) us (omega arith) ∙ omega (arith, h)

added_stored : (t : List ℕ × ℕ) (us : List ℕ) → length t.0 ≤ largest → (added t us).0 ≡ sets t.0 t.1 us
unfolding added
added_stored t [] h = refl
added_stored t (u ∷ us) h =
    let l = length-set t.0 t.1 u in
    added_stored (set t.0 t.1 u, up_of t.1) us (omega (arith, l, h)) ∙ capped (set t.0 t.1 u) (t.1 + 1) us (omega (arith, l, h)) ∙ ap (λ n. sets (set t.0 t.1 u) n us) (add-one t.1)

pub stands : (before after : Text) (text : List ℕ) → before.len ≤ largest → length before.out.now ≤ largest → Adds before after text
    → Wrote before.out.now after.out.now before.len after.len text
stands before after text h l p =
    record { written = ap (λ t. t.0) p.all ∙ added_stored (before.out.now, before.len) text l; ends = ap (λ t. t.1) p.all ∙ added_length (before.out.now, before.len) text h; short = l }

pub text_laws : TextLaws
text_laws = record { stands = stands }

-- ---- Numbers, by their cases

pub one_digit : (n : ℕ) → n < 10 → decimal n ≡ (48 + n % 10) ∷ []
unfolding decimal_by
one_digit n h = rw (lt-ltb n 10 h)

pub more_digits : (n : ℕ) → 10 ≤ n → n < 10 ^ 20 → decimal n ≡ decimal (n / 10) ++ ((48 + n % 10) ∷ [])
more_digits n h l = next_digit 19 n h ∙ ap (λ ds. ds ++ ((48 + n % 10) ∷ [])) (sym (no_more_digits 19 (n / 10) (omega arith) (omega (arith, l))))

pub plus : (w : ℕ) → w < 32768 → signed w ≡ decimal w
unfolding signed
plus w h = rw (lt-ltb w 32768 h)

pub minus : (w : ℕ) → 32768 ≤ w → signed w ≡ (45 ∷ []) ++ decimal (65536 - w)
unfolding signed
minus w h = rw (le-ltb w 32768 h)

pub ruleset for_text = (and_then)

pub ruleset for_start = (adds_nothing)

pub ruleset for_signed = (plus)

pub ruleset for_text_laws = (text_laws)

pub ruleset for_lines = (begins, goes_on, is_whole)
