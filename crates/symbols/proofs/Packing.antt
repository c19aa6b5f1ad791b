-- Packing loses nothing but what stands behind six characters: three words give back themselves, a name its first six, and so names pack alike exactly if these agree.
use Prim.Native.Nat.{ℕ, zero, suc, ◌+◌, ◌*◌, ◌/◌, ◌%◌, ◌<◌}
use mathlib.Core.Path.{◌≡◌, refl, sym, ap, ◌∙◌}
use Rattle.std.specs.Prelude.{nat_eq}
use mathlib.Core.Bool.{◌&&◌, Bool, true, false, ◌&&◌, ◌||◌}
use mathlib.Core.List.{List, [], ◌∷◌}
use native.Mathlib.Omega.{arith}
use lib.ListN.{length, get_or, take, length-take}
use lib.Seq.{get_or-take, take_all, take-nil}
use lib.Dec.{eqb, leb}
use borrow.Author.Tests.{eqb-true, eq-eqb, ne_eqb, leb-true}
use Rattle.prelude.specs.Choice.{whether}
use Rattle.source.specs.Bytes.{is_letter_or_digit, same_bytes}
use Rattle.source.proofs.Same.{equal}
use Rattle.tree.specs.Tree.{Name}
use Rattle.tree.specs.Symbols.{is_x}
use Rattle.symbols.specs.declared.Packed.{Packed}
use Rattle.symbols.specs.Packing.{all_name_bytes, pair, pack_of, same_packed, before_trimmed, trimmed, six_bytes, unpack, SixDecide}

-- ---- Three words give back themselves

-- trimming changes no byte, as one past the end is 0
trimmed_at : (bs : List ℕ) (i : ℕ) → get_or (trimmed bs) i 0 ≡ get_or bs i 0
unfolding trimmed before_trimmed
trimmed_at [] i = refl
trimmed_at (b ∷ bs) i = go (trimmed bs) (trimmed_at bs) i
  where
    last : (t : Bool) → eqb b 0 ≡ t → ((i : ℕ) → get_or {A = ℕ} [] i 0 ≡ get_or bs i 0) → (i : ℕ) → get_or (whether t (λ _. []) (λ _. b ∷ [])) i 0 ≡ get_or (b ∷ bs) i 0
    last true e h zero = sym (eqb-true b 0 e)
    last true e h (suc i) = h i
    last false e h zero = refl
    last false e h (suc i) = h i

    go : (t : List ℕ) → ((i : ℕ) → get_or t i 0 ≡ get_or bs i 0) → (i : ℕ) → get_or (before_trimmed b t) i 0 ≡ get_or (b ∷ bs) i 0
    go [] h i = last (eqb b 0) refl h i
    go (c ∷ cs) h zero = refl
    go (c ∷ cs) h (suc i) = h i

whole : (w : ℕ) → 256 * (w / 256) + w % 256 ≡ w
whole w = omega arith

words_same : (a b c d e f : ℕ) → a ≡ d → b ≡ e → c ≡ f → ◌≡◌ {A = Packed} (record { one = a; two = b; three = c }) (record { one = d; two = e; three = f })
words_same a b c d e f x y z = rw (x, y, z)

pair_same : (bs cs : Name) (i : ℕ) → get_or bs i 0 ≡ get_or cs i 0 → get_or bs (i + 1) 0 ≡ get_or cs (i + 1) 0 → pair bs i ≡ pair cs i
pair_same bs cs i e f = rw (e, f)

pack_unpack : (p : Packed) → pack_of (unpack p) ≡ p
unfolding pack_of unpack
pack_unpack p =
    let bs = six_bytes p in
    let same : (i : ℕ) → pair (trimmed bs) i ≡ pair bs i = λ i. pair_same (trimmed bs) bs i (trimmed_at bs i) (trimmed_at bs (i + 1)) in
    words_same _ _ _ _ _ _ (same 0 ∙ whole p.one) (same 2 ∙ whole p.two) (same 4 ∙ whole p.three)

-- ---- A name gives back its first six characters

padded : ℕ → Name → List ℕ
padded zero bs = []
padded (suc n) [] = 0 ∷ padded n []
padded (suc n) (b ∷ bs) = b ∷ padded n bs

-- a name's byte is no zero, and fits
name_byte : (b : ℕ) → is_letter_or_digit b ≡ true → (0 < b) × (b < 256)
name_byte b h = go (leb 65 b) (leb b 90) (leb 48 b) (leb b 57) refl refl refl refl h
  where
    go : (p q r s : Bool) → leb 65 b ≡ p → leb b 90 ≡ q → leb 48 b ≡ r → leb b 57 ≡ s → (p && q) || (r && s) ≡ true → (0 < b) × (b < 256)
    go true true r s e f g h k = let l = leb-true 65 b e in let m = leb-true b 90 f in (omega arith, omega arith)
    go true false true true e f g h k = let l = leb-true 48 b g in let m = leb-true b 57 h in (omega arith, omega arith)
    go false q true true e f g h k = let l = leb-true 48 b g in let m = leb-true b 57 h in (omega arith, omega arith)
    go true false true false e f g h k = let z : ◌≡◌ {A = ℕ} 0 1 = cc in absurd (omega arith)
    go true false false s e f g h k = let z : ◌≡◌ {A = ℕ} 0 1 = cc in absurd (omega arith)
    go false q true false e f g h k = let z : ◌≡◌ {A = ℕ} 0 1 = cc in absurd (omega arith)
    go false q false s e f g h k = let z : ◌≡◌ {A = ℕ} 0 1 = cc in absurd (omega arith)

both : (t rest : Bool) → whether t (λ _. rest) (λ _. false) ≡ true → (t ≡ true) × (rest ≡ true)
both true rest h = (refl, h)
both false rest h = let z : ◌≡◌ {A = ℕ} 0 1 = cc in absurd (omega arith)

first_byte : (b : ℕ) (bs : Name) → all_name_bytes (b ∷ bs) ≡ true → (is_letter_or_digit b ≡ true) × (all_name_bytes bs ≡ true)
unfolding all_name_bytes
first_byte b bs h = both (is_letter_or_digit b) (all_name_bytes bs) h

byte_fits : (name : Name) → all_name_bytes name ≡ true → (i : ℕ) → get_or name i 0 < 256
byte_fits [] h i = omega arith
byte_fits (b ∷ bs) h zero = (name_byte b (first_byte b bs h).0).1
byte_fits (b ∷ bs) h (suc i) = byte_fits bs (first_byte b bs h).1 i

untrimmed : (b : ℕ) (bs : Name) → 0 < b → before_trimmed b bs ≡ b ∷ bs
unfolding before_trimmed
untrimmed b [] h = rw (ne_eqb b 0 (λ e. omega arith))
untrimmed b (c ∷ cs) h = refl

trimmed_padded : (n : ℕ) (name : Name) → all_name_bytes name ≡ true → trimmed (padded n name) ≡ take n name
unfolding trimmed padded before_trimmed
trimmed_padded zero name h = refl
trimmed_padded (suc n) [] h = ap (before_trimmed 0) (trimmed_padded n [] h ∙ take-nil n)
trimmed_padded (suc n) (b ∷ bs) h =
    let f = first_byte b bs h in
    ap (before_trimmed b) (trimmed_padded n bs f.1) ∙ untrimmed b (take n bs) (name_byte b f.0).0

abbrev first_six : Name → List ℕ
first_six name = get_or name 0 0 ∷ get_or name 1 0 ∷ get_or name 2 0 ∷ get_or name 3 0 ∷ get_or name 4 0 ∷ get_or name 5 0 ∷ []

six_padded : (name : Name) → first_six name ≡ padded 6 name
unfolding padded
six_padded [] = refl
six_padded (a ∷ []) = refl
six_padded (a ∷ b ∷ []) = refl
six_padded (a ∷ b ∷ c ∷ []) = refl
six_padded (a ∷ b ∷ c ∷ d ∷ []) = refl
six_padded (a ∷ b ∷ c ∷ d ∷ e ∷ []) = refl
six_padded (a ∷ b ∷ c ∷ d ∷ e ∷ f ∷ rest) = refl

upper : (a b : ℕ) → b < 256 → (256 * a + b) / 256 ≡ a
upper a b h = omega arith

lower : (a b : ℕ) → b < 256 → (256 * a + b) % 256 ≡ b
lower a b h = omega arith

six_packed : (name : Name) → all_name_bytes name ≡ true → six_bytes (pack_of name) ≡ first_six name
unfolding pack_of
six_packed name h =
    let k = byte_fits name h in
    rw (
      upper (get_or name 0 0) (get_or name 1 0) (k 1),
      lower (get_or name 0 0) (get_or name 1 0) (k 1),
      upper (get_or name 2 0) (get_or name 3 0) (k 3),
      lower (get_or name 2 0) (get_or name 3 0) (k 3),
      upper (get_or name 4 0) (get_or name 5 0) (k 5),
      lower (get_or name 4 0) (get_or name 5 0) (k 5),
    )

pub six_unpacked : (name : Name) → all_name_bytes name ≡ true → unpack (pack_of name) ≡ take 6 name
unfolding unpack
six_unpacked name h = ap trimmed (six_packed name h ∙ six_padded name) ∙ trimmed_padded 6 name h

-- packing reads no seventh character
pub six_cut : (name : Name) → pack_of (take 6 name) ≡ pack_of name
unfolding pack_of
six_cut name =
    let same : (i : ℕ) → i < 5 → pair (take 6 name) i ≡ pair name i = λ i l. pair_same (take 6 name) name i (get_or-take 6 name i 0 (omega arith)) (get_or-take 6 name (i + 1) 0 (omega arith)) in
    words_same _ _ _ _ _ _ (same 0 (omega arith)) (same 2 (omega arith)) (same 4 (omega arith))

-- ---- Comparing packed names

same_self : (bs : List ℕ) → same_bytes bs bs ≡ true
unfolding same_bytes
same_self [] = refl
same_self (b ∷ bs) = rw (eq-eqb b b refl) (same_self bs)

packed_self : (p : Packed) → same_packed p p ≡ true
unfolding same_packed
packed_self p = rw (eq-eqb p.one p.one refl, eq-eqb p.two p.two refl) (eq-eqb p.three p.three refl)

packed_is : (p q : Packed) → same_packed p q ≡ true → p ≡ q
unfolding same_packed
packed_is p q h =
    let f = both (eqb p.one q.one) (whether (eqb p.two q.two) (λ _. eqb p.three q.three) (λ _. false)) h in
    let g = both (eqb p.two q.two) (eqb p.three q.three) f.1 in
    words_same p.one p.two p.three q.one q.two q.three (eqb-true p.one q.one f.0) (eqb-true p.two q.two g.0) (eqb-true p.three q.three g.1)

-- two tests that hold together are one
same_test : (a b : Bool) → (a ≡ true → b ≡ true) → (b ≡ true → a ≡ true) → a ≡ b
same_test true b f g = sym (f refl)
same_test false true f g = g refl
same_test false false f g = refl

-- THE LAW of the inner loop: comparing words is comparing names
pub same_unpacked : (p q : Packed) → same_packed p q ≡ same_bytes (unpack p) (unpack q)
same_unpacked p q =
    same_test (same_packed p q) (same_bytes (unpack p) (unpack q))
    (λ h. ap (λ x. same_bytes (unpack x) (unpack q)) (packed_is p q h) ∙ same_self (unpack q))
    (λ h. ap (λ x. same_packed x q) (sym (pack_unpack p) ∙ ap pack_of (equal (unpack p) (unpack q) (rw h tt)) ∙ pack_unpack q) ∙ packed_self q)

-- a name of fewer than six characters agrees with itself alone
short_same : (n m : Name) → length n < 6 → take 6 n ≡ take 6 m → n ≡ m
short_same n m l e =
    let same = sym (length-take 6 n) ∙ ap length e ∙ length-take 6 m in
    sym (take_all 6 n (omega arith)) ∙ e ∙ take_all 6 m (omega (arith, same))

-- THE LAW of packing: six characters decide, and no more
pub six_decide : (n m : Name) → all_name_bytes n ≡ true → all_name_bytes m ≡ true → SixDecide n m
six_decide n m h k =
    let agreeing : pack_of n ≡ pack_of m → take 6 n ≡ take 6 m = λ e. sym (six_unpacked n h) ∙ ap unpack e ∙ six_unpacked m k in
    record {
      alike = λ e. sym (six_cut n) ∙ ap pack_of e ∙ six_cut m;
      agree = agreeing;
      shorter = λ l e. short_same n m l (agreeing e);
      compared = rw (← six_unpacked n h, ← six_unpacked m k) (same_unpacked (pack_of n) (pack_of m));
    }

-- X by its packed words (D13)
pub x_packed : (p : Packed) → is_x (unpack p) ≡ same_packed p (record { one = 0o054000; two = 0; three = 0 })
unfolding is_x unpack trimmed before_trimmed
x_packed p = sym (same_unpacked p (record { one = 0o054000; two = 0; three = 0 }))

-- the comparison of two names as structs
pub packed_equal : (p q : Packed) → nat_eq p.one q.one && (nat_eq p.two q.two && nat_eq p.three q.three) ≡ same_packed p q
unfolding same_packed
packed_equal p q = go (nat_eq p.one q.one) (nat_eq p.two q.two) (nat_eq p.three q.three)
  where
    go : (a b c : Bool) → a && (b && c) ≡ whether a (λ _. whether b (λ _. c) (λ _. false)) (λ _. false)
    go true true c = refl
    go true false c = refl
    go false b c = refl

pub ruleset for_is_x = (x_packed, packed_equal)

pub ruleset for_newest = (same_unpacked)
