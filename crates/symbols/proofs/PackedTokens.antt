-- The token of a name has the characters of a name, so that its packed words give it back, and any two pack alike by their first six.
use Prim.Native.Nat.{ℕ, suc, ◌+◌, ◌-◌}
use mathlib.Core.Path.{◌≡◌, refl, sym, ap, ◌∙◌}
use mathlib.Core.Bool.{Bool, true, false, ◌||◌}
use mathlib.Core.List.{List, [], ◌∷◌}
use mathlib.Core.Option.{Option, none, some}
use native.Mathlib.Omega.{arith}
use lib.ListN.{take, drop, length}
use lib.Seq.{drop-drop}
use lib.Dec.{eqb, leb}
use borrow.Author.Tests.{eq-eqb}
use Rattle.prelude.specs.Choice.{whether, given, find}
use Rattle.source.specs.Kinds.{kind_number}
use Rattle.source.specs.Bytes.{is_letter, is_digit, is_octal_digit, is_letter_or_digit, is_blank, span, starts_with, same_bytes}
use Rattle.source.specs.Kinds
use Rattle.source.specs.Keywords.{keywords, keyword_length, keyword_kind}
use Rattle.source.specs.declared.Token.{Token}
use Rattle.source.specs.declared.kind.Kind.{Kind}
use Rattle.source.specs.declared.kind.Kind.TheVariants.{Unknown, Name}
use Rattle.source.specs.Tokens.{token, constant_token, decimal_token, negative_token, octal_token, keyword_token, signs, sign_token, token_of, after_blanks, token_at, spelling, name_of}
use Rattle.symbols.specs.Packing.{all_name_bytes, pack_of, unpack, PackingLaws}
use Rattle.symbols.proofs.Packing.{six_cut, six_unpacked, six_decide}

-- ---- Only a letter begins a name

-- a kind that is no name's
abbrev Other : ℕ → Type 0
Other kind = eqb kind Kinds.name ≡ false

abbrev OtherToken : Token → Type 0
OtherToken t = Other (kind_number t.kind)

abbrev OtherRow : Option (List ℕ × Kind) → Type 0
OtherRow o = given o (λ r. eqb (kind_number r.1) Kinds.name) (λ _. false) ≡ false

abbrev other_rows : List (List ℕ × Kind) → Bool
other_rows [] = true
other_rows (r ∷ rs) = whether (eqb (kind_number r.1) Kinds.name) (λ _. false) (λ _. other_rows rs)

either : {A : Type 0} (P : A → Type 0) (b : Bool) (x y : Unit {0} → A) → P (x tt) → P (y tt) → P (whether b x y)
either P true x y h k = h
either P false x y h k = k

found_other : (p : List ℕ → Bool) (rows : List (List ℕ × Kind)) → other_rows rows ≡ true → OtherRow (find p rows)
unfolding find
found_other p [] h = refl
found_other p (r ∷ rs) h = go (eqb (kind_number r.1) Kinds.name) refl h (found_other p rs)
  where
    go : (b : Bool) → eqb (kind_number r.1) Kinds.name ≡ b → whether b (λ _. false) (λ _. other_rows rs) ≡ true → (other_rows rs ≡ true → OtherRow (find p rs))
        → OtherRow (whether (p r.0) (λ _. some r) (λ _. find p rs))
    go true e k ih = let z : ◌≡◌ {A = ℕ} 0 1 = cc in absurd (omega arith)
    go false e k ih = either OtherRow (p r.0) _ _ e (ih k)

given_other : (o : Option (List ℕ × Kind)) → OtherRow o → Other (kind_number (given o (λ r. r.1) (λ _. Unknown)))
given_other none h = refl
given_other (some r) h = h

constant_other : (n limit word at width : ℕ) → Other (kind_number (constant_token n limit word at width).kind)
unfolding constant_token
constant_other n limit word at width = either OtherToken (leb n limit) _ _ refl refl

word_other : (bs : List ℕ) (at : ℕ) → Other (kind_number (keyword_token bs at).kind)
unfolding keyword_token keyword_kind
word_other bs at = given_other (find (same_bytes (take (keyword_length bs) bs)) keywords) (found_other (same_bytes (take (keyword_length bs) bs)) keywords refl)

sign_other : (bs : List ℕ) (at : ℕ) → Other (kind_number (sign_token bs at).kind)
unfolding sign_token
sign_other bs at = go (find (λ sign. starts_with sign bs) signs) (found_other (λ sign. starts_with sign bs) signs refl)
  where
    go : (o : Option (List ℕ × Kind)) → OtherRow o → Other (kind_number (given o (λ row. token row.1 0 at (length row.0)) (λ _. token Unknown 0 at 1)).kind)
    go none h = refl
    go (some r) h = h

negative_other : (bs : List ℕ) (at : ℕ) → Other (kind_number (negative_token bs at).kind)
unfolding negative_token
negative_other bs at = either OtherToken (eqb (span is_digit bs) 0) _ _ refl (constant_other _ _ _ _ _)

octal_other : (bs : List ℕ) (at : ℕ) → Other (kind_number (octal_token bs at).kind)
unfolding octal_token
octal_other bs at = either OtherToken (eqb (span is_octal_digit bs) 0) _ _ refl (constant_other _ _ _ _ _)

rest_other : (b : ℕ) (bs : List ℕ) (at : ℕ)
    → Other (kind_number (whether (is_digit b) (λ _. decimal_token (b ∷ bs) at) (λ _.
    whether (eqb b 45) (λ _. negative_token bs at) λ _.
    whether (eqb b 39) (λ _. octal_token bs at) λ _.
    whether (eqb b 46) (λ _. keyword_token bs at) λ _.
    sign_token (b ∷ bs) at)).kind)
unfolding decimal_token
rest_other b bs at =
    either OtherToken (is_digit b) _ _ (constant_other _ _ _ _ _)
    (either OtherToken (eqb b 45) _ _ (negative_other bs at)
    (either OtherToken (eqb b 39) _ _ (octal_other bs at)
    (either OtherToken (eqb b 46) _ _ (word_other bs at) (sign_other (b ∷ bs) at))))

-- ---- A name's characters

all_span : (bs : List ℕ) → all_name_bytes (take (span is_letter_or_digit bs) bs) ≡ true
unfolding all_name_bytes span
all_span [] = refl
all_span (b ∷ bs) = go (is_letter_or_digit b) refl (all_span bs)
  where
    go : (t : Bool) → is_letter_or_digit b ≡ t → all_name_bytes (take (span is_letter_or_digit bs) bs) ≡ true → all_name_bytes (take (whether t (λ _. suc (span is_letter_or_digit bs)) (λ _. 0)) (b ∷ bs)) ≡ true
    go true e ih = rw e ih
    go false e ih = refl

letter_first : (b : ℕ) (bs : List ℕ) → is_letter b ≡ true → all_name_bytes (take (suc (span is_letter_or_digit bs)) (b ∷ bs)) ≡ true
unfolding all_name_bytes
letter_first b bs h = let e : is_letter_or_digit b ≡ true = ap (λ t. t || is_digit b) h in rw e (all_span bs)

-- a name's token, and the characters that it takes
record Named (bs : List ℕ) (at : ℕ) (t : Token) : Type 0 where
  width : ℕ
  is : t ≡ token Name 0 at width
  all : all_name_bytes (take width bs) ≡ true

named : (bs : List ℕ) (at : ℕ) → eqb (kind_number (token_of bs at).kind) Kinds.name ≡ true → Named bs at (token_of bs at)
unfolding token_of
named [] at h = let z : ◌≡◌ {A = ℕ} 0 1 = cc in absurd (omega arith)
named (b ∷ bs) at h = go (is_letter b) refl h
  where
    others : Token
    others =
        whether (is_digit b) (λ _. decimal_token (b ∷ bs) at) λ _.
        whether (eqb b 45) (λ _. negative_token bs at) λ _.
        whether (eqb b 39) (λ _. octal_token bs at) λ _.
        whether (eqb b 46) (λ _. keyword_token bs at) λ _.
        sign_token (b ∷ bs) at

    go : (t : Bool) → is_letter b ≡ t → eqb (kind_number (whether t (λ _. token Name 0 at (suc (span is_letter_or_digit bs))) (λ _. others)).kind) Kinds.name ≡ true
        → Named (b ∷ bs) at (whether t (λ _. token Name 0 at (suc (span is_letter_or_digit bs))) (λ _. others))
    go true e k = record { width = suc (span is_letter_or_digit bs); is = refl; all = letter_first b bs e }
    go false e k = let z : ◌≡◌ {A = ℕ} 0 1 = cc (rest_other b bs at) in absurd (omega arith)

width_is : (at n : ℕ) → (at + n) - at ≡ n
width_is at n = omega arith

module _ (source : List ℕ) (at : ℕ) (h : eqb (kind_number (token_at source at).kind) Kinds.name ≡ true) where
  -- a name has letters and digits alone (T7)
  name_all : all_name_bytes (spelling source (token_at source at)) ≡ true
  unfolding token_at after_blanks
  name_all =
      let blanks = span is_blank (drop at source) in
      let n = named (drop blanks (drop at source)) (at + blanks) h in
      rw (n.is, width_is (at + blanks) n.width, sym (drop-drop blanks at source)) n.all

  -- a name's packed words give it back
  pub name_unpacked : unpack (pack_of (name_of source (token_at source at))) ≡ name_of source (token_at source at)
  unfolding name_of
  name_unpacked = let bs = spelling source (token_at source at) in ap unpack (six_cut bs) ∙ six_unpacked bs name_all

-- ---- Two names of a source

pub packing_laws : PackingLaws
packing_laws =
    record {
      names = six_decide;
      tokens = λ source i j h k. six_decide _ _ (name_all source i (eq-eqb _ _ h)) (name_all source j (eq-eqb _ _ k));
      cut = six_cut;
    }

pub ruleset for_lookup = (name_unpacked)

pub ruleset for_packing_laws = (packing_laws)
