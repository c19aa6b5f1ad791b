-- Unary words: read one after another, and their instructions stored from the end.
use Prim.Native.Nat.{ℕ, zero, suc, ◌+◌, ◌-◌, ◌≤◌, ◌<◌, min}
use mathlib.Core.Path.{◌≡◌, refl, sym, ap, ◌∙◌}
use mathlib.Core.Bool.{Bool, true, false}
use mathlib.Core.List.{List, [], ◌∷◌, ◌++◌, append-nil, append_assoc}
use mathlib.Core.Option.{Option, none, some}
use native.Mathlib.Nat.{add-zero, add-suc, suc-add, add_assoc}
use native.Mathlib.Numerals.{add-one}
use native.Mathlib.Omega.{arith}
use lib.Dec.{eqb}
use lib.ListN.{length, set, length-append}
use lib.Seq.{sets, set_comm}
use borrow.Author.Tests.{eqb-true}
use Rattle.prelude.specs.Choice.{whether, find, given}
use Rattle.source.specs.Kinds.{kind_number}
use Rattle.source.specs.declared.Token.{Token}
use Rattle.source.specs.Tokens.{token_at}
use Rattle.tree.specs.Tree.{Unary}
use Rattle.tree.specs.Symbols.{Names}
use Rattle.grammar.specs.Parse.{and_then, snoc, repeat_by, repeat}
use Rattle.grammar.specs.Parse.Got.{got}
use Rattle.grammar.specs.Vocabulary.{unaries}
use Rattle.layout.specs.Words.{Sym, ◌⧺◌, unary_words, unaries_words}
use Rattle.layout.specs.Pool.{literal_of}
use Rattle.grammar.specs.Expressions.{more_unaries, parse_unaries}
use Rattle.layout.specs.Map.{word_of}
use Rattle.layout.specs.Emission.{Emitted, last_address, with_word, with_literals, Bases, emit_word, emit_all}
use Rattle.emitter.proofs.Lays.{append_length, emit_append, next_below, kept_upto, kept_sets}
use Rattle.std.specs.Prelude.{Option as Found, Some, None}
use Rattle.expressions.specs.Vocabulary.{looked_up, last_slot}
use Rattle.expressions.specs.Chains.{unaries_by, unaries_of, unaries_next}
use Rattle.expressions.specs.Compiles.{Always}
use Rattle.expressions.specs.Unaries.{values, width_of, unary_values}
use Rattle.expressions.proofs.VocabularyLaws.{Row, as_row, as_some, as_none}

-- ---- Reading

module _ (source : List ℕ) where
  -- where a token is none, they end
  no_more : {r : Found ℕ} (k i : ℕ) → r ≡ looked_up unaries last_slot (kind_number (token_at source i).kind) → r ≡ None → unaries_by source k i ≡ ([], i)
  unfolding unaries_by
  no_more zero i e h = refl
  no_more (suc k) i e h =
      as_none unaries last_slot (token_at source i) (λ u. let rest = unaries_by source k (token_at source i).next in (u ∷ rest.0, rest.1)) (λ _. ([], i)) e h

  one_more : {n : ℕ} (k i : ℕ) (r : Row unaries last_slot (kind_number (token_at source i).kind) n)
      → unaries_by source (suc k) i ≡ (r.row.1 ∷ (unaries_by source k (token_at source i).next).0, (unaries_by source k (token_at source i).next).1)
  unfolding unaries_by
  one_more k i r =
      as_some unaries last_slot (token_at source i) (λ u. let rest = unaries_by source k (token_at source i).next in (u ∷ rest.0, rest.1)) (λ _. ([], i)) r

  -- after those that are read already
  read_on : (names : Names) (k : ℕ) (done : List Unary) (n : ℕ) → repeat_by (more_unaries source names) k done n ≡ got (done ++ (unaries_by source k n).0) (unaries_by source k n).1
  unfolding repeat_by unaries_by and_then
  read_on names zero done n = rw append-nil
  read_on names (suc k) done n = go (find (eqb (kind_number (token_at source n).kind)) unaries) (read_on names k)
    where
      next : ℕ
      next = (token_at source n).next

      rest : List Unary × ℕ
      rest = unaries_by source k next

      found : Option (ℕ × Unary) → List Unary × ℕ
      found o = given o (λ row. (row.1 ∷ rest.0, rest.1)) (λ _. ([], n))

      go : (o : Option (ℕ × Unary)) → ((done : List Unary) (n : ℕ) → repeat_by (more_unaries source names) k done n ≡ got (done ++ (unaries_by source k n).0) (unaries_by source k n).1)
          → given (given o (λ row. some (got (snoc done row.1) next)) (λ _. none)) (λ g. and_then g (λ longer m. repeat_by (more_unaries source names) k longer m)) (λ _. got done n)
          ≡ got (done ++ (found o).0) (found o).1
      go none again = rw append-nil
      go (some r) again = again (snoc done r.1) next ∙ rw append_assoc

-- THE DEFINITION'S UNARY WORDS are these
pub unaries_parsed : (source : List ℕ) (names : Names) (at : ℕ) → parse_unaries source names at ≡ got (unaries_of source at) (unaries_next source at)
unfolding parse_unaries repeat unaries_of unaries_next
unaries_parsed source names at = read_on source names (length source) [] at

-- ---- Runs of stores

module _ {A : Type 0} where
  sets_below : (l : List A) (i : ℕ) (v : A) (at : ℕ) (vs : List A) → i < at → sets (set l i v) at vs ≡ set (sets l at vs) i v
  sets_below l i v at [] h = refl
  sets_below l i v at (w ∷ vs) h =
      ap (λ x. sets x (suc at) vs) (set_comm l i at v w (λ q. omega (arith, h, q))) ∙ sets_below (set l at w) i v (suc at) vs (omega (arith, h))

  sets_append : (l : List A) (at : ℕ) (us vs : List A) → sets l at (us ++ vs) ≡ sets (sets l at us) (at + length us) vs
  sets_append l at [] vs = rw add-zero
  sets_append l at (u ∷ us) vs = sets_append (set l at u) (suc at) us vs ∙ rw (add-suc at (length us), suc-add at (length us))

  -- the second run first
  sets_back : (l : List A) (at : ℕ) (us vs : List A) → sets l at (us ++ vs) ≡ sets (sets l (at + length us) vs) at us
  sets_back l at [] vs = rw add-zero
  sets_back l at (u ∷ us) vs =
      sets_back (set l at u) (suc at) us vs
      ∙ rw (add-suc at (length us), suc-add at (length us), sets_below l at u (suc (at + length us)) vs (omega arith))

-- ---- Their words

values_length : (ws : List Sym) → length (values ws) ≡ length ws
unfolding values
values_length [] = refl
values_length (w ∷ ws) = ap suc (values_length ws)

values_append : (us ws : List Sym) → values (us ⧺ ws) ≡ values us ++ values ws
unfolding values ◌⧺◌
values_append [] ws = refl
values_append (u ∷ us) ws = rw (values_append us ws)

-- what the code stores is a unary word's words
pub record Instructions (kind : ℕ) (u : Unary) : Type 0 where
  pub words : unary_values kind (last_slot u) ≡ values (unary_words u)
  pub width : width_of kind ≡ length (unary_words u)

data Each : List (ℕ × Unary) → Type 0 where
  ended : Each []
  also : {kind : ℕ} {u : Unary} {rs : List (ℕ × Unary)} → unary_values kind (last_slot u) ≡ values (unary_words u) → width_of kind ≡ length (unary_words u) → Each rs → Each ((kind, u) ∷ rs)

found_in : (kind : ℕ) {table : List (ℕ × Unary)} {row : ℕ × Unary} → Each table → find (eqb kind) table ≡ some row → Instructions kind row.1
unfolding find
found_in kind Each.ended q = absurd (let z : ◌≡◌ {A = ℕ} 0 1 = cc in omega arith)
found_in kind {row = row} (Each.also {kind = k} {u = u} {rs = rs} w n e) q = go (eqb kind k) refl q (found_in kind e)
  where
    go : (b : Bool) → eqb kind k ≡ b → whether b (λ _. some (k, u)) (λ _. find (eqb kind) rs) ≡ some row → (find (eqb kind) rs ≡ some row → Instructions kind row.1) → Instructions kind row.1
    go true h p rest = let s : (k, u) ≡ row = cc in rw (eqb-true kind k h, ← s) (record { words = w; width = n })
    go false h p rest = rest p

each : Each unaries
unfolding unary_values values word_of unary_words last_slot width_of
each =
    Each.also refl refl (Each.also refl refl (Each.also refl refl (Each.also refl refl (Each.also refl refl
    (Each.also refl refl (Each.also refl refl (Each.also refl refl (Each.also refl refl (Each.also refl refl
    (Each.also refl refl (Each.also refl refl (Each.also refl refl (Each.also refl refl Each.ended)))))))))))))

instructions : {kind n : ℕ} (r : Row unaries last_slot kind n) → Instructions kind r.row.1
instructions {kind} r = found_in kind each r.found

-- ---- Their words emitted

-- with words stored from the next address on
emitted : Emitted → List ℕ → Emitted
emitted e vs = record { image = sets e.image e.next vs; next = e.next + length vs; pool = e.pool }

emitted_both : (e : Emitted) (us vs : List ℕ) → emitted (emitted e us) vs ≡ emitted e (us ++ vs)
unfolding emitted
emitted_both e us vs = rw (← sets_append e.image e.next us vs, add_assoc, length-append)

module _ (f : Bases) (e : Emitted) where
  emit_one : (slot : ℕ) → e.next + 1 ≤ last_address → emit_all f e (Sym.generic slot ∷ []) ≡ emitted e (values (Sym.generic slot ∷ []))
  unfolding emit_all emit_word with_word with_literals literal_of word_of values emitted
  emit_one slot h = rw (next_below e.next (omega (arith, h)), ← add-one)

  emit_two : (slot last : ℕ) → e.next + 2 ≤ last_address → emit_all f e (Sym.generic slot ∷ Sym.generic last ∷ []) ≡ emitted e (values (Sym.generic slot ∷ Sym.generic last ∷ []))
  unfolding emit_all emit_word with_word with_literals literal_of word_of values emitted
  emit_two slot last h =
      let n : suc (suc e.next) ≡ e.next + 2 = omega arith in
      rw (next_below e.next (omega (arith, h)), next_below (suc e.next) (omega (arith, h)), n)

  emit_unary : (u : Unary) → e.next + length (unary_words u) ≤ last_address → emit_all f e (unary_words u) ≡ emitted e (values (unary_words u))
  unfolding unary_words
  emit_unary Unary.addc h = emit_one _ h
  emit_unary Unary.inc h = emit_one _ h
  emit_unary Unary.neg h = emit_one _ h
  emit_unary Unary.ssp h = emit_one _ h
  emit_unary Unary.ssm h = emit_one _ h
  emit_unary Unary.chs h = emit_one _ h
  emit_unary Unary.csa h = emit_one _ h
  emit_unary Unary.not h = emit_one _ h
  emit_unary Unary.icleft h = emit_one _ h
  emit_unary Unary.cleft h = emit_one _ h
  emit_unary Unary.swop h = emit_one _ h
  emit_unary Unary.icright h = emit_one _ h
  emit_unary Unary.cright h = emit_one _ h
  emit_unary Unary.abs h = emit_two _ _ h

module _ (f : Bases) (e : Emitted) where
  emit_all_lem : (us : List Unary) → e.next + length (unaries_words us) ≤ last_address → emit_all f e (unaries_words us) ≡ emitted e (values (unaries_words us))
  unfolding unaries_words emit_all emitted values
  emit_all_lem [] h = rw add-zero
  emit_all_lem (u ∷ us) h =
      let first = unaries_words us in
      let n = append_length first (unary_words u) in
      let m = values_length first in
      emit_append f e first (unary_words u)
      ∙ ap (λ x. emit_all f x (unary_words u)) (emit_all_lem us (omega (arith, h, n)))
      ∙ emit_unary f (emitted e (values first)) u (omega (arith, h, n, m))
      ∙ emitted_both e (values first) (values (unary_words u))
      ∙ ap (emitted e) (sym (values_append first (unary_words u)))

-- ---- The loops

-- the words of those that are still to be read
abbrev pub to_come : List ℕ → ℕ → ℕ → List Sym
to_come source k i = unaries_words (unaries_by source k i).0

-- one word's instructions stored before the others' are
store_last : (l : List ℕ) (place w : ℕ) (first last : List Sym) → w ≡ length last → length (first ⧺ last) ≤ place
    → sets l (place - length (first ⧺ last)) (values (first ⧺ last)) ≡ sets (sets l (place - w) (values last)) (place - w - length first) (values first)
store_last l place w first last e h =
    let n = append_length first last in
    let m = values_length first in
    let at = place - length (first ⧺ last) in
    let p : at + length (values first) ≡ place - w = omega (arith, n, m, e, h) in
    let q : place - w - length first ≡ at = omega (arith, n, e, h) in
    ap (sets l at) (values_append first last)
    ∙ sets_back l at (values first) (values last)
    ∙ rw (p, q)

-- none is left
pub none_counted : (source : List ℕ) (k i end : ℕ) {all : ℕ} → unaries_by source k i ≡ ([], i) → end ≤ last_address → min last_address (end + length (to_come source k i)) ≡ all → end ≡ all
unfolding unaries_words
none_counted source k i end e h q = let n = ap (λ x. length (unaries_words x.0)) e in omega (arith, n, h, q)

pub none_stored : (source : List ℕ) (k i place : ℕ) (l : List ℕ) → unaries_by source k i ≡ ([], i) → l ≡ sets l (place - length (to_come source k i)) (values (to_come source k i))
unfolding unaries_words values
none_stored source k i place l e = ap (λ x. sets l (place - length (unaries_words x.0)) (values (unaries_words x.0))) (sym e)

-- a turn reads one word
pub record Turn (source : List ℕ) (t : Token) (n k i : ℕ) : Type 0 where
  pub unary : Unary
  pub slot : n ≡ last_slot unary
  pub is : Instructions (kind_number t.kind) unary
  pub next : (unaries_by source k i).1 ≡ (unaries_by source (k - 1) t.next).1
  pub come : to_come source k i ≡ to_come source (k - 1) t.next ⧺ unary_words unary

module _ (source : List ℕ) where
  -- no turn is left
  pub runs_out : (k i : ℕ) → k ≤ 0 → unaries_by source k i ≡ ([], i)
  unfolding unaries_by
  runs_out zero i h = refl
  runs_out (suc k) i h = absurd (omega (arith, h))

  module _ {t : Token} {r : Found ℕ} (k i : ℕ) (at : t ≡ token_at source i) (number : r ≡ looked_up unaries last_slot (kind_number t.kind)) where
    pub stops : r ≡ None → unaries_by source k i ≡ ([], i)
    stops e = no_more source k i (number ∙ ap (λ x. looked_up unaries last_slot (kind_number x.kind)) at) e

    pub turns : {n : ℕ} → 0 < k → r ≡ Some n → Turn source t n k i
    unfolding unaries_words
    turns {n} h e = rw at (
        let r = as_row unaries last_slot (kind_number (token_at source i).kind) (number ∙ ap (λ x. looked_up unaries last_slot (kind_number x.kind)) at) e in
        let l : k ≡ suc (k - 1) = omega (arith, h) in
        let m = ap (λ x. unaries_by source x i) l ∙ one_more source (k - 1) i r in
        record {
          unary = r.row.1;
          slot = r.is;
          is = instructions r;
          next = ap (λ x. x.1) m;
          come = ap (λ x. unaries_words x.0) m;
        })

-- what one turn of each loop does
module _ {source : List ℕ} {t : Token} {n k i : ℕ} (turn : Turn source t n k i) {w : ℕ} (e : w ≡ width_of (kind_number t.kind)) where
  size : length (to_come source k i) ≡ length (to_come source (k - 1) t.next) + w
  size =
      let a = ap length turn.come in
      let b = append_length (to_come source (k - 1) t.next) (unary_words turn.unary) in
      let d = turn.is.width in
      omega (arith, a, b, d, e)

  pub advances : (end : ℕ) {next all : ℕ} → next ≡ min last_address (end + w) → min last_address (end + length (to_come source k i)) ≡ all
      → min last_address (next + length (to_come source (k - 1) t.next)) ≡ all
  advances end h q = let s = size in omega (arith, h, q, s)

  pub room : {place : ℕ} → length (to_come source k i) ≤ place → w ≤ place
  room h = let s = size in omega (arith, s, h)

  pub still_room : {place : ℕ} → length (to_come source k i) ≤ place → length (to_come source (k - 1) t.next) ≤ place - w
  still_room h = let s = size in omega (arith, s, h)

  pub places : (l : List ℕ) {place : ℕ} {image : List ℕ} → length (to_come source k i) ≤ place → image ≡ sets l (place - w) (unary_values (kind_number t.kind) n)
      → sets image (place - w - length (to_come source (k - 1) t.next)) (values (to_come source (k - 1) t.next)) ≡ sets l (place - length (to_come source k i)) (values (to_come source k i))
  places l {place} {image} h q =
      rw (q, turn.slot, turn.is.words, turn.come)
      (sym (store_last l place w (to_come source (k - 1) t.next) (unary_words turn.unary) (e ∙ turn.is.width) (rw (← turn.come) h)))

-- ---- What is emitted

module _ {a : Emitted} {end : ℕ} (ws : List Sym) (e : end ≡ min last_address (a.next + length ws)) (h : a.next ≤ last_address) where
  pub past_end : end ≡ last_address → Always a (record { image = a.image; next = end; pool = a.pool }) (λ _. ws)
  past_end q =
      record {
        lays = λ f.
            record {
              kept = kept_upto (omega (arith, e, h));
              fits = λ l. absurd (omega (arith, q, l));
              counts = λ l. absurd (omega (arith, q, l));
              over = λ l. omega (arith, e, l);
            };
      }

is_emitted : (f : Bases) (a : Emitted) {end : ℕ} {image : List ℕ} (us : List Unary) → end ≡ a.next + length (unaries_words us) → end ≤ last_address
    → image ≡ sets a.image (end - length (unaries_words us)) (values (unaries_words us)) → record { image = image; next = end; pool = a.pool } ≡ emit_all f a (unaries_words us)
unfolding emitted
is_emitted f a {end} {image} us c l i =
    let q : end - length (unaries_words us) ≡ a.next = omega (arith, c) in
    rw (emit_all_lem f a us (omega (arith, c, l)), i, q, c, values_length)

pub laid : {a : Emitted} {end : ℕ} {image : List ℕ} (us : List Unary) → end ≡ min last_address (a.next + length (unaries_words us)) → (end ≡ last_address → ⊥)
    → image ≡ sets a.image (end - length (unaries_words us)) (values (unaries_words us))
    → Always a (record { image = image; next = end; pool = a.pool }) (λ _. unaries_words us)
laid {a} {end} {image} us e n i =
    let c : end ≡ a.next + length (unaries_words us) = omega (arith, e, n) in
    record {
      lays = λ f.
          record {
            kept = rw i (kept_sets (end - length (unaries_words us)) (values (unaries_words us)) (omega (arith, c)) (kept_upto (omega (arith, c))));
            fits = λ l. is_emitted f a us c (omega (arith, l)) i;
            counts = λ l. c;
            over = λ l. omega (arith, c, l);
          };
    }

pub ruleset for_place_unaries = (none_stored, runs_out, stops, turns, room, still_room, places)

pub ruleset for_unaries_end = (none_counted, runs_out, stops, turns, advances)

pub ruleset for_unaries_next = (runs_out, stops, turns)
