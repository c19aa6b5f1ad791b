-- Names and globals as they are shown.
use Prim.Native.Nat.{ℕ, zero, suc, ◌+◌, ◌-◌, ◌*◌, ◌/◌, ◌%◌, ◌≤◌, ◌<◌}
use mathlib.Core.Path.{◌≡◌, refl, sym, ap, ◌∙◌}
use mathlib.Core.Bool.{Bool, true, false, cond, not, ◌||◌}
use mathlib.Core.Logic.{◌⊎◌, inl, inr}
use mathlib.Core.List.{List, [], ◌∷◌, ◌++◌, foldl, append_assoc, append-nil}
use native.Mathlib.Nat.{sub-zero}
use native.Mathlib.Numerals.{add-one}
use native.Mathlib.Omega.{arith}
use borrow.Author.Tests.{eqb-true, eqb-false, eq-eqb, ne_eqb, lt-ltb, le-leb}
use lib.Dec.{eqb}
use lib.ListN.{length, get_or, take}
use lib.Seq.{take-suc}
use Rattle.std.specs.Prelude.{reverse}
use Rattle.std.specs.Option.{unwrap_or}
use Rattle.std.specs.List.{position, position_or_len}
use Rattle.std.proofs.lemmas.List.{reverse-append, length-reverse, take_all}
use Rattle.failure_report.proofs.Laws.{first_place}
use Rattle.prelude.specs.Choice.{whether}
use Rattle.prelude.specs.Text.{bytes}
use Rattle.digits.specs.Digits.{decimal, newline}
use Rattle.text.specs.Adds.{Adds}
use Rattle.text.specs.declared.Text.{Text}
use Rattle.text.proofs.Laws.{Left, goes_on, is_whole}
use Rattle.symbols.specs.Packing.{before_trimmed, trimmed}
use Rattle.tree.specs.Tree.{Item, Declaration, Program}
use Rattle.tree.specs.Symbols as symbols
use Rattle.layout.specs.Allocation as layout
use Rattle.layout.specs.Allocation.{allocated}
use Rattle.layout.specs.Map.{declared, finished}
use Rattle.grammar.specs.Parse.Got.{got}
use Rattle.parser.specs.declared.Part.{Part}
use Rattle.parser.specs.declared.Failure.{Failure}
use Rattle.std.specs.Prelude.{Result, Ok, Err}
use Rattle.declarations.specs.declared.SectorEnds.{SectorEnds}
use Rattle.declarations.specs.declared.Reading.{Reading}
use Rattle.declarations.specs.Declares.{Declares}
use Rattle.declarations.specs.Scopes.{table_words}
use Rattle.declarations.specs.Procedures.{program_in, program_on, ProgramEmitted}
use Rattle.compiler.proofs.ReadingLaws.{on_table}
use Rattle.parser.proofs.ReadLaws.{never, came, failed_as}
use Rattle.report.specs.Shown.{ProgramRead}
use Rattle.symbols.specs.Table.{row_at, row_of, entries_of, live_names}
use Rattle.report.specs.Globals.{is_some_byte, element_head, element_end, element_text, elements_text, array_text, id_text, symbol_text, size_of, next_array, names_text, declaration_text, globals_text}

-- ---- Bytes without the zeros at their end

zero_dropped : (bs : List ℕ) → trimmed (bs ++ (0 ∷ [])) ≡ trimmed bs
unfolding trimmed before_trimmed
zero_dropped [] = refl
zero_dropped (b ∷ bs) = ap (before_trimmed b) (zero_dropped bs)

other_kept : (bs : List ℕ) (b : ℕ) → (b ≡ 0 → ⊥) → trimmed (bs ++ (b ∷ [])) ≡ bs ++ (b ∷ [])
unfolding trimmed before_trimmed
other_kept [] b h = rw (ne_eqb b 0 h)
other_kept (c ∷ bs) b h = ap (before_trimmed c) (other_kept bs b h) ∙ go bs
  where
    go : (ds : List ℕ) → before_trimmed c (ds ++ (b ∷ [])) ≡ c ∷ (ds ++ (b ∷ []))
    go [] = refl
    go (d ∷ ds) = refl

module _ (bs : List ℕ) (n : ℕ) (h : 0 < n) (l : n ≤ length bs) where
  last_taken : take n bs ≡ take (n - 1) bs ++ (get_or bs (n - 1) 0 ∷ [])
  last_taken = let e : n ≡ suc (n - 1) = omega (arith, h) in ap (λ k. take k bs) e ∙ take-suc bs (n - 1) 0 (omega (arith, h, l))

  zero_passed : get_or bs (n - 1) 0 ≡ 0 → trimmed (take n bs) ≡ trimmed (take (n - 1) bs)
  zero_passed e = ap trimmed (last_taken ∙ ap (λ b. take (n - 1) bs ++ (b ∷ [])) e) ∙ zero_dropped (take (n - 1) bs)

  other_stays : (get_or bs (n - 1) 0 ≡ 0 → ⊥) → take n bs ≡ trimmed (take n bs)
  other_stays e = last_taken ∙ sym (ap trimmed last_taken ∙ other_kept (take (n - 1) bs) (get_or bs (n - 1) 0) e)

-- up to a byte from the end, by the last one but zeros
before_zeros : (bs : List ℕ) (n : ℕ) → n ≤ length bs → take (n - position_or_len is_some_byte (reverse (take n bs))) bs ≡ trimmed (take n bs)
unfolding trimmed
before_zeros bs zero h = refl
before_zeros bs (suc n) h =
    rw (ap reverse (take-suc bs n 0 (omega (arith, h))) ∙ reverse-append (take n bs) (get_or bs n 0 ∷ [])) (go (eqb (get_or bs n 0) 0) refl (before_zeros bs n (omega (arith, h))))
  where
    k : ℕ
    k = position_or_len is_some_byte (reverse (take n bs))

    go : (t : Bool) → eqb (get_or bs n 0) 0 ≡ t → take (n - k) bs ≡ trimmed (take n bs) → take (suc n - cond (not (not t)) (1 + k) 0) bs ≡ trimmed (take (suc n) bs)
    go true q e =
        let last : suc n - 1 ≡ n = omega arith in
        let one : suc n - (1 + k) ≡ n - k = omega arith in
        ap (λ m. take m bs) one ∙ e ∙ ap (λ m. trimmed (take m bs)) (sym last) ∙ sym (zero_passed bs (suc n) (omega arith) h (rw last (eqb-true _ _ q)))
    go false q e =
        let last : suc n - 1 ≡ n = omega arith in
        let none : suc n - 0 ≡ suc n = omega arith in
        ap (λ m. take m bs) none ∙ other_stays bs (suc n) (omega arith) h (λ z. eqb-false (get_or bs n 0) 0 q (rw last at z))

pub trimmed_at : (bs : List ℕ) {k : ℕ} → k ≡ unwrap_or (position is_some_byte (reverse bs)) (length bs) → (take (length bs - k) bs ≡ trimmed bs) × (length bs - k ≤ length bs)
trimmed_at bs {k} e =
    let p : k ≡ position_or_len is_some_byte (reverse bs) = e ∙ ap (unwrap_or (position is_some_byte (reverse bs))) (sym (length-reverse bs)) ∙ first_place is_some_byte (reverse bs) in
    let w : take (length bs) bs ≡ bs = take_all (length bs) bs (omega arith) in
    (ap (λ m. take (length bs - m) bs) p ∙ ap (λ cs. take (length bs - position_or_len is_some_byte (reverse cs)) bs) (sym w) ∙ before_zeros bs (length bs) (omega arith) ∙ ap trimmed w, omega arith)

-- ---- Elements

pub row_starts : (name : List ℕ) (column k : ℕ) → column ≡ 0 → name ++ (bytes "[-" ++ (decimal k ++ bytes "] = ")) ≡ element_head name column k
unfolding element_head
row_starts name column k e = rw (eq-eqb _ _ e)

pub row_goes_on : (name : List ℕ) (column k : ℕ) → (column ≡ 0 → ⊥) → bytes ", " ≡ element_head name column k
unfolding element_head
row_goes_on name column k e = rw (ne_eqb _ _ e)

module _ (column k : ℕ) where
  -- the second test is a value in the code
  pub row_ends : (column ≡ 9) ⊎ (eqb k 1 ≡ true) → newline ≡ element_end column k
  unfolding element_end
  row_ends (inl e) = rw (eq-eqb _ _ e)
  row_ends (inr e) = rw e (go (eqb column 9))
    where
      go : (b : Bool) → newline ≡ whether (b || true) (λ _. newline) (λ _. [])
      go true = refl
      go false = refl

  pub row_open : (column ≡ 9 → ⊥) → eqb k 1 ≡ false → [] ≡ element_end column k
  unfolding element_end
  row_open e l = rw (ne_eqb _ _ e, l)

module _ (memory name : List ℕ) (size origin k : ℕ) where
  next_element : {column word : ℕ} → 0 < k → column ≡ (size - k) % 10 → word ≡ get_or memory (origin - k) 0
      → elements_text memory name size origin k ≡ element_text name column k word ++ elements_text memory name size origin (k - 1)
  unfolding elements_text
  next_element h e w = let n : k ≡ suc (k - 1) = omega (arith, h) in ap (elements_text memory name size origin) n ∙ rw (e, w, ← n)

  no_element : k ≤ 0 → elements_text memory name size origin k ≡ []
  unfolding elements_text
  no_element h = let n : k ≡ 0 = omega (arith, h) in ap (elements_text memory name size origin) n

  pub no_elements : k ≡ 0 → name ++ bytes " has no elements\n" ≡ array_text memory name k origin
  unfolding array_text
  no_elements e = rw (eq-eqb _ _ e)

  pub elements : (k ≡ 0 → ⊥) → elements_text memory name k origin k ≡ array_text memory name k origin
  unfolding array_text
  elements e = rw (ne_eqb _ _ e)

-- what is left to be written of an array, before the element at a place
module _ (memory name : List ℕ) (size origin : ℕ) where
  pub next_place : {a b c : Text} {all : List ℕ} (place : ℕ) {word : ℕ} → place < size → word ≡ get_or memory (origin - (size - place)) 0
      → Left a b (elements_text memory name size origin (size - place)) all → Adds b c (element_text name (place % 10) (size - place) word)
      → Left a c (elements_text memory name size origin (size - (place + 1))) all
  next_place place {word} h w p q =
      let e : size - place - 1 ≡ size - (place + 1) = omega arith in
      let column : place % 10 ≡ (size - (size - place)) % 10 = ap (λ n. n % 10) (omega (arith, h)) in
      goes_on _ _ (next_element memory name size origin (size - place) (omega (arith, h)) column w ∙ ap (λ n. element_text name (place % 10) (size - place) word ++ elements_text memory name size origin n) e) p q

  pub last_place : {a b : Text} {all : List ℕ} (place : ℕ) → size ≤ place → Left a b (elements_text memory name size origin (size - place)) all → Adds a b all
  last_place place h p = is_whole (no_element memory name size origin (size - place) (omega (arith, h))) p

-- ---- Names, in order of declaration

module _ (memory table : List ℕ) (i : ℕ) {name : List ℕ} {symbol : symbols.Symbol} (h : 7 * (i + 1) ≤ length table) (n : name ≡ (row_of table i).0) (e : symbol ≡ (row_of table i).1.symbol)
    {array : ℕ} (a : array ≡ next_array (entries_of i table)) where
  row_is : row_of table i ≡ row_at table (7 * i)
  unfolding row_of
  row_is = rw (lt-ltb i (length table / 7) (omega (arith, h)))

  pub next_name : names_text memory (entries_of i table) ++ symbol_text memory name array symbol ≡ names_text memory (entries_of (i + 1) table)
  unfolding names_text entries_of
  next_name = rw (add-one i, n, e, a, row_is)

  pub next_array_lem : {size : ℕ} → size ≡ size_of symbol → array - size ≡ next_array (entries_of (i + 1) table)
  unfolding next_array entries_of
  next_array_lem z = rw (add-one i, z, e, a, row_is)

-- ---- The program that was read

module _ (source table : List ℕ) {plan : SectorEnds} {image image' table' : List ℕ} {r : Result (Part Reading) Failure}
    (h : Declares (λ q x. ProgramEmitted plan image x.checked x.allocation x.end table' image' q) r (program_on source table)) (room : table_words ≤ length table) where
  pub program_read : {part : Part Reading} → r ≡ Ok part → length table' ≡ length table
      → ProgramRead source (record { names = part.value.allocation.names; checked = part.value.checked; end = part.value.end.next }) table'
  unfolding live_names finished declared
  program_read {part} q k =
      let one = came h q in
      let done = one.holds in
      let few = done.sound.few in
      let inside : part.value.allocation.names ≤ length table' / 7 = omega (arith, room, k, few) in
      let its : (p : Program) (n : ℕ) → program_in source ≡ got p n → one.tree ≡ p = λ p n e. let a : got one.tree part.next ≡ got p n = sym one.is ∙ on_table source table room ∙ e in cc in
      record {
        inside = omega (arith, inside);
        names = λ p n e. rw (← its p n e) (rw (le-leb _ _ inside) at (ap (λ st. st.scope.names) done.allocation));
        checked = λ p n e. rw (← its p n e) done.checked;
        end = λ p n e. rw (← its p n e) done.next;
      }

  pub no_program : {f : Failure} → r ≡ Err f → (p : Program) (n : ℕ) → program_in source ≡ got p n → ⊥
  no_program q p n e = never (on_table source table room ∙ e) (failed_as h q).0

-- ---- The names as declarations

module _ (memory : List ℕ) where
  abbrev Shown : layout.Allocation → Type 0
  Shown st = (st.scope.level ≡ symbols.Level.outer) × (st.array ≡ next_array st.scope.names)

  keeps : (st : layout.Allocation) (d : Declaration) → Shown st → Shown (layout.allocate st d)
  unfolding layout.allocate symbols.declare_item symbols.declare symbols.item_symbol next_array size_of
  keeps st (Declaration.item name Item.integer) h = (h.0, h.1 ∙ sym (sub-zero _))
  keeps st (Declaration.item name (Item.constant v)) h = (h.0, h.1 ∙ sym (sub-zero _))
  keeps st (Declaration.item name (Item.compconstant v)) h = (h.0, h.1 ∙ sym (sub-zero _))
  keeps st (Declaration.array name size checked values) h = (h.0, ap (λ a. a - size) h.1)
  keeps st (Declaration.procedure name accumulator locals body) h = (h.0, h.1 ∙ sym (sub-zero _))
  keeps st Declaration.next_sector h = h

  one_more : (st : layout.Allocation) (d : Declaration) → Shown st
      → names_text memory (layout.allocate st d).scope.names ≡ names_text memory st.scope.names ++ declaration_text memory st d
  unfolding layout.allocate symbols.declare_item symbols.declare symbols.item_symbol symbols.next_id names_text symbol_text id_text declaration_text
  one_more st (Declaration.item name Item.integer) h = rw h.0
  one_more st (Declaration.item name (Item.constant v)) h = refl
  one_more st (Declaration.item name (Item.compconstant v)) h = refl
  one_more st (Declaration.array name size checked values) h = rw h.1
  one_more st (Declaration.procedure name accumulator locals body) h = refl
  one_more st Declaration.next_sector h = sym (append-nil _)

  all_names : (st : layout.Allocation) (ds : List Declaration) → Shown st
      → names_text memory (foldl layout.allocate st ds).scope.names ≡ names_text memory st.scope.names ++ globals_text memory st ds
  unfolding globals_text
  all_names st [] h = sym (append-nil _)
  all_names st (d ∷ ds) h = all_names (layout.allocate st d) ds (keeps st d h) ∙ ap (λ t. t ++ globals_text memory (layout.allocate st d) ds) (one_more st d h) ∙ append_assoc (names_text memory st.scope.names) (declaration_text memory st d) (globals_text memory (layout.allocate st d) ds)

  pub globals_are : (ds : List Declaration) → names_text memory (allocated ds).scope.names ≡ globals_text memory layout.start ds
  unfolding allocated names_text next_array
  globals_are ds = all_names layout.start ds (refl, refl)

pub ruleset for_put_array = (no_elements, elements)

pub ruleset for_put_elements = (last_place)

pub ruleset for_put_end = (row_ends, row_open)

pub ruleset for_put_head = (row_starts, row_goes_on)
