-- Procedures: the body, and the whole.
use Prim.Native.Nat.{ℕ, suc, ◌+◌, ◌*◌, ◌≤◌, ◌<◌}
use mathlib.Core.Path.{◌≡◌, refl, sym, ap, ◌∙◌}
use mathlib.Core.Bool.{Bool, true}
use mathlib.Core.List.{List, [], ◌∷◌, foldl}
use native.Mathlib.Omega.{arith}
use lib.ListN.{length}
use Rattle.source.specs.Kinds
use Rattle.source.specs.declared.Token.{Token}
use Rattle.source.specs.Tokens.{token_at}
use Rattle.tree.specs.Tree.{Name, Item, Stmts, Declaration}
use Rattle.tree.specs.Symbols.{Symbol, Level, Names, Scope, declare, declare_item, local_scope, words_taken}
use Rattle.layout.specs.Words.{Sym, stmts_words, procedure_words}
use Rattle.layout.specs.Allocation as layout
use Rattle.layout.specs.Limits.{name_limit, declaration_limit}
use Rattle.grammar.specs.Parse.{Got, and_then, within, expect}
use Rattle.grammar.specs.Parse.Got.{got, failed}
use Rattle.grammar.specs.Statements.{parse_outermost}
use Rattle.grammar.specs.Declarations.{parse_locals}
use Rattle.symbols.specs.declared.Packed.{Packed}
use Rattle.symbols.specs.Packing.{unpack}
use Rattle.symbols.specs.Table as tables
use Rattle.instruction.specs.Opcode.{JMP}
use Rattle.layout.specs.Map.{reference}
use Rattle.emitter.specs.Emitted as emitted
use Rattle.layout.specs.Emission as emission
use Rattle.layout.specs.Pool.{literals_of, added_all}
use Rattle.emitter.specs.Lays.{Lays}
use Rattle.layout.specs.Emission.{stored, local_values, emit_declaration, emit_declarations}
use Rattle.emitter.specs.declared.Output.{Output}
use Rattle.emitter.proofs.Lays.{word, sequence}
use Rattle.emitter.proofs.EmittedWords.{return_word}
use Rattle.declarations.specs.declared.SectorEnds.{SectorEnds}
use Rattle.declarations.specs.declared.Allocation.{Allocation}
use Rattle.declarations.specs.Allocations.{ends_of, end_of, pool_of, with_global, allocation_of, SoundAllocation, Declared, sector_number}
use Rattle.declarations.specs.Forms.{limited_in}
use Rattle.declarations.specs.Forms.{heading_in, body_in, procedure_in}
use Rattle.declarations.specs.Frames.{framed, FrameEmitted}
use Rattle.declarations.specs.Clauses.{limit_then_expect, end_then_expect}
use Rattle.declarations.specs.Procedures.{bases_at, BodyEmitted}
use Rattle.parser.proofs.Answers.{then_got, then_failed}
use Rattle.declarations.proofs.ParseLaws.{then_inv}
use Rattle.declarations.proofs.NameLaws.{name_room}
use Rattle.declarations.proofs.ScopeLaws.{held_more, held_kept}
use Rattle.declarations.proofs.LimitLaws.{sector_number_lem, limited_then, not_passed, Exact, same_number, limited_exact}
use Rattle.declarations.proofs.SectorLaws.{ends_length}

-- ---- The heading

module _ (source : List ℕ) (scope : Scope) (at : ℕ) where
  pub heading_room : {name : Name} {n : ℕ} → heading_in source scope at ≡ got name n → length scope.names < 512
  unfolding heading_in
  heading_room e = name_room source scope (name_limit scope) (token_at source at) (then_inv _ _ e).2

-- ---- The body

module _ (source : List ℕ) (scope : Scope) (name : Name) (at : ℕ) where
  pub body_locals : {k a : ℕ} → parse_locals source (local_scope scope name) at ≡ failed k a → body_in source scope name at ≡ failed k a
  unfolding body_in
  body_locals e = then_failed _ e

  module _ {locals : List (Name × Item)} {n : ℕ} (e : parse_locals source (local_scope scope name) at ≡ got locals n) {names : Names} (i : names ≡ (foldl declare_item (local_scope scope name) locals).names) where
    pub body_statements : {k a : ℕ} → parse_outermost source names n ≡ failed k a → body_in source scope name at ≡ failed k a
    unfolding body_in
    body_statements h = then_got _ e ∙ then_failed _ (ap (λ x. parse_outermost source x n) (sym i) ∙ h)

    pub body_on : {body : Stmts} {m : ℕ} → parse_outermost source names n ≡ got body m → body_in source scope name at ≡ got (locals, body) m
    unfolding body_in
    body_on h = then_got _ e ∙ then_got _ (ap (λ x. parse_outermost source x n) (sym i) ∙ h)

module _ {s : Allocation} {t image v between : List ℕ} (image₂ : List ℕ) {image₃ : List ℕ} {name : Name} {names link pool : ℕ} {output : Output} (after : Output) {last : Output} {locals : List (Name × Item)} {body : Stmts} where
  pub body_bodied : FrameEmitted s t image name names link output v between locals → Lays (bases_at pool s) (emitted.emitted_by output between) (emitted.emitted_by after image₂) (stmts_words body)
      → emitted.emitted_by last image₃ ≡ emission.with_word (emitted.emitted_by after image₂) (reference JMP true link) → BodyEmitted s t image pool name last v image₃ (locals, body)
  body_bodied p q e =
      let b = emitted.emitted_by after image₂ in
      let to : emitted.emitted_by last image₃ ≡ emission.emit_word (bases_at pool s) b (Sym.return (layout.link_of (allocation_of s t) name locals)) =
      e ∙ sym (return_word (bases_at pool s) b link) ∙ ap (λ l. emission.emit_word (bases_at pool s) b (Sym.return l)) p.linked in
      record { kept = p.kept; lays = sequence (rw p.laid at q) (rw (← to) at (word {f = bases_at pool s} {a = b} (Sym.return (layout.link_of (allocation_of s t) name locals)))) }

-- ---- `.END`

module _ {A : Type 0} (source : List ℕ) (kind limit : ℕ) (v : A) where
  -- a part that is judged at its `.END`, with whatever was read
  pub ended_then : (x : Got Token) → and_then x (λ last _. within limit last (and_then (expect kind source last.next) (λ _ next. got v next))) ≡ and_then (and_then x (λ last _. limit_then_expect source limit last kind)) (λ _ n. got v n)
  unfolding and_then
  ended_then (got t n) = limited_then limit t kind source v
  ended_then (failed k a) = refl

pub ended_zero : (source : List ℕ) (kind limit at : ℕ) {t : Token} {n : ℕ} → end_then_expect source limit kind at ≡ got t n → limit ≡ 0
ended_zero source kind limit at e = let r = then_inv _ _ e in not_passed limit r.0 (got r.0 r.0.next) (λ _ m. expect kind source m) r.3

-- ---- A procedure

module _ (source : List ℕ) (st : layout.Allocation) (accumulator : Bool) (at : ℕ) where
  pub procedure_heading : {k a : ℕ} → heading_in source st.scope at ≡ failed k a → procedure_in source st accumulator at ≡ failed k a
  unfolding procedure_in
  procedure_heading e = then_failed _ e

  module _ {name : Name} {n : ℕ} (e : heading_in source st.scope at ≡ got name n) where
    pub procedure_body : {k a : ℕ} → body_in source st.scope name n ≡ failed k a → procedure_in source st accumulator at ≡ failed k a
    unfolding procedure_in
    procedure_body h = then_got _ e ∙ then_failed _ h

    module _ {inside : List (Name × Item) × Stmts} {m : ℕ} (i : body_in source st.scope name n ≡ got inside m) (limit : ℕ) (l : limit ≡ declaration_limit st (Declaration.procedure name accumulator inside.0 inside.1)) where
      pub procedure_ended : procedure_in source st accumulator at ≡ and_then (end_then_expect source limit Kinds.semicolon m) (λ _ k. got (Declaration.procedure name accumulator inside.0 inside.1 ∷ []) k)
      unfolding procedure_in limited_in
      procedure_ended =
          let d = Declaration.procedure name accumulator inside.0 inside.1 in
          then_got _ e ∙ then_got _ i ∙ ap (λ z. and_then (expect Kinds.END source m) (λ last _. within z last (and_then (expect Kinds.semicolon source last.next) (λ _ next. got (d ∷ []) next)))) (sym l)
          ∙ ended_then source Kinds.semicolon limit (d ∷ []) (expect Kinds.END source m)

module _ {s : Allocation} {t image v image' : List ℕ} {pool : ℕ} {name : Name} {output : Output} {inside : List (Name × Item) × Stmts} (accumulator : Bool) (h : SoundAllocation s) (p : BodyEmitted s t image pool name output v image' inside) where
  ends : length (ends_of s.sectors) ≡ s.sectors.count
  ends = ends_length h.closed

  abbrev link : ℕ
  link = layout.link_of (allocation_of s t) name inside.0

  low : length (pool_of s) + 512 * (s.sectors.count + 1) ≤ suc link
  low = let u = h.used in omega (arith, u)

  short : length (pool_of s) ≤ 512
  short = let u = h.used in let f = h.fits in omega (arith, u, f)

  place : suc link + length (procedure_words inside.1 link) ≡ s.output.next + suc (layout.local_words (allocation_of s t) name inside.0) + length (procedure_words inside.1 link)
  place = omega arith

  -- the limit that the code judges by is the definition's
  pub procedure_limit : sector_number (output.next + length (emitted.literals_in output.pool)) s.sectors.count s.array ≡ declaration_limit (allocation_of s t) (Declaration.procedure name accumulator inside.0 inside.1)
  unfolding declaration_limit layout.allocate procedure_words
  procedure_limit =
      same_number p.lays s.sectors.count s.array low h.closed.last short
      ∙ ap (λ x. sector_number (x + length (added_all (pool_of s) (literals_of (procedure_words inside.1 link)))) s.sectors.count s.array) place
      ∙ sym (sector_number_lem (layout.allocate (allocation_of s t) (Declaration.procedure name accumulator inside.0 inside.1)) ends)

  pub procedure_exact : sector_number (output.next + length (emitted.literals_in output.pool)) s.sectors.count s.array ≡ 0
      → Exact (bases_at pool s) (framed (allocation_of s t) name inside.0 image) (emitted.emitted_by output image') (procedure_words inside.1 link) s.sectors.count
  unfolding procedure_words
  procedure_exact z = limited_exact p.lays s.sectors.count s.array low h.closed.last short z

  -- declared
  pub procedure_declared : (plan : SectorEnds) (packed : Packed) (w : List ℕ) → name ≡ unpack packed → pool ≡ end_of plan s.sectors.count → 3584 ≤ length t → length (tables.live_names s.names t) ≡ s.names
      → length (allocation_of s t).scope.names < 512 → length v ≡ length t → length w ≡ length v → tables.Entered s.names v packed 0 (Symbol.procedure s.taken accumulator) w
      → sector_number (output.next + length (emitted.literals_in output.pool)) s.sectors.count s.array ≡ 0
      → Declared (end_of plan) s t image (with_global s output s.array) w image' (Declaration.procedure name accumulator inside.0 inside.1 ∷ [])
  unfolding emit_declarations emit_declaration layout.allocate declare words_taken tables.level_of tables.at_level tables.entry_of
  procedure_declared plan packed w same pool_is long held few kept keeps d z =
      let x = procedure_exact z in
      let names = held_more s.names v w packed 0 (Symbol.procedure s.taken accumulator) (omega arith) keeps d
      ∙ ap (λ b. (unpack packed, record { level = Level.outer; symbol = Symbol.procedure s.taken accumulator }) ∷ b) (held_kept s.names s.names t v (omega arith) (omega arith) kept p.kept)
      ∙ ap (λ a. (a, record { level = Level.outer; symbol = Symbol.procedure s.taken accumulator }) ∷ tables.live_names s.names t) (sym same) in
      let code = x.next ∙ place in
      let at = pool_is ∙ ap (end_of plan) (sym ends) in
      record {
        allocation = allocation_is names code x.pool;
        sound = record { few = omega arith; each = omega (arith, h.each); closed = h.closed; used = x.used; fits = x.fits; top = h.top };
        laid = ap (λ e. e.image) x.all ∙ ap (λ a. (emission.emit_all (bases_at a s) (framed (allocation_of s t) name inside.0 image) (procedure_words inside.1 link)).image) at;
      }
    where
      allocation_is : {a b : Names} {c e : ℕ} {i j : List ℕ} → a ≡ b → c ≡ e → i ≡ j
          → ◌≡◌ {A = layout.Allocation} (record { scope = record { names = a; level = Level.outer; taken = s.taken + 1 }; next = c; pool = i; ends = ends_of s.sectors; array = s.array })
          (record { scope = record { names = b; level = Level.outer; taken = s.taken + 1 }; next = e; pool = j; ends = ends_of s.sectors; array = s.array })
      allocation_is p q r = rw (p, q, r)
