-- A program whose parts are placed stands in its map, as `LaidProgram` says.
use Prim.Native.Nat.{ℕ, zero, suc, ◌+◌, ◌*◌, ◌≤◌}
use mathlib.Core.Path.{◌≡◌, sym, ap, subst, ◌∙◌, refl}
use mathlib.Core.Bool.{Bool}
use mathlib.Core.List.{List, [], ◌∷◌, ◌++◌, append_assoc, append-nil}
use native.Mathlib.Nat.{zero-add, le-add_right}
use native.Mathlib.Omega.{arith}
use lib.ListN.{length, get_or, length-map}
use Rattle.instruction.specs.Slot.{HLT}
use Rattle.instruction.specs.Table.{generics, table_of}
use Rattle.instruction.specs.Decode.{find_word, generic_of, shift_of, memory_of, decode_def}
use Rattle.instruction.proofs.Rows.{is_at}
use Rattle.tree.specs.Tree.{Array, Name, Item, Stmts, Declaration, Program}
use Rattle.layout.specs.Words.{Sym, ◌⧺◌, after, stmts_end, stmts_words, procedure_words, main_words}
use Rattle.layout.specs.Allocation.{allocated, local_words, link_of, finish}
use Rattle.layout.specs.Map.{Frame, Role, saved_role, initial, frame, plan_of, declared, finished, map_of, image_of, map_at}
use Rattle.parsing_laws.specs.WellFormed.{All, Kind, Context, kinds_of, StmtsBy, StmtOk, DeclarationOk, DeclarationsOk, none, more, Flagged, WellFormed}
use Rattle.memory_map.specs.Laid.{Map, Sound, Known, Knows, LaidStmts, LaidProcedure, LaidProcedures, LaidProgram}
use Rattle.memory_map.specs.KnownProcedures.{with_procedure, known_from, known_of}
use Rattle.layout_laws.proofs.Spans.{Span, join, span_stmts, span_end}
use Rattle.memory_map.proofs.LaidParts.{Globals, Covers, first, split, body}
use Rattle.memory_map.proofs.Encodable.{SlotOk, AllOk, WordOk, both, body_words, grows}
use Rattle.memory_map.proofs.Bodies.{Body, Placement}
use Rattle.memory_map.proofs.Reach.{covers}
use Rattle.memory_map.proofs.KnownProcedures.{knows, known_snoc, known_below}
use Rattle.parsing_laws.proofs.Parsed.Scopes.{declared as all_declared, kinds_extend, array_some, procedure_some}
use Rattle.compilation.specs.Compile.{Compiled, compiled}
use Rattle.memory_map.proofs.Placement.{placement}
use Rattle.memory_map.proofs.Unique.{once, link_once}
use Rattle.memory_map.proofs.Accepted.{Accepted}
use Rattle.memory_map.proofs.AtDeclaration.{map_length}

-- an array has the program's flag
flag_of_lem : {checked flag : Bool} {size : ℕ} (ds : List Declaration) → All (Flagged checked) ds → (n : ℕ) → get_or (kinds_of ds) n Kind.none ≡ Kind.array size flag → flag ≡ checked
unfolding kinds_of
flag_of_lem [] f n e = let z : ◌≡◌ {A = ℕ} 0 1 = cc in absurd (omega arith)
flag_of_lem (Declaration.item name Item.integer ∷ ds) f zero e = let z : ◌≡◌ {A = ℕ} 0 1 = cc in absurd (omega arith)
flag_of_lem (Declaration.item name Item.integer ∷ ds) f (suc n) e = flag_of_lem ds f.1 n e
flag_of_lem (Declaration.item name (Item.constant v) ∷ ds) f zero e = let z : ◌≡◌ {A = ℕ} 0 1 = cc in absurd (omega arith)
flag_of_lem (Declaration.item name (Item.constant v) ∷ ds) f (suc n) e = flag_of_lem ds f.1 n e
flag_of_lem (Declaration.item name (Item.compconstant v) ∷ ds) f n e = flag_of_lem ds f.1 n e
flag_of_lem (Declaration.array name size own values ∷ ds) f zero e = let z = f.0 in cc
flag_of_lem (Declaration.array name size own values ∷ ds) f (suc n) e = flag_of_lem ds f.1 n e
flag_of_lem (Declaration.procedure name accumulator locals body ∷ ds) f zero e = let z : ◌≡◌ {A = ℕ} 0 1 = cc in absurd (omega arith)
flag_of_lem (Declaration.procedure name accumulator locals body ∷ ds) f (suc n) e = flag_of_lem ds f.1 n e
flag_of_lem (Declaration.next_sector ∷ ds) f n e = flag_of_lem ds f.1 n e

halt_slot : SlotOk HLT
unfolding is_at decode_def generic_of find_word generics shift_of memory_of table_of
halt_slot = tt

-- the statements of a body, and the word after them
module _ (M : Map) (ps : Known) (sound : Sound M) where
  record Laid (ss : Stmts) (a : ℕ) (last : Sym) : Type 0 where
    statements : LaidStmts M ps ss a (stmts_end ss a)
    word : Covers M (stmts_end ss a) (last ∷ [])
    end : suc (stmts_end ss a) ≡ after (stmts_words ss a ⧺ last ∷ []) a

  laid_body : (f : Frame) (x : Context) (g : Globals M ps x) (ss : Stmts) (a : ℕ) (last : Sym) → length x.globals ≤ 384
      → StmtsBy (StmtOk x 33) ss → WordOk x f.locals (stmts_end ss a) last → Body M f x a (stmts_words ss a ⧺ last ∷ []) → Laid ss a last
  laid_body f x g ss a last few ok final b =
      let p = span_stmts ss a in
      let ws = stmts_words ss a ⧺ last ∷ [] in
      let e : suc (stmts_end ss a) ≡ a + length ws = span_end (join p (Span.word Span.none)) in
      let low = b.low in
      let high : a + length ws ≤ 512 * suc b.sector = b.high in
      let top : a + length ws ≤ 16383 = b.top in
      let c = covers M f x b.sector f.locals (stmts_end ss a) low (omega arith) few b.ids (stmts_words ss a ⧺ last ∷ []) a
      (both (body_words x f.locals (stmts_end ss a) ss a ok b.from (omega arith)) (AllOk.word {w = last} final AllOk.none))
      b.literals b.fixed b.from (omega arith) (omega arith) in
      let q = split M p c in
      record { statements = body M ps x g sound.once sound.x_at ss a ok q.0; word = q.1; end = e }

module _ (p : Program) (w : WellFormed p) (placed : Placement p) where
  abbrev M : Map
  M = map_at p

  -- what the first declarations declare stands in the map
  globals : (ds es : List Declaration) → p.declarations ≡ ds ++ es → (own locals : ℕ) → Globals M (known_of ds) (record { globals = kinds_of ds; own = own; locals = locals })
  globals ds es e own locals = record {
    arrays = λ r h. placed.arrays r (array r h);
    saved_at = λ r h. placed.saved_at ∙ ap saved_role (sym (flag_of_lem p.declarations w.flags r.number (array r h)));
    procedures = λ n h. (placed.words n (all n Kind.procedure procedure_some h), known n h);
  }
    where
      all : (n : ℕ) (k : Kind) → (k ≡ Kind.none → ⊥) → get_or (kinds_of ds) n Kind.none ≡ k → get_or (kinds_of p.declarations) n Kind.none ≡ k
      all n k some h = ap (λ (l : List Declaration). get_or (kinds_of l) n Kind.none) e ∙ kinds_extend ds es n k some h

      array : (r : Array) → get_or (kinds_of ds) r.number Kind.none ≡ Kind.array r.size r.checked
          → get_or (kinds_of p.declarations) r.number Kind.none ≡ Kind.array r.size r.checked
      array r h = all r.number (Kind.array r.size r.checked) (array_some r.size r.checked) h

      known : (n : ℕ) → get_or (kinds_of ds) n Kind.none ≡ Kind.procedure → Knows (known_of ds) n
      known n h = subst (Knows (known_of ds)) (zero-add n) (knows 0 [] ds n h)

  few : (ds : List Declaration) → DeclarationsOk ds → length (kinds_of ds) ≤ 384
  few ds h = let d = all_declared h in let e = d.taken in let f = d.few in omega arith

  -- a procedure
  procedure : (ds : List Declaration) → DeclarationsOk ds → (name : Name) (accumulator : Bool) (locals : List (Name × Item)) (ss : Stmts) (es : List Declaration)
      → p.declarations ≡ ds ++ (Declaration.procedure name accumulator locals ss ∷ es)
      → DeclarationOk (allocated ds) (kinds_of ds) (Declaration.procedure name accumulator locals ss)
      → LaidProcedure M (known_of ds) (length (kinds_of ds)) ss
  unfolding procedure_words
  procedure ds h name accumulator locals ss es e ok =
      let st = allocated ds in
      let at = placed.procedures ds name accumulator locals ss es e in
      let b = at.1 in
      let x : Context = record { globals = kinds_of ds; own = st.scope.taken; locals = local_words st name locals } in
      let f = frame (plan_of p (length st.ends)) st.next in
      let link = link_of st name locals in
      let g = globals ds (Declaration.procedure name accumulator locals ss ∷ es) e st.scope.taken (local_words st name locals) in
      let i = grows (span_stmts ss (suc link)) in
      let l : st.next ≤ link = le-add_right st.next (local_words st name locals) in
      let r = laid_body M (known_of ds) placed.sound f x g ss (suc link) (Sym.return link) (few ds h) ok.2 (l, omega arith) b in
      record {
        link = link;
        item = at.0 ∙ ap Role.link (all_declared h).taken;
        last = stmts_end ss (suc link);
        statements = r.statements;
        return = first M r.word;
      }

  one_more : (ds es : List Declaration) → DeclarationsOk ds → (d : Declaration) → DeclarationOk (allocated ds) (kinds_of ds) d → p.declarations ≡ ds ++ (d ∷ es)
      → LaidProcedures M (known_of ds) → LaidProcedures M (with_procedure (length (kinds_of ds)) (known_of ds) d)
  unfolding with_procedure
  one_more ds es h (Declaration.item name item) ok e l = l
  one_more ds es h (Declaration.array name size checked values) ok e l = l
  one_more ds es h (Declaration.procedure name accumulator locals ss) ok e l =
      LaidProcedures.more (procedure ds h name accumulator locals ss es e ok)
      (λ k. let b = known_below ds (length (kinds_of ds)) k in omega arith) l
  one_more ds es h Declaration.next_sector ok e l = l

  procedures : (ds : List Declaration) → DeclarationsOk ds → (es : List Declaration) → p.declarations ≡ ds ++ es → LaidProcedures M (known_of ds)
  unfolding known_from
  procedures _ none es e = LaidProcedures.none
  procedures _ (more ds d h ok) es e =
      let e' : p.declarations ≡ ds ++ (d ∷ es) = e ∙ append_assoc ds (d ∷ []) es in
      subst (LaidProcedures M) (sym (known_snoc ds d)) (one_more ds es h d ok e' (procedures ds h (d ∷ es) e'))

  pub laid : LaidProgram M (known_of p.declarations) p.main (allocated p.declarations).next
  unfolding main_words
  laid =
      let ds = p.declarations in
      let st = allocated ds in
      let x : Context = record { globals = kinds_of ds; own = 0; locals = 0 } in
      let f = frame (plan_of p (length st.ends)) st.next in
      let all : ds ≡ ds ++ [] = sym (append-nil ds) in
      let r = laid_body M (known_of ds) placed.sound f x (globals ds [] all 0 0) p.main st.next (Sym.generic HLT) (few ds w.declarations) w.main halt_slot placed.main in
      record {
        sound = placed.sound;
        procedures = procedures ds w.declarations [] all;
        last = stmts_end p.main st.next;
        statements = r.statements;
        halt = first M r.word;
        end = r.end;
      }

-- ---- Of what was accepted

entry_of : (p : Program) → (allocated p.declarations).next ≡ (compiled p).entry
unfolding compiled declared
entry_of p = refl

image_of_lem : (p : Program) → (compiled p).image ≡ image_of p
unfolding compiled
image_of_lem p = refl

pub placed : (p : Program) → WellFormed p → Placement p
placed p w = placement p w (once p w) (link_once p w)

pub laid_at : (c : Compiled) → Accepted c → LaidProgram (map_at c.program) (known_of c.program.declarations) c.program.main c.entry
laid_at c a =
    let p = c.program in
    let at : ℕ → Type 0 = LaidProgram (map_at p) (known_of p.declarations) p.main in
    subst at (ap (λ (d : Compiled). d.entry) (sym a.is)) (subst at (entry_of p) (laid p a.well_formed (placed p a.well_formed)))

end_of : (p : Program) → after (main_words p.main (compiled p).entry) (compiled p).entry ≡ (finished p).next
unfolding compiled declared finished finish
end_of p = let n = (allocated p.declarations).next in let z : n ≡ n + 0 = omega arith in ap (after (main_words p.main n)) z

-- the address behind the last word of the main body
pub end_at : (c : Compiled) → Accepted c → after (main_words c.program.main c.entry) c.entry ≡ (finished c.program).next
end_at c a =
    let p = c.program in
    subst (λ (n : ℕ). after (main_words p.main n) n ≡ (finished p).next) (ap (λ (d : Compiled). d.entry) (sym a.is)) (end_of p)

pub image_at : (c : Compiled) → Accepted c → c.image ≡ image_of c.program
image_at c a = ap (λ (d : Compiled). d.image) a.is ∙ image_of_lem c.program

pub image_size : (c : Compiled) → Accepted c → length c.image ≡ 16384
unfolding image_of
image_size c a = ap length (image_at c a) ∙ length-map (map_of c.program) initial ∙ map_length c.program a.well_formed
