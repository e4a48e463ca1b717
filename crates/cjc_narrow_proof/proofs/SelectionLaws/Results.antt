-- Results go outwards alike.
use Rattle.std.proofs.Common.{◌≡◌, ℕ, refl, sym, ap, subst, ◌∙◌, arith, true, List, [], ◌∷◌, ◌++◌, length}
use Rattle.std.specs.Prelude.{Option, Some, nat_le, if◌then◌else◌}
use Rattle.std.proofs.lemmas.Bool.Decides.{nat_tests}
use Rattle.cjc_script.specs.declared.value.Value.{Value}
use Rattle.cjc_script.specs.declared.value.Value.TheVariants.{Num}
use Rattle.cjc_script.specs.declared.report.Note.TheVariants.{Result}
use Rattle.cjc_card_semantics.specs.Bytecode.Runs.{Move, On}
use Rattle.cjc_card_semantics.specs.Bytecode.Effects.{Leave}
use Rattle.cjc_card_semantics.specs.Bytecode.Machine.{Next, StuckAt}
use Rattle.cjc_card_semantics.specs.Bytecode.Machine as narrow
use Rattle.cjc_ncode.specs.ByLabel.{Named, by_label}
use Rattle.cjc_jvm_semantics.specs.Linked.{Linked}
use Rattle.cjc_jvm_semantics.specs.Effects as effects
use Rattle.cjc_jvm_semantics.specs.Machine.{Frame, State, with_frames, with_note, behind_call, room, offset, stuck_at}
use Rattle.cjc_jvm_semantics.specs.Machine.{after_result, after_effect}
use Rattle.cjc_narrow_proof.specs.Selection.Relation.{Kind, Heap, number, null, object, Stacks, bottom, cell}
use Rattle.cjc_narrow_proof.specs.Selection.Rows.{HasRoom}
use Rattle.cjc_narrow_proof.specs.Selection.Jumps.{Results, no_result, result}
use Rattle.cjc_narrow_proof.specs.Selection.Calls.{NFrame, NState, NTurn}
use Rattle.cjc_narrow_proof.specs.Selection.Throws.{nheap}
use Rattle.cjc_narrow_proof.specs.Selection.Results.{Resumes, resumes, NotesResult, notes, AreShort, no_cell, a_number}
use Rattle.cjc_narrow_proof.specs.Selection.Results.{a_reference}
use Rattle.cjc_narrow_proof.proofs.SelectionLaws.Divides.{same_word}
use Rattle.cjc_narrow_proof.proofs.SelectionLaws.Gets.{heights}

-- cells that are the same on both sides
pub same_cells : {heap : Heap} {ks : List Kind} {vs ws : List Value} → AreShort ks → Stacks heap ks vs ws → ws ≡ vs
same_cells no_cell bottom = refl
same_cells (a_number {s = s} small short) (cell {vs = vs} {ws = ws} (number {x = x} {y = y} e h) rest) =
    ap (λ z. Num z ∷ ws) (same_word s x small h e) ∙ ap (λ vs. Num x ∷ vs) (same_cells short rest)
same_cells (a_reference short) (cell {v = v} null rest) = ap (λ vs. v ∷ vs) (same_cells short rest)
same_cells (a_reference short) (cell {v = v} (object thing is e) rest) = ap (λ vs. v ∷ vs) (same_cells short rest)

module _ (by : Linked) (l : Named) (ks : List Kind) (f : Frame) (outer : List Frame) (s : State) (g : NFrame)
    (others : List NFrame) (t : NState) (rest : Stacks (nheap t) ks f.stack g.stack) where
  abbrev Meets : List Kind → Move State → NTurn → Type 0
  Meets kinds = Resumes l (kinds ++ ks) s t f outer g others

  -- with cells more that agree, where there is room
  with_more : (kinds : List Kind) (values words : List Value) (from at : ℕ) → Stacks (nheap t) (kinds ++ ks) (values
      ++ f.stack) (words ++ g.stack) → HasRoom (kinds ++ ks) (room f) (let m = g.code in m.max_stack)
      → Meets kinds (if nat_le (length (values ++ f.stack)) (room f)
      then On (with_frames (behind_call values f ∷ outer) s) else stuck_at from s)
      (if nat_le (length (words ++ g.stack)) (let m = g.code in m.max_stack)
      then Next (record t { frames = record g { at = g.next; stack = words ++ g.stack } ∷ others })
      else StuckAt at t)
  with_more kinds values words from at stack roomy =
      let h = heights stack in let e = h.by_name in let k = h.narrow in let high = roomy.by_name in let high' =
      roomy.narrow in
      let left : nat_le (length (values ++ f.stack)) (room f) ≡ true = grind (arith, nat_tests) in
      let right : nat_le (length (words ++ g.stack)) (let m = g.code in m.max_stack) ≡ true = grind (arith, nat_tests)
      in
      subst (λ b. Meets kinds (if b then On (with_frames (behind_call values f ∷ outer) s) else stuck_at from s)
      (if nat_le (length (words ++ g.stack)) (let m = g.code in m.max_stack)
      then Next (record t { frames = record g { at = g.next; stack = words ++ g.stack } ∷ others })
      else StuckAt at t)) (sym left)
      (subst (λ b. Meets kinds (On (with_frames (behind_call values f ∷ outer) s)) (if b
      then Next (record t { frames = record g { at = g.next; stack = words ++ g.stack } ∷ others })
      else StuckAt at t)) (sym right)
      (resumes stack))

  pub resumed : (kinds : List Kind) (value : Option Value) (words : List Value) (from at : ℕ)
      → Results (nheap t) kinds value words → HasRoom (kinds ++ ks) (room f) (let m = g.code in m.max_stack)
      → Meets kinds (after_result from value f outer s) (narrow.returned (by_label l) at words g others t)
  unfolding by_label
  resumed _ _ _ from at no_result roomy = with_more [] [] [] from at rest roomy
  resumed _ _ _ from at (result {kind = kind} {v = v} {w = w} agree) roomy = with_more (kind ∷ []) (v ∷ []) (w
      ∷ []) from at (cell agree rest) roomy

-- a return to the frames that called
pub leaves_to : (by : Linked) (l : Named) (ks : List Kind) (f : Frame) (outer : List Frame) (s : State) (g : NFrame)
    (others : List NFrame) (t : NState) → Stacks (nheap t) ks f.stack g.stack
    → (kinds : List Kind) (value : Option Value) (words : List Value) → Results (nheap t) kinds value words
    → HasRoom (kinds ++ ks) (room f) (let m = g.code in m.max_stack) → (from : Frame) (at : NFrame) (next : ℕ)
    → Resumes l (kinds ++ ks) s t f outer g others (after_effect by (effects.Leave value) from (f ∷ outer) s)
    (narrow.made (by_label l) (Leave words) next at (g ∷ others) t)
leaves_to by l ks f outer s g others t rest kinds value words results roomy from at next =
    resumed by l ks f outer s g others t rest kinds value words (offset from) at.at results roomy

-- the end of an entry
pub leaves_entry : (by : Linked) (l : Named) (s : State) (t : NState) (kinds : List Kind) (value : Option Value)
    (words : List Value) → AreShort kinds → Results (nheap t) kinds value words
    → (from : Frame) (at : NFrame) (next : ℕ)
    → NotesResult value s t (after_effect by (effects.Leave value) from [] s) (narrow.made (by_label l) (Leave words)
    next at [] t)
leaves_entry by l s t _ _ _ no_cell no_result from at next = notes
leaves_entry by l s t _ _ _ (a_number {s = span} small short) (result (number {x = x} {y = y} e h)) from at next =
    subst (λ z. NotesResult (Some (Num x)) s t (On (with_frames [] (with_note (Result (Some (Num x))) s)))
    (Next (record t { frames = []; notes = t.notes ++ Result (Some (Num z)) ∷ [] })))
    (sym (same_word span x small h e)) notes
leaves_entry by l s t _ _ _ (a_reference short) (result null) from at next = notes
leaves_entry by l s t _ _ _ (a_reference short) (result (object thing is e)) from at next = notes
