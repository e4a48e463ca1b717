-- When an entry of a script begins alike.
use Rattle.std.specs.Prelude.{◌≡◌, ℕ, ◌+◌, List, [], ◌∷◌, length, map, Some, None, option_map, Bool, true, false}
use Rattle.cjc_bytes.specs.declared.fault.MemberId.{MemberId}
use Rattle.cjc_script.specs.declared.value.Value.{Value}
use Rattle.cjc_script.specs.declared.script.Entry.{Entry}
use Rattle.cjc_script.specs.declared.report.Note.{Note}
use Rattle.cjc_script.specs.declared.report.Outcome.TheVariants.{Unfit}
use Rattle.cjc_script.specs.Sorts.{Shape, Sort, Reference, Signature, shape_name, signature_of}
use Rattle.cjc_card_semantics.specs.Bytecode.Runs.{Move, On, Over}
use Rattle.cjc_card_semantics.specs.Bytecode.Machine.{Start, Next, Ended}
use Rattle.cjc_card_semantics.specs.Bytecode.Machine as narrow
use Rattle.cjc_ncode.specs.declared.narrow.NMethod.{NMethod}
use Rattle.cjc_ncode.specs.ByLabel.{Named}
use Rattle.cjc_jvm_semantics.specs.Linked.{Method, Linked}
use Rattle.cjc_jvm_semantics.specs.Machine.{State, frame_for_call, report}
use Rattle.cjc_narrow_proof.specs.Selection.Relation.{Kind, Refers, IsMadeOf}
use Rattle.cjc_narrow_proof.specs.Selection.Rows.{kind_of, is_word_sort}
use Rattle.cjc_narrow_proof.specs.Selection.Calls.{NState, NTurn, Frames, first_locals, IsNarrowed}
use Rattle.cjc_narrow_proof.specs.Selection.Throws.{nheap}
use Rattle.cjc_narrow_proof.specs.Selection.Replies.{StatesAgree, AsksAlike}

-- what parameters are in the locals
abbrev pub kinds_of : Named → List Sort → List Kind
kinds_of l types = map (kind_of l) types

-- The parameters are one word each, and what is of their types is told alike.
pub data AreGiven (by : Linked) (l : Named) : List Sort → Type 0 where
  no_parameter : AreGiven by l []
  a_parameter : {type : Sort} {types : List Sort} → is_word_sort type ≡ true → ((kind : Shape (List ℕ))
      → type ≡ Reference kind → AsksAlike by l kind) → AreGiven by l types → AreGiven by l (type ∷ types)

-- A member that a script calls or sends: both sides find the same methods of the package, and each is sent to receivers
-- that pass its test, of
-- types of which something may be there.
pub record IsEntry (by : Linked) (l : Named) (narrowed : Method → Start NMethod) (id : MemberId) (types : Signature)
    (within : Method → Shape (List ℕ) → Bool) : Type 0 where
  pub has_types : signature_of id.desc ≡ Some types
  pub given : AreGiven by l types.params
  pub called : l.called id ≡ option_map narrowed (by.entry id)
  pub sent : (kind : Shape (List ℕ)) → l.sent kind id ≡ option_map narrowed (by.sent (shape_name kind) id)
  pub receives : (kind : Shape (List ℕ)) (m : Method) → IsMadeOf l kind → by.sent (shape_name kind) id ≡ Some m
      → within m kind ≡ true
  pub called_narrowed : (m : Method) → by.entry id ≡ Some m → IsNarrowed narrowed (length types.params) m
  pub sent_narrowed : (kind : Shape (List ℕ)) (m : Method) → IsMadeOf l kind → by.sent (shape_name kind) id ≡ Some m
      → IsNarrowed narrowed (1 + length types.params) m

-- what an entry passes to a method
abbrev pub entry_kinds : (virtual_call : Bool) → Named → (within : Method → Shape (List ℕ) → Bool) → Signature → Method
    → List Kind
entry_kinds true l within types m = Refers (within m) ∷ kinds_of l types.params
entry_kinds false l within types m = kinds_of l types.params

-- the methods that a member may stand for, where a script calls it, and where it sends it
pub data MayEnter (by : Linked) (l : Named) (id : MemberId) : (virtual_call : Bool) → Method → Type 0 where
  is_called : {m : Method} → by.entry id ≡ Some m → MayEnter by l id false m
  is_sent : {m : Method} (kind : Shape (List ℕ)) → IsMadeOf l kind → by.sent (shape_name kind) id ≡ Some m
      → MayEnter by l id true m

-- A member for which neither side finds a method of the package, on no type of which something may be there.
pub record IsNoEntry (by : Linked) (l : Named) (id : MemberId) : Type 0 where
  pub not_called : by.entry id ≡ None
  pub not_sent : (kind : Shape (List ℕ)) → IsMadeOf l kind → by.sent (shape_name kind) id ≡ None
  pub narrow_not_called : l.called id ≡ None
  pub narrow_not_sent : (kind : Shape (List ℕ)) → IsMadeOf l kind → l.sent kind id ≡ None

-- Both machines begin a method that the entry's member stands for, after the same acts and with these notes, with
-- arguments that agree;
-- or both are over, since an act, the method or an argument does not fit.
pub data EntryAgrees (by : Linked) (l : Named) (narrowed : Method → Start NMethod) (virtual_call : Bool)
    (params : Method → List Kind) (e : Entry) (entries : List Entry) (notes : List Note) : Move State → NTurn
    → Type 0 where
  begins : (s : State) (t : NState) (m : Method) (words : List Value) → MayEnter by l e.method virtual_call m
      → t.notes ≡ notes → StatesAgree l (record s { entries = entries }) (record t { entries = entries })
      → Frames (nheap t) [] (first_locals m (params m)) (frame_for_call m e.args) (narrow.frame_for_call (narrowed m)
      words)
      → EntryAgrees by l narrowed virtual_call params e entries notes (On (record s {
        frames = frame_for_call m e.args
            ∷ [];
        entries = entries;
      })) (Next (record t {
        frames = narrow.frame_for_call (narrowed m) words ∷ [];
        entries = entries;
      }))
  unfit : {s : State} {t : NState} → StatesAgree l s t → EntryAgrees by l narrowed virtual_call params e entries notes
      (Over (report (Unfit e.number) s)) (Ended (Unfit e.number) t)
