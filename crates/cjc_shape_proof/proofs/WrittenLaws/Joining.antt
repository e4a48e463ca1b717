-- The run of a package's components is the run of its narrow code, from the first entry on.
use Rattle.std.proofs.Common.{◌≡◌, ℕ, refl, sym, ap, subst, ◌∙◌, Bool, true, List, [], ◌∷◌, map}
use Rattle.std.specs.Prelude.{◌≢◌, Option, Some, None}
use Rattle.cjc_narrow_proof.specs.CardSemantics.Bytecode.Alike.{IsFound, KnownKind, KnownState, no_frames, reached_as}
use Rattle.cjc_narrow_proof.specs.CardSemantics.Bytecode.Alike.{start_as}
use Rattle.cjc_narrow_proof.specs.CardSemantics.Bytecode.Alike.{state_as}
use Rattle.cjc_narrow_proof.specs.CardSemantics.Bytecode.Effects.{HeapObject, Memory, Numbers, Object, References}
use Rattle.cjc_narrow_proof.specs.CardSemantics.Bytecode.Effects.{shape}
use Rattle.cjc_narrow_proof.specs.CardSemantics.Bytecode.Machine.{Reached, Start, State, Within}
use Rattle.cjc_narrow_proof.specs.CardSemantics.Bytecode.Machine as machine
use Rattle.cjc_narrow_proof.specs.CardSemantics.Bytecode.Renaming.{KnownHeap, heap_object_as, memory_as, no_things}
use Rattle.cjc_narrow_proof.specs.CardSemantics.Bytecode.Renaming.{numbers_known}
use Rattle.cjc_narrow_proof.specs.CardSemantics.Bytecode.Renaming.{one_thing, option_as, shape_as}
use Rattle.cjc_check_proof.specs.TokenProof.ByToken.Classes.{memories, tests}
use Rattle.cjc_check_proof.specs.TokenProof.ByToken.Objects.{slots_of}
use Rattle.cjc_check_proof.specs.TokenProof.ByToken.Cells.{image_of}
use Rattle.cjc_bytes.specs.declared.fault.MemberId.{MemberId}
use Rattle.cjc_check_proof.specs.TokenProof.Calls.Reaching as reaching
use Rattle.cjc_narrow_proof.specs.CardSemantics.Machine.ByToken as card
use Rattle.cjc_narrow_proof.specs.CardSemantics.Machine.Calls
use Rattle.cjc_narrow_proof.specs.CardSemantics.Machine.ByToken.{by_token}
use Rattle.cjc_narrow_proof.specs.CardSemantics.Machine.Statics.{first_memory as first_on_card}
use Rattle.cjc_components.specs.Methods.{placed_methods}
use Rattle.cjc_components.specs.Names.{class_at}
use Rattle.cjc_components.specs.Package.{Package, world}
use Rattle.cjc_narrow_proof.specs.NCode.Lowering.Agreement.{Cells, IsAmong, IsKnownCall, code_alone, known_by, names}
use Rattle.cjc_narrow_proof.specs.NCode.Lowering.Naming.{callee}
use Rattle.cjc_narrow_proof.specs.NCode.Lowering.Placed.{Placed, code_of, offset_of}
use Rattle.cjc_classes.specs.Narrow.Rows.Package.{first_memory, named}
use Rattle.cjc_classes.specs.Narrow.Rows.Package as narrow
use Rattle.cjc_narrow_proof.specs.NCode.ByLabel.{Callee, by_label}
use Rattle.cjc_narrow_proof.specs.NCode.ByLabel as labels
use Rattle.cjc_narrow_proof.specs.Script.Sorts.{Shape, shape_name}
use Rattle.cjc_narrow_proof.specs.Script.declared.report.Outcome.TheVariants.{Stuck}
use Rattle.cjc_narrow_proof.specs.Script.declared.report.Report.{Report}
use Rattle.cjc_narrow_proof.specs.Script.declared.script.Script.{Script}
use Rattle.cjc_check_proof.specs.TokenProof.Tables.Known.{known_names, order_of}
use Rattle.cjc_check_proof.specs.TokenProof.Tables.Loading.{loaded, naming}
use Rattle.cjc_check_proof.specs.TokenProof.Tables.Tables.{CallTablesAgree}
use Rattle.cjc_world.specs.Lookup.{object}
use Rattle.cjc_world.specs.Subtype.{is_subtype}
use Rattle.cjc_world.specs.declared.image.ArrayCell.{ArrayCell}
use Rattle.cjc_check_proof.specs.TokenProof.WrittenCalls.Calls.{IsNamed, Receives, none}
use Rattle.cjc_check_proof.specs.TokenProof.WrittenCalls.Standing.{place}
use Rattle.cjc_shape_proof.specs.Written.Joined.{IsJoined, placed_code}

-- ---- names that stay

object_stays : (o : HeapObject (List ℕ) MemberId) → heap_object_as (λ c. c) (λ c slots. slots) o ≡ o
object_stays (Numbers element items) = refl
object_stays (References c items) = refl
object_stays (Object c held) = refl

heap_stays : (heap : List (HeapObject (List ℕ) MemberId)) → map (heap_object_as (λ c. c) (λ c slots. slots)) heap ≡ heap
heap_stays [] = refl
heap_stays (o ∷ heap) = ap (λ x. x ∷ map (heap_object_as (λ c. c) (λ c slots. slots)) heap) (object_stays o)
    ∙ ap (λ xs. o ∷ xs) (heap_stays heap)

pub memory_stays : (m : Memory (List ℕ) MemberId Cells) → memory_as (λ c. c) (λ c slots. slots) (λ x. x) m ≡ m
memory_stays m = ap (λ h. record { heap = h; statics = m.statics }) (heap_stays m.heap)

-- ---- a package

module _ (p : Package) (call : Callee → Bool) where
  -- before the first entry
  abbrev begins : Script → State Placed (List ℕ) MemberId Cells
  begins script = machine.start (first_memory p.files p.image) script

  -- what is there then is known
  arrays_known : (arrays : List ArrayCell) → KnownHeap (known_by (tests (known_names call p))) (map narrow.first_array
      arrays)
  arrays_known [] = no_things
  arrays_known (a ∷ arrays) = one_thing numbers_known (arrays_known arrays)

  begins_known : IsJoined p call → (script : Script)
      → KnownState (names (naming p) (memories (naming p) (known_names call p))) (known_by (tests (known_names call p)))
      (IsAmong (placed_methods p)) (IsKnownCall (tests (known_names call p))) (begins script)
  begins_known joined script = record {
    frames = no_frames;
    memory = record {
      heap = arrays_known (let image = p.image
          in image.arrays);
      statics = joined.cells;
    };
  }

  -- an object that is there receives calls
  kinds_receive : IsJoined p call → (o : Option (Shape (List ℕ)))
      → KnownKind (names (naming p) (memories (naming p) (known_names call p))) (known_by (tests (known_names call p)))
      (IsAmong (placed_methods p)) (IsKnownCall (tests (known_names call p))) o → Receives (world p) o
  kinds_receive joined None known = none
  kinds_receive joined (Some kind) known = joined.receives kind known

  -- the same report, where what is loaded begins as narrow code does
  pub runs_by_token :
      ((k : ℕ) (s : State Placed (List ℕ) MemberId Cells)
      → KnownState (names (naming p) (memories (naming p) (known_names call p)))
      (known_by (tests (known_names call p))) (IsAmong (placed_methods p))
      (IsKnownCall (tests (known_names call p))) s
      → ((at : ℕ) → (machine.run (by_label (named p.files p.image (placed_code p))) k (state_as code_alone s)).outcome ≢
      Stuck at)
      → machine.run (by_token (loaded p)) k (state_as (names (naming p) (memories (naming p) (known_names call p))) s)
      ≡ machine.run (by_label (named p.files p.image (placed_code p))) k (state_as code_alone s))
      → first_on_card (loaded p) ≡ memory_as (class_at p) (slots_of (naming p)) (λ cells. image_of (order_of p.image)
      cells ∷ []) (first_memory p.files p.image)
      → IsJoined p call → (script : Script) (n : ℕ)
      → ((at : ℕ) → (narrow.run p.files p.image (placed_code p) script n).outcome ≢ Stuck at)
      → card.run (loaded p) script n ≡ narrow.run p.files p.image (placed_code p) script n
  unfolding named
  runs_by_token law memory joined script n free =
      let l = named p.files p.image (placed_code p) in
      let label : machine.run (by_label l) n (state_as code_alone (begins script)) ≡ narrow.run p.files p.image
      (placed_code p) script n =
      ap (λ (m : Memory (List ℕ) MemberId Cells). machine.run (by_label l) n (machine.start m script))
      (memory_stays (first_memory p.files p.image)) in
      let not_stuck : (at : ℕ) → (machine.run (by_label l) n (state_as code_alone (begins script))).outcome ≢ Stuck at =
      subst (λ (r : Report). (at : ℕ) → r.outcome ≢ Stuck at) (sym label) free in
      ap (λ m. machine.run (by_token (loaded p)) n (machine.start m script)) memory
      ∙ law n (begins script) (begins_known joined script) not_stuck
      ∙ label

  -- what the tables say of operations, calls and java/lang/Object
  pub calls_agree : IsJoined p call
      → ((m : Callee) → Calls.on_object (callee (naming p) m) ≡ labels.on_object m)
      → ((m : Callee) → IsNamed (world p) m → (o : Option (Shape (List ℕ))) → Receives (world p) o
      → (r : Reached Placed) → reaching.reached_at p.files (world p) (place p) m o ≡ r → IsFound r
      → (let n = naming p in Calls.reached n.loaded (callee n m) (option_as (shape_as n.class) o)
      ≡ reached_as (code_of n) (offset_of n) r))
      → ((m : Callee) → IsNamed (world p) m → (o : Option (Shape (List ℕ))) → Receives (world p) o
      → (start : Start Placed) → reaching.reached_at p.files (world p) (place p) m o ≡ Within start
      → IsAmong (placed_methods p) start.code)
      → ((id : MemberId) → (let n = naming p in let methods = reaching.placed_methods p.files (place p)
      in Calls.called n.loaded id ≡ option_as (start_as (code_of n) (offset_of n)) (methods.called id)))
      → ((id : MemberId) (start : Start Placed) → (let methods = reaching.placed_methods p.files (place p)
      in methods.called id ≡ Some start → IsAmong (placed_methods p) start.code))
      → ((kind : Shape (List ℕ)) → Receives (world p) (Some kind) → (id : MemberId) (start : Start Placed)
      → (let methods = reaching.placed_methods p.files (place p) in methods.sent kind id ≡ Some start
      → IsAmong (placed_methods p) start.code))
      → ((kind : Shape (List ℕ)) → Receives (world p) (Some kind) → is_subtype (world p) (shape_name kind) object
      ≡ true)
      → CallTablesAgree (naming p) (placed_methods p) (memories (naming p) (known_names call p)) (named p.files p.image
      (placed_code p)) (reaching.placed_methods p.files (place p)) (known_by (tests (known_names call p)))
      (IsKnownCall (tests (known_names call p)))
  unfolding named
  calls_agree joined objects alike there called called_there sent_there is_object = record {
    operation_known = joined.operations;
    on_object = λ m known. objects m;
    words = λ m w known e. joined.takes m w known e;
    reached = λ m o r known kind e found. alike m (joined.calls m known) o (kinds_receive joined o kind) r e found;
    reached_known = λ m o start known kind e. there m (joined.calls m known) o (kinds_receive joined o kind) start e;
    is_object = λ t known. is_object (shape t) (joined.receives (shape t) (record {
      thing = t;
      is_known = known;
      is_of = refl;
    }));
    called = called;
    called_known = called_there;
    sent = λ kind id thing. joined.sent kind id thing;
    sent_known = λ kind id start thing e. sent_there kind (joined.receives kind thing) id start e;
  }
