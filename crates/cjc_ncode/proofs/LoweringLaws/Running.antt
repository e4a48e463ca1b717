-- Components run as narrow code does by label.
use Rattle.std.proofs.Common.{◌≡◌, ℕ, refl, sym, ◌∙◌, List, [], ◌∷◌}
use Rattle.cjc_code.specs.Bytes.declared.fault.MemberId.{MemberId}
use Rattle.cjc_card_semantics.specs.Bytecode.Effects.{HeapObject, Numbers, References, Object}
use Rattle.cjc_card_semantics.specs.Bytecode.Renaming.{Knows, numbers_known, references_known, object_known, KnownHeap}
use Rattle.cjc_card_semantics.specs.Bytecode.Renaming.{no_things, one_thing}
use Rattle.cjc_card_semantics.specs.Bytecode.Machine.{Frame, State, run}
use Rattle.cjc_card_semantics.specs.Bytecode.Alike.{KnownFrames, no_frames, one_frame, KnownState, IsFree, state_as}
use Rattle.cjc_card_semantics.specs.Machine.Loaded.{Part}
use Rattle.cjc_card_semantics.specs.Machine.ByToken.{by_token}
use Rattle.cjc_ncode.specs.ByLabel.{Named, by_label}
use Rattle.cjc_ncode.specs.ByLabel
use Rattle.cjc_ncode.specs.Lowering.Naming.{Naming}
use Rattle.cjc_ncode.specs.Lowering.Placed.{Placed}
use Rattle.cjc_ncode.specs.Lowering.Package.{HoldsMethods}
use Rattle.cjc_ncode.specs.Lowering.ByPlace.{Methods, by_place}
use Rattle.cjc_ncode.specs.Lowering.Agreement.{Cells, Memories, names, everything, known_by, IsKnownCall, code_alone}
use Rattle.cjc_ncode.specs.Lowering.Agreement.{IsAmong, TablesAgree, MethodsAgree}
use Rattle.cjc_ncode.proofs.LoweringLaws.Agreeing.{package_runs_agree}
use Rattle.cjc_ncode.proofs.LoweringLaws.ByCode.{code_runs_agree, code_runs_stick_alike}

abbrev Any : Placed → Type 0
Any p = Unit {0}

heap_known : (heap : List (HeapObject (List ℕ) MemberId)) → KnownHeap (known_by everything) heap
heap_known [] = no_things
heap_known (Numbers element items ∷ heap) = one_thing numbers_known (heap_known heap)
heap_known (References c items ∷ heap) = one_thing (references_known refl) (heap_known heap)
heap_known (Object c slots ∷ heap) = one_thing (object_known refl refl) (heap_known heap)

frames_known : (frames : List (Frame Placed)) → KnownFrames code_alone (known_by everything) Any
    (IsKnownCall everything) frames
frames_known [] = no_frames
frames_known (f ∷ frames) = one_frame tt (frames_known frames)

state_known : (s : State Placed (List ℕ) MemberId Cells) → KnownState code_alone (known_by everything) Any
    (IsKnownCall everything) s
state_known s = record {
  frames = frames_known s.frames;
  memory = record {
    heap = heap_known s.memory.heap;
    statics = refl;
  };
}

module _ (n : Naming) (part : Part) (placed : List Placed) (memories : Memories) (l : Named) (methods : Methods)
    (known : Knows (List ℕ) MemberId MemberId Cells) (KnownMethod : ByLabel.Callee
    → Type 0) (holds : HoldsMethods n part placed) (tables : TablesAgree n placed memories l methods known KnownMethod)
    (agree : MethodsAgree l methods) where
  pub as_by_label : (k : ℕ) (s : State Placed (List ℕ) MemberId Cells)
      → KnownState (names n memories) known (IsAmong placed) KnownMethod s
      → IsFree code_alone (known_by everything) Any (IsKnownCall everything)
      (run (by_label l) k (state_as code_alone s)) → run (by_token n.loaded) k (state_as (names n memories) s)
      ≡ run (by_label l) k (state_as code_alone s)
  as_by_label k s is_known free =
      let placed_free = code_runs_stick_alike l methods agree k s (state_known s) free in
      package_runs_agree n part placed memories l methods known KnownMethod holds tables k s is_known placed_free
      ∙ sym (code_runs_agree l methods agree k s (state_known s) placed_free)
