-- Narrow code of several packages, of placed methods, runs as by code alone; and so do their components.
use Rattle.std.proofs.Common.{◌≡◌, ℕ, refl, ap, subst, sym, ◌∙◌, List, [], ◌∷◌}
use Rattle.std.specs.Prelude.{Option, Some, None, option_map}
use Rattle.cjc_card_semantics.specs.Bytes.declared.fault.MemberId.{MemberId}
use Rattle.cjc_card_semantics.specs.Script.Sorts.{OfClass, OfNumbers, OfReferences, Shape}
use Rattle.cjc_card_semantics.specs.Bytecode.Alike.{IsFree, KnownFrames, KnownState, KnownThing, MissesAlike, RunsAgree}
use Rattle.cjc_card_semantics.specs.Bytecode.Alike.{RunsStickAlike, SettingsAlike, no_frames, one_frame, reached_as}
use Rattle.cjc_card_semantics.specs.Bytecode.Alike.{state_as}
use Rattle.cjc_card_semantics.specs.Bytecode.Effects.{Ask, Branch, Call, Cast, Do, Get, GetStatic, HeapObject, New}
use Rattle.cjc_card_semantics.specs.Bytecode.Effects.{NewNumbers, NewReferences, Numbers, Object, Pick, Put, PutStatic}
use Rattle.cjc_card_semantics.specs.Bytecode.Effects.{References, Touch, Undone}
use Rattle.cjc_card_semantics.specs.Bytecode.Machine.{Fetched, Frame, Nowhere, Reached, State, run}
use Rattle.cjc_card_semantics.specs.Bytecode.Renaming.{KnownHeap, KnownOperation, KnownShape, Knows, no_things}
use Rattle.cjc_card_semantics.specs.Bytecode.Renaming.{numbers_known, object_known, one_thing, operation_as, option_as}
use Rattle.cjc_card_semantics.specs.Bytecode.Renaming.{references_known, shape_as}
use Rattle.cjc_card_semantics.specs.Machine.ByToken.{by_token}
use Rattle.cjc_card_semantics.proofs.BytecodeLaws.Together.{runs_agree, runs_stick_alike}
use Rattle.cjc_token_proof.specs.NCode.ByLabel.{Named, Resolved, by_label}
use Rattle.cjc_token_proof.specs.NCode.ByLabel
use Rattle.cjc_token_proof.specs.NCode.Lowering.Agreement.{Cells, IsKnownCall, Memories, MethodsAgree, everything}
use Rattle.cjc_token_proof.specs.NCode.Lowering.Agreement.{known_by}
use Rattle.cjc_token_proof.specs.NCode.Lowering.ByPlace.{Methods, by_place}
use Rattle.cjc_token_proof.specs.NCode.Lowering.Placed.{Placed}
use Rattle.cjc_token_proof.specs.NCode.declared.narrow.NMethod.{NMethod}
use Rattle.cjc_ncode.proofs.LoweringLaws.ByCode.{code_misses_alike, code_settings_alike, kind_stays, operation_known}
use Rattle.cjc_ncode.proofs.LoweringLaws.ByCode.{shape_stays}
use Rattle.cjc_token_proof.specs.Tables.Tables.{ClassTablesAgree}
use Rattle.cjc_joint_proof.specs.JointCode.{InPackage, JointCalls, by_label_in, by_place_in, fetched_in, of_package}
use Rattle.cjc_joint_proof.specs.JointCode.{operation_in}
use Rattle.cjc_joint_proof.specs.JointAlike.{AllHold, AnyCall, AnyMethod, IsOfGroup, JointCallsAgree, JointMethodsAgree}
use Rattle.cjc_joint_proof.specs.JointAlike.{JointNaming, joint_code_alone, joint_names, method_alone, naming_at}
use Rattle.cjc_joint_proof.proofs.JointAlikeLaws.{operation_twice, placed_runs_agree}

abbrev Name : Type 0
Name = List ℕ

-- ---- what a package's operation names

module _ (known : Knows Name MemberId MemberId Cells) (KnownMethod : InPackage ByLabel.Callee → Type 0) (q : ℕ) where
  kind_in : (kind : Shape Name) → KnownShape known kind → KnownShape known (shape_as (λ c. c) kind)
  kind_in (OfClass c) e = e
  kind_in (OfNumbers element) e = e
  kind_in (OfReferences c) e = e

  -- what is known of an operation is known of it as one of the package
  pub known_in : (operation : Resolved) → KnownOperation known (λ m. KnownMethod (of_package q m)) operation
      → KnownOperation known KnownMethod (operation_in q operation)
  known_in (Do calculation) e = e
  known_in (Branch test place) e = e
  known_in (Pick is_int other arms) e = e
  known_in (Touch access) e = e
  known_in (Get this letter f) e = e
  known_in (Put this letter f) e = e
  known_in (GetStatic letter s) e = e
  known_in (PutStatic letter s) e = e
  known_in (Call m) e = e
  known_in (New c) e = e
  known_in (NewNumbers element) e = e
  known_in (NewReferences c) e = e
  known_in (Cast kind) e = kind_in kind e
  known_in (Ask kind) e = kind_in kind e
  known_in Undone e = e

-- ---- code alone

-- look-ups without calls
abbrev without_calls : Named → Named
without_calls l = record l { reached = λ m o. Nowhere; called = λ id. None; sent = λ kind id. None }

-- methods that nothing reaches
abbrev no_methods : Methods
no_methods = record { reached = λ m o. Nowhere; called = λ id. None; sent = λ kind id. None }

none_agree : (l : Named) → MethodsAgree (without_calls l) no_methods
none_agree l = record { reached = λ m o. refl; called = λ id. refl; sent = λ kind id. refl }

-- ---- what is fetched

-- an instruction of a package's method stays, and all that it names is known
module _ (q : ℕ) (m : NMethod) (at : ℕ) (i : Fetched Name MemberId MemberId (InPackage ByLabel.Callee)) where
  pub fetch_stays : option_map (fetched_in q) (ByLabel.fetch m at) ≡ Some i
      → option_map (fetched_in q) (ByLabel.fetch m at) ≡ Some (record {
        operation = operation_as (λ c. c) (λ f. f) (λ f. f) (λ m. m) (λ label. label) i.operation;
        next = i.next;
      })
  fetch_stays e = by (ByLabel.fetch m at) e
    where
      by : (o : Option (Fetched Name MemberId MemberId ByLabel.Callee)) → option_map (fetched_in q) o ≡ Some i
          → option_map (fetched_in q) o ≡ Some (record {
            operation = operation_as (λ c. c) (λ f. f) (λ f. f) (λ m. m) (λ label. label) i.operation;
            next = i.next;
          })
      by None e = cc
      by (Some k) e =
          let same : fetched_in q k ≡ i = cc in
          ap (λ x. Some (record { operation = x; next = k.next })) (sym (operation_twice (λ c. c) (λ f. f) (λ s. s)
          (of_package q) (λ m. m) (λ label. label) k.operation))
          ∙ ap (λ x. Some (record {
            operation = operation_as (λ c. c) (λ f. f) (λ f. f) (λ m. m) (λ label. label) x.operation;
            next = x.next;
          })) same

  pub fetch_is_known : option_map (fetched_in q) (ByLabel.fetch m at) ≡ Some i
      → KnownOperation (known_by everything) AnyCall i.operation
  fetch_is_known e = by (ByLabel.fetch m at) e
    where
      by : (o : Option (Fetched Name MemberId MemberId ByLabel.Callee)) → option_map (fetched_in q) o ≡ Some i
          → KnownOperation (known_by everything) AnyCall i.operation
      by None e = cc
      by (Some k) e =
          let same : fetched_in q k ≡ i = cc in
          subst (λ x. KnownOperation (known_by everything) AnyCall x.operation) same (known_in (known_by everything)
          AnyCall q k.operation (operation_known k.operation))

-- ---- code by label and by place

module _ (l : Named) (labels : JointCalls NMethod) (places : JointCalls Placed)
    (agree : JointMethodsAgree labels places) where
  reached_stays : (m : InPackage ByLabel.Callee) (o : Option (Shape Name)) (r : Reached (InPackage Placed))
      → places.reached m o ≡ r
      → labels.reached m (option_as (shape_as (λ c. c)) o) ≡ reached_as method_alone (λ p label. label) r
  reached_stays m o r e = ap (labels.reached m) (kind_stays o) ∙ agree.reached m o
      ∙ ap (reached_as method_alone (λ p label. label)) e

  pub code_alike : SettingsAlike joint_code_alone (known_by everything) AnyMethod AnyCall (by_place_in l places)
      (by_label_in l labels)
  unfolding by_place_in by_label_in by_place by_label
  code_alike =
      let one = code_settings_alike (without_calls l) no_methods (none_agree l) in
      record {
        classes = one.classes;
        room = λ p is. refl;
        fetch = λ p at i is e. (let m = p.item in fetch_stays p.part m.method at i e);
        fetch_known = λ p at i is e. (let m = p.item in fetch_is_known p.part m.method at i e);
        handler = λ p at kind is thing. one.handler p.item at kind tt (record {
          thing = thing.thing;
          is_known = thing.is_known;
          is_of = thing.is_of;
        });
        on_object = λ m is. refl;
        words = λ m w is e. agree.words m ∙ e;
        reached = λ m o r is kind e found. reached_stays m o r e;
        reached_known = λ m o start is kind e. tt;
        fault = one.fault;
        fault_known = one.fault_known;
        class_named = one.class_named;
        class_named_known = one.class_named_known;
        imported = one.imported;
        imported_known = one.imported_known;
        throwable = one.throwable;
        throwable_known = one.throwable_known;
        called = agree.called;
        called_known = λ id start e. tt;
        sent = λ kind id is. ap (λ x. labels.sent x id) (shape_stays kind) ∙ agree.sent kind id;
        sent_known = λ kind id start is e. tt;
        name = one.name;
        fields = one.fields;
        cells = one.cells;
      }

  nothing_fetched : (p : InPackage Placed) (at : ℕ)
      → (let m = p.item in option_map (fetched_in p.part) (ByLabel.fetch m.method at) ≡ None)
      → (let m = p.item in option_map (fetched_in p.part) (ByLabel.fetch m.method at) ≡ None)
  nothing_fetched p at e = e

  pub misses_alike : MissesAlike joint_code_alone (known_by everything) AnyMethod AnyCall (by_place_in l places)
      (by_label_in l labels)
  unfolding by_place_in by_label_in by_place by_label
  misses_alike =
      let one = code_misses_alike (without_calls l) no_methods (none_agree l) in
      record {
        unmade = one.unmade;
        fetch = λ p at is none. nothing_fetched p at none;
        words = λ m is none. agree.words m ∙ none;
        reached = λ m o is kind none. reached_stays m o Nowhere none;
      }

  pub code_runs_agree : RunsAgree joint_code_alone (known_by everything) AnyMethod AnyCall (by_place_in l places)
      (by_label_in l labels)
  code_runs_agree = runs_agree joint_code_alone (known_by everything) AnyMethod AnyCall (by_place_in l places)
      (by_label_in l labels) code_alike

  pub code_runs_stick_alike : RunsStickAlike joint_code_alone (known_by everything) AnyMethod AnyCall
      (by_place_in l places) (by_label_in l labels)
  code_runs_stick_alike = runs_stick_alike joint_code_alone (known_by everything) AnyMethod AnyCall
      (by_place_in l places) (by_label_in l labels) code_alike misses_alike

-- ---- whatever is there is known, where everything is

heap_known : (heap : List (HeapObject Name MemberId)) → KnownHeap (known_by everything) heap
heap_known [] = no_things
heap_known (Numbers element items ∷ heap) = one_thing numbers_known (heap_known heap)
heap_known (References c items ∷ heap) = one_thing (references_known refl) (heap_known heap)
heap_known (Object c slots ∷ heap) = one_thing (object_known refl refl) (heap_known heap)

frames_known : (frames : List (Frame (InPackage Placed))) → KnownFrames joint_code_alone (known_by everything) AnyMethod
    AnyCall frames
frames_known [] = no_frames
frames_known (f ∷ frames) = one_frame tt (frames_known frames)

state_known : (s : State (InPackage Placed) Name MemberId Cells) → KnownState joint_code_alone (known_by everything)
    AnyMethod AnyCall s
state_known s = record {
  frames = frames_known s.frames;
  memory = record {
    heap = let m = s.memory in heap_known m.heap;
    statics = refl;
  };
}

-- ---- components and code by label

module _ (g : JointNaming) (placed : ℕ → List Placed) (memories : Memories) (l : Named) (labels : JointCalls NMethod)
    (places : JointCalls Placed) (known : Knows Name MemberId MemberId Cells) (KnownMethod : InPackage ByLabel.Callee
    → Type 0) (holds : AllHold g placed) (classes : (q : ℕ) → ClassTablesAgree (naming_at g q) memories l known)
    (agree : JointCallsAgree g placed memories l places known KnownMethod) (methods : JointMethodsAgree labels places)
  where
    pub as_by_label : (k : ℕ) (s : State (InPackage Placed) Name MemberId Cells)
        → KnownState (joint_names g memories) known (IsOfGroup g.loaded placed) KnownMethod s
        → IsFree joint_code_alone (known_by everything) AnyMethod AnyCall (run (by_label_in l labels) k
        (state_as joint_code_alone s))
        → run (by_token g.loaded) k (state_as (joint_names g memories) s)
        ≡ run (by_label_in l labels) k (state_as joint_code_alone s)
    as_by_label k s is_known free =
        let placed_free = code_runs_stick_alike l labels places methods k s (state_known s) free in
        placed_runs_agree g placed memories l places known KnownMethod holds classes agree k s is_known placed_free
        ∙ sym (code_runs_agree l labels places methods k s (state_known s) placed_free)
