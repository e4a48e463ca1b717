-- Calls of methods of interfaces in a group take the words that they say, and reach by token what they reach by name,
-- where they select alike.
use Rattle.std.proofs.Common.{◌≡◌, ℕ, refl, sym, ap, subst, ◌∙◌, Bool, true, false, List, Some, None, ⊎_elim}
use Rattle.std.specs.Prelude.{Option, option_and_then, slice_get, if◌then◌else◌}
use Rattle.cjc_bytes.specs.declared.fault.MemberId.{MemberId}
use Rattle.cjc_components.specs.Package.{Package}
use Rattle.cjc_joint_proof.specs.JointAlike.{IsOfGroup, JointNaming, callee_at as callee_there, code_at, offset_at}
use Rattle.cjc_joint_proof.specs.JointCalled.{StandByPackage}
use Rattle.cjc_joint_proof.specs.JointCode.{InPackage, of_package}
use Rattle.cjc_joint_proof.specs.JointNames.{callee_for, hit_for, interface_by, reached_for, words_for}
use Rattle.cjc_joint_proof.specs.JointPackages.{class_together, files_together}
use Rattle.cjc_joint_proof.specs.JointTables.{world_together}
use Rattle.cjc_joint_proof.specs.JointTogether.{methods_together, naming_together}
use Rattle.cjc_joint_proof.specs.JointTowers.{loaded_together}
use Rattle.cjc_joint_proof.proofs.ClassLaws.{together_at}
use Rattle.cjc_joint_proof.proofs.StandLaws.{stands}
use Rattle.cjc_jvm_semantics.specs.Group.{joint, selection_for}
use Rattle.cjc_jvm_semantics.specs.Linked.{Abroad as Event, Method}
use Rattle.cjc_jvm_semantics.specs.OnePackage.{ResolvedMember, callee_at, first_imported, interface_callee, of_class}
use Rattle.cjc_jvm_semantics.specs.OnePackage.{selected_from}
use Rattle.cjc_token_proof.proofs.WorldProofTypes.{receiver_class, type_below}
use Rattle.cjc_token_proof.proofs.WrittenCalls.Held.{FormsLaw, OffsetsLaw}
use Rattle.cjc_token_proof.specs.Calls.Reaching.{start_placed}
use Rattle.cjc_token_proof.specs.Calls.Selecting.{signature}
use Rattle.cjc_token_proof.specs.CardSemantics.Bytecode.Alike.{IsFound, reached_as}
use Rattle.cjc_token_proof.specs.CardSemantics.Bytecode.Machine.{Abroad, Reached, Start, Within}
use Rattle.cjc_token_proof.specs.CardSemantics.Bytecode.Renaming.{option_as, shape_as}
use Rattle.cjc_token_proof.specs.CardSemantics.Machine.Calls as card
use Rattle.cjc_token_proof.specs.CardSemantics.Machine.Classes.{object_class, shape_class}
use Rattle.cjc_token_proof.specs.CardSemantics.Machine.Dispatch.{Outward}
use Rattle.cjc_token_proof.specs.CardSemantics.Machine.Loaded.{Loaded}
use Rattle.cjc_token_proof.specs.NCode.ByLabel.{OnInterface}
use Rattle.cjc_token_proof.specs.NCode.Lowering.Placed.{Placed}
use Rattle.cjc_token_proof.specs.Script.Sorts.{Booleans, Bytes, Element, Ints, OfNumbers, OfReferences, Shape}
use Rattle.cjc_token_proof.specs.Script.Sorts.{Shorts, shape_name}
use Rattle.cjc_token_proof.specs.WrittenCalls.Calls.{Receives, numbers, one_of, references}
use Rattle.cjc_token_proof.specs.WrittenSends.Named.{is_called}
use Rattle.cjc_world.specs.Classes.{Class, class_named}
use Rattle.cjc_world.specs.Files.{Files}
use Rattle.cjc_world.specs.Lookup.{object, receiver}
use Rattle.cjc_world.specs.Subtype.{is_subtype}
use Rattle.cjc_world.specs.Supertypes.{line}
use Rattle.cjc_world.specs.declared.found.Found.{Found}
use Rattle.cjc_joint_whole.specs.Selected.{CallAgrees, CallsFace, InterfacesSelectAlike, SelectTogether, SelectsAlike}
use Rattle.cjc_joint_whole.specs.Selected.{calls_together, face_selection}
use Rattle.cjc_joint_whole.proofs.WholeLaws.Alike.{alike_known, alike_reached}
use Rattle.cjc_joint_whole.proofs.WholeLaws.FixedNamed.{AloneLaws}
use Rattle.cjc_joint_whole.proofs.WholeLaws.HiddenCalls.{no_array}
use Rattle.cjc_joint_whole.proofs.WholeLaws.InterfacesAbroad.{face_abroad}

module _ (forms : FormsLaw) (offsets : OffsetsLaw) (packages : List Package) (is : SelectTogether packages)
    (each : (q : ℕ) (p : Package) → slice_get packages q ≡ Some p → AloneLaws p) (at : Method → Placed)
    (stand : StandByPackage packages at) (faces : InterfacesSelectAlike packages) where
  abbrev l : Loaded
  l = loaded_together packages

  abbrev group : List Files
  group = files_together packages

  abbrev w : List Class
  w = world_together packages

  abbrev g : JointNaming
  g = naming_together packages

  -- ---- the class of a receiver

  -- whose class is java/lang/Object
  array_on : (kind : Shape (List ℕ)) → receiver (shape_name kind) ≡ object
      → shape_class l (shape_as (class_together packages) kind) ≡ object_class l → (c : Class)
      → class_named w (receiver (shape_name kind)) ≡ Some c
      → shape_class l (shape_as (class_together packages) kind)
      ≡ Some (class_together packages (receiver (shape_name kind)))
  array_on kind received card c known =
      let root : class_named w object ≡ Some c = ap (class_named w) (sym received) ∙ known in
      card ∙ ⊎_elim (λ i. i.named) (λ a. a.named) (stands packages is.linked object c root)
      ∙ ap (λ x. Some (class_together packages x)) (sym received)

  numbers_received : (element : Element) → receiver (shape_name (OfNumbers element)) ≡ object
  numbers_received Booleans = refl
  numbers_received Bytes = refl
  numbers_received Shorts = refl
  numbers_received Ints = refl

  on_card : (kind : Shape (List ℕ)) → Receives w (Some kind) → (c : Class)
      → class_named w (receiver (shape_name kind)) ≡ Some c
      → shape_class l (shape_as (class_together packages) kind)
      ≡ Some (class_together packages (receiver (shape_name kind)))
  on_card _ (numbers {element = element}) c known = array_on (OfNumbers element) (numbers_received element) refl c
      known
  on_card _ (references {x = x}) c known = array_on (OfReferences x) refl refl c known
  on_card _ (one_of {x = x} d named ground made) c known =
      ap (λ y. Some (class_together packages y)) (sym (receiver_class x (no_array forms offsets packages is each at
      stand x d named)))

  module _ (q : ℕ) (p : Package) (it : slice_get packages q ≡ Some p) (n : ℕ) (m : MemberId)
      (called : is_called p (OnInterface n m) ≡ true) where
    files_p : slice_get group q ≡ Some p.files
    files_p = together_at packages is.linked q p it

    -- ---- by name

    -- the class of the receiver, and the method, in the joint world
    record Selects (kind : Shape (List ℕ)) (r : Reached (InPackage Placed)) : Type 0 where
      class : Class
      hit : ResolvedMember
      asked : CallsFace packages q n m kind class hit
      by_name : reached_for group (start_placed at) (interface_callee (joint group) w (selection_for w (let h = hit
          in h)) (let h = hit in let o = h.owner in o.name) (shape_name kind) m (Some class)) ≡ r

    on_hit : (kind : Shape (List ℕ)) (r : Reached (InPackage Placed)) → Receives w (Some kind)
        → is_subtype w (shape_name kind) m.class ≡ true → (hit : ResolvedMember)
        → hit_for (joint group) w p.files m ≡ Some hit
        → reached_for group (start_placed at) (interface_by (joint group) w p.files m (shape_name kind) hit) ≡ r
        → IsFound r → Selects kind r
    on_hit kind r receives sub hit is_hit e is_found = by (class_named w (receiver (shape_name kind))) refl e
      where
        by : (o : Option Class) → class_named w (receiver (shape_name kind)) ≡ o
            → reached_for group (start_placed at) (interface_callee (joint group) w (selection_for w hit) (let o =
            hit.owner in o.name) (shape_name kind) m o) ≡ r → Selects kind r
        by None f h = absurd (subst IsFound (sym h) is_found)
        by (Some c) f h = record {
          class = c;
          hit = hit;
          asked = record {
            asker = p;
            asks = it;
            called = called;
            receives = receives;
            below = sub;
            class = f;
            is_hit = is_hit;
          };
          by_name = h;
        }

    found_hit : (kind : Shape (List ℕ)) (r : Reached (InPackage Placed)) → Receives w (Some kind)
        → is_subtype w (shape_name kind) m.class ≡ true
        → reached_for group (start_placed at) (option_and_then (interface_by (joint group) w p.files m (shape_name
        kind)) (hit_for (joint group) w p.files m)) ≡ r → IsFound r → Selects kind r
    found_hit kind r receives sub e is_found = by (hit_for (joint group) w p.files m) refl e
      where
        by : (o : Option ResolvedMember) → hit_for (joint group) w p.files m ≡ o
            → reached_for group (start_placed at) (option_and_then (interface_by (joint group) w p.files m (shape_name
            kind)) o) ≡ r → Selects kind r
        by None f h = absurd (subst IsFound (sym h) is_found)
        by (Some hit) f h = on_hit kind r receives sub hit f h is_found

    on_face : (kind : Shape (List ℕ)) (r : Reached (InPackage Placed)) → Receives w (Some kind)
        → (let calls = calls_together packages at in calls.reached (of_package q (OnInterface n m)) (Some kind) ≡ r)
        → IsFound r → Selects kind r
    on_face kind r receives e is_found = by (is_subtype w (shape_name kind) m.class) refl (sym (ap (λ k. reached_for
        group (start_placed at) (option_and_then (λ asker. callee_for (joint group) w asker (OnInterface n m) (Some
        kind)) k)) files_p) ∙ e)
      where
        by : (b : Bool) → is_subtype w (shape_name kind) m.class ≡ b
            → reached_for group (start_placed at) (if b then option_and_then (interface_by (joint group) w p.files m
            (shape_name kind)) (hit_for (joint group) w p.files m) else None) ≡ r → Selects kind r
        by true sub h = found_hit kind r receives sub h is_found
        by false sub h = absurd (subst IsFound (sym h) is_found)

    no_receiver : (r : Reached (InPackage Placed)) → (let calls = calls_together packages at
        in calls.reached (of_package q (OnInterface n m)) None ≡ r) → IsFound r → ⊥
    no_receiver r e is_found = subst IsFound (sym (sym (ap (λ k. reached_for group (start_placed at) (option_and_then (λ
        asker. callee_for (joint group) w asker (OnInterface n m) None) k)) files_p) ∙ e)) is_found

    -- ---- what is selected by token

    -- an event, or what is selected by name
    data Ends (kind : Shape (List ℕ)) (r : Reached (InPackage Placed)) : Type 0 where
      by_event : (id : MemberId) → Abroad id ≡ r
          → face_selection packages q n m (receiver (shape_name kind)) ≡ Outward id → Ends kind r
      by_method : (f : Found) → SelectsAlike packages (receiver (shape_name kind)) (signature m) f (face_selection
          packages q n m (receiver (shape_name kind)))
          → reached_for group (start_placed at) (callee_at (joint group) (first_imported (line w (receiver (shape_name
          kind)))) m f) ≡ r → Ends kind r

    ends : (kind : Shape (List ℕ)) (r : Reached (InPackage Placed)) (c : Class) (hit : ResolvedMember)
        → CallsFace packages q n m kind c hit
        → reached_for group (start_placed at) (interface_callee (joint group) w (selection_for w hit) (let o = hit.owner
        in o.name) (shape_name kind) m (Some c)) ≡ r → IsFound r → Ends kind r
    ends kind r c hit asked e reaches = by c.is_imported refl e
      where
        selected : c.is_imported ≡ false → (o : Option Found) → selection_for w hit (shape_name kind) m ≡ o
            → reached_for group (start_placed at) (option_and_then (λ f. callee_at (joint group) (first_imported (line w
            (receiver (shape_name kind)))) m f) o) ≡ r → Ends kind r
        selected own None f h = absurd (subst IsFound (sym h) reaches)
        selected own (Some k) f h = by_method k (faces.in_file q n m kind c hit k asked own f) h

        by : (b : Bool) → c.is_imported ≡ b
            → reached_for group (start_placed at) (if b
            then Some (Event (of_class (let o = hit.owner in o.name) m))
            else selected_from (joint group) w (selection_for w hit) (shape_name kind) m) ≡ r → Ends kind r
        by true import h =
            by_event (let o = hit.owner in of_class o.name m) h (face_abroad packages is each q n asked.asker asked.asks
            m asked.called (receiver (shape_name kind)) c asked.class import (λ y named. type_below w (shape_name kind)
            m.class (no_array forms offsets packages is each at stand m.class y named) asked.below) hit asked.is_hit)
        by false own h = selected own (selection_for w hit (shape_name kind) m) refl h

    -- a call selects on the class of its receiver
    on_class : (kind : Shape (List ℕ)) → Receives w (Some kind) → (c : Class)
        → class_named w (receiver (shape_name kind)) ≡ Some c
        → card.reached l (callee_there g (of_package q (OnInterface n m))) (Some (shape_as (class_together packages)
        kind)) ≡ card.reached_by l (face_selection packages q n m (receiver (shape_name kind)))
    on_class kind receives c known = ap (λ o. card.reached_by l (card.selected l (callee_there g (of_package q
        (OnInterface n m))) o)) (on_card kind receives c known)

    reached_there : (o : Option (Shape (List ℕ))) (r : Reached (InPackage Placed)) → Receives w o
        → (let calls = calls_together packages at in calls.reached (of_package q (OnInterface n m)) o ≡ r) → IsFound r
        → card.reached l (callee_there g (of_package q (OnInterface n m))) (option_as (shape_as (class_together
        packages)) o)
        ≡ reached_as (code_at g) (offset_at g) r
    reached_there None r receives e reaches = absurd (no_receiver r e reaches)
    reached_there (Some kind) r receives e reaches =
        let s = on_face kind r receives e reaches in
        let asked = s.asked in
        on_class kind receives s.class asked.class ∙ by (ends kind r s.class s.hit asked s.by_name reaches)
      where
        by : Ends kind r → card.reached_by l (face_selection packages q n m (receiver (shape_name kind)))
            ≡ reached_as (code_at g) (offset_at g) r
        by (by_event id same selects) = ap (card.reached_by l) selects ∙ ap (reached_as (code_at g) (offset_at g)) same
        by (by_method f alike by_name) =
            alike_reached forms offsets packages is.linked each at stand (receiver (shape_name kind)) m f
            (face_selection packages q n m (receiver (shape_name kind))) alike r by_name reaches

    known_there : (o : Option (Shape (List ℕ))) (start : Start (InPackage Placed)) → Receives w o
        → (let calls = calls_together packages at in calls.reached (of_package q (OnInterface n m)) o ≡ Within start)
        → IsOfGroup l (methods_together packages) start.code
    known_there None start receives e = absurd (no_receiver (Within start) e tt)
    known_there (Some kind) start receives e =
        let s = on_face kind (Within start) receives e tt in
        by (ends kind (Within start) s.class s.hit s.asked s.by_name tt)
      where
        by : Ends kind (Within start) → IsOfGroup l (methods_together packages) start.code
        by (by_event id same selects) = let no : Abroad id ≡ Within start = same in absurd (cc)
        by (by_method f alike by_name) =
            alike_known forms offsets packages is.linked each at stand (receiver (shape_name kind)) m f (face_selection
            packages q n m (receiver (shape_name kind))) alike start by_name

    words_there : (k : ℕ) → (let calls = calls_together packages at in calls.words (of_package q (OnInterface n m))
        ≡ Some k) → card.words l (callee_there g (of_package q (OnInterface n m))) ≡ Some k
    words_there k e = sym (ap (option_and_then (λ asker. words_for (joint group) w asker (OnInterface n m))) files_p)
        ∙ e

    -- the call agrees
    pub face_call_agrees : CallAgrees packages at q (OnInterface n m)
    face_call_agrees = record { words = words_there; reached = reached_there; known = known_there }
