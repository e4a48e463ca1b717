-- Calls of a group that are selected by their receivers agree, where those of methods of interfaces do: what there is
-- of the group is a receiver in the joint world.
use Rattle.std.proofs.Common.{◌≡◌, ℕ, refl, sym, ap, subst, ◌∙◌, Bool, true, false, List, [], ◌∷◌, Some, None, ⊎_elim}
use Rattle.std.specs.List.{list_any}
use Rattle.std.specs.Prelude.{Option, map, not, slice_get, ◌||◌, if◌then◌else◌}
use Rattle.std.specs.Str.{bytes_eq}
use Rattle.std.proofs.lemmas.Bool.{and_parts}
use Rattle.cjc_bytes.specs.AccessFlags.{is_abstract, is_interface}
use Rattle.cjc_bytes.specs.declared.fault.MemberId.{MemberId}
use Rattle.cjc_token_proof.specs.CardSemantics.Bytecode.Alike.{KnownKind, KnownThing}
use Rattle.cjc_token_proof.specs.CardSemantics.Bytecode.Effects.{HeapObject, shape}
use Rattle.cjc_token_proof.specs.CardSemantics.Bytecode.Renaming.{KnownHeapObject, numbers_known, object_known}
use Rattle.cjc_token_proof.specs.CardSemantics.Bytecode.Renaming.{references_known}
use Rattle.cjc_components.specs.Package.{Package, world}
use Rattle.cjc_joint_proof.specs.JointAlike.{IsCalled, IsOfGroup, JointNaming, joint_names}
use Rattle.cjc_joint_proof.specs.JointCalled.{called_together, is_called_by}
use Rattle.cjc_joint_proof.specs.JointCode.{of_package}
use Rattle.cjc_joint_proof.specs.JointFixed.{IsSelecting, JointSelectionsAgree}
use Rattle.cjc_joint_proof.specs.JointTables.{known_together as names_together, memories_together, world_together}
use Rattle.cjc_joint_proof.specs.JointTogether.{methods_together, naming_together}
use Rattle.cjc_joint_proof.specs.JointTowers.{loaded_together}
use Rattle.cjc_joint_proof.proofs.StandLaws.{Inside, Outside, stands}
use Rattle.cjc_jvm_semantics.specs.Linked.{Method}
use Rattle.cjc_token_proof.proofs.BytesLists.{bytes_true}
use Rattle.cjc_token_proof.specs.CardSemantics.Bytecode.Calculations.{ArrayStore, Arithmetic, ClassCast, Fault}
use Rattle.cjc_token_proof.specs.CardSemantics.Bytecode.Calculations.{IndexOutside, NegativeSize, NullPointer}
use Rattle.cjc_token_proof.specs.NCode.ByLabel.{Callee, Fixed, OnInterface, OnObject, OnSuper}
use Rattle.cjc_token_proof.specs.NCode.Lowering.Agreement.{known_by}
use Rattle.cjc_token_proof.specs.NCode.Lowering.Placed.{Placed}
use Rattle.cjc_token_proof.specs.Narrow.Rows.Package.{fault_name}
use Rattle.cjc_token_proof.specs.Script.Sorts.{OfClass, Shape}
use Rattle.cjc_token_proof.specs.Tables.Known.{is_holder, is_own_exception}
use Rattle.cjc_token_proof.specs.WrittenCalls.Calls.{Receives, none, numbers, one_of, references}
use Rattle.cjc_token_proof.specs.WrittenSends.Named.{is_called}
use Rattle.cjc_world.proofs.Cycles.{class_named-name}
use Rattle.cjc_world.specs.Classes.{Class, class_named, imported}
use Rattle.cjc_joint_whole.specs.Selected.{CallAgrees, JointInterfacesAgree, SelectTogether, SentAreKnown, calls_together}

-- what is named among names of faults is the name of one
fault_of : (faults : List Fault) (x : List ℕ) → list_any (λ name. bytes_eq name x) (map fault_name faults) ≡ true
    → (fault : Fault) × (fault_name fault ≡ x)
fault_of [] x e = cc
fault_of (a ∷ faults) x e = by (bytes_eq (fault_name a) x) refl e (fault_of faults x)
  where
    by : (b : Bool) → bytes_eq (fault_name a) x ≡ b
        → (b || list_any (λ name. bytes_eq name x) (map fault_name faults)) ≡ true
        → (list_any (λ name. bytes_eq name x) (map fault_name faults) ≡ true → (fault : Fault)
        × (fault_name fault ≡ x)) → (fault : Fault) × (fault_name fault ≡ x)
    by true f g rest = (a, bytes_true (fault_name a) x f)
    by false f g rest = rest g

-- what is true where its opposite is not
not_true : (b : Bool) → not b ≡ true → b ≡ false
not_true false e = refl
not_true true e = sym e

module _ (packages : List Package) (is : SelectTogether packages) where
  abbrev w : List Class
  w = world_together packages

  abbrev g : JointNaming
  g = naming_together packages

  -- ---- receivers

  -- an exception of the machine's own is no interface
  no_face : (x : List ℕ) (c : Class) → class_named w x ≡ Some c → is_own_exception c ≡ true
      → is_interface c.flags ≡ false
  no_face x c e own = ⊎_elim inside outside (stands packages is.linked x c e)
    where
      parts : (c.is_imported ≡ true) × (list_any (λ name. bytes_eq name c.name) (map fault_name (Arithmetic
          ∷ NullPointer ∷ IndexOutside ∷ NegativeSize ∷ ClassCast ∷ ArrayStore ∷ [])) ≡ true)
      parts = and_parts c.is_imported _ own

      inside : Inside packages is.linked x c → is_interface c.flags ≡ false
      inside i = let no : false ≡ true = sym (ap (λ (v : Class). v.is_imported) i.is) ∙ parts.0 in absurd (cc)

      outside : Outside packages is.linked x c → is_interface c.flags ≡ false
      outside o =
          let fault = fault_of (Arithmetic ∷ NullPointer ∷ IndexOutside ∷ NegativeSize ∷ ClassCast ∷ ArrayStore ∷ [])
          c.name parts.1 in
          let same : fault_name fault.0 ≡ x = fault.1 ∙ class_named-name w x c e in
          let p = o.importer in
          let s = is.each o.part p o.here in
          let plain = s.faults fault.0 (imported o.import_number o.class) (ap (class_named (world p)) same
          ∙ o.imported_there) in
          ap (λ (v : Class). is_interface v.flags) o.is ∙ plain.1

  -- an object is of a class that has objects
  object_received : (x : List ℕ) (c : Class) → class_named w x ≡ Some c → is_holder (Some c) ≡ true
      → Receives w (Some (OfClass x))
  object_received x c e holds = by (is_interface c.flags) refl holds
    where
      by : (v : Bool) → is_interface c.flags ≡ v
          → (if v then is_own_exception c else (c.is_imported || not (is_abstract c.flags))) ≡ true
          → Receives w (Some (OfClass x))
      by true face h = let no : true ≡ false = sym face ∙ no_face x c e h in absurd (cc)
      by false plain h = one_of c e plain (λ own. not_true (is_abstract c.flags) (sym (ap (λ b. b || not (is_abstract
          c.flags)) own) ∙ h))

  -- what is known of the group is a receiver
  thing_received : (t : HeapObject (List ℕ) MemberId) → KnownHeapObject (known_by (names_together packages)) t
      → Receives w (Some (shape t))
  thing_received _ (numbers_known {element = element}) = numbers
  thing_received _ (references_known {c = c} known) = references
  thing_received _ (object_known {c = x} known holds) = by (class_named w x) refl (and_parts (is_holder (class_named w
      x)) _ holds).0
    where
      by : (o : Option Class) → class_named w x ≡ o → is_holder (class_named w x) ≡ true
          → Receives w (Some (OfClass x))
      by None e h = let never : is_holder None ≡ true = ap is_holder (sym e) ∙ h in absurd cc
      by (Some c) e h = object_received x c e (ap is_holder (sym e) ∙ h)

  abbrev IsThing : Shape (List ℕ) → Type 0
  IsThing kind = KnownThing (joint_names g (memories_together packages)) (known_by (names_together packages)) (IsOfGroup
      (loaded_together packages) (methods_together packages)) (IsCalled (called_together packages)) kind

  abbrev IsKind : Option (Shape (List ℕ)) → Type 0
  IsKind o = KnownKind (joint_names g (memories_together packages)) (known_by (names_together packages)) (IsOfGroup
      (loaded_together packages) (methods_together packages)) (IsCalled (called_together packages)) o

  received : (kind : Shape (List ℕ)) → IsThing kind → Receives w (Some kind)
  received kind it = subst (λ k. Receives w (Some k)) it.is_of (thing_received it.thing it.is_known)

  received_by : (o : Option (Shape (List ℕ))) → IsKind o → Receives w o
  received_by None it = none
  received_by (Some kind) it = received kind it

  -- ---- all calls

  module _ (at : Method → Placed) (objects : (q : ℕ) (p : Package) → slice_get packages q ≡ Some p → (m : MemberId)
      → is_called p (OnObject m) ≡ true → CallAgrees packages at q (OnObject m)) (supers : (q : ℕ) (p : Package)
      → slice_get packages q ≡ Some p → (m : MemberId) → is_called p (OnSuper m) ≡ true
      → CallAgrees packages at q (OnSuper m)) (faces : (q : ℕ) (p : Package) → slice_get packages q ≡ Some p → (n : ℕ)
      (m : MemberId) → is_called p (OnInterface n m) ≡ true → CallAgrees packages at q (OnInterface n m))
      (interfaces : JointInterfacesAgree packages at) (sent_known : SentAreKnown packages at) where
    of_kind : (q : ℕ) (p : Package) → slice_get packages q ≡ Some p → (x : Callee) → is_called p x ≡ true
        → IsSelecting x → CallAgrees packages at q x
    of_kind q p it (Fixed on id) called kind = absurd kind
    of_kind q p it (OnObject m) called kind = objects q p it m called
    of_kind q p it (OnSuper m) called kind = supers q p it m called
    of_kind q p it (OnInterface n m) called kind = faces q p it n m called

    call_agrees : (q : ℕ) (x : Callee) → called_together packages (of_package q x) ≡ true → IsSelecting x
        → CallAgrees packages at q x
    call_agrees q x called kind = by (slice_get packages q) refl called
      where
        by : (o : Option Package) → slice_get packages q ≡ o → is_called_by o x ≡ true → CallAgrees packages at q x
        by None it k = absurd (cc)
        by (Some p) it k = of_kind q p it x k kind

    pub selections_agree : JointSelectionsAgree g (methods_together packages) (memories_together packages)
        (calls_together packages at) (known_by (names_together packages)) (IsCalled (called_together packages))
    selections_agree = record {
      words = λ m n called kind e. (let c = call_agrees m.part m.item called kind in c.words n e);
      reached = λ m o r called kind thing e found. (let c = call_agrees m.part m.item called kind in c.reached o r
          (received_by o thing) e found);
      reached_known = λ m o start called kind thing e. (let c = call_agrees m.part m.item called kind in c.known o start
          (received_by o thing) e);
      sent = λ kind id thing. interfaces.sent kind id (received kind thing);
      sent_known = λ kind id start thing e. sent_known kind id start (received kind thing) e;
    }
