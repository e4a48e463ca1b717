-- Objects that are there are of classes that receive calls.
use Rattle.std.proofs.Common.{◌≡◌, ℕ, refl, sym, ap, subst, ◌∙◌, Bool, true, false, List}
use Rattle.std.specs.Prelude.{Option, Some, None, not, ◌||◌, if◌then◌else◌}
use Rattle.std.specs.List.{list_any}
use Rattle.std.specs.Str.{bytes_eq}
use Rattle.cjc_card_semantics.specs.Bytecode.Alike.{KnownKind, KnownThing}
use Rattle.cjc_card_semantics.specs.Bytecode.Calculations.{Arithmetic, NullPointer, IndexOutside, NegativeSize}
use Rattle.cjc_card_semantics.specs.Bytecode.Calculations.{ClassCast, ArrayStore}
use Rattle.cjc_card_semantics.specs.Bytecode.Effects.{HeapObject, shape}
use Rattle.cjc_card_semantics.specs.Bytecode.Renaming.{KnownHeapObject, numbers_known, object_known, references_known}
use Rattle.cjc_bytes.specs.AccessFlags.{is_abstract, is_interface}
use Rattle.cjc_bytes.specs.declared.fault.MemberId.{MemberId}
use Rattle.cjc_bytes.proofs.Bools.{and_true}
use Rattle.cjc_token_proof.proofs.ByToken.Members.{bytes_tell}
use Rattle.cjc_components.specs.Package.{Package, world}
use Rattle.cjc_token_proof.specs.ByToken.Classes.{memories}
use Rattle.cjc_components.specs.Methods.{placed_methods}
use Rattle.cjc_ncode.specs.Lowering.Agreement.{IsAmong, IsKnownCall, names}
use Rattle.cjc_components.specs.LowerNarrow.Rows.Package.{fault_name}
use Rattle.cjc_script.specs.Sorts.{Shape}
use Rattle.cjc_token_proof.specs.Tables.Known.{is_holder, is_own_exception, known_names, own_exceptions, same_members}
use Rattle.cjc_token_proof.specs.Tables.Loading.{naming}
use Rattle.cjc_jvm_semantics.specs.OnePackage.{object_fields}
use Rattle.cjc_world.specs.Classes.{Class, class_named}
use Rattle.cjc_world.proofs.Cycles.{class_named-name}
use Rattle.cjc_token_proof.specs.WrittenCalls.Calls.{Receives, numbers, one_of, references}
use Rattle.cjc_token_proof.specs.WrittenSends.Named.{FaultsAreClasses, is_called, known, known_tests}

module _ (p : Package) (faults : FaultsAreClasses (world p)) where
  abbrev w : List Class
  w = world p

  -- one of the names of exceptions
  fault_of : (x : List ℕ) → list_any (λ name. bytes_eq name x) own_exceptions ≡ true → (c : Class)
      → class_named w x ≡ Some c → (c.is_imported ≡ true) × (is_interface c.flags ≡ false)
  fault_of x h c e = first (bytes_eq (fault_name Arithmetic) x) refl h
    where
      is : (f : Rattle.cjc_card_semantics.specs.Bytecode.Calculations.Fault) → bytes_eq (fault_name f) x ≡ true
          → (c.is_imported ≡ true) × (is_interface c.flags ≡ false)
      is f q = faults f c (ap (class_named w) (bytes_tell (fault_name f) x q) ∙ e)

      sixth : (t : Bool) → bytes_eq (fault_name ArrayStore) x ≡ t → (t || false) ≡ true → (c.is_imported ≡ true)
          × (is_interface c.flags ≡ false)
      sixth true q g = is ArrayStore q
      sixth false q g = absurd (cc)

      fifth : (t : Bool) → bytes_eq (fault_name ClassCast) x ≡ t → (t || (bytes_eq (fault_name ArrayStore) x || false))
          ≡ true → (c.is_imported ≡ true) × (is_interface c.flags ≡ false)
      fifth true q g = is ClassCast q
      fifth false q g = sixth (bytes_eq (fault_name ArrayStore) x) refl g

      fourth : (t : Bool) → bytes_eq (fault_name NegativeSize) x ≡ t
          → (t || (bytes_eq (fault_name ClassCast) x || (bytes_eq (fault_name ArrayStore) x || false))) ≡ true
          → (c.is_imported ≡ true) × (is_interface c.flags ≡ false)
      fourth true q g = is NegativeSize q
      fourth false q g = fifth (bytes_eq (fault_name ClassCast) x) refl g

      third : (t : Bool) → bytes_eq (fault_name IndexOutside) x ≡ t
          → (t || (bytes_eq (fault_name NegativeSize) x || (bytes_eq (fault_name ClassCast) x
          || (bytes_eq (fault_name ArrayStore) x || false)))) ≡ true → (c.is_imported ≡ true)
          × (is_interface c.flags ≡ false)
      third true q g = is IndexOutside q
      third false q g = fourth (bytes_eq (fault_name NegativeSize) x) refl g

      second : (t : Bool) → bytes_eq (fault_name NullPointer) x ≡ t
          → (t || (bytes_eq (fault_name IndexOutside) x || (bytes_eq (fault_name NegativeSize) x
          || (bytes_eq (fault_name ClassCast) x || (bytes_eq (fault_name ArrayStore) x || false))))) ≡ true
          → (c.is_imported ≡ true) × (is_interface c.flags ≡ false)
      second true q g = is NullPointer q
      second false q g = third (bytes_eq (fault_name IndexOutside) x) refl g

      first : (t : Bool) → bytes_eq (fault_name Arithmetic) x ≡ t
          → (t || (bytes_eq (fault_name NullPointer) x || (bytes_eq (fault_name IndexOutside) x
          || (bytes_eq (fault_name NegativeSize) x || (bytes_eq (fault_name ClassCast) x
          || (bytes_eq (fault_name ArrayStore) x || false)))))) ≡ true → (c.is_imported ≡ true)
          × (is_interface c.flags ≡ false)
      first true q g = is Arithmetic q
      first false q g = second (bytes_eq (fault_name NullPointer) x) refl g

  -- a class of which there are objects
  holder_receives : (x : List ℕ) (c : Class) → class_named w x ≡ Some c → is_holder (Some c) ≡ true
      → Receives w (Some (Rattle.cjc_script.specs.Sorts.OfClass x))
  holder_receives x c e h = by (is_interface c.flags) refl h
    where
      made : (a b : Bool) → (a || not b) ≡ true → a ≡ false → b ≡ false
      made true b g own = absurd (cc)
      made false true g own = absurd (cc)
      made false false g own = refl

      by : (t : Bool) → is_interface c.flags ≡ t → (if t then is_own_exception c
          else (c.is_imported || not (is_abstract c.flags))) ≡ true
          → Receives w (Some (Rattle.cjc_script.specs.Sorts.OfClass x))
      by true is g =
          let two = and_true c.is_imported (list_any (λ name. bytes_eq name c.name) own_exceptions) g in
          let named : list_any (λ name. bytes_eq name x) own_exceptions ≡ true =
          ap (λ y. list_any (λ name. bytes_eq name y) own_exceptions) (sym (class_named-name w x c e)) ∙ two.1 in
          let clash : true ≡ false = sym is ∙ (fault_of x named c e).1 in absurd (cc)
      by false is g = one_of c e is (λ own. made c.is_imported (is_abstract c.flags) g own)

  known_receives : (t : HeapObject (List ℕ) MemberId) → KnownHeapObject (known p) t → Receives w (Some (shape t))
  known_receives t numbers_known = numbers
  known_receives t (references_known there) = references
  known_receives t (object_known {c = c} {slots = slots} there holds) = by (class_named w c) refl
    where
      by : (o : Option Class) → class_named w c ≡ o → Receives w (Some (Rattle.cjc_script.specs.Sorts.OfClass c))
      by None e =
          let two = and_true (is_holder (class_named w c))
          (same_members (Rattle.cjc_card_semantics.specs.Bytecode.Renaming.keys slots) (object_fields w c)) holds in
          let never : is_holder None ≡ true = ap is_holder (sym e) ∙ two.0 in absurd (cc)
      by (Some d) e =
          let two = and_true (is_holder (class_named w c))
          (same_members (Rattle.cjc_card_semantics.specs.Bytecode.Renaming.keys slots) (object_fields w c)) holds in
          holder_receives c d e (ap is_holder (sym e) ∙ two.0)

  -- what is known there
  abbrev Thing : Shape (List ℕ) → Type 0
  Thing kind = KnownThing (names (naming p) (memories (naming p) (known_names (is_called p) p))) (known p)
      (IsAmong (placed_methods p)) (IsKnownCall (known_tests p)) kind

  pub thing_receives : (kind : Shape (List ℕ)) → Thing kind → Receives w (Some kind)
  thing_receives kind t = subst (λ k. Receives w (Some k)) t.is_of (known_receives t.thing t.is_known)

  pub kind_receives : (o : Option (Shape (List ℕ)))
      → KnownKind (names (naming p) (memories (naming p) (known_names (is_called p) p))) (known p)
      (IsAmong (placed_methods p)) (IsKnownCall (known_tests p)) o → Receives w o
  kind_receives None t = Rattle.cjc_token_proof.specs.WrittenCalls.Calls.none
  kind_receives (Some kind) t = thing_receives kind t
