-- Receivers of calls in a group: of a class that some package knows, where arrays are of java/lang/Object.
use Rattle.std.proofs.Common.{◌≡◌, ℕ, refl, sym, ap, ◌∙◌, false, List, ⊎_elim}
use Rattle.std.specs.Prelude.{Some, slice_get}
use Rattle.cjc_bytes.specs.AccessFlags.{is_interface}
use Rattle.cjc_components.specs.Package.{Package, world}
use Rattle.cjc_joint_proof.specs.JointPackages.{AreLinked, class_together, files_together}
use Rattle.cjc_joint_proof.specs.JointTables.{world_together}
use Rattle.cjc_joint_proof.specs.JointTowers.{loaded_together}
use Rattle.cjc_joint_proof.proofs.StandLaws.{Inside, Outside, stands}
use Rattle.cjc_theorem.proofs.AlikeLaws.VirtualCalls.Ways.{line_class}
use Rattle.cjc_token_proof.proofs.WorldProofTypes.{receiver_class}
use Rattle.cjc_token_proof.specs.CardSemantics.Bytecode.Renaming.{shape_as}
use Rattle.cjc_token_proof.specs.CardSemantics.Machine.Classes.{object_class, shape_class}
use Rattle.cjc_token_proof.specs.CardSemantics.Machine.Loaded.{Loaded}
use Rattle.cjc_token_proof.specs.Script.Sorts.{Booleans, Bytes, Element, Ints, OfNumbers, OfReferences, Shape}
use Rattle.cjc_token_proof.specs.Script.Sorts.{Shorts, shape_name}
use Rattle.cjc_token_proof.specs.WrittenCalls.Calls.{Receives, numbers, one_of, references}
use Rattle.cjc_world.specs.Classes.{Class, class_named, declared, imported}
use Rattle.cjc_world.specs.Files.{Files}
use Rattle.cjc_world.specs.Lookup.{object, receiver}
use Rattle.cjc_world.specs.Subtype.{starts}
use Rattle.cjc_world.specs.Upwards.{IsOrdered}

module _ (packages : List Package) (linked : AreLinked packages) (order : IsOrdered (world_together packages))
    (no_array : (x : List ℕ) (c : Class) → class_named (world_together packages) x ≡ Some c → starts 91 x ≡ false) where
  abbrev l : Loaded
  l = loaded_together packages

  abbrev group : List Files
  group = files_together packages

  abbrev w : List Class
  w = world_together packages

  -- a package that knows the class
  pub record IsKnown (x : List ℕ) : Type 0 where
    pub part : ℕ
    pub «package» : Package
    pub here : slice_get packages part ≡ Some «package»
    pub class : Class
    pub named : class_named (world «package») x ≡ Some class
    pub plain : is_interface class.flags ≡ false

  pub known_by : (x : List ℕ) (c : Class) → class_named w x ≡ Some c → is_interface c.flags ≡ false → IsKnown x
  known_by x c named plain = ⊎_elim inside outside (stands packages linked x c named)
    where
      inside : Inside packages linked x c → IsKnown x
      inside i = record {
        part = i.part;
        «package» = i.«package»;
        here = i.here;
        class = declared i.place i.tree;
        named = i.there;
        plain = ap (λ (d : Class). is_interface d.flags) (sym i.is) ∙ plain;
      }

      outside : Outside packages linked x c → IsKnown x
      outside o = record {
        part = o.part;
        «package» = o.importer;
        here = o.here;
        class = imported o.import_number o.class;
        named = o.imported_there;
        plain = ap (λ (d : Class). is_interface d.flags) (sym o.is) ∙ plain;
      }

  -- A receiver: the class whose methods it has, in the joint world and on the card.
  pub record IsOn (kind : Shape (List ℕ)) : Type 0 where
    pub class : List ℕ
    pub receives : receiver (shape_name kind) ≡ class
    pub its : Class
    pub named : class_named w class ≡ Some its
    pub plain : is_interface its.flags ≡ false
    pub on_card : shape_class l (shape_as (class_together packages) kind) ≡ Some (class_together packages class)
    pub known : IsKnown class

  -- an array is one of java/lang/Object
  array_on : (kind : Shape (List ℕ)) → receiver (shape_name kind) ≡ object
      → shape_class l (shape_as (class_together packages) kind) ≡ object_class l → (y : List ℕ) (k : Class)
      → class_named w y ≡ Some k → is_interface k.flags ≡ false → IsOn kind
  array_on kind received card y k named plain =
      let o = order.rooted y k named plain in
      let ground = line_class w order y k o.0 o.2 named plain in
      record {
        class = object;
        receives = received;
        its = o.0;
        named = o.1;
        plain = ground;
        on_card = card ∙ ⊎_elim (λ i. i.named) (λ a. a.named) (stands packages linked object o.0 o.1);
        known = known_by object o.0 o.1 ground;
      }

  numbers_received : (element : Element) → receiver (shape_name (OfNumbers element)) ≡ object
  numbers_received Booleans = refl
  numbers_received Bytes = refl
  numbers_received Shorts = refl
  numbers_received Ints = refl

  -- so is each receiver that may be there, where some class is
  pub is_on : (kind : Shape (List ℕ)) → Receives w (Some kind) → (y : List ℕ) (k : Class) → class_named w y ≡ Some k
      → is_interface k.flags ≡ false → IsOn kind
  is_on _ (numbers {element = element}) y k named plain = array_on (OfNumbers element) (numbers_received element) refl y
      k named plain
  is_on _ (references {x = x}) y k named plain = array_on (OfReferences x) refl refl y k named plain
  is_on _ (one_of {x = x} c known ground made) y k named plain = record {
    class = x;
    receives = receiver_class x (no_array x c known);
    its = c;
    named = known;
    plain = ground;
    on_card = refl;
    known = known_by x c known ground;
  }
