-- What calls reach by name, of methods that know where they stand, and what they reach by token.
use Rattle.std.specs.Prelude.{◌≡◌, ℕ, List, Option, Some, None, Bool, true, false, not, ◌&&◌, ◌==◌, option_map}
use Rattle.std.specs.Prelude.{if◌then◌else◌}
use Rattle.std.specs.List.{list_any}
use Rattle.cjc_bytes.specs.AccessFlags.{is_interface}
use Rattle.cjc_bytes.specs.declared.fault.MemberId.{MemberId}
use Rattle.cjc_script.specs.Sorts.{Shape, OfClass, shape_name}
use Rattle.cjc_card_semantics.specs.Bytecode.Machine.{Start, Reached, Nowhere, Within, Abroad}
use Rattle.cjc_card_semantics.specs.Bytecode.Alike.{IsFound, reached_as}
use Rattle.cjc_card_semantics.specs.Bytecode.Renaming.{option_as, shape_as}
use Rattle.cjc_card_semantics.specs.Machine.Calls
use Rattle.cjc_card_semantics.specs.Machine.Classes.{External}
use Rattle.cjc_card_semantics.specs.Machine.Dispatch.{Outward, above, interface_method, tower}
use Rattle.cjc_card_semantics.specs.Machine.Operations as card
use Rattle.cjc_card_semantics.specs.Machine.Methods.{start_of}
use Rattle.cjc_world.specs.declared.found.Found.{Found}
use Rattle.cjc_world.specs.Files.{Files}
use Rattle.cjc_world.specs.Classes.{Class, all_classes, class_named}
use Rattle.cjc_world.specs.Supertypes.{line}
use Rattle.cjc_world.specs.Lookup.{find_method, receiver}
use Rattle.cjc_world.specs.Order.{method_order}
use Rattle.cjc_world.specs.Subtype.{is_subtype}
use Rattle.cjc_jvm_semantics.specs.Linked.{Method, Inside}
use Rattle.cjc_jvm_semantics.specs.Linked
use Rattle.cjc_jvm_semantics.specs.OnePackage.{entry_named, first_imported, first_super, is_initialiser, method_at}
use Rattle.cjc_jvm_semantics.specs.OnePackage.{of_class, sent_named}
use Rattle.cjc_ncode.specs.ByLabel.{Callee, Fixed, OnObject, OnSuper, OnInterface}
use Rattle.cjc_components.specs.LowerNarrow.Rows.Package.{class_of_callee, on_class, selected_on}
use Rattle.cjc_vtable.specs.Laws.{Under, selection}
use Rattle.cjc_vtable.specs.Naming.{named}
use Rattle.cjc_ncode.specs.Lowering.ByPlace.{Methods}
use Rattle.cjc_ncode.specs.Lowering.Naming.{Naming, callee}
use Rattle.cjc_ncode.specs.Lowering.Placed.{Placed, code_of, offset_of, start_on_card}
use Rattle.cjc_token_proof.specs.Calls.Selecting.{signature, SaysToken}

-- ---- methods where they stand

-- how a method of the package begins, at its place
abbrev pub start_placed : (place : Method → Placed) → Method → Start Placed
start_placed place m = let p = place m in let code = p.method in record {
  code = p;
  at = 0;
  nargs = code.nargs;
  max_locals = code.max_locals;
  is_abstract = m.is_abstract;
}

-- what a call reaches, of what is found or selected
abbrev pub reached_placed : (place : Method → Placed) → Option Linked.Callee → Reached Placed
reached_placed place None = Nowhere
reached_placed place (Some (Inside m)) = Within (start_placed place m)
reached_placed place (Some (Linked.Abroad event)) = Abroad event

-- What calls reach: on a receiver that is not of the class that they name, nothing.
abbrev pub reached_at : Files → List Class → (place : Method → Placed) → Callee → Option (Shape (List ℕ))
    → Reached Placed
reached_at files w place m None = reached_placed place (on_class files w m)
reached_at files w place m (Some kind) =
    if is_subtype w (shape_name kind) (class_of_callee m)
    then reached_placed place (selected_on files w m (shape_name kind)) else Nowhere

-- The look-ups of narrow code that give methods, where each has its place.
abbrev pub placed_methods : Files → (place : Method → Placed) → Methods
placed_methods files place = record {
  reached = reached_at files (all_classes files) place;
  called = λ id. option_map (start_placed place) (entry_named files (all_classes files) id);
  sent = λ kind id. option_map (start_placed place) (sent_named files (all_classes files) (shape_name kind) id);
}

-- ---- methods in Method

-- the same method of the package
abbrev pub is_same : Found → Found → Bool
is_same f g = not f.imported && f.class == g.class && f.member == g.member

-- A method that stands in Method: of a class of the package that is no interface, and no initialiser.
abbrev pub is_in_method : List Class → Found → Bool
is_in_method w f = list_any (is_same f) (method_order w)

-- one of the package does
abbrev pub StandsInMethod : List Class → Found → Type 0
StandsInMethod w f = f.imported ≡ false → is_in_method w f ≡ true

-- each of these that a class file has begins on the card at its offset, as it does at its place
abbrev pub BeginsAtOffsets : Files → List Class → Naming → (offset : Found → ℕ) → (place : Method → Placed) → Type 0
BeginsAtOffsets files w n offset place =
    (f : Found) (m : Method) → is_in_method w f ≡ true → method_at files f ≡ Some m
    → start_of n.loaded n.part (offset f) ≡ Some (start_on_card n m.is_abstract (place m))

-- ---- virtual calls

-- A class whose objects receive virtual calls, and the imported class that their events name.
pub record SaysReceiver (w : List Class) (x z : List ℕ) : Type 0 where
  pub itself : receiver x ≡ x
  pub imported : first_imported (line w x) ≡ z
  -- a class that it is of, no interface, stands at or above it over superclasses
  pub climbs : (y : List ℕ) (d : Class) → class_named w y ≡ Some d → is_interface d.flags ≡ false
      → is_subtype w x y ≡ true → Under w x y
  -- what is selected has the name and the descriptor that are sought
  pub found : (m : MemberId) (f : Found) → selection w x (signature m) ≡ Some f → named w f ≡ Some (signature m)
  pub written : (m : MemberId) (f : Found) → is_initialiser m.name ≡ false → selection w x (signature m) ≡ Some f
      → StandsInMethod w f

-- A virtual call of a method of a class, on an object of a class, reaches by token the method that it reaches by name,
-- or makes the same event.
abbrev pub VirtualCallsReach : Files → List Class → Naming → (place : Method → Placed) → (x : List ℕ) → Type 0
VirtualCallsReach files w n place x =
    (m : MemberId) (d : Class) (r : Reached Placed) → class_named w m.class ≡ Some d → is_interface d.flags ≡ false
    → is_initialiser m.name ≡ false → SaysToken w n x m → reached_at files w place (OnObject m) (Some (OfClass x))
    ≡ r → IsFound r
    → Calls.reached n.loaded (callee n (OnObject m)) (Some (OfClass (n.class x))) ≡ reached_as (code_of n) (offset_of n)
    r

-- ---- other calls

-- Where a method is found from the class that code names, the card has it at its offset, or as an imported one.
abbrev pub SaysFixed : List Class → Naming → (offset : Found → ℕ) → (on_object : Bool) → MemberId → Type 0
SaysFixed w n offset on m =
    (f : Found) → find_method w m.class m.name m.desc ≡ Some f → (n.fixed on m ≡ (if f.imported then card.Outer on m
    else card.Fixed on n.part (offset f))) × StandsInMethod w f

-- A call of a static method, a constructor or a private method reaches by token the method that it reaches by name, or
-- makes the same event.
abbrev pub FixedCallsReach : Files → List Class → Naming → (place : Method → Placed) → (on_object : Bool) → MemberId
    → Type 0
FixedCallsReach files w n place on m =
    (o : Option (Shape (List ℕ))) (r : Reached Placed) → reached_at files w place (Fixed on m) o ≡ r → IsFound r
    → Calls.reached n.loaded (callee n (Fixed on m)) (option_as (shape_as n.class) o) ≡ reached_as (code_of n)
    (offset_of n) r

-- The class from whose superclass a call selects: its superclass, whose tables stand above its own, with the token that
-- the method has there, and the imported
-- class that events name.
pub record SaysSuper (w : List Class) (n : Naming) (m : MemberId) (super z : List ℕ) : Type 0 where
  pub known : (d : Class) × (class_named w super ≡ Some d)
  pub first_one : first_super (class_named w m.class) ≡ Some super
  pub tables : above (tower n.loaded (n.class m.class)) ≡ tower n.loaded (n.class super)
  pub same_token : n.dispatch_token m ≡ n.dispatch_token (of_class super m)
  pub token : SaysToken w n super (of_class super m)
  pub imported : first_imported (line w (receiver super)) ≡ z
  pub itself : receiver super ≡ super
  pub found : (f : Found) → selection w super (signature m) ≡ Some f → named w f ≡ Some (signature m)
  pub written : (f : Found) → selection w super (signature m) ≡ Some f → StandsInMethod w f

-- A call of a superclass's method reaches by token the method that it reaches by name, or makes the same event.
abbrev pub SuperCallsReach : Files → List Class → Naming → (place : Method → Placed) → MemberId → Type 0
SuperCallsReach files w n place m =
    (o : Option (Shape (List ℕ))) (r : Reached Placed) → reached_at files w place (OnSuper m) o ≡ r → IsFound r
    → Calls.reached n.loaded (callee n (OnSuper m)) (option_as (shape_as n.class) o) ≡ reached_as (code_of n)
    (offset_of n) r

-- A call of an interface's method on an object of a class reaches by token the method that it reaches by name, or makes
-- the same event.
abbrev pub InterfaceCallReaches : Files → List Class → Naming → (place : Method → Placed) → (x : List ℕ) → MemberId
    → Type 0
InterfaceCallReaches files w n place x m =
    (words : ℕ) (r : Reached Placed) → reached_at files w place (OnInterface words m) (Some (OfClass x)) ≡ r → IsFound r
    → Calls.reached n.loaded (callee n (OnInterface words m)) (Some (OfClass (n.class x))) ≡ reached_as (code_of n)
    (offset_of n) r

-- an imported class whose objects are asked for the interface's method itself
pub record SaysOutside (w : List Class) (n : Naming) (x : List ℕ) (m : MemberId) : Type 0 where
  pub c : Class
  pub known : class_named w (receiver x) ≡ Some c
  pub imported : c.is_imported ≡ true
  pub tree : ℕ
  pub token : ℕ
  pub on_card : n.class x ≡ External tree token
  pub event : interface_method n.loaded (n.class m.class) (n.interface_token m) ≡ Outward m
