-- What scripts send to objects, where packages are loaded together: by name in the joint world, and by token on the
-- card.
use Rattle.std.specs.Prelude.{◌≡◌, ℕ, suc, List, Option, Some, None, Bool, false, true, option_and_then, option_map}
use Rattle.std.specs.Prelude.{◌&&◌}
use Rattle.std.specs.Prelude.{if◌then◌else◌}
use Rattle.cjc_bytes.specs.AccessFlags.{is_abstract, is_interface}
use Rattle.cjc_bytes.specs.declared.fault.MemberId.{MemberId}
use Rattle.cjc_components.specs.Package.{Package}
use Rattle.cjc_joint_proof.specs.JointAlike.{code_at, offset_at}
use Rattle.cjc_joint_proof.specs.JointNames.{start_for}
use Rattle.cjc_joint_proof.specs.JointPackages.{class_together, files_together}
use Rattle.cjc_joint_proof.specs.JointTables.{world_together}
use Rattle.cjc_joint_proof.specs.JointTogether.{naming_together}
use Rattle.cjc_joint_proof.specs.JointTowers.{loaded_together}
use Rattle.cjc_jvm_semantics.specs.Group.{joint, selection_for}
use Rattle.cjc_jvm_semantics.specs.Linked.{Method}
use Rattle.cjc_jvm_semantics.specs.OnePackage.{ResolvedMember, is_initialiser, is_sendable, method_at, method_hit}
use Rattle.cjc_token_proof.specs.Calls.Reaching.{start_placed}
use Rattle.cjc_token_proof.specs.Calls.Selecting.{signature}
use Rattle.cjc_token_proof.specs.CardSemantics.Bytecode.Alike.{start_as}
use Rattle.cjc_token_proof.specs.CardSemantics.Bytecode.Machine.{Start}
use Rattle.cjc_token_proof.specs.CardSemantics.Bytecode.Renaming.{option_as}
use Rattle.cjc_token_proof.specs.CardSemantics.Machine.Calls as card
use Rattle.cjc_token_proof.specs.CardSemantics.Machine.Classes as classes
use Rattle.cjc_token_proof.specs.CardSemantics.Machine.Dispatch.{Token}
use Rattle.cjc_token_proof.specs.CardSemantics.Machine.Methods.{Code}
use Rattle.cjc_token_proof.specs.NCode.Lowering.Placed.{Placed}
use Rattle.cjc_vtable.specs.Calls.{is_special}
use Rattle.cjc_world.specs.Classes.{Class, class_named}
use Rattle.cjc_world.specs.Lookup.{find_method, first, own_method}
use Rattle.cjc_world.specs.Supertypes.{line}
use Rattle.cjc_world.specs.Upwards.{Below}
use Rattle.cjc_world.specs.declared.found.Found.{Found}

module _ (packages : List Package) (at : Method → Placed) where
  -- where on the card a method begins
  abbrev pub begun : Option Method → Option (Start Code)
  begun o = option_as (start_as (code_at (naming_together packages)) (offset_at (naming_together packages))) (option_map
      (start_for (files_together packages) (start_placed at)) o)

  -- what is sent to an object of a type, for the method that the named class has
  abbrev pub sent_for : (type : List ℕ) → MemberId → (sub : Bool) → ResolvedMember → Option Method
  sent_for type id sub hit = if is_sendable id hit && sub then option_and_then (method_at (joint (files_together
      packages))) (selection_for (world_together packages) hit type id) else None

  -- the same, of what a look-up found
  abbrev pub sent_of : (type : List ℕ) → MemberId → (sub : Bool) → Option Found → Option Method
  sent_of type id sub o = option_and_then (λ f. option_and_then (sent_for type id sub) (method_hit (world_together
      packages) f)) o

  -- What is sent to an object of a class file by a class at or above that of the object begins by token where it begins
  -- by name.
  abbrev pub SendsAlike : (x : List ℕ) → MemberId → Type 0
  SendsAlike x id = card.start_selected (loaded_together packages) (card.sent_to (loaded_together packages) (Some
      (class_together packages x)) (class_together packages id.class) id)
      ≡ begun (sent_of x id true (find_method (world_together packages) id.class id.name id.desc))

  -- so it is of each of which there are objects: an abstract class may have got a method that no class file declares
  abbrev pub ObjectsAreSentAlike : Type 0
  ObjectsAreSentAlike = (x : List ℕ) (c : Class) → class_named (world_together packages) x ≡ Some c
      → c.is_imported ≡ false → is_interface c.flags ≡ false → is_abstract c.flags ≡ false → (id : MemberId) (d : Class)
      → class_named (world_together packages) id.class ≡ Some d → Below (world_together packages) x id.class
      → SendsAlike x id

  -- nothing is sent by the name of a class initialiser
  abbrev pub InitialisersAreSentAlike : Type 0
  InitialisersAreSentAlike = (x : List ℕ) (c : Class) → class_named (world_together packages) x ≡ Some c
      → c.is_imported ≡ false → is_interface c.flags ≡ false → (id : MemberId) → is_initialiser id.name ≡ true
      → (d : Class) → class_named (world_together packages) id.class ≡ Some d
      → Below (world_together packages) x id.class → SendsAlike x id

  -- ---- what the line of a class has

  -- On objects of each class at or below one, a token begins the method that selection by name gives for a hit.
  abbrev pub TokenSends : (y : List ℕ) → MemberId → ResolvedMember → Token → Type 0
  TokenSends y id hit t = (x : List ℕ) (c : Class) → class_named (world_together packages) x ≡ Some c
      → is_interface c.flags ≡ false → Below (world_together packages) x y
      → card.start_selected (loaded_together packages) (card.dispatched_on (loaded_together packages) (Some
      (class_together packages x)) t)
      ≡ begun (option_and_then (method_at (joint (files_together packages))) (selection_for (world_together packages)
      hit x id))

  -- what is found by name from a class over its superclasses, beside what is found by token: nothing, a method that no
  -- script may send, or one with its token
  pub data FoundAlike (y : List ℕ) (id : MemberId) : Option Found → Option (Option Token) → Type 0 where
    nowhere : FoundAlike y id None None
    bound : {f : Found} (hit : ResolvedMember) → method_hit (world_together packages) f ≡ Some hit
        → is_sendable id hit ≡ false → FoundAlike y id (Some f) (Some None)
    bears : {f : Found} {t : Token} (hit : ResolvedMember) → method_hit (world_together packages) f ≡ Some hit
        → is_sendable id hit ≡ true → TokenSends y id hit t → FoundAlike y id (Some f) (Some (Some t))

  -- so it is of each class that is no interface
  abbrev pub LinesAreFoundAlike : Type 0
  LinesAreFoundAlike = (y : List ℕ) (d : Class) → class_named (world_together packages) y ≡ Some d
      → is_interface d.flags ≡ false → (id : MemberId) → is_initialiser id.name ≡ false
      → FoundAlike y id (first (own_method false id.name id.desc) (line (world_together packages) y))
      (card.found_token (loaded_together packages) (suc (classes.depth (loaded_together packages))) (Some
      (class_together packages y)) id)

  -- a constructor or a class initialiser has no token there
  abbrev pub LinesBindSpecials : Type 0
  LinesBindSpecials = (y : List ℕ) (d : Class) → class_named (world_together packages) y ≡ Some d
      → is_interface d.flags ≡ false → (id : MemberId) → is_special (signature id) ≡ true → (t : Token)
      → card.found_token (loaded_together packages) (suc (classes.depth (loaded_together packages))) (Some
      (class_together packages y)) id ≡ Some (Some t) → ⊥

  -- What the line of a class has, of one at or above that of the object, is sent by token as by name, whatever class is
  -- named: so of a named class that is no interface, and of java/lang/Object by an interface.
  abbrev pub FoundAreSentAlike : Type 0
  FoundAreSentAlike = (x : List ℕ) (c : Class) → class_named (world_together packages) x ≡ Some c
      → is_interface c.flags ≡ false → (id : MemberId) → is_initialiser id.name ≡ false → (y : List ℕ) (d : Class)
      → class_named (world_together packages) y ≡ Some d → is_interface d.flags ≡ false
      → Below (world_together packages) x y → (f : Found)
      → first (own_method false id.name id.desc) (line (world_together packages) y) ≡ Some f → (named : classes.Class)
      → card.start_selected (loaded_together packages) (card.sent_by (loaded_together packages) (Some (class_together
      packages x)) named id (card.found_token (loaded_together packages) (suc (classes.depth (loaded_together
      packages))) (Some (class_together packages y)) id))
      ≡ begun (sent_of x id true (Some f))
