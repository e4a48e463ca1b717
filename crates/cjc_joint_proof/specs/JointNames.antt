-- What the narrow code of several packages names, by name: a method is looked up in the files of the package whose code
-- names it, what is found there of another package of the group is that package's own, and selection passes over
-- package-visible methods of other packages.
use Rattle.std.specs.Prelude.{ℕ, suc, List, [], ◌∷◌, Bool, false, true, Option, Some, None, option_map, option_and_then}
use Rattle.std.specs.Prelude.{if◌then◌else◌, slice_get}
use Rattle.std.specs.Str.{bytes_eq}
use Rattle.cjc_card_semantics.specs.Bytecode.Alike.{reached_as, start_as}
use Rattle.cjc_card_semantics.specs.Bytecode.Machine.{Nowhere, Reached, Start, Within, Abroad}
use Rattle.cjc_card_semantics.specs.Bytes.declared.fault.MemberId.{MemberId}
use Rattle.cjc_card_semantics.specs.Script.Sorts.{Shape, shape_name}
use Rattle.cjc_exported.specs.Narrow.Rows.Package.{class_of_callee, named_by, start_of, words_where}
use Rattle.cjc_exported.specs.Narrow.Rows.Resolved.{method_found}
use Rattle.cjc_exported.specs.World.Classes.{Class, all_classes, class_named}
use Rattle.cjc_exported.specs.World.Files.{Files}
use Rattle.cjc_exported.specs.World.Lookup.{receiver}
use Rattle.cjc_exported.specs.World.Subtype.{is_subtype}
use Rattle.cjc_exported.specs.World.declared.found.Found.{Found}
use Rattle.cjc_exported.specs.World.declared.image.StaticImage.{StaticImage}
use Rattle.cjc_link_semantics.specs.JvmSemantics.Group.{group_sent, joint, joint_method, package_of, selection_for}
use Rattle.cjc_link_semantics.specs.JvmSemantics.Linked.{Inside, Method}
use Rattle.cjc_link_semantics.specs.JvmSemantics.Linked
use Rattle.cjc_link_semantics.specs.JvmSemantics.OnePackage.{ResolvedMember, callee_at, entry_named, first_super}
use Rattle.cjc_link_semantics.specs.JvmSemantics.OnePackage.{interface_callee, method_hit, of_class, selected_from}
use Rattle.cjc_token_proof.specs.NCode.ByLabel.{Callee, Fixed, Named, OnInterface, OnObject, OnSuper}
use Rattle.cjc_token_proof.specs.NCode.declared.narrow.NMethod.{NMethod}
use Rattle.cjc_joint_proof.specs.JointCode.{InPackage, JointCalls, of_package}

-- the place of the package of a class; how many packages there are where none is its
abbrev pub place_of : (group : List Files) → (class : List ℕ) → ℕ
place_of [] class = 0
place_of (p ∷ group) class = if bytes_eq p.package_name (package_of class) then 0 else suc (place_of group class)

-- ---- methods that a package names, in the joint world

module _ (files : Files) (w : List Class) (asker : Files) where
  -- the method that the joint world has for one that the package finds
  abbrev pub found_for : MemberId → Option Found
  found_for m =
      option_and_then (λ (hit : ResolvedMember). let owner = hit.owner in joint_method w owner m)
      (method_found (all_classes asker) m)

  -- its class and its flags there
  abbrev pub hit_for : MemberId → Option ResolvedMember
  hit_for m = option_and_then (method_hit w) (found_for m)

  -- a method that is found, by the class that declares it
  abbrev pub direct_by : MemberId → Found → ResolvedMember → Option Linked.Callee
  direct_by m f hit = let owner = hit.owner in callee_at files owner.name m f

  -- the method itself
  abbrev pub direct : MemberId → Option Linked.Callee
  direct m = option_and_then (λ f. option_and_then (direct_by m f) (method_hit w f)) (found_for m)

  -- what is selected for it from a class upwards
  abbrev pub selected : MemberId → (class : List ℕ) → Option Linked.Callee
  selected m class = option_and_then (λ hit. selected_from files w (selection_for w hit) class m) (hit_for m)

  -- what is selected from the superclass of the class that holds the code
  abbrev pub above : MemberId → Option Linked.Callee
  above m = option_and_then (λ super. selected (of_class super m) super) (first_super (class_named w m.class))

  -- an interface's method that is found, on an object of a type
  abbrev pub interface_by : MemberId → (type : List ℕ) → ResolvedMember → Option Linked.Callee
  interface_by m type hit =
      let owner = hit.owner in
      interface_callee files w (selection_for w hit) owner.name type m (class_named w (receiver type))

  -- the same, where it is found
  abbrev pub by_interface : MemberId → (type : List ℕ) → Option Linked.Callee
  by_interface m type = option_and_then (interface_by m type) (hit_for m)

  -- what a call selects on a receiver of a type
  abbrev pub selected_on : Callee → (type : List ℕ) → Option Linked.Callee
  selected_on (Fixed on m) type = direct m
  selected_on (OnObject m) type = selected m type
  selected_on (OnSuper m) type = above m
  selected_on (OnInterface words m) type = by_interface m type

  -- without receiver, a static method alone
  abbrev pub on_class : Callee → Option Linked.Callee
  on_class (Fixed false m) = direct m
  on_class callee = None

  -- what a call reaches, on a receiver that is of the class that it names
  abbrev pub callee_for : Callee → Option (Shape (List ℕ)) → Option Linked.Callee
  callee_for callee None = on_class callee
  callee_for callee (Some kind) = if is_subtype w (shape_name kind) (class_of_callee callee)
      then selected_on callee (shape_name kind) else None

  -- how many words it takes
  abbrev pub words_for : Callee → Option ℕ
  words_for (Fixed on m) = words_where on m (hit_for m)
  words_for (OnObject m) = words_where true m (hit_for m)
  words_for (OnSuper m) = words_where true m (above m)
  words_for (OnInterface n m) = Some n

-- ---- the look-ups of calls

module _ {P : Type 0} (group : List Files) (begins : Method → Start P) where
  -- a method begins in the code of its package
  abbrev pub start_for : Method → Start (InPackage P)
  start_for m = let id = m.id in start_as (of_package (place_of group id.class)) (λ code at. at) (begins m)

  -- what is reached of what is found or selected
  abbrev pub reached_for : Option Linked.Callee → Reached (InPackage P)
  reached_for None = Nowhere
  reached_for (Some (Inside m)) = Within (start_for m)
  reached_for (Some (Linked.Abroad event)) = Abroad event

  -- over the classes of the joint world
  abbrev pub calls_by : (files : Files) → List Class → JointCalls P
  calls_by files w = record {
    words = λ m. option_and_then (λ asker. words_for files w asker m.item) (slice_get group m.part);
    reached = λ m kind. reached_for (option_and_then (λ asker. callee_for files w asker m.item kind)
        (slice_get group m.part));
    called = λ id. option_map start_for (entry_named files w id);
    sent = λ kind id. option_map start_for (group_sent files w (shape_name kind) id);
  }

  -- What calls name in the joint world, where methods begin so.
  abbrev pub joint_calls : JointCalls P
  joint_calls = calls_by (joint group) (all_classes (joint group))

-- ---- the machine of a group

-- The look-ups that do not depend on who asks: those of the joint world.
unfoldable pub joint_named : (group : List Files) → StaticImage → (code : Method → NMethod) → Named
joint_named group image code = named_by (joint group) image (all_classes (joint group)) code

-- How methods begin by the narrow code that is written for each, and what calls of it reach.
unfoldable pub joint_labels : (group : List Files) → (code : Method → NMethod) → JointCalls NMethod
joint_labels group code = joint_calls group (start_of code)
