-- The look-ups of narrow code of several packages ask for the code of methods of class files alone.
use Rattle.std.proofs.Common.{◌≡◌, ℕ, refl, ap, Bool, true, false, List}
use Rattle.std.specs.Prelude.{Option, Some, None, option_and_then, option_map, slice_get, if◌then◌else◌}
use Rattle.cjc_bytes.specs.declared.fault.MemberId.{MemberId}
use Rattle.cjc_joint_proof.specs.JointCode.{InPackage, of_package}
use Rattle.cjc_joint_proof.specs.JointNames.{above, by_interface, callee_for, direct, direct_by, found_for, hit_for}
use Rattle.cjc_joint_proof.specs.JointNames.{interface_by, joint_labels, joint_named, on_class, place_of, reached_for}
use Rattle.cjc_joint_proof.specs.JointNames.{selected, selected_on, start_for, words_for}
use Rattle.cjc_jvm_semantics.specs.Group.{group_sent, joint, selection_for}
use Rattle.cjc_jvm_semantics.specs.Linked.{Abroad, Callee, Inside, Method}
use Rattle.cjc_jvm_semantics.specs.OnePackage.{entry_named, first_super, method_at}
use Rattle.cjc_jvm_semantics.specs.OnePackage.{method_hit, of_class, selected_from}
use Rattle.cjc_theorem.proofs.SoundRuns.Lookups.{FindsOwn, IsOwn, IsOwnOne, callee_own, entry_own, finds_after}
use Rattle.cjc_theorem.proofs.SoundRuns.Lookups.{interface_own, same_look_ups, same_start, selected_own, sent_own}
use Rattle.cjc_token_proof.specs.CardSemantics.Bytecode.Alike.{start_as}
use Rattle.cjc_token_proof.specs.CardSemantics.Bytecode.Machine.{Within}
use Rattle.cjc_token_proof.specs.NCode.ByLabel.{Fixed, OnInterface, OnObject, OnSuper}
use Rattle.cjc_token_proof.specs.NCode.ByLabel as labels
use Rattle.cjc_token_proof.specs.NCode.declared.narrow.NMethod.{NMethod}
use Rattle.cjc_token_proof.specs.Narrow.Rows.Package.{class_of_callee, named, start_of}
use Rattle.cjc_token_proof.specs.Script.Sorts.{Shape, shape_name}
use Rattle.cjc_world.specs.Classes.{Class, all_classes, class_named}
use Rattle.cjc_world.specs.Files.{Files}
use Rattle.cjc_world.specs.Lookup.{receiver}
use Rattle.cjc_world.specs.Subtype.{is_subtype}
use Rattle.cjc_world.specs.declared.found.Found.{Found}
use Rattle.cjc_world.specs.declared.image.StaticImage.{StaticImage}

-- ---- what a package's code names

module _ (files : Files) (asker : Files) where
  abbrev w : List Class
  w = all_classes files

  abbrev Finds : Option Callee → Type 0
  Finds o = FindsOwn files o

  direct_finds : (id : MemberId) → Finds (direct files w asker id)
  direct_finds id = finds_after files (λ f. option_and_then (direct_by files w asker id f) (method_hit w f))
      (λ f. finds_after files (direct_by files w asker id f)
      (λ hit. callee_own files (let owner = hit.owner in owner.name) id f) (method_hit w f))
      (found_for files w asker id)

  selected_finds : (id : MemberId) (class : List ℕ) → Finds (selected files w asker id class)
  selected_finds id class = finds_after files (λ hit. selected_from files w (selection_for w hit) class id)
      (λ hit. selected_own files (selection_for w hit) class id) (hit_for files w asker id)

  above_finds : (id : MemberId) → Finds (above files w asker id)
  above_finds id = finds_after files (λ super. selected files w asker (of_class super id) super)
      (λ super. selected_finds (of_class super id) super) (first_super (class_named w id.class))

  interface_finds : (id : MemberId) (type : List ℕ) → Finds (by_interface files w asker id type)
  interface_finds id type = finds_after files (interface_by files w asker id type)
      (λ hit. interface_own files (selection_for w hit) (let owner = hit.owner in owner.name) type id
      (class_named w (receiver type))) (hit_for files w asker id)

  on_finds : (callee : labels.Callee) (type : List ℕ) → Finds (selected_on files w asker callee type)
  on_finds (Fixed on id) type = direct_finds id
  on_finds (OnObject id) type = selected_finds id type
  on_finds (OnSuper id) type = above_finds id
  on_finds (OnInterface n id) type = interface_finds id type

  class_finds : (callee : labels.Callee) → Finds (on_class files w asker callee)
  class_finds (Fixed false id) = direct_finds id
  class_finds (Fixed true id) = λ m e. absurd cc
  class_finds (OnObject id) = λ m e. absurd cc
  class_finds (OnSuper id) = λ m e. absurd cc
  class_finds (OnInterface n id) = λ m e. absurd cc

  pub callee_finds : (callee : labels.Callee) (o : Option (Shape (List ℕ))) → Finds (callee_for files w asker callee o)
  callee_finds callee None = class_finds callee
  callee_finds callee (Some kind) = by (is_subtype w (shape_name kind) (class_of_callee callee))
    where
      by : (b : Bool) → Finds (if b then selected_on files w asker callee (shape_name kind) else None)
      by true = on_finds callee (shape_name kind)
      by false = λ m e. absurd cc

-- ---- look-ups

-- of each method of a class file of the packages they have the same code
abbrev pub CodesAgree : (group : List Files) → (one other : Method → NMethod) → Type 0
CodesAgree group one other = (f : Found) (m : Method) → method_at (joint group) f ≡ Some m → one m ≡ other m

module _ (group : List Files) (image : StaticImage) (one other : Method → NMethod) (alike : CodesAgree group one other)
  where
    abbrev all : Files
    all = joint group

    abbrev classes : List Class
    classes = all_classes all

    same_begin : (m : Method) → IsOwn all m → start_for group (start_of one) m ≡ start_for group (start_of other) m
    same_begin m own = ap (start_as (of_package (place_of group (let id = m.id in id.class))) (λ code at. at))
        (same_start all image one other alike m own)

    same_for : (o : Option Callee) → FindsOwn all o → reached_for group (start_of one) o
        ≡ reached_for group (start_of other) o
    same_for None own = refl
    same_for (Some (Inside m)) own = ap Within (same_begin m (own m refl))
    same_for (Some (Abroad event)) own = refl

    same_starts : (o : Option Method) → IsOwnOne all o → option_map (start_for group (start_of one)) o
        ≡ option_map (start_for group (start_of other)) o
    same_starts None own = refl
    same_starts (Some m) own = ap (λ x. Some x) (same_begin m (own m refl))

    same_reached : (m : InPackage labels.Callee) (o : Option (Shape (List ℕ)))
        → reached_for group (start_of one) (option_and_then (λ asker. callee_for all classes asker m.item o)
        (slice_get group m.part))
        ≡ reached_for group (start_of other) (option_and_then (λ asker. callee_for all classes asker m.item o)
        (slice_get group m.part))
    same_reached m o = same_for (option_and_then (λ asker. callee_for all classes asker m.item o)
        (slice_get group m.part)) (finds_after all (λ asker. callee_for all classes asker m.item o)
        (λ asker. callee_finds all asker m.item o) (slice_get group m.part))

    pub same_named : joint_named group image one ≡ joint_named group image other
    unfolding joint_named named
    same_named = same_look_ups all image one other alike

    pub same_labels : joint_labels group one ≡ joint_labels group other
    unfolding joint_labels
    same_labels = λ i. record {
      words = λ m. option_and_then (λ asker. words_for all classes asker m.item) (slice_get group m.part);
      reached = λ m o. same_reached m o i;
      called = λ id. same_starts (entry_named all classes id) (entry_own all id) i;
      sent = λ kind id. same_starts (group_sent all classes (shape_name kind) id)
          (sent_own all (selection_for classes) (shape_name kind) id) i;
    }
