-- What a package of a group calls, in its own files first, and then in the world of all; and what a script sends.
use Rattle.std.proofs.Common.{◌≡◌, ℕ, List, sym, ap, ◌∙◌, true, false}
use Rattle.std.specs.Prelude.{Option, Some, None, option_and_then, option_map, ◌&&◌, if◌then◌else◌, MatchOption}
use Rattle.cjc_world.specs.Bytes.declared.fault.MemberId.{MemberId}
use Rattle.cjc_world.specs.declared.found.Found.{Found}
use Rattle.cjc_world.specs.Files.{Files}
use Rattle.cjc_world.specs.Classes.{Class, all_classes}
use Rattle.cjc_world.specs.Lookup.{find_field, find_method}
use Rattle.cjc_world.specs.Subtype.{is_subtype}
use Rattle.cjc_jvm_semantics.specs.Linked.{ResolvedField}
use Rattle.cjc_jvm_semantics.specs.OnePackage.{constant_at, field_by, field_hit}
use Rattle.cjc_jvm_semantics.specs.OnePackage.{ResolvedMember, call_by, is_initialiser, is_sendable, method_at}
use Rattle.cjc_jvm_semantics.specs.OnePackage.{method_hit, sent_by}
use Rattle.cjc_jvm_semantics.specs.Group.{call_from, group_call, group_sent, joint_call, joint_field, joint_method}
use Rattle.cjc_jvm_semantics.specs.Group.{selection_for}

module _ (files : Files) (w : List Class) (id : MemberId) (asker : Files) (holder : List ℕ) (op : ℕ) where
  pub not_found : find_method (all_classes asker) id.class id.name id.desc ≡ None
      → call_from files w holder op id asker ≡ None
  not_found e = ap (option_and_then (λ f. option_and_then (joint_call files w holder op id)
      (method_hit (all_classes asker) f))) e

  module _ (f : Found) (found : find_method (all_classes asker) id.class id.name id.desc ≡ Some f) where
    pub not_hit : method_hit (all_classes asker) f ≡ None → call_from files w holder op id asker ≡ None
    not_hit e = ap (option_and_then (λ f. option_and_then (joint_call files w holder op id)
        (method_hit (all_classes asker) f))) found ∙ ap (option_and_then (joint_call files w holder op id)) e

    module _ (hit : ResolvedMember) (there : method_hit (all_classes asker) f ≡ Some hit) where
      by_hit : call_from files w holder op id asker ≡ joint_call files w holder op id hit
      by_hit = ap (option_and_then (λ f. option_and_then (joint_call files w holder op id)
          (method_hit (all_classes asker) f))) found ∙ ap (option_and_then (joint_call files w holder op id)) there

      pub not_joint : joint_method w hit.owner id ≡ None → call_from files w holder op id asker ≡ None
      not_joint e = by_hit ∙ ap (option_and_then (λ f. option_and_then (λ hit. call_by files w (selection_for w hit)
          holder op id f hit) (method_hit w f))) e

      module _ (g : Found) (is : joint_method w hit.owner id ≡ Some g) where
        pub not_joint_hit : method_hit w g ≡ None → call_from files w holder op id asker ≡ None
        not_joint_hit e = by_hit ∙ ap (option_and_then (λ f. option_and_then (λ hit. call_by files w
            (selection_for w hit) holder op id f hit) (method_hit w f))) is ∙ ap (option_and_then (λ hit. call_by files
            w
            (selection_for w hit) holder op id g hit)) e

        pub called : (h : ResolvedMember) → method_hit w g ≡ Some h → call_from files w holder op id asker
            ≡ call_by files w (selection_for w h) holder op id g h
        called h e = by_hit ∙ ap (option_and_then (λ f. option_and_then (λ hit. call_by files w (selection_for w hit)
            holder op id f hit) (method_hit w f))) is ∙ ap (option_and_then (λ hit. call_by files w
            (selection_for w hit) holder op id g hit)) e

  -- the files of the package that asks are these
  pub asked : is_initialiser id.name ≡ false → {o : Option Files} → Some asker ≡ o
      → group_call files w holder op id o ≡ call_from files w holder op id asker
  asked plain {o} is = ap (λ t. if t then None else option_and_then (call_from files w holder op id) o) plain
      ∙ ap (option_and_then (call_from files w holder op id)) (sym is)

-- what is said of both cases, from what is said of both
pub on_match : {A : Type 0} (o : Option A) {P Q : Type 0} {R S : A → Type 0} → (P → Q) → ((a : A) → R a → S a)
    → MatchOption o P R → MatchOption o Q S
on_match None none some e = none e
on_match (Some a) none some e = some a e

-- ---- fields

-- a field that was found in a world, where this one is the same
pub field_there : {world files : Files} → world ≡ files → (id : MemberId) (owner : List ℕ) (f : Found)
    {o : Option ResolvedField} → o ≡ option_map (field_by (constant_at world f) id) (field_hit (all_classes world) f)
    → Some f ≡ find_field (all_classes world) owner id.name id.desc → o ≡ joint_field files (all_classes files) id owner
field_there {world} {files} same id owner f is found =
    is ∙ ap (option_and_then (λ x. option_map (field_by (constant_at world x) id) (field_hit (all_classes world) x)))
    found
    ∙ ap (λ w. joint_field w (all_classes w) id owner) same

-- ---- what scripts send

module _ (files : Files) (w : List Class) (type : List ℕ) (id : MemberId) (f : Found) (hit : ResolvedMember)
    (found : find_method w id.class id.name id.desc ≡ Some f) (is_hit : method_hit w f ≡ Some hit) where
  sent_is : group_sent files w type id ≡ sent_by files w (selection_for w hit) type id hit
  sent_is = ap (option_and_then (λ f. option_and_then (λ hit. sent_by files w (selection_for w hit) type id hit)
      (method_hit w f))) found ∙ ap (option_and_then (λ hit. sent_by files w (selection_for w hit) type id hit)) is_hit

  pub none_sent : (is_sendable id hit && is_subtype w type id.class) ≡ false → None ≡ group_sent files w type id
  none_sent e = sym (sent_is ∙ ap (λ t. if t then option_and_then (method_at files) (selection_for w hit type id)
      else None) e)

  pub is_sent : (is_sendable id hit && is_subtype w type id.class) ≡ true
      → option_and_then (method_at files) (selection_for w hit type id) ≡ group_sent files w type id
  is_sent e = sym (sent_is ∙ ap (λ t. if t then option_and_then (method_at files) (selection_for w hit type id)
      else None) e)
