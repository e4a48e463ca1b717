-- The first state of several packages, by name and by token; and their runs from there, where calls agree.
use Rattle.std.proofs.Common.{◌≡◌, ℕ, refl, sym, ap, subst, ◌∙◌, true, List, [], ◌∷◌, map}
use Rattle.cjc_card_semantics.specs.Bytecode.Alike.{IsFree, KnownState, no_frames, state_as}
use Rattle.cjc_card_semantics.specs.Bytecode.Effects.{Memory, Slot}
use Rattle.cjc_card_semantics.specs.Bytecode.Machine.{run, start}
use Rattle.cjc_card_semantics.specs.Bytecode.Renaming.{KnownHeap, heap_object_as, memory_as, no_things, numbers_known}
use Rattle.cjc_card_semantics.specs.Bytecode.Renaming.{one_thing}
use Rattle.cjc_card_semantics.specs.Bytes.declared.fault.MemberId.{MemberId}
use Rattle.cjc_card_semantics.specs.Machine.ByToken as card
use Rattle.cjc_card_semantics.specs.Machine.ByToken.{by_token}
use Rattle.cjc_card_semantics.specs.Machine.Loaded.{Loaded}
use Rattle.cjc_card_semantics.specs.Script.declared.script.Script.{Script}
use Rattle.cjc_exported.specs.Narrow.Rows.Package.{first_array, first_memory}
use Rattle.cjc_exported.specs.World.declared.image.ArrayCell.{ArrayCell}
use Rattle.cjc_link_semantics.specs.Components.Package.{Package}
use Rattle.cjc_link_semantics.specs.JvmSemantics.Group.{joint, joint_classes, joint_image}
use Rattle.cjc_link_semantics.specs.JvmSemantics.OnePackage.{cells}
use Rattle.cjc_link_semantics.specs.Loaded.{group_loaded}
use Rattle.cjc_exported.specs.Narrow.Rows.Package.{first_cell}
use Rattle.cjc_token_proof.specs.ByToken.Cells.{are_cells}
use Rattle.cjc_token_proof.specs.ByToken.Objects.{slots_of}
use Rattle.cjc_token_proof.specs.NCode.ByLabel.{Named}
use Rattle.cjc_token_proof.specs.NCode.Lowering.Agreement.{Cells, everything, known_by}
use Rattle.cjc_token_proof.specs.NCode.Lowering.Placed.{Placed}
use Rattle.cjc_token_proof.specs.NCode.declared.narrow.NMethod.{NMethod}
use Rattle.cjc_token_proof.specs.Tables.Tables.{ClassTablesAgree}
use Rattle.cjc_joint_proof.specs.Begun.{AreBegun, all_files, all_images, statics_in}
use Rattle.cjc_joint_proof.specs.Cells.{all_fields}
use Rattle.cjc_joint_proof.specs.JointAlike.{AllHold, AnyCall, AnyMethod, IsCalled, IsOfGroup, JointCallsAgree}
use Rattle.cjc_joint_proof.specs.JointAlike.{JointMethodsAgree, JointNaming, joint_code_alone, joint_names, naming_at}
use Rattle.cjc_joint_proof.specs.JointCalled.{called_together}
use Rattle.cjc_joint_proof.specs.JointCode.{JointCalls, by_label_in}
use Rattle.cjc_joint_proof.specs.JointPackages.{AreLinked, class_together, files_together}
use Rattle.cjc_joint_proof.specs.JointTables.{known_together as known_names, memories_together}
use Rattle.cjc_joint_proof.specs.JointTogether.{methods_together, naming_together}
use Rattle.cjc_joint_proof.specs.Loading.{group_of}
use Rattle.cjc_joint_proof.specs.Worlds.{AreApart}
use Rattle.cjc_joint_proof.proofs.ApartLaws.{packages_apart}
use Rattle.cjc_joint_proof.proofs.BegunLaws.{memory_alike, statics_fit}
use Rattle.cjc_joint_proof.proofs.JointCodeLaws.{as_by_label}
use Rattle.cjc_joint_proof.proofs.TabledLaws.{files_are}

-- an array of numbers has no name
arrays_stay : (arrays : List ArrayCell) → map (heap_object_as (λ (c : List ℕ). c) (λ (c : List ℕ) (slots : List (Slot
    MemberId)). slots)) (map first_array arrays) ≡ map first_array arrays
arrays_stay [] = refl
arrays_stay (a ∷ arrays) = ap (λ os. first_array a ∷ os) (arrays_stay arrays)

module _ (packages : List Package) (linked : AreLinked packages) (begun : AreBegun packages) where
  abbrev l : Loaded
  l = group_loaded (group_of packages)

  abbrev g : JointNaming
  g = naming_together packages

  -- before the first entry, by name
  abbrev first : Memory (List ℕ) MemberId Cells
  first = first_memory (joint (files_together packages)) (joint_image (all_images packages))

  apart : AreApart (all_files packages)
  apart = subst AreApart (sym (files_are packages)) (packages_apart packages linked)

  arrays_known : (arrays : List ArrayCell) → KnownHeap (known_by (known_names packages)) (map first_array arrays)
  arrays_known [] = no_things
  arrays_known (a ∷ arrays) = one_thing numbers_known (arrays_known arrays)

  statics_known : are_cells (all_fields (map statics_in packages)) (map first_cell (cells (joint_image (all_images
      packages)) (joint_classes (files_together packages)))) ≡ true
  statics_known = ap (λ fs. are_cells (all_fields (map statics_in packages)) (map first_cell (cells (joint_image
      (all_images packages)) (joint_classes fs)))) (sym (files_are packages)) ∙ statics_fit packages begun apart

  pub begins_known : (script : Script) → KnownState (joint_names g (memories_together packages)) (known_by (known_names
      packages)) (IsOfGroup l (methods_together packages)) (IsCalled (called_together packages)) (start first script)
  begins_known script = record {
    frames = no_frames;
    memory = record {
      heap = arrays_known (let i = joint_image (all_images packages) in i.arrays);
      statics = statics_known;
    };
  }

  pub begins_there : (script : Script) → card.start l script
      ≡ state_as (joint_names g (memories_together packages)) (start first script)
  begins_there script = ap (λ m. start m script) (memory_alike (class_together packages) (slots_of (naming_at g 0))
      packages begun apart ∙ ap (λ fs. memory_as (class_together packages) (slots_of (naming_at g 0)) (let m =
      memories_together packages in m.statics) (first_memory (joint fs) (joint_image (all_images packages)))) (files_are
      packages))

  begins_here : (script : Script) → state_as joint_code_alone (start first script) ≡ start first script
  begins_here script = ap (λ h. start (record { heap = h; statics = let m = first in m.statics }) script) (arrays_stay
      (let i = joint_image (all_images packages) in i.arrays))

  -- runs from there
  pub runs_together : (v : Named) (labels : JointCalls NMethod) (places : JointCalls Placed)
      → AllHold g (methods_together packages)
      → ((q : ℕ) → ClassTablesAgree (naming_at g q) (memories_together packages) v (known_by (known_names packages)))
      → JointCallsAgree g (methods_together packages) (memories_together packages) v places (known_by (known_names
      packages)) (IsCalled (called_together packages)) → JointMethodsAgree labels places → (script : Script) (k : ℕ)
      → IsFree joint_code_alone (known_by everything) AnyMethod AnyCall (run (by_label_in v labels) k (start first
      script)) → card.run l script k ≡ run (by_label_in v labels) k (start first script)
  runs_together v labels places hold tables calls methods script k free =
      ap (run (by_token l) k) (begins_there script)
      ∙ as_by_label g (methods_together packages) (memories_together packages) v labels places (known_by (known_names
      packages)) (IsCalled (called_together packages)) hold tables calls methods k (start first script) (begins_known
      script) (subst (λ s. IsFree joint_code_alone (known_by everything) AnyMethod AnyCall (run (by_label_in v labels) k
      s)) (sym (begins_here script)) free)
      ∙ ap (run (by_label_in v labels) k) (begins_here script)
