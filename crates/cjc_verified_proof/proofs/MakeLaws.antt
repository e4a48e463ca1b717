-- Objects of classes that the type checker lets an instruction make.
use Rattle.std.proofs.Common.{◌≡◌, ◌<◌, ◌+◌, ◌*◌, ◌-◌, ◌/◌, ◌%◌, ◌^◌, ℕ, zero, suc, Bool, false, List, [], ◌∷◌}
use Rattle.std.proofs.Common.{slice_get, Option, Some, None, refl, sym, ap, subst, ◌∙◌, arith, nat_lt}
use Rattle.std.specs.Prelude.{if◌then◌else◌, is_some, option_and_then, option_map}
use Rattle.std.proofs.lemmas.Bool.Decides.{nat_tests}
use Rattle.cjc_bytes.specs.AccessFlags.{acc_abstract, has}
use Rattle.cjc_bytes.specs.AccessFlags as flags
use Rattle.cjc_capread.specs.declared.tree.ClassRef.{ClassRef}
use Rattle.cjc_capread.specs.declared.tree.ClassRef.TheVariants.{Inside, Outside}
use Rattle.cjc_capread.specs.declared.tree.PoolEntry.TheVariants.{Classref}
use Rattle.cjc_capread.specs.Parts as parts
use Rattle.cjc_world.specs.ExportFile.declared.tree.ExportClass.{ExportClass}
use Rattle.cjc_world.specs.ExportFile.declared.tree.ExportTree.{ExportTree}
use Rattle.cjc_check_rules.specs.Classes.{class_with}
use Rattle.cjc_check_rules.specs.Complete.{Complete}
use Rattle.cjc_world.specs.declared.image.StaticImage.{StaticImage}
use Rattle.cjc_world.specs.Classes as world
use Rattle.cjc_world.specs.Files.{Files}
use Rattle.cjc_card_semantics.specs.Script.declared.value.Value.{Value}
use Rattle.cjc_card_semantics.specs.Script.Sorts.{OfClass}
use Rattle.cjc_intervals.specs.Types.declared.cell.Cell.{Cell}
use Rattle.cjc_card_semantics.specs.Bytecode.Effects.{Memory, New, effect}
use Rattle.cjc_card_semantics.specs.Bytecode.Meanings.{Makes}
use Rattle.cjc_card_semantics.specs.Machine.Loaded.{Loaded, OfFile}
use Rattle.cjc_card_semantics.specs.Machine.Classes.{Class, Own, External, Field, class_of, external, imported_class}
use Rattle.cjc_card_semantics.specs.Machine.Classes.{is_interface, is_interface_file, is_interface_info, with_token}
use Rattle.cjc_card_semantics.specs.Machine.Operations.{or_undone}
use Rattle.cjc_card_semantics.specs.Machine.Operations as machine
use Rattle.cjc_card_semantics.specs.Machine.Statics.{Image}
use Rattle.cjc_card_semantics.specs.Machine.ByToken.{classes}
use Rattle.cjc_components.specs.Paired.Naming.{files_from}
use Rattle.cjc_components.specs.Types.{ref_nibbles}
use Rattle.cjc_verify.specs.Frames.Acts.{stack_behind}
use Rattle.cjc_card_acts.specs.CardTypes.{MemberType, class_by, is_type_of, shape_by}
use Rattle.cjc_token_proof.specs.Tables.Sound.{IsSound, AreTyped, AreFieldDescs}
use Rattle.cjc_verify.specs.ClassTypes.{class_type}
use Rattle.cjc_verify.specs.Instructions.{using}
use Rattle.cjc_verify.specs.Named.{is_unmade_class, is_unmade_export, names_unmade}
use Rattle.cjc_verify.specs.Pairs.{Pair, class_at, pair_of}
use Rattle.cjc_verify.specs.Verified.{IsVerified}
use Rattle.cjc_verify_proof.specs.Words.{AreWords, AreLocals}
use Rattle.cjc_verify_proof.specs.Acts.{Passes}
use Rattle.cjc_verify_proof.specs.Heaps.{object_is}
use Rattle.cjc_verify_proof.specs.Memories.{IsMemory, Goes, SupersStand}
use Rattle.cjc_verified_proof.specs.Entries.{IsRef}
use Rattle.cjc_verified_proof.specs.PackageTypes.{StaticInInterfaces, field_types}
use Rattle.cjc_bytes.proofs.Bools.{or_left}
use Rattle.cjc_verify_proof.proofs.FieldLaws.{new_object}
use Rattle.cjc_verified_proof.proofs.DeclaredLaws.{all_declared, has_info}
use Rattle.cjc_verified_proof.proofs.PlaceLaws.{all_read, found_token, import_there}

module _ (applets : Bool) (list : List ℕ) (files : Files) (image : StaticImage) (c : Complete)
    (sound : IsSound list files) (typed : AreTyped files) (descs : AreFieldDescs files)
    (static_ones : StaticInInterfaces files) (verified : IsVerified (pair_of applets files image c)) where
  abbrev p : Pair
  p = pair_of applets files image c

  abbrev l : Loaded
  l = p.loaded

  -- a class of which an object may be made
  pub record IsMade (r : ClassRef) : Type 0 where
    pub class : Class
    pub meant : class_of l 0 r ≡ Some class
    pub plain : is_interface l class ≡ false

  pub made_there : (r : ClassRef) → names_unmade p r ≡ false → IsMade r
  made_there (Inside offset) e = by (class_at p offset) refl e
    where
      by : (o : Option world.Class) → class_at p offset ≡ o → is_unmade_class o ≡ false → IsMade (Inside offset)
      by None f h = cc
      by (Some cl) f h =
          let i = has_info applets list files image c sound typed descs static_ones verified offset cl f
          (or_left (flags.is_interface cl.flags) (has cl.flags acc_abstract) h) in
          record {
            class = Own 0 offset;
            meant = ap (λ b. if b then Some (Own 0 offset) else None) (ap is_some i.info);
            plain = ap is_interface_info i.info;
          }
  made_there (Outside import token) e = by (slice_get files.exports import) refl e
    where
      at : (tree : ExportTree) → slice_get files.exports import ≡ Some tree → (o : Option ExportClass)
          → with_token tree.classes token ≡ o → is_unmade_export o ≡ false → IsMade (Outside import token)
      at tree f None g h = cc
      at tree f (Some x) g h =
          let there : external l import token ≡ Some x = ap (option_and_then (λ (t : ExportTree). with_token t.classes
          token)) f ∙ g in
          let z : 0 + import ≡ import = omega arith in
          let named : slice_get (files_from 0 files.exports) import ≡ Some
          (OfFile import) = import_there 0 files.exports
          import tree f ∙ ap (λ n. Some (OfFile n)) z in
          record {
            class = External import token;
            meant = ap (option_and_then (imported_class l token)) named ∙ ap (λ b. if b then Some
                (External import token)
                else None) (ap is_some there);
            plain = ap is_interface_file there ∙ or_left (flags.is_interface x.flags) (has x.flags acc_abstract) h;
          }

      by : (o : Option ExportTree) → slice_get files.exports import ≡ o
          → is_unmade_export (option_and_then (class_with token) o) ≡ false → IsMade (Outside import token)
      by None f h = cc
      by (Some tree) f h = at tree f (with_token tree.classes token) refl (ap is_unmade_export (sym
          (found_token tree.classes token)) ∙ h)

  -- an instruction that makes an object
  pub makes_go : SupersStand l → (room next : ℕ) (lc : List Cell) (lv : List (Option Value))
      (m : Memory Class Field (List Image)) → AreLocals (object_is l m.heap) lc lv → IsMemory l (field_types p) m
      → (r : ClassRef) (t : MemberType) → IsRef r → names_unmade p r ≡ false → (cs : List Cell) (vs : List Value)
      → AreWords (object_is l m.heap) cs vs → Passes (is_type_of l) room (using p Makes t (Classref r)) lc cs
      → Goes l (field_types p) next (stack_behind (using p Makes t (Classref r)) lc cs) lc m
      (effect (classes l) (or_undone (machine.using l 0 Makes (Classref r))) room next lv m vs)
  makes_go supers room next lc lv m k fit r t ref named cs vs w passes =
      let made = made_there r named in
      let declared = all_declared applets list files image c sound typed descs static_ones verified in
      let shape : shape_by l (class_type r) ≡ Some (OfClass made.class) = ap (option_map OfClass) (all_read l r ref
      ∙ made.meant) in
      subst (λ (o : Option Class). Goes l (field_types p) next (stack_behind (using p Makes t (Classref r)) lc cs) lc m
      (effect (classes l) (or_undone (option_map (λ (x : Class). New x) o)) room next lv m vs)) (sym made.meant)
      (new_object l (field_types p) room next lc lv m k fit supers declared made.class made.plain (class_type r) shape
      (using p Makes t (Classref r)) refl refl cs vs w passes)
