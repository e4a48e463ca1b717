-- The descriptors of methods and fields of read files.
use Rattle.std.proofs.Common.{◌≡◌, ℕ, ◌<◌, ◌^◌, refl, sym, ap, subst, ◌∙◌, arith, Bool, true, false, List, [], length}
use Rattle.std.specs.Prelude.{Option, Some, None, option_and_then, slice_get, if◌then◌else◌}
use Rattle.std.proofs.lemmas.Bool.{lt-ltb}
use Rattle.cjc_bytes.specs.Descriptor.{Parts}
use Rattle.cjc_bytes.specs.Spots.{desc_of}
use Rattle.cjc_check_proof.proofs.WorldProofOwn.{mapped_at}
use Rattle.cjc_world.specs.ClassFile.Fits as fits
use Rattle.cjc_world.proofs.ClassFileFitting.{spelt_fits}
use Rattle.cjc_world.specs.ClassFile.declared.tree.ClassTree.{ClassTree}
use Rattle.cjc_world.specs.ExportFile.Members.{as_desc, same_bool}
use Rattle.cjc_world.specs.ExportFile.Writable.{ClassFits, MethodStands}
use Rattle.cjc_bytes.specs.AccessFlags.{is_interface}
use Rattle.cjc_bytes.proofs.Gets.{all_at}
use Rattle.cjc_components.specs.Bytecode.ReadLaws.Members.{IsDescOf, IsReadClass}
use Rattle.cjc_classes.specs.Types.Types.{no_parts, parts, parts_or_none}
use Rattle.cjc_narrow_proof.proofs.BytecodeMembers.{read_class}
use Rattle.cjc_narrow_proof.specs.Tables.Names.{IsDesc}
use Rattle.cjc_check_proof.specs.WorldProof.Files.{AreReadFiles}
use Rattle.cjc_classes.specs.Subset.Members.{imports}
use Rattle.cjc_vtable.proofs.Filed.{IsFiled, filed, get-has, has-get, in_class_file}
use Rattle.cjc_vtable.proofs.Filed.{in_export_file, of-imports}
use Rattle.cjc_vtable.proofs.Read.{each-after}
use Rattle.cjc_world.specs.Classes.{Class, Member, all_classes, class_named, method_of_class, method_of_export}
use Rattle.cjc_world.specs.Files.{Files}
use Rattle.cjc_shape.proofs.JudgedLaws.Tokens.{method_fits}

-- bytes that are kept as a method's descriptor are one
kept_desc : (desc : List ℕ) → as_desc true desc ≡ Some desc → IsDescOf true desc
kept_desc desc e = by (desc_of desc) refl e
  where
    by : (o : Option Parts) → desc_of desc ≡ o → option_and_then (λ d. if same_bool true d.is_method then Some desc
        else None) o ≡ Some desc → (d : Parts) × (desc_of desc ≡ Some d) × (d.is_method ≡ true)
    by None f e = absurd cc
    by (Some d) f e = go d.is_method refl e
      where
        go : (b : Bool) → d.is_method ≡ b → (if b then Some desc else None) ≡ Some desc → (d : Parts)
            × (desc_of desc ≡ Some d) × (d.is_method ≡ true)
        go true g e = (d, f, g)
        go false g e = absurd cc

-- a descriptor of a length that 32 bits count has its parts
pub parts_are : (desc : List ℕ) (d : Parts) → length desc < 2 ^ 32 → desc_of desc ≡ Some d → IsDesc desc
unfolding parts
parts_are desc d short is =
    let fits = lt-ltb (length desc) (2 ^ 32) short in
    let same : parts desc ≡ d = ap (λ b. if b then parts_or_none (desc_of desc) else no_parts) fits
    ∙ ap parts_or_none is in
    is ∙ ap Some (sym same)

module _ (files : Files) (read : AreReadFiles files) where
  pub read_of : (n : ℕ) (c : ClassTree) → slice_get files.classes n ≡ Some c → IsReadClass c
  read_of n c e = let r = read.classes n c e in read_class c r.0 r.1 r.2

  -- a method of a class of the world
  pub member_desc : (d : Class) → class_named (all_classes files) d.name ≡ Some d → (i : ℕ) (m : Member)
      → slice_get d.methods i ≡ Some m → IsDescOf true m.desc × (length m.desc < 2 ^ 32)
  member_desc d named i m e = by d (filed files d.name d named) e
    where
      by : (d : Class) → IsFiled files d → slice_get d.methods i ≡ Some m → IsDescOf true m.desc
          × (length m.desc < 2 ^ 32)
      by d (in_class_file n t at) e =
          let k = mapped_at method_of_class t.methods i m e in
          let same = ap (λ (v : Member). v.desc) k.2 in
          let bytes = read.classes n t at in
          let r = read_of n t at in
          let few = spelt_fits t bytes.0 bytes.1 bytes.2 in
          let one = all_at fits.MethodFits t.methods i k.0 few.methods k.1 in
          let short = one.desc in (
            subst (IsDescOf true) (sym same) (r.methods i k.0 k.1),
            subst (λ v. length v < 2 ^ 32) (sym same)
                (omega (arith, short)),
          )
      by d (in_export_file n t at) e =
          let k = mapped_at method_of_export t.methods i m e in
          let same = ap (λ (v : Member). v.desc) k.2 in
          let tree = of-imports t files.exports (get-has t (imports files.exports) n at) in
          let place = has-get tree.0 files.exports tree.1 in
          let w = read.exports place.0 tree.0 place.1 in
          let class = each-after ClassFits [] (let u = tree.0 in u.classes) t w.classes tree.2 in
          let fit = class.1 in
          let stands = each-after (MethodStands (is_interface t.flags) (length t.methods)) [] t.methods k.0 fit.methods
          (get-has k.0 t.methods i k.1) in
          let one = method_fits (is_interface t.flags) (length t.methods) stands.0 k.0 stands.1 in
          let short = one.desc in (
            subst (IsDescOf true) (sym same) (kept_desc (let x = k.0 in x.desc) one.is_desc),
            subst (λ v. length v < 2 ^ 32) (sym same) (omega (arith, short)),
          )
