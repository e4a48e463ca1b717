-- The access of methods in the export files of a converted package.
use Rattle.std.proofs.Common.{◌≡◌, ℕ, suc, refl, ap, ◌∙◌, true, false, List, [], ◌∷◌}
use Rattle.std.specs.Prelude.{Some, slice_get}
use Rattle.cjc_bytes.specs.AccessFlags.{is_private}
use Rattle.cjc_world_proof.proofs.CallsLaws.Own.{mapped_at}
use Rattle.cjc_components.specs.Package.{Package, world}
use Rattle.cjc_shape_proof.specs.CheckProof.Exports.{ExportsHaveOneAccess}
use Rattle.cjc_judge.specs.declared.judged.Judged.{Judged}
use Rattle.cjc_components.specs.List.Listed.{ListTree}
use Rattle.cjc_tokens.specs.Members.{In, first_of, later}
use Rattle.cjc_vtable.proofs.Filed.{IsFiled, filed, in_class_file, in_export_file}
use Rattle.cjc_world.specs.Classes.{Class, Member, class_named, method_of_export}
use Rattle.cjc_shape_proof.specs.Written.Converted.{IsConverted}

in_get : (m : Member) (ms : List Member) → In m ms → (k : ℕ) × (slice_get ms k ≡ Some m)
in_get m [] h = elim h [ ]
in_get m (x ∷ ms) first_of = (0, refl)
in_get m (x ∷ ms) (later h) = let r = in_get m ms h in (suc r.0, r.1)

module _ (list : ListTree) (files : List (List ℕ)) (judged : Judged) (p : Package) (is : IsConverted list files judged
    p) where
  -- a method of an imported class is not private
  pub visible : (x : List ℕ) (c : Class) → class_named (world p) x ≡ Some c → c.is_imported ≡ true
      → (k : ℕ) (m : Member) → slice_get c.methods k ≡ Some m → is_private m.flags ≡ false
  visible x c e imported k m at = by c (filed p.files x c e) imported at
    where
      by : (d : Class) → IsFiled p.files d → d.is_imported ≡ true → slice_get d.methods k ≡ Some m
          → is_private m.flags ≡ false
      by d (in_class_file n t there) imported at = cc
      by d (in_export_file n t there) imported at =
          let y = mapped_at method_of_export t.methods k m at in
          ap (λ (v : Member). is_private v.flags) y.2 ∙ (let r = is.plain in r.visible) n t there k y.0 y.1

  pub one_access : ExportsHaveOneAccess (world p)
  one_access x c m e imported h exposed = let at = in_get m c.methods h in visible x c e imported at.0 m at.1
