-- Static methods and constructors that the export files of a converted package list have code.
use Rattle.std.proofs.Common.{◌≡◌, refl, sym, ap, ◌∙◌, Bool, true, false}
use Rattle.std.specs.Prelude.{◌||◌, Some, slice_get}
use Rattle.cjc_verified_proof.specs.Bytes.AccessFlags.{is_abstract, is_static}
use Rattle.cjc_verified_proof.specs.Components.Package.{Package}
use Rattle.cjc_verified_proof.specs.JvmSemantics.OnePackage.{is_constructor}
use Rattle.cjc_verified_proof.specs.World.Classes.{Class, Member, method_of_export}
use Rattle.cjc_verified_proof.proofs.WorldProofOwn.{mapped_at}
use Rattle.cjc_theorem.proofs.VTableFiled.{IsFiled, filed, in_class_file, in_export_file}
use Rattle.cjc_theorem.specs.ShapeProof.Written.Converted.{ExportsArePlain}
use Rattle.cjc_accepted_theorem.specs.ExportsHaveCode.{ExportsHaveCode}

pub exports_code : (p : Package) → ExportsArePlain p.files → ExportsHaveCode p
exports_code p plain d e import k m there unbound = by d (filed p.files d.name d e) import there
  where
    neither : (s c : Bool) → s ≡ false → c ≡ false → (s || c) ≡ true → ⊥
    neither false false e f g = absurd cc
    neither true c e f g = absurd cc
    neither false true e f g = absurd cc

    by : (c : Class) → IsFiled p.files c → c.is_imported ≡ true → slice_get c.methods k ≡ Some m → is_abstract m.flags
        ≡ false
    by c (in_class_file n t at) import here = absurd cc
    by c (in_export_file n t at) import here = split (is_abstract m.flags) refl
      where
        split : (b : Bool) → is_abstract m.flags ≡ b → b ≡ false
        split false f = refl
        split true f =
            let x = mapped_at method_of_export t.methods k m here in
            let off = plain.abstracts n t at k x.0 x.1 (ap (λ (v : Member). is_abstract v.flags) (sym x.2) ∙ f) in
            absurd (neither (is_static m.flags) (is_constructor m.name)
            (ap (λ (v : Member). is_static v.flags) x.2 ∙ off.0)
            (ap (λ (v : Member). is_constructor v.name) x.2 ∙ off.2) unbound)
