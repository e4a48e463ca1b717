-- An interface declares no static, no private method and no constructor, but for its initialiser.
use Rattle.std.proofs.Common.{◌≡◌, ℕ, refl, sym, ap, ◌∙◌, Bool, true, false, not, List, [], length}
use Rattle.std.specs.Prelude.{◌&&◌, ◌||◌, None, Some, is_some, slice_get, codes}
use Rattle.std.specs.Str.{bytes_eq}
use Rattle.std.proofs.lemmas.Slice.Eq.{bytes_eq-Decides}
use Rattle.std.proofs.Common.{subst}
use Rattle.cjc_bytes.specs.AccessFlags.{is_abstract, is_interface, is_private, is_static}
use Rattle.cjc_bytes.specs.declared.settings.Settings.{Settings}
use Rattle.cjc_bytes.proofs.Bools.{last_of}
use Rattle.cjc_jvm_semantics.specs.OnePackage.{is_constructor, is_initialiser}
use Rattle.cjc_token_proof.proofs.WorldProofOwn.{mapped_at}
use Rattle.cjc_shape_proof.specs.WorldProof.Calls.Solid.{IsOwn, IsSolid}
use Rattle.cjc_world.specs.ClassFile.declared.tree.ClassTree.{ClassTree}
use Rattle.cjc_world.specs.ClassFile.declared.tree.MethodTree.{MethodTree}
use Rattle.cjc_components.specs.Bytecode.declared.method_code.MethodCode.{MethodCode}
use Rattle.cjc_world.specs.ExportFile.Members.{not_special}
use Rattle.cjc_world.specs.ExportFile.Writable.{ClassFits, IsWritable, MethodStands}
use Rattle.cjc_world.specs.ExportFile.declared.tree.ExportTree.{ExportTree}
use Rattle.cjc_token_proof.proofs.WorldProofRules.{method_kept}
use Rattle.cjc_token_proof.specs.Subset.Checks.{check_breaks}
use Rattle.cjc_token_proof.specs.Subset.Flags.{is_unfit_method, is_unfit_method_kind}
use Rattle.cjc_token_proof.specs.Subset.Members.{imports}
use Rattle.cjc_vtable.proofs.Filed.{IsFiled, filed, get-has, has-get, in_class_file, in_export_file, of-imports}
use Rattle.cjc_vtable.proofs.Read.{each-after}
use Rattle.cjc_world.specs.Classes.{Class, Member, all_classes, class_named, method_of_class, method_of_export}
use Rattle.cjc_world.specs.Files.{Files}
use Rattle.cjc_shape_proof.specs.Written.Converted.{ExportsArePlain}

no_code : (a b c : Bool) → a ≡ true → c ≡ false → (a && b && not c) ≡ false → b ≡ false
no_code true true true e f g = cc
no_code true true false e f g = cc
no_code true false c e f g = refl
no_code false b c e f g = cc

-- such a method
pub record IsOpen (m : Member) : Type 0 where
  pub on_object : is_static m.flags ≡ false
  pub visible : is_private m.flags ≡ false
  pub no_constructor : is_constructor m.name ≡ false

module _ (list : List ℕ) (files : Files) (methods : List MethodCode) (settings : Settings) (unbroken : check_breaks list
    files methods settings ≡ []) (solid : IsSolid files) (plain : ExportsArePlain
    files)
    (writable : (e : ℕ) (t : ExportTree) → slice_get files.exports e ≡ Some t → IsWritable t) where
  own_abstract : (n k : ℕ) (t : ClassTree) (m : MethodTree) → slice_get files.classes n ≡ Some t → slice_get t.methods k
      ≡ Some m → is_interface t.flags ≡ true → is_initialiser m.name ≡ false → is_abstract m.flags ≡ true
  own_abstract n k t m e f interface named = by (is_abstract m.flags) refl
    where
      own : IsOwn files t m
      own = record { number = n; place = k; is_class = e; is_method = f }

      clash : (b : Bool) → b ≡ true → b ≡ false → ⊥
      clash true e f = cc
      clash false e f = cc

      without : is_unfit_method (is_interface t.flags) m.flags m.name (is_some m.code) ≡ false → is_some m.code ≡ false
      without fit = no_code (is_interface t.flags) (is_some m.code) (is_initialiser m.name) interface named
          (last_of (is_unfit_method_kind m.flags) (is_abstract m.flags && (is_constructor m.name
          || is_initialiser m.name)) (is_initialiser m.name && not (is_static m.flags)) (is_interface t.flags
          && is_some m.code && not (is_initialiser m.name)) fit)

      by : (b : Bool) → is_abstract m.flags ≡ b → is_abstract m.flags ≡ true
      by true g = g
      by false g = (let tree = solid.coded t m own g
          in absurd (clash (is_some m.code) (ap is_some tree.1) (without (method_kept list files methods settings
          unbroken n t e k m f).2)))

  pub interface_open : (d : Class) → class_named (all_classes files) d.name ≡ Some d → is_interface d.flags ≡ true
      → (k : ℕ) (m : Member) → slice_get d.methods k ≡ Some m → is_initialiser m.name ≡ false → IsOpen m
  interface_open d known interface k m there named = by d (filed files d.name d known) interface there
    where
      constructor : (name : List ℕ) → not_special name ≡ Some name → is_constructor name ≡ false
      constructor name e = by (bytes_eq name (codes "<init>")) refl
        where
          by : (b : Bool) → bytes_eq name (codes "<init>") ≡ b → b ≡ false
          by false f = refl
          by true f = (let none : not_special name ≡ None = ap not_special ((bytes_eq-Decides name (codes "<init>")).0
              f) in cc)

      by : (d : Class) → IsFiled files d → is_interface d.flags ≡ true → slice_get d.methods k ≡ Some m → IsOpen m
      by d (in_class_file n t at) interface there =
          let x = mapped_at method_of_class t.methods k m there in
          let open_name : is_initialiser x.0.name ≡ false = ap (λ (v : Member). is_initialiser v.name) (sym x.2) ∙ named
          in
          let bound = solid.bound t x.0 (record { number = n; place = k; is_class = at; is_method = x.1 })
          (own_abstract n k t x.0 at x.1 interface open_name) in
          record {
            on_object = ap (λ (v : Member). is_static v.flags) x.2 ∙ bound.0;
            visible = ap (λ (v : Member). is_private v.flags) x.2 ∙ bound.1;
            no_constructor = ap (λ (v : Member). is_constructor v.name) x.2 ∙ bound.2;
          }
      by d (in_export_file n t at) interface there =
          let x = mapped_at method_of_export t.methods k m there in
          let tree = of-imports t files.exports (get-has t (imports files.exports) n at) in
          let place = has-get tree.0 files.exports tree.1 in
          let readable = writable place.0 tree.0 place.1 in
          let class = each-after ClassFits [] (let u = tree.0 in u.classes) t readable.classes tree.2 in
          let stands = each-after (MethodStands (is_interface t.flags) (length t.methods)) [] t.methods x.0
          class.1.methods (get-has x.0 t.methods k x.1) in
          let fits : MethodStands true (length t.methods) stands.0 x.0 =
          subst (λ b. MethodStands b (length t.methods) stands.0 x.0) interface stands.1 in
          let bare = plain.interfaces n t at interface k x.0 x.1 in
          record {
            on_object = ap (λ (v : Member). is_static v.flags) x.2 ∙ bare.1;
            visible = ap (λ (v : Member). is_private v.flags) x.2 ∙ bare.0;
            no_constructor = ap (λ (v : Member). is_constructor v.name) x.2 ∙ constructor x.0.name fits.2;
          }
