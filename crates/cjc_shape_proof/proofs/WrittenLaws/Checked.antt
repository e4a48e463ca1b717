-- What a package has that breaks no rule of its class files and export files, whichever of its methods are in int mode.
use Rattle.std.proofs.Common.{◌≡◌, ℕ, refl, sym, ap, ◌∙◌, arith, Bool, true, false, List, []}
use Rattle.std.specs.Prelude.{◌&&◌, ◌||◌, not, Some, is_some, slice_get}
use Rattle.cjc_bytes.specs.AccessFlags.{is_abstract, is_interface, is_static}
use Rattle.cjc_bytes.specs.declared.settings.Settings.{Settings}
use Rattle.cjc_bytes.proofs.Bools.{last_of}
use Rattle.cjc_bytes.proofs.Gets.{all_at}
use Rattle.cjc_classes.specs.JvmSemantics.OnePackage.{is_constructor, is_initialiser}
use Rattle.cjc_check_proof.proofs.WorldProofOwn.{mapped_at}
use Rattle.cjc_check_proof.proofs.WorldProofRules.{method_kept}
use Rattle.cjc_check_proof.proofs.WorldProofSolid.{solid as solid_of}
use Rattle.cjc_check_proof.specs.TokenProof.Tables.Sound.{AreFieldDescs, IsSound}
use Rattle.cjc_check_proof.specs.TokenProof.WrittenCalls.Calls.{KeepsSubtypes, KeepsTokens, NoStaticMethods}
use Rattle.cjc_check_proof.specs.TokenProof.WrittenCalls.Calls.{Receives}
use Rattle.cjc_check_proof.specs.WorldProof.Calls.Solid.{IsOwn, IsSolid}
use Rattle.cjc_check_proof.specs.WorldProof.Files.{AreReadFiles, IsClean}
use Rattle.cjc_check_proof.specs.WorldProof.Initialisers.Values.{StandOnce}
use Rattle.cjc_classes.specs.Clinit.Image.{IsImage}
use Rattle.cjc_classes.specs.Descriptor.Fits.{AreFit}
use Rattle.cjc_classes.specs.List.Listed.{ListTree}
use Rattle.cjc_classes.specs.Subset.Checks.{check_breaks}
use Rattle.cjc_classes.specs.Subset.Flags.{is_unfit_method, is_unfit_method_kind}
use Rattle.cjc_components.specs.Bytecode.PackageCodes.{all_codes}
use Rattle.cjc_components.specs.Bytecode.ReadLaws.Members.{IsReadClass}
use Rattle.cjc_components.specs.Bytecode.declared.method_code.MethodCode.{MethodCode}
use Rattle.cjc_components.specs.Package.{Package, world}
use Rattle.cjc_narrow_proof.proofs.BytecodeMembers.{read_class}
use Rattle.cjc_narrow_proof.proofs.LawsLaws.ClassNames.{each_name}
use Rattle.cjc_narrow_proof.proofs.TablesLaws.Spelt.{class_read}
use Rattle.cjc_narrow_proof.specs.Laws.Unbroken.{AreSpelt, KeepsNames}
use Rattle.cjc_narrow_proof.specs.Script.Sorts.{Shape, shape_name}
use Rattle.cjc_shape.specs.LowerJudge.Rules.{has_applets, settings_of}
use Rattle.cjc_vtable.specs.Kept.{AreRead, BreaksNone, IsKept}
use Rattle.cjc_world.proofs.ClassFileFitting.{spelt_fits}
use Rattle.cjc_world.specs.ClassFile.Fits as fits
use Rattle.cjc_world.specs.ClassFile.declared.tree.ClassTree.{ClassTree}
use Rattle.cjc_world.specs.ClassFile.declared.tree.MethodTree.{MethodTree}
use Rattle.cjc_world.specs.Classes.{Class, Member, all_classes, class_named, method_of_class}
use Rattle.cjc_world.specs.Files.{Files}
use Rattle.cjc_world.specs.Lookup.{object}
use Rattle.cjc_world.specs.Rules.{breaks}
use Rattle.cjc_world.specs.Subtype.{is_subtype, starts}
use Rattle.cjc_world.specs.Upwards.{IsOrdered}
use Rattle.cjc_shape_proof.specs.Written.Checked.{IsChecked}
use Rattle.cjc_shape_proof.proofs.WrittenLaws.FittingLaws.Arrays.{arrays_fit}
use Rattle.cjc_shape_proof.proofs.WrittenLaws.FittingLaws.Initialisers.{stand_once}
use Rattle.cjc_shape_proof.proofs.WrittenLaws.FittingLaws.Values.{values_fit}
use Rattle.cjc_shape_proof.proofs.WrittenLaws.Subtypes.{keeps_subtypes, receivers_are_objects}
use Rattle.cjc_shape_proof.proofs.WrittenLaws.Tokens.{keeps_tokens}

both_then : (a b c : Bool) → a ≡ true → b ≡ true → (a && b && not c) ≡ false → c ≡ true
both_then true true true e f g = refl
both_then true true false e f g = cc
both_then true false c e f g = cc
both_then false b c e f g = cc

module _ (files : Files) (solid : IsSolid files) (list : List ℕ) (codes : List MethodCode) (settings : Settings)
    (unbroken : check_breaks list files codes settings ≡ []) where
  static_initialises : (n k : ℕ) (t : ClassTree) (m : MethodTree) → slice_get files.classes n ≡ Some t
      → slice_get t.methods k ≡ Some m → is_interface t.flags ≡ true → is_static m.flags ≡ true → is_initialiser m.name
      ≡ true
  static_initialises n k t m e f interface static = by (is_abstract m.flags) refl
    where
      own : IsOwn files t m
      own = record { number = n; place = k; is_class = e; is_method = f }

      clash : {A : Type 0} (b : Bool) → b ≡ true → b ≡ false → A
      clash true e f = absurd (cc)
      clash false e f = absurd (cc)

      coded : (b : Bool) → b ≡ true → is_unfit_method (is_interface t.flags) m.flags m.name b ≡ false
          → is_initialiser m.name ≡ true
      coded b g fit = both_then (is_interface t.flags) b (is_initialiser m.name) interface g
          (last_of (is_unfit_method_kind m.flags) (is_abstract m.flags && (is_constructor m.name
          || is_initialiser m.name)) (is_initialiser m.name && not (is_static m.flags)) (is_interface t.flags && b
          && not (is_initialiser m.name)) fit)

      by : (b : Bool) → is_abstract m.flags ≡ b → is_initialiser m.name ≡ true
      by true g = clash (is_static m.flags) static (solid.bound t m own g).0
      by false g = let tree = solid.coded t m own g in coded (is_some m.code) (ap is_some tree.1)
          (method_kept list files codes settings unbroken n t e k m f).2

  pub none_static : NoStaticMethods (all_classes files)
  none_static x c e own interface k m f static =
      let t = solid.own x c e own in
      let at = mapped_at method_of_class (let u = t.0 in u.methods) k m (ap (λ (v : Class). slice_get v.methods k)
      (sym t.2) ∙ f) in
      ap (λ (v : Member). is_initialiser v.name) at.2
      ∙ static_initialises c.number k t.0 at.0 t.1 at.1 (ap (λ (v : Class). is_interface v.flags) (sym t.2)
      ∙ interface) (ap (λ (v : Member). is_static v.flags) (sym at.2) ∙ static)

-- ---- a package

module _ (list : ListTree) (codes : List MethodCode) (p : Package) (is : IsChecked list codes p) where
  -- the files are read ones
  pub read_files : AreReadFiles p.files
  read_files = record {
    classes = λ n c e. let r = is.classes n c e in let s = r.1 in (r.0, s.in_bytes, s.spelt);
    exports = is.written;
  }

  pub are_read : AreRead p.files
  are_read = record {
    package_name = (let h = class_read (let w = p.files in w.package_name) is.package_name in h.no_array);
    classes = λ n c e. let r = is.classes n c e in let s = r.1 in (r.0, s.spelt);
    exports = is.written;
  }

  pub are_spelt : AreSpelt p.files
  are_spelt = record { package_name = is.package_name; exports = is.exports.names }

  pub files_sound : IsSound list.name p.files
  files_sound = record {
    classes = is.listed;
    exports = is.listed_exports;
    read = are_read;
    names = λ k c e. let h = class_read c.name (is.exports.names k c e) in h.no_array;
    unbroken = is.unbroken;
  }

  pub own_names : KeepsNames list.name p.files codes (settings_of list)
  own_names = record { listed = is.listed; world = is.unbroken; names = is.names; checks = is.checks }

  -- ---- fields

  pub field_descs : AreFieldDescs p.files
  field_descs n k c f e g =
      let r = read_files.classes n c e in
      let one : IsReadClass c = read_class c r.0 r.1 r.2 in
      let desc = one.fields k f g in
      let few = spelt_fits c r.0 r.1 r.2 in
      let short = (all_at fits.FieldFits c.fields k f few.fields g).desc in
      record { parts = desc.0; is_desc = desc.1; is_field = desc.2; short = omega (arith, short) }

  -- ---- the image

  pub own_once : StandOnce p.files (all_codes (let w = p.files in w.classes))
  own_once = stand_once p.files list.name is.listed is.unbroken

  pub image_fits : IsImage p.files codes p.image → AreFit p.image
  image_fits image = record {
    arrays = arrays_fit p.files codes p.image image;
    values = values_fit p.files codes is.initialisers p.image image;
  }

  -- ---- what dispatch rests on

  pub is_kept : ((l : List ℕ) (fs : Files) → breaks l fs ≡ [] → check_breaks l fs codes (settings_of list) ≡ []
      → BreaksNone l fs codes (settings_of list)) → IsKept list.name p.files codes (settings_of list)
  is_kept unbroken = record {
    unbroken = unbroken list.name p.files is.unbroken is.checks;
    read = are_read;
    agree = is.agree;
  }

  -- ---- classes

  clean : IsClean list.name p.files codes (settings_of list)
  clean = record { world = is.unbroken; checks = is.checks; read = read_files; sound = is.exports }

  pub plain_names : (x : List ℕ) (c : Class) → class_named (world p) x ≡ Some c → starts 91 x ≡ false
  plain_names x c e =
      let h = class_read x (each_name p.files list.name is.listed is.unbroken are_spelt x c e) in h.no_array

  pub own_solid : IsSolid p.files
  own_solid = solid_of list.name p.files codes (settings_of list) clean plain_names

  pub own_ordered : IsOrdered (world p)
  own_ordered = let s = own_solid in s.ordered

  pub no_static_methods : NoStaticMethods (world p)
  no_static_methods = none_static p.files own_solid list.name codes (settings_of list) is.checks

  pub own_subtypes : KeepsSubtypes (world p)
  own_subtypes = keeps_subtypes (world p) own_ordered plain_names

  pub own_objects : (kind : Shape (List ℕ)) → Receives (world p) (Some kind)
      → is_subtype (world p) (shape_name kind) object ≡ true
  own_objects = receivers_are_objects (world p) own_ordered plain_names

  pub own_tokens : KeepsTokens (world p)
  own_tokens = keeps_tokens p.files (has_applets list) is.tokens is.written own_ordered
