-- A package whose methods are laid out keeps what its components rest on.
use Rattle.std.proofs.Common.{◌≡◌, ℕ, ◌≤◌, ◌<◌, sym, ap, subst, ◌∙◌, arith, true, false, List, [], length, Some}
use Rattle.std.specs.Prelude.{nat_lt, slice_get, sum_by, if◌then◌else◌}
use Rattle.std.specs.List.{AllByRecursion}
use Rattle.std.proofs.lemmas.List.{length-map}
use Rattle.cjc_bytes.specs.AccessFlags.{is_interface}
use Rattle.cjc_bytes.specs.Breaks.{Break}
use Rattle.cjc_bytes.specs.Format.{FileSpells}
use Rattle.cjc_classes.specs.Clinit.Rules.{BreaksImage}
use Rattle.cjc_components.specs.Bytecode.PackageCodes.{all_codes}
use Rattle.cjc_classes.specs.Descriptor.Fits.{AreFit}
use Rattle.cjc_shape_proof.proofs.WrittenLaws.FittingLaws.Initialisers.{stand_once}
use Rattle.cjc_world.specs.ClassFile.ClassFile.{class_file}
use Rattle.cjc_world.specs.ClassFile.declared.tree.ClassTree.{ClassTree}
use Rattle.cjc_world.specs.ClassFile.declared.tree.MethodTree.{MethodTree}
use Rattle.cjc_components.specs.Class.{interfaces_of}
use Rattle.cjc_components.specs.ExportFile.{export_class, export_of}
use Rattle.cjc_components.specs.Exports.{exported_classes}
use Rattle.cjc_components.specs.Limits.{else_of, size_breaks}
use Rattle.cjc_components.specs.Methods.{handler_count}
use Rattle.cjc_components.specs.Package.{LaidMethod, Package, has_applets, pool, world}
use Rattle.cjc_classes.specs.Narrow.Rows.Selected.{near_fields}
use Rattle.cjc_world.specs.ExportFile.Writable.{IsWritable}
use Rattle.cjc_world.specs.ExportFile.declared.tree.ExportTree.{ExportTree}
use Rattle.cjc_check_proof.specs.Limits.Premises.{CellsAreDescribed, ClassIsSmall, IsLimited, ListIsShort}
use Rattle.cjc_check_proof.specs.Limits.Premises.{MethodIsShort}
use Rattle.cjc_shape.specs.LowerJudge.Rules.{settings_of}
use Rattle.cjc_shape.specs.LowerJudge.Rules as judging
use Rattle.cjc_shape.specs.LowerJudge.Spelt.{FileTree, exports_of}
use Rattle.cjc_shape.specs.LowerJudge.declared.judged.Judged.{Judged}
use Rattle.cjc_shape.proofs.JudgedLaws.Selected.{judged_writable}
use Rattle.cjc_classes.specs.List.Listed.{ListTree}
use Rattle.cjc_narrow_proof.specs.Laws.Unbroken.{KeepsNames}
use Rattle.cjc_shape.proofs.PreparedLaws.Sound.{are_ready, has_tokens, is_tested}
use Rattle.cjc_shape.proofs.PreparedLaws.Sound as Sound
use Rattle.cjc_check_proof.specs.TokenProof.Tables.Sound.{export_count}
use Rattle.cjc_tokens.specs.Methods.{is_open_bound}
use Rattle.cjc_tokens.specs.Rules.{FewExported, token_breaks}
use Rattle.cjc_vtable.proofs.Filed.{get-has, get-has as has_get}
use Rattle.cjc_world.proofs.Settled.{AreSupertypes-one, supertypes-AreSupertypes}
use Rattle.cjc_world.proofs.Unbroken.{unbroken_is_acyclic}
use Rattle.cjc_world.specs.Classes.{Class, declared, method_of_class}
use Rattle.cjc_world.specs.Files.{Files}
use Rattle.cjc_world.specs.Supertypes.{IsAcyclic, AreSupertypes, supertypes}
use Rattle.cjc_world.specs.Order.{class_order}
use Rattle.cjc_shape_proof.proofs.WrittenLaws.FittingLaws.Arrays.{arrays_fit}
use Rattle.cjc_shape_proof.proofs.WrittenLaws.FittingLaws.Cells.{are_described}
use Rattle.cjc_shape_proof.proofs.WrittenLaws.FittingLaws.Values.{values_fit}
use Rattle.cjc_shape_proof.specs.Written.LaidOut.{IsLaidOut}
use Rattle.cjc_shape_proof.proofs.WrittenLaws.Files.{names_kept}
use Rattle.cjc_shape_proof.proofs.WrittenLaws.FittingLaws.Exported.{exports_few, not_open}
use Rattle.cjc_shape_proof.proofs.WrittenLaws.FittingLaws.Handlers.{few, handlers_few}
use Rattle.cjc_shape_proof.proofs.WrittenLaws.FittingLaws.Interfaces.{few_named}
use Rattle.cjc_shape_proof.proofs.WrittenLaws.FittingLaws.Listed.{aid_short, classes_spelt, exports_counted}
use Rattle.cjc_shape_proof.proofs.WrittenLaws.FittingLaws.Listed.{few_exports}
use Rattle.cjc_shape_proof.proofs.WrittenLaws.FittingLaws.Methods.{is_short, same_files, same_list}
use Rattle.cjc_shape_proof.proofs.WrittenLaws.FittingLaws.Order.{few_ordered, order_filed}
use Rattle.cjc_shape_proof.proofs.WrittenLaws.FittingLaws.Rules as Rules
use Rattle.cjc_shape_proof.proofs.WrittenLaws.FittingLaws.Tables.{own_maps, own_package, own_public}

module _ (list : ListTree) (files : List (List ℕ)) (judged : Judged) (p : Package) (is : IsLaidOut list files judged p)
  where
    -- ---- what is known of it

    abbrev trees : List FileTree
    trees = is.sound.judged_by.read.trees

    pub by_files : p.files ≡ judged.world
    by_files = same_files list files judged is.sound p is.is_package

    pub by_list : p.list ≡ list
    by_list = same_list list files judged is.sound p is.is_package

    pub unbroken : KeepsNames list.name p.files judged.codes (settings_of list)
    unbroken = names_kept list files judged p is.sound by_files

    by_lines : (let v = p.files in v.lines) ≡ list.lines
    by_lines = ap (λ (v : Files). v.lines) (by_files ∙ is.sound.judged_by.world)

    by_name : (let v = p.files in v.package_name) ≡ list.«package»
    by_name = ap (λ (v : Files). v.package_name) (by_files ∙ is.sound.judged_by.world)

    by_exports : (let v = p.files in v.exports) ≡ exports_of trees
    by_exports = ap (λ (v : Files). v.exports) by_files ∙ is.sound.judged_by.read.exports

    pub few_imports : (let v = p.files in length v.exports ≤ export_count v.lines)
    few_imports =
        let few = exports_counted list.lines files trees is.sound.judged_by.read.spelt in
        subst (λ ls. length (let v = p.files in v.exports) ≤ export_count ls) (sym by_lines)
        (subst (λ ts. length ts ≤ export_count list.lines) (sym by_exports) few)

    pub writable : (n : ℕ) (t : ExportTree) → (let v = p.files in slice_get v.exports n ≡ Some t) → IsWritable t
    writable n t e = judged_writable list files judged (is_tested list files judged is.sound) n t
        (sym (ap (λ (v : Files). slice_get v.exports n) by_files) ∙ e)

    pub acyclic : IsAcyclic (world p)
    acyclic = let u = unbroken in unbroken_is_acyclic list.name p.files u.world

    pub are_supertypes : (xs : List (List ℕ)) → AreSupertypes (world p) xs (supertypes (world p) xs)
    are_supertypes xs = supertypes-AreSupertypes (world p) acyclic xs

    same_applets : has_applets p ≡ judging.has_applets list
    same_applets = ap (λ (l : ListTree). nat_lt 0 (length l.applets)) by_list

    pub tokens : token_breaks (has_applets p) p.files ≡ []
    tokens = ap (λ b. token_breaks b p.files) same_applets ∙ ap (token_breaks (judging.has_applets list)) by_files
        ∙ has_tokens list files judged is.sound

    pub exported : FewExported (has_applets p) p.files
    exported = subst (λ b. FewExported b p.files) (sym same_applets) (subst (FewExported (judging.has_applets list))
        (sym by_files) (Sound.few_exported list files judged is.sound))

    -- bytes that spell a class file
    pub class_in_bytes : (n : ℕ) (t : ClassTree) → (let v = p.files in slice_get v.classes n ≡ Some t)
        → (bytes : List ℕ)
        × AllByRecursion (λ b. b < 256) bytes × FileSpells class_file t bytes
    class_in_bytes n t e = classes_spelt list.lines files trees is.sound.judged_by.read.spelt
        (λ k b f. (is.sound.are_files k b f).0) n t (sym (ap (λ (v : Files). slice_get v.classes n) by_files
        ∙ ap (λ ts. slice_get ts n) is.sound.judged_by.read.classes) ∙ e)

    -- ---- the list

    pub list_short : ListIsShort list
    list_short = let u = unbroken in record {
      aid = aid_short list is.read;
      applets = is.aids;
      name = subst (λ n. length n ≤ 255) by_name (Rules.short_name list.name p.files judged.codes (settings_of list)
          u.checks);
      few_applets = Rules.few_applets list.name p.files judged.codes (settings_of list) u.checks;
    }

    pub few_files : (let v = p.files in length v.exports ≤ 128)
    few_files =
        let few = few_exports list is.read in
        subst (λ ts. length ts ≤ 128) (sym by_exports) (let counted = exports_counted list.lines files trees
        is.sound.judged_by.read.spelt in omega (arith, few, counted))

    -- ---- classes

    few_classes : length (class_order (world p)) ≤ 255
    few_classes = let u = unbroken in
        let few = Rules.few_files list.name p.files judged.codes (settings_of list) u.checks in
        let all = few_ordered p.files in
        omega (arith, few, all)

    own_small : (n : ℕ) (t : ClassTree) → (let v = p.files in slice_get v.classes n ≡ Some t)
        → ClassIsSmall p (declared n t)
    own_small n t e = let u = unbroken in
        let named = few_named list.name p.files u.listed few_imports u.world acyclic are_supertypes n t e in
        let kept = Rules.few_interfaces list.name p.files judged.codes (settings_of list) u.checks n t e in
        record {
          interfaces = (let le : length (interfaces_of (world p) (declared n t)) ≤ (if is_interface t.flags then 14
              else 15) = omega (arith, named, kept) in le);
          public = own_public list.name p.files u.listed few_imports u.world acyclic are_supertypes
              (AreSupertypes-one (world p)) (has_applets p) tokens writable n t e;
          «package» = own_package list.name p.files u.listed few_imports u.world acyclic are_supertypes
              (AreSupertypes-one (world p)) (has_applets p) tokens writable n t e;
          maps = own_maps list.name p.files u.listed few_imports u.world acyclic are_supertypes
              (AreSupertypes-one (world p)) (has_applets p) tokens writable n t e;
        }

    small : (k : ℕ) (c : Class) → slice_get (class_order (world p)) k ≡ Some c → ClassIsSmall p c
    small k c e =
        let r = order_filed p.files c (has_get c (class_order (world p)) k e) in
        subst (λ (d : Class). ClassIsSmall p d) (sym r.2) (own_small c.number r.0 r.1)

    -- ---- what is exported

    few_of_export : ((q : Package) → FewExported (has_applets q) q.files
        → (let t = export_of q in length t.classes < 256)) → length (exported_classes p) ≤ 255
    few_of_export law =
        let few = law p exported in
        let same = length-map (exported_classes p) (export_class p) in
        omega (arith, few, same)

    -- ---- methods

    few_handlers : sum_by handler_count p.methods ≤ 255
    few_handlers = let u = unbroken in
        let all = few p.files p.methods is.is_package.is_package.members
        (λ k m e. handlers_few p.files (near_fields (pool p)) is.is_package.tables m
        (sym (is.is_package.is_package.methods k m e).code)) in
        let kept = Rules.few_handlers list.name p.files judged.codes (settings_of list) u.checks in
        omega (arith, all, kept)

    -- ---- methods of interfaces

    pub no_open : (n : ℕ) (t : ClassTree) → (let v = p.files in slice_get v.classes n ≡ Some t) → is_interface t.flags
        ≡ true → (k : ℕ) (m : MethodTree) → slice_get t.methods k ≡ Some m → is_open_bound (method_of_class m) ≡ false
    no_open n t e interface k m f = let u = unbroken in
        let r = class_in_bytes n t e in
        not_open t r.0 m r.2 (get-has m t.methods k f) (Rules.fit_method list.name p.files judged.codes
        (settings_of list)
        u.checks n t e k m f) interface

    -- ---- all

    -- 308
    no_image_break : (b : Break) → BreaksImage p.files (all_codes (let v = p.files in v.classes)) b → ⊥
    no_image_break b broken =
        let ready = are_ready list files judged is.sound in
        let here : BreaksImage judged.world judged.codes b =
        subst (λ cs. BreaksImage judged.world cs b) (sym ready.codes_are)
        (subst (λ (v : Files). BreaksImage v (all_codes v.classes) b) by_files broken) in
        Sound.no_image_break list files judged is.sound b here

    pub image_fits : AreFit p.image
    image_fits = let v = p.files in record {
      arrays = arrays_fit p.files (all_codes v.classes) p.image is.is_package.is_package.image;
      values = values_fit p.files (all_codes v.classes) no_image_break p.image is.is_package.is_package.image;
    }

    cells : CellsAreDescribed p
    cells = let u = unbroken in let v = p.files in
        are_described list.name p u.listed few_imports u.world acyclic (all_codes v.classes)
        (stand_once p.files list.name
        u.listed u.world) is.is_package.is_package.image

    pub methods_short : (k : ℕ) (m : LaidMethod) → slice_get p.methods k ≡ Some m → MethodIsShort m
    methods_short k m e = is_short list files judged is.sound p is.is_package k m e is.forms

    pub limited : ((q : Package) → FewExported (has_applets q) q.files
        → (let t = export_of q in length t.classes < 256))
        → size_breaks p ≡ [] → IsLimited p
    limited law sizes = record {
      list = subst ListIsShort (sym by_list) list_short;
      few_imports = few_files;
      exports = writable;
      few_classes = few_classes;
      classes = small;
      few_exported = few_of_export law;
      exported = λ k c e. exports_few p tokens no_open k c e;
      few_handlers = few_handlers;
      limits = ap (λ bs. else_of bs (size_breaks p)) is.forms ∙ sizes;
      methods = methods_short;
      cells = cells;
    }
