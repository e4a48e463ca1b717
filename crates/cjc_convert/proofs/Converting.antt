-- From the parts of a conversion to the whole.
use Rattle.std.proofs.Common.{◌≡◌, ℕ, ◌+◌, ◌⊎◌, inl, inr, true, false, List, [], ◌∷◌, Option, Some, None, Result, Ok, Err, IfOk, IfNone, length, get_or, refl, sym, ap, subst, ◌∙◌, arith}
use Rattle.std.specs.Prelude.{◌==◌}
use Rattle.std.proofs.lemmas.Bool.Decides.{nat_tests}
use Rattle.cjc_bytes.specs.Format.{FileSpells}
use Rattle.cjc_bytes.proofs.Laws.{one_value}
use Rattle.cjc_bytes.specs.declared.stop.NoMemory.{NoMemory}
use Rattle.cjc_bytes.specs.declared.fault.Fault.{Fault}
use Rattle.cjc_bytes.specs.declared.fault.Fault.TheVariants as faults
use Rattle.cjc_bytes.specs.declared.fault.Refusal.{Refusal}
use Rattle.cjc_bytes.specs.declared.settings.FileLine.{FileLine}
use Rattle.cjc_classfile.specs.ClassFile.{class_file}
use Rattle.cjc_classfile.specs.Code.{CodeTree}
use Rattle.cjc_classfile.specs.declared.tree.ClassTree.{ClassTree}
use Rattle.cjc_code.specs.declared.insn.JInsn.{JInsn}
use Rattle.cjc_code.specs.declared.method_code.MethodCode.{MethodCode}
use Rattle.cjc_capread.specs.declared.tree.CapTree.{CapTree}
use Rattle.cjc_list.specs.Listed.{ListTree}
use Rattle.cjc_convert.specs.declared.conversion.Converted.{Converted}
use Rattle.cjc_first.specs.FirstForm.{PackageLine, IsFirstForm, line_of, ops_of}
use Rattle.cjc_first.specs.Above.{IsRoot}
use Rattle.cjc_first.specs.Converted.{tree_for}
use Rattle.cjc_first.specs.Tests.{IsFormWith}
use Rattle.cjc_code.specs.PackageCodes.{first_insns}
use Rattle.cjc_world.specs.Files.{Files}
use Rattle.cjc_bytes.specs.Breaks.{Break}
use Rattle.cjc_export.specs.Writable.{IsWritable}
use Rattle.cjc_export.specs.declared.tree.ExportClass.{ExportClass}
use Rattle.cjc_first.proofs.Inheriting.{small_import}
use Rattle.cjc_judge.specs.Spelt.{FileTree, of_class, of_export, classes_of, exports_of}
use Rattle.cjc_judge.specs.Rules.{Breach}
use Rattle.cjc_judge.specs.Trees.{FileIs, AllSpelt, AreRead}
use Rattle.cjc_convert.specs.Conversion
use Rattle.cjc_first.specs.Exported.{exported}
use Rattle.cjc_export.specs.declared.tree.ExportTree.{ExportTree}
use Rattle.cjc_export.specs.ExportFile.{export_file}
use Rattle.cjc_export.specs.Written.{written}
use Rattle.cjc_capwrite.specs.declared.files.CapFiles.{CapFiles}
use Rattle.cjc_capwrite.specs.Files.{files_of}
use Rattle.cjc_capwrite.specs.Writable.{IsSpelt}
use Rattle.cjc_classfile.specs.declared.tree.MethodTree.{MethodTree}
use Rattle.cjc_judge.specs.Judged.{IsStopped}

-- ---- the components

pub cap_found : (line : PackageLine) (parts : Conversion.Parts) (code : CodeTree) (result : Result CapTree NoMemory) (f : IsFormWith line parts.tree parts.params parts.insns)
    → f.form.code ≡ code → IfOk result (λ t. t ≡ tree_for line parts.lang parts.root parts.params code (ops_of parts.insns)) → IfOk result (Conversion.IsCapOf line parts)
cap_found line parts code (Ok t) f is e = record { form = f.form; params_are = f.params_are; insns_are = f.insns_are; is = e ∙ rw (f.params_are, f.insns_are, is) refl }
cap_found line parts code (Err x) f is e = tt

-- ---- the pair of files

-- what a class file and an export file spell
pub pair_trees : (lines : List FileLine) (files : List (List ℕ)) (class export : List ℕ) (world : Files) (codes : List MethodCode) → Conversion.IsPair lines files class export → AreRead lines files world codes
    → (t : ClassTree) × (u : ExportTree) × (world.classes ≡ t ∷ []) × (world.exports ≡ u ∷ []) × FileSpells class_file t class × FileSpells export_file u export
pair_trees lines files class export world codes (a, b, l, choice) all =
    let here : AllSpelt (a ∷ b ∷ []) files all.trees = subst (λ (ls : List FileLine). AllSpelt ls files all.trees) l all.spelt in
    let found : (t : ClassTree) × (u : ExportTree) × (classes_of all.trees ≡ t ∷ []) × (exports_of all.trees ≡ u ∷ []) × FileSpells class_file t class × FileSpells export_file u export = elim choice [
      | inl (ca, cb, f) ↦ class_first a b all.trees ca cb (subst (λ (fs : List (List ℕ)). AllSpelt (a ∷ b ∷ []) fs all.trees) f here)
      | inr (ca, cb, f) ↦ class_second a b all.trees ca cb (subst (λ (fs : List (List ℕ)). AllSpelt (a ∷ b ∷ []) fs all.trees) f here)
    ] in
    (found.0, found.1, all.classes ∙ found.2, all.exports ∙ found.3, found.4, found.5)
  where
    no : {P : Type 0} (l : FileLine) → l.class_file ≡ true → l.class_file ≡ false → P
    no l e f = absurd (let g : true ≡ false = sym e ∙ f in cc)

    class_first : (a b : FileLine) (trees : List FileTree) → a.class_file ≡ true → b.class_file ≡ false → AllSpelt (a ∷ b ∷ []) (class ∷ export ∷ []) trees
        → (t : ClassTree) × (u : ExportTree) × (classes_of trees ≡ t ∷ []) × (exports_of trees ≡ u ∷ []) × FileSpells class_file t class × FileSpells export_file u export
    class_first a b [] ca cb all = absurd all
    class_first a b (x ∷ []) ca cb all = absurd all.1
    class_first a b (of_class t ∷ of_export u ∷ []) ca cb all = (t, u, refl, refl, all.0.1, all.1.0.1)
    class_first a b (of_class t ∷ of_class u ∷ []) ca cb all = no b all.1.0.0 cb
    class_first a b (of_export t ∷ u ∷ []) ca cb all = no a ca all.0.0
    class_first a b (x ∷ y ∷ z ∷ more) ca cb all = absurd (let e = all.1.1.1 in cc)

    class_second : (a b : FileLine) (trees : List FileTree) → a.class_file ≡ false → b.class_file ≡ true → AllSpelt (a ∷ b ∷ []) (export ∷ class ∷ []) trees
        → (t : ClassTree) × (u : ExportTree) × (classes_of trees ≡ t ∷ []) × (exports_of trees ≡ u ∷ []) × FileSpells class_file t class × FileSpells export_file u export
    class_second a b [] ca cb all = absurd all
    class_second a b (x ∷ []) ca cb all = absurd all.1
    class_second a b (of_export t ∷ of_class u ∷ []) ca cb all = (u, t, refl, refl, all.1.0.1, all.0.1)
    class_second a b (of_export t ∷ of_export u ∷ []) ca cb all = no b cb all.1.0.0
    class_second a b (of_class t ∷ u ∷ []) ca cb all = no a all.0.0 ca
    class_second a b (x ∷ y ∷ z ∷ more) ca cb all = absurd (let e = all.1.1.1 in cc)

no_more : (lines : List FileLine) (files : List (List ℕ)) → AllSpelt lines files [] → (lines ≡ []) × (files ≡ [])
no_more [] files all = (refl, all.0)
no_more (l ∷ ls) [] all = absurd all
no_more (l ∷ ls) (b ∷ bs) all = absurd all

one_more : (lines : List FileLine) (files : List (List ℕ)) (t : FileTree) (ts : List FileTree) → AllSpelt lines files (t ∷ ts)
    → (l : FileLine) × (ls : List FileLine) × (b : List ℕ) × (bs : List (List ℕ)) × (lines ≡ l ∷ ls) × (files ≡ b ∷ bs) × FileIs l b t × AllSpelt ls bs ts
one_more [] files t ts all = absurd (let e = all.1 in cc)
one_more (l ∷ ls) [] t ts all = absurd all
one_more (l ∷ ls) (b ∷ bs) t ts all = (l, ls, b, bs, refl, refl, all.0, all.1)

-- the two trees of two files
two_more : (lines : List FileLine) (files : List (List ℕ)) (t u : FileTree) → AllSpelt lines files (t ∷ u ∷ [])
    → (l m : FileLine) × (b c : List ℕ) × (lines ≡ l ∷ m ∷ []) × (files ≡ b ∷ c ∷ []) × FileIs l b t × FileIs m c u
two_more lines files t u all =
    let x = one_more lines files t (u ∷ []) all in
    let y = one_more x.1 x.3 u [] x.7 in
    let z = no_more y.1 y.3 y.7 in
    (x.0, y.0, x.2, y.2, x.4 ∙ ap (λ ls. x.0 ∷ ls) (y.4 ∙ ap (λ ls. y.0 ∷ ls) z.0), x.5 ∙ ap (λ bs. x.2 ∷ bs) (y.5 ∙ ap (λ bs. y.2 ∷ bs) z.1), x.6, y.6)

-- the files are a pair that spells these
pub record ArePair (lines : List FileLine) (files : List (List ℕ)) (tree : ClassTree) (lang : ExportTree) : Type 0 where
  pub class : List ℕ
  pub export : List ℕ
  pub pair : Conversion.IsPair lines files class export
  pub spelt : FileSpells class_file tree class
  pub lang_spelt : FileSpells export_file lang export
  pub fits : IsWritable lang

pub are_pair : (lines : List FileLine) (files : List (List ℕ)) (trees : List FileTree) (tree : ClassTree) (lang : ExportTree) → AllSpelt lines files trees → classes_of trees ≡ tree ∷ [] → exports_of trees ≡ lang ∷ []
    → ArePair lines files tree lang
are_pair lines files [] tree lang all c e = absurd (let f = c in cc)
are_pair lines files (of_class t ∷ []) tree lang all c e = absurd (let f = e in cc)
are_pair lines files (of_export t ∷ []) tree lang all c e = absurd (let f = c in cc)
are_pair lines files (of_class t ∷ of_class u ∷ []) tree lang all c e = absurd (let f = e in cc)
are_pair lines files (of_export t ∷ of_export u ∷ []) tree lang all c e = absurd (let f = c in cc)
are_pair lines files (of_class t ∷ of_export u ∷ []) tree lang all c e =
    let x = two_more lines files (of_class t) (of_export u) all in
    let t_is : t ≡ tree = (let f = c in cc) in
    let u_is : u ≡ lang = (let f = e in cc) in
    record {
      class = x.2;
      export = x.3;
      pair = (x.0, x.1, x.4, inl (x.6.0, x.7.0, x.5));
      spelt = subst (λ (v : ClassTree). FileSpells class_file v x.2) t_is x.6.1;
      lang_spelt = subst (λ (v : ExportTree). FileSpells export_file v x.3) u_is x.7.1;
      fits = subst (λ (v : ExportTree). IsWritable v) u_is x.7.2;
    }
are_pair lines files (of_export u ∷ of_class t ∷ []) tree lang all c e =
    let x = two_more lines files (of_export u) (of_class t) all in
    let t_is : t ≡ tree = (let f = c in cc) in
    let u_is : u ≡ lang = (let f = e in cc) in
    record {
      class = x.3;
      export = x.2;
      pair = (x.0, x.1, x.4, inr (x.6.0, x.7.0, x.5));
      spelt = subst (λ (v : ClassTree). FileSpells class_file v x.3) t_is x.7.1;
      lang_spelt = subst (λ (v : ExportTree). FileSpells export_file v x.2) u_is x.6.1;
      fits = subst (λ (v : ExportTree). IsWritable v) u_is x.6.2;
    }
are_pair lines files (x ∷ y ∷ z ∷ more) tree lang all c e =
    let count = tree_count (x ∷ y ∷ z ∷ more) in
    absurd (omega (arith, count, ap length c, ap length e))
  where
    tree_count : (trees : List FileTree) → length (classes_of trees) + length (exports_of trees) ≡ length trees
    tree_count [] = refl
    tree_count (of_class t ∷ ts) = let rest = tree_count ts in omega (arith, rest)
    tree_count (of_export t ∷ ts) = let rest = tree_count ts in omega (arith, rest)

-- ---- the form

pub one_code_insns : (list : ListTree) (tree : ClassTree) (codes : List MethodCode) (x y : MethodCode) (params : ℕ) (insns : List JInsn) → codes ≡ x ∷ [] → insns ≡ (get_or codes 0 y).insns
    → IsFormWith (line_of list) tree params (first_insns codes) → IsFormWith (line_of list) tree params insns
one_code_insns list tree codes x y params insns one is f =
    let same : first_insns codes ≡ insns = ap first_insns one ∙ sym (is ∙ ap (λ (cs : List MethodCode). (get_or cs 0 y).insns) one) in
    subst (λ (i : List JInsn). IsFormWith (line_of list) tree params i) same f

pub form_found : (list : ListTree) (files : List (List ℕ)) (world : Files) (codes : List MethodCode) (parts : Conversion.Parts) → list.applets ≡ [] → AreRead list.lines files world codes
    → world.classes ≡ parts.tree ∷ [] → world.exports ≡ parts.lang ∷ [] → IsRoot parts.lang parts.root → IsFormWith (line_of list) parts.tree parts.params parts.insns → Conversion.FormOf list files parts
form_found list files world codes parts applets all c e root f =
    let pair = are_pair list.lines files all.trees parts.tree parts.lang all.spelt (sym all.classes ∙ c) (sym all.exports ∙ e) in
    record {
      form = record { applets = applets; class = pair.class; export = pair.export; pair = pair.pair; lang_spelt = pair.lang_spelt; is_root = root; spelt = pair.spelt; form = f.form };
      params_are = f.params_are;
      insns_are = f.insns_are;
      small = small_import parts.lang parts.root pair.fits root;
    }

-- the trees of a package of the form are those that were read
pub form_trees : (list : ListTree) (files : List (List ℕ)) (world : Files) (codes : List MethodCode) (parts : Conversion.Parts) → AreRead list.lines files world codes → Conversion.IsForm list files parts.lang parts.root parts.tree
    → (world.classes ≡ parts.tree ∷ []) × (world.exports ≡ parts.lang ∷ [])
form_trees list files world codes parts all form =
    let p = pair_trees list.lines files form.class form.export world codes form.pair all in
    let tree : p.0 ≡ parts.tree = one_value class_file form.class p.0 parts.tree p.4 form.spelt in
    let lang : p.1 ≡ parts.lang = one_value export_file form.export p.1 parts.lang p.5 form.lang_spelt in
    (p.2 ∙ ap (λ t. t ∷ []) tree, p.3 ∙ ap (λ t. t ∷ []) lang)

is_zero : (n : ℕ) → (n == 0) ≡ true → n ≡ 0
is_zero n e = grind (arith, nat_tests)

no_items : {X : Type 0} (xs : List X) → length xs ≡ 0 → xs ≡ []
no_items [] e = refl
no_items (x ∷ xs) e = absurd (omega arith)

pub none_are : {X : Type 0} (xs : List X) → (length xs == 0) ≡ true → xs ≡ []
none_are xs e = no_items xs (is_zero (length xs) e)

pub if_none : {X : Type 0} (o : Option X) (P : Type 0) → P → IfNone o P
if_none None P p = p
if_none (Some x) P p = tt

-- no package is of the form whose list has an applet
pub applets_none : (list : ListTree) (files : List (List ℕ)) (parts : Conversion.Parts) → (list.applets ≡ [] → ⊥) → Conversion.IsForm list files parts.lang parts.root parts.tree → ⊥
applets_none list files parts some form = some form.applets

one_head : {A : Type 0} (xs : List A) (x y : A) → xs ≡ x ∷ [] → xs ≡ y ∷ [] → x ≡ y
one_head xs x y e f = let g = sym e ∙ f in cc

pub root_none : (list : ListTree) (files : List (List ℕ)) (world : Files) (codes : List MethodCode) (lang : ExportTree) (parts : Conversion.Parts) → AreRead list.lines files world codes → world.exports ≡ lang ∷ []
    → ((root : ExportClass) → IsRoot lang root → ⊥) → Conversion.IsForm list files parts.lang parts.root parts.tree → ⊥
root_none list files world codes lang parts all e none form =
    let same = one_head world.exports parts.lang lang (form_trees list files world codes parts all form).1 e in
    none parts.root (subst (λ (t : ExportTree). IsRoot t parts.root) same form.is_root)

pub class_none : (list : ListTree) (files : List (List ℕ)) (world : Files) (codes : List MethodCode) (tree : ClassTree) (parts : Conversion.Parts) → AreRead list.lines files world codes → world.classes ≡ tree ∷ []
    → (IsFirstForm (line_of list) tree → ⊥) → Conversion.IsForm list files parts.lang parts.root parts.tree → ⊥
class_none list files world codes tree parts all c none form =
    let same = one_head world.classes parts.tree tree (form_trees list files world codes parts all form).0 c in
    none (subst (λ (t : ClassTree). IsFirstForm (line_of list) t) same form.form)

pub not_built_is : (list : ListTree) (files : List (List ℕ)) (e : Fault) → ((b : Break) → Breach list files Conversion.tested b → ⊥) → ((parts : Conversion.Parts) → Conversion.IsForm list files parts.lang parts.root parts.tree → ⊥)
    → (e ≡ faults.Refused (Conversion.not_built list)) ⊎ (e ≡ faults.NoMemory)
    → (e ≡ faults.NoMemory) ⊎ ((r : Refusal) × Conversion.IsRefused list files r × (e ≡ faults.Refused r))
not_built_is list files e fine none_of (inl is) = inr (Conversion.not_built list, inr (record { unbroken = fine; not_form = λ lang root tree. none_of (record { lang = lang; root = root; tree = tree; params = 0; insns = [] }) }, refl), is)
not_built_is list files e fine none_of (inr is) = inl is

-- the first broken rule of all that are tested is the refusal
pub stopped_is : (list : ListTree) (files : List (List ℕ)) (e : Fault) → IsStopped list files Conversion.tested e → (e ≡ faults.NoMemory) ⊎ ((r : Refusal) × Conversion.IsRefused list files r × (e ≡ faults.Refused r))
stopped_is list files e (inl memory) = inl memory
stopped_is list files e (inr (r, first, is)) = inr (r, inl first, is)

-- ---- the whole

pub form_with : (list : ListTree) (files : List (List ℕ)) (parts : Conversion.Parts) → Conversion.FormOf list files parts → IsFormWith (line_of list) parts.tree parts.params parts.insns
form_with list files parts f = record { form = f.form.form; params_are = f.params_are; insns_are = f.insns_are }

pub converted_from : (list : ListTree) (files : List (List ℕ)) (parts : Conversion.Parts) (result : Result Converted Fault) → ((b : Break) → Breach list files Conversion.tested b → ⊥)
    → Conversion.FormOf list files parts → IfOk result (Conversion.IsMadeFor (line_of list) parts) → IfOk result (Conversion.IsConverted list files)
converted_from list files parts (Ok made) fine f m = record {
  unbroken = fine;
  lang = parts.lang;
  root = parts.root;
  tree = parts.tree;
  form = record {
    applets = f.form.applets;
    class = f.form.class;
    export = f.form.export;
    pair = f.form.pair;
    lang_spelt = f.form.lang_spelt;
    is_root = f.form.is_root;
    spelt = f.form.spelt;
    form = m.0;
  };
  is_made = m.3;
}
converted_from list files parts (Err e) fine f m = tt

pub made_from : (line : PackageLine) (parts : Conversion.Parts) (cap : CapTree) (caps : CapFiles) (export : List ℕ) → Conversion.IsCapOf line parts cap
    → (caps ≡ files_of cap) × IsSpelt cap caps → Conversion.IsExportOf line parts.root parts.tree export → Conversion.IsMadeFor line parts (record { caps = caps; export = export })
made_from line parts cap caps export k m e =
    let both = sym e.methods ∙ k.form.methods in
    let method : e.method ≡ k.form.method = cc in (
      k.form,
      k.params_are,
      k.insns_are,
      record {
        caps = m.0 ∙ ap files_of k.is;
        spelt = subst (λ (c : CapTree). IsSpelt c caps) k.is m.1;
        export = e.is ∙ ap (λ (x : MethodTree). written (exported line parts.root parts.tree x)) method;
        export_spelt = subst (λ (x : MethodTree). FileSpells export_file (exported line parts.root parts.tree x) export) method e.spelt;
      },
    )
