-- What the export file of a package that breaks no rule rests on, but for the methods of the classes that it lists.
use Rattle.std.proofs.Common.{◌≡◌, ℕ, ◌+◌, ◌*◌, ◌-◌, ◌^◌, ◌≤◌, ◌<◌, refl, sym, ap, subst, ◌∙◌, arith, Bool}
use Rattle.std.proofs.Common.{true, false, not, List, [], ◌∷◌, ◌++◌, length, map, Option, Some, None, IfSome, ℤ}
use Rattle.std.specs.Prelude.{◌&&◌, FitsSigned, nat_le, nat_lt, option_and_then, if◌then◌else◌}
use Rattle.std.specs.Int.{w32}
use Rattle.std.specs.List.{AllByRecursion}
use Rattle.std.proofs.lemmas.Bool.{leb-true, ltb-false}
use Rattle.std.proofs.lemmas.Bool.Decides.{nat_tests}
use Rattle.cjc_bytes.proofs.Inverse.{InBytes}
use Rattle.std.proofs.lemmas.List.{length-map}
use Rattle.cjc_bytes.specs.AccessFlags.{is_interface}
use Rattle.cjc_bytes.specs.Breaks.{at}
use Rattle.cjc_bytes.specs.Descriptor.{Parts}
use Rattle.cjc_bytes.specs.Format.{FileSpells}
use Rattle.cjc_bytes.specs.Text.{decimal, decimal_from, is_digit}
use Rattle.cjc_bytes.proofs.Gets.{all_at}
use Rattle.cjc_bytes.proofs.Bools.{or_right}
use Rattle.cjc_world.proofs.ClassFileFitting.{spelt_fits}
use Rattle.cjc_world.specs.ClassFile.ClassFile.{class_file}
use Rattle.cjc_world.specs.ClassFile.Fits.{FieldFits}
use Rattle.cjc_world.specs.ClassFile.declared.tree.ClassTree.{ClassTree}
use Rattle.cjc_components.specs.ExportFile.{export_of}
use Rattle.cjc_components.specs.Limits.{has_many_entries, layout_breaks, of_methods, spot_of_list}
use Rattle.cjc_components.specs.Package.{Package, pool, world}
use Rattle.cjc_world.proofs.ExportFileRooted.{has_root}
use Rattle.cjc_world.specs.ExportFile.Members.{as_desc}
use Rattle.cjc_world.specs.ExportFile.Pool.{aid_length}
use Rattle.cjc_world.specs.ExportFile.Writable.{IsText}
use Rattle.cjc_world.specs.ExportFile.Written.{constants}
use Rattle.cjc_shape.proofs.ExportedOwn.{IsOwn, own_class}
use Rattle.cjc_shape.specs.LowerExported.Exportable.{ClassIsRead, ClassStands, ClassesStand, IsExportable, ListIsRead}
use Rattle.cjc_shape.specs.LowerJudge.Rules.{settings_of}
use Rattle.cjc_shape.specs.LowerJudge.Spelt.{IsRead}
use Rattle.cjc_shape.specs.LowerJudge.declared.judged.Judged.{Judged}
use Rattle.cjc_classes.specs.List.Listed.{ListTree}
use Rattle.cjc_narrow_proof.proofs.LawsLaws.Own.{own_kept}
use Rattle.cjc_shape.proofs.PreparedLaws.Sound as Sound
use Rattle.cjc_narrow_proof.proofs.BytecodeMembers.{read_class}
use Rattle.cjc_components.specs.Bytecode.ReadLaws.Members.{IsDescOf}
use Rattle.cjc_tokens.specs.Rules.{FewCells}
use Rattle.cjc_vtable.proofs.Numbers.{at-tree}
use Rattle.cjc_classes.specs.ClassOrder.Supers.Supers.{interfaces, superclasses}
use Rattle.cjc_world.specs.Classes.{Class, class_at, declared, field_of_class}
use Rattle.cjc_world.specs.Rules.{is_second}
use Rattle.cjc_shape_proof.proofs.WrittenLaws.FittingLaws.Flags.{HasFlags, small_flags}
use Rattle.cjc_shape_proof.proofs.WrittenLaws.FittingLaws.Interfaces.{few_listed}
use Rattle.cjc_shape_proof.proofs.WrittenLaws.FittingLaws.Limited.{acyclic, by_files, by_list, class_in_bytes, exported}
use Rattle.cjc_shape_proof.proofs.WrittenLaws.FittingLaws.Limited.{few_imports, are_supertypes, list_short, tokens}
use Rattle.cjc_shape_proof.proofs.WrittenLaws.FittingLaws.Limited.{unbroken, writable}
use Rattle.cjc_shape_proof.proofs.WrittenLaws.FittingLaws.Listed.{aid_long, aid_short, spelt}
use Rattle.cjc_shape_proof.proofs.WrittenLaws.FittingLaws.Rooted.{own_root}
use Rattle.cjc_shape_proof.proofs.WrittenLaws.FittingLaws.Rules as Rules
use Rattle.cjc_shape_proof.specs.Written.LaidOut.{ExportedMethodsStand, IsLaidOut, MethodsStand}
use Rattle.cjc_narrow_proof.proofs.RangeSpans.{fits_word}

-- ---- the package line

digits_most : (limit n : ℕ) (text : List ℕ) (m : ℕ) → n ≤ limit → decimal_from limit n text ≡ Some m → m ≤ limit
unfolding decimal_from
digits_most limit n [] m le e = let is : n ≡ m = cc in omega (arith, le, is)
digits_most limit n (c ∷ cs) m le e = by (is_digit c) (nat_le (n * 10 + (c - 48)) limit) refl e
    (digits_most limit (n * 10 + (c - 48)) cs m)
  where
    by : (a b : Bool) → nat_le (n * 10 + (c - 48)) limit ≡ b
        → (if (a && b) then decimal_from limit (n * 10 + (c - 48)) cs else None) ≡ Some m
        → (n * 10 + (c - 48) ≤ limit → decimal_from limit (n * 10 + (c - 48)) cs ≡ Some m → m ≤ limit) → m ≤ limit
    by true true f g rest = rest (leb-true (n * 10 + (c - 48)) limit f) g
    by true false f g rest = cc
    by false b f g rest = cc

number_most : (limit : ℕ) (text : List ℕ) (m : ℕ) → decimal limit text ≡ Some m → m ≤ limit
number_most limit [] m e = cc
number_most limit (c ∷ cs) m e = digits_most limit 0 (c ∷ cs) m (omega arith) e

aid_counts : (n : ℕ) → 5 ≤ n → n ≤ 16 → aid_length n ≡ Some n
aid_counts n low high = by (nat_le 5 n) (nat_le n 16) (let z : nat_le 5 n ≡ true = grind (arith, nat_tests)
    in z) (let z : nat_le n 16 ≡ true = grind (arith, nat_tests) in z)
  where
    by : (a b : Bool) → a ≡ true → b ≡ true → (if (a && b) then Some n else None) ≡ Some n
    by true true e f = refl
    by true false e f = cc
    by false b e f = cc

line_read : (list : ListTree) → IsRead list → length list.«package» ≤ 255 → ListIsRead list
line_read list read short =
    let s = spelt list read in
    let version = s.begins.2.5 in
    let major = number_most 255 version.0 list.major version.3 in
    let minor = number_most 255 version.1 list.minor version.4 in
    record {
      name = omega (arith, short);
      aid = aid_counts (length list.aid) (aid_long list read) (aid_short list read);
      major = omega (arith, major);
      minor = omega (arith, minor);
    }

-- ---- class files

texts : (xs : List (List ℕ)) → AllByRecursion (λ (x : List ℕ). length x ≤ 65535) xs → AllByRecursion IsText xs
texts [] all = tt
texts (x ∷ xs) all = (let le = all.0 in let lt : length x < 2 ^ 16 = omega (arith, le) in lt, texts xs all.1)

field_desc : (desc : List ℕ) → IsDescOf false desc → as_desc false desc ≡ Some desc
field_desc desc is = ap (option_and_then (λ (d : Parts). if not d.is_method then Some desc else None)) is.1
    ∙ ap (λ b. if not b then Some desc else None) is.2

class_read : (t : ClassTree) (bytes : List ℕ) → InBytes bytes → FileSpells class_file t bytes → ClassIsRead t
class_read t bytes ok h =
    let flags = small_flags t bytes ok h in
    let fits = spelt_fits t bytes ok h in
    let read = read_class t bytes ok h in
    let name = fits.name in
    let superclass = fits.superclass in
    record {
      flags = flags.own;
      name = omega (arith, name);
      superclass = omega (arith, superclass);
      interfaces = texts t.interfaces fits.interfaces;
      fields = λ k f e.
          let one = all_at FieldFits t.fields k f fits.fields e in
          let own = one.name in
          let desc = one.desc in
          record {
            flags = all_at HasFlags t.fields k f flags.fields e;
            name = omega (arith, own);
            desc = omega (arith, desc);
            is_desc = field_desc f.desc (read.fields k f e);
            constant = number f.constant (λ z g. fits_word z (read.constants k f z e g));
          };
    }
  where
    number : (o : Option ℤ) → ((z : ℤ) → o ≡ Some z → FitsSigned w32 z) → IfSome o (FitsSigned w32)
    number None each = tt
    number (Some z) each = each z refl

module _ (list : ListTree) (files : List (List ℕ)) (judged : Judged) (p : Package) (is : IsLaidOut list files judged p)
  where
    few_cells : FewCells p.files
    few_cells = subst FewCells (sym (by_files list files judged p is)) (Sound.few_cells list files judged is.sound)

    first : (n : ℕ) (c : Class) → class_at (world p) false n ≡ Some c → is_second (world p) c ≡ false
    first n c e = let u = unbroken list files judged p is in
        let r = at-tree p.files n c e in
        let kept = own_kept p.files list.name u.listed u.world n r.0 r.1 in
        ap (is_second (world p)) r.2 ∙ kept.once

    -- 414
    few_entries : length (constants (export_of p)) < 2 ^ 16
    few_entries =
        let le = ltb-false 16383 (length (constants (export_of p))) (or_right (nat_lt 16383 (length (pool p)))
        (nat_lt 16383 (length (constants (export_of p)))) (off (has_many_entries p)
        (back (of_methods p (layout_breaks p)) (at (has_many_entries p) (spot_of_list p) 414)
        is.forms))) in
        omega (arith, le)
      where
        back : {A : Type 0} (xs ys : List A) → xs ++ ys ≡ [] → ys ≡ []
        back [] ys e = e
        back (x ∷ xs) ys e = cc

        off : (b : Bool) → at b (spot_of_list p) 414 ≡ [] → b ≡ false
        off true e = cc
        off false e = refl

    pub exportable : IsExportable p
    exportable = record {
      list = (let short = list_short list files judged p is in subst ListIsRead (sym (by_list list files judged p is))
          (line_read list is.read short.name));
      classes = λ n t e. let r = class_in_bytes list files judged p is n t e in class_read t r.0 r.1 r.2;
      exports = writable list files judged p is;
      once = first;
      few = exported list files judged p is;
      cells = few_cells;
      tokens = tokens list files judged p is;
      entries = few_entries;
    }

    -- 403, and the widths of a class file's counts
    pub stands : (c : Class) → IsOwn p c → MethodsStand p c → ClassStands p c
    stands c own methods = let u = unbroken list files judged p is in
        let t = own.tree in
        let r = class_in_bytes list files judged p is own.number t own.is_tree in
        let fits = spelt_fits t r.0 r.1 r.2 in
        let count = fits.field_count in
        let named = few_listed list.name p.files u.listed (few_imports list files judged p is) u.world
        (acyclic list files judged p is) (are_supertypes list files judged p is) own.number t own.is_tree in
        let kept = Rules.few_interfaces list.name p.files judged.codes (settings_of list) u.checks own.number t
        own.is_tree in
        let few = most (is_interface t.flags) in
        let same : length (interfaces (world p) c) ≡ length (interfaces (world p) (declared own.number t)) =
        ap (λ (d : Class). length (interfaces (world p) d)) own.is in
        let fields : length c.fields ≡ length (map field_of_class t.fields) = ap (λ (d : Class). length d.fields) own.is
        in
        let mapped = length-map t.fields field_of_class in
        record {
          root = ap (λ (d : Class). has_root (superclasses (world p) d)) own.is
              ∙ own_root list.name p.files u.listed u.world
              (writable list files judged p is) (acyclic list files judged p is) own.number t own.is_tree;
          interfaces = omega (arith, named, kept, few, same);
          fields = omega (arith, count, fields, mapped);
          methods = methods.methods;
          count = methods.count;
          each = methods.each;
        }
      where
        most : (b : Bool) → (if b then 14 else 15) ≤ 15
        most true = omega arith
        most false = omega arith

    pub classes_stand : ExportedMethodsStand p → ClassesStand p
    classes_stand methods k c at = stands c (own_class p k c at) (methods k c at)
