-- Packages of one list and one set of files have one export file.
use Rattle.std.proofs.Common.{◌≡◌, ℕ, ◌+◌, refl, sym, ap, ◌∙◌, List, [], ◌∷◌, ◌++◌, map, length}
use Rattle.std.specs.Prelude.{if◌then◌else◌, Some}
use Rattle.cjc_components.specs.LowerList.Listed.{ListTree}
use Rattle.cjc_world.specs.ClassFile.declared.tree.FieldTree.{FieldTree}
use Rattle.cjc_world.specs.ExportFile.declared.tree.ExportField.{ExportField}
use Rattle.cjc_world.specs.ExportFile.declared.tree.ExportMethod.{ExportMethod}
use Rattle.cjc_world.specs.ExportFile.declared.tree.ExportClass.{ExportClass}
use Rattle.cjc_world.specs.Files.{Files}
use Rattle.cjc_world.specs.Classes.{Member, Class}
use Rattle.cjc_components.specs.Package.{Package, world}
use Rattle.cjc_exported.specs.ExportFile.Working.Plain.{plain}
use Rattle.cjc_components.specs.Exports.{exported_classes}
use Rattle.cjc_components.specs.ExportFile.{field_entry, fields_from, is_listed, method_entry, methods_from, added_from}
use Rattle.cjc_components.specs.ExportFile.{inherited, export_class, export_of}
use Rattle.cjc_components.specs.Class.{fields_of}
use Rattle.cjc_components.specs.Descriptor.{as_added}
use Rattle.cjc_components.specs.Names.{member_token}
use Rattle.cjc_components.specs.LowerTokens.Members.{is_exposed}
use Rattle.cjc_world.specs.Added.{added}
use Rattle.cjc_world.specs.Lookup.{member_at}

-- Of the same list and files; the rest may differ.
abbrev like : Package → Package → Package
like p q = record q { list = p.list; files = p.files }

fields-like : (p q : Package) (c : Class) (i : ℕ) (fs : List FieldTree) → fields_from (like p q) c i fs
    ≡ fields_from p c i fs
fields-like p q c i [] = refl
fields-like p q c i (f ∷ fs) = ap (λ r. (if is_exposed f.flags then field_entry p c i f ∷ [] else [])
    ++ r) (fields-like p q c (i + 1) fs)

methods-like : (p q : Package) (c : Class) (i : ℕ) (ms : List Member) → methods_from (like p q) c i ms
    ≡ methods_from p c i ms
methods-like p q c i [] = refl
methods-like p q c i (m ∷ ms) = ap (λ r. (if is_listed c m then method_entry (member_token p (Some (member_at c i))) m
    ∷ [] else []) ++ r) (methods-like p q c (i + 1) ms)

added-like : (p q : Package) (c : Class) (i : ℕ) (ms : List Member) → added_from (like p q) c i ms ≡ added_from p c i ms
added-like p q c i [] = refl
added-like p q c i (m ∷ ms) = ap (λ r. method_entry (member_token p (Some (member_at c i))) (as_added m)
    ∷ r) (added-like p q c (i + 1) ms)

class-like : (p q : Package) (c : Class) → export_class (like p q) c ≡ export_class p c
class-like p q c =
    ap (λ (fs : List ExportField). record (export_class p c) {
      fields = fs;
      methods = methods_from (like p q) c (length c.fields) c.methods
          ++ (added_from (like p q) c (length c.fields + length c.methods) (added (world p) c)
          ++ inherited (world p) c);
    })
    (fields-like p q c 0 (fields_of p.files c))
    ∙ ap (λ (ms : List ExportMethod). record (export_class p c) {
      methods = ms
          ++ (added_from (like p q) c (length c.fields + length c.methods) (added (world p) c)
          ++ inherited (world p) c);
    })
    (methods-like p q c (length c.fields) c.methods)
    ∙ ap (λ (ms : List ExportMethod). record (export_class p c) {
      methods = methods_from p c (length c.fields) c.methods
          ++ (ms ++ inherited (world p) c);
    })
    (added-like p q c (length c.fields + length c.methods) (added (world p) c))

classes-like : (p q : Package) (cs : List Class) → map (export_class (like p q)) cs ≡ map (export_class p) cs
classes-like p q [] = refl
classes-like p q (c ∷ cs) = ap (λ d. d ∷ map (export_class (like p q)) cs) (class-like p q c)
    ∙ ap (λ ds. export_class p c ∷ ds) (classes-like p q cs)

tree-like : (p q : Package) → export_of (like p q) ≡ export_of p
tree-like p q = ap (λ (cs : List ExportClass). record (export_of p) { classes = cs })
    (classes-like p q (exported_classes p))

pub plain-tree : (list : ListTree) (files : Files) (p : Package) → p.list ≡ list → p.files ≡ files
    → export_of (plain list files) ≡ export_of p
plain-tree list files p of_list of_files = ap (λ l. export_of (plain l files)) (sym of_list)
    ∙ ap (λ f. export_of (plain p.list f)) (sym of_files) ∙ tree-like p (plain list files)
