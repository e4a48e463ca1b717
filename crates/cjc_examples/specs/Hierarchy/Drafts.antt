-- Packages made by hand, whose methods have no code: how they are written here.
use Rattle.std.specs.Prelude.{ℕ, List, [], ◌∷◌, Option, Some, None, false, true, pos, codes}
use Rattle.cjc_code.specs.ClassFile.declared.tree.MethodTree.{MethodTree}
use Rattle.cjc_world.specs.ExportFile.declared.tree.ExportField.{ExportField}
use Rattle.cjc_world.specs.ExportFile.declared.tree.ExportMethod.{ExportMethod}
use Rattle.cjc_world.specs.ExportFile.declared.tree.ExportClass.{ExportClass}
use Rattle.cjc_world.specs.ExportFile.declared.tree.ExportTree.{ExportTree}
use Rattle.cjc_world.specs.declared.found.Found.{Found}
use Rattle.cjc_components.specs.LowerCardSemantics.Machine.Worked.{object, exported, tree}

-- a method without code
abbrev pub bodiless : (flags : ℕ) → (name desc : List ℕ) → MethodTree
bodiless flags name desc = record { flags = flags; name = name; desc = desc; code = None }

-- a constant of an export file, with the value 1
abbrev pub listed_constant : (name desc : List ℕ) → ExportField
listed_constant name desc = record { token = 0xFF; flags = 0x0019; name = name; desc = desc; constant = Some (pos 1) }

-- a class of an export file
abbrev pub imported : (flags : ℕ) → (name : List ℕ) → (supers interfaces : List (List ℕ)) → List ExportField
    → List ExportMethod → ExportClass
imported flags name supers interfaces fields methods = record (exported 0 name supers) {
  flags = flags;
  interfaces = interfaces;
  fields = fields;
  methods = methods;
}

-- the export file of java/lang, with Object alone
abbrev pub lang : ExportTree
lang = tree (codes "java/lang") (exported 0 object [] ∷ [])

-- a member of a class of the package: the fields of the class stand before its methods
abbrev pub declared : (class member : ℕ) → Option Found
declared class member = Some (record { imported = false; class = class; member = member })

-- a member of a class of an export file, where java/lang/Object is the class 0
abbrev pub listed : (class member : ℕ) → Option Found
listed class member = Some (record { imported = true; class = class; member = member })
