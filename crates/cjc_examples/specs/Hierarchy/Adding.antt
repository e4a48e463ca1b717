-- The methods that abstract classes get of their interfaces. Classes of the package: p/I, p/J, p/L, p/A, p/B, p/C and
-- p/D, at 0 to 6; q/K is an imported interface.
use Rattle.std.specs.Prelude.{ℕ, List, [], ◌∷◌, map, Option, Some, None, pos, codes}
use Rattle.cjc_code.specs.ClassFile.declared.tree.ClassTree.{ClassTree}
use Rattle.cjc_world.specs.ExportFile.declared.tree.ExportTree.{ExportTree}
use Rattle.cjc_world.specs.Files.{Files}
use Rattle.cjc_world.specs.Added.{added_at}
use Rattle.cjc_components.specs.LowerJvmSemantics.Worked.{class, field}
use Rattle.cjc_components.specs.LowerCardSemantics.Machine.Worked.{object, exported_method, tree}
use Rattle.cjc_examples.specs.Components.Packages.{files_of}
use Rattle.cjc_examples.specs.Hierarchy.Drafts.{bodiless, imported, lang}

-- the export file of q: its methods do not stand in the order of their tokens
abbrev pub q : ExportTree
q = tree (codes "q") (
    imported 0x0601 (codes "q/K") (object ∷ []) [] [] (exported_method 1 0x0401 (codes "second") (codes "()V")
    ∷ exported_method 0 0x0401 (codes "first") (codes "()V") ∷ [])
    ∷ [])

-- the class files
abbrev pub package_classes : List ClassTree
package_classes =
    class 0x0601 (codes "p/I") object [] [] [] (bodiless 0x0008 (codes "<clinit>") (codes "()V") ∷ bodiless 0x0401
    (codes "a") (codes "()V") ∷ bodiless 0x0401 (codes "equals") (codes "(Ljava/lang/Object;)Z") ∷ bodiless 0x0401
    (codes "b") (codes "()V") ∷ [])
    ∷ class 0x0601 (codes "p/J") object (codes "p/I" ∷ []) [] [] (bodiless 0x0401 (codes "c") (codes "()V") ∷ bodiless
    0x0401 (codes "b") (codes "()V") ∷ [])
    ∷ class 0x0601 (codes "p/L") object [] [] [] (bodiless 0x0401 (codes "d") (codes "()V") ∷ bodiless 0x0401
    (codes "b") (codes "()V") ∷ [])
    ∷ class 0x0421 (codes "p/A") object (codes "p/J" ∷ codes "q/K" ∷ []) [] [] (bodiless 0x0001 (codes "a")
    (codes "()V") ∷ bodiless 0x0009 (codes "c") (codes "()V") ∷ [])
    ∷ class 0x0421 (codes "p/B") (codes "p/A") (codes "q/K" ∷ codes "p/L" ∷ []) [] [] []
    ∷ class 0x0021 (codes "p/C") (codes "p/A") (codes "p/L" ∷ []) [] [] []
    ∷ class 0x0421 (codes "p/D") object (codes "p/I" ∷ []) [] [] (bodiless 0x0002 (codes "b") (codes "()V") ∷ [])
    ∷ []

-- the package
abbrev pub adding : Files
adding = files_of (lang ∷ q ∷ []) package_classes

-- the names of the methods that a class of the package gets, in order
abbrev pub names_added : (class : ℕ) → List (List ℕ)
names_added class = map (λ m. m.name) (added_at adding class)
