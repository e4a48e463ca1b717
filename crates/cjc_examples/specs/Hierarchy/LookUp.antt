-- Look-up, selection and subtypes in one world of package and imported classes. Classes of the package: p/K, p/L, p/R,
-- p/A and p/B, at 0 to 4. Imported ones: java/lang/Object, q/I, q/J, q/Base, q/Deep and q/Odd, at 0 to 5.
use Rattle.std.specs.Prelude.{ℕ, List, [], ◌∷◌, map, Bool, true, false, Option, Some, None, pos, codes}
use Rattle.cjc_bytes.specs.declared.fault.MemberId.{MemberId}
use Rattle.cjc_code.specs.ClassFile.declared.tree.ClassTree.{ClassTree}
use Rattle.cjc_world.specs.ExportFile.declared.tree.ExportTree.{ExportTree}
use Rattle.cjc_world.specs.declared.found.Found.{Found}
use Rattle.cjc_world.specs.Classes.{Class, all_classes}
use Rattle.cjc_world.specs.Lookup.{find_field, find_method, selected}
use Rattle.cjc_world.specs.Subtype.{is_subtype}
use Rattle.cjc_components.specs.LowerJvmSemantics.Worked.{class, field}
use Rattle.cjc_components.specs.LowerCardSemantics.Machine.Worked.{id, object, exported_method, tree}
use Rattle.cjc_examples.specs.Components.Packages.{files_of}
use Rattle.cjc_examples.specs.Hierarchy.Drafts.{bodiless, listed_constant, imported, lang, declared, listed}

-- the export file of q: q/Deep lists its superclass first, q/Odd java/lang/Object
abbrev pub q : ExportTree
q = tree (codes "q") (
    imported 0x0601 (codes "q/I") (object ∷ []) [] (listed_constant (codes "c") (codes "S") ∷ []) (exported_method 1
    0x0401 (codes "i") (codes "()V") ∷ [])
    ∷ imported 0x0601 (codes "q/J") (object ∷ []) (codes "q/I" ∷ []) [] (exported_method 1 0x0401 (codes "i")
    (codes "()V") ∷ [])
    ∷ imported 0x0001 (codes "q/Base") (object ∷ []) (codes "q/J" ∷ codes "q/I" ∷ []) [] (exported_method 1 0x0001
    (codes "m") (codes "()V") ∷ exported_method 2 0x0001 (codes "n") (codes "()V") ∷ exported_method 0 0x0001
    (codes "equals") (codes "(Ljava/lang/Object;)Z") ∷ [])
    ∷ imported 0x0001 (codes "q/Deep") (codes "q/Base" ∷ object ∷ []) (codes "q/J" ∷ codes "q/I" ∷ []) [] []
    ∷ imported 0x0001 (codes "q/Odd") (object ∷ codes "q/Base" ∷ []) (codes "q/J" ∷ codes "q/I" ∷ []) [] [] ∷ [])

-- the class files
abbrev pub package_classes : List ClassTree
package_classes =
    class 0x0601 (codes "p/K") object [] [] (field 0x0019 (codes "x") (codes "S") (Some (pos 1)) ∷ field 0x0019
    (codes "z") (codes "S") (Some (pos 1)) ∷ []) (bodiless 0x0401 (codes "k") (codes "()V") ∷ [])
    ∷ class 0x0601 (codes "p/L") object (codes "p/K" ∷ []) [] (field 0x0019 (codes "y") (codes "S") (Some (pos 1))
    ∷ []) []
    ∷ class 0x0601 (codes "p/R") object (codes "p/K" ∷ []) [] (field 0x0019 (codes "x") (codes "B") (Some (pos 1))
    ∷ field 0x0019 (codes "y") (codes "S") (Some (pos 1)) ∷ []) (bodiless 0x0401 (codes "k") (codes "()V")
    ∷ bodiless 0x0401 (codes "r") (codes "()S") ∷ [])
    ∷ class 0x0021 (codes "p/A") (codes "q/Base") [] [] (field 0x0001 (codes "x") (codes "S") None ∷ []) (bodiless
    0x0002 (codes "m") (codes "()V") ∷ bodiless 0x0009 (codes "n") (codes "()V") ∷ bodiless 0x0001 (codes "o")
    (codes "()V") ∷ [])
    ∷ class 0x0021 (codes "p/B") (codes "p/A") (codes "p/L" ∷ codes "p/R" ∷ []) [] [] (bodiless 0x0001 (codes "b")
    (codes "()S") ∷ [])
    ∷ []

-- all classes
abbrev pub mixed : List Class
mixed = all_classes (files_of (lang ∷ q ∷ []) package_classes)

-- what is wanted of each
abbrev pub wanted : List (MemberId × Option Found) → List (Option Found)
wanted rows = map (λ r. r.1) rows

-- what is found of a field from a class on: an interface's before the superclass's, the first interface's first
abbrev pub field_rows : List (MemberId × Option Found)
field_rows = (id (codes "p/A") (codes "x") (codes "S"), declared 3 0)
    ∷ (id (codes "p/B") (codes "x") (codes "S"), declared 0 0)
    ∷ (id (codes "p/B") (codes "x") (codes "B"), declared 2 0)
    ∷ (id (codes "p/B") (codes "y") (codes "S"), declared 1 0)
    ∷ (id (codes "p/B") (codes "z") (codes "S"), declared 0 1)
    ∷ (id (codes "p/B") (codes "c") (codes "S"), listed 1 0)
    ∷ (id (codes "q/Deep") (codes "c") (codes "S"), listed 1 0)
    ∷ (id (codes "p/B") (codes "w") (codes "S"), None) ∷ (id (codes "p/No") (codes "x") (codes "S"), None)
    ∷ (id (codes "[S") (codes "x") (codes "S"), None) ∷ []

-- what is found of these
abbrev pub fields_found : List (Option Found)
fields_found = map (λ r. (let m = r.0 in find_field mixed m.class m.name m.desc)) field_rows

-- what is found of a method: superclasses before interfaces, superinterfaces before what is below them, and the supers
-- of an imported class in the order of its file
abbrev pub method_rows : List (MemberId × Option Found)
method_rows = (id (codes "p/B") (codes "b") (codes "()S"), declared 4 0)
    ∷ (id (codes "p/B") (codes "m") (codes "()V"), declared 3 1)
    ∷ (id (codes "p/B") (codes "n") (codes "()V"), declared 3 2)
    ∷ (id (codes "p/B") (codes "k") (codes "()V"), declared 0 2)
    ∷ (id (codes "p/R") (codes "k") (codes "()V"), declared 2 2)
    ∷ (id (codes "p/B") (codes "r") (codes "()S"), declared 2 3)
    ∷ (id (codes "p/B") (codes "i") (codes "()V"), listed 1 1)
    ∷ (id (codes "q/J") (codes "i") (codes "()V"), listed 2 0)
    ∷ (id (codes "p/B") (codes "equals") (codes "(Ljava/lang/Object;)Z"), listed 3 2)
    ∷ (id (codes "q/Deep") (codes "equals") (codes "(Ljava/lang/Object;)Z"), listed 3 2)
    ∷ (id (codes "q/Odd") (codes "equals") (codes "(Ljava/lang/Object;)Z"), listed 0 1)
    ∷ (id (codes "p/K") (codes "equals") (codes "(Ljava/lang/Object;)Z"), listed 0 1)
    ∷ (id (codes "p/B") (codes "m") (codes "()S"), None)
    ∷ (id (codes "p/No") (codes "equals") (codes "(Ljava/lang/Object;)Z"), None) ∷ []

-- what is found of these
abbrev pub methods_found : List (Option Found)
methods_found = map (λ r. (let m = r.0 in find_method mixed m.class m.name m.desc)) method_rows

-- what is selected for an object: private, static and interfaces' methods are passed over
abbrev pub selected_rows : List (MemberId × Option Found)
selected_rows = (id (codes "p/B") (codes "b") (codes "()S"), declared 4 0)
    ∷ (id (codes "p/B") (codes "m") (codes "()V"), listed 3 0)
    ∷ (id (codes "p/B") (codes "n") (codes "()V"), listed 3 1)
    ∷ (id (codes "p/B") (codes "o") (codes "()V"), declared 3 3)
    ∷ (id (codes "p/B") (codes "k") (codes "()V"), None)
    ∷ (id (codes "[S") (codes "equals") (codes "(Ljava/lang/Object;)Z"), listed 0 1)
    ∷ (id (codes "[Lp/A;") (codes "equals") (codes "(Ljava/lang/Object;)Z"), listed 0 1)
    ∷ (id (codes "p/No") (codes "equals") (codes "(Ljava/lang/Object;)Z"), None) ∷ []

-- what is selected of these
abbrev pub methods_selected : List (Option Found)
methods_selected = map (λ r. (let m = r.0 in selected mixed m.class m.name m.desc)) selected_rows

-- whether the first type is a subtype of the second
abbrev pub subtype_rows : List (List ℕ × List ℕ × Bool)
subtype_rows = (codes "p/B", codes "p/B", true) ∷ (codes "p/B", codes "p/A", true)
    ∷ (codes "p/B", codes "p/K", true) ∷ (codes "p/B", codes "q/I", true) ∷ (codes "p/B", object, true)
    ∷ (codes "p/K", object, true) ∷ (codes "q/Deep", codes "q/J", true) ∷ (codes "p/A", codes "p/B", false)
    ∷ (codes "p/A", codes "p/L", false) ∷ (codes "p/L", codes "p/R", false) ∷ (object, codes "p/A", false)
    ∷ (codes "[S", object, true) ∷ (codes "[S", codes "[S", true) ∷ (codes "[S", codes "[B", false)
    ∷ (codes "[Lp/B;", codes "[Lp/K;", true) ∷ (codes "[Lp/K;", codes "[Lp/B;", false)
    ∷ (codes "[S", codes "[Ljava/lang/Object;", false) ∷ (codes "[S", codes "p/A", false)
    ∷ (object, codes "[S", false) ∷ (codes "p/No", object, false) ∷ []

-- whether these are
abbrev pub are_subtypes : List Bool
are_subtypes = map (λ r. is_subtype mixed r.0 r.1) subtype_rows

-- whether they are to be
abbrev pub are_to_be_subtypes : List Bool
are_to_be_subtypes = map (λ r. r.2) subtype_rows
