-- Tokens of fields, an int among them, which takes two, and of package-visible methods beside one of an imported class.
use Rattle.std.specs.Prelude.{ℕ, List, [], ◌∷◌, map, flat_map, Option, Some, None, false, pos, codes}
use Rattle.cjc_code.specs.ClassFile.declared.tree.ClassTree.{ClassTree}
use Rattle.cjc_world.specs.ExportFile.declared.tree.ExportTree.{ExportTree}
use Rattle.cjc_world.specs.declared.found.Found.{Found}
use Rattle.cjc_tokens.specs.Tokens.{Assigned, assigned, field_of_token, public_methods_of, package_methods_of}
use Rattle.cjc_components.specs.LowerJvmSemantics.Worked.{class, field}
use Rattle.cjc_components.specs.LowerCardSemantics.Machine.Worked.{object, exported_method, tree}
use Rattle.cjc_examples.specs.Components.Packages.{files_of}
use Rattle.cjc_examples.specs.Hierarchy.Drafts.{bodiless, imported, lang}

-- ---- fields

-- the class p/F with fields of every kind
abbrev pub class_f : ClassTree
class_f = class 0x0021 (codes "p/F") object [] [] (field 0x0002 (codes "a") (codes "S") None ∷ field 0x0001
    (codes "b") (codes "[B") None ∷ field 0x0001 (codes "c") (codes "S") None ∷ field 0x0000 (codes "d")
    (codes "Lp/F;") None ∷ field 0x0004 (codes "e") (codes "I") None ∷ field 0x0009 (codes "s") (codes "S") None
    ∷ field 0x0019 (codes "k") (codes "S") (Some (pos 1)) ∷ field 0x000C (codes "t") (codes "[B") None ∷ field 0x000A
    (codes "u") (codes "S") None ∷ field 0x0019 (codes "o") (codes "Lp/F;") (Some (pos 1)) ∷ field 0x0004 (codes "g")
    (codes "Z") None ∷ []) []

-- the tokens of its package
abbrev pub tokens : Assigned
tokens = assigned false (files_of (lang ∷ []) (class_f ∷ []))

-- those of the fields, in the order of the file
abbrev pub tokens_of_fields : List (Option ℕ)
tokens_of_fields = flat_map (λ c. c.members) tokens.classes

-- the fields that have the instance tokens from 0 to 7
abbrev pub fields_of_tokens : List (Option ℕ)
fields_of_tokens = map (field_of_token tokens 0) (0 ∷ 1 ∷ 2 ∷ 3 ∷ 4 ∷ 5 ∷ 6 ∷ 7 ∷ [])

-- ---- package-visible methods

-- q/G has a package-visible method with token 2
abbrev pub q : ExportTree
q = tree (codes "q") (
    imported 0x0001 (codes "q/G") (object ∷ []) [] [] (exported_method 0 0x0001 (codes "equals")
    (codes "(Ljava/lang/Object;)Z") ∷ exported_method 1 0x0001 (codes "a") (codes "()S") ∷ exported_method 2
    0x0000 (codes "o") (codes "()V") ∷ [])
    ∷ [])

-- p/C with package-visible methods, p/D below it, which overrides one, and p/E below q/G, with a method like
-- that of q/G
abbrev pub hiding : List ClassTree
hiding =
    class 0x0021 (codes "p/C") object [] [] [] (bodiless 0x0001 (codes "a") (codes "()S") ∷ bodiless 0x0000
    (codes "b") (codes "()S") ∷ bodiless 0x0004 (codes "c") (codes "()S") ∷ bodiless 0x0000 (codes "d")
    (codes "()S") ∷ [])
    ∷ class 0x0021 (codes "p/D") (codes "p/C") [] [] [] (bodiless 0x0000 (codes "e") (codes "()S") ∷ bodiless 0x0000
    (codes "b") (codes "()S") ∷ bodiless 0x0001 (codes "f") (codes "()S") ∷ [])
    ∷ class 0x0021 (codes "p/E") (codes "q/G") [] [] [] (bodiless 0x0001 (codes "n") (codes "()V") ∷ bodiless 0x0000
    (codes "o") (codes "()V") ∷ [])
    ∷ []

-- the tokens of their package
abbrev pub hidden : Assigned
hidden = assigned false (files_of (lang ∷ q ∷ []) hiding)

-- those of the methods of each class, in the order of the file
abbrev pub tokens_of_members : List (List (Option ℕ))
tokens_of_members = map (λ c. c.members) hidden.classes

-- the methods that the tokens from 0 on mean in p/E
abbrev pub public_methods : List (Option Found)
public_methods = public_methods_of hidden 2

-- those that the package-visible ones mean
abbrev pub package_methods : List (Option Found)
package_methods = package_methods_of hidden 2
