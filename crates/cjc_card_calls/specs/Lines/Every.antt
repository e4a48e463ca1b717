-- All classes of packages and of the export files that they import, in their order.
use Rattle.std.specs.Prelude.{ℕ, ◌+◌, List, [], ◌∷◌, ◌++◌, map, Option, Some, None}
use Rattle.cjc_card_semantics.specs.ExportFile.declared.tree.ExportTree.{ExportTree}
use Rattle.cjc_card_link.specs.LowerCheckRules.Spots.{starts}
use Rattle.cjc_card_semantics.specs.Machine.Loaded.{Part, Loaded}
use Rattle.cjc_card_semantics.specs.Machine.Classes.{Class, Own, External, info_size, infos}

-- those of a package, by the offsets of its infos
abbrev pub classes_in : (part : ℕ) → Part → List Class
classes_in p part = map (Own p) (starts info_size 2 (infos part))

-- those of a package that is there
abbrev pub classes_at : (part : ℕ) → Option Part → List Class
classes_at p None = []
classes_at p (Some part) = classes_in p part

-- those of packages from a number on
abbrev pub part_classes : (part : ℕ) → List Part → List Class
part_classes p [] = []
part_classes p (part ∷ parts) = classes_in p part ++ part_classes (p + 1) parts

-- those of all packages
abbrev pub own_classes : Loaded → List Class
own_classes l = part_classes 0 l.parts

-- those of export files from a number on, by their tokens
abbrev pub files_classes : (tree : ℕ) → List ExportTree → List Class
files_classes k [] = []
files_classes k (t ∷ trees) = map (λ c. External k c.token) t.classes ++ files_classes (k + 1) trees
