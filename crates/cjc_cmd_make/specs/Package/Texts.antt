-- The list that names the files of the package, and the script that calls its classes.
use Rattle.std.specs.Prelude.{ℕ, List, [], ◌∷◌, ◌++◌, codes, decimal}
use Rattle.std.specs.List.{flat_map}
use Rattle.cjc_cmd_make.specs.Package.Classes.{class_name}
use Rattle.cjc_cmd_make.specs.Package.Numbers.{below}

-- a line, which ends with a line feed (10)
abbrev pub line : List ℕ → List ℕ
line text = text ++ 10 ∷ []

-- `class Ci.class`
abbrev pub class_line : ℕ → List ℕ
class_line i = line (codes "class C" ++ decimal i ++ codes ".class")

-- the package, the file of java/lang, and so many classes
abbrev pub list_text : ℕ → List ℕ
list_text size = line (codes "package gen/p A000000003 1.0") ++ line (codes "export lang.exp")
    ++ flat_map class_line (below size)

-- `call gen/p/Ci f(S)S i`
abbrev pub call_line : ℕ → List ℕ
call_line i = line (codes "call " ++ class_name i ++ codes " f(S)S " ++ decimal i)

-- f of each class, called with the number of the class
abbrev pub script_text : ℕ → List ℕ
script_text size = flat_map call_line (below size)
