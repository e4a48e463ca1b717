-- java/lang/Object above every other class and interface of an export file, whether the file lists it or not (Java
-- Virtual Machine Specification, sections 4.1 and 4.10.1.2).
use Rattle.std.specs.Prelude.{ℕ, List, [], ◌∷◌, ◌++◌, ◌||◌, if◌then◌else◌, codes}
use Rattle.std.specs.List.{list_any}
use Rattle.std.specs.Str.{bytes_eq}

-- the class above all others
abbrev pub object : List ℕ
object = codes "java/lang/Object"

-- The superclasses of the class of this name: those that its file lists, and behind them java/lang/Object, unless it
-- is listed or the class is that one.
unfoldable pub with_root : (name : List ℕ) → (listed : List (List ℕ)) → List (List ℕ)
with_root name listed = if bytes_eq name object || list_any (λ x. bytes_eq x object) listed then listed
    else listed ++ object ∷ []
