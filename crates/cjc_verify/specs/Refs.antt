-- Where the class of a name begins, as code looks for it.
use Rattle.std.specs.Prelude.{ℕ, List, [], ◌∷◌, Option, Some, None, if◌then◌else◌}
use Rattle.cjc_world.specs.ClassFile.declared.tree.ClassTree.{ClassTree}
use Rattle.cjc_classes.specs.ClassInfo.Infos.{number_named}

-- the start of the first class of this name among those of these numbers, as far as there are starts
abbrev pub spot_by : List ClassTree → List ℕ → (starts : List ℕ) → (name : List ℕ) → Option ℕ
spot_by trees (n ∷ ns) (at ∷ starts) name = if number_named trees n name then Some at else spot_by trees ns starts name
spot_by trees ns starts name = None
