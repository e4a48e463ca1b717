-- The methods of a class as the code walks them.
use Rattle.std.specs.Prelude.{ℕ, zero, suc, ◌+◌, List, [], ◌∷◌, false, if◌then◌else◌, codes}
use Rattle.std.specs.Str.{bytes_eq}
use Rattle.cjc_world.specs.ClassFile.declared.tree.MethodTree.{MethodTree}
use Rattle.cjc_world.specs.declared.found.Found.{Found}

-- a member of the class of this number
abbrev pub own : (class place : ℕ) → Found
own class i = record { imported = false; class = class; member = i }

-- the methods of a class file, the first of which has this place, without <clinit>
abbrev pub written : (class place : ℕ) → List MethodTree → List Found
written class i [] = []
written class i (m ∷ ms) = if bytes_eq m.name (codes "<clinit>") then written class (i + 1) ms else own class i
    ∷ written class (i + 1) ms

-- so many members from a place on
abbrev pub places : (class place count : ℕ) → List Found
places class i zero = []
places class i (suc n) = own class i ∷ places class (i + 1) n
