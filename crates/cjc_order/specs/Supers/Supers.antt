-- The names of the superclasses and of the interfaces of a class, those that no file has too.
use Rattle.std.specs.Prelude.{ℕ, List, [], ◌∷◌, ◌++◌, map, true, false, if◌then◌else◌}
use Rattle.cjc_world.specs.ExportFile.Supers.{is_one_of}
use Rattle.cjc_world.specs.Classes.{Class}
use Rattle.cjc_world.specs.Supertypes.{Supertypes, End, Unknown, Known, supertypes}
use Rattle.cjc_world.specs.Interfaces.{Interface, gathered}
use Rattle.cjc_world.specs.Interfaces

-- The names, each followed by the supers in the order of its file and theirs. One that is reached twice stands twice.
abbrev pub names_upwards : Supertypes → List (List ℕ)
names_upwards End = []
names_upwards (Unknown name next) = name ∷ names_upwards next
names_upwards (Known c supers interfaces next) = c.name ∷ names_upwards supers ++ names_upwards next

-- each name once, where it stands first
abbrev pub each_once : (seen : List (List ℕ)) → List (List ℕ) → List (List ℕ)
each_once seen [] = []
each_once seen (x ∷ xs) = if is_one_of seen x then each_once seen xs else x ∷ each_once (seen ++ x ∷ []) xs

-- the superclasses of a class going upwards, of an imported class the supers that its file lists in the order of the
-- file,
-- each followed by its own
abbrev pub superclasses : List Class → Class → List (List ℕ)
superclasses w c = each_once [] (names_upwards (supertypes w c.supers))

-- the name of an interface, also of one that no file has
abbrev pub name_of : Interface → List ℕ
name_of i = i.name

-- the interfaces of a class, in order
abbrev pub interfaces : List Class → Class → List (List ℕ)
interfaces w c = map name_of (Interfaces.each_once [] (gathered false (supertypes w c.supers)
    ++ gathered true (supertypes w c.interfaces)))
