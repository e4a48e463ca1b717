-- The line of a class: the class, its superclass, and so on upwards.
use Rattle.std.specs.Prelude.{ℕ, List, [], ◌∷◌, if◌then◌else◌}
use Rattle.cjc_world.specs.Classes.{Member, Class}
use Rattle.cjc_world.specs.Supertypes.{Supertypes, End, Unknown, Known, supertypes, upwards}
use Rattle.cjc_world.specs.Added.{added}

-- What the line of a class is, by where the class stands.
pub data Line : Type 0 where
  -- no class
  Nowhere : Line
  -- an imported class and its supers going upwards
  Imported : (classes : List Class) → Line
  -- a class of the package with the methods that are added to it, below its superclass
  Declared : (class : Class) (given : List Member) (above : Line) → Line

-- the line of the first class of a tree
abbrev pub line_in : List Class → Supertypes → Line
line_in w End = Nowhere
line_in w (Unknown name next) = Nowhere
line_in w (Known c supers interfaces next) = if c.is_imported then Imported (c ∷ upwards supers)
    else Declared c (added w c) (line_in w supers)

-- the line of a class
abbrev pub line_at : List Class → Class → Line
line_at w c = line_in w (Known c (supertypes w c.supers) (supertypes w c.interfaces) End)

-- the line of the class of a name
abbrev pub line_of : List Class → List ℕ → Line
line_of w name = line_in w (supertypes w (name ∷ []))
