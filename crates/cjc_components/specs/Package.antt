-- What the components of a package are made of.
use Rattle.std.specs.Prelude.{List, length, map, Bool, nat_lt}
use Rattle.cjc_list.specs.Listed.{ListTree}
use Rattle.cjc_clinit.specs.World.declared.found.Found.{Found}
use Rattle.cjc_clinit.specs.World.declared.image.StaticImage.{StaticImage}
use Rattle.cjc_clinit.specs.World.Files.{Files}
use Rattle.cjc_clinit.specs.World.Classes.{Class, all_classes}
use Rattle.cjc_vtable.specs.LowerTokens.Tokens.{Assigned, assigned}
use Rattle.cjc_emit.specs.NCode.declared.narrow.NMethod.{NMethod}
use Rattle.cjc_emit.specs.NCode.declared.narrow.PoolKey.{PoolKey}
use Rattle.cjc_emit.specs.NCode.PoolOrder.{pool_order}

-- A method of a class, by what is written for it.
pub record LaidMethod : Type 0 where
  -- its class and its place among the members there: fields are counted first, and methods that the class got behind
  -- its own
  pub member : Found
  pub is_abstract : Bool
  -- no instructions where it is abstract; its handlers stand in the order of the class file
  pub code : NMethod
  -- for each instruction, whether a jump has its wide form
  pub wide : List Bool

-- A package: its list, its class files and export files, what its static fields hold at first, and its methods in the
-- order of Method.
pub record Package : Type 0 where
  pub list : ListTree
  pub files : Files
  pub image : StaticImage
  pub methods : List LaidMethod

-- the classes of all files
abbrev pub world : Package → List Class
world p = all_classes p.files

-- the list has an applet line
abbrev pub has_applets : Package → Bool
has_applets p = nat_lt 0 (length p.list.applets)

-- the tokens of all classes and members
abbrev pub tokens : Package → Assigned
tokens p = assigned (has_applets p) p.files

-- the narrow code of all methods
abbrev pub codes : Package → List NMethod
codes p = map (λ m. m.code) p.methods

-- the keys of the constant pool, in its order
abbrev pub pool : Package → List PoolKey
pool p = pool_order (codes p)
