-- Classes of class files and of export files, as the code lends them, and the one kind of class that
-- definitions have.
use Rattle.cjc_world.specs.declared.class.Known.{Known}
use Rattle.cjc_world.specs.declared.class.Known.TheVariants as kinds
use Rattle.cjc_world.specs.Classes.{Class, declared, imported}

-- the class that is meant, with its number
abbrev pub class_of : Known → Class
class_of (kinds.Declared number c) = declared number c.now
class_of (kinds.Imported number c) = imported number c.now
