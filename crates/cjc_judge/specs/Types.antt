-- The types of the methods of a package, where they were asked for.
use Rattle.std.specs.Prelude.{◌≡◌, Bool, true, false, List, [], ◌∷◌}
use Rattle.std.specs.List.{list_any}
use Rattle.cjc_world.specs.ClassFile.Code.{CodeTree}
use Rattle.cjc_world.specs.ClassFile.declared.tree.ClassTree.{ClassTree}
use Rattle.cjc_world.specs.ClassFile.declared.tree.MethodTree.{MethodTree}
use Rattle.cjc_clinit.specs.Bytecode.declared.method_code.MethodCode.{MethodCode}
use Rattle.cjc_narrow.specs.Types.Flow.{body_of}
use Rattle.cjc_narrow.specs.Types.Tables.{IsMethodOf, IsTypeTable}
use Rattle.cjc_narrow.specs.Types.declared.table.TypeTable.{TypeTable}
use Rattle.cjc_world.specs.Classes.{all_classes}
use Rattle.cjc_world.specs.Files.{Files}
use Rattle.cjc_judge.specs.declared.groups.Group.{Group}
use Rattle.cjc_judge.specs.declared.groups.Group.TheVariants as groups

-- The table is the least one of the method, and no instruction that is reached breaks a rule of types.
abbrev pub IsTableOf : Files → MethodCode → TypeTable → Type 0
IsTableOf world code table =
    (class : ClassTree) (method : MethodTree) (tree : CodeTree) → IsMethodOf world code class method tree
    → IsTypeTable (all_classes world) (body_of class method tree code.insns) table

-- One table a method, in the order of the codes.
abbrev pub AreTables : Files → List MethodCode → List TypeTable → Type 0
AreTables world [] tables = tables ≡ []
AreTables world (code ∷ codes) [] = ⊥
AreTables world (code ∷ codes) (table ∷ tables) = IsTableOf world code table × AreTables world codes tables

-- ---- which groups ask for them

-- ranges are found over types
abbrev pub asks_types : Group → Bool
asks_types groups.Types = true
asks_types groups.Ranges = true
asks_types _ = false

-- 601 to 609 alone ask for the intervals of numbers
abbrev pub asks_ranges : Group → Bool
asks_ranges groups.Ranges = true
asks_ranges _ = false

-- Where one of the groups asks for types, there are tables.
abbrev pub AreTablesWhereNamed : List Group → Files → List MethodCode → List TypeTable → Type 0
AreTablesWhereNamed tested world codes tables = list_any asks_types tested ≡ true → AreTables world codes tables
