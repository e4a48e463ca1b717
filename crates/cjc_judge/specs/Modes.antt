-- The modes of the methods of a package, where ranges were asked for.
use Rattle.std.specs.Prelude.{◌≡◌, Bool, true, not, ◌&&◌, List, [], ◌∷◌}
use Rattle.std.specs.List.{list_any}
use Rattle.cjc_world.specs.ClassFile.Code.{CodeTree}
use Rattle.cjc_world.specs.ClassFile.declared.tree.ClassTree.{ClassTree}
use Rattle.cjc_world.specs.ClassFile.declared.tree.MethodTree.{MethodTree}
use Rattle.cjc_clinit.specs.Bytecode.declared.method_code.MethodCode.{MethodCode}
use Rattle.cjc_narrow.specs.Types.Flow.{body_of}
use Rattle.cjc_narrow.specs.Types.Tables.{IsMethodOf}
use Rattle.cjc_vtable.specs.LowerTokens.Members.{is_initialiser}
use Rattle.cjc_world.specs.Files.{Files}
use Rattle.cjc_int_mode.specs.declared.modes.Mode.{Mode}
use Rattle.cjc_judge.specs.declared.groups.Group.{Group}
use Rattle.cjc_judge.specs.OutOfRange.{IsModeBy}
use Rattle.cjc_judge.specs.Types.{asks_ranges}

-- whether a method may be in int mode, where `ints` says whether the list has the line `int`: an initialiser, which is
-- not written, may not
abbrev pub may_be_int : (ints : Bool) → MethodTree → Bool
may_be_int ints m = ints && not (is_initialiser m.name)

-- The mode of a method with code.
abbrev pub IsModeIn : (ints : Bool) → Files → MethodCode → Mode → Type 0
IsModeIn ints world code mode =
    (class : ClassTree) (method : MethodTree) (tree : CodeTree) → IsMethodOf world code class method tree
    → IsModeBy (may_be_int ints method) world (body_of class method tree code.insns) mode

-- One mode a method, in the order of the codes.
abbrev pub AreModes : (ints : Bool) → Files → List MethodCode → List Mode → Type 0
AreModes ints world [] modes = modes ≡ []
AreModes ints world (code ∷ codes) [] = ⊥
AreModes ints world (code ∷ codes) (mode ∷ modes) = IsModeIn ints world code mode × AreModes ints world codes modes

-- Where one of the groups asks for ranges, there are modes.
abbrev pub AreModesWhereNamed : List Group → (ints : Bool) → Files → List MethodCode → List Mode → Type 0
AreModesWhereNamed tested ints world codes modes = list_any asks_ranges tested ≡ true → AreModes ints world codes modes
