-- Methods for which there is room: the words of their arguments and, in int mode, of all that is written.
use Rattle.std.specs.Prelude.{◌≡◌, ◌-◌, ℕ, List, length, slice_get, true, false, Some}
use Rattle.cjc_world.specs.ClassFile.Code.{CodeTree}
use Rattle.cjc_world.specs.ClassFile.declared.tree.ClassTree.{ClassTree}
use Rattle.cjc_world.specs.ClassFile.declared.tree.MethodTree.{MethodTree}
use Rattle.cjc_world.specs.declared.found.Found.{Found}
use Rattle.cjc_world.specs.Classes.{Class, all_classes, class_at}
use Rattle.cjc_world.specs.Files.{Files}
use Rattle.cjc_components.specs.Bytecode.declared.method_code.MethodCode.{MethodCode}
use Rattle.cjc_components.specs.Descriptor.{method_in}
use Rattle.cjc_components.specs.Limits.{has_many_words}
use Rattle.cjc_narrow.specs.Types.Flow.{body_of}
use Rattle.cjc_narrow.specs.Types.Tables.{IsMethodOf}
use Rattle.cjc_narrow.specs.Types.declared.table.TypeTable.{TypeTable}
use Rattle.cjc_int_mode.specs.Room.{IsRoom}
use Rattle.cjc_int_mode.specs.declared.modes.Mode.{Mode}
use Rattle.cjc_int_mode.specs.declared.modes.Mode.TheVariants as modes
use Rattle.cjc_methods.specs.Ready.{states}
use Rattle.cjc_methods.specs.Working.Places.{class_places, place_in}

-- Where the method is in int mode, by the mode at the place of its code, there is room for what is written.
abbrev pub HasIntRoom : Files → List MethodCode → List TypeTable → List Mode → Found → Type 0
HasIntRoom files codes types modes_of f =
    (owner : ClassTree) (k : ℕ) → slice_get files.classes f.class ≡ Some owner
    → place_in (class_places 0 files.classes) f.class (f.member - length owner.fields) ≡ Some k
    → slice_get modes_of k ≡ Some modes.Int
    → (code : MethodCode) (table : TypeTable) → slice_get codes k ≡ Some code → slice_get types k ≡ Some table
    → (class : ClassTree) (method : MethodTree) (tree : CodeTree) → IsMethodOf files code class method tree
    → IsRoom (body_of class method tree code.insns) (states code class method tree table) modes.Int true

-- The parameters, with the receiver, need at most 255 words, and there is room in int mode.
pub record HasRoom (files : Files) (codes : List MethodCode) (types : List TypeTable) (modes_of : List Mode)
    (f : Found) : Type 0 where
  pub arguments : (c : Class) → class_at (all_classes files) f.imported f.class ≡ Some c
      → has_many_words (method_in (all_classes files) c f.member) ≡ false
  pub in_int_mode : HasIntRoom files codes types modes_of f
