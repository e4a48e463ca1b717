-- How the search of a class and its superclasses begins in the world of the class's package and in the joint one.
use Rattle.std.specs.Prelude.{◌≡◌, ℕ, ◌+◌, List, Option, Some, option_map, true}
use Rattle.cjc_world.specs.ClassFile.declared.tree.ClassTree.{ClassTree}
use Rattle.cjc_world.specs.declared.found.Found.{Found}
use Rattle.cjc_world.specs.Classes.{Class, all_classes, class_named, declared}
use Rattle.cjc_world.specs.Files.{Files}
use Rattle.cjc_world.specs.Lookup.{first}
use Rattle.cjc_world.specs.Supertypes.{line}
use Rattle.cjc_world.specs.Upwards.{OnLine}
use Rattle.cjc_joint_proof.specs.Worlds.{IsOwn, before, found_in}
use Rattle.cjc_joint_theorem.specs.Together.Homes.{joint_world}

-- What a search asks of a class is told of its number alone, as a class declares its members.
abbrev pub Moves : (own : Class → Option Found) → Type 0
Moves own = (n k : ℕ) (t : ClassTree) → own (declared (n + k) t) ≡ option_map (found_in n) (own (declared k t))

-- How a search of a class and its superclasses begins in both worlds: it ends in a class file of the package, or goes
-- on at the first imported class.
pub data Begins (group : List Files) (q : ℕ) (p : Files) (own : Class → Option Found) (x : List ℕ) : Type 0 where
  in_package : (k : ℕ) (t : ClassTree) (f : Found) → IsOwn group q k p t → OnLine (all_classes p) x (declared k t)
      → own (declared k t) ≡ Some f → first own (line (all_classes p) x) ≡ Some f
      → first own (line (joint_world group) x) ≡ Some (found_in (before group q) f) → Begins group q p own x
  at_import : (y : List ℕ) (c : Class) → class_named (all_classes p) y ≡ Some c → c.is_imported ≡ true
      → OnLine (all_classes p) x c
      → first own (line (all_classes p) x) ≡ first own (line (all_classes p) y)
      → first own (line (joint_world group) x) ≡ first own (line (joint_world group) y) → Begins group q p own x
