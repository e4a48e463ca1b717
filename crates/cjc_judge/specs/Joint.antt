-- What the files of several packages spell, where they are read once more for a world of all of them.
use Rattle.std.specs.Prelude.{◌≡◌, List}
use Rattle.cjc_clinit.specs.Bytecode.PackageCodes.{all_codes}
use Rattle.cjc_judge.specs.Spelt.{FileTree, classes_of, exports_of}
use Rattle.cjc_judge.specs.declared.joint.JointTrees.{JointTrees}

-- These are the classes and the export files of trees, each in their order, and the instructions of all methods that
-- break neither 103 nor 303.
pub record AreOf (trees : List FileTree) (read : JointTrees) : Type 0 where
  pub classes : read.classes ≡ classes_of trees
  pub exports : read.exports ≡ exports_of trees
  pub codes : read.codes ≡ all_codes read.classes
