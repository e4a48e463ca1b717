-- What the export file of a package of the first form says.
use Rattle.std.specs.Prelude.{[], ◌∷◌, true}
use Rattle.cjc_classfile.specs.declared.tree.ClassTree.{ClassTree}
use Rattle.cjc_classfile.specs.declared.tree.MethodTree.{MethodTree}
use Rattle.cjc_export.specs.declared.tree.ExportClass.{ExportClass}
use Rattle.cjc_export.specs.declared.tree.ExportTree.{ExportTree}
use Rattle.cjc_first.specs.Above.{inherited}
use Rattle.cjc_first.specs.FirstForm.{PackageLine, object}

-- what the export file says: the class, its method, and the methods that it inherits from java/lang/Object
abbrev pub exported : PackageLine → (root : ExportClass) → ClassTree → MethodTree → ExportTree
exported line root tree method = record {
  name = line.name;
  aid = line.aid;
  major = line.major;
  minor = line.minor;
  library = true;
  classes = record {
    token = 0;
    flags = 0x0001;
    name = tree.name;
    supers = object ∷ [];
    interfaces = [];
    fields = [];
    methods = record { token = 0; flags = 0x0009; name = method.name; desc = method.desc } ∷ inherited root;
  } ∷ [];
}
