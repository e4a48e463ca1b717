-- How packages are made by hand as class files and as components over the same export files, and run by all three
-- machines.
use Rattle.std.specs.Prelude.{ℕ, List, [], ◌∷◌, length, map, replicate, Option, Some, true, false, codes}
use Rattle.cjc_code.specs.ClassFile.declared.tree.ClassTree.{ClassTree}
use Rattle.cjc_world.specs.ExportFile.declared.tree.ExportTree.{ExportTree}
use Rattle.cjc_components.specs.LowerScript.declared.script.Answer.{Answer}
use Rattle.cjc_components.specs.LowerScript.declared.script.Entry.{Entry}
use Rattle.cjc_components.specs.LowerScript.declared.script.Act.{Act}
use Rattle.cjc_components.specs.LowerScript.declared.script.Reply.{Reply}
use Rattle.cjc_components.specs.LowerScript.declared.script.Script.{Script}
use Rattle.cjc_components.specs.LowerScript.declared.report.Report.{Report}
use Rattle.cjc_world.specs.declared.image.StaticImage.{StaticImage}
use Rattle.cjc_world.specs.Files.{Files}
use Rattle.cjc_components.specs.LowerJvmSemantics.Linked.{Method}
use Rattle.cjc_components.specs.LowerJvmSemantics.ByName
use Rattle.cjc_components.specs.LowerCardSemantics.Machine.Loaded.{Part, Loaded}
use Rattle.cjc_components.specs.LowerCardSemantics.Machine.Worked.{object, lang, tree, exported, exported_method}
use Rattle.cjc_components.specs.LowerCardSemantics.Machine.ByToken
use Rattle.cjc_components.specs.LowerNCode.declared.narrow.NMethod.{NMethod}
use Rattle.cjc_components.specs.LowerNarrow.Rows.Package.{code_of}
use Rattle.cjc_components.specs.LowerNarrow.Rows.Package

-- q has class q/A with a constructor, a static z, and virtual a and b
abbrev pub q : ExportTree
q = tree (codes "q") (record (exported 0 (codes "q/A") (object ∷ [])) {
  methods = exported_method 0 1 (codes "<init>") (codes "()V") ∷ exported_method 1 9 (codes "z") (codes "()Z")
      ∷ exported_method 0 1 (codes "equals") (codes "(Ljava/lang/Object;)Z") ∷ exported_method 1 1 (codes "a")
      (codes "()S") ∷ exported_method 2 1 (codes "b") (codes "()S") ∷ [];
} ∷ [])

-- class files over java/lang and q
abbrev pub over : (name : List ℕ) → List ClassTree → Files
over name classes = record {
  package_name = name;
  lines = record { class_file = false; name = [] } ∷ record { class_file = false; name = [] }
      ∷ map (λ c. record { class_file = true; name = [] }) classes;
  classes = classes;
  exports = lang ∷ q ∷ [];
}

-- components over the same
abbrev pub loaded : Part → Loaded
loaded part = record { parts = part ∷ []; trees = lang ∷ q ∷ [] }

-- ---- scripts

-- an entry after some acts
abbrev pub after : List Act → Entry → Entry
after acts entry = record entry { acts = acts }

-- an answer with this number
abbrev pub answer : (number : ℕ) → Reply → Answer
answer number reply = record { number = number; acts = []; reply = reply }

-- ---- runs

-- every instruction of a method is reached
abbrev pub all_reached : Method → List (Option ℕ)
all_reached m = replicate (length m.insns) (Some 0)

-- the narrow code of a package
abbrev pub narrow : Files → Method → NMethod
narrow files m = code_of files [] all_reached m

-- The reports of a script after so many instructions: of the class files by name, of the components by token, and of
-- narrow code by label.
abbrev pub reports : (n : ℕ) → Files → StaticImage → Loaded → Script → List Report
reports n files image components script =
    ByName.run files image script n ∷ ByToken.run components script n ∷ Package.run files image (narrow files) script n
    ∷ []
