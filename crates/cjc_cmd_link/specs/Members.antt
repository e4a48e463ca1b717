-- What the packages of a group are where they break no rule by themselves, as they are run; and what is linked of them.
use Rattle.std.specs.Prelude.{◌≡◌, List, [], ◌∷◌, Some}
use Rattle.cjc_link_semantics.specs.CheckRules.Complete.{complete}
use Rattle.cjc_link_semantics.specs.Components.Paired.Pairs.{ArePaired}
use Rattle.cjc_cmd_card.specs.Running.Ready.{IsReady}
use Rattle.cjc_cmd_card.specs.declared.running.input.Input.{Input}
use Rattle.cjc_cmd_card.specs.declared.running.ready.Ready.{Ready}
use Rattle.cjc_link_semantics.specs.Clinit.Image.{IsImage}
use Rattle.cjc_link_semantics.specs.Components.ExportFile.{export_of}
use Rattle.cjc_link_semantics.specs.Components.Package.{Package}
use Rattle.cjc_cmd_card.specs.LowerJudge.Rules.{files_spelt, has_applets}
use Rattle.cjc_cmd_card.specs.LowerJudge.Spelt.{FileTree, SpellTrees}
use Rattle.cjc_group.specs.World.Files.{Files}
use Rattle.cjc_link_semantics.specs.ExportFile.declared.tree.ExportTree.{ExportTree}
use Rattle.cjc_link_semantics.specs.List.Listed.{ListTree}
use Rattle.cjc_group.specs.Members.{Member as Linked}
use Rattle.cjc_link_semantics.specs.Loaded.{Member}

-- ---- as they are run

-- Of what was read of a package and of its components: they break no rule, the components are of the package, and the
-- static cells hold at first what its initialisers leave there.
pub record IsTested (input : Input) (m : Member) : Type 0 where
  pub ready : Ready
  pub is_ready : IsReady input [] ready
  pub applets : m.applets ≡ has_applets input.list
  pub files : m.files ≡ (let judged = ready.judged in judged.world)
  pub image : (let judged = ready.judged in IsImage judged.world judged.codes m.image)
  pub components : complete ready.cap ≡ Some m.components
  pub paired : (let judged = ready.judged in ArePaired judged.world m.image m.components)

-- the packages of a group, in order
abbrev pub AreTested : List Input → List Member → Type 0
AreTested [] [] = Unit {0}
AreTested [] (m ∷ group) = ⊥
AreTested (i ∷ inputs) [] = ⊥
AreTested (i ∷ inputs) (m ∷ group) = IsTested i m × AreTested inputs group

-- ---- as they are linked

-- a package by its list and its files alone
abbrev pub package_with : ListTree → Files → Package
package_with list files = record {
  list = list;
  files = files;
  image = record { arrays = []; nulls = []; zeros = []; others = [] };
  methods = [];
}

-- the export file that is written for the package of a list and its files; nothing of what static fields hold and of
-- code stands there
abbrev pub exported_by : ListTree → Files → ExportTree
exported_by list files = export_of (package_with list files)

-- a package by its list and what the list's files spell
abbrev pub linked_of : ListTree → List FileTree → Linked
linked_of list trees = record {
  list = list;
  files = files_spelt list trees;
  written = exported_by list (files_spelt list trees);
}

-- The files of the list spell what is linked.
pub record IsLinked (input : Input) (m : Linked) : Type 0 where
  pub trees : List FileTree
  pub spell : (let list = input.list in SpellTrees list.lines input.files trees)
  pub is : m ≡ linked_of input.list trees

-- the packages of a group, in order
abbrev pub AreLinked : List Input → List Linked → Type 0
AreLinked [] [] = Unit {0}
AreLinked [] (m ∷ group) = ⊥
AreLinked (i ∷ inputs) [] = ⊥
AreLinked (i ∷ inputs) (m ∷ group) = IsLinked i m × AreLinked inputs group
