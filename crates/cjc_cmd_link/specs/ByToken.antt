-- What the code of joint runs by token keeps for itself; a reader of the contracts may pass over it.
use Rattle.std.specs.Prelude.{◌≡◌, ◌<◌, ◌^◌, ℕ, Bool, List, [], ◌∷◌, flat_map, map, position, Some}
use Rattle.std.specs.Str.{bytes_eq}
use Rattle.cjc_cmd_card.specs.CardFrame.Kinds.{cell_name_of}
use Rattle.cjc_cmd_card.specs.CardLink.Group.{group_part}
use Rattle.cjc_cmd_card.specs.CardLink.Names.{class_names_of}
use Rattle.cjc_cmd_card.specs.CardLink.declared.part.GroupPart.{GroupPart}
use Rattle.cjc_link_semantics.specs.CardSemantics.Machine.Loaded.{Import}
use Rattle.cjc_link_semantics.specs.CheckRules.Complete.{Complete, class_info_size, complete}
use Rattle.cjc_link_semantics.specs.Components.Paired.Naming.{cells_in, class_names, part_of}
use Rattle.cjc_cmd_card.specs.declared.running.input.Input.{Input}
use Rattle.cjc_cmd_card.specs.LowerJudge.Rules.{has_applets}
use Rattle.cjc_link_semantics.specs.Script.declared.report.Report.{Report}
use Rattle.cjc_cmd_card.specs.LowerScriptText.Scripted.{ScriptTree}
use Rattle.cjc_group.specs.World.Classes.{all_classes}
use Rattle.cjc_group.specs.World.Files.{Files}
use Rattle.cjc_group.specs.World.declared.image.StaticImage.{StaticImage}
use Rattle.cjc_link_semantics.specs.ExportFile.declared.tree.ExportTree.{ExportTree}
use Rattle.cjc_link_semantics.specs.Loaded.{Member, files_of, import_as}
use Rattle.cjc_link_semantics.specs.Together.{images_of}
use Rattle.cjc_link_semantics.specs.Tokens.Tokens.{assigned}
use Rattle.cjc_group.specs.World.Order.{class_order}
use Rattle.cjc_cmd_link.specs.Members.{AreTested}
use Rattle.cjc_cmd_link.specs.Runs.{report_by_token}
use Rattle.cjc_cmd_link.specs.Working.{AreMade, world_of, worlds_of}
use Rattle.cjc_cmd_link.specs.declared.members.Tested.{Tested}
use Rattle.cjc_cmd_link.specs.declared.tokens.Names.{Names}

-- whether the package of a list has an applet
abbrev pub applets_of : Tested → Bool
applets_of t = let own = t.input in let input = own.now in has_applets input.list

-- the names of the classes and cells of a package
pub record IsNamed (t : Tested) (image : StaticImage) (names : Names) : Type 0 where
  pub classes : map class_names_of names.classes ≡ map (class_names (world_of t) (assigned (applets_of t) (world_of t)))
      (class_order (all_classes (world_of t)))
  pub cells : map cell_name_of names.cells ≡ (let w = world_of t in flat_map (cells_in image) w.classes)

-- of all packages
abbrev pub AreNamed : List Tested → List StaticImage → List Names → Type 0
AreNamed [] [] [] = Unit {0}
AreNamed (t ∷ ts) (image ∷ images) (ns ∷ names) = IsNamed t image ns × AreNamed ts images names
AreNamed ts images names = ⊥

-- what an export file of a package stands for, by the worlds of all packages
abbrev pub import_for : List Files → List ExportTree → ExportTree → Import
import_for group outside t = import_as outside t.name (position (λ (p : Files). bytes_eq p.package_name t.name) group)

-- a package with its names and what it imports
pub record IsPart (group : List Files) (outside : List ExportTree) (t : Tested) (image : StaticImage) (p : GroupPart) :
    Type 0 where
  pub whole : Complete
  pub whole_is : (let ready = t.ready in complete ready.cap ≡ Some whole)
  pub is : group_part p ≡ record (part_of (applets_of t) (world_of t) image whole) {
    imports = (let w = world_of t in map (import_for group outside) w.exports);
  }
  pub small : (let part = p.part in let class = part.class in class_info_size class.now < 2 ^ 32)

-- all of them
abbrev pub AreParts : List Files → List ExportTree → List Tested → List StaticImage → List GroupPart → Type 0
AreParts group outside [] [] [] = Unit {0}
AreParts group outside (t ∷ ts) (image ∷ images) (p ∷ parts) = IsPart group outside t image p
    × AreParts group outside ts images parts
AreParts group outside ts images parts = ⊥

-- the report of the joint run by token of what these packages are
abbrev pub IsByToken : List Tested → List StaticImage → ScriptTree → (n : ℕ) → Report → Type 0
IsByToken ts images tree n report =
    (inputs : List Input) (group : List Member) → AreMade inputs ts images → AreTested inputs group
    → files_of group ≡ worlds_of ts → images_of group ≡ images → report ≡ report_by_token group tree n
