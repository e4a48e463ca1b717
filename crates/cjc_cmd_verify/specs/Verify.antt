-- What `verify LIST DIR` tests, and what it prints: whether the components of a folder are typed by token as the
-- package is that a list names.
use Rattle.std.specs.Prelude.{◌≡◌, ℕ, List, [], ◌∷◌, Some, Result, Ok, Err}
use Rattle.cjc_cmd_card.specs.CheckRules.Complete.{Complete, complete}
use Rattle.cjc_cmd_card.specs.Report.Runs as by_token
use Rattle.cjc_cmd_card.specs.Running.Ready.{IsReady}
use Rattle.cjc_cmd_card.specs.declared.running.input.Input.{Input}
use Rattle.cjc_cmd_card.specs.declared.running.ready.Ready.{Ready}
use Rattle.cjc_cmd_card.specs.CapRead.declared.tree.CapTree.{CapTree}
use Rattle.cjc_cmd_card.specs.CmdCheck.Check.{ok_line}
use Rattle.cjc_cmd_card.specs.CmdCheck.Folder.Breaks.{cap_in}
use Rattle.cjc_cmd_card.specs.Shelf.Command.Plan.{Plan, has, ◌>>=◌}
use Rattle.cjc_cmd_card.specs.Shelf.declared.command.status.Todo.{Todo}
use Rattle.cjc_cmd_card.specs.Running.Package.{plan_of_input}
use Rattle.cjc_cmd_card.specs.Bytecode.PackageCodes.{all_codes}
use Rattle.cjc_cmd_card.specs.Bytes.Breaks.{Break}
use Rattle.cjc_cmd_card.specs.Bytes.declared.fault.Refusal.{Refusal}
use Rattle.cjc_cmd_card.specs.Clinit.Image.{IsImage}
use Rattle.cjc_verify_theorem.specs.Judge.Rules.{IsFirstRefused, OnLevels, files_spelt, has_applets}
use Rattle.cjc_verify_theorem.specs.Judge.Spelt.{FileTree, SpellTrees, classes_of}
use Rattle.cjc_cmd_card.specs.World.declared.image.StaticImage.{StaticImage}
use Rattle.cjc_cmd_card.specs.Components.Paired.Pairs.{ArePaired}
use Rattle.cjc_verify_theorem.specs.Verify.Pairs.{pair_of}
use Rattle.cjc_verify_theorem.specs.Verify.Verified.{Breaks, IsVerified}
use Rattle.cjc_verify_theorem.specs.FairExports.Fair.{ExportsAreFair}
use Rattle.cjc_verify_theorem.specs.NeverStuck.{IsNeverStuck}

-- the list of this name, its files, and the components of the folder
abbrev pub plan_of_verify : (name dir : List ℕ) → Plan Input
plan_of_verify name dir = do
  input ← plan_of_input name dir
  has input

-- 721 to 729: the components that are spelt break one of these beside the package that is, with what its initialisers
-- leave in static fields.
pub record BreaksTyping (input : Input) (b : Break) : Type 0 where
  pub trees : List FileTree
  pub spell : (let list = input.list in SpellTrees list.lines input.files trees)
  pub image : StaticImage
  pub is_image : IsImage (files_spelt input.list trees) (all_codes (classes_of trees)) image
  pub cap : CapTree
  pub cap_is : cap_in input.parts ≡ Some cap
  pub whole : Complete
  pub whole_is : complete cap ≡ Some whole
  pub broken : Breaks (pair_of (has_applets input.list) (files_spelt input.list trees) image whole) b

-- A rule is broken: one that `card` tests, or where none of these is, one of 721 to 729.
abbrev pub AnyBreaks : Input → Break → Type 0
AnyBreaks input = OnLevels (by_token.AnyBreaks input []) (BreaksTyping input)

-- The package and the components break none of the rules that `card` tests, the components are of the package, and they
-- break none of 721 to 729. So over export files that are fair no run of them by token is stuck.
pub record AreTyped (input : Input) : Type 0 where
  pub ready : Ready
  pub is_ready : IsReady input [] ready
  pub whole : Complete
  pub whole_is : complete ready.cap ≡ Some whole
  pub image : StaticImage
  pub is_image : (let judged = ready.judged in IsImage judged.world judged.codes image)
  pub paired : (let judged = ready.judged in ArePaired judged.world image whole)
  pub typed : (let judged = ready.judged in IsVerified (pair_of (has_applets input.list) judged.world image whole))
  pub free : (let judged = ready.judged in let world = judged.world in ExportsAreFair world.exports
      → IsNeverStuck (has_applets input.list) judged.world image whole)

-- What is printed where no rule is broken, so that the components are typed, and else which rule is broken first.
abbrev pub Verifies : Input → Result Todo Refusal → Type 0
Verifies input (Ok todo) = AreTyped input × (todo ≡ record { files = []; lines = ok_line ∷ [] })
Verifies input (Err r) = IsFirstRefused (AnyBreaks input) r
