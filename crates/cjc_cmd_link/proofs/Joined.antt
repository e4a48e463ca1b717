-- What the files of all packages spell, one package behind the other.
use Rattle.std.proofs.Common.{◌≡◌, ℕ, suc, ◌<◌, Bool, true, false, List, [], ◌∷◌, ◌++◌, length, refl, sym, ap, subst}
use Rattle.std.proofs.Common.{◌∙◌, ◌⊎◌, inl, inr}
use Rattle.std.specs.Prelude.{◌||◌, IfOk, Result, Ok, Err}
use Rattle.std.specs.List.{AllByRecursion, flat_map, list_any}
use Rattle.std.proofs.lemmas.List.Elements.{All-append, All-nil}
use Rattle.cjc_group.specs.Bytes.Refused.{refusal}
use Rattle.cjc_group.specs.Bytes.declared.fault.Fault.{Fault}
use Rattle.cjc_group.specs.Bytes.declared.fault.Fault.TheVariants as faults
use Rattle.cjc_group.specs.Bytes.declared.settings.FileLine.{FileLine}
use Rattle.cjc_cmd_card.specs.Running.Reads.{IsInput}
use Rattle.cjc_cmd_card.specs.declared.running.input.Input.{Input}
use Rattle.cjc_cmd_link.specs.Refused.{IsFault}
use Rattle.cjc_cmd_link.specs.Working.{AreMade, AreOfGroup, IsCycle, IsJoint, IsMade, lines_of, texts_of, world_of}
use Rattle.cjc_cmd_link.specs.Working.{worlds_of}
use Rattle.cjc_cmd_link.specs.declared.joint.Joint.{Joint}
use Rattle.cjc_cmd_link.specs.declared.members.Tested.{Tested}
use Rattle.cjc_link_semantics.specs.Bytecode.PackageCodes.{all_codes}
use Rattle.cjc_cmd_card.proofs.JudgeFirsts.{all_spell}
use Rattle.cjc_cmd_card.proofs.JudgeJointLaws.{classes_behind, exports_behind, spelt_behind}
use Rattle.cjc_cmd_card.specs.LowerJudge.Joint.{AreOf}
use Rattle.cjc_cmd_card.specs.LowerJudge.Spelt.{AreFiles, FileTree, SpellTrees, classes_of, exports_of}
use Rattle.cjc_cmd_card.specs.LowerJudge.Trees.{AllSpelt}
use Rattle.cjc_cmd_card.specs.LowerJudge.declared.joint.JointTrees.{JointTrees}
use Rattle.cjc_link_semantics.specs.JvmSemantics.Group.{joint, joint_classes}
use Rattle.cjc_group.proofs.WorldCycles.{stands_where_above}
use Rattle.cjc_group.specs.World.Classes.{Class, all_classes}
use Rattle.cjc_group.specs.World.Files.{Files}
use Rattle.cjc_group.specs.World.Rules.{has_cycle, is_own_super}
use Rattle.cjc_group.specs.World.Supertypes.{IsAcyclic}
use Rattle.cjc_group.specs.World.declared.image.StaticImage.{StaticImage}

-- ---- all files

-- The files of these packages spell the classes and export files of their worlds.
pub record AreJoined (ts : List Tested) : Type 0 where
  pub trees : List FileTree
  pub spelt : AllSpelt (flat_map lines_of ts) (flat_map texts_of ts) trees
  pub classes : classes_of trees ≡ joint_classes (worlds_of ts)
  pub exports : exports_of trees ≡ flat_map (λ (p : Files). p.exports) (worlds_of ts)
  pub files : AreFiles (flat_map texts_of ts)

abbrev IsShort : List ℕ → Type 0
IsShort bytes = length bytes < 4294967296

first_of : (i : Input) (t : Tested) (image : StaticImage) → IsInput i → IsMade i t image → (trees : List FileTree)
    × AllSpelt (lines_of t) (texts_of t) trees × (classes_of trees ≡ (let w = world_of t in w.classes))
    × (exports_of trees ≡ (let w = world_of t in w.exports)) × AreFiles (texts_of t)
first_of i t image is made =
    let read = made.is_ready.judged.read in (
      read.trees,
      subst (λ (x : Input). AllSpelt (let list = x.list in list.lines) x.files read.trees) (sym made.input_is)
          read.spelt,
      sym read.classes,
      sym read.exports,
      subst (λ (x : Input). AreFiles x.files) (sym made.input_is) is.files,
    )

joined : (inputs : List Input) (ts : List Tested) (images : List StaticImage) → AllByRecursion IsInput inputs
    → AreMade inputs ts images → AreJoined ts
joined [] [] [] are all = record {
  trees = [];
  spelt = (refl, refl);
  classes = refl;
  exports = refl;
  files = All-nil IsShort;
}
joined [] [] (j ∷ images) are all = absurd all
joined [] (t ∷ ts) images are all = absurd all
joined (i ∷ inputs) [] images are all = absurd all
joined (i ∷ inputs) (t ∷ ts) [] are all = absurd all
joined (i ∷ inputs) (t ∷ ts) (j ∷ images) are all =
    let first = first_of i t j are.0 all.0 in
    let rest = joined inputs ts images are.1 all.1 in
    record {
      trees = first.0 ++ rest.trees;
      spelt = spelt_behind (lines_of t) (texts_of t) first.0 (flat_map lines_of ts) (flat_map texts_of ts) rest.trees
          first.1 rest.spelt;
      classes = classes_behind first.0 rest.trees ∙ ap (λ cs. cs ++ classes_of rest.trees) first.2
          ∙ ap (λ cs. (let w = world_of t in w.classes) ++ cs) rest.classes;
      exports = exports_behind first.0 rest.trees ∙ ap (λ es. es ++ exports_of rest.trees) first.3
          ∙ ap (λ es. (let w = world_of t in w.exports) ++ es) rest.exports;
      files = All-append IsShort (texts_of t) (flat_map texts_of ts) first.4 rest.files;
    }

pub are_joined : (ts : List Tested) → AreOfGroup ts → AreJoined ts
are_joined ts group = joined group.inputs ts group.images group.are_inputs group.are_made

-- there is a file for each line
as_many : (lines : List FileLine) (files : List (List ℕ)) (trees : List FileTree) → AllSpelt lines files trees
    → length files ≡ length lines
as_many [] files trees s = ap length s.0
as_many (l ∷ lines) [] trees s = absurd s
as_many (l ∷ lines) (b ∷ files) [] s = absurd s
as_many (l ∷ lines) (b ∷ files) (t ∷ trees) s = ap suc (as_many lines files trees s.1)

module _ (ts : List Tested) (group : AreOfGroup ts) (lines : List FileLine) (files : List (List ℕ))
    (lines_are : lines ≡ flat_map lines_of ts) (files_are : files ≡ flat_map texts_of ts) where
  all : AreJoined ts
  all = are_joined ts group

  pub all_spelt : (trees : List FileTree) × AllSpelt lines files trees
  all_spelt = (
    all.trees,
    subst (λ ls. AllSpelt ls files all.trees) (sym lines_are) (subst (λ bs. AllSpelt (flat_map lines_of ts) bs
        all.trees) (sym files_are) all.spelt),
  )

  pub one_each : length files ≡ length lines
  one_each = as_many lines files all_spelt.0 all_spelt.1

  pub are_files : AreFiles files
  are_files = subst AreFiles (sym files_are) all.files

  of_all : (read : JointTrees) → ((trees : List FileTree) → SpellTrees lines files trees → AreOf trees read)
      → AreOf all_spelt.0 read
  of_all read is = is all_spelt.0 (all_spell lines files all_spelt.0 all_spelt.1)

  module _ {E : Type 0} where
    pub classes_read : (result : Result JointTrees E) → IfOk result (λ read. (trees : List FileTree)
        → SpellTrees lines files trees → AreOf trees read)
        → IfOk result (λ read. read.classes ≡ joint_classes (worlds_of ts))
    unfolding all_spelt all
    classes_read (Ok read) is = (of_all read is).classes ∙ all.classes
    classes_read (Err e) is = tt

    pub exports_read : (result : Result JointTrees E) → IfOk result (λ read. (trees : List FileTree)
        → SpellTrees lines files trees → AreOf trees read)
        → IfOk result (λ read. read.exports ≡ flat_map (λ (p : Files). p.exports) (worlds_of ts))
    unfolding all_spelt all
    exports_read (Ok read) is = (of_all read is).exports ∙ all.exports
    exports_read (Err e) is = tt

    pub codes_read : (result : Result JointTrees E) → IfOk result (λ read. (trees : List FileTree)
        → SpellTrees lines files trees → AreOf trees read)
        → IfOk result (λ read. read.codes ≡ all_codes read.classes)
    codes_read (Ok read) is = (of_all read is).codes
    codes_read (Err e) is = tt

-- ---- cycles

-- where no class is above itself there is no cycle
pub no_cycle : (w : List Class) → IsAcyclic w → has_cycle w ≡ true → ⊥
no_cycle w acyclic is = by w is
  where
    own : (c : Class) → is_own_super w c ≡ true → ⊥
    own c e = acyclic c.name ((stands_where_above w c.name c.name).0 e)

    by : (cs : List Class) → list_any (λ c. is_own_super w c) cs ≡ true → ⊥
    by [] e = absurd cc
    by (c ∷ cs) e = or (is_own_super w c) refl (by cs) e
      where
        or : (b : Bool) → is_own_super w c ≡ b → (list_any (λ d. is_own_super w d) cs ≡ true → ⊥)
            → (b || list_any (λ d. is_own_super w d) cs) ≡ true → ⊥
        or true here rest any = own c here
        or false here rest any = rest any

-- ---- the world of all

pub joint_made : (group packages : List Files) (joint_is : Joint) → packages ≡ group
    → (let w = joint_is.world in w ≡ joint packages) → (let w = joint_is.world in IsAcyclic (all_classes w))
    → joint_is.codes ≡ all_codes (joint_classes group) → IsJoint group joint_is
joint_made group packages j same world acyclic codes =
    let is : j.world ≡ joint group = world ∙ ap joint same in
    record {
      world = is;
      codes = codes ∙ sym (ap (λ (w : Files). all_codes w.classes) is);
      free = no_cycle (all_classes (joint group)) (subst (λ w. IsAcyclic (all_classes w)) is acyclic);
    }

pub cycle_refused : (name : List ℕ) (group : List Files) (e : Fault) → has_cycle (all_classes (joint group)) ≡ true
    → (e ≡ faults.Refused (refusal name 204 0)) ⊎ (e ≡ faults.NoMemory) → IsFault (IsCycle name group) e
cycle_refused name group e cycle (inl is) = inr (refusal name 204 0, (cycle, refl), is)
cycle_refused name group e cycle (inr memory) = inl memory
