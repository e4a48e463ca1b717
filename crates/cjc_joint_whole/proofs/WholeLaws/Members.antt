-- Packages that break no rule are members of a group, and their classes are in order together.
use Rattle.std.proofs.Common.{◌≡◌, ℕ, List, Option, Some, false}
use Rattle.std.specs.Prelude.{slice_get}
use Rattle.cjc_components.specs.Bytecode.declared.insn.JInsn.{JInsn}
use Rattle.cjc_jvm_semantics.specs.Linked.{Method}
use Rattle.cjc_world.specs.Classes.{Class, all_classes, class_named}
use Rattle.cjc_world.specs.Files.{Files}
use Rattle.cjc_world.specs.Subtype.{starts}
use Rattle.cjc_vtable.specs.Fixpoint.Tables.{HasRow}
use Rattle.cjc_narrow_proof.specs.Runs.Tables.{body_in}
use Rattle.cjc_narrow_proof.specs.Runs.Types.{IsThere, of_class, of_numbers, of_references}
use Rattle.cjc_narrow_proof.specs.Script.Sorts.{Shape}
use Rattle.cjc_shape_proof.specs.Whole.{IsWhole}
use Rattle.cjc_token_proof.specs.Types.declared.state.State.{State}
use Rattle.cjc_theorem.proofs.WholeRuns.Named.{converted}
use Rattle.cjc_joint_theorem.specs.Members.{AreMembers, Member, files_of}
use Rattle.cjc_joint_theorem.specs.Ordered.{AreOrdered}
use Rattle.cjc_joint_theorem.specs.Rules.{SpecialsStay, SupersStay}
use Rattle.cjc_joint_theorem.specs.Together.Homes.{joint_world}
use Rattle.cjc_joint_theorem.proofs.MembersLaws.Worlds.{files_at}
use Rattle.cjc_joint_theorem.proofs.OrderedLaws.Ordered.{plain_names}
use Rattle.cjc_joint_theorem.proofs.OrderedLaws.Standing.{class_stands}
use Rattle.cjc_joint_theorem.proofs.RuleLaws.{specials_are}
use Rattle.cjc_joint_proof.proofs.AboveLaws.{subclass_stays, subtype_stays}
use Rattle.cjc_joint_proof.proofs.SoundLaws.{apart}
use Rattle.cjc_joint_whole.specs.Whole.{AreWhole, AreWholeWith, IsWholeMember}
use Rattle.cjc_joint_whole.proofs.WholeLaws.Imports.{imports_told, kinds_told}
use Rattle.cjc_joint_whole.proofs.WholeLaws.Reached.{IsReached, reached}
use Rattle.cjc_joint_whole.proofs.WholeLaws.Solid.{each_solid}
use Rattle.cjc_joint_whole.proofs.WholeLaws.Specials.{specials_fit}

module _ {K : _} (members : List Member) (is : AreWholeWith K members) where
  abbrev group : List Files
  group = files_of members

  abbrev w : List Class
  w = joint_world group

  pub ordered_together : AreOrdered group
  ordered_together = record {
    sound = is.sound;
    outside = is.outside;
    imports = imports_told members is;
    kinds = kinds_told members is;
    order = is.order;
    each = λ q f at. (let s = each_solid members is q f at in s.ordered);
  }

  pub plain_together : (x : List ℕ) (c : Class) → class_named w x ≡ Some c → starts 91 x ≡ false
  plain_together = plain_names group ordered_together (λ q f at. (let s = each_solid members is q f at in s.plain))

  pub supers_together : (q : ℕ) (f : Files) → slice_get group q ≡ Some f → SupersStay (all_classes f) w
  supers_together q f at = subtype_stays (all_classes f) w (subclass_stays group (apart group is.sound) is.outside
      (imports_told members is) q f at)

  -- a class that a package names is there
  pub type_together : (q : ℕ) (f : Files) → slice_get group q ≡ Some f → (kind : Shape (List ℕ))
      → IsThere (all_classes f) kind → IsThere w kind
  type_together q f at _ (of_class {class = class} c named) = let h = class_stands group ordered_together q f at class c
      named in of_class h.class h.named
  type_together q f at _ of_numbers = of_numbers
  type_together q f at _ (of_references {class = class} c named) = let h = class_stands group ordered_together q f at
      class c named in of_references h.class h.named

  -- what an invokespecial takes, where each reached instruction is one of the package's code
  pub specials_stay : (q : ℕ) (p : Member) (at : slice_get members q ≡ Some p) (m : Method)
      (rows : List (Option State)) → ((place : ℕ) (i : JInsn) (x : State) → slice_get m.insns place ≡ Some i
      → HasRow rows place x → (let one = is.each q p at in IsReached p.files one.codes m i.op x))
      → SpecialsStay (all_classes p.files) w (body_in p.files m) rows
  specials_stay q p at m rows reaches = specials_are (all_classes p.files) w (supers_together q p.files (files_at members
      q p at)) (body_in p.files m) rows (specials_fit p (is.each q p at) m rows reaches)

-- ---- where no method works on int

-- a package as it is by itself
pub whole_of : (p : Member) (one : IsWholeMember p) → IsWhole one.list p.files one.codes one.settings p.tables
whole_of p one =
    let whole = one.whole in
    let coded = one.coded in
    let u = whole.unbroken in
    record {
      unbroken = record {
        listed = u.listed;
        world = u.world;
        names = u.names;
        checks = u.checks;
        no_int = coded.no_int;
      };
      package_name = whole.package_name;
      read = whole.read;
      sound = whole.sound;
      tabled = coded.tabled;
    }

module _ (members : List Member) (is : AreWhole members) where
  -- a reached instruction is one of the package's code
  pub reached_at : (q : ℕ) (p : Member) (at : slice_get members q ≡ Some p) (m : Method) (place : ℕ) (i : JInsn)
      (t : State) → slice_get m.insns place ≡ Some i → HasRow (let s = p.tables in s.types m) place t
      → (let one = is.each q p at in IsReached p.files one.codes m i.op t)
  reached_at q p at m place i t there row = let one = is.each q p at in
      reached one.list p.files one.codes one.settings p.tables (whole_of p one) m place i t there row

  pub are_members : AreMembers members
  are_members = record {
    each = λ q p at. (let one = is.each q p at in let coded = one.coded in
        converted one.list p.files one.codes one.settings p.tables (whole_of p one) p.image p.near coded.first);
    sound = is.sound;
    outside = is.outside;
    imports = imports_told members is;
    told = is.told;
    specials = λ q p at m has. specials_stay members is q p at m (let t = p.tables in t.types m)
        (λ place i x there row. reached_at q p at m place i x there row);
  }
