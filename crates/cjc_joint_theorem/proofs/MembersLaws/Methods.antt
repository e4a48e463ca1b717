-- The methods of each package with their tables, in a group.
use Rattle.std.proofs.Common.{◌≡◌, ℕ, List, Option, Some, None, refl, sym, ap}
use Rattle.std.proofs.Common.{subst, ◌∙◌}
use Rattle.std.specs.Prelude.{slice_get}
use Rattle.cjc_world.specs.Classes.{all_classes}
use Rattle.cjc_world.specs.Files.{Files}
use Rattle.cjc_types.specs.declared.state.State.{State}
use Rattle.cjc_types.specs.Fixpoint.Tables.{HasRow}
use Rattle.cjc_types.specs.Flow.{body_of}
use Rattle.cjc_types.specs.Tables.{Breach}
use Rattle.cjc_narrow_proof.specs.LowerIntervals.Tables.{IsLeastRanges, Passes}
use Rattle.cjc_jvm_semantics.specs.Linked.{Method}
use Rattle.cjc_jvm_semantics.specs.Group.{files_of_class}
use Rattle.cjc_narrow.specs.Rows.Resolved.{constant_named}
use Rattle.cjc_narrow_proof.specs.Runs.Tables.{Tables, HasTables, body_in}
use Rattle.cjc_narrow_proof.proofs.RunsLaws.Whole.{is_whole as whole_alone}
use Rattle.cjc_joint_proof.specs.Worlds.{IsOwn}
use Rattle.cjc_joint_proof.proofs.WorldLaws.{own_files}
use Rattle.cjc_joint_theorem.specs.Together.Homes.{Homes, Home, files_for, joint_world, IsAtHome, HasTablesIn}
use Rattle.cjc_joint_theorem.specs.Members.{Member, files_of, number_of, member_of, home_by, homes_of}
use Rattle.cjc_joint_theorem.specs.Rules.{CallsStay}
use Rattle.cjc_joint_theorem.specs.Members.{types_by, ranges_by, tables_of, AreMembers}
use Rattle.cjc_joint_theorem.proofs.RuleLaws.{breach_stays, specials_do}
use Rattle.cjc_joint_theorem.proofs.MembersLaws.Worlds.{are_apart, supers_stay, files_at}

-- tables that say the same of a method
pub retabled : (files : Files) (one other : Tables) (m : Method) → other.types m ≡ one.types m → other.ranges m
    ≡ one.ranges m → HasTables files one m → HasTables files other m
retabled files one other m types ranges h = record {
  code = h.code;
  class = h.class;
  method = h.method;
  tree = h.tree;
  of_package = h.of_package;
  is = h.is;
  table = h.table;
  is_table = h.is_table;
  types = types ∙ h.types;
  ranges = subst (λ rows. IsLeastRanges (body_of h.class h.method h.tree (let code = h.code in code.insns))
      (constant_named files (all_classes files)) rows (other.ranges m)) (sym types) (subst (λ rows. IsLeastRanges
      (body_of h.class h.method h.tree (let code = h.code in code.insns)) (constant_named files (all_classes files))
      (one.types m) rows) (sym ranges) h.ranges);
  passes = subst (λ rows. Passes (body_of h.class h.method h.tree (let code = h.code in code.insns)) rows
      (other.ranges m)) (sym types) (subst (λ rows. Passes (body_of h.class h.method h.tree (let code = h.code
      in code.insns)) (one.types m) rows) (sym ranges) h.passes);
  found = h.found;
  desc = h.desc;
  named = h.named;
  begins = h.begins;
  caught = h.caught;
}

-- a row is of some package's tables
pub row_of : (o : Option Member) (m : Method) (at : ℕ) (t : State) → HasRow (types_by o m) at t → (p : Member)
    × (o ≡ Some p) × HasRow (let s = p.tables in s.types m) at t
row_of None m at t row = absurd cc
row_of (Some p) m at t row = (p, refl, row)

module _ (members : List Member) (is : AreMembers members) where
  abbrev group : List Files
  group = files_of members

  abbrev homes : Homes
  homes = homes_of members

  abbrev tables : Tables
  tables = tables_of members

  -- a method of a package with its tables there
  module _ (p : Member) (m : Method) (at : member_of members m ≡ Some p) (has : HasTables p.files p.tables m) where
    home_is : homes m ≡ home_by (number_of members m) (Some p)
    home_is = ap (home_by (number_of members m)) at

    files_is : files_for homes m ≡ p.files
    files_is = ap (λ (h : Home). h.files) home_is

    class_is : (let c = has.class in c.name) ≡ (let id = m.id in id.class)
    class_is = ap (λ (n : Method). let id = n.id in id.class) (sym has.is)

    own : IsOwn group (number_of members m) (let code = has.code in code.class) p.files has.class
    own = record {
      member = files_at members (number_of members m) p at;
      file = (let of = has.of_package in of.is_class);
    }

    at_home : IsAtHome group homes m
    at_home = record {
      member = subst (λ (h : Home). slice_get group h.number ≡ Some h.files) (sym home_is) own.member;
      asks = subst (λ (f : Files). files_of_class group (let id = m.id in id.class) ≡ Some f) (sym files_is)
          (ap (files_of_class group) (sym class_is) ∙ own_files group (are_apart members is) (number_of members m)
          (let code = has.code in code.class) p.files has.class own);
    }

    here : HasTables p.files tables m
    here = retabled p.files p.tables tables m (ap (λ o. types_by o m) at) (ap (λ o. ranges_by o m) at) has

    pub tables_here : HasTablesIn group homes tables m
    tables_here = record {
      home = at_home;
      has = subst (λ f. HasTables f tables m) (sym files_is) here;
      unbroken = subst (λ f. (place rule : ℕ) → Breach (joint_world group) (body_in f m) (tables.types m) place rule
          → ⊥) (sym files_is) (λ place rule breach. (let whole = whole_alone p.files p.image p.near
          tables m here in let sound = whole.sound in sound.unbroken place rule (breach_stays (all_classes p.files)
          (joint_world group) (supers_stay members is (number_of members m) p.files own.member) (body_in p.files m)
          (tables.types m) (subst (CallsStay (all_classes p.files) (joint_world group) (body_in p.files m))
          (sym (ap (λ o. types_by o m) at)) (specials_do (all_classes p.files)
          (joint_world group) (body_in p.files m) (let t = p.tables in t.types m) (is.specials (number_of members m)
          p at m
          has))) place rule breach)));
    }

  pub methods : (m : Method) (at : ℕ) (t : State) → HasRow (tables.types m) at t → HasTablesIn group homes tables m
  methods m at t row =
      let r = row_of (member_of members m) m at t row in
      let one = is.each (number_of members m) r.0 r.1 in
      tables_here r.0 m r.1 (one.methods m at t r.2)
