-- The methods of each package with their tables, in a group.
use Rattle.std.proofs.Common.{◌≡◌, ℕ, Bool, true, false, List, Option, Some, None, refl, sym, ap}
use Rattle.std.proofs.Common.{subst, ◌∙◌}
use Rattle.std.specs.Prelude.{slice_get}
use Rattle.cjc_world.specs.Classes.{all_classes}
use Rattle.cjc_world.specs.Files.{Files}
use Rattle.cjc_types.specs.declared.state.State.{State}
use Rattle.cjc_types.specs.Fixpoint.Tables.{HasRow}
use Rattle.cjc_types.specs.Flow.{body_of}
use Rattle.cjc_types.specs.Tables.{Breach, IsLeastTable}
use Rattle.cjc_narrow_proof.specs.LowerIntervals.Tables.{IsLeastRanges}
use Rattle.cjc_jvm_semantics.specs.Linked.{Method}
use Rattle.cjc_jvm_semantics.specs.Group.{files_of_class}
use Rattle.cjc_jvm_semantics.specs.OnePackage.{method_by}
use Rattle.cjc_code.specs.ClassFile.declared.tree.ClassTree.{ClassTree}
use Rattle.cjc_narrow.specs.Rows.Resolved.{constant_named}
use Rattle.cjc_narrow_proof.specs.Runs.Tables.{Tables, HasTables, body_in}
use Rattle.cjc_narrow_proof.proofs.RunsLaws.Whole.{is_whole as whole_alone}
use Rattle.cjc_joint_proof.specs.Worlds.{IsOwn}
use Rattle.cjc_joint_proof.proofs.WorldLaws.{own_files}
use Rattle.cjc_joint_theorem.specs.Together.Homes.{Homes, Home, files_for, joint_world, IsAtHome, HasTablesIn}
use Rattle.cjc_joint_theorem.specs.Members.{Member, files_of, number_of, member_of, home_by, homes_of}
use Rattle.cjc_joint_theorem.specs.Members.{types_by, ranges_by, tables_of}
use Rattle.cjc_joint_theorem.specs.Rules.{CallsStay, SpecialsStay}
use Rattle.cjc_joint_theorem.proofs.RuleLaws.{breach_stays, specials_do}
use Rattle.cjc_joint_theorem.proofs.MembersLaws.Methods.{retabled, row_of}
use Rattle.cjc_joint_theorem.proofs.MembersLaws.Worlds.{files_at}
use Rattle.cjc_int_mode.specs.declared.modes.Mode.TheVariants as modes
use Rattle.cjc_int_mode.specs.Room.{IsRoom}
use Rattle.cjc_int_alike.specs.ByModes.{HasIntTables, PassesInIntMode}
use Rattle.cjc_int_alike.proofs.Modes.{int_begun as begun_alone}
use Rattle.cjc_joint_modes.specs.Codes.{HasIntTablesIn}
use Rattle.cjc_joint_modes.specs.Members.{int_by, modes_of, AreMembersByModes}
use Rattle.cjc_joint_modes.proofs.MembersLaws.Worlds.{are_apart, supers_stay}

-- tables that say the same of a method in int mode
retabled_int : (files : Files) (one other : Tables) (m : Method) → other.types m ≡ one.types m → other.ranges m
    ≡ one.ranges m → HasIntTables files one m → HasIntTables files other m
retabled_int files one other m types ranges h =
    let typed : other.types (method_by h.class h.method (Some h.tree)) ≡ one.types (method_by h.class h.method
    (Some h.tree)) = subst (λ n. other.types n ≡ one.types n) h.is types in
    let ranged : other.ranges (method_by h.class h.method (Some h.tree)) ≡ one.ranges (method_by h.class h.method
    (Some h.tree)) = subst (λ n. other.ranges n ≡ one.ranges n) h.is ranges in
    let body = body_of h.class h.method h.tree (let code = h.code in code.insns) in
    record {
      code = h.code;
      class = h.class;
      method = h.method;
      tree = h.tree;
      of_package = h.of_package;
      is = h.is;
      least = subst (IsLeastTable body) (sym typed) h.least;
      unbroken = subst (λ rows. (place rule : ℕ) → Breach (all_classes files) body rows place rule → ⊥) (sym typed)
          h.unbroken;
      ranges = subst (λ rows. IsLeastRanges body (constant_named files (all_classes files)) rows (other.ranges
          (method_by h.class h.method (Some h.tree)))) (sym typed) (subst (λ rows. IsLeastRanges body
          (constant_named files (all_classes files)) (one.types (method_by h.class h.method (Some h.tree))) rows)
          (sym ranged) h.ranges);
      passes = subst (λ rows. PassesInIntMode body rows (other.ranges (method_by h.class h.method (Some h.tree))))
          (sym typed) (subst (λ rows. PassesInIntMode body (one.types (method_by h.class h.method (Some h.tree))) rows)
          (sym ranged) h.passes);
      room = subst (λ rows. IsRoom body rows modes.Int true) (sym typed) h.room;
      found = h.found;
      desc = h.desc;
      begins = h.begins;
      caught = h.caught;
    }

module _ (members : List Member) (by : ℕ → Method → Bool) (is : AreMembersByModes members by) where
  abbrev group : List Files
  group = files_of members

  abbrev homes : Homes
  homes = homes_of members

  abbrev tables : Tables
  tables = tables_of members

  -- a method of a package with its tables there
  module _ (p : Member) (m : Method) (at : member_of members m ≡ Some p) where
    home_is : homes m ≡ home_by (number_of members m) (Some p)
    home_is = ap (home_by (number_of members m)) at

    files_is : files_for homes m ≡ p.files
    files_is = ap (λ (h : Home). h.files) home_is

    -- it is of a class file of the package
    of_class : (k : ℕ) (class : ClassTree) → slice_get (let f = p.files in f.classes) k ≡ Some class → class.name
        ≡ (let id = m.id in id.class) → IsAtHome group homes m
    of_class k class file named =
        let own : IsOwn group (number_of members m) k p.files class = record {
          member = files_at members (number_of members m) p at;
          file = file;
        } in
        record {
          member = subst (λ (h : Home). slice_get group h.number ≡ Some h.files) (sym home_is) own.member;
          asks = subst (λ (f : Files). files_of_class group (let id = m.id in id.class) ≡ Some f) (sym files_is)
              (ap (files_of_class group) (sym named) ∙ own_files group (are_apart members by is) (number_of members m)
              k p.files class own);
        }

    -- among the classes of all it breaks no rule either
    unbroken_here : SpecialsStay (all_classes p.files) (joint_world group) (body_in p.files m) (let t = p.tables
        in t.types m) → ((place rule : ℕ) → Breach (all_classes p.files) (body_in p.files m) (tables.types m) place
        rule → ⊥) → (place rule : ℕ) → Breach (joint_world group) (body_in (files_for homes m) m) (tables.types m)
        place rule → ⊥
    unbroken_here specials alone = subst (λ f. (place rule : ℕ) → Breach (joint_world group) (body_in f m)
        (tables.types m) place rule → ⊥) (sym files_is) (λ place rule breach. alone place rule
        (breach_stays (all_classes p.files) (joint_world group) (supers_stay members by is (number_of members m) p.files
        (files_at members (number_of members m) p at)) (body_in p.files m) (tables.types m) (subst (CallsStay
        (all_classes p.files) (joint_world group) (body_in p.files m)) (sym (ap (λ o. types_by o m) at))
        (specials_do (all_classes p.files) (joint_world group) (body_in p.files m) (let t = p.tables in t.types m)
        specials)) place rule breach))

    pub tables_here : HasTables p.files p.tables m → HasTablesIn group homes tables m
    tables_here has =
        let here : HasTables p.files tables m = retabled p.files p.tables tables m (ap (λ o. types_by o m) at)
        (ap (λ o. ranges_by o m) at) has in
        let whole = whole_alone p.files p.image p.near tables m here in
        let of = has.of_package in
        record {
          home = of_class (let code = has.code in code.class) has.class of.is_class
              (ap (λ (n : Method). let id = n.id in id.class) (sym has.is));
          has = subst (λ f. HasTables f tables m) (sym files_is) here;
          unbroken = unbroken_here (is.specials (number_of members m) p at m has) (let s = whole.sound in s.unbroken);
        }

    pub int_tables_here : HasIntTables p.files p.tables m → HasIntTablesIn group homes tables m
    int_tables_here has =
        let here : HasIntTables p.files tables m = retabled_int p.files p.tables tables m (ap (λ o. types_by o m) at)
        (ap (λ o. ranges_by o m) at) has in
        let begun = begun_alone p.files p.image p.near tables (λ n. true) m here refl in
        let whole = begun.whole in
        let of = has.of_package in
        record {
          home = of_class (let code = has.code in code.class) has.class of.is_class
              (ap (λ (n : Method). let id = n.id in id.class) (sym has.is));
          has = subst (λ f. HasIntTables f tables m) (sym files_is) here;
          unbroken = unbroken_here (is.int_specials (number_of members m) p at m has)
              (let s = whole.sound in s.unbroken);
        }

  -- a method in int mode is of a package that has it so
  int_of : (o : Option Member) (m : Method) → int_by (by (number_of members m)) o m ≡ true → (p : Member)
      × (o ≡ Some p) × (by (number_of members m) m ≡ true)
  int_of None m e = cc
  int_of (Some p) m e = (p, refl, e)

  pub int_methods : (m : Method) → modes_of members by m ≡ true → HasIntTablesIn group homes tables m
  int_methods m on =
      let r = int_of (member_of members m) m on in
      let one = is.each (number_of members m) r.0 r.1 in
      int_tables_here r.0 m r.1 (one.int_methods m r.2)

  pub others : (m : Method) (at : ℕ) (t : State) → modes_of members by m ≡ false → HasRow (tables.types m) at t
      → HasTablesIn group homes tables m
  others m at t off row =
      let r = row_of (member_of members m) m at t row in
      let one = is.each (number_of members m) r.0 r.1 in
      tables_here r.0 m r.1 (one.others m at t (ap (λ o. int_by (by (number_of members m)) o m) (sym r.1) ∙ off) r.2)
