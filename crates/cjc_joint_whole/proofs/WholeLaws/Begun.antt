-- The methods of a package, as the group has them: each is of its package, and where no method works on int it is begun
-- there by the tables of that.
use Rattle.std.proofs.Common.{◌≡◌, ℕ, Bool, List, Some, sym, ap, subst, ◌∙◌}
use Rattle.std.specs.Prelude.{false, not, slice_get, true}
use Rattle.cjc_bytes.specs.AccessFlags.{is_static}
use Rattle.cjc_bytes.specs.declared.fault.MemberId.{MemberId}
use Rattle.cjc_components.specs.LowerNarrow.Rows.Package.{flags_of}
use Rattle.cjc_components.specs.LowerNarrow.Rows.Resolved.{method_found}
use Rattle.cjc_jvm_semantics.specs.Linked.{Callee, Method}
use Rattle.cjc_jvm_semantics.specs.OnePackage.{is_initialiser}
use Rattle.cjc_world.specs.ClassFile.declared.tree.ClassTree.{ClassTree}
use Rattle.cjc_world.specs.Classes.{all_classes}
use Rattle.cjc_world.specs.Files.{Files}
use Rattle.cjc_narrow_proof.specs.Runs.Begun.{IsBegun}
use Rattle.cjc_narrow_proof.specs.Runs.Tables.{HasTables, Tables}
use Rattle.cjc_narrow_proof.specs.Script.Sorts.{shape_name}
use Rattle.cjc_narrow_proof.specs.Tables.Calls.{IsWordDesc}
use Rattle.cjc_shape_proof.specs.WorldProof.Calls.Targets.{IsOwnCode}
use Rattle.cjc_shape_proof.proofs.FindsLaws.Begun.{begun}
use Rattle.cjc_token_proof.specs.Types.declared.cell.Cell.{Cell}
use Rattle.cjc_joint_proof.specs.JointNames.{place_of}
use Rattle.cjc_joint_proof.specs.Worlds.{AreApart, IsOwn}
use Rattle.cjc_joint_proof.proofs.PackageNames.{package_is}
use Rattle.cjc_joint_proof.proofs.SoundLaws.{apart}
use Rattle.cjc_joint_proof.proofs.TogetherLaws.{place_is}
use Rattle.cjc_joint_theorem.specs.Members.{Member, files_of, home_by, homes_of, member_of, number_of, tables_of}
use Rattle.cjc_joint_theorem.specs.Together.Calls.{IsCalleeIn, IsChosenIn, IsReachedIn, IsReceiverIn, IsStaticIn}
use Rattle.cjc_joint_theorem.specs.Together.Calls as together
use Rattle.cjc_joint_theorem.specs.Together.Homes.{Home, Homes, IsBegunIn, files_for}
use Rattle.cjc_joint_theorem.proofs.MembersLaws.Methods.{tables_here}
use Rattle.cjc_joint_theorem.proofs.MembersLaws.Worlds.{files_at}
use Rattle.cjc_joint_whole.specs.ModesCalls.{IsOwnOf, IsStandingCallee, joint_look_ups}
use Rattle.cjc_joint_whole.specs.ModesCalls as whichever
use Rattle.cjc_joint_whole.specs.Whole.{AreWhole, AreWholeWith}
use Rattle.cjc_joint_whole.proofs.WholeLaws.Members.{are_members, whole_of}
use Rattle.cjc_joint_whole.proofs.WholeLaws.Solid.{spelt}

module _ {K : _} (members : List Member) (is : AreWholeWith K members) (q : ℕ) (p : Member)
    (at : slice_get members q ≡ Some p) where
  abbrev all : List Files
  all = files_of members

  are_apart : AreApart all
  are_apart = apart all is.sound

  member_is : slice_get all q ≡ Some p.files
  member_is = files_at members q p at

  pub place_here : (k : ℕ) (t : ClassTree) → (let f = p.files in slice_get f.classes k ≡ Some t) → place_of all t.name ≡ q
  place_here k t file =
      let own : IsOwn all q k p.files t = record { member = member_is; file = file } in
      let f = p.files in
      place_is all q p.files t.name member_is (sym (package_is f.package_name t.name (are_apart.own q k p.files t
      own))) (λ j g there same. (let s = is.sound in s.names j q g p.files there member_is same))

  -- a method of a class file is of its package
  pub member_with : (m : Method) (k : ℕ) (t : ClassTree) → (let f = p.files in slice_get f.classes k ≡ Some t)
      → t.name ≡ (let id = m.id in id.class) → member_of members m ≡ Some p
  member_with m k t file class_is = ap (slice_get members) (ap (place_of all) (sym class_is) ∙ place_here k t file) ∙ at

-- ---- where no method works on int

module _ (members : List Member) (is : AreWhole members) where
  abbrev group : List Files
  group = files_of members

  abbrev homes : Homes
  homes = homes_of members

  abbrev tables : Tables
  tables = tables_of members

  module _ (q : ℕ) (p : Member) (at : slice_get members q ≡ Some p) where
    pub member_here : (m : Method) → HasTables p.files p.tables m → member_of members m ≡ Some p
    member_here m has = member_with members is q p at m (let code = has.code in code.class) has.class (let of =
        has.of_package in of.is_class) (ap (λ (n : Method). let id = n.id in id.class) (sym has.is))

    pub begun_here : (on : Bool) (desc : List ℕ) (m : Method) → IsBegun p.files p.tables on desc m
        → IsBegunIn group homes tables on desc m
    begun_here on desc m b =
        let here = member_here m b.has_tables in
        let has = tables_here members (are_members members is) p m here b.has_tables in
        let same : files_for homes m ≡ p.files = ap (λ (h : Home). h.files) (ap (home_by (number_of members m)) here) in
        record {
          has_tables = has;
          begun = again (files_for homes m) same has.has;
        }
      where
        again : (f : Files) → f ≡ p.files → HasTables f tables m → IsBegun f tables on desc m
        again f same has = record { has_tables = has; desc = b.desc; flags = subst (λ g. Flags g) (sym same) b.flags }
          where
            Flags : Files → Type 0
            Flags g = is_static (flags_of (method_found (all_classes g) m.id)) ≡ not on

    pub begun_alone : (id : MemberId) → is_initialiser id.name ≡ false → (on : Bool) (m : Method)
        (code : IsOwnCode p.files id m) → is_static (let k = code.method in k.flags) ≡ not on
        → IsBegun p.files p.tables on id.desc m
    begun_alone id initial on m code flags =
        let one = is.each q p at in
        let whole = whole_of p one in
        begun one.list p.files one.codes one.settings whole.unbroken (spelt one.list p.files one.codes one.settings
        one.whole) p.tables whole.tabled on id initial m code flags

  pub begun_of : (id : MemberId) (on : Bool) (m : Method) → is_initialiser id.name ≡ false → IsOwnOf members id on m
      → IsBegunIn group homes tables on id.desc m
  begun_of id on m initial o = begun_here o.part o.member o.at on id.desc m (begun_alone o.part o.member o.at id initial
      on m o.code o.flags)

  -- ---- calls of what is one word each

  abbrev callee_of : {p : Files} {id : MemberId} → IsWordDesc id.desc → IsStandingCallee group p id
      → IsCalleeIn group p id
  callee_of word c = record {
    place = c.place;
    hit = c.hit;
    found = c.found;
    is_hit = c.is_hit;
    again = c.again;
    there = c.there;
    met = c.met;
    stands = c.stands;
    is_met = c.is_met;
    is_above = c.is_above;
    no_initialiser = c.no_initialiser;
    desc = word;
    result = c.result;
  }

  reached_of : (id : MemberId) → is_initialiser id.name ≡ false → (callee : Callee)
      → whichever.IsReachedIn members id callee → IsReachedIn group homes tables id callee
  reached_of id initial _ (whichever.reaches_method {m = m} own) = together.inside (begun_of id false m initial own)
  reached_of id initial _ (whichever.reaches_import e) = together.abroad e

  chosen_of : (id : MemberId) → is_initialiser id.name ≡ false → (type : List ℕ) (callee : Callee)
      → whichever.IsChosenIn members id type callee → IsChosenIn group homes tables id type callee
  chosen_of id initial type _ (whichever.chooses_method {m = m} own below) =
      together.inside (begun_of id true m initial own) below
  chosen_of id initial type _ (whichever.chooses_import e) = together.abroad e

  pub static_of : (id : MemberId) → IsWordDesc id.desc → (p : Files) → whichever.IsStaticIn members id p
      → IsStaticIn group homes tables p id
  static_of id word p h =
      let c = h.method in
      record {
        method = callee_of word c;
        is_static_one = h.is_static_one;
        no_constructor = h.no_constructor;
        callee = h.callee;
        reaches = h.reaches;
        is_reached = reached_of id c.no_initialiser h.callee h.is_reached;
      }

  pub receiver_of : (id : MemberId) → IsWordDesc id.desc → (p : Files) (holder : List ℕ) (stack : List Cell) (op : ℕ)
      → whichever.IsReceiverIn members id p holder stack op
      → IsReceiverIn group (joint_look_ups members) homes tables p holder stack op id
  receiver_of id word p holder stack op h =
      let c = h.method in
      record {
        method = callee_of word c;
        class = h.class;
        choice = h.choice;
        form = h.form;
        choices = λ names on kind some made.
            (let x = h.choices names on kind some made in
            record {
              is_of = x.is_of;
              callee = x.callee;
              chooses = x.chooses;
              is_chosen = chosen_of id c.no_initialiser (shape_name kind) x.callee x.is_chosen;
            });
      }
