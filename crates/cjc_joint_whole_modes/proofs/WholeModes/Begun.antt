-- The methods of packages by their modes, as the group has them: each is begun there by the tables of its package. So
-- calls that stand for what the joint world has reach methods that are begun.
use Rattle.std.proofs.Common.{◌≡◌, ℕ, refl, sym, ap, subst, ◌∙◌, Bool, false, not, true, List, Some}
use Rattle.std.specs.List.{AllByRecursion}
use Rattle.std.specs.Prelude.{[], ◌∷◌}
use Rattle.cjc_bytes.specs.AccessFlags.{is_static}
use Rattle.cjc_bytes.specs.Descriptor.{IsClassName, Part}
use Rattle.cjc_bytes.specs.declared.descriptor.Kind.{Kind}
use Rattle.cjc_bytes.specs.declared.descriptor.Kind.TheVariants as kinds
use Rattle.cjc_bytes.specs.declared.fault.MemberId.{MemberId}
use Rattle.cjc_script.specs.Sorts.{Boolean, Byte, Int, NoValue, Reference, Short, Sort, shape_name, sort_of}
use Rattle.cjc_jvm_semantics.specs.Group.{joint_image}
use Rattle.cjc_jvm_semantics.specs.Linked.{Callee, Method}
use Rattle.cjc_jvm_semantics.specs.OnePackage.{is_initialiser}
use Rattle.cjc_narrow.specs.Rows.Package.{flags_of}
use Rattle.cjc_narrow.specs.Rows.Resolved.{method_found}
use Rattle.cjc_ncode.specs.ByLabel.{Named}
use Rattle.cjc_types.specs.Types.{parts}
use Rattle.cjc_types.specs.declared.cell.Cell.{Cell}
use Rattle.cjc_world.specs.Classes.{all_classes}
use Rattle.cjc_world.specs.Files.{Files}
use Rattle.cjc_world.specs.declared.image.StaticImage.{StaticImage}
use Rattle.cjc_narrow_proof.specs.Runs.Tables.{Tables}
use Rattle.cjc_narrow_proof.specs.Selection.Rows.{is_word_sort}
use Rattle.cjc_narrow_proof.specs.Tables.Calls.{IsWordDesc, is_word_result}
use Rattle.cjc_narrow_proof.proofs.LawsLaws.ClassNames.{own_name}
use Rattle.cjc_narrow_proof.proofs.LawsLaws.Own.{flags_by_name}
use Rattle.cjc_int_runs.specs.Fields.{has_values}
use Rattle.cjc_int_alike.specs.Calls.{IsIntDesc, is_some_result}
use Rattle.cjc_int_theorem.specs.Tabled.{IsOwnMethod, IsTabledByMode, tabled_int, tabled_short}
use Rattle.cjc_joint_proof.specs.JointNames.{place_of}
use Rattle.cjc_joint_theorem.specs.Members.{Member, files_of, home_by, homes_of, images_of, member_of, number_of}
use Rattle.cjc_joint_theorem.specs.Members.{tables_of}
use Rattle.cjc_joint_theorem.specs.Together.Homes.{Home, Homes, files_for}
use Rattle.cjc_joint_modes.specs.Calls.{IsIntCalleeIn, IsIntChosenIn, IsIntReachedIn, IsIntReceiverIn, IsIntStaticIn}
use Rattle.cjc_joint_modes.specs.Calls as by_mode
use Rattle.cjc_joint_modes.specs.Codes.{HasTablesByMode, IsBegunByModeIn, group_look_ups_by_mode, in_int_mode}
use Rattle.cjc_joint_modes.specs.Codes.{in_short_mode}
use Rattle.cjc_joint_modes.specs.Members.{int_by, modes_of}
use Rattle.cjc_joint_modes.proofs.MembersLaws.Methods.{int_tables_here, tables_here}
use Rattle.cjc_joint_whole.specs.ModesCalls.{IsOwnOf, IsStandingCallee}
use Rattle.cjc_joint_whole.specs.ModesCalls as whichever
use Rattle.cjc_joint_whole.proofs.WholeLaws.Begun.{member_with, place_here}
use Rattle.cjc_joint_whole.proofs.WholeLaws.Solid.{spelt}
use Rattle.cjc_joint_whole_modes.specs.Whole.{AreWholeByModes}
use Rattle.cjc_joint_whole_modes.proofs.WholeModes.Looks.{made_short, one_of}
use Rattle.cjc_joint_whole_modes.proofs.WholeModes.Members.{are_members}
use Rattle.cjc_joint_whole_modes.proofs.WholeModes.Reached.{tabled_at}

-- ---- descriptors of one word each

word_values : (sort : Sort) → is_word_sort sort ≡ true → has_values sort ≡ true
word_values Boolean e = refl
word_values Byte e = refl
word_values Short e = refl
word_values Int e = refl
word_values (Reference shape) e = refl
word_values NoValue e = absurd cc

words_values : (ps : List Part) → AllByRecursion (λ p. is_word_sort (sort_of p) ≡ true) ps
    → AllByRecursion (λ p. has_values (sort_of p) ≡ true) ps
words_values [] h = tt
words_values (p ∷ ps) h = (word_values (sort_of p) h.0, words_values ps h.1)

result_values : (kind : Kind) (sort : Sort) → is_word_result kind sort ≡ true → is_some_result kind sort ≡ true
result_values kinds.Void sort e = refl
result_values kinds.Bool sort e = word_values sort e
result_values kinds.Byte sort e = word_values sort e
result_values kinds.Short sort e = word_values sort e
result_values kinds.Int sort e = word_values sort e
result_values kinds.Ref sort e = word_values sort e
result_values kinds.Other sort e = word_values sort e

-- they are of some values
int_desc : (desc : List ℕ) → IsWordDesc desc → IsIntDesc desc
int_desc desc h = record {
  is_desc = h.is_desc;
  is_method = h.is_method;
  params = words_values (let d = parts desc in d.params) h.params;
  result = (let d = parts desc in let p = d.result in result_values p.kind (sort_of p) h.result);
}

module _ (members : List Member) (modes : ℕ → Method → Bool) (is : AreWholeByModes members modes) where
  abbrev group : List Files
  group = files_of members

  abbrev image : StaticImage
  image = joint_image (images_of members)

  abbrev homes : Homes
  homes = homes_of members

  abbrev tables : Tables
  tables = tables_of members

  abbrev is_int : Method → Bool
  is_int = modes_of members modes

  abbrev l : Named
  l = group_look_ups_by_mode group image homes tables is_int

  -- ---- methods with code

  pub begun_of : (id : MemberId) (on : Bool) (m : Method) → is_initialiser id.name ≡ false → IsOwnOf members id on m
      → IsBegunByModeIn group homes tables is_int on id.desc m
  begun_of id on m initial o = by (let t = tabled_at members modes is o.part o.member o.at in t.own m own_method)
    where
      own_method : IsOwnMethod (let p = o.member in p.files) m
      own_method = let code = o.code in record {
        class = code.class;
        method = code.method;
        tree = code.tree;
        own = code.own;
        plain = ap is_initialiser code.name ∙ initial;
        is_code = code.is_code;
        is = code.is;
      }

      class_is : (let code = o.code in let t = code.class in t.name) ≡ (let id = m.id in id.class)
      class_is = let code = o.code in ap (λ (n : Method). let id = n.id in id.class) (sym code.is)

      here : member_of members m ≡ Some o.member
      here = let code = o.code in let own = code.own in
          member_with members is o.part o.member o.at m own.number code.class own.is_class class_is

      number : number_of members m ≡ o.part
      number = let code = o.code in let own = code.own in
          ap (place_of group) (sym class_is) ∙ place_here members is o.part o.member o.at own.number code.class
          own.is_class

      mode_is : is_int m ≡ modes o.part m
      mode_is = ap (λ g. int_by (modes (number_of members m)) g m) here ∙ ap (λ n. modes n m) number

      files_same : files_for homes m ≡ (let p = o.member in p.files)
      files_same = ap (λ (h : Home). h.files) (ap (home_by (number_of members m)) here)

      flags : is_static (flags_of (method_found (all_classes (let p = o.member in p.files)) m.id)) ≡ not on
      flags =
          let p = o.member in
          let one = is.each o.part p o.at in
          let whole = one.whole in
          let u = whole.unbroken in
          let code = o.code in
          let own = code.own in
          ap (λ (n : Method). is_static (flags_of (method_found (all_classes p.files) n.id))) code.is
          ∙ ap is_static (flags_by_name p.files one.list u.listed u.world own.number code.class own.is_class own.place
          code.method own.is_method) ∙ o.flags

      begun : HasTablesByMode group homes tables is_int m → IsBegunByModeIn group homes tables is_int on id.desc m
      begun t =
          let p = o.member in
          let one = is.each o.part p o.at in
          let whole = one.whole in
          let u = whole.unbroken in
          let code = o.code in
          let own = code.own in
          record {
            has_tables = t;
            desc = ap (λ (n : Method). let id = n.id in id.desc) code.is ∙ code.desc;
            flags = subst (λ (f : Files). is_static (flags_of (method_found (all_classes f) m.id)) ≡ not on)
                (sym files_same) flags;
            named = subst IsClassName class_is (own_name p.files one.list u.listed u.world (spelt one.list p.files
                one.codes one.settings whole) own.number code.class own.is_class);
          }

      by : IsTabledByMode (let p = o.member in p.files) (let one = is.each o.part o.member o.at in one.codes)
          (let p = o.member in p.tables) (modes o.part) m → IsBegunByModeIn group homes tables is_int on id.desc m
      by (tabled_int e has listed) = begun (in_int_mode (mode_is ∙ e) (int_tables_here members modes (are_members members
          modes is) o.member m here has))
      by (tabled_short e has listed free) = begun (in_short_mode (mode_is ∙ e) (tables_here members modes (are_members
          members modes is) o.member m here has))

  -- its types are of some values
  pub desc_of : (id : MemberId) (on : Bool) (m : Method) → IsBegunByModeIn group homes tables is_int on id.desc m
      → IsIntDesc id.desc
  desc_of id on m b = by b.has_tables
    where
      by : HasTablesByMode group homes tables is_int m → IsIntDesc id.desc
      by (in_int_mode e h) = let has = h.has in
          subst IsIntDesc (sym (ap (λ (g : Method). let i = g.id in i.desc) has.is) ∙ b.desc) has.desc
      by (in_short_mode e h) = let has = h.has in
          subst IsIntDesc (sym (ap (λ (g : Method). let i = g.id in i.desc) has.is) ∙ b.desc) (int_desc (let k =
          has.method in k.desc) has.desc)

  -- ---- calls

  abbrev callee_of : {p : Files} {id : MemberId} → IsIntDesc id.desc → IsStandingCallee group p id
      → IsIntCalleeIn group p id
  callee_of desc c = record {
    place = c.place;
    hit = c.hit;
    found = c.found;
    is_hit = c.is_hit;
    again = c.again;
    there = c.there;
    met = c.met;
    stands = c.stands;
    is_met = c.is_met;
    is_above = c.is_above;
    no_initialiser = c.no_initialiser;
    desc = desc;
    result = c.result;
  }

  reached_of : (id : MemberId) → is_initialiser id.name ≡ false → (callee : Callee)
      → whichever.IsReachedIn members id callee → IsIntReachedIn group homes tables is_int id callee
  reached_of id initial _ (whichever.reaches_method {m = m} own) = by_mode.reaches_method (begun_of id false m initial
      own)
  reached_of id initial _ (whichever.reaches_import e) = by_mode.reaches_import e

  chosen_of : (id : MemberId) → is_initialiser id.name ≡ false → (type : List ℕ) (callee : Callee)
      → whichever.IsChosenIn members id type callee → IsIntChosenIn group homes tables is_int id type callee
  chosen_of id initial type _ (whichever.chooses_method {m = m} own below) = by_mode.chooses_method (begun_of id true m
      initial own) below
  chosen_of id initial type _ (whichever.chooses_import e) = by_mode.chooses_import e

  pub static_of : (id : MemberId) → IsIntDesc id.desc → (p : Files) → whichever.IsStaticIn members id p
      → IsIntStaticIn group homes tables is_int id p
  static_of id desc p h =
      let c = h.method in
      record {
        method = callee_of desc c;
        is_static_one = h.is_static_one;
        no_constructor = h.no_constructor;
        callee = h.callee;
        reaches = h.reaches;
        is_reached = reached_of id c.no_initialiser h.callee h.is_reached;
      }

  pub receiver_of : (id : MemberId) → IsIntDesc id.desc → (p : Files) (holder : List ℕ) (stack : List Cell) (op : ℕ)
      → whichever.IsReceiverIn members id p holder stack op
      → IsIntReceiverIn group homes tables is_int id l p holder stack op
  receiver_of id desc p holder stack op h =
      let c = h.method in
      record {
        method = callee_of desc c;
        class = h.class;
        choice = h.choice;
        form = h.form;
        choices = λ names on kind some made.
            (let x = h.choices names on kind (sym (one_of group image homes tables is_int names kind) ∙ some)
            (made_short group image homes tables is_int kind made) in
            record {
              is_of = x.is_of;
              callee = x.callee;
              chooses = x.chooses;
              is_chosen = chosen_of id c.no_initialiser (shape_name kind) x.callee x.is_chosen;
            });
      }
