-- Calls by invokevirtual of public and protected methods that classes declare, of class files of the package and of
-- classes from outside: on each object there the joint world selects a method with code.
use Rattle.std.proofs.Common.{◌≡◌, ℕ, ◌+◌, refl, sym, ap, ◌∙◌, Bool, true, false, List, Some, inl, inr}
use Rattle.std.specs.Prelude.{◌⊎◌, ◌&&◌, ◌||◌, not, slice_get}
use Rattle.cjc_bytes.specs.AccessFlags.{is_interface}
use Rattle.cjc_bytes.specs.declared.fault.MemberId.{MemberId}
use Rattle.cjc_components.specs.Bytecode.declared.insn.JOp.TheVariants as jop
use Rattle.cjc_components.specs.Bytecode.declared.method_code.MethodCode.{MethodCode}
use Rattle.cjc_jvm_semantics.specs.Group.{is_open, is_package_visible, joint_exports, joint_method}
use Rattle.cjc_jvm_semantics.specs.Linked.{Method}
use Rattle.cjc_jvm_semantics.specs.OnePackage.{ResolvedMember, is_constructor, is_initialiser, method_hit}
use Rattle.cjc_vtable.specs.Calls.{is_special}
use Rattle.cjc_world.specs.ClassFile.declared.tree.ClassTree.{ClassTree}
use Rattle.cjc_world.specs.Classes.{Class, Member as WorldMember, all_classes, class_named, declared, imported}
use Rattle.cjc_world.specs.ExportFile.declared.tree.ExportClass.{ExportClass}
use Rattle.cjc_world.specs.ExportFile.declared.tree.ExportTree.{ExportTree}
use Rattle.cjc_world.specs.Files.{Files}
use Rattle.cjc_world.specs.Lookup.{is_selectable, own_method, receiver}
use Rattle.cjc_world.specs.Subtype.{is_subtype}
use Rattle.cjc_world.specs.Upwards.{Below}
use Rattle.cjc_world.specs.declared.found.Found.{Found}
use Rattle.cjc_world.proofs.Subtypes.{transitive}
use Rattle.cjc_vtable.proofs.Filed.{IsFiled, filed, get-has, has-get, in_class_file, in_export_file, of-imports}
use Rattle.cjc_narrow_proof.specs.Script.Sorts.{shape_name}
use Rattle.cjc_token_proof.proofs.WorldProofOwn.{IsAt}
use Rattle.cjc_token_proof.proofs.WorldProofTypes.{type_below}
use Rattle.cjc_token_proof.specs.Subset.Members.{imports}
use Rattle.cjc_token_proof.specs.Types.declared.cell.Cell.{Cell}
use Rattle.cjc_token_proof.specs.Types.declared.state.State.{State}
use Rattle.cjc_token_proof.specs.Types.Search.{cells_of}
use Rattle.cjc_joint_proof.specs.Worlds.{AreApart, before, outside_classes}
use Rattle.cjc_joint_proof.proofs.AboveLaws.{flat_at}
use Rattle.cjc_joint_proof.proofs.SoundLaws.{apart}
use Rattle.cjc_joint_proof.proofs.WorldLaws.{outside_is_found, own_is_found}
use Rattle.cjc_joint_theorem.specs.Members.{Member, files_of}
use Rattle.cjc_joint_theorem.specs.Together.Calls.{selected_together}
use Rattle.cjc_joint_theorem.specs.Together.Calls as together
use Rattle.cjc_joint_theorem.specs.Together.Homes.{joint_world}
use Rattle.cjc_joint_theorem.proofs.MembersLaws.Worlds.{files_at}
use Rattle.cjc_joint_whole.specs.ModesCalls.{IsNamedCallee, IsReceiverIn}
use Rattle.cjc_joint_whole.specs.Whole.{AreWholeWith, IsExport, IsOfMember, from_outside, of_member}
use Rattle.cjc_joint_whole.proofs.WholeLaws.Accepted.{receiver_is}
use Rattle.cjc_joint_whole.proofs.WholeLaws.Coded.{class_there, found_there, hit_there}
use Rattle.cjc_joint_whole.proofs.WholeLaws.Exposed.{own_here}
use Rattle.cjc_joint_whole.proofs.WholeLaws.Imports.{exported}
use Rattle.cjc_joint_whole.proofs.WholeLaws.Members.{plain_together, supers_together, type_together}
use Rattle.cjc_joint_whole.proofs.WholeLaws.Owners.{HasOwner, outside_met, own_met, owner_of}
use Rattle.cjc_joint_whole.proofs.WholeLaws.Reached.{IsReached}
use Rattle.cjc_joint_whole.proofs.WholeLaws.Receivers.{receiver_in}
use Rattle.cjc_joint_whole.proofs.WholeLaws.Selected.{selects_open}
use Rattle.cjc_joint_whole.proofs.WholeLaws.Solid.{solid_at}

-- a method that can be selected and is not package-visible is open
open_by : (flags : ℕ) → is_selectable flags ≡ true → is_package_visible flags ≡ false → is_open flags ≡ true
open_by flags e f = by (is_selectable flags) (is_package_visible flags) e f
  where
    by : (a b : Bool) → a ≡ true → b ≡ false → (a && not b) ≡ true
    by true false e f = refl
    by true true e f = absurd cc
    by false b e f = absurd cc

special_off : (a b : Bool) → a ≡ false → b ≡ false → (a || b) ≡ false
special_off false false e f = refl
special_off true b e f = absurd cc
special_off false true e f = absurd cc

module _ {K : _} (members : List Member) (is : AreWholeWith K members) (q : ℕ) (p : Member)
    (at : slice_get members q ≡ Some p) (codes : List MethodCode) (m : Method) (t : State) (id : MemberId)
    (r : IsReached p.files codes m (jop.Call 0xB6 id) t) (c : IsNamedCallee p.files id)
    (ordinary : is_constructor id.name ≡ false) (wanted : (let hit = c.hit in is_selectable hit.flags) ≡ true)
    (shown : (let hit = c.hit in is_package_visible hit.flags) ≡ false)
    (ground : (let hit = c.hit in let o = hit.owner in is_interface o.flags) ≡ false) where
  abbrev group : List Files
  group = files_of members

  abbrev w : List Class
  w = joint_world group

  abbrev v : List Class
  v = all_classes p.files

  abbrev hit : ResolvedMember
  hit = c.hit

  abbrev stack : List Cell
  stack = cells_of t.stack

  plain : is_special (record { name = id.name; desc = id.desc }) ≡ false
  plain = special_off (is_constructor id.name) (is_initialiser id.name) ordinary c.no_initialiser

  are_apart : AreApart group
  are_apart = apart group is.sound

  -- What the joint world has for the method: one that a class declares.
  record StandsOpen : Type 0 where
    there : Found
    met : ResolvedMember
    stands : joint_method w hit.owner id ≡ Some there
    is_met : method_hit w there ≡ Some met
    has_flags : met.flags ≡ hit.flags
    class : Class
    named : class_named w class.name ≡ Some class
    is_class : is_interface class.flags ≡ false
    same_name : class.name ≡ (let o = hit.owner in o.name)
    place : ℕ
    method : WorldMember
    is_method : slice_get class.methods place ≡ Some method
    has_name : method.name ≡ id.name
    has_desc : method.desc ≡ id.desc
    same_flags : method.flags ≡ hit.flags

  own_open : (n : ℕ) (o : ClassTree) → (let f = p.files in slice_get f.classes n ≡ Some o)
      → own_method false id.name id.desc (declared n o) ≡ Some c.place → (a : IsAt false id.name id.desc (declared n o)
      c.place) → hit ≡ record { owner = declared n o; flags = (let x = a.member in x.flags) } → StandsOpen
  own_open n o file own a told =
      let x = own_met members is q p at id c.no_initialiser c.place c.hit c.is_hit n o file own a told in
      let mine = own_here members is q p at n o file in
      record {
        there = found_there x.it;
        met = record { owner = class_there x.it; flags = (let y = x.it in let z = y.method in z.flags) };
        stands = x.stands;
        is_met = hit_there members is id x.it;
        has_flags = x.has_flags;
        class = declared (before group q + n) o;
        named = own_is_found group are_apart q n p.files o mine;
        is_class = sym (ap (λ (h : ResolvedMember). let y = h.owner in is_interface y.flags) told) ∙ ground;
        same_name = sym (ap (λ (h : ResolvedMember). let y = h.owner in y.name) told);
        place = a.place;
        method = a.member;
        is_method = a.is_member;
        has_name = a.has_name;
        has_desc = a.has_desc;
        same_flags = sym (ap (λ (h : ResolvedMember). h.flags) told);
      }

  outside_open : (n : ℕ) (e : ExportClass) → (let f = p.files in slice_get (imports f.exports) n ≡ Some e)
      → class_named v e.name ≡ Some (imported n e) → own_method false id.name id.desc (imported n e) ≡ Some c.place
      → (a : IsAt false id.name id.desc (imported n e) c.place)
      → hit ≡ record { owner = imported n e; flags = (let x = a.member in x.flags) } → (k : ℕ)
      → slice_get (outside_classes group) k ≡ Some e → StandsOpen
  outside_open n e file named own a told k kept =
      let x = outside_met members is q p at id c.no_initialiser c.place c.hit c.is_hit n e file named own a told k kept
      in
      record {
        there = x.there;
        met = x.met;
        stands = x.stands;
        is_met = x.is_met;
        has_flags = x.has_flags;
        class = imported k e;
        named = outside_is_found group are_apart is.outside k e kept;
        is_class = sym (ap (λ (h : ResolvedMember). let y = h.owner in is_interface y.flags) told) ∙ ground;
        same_name = sym (ap (λ (h : ResolvedMember). let y = h.owner in y.name) told);
        place = a.place;
        method = a.member;
        is_method = a.is_member;
        has_name = a.has_name;
        has_desc = a.has_desc;
        same_flags = sym (ap (λ (h : ResolvedMember). h.flags) told);
      }

  -- ---- the call

  open_stands : (s : StandsOpen) → (holder : List ℕ) → IsReceiverIn members id p.files holder stack 0xB6
  open_stands s holder = record {
    method = record {
      place = c.place;
      hit = c.hit;
      found = c.found;
      is_hit = c.is_hit;
      again = c.again;
      there = s.there;
      met = s.met;
      stands = s.stands;
      is_met = s.is_met;
      is_above = above;
      no_initialiser = c.no_initialiser;
      result = λ kind e. type_together members is q p.files (files_at members q p at) kind (c.result kind e);
    };
    class = id.class;
    choice = λ type. selected_together group s.met type id;
    form = together.on_class ordinary (ap is_selectable s.has_flags ∙ wanted);
    choices = λ names on kind some made.
        (let of = receiver_is members is q p at codes m t 0xB6 id r refl id.class refl names on kind some in
        let type = shape_name kind in
        let open_name = plain_together members is (let d = s.class in d.name) s.class s.named in
        let way : Below w (receiver type) (let d = s.class in d.name) = type_below w type (let d = s.class in d.name)
        open_name (transitive w type id.class (let d = s.class in d.name) of (ap (is_subtype w id.class) s.same_name
        ∙ above)) in
        let to = selects_open members is id plain c.no_initialiser s.met (ap is_package_visible s.has_flags ∙ shown)
        s.class s.named s.is_class s.place s.method s.is_method s.has_name s.has_desc (ap is_open s.same_flags
        ∙ open_by hit.flags wanted shown) type (receiver_in members is q p at kind made) way in
        record { is_of = of; callee = to.0; chooses = to.1; is_chosen = to.2 });
  }
    where
      above : (let o = hit.owner in is_subtype w id.class o.name) ≡ true
      above = supers_together members is q p.files (files_at members q p at) id.class (let o = hit.owner in o.name)
          c.above

  owned : HasOwner p.files id c.place c.hit
  owned = owner_of p.files (solid_at members is q p at) id c.place c.hit c.found c.is_hit

  -- it stands, unless the class is of another package of the group
  pub shared_or_not : (holder : List ℕ) → IsOfMember members (let h = hit in h.owner)
      ⊎ IsReceiverIn members id p.files holder stack 0xB6
  shared_or_not holder =
      let o = owned in
      by (filed p.files (let d = o.class in d.name) o.class o.named) o.named o.own o.at o.is_hit
    where
      of_tree : (n : ℕ) (e : ExportClass) → (let f = p.files in slice_get (imports f.exports) n ≡ Some e)
          → class_named v e.name ≡ Some (imported n e) → own_method false id.name id.desc (imported n e) ≡ Some c.place
          → (a : IsAt false id.name id.desc (imported n e) c.place)
          → hit ≡ record { owner = imported n e; flags = (let x = a.member in x.flags) } → (u : ExportTree) (k : ℕ)
          → slice_get u.classes k ≡ Some e → IsExport members q u → IsOfMember members (let h = hit in h.owner)
          ⊎ IsReceiverIn members id p.files holder stack 0xB6
      of_tree n e file named own a told u k listed (of_member j g less there written) =
          let x = exported g.files u written k e listed in
          inl (record {
            imported_one = ap (λ (h : ResolvedMember). let y = h.owner in y.is_imported) told;
            part = j;
            member = g;
            at = there;
            number = x.number;
            class = x.class;
            file = x.file;
            same_name = x.same_name ∙ sym (ap (λ (h : ResolvedMember). let y = h.owner in y.name) told);
          })
      of_tree n e file named own a told u k listed (from_outside j kept) =
          let all = flat_at (λ (y : ExportTree). y.classes) (joint_exports group) j k u e kept listed in
          inr (open_stands (outside_open n e file named own a told all.0 all.1) holder)

      by : {d : Class} → IsFiled p.files d → class_named v d.name ≡ Some d
          → own_method false id.name id.desc d ≡ Some c.place → (a : IsAt false id.name id.desc d c.place)
          → hit ≡ record { owner = d; flags = (let x = a.member in x.flags) }
          → IsOfMember members (let h = hit in h.owner) ⊎ IsReceiverIn members id p.files holder stack 0xB6
      by (in_class_file n o file) named own a told = inr (open_stands (own_open n o file own a told) holder)
      by (in_export_file n e file) named own a told =
          let f = p.files in
          let of = of-imports e f.exports (get-has e (imports f.exports) n file) in
          let k = has-get of.0 f.exports of.1 in
          let place = has-get e (let u = of.0 in u.classes) of.2 in
          of_tree n e file named own a told of.0 place.0 place.1 (is.written q k.0 p of.0 at k.1)
