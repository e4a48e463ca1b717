-- What is selected above a class of a package that holds code, for a package-visible method of a class file of the
-- package on the line of its superclass: the superclass has code for it (206), and the joint world passes over the classes
-- of other packages. What a look-up from the superclass finds is such a method too (305, 306).
use Rattle.std.proofs.Common.{◌≡◌, ℕ, refl, sym, ap, ◌∙◌, true, false, List, [], ◌∷◌, Option, Some, inl, inr}
use Rattle.std.proofs.Common.{⊎_elim}
use Rattle.std.specs.Prelude.{option_and_then, slice_get, if◌then◌else◌}
use Rattle.cjc_bytes.specs.AccessFlags.{is_abstract}
use Rattle.cjc_bytes.specs.declared.fault.MemberId.{MemberId}
use Rattle.cjc_jvm_semantics.specs.Group.{is_open, is_package_visible, joint, joint_method, own_where, own_within}
use Rattle.cjc_jvm_semantics.specs.Group.{package_of, selection_for}
use Rattle.cjc_jvm_semantics.specs.Linked.{Callee}
use Rattle.cjc_jvm_semantics.specs.OnePackage.{ResolvedMember, callee_at, first_imported, is_initialiser, method_hit}
use Rattle.cjc_shape_proof.specs.WorldProof.Calls.Solid.{HasCode, IsSolid}
use Rattle.cjc_token_proof.proofs.WorldProofOwn.{IsAt, hit_is, own_at, own_is}
use Rattle.cjc_token_proof.proofs.WorldProofSelects.{called_by}
use Rattle.cjc_token_proof.proofs.WorldProofTypes.{receiver_class}
use Rattle.cjc_vtable.specs.Calls.{is_special}
use Rattle.cjc_vtable.proofs.Filed.{IsFiled, filed, in_class_file, in_export_file}
use Rattle.cjc_world.specs.ClassFile.declared.tree.ClassTree.{ClassTree}
use Rattle.cjc_world.specs.Classes.{Class, Member as WorldMember, all_classes, class_named, declared}
use Rattle.cjc_world.specs.Files.{Files}
use Rattle.cjc_world.specs.Lookup.{first, is_selectable, own_method, receiver, selected}
use Rattle.cjc_world.specs.Subtype.{starts}
use Rattle.cjc_world.specs.Supertypes.{Lists, line}
use Rattle.cjc_world.specs.Upwards.{Below, IsOrdered, OnLine}
use Rattle.cjc_world.specs.declared.found.Found.{Found}
use Rattle.cjc_world.proofs.UpwardLaws.Lines.{line_below, line_named}
use Rattle.cjc_joint_proof.specs.Worlds.{AreApart, before, found_in}
use Rattle.cjc_joint_proof.proofs.AboveLaws.{above_stays}
use Rattle.cjc_joint_proof.proofs.PackageNames.{package_is}
use Rattle.cjc_joint_proof.proofs.SoundLaws.{apart}
use Rattle.cjc_joint_theorem.specs.Members.{Member, files_of}
use Rattle.cjc_joint_theorem.specs.Together.Calls.{selected_together}
use Rattle.cjc_joint_theorem.specs.Together.Homes.{joint_world}
use Rattle.cjc_joint_theorem.proofs.MembersLaws.Worlds.{files_at}
use Rattle.cjc_joint_theorem.proofs.OrderedLaws.Selected.{found_together, within_moves, within_tells}
use Rattle.cjc_joint_theorem.proofs.OrderedLaws.Standing.{HasStanding, class_stands}
use Rattle.cjc_joint_whole.specs.Whole.{AreWholeWith}
use Rattle.cjc_joint_whole.proofs.WholeLaws.AboveFinds.{IsAbove, looked_up}
use Rattle.cjc_joint_whole.proofs.WholeLaws.AboveLines.{same_or_above}
use Rattle.cjc_joint_whole.proofs.WholeLaws.AboveSights.{one_named, single_here}
use Rattle.cjc_joint_whole.proofs.WholeLaws.Coded.{InFile, IsReachedOf, class_there, code_reached, found_there, hit_there}
use Rattle.cjc_joint_whole.proofs.WholeLaws.Exposed.{named_here, own_here}
use Rattle.cjc_joint_whole.proofs.WholeLaws.Hidden.{asks_alike, in_methods, selects_here, signed_so, visible}
use Rattle.cjc_joint_whole.proofs.WholeLaws.HiddenStands.{no_static}
use Rattle.cjc_joint_whole.proofs.WholeLaws.Imports.{imports_told}
use Rattle.cjc_joint_whole.proofs.WholeLaws.KindsKept.{all_kinds}
use Rattle.cjc_joint_whole.proofs.WholeLaws.Members.{ordered_together, plain_together}
use Rattle.cjc_joint_whole.proofs.WholeLaws.Nearest.{IsNearest, alike, low, nearest}
use Rattle.cjc_joint_whole.proofs.WholeLaws.Owners.{own_met}
use Rattle.cjc_joint_whole.proofs.WholeLaws.Solid.{solid_at}

same_hit : {a b : ResolvedMember} → Some a ≡ Some b → a ≡ b
same_hit e = cc

same_found : {f g : Found} → Some f ≡ Some g → f ≡ g
same_found e = cc

clash : true ≡ false → ⊥
clash e = cc

module _ {K : _} (members : List Member) (is : AreWholeWith K members) (q : ℕ) (p : Member)
    (at : slice_get members q ≡ Some p)
    (id : MemberId) (initial : is_initialiser id.name ≡ false)
    (plain : is_special (record { name = id.name; desc = id.desc }) ≡ false) (super : List ℕ) (s : Class)
    (at_super : class_named (all_classes p.files) super ≡ Some s)
    (code : HasCode (all_classes p.files) super id.name id.desc) (n : ℕ) (o : ClassTree)
    (file : (let f = p.files in slice_get f.classes n ≡ Some o)) (on : OnLine (all_classes p.files) super (declared n o))
    (i : ℕ) (y : WorldMember) (there : slice_get (declared n o).methods i ≡ Some y) (has_name : y.name ≡ id.name)
    (has_desc : y.desc ≡ id.desc) (may : is_selectable y.flags ≡ true) (hidden : is_package_visible y.flags ≡ true)
  where
    abbrev files : List Files
    files = files_of members

    abbrev w : List Class
    w = joint_world files

    abbrev v : List Class
    v = all_classes p.files

    abbrev home : List ℕ
    home = let f = p.files in f.package_name

    abbrev b : ℕ
    b = before files q

    are_apart : AreApart files
    are_apart = apart files is.sound

    solid : IsSolid p.files
    solid = solid_at members is q p at

    order : IsOrdered v
    order = solid.ordered

    single : (x : List ℕ) (c : Class) → class_named v x ≡ Some c → c.is_imported ≡ false → (z : List ℕ)
        × (c.supers ≡ z ∷ [])
    single = single_here members is q p at id plain

    abbrev any : Class → Option Found
    any = own_method false id.name id.desc

    abbrev selecting : Class → Option Found
    selecting = own_method true id.name id.desc

    abbrev unseen : Class → Option Found
    unseen = own_within home id.name id.desc

    top : HasStanding files q p.files super s
    top = class_stands files (ordered_together members is) q p.files (files_at members q p at) super s at_super

    below_stays : (x z : List ℕ) → Below v x z → Below w x z
    below_stays x z way = ⊎_elim (λ same. inl same) (λ far. inr (above_stays files are_apart is.outside (imports_told
        members is) q p.files (files_at members q p at) x z far)) way

    itself : receiver super ≡ super
    itself = let c = top in receiver_class super (plain_together members is super c.class c.named)

    -- ---- the code

    found_selecting : first selecting (line v super) ≡ Some code.place
    unfolding selected
    found_selecting = ap (λ z. first selecting (line v z)) (sym (receiver_class super (solid.plain super s at_super)))
        ∙ code.found

    own_selecting : (f : Found) × (selecting (declared n o) ≡ Some f)
    own_selecting = own_is true id.name id.desc (declared n o) i y there may (called_by id.name id.desc y has_name has_desc)

    near : IsNearest v selecting super (declared n o)
    near = let f = own_selecting in nearest v order single selecting super (declared n o) on refl f.0 f.1

    abbrev d : Class
    d = near.class

    named_d : class_named v d.name ≡ Some d
    named_d = line_named v super d near.on

    mine_d : d.is_imported ≡ false
    mine_d = low v order single d.name d (declared n o) named_d near.above refl

    has_code : selecting d ≡ Some code.place
    has_code = near.has ∙ sym near.found ∙ found_selecting

    at_d : IsAt true id.name id.desc d code.place
    at_d = own_at true id.name id.desc d code.place has_code

    bare : (let a = at_d in let m = a.member in is_abstract m.flags) ≡ false
    bare =
        let a = at_d in
        let m = a.member in
        let hit : code.hit ≡ record { owner = d; flags = m.flags } = same_hit (sym code.is_hit ∙ ap (method_hit v) a.is
        ∙ hit_is v d a.place m (solid.numbered d.name d named_d) a.is_member) in
        sym (ap (λ (h : ResolvedMember). is_abstract h.flags) hit) ∙ code.is_concrete

    -- in the joint world the search for it ends at the same method
    found_unseen : first unseen (line w super) ≡ Some (found_in b code.place)
    found_unseen =
        let f = own_selecting in
        let a = at_d in
        let found = alike v order single unseen selecting (asks_alike members is q p at id initial plain) super
        (declared n o) on refl f.0 (selects_here members is q p at id initial plain n n o file ∙ f.1) ∙ found_selecting in
        found_together files (ordered_together members is) q p.files (files_at members q p at) unseen
        (within_moves home id.name id.desc) (within_tells home id.name id.desc) super s at_super code.place found
        (ap (λ (g : Found). g.imported) a.is ∙ mine_d)

    -- What it reaches.
    record IsReachedAbove (event : List ℕ) : Type 0 where
      callee : Callee
      reaches : callee_at (joint files) event id (found_in b code.place) ≡ Some callee
      class : List ℕ
      is_reached : IsReachedOf members is id true class callee
      below : Below w super class
      open_name : starts 91 class ≡ false

    reach : (event : List ℕ) → IsReachedAbove event
    reach event = by d (filed p.files d.name d named_d) near.on named_d mine_d at_d bare
      where
        by : (c : Class) → IsFiled p.files c → OnLine v super c → class_named v c.name ≡ Some c → c.is_imported ≡ false
            → (a : IsAt true id.name id.desc c code.place) → is_abstract (let m = a.member in m.flags) ≡ false
            → IsReachedAbove event
        by _ (in_export_file k e there_e) on_c named mine a no_code = absurd (clash mine)
        by _ (in_class_file k t file_t) on_c named mine a no_code =
            let it : InFile members id = record {
              part = q;
              member = p;
              at = at;
              number = k;
              class = t;
              file = file_t;
              place = a.place;
              method = a.member;
              is_method = a.is_member;
              has_name = a.has_name;
              has_desc = a.has_desc;
            } in
            let to = code_reached members is id it initial true (no_static (let m = a.member in m.flags) a.wanted) no_code
            event in
            record {
              callee = to.0;
              reaches = ap (λ (g : Found). callee_at (joint files) event id (found_in b g)) a.is ∙ to.1;
              class = t.name;
              is_reached = to.2;
              below = below_stays super t.name (line_below v super (declared k t) on_c);
              open_name = solid.plain t.name (declared k t) named;
            }

    abbrev event : List ℕ
    event = first_imported (line w (receiver super))

    reached : IsReachedAbove event
    reached = reach event

    selected_so : (met : ResolvedMember) → is_package_visible met.flags ≡ true
        → package_of (let c = met.owner in c.name) ≡ home
        → selected_together files met super id ≡ Some (let r = reached in r.callee)
    selected_so met unseen_one of_home =
        let r = reached in
        let selects : selection_for w met super id ≡ Some (found_in b code.place) = ap (λ k. let owner = met.owner in if k
        then first (own_within (package_of owner.name) id.name id.desc) (line w (receiver super))
        else first (own_where is_open id.name id.desc) (line w (receiver super))) unseen_one
        ∙ ap (λ z. first (own_within z id.name id.desc) (line w (receiver super))) of_home
        ∙ ap (λ z. first unseen (line w z)) itself ∙ found_unseen in
        ap (option_and_then (λ k. callee_at (joint files) event id k)) selects ∙ r.reaches

    -- ---- what a look-up finds

    own_any : (f : Found) × (any (declared n o) ≡ Some f)
    own_any = own_is false id.name id.desc (declared n o) i y there refl (called_by id.name id.desc y has_name has_desc)

    first_any : IsNearest v any super (declared n o)
    first_any = let f = own_any in nearest v order single any super (declared n o) on refl f.0 f.1

    -- it is a package-visible method of the package
    unseen_too : (k : ℕ) (t : ClassTree) → (let f = p.files in slice_get f.classes k ≡ Some t)
        → OnLine v t.name (declared n o) → (j : ℕ) (z : WorldMember) → slice_get (declared k t).methods j ≡ Some z
        → z.name ≡ id.name → z.desc ≡ id.desc → is_package_visible z.flags ≡ true
    unseen_too k t file_t higher j z at_z z_name z_desc =
        visible members is q p at id initial plain n o file i y there has_name has_desc may hidden k t file_t higher j z at_z
        z_name z_desc (⊎_elim same_class far (same_or_above v (declared k t) (declared n o) named_t higher))
      where
        named_t : class_named v t.name ≡ Some (declared k t)
        named_t = named_here members is q p at k t file_t

        same_class : declared k t ≡ declared n o → is_selectable z.flags ≡ true
        same_class one =
            let both = one_named members is q p at id plain (declared k t) named_t (record {
              place = j;
              method = z;
              there = at_z;
              has_name = z_name;
              has_desc = z_desc;
            }) (record {
              place = i;
              method = y;
              there = ap (λ (c : Class). slice_get c.methods i) one ∙ there;
              has_name = has_name;
              has_desc = has_desc;
            }) in
            ap (λ (m : WorldMember). is_selectable m.flags) both ∙ may

        far : (r : List ℕ) × Lists r (declared k t).supers × OnLine v r (declared n o) → is_selectable z.flags ≡ true
        far r =
            let one = is.each q p at in
            let whole = one.whole in
            let u = whole.unbroken in
            let signed = signed_so z id.name id.desc z_name z_desc in
            all_kinds one.list p.files one.codes one.settings u.checks order.acyclic t.name r.0 (declared k t)
            (declared n o) z y named_t refl r.1 r.2 (in_methods (declared k t).methods j z at_z)
            (in_methods (declared n o).methods i y there) (signed ∙ sym (signed_so y id.name id.desc has_name has_desc))
            (ap is_special signed ∙ plain) may

    -- What the joint world has for it.
    record IsUnseenHit (hit : ResolvedMember) : Type 0 where
      there_met : Found
      met : ResolvedMember
      stands : joint_method w hit.owner id ≡ Some there_met
      is_met : method_hit w there_met ≡ Some met
      unseen_one : is_package_visible met.flags ≡ true
      of_home : package_of (let c = met.owner in c.name) ≡ home

    abbrev found_place : Found
    found_place = first_any.place

    unseen_hit : (c : Class) → IsFiled p.files c → class_named v c.name ≡ Some c → c.is_imported ≡ false
        → OnLine v c.name (declared n o) → any c ≡ Some found_place → (a : IsAt false id.name id.desc c found_place)
        → IsUnseenHit (record { owner = c; flags = (let m = a.member in m.flags) })
    unseen_hit _ (in_export_file k e there_e) named mine higher own a = absurd (clash mine)
    unseen_hit _ (in_class_file k t file_t) named mine higher own a =
        let m = a.member in
        let hit : ResolvedMember = record { owner = declared k t; flags = m.flags } in
        let is_hit : method_hit v found_place ≡ Some hit = ap (method_hit v) a.is ∙ hit_is v (declared k t) a.place m
        (solid.numbered t.name (declared k t) named) a.is_member in
        let x = own_met members is q p at id initial found_place hit is_hit k t file_t own a refl in
        record {
          there_met = found_there x.it;
          met = record { owner = class_there x.it; flags = (let u = x.it in let z = u.method in z.flags) };
          stands = x.stands;
          is_met = hit_there members is id x.it;
          unseen_one = ap is_package_visible x.has_flags ∙ unseen_too k t file_t higher a.place m a.is_member a.has_name
              a.has_desc;
          of_home = ap package_of x.same_class ∙ package_is home t.name (are_apart.own q k p.files t (own_here members is
              q p at k t file_t));
        }

    -- ---- both

    pub hidden_above : (met : ResolvedMember) → is_package_visible met.flags ≡ true
        → package_of (let c = met.owner in c.name) ≡ home → IsAbove members is p id super met
    hidden_above met unseen_one of_home =
        let r = reached in
        let g = first_any in
        let c = g.class in
        let named = line_named v super c g.on in
        let a = own_at false id.name id.desc c found_place g.has in
        let mine = low v order single c.name c (declared n o) named g.above refl in
        let x = unseen_hit c (filed p.files c.name c named) named mine g.above g.has a in
        record {
          callee = r.callee;
          selects = selected_so met unseen_one of_home;
          looks_up = looked_up members is q p at id super (record {
            place = found_place;
            found = g.found;
            hit = record { owner = c; flags = (let m = a.member in m.flags) };
            is_hit = ap (method_hit v) a.is ∙ hit_is v c a.place a.member (solid.numbered c.name c named) a.is_member;
            there = x.there_met;
            met = x.met;
            stands = x.stands;
            is_met = x.is_met;
          }) r.callee (selected_so x.met x.unseen_one x.of_home);
          class = r.class;
          is_reached = r.is_reached;
          below = r.below;
          open_name = r.open_name;
        }
