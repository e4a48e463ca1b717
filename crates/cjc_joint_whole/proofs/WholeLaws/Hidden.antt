-- Package-visible methods of class files, selected in the joint world on a class below: the search passes over the
-- classes of other packages, and ends at a method with code. On a class of the same package it is what the package's own
-- world selects, which has code (307); on one of another package the superclasses of its own package implement it (735).
use Rattle.std.proofs.Common.{◌≡◌, ℕ, ◌+◌, zero, suc, refl, sym, ap, subst, ◌∙◌, arith, Bool, true, false, List, [], ◌∷◌}
use Rattle.std.proofs.Common.{length, Option, Some, None, inr, ⊎_elim}
use Rattle.std.specs.Prelude.{◌&&◌, ◌||◌, not, option_map, slice_get, if◌then◌else◌}
use Rattle.std.specs.Str.{bytes_eq}
use Rattle.cjc_bytes.specs.AccessFlags.{is_abstract, is_interface, is_private, is_static}
use Rattle.cjc_bytes.specs.declared.fault.MemberId.{MemberId}
use Rattle.cjc_bytes.proofs.Bools.{true_not_false, true_or_false}
use Rattle.cjc_bytes.proofs.Lists.{bytes_true, name_is}
use Rattle.cjc_bytes.proofs.Numbers.{same_place, some_same}
use Rattle.cjc_jvm_semantics.specs.Group.{is_exposed, is_package_visible, own_where, own_within, package_of}
use Rattle.cjc_jvm_semantics.specs.OnePackage.{ResolvedMember, is_initialiser, method_hit}
use Rattle.cjc_tokens.specs.Members.{In, Signature, all_methods, first_of, later, signature_of}
use Rattle.cjc_vtable.specs.Calls.{is_clash, is_special}
use Rattle.cjc_world.specs.ClassFile.declared.tree.ClassTree.{ClassTree}
use Rattle.cjc_world.specs.Classes.{Class, Member as WorldMember, all_classes, class_named, declared, imported}
use Rattle.cjc_world.specs.Classes.{method_of_class}
use Rattle.cjc_world.specs.Files.{Files}
use Rattle.cjc_world.specs.Lookup.{first, is_called, is_selectable, own_method}
use Rattle.cjc_world.specs.Supertypes.{AreSupertypes, Lists, foremost, line, supertypes, upwards}
use Rattle.cjc_world.specs.Upwards.{IsOrdered, OnLine, here, up}
use Rattle.cjc_world.specs.declared.found.Found.{Found}
use Rattle.cjc_world.proofs.Cycles.{class_named-name}
use Rattle.cjc_world.proofs.Settled.{supertypes-AreSupertypes}
use Rattle.cjc_world.proofs.UpwardLaws.Lines.{below_abroad, line_below, line_listed, line_named}
use Rattle.cjc_shape_proof.specs.WorldProof.Calls.Solid.{IsSolid}
use Rattle.cjc_shape_proof.specs.WorldProof.Calls.Targets.{IsReceiver}
use Rattle.cjc_theorem.proofs.AlikeLaws.VirtualCalls.Chosen.{has_methods}
use Rattle.cjc_token_proof.proofs.WorldProofOwn.{IsAt, hit_is, mapped_at, own_at, own_is}
use Rattle.cjc_token_proof.proofs.WorldProofSelects.{IsSelected, called_by, selected_whole}
use Rattle.cjc_joint_proof.specs.Worlds.{AreApart, IsOwn, before, found_in, hit_in, own_member}
use Rattle.cjc_joint_proof.proofs.MemberLaws.{method_hit_moves}
use Rattle.cjc_joint_proof.proofs.PackageNames.{package_is}
use Rattle.cjc_joint_proof.proofs.SoundLaws.{apart, listed}
use Rattle.cjc_joint_theorem.specs.Members.{Member, files_of}
use Rattle.cjc_joint_theorem.specs.Together.Homes.{joint_world}
use Rattle.cjc_joint_theorem.proofs.MembersLaws.Worlds.{files_at, member_at as member_of_files}
use Rattle.cjc_joint_theorem.proofs.OrderedLaws.Ordered.{IsJoint, joint_class, ordered, outside_file, own_file}
use Rattle.cjc_joint_theorem.proofs.OrderedLaws.Ordered.{super_there}
use Rattle.cjc_joint_theorem.proofs.OrderedLaws.Selected.{found_together, within_moves, within_tells}
use Rattle.cjc_joint_theorem.proofs.OrderedLaws.Standing.{HasStanding, Stands, class_stands, from_outside, of_member}
use Rattle.cjc_joint_theorem.proofs.OrderedLaws.Standing.{own_class}
use Rattle.cjc_joint_whole.specs.Whole.{AreWholeWith}
use Rattle.cjc_joint_whole.proofs.WholeLaws.Coded.{InFile, class_there, found_there, hit_there}
use Rattle.cjc_joint_whole.proofs.WholeLaws.Descends.{descends}
use Rattle.cjc_joint_whole.proofs.WholeLaws.Exposed.{named_here, own_here}
use Rattle.cjc_joint_whole.proofs.WholeLaws.Members.{ordered_together}
use Rattle.cjc_joint_whole.proofs.WholeLaws.Nearest.{IsNearest, alike, line_ground, low, nearest, only}
use Rattle.cjc_joint_whole.proofs.WholeLaws.Opened.{once_called, selects_at}
use Rattle.cjc_joint_whole.proofs.WholeLaws.Shown.{IsWhere, called_parts, where_at}
use Rattle.cjc_joint_whole.proofs.WholeLaws.Solid.{solid_at}

-- ---- methods of a list

-- a method at a place stands in the list
pub in_methods : (ms : List WorldMember) (i : ℕ) (m : WorldMember) → slice_get ms i ≡ Some m → In m ms
in_methods [] i m e = absurd cc
in_methods (n ∷ ms) zero m e = let same : n ≡ m = cc in subst (λ (k : WorldMember). In k (n ∷ ms)) same first_of
in_methods (n ∷ ms) (suc i) m e = later (in_methods ms i m e)

-- a place in a class of a number, imported or not
abbrev placed : (imported : Bool) → (class member : ℕ) → Found
placed imported class member = record { imported = imported; class = class; member = member }

abbrev pub signed : (name desc : List ℕ) → Signature
signed name desc = record { name = name; desc = desc }

pub signed_so : (m : WorldMember) (name desc : List ℕ) → m.name ≡ name → m.desc ≡ desc → signature_of m
    ≡ signed name desc
signed_so m name desc e f = ap (λ (n : List ℕ). signed n m.desc) e ∙ ap (λ (n : List ℕ). signed name n) f

-- what can be selected and does not clash with a package-visible method is package-visible
unseen_too : (mine inherited : ℕ) → is_selectable mine ≡ true → is_package_visible inherited ≡ true → is_clash mine
    inherited ≡ false → is_package_visible mine ≡ true
unseen_too mine inherited e f g = by (is_exposed mine) (is_private mine) (is_static mine) (is_exposed inherited)
    (is_private inherited) e f g
  where
    by : (x p t u q : Bool) → (not p && not t) ≡ true → (not u && not q) ≡ true → (((not x && not p) && u)
        || (x && (not u && not q))) ≡ false → (not x && not p) ≡ true
    by false false t u q e f g = refl
    by true p t false false e f g = absurd cc
    by true p t false true e f g = absurd cc
    by true p t true q e f g = absurd cc
    by false true t u q e f g = absurd cc

same_class : {c d : Class} → Some c ≡ Some d → c ≡ d
same_class e = cc

same_place_found : {f g : Found} → Some f ≡ Some g → f ≡ g
same_place_found e = cc

same_files : {f g : Files} → Some f ≡ Some g → f ≡ g
same_files e = cc

same_member : {m n : WorldMember} → Some m ≡ Some n → m ≡ n
same_member e = cc

same_flags : {a b : ResolvedMember} → Some a ≡ Some b → a.flags ≡ b.flags
same_flags e = cc

-- What the search for a package-visible method of a package gives on a class: one of a class file, with code.
pub record IsUnseen (members : List Member) (home : List ℕ) (id : MemberId) (x : List ℕ) : Type 0 where
  pub it : InFile members id
  pub found : first (own_within home id.name id.desc) (line (joint_world (files_of members)) x)
      ≡ Some (found_there it)
  pub on : OnLine (joint_world (files_of members)) x (class_there it)
  pub selectable : is_selectable (let q = it in let m = q.method in m.flags) ≡ true
  pub concrete : is_abstract (let q = it in let m = q.method in m.flags) ≡ false

module _ {K : _} (members : List Member) (is : AreWholeWith K members) where
  abbrev group : List Files
  group = files_of members

  abbrev w : List Class
  w = joint_world group

  order : IsOrdered w
  order = ordered group (ordered_together members is)

  are_apart : AreApart group
  are_apart = apart group is.sound

  -- a class file names one superclass
  pub single_there : (x : List ℕ) (c : Class) → class_named w x ≡ Some c → c.is_imported ≡ false → (s : List ℕ)
      × (c.supers ≡ s ∷ [])
  single_there x c named = by (joint_class group x c named)
    where
      by : {c : Class} → IsJoint group c → c.is_imported ≡ false → (s : List ℕ) × (c.supers ≡ s ∷ [])
      by (own_file q k p t own) mine = (t.superclass, refl)
      by (outside_file n e at) mine = absurd cc

  module _ (r : ℕ) (o : Member) (at : slice_get members r ≡ Some o) where
    abbrev v : List Class
    v = all_classes o.files

    abbrev b : ℕ
    b = before group r

    solid : IsSolid o.files
    solid = solid_at members is r o at

    member_is : slice_get group r ≡ Some o.files
    member_is = files_at members r o at

    order_here : IsOrdered v
    order_here = solid.ordered

    single_here : (x : List ℕ) (c : Class) → class_named v x ≡ Some c → c.is_imported ≡ false → (s : List ℕ)
        × (c.supers ≡ s ∷ [])
    single_here x c named mine =
        let t = solid.own x c named mine in
        ((let k = t.0 in k.superclass), ap (λ (d : Class). d.supers) t.2)

    -- a class file of the package on the line of one of its classes stands there in its own world too
    pub line_back : (n : ℕ) (a : ClassTree) → (let f = o.files in slice_get f.classes n ≡ Some a) → (x : List ℕ)
        (d : Class) → OnLine w x d → d ≡ declared (b + n) a → (c : Class) → class_named v x ≡ Some c
        → is_interface c.flags ≡ false → OnLine v x (declared n a)
    line_back n a file x d (here e) same c named ground =
        let name : a.name ≡ x = ap (λ (k : Class). k.name) (sym same) ∙ class_named-name w x d e in
        here (ap (class_named v) (sym name) ∙ named_here members is r o at n a file)
    line_back n a file x d (up {s = s} e f l rest) same c named ground =
        by c h.class h.stands named ground h.named (λ k g plain. line_back n a file s d rest same k g plain)
      where
        h : HasStanding group r o.files x c
        h = class_stands group (ordered_together members is) r o.files member_is x c named

        on_all : OnLine w x d
        on_all = up e f l rest

        by : (c k : Class) → Stands group r o.files c k → class_named v x ≡ Some c → is_interface c.flags ≡ false
            → class_named w x ≡ Some k → ((g : Class) → class_named v s ≡ Some g → is_interface g.flags ≡ false
            → OnLine v s (declared n a)) → OnLine v x (declared n a)
        by _ _ (own_class i t own) named ground there more =
            let is_t : e ≡ declared (b + i) t = same_class (sym f ∙ there) in
            let listed_one : Lists s (t.superclass ∷ []) = subst (λ (u : Class). Lists s u.supers) is_t l in
            let super : s ≡ t.superclass = only s t.superclass listed_one in
            let one = super_there group (ordered_together members is) r i o.files t own t.superclass foremost in
            let on = more one.0 (ap (class_named v) super ∙ one.1) (order_here.supers x t.superclass (declared i t)
            one.0 named foremost one.1) in
            up (declared i t) named listed_one on
        by _ _ (of_member i y j k m t less own name kind) named ground there more =
            let from = member_of_files members j m own.member in
            let g = from.0 in
            let its_file : (let f = g.files in slice_get f.classes k ≡ Some t) = ap (λ (f : Files). slice_get f.classes
            k) from.2 ∙ own.file in
            let its_name : t.name ≡ x = class_named-name w x (declared (before group j + k) t) there in
            let on : OnLine w t.name (declared (b + n) a) = subst (λ z. OnLine w z (declared (b + n) a)) (sym its_name)
            (subst (OnLine w x) same on_all) in
            let le = descends members is j g from.1 t.name (declared k t) (named_here members is j g from.1 k t
            its_file) (kind.interface ∙ ground) r n o.files a (own_here members is r o at n a file) on in
            absurd (omega (arith, le, less))
        by _ _ (from_outside i k y kept) named ground there more =
            absurd (true_not_false d.is_imported (below_abroad w order x d.name (imported k y) d (line_below w x d
            on_all) there refl (line_named w x d on_all)) (ap (λ (u : Class). u.is_imported) same))

    module _ (id : MemberId) (initial : is_initialiser id.name ≡ false)
        (plain : is_special (record { name = id.name; desc = id.desc }) ≡ false) where
      abbrev home : List ℕ
      home = let f = o.files in f.package_name

      abbrev unseen : Class → Option Found
      unseen = own_within home id.name id.desc

      abbrev selecting : Class → Option Found
      selecting = own_method true id.name id.desc

      one_search : (c : Class) → selecting c ≡ own_where is_selectable id.name id.desc c
      unfolding own_method
      one_search c = refl

      -- ---- what is asked of the package's class files

      unseen_here : (m k : ℕ) (t : ClassTree) → (let f = o.files in slice_get f.classes k ≡ Some t)
          → unseen (declared m t) ≡ own_where is_selectable id.name id.desc (declared m t)
      unseen_here m k t file = ap (λ q. if q then own_where is_selectable id.name id.desc (declared m t) else None)
          (ap (λ y. bytes_eq y home) (package_is home t.name (are_apart.own r k o.files t (own_here members is r o at k
          t file))) ∙ name_is home)

      pub selects_here : (m k : ℕ) (t : ClassTree) → (let f = o.files in slice_get f.classes k ≡ Some t)
          → unseen (declared m t) ≡ selecting (declared m t)
      selects_here m k t file = unseen_here m k t file ∙ sym (one_search (declared m t))

      pub asks_alike : (c : Class) → class_named v c.name ≡ Some c → c.is_imported ≡ false → unseen c ≡ selecting c
      asks_alike c named mine =
          let t = solid.own c.name c named mine in
          subst (λ (d : Class). unseen d ≡ selecting d) (sym t.2) (selects_here c.number c.number t.0 t.1)

      -- A class file of the package.
      record IsHomeFile (d : Class) : Type 0 where
        number : ℕ
        class : ClassTree
        file : (let f = o.files in slice_get f.classes number ≡ Some class)
        same_tree : d ≡ declared (b + number) class

      home_file : (d : Class) → IsJoint group d → (f : Found) → unseen d ≡ Some f → d.is_imported ≡ false
          → IsHomeFile d
      home_file _ (own_file q k p t own) f has mine = by (bytes_eq (package_of t.name) home) refl has
        where
          by : (a : Bool) → bytes_eq (package_of t.name) home ≡ a → (if a
              then own_where is_selectable id.name id.desc (declared (before group q + k) t) else None) ≡ Some f
              → IsHomeFile (declared (before group q + k) t)
          by false e has = absurd cc
          by true e has =
              let name : p.package_name ≡ home = sym (package_is p.package_name t.name (are_apart.own q k p t own))
              ∙ bytes_true (package_of t.name) home e in
              let one : q ≡ r = are_apart.names q r p o.files own.member member_is name in
              let same : p ≡ o.files = same_files (sym own.member ∙ ap (slice_get group) one ∙ member_is) in
              record {
                number = k;
                class = t;
                file = ap (λ (f : Files). slice_get f.classes k) (sym same) ∙ own.file;
                same_tree = ap (λ z. declared (before group z + k) t) one;
              }
      home_file _ (outside_file n e kept) f has mine = absurd cc

      -- ---- on a class of the package (307)

      -- what the package's own world selects below a method that can be selected has code
      code_here : (x : List ℕ) (c : Class) → class_named v x ≡ Some c → is_interface c.flags ≡ false
          → is_abstract c.flags ≡ false → (k : ℕ) (t : ClassTree) → (let f = o.files in slice_get f.classes k ≡ Some t)
          → OnLine w x (declared (b + k) t) → (j : ℕ) (z : WorldMember) → slice_get (declared k t).methods j ≡ Some z
          → is_selectable z.flags ≡ true → is_called id.name id.desc z ≡ true → (f : Found) → first unseen (line w x)
          ≡ Some f → (h : ResolvedMember) → method_hit w f ≡ Some h → is_abstract h.flags ≡ false
      code_here x c named ground made k t file on_w j z there may called f found h told =
          ap is_abstract flags ∙ bare
        where
          on_v : OnLine v x (declared k t)
          on_v = line_back k t file x (declared (b + k) t) on_w refl c named ground

          own : (g : Found) × (selecting (declared k t) ≡ Some g)
          own = own_is true id.name id.desc (declared k t) j z there may called

          near : IsNearest v selecting x (declared k t)
          near = nearest v order_here single_here selecting x (declared k t) on_v refl own.0 own.1

          d : Class
          d = near.class

          own_class_file : d.is_imported ≡ false
          own_class_file = low v order_here single_here d.name d (declared k t) (line_named v x d near.on) near.above
              refl

          at_near : IsAt true id.name id.desc d near.place
          at_near = own_at true id.name id.desc d near.place near.has

          mine : (let g = near.place in g.imported) ≡ false
          mine = ap (λ (g : Found). g.imported) at_near.is ∙ own_class_file

          found_here : first unseen (line v x) ≡ Some near.place
          found_here = alike v order_here single_here unseen selecting asks_alike x (declared k t) on_v refl own.0
              (selects_here k k t file ∙ own.1) ∙ near.found

          is_f : f ≡ found_in b near.place
          is_f = same_place_found (sym found ∙ found_together group (ordered_together members is) r o.files member_is
              unseen (within_moves home id.name id.desc) (within_tells home id.name id.desc) x c named near.place
              found_here mine)

          receiver_here : IsReceiver v x
          receiver_here = record { class = c; named = named; no_interface = ground; made = inr made }

          s : IsSelected o.files solid x id
          s = selected_whole o.files solid x receiver_here id initial near.place near.found

          owner : Class
          owner = s.owner

          at_owner : IsAt true id.name id.desc owner s.place
          at_owner = s.at

          one_place : s.place ≡ near.place
          one_place = same_place_found (sym s.found ∙ near.found)

          owner_here : owner.is_imported ≡ false
          owner_here = sym (ap (λ (g : Found). g.imported) at_owner.is) ∙ ap (λ (g : Found). g.imported) one_place
              ∙ mine

          bare : is_abstract (let m = at_owner.member in m.flags) ≡ false
          bare = ⊎_elim (λ imp. absurd (true_not_false owner.is_imported imp owner_here)) (λ e. e) s.whole

          named_owner : class_named v owner.name ≡ Some owner
          named_owner = line_named v x owner s.on

          tree : (u : ClassTree) × (let f = o.files in slice_get f.classes owner.number ≡ Some u)
              × (owner ≡ declared owner.number u)
          tree = solid.own owner.name owner named_owner owner_here

          own_tree_here : IsOwn group r owner.number o.files tree.0
          own_tree_here = own_here members is r o at owner.number tree.0 tree.1

          at_number : s.place ≡ own_member owner.number (length owner.fields + at_owner.place)
          at_number = at_owner.is ∙ ap (λ q. placed q owner.number (length owner.fields + at_owner.place)) owner_here

          moved : method_hit w (found_in b s.place) ≡ option_map (hit_in b) (method_hit v s.place)
          moved = ap (λ (g : Found). method_hit w (found_in b g)) at_number
              ∙ method_hit_moves group r owner.number o.files tree.0 own_tree_here (listed group is.sound r owner.number
              o.files tree.0 own_tree_here) (length owner.fields + at_owner.place)
              ∙ ap (λ (g : Found). option_map (hit_in b) (method_hit v g)) (sym at_number)

          hit_here : method_hit v s.place ≡ Some (record { owner = owner; flags = (let m = at_owner.member in m.flags) })
          hit_here = ap (method_hit v) at_owner.is ∙ hit_is v owner at_owner.place at_owner.member
              (solid.numbered owner.name owner named_owner) at_owner.is_member

          flags : h.flags ≡ (let m = at_owner.member in m.flags)
          flags = same_flags (sym told ∙ ap (method_hit w) (is_f ∙ ap (found_in b) (sym one_place)) ∙ moved
              ∙ ap (option_map (hit_in b)) hit_here)

      -- ---- below a package-visible method

      module _ (n : ℕ) (a : ClassTree) (file : (let f = o.files in slice_get f.classes n ≡ Some a)) (i : ℕ)
          (y : WorldMember) (there : slice_get (declared n a).methods i ≡ Some y) (name : y.name ≡ id.name)
          (desc : y.desc ≡ id.desc) (may : is_selectable y.flags ≡ true)
          (hidden : is_package_visible y.flags ≡ true) where
        abbrev a_there : Class
        a_there = declared (b + n) a

        own_there : (g : Found) × (unseen a_there ≡ Some g)
        own_there =
            let one = own_is true id.name id.desc a_there i y there may (called_by id.name id.desc y name desc) in
            (one.0, selects_here (b + n) n a file ∙ one.1)

        -- a method of a class of the package at or below it that can be selected is package-visible too (305)
        pub visible : (k : ℕ) (t : ClassTree) → (let f = o.files in slice_get f.classes k ≡ Some t)
            → OnLine v t.name (declared n a) → (j : ℕ) (z : WorldMember) → slice_get (declared k t).methods j ≡ Some z
            → z.name ≡ id.name → z.desc ≡ id.desc → is_selectable z.flags ≡ true → is_package_visible z.flags ≡ true
        visible k t tree on j z at_z z_name z_desc z_may = go t.name (declared n a) on refl refl
          where
            named_t : class_named v t.name ≡ Some (declared k t)
            named_t = named_here members is r o at k t tree

            go : (x : List ℕ) (d : Class) → OnLine v x d → x ≡ t.name → d ≡ declared n a → is_package_visible z.flags
                ≡ true
            go x d (here e) same one =
                let is_t : declared k t ≡ declared n a = same_class (sym named_t ∙ ap (class_named v) (sym same) ∙ e)
                ∙ one in
                let there_too : slice_get (declared n a).methods j ≡ Some z = ap (λ (c : Class). slice_get c.methods j)
                (sym is_t) ∙ at_z in
                let named_a = named_here members is r o at n a file in
                let first_y = once_called members is r o at a.name (declared n a) named_a i y there id.name id.desc name
                desc in
                let first_z = once_called members is r o at a.name (declared n a) named_a j z there_too id.name id.desc
                z_name z_desc in
                let places : i ≡ j = some_same i j (sym first_y ∙ first_z) in
                let both : y ≡ z = same_member (sym there ∙ ap (slice_get (declared n a).methods) places ∙ there_too) in
                subst (λ (m : WorldMember). is_package_visible m.flags ≡ true) both hidden
            go x d (up {s = s} c e l rest) same one =
                let is_t : c ≡ declared k t = same_class (sym e ∙ ap (class_named v) same ∙ named_t) in
                let by_rules = selects_at members is r o at in
                let rules = by_rules.rules in
                let are : AreSupertypes v (t.superclass ∷ []) (supertypes v (t.superclass ∷ [])) =
                supertypes-AreSupertypes v by_rules.acyclic (t.superclass ∷ []) in
                let stands = line_listed v s (t.superclass ∷ []) (supertypes v (t.superclass ∷ [])) (declared n a) are
                (subst (λ (u : Class). Lists s u.supers) is_t l) (subst (OnLine v s) one rest) in
                let above : In y (all_methods (upwards (supertypes v (t.superclass ∷ [])))) =
                has_methods (declared n a) (upwards (supertypes v (t.superclass ∷ []))) y stands
                (in_methods (declared n a).methods i y there) in
                let z_signed = signed_so z id.name id.desc z_name z_desc in
                let clash = rules.access t.name (declared k t) z y named_t refl
                (in_methods (declared k t).methods j z at_z) above
                (z_signed ∙ sym (signed_so y id.name id.desc name desc)) (ap is_special z_signed ∙ plain) in
                unseen_too z.flags y.flags z_may hidden clash

        made : (x : List ℕ) → IsReceiver w x → (near : IsNearest w unseen x a_there) → IsHomeFile near.class
            → IsUnseen members home id x
        made x receiver_there near h =
            record { it = it; found = found_it; on = on_t; selectable = q.passing; concrete = concrete }
          where
            k : ℕ
            k = h.number

            t : ClassTree
            t = h.class

            t_there : Class
            t_there = declared (b + k) t

            has : unseen t_there ≡ Some near.place
            has = subst (λ (c : Class). unseen c ≡ Some near.place) h.same_tree near.has

            on_t : OnLine w x t_there
            on_t = subst (OnLine w x) h.same_tree near.on

            q : IsWhere is_selectable id.name id.desc t_there near.place
            q = where_at is_selectable id.name id.desc t_there near.place (sym (unseen_here (b + k) k t h.file) ∙ has)

            m : WorldMember
            m = q.method

            names : (m.name ≡ id.name) × (m.desc ≡ id.desc)
            names = called_parts id.name id.desc m q.called

            it : InFile members id
            it = record {
              part = r;
              member = o;
              at = at;
              number = k;
              class = t;
              file = h.file;
              place = q.place;
              method = m;
              is_method = q.there;
              has_name = names.0;
              has_desc = names.1;
            }

            found_it : first unseen (line w x) ≡ Some (found_there it)
            found_it = near.found ∙ ap Some q.is

            told : method_hit w near.place ≡ Some (record { owner = t_there; flags = m.flags })
            told = ap (method_hit w) q.is ∙ hit_there members is id it

            named_t : class_named v t.name ≡ Some (declared k t)
            named_t = named_here members is r o at k t h.file

            ground_t : is_interface t.flags ≡ false
            ground_t = line_ground w order single_there x t_there on_t receiver_there.class receiver_there.named
                receiver_there.no_interface

            seen : is_package_visible m.flags ≡ true
            seen = visible k t h.file (line_back n a file t.name a_there (subst (λ (c : Class). OnLine w c.name a_there)
                h.same_tree near.above) refl (declared k t) named_t ground_t) q.place m q.there names.0 names.1 q.passing

            of_package : (j l : ℕ) (p : Files) (u : ClassTree) → IsOwn group j l p u → class_named w x
                ≡ Some (declared (before group j + l) u) → is_interface u.flags ≡ false → is_abstract u.flags ≡ false
                → j ≡ r → is_abstract m.flags ≡ false
            of_package j l p u own named ground bare one =
                let same : p ≡ o.files = same_files (sym own.member ∙ ap (slice_get group) one ∙ member_is) in
                let file_u : (let f = o.files in slice_get f.classes l ≡ Some u) = ap (λ (f : Files). slice_get
                f.classes l) (sym same) ∙ own.file in
                let name_u : u.name ≡ x = class_named-name w x (declared (before group j + l) u) named in
                code_here x (declared l u) (ap (class_named v) (sym name_u) ∙ named_here members is r o at l u file_u)
                ground bare k t h.file on_t q.place m q.there q.passing q.called near.place near.found (record {
                  owner = t_there;
                  flags = m.flags;
                }) told

            of_other : (j l : ℕ) (p : Files) (u : ClassTree) → IsOwn group j l p u → class_named w x
                ≡ Some (declared (before group j + l) u) → is_interface u.flags ≡ false → is_abstract u.flags ≡ false
                → (j ≡ r → ⊥) → is_abstract m.flags ≡ true → is_abstract m.flags ≡ false
            of_other j l p u own named ground bare other open_one =
                let name_u : u.name ≡ x = class_named-name w x (declared (before group j + l) u) named in
                let z = mapped_at method_of_class t.methods q.place m q.there in
                let tree = z.0 in
                let flags : tree.flags ≡ m.flags = ap (λ (g : WorldMember). g.flags) (sym z.2) in
                let tree_name : tree.name ≡ id.name = ap (λ (g : WorldMember). g.name) (sym z.2) ∙ names.0 in
                let tree_desc : tree.desc ≡ id.desc = ap (λ (g : WorldMember). g.desc) (sym z.2) ∙ names.1 in
                let code = is.implemented j r l k q.place p o.files u t tree own (own_here members is r o at k t h.file)
                other ground bare (subst (λ y. OnLine w y t_there) (sym name_u) on_t) z.1 (ap is_package_visible flags
                ∙ seen) (ap is_abstract flags ∙ open_one) in
                let found_code : first unseen (line w x) ≡ Some code.place = ap (λ y. first unseen (line w y))
                (sym name_u) ∙ ap (λ g. first (own_within home g id.desc) (line w u.name)) (sym tree_name)
                ∙ ap (λ g. first (own_within home tree.name g) (line w u.name)) (sym tree_desc) ∙ code.found in
                let same : m.flags ≡ (let g = code.hit in g.flags) = same_flags (sym told ∙ ap (method_hit w)
                (same_place_found (sym near.found ∙ found_code)) ∙ code.is_hit) in
                ap is_abstract same ∙ code.is_concrete

            by_class : {c : Class} → IsJoint group c → class_named w x ≡ Some c → c.is_imported ≡ false
                → is_interface c.flags ≡ false → is_abstract c.flags ≡ false → is_abstract m.flags ≡ false
            by_class (outside_file j e kept) named mine ground bare = absurd cc
            by_class (own_file j l p u own) named mine ground bare =
                ⊎_elim (of_package j l p u own named ground bare)
                (λ other. ⊎_elim (of_other j l p u own named ground bare other) (λ e. e)
                (true_or_false (is_abstract m.flags)))
                (same_place j r)

            concrete : is_abstract m.flags ≡ false
            concrete =
                let c = receiver_there.class in
                let mine = low w order single_there x c t_there receiver_there.named on_t refl in
                by_class (joint_class group x c receiver_there.named) receiver_there.named mine
                receiver_there.no_interface (⊎_elim (λ imp. absurd (true_not_false c.is_imported imp mine)) (λ e. e)
                receiver_there.made)

        -- what is selected below it
        pub hidden_selected : (x : List ℕ) → IsReceiver w x → OnLine w x a_there → IsUnseen members home id x
        hidden_selected x receiver_there on =
            let near = nearest w order single_there unseen x a_there on refl own_there.0 own_there.1 in
            let d = near.class in
            made x receiver_there near (home_file d (joint_class group d.name d (line_named w x d near.on)) near.place
            near.has (low w order single_there d.name d a_there (line_named w x d near.on) near.above refl))
