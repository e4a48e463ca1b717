-- What the joint world has for a public or protected method that a package finds in an interface of a package before: it
-- is of that interface or of one above it, since java/lang/Object has none of its name.
use Rattle.std.proofs.Common.{◌≡◌, ℕ, ◌+◌, refl, sym, ap, subst, ◌∙◌, true, false, length, List, [], ◌∷◌, ◌++◌, Option}
use Rattle.std.proofs.Common.{Some, None, inl, inr, ⊎_elim}
use Rattle.std.specs.Prelude.{◌&&◌, not, option_and_then, option_map, slice_get, if◌then◌else◌}
use Rattle.cjc_bytes.specs.AccessFlags.{is_interface}
use Rattle.cjc_bytes.specs.declared.fault.MemberId.{MemberId}
use Rattle.cjc_jvm_semantics.specs.Group.{find_exposed, is_exposed, is_open, joint_method, own_where}
use Rattle.cjc_jvm_semantics.specs.OnePackage.{ResolvedMember, is_constructor, is_initialiser, method_hit}
use Rattle.cjc_world.specs.Classes.{Class, Member as WorldMember, all_classes, class_named, declared, imported}
use Rattle.cjc_world.specs.ExportFile.declared.tree.ExportClass.{ExportClass}
use Rattle.cjc_world.specs.ExportFile.declared.tree.ExportTree.{ExportTree}
use Rattle.cjc_world.specs.Files.{Files}
use Rattle.cjc_world.specs.Interfaces.{gathered, known, where_listed}
use Rattle.cjc_world.specs.Lookup.{first, is_called, member_at, object, or_else, own_method}
use Rattle.cjc_world.specs.Supertypes.{Above, AreSupertypes, Lists, Supertypes, directly, known_here}
use Rattle.cjc_world.specs.Supertypes.{line, onwards, supertypes, unknown_here}
use Rattle.cjc_world.specs.Upwards.{Below, Has, IsOrdered, OnLine, here, up}
use Rattle.cjc_world.specs.declared.found.Found.{Found}
use Rattle.cjc_world.proofs.Cycles.{class_named-name}
use Rattle.cjc_world.proofs.Rising.{known-append}
use Rattle.cjc_world.proofs.Settled.{lists-front, supertypes-AreSupertypes}
use Rattle.cjc_world.proofs.Trees.{lists-split}
use Rattle.cjc_world.proofs.UpwardLaws.Lines.{first_has, first_some, gathered_above, gathered_has, has-back, has-front}
use Rattle.cjc_world.proofs.UpwardLaws.Lines.{in_line, line_begins, line_below, line_named, of_line}
use Rattle.cjc_token_proof.proofs.WorldProofOwn.{IsAt, hit_is, is_found}
use Rattle.cjc_token_proof.proofs.WorldProofSelects.{called_by}
use Rattle.cjc_joint_proof.specs.Worlds.{AreApart, before}
use Rattle.cjc_joint_proof.proofs.SoundLaws.{apart}
use Rattle.cjc_joint_proof.proofs.WorldLaws.{own_is_found}
use Rattle.cjc_joint_theorem.specs.Members.{Member, files_of}
use Rattle.cjc_joint_theorem.specs.Together.Homes.{joint_world}
use Rattle.cjc_joint_theorem.proofs.OrderedLaws.Ordered.{ordered}
use Rattle.cjc_joint_whole.specs.Told.{IsDeclaredAbove, IsOfKind, IsToldAbove}
use Rattle.cjc_joint_whole.specs.Whole.{AreWholeWith, IsWrittenFor}
use Rattle.cjc_joint_whole.proofs.WholeLaws.Asked.{of_root}
use Rattle.cjc_joint_whole.proofs.WholeLaws.Exposed.{own_here}
use Rattle.cjc_joint_whole.proofs.WholeLaws.HiddenStands.{no_static}
use Rattle.cjc_joint_whole.proofs.WholeLaws.Imports.{exported}
use Rattle.cjc_joint_whole.proofs.WholeLaws.Members.{ordered_together}
use Rattle.cjc_joint_whole.proofs.WholeLaws.Nearest.{only}
use Rattle.cjc_joint_whole.proofs.WholeLaws.OwnKept.{kept_at, no_initialiser}
use Rattle.cjc_joint_whole.proofs.WholeLaws.Shown.{IsWhere, called_parts, open_parts, search_from, where_at}
use Rattle.cjc_joint_whole.proofs.WholeLaws.Sources.{source}
use Rattle.cjc_joint_whole.proofs.WholeLaws.Standing.{IsMetOpen, numbered_there, seen_by}
use Rattle.cjc_joint_whole.proofs.WholeLaws.ToldKinds.{faces_open}

same_class : {c d : Class} → Some c ≡ Some d → c ≡ d
same_class e = cc

no_class : {c : Class} → None ≡ Some c → ⊥
no_class e = cc

module _ (w : List Class) (order : IsOrdered w) where
  -- java/lang/Object stands below no class
  pub top_alone : (d : Class) → OnLine w object d → class_named w object ≡ Some d
  top_alone d (here e) = e
  top_alone d (up {s = s} b e l rest) =
      let r = line_begins w s d rest in
      let o = order.rooted s r.0 r.1 (order.supers object s b r.0 e l r.1) in
      let name : (let k = o.0 in k.name) ≡ object = class_named-name w object o.0 o.1 in
      let below : Below w s object = subst (Below w s) name (line_below w s o.0 o.2) in
      let way = lists-front s b.supers b.interfaces l in
      absurd (order.acyclic object (⊎_elim (λ same. directly b e (subst (λ y. Lists y (b.supers ++ b.interfaces)) same
      way)) (λ far. onwards b e way far) below))

  -- what stands above the interfaces of an interface is gathered from it
  above_listed : (x : List ℕ) (c d : Class) → class_named w x ≡ Some c → (i : List ℕ) → Lists i c.interfaces
      → Below w i d.name → class_named w d.name ≡ Some d → is_interface d.flags ≡ true
      → Has d (known (gathered false (supertypes w (x ∷ []))))
  unfolding gathered known
  above_listed x c d named i l way named_d it = by (supertypes w (x ∷ [])) (supertypes-AreSupertypes w order.acyclic
      (x ∷ []))
    where
      by : (k : Supertypes) → AreSupertypes w (x ∷ []) k → Has d (known (gathered false k))
      by _ (unknown_here e n) = absurd (no_class (sym e ∙ named))
      by _ (known_here {c = b} {supers = s} {interfaces = j} {next = next} e sk ik n) =
          let same : c ≡ b = same_class (sym named ∙ e) in
          let has : Has d (known (gathered true j)) = gathered_has w order true i b.interfaces j d.name d ik
          (subst (λ (u : Class). Lists i u.interfaces) same l) way named_d it (λ v h. inl refl) in
          let S = gathered false s in
          let I = gathered true j in
          let self = where_listed false (record { name = b.name; class = Some b }) in
          subst (Has d) (sym (known-append (S ++ I ++ self) (gathered false next))) (has-front d (known (S ++ I ++ self))
          (known (gathered false next)) (subst (Has d) (sym (known-append (S ++ I) self)) (has-front d (known (S ++ I))
          (known self) (subst (Has d) (sym (known-append S I)) (has-back d (known S) (known I) has)))))

module _ {K : _} (members : List Member) (is : AreWholeWith K members) (tell : IsToldAbove members) (q : ℕ)
    (p : Member)
    (at : slice_get members q ≡ Some p) (id : MemberId) (ordinary : is_constructor id.name ≡ false) (place : Found)
    (hit : ResolvedMember) (wanted : is_open hit.flags ≡ true) (n : ℕ) (e : ExportClass)
    (named : class_named (all_classes p.files) e.name ≡ Some (imported n e))
    (a : IsAt false id.name id.desc (imported n e) place)
    (told : hit ≡ record { owner = imported n e; flags = (let m = a.member in m.flags) })
    (it : is_interface e.flags ≡ true) (j : ℕ) (g : Member) (there : slice_get members j ≡ Some g) (t : ExportTree)
    (written : IsWrittenFor g.files t) (k : ℕ) (listed : slice_get t.classes k ≡ Some e) where
  abbrev group : List Files
  group = files_of members

  abbrev w : List Class
  w = joint_world group

  order : IsOrdered w
  order = ordered group (ordered_together members is)

  are_apart : AreApart group
  are_apart = apart group is.sound

  abbrev exposed : Class → Option Found
  exposed = own_where is_exposed id.name id.desc

  abbrev all_interfaces : List Class
  all_interfaces = known (gathered false (supertypes w (e.name ∷ [])))

  -- The interface in the joint world.
  record IsHere : Type 0 where
    class : Class
    at_name : class_named w e.name ≡ Some class
    own : class.is_imported ≡ false
    is_one : is_interface class.flags ≡ true

  is_here : IsHere
  is_here =
      let o = exported g.files t written k e listed in
      let kind = o.kind in
      record {
        class = declared (before group j + o.number) o.class;
        at_name = ap (class_named w) (sym o.same_name) ∙ own_is_found group are_apart j o.number g.files o.class
            (own_here members is j g there o.number o.class o.file);
        own = refl;
        is_one = kind.interface ∙ it;
      }

  member_open : is_open (let m = a.member in m.flags) ≡ true
  member_open = sym (ap (λ (h : ResolvedMember). is_open h.flags) told) ∙ wanted

  abbrev m : WorldMember
  m = a.member

  -- an interface at or above it has it
  from : (d : IsDeclaredAbove w e.name m.name m.desc) × IsOfKind d m.flags (is_interface e.flags)
  from = source members is tell q p at e.name (imported n e) named a.place a.member a.is_member member_open
      (ap is_constructor a.has_name ∙ ordinary)

  abbrev above : IsDeclaredAbove w e.name m.name m.desc
  above = let f = from in f.0

  above_is_one : (let d = above in let c = d.class in is_interface c.flags) ≡ true
  above_is_one = let f = from in ⊎_elim (λ same. same.1 ∙ it) (λ bare. bare.0) f.1

  own_exposed : (f : Found) × (exposed (let d = above in d.class) ≡ Some f)
  own_exposed =
      let d = above in
      let c = d.class in
      let y = d.method in
      let parts = open_parts y.flags d.opened in
      let passes : (is_exposed y.flags && is_called id.name id.desc y) ≡ true = ap (λ b. b && is_called id.name
      id.desc y) parts.1 ∙ called_by id.name id.desc y (d.has_name ∙ a.has_name) (d.has_desc ∙ a.has_desc) in
      let r = is_found (λ (z : WorldMember). is_exposed z.flags && is_called id.name id.desc z) c.methods d.place y
      d.there passes in
      (member_at c (length c.fields + r.0), ap (option_map (λ z. member_at c (length c.fields + z))) r.1)

  -- What is found is of an interface at or above it.
  record IsExposedAbove : Type 0 where
    place_there : Found
    found : find_exposed w e.name id ≡ Some place_there
    owner_there : Class
    below : Below w e.name owner_there.name
    owner_named : class_named w owner_there.name ≡ Some owner_there
    is_one : is_interface owner_there.flags ≡ true
    where_it_is : IsWhere is_exposed id.name id.desc owner_there place_there

  abbrev here_class : Class
  here_class = let h = is_here in h.class

  here_named : class_named w (let c = here_class in c.name) ≡ Some here_class
  here_named = let h = is_here in ap (class_named w) (class_named-name w e.name h.class h.at_name) ∙ h.at_name

  nothing : {f : Found} → Some f ≡ None → ⊥
  nothing k = cc

  -- java/lang/Object has no such method where the interface itself has none
  no_root : exposed here_class ≡ None → (o : Class) → class_named w object ≡ Some o → (j : ℕ) (y : WorldMember)
      → slice_get o.methods j ≡ Some y → is_exposed y.flags ≡ true → y.name ≡ id.name → y.desc ≡ id.desc → ⊥
  no_root none o at_object j y there shown name desc = ⊎_elim same_one over (let s = above in s.below)
    where
      same_one : e.name ≡ (let s = above in let z = s.class in z.name) → ⊥
      same_one same =
          let h = is_here in
          let s = above in
          let one : s.class ≡ h.class = same_class (sym s.named ∙ ap (class_named w) (sym same) ∙ h.at_name) in
          let its = own_exposed in
          nothing (sym its.1 ∙ ap exposed one ∙ none)

      over : Above w e.name (let s = above in let z = s.class in z.name) → ⊥
      over far =
          let h = is_here in
          let c = h.class in
          let s = above in
          let z = s.class in
          let k = s.method in
          let called : c.name ≡ e.name = class_named-name w e.name c h.at_name in
          let r = tell.objects c z o s.place j k y here_named h.own h.is_one s.named above_is_one (subst (λ u. Above w u
          z.name) (sym called) far) s.there s.opened at_object there shown (name ∙ sym (s.has_name ∙ a.has_name)) (desc
          ∙ sym (s.has_desc ∙ a.has_desc)) in
          let x = r.method in
          let passes : (is_exposed x.flags && is_called id.name id.desc x) ≡ true = ap (λ b. b && is_called id.name
          id.desc x) (open_parts x.flags r.opened).1 ∙ called_by id.name id.desc x (r.has_name ∙ s.has_name ∙ a.has_name)
          (r.has_desc ∙ s.has_desc ∙ a.has_desc) in
          let g = is_found (λ (u : WorldMember). is_exposed u.flags && is_called id.name id.desc u) c.methods r.place x
          r.there passes in
          nothing (sym (ap (option_map (λ u. member_at c (length c.fields + u))) g.1) ∙ none)

  -- the interface itself has it
  on_itself : (f : Found) → exposed here_class ≡ Some f → IsExposedAbove
  on_itself f k =
      let h = is_here in
      let c = h.class in
      record {
        place_there = f;
        found = ap (λ o. or_else o (first exposed all_interfaces)) (search_from w order.acyclic exposed e.name c h.at_name
            f k);
        owner_there = c;
        below = inl (sym (class_named-name w e.name c h.at_name));
        owner_named = here_named;
        is_one = h.is_one;
        where_it_is = where_at is_exposed id.name id.desc c f k;
      }

  on_its_line : exposed here_class ≡ None → (f : Found) → first exposed (line w e.name) ≡ Some f → IsExposedAbove
  on_its_line none f found =
      let one = first_has exposed (line w e.name) f found in
      let d = one.0 in
      let on = of_line w order.acyclic e.name d one.1 in
      let b = where_at is_exposed id.name id.desc d f one.2 in
      record {
        place_there = f;
        found = ap (λ o. or_else o (first exposed all_interfaces)) found;
        owner_there = d;
        below = line_below w e.name d on;
        owner_named = line_named w e.name d on;
        is_one = kind e.name d on refl b;
        where_it_is = b;
      }
    where
      kind : (x : List ℕ) (d : Class) → OnLine w x d → x ≡ e.name → IsWhere is_exposed id.name id.desc d f
          → is_interface d.flags ≡ true
      kind x d (here f) same b =
          let h = is_here in
          ap (λ (c : Class). is_interface c.flags) (same_class (sym f ∙ ap (class_named w) same ∙ h.at_name)) ∙ h.is_one
      kind x d (up {s = s} c f l rest) same b =
          let h = is_here in
          let one : c ≡ h.class = same_class (sym f ∙ ap (class_named w) same ∙ h.at_name) in
          let top : s ≡ object = order.only_object x s c f (ap (λ (y : Class). is_interface y.flags) one ∙ h.is_one) l in
          let y = b.method in
          let names = called_parts id.name id.desc y b.called in
          absurd (no_root none d (top_alone w order d (subst (λ y. OnLine w y d) top rest)) b.place y b.there b.passing
          names.0 names.1)

  in_interfaces : exposed here_class ≡ None → first exposed (line w e.name) ≡ None → IsExposedAbove
  in_interfaces bare none =
      let s = above in
      let z = s.class in
      let its = own_exposed in
      let f = first_some exposed all_interfaces z its.0 (has e.name z.name s.below refl refl) its.1 in
      let one = first_has exposed all_interfaces f.0 f.1 in
      let up_one = gathered_above w order false (e.name ∷ []) (supertypes w (e.name ∷ [])) one.0
      (supertypes-AreSupertypes w order.acyclic (e.name ∷ [])) (λ no. absurd (clash no)) one.1 in
      record {
        place_there = f.0;
        found = ap (λ o. or_else o (first exposed all_interfaces)) none ∙ f.1;
        owner_there = one.0;
        below = from_one up_one.0 up_one.1 (let y = one.0 in y.name) up_one.2;
        owner_named = up_one.3;
        is_one = up_one.4;
        where_it_is = where_at is_exposed id.name id.desc one.0 f.0 one.2;
      }
    where
      clash : false ≡ true → ⊥
      clash e = cc

      no_found : {f : Found} → Some f ≡ None → ⊥
      no_found e = cc

      from_one : (x : List ℕ) → Lists x (e.name ∷ []) → (y : List ℕ) → Below w x y → Below w e.name y
      from_one x l y way = subst (λ a. Below w a y) (only x e.name l) way

      -- what stands above java/lang/Object, that lists
      through : Below w object (let s = above in let z = s.class in z.name) → ⊥
      through way =
          let s = above in
          let k = s.method in
          let r = of_root members is tell s.class s.named above_is_one s.place k s.there s.opened (ap is_constructor
          (s.has_name ∙ a.has_name) ∙ ordinary) way in
          let o = r.2 in
          let y = o.method in
          no_root bare r.0 r.1 o.place y o.there (open_parts y.flags o.opened).1 (o.has_name ∙ s.has_name ∙ a.has_name)
          (o.has_desc ∙ s.has_desc ∙ a.has_desc)

      over : (c : Class) → class_named w e.name ≡ Some c → (y : List ℕ) → Lists y (c.supers ++ c.interfaces)
          → Below w y (let s = above in let z = s.class in z.name) → Has (let s = above in s.class) all_interfaces
      over c named_c y l way =
          let h = is_here in
          let s = above in
          let one : c ≡ h.class = same_class (sym named_c ∙ h.at_name) in
          ⊎_elim
          (λ super. absurd (through (subst (λ b. Below w b (let z = s.class in z.name)) (order.only_object e.name y c
          named_c (ap (λ (v : Class). is_interface v.flags) one ∙ h.is_one) super) way)))
          (λ interface. above_listed w order e.name c s.class named_c y interface way s.named above_is_one)
          (lists-split y c.supers c.interfaces l)

      has : (x y : List ℕ) → Below w x y → x ≡ e.name → y ≡ (let s = above in let z = s.class in z.name)
          → Has (let s = above in s.class) all_interfaces
      has x y (inl same) is_x is_y =
          let h = is_here in
          let s = above in
          let z = s.class in
          let at_z : class_named w e.name ≡ Some z = ap (class_named w) (sym is_x ∙ same ∙ is_y) ∙ s.named in
          let its = own_exposed in
          let f = first_some exposed (line w e.name) z its.0 (in_line w order.acyclic e.name z (here at_z)) its.1 in
          absurd (no_found (sym f.1 ∙ none))
      has x y (inr (directly c f l)) is_x is_y = over c (ap (class_named w) (sym is_x) ∙ f) y l (inl is_y)
      has x y (inr (onwards {y = s} c f l far)) is_x is_y = over c (ap (class_named w) (sym is_x) ∙ f) s l
          (inr (subst (Above w s) is_y far))

  found_above : IsExposedAbove
  found_above = by (exposed here_class) refl (first exposed (line w e.name)) refl
    where
      by : (u : Option Found) → exposed here_class ≡ u → (o : Option Found) → first exposed (line w e.name) ≡ o
          → IsExposedAbove
      by (Some f) k o found = on_itself f k
      by None k (Some f) found = on_its_line k f found
      by None k None none = in_interfaces k none

  -- it is no initialiser
  start : is_initialiser id.name ≡ false
  start = ap is_initialiser (sym a.has_name) ∙ no_initialiser p.files (kept_at members is q p at) e.name (imported n e)
      a.place m named a.is_member (no_static m.flags (open_parts m.flags member_open).0)

  pub interface_open : IsMetOpen members id hit
  interface_open =
      let x = found_above in
      let h = is_here in
      let d = above in
      let c = x.owner_there in
      let b = x.where_it_is in
      let y = b.method in
      let names = called_parts id.name id.desc y b.called in
      let open_one = faces_open members is c x.owner_named x.is_one b.place y b.there (ap is_initialiser names.0 ∙ start)
      in
      let owner_name : (let c = hit.owner in c.name) ≡ e.name = ap (λ (h : ResolvedMember). let c = h.owner in c.name)
      told in
      let owner_kind : is_interface (let c = hit.owner in c.flags) ≡ is_interface e.flags =
      ap (λ (h : ResolvedMember). let c = h.owner in is_interface c.flags) told in
      record {
        there = x.place_there;
        met = record { owner = c; flags = y.flags };
        stands = ap (λ (h : ResolvedMember). joint_method w h.owner id) told
            ∙ ap (option_and_then (λ (z : Class). if true && not z.is_imported then find_exposed w e.name id
            else own_method false id.name id.desc z)) h.at_name
            ∙ ap (λ b. if true && not b then find_exposed w e.name id else own_method false id.name id.desc h.class)
            h.own ∙ x.found;
        is_met = ap (method_hit w) b.is ∙ hit_is w c b.place y (numbered_there members is c.name c x.owner_named) b.there;
        may = (open_parts y.flags open_one).0;
        shown = seen_by y.flags open_one;
        class = c;
        named = x.owner_named;
        owner = refl;
        place = b.place;
        method = y;
        is_method = b.there;
        has_name = names.0;
        has_desc = names.1;
        opened = open_one;
        below = subst (λ z. Below w z c.name) (sym owner_name) x.below;
        top = h.class;
        top_named = ap (class_named w) owner_name ∙ h.at_name;
        same_kind = h.is_one ∙ sym it ∙ sym owner_kind;
        kind = λ f. x.is_one;
      }
