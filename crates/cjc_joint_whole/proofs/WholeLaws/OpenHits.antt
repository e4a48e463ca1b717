-- A method that a package calls by invokevirtual and that is not package-visible there is public or protected where the
-- joint world has it.
use Rattle.std.proofs.Common.{◌≡◌, ℕ, ◌+◌, refl, sym, ap, ◌∙◌, Bool, true, false, List, [], ◌∷◌, Option, Some}
use Rattle.std.proofs.Common.{None, length}
use Rattle.std.specs.Prelude.{◌&&◌, ◌⊎◌, not, option_and_then, option_map, slice_get, if◌then◌else◌}
use Rattle.cjc_bytes.specs.AccessFlags.{is_interface, is_private}
use Rattle.cjc_bytes.specs.declared.fault.MemberId.{MemberId}
use Rattle.cjc_components.specs.Package.{Package, world}
use Rattle.cjc_joint_proof.specs.JointNames.{hit_for}
use Rattle.cjc_joint_proof.specs.JointPackages.{AreLinked, files_together}
use Rattle.cjc_joint_proof.specs.JointTables.{world_together}
use Rattle.cjc_joint_proof.specs.Worlds.{before}
use Rattle.cjc_joint_proof.proofs.ClassLaws.{together_at}
use Rattle.cjc_joint_theorem.specs.Ordered.{AreOrdered}
use Rattle.cjc_joint_theorem.proofs.OrderedLaws.Ordered.{ordered}
use Rattle.cjc_joint_theorem.proofs.OrderedLaws.Standing.{Stands, class_stands, from_outside, of_member, own_class}
use Rattle.cjc_jvm_semantics.specs.Group.{find_exposed, is_exposed, is_package_visible, joint}
use Rattle.cjc_jvm_semantics.specs.Group.{joint_method, own_where}
use Rattle.cjc_jvm_semantics.specs.OnePackage.{ResolvedMember, is_initialiser, method_hit}
use Rattle.cjc_theorem.proofs.AlikeLaws.VirtualCalls.Chosen.{first_found, own_first}
use Rattle.cjc_theorem.proofs.AlikeLaws.VirtualCalls.MethodKinds.{in_get}
use Rattle.cjc_theorem.proofs.AlikeLaws.VirtualCalls.Ways.{line_class}
use Rattle.cjc_token_proof.proofs.WorldProofOwn.{hit_is, is_found}
use Rattle.cjc_token_proof.proofs.WorldProofSelects.{called_by}
use Rattle.cjc_token_proof.proofs.WrittenCalls.Facts.{Facts}
use Rattle.cjc_token_proof.specs.Calls.Selecting.{signature}
use Rattle.cjc_token_proof.specs.Narrow.Rows.Resolved.{method_found}
use Rattle.cjc_tokens.proofs.Facts.{chosen-In, chosen-passes}
use Rattle.cjc_tokens.specs.Lines.{Declared, line_in, line_of}
use Rattle.cjc_tokens.specs.Members.{Signature, chosen, is_hidden, is_virtual, signature_of}
use Rattle.cjc_vtable.proofs.Filed.{at-number}
use Rattle.cjc_vtable.proofs.Worlds.{line_of-declared}
use Rattle.cjc_vtable.specs.Calls.{any_method, finds_hidden, is_special, passes}
use Rattle.cjc_world.proofs.Settled.{supertypes-AreSupertypes}
use Rattle.cjc_world.proofs.Upwards.{line_goes_up}
use Rattle.cjc_world.proofs.UpwardLaws.Lines.{below_abroad, first_has, gathered_above, line_below, line_named}
use Rattle.cjc_world.proofs.UpwardLaws.Lines.{method_found_above, of_line}
use Rattle.cjc_world.specs.Added.{added}
use Rattle.cjc_world.specs.Classes.{Class, Member, all_classes, class_at, class_named}
use Rattle.cjc_world.specs.Classes.{declared, imported}
use Rattle.cjc_world.specs.Files.{Files}
use Rattle.cjc_world.specs.Interfaces.{gathered, known}
use Rattle.cjc_world.specs.Lookup.{find_method, first, is_called, is_selectable, is_wanted, member_at, or_else}
use Rattle.cjc_world.specs.Lookup.{own_method}
use Rattle.cjc_world.specs.Supertypes.{line, supertypes}
use Rattle.cjc_world.specs.Upwards.{Below, IsOrdered, OnLine}
use Rattle.cjc_world.specs.declared.found.Found.{Found}
use Rattle.cjc_joint_whole.specs.Selected.{NamesVirtual, SelectTogether}
use Rattle.cjc_joint_whole.proofs.WholeLaws.ClimbingPackages.{climbing_packages}
use Rattle.cjc_joint_whole.proofs.WholeLaws.OpenFinds.{special_parts, virtual_by}
use Rattle.cjc_joint_whole.proofs.WholeLaws.Shown.{where_at}
use Rattle.cjc_joint_whole.proofs.WholeLaws.TokenMeans.{ImportsAreExposed}

clash : {b : Bool} → b ≡ true → b ≡ false → ⊥
clash e g = let no : true ≡ false = sym e ∙ g in cc

same_hit : {a b : ResolvedMember} → Some a ≡ Some b → a ≡ b
same_hit e = cc

-- what is public or protected is not package-visible
pub seen_so : (flags : ℕ) → is_exposed flags ≡ true → is_package_visible flags ≡ false
seen_so flags e = ap (λ b. not b && not (is_private flags)) e

-- ---- what a class declares first

-- the first method of a name and descriptor, by its flags
pub first_flags : (w : List Class) (s : Signature) (c : Class) (f : Found) (h : ResolvedMember)
    → class_at w c.is_imported c.number ≡ Some c → own_method false s.name s.desc c ≡ Some f
    → method_hit w f ≡ Some h → (n : Member) × (chosen any_method s c.methods ≡ Some n) × (h.flags ≡ n.flags)
    × (h.owner ≡ c)
first_flags w s c f h at own hit =
    let o = own_first false s c f own in
    let n = o.method in
    let same = same_hit (sym hit ∙ ap (method_hit w) o.is ∙ hit_is w c o.place n at o.there) in
    (n, o.is_first, ap (λ (k : ResolvedMember). k.flags) same, ap (λ (k : ResolvedMember). k.owner) same)

-- two classes of the same methods declare the same first
pub same_first : (v w : List Class) (s : Signature) (c d : Class) (f g : Found) (h k : ResolvedMember)
    → class_at v c.is_imported c.number ≡ Some c → class_at w d.is_imported d.number ≡ Some d
    → c.methods ≡ d.methods → own_method false s.name s.desc c ≡ Some f → method_hit v f ≡ Some h
    → own_method false s.name s.desc d ≡ Some g → method_hit w g ≡ Some k → k.flags ≡ h.flags
same_first v w s c d f g h k at_c at_d same own hit own' hit' =
    let a = first_flags v s c f h at_c own hit in
    let b = first_flags w s d g k at_d own' hit' in
    let both : Some b.0 ≡ Some a.0 = sym b.1 ∙ ap (chosen any_method s) (sym same) ∙ a.1 in
    let one : b.0 ≡ a.0 = cc in
    b.2 ∙ ap (λ (m : Member). m.flags) one ∙ sym a.2

-- a method that find_exposed gives is public or protected
module _ (files : Files) (order : IsOrdered (all_classes files)) (x : List ℕ) (id : MemberId) (f : Found)
    (h : ResolvedMember) (found : find_exposed (all_classes files) x id ≡ Some f)
    (hit : method_hit (all_classes files) f ≡ Some h) where
  abbrev u : List Class
  u = all_classes files

  abbrev seen_first : Class → Option Found
  seen_first = own_where is_exposed id.name id.desc

  pub exposed_hit : is_exposed h.flags ≡ true
  exposed_hit = by (first seen_first (line u x)) refl found
    where
      at_one : (d : Class) → class_named u d.name ≡ Some d → seen_first d ≡ Some f → is_exposed h.flags ≡ true
      at_one d named has =
          let a = where_at is_exposed id.name id.desc d f has in
          let m = a.method in
          let same = same_hit (sym hit ∙ ap (method_hit u) a.is ∙ hit_is u d a.place m (at-number files d.name d named)
          a.there) in
          ap (λ (k : ResolvedMember). is_exposed k.flags) same ∙ a.passing

      no : false ≡ true → ⊥
      no e = cc

      by : (o : Option Found) → first seen_first (line u x) ≡ o
          → or_else o (first seen_first (known (gathered false (supertypes u (x ∷ []))))) ≡ Some f
          → is_exposed h.flags ≡ true
      by (Some g) e k =
          let r = first_has seen_first (line u x) f (e ∙ k) in
          at_one r.0 (line_named u x r.0 (of_line u order.acyclic x r.0 r.1)) r.2
      by None e k =
          let r = first_has seen_first (known (gathered false (supertypes u (x ∷ [])))) f k in
          let g = gathered_above u order false (x ∷ []) (supertypes u (x ∷ [])) r.0 (supertypes-AreSupertypes u
          order.acyclic (x ∷ [])) (λ is. absurd (no is)) r.1 in
          at_one r.0 g.3 r.2

-- a class that declares none of a name and descriptor has none
pub none_chosen : (s : Signature) (c : Class) → own_method false s.name s.desc c ≡ None
    → chosen any_method s c.methods ≡ None
unfolding own_method
none_chosen s c none = by (chosen any_method s c.methods) refl
  where
    by : (o : Option Member) → chosen any_method s c.methods ≡ o → chosen any_method s c.methods ≡ None
    by None e = e
    by (Some m) e =
        let is_m = chosen-passes any_method s c.methods m e in
        let place = in_get m c.methods (chosen-In any_method s c.methods m e) in
        let called : (is_wanted false m.flags && is_called s.name s.desc m) ≡ true = called_by s.name s.desc m (ap (λ
        (u : Signature). u.name) is_m.0) (ap (λ (u : Signature). u.desc) is_m.0) in
        let at = is_found (λ (k : Member). is_wanted false k.flags && is_called s.name s.desc k) c.methods place.0 m
        place.1 called in
        let some : own_method false s.name s.desc c ≡ Some (member_at c (length c.fields + at.0)) = ap (option_map (λ i.
        member_at c (length c.fields + i))) at.1 in
        let no : Some (member_at c (length c.fields + at.0)) ≡ None = sym some ∙ none in
        absurd (cc)

module _ (packages : List Package) (is : SelectTogether packages) (facts : (q : ℕ) (p : Package)
    → slice_get packages q ≡ Some p → Facts p) (exposed : (q : ℕ) (p : Package) → slice_get packages q ≡ Some p
    → ImportsAreExposed p) where
  abbrev group : List Files
  group = files_together packages

  abbrev w : List Class
  w = world_together packages

  linked : AreLinked packages
  linked = is.linked

  all : AreOrdered group
  all = is.ordered

  order : IsOrdered w
  order = ordered group all

  its_order : (q : ℕ) (p : Package) → slice_get packages q ≡ Some p → IsOrdered (world p)
  its_order q p it = all.each q p.files (together_at packages linked q p it)

  -- ---- where a package finds it

  module _ (s : Signature) (ordinary : is_special s ≡ false) where
    abbrev found_first : Class → Option Found
    found_first = own_method false s.name s.desc

    -- what is found along a line is public or protected where no package-visible one is found
    abbrev SeenAt : ℕ → Package → List ℕ → Type 0
    SeenAt q p x = (f : Found) (h : ResolvedMember) → first found_first (line (world p) x) ≡ Some f
        → method_hit (world p) f ≡ Some h → is_selectable h.flags ≡ true
        → finds_hidden (line_of (world p) x) s ≡ false → is_exposed h.flags ≡ true

    seen_own : (q : ℕ) (p : Package) → slice_get packages q ≡ Some p → (x : List ℕ) (c : Class)
        → class_named (world p) x ≡ Some c → c.is_imported ≡ false → is_interface c.flags ≡ false → (super : List ℕ)
        → c.supers ≡ super ∷ [] → (d : Class) → class_named (world p) super ≡ Some d → is_interface d.flags ≡ false
        → SeenAt q p super → SeenAt q p x
    unfolding first
    seen_own q p it x c known mine plain super supers d super_is ground above f h found hit selectable none =
        by (found_first c) refl
      where
        its : Facts p
        its = facts q p it

        line_is : line (world p) x ≡ c ∷ line (world p) super
        line_is = let r = its in let k = r.rules in line_goes_up (world p) k.acyclic x super c known supers

        line_above : line_of (world p) x ≡ Declared c (added (world p) c) (line_of (world p) super)
        line_above = (let k = its in line_of-declared (world p) k.are_supertypes k.one_supertypes k.rules x c known
            mine)
            ∙ ap (λ ss. Declared c (added (world p) c) (line_in (world p) (supertypes (world p) ss))) supers

        none_here : passes is_hidden (chosen any_method s c.methods) (finds_hidden (line_of (world p) super) s) ≡ false
        none_here = sym (ap (λ k. finds_hidden k s) line_above) ∙ none

        not_hidden : (m : Member) → is_selectable m.flags ≡ true → signature_of m ≡ s → is_hidden m ≡ false
            → is_exposed m.flags ≡ true
        not_hidden m may one open_one = split (is_exposed m.flags) (is_virtual m) (virtual_by m may (ap is_special one
            ∙ ordinary)) open_one
          where
            split : (a b : Bool) → b ≡ true → (not a && b) ≡ false → a ≡ true
            split true b e g = refl
            split false true e g = absurd cc
            split false false e g = absurd cc

        by : (o : Option Found) → found_first c ≡ o → is_exposed h.flags ≡ true
        by (Some k) e =
            let both : Some k ≡ Some f = sym (ap (first found_first) line_is ∙ ap (λ o. or_else o (first found_first
            (line (world p) super))) e) ∙ found in
            let same : k ≡ f = cc in
            let r = first_flags (world p) s c f h (let i = its in i.placed x c known) (e ∙ ap Some same) hit in
            let m = r.0 in
            ap is_exposed r.2
            ∙ not_hidden m (ap is_selectable (sym r.2) ∙ selectable) (chosen-passes any_method s c.methods m r.1).0
            (sym (ap (λ o. passes is_hidden o (finds_hidden (line_of (world p) super) s)) r.1) ∙ none_here)
        by None e = above f h (sym (ap (first found_first) line_is ∙ ap (λ o. or_else o (first found_first
            (line (world p) super))) e) ∙ found) hit selectable (sym (ap (λ o. passes is_hidden o (finds_hidden (line_of
            (world p) super) s)) (none_chosen s c e)) ∙ none_here)

    seen_imported : (q : ℕ) (p : Package) → slice_get packages q ≡ Some p → (x : List ℕ) (c : Class)
        → class_named (world p) x ≡ Some c → c.is_imported ≡ true → is_interface c.flags ≡ false → SeenAt q p x
    seen_imported q p it x c known import plain f h found hit selectable none =
        let v = world p in
        let o = its_order q p it in
        let r = first_found false s (line v x) f found in
        let d = r.class in
        let on = of_line v o.acyclic x d r.among in
        let named = line_named v x d on in
        let abroad = below_abroad v o x d.name c d (line_below v x d on) known import named in
        let a = r.at in
        let m = a.method in
        let is_m = chosen-passes any_method s d.methods m a.is_first in
        let same = same_hit (sym hit ∙ ap (method_hit v) a.is ∙ hit_is v d a.place m ((let i = facts q p it
        in i.placed) d.name d named) a.there) in
        let flags : h.flags ≡ m.flags = ap (λ (k : ResolvedMember). k.flags) same in
        ap is_exposed flags ∙ exposed q p it d.name d a.place m named abroad (line_class v o x c d on known plain)
        a.there (virtual_by m (ap is_selectable (sym flags) ∙ selectable) (ap is_special is_m.0 ∙ ordinary))

    seen : (q : ℕ) (p : Package) → slice_get packages q ≡ Some p → (x : List ℕ) (c : Class)
        → class_named (world p) x ≡ Some c → is_interface c.flags ≡ false → SeenAt q p x
    seen q p it x c known plain = climbing_packages packages linked facts SeenAt seen_own
        (λ q p it x c known import plain h r e there same k is_k own kind rest. seen_imported q p it x c known import
        plain)
        (λ q p it x c known import plain h out. seen_imported q p it x c known import plain) q p it x c known plain

  -- ---- a call

  module _ (q : ℕ) (p : Package) (it : slice_get packages q ≡ Some p) (m : MemberId) (d : Class)
      (is_d : class_named (world p) m.class ≡ Some d) (plain : is_interface d.flags ≡ false)
      (n : NamesVirtual (world p) m) (none : finds_hidden (line_of (world p) m.class) (signature m) ≡ false) where
    abbrev v : List Class
    v = world p

    its : Facts p
    its = facts q p it

    -- the class that declares it
    pub record Declares : Type 0 where
      pub class : Class
      pub named : class_named v class.name ≡ Some class
      pub own : own_method false m.name m.desc class ≡ Some n.place
      pub owner : (let h = n.hit in h.owner) ≡ class
      pub seen_one : is_exposed (let h = n.hit in h.flags) ≡ true

    declares : Declares
    unfolding find_method
    declares = split (first (own_method false m.name m.desc) (line v m.class)) refl n.found
      where
        above : (k : Class) × Below v m.class k.name × (class_named v k.name ≡ Some k)
            × (own_method false m.name m.desc k ≡ Some n.place)
            × (OnLine v m.class k ⊎ (is_interface k.flags ≡ true))
        above = method_found_above v (its_order q p it) m.class m.name m.desc n.place n.found

        of_class : (k : Class) → class_named v k.name ≡ Some k → own_method false m.name m.desc k ≡ Some n.place
            → is_exposed (let h = n.hit in h.flags) ≡ true → Declares
        of_class k named own seen_one =
            let i = its in
            let r = first_flags v (signature m) k n.place n.hit (i.placed k.name k named) own n.is_hit in
            record { class = k; named = named; own = own; owner = r.3; seen_one = seen_one }

        split : (o : Option Found) → first (own_method false m.name m.desc) (line v m.class) ≡ o
            → or_else o (first (own_method false m.name m.desc) (known (gathered false (supertypes v
            (m.class ∷ []))))) ≡ Some n.place → Declares
        split (Some f) e g =
            let same : f ≡ n.place = cc in
            let a = above in
            of_class a.0 a.2 a.3 (seen (signature m) n.ordinary q p it m.class d is_d plain n.place n.hit (e
            ∙ ap Some same) n.is_hit n.selectable none)
        split None e g =
            let own = own_method false m.name m.desc in
            let r = first_has own (known (gathered false (supertypes v (m.class ∷ [])))) n.place g in
            let o = its_order q p it in
            let k = r.0 in
            let at = gathered_above v o false (m.class ∷ []) (supertypes v (m.class ∷ [])) k (supertypes-AreSupertypes v
            o.acyclic (m.class ∷ [])) (λ is. absurd (no is)) r.1 in
            let a = own_first false (signature m) k n.place r.2 in
            let x = a.method in
            let is_m = chosen-passes any_method (signature m) k.methods x a.is_first in
            let i = its in
            let t = first_flags v (signature m) k n.place n.hit (i.placed k.name k at.3) r.2 n.is_hit in
            let one : Some t.0 ≡ Some x = sym t.1 ∙ a.is_first in
            let same : t.0 ≡ x = cc in
            of_class k at.3 r.2 (ap is_exposed (t.2 ∙ ap (λ (y : Member). y.flags) same)
            ∙ is.open_interfaces q a.place p k.name k x it at.3 at.4 a.there (ap (λ (u : Signature). is_initialiser
            u.name) is_m.0 ∙ special_parts m.name n.ordinary))
          where
            no : false ≡ true → ⊥
            no e = cc

    -- in the joint world it is none that is package-visible
    pub hit_seen : (h : ResolvedMember) → hit_for (joint group) w p.files m ≡ Some h
        → is_package_visible h.flags ≡ false
    hit_seen h found =
        let k = declares in
        let c = k.class in
        let hs = class_stands group all q p.files (together_at packages linked q p it) c.name c k.named in
        seen_so h.flags (there c hs.class hs.stands k.named hs.named k.own (sym (ap (option_and_then (method_hit w)) (ap
        (option_and_then (λ (y : ResolvedMember). let owner = y.owner in joint_method w owner m)) met
        ∙ ap (λ o. joint_method w o m) k.owner
        ∙ ap (option_and_then (λ (y : Class). if c.is_imported && not y.is_imported then find_exposed w c.name m
        else own_method false m.name m.desc y)) hs.named)) ∙ found))
      where
        met : method_found v m ≡ Some n.hit
        met = ap (option_and_then (method_hit v)) n.found ∙ n.is_hit

        hits : (o : Option Found) → option_and_then (method_hit w) o ≡ Some h → (f : Found) × (o ≡ Some f)
            × (method_hit w f ≡ Some h)
        hits None e = cc
        hits (Some f) e = (f, refl, e)

        there : (c y : Class) → Stands group q p.files c y → class_named v c.name ≡ Some c
            → class_named w c.name ≡ Some y → own_method false m.name m.desc c ≡ Some n.place
            → option_and_then (method_hit w) (if c.is_imported && not y.is_imported then find_exposed w c.name m
            else own_method false m.name m.desc y) ≡ Some h → is_exposed h.flags ≡ true
        there _ _ (own_class k t own) named together mine e =
            let c = declared k t in
            let y = declared (before group q + k) t in
            let r = hits (own_method false m.name m.desc y) e in
            ap is_exposed (same_first v w (signature m) c y n.place r.0 n.hit h ((let i = its in i.placed) c.name c
            named) (at-number (joint group) c.name y together) refl mine n.is_hit r.1 r.2) ∙ (let k = declares in
            k.seen_one)
        there _ _ (from_outside a b x at) named together mine e =
            let c = imported a x in
            let y = imported b x in
            let r = hits (own_method false m.name m.desc y) e in
            ap is_exposed (same_first v w (signature m) c y n.place r.0 n.hit h ((let i = its in i.placed) c.name c
            named) (at-number (joint group) c.name y together) refl mine n.is_hit r.1 r.2) ∙ (let k = declares in
            k.seen_one)
        there _ _ (of_member a x j k f t lt own name kind) named together mine e =
            let r = hits (find_exposed w x.name m) e in
            exposed_hit (joint group) order x.name m r.0 h r.1 r.2
