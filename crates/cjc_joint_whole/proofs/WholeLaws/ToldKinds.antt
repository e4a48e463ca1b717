-- The nearest public or protected method above a class of which one can be selected can be selected: a method of an
-- interface always is, and on the way up no static method stands below one that can be selected (306).
use Rattle.std.proofs.Common.{◌≡◌, ◌<◌, ℕ, ◌+◌, refl, sym, ap, subst, ◌∙◌, Bool, false, true, List, length, Option}
use Rattle.std.proofs.Common.{Some, None, inr, ⊎_elim}
use Rattle.std.specs.Prelude.{◌&&◌, ◌||◌, option_map, slice_get}
use Rattle.cjc_bytes.specs.AccessFlags.{is_abstract, is_interface}
use Rattle.cjc_bytes.specs.declared.fault.MemberId.{MemberId}
use Rattle.cjc_bytes.proofs.Bools.{true_or_false}
use Rattle.cjc_jvm_semantics.specs.Group.{is_exposed, is_open, own_where}
use Rattle.cjc_jvm_semantics.specs.OnePackage.{ResolvedMember, is_constructor, is_initialiser, method_hit}
use Rattle.cjc_world.specs.ClassFile.declared.tree.ClassTree.{ClassTree}
use Rattle.cjc_world.specs.Classes.{Class, Member as WorldMember, all_classes, class_named, declared, imported}
use Rattle.cjc_world.specs.ExportFile.declared.tree.ExportClass.{ExportClass}
use Rattle.cjc_world.specs.ExportFile.declared.tree.ExportTree.{ExportTree}
use Rattle.cjc_world.specs.Files.{Files}
use Rattle.cjc_world.specs.Lookup.{first, is_called, is_selectable, member_at}
use Rattle.cjc_world.specs.Supertypes.{Lists, line}
use Rattle.cjc_world.specs.Upwards.{Below, IsOrdered, OnLine, here, up}
use Rattle.cjc_world.specs.declared.found.Found.{Found}
use Rattle.cjc_world.proofs.Cycles.{class_named-name}
use Rattle.cjc_world.proofs.UpwardLaws.Lines.{first_has, line_begins, of_line, on_line}
use Rattle.cjc_shape_proof.specs.WorldProof.Calls.Targets.{IsReceiver}
use Rattle.cjc_theorem.proofs.AlikeLaws.VirtualCalls.Places.{member_in}
use Rattle.cjc_token_proof.proofs.WorldProofOwn.{hit_is, is_found}
use Rattle.cjc_token_proof.proofs.WorldProofSelects.{called_by}
use Rattle.cjc_tokens.specs.Members.{Signature, signature_of}
use Rattle.cjc_vtable.specs.Calls.{is_special}
use Rattle.cjc_joint_proof.specs.Worlds.{AreApart, IsOwn, before, outside_classes}
use Rattle.cjc_joint_proof.proofs.SoundLaws.{apart}
use Rattle.cjc_joint_proof.proofs.WorldLaws.{own_at_number, own_is_found}
use Rattle.cjc_joint_theorem.specs.Members.{Member, files_of}
use Rattle.cjc_joint_theorem.specs.Together.Homes.{joint_world}
use Rattle.cjc_joint_theorem.proofs.MembersLaws.Worlds.{files_at, member_at as member_there}
use Rattle.cjc_joint_theorem.proofs.OrderedLaws.Ordered.{IsJoint, joint_class, ordered, outside_file, own_file}
use Rattle.cjc_joint_theorem.proofs.OrderedLaws.Ordered.{super_there}
use Rattle.cjc_joint_theorem.proofs.OrderedLaws.Standing.{class_stands, outside_in, same_kind}
use Rattle.cjc_joint_whole.specs.Told.{IsDeclaredAbove, IsToldAbove}
use Rattle.cjc_joint_whole.specs.Whole.{AreWholeWith, IsWrittenFor}
use Rattle.cjc_joint_whole.proofs.WholeLaws.Climbing.{climbing}
use Rattle.cjc_joint_whole.proofs.WholeLaws.Exposed.{named_here, own_here}
use Rattle.cjc_joint_whole.proofs.WholeLaws.Implemented.{interface_has}
use Rattle.cjc_joint_whole.proofs.WholeLaws.Imports.{exported}
use Rattle.cjc_joint_whole.proofs.WholeLaws.KindsKept.{all_kinds}
use Rattle.cjc_joint_whole.proofs.WholeLaws.Members.{ordered_together}
use Rattle.cjc_joint_whole.proofs.WholeLaws.Nearest.{only}
use Rattle.cjc_joint_whole.proofs.WholeLaws.Opened.{once_called}
use Rattle.cjc_joint_whole.proofs.WholeLaws.OwnKept.{interface_open, kept_at}
use Rattle.cjc_joint_whole.proofs.WholeLaws.Shown.{called_parts, open_parts, search_from, search_up, where_at}
use Rattle.cjc_joint_whole.proofs.WholeLaws.ToldSeen.{seen_on}
use Rattle.cjc_joint_whole.proofs.WholeLaws.ToldTested.{tested_at}

same_class : {c d : Class} → Some c ≡ Some d → c ≡ d
same_class e = cc

same_found : {f g : Found} → Some f ≡ Some g → f ≡ g
same_found e = cc

same_hit : {a b : ResolvedMember} → Some a ≡ Some b → a ≡ b
same_hit e = cc

same_place : {a b : ℕ} → Some a ≡ Some b → a ≡ b
same_place e = cc

same_member : {m n : WorldMember} → Some m ≡ Some n → m ≡ n
same_member e = cc

neither : (a b : Bool) → a ≡ false → b ≡ false → (a || b) ≡ false
neither false false e f = refl
neither true b e f = absurd cc
neither false true e f = absurd cc

same_signature : (m n : WorldMember) → m.name ≡ n.name → m.desc ≡ n.desc → signature_of m ≡ signature_of n
same_signature m n e f = ap (λ x. pair x m.desc) e ∙ ap (pair n.name) f
  where
    pair : List ℕ → List ℕ → Signature
    pair x y = record { name = x; desc = y }

module _ {K : _} (members : List Member) (is : AreWholeWith K members) where
  abbrev group : List Files
  group = files_of members

  abbrev w : List Class
  w = joint_world group

  order : IsOrdered w
  order = ordered group (ordered_together members is)

  are_apart : AreApart group
  are_apart = apart group is.sound

  -- a method of an interface, its initialiser aside
  pub faces_open : (c : Class) → class_named w c.name ≡ Some c → is_interface c.flags ≡ true → (i : ℕ)
      (m : WorldMember) → slice_get c.methods i ≡ Some m → is_initialiser m.name ≡ false → is_open m.flags ≡ true
  faces_open c named it i m there start = by c (joint_class group c.name c named) it there
    where
      by : (c : Class) → IsJoint group c → is_interface c.flags ≡ true → slice_get c.methods i ≡ Some m
          → is_open m.flags ≡ true
      by _ (own_file q k p t own) it there =
          let g = member_there members q p own.member in
          let x = g.0 in
          let file : (let f = x.files in slice_get f.classes k ≡ Some t) = ap (λ (f : Files). slice_get f.classes k) g.2
          ∙ own.file in
          interface_open x.files (kept_at members is q x g.1) t.name (declared k t) i m (named_here members is q x g.1
          k t file) it there start
      by _ (outside_file n e kept) it there =
          let o = outside_in group (ordered_together members is) n e kept in
          let g = member_there members o.number o.files o.member in
          let x = g.0 in
          interface_open x.files (kept_at members is o.number x g.1) e.name (imported o.place e) i m
          (subst (λ (f : Files). class_named (all_classes f) e.name ≡ Some (imported o.place e)) (sym g.2) o.named) it
          there start

  module _ (tell : IsToldAbove members) (id : MemberId) (initial : is_initialiser id.name ≡ false)
      (ordinary : is_constructor id.name ≡ false) (f : Found) (h : ResolvedMember)
      (is_h : method_hit w f ≡ Some h) where
    abbrev exposed : Class → Option Found
    exposed = own_where is_exposed id.name id.desc

    abbrev opened : Class → Option Found
    opened = own_where is_open id.name id.desc

    -- ---- where one of a class of the line can be selected

    module _ (d : Class) (i : ℕ) (n : WorldMember) (there : slice_get d.methods i ≡ Some n) (name : n.name ≡ id.name)
        (desc : n.desc ≡ id.desc) (open_one : is_open n.flags ≡ true) where
      -- What is found first from a class on can be selected, where one above it can.
      abbrev Kept : List ℕ → Type 0
      Kept x = OnLine w x d → first exposed (line w x) ≡ Some f → (c : Class) → class_named w x ≡ Some c
          → is_interface c.flags ≡ false → is_selectable h.flags ≡ true

      has_one : (g : Found) × (exposed d ≡ Some g)
      has_one =
          let passes : (is_exposed n.flags && is_called id.name id.desc n) ≡ true = ap (λ b. b && is_called id.name
          id.desc n) (open_parts n.flags open_one).1 ∙ called_by id.name id.desc n name desc in
          let r = is_found (λ (y : WorldMember). is_exposed y.flags && is_called id.name id.desc y) d.methods i n there
          passes in
          (member_at d (length d.fields + r.0), ap (option_map (λ y. member_at d (length d.fields + y))) r.1)

      nothing : {g : Found} → Some g ≡ None → ⊥
      nothing e = cc

      -- of a class file
      module _ (q : ℕ) (p : Member) (at : slice_get members q ≡ Some p) (x : List ℕ) (k : ℕ) (t : ClassTree)
          (file : (let f = p.files in slice_get f.classes k ≡ Some t))
          (named : class_named (all_classes p.files) x ≡ Some (declared k t)) where
        abbrev v : List Class
        v = all_classes p.files

        abbrev b : Class
        b = declared (before group q + k) t

        own : IsOwn group q k p.files t
        own = own_here members is q p at k t file

        in_joint : class_named w x ≡ Some b
        in_joint = ap (class_named w) (sym (class_named-name v x (declared k t) named)) ∙ own_is_found group are_apart
            q k p.files t own

        -- 202 and 306
        kept_here : OnLine w x d → (j : ℕ) (m : WorldMember) → slice_get b.methods j ≡ Some m → m.name ≡ id.name
            → m.desc ≡ id.desc → is_selectable m.flags ≡ true
        kept_here (here e) j m at_m its_name its_desc =
            let one : d ≡ b = same_class (sym e ∙ in_joint) in
            let at_n : slice_get b.methods i ≡ Some n = ap (λ (u : Class). slice_get u.methods i) (sym one) ∙ there in
            let of_n = once_called members is q p at x (declared k t) named i n at_n id.name id.desc name desc in
            let of_m = once_called members is q p at x (declared k t) named j m at_m id.name id.desc its_name its_desc
            in
            let place : i ≡ j = same_place (sym of_n ∙ of_m) in
            let is_m : n ≡ m = same_member (sym at_n ∙ ap (slice_get b.methods) place ∙ at_m) in
            ap (λ (u : WorldMember). is_selectable u.flags) (sym is_m) ∙ (open_parts n.flags open_one).0
        kept_here (up {s = s} c e l rest) j m at_m its_name its_desc =
            let one : c ≡ b = same_class (sym e ∙ in_joint) in
            let listed : Lists s b.supers = subst (λ (u : Class). Lists s u.supers) one l in
            let super = super_there group (ordered_together members is) q k p.files t own s listed in
            let its = tested_at members is q p at in
            let solid = its.solid in
            let order_v = solid.ordered in
            let ground = order_v.supers x s (declared k t) super.0 named listed super.1 in
            let a = seen_on members is tell.known d i n there open_one (ap is_constructor name ∙ ordinary) q p at s
            super.0 super.1 ground rest in
            let y = a.class in
            let z = a.method in
            all_kinds its.list p.files its.codes its.settings its.checks order_v.acyclic x s (declared k t) y m z named
            refl listed a.on (member_in b.methods j m at_m) (member_in y.methods a.place z a.is_method) (same_signature
            m z (its_name ∙ sym (a.has_name ∙ name)) (its_desc ∙ sym (a.has_desc ∙ desc))) (neither (is_constructor
            m.name) (is_initialiser m.name) (ap is_constructor its_name ∙ ordinary) (ap is_initialiser its_name ∙
            initial)) (open_parts z.flags a.opened).0

        of_some : OnLine w x d → first exposed (line w x) ≡ Some f → (g : Found) → exposed b ≡ Some g
            → is_selectable h.flags ≡ true
        of_some on found g e =
            let same : g ≡ f = same_found (sym (search_from w order.acyclic exposed x b in_joint g e) ∙ found) in
            let a = where_at is_exposed id.name id.desc b g e in
            let m = a.method in
            let names = called_parts id.name id.desc m a.called in
            let hit : h ≡ record { owner = b; flags = m.flags } = same_hit (sym is_h ∙ ap (method_hit w) (sym same ∙
            a.is) ∙ hit_is w b a.place m (own_at_number group q k p.files t own) a.there) in
            ap (λ (y : ResolvedMember). is_selectable y.flags) hit ∙ kept_here on a.place m a.there names.0 names.1

        of_none : OnLine w x d → first exposed (line w x) ≡ Some f → exposed b ≡ None → Kept t.superclass
            → is_selectable h.flags ≡ true
        of_none (here c) found e above =
            let one : d ≡ b = same_class (sym c ∙ in_joint) in
            absurd (nothing (sym (let r = has_one in r.1) ∙ ap exposed one ∙ e))
        of_none (up {s = s} c g l rest) found e above =
            let one : c ≡ b = same_class (sym g ∙ in_joint) in
            let listed : Lists s b.supers = subst (λ (u : Class). Lists s u.supers) one l in
            let super = only s t.superclass listed in
            let r = line_begins w s d rest in
            above (subst (λ y. OnLine w y d) super rest) (sym (search_up w order.acyclic exposed x t.superclass b
            in_joint refl e) ∙ found) r.0 (ap (class_named w) (sym super) ∙ r.1) (order.supers x s b r.0 in_joint
            listed r.1)

        kept_own : Kept t.superclass → Kept x
        kept_own above on found c named_c ground = by (exposed b) refl
          where
            by : (o : Option Found) → exposed b ≡ o → is_selectable h.flags ≡ true
            by (Some g) e = of_some on found g e
            by None e = of_none on found e above

      kept_shared : (q : ℕ) (p : Member) → slice_get members q ≡ Some p → (x : List ℕ) (m : ℕ) (e : ExportClass)
          → class_named (all_classes p.files) x ≡ Some (imported m e) → is_interface e.flags ≡ false → (j : ℕ) (g :
          Member)
          → j < q → slice_get members j ≡ Some g → (t : ExportTree) → IsWrittenFor g.files t → (k : ℕ)
          → slice_get t.classes k ≡ Some e → ((y : List ℕ) (c : Class) → class_named (all_classes g.files) y ≡ Some c
          → is_interface c.flags ≡ false → Kept y) → Kept x
      kept_shared q p at x m e named ground j g less at_g t written k listed rest =
          let o = exported g.files t written k e listed in
          let tree = o.class in
          let kinds = o.kind in
          subst Kept (o.same_name ∙ class_named-name (all_classes p.files) x (imported m e) named) (rest tree.name
          (declared o.number tree) (named_here members is j g at_g o.number tree o.file) (kinds.interface ∙ ground))

      kept_abroad : (q : ℕ) (p : Member) → slice_get members q ≡ Some p → (x : List ℕ) (m k : ℕ) (e : ExportClass)
          → class_named (all_classes p.files) x ≡ Some (imported m e) → slice_get (outside_classes group) k ≡ Some e
          → Kept x
      kept_abroad q p at x m k e named kept on found c named_c ground =
          let same : e.name ≡ x = class_named-name (all_classes p.files) x (imported m e) named in
          let hit = class_stands group (ordered_together members is) q p.files (files_at members q p at) x (imported m
          e) named in
          let ground_e : is_interface e.flags ≡ false = sym (same_kind group q p.files (imported m e) hit.class
          hit.stands) ∙ ap (λ (u : Class). is_interface u.flags) (same_class (sym hit.named ∙ named_c)) ∙ ground in
          let there_found : first (own_where is_exposed n.name n.desc) (line w e.name) ≡ Some f =
          ap (λ y. first (own_where is_exposed y n.desc) (line w e.name)) name
          ∙ ap (λ y. first (own_where is_exposed id.name y) (line w e.name)) desc
          ∙ ap (λ y. first exposed (line w y)) same ∙ found in
          tell.outside k i e d n f h kept ground_e (subst (λ y. OnLine w y d) (sym same) on) there open_one
          (ap is_constructor name ∙ ordinary) (ap is_initialiser name ∙ initial) there_found is_h

      pub first_kept : (q : ℕ) (p : Member) → slice_get members q ≡ Some p → (x : List ℕ) (c : Class)
          → class_named (all_classes p.files) x ≡ Some c → is_interface c.flags ≡ false → OnLine w x d
          → first exposed (line w x) ≡ Some f → is_selectable h.flags ≡ true
      first_kept q p at x c named ground on found =
          let s = class_stands group (ordered_together members is) q p.files (files_at members q p at) x c named in
          climbing members is (λ q p x. Kept x) kept_own kept_shared kept_abroad q p at x c named ground on found
          s.class s.named (same_kind group q p.files c s.class s.stands ∙ ground)

    -- ---- where one of a class or an interface above can be selected

    module _ (q : ℕ) (p : Member) (at : slice_get members q ≡ Some p) (x : List ℕ) (c : Class)
        (named : class_named (all_classes p.files) x ≡ Some c) (flat : is_interface c.flags ≡ false) (b : Class)
        (at_x : class_named w x ≡ Some b) (own : b.is_imported ≡ false) (ground : is_interface b.flags ≡ false)
        (found : first exposed (line w x) ≡ Some f) where
      of_line_class : (d : Class) → OnLine w x d → (i : ℕ) (n : WorldMember) → slice_get d.methods i ≡ Some n
          → n.name ≡ id.name → n.desc ≡ id.desc → is_open n.flags ≡ true → is_selectable h.flags ≡ true
      of_line_class d on i n there name desc open_one =
          first_kept d i n there name desc open_one q p at x c named flat on found

      -- 307: a class of which objects may be has code for a method of an interface
      of_concrete : (z : IsDeclaredAbove w x id.name id.desc) → (let y = z.class in is_interface y.flags) ≡ true
          → is_abstract b.flags ≡ false → is_selectable h.flags ≡ true
      of_concrete z it concrete =
          let r : IsReceiver w x = record { class = b; named = at_x; no_interface = ground; made = inr concrete } in
          let plain : is_special (record { name = id.name; desc = id.desc }) ≡ false = neither (is_constructor id.name)
          (is_initialiser id.name) ordinary initial in
          let g = interface_has members is tell id initial ordinary plain z.class z.named it z.place z.method z.there
          z.has_name z.has_desc z.opened x r own z.below in
          let one = first_has opened (line w x) g.0 g.1 in
          let d = one.0 in
          let a = where_at is_open id.name id.desc d g.0 one.2 in
          let m = a.method in
          let names = called_parts id.name id.desc m a.called in
          of_line_class d (of_line w order.acyclic x d one.1) a.place m a.there names.0 names.1 a.passing

      of_abstract : (z : IsDeclaredAbove w x id.name id.desc) → (let y = z.class in is_interface y.flags) ≡ true
          → is_abstract b.flags ≡ true → is_selectable h.flags ≡ true
      of_abstract z it bare =
          let n = z.method in
          let y = z.class in
          let same : b.name ≡ x = class_named-name w x b at_x in
          let there_found : first (own_where is_exposed n.name n.desc) (line w b.name) ≡ Some f =
          ap (λ u. first (own_where is_exposed u n.desc) (line w b.name)) z.has_name
          ∙ ap (λ u. first (own_where is_exposed id.name u) (line w b.name)) z.has_desc
          ∙ ap (λ u. first exposed (line w u)) same ∙ found in
          tell.abstracts b y z.place n f h (ap (class_named w) same ∙ at_x) own ground bare z.named it
          (subst (λ u. Below w u y.name) (sym same) z.below) z.there z.opened there_found is_h

      pub above_kept : IsDeclaredAbove w x id.name id.desc → is_selectable h.flags ≡ true
      above_kept z =
          let d = z.class in
          ⊎_elim
          (λ it. ⊎_elim (λ bare. of_abstract z it bare) (λ concrete. of_concrete z it concrete) (true_or_false
          (is_abstract b.flags)))
          (λ plain. of_line_class d (on_line w order x d.name b d z.below at_x ground z.named plain) z.place z.method
          z.there z.has_name z.has_desc z.opened)
          (true_or_false (is_interface d.flags))
