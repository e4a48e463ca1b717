-- What look-ups in the joint world find of an interface's methods: one that is public or protected and can be selected,
-- for which selection over classes of all packages gives a method.
use Rattle.std.proofs.Common.{◌≡◌, ℕ, refl, sym, ap, subst, ◌∙◌, Bool, true, false, List, [], ◌∷◌, ◌++◌, Option}
use Rattle.std.proofs.Common.{Some, None, inl, inr, ⊎_elim}
use Rattle.std.specs.Prelude.{◌&&◌, ◌||◌, ◌⊎◌, not, option_and_then, slice_get, if◌then◌else◌}
use Rattle.cjc_bytes.specs.AccessFlags.{is_interface}
use Rattle.cjc_bytes.specs.declared.fault.MemberId.{MemberId}
use Rattle.cjc_components.specs.Package.{Package, world}
use Rattle.cjc_joint_proof.specs.JointPackages.{files_together}
use Rattle.cjc_joint_proof.specs.JointTables.{world_together}
use Rattle.cjc_joint_proof.proofs.ClassLaws.{together_at}
use Rattle.cjc_joint_theorem.proofs.OrderedLaws.Ordered.{object_abroad, ordered}
use Rattle.cjc_joint_theorem.proofs.OrderedLaws.Standing.{Stands, class_stands, from_outside, of_member, own_class}
use Rattle.cjc_joint_theorem.proofs.OrderedLaws.Standing.{same_kind}
use Rattle.cjc_jvm_semantics.specs.Group.{is_open, joint, own_where, own_within, package_of}
use Rattle.cjc_jvm_semantics.specs.Group.{selection_for}
use Rattle.cjc_jvm_semantics.specs.Linked.{Method}
use Rattle.cjc_jvm_semantics.specs.OnePackage.{ResolvedMember, is_constructor, is_initialiser, is_sendable, method_at}
use Rattle.cjc_jvm_semantics.specs.OnePackage.{method_hit}
use Rattle.cjc_theorem.proofs.AlikeLaws.VirtualCalls.Places.{member_in}
use Rattle.cjc_token_proof.proofs.WorldProofOwn.{hit_is, own_at}
use Rattle.cjc_token_proof.proofs.WrittenCalls.Facts.{Facts}
use Rattle.cjc_token_proof.proofs.WrittenCalls.Towers.{line_is}
use Rattle.cjc_token_proof.specs.Calls.Selecting.{signature}
use Rattle.cjc_token_proof.specs.NCode.Lowering.Placed.{Placed}
use Rattle.cjc_tokens.specs.Members.{In, all_methods, has, signature_of}
use Rattle.cjc_tokens.specs.Methods.{interface_methods}
use Rattle.cjc_vtable.proofs.Asked.{has-here}
use Rattle.cjc_vtable.proofs.Calls.{In-front}
use Rattle.cjc_vtable.proofs.Filed.{at-number}
use Rattle.cjc_vtable.specs.Calls.{is_special}
use Rattle.cjc_world.proofs.Cycles.{class_named-name}
use Rattle.cjc_world.proofs.Settled.{supertypes-AreSupertypes}
use Rattle.cjc_world.proofs.Trees.{lists-split}
use Rattle.cjc_world.proofs.Rising.{known-append}
use Rattle.cjc_world.proofs.UpwardLaws.Lines.{first_has, first_some, gathered_above, gathered_has, has-back, has-front}
use Rattle.cjc_world.proofs.UpwardLaws.Lines.{in_line, of_line}
use Rattle.cjc_world.specs.Classes.{Class, Member, class_named}
use Rattle.cjc_world.specs.Files.{Files}
use Rattle.cjc_world.specs.Interfaces.{gathered, known, where_listed}
use Rattle.cjc_world.specs.Lookup.{find_method, first, is_selectable, object, or_else, own_method, receiver}
use Rattle.cjc_world.specs.Supertypes.{Above, AreSupertypes, Lists, Supertypes, directly, known_here, line, onwards}
use Rattle.cjc_world.specs.Supertypes.{supertypes, unknown_here, upwards}
use Rattle.cjc_world.specs.Upwards.{Below, Has, IsOrdered, OnLine, up}
use Rattle.cjc_world.specs.Upwards as lines
use Rattle.cjc_world.specs.declared.found.Found.{Found}
use Rattle.cjc_joint_whole.specs.Selected.{SelectTogether}
use Rattle.cjc_joint_whole.specs.Sent.{sent_for, sent_of}
use Rattle.cjc_joint_whole.specs.SentFaces.{FacesStand}
use Rattle.cjc_joint_whole.proofs.WholeLaws.Nearest.{only}
use Rattle.cjc_joint_whole.proofs.WholeLaws.OpenFinds.{virtual_by}
use Rattle.cjc_joint_whole.proofs.WholeLaws.OpenHits.{seen_so}
use Rattle.cjc_joint_whole.proofs.WholeLaws.SentFacesCard.{stands_at}
use Rattle.cjc_joint_whole.proofs.WholeLaws.Shown.{open_parts, parts_open}
use Rattle.cjc_joint_whole.proofs.WholeLaws.StandingInterfaces.{top_alone}
use Rattle.cjc_joint_whole.proofs.WholeLaws.TokenMeans.{ImportsAreExposed}

same_one : {c d : Class} → Some c ≡ Some d → c ≡ d
same_one e = cc

no_class : {c : Class} → None ≡ Some c → ⊥
no_class e = cc

no_found : {f : Found} → None ≡ Some f → ⊥
no_found e = cc

off : false ≡ true → ⊥
off e = cc

-- each interface above a class or an interface is gathered from it
pub gathered_over : (w : List Class) → IsOrdered w → (x : List ℕ) (c : Class) → class_named w x ≡ Some c → (d : Class)
    → Above w x d.name → class_named w d.name ≡ Some d → is_interface d.flags ≡ true
    → Has d (known (gathered false (supertypes w (x ∷ []))))
unfolding gathered known
gathered_over w order x c named d way named_d it = by (supertypes w (x ∷ [])) (supertypes-AreSupertypes w order.acyclic
    (x ∷ []))
  where
    -- over a name that it lists
    over : (b : Class) (s j next : Supertypes) → class_named w x ≡ Some b → AreSupertypes w b.supers s
        → AreSupertypes w b.interfaces j → (z : List ℕ) → Lists z (b.supers ++ b.interfaces) → Below w z d.name
        → Has d (known (gathered false s ++ gathered true j ++ where_listed false (record {
          name = b.name;
          class = Some b;
        }) ++ gathered false next))
    over b s j next e sk ik z l far =
        let S = gathered false s in
        let J = gathered true j in
        let self = where_listed false (record { name = b.name; class = Some b }) in
        let N = gathered false next in
        subst (Has d) (sym (known-append (S ++ J ++ self) N)) (has-front d (known (S ++ J ++ self)) (known N)
        (subst (Has d) (sym (known-append (S ++ J) self)) (has-front d (known (S ++ J)) (known self)
        (subst (Has d) (sym (known-append S J)) (⊎_elim
        (λ a. has-front d (known S) (known J) (gathered_has w order false z b.supers s d.name d sk a far named_d it
        (λ v h. inr (order.supers x z b v e a h))))
        (λ i. has-back d (known S) (known J) (gathered_has w order true z b.interfaces j d.name d ik i far named_d it
        (λ v h. inl refl)))
        (lists-split z b.supers b.interfaces l))))))

    step : (b : Class) (s j next : Supertypes) → class_named w x ≡ Some b → AreSupertypes w b.supers s
        → AreSupertypes w b.interfaces j → (y : List ℕ) → y ≡ d.name → Above w x y
        → Has d (known (gathered false s ++ gathered true j ++ where_listed false (record {
          name = b.name;
          class = Some b;
        }) ++ gathered false next))
    step b s j next e sk ik y same (directly a f l) =
        over b s j next e sk ik y (subst (λ (v : Class). Lists y (v.supers ++ v.interfaces)) (same_one (sym f ∙ e)) l)
        (inl same)
    step b s j next e sk ik y same (onwards {y = z} a f l rest) =
        over b s j next e sk ik z (subst (λ (v : Class). Lists z (v.supers ++ v.interfaces)) (same_one (sym f ∙ e)) l)
        (inr (subst (Above w z) same rest))

    by : (k : Supertypes) → AreSupertypes w (x ∷ []) k → Has d (known (gathered false k))
    by _ (unknown_here e n) = absurd (no_class (sym e ∙ named))
    by _ (known_here {c = b} {supers = s} {interfaces = j} {next = next} e sk ik n) =
        step b s j next e sk ik d.name refl way

module _ (packages : List Package) (is : SelectTogether packages) (facts : (q : ℕ) (p : Package)
    → slice_get packages q ≡ Some p → Facts p) (exposed : (q : ℕ) (p : Package) → slice_get packages q ≡ Some p
    → ImportsAreExposed p) (fair : FacesStand packages) (at : Method → Placed) where
  abbrev group : List Files
  group = files_together packages

  abbrev w : List Class
  w = world_together packages

  order : IsOrdered w
  order = ordered group is.ordered

  -- ---- methods of interfaces

  -- each method of an interface but its initialiser is public or protected, and can be selected
  pub face_open : (z : Class) → class_named w z.name ≡ Some z → is_interface z.flags ≡ true → (k : ℕ) (m : Member)
      → slice_get z.methods k ≡ Some m → is_initialiser m.name ≡ false → is_open m.flags ≡ true
  face_open z named it k m there initial =
      let s = stands_at packages is facts z.name z named in
      fair.opened s.part k s.«package» z.name s.class m s.here s.known (sym (ap is_interface s.same_flags) ∙ it)
      (ap (λ (ms : List Member). slice_get ms k) (sym s.same_methods) ∙ there) initial

  -- ---- java/lang/Object

  pub plain_object : (q : ℕ) (p : Package) → slice_get packages q ≡ Some p → (o : Class)
      → class_named w object ≡ Some o → is_interface o.flags ≡ false
  plain_object q p it o named =
      let f = facts q p it in
      let a = f.object_class in
      let hs = class_stands group is.ordered q p.files (together_at packages is.linked q p it) object a.0 a.1 in
      ap (λ (d : Class). is_interface d.flags) (same_one (sym named ∙ hs.named))
      ∙ same_kind group q p.files a.0 hs.class hs.stands ∙ a.3

  -- it has the methods that each package finds there
  same_object : (q : ℕ) (p : Package) → slice_get packages q ≡ Some p → (a : Class)
      → class_named (world p) object ≡ Some a → a.is_imported ≡ true → (o : Class) → class_named w object ≡ Some o
      → o.methods ≡ a.methods
  same_object q p it a named imp o at_o =
      let hs = class_stands group is.ordered q p.files (together_at packages is.linked q p it) object a named in
      let one : o ≡ hs.class = same_one (sym at_o ∙ hs.named) in
      ap (λ (k : Class). k.methods) one
      ∙ by a hs.class hs.stands imp (ap (λ (k : Class). k.is_imported) (sym one) ∙ object_abroad group is.ordered o
      at_o)
    where
      by : (c d : Class) → Stands group q p.files c d → c.is_imported ≡ true → d.is_imported ≡ true
          → d.methods ≡ c.methods
      by _ _ (own_class k t own) e f = absurd (off e)
      by _ _ (of_member n x j k m t lt own name kind) e f = absurd (off f)
      by _ _ (from_outside n k x there) e f = refl

  -- nothing is sent by the name of a constructor or an initialiser
  pub special_none : (id : MemberId) → is_special (signature id) ≡ true → (x : List ℕ) (o : Option Found)
      → sent_of packages at x id true o ≡ None
  special_none id special x None = refl
  special_none id special x (Some f) = by (method_hit w f)
    where
      unsendable : (a b c : Bool) → (b || c) ≡ true → (a && not b && not c) ≡ false
      unsendable true true c e = refl
      unsendable true false true e = refl
      unsendable true false false e = absurd (off e)
      unsendable false b c e = refl

      by : (o : Option ResolvedMember) → option_and_then (sent_for packages at x id true) o ≡ None
      by None = refl
      by (Some hit) = ap (λ b. if b && true then option_and_then (method_at (joint group)) (selection_for w hit x id)
          else None) (unsendable (is_selectable hit.flags) (is_constructor id.name) (is_initialiser id.name) special)

  module _ (id : MemberId) (initial : is_initialiser id.name ≡ false) where
    abbrev finds : Class → Option Found
    finds = own_method false id.name id.desc

    -- the interfaces behind the line
    abbrev pub behind : List ℕ → List Class
    behind y = known (gathered false (supertypes w (y ∷ [])))

    pub find_is : (y : List ℕ) → find_method w y id.name id.desc ≡ or_else (first finds (line w y)) (first finds
        (behind y))
    unfolding find_method
    find_is y = refl

    -- what is found in a class of the joint world
    pub record FoundIn (z : Class) (f : Found) : Type 0 where
      pub place : ℕ
      pub method : Member
      pub there : slice_get z.methods place ≡ Some method
      pub has_name : method.name ≡ id.name
      pub has_desc : method.desc ≡ id.desc
      pub is_hit : method_hit w f ≡ Some (record { owner = z; flags = method.flags })

    pub found_in : (z : Class) (f : Found) → class_named w z.name ≡ Some z → finds z ≡ Some f → FoundIn z f
    found_in z f named e =
        let a = own_at false id.name id.desc z f e in
        record {
          place = a.place;
          method = a.member;
          there = a.is_member;
          has_name = a.has_name;
          has_desc = a.has_desc;
          is_hit = ap (method_hit w) a.is ∙ hit_is w z a.place a.member (at-number (joint group) z.name z named)
              a.is_member;
        }

    -- on the line of an interface stand it and java/lang/Object
    on_its_line : (y : List ℕ) (d z : Class) → class_named w y ≡ Some d → is_interface d.flags ≡ true → OnLine w y z
        → (z ≡ d) ⊎ (class_named w object ≡ Some z)
    on_its_line y d z named it (lines.here e) = inl (same_one (sym e ∙ named))
    on_its_line y d z named it (up {s = s} b e l rest) =
        let one : b ≡ d = same_one (sym e ∙ named) in
        let is_top : s ≡ object = order.only_object y s b e (ap (λ (c : Class). is_interface c.flags) one ∙ it) l in
        inr (top_alone w order z (subst (λ x. OnLine w x z) is_top rest))

    -- what is found in a class there is found in the interface, or in java/lang/Object
    found_there : (y : List ℕ) (d z : Class) → class_named w y ≡ Some d → is_interface d.flags ≡ true → OnLine w y z
        → (f : Found) → finds z ≡ Some f → (finds d ≡ Some f) ⊎ ((o : Class) × (class_named w object ≡ Some o)
        × (finds o ≡ Some f))
    found_there y d z named it way f has = by (on_its_line y d z named it way)
      where
        by : (z ≡ d) ⊎ (class_named w object ≡ Some z) → (finds d ≡ Some f) ⊎ ((o : Class)
            × (class_named w object ≡ Some o) × (finds o ≡ Some f))
        by (inl one) = inl (subst (λ (c : Class). finds c ≡ Some f) one has)
        by (inr top) = inr (z, top, has)

    -- so it is of what the line finds
    pub line_found : (y : List ℕ) (d : Class) → class_named w y ≡ Some d → is_interface d.flags ≡ true → (f : Found)
        → first finds (line w y) ≡ Some f → (finds d ≡ Some f) ⊎ ((o : Class) × (class_named w object ≡ Some o)
        × (finds o ≡ Some f))
    line_found y d named it f e =
        let r = first_has finds (line w y) f e in
        found_there y d r.0 named it (of_line w order.acyclic y r.0 r.1) f r.2

    -- where the interface has none, it goes as from java/lang/Object
    pub top_found : (y : List ℕ) (d : Class) → class_named w y ≡ Some d → is_interface d.flags ≡ true → finds d ≡ None
        → Lists object d.supers → first finds (line w y) ≡ first finds (line w object)
    top_found y d named it none listed = by (first finds (line w y)) (first finds (line w object)) refl refl
      where
        -- what is found from java/lang/Object is its own
        of_top : (g : Found) → first finds (line w object) ≡ Some g → (o : Class) × (class_named w object ≡ Some o)
            × (finds o ≡ Some g)
        of_top g e =
            let r = first_has finds (line w object) g e in
            (r.0, top_alone w order r.0 (of_line w order.acyclic object r.0 r.1), r.2)

        by : (a b : Option Found) → first finds (line w y) ≡ a → first finds (line w object) ≡ b → a ≡ b
        by None None e f = refl
        by None (Some g) e f =
            let o = of_top g f in
            let r = first_some finds (line w y) o.0 g (in_line w order.acyclic y o.0 (up d named listed (lines.here
            o.1))) o.2 in
            absurd (no_found (sym e ∙ r.1))
        by (Some f) b e g =
            ⊎_elim (λ own. absurd (no_found (sym none ∙ own)))
            (λ top.
            (let r = first_some finds (line w object) top.0 f (in_line w order.acyclic object top.0 (lines.here top.1))
            top.2 in
            let o = of_top r.0 r.1 in
            let one : o.0 ≡ top.0 = same_one (sym o.1 ∙ top.1) in
            sym top.2 ∙ ap finds (sym one) ∙ o.2 ∙ sym r.1 ∙ g))
            (line_found y d named it f e)

    -- an interface above has it where the look-up goes through interfaces
    pub behind_has : (y : List ℕ) (d z : Class) → class_named w y ≡ Some d → Above w y z.name → class_named w z.name
        ≡ Some z → is_interface z.flags ≡ true → (g : Found) → finds z ≡ Some g → (f : Found)
        × (first finds (behind y) ≡ Some f)
    behind_has y d z named way named_z it g e =
        first_some finds (behind y) z g (gathered_over w order y d named z way named_z it) e

    -- and what it finds there is of one
    pub record IsBehind (y : List ℕ) (f : Found) : Type 0 where
      pub face : Class
      pub below : Below w y face.name
      pub named : class_named w face.name ≡ Some face
      pub it : is_interface face.flags ≡ true
      pub its : FoundIn face f

    pub behind_found : (y : List ℕ) (f : Found) → first finds (behind y) ≡ Some f → IsBehind y f
    behind_found y f e =
        let one = first_has finds (behind y) f e in
        let a = gathered_above w order false (y ∷ []) (supertypes w (y ∷ [])) one.0 (supertypes-AreSupertypes w
        order.acyclic (y ∷ [])) (λ no. absurd (off no)) one.1 in
        record {
          face = one.0;
          below = subst (λ x. Below w x (let z = one.0 in z.name)) (only a.0 y a.1) a.2;
          named = a.3;
          it = a.4;
          its = found_in one.0 f a.3 one.2;
        }

    -- ---- what is sent

    module _ (ordinary : is_constructor id.name ≡ false) where
      abbrev opened : Class → Option Found
      opened = own_where is_open id.name id.desc

      -- what selection over classes of all packages gives
      pub open_sent : (x : List ℕ) → receiver x ≡ x → (f : Found) (z : Class) (s : FoundIn z f) → is_open (let m
          = s.method in m.flags) ≡ true → sent_of packages at x id true (Some f) ≡ option_and_then (method_at (joint
          group)) (first opened (line w x))
      open_sent x itself f z s open_one =
          let m = s.method in
          let parts = open_parts m.flags open_one in
          let hit : ResolvedMember = record { owner = z; flags = m.flags } in
          let within = own_within (package_of z.name) id.name id.desc in
          ap (option_and_then (sent_for packages at x id true)) s.is_hit
          ∙ ap (λ b. if b && true then option_and_then (method_at (joint group)) (selection_for w hit x id) else None)
          (sendable (is_selectable m.flags) (is_constructor id.name) (is_initialiser id.name) parts.0 ordinary initial)
          ∙ ap (λ b. option_and_then (method_at (joint group)) (if b then first within (line w (receiver x)) else first
          opened (line w (receiver x)))) (seen_so m.flags parts.1)
          ∙ ap (λ y. option_and_then (method_at (joint group)) (first opened (line w y))) itself
        where
          sendable : (a b c : Bool) → a ≡ true → b ≡ false → c ≡ false → (a && not b && not c) ≡ true
          sendable true false false e f g = refl
          sendable false b c e f g = absurd (off e)
          sendable a true c e f g = absurd (off (sym f))
          sendable a b true e f g = absurd (off (sym g))

      pub face_sent : (x : List ℕ) → receiver x ≡ x → (f : Found) (z : Class) → class_named w z.name ≡ Some z
          → is_interface z.flags ≡ true → FoundIn z f → sent_of packages at x id true (Some f)
          ≡ option_and_then (method_at (joint group)) (first opened (line w x))
      face_sent x itself f z named it s = open_sent x itself f z s (face_open z named it s.place s.method s.there
          (ap is_initialiser s.has_name ∙ initial))

      -- so it is of java/lang/Object where an interface has the method
      pub top_sent : (x : List ℕ) → receiver x ≡ x → (q : ℕ) (p : Package) → slice_get packages q ≡ Some p
          → (y : List ℕ) (i : Class) → class_named (world p) y ≡ Some i → is_interface i.flags ≡ true → (t : ℕ)
          → slice_get (interface_methods (world p) i) t ≡ Some (signature id) → (o : Class)
          → class_named w object ≡ Some o → (f : Found) → finds o ≡ Some f → sent_of packages at x id true (Some f)
          ≡ option_and_then (method_at (joint group)) (first opened (line w x))
      top_sent x itself q p it y i known face t has_it o named f e =
          let fact = facts q p it in
          let a = fact.object_class in
          let v = world p in
          let o_name : class_named w o.name ≡ Some o = ap (class_named w) (class_named-name w object o named)
          ∙ named in
          let s = found_in o f o_name e in
          let m = s.method in
          let at_a : slice_get (let k = a.0 in k.methods) s.place ≡ Some m = ap (λ (ms : List Member). slice_get ms
          s.place) (sym (same_object q p it a.0 a.1 a.2 o named)) ∙ s.there in
          let among : In m (all_methods (line v object)) = subst (λ (cs : List Class). In m (all_methods cs)) (sym
          (line_is p fact object a.0 a.1)) (In-front m (let k = a.0 in k.methods) (all_methods (upwards (supertypes v
          (let k = a.0 in k.supers)))) (member_in (let k = a.0 in k.methods) s.place m at_a)) in
          let names : signature_of m ≡ signature id = ap (λ z. record { name = z; desc = m.desc }) s.has_name
          ∙ ap (λ z. record { name = id.name; desc = z }) s.has_desc in
          let sends = fair.sends q p it in
          let selectable = sends.objects y i known face m among (ap (has (interface_methods v i)) names
          ∙ has-here (interface_methods v i) t (signature id) has_it) in
          let seen = exposed q p it object a.0 s.place m a.1 a.2 a.3 at_a (virtual_by m selectable (ap is_special names
          ∙ either (is_constructor id.name) (is_initialiser id.name) ordinary initial)) in
          open_sent x itself f o s (parts_open m.flags selectable seen)
        where
          either : (a b : Bool) → a ≡ false → b ≡ false → (a || b) ≡ false
          either false false e f = refl
          either true b e f = absurd (off (sym e))
          either a true e f = absurd (off (sym f))
