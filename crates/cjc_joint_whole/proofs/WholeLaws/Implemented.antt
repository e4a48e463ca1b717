-- A class file of which objects may be has a public or protected method that can be selected for each such method of an
-- interface above it in the joint world (307).
use Rattle.std.proofs.Common.{◌≡◌, ◌+◌, ℕ, refl, sym, ap, subst, ◌∙◌, Bool, true, false, List, [], ◌∷◌, length, Option, Some, None}
use Rattle.std.proofs.Common.{inl, inr, ⊎_elim}
use Rattle.std.specs.Prelude.{◌⊎◌, ◌&&◌, ◌||◌, not, option_map, slice_get}
use Rattle.std.specs.List.{list_any}
use Rattle.std.specs.Str.{bytes_eq}
use Rattle.cjc_bytes.specs.AccessFlags.{is_abstract, is_interface, is_protected, is_public}
use Rattle.cjc_bytes.specs.declared.fault.MemberId.{MemberId}
use Rattle.cjc_bytes.proofs.Bools.{true_not_false, true_or_false}
use Rattle.cjc_bytes.proofs.Gets.{any_off}
use Rattle.cjc_bytes.proofs.Lists.{bytes_true}
use Rattle.cjc_jvm_semantics.specs.Group.{is_exposed, is_open, is_package_visible, own_where}
use Rattle.cjc_jvm_semantics.specs.OnePackage.{ResolvedMember, is_constructor, is_initialiser, method_hit}
use Rattle.cjc_tokens.specs.Members.{Signature}
use Rattle.cjc_vtable.specs.Calls.{is_special}
use Rattle.cjc_vtable.specs.Kept.{IsUnbroken}
use Rattle.cjc_vtable.proofs.Clean.{coded-declared, coded-imported}
use Rattle.cjc_vtable.proofs.Filed.{IsFiled, filed, get-has, in_class_file, in_export_file, of-imports}
use Rattle.cjc_world.specs.ClassFile.declared.tree.ClassTree.{ClassTree}
use Rattle.cjc_world.specs.Classes.{Class, Member as WorldMember, all_classes, class_named, declared, imported}
use Rattle.cjc_world.specs.Classes.{method_of_export}
use Rattle.cjc_world.specs.Files.{Files}
use Rattle.cjc_world.specs.Interfaces.{has_interface}
use Rattle.cjc_world.specs.Lookup.{first, is_called, is_selectable, member_at, own_method, receiver, selected}
use Rattle.cjc_world.specs.Supertypes.{Lists, is_below, line}
use Rattle.cjc_world.specs.Upwards.{Below, IsOrdered, OnLine, here, up}
use Rattle.cjc_world.specs.declared.found.Found.{Found}
use Rattle.cjc_world.proofs.Cycles.{class_named-name}
use Rattle.cjc_world.proofs.UpwardLaws.Lines.{below_abroad, below_on, first_has, first_some, has_interface_above, in_line}
use Rattle.cjc_world.proofs.UpwardLaws.Lines.{line_begins, line_below, line_named, of_line, on_line}
use Rattle.cjc_shape_proof.specs.WorldProof.Calls.Solid.{HasCode, IsConcrete, IsSolid}
use Rattle.cjc_shape_proof.specs.WorldProof.Calls.Targets.{IsReceiver}
use Rattle.cjc_token_proof.proofs.WorldProofOwn.{hit_is, is_found, mapped_at, own_at, own_is}
use Rattle.cjc_token_proof.proofs.WorldProofSelects.{called_by}
use Rattle.cjc_token_proof.proofs.WorldProofTypes.{receiver_class}
use Rattle.cjc_token_proof.specs.Subset.Checks.{check_breaks}
use Rattle.cjc_token_proof.specs.Subset.Members as subset
use Rattle.cjc_token_proof.specs.Subset.Members.{imports}
use Rattle.cjc_token_proof.specs.Subset.Overriding.{has_no_code, is_unfit_selection, lacks_code}
use Rattle.cjc_joint_proof.specs.Worlds.{before}
use Rattle.cjc_joint_proof.proofs.SoundLaws.{apart}
use Rattle.cjc_joint_proof.proofs.WorldLaws.{own_is_found}
use Rattle.cjc_joint_theorem.specs.Members.{Member, files_of}
use Rattle.cjc_joint_theorem.specs.Together.Homes.{joint_world}
use Rattle.cjc_joint_theorem.proofs.MembersLaws.Worlds.{member_at as member_of_files}
use Rattle.cjc_joint_theorem.proofs.OrderedLaws.Ordered.{IsJoint, joint_class, ordered, outside_file, own_file}
use Rattle.cjc_joint_whole.specs.Told.{IsDeclaredAbove, IsToldAbove}
use Rattle.cjc_joint_whole.specs.Whole.{AreWholeWith}
use Rattle.cjc_joint_whole.proofs.WholeLaws.Asked.{seen_above}
use Rattle.cjc_joint_whole.proofs.WholeLaws.Exposed.{named_here, own_here}
use Rattle.cjc_joint_whole.proofs.WholeLaws.HiddenStands.{shown_entry}
use Rattle.cjc_joint_whole.proofs.WholeLaws.Members.{ordered_together}
use Rattle.cjc_joint_whole.proofs.WholeLaws.Nearest.{line_ground, only}
use Rattle.cjc_joint_whole.proofs.WholeLaws.Opened.{once_called, selects_at}
use Rattle.cjc_joint_whole.proofs.WholeLaws.Shown.{SelectsBy, Shows, called_parts, open_parts, parts_open, shows_above}
use Rattle.cjc_joint_whole.proofs.WholeLaws.Shown.{shows_here, where_at}
use Rattle.cjc_joint_whole.proofs.WholeLaws.Solid.{solid_at}
use Rattle.cjc_joint_whole.proofs.WholeLaws.Specials.{tested_method}
use Rattle.cjc_joint_whole.proofs.WholeLaws.Sources.{below_stays, source}

-- ---- tests

-- what can be selected and is not package-visible is open
pub open_by : (flags : ℕ) → is_selectable flags ≡ true → is_package_visible flags ≡ false → is_open flags ≡ true
open_by flags e f = by (is_selectable flags) (is_package_visible flags) e f
  where
    by : (a b : Bool) → a ≡ true → b ≡ false → (a && not b) ≡ true
    by true false e f = refl
    by true true e f = absurd cc
    by false b e f = absurd cc

-- a public one is exposed
public_exposed : (flags : ℕ) → is_public flags ≡ true → is_exposed flags ≡ true
public_exposed flags e = ap (λ b. b || is_protected flags) e

-- 307 asks for code of a method of an interface, and for a public one
is_asked : (a n q : Bool) {u : Bool} → q ≡ false → (((a || true) && not (n && q)) && u) ≡ false → u ≡ false
is_asked true true false e f = f
is_asked true false false e f = f
is_asked false true false e f = f
is_asked false false false e f = f
is_asked a n true e f = absurd cc

public_of : (o : Option subset.ResolvedMember) → is_unfit_selection true o ≡ false → (h : subset.ResolvedMember)
    × (o ≡ Some h) × (is_public h.flags ≡ true)
public_of None e = absurd cc
public_of (Some h) e = (h, refl, by (is_abstract h.flags) (is_public h.flags) e)
  where
    by : (a p : Bool) → (a || (true && not p)) ≡ false → p ≡ true
    by false true e = refl
    by false false e = absurd cc
    by true p e = absurd cc

some_flags : {a b : subset.ResolvedMember} → Some a ≡ Some b → a.flags ≡ b.flags
some_flags e = cc

same_place_found : {f g : Found} → Some f ≡ Some g → f ≡ g
same_place_found e = cc

same_hit : {a b : ResolvedMember} → Some a ≡ Some b → a ≡ b
same_hit e = cc

same_class : {c d : Class} → Some c ≡ Some d → c ≡ d
same_class e = cc

module _ {K : _} (members : List Member) (is : AreWholeWith K members) (tell : IsToldAbove members) where
  abbrev group : List Files
  group = files_of members

  abbrev w : List Class
  w = joint_world group

  module _ (id : MemberId) (initial : is_initialiser id.name ≡ false) (ordinary : is_constructor id.name ≡ false)
      (plain : is_special (record { name = id.name; desc = id.desc }) ≡ false) where
    abbrev s : Signature
    s = record { name = id.name; desc = id.desc }

    abbrev opened : Class → Option Found
    opened = own_where is_open id.name id.desc

    abbrev selecting : Class → Option Found
    selecting = own_method true id.name id.desc

    module _ (q : ℕ) (p : Member) (at : slice_get members q ≡ Some p) where
      abbrev v : List Class
      v = all_classes p.files

      solid : IsSolid p.files
      solid = solid_at members is q p at

      order : IsOrdered v
      order = solid.ordered

      by_rules : SelectsBy v
      by_rules = selects_at members is q p at

      single : (x : List ℕ) (c : Class) → class_named v x ≡ Some c → c.is_imported ≡ false → (y : List ℕ)
          × (c.supers ≡ y ∷ [])
      single x c named mine =
          let t = solid.own x c named mine in
          ((let k = t.0 in k.superclass), ap (λ (d : Class). d.supers) t.2)

      -- an imported class lists such methods alone
      pub open_abroad : (x : List ℕ) (d : Class) → class_named v x ≡ Some d → d.is_imported ≡ true → is_interface d.flags
          ≡ false → (i : ℕ) (m : WorldMember) → slice_get d.methods i ≡ Some m → m.name ≡ id.name → is_selectable m.flags
          ≡ true → is_open m.flags ≡ true
      open_abroad x d named imp ground i m there name may = by d (filed p.files x d named) imp ground there
        where
          by : (d : Class) → IsFiled p.files d → d.is_imported ≡ true → is_interface d.flags ≡ false
              → slice_get d.methods i ≡ Some m → is_open m.flags ≡ true
          by _ (in_class_file n t file) imp ground there = absurd cc
          by _ (in_export_file n e file) imp ground there =
              let y = mapped_at method_of_export e.methods i m there in
              let flags : m.flags ≡ (let k = y.0 in k.flags) = ap (λ (k : WorldMember). k.flags) y.2 in
              let its_name : (let k = y.0 in k.name) ≡ id.name = sym (ap (λ (k : WorldMember). k.name) y.2) ∙ name in
              open_by m.flags may (ap is_package_visible flags ∙ shown_entry members is q p at n e file ground i y.0 y.1
              (sym (ap is_selectable flags) ∙ may) (ap is_constructor its_name ∙ ordinary) (ap is_initialiser its_name
              ∙ initial))

      -- what selection gives on a class where one stands on its line (305)
      on_line_shows : (x : List ℕ) (d : Class) → OnLine v x d → (c : Class) → class_named v x ≡ Some c → is_interface
          c.flags ≡ false → (i : ℕ) (m : WorldMember) → slice_get d.methods i ≡ Some m → m.name ≡ id.name
          → m.desc ≡ id.desc → is_open m.flags ≡ true → (flags : ℕ) × Shows v x s flags
      on_line_shows x d (here e) c named ground i m there name desc open_one = (
        m.flags,
        shows_here v by_rules s plain x d e i m there (called_by id.name id.desc m name desc) (once_called members is q
            p at x d e i m there id.name id.desc name desc) open_one,
      )
      on_line_shows x d (up {s = y} b e l rest) c named ground i m there name desc open_one =
          let r = line_begins v y d rest in
          let more = on_line_shows y d rest r.0 r.1 (order.supers x y b r.0 e l r.1) i m there name desc open_one in
          ⊎_elim (λ imp. abroad imp) (λ mine. own mine (opened b) refl more) (true_or_false b.is_imported)
        where
          on_all : OnLine v x d
          on_all = up b e l rest

          here_one : (g : Found) → opened b ≡ Some g → (flags : ℕ) × Shows v x s flags
          here_one g f =
              let a = where_at is_open id.name id.desc b g f in
              let k = a.method in
              let names = called_parts id.name id.desc k a.called in (
                k.flags,
                shows_here v by_rules s plain x b e a.place k a.there a.called (once_called members is q p at x b e
                    a.place k a.there id.name id.desc names.0 names.1) a.passing,
              )

          above_one : (flags : ℕ) × Shows v y s flags → b.is_imported ≡ false → opened b ≡ None → (flags : ℕ)
              × Shows v x s flags
          above_one r mine none =
              let one = single x b e mine in
              let super : y ≡ one.0 = only y one.0 (subst (Lists y) one.1 l) in
              (r.0, shows_above v by_rules s plain x y b e mine (one.1 ∙ ap (λ z. z ∷ []) (sym super)) none r.0 r.1)

          own : b.is_imported ≡ false → (o : Option Found) → opened b ≡ o → (flags : ℕ) × Shows v y s flags → (flags : ℕ)
              × Shows v x s flags
          own mine (Some g) f more = here_one g f
          own mine None f more = above_one more mine f

          abroad : b.is_imported ≡ true → (flags : ℕ) × Shows v x s flags
          abroad imp =
              let parts = open_parts m.flags open_one in
              let has = own_is true id.name id.desc d i m there parts.0 (called_by id.name id.desc m name desc) in
              let g = first_some selecting (line v x) d has.0 (in_line v order.acyclic x d on_all) has.1 in
              let one = first_has selecting (line v x) g.0 g.1 in
              let a = one.0 in
              let on_a = of_line v order.acyclic x a one.1 in
              let at_a = own_at true id.name id.desc a g.0 one.2 in
              let k = at_a.member in
              let named_a = line_named v x a on_a in
              let far = below_abroad v order x a.name b a (line_below v x a on_a) e imp named_a in
              let plain_a = line_ground v order single x a on_a c named ground in
              let open_a = open_abroad a.name a named_a far plain_a at_a.place k at_a.is_member at_a.has_name at_a.wanted
              in
              let both = open_parts k.flags open_a in (
                k.flags,
                record {
                  place = g.0;
                  found = g.1;
                  hit = record { owner = a; flags = k.flags };
                  is_hit = ap (method_hit v) at_a.is ∙ hit_is v a at_a.place k (solid.numbered a.name a named_a)
                      at_a.is_member;
                  selectable = both.0;
                  exposed = both.1;
                  has_flags = refl;
                },
              )

      -- ---- a class of which objects may be

      module _ (n : ℕ) (t : ClassTree) (file : (let f = p.files in slice_get f.classes n ≡ Some t))
          (named : class_named v t.name ≡ Some (declared n t)) (ground : is_interface t.flags ≡ false)
          (concrete : is_abstract t.flags ≡ false) where
        is_concrete : IsConcrete (declared n t)
        is_concrete = record { own = refl; no_interface = ground; no_abstract = concrete }

        itself : receiver t.name ≡ t.name
        itself = receiver_class t.name (solid.plain t.name (declared n t) named)

        -- the code for a method of an interface is public
        public_code : (d : Class) (i : ℕ) (m : WorldMember) → class_named v d.name ≡ Some d → is_interface d.flags ≡ true
            → Below v t.name d.name → slice_get d.methods i ≡ Some m → is_initialiser m.name ≡ false
            → (h : subset.ResolvedMember) × (subset.hit v false (selected v t.name m.name m.desc) ≡ Some h)
            × (is_public h.flags ≡ true)
        public_code d i m named_d it way there other =
            by d (filed p.files d.name d named_d) (inherited (is_below v t.name d.name) (has_interface v t.name d.name)
            (bytes_eq t.name d.name) has (apart (bytes_eq t.name d.name) refl)) it there
          where
            off : (let one = is.each q p at in IsUnbroken 307 (check_breaks one.list p.files one.codes one.settings))
            off =
                let one = is.each q p at in
                let whole = one.whole in
                let u = whole.unbroken in
                subst (IsUnbroken 307) (sym u.checks) (λ b j g. elim j [ ])

            has : has_interface v t.name d.name ≡ true
            has = has_interface_above v order t.name (declared n t) d named ground way named_d it

            inherited : (a b c : Bool) → b ≡ true → c ≡ false → ((a || b) && not c) ≡ true
            inherited true true false e f = refl
            inherited false true false e f = refl
            inherited a false c e f = absurd cc
            inherited a b true e f = absurd cc

            apart : (b : Bool) → bytes_eq t.name d.name ≡ b → bytes_eq t.name d.name ≡ false
            apart false e = e
            apart true e =
                let same : declared n t ≡ d = same_class (sym named ∙ ap (class_named v) (bytes_true t.name d.name e)
                ∙ named_d) in
                absurd (true_not_false (is_interface d.flags) it (sym (ap (λ (c : Class). is_interface c.flags) same)
                ∙ ground))

            only_code : (a b : Bool) → a ≡ false → (not a && b) ≡ false → b ≡ false
            only_code false b e f = f
            only_code true b e f = absurd cc

            told : (e : Class) → lacks_code v t e ≡ false → is_interface e.flags ≡ true → slice_get e.methods i ≡ Some m
                → (h : subset.ResolvedMember) × (subset.hit v false (selected v t.name m.name m.desc) ≡ Some h)
                × (is_public h.flags ≡ true)
            told e lacks is_one there =
                let none = any_off (λ k. has_no_code v t e k) e.methods i m (only_code (is_abstract t.flags)
                (list_any (λ k. has_no_code v t e k) e.methods) concrete lacks) there in
                let fit = is_asked (is_abstract m.flags) (not e.is_imported) (is_initialiser m.name)
                {u = is_unfit_selection (is_interface e.flags) (subset.hit v false (selected v t.name m.name m.desc))}
                other (ap (λ b. ((is_abstract m.flags || b) && not (not e.is_imported && is_initialiser m.name))
                && is_unfit_selection (is_interface e.flags) (subset.hit v false (selected v t.name m.name m.desc)))
                (sym is_one) ∙ none) in
                public_of (subset.hit v false (selected v t.name m.name m.desc))
                (ap (λ b. is_unfit_selection b (subset.hit v false (selected v t.name m.name m.desc))) (sym is_one)
                ∙ fit)

            by : (e : Class) → IsFiled p.files e → ((is_below v t.name e.name || has_interface v t.name e.name)
                && not (bytes_eq t.name e.name)) ≡ true → is_interface e.flags ≡ true → slice_get e.methods i ≡ Some m
                → (h : subset.ResolvedMember) × (subset.hit v false (selected v t.name m.name m.desc) ≡ Some h)
                × (is_public h.flags ≡ true)
            by _ (in_class_file l u at_u) above is_one there =
                let one = is.each q p at in
                let f = p.files in
                told (declared 0 u) (coded-declared one.list p.files one.codes one.settings off t u (get-has t f.classes n
                file) (get-has u f.classes l at_u) above) is_one there
            by _ (in_export_file l u at_u) above is_one there =
                let one = is.each q p at in
                let f = p.files in
                let tree = of-imports u f.exports (get-has u (imports f.exports) l at_u) in
                told (imported 0 u) (coded-imported one.list p.files one.codes one.settings off t tree.0 u (get-has t
                f.classes n file) tree.1 tree.2 above) is_one there

        code_at : (d : Class) (i : ℕ) (m : WorldMember) → class_named v d.name ≡ Some d → OnLine v t.name d
            ⊎ (Below v t.name d.name × (is_interface d.flags ≡ true)) → slice_get d.methods i ≡ Some m
            → m.name ≡ id.name → m.desc ≡ id.desc → (is_abstract m.flags ≡ true) ⊎ (is_interface d.flags ≡ true)
            → HasCode v t.name id.name id.desc
        code_at d i m named_d way there name desc asks =
            let code = solid.implemented t.name (declared n t) d i m named is_concrete named_d way there asks
            (ap is_initialiser name ∙ initial) in
            subst (λ y. HasCode v t.name y id.desc) name (subst (λ y. HasCode v t.name m.name y) desc code)

        named_there : class_named w t.name ≡ Some (declared (before group q + n) t)
        named_there = own_is_found group (apart group is.sound) q n p.files t (own_here members is q p at n t file)

        -- a class above that has one
        by_class : (e : Class) → class_named w e.name ≡ Some e → Below w t.name e.name → is_interface e.flags ≡ false
            → (i : ℕ) (m : WorldMember) → slice_get e.methods i ≡ Some m → m.name ≡ id.name → m.desc ≡ id.desc
            → is_open m.flags ≡ true → (f : Found) × (first opened (line w t.name) ≡ Some f)
        by_class e named_e way plain_e i m there name desc open_one =
            let together = ordered group (ordered_together members is) in
            let on = on_line w together t.name e.name (declared (before group q + n) t) e way named_there ground named_e
            plain_e in
            let passes : (is_open m.flags && is_called id.name id.desc m) ≡ true = ap (λ b. b && is_called id.name
            id.desc m) open_one ∙ called_by id.name id.desc m name desc in
            let place = is_found (λ (k : WorldMember). is_open k.flags && is_called id.name id.desc k) e.methods i m there
            passes in
            let own : opened e ≡ Some (member_at e (length e.fields + place.0)) = ap (option_map (λ k. member_at e
            (length e.fields + k))) place.1 in
            first_some opened (line w t.name) e (member_at e (length e.fields + place.0)) (in_line w together.acyclic
            t.name e on) own

        -- what is selected and is no abstract one
        by_code : (code : HasCode v t.name id.name id.desc) → is_open (let h = code.hit in h.flags) ≡ true → (f : Found)
            × (first opened (line w t.name) ≡ Some f)
        unfolding selected
        by_code code open_one =
            let found : first selecting (line v t.name) ≡ Some code.place = ap (λ y. first selecting (line v y))
            (sym itself) ∙ code.found in
            let one = first_has selecting (line v t.name) code.place found in
            let d = one.0 in
            let on = of_line v order.acyclic t.name d one.1 in
            let named_d = line_named v t.name d on in
            let a = own_at true id.name id.desc d code.place one.2 in
            let m = a.member in
            let hit : code.hit ≡ record { owner = d; flags = m.flags } = same_hit (sym code.is_hit
            ∙ ap (method_hit v) a.is ∙ hit_is v d a.place m (solid.numbered d.name d named_d) a.is_member) in
            let flags : m.flags ≡ (let h = code.hit in h.flags) = sym (ap (λ (h : ResolvedMember). h.flags) hit) in
            let src = source members is tell q p at d.name d named_d a.place m a.is_member (ap is_open flags ∙ open_one)
            (ap is_constructor a.has_name ∙ ordinary) in
            let e = src.0 in
            let c = e.class in
            let k = e.method in
            let plain_d = line_ground v order single t.name d on (declared n t) named ground in
            let plain_c : is_interface c.flags ≡ false = ⊎_elim (λ same. same.1 ∙ plain_d) (λ no. absurd (true_not_false
            (is_abstract m.flags) no.1 (ap is_abstract flags ∙ code.is_concrete))) src.1 in
            by_class c e.named (below_on w t.name d.name c.name (below_stays members is tell q p at t.name d.name
            (line_below v t.name d on)) e.below) plain_c e.place k e.there (e.has_name ∙ a.has_name)
            (e.has_desc ∙ a.has_desc) e.opened

        -- of an interface above it in its own world
        of_interface : (a : IsDeclaredAbove v t.name id.name id.desc) → (let d = a.class in is_interface d.flags) ≡ true
            → (f : Found) × (first opened (line w t.name) ≡ Some f)
        unfolding selected
        of_interface a it =
            let d = a.class in
            let code = code_at d a.place a.method a.named (inr (a.below, it)) a.there a.has_name a.has_desc (inr it) in
            let told = public_code d a.place a.method a.named it a.below a.there (ap is_initialiser a.has_name
            ∙ initial) in
            let found : first selecting (line v t.name) ≡ Some code.place = ap (λ y. first selecting (line v y))
            (sym itself) ∙ code.found in
            let one = first_has selecting (line v t.name) code.place found in
            let o = one.0 in
            let on = of_line v order.acyclic t.name o one.1 in
            let named_o = line_named v t.name o on in
            let b = own_at true id.name id.desc o code.place one.2 in
            let m = b.member in
            let numbered = solid.numbered o.name o named_o in
            let tested : subset.hit v false (Some code.place) ≡ Some (record { owner = o; flags = m.flags }) =
            ap (λ g. subset.hit v false (Some g)) b.is ∙ tested_method p (is.each q p at) o b.place m numbered
            b.is_member in
            let same_call : selected v t.name (let k = a.method in k.name) (let k = a.method in k.desc)
            ≡ Some code.place = ap (λ y. selected v t.name y (let k = a.method in k.desc)) a.has_name
            ∙ ap (selected v t.name id.name) a.has_desc ∙ code.found in
            let public : is_public m.flags ≡ true = ap is_public (some_flags (sym tested ∙ ap (subset.hit v false)
            (sym same_call) ∙ told.1)) ∙ told.2 in
            let hit : code.hit ≡ record { owner = o; flags = m.flags } = same_hit (sym code.is_hit
            ∙ ap (method_hit v) b.is ∙ hit_is v o b.place m numbered b.is_member) in
            by_code code (ap (λ (h : ResolvedMember). is_open h.flags) hit ∙ parts_open m.flags b.wanted
            (public_exposed m.flags public))

        -- of a class
        of_class : (a : IsDeclaredAbove v t.name id.name id.desc) → (let d = a.class in is_interface d.flags) ≡ false
            → (f : Found) × (first opened (line w t.name) ≡ Some f)
        unfolding selected
        of_class a plain_d =
            let d = a.class in
            let k = a.method in
            let src = source members is tell q p at d.name d a.named a.place k a.there a.opened (ap is_constructor
            a.has_name ∙ ordinary) in
            let e = src.0 in
            let c = e.class in
            ⊎_elim
            (λ same. by_class c e.named (below_on w t.name d.name c.name (below_stays members is tell q p at t.name d.name
            a.below) e.below) (same.1 ∙ plain_d) e.place e.method e.there (e.has_name ∙ a.has_name)
            (e.has_desc ∙ a.has_desc) e.opened)
            (λ bare.
            (let on = on_line v order t.name d.name (declared n t) d a.below named ground a.named plain_d in
            let code = code_at d a.place k a.named (inl on) a.there a.has_name a.has_desc (inl bare.1) in
            let shows = on_line_shows t.name d on (declared n t) named ground a.place k a.there a.has_name a.has_desc
            a.opened in
            let g = shows.1 in
            let found : first selecting (line v t.name) ≡ Some code.place = ap (λ y. first selecting (line v y))
            (sym itself) ∙ code.found in
            let hit : g.hit ≡ code.hit = same_hit (sym g.is_hit ∙ ap (method_hit v) (same_place_found (sym g.found
            ∙ found)) ∙ code.is_hit) in
            by_code code (ap (λ (h : ResolvedMember). is_open h.flags) (sym hit) ∙ parts_open (let h = g.hit in h.flags)
            g.selectable g.exposed)))
            src.1

        has_open : IsDeclaredAbove v t.name id.name id.desc → (f : Found) × (first opened (line w t.name) ≡ Some f)
        has_open a = ⊎_elim (of_interface a) (of_class a) (true_or_false (let d = a.class in is_interface d.flags))

    -- ---- a receiver

    pub interface_has : (z : Class) → class_named w z.name ≡ Some z → is_interface z.flags ≡ true → (i : ℕ)
        (m : WorldMember) → slice_get z.methods i ≡ Some m → m.name ≡ id.name → m.desc ≡ id.desc → is_open m.flags ≡ true
        → (x : List ℕ) (r : IsReceiver w x) → (let c = r.class in c.is_imported) ≡ false → Below w x z.name → (f : Found)
        × (first opened (line w x) ≡ Some f)
    interface_has z named_z it i m there name desc open_one x r mine way =
        by (joint_class group x r.class r.named) r.named mine r.no_interface r.made
      where
        by : {c : Class} → IsJoint group c → class_named w x ≡ Some c → c.is_imported ≡ false → is_interface c.flags
            ≡ false → (c.is_imported ≡ true) ⊎ (is_abstract c.flags ≡ false) → (f : Found)
            × (first opened (line w x) ≡ Some f)
        by (outside_file n e kept) named mine ground made = absurd cc
        by (own_file q k p t own) named mine ground made =
            let from = member_of_files members q p own.member in
            let g = from.0 in
            let file : (let f = g.files in slice_get f.classes k ≡ Some t) = ap (λ (f : Files). slice_get f.classes k)
            from.2 ∙ own.file in
            let is_x : t.name ≡ x = class_named-name w x (declared (before group q + k) t) named in
            let concrete : is_abstract t.flags ≡ false = ⊎_elim (λ imp. absurd (clash imp)) (λ e. e) made in
            let named_g = named_here members is q g from.1 k t file in
            let above = seen_above members is tell z named_z it i m there open_one (ap is_constructor name ∙ ordinary) q g
            from.1 t.name (declared k t) named_g (subst (λ a. Below w a z.name) (sym is_x) way) in
            let so : IsDeclaredAbove (all_classes g.files) t.name id.name id.desc = subst (λ y. IsDeclaredAbove
            (all_classes g.files) t.name y id.desc) name (subst (λ y. IsDeclaredAbove (all_classes g.files) t.name m.name
            y) desc above) in
            subst (λ a. (f : Found) × (first opened (line w a) ≡ Some f)) is_x (has_open q g from.1 k t file named_g
            ground concrete so)
          where
            clash : false ≡ true → ⊥
            clash e = cc
