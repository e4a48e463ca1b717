-- What an invokespecial selects from the superclass of the class that holds the code is a virtual method that calls can
-- name.
use Rattle.std.proofs.Common.{◌≡◌, ℕ, refl, sym, ap, subst, ◌∙◌, Bool, true, false, List, [], ◌∷◌, inl, inr, ⊎_elim}
use Rattle.std.specs.Prelude.{◌⊎◌, ◌&&◌, ◌||◌, not, Option, Some, None, option_and_then, position, slice_get}
use Rattle.cjc_bytes.specs.AccessFlags.{is_interface, is_private, is_static}
use Rattle.cjc_bytes.specs.declared.fault.MemberId.{MemberId}
use Rattle.cjc_bytes.proofs.Bools.{or_left, or_right}
use Rattle.cjc_jvm_semantics.specs.OnePackage.{ResolvedMember, is_constructor, method_hit, of_class}
use Rattle.cjc_token_proof.proofs.WorldProofOwn.{mapped_at}
use Rattle.cjc_shape_proof.specs.WorldProof.Calls.Solid.{IsSolid}
use Rattle.cjc_token_proof.proofs.WorldProofTypes.{receiver_class}
use Rattle.cjc_token_proof.specs.Calls.Selecting.{signature}
use Rattle.cjc_world.specs.ClassFile.declared.tree.ClassTree.{ClassTree}
use Rattle.cjc_components.specs.Bytecode.declared.method_code.MethodCode.{MethodCode}
use Rattle.cjc_components.specs.Bytecode.declared.insn.JOp.TheVariants as jop
use Rattle.cjc_components.specs.Package.{Package, world}
use Rattle.cjc_shape_proof.specs.LowerJudge.Rules.{settings_of}
use Rattle.cjc_token_proof.specs.List.Listed.{ListTree}
use Rattle.cjc_theorem.proofs.AlikeLaws.NamedLaws.Names.{Calls_method, called}
use Rattle.cjc_token_proof.specs.Narrow.Rows.Resolved.{method_found}
use Rattle.cjc_narrow_proof.specs.Laws.Unbroken.{IsInsnOf, KeepsNames}
use Rattle.cjc_narrow_proof.proofs.LawsLaws.Own.{class_by_name, first_here, own_kept}
use Rattle.cjc_ncode.specs.ByLabel.{OnSuper}
use Rattle.cjc_token_proof.specs.Subset.Members as subset
use Rattle.cjc_token_proof.specs.Subset.Names.{is_bodiless, is_unfit_super}
use Rattle.cjc_tokens.specs.Lines.{line_of}
use Rattle.cjc_tokens.specs.Members.{In, Signature, all_methods, chosen, is_exposed, is_initialiser, is_shown}
use Rattle.cjc_tokens.specs.Members.{is_virtual, signature_of}
use Rattle.cjc_tokens.specs.Methods.{interface_methods, interfaces_at}
use Rattle.cjc_tokens.specs.Slots.{has_slot, slots}
use Rattle.cjc_tokens.proofs.Facts.{chosen-In, chosen-passes, same-refl}
use Rattle.cjc_tokens.proofs.Held.{here-has_slot, token-slot}
use Rattle.cjc_world.specs.Interfaces.{known as known_interfaces}
use Rattle.cjc_world.specs.Upwards.{Below, IsOrdered, OnLine, up}
use Rattle.cjc_world.proofs.UpwardLaws.Lines.{below_line, below_on, line_below, line_begins, line_named, line_on}
use Rattle.cjc_world.proofs.UpwardLaws.Lines.{of_line, on_line}
use Rattle.cjc_vtable.specs.Calls.{any_method, finds_hidden, is_special, selects}
use Rattle.cjc_vtable.specs.Kept.{Keeps}
use Rattle.cjc_vtable.specs.Meant.{AskedHaveTokens}
use Rattle.cjc_vtable.specs.Laws.{KeepsRules, Under, below, itself, selection}
use Rattle.cjc_vtable.proofs.Asked.{named-among}
use Rattle.cjc_vtable.proofs.Filed.{IsFiled, filed, in_class_file, in_export_file}
use Rattle.cjc_vtable.proofs.Given.{In-split}
use Rattle.cjc_world.specs.declared.found.Found.{Found}
use Rattle.cjc_world.specs.Classes.{Class, Member, class_named, declared, method_of_class}
use Rattle.cjc_world.specs.Supertypes.{AreSupertypes, Supertypes, foremost, is_below, supertypes, line}
use Rattle.cjc_world.specs.Lookup.{first, is_called, is_selectable, own_method, receiver, selected}
use Rattle.cjc_world.specs.Rules.{is_earlier, is_twice}
use Rattle.cjc_world.proofs.Cycles.{class_named-name}
use Rattle.cjc_world.proofs.Upwards.{line_goes_up}
use Rattle.cjc_token_proof.specs.WrittenCalls.Calls.{IsNamed, on_super}
use Rattle.cjc_shape_proof.proofs.WrittenLaws.Checked.{own_names, read_files}
use Rattle.cjc_shape_proof.proofs.WrittenLaws.Checked.{own_solid, own_subtypes}
use Rattle.cjc_shape_proof.specs.Written.Checked.{IsOfFiles}
use Rattle.cjc_theorem.proofs.AlikeLaws.VirtualCalls.Chosen.{IsFirstOf, any_selects, first_found, has_methods}
use Rattle.cjc_theorem.proofs.AlikeLaws.VirtualCalls.Chosen.{placed as place_of}
use Rattle.cjc_theorem.proofs.AlikeLaws.VirtualCalls.Found.{stands_there}
use Rattle.cjc_theorem.proofs.AlikeLaws.VirtualCalls.Found as found
use Rattle.cjc_theorem.proofs.AlikeLaws.VirtualCalls.Lines.{HasHidden, HasShown, hidden_below, hidden_found}
use Rattle.cjc_theorem.proofs.AlikeLaws.VirtualCalls.Lines.{shown_alone, shown_below}
use Rattle.cjc_theorem.proofs.AlikeLaws.VirtualCalls.Hidden.{gets_none, of_slot}
use Rattle.cjc_theorem.proofs.AlikeLaws.VirtualCalls.MethodKinds.{in_get}
use Rattle.cjc_theorem.proofs.AlikeLaws.VirtualCalls.Objects.{ListsMethods, among_get, of_above, own_kinds}
use Rattle.cjc_theorem.proofs.AlikeLaws.VirtualCalls.Objects.{sought_there}
use Rattle.cjc_theorem.proofs.AlikeLaws.VirtualCalls.Places.{has_place}
use Rattle.cjc_theorem.proofs.AlikeLaws.VirtualCalls.Ways.{far_above, line_class, under_below}
use Rattle.cjc_theorem.proofs.FairWriting.Fewer.{of_one}

-- what has a body is selected
chosen_some : (w : List Class) (super : List ℕ) (id : MemberId) → receiver super ≡ super → (o : Option Found)
    → selected w super id.name id.desc ≡ o → is_bodiless (subset.hit w false o) ≡ false → (f : Found)
    × (selection w super (signature id) ≡ Some f)
unfolding selected subset.hit
chosen_some w super id same_name None g e = absurd cc
chosen_some w super id same_name (Some f) g e = (
  f,
  ap (λ y. first (own_method true id.name id.desc) (line w y))
      (sym same_name) ∙ g,
)

module _ (list : ListTree) (codes : List MethodCode) (p : Package) (is : IsOfFiles list codes p)
    (are_supertypes : (xs : List (List ℕ)) → AreSupertypes (world p) xs (supertypes (world p) xs)) (one_supertypes :
    (xs : List (List ℕ)) (j k : Supertypes) → AreSupertypes (world p) xs j → AreSupertypes (world p) xs k
    → j ≡ k) (keeps : Keeps (world p)) (asked : AskedHaveTokens (world p))
    (listed_methods : ListsMethods list codes p is are_supertypes one_supertypes keeps) where
  abbrev w : List Class
  w = world p

  abbrev rules : KeepsRules w
  rules = keeps.rules

  abbrev u : KeepsNames list.name p.files codes (settings_of list)
  u = own_names list codes p is.checked

  abbrev solid : IsSolid p.files
  solid = own_solid list codes p is.checked

  abbrev ordered : IsOrdered w
  ordered = (let s = own_solid list codes p is.checked in s.ordered)

  -- a method of a class of the package is the first of its signature there (202)
  first_own : (c : Class) → class_named w c.name ≡ Some c → c.is_imported ≡ false → (k : ℕ) (m : Member)
      → slice_get c.methods k ≡ Some m → chosen any_method (signature_of m) c.methods ≡ Some m
  unfolding is_twice
  first_own c known own k m e = by c (filed p.files c.name c known) own e
    where
      by : (c : Class) → IsFiled p.files c → c.is_imported ≡ false → slice_get c.methods k ≡ Some m
          → chosen any_method (signature_of m) c.methods ≡ Some m
      by c (in_export_file n t at) own e = absurd cc
      by c (in_class_file n t at) own e =
          let q = u in
          let x = mapped_at method_of_class t.methods k m e in
          let kept = own_kept p.files list.name q.listed q.world n t at in
          let once = (kept.methods k x.0 x.1).0 in
          let apart = ap (λ (v : Member). is_earlier (position (λ y. is_called v.name v.desc y) (declared n t).methods)
          k) x.2 ∙ once in
          let at_place = first_here (λ y. is_called m.name m.desc y) (declared n t).methods k m e
          (same-refl (signature_of m)) apart in
          let r = place_of any_method (signature_of m) (declared n t).methods k at_place in
          let both : Some r.0 ≡ Some m = sym r.2 ∙ e in
          let one : r.0 ≡ m = cc in
          r.1 ∙ ap Some one

  module _ (class : ClassTree) (id : MemberId) (of : IsInsnOf p.files codes class (jop.Call 0xB7 id))
      (class_here : is_interface class.flags ≡ false) (no_constructor : is_constructor id.name ≡ false)
      (hit : ResolvedMember) (is_hit : method_found w id ≡ Some hit) (visible : is_private hit.flags ≡ false) where
    abbrev s : Signature
    s = signature id

    abbrev n : Calls_method list codes p is class 0xB7 id
    n = called list codes p is class 0xB7 id of

    abbrev flags : ℕ
    flags = (let c = n in let a = c.at in let m = a.member in m.flags)

    open_one : is_private flags ≡ false
    open_one =
        let c = n in
        let here : ResolvedMember = record { owner = c.owner; flags = flags } in
        let both : Some here ≡ Some hit = sym (ap (option_and_then (method_hit w)) c.found ∙ c.hit) ∙ is_hit in
        let same : here ≡ hit = cc in
        ap (λ (h : ResolvedMember). is_private h.flags) same ∙ visible

    selectable : is_selectable flags ≡ true
    selectable = let c = n in let f = c.fits in both (is_private flags) (is_static flags) open_one (f.on_object refl)
      where
        both : (a b : Bool) → a ≡ false → b ≡ false → (not a && not b) ≡ true
        both false false e f = refl
        both true b e f = absurd cc
        both false true e f = absurd cc

    plain_name : is_special s ≡ false
    plain_name = let c = n in let f = c.fits in either (is_constructor id.name) (is_initialiser id.name) no_constructor
        f.no_initialiser
      where
        either : (a b : Bool) → a ≡ false → b ≡ false → (a || b) ≡ false
        either false false e f = refl
        either true b e f = absurd cc
        either false true e f = absurd cc

    -- ---- the superclass

    abbrev super : List ℕ
    super = class.superclass

    fit : is_unfit_super w class id ≡ false
    fit = let c = n in last (is_constructor id.name) (is_private flags) (is_unfit_super w class id) no_constructor
        open_one c.fits_class
      where
        last : (a b v : Bool) → a ≡ false → b ≡ false → (true && not a && not b && v) ≡ false → v ≡ false
        last false false v e f g = g
        last true b v e f g = absurd cc
        last false true v e f g = absurd cc

    named_on : OnLine w super (let c = n in c.named_class)
    named_on =
        let c = n in
        let below_it = not_false (is_below w super id.class) (or_left (not (is_below w super id.class))
        (is_bodiless (subset.hit w false (selected w super id.name id.desc))) fit) in
        below_line w (let o = ordered in o.acyclic) super id.class c.named_class below_it c.names_class
      where
        not_false : (a : Bool) → not a ≡ false → a ≡ true
        not_false true e = refl
        not_false false e = absurd cc

    super_there : (d : Class) × (class_named w super ≡ Some d)
    super_there = line_begins w super (let c = n in c.named_class) named_on

    abbrev number : ℕ
    number = (let o = of in let code = o.code in code.class)

    holder : class_named w class.name ≡ Some (declared number class)
    holder = let q = u in class_by_name p.files list.name q.listed q.world number class (let o = of in let m =
        o.of_package in m.is_class)

    under : Under w class.name super
    under = below (declared number class) holder foremost itself

    super_class : is_interface (let d = super_there.0 in d.flags) ≡ false
    super_class = let o = ordered in o.supers class.name super (declared number class) super_there.0 holder foremost
        super_there.1

    named_class_plain : is_interface (let c = n in let d = c.named_class in d.flags) ≡ false
    named_class_plain = line_class w ordered super super_there.0 (let c = n in c.named_class) named_on super_there.1
        super_class

    -- what is selected from there
    selected_some : (f : Found) × (selection w super s ≡ Some f)
    selected_some =
        let q = solid in
        chosen_some w super id (receiver_class super (q.plain super super_there.0 super_there.1))
        (selected w super id.name id.desc) refl
        (or_right (not (is_below w super id.class))
        (is_bodiless (subset.hit w false (selected w super id.name id.desc))) fit)

    -- ---- where the method is found in an interface alone

    module _ (interface : is_interface (let c = n in let d = c.owner in d.flags) ≡ true) where
      abbrev f : Found
      f = selected_some.0

      abbrev r : IsFirstOf true s (line w super) f
      r = first_found true s (line w super) f selected_some.1

      abbrev d : Class
      d = (let q = r in q.class)

      abbrev m : Member
      m = (let q = r in let a = q.at in a.method)

      first_one : chosen selects s d.methods ≡ Some m
      first_one = (let q = r in let a = q.at in a.is_first)

      kept : (signature_of m ≡ s) × (selects m ≡ true)
      kept = chosen-passes selects s d.methods m first_one

      on : OnLine w super d
      on = (let q = r in of_line w (let o = ordered in o.acyclic) super q.class q.among)

      known : class_named w d.name ≡ Some d
      known = line_named w super d on

      virtual : is_virtual m ≡ true
      virtual = both (is_selectable m.flags) (is_special (signature_of m)) kept.1 (ap is_special kept.0 ∙ plain_name)
        where
          both : (a b : Bool) → a ≡ true → b ≡ false → (a && not b) ≡ true
          both true false e f = refl
          both true true e f = absurd cc
          both false b e f = absurd cc

      -- ---- an imported class has it there, package-visible

      -- its place among the methods of the interface
      placed : (k : ℕ) × (slice_get (interface_methods w (let c = n in c.owner)) k ≡ Some s)
      placed =
          let c = n in
          let a = c.at in
          let g = c.fits in
          let r = has_place p.files (let q = read_files list codes p is.checked in q.exports) listed_methods
          (let o = c.owner in o.name) c.owner c.named interface a.place a.member a.is_member (ap is_initialiser
          a.has_name ∙ g.no_initialiser) in
          (r.0, r.1 ∙ ap Some (found.called_signature list codes p is class 0xB7 id c))

      -- the interface is one of those of the class that holds the code
      has_interface : (j : ℕ) × (slice_get (known_interfaces (interfaces_at w (declared number class))) j
          ≡ Some (let c = n in c.owner))
      has_interface =
          let c = n in
          let o = c.owner in
          let k = c.named_class in
          let subtypes = own_subtypes list codes p is.checked in
          let above : Below w super o.name = below_on w super id.class o.name (subst (Below w super) (class_named-name w
          id.class k c.names_class) (line_below w super k named_on)) c.below in
          let way : Below w class.name o.name = below_on w class.name super o.name (under_below w class.name super
          under) above in
          among_get o (known_interfaces (interfaces_at w (declared number class)))
          (named-among (known_interfaces (interfaces_at w (declared number class))) o.name o
          (subtypes.implements class.name o.name (declared number class) o holder class_here c.named interface
          (of_above list codes p is are_supertypes one_supertypes keeps class.name (declared number class) o
          holder c.named way)))

      -- so a class that has the code has a slot for it
      slotted : has_slot (slots (line_of w class.name)) s ≡ true
      slotted =
          let c = n in
          let at = placed in
          let j = has_interface in
          let t = asked class.name (declared number class) holder refl class_here j.0 c.owner j.1 at.0 s at.1 in
          here-has_slot (slots (line_of w class.name)) t.0 s (token-slot (slots (line_of w class.name)) s t.0 t.1)

      own_line : line w class.name ≡ declared number class ∷ line w super
      own_line = line_goes_up w (let o = ordered in o.acyclic) class.name super (declared number class) holder refl

      -- a public or protected one stands above: none is in the class itself (305)
      module _ (import : d.is_imported ≡ true) (hidden_one : is_exposed m.flags ≡ false) where
        shut : is_private m.flags ≡ false
        shut = first_off (is_private m.flags) (is_static m.flags) kept.1
          where
            first_off : (a b : Bool) → (not a && not b) ≡ true → a ≡ false
            first_off false b e = refl
            first_off true b e = absurd cc

        clash : (k : Member) → In k (let c = declared number class in c.methods) → is_shown k ≡ true → signature_of k
            ≡ s → ⊥
        unfolding line
        clash k i shown one = both (is_exposed k.flags) (is_exposed m.flags) (is_private m.flags) (is_virtual k) _ shown
            hidden_one shut (rules.access class.name (declared number class) k m holder refl i (let q = r
            in has_methods d (line w super) m q.among (chosen-In selects s d.methods m first_one)) (one ∙ sym kept.0)
            (ap is_special one ∙ plain_name))
          where
            both : (a b p v x : Bool) → (a && v) ≡ true → b ≡ false → p ≡ false → ((x && b) || (a && (not b && not p)))
                ≡ false → ⊥
            both true false false v true e f g h = cc
            both true false false v false e f g h = cc
            both false b p v x e f g h = cc
            both true true p v x e f g h = cc
            both true false true v x e f g h = cc

        stands : (k : Member) → In k (all_methods (line w super)) → is_shown k ≡ true → signature_of k ≡ s
            → HasShown w super s
        stands k i shown one =
            let at = of_one (line w super) k i in
            let e = at.0 in
            let on_it = of_line w (let o = ordered in o.acyclic) super e at.1 in
            let place = in_get k e.methods at.2 in
            let may = selectable_one (is_exposed k.flags) (is_selectable k.flags) (is_special (signature_of k)) shown in
            record {
              class = e;
              on = on_it;
              method = k;
              among = at.2;
              shown = shown;
              one = one;
              is_first = λ own. subst (λ v. chosen selects v e.methods ≡ Some k) one
                  (any_selects (signature_of k) e.methods k (first_own e (line_named w super e on_it) own place.0 k
                  place.1) may);
            }
          where
            selectable_one : (a b c : Bool) → (a && (b && not c)) ≡ true → b ≡ true
            selectable_one true true c e = refl
            selectable_one true false c e = absurd cc
            selectable_one false b c e = absurd cc

        listed : (k : Member) → In k (all_methods (line w class.name)) → is_shown k ≡ true → signature_of k ≡ s
            → HasShown w super s
        listed k i shown one = ⊎_elim
            (λ h. absurd (clash k h shown one))
            (λ h. stands k h shown one)
            (In-split k (let c = declared number class in c.methods) (all_methods (line w super))
            (subst (λ cs. In k (all_methods cs)) own_line i))

        shown_there : HasShown w super s
        unfolding line
        shown_there = ⊎_elim
            (λ h. listed h.0 h.1 h.2 h.3)
            (λ g. absurd (gets_none list.name p.files codes (settings_of list) (let q = u in q.checks)
            (let o = ordered in o.acyclic) g.class d m s g.named g.own known import
            (far_above w ordered rules class.name g.class d g.on g.named g.own (up (declared number class) holder
            foremost on) import) g.given (chosen-In selects s d.methods m first_one) kept.0 hidden_one shut))
            (of_slot w rules (class.name ∷ []) (supertypes w (class.name ∷ [])) class.name s
            (are_supertypes (class.name ∷ [])) refl slotted)

      pub interface_there : HasShown w super s ⊎ HasHidden w super s
      interface_there = by (is_exposed m.flags) refl
        where
          by : (b : Bool) → is_exposed m.flags ≡ b → HasShown w super s ⊎ HasHidden w super s
          by true e = inl (record {
            class = d;
            on = on;
            method = m;
            among = chosen-In selects s d.methods m first_one;
            shown = ap (λ b. b && is_virtual m) e ∙ virtual;
            one = kept.0;
            is_first = λ o. first_one;
          })
          by false e = abroad d.is_imported refl
            where
              abroad : (b : Bool) → d.is_imported ≡ b → HasShown w super s ⊎ HasHidden w super s
              abroad true import = inl (shown_there import e)
              abroad false own =
                  let q = r in
                  let at = q.at in
                  inr (record {
                    class = d;
                    on = on;
                    own = own;
                    method = m;
                    hidden_one = ap (λ b. not b && is_virtual m) e ∙ virtual;
                    is_first = ap (λ v. chosen any_method v d.methods) (sym kept.0)
                        ∙ first_own d known own at.place m at.there;
                  })

    -- ---- all

    there : HasShown w super s ⊎ HasHidden w super s
    there = by (is_interface (let c = n in let d = c.owner in d.flags)) refl
      where
        by : (b : Bool) → is_interface (let c = n in let d = c.owner in d.flags) ≡ b → HasShown w super s
            ⊎ HasHidden w super s
        by true e = interface_there e
        by false e =
            let c = n in
            let k = c.named_class in
            let way : OnLine w id.class c.owner = on_line w ordered id.class (let d = c.owner in d.name) k c.owner
            c.below c.names_class named_class_plain c.named e in
            let far = line_on w super k c.owner named_on (subst (λ y. OnLine w y c.owner)
            (sym (class_named-name w id.class k c.names_class)) way) in
            stands_there list codes p is class 0xB7 id n selectable no_constructor super far

    alike : HasShown w super s ⊎ HasHidden w super s → finds_hidden (line_of w class.name) s
        ≡ finds_hidden (line_of w super) s
    alike h = ⊎_elim
        (λ a. shown_alone w are_supertypes one_supertypes rules class.name s (shown_below w class.name super s under a)
        ∙ sym (shown_alone w are_supertypes one_supertypes rules super s a))
        (λ a. (let kinds = own_kinds list codes p is are_supertypes one_supertypes keeps
        in hidden_found w are_supertypes one_supertypes rules kinds class.name s (hidden_below w class.name super s
        under a) ∙ sym (hidden_found w are_supertypes one_supertypes rules kinds super s a)))
        h

    pub super_named : IsNamed w (OnSuper (of_class class.name id))
    super_named =
        let c = n in
        let f = c.fits in
        on_super (declared number class) super_there.0 super holder refl class_here refl super_there.1 f.no_initialiser
        (sought_there list codes p is are_supertypes one_supertypes keeps (of_class super id) super_there.0
        super_there.1 super_class there) (alike there)
