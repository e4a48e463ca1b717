-- What is found over superclasses from a class of a group that is no interface: by name in the joint world, and by
-- token through the tables of the packages and the export files from outside.
use Rattle.std.proofs.Common.{◌≡◌, ℕ, zero, suc, ◌+◌, ◌-◌, ◌≤◌, refl, sym, ap, subst, ◌∙◌, arith, Bool, true, false}
use Rattle.std.proofs.Common.{List, Option, Some, None, length, inl, ⊎_elim}
use Rattle.std.specs.Prelude.{◌&&◌, ◌||◌, not, nat_lt, option_and_then, option_map, position, slice_get}
use Rattle.std.specs.Prelude.{if◌then◌else◌}
use Rattle.cjc_bytes.specs.AccessFlags.{is_interface, is_private, is_static}
use Rattle.cjc_bytes.specs.declared.fault.MemberId.{MemberId}
use Rattle.cjc_bytes.proofs.Bools.{and_true, or_true}
use Rattle.cjc_bytes.proofs.Gets.{position_there}
use Rattle.cjc_components.specs.Descriptor.{method_descriptor}
use Rattle.cjc_components.specs.Methods.{method_offset}
use Rattle.cjc_components.specs.Names.{class_at}
use Rattle.cjc_components.specs.Package.{Package, world}
use Rattle.cjc_jvm_semantics.specs.Group.{is_open, is_package_visible, joint, own_where, selection_for}
use Rattle.cjc_jvm_semantics.specs.Linked.{Method}
use Rattle.cjc_jvm_semantics.specs.OnePackage.{ResolvedMember, is_constructor, is_initialiser, is_sendable, method_at}
use Rattle.cjc_jvm_semantics.specs.OnePackage.{method_hit}
use Rattle.cjc_joint_proof.specs.JointCalled.{StandByPackage}
use Rattle.cjc_joint_proof.specs.JointPackages.{class_together, files_together}
use Rattle.cjc_joint_proof.specs.JointTables.{world_together}
use Rattle.cjc_joint_proof.specs.JointTowers.{loaded_together}
use Rattle.cjc_joint_proof.specs.Loading.{AllLead, group_of, member_of}
use Rattle.cjc_joint_proof.specs.Parts.{HasNoOther, class_in, described_in}
use Rattle.cjc_joint_proof.specs.Towers as towers
use Rattle.cjc_joint_proof.specs.Worlds.{before}
use Rattle.cjc_joint_proof.proofs.ClassLaws.{home as package_home, together_at}
use Rattle.cjc_joint_proof.proofs.ClimbLaws.{StandsLow, class_is_in, climbs_low, stand_up}
use Rattle.cjc_joint_proof.proofs.LoadLaws.{no_other}
use Rattle.cjc_joint_proof.proofs.MeantLaws.{part_of}
use Rattle.cjc_joint_proof.proofs.PartLaws.{declared_same, superclasses_agree}
use Rattle.cjc_joint_proof.proofs.ReferLaws.{of_package as member_at_place}
use Rattle.cjc_joint_proof.proofs.StandLaws.{Inside, stands}
use Rattle.cjc_joint_theorem.proofs.OrderedLaws.Ordered.{ordered}
use Rattle.cjc_joint_theorem.proofs.OrderedLaws.Standing.{class_stands}
use Rattle.cjc_token_proof.proofs.WorldProofOwn.{hit_is}
use Rattle.cjc_token_proof.proofs.WrittenCalls.Called.{declared_is}
use Rattle.cjc_token_proof.proofs.WrittenCalls.Facts.{Facts}
use Rattle.cjc_token_proof.proofs.WrittenCalls.Held.{FormsLaw, OffsetsLaw}
use Rattle.cjc_token_proof.proofs.WrittenCalls.Receivers.{first_step}
use Rattle.cjc_token_proof.proofs.WrittenCalls.Tables.{tables}
use Rattle.cjc_token_proof.proofs.WrittenSends.Tokens.{bound_described, chosen_first, hidden_described, shown_described}
use Rattle.cjc_token_proof.proofs.WrittenSends.Tokens.{virtual_kinds}
use Rattle.cjc_token_proof.specs.Calls.Dispatching.{SaysTables}
use Rattle.cjc_token_proof.specs.Calls.Selecting.{signature}
use Rattle.cjc_token_proof.specs.CardSemantics.Machine.Calls.{Described, declared as declared_on_card, described_token}
use Rattle.cjc_token_proof.specs.CardSemantics.Machine.Calls.{found_token, has_no_token, sent_by}
use Rattle.cjc_token_proof.specs.CardSemantics.Machine.Calls.{start_selected, token_or}
use Rattle.cjc_token_proof.specs.CardSemantics.Machine.Classes.{External, Own, depth, superclass, superclass_by}
use Rattle.cjc_token_proof.specs.CardSemantics.Machine.Classes as classes
use Rattle.cjc_token_proof.specs.CardSemantics.Machine.Dispatch.{Hidden, Open, Token}
use Rattle.cjc_token_proof.specs.CardSemantics.Machine.Loaded.{Loaded}
use Rattle.cjc_token_proof.specs.NCode.Lowering.Placed.{Placed}
use Rattle.cjc_token_proof.specs.Tables.Loading.{loaded, naming}
use Rattle.cjc_tokens.specs.Lines.{Declared, line_in, line_of}
use Rattle.cjc_tokens.specs.Members.{Signature, chosen, is_exposed, is_hidden, is_shown, is_virtual, signature_of}
use Rattle.cjc_tokens.proofs.Facts.{chosen-passes}
use Rattle.cjc_tokens.specs.Slots.{hidden_slots, slots, token}
use Rattle.cjc_vtable.proofs.Filed.{at-number}
use Rattle.cjc_vtable.proofs.Worlds.{line_of-declared}
use Rattle.cjc_vtable.specs.Calls.{any_method, finds_hidden, finds_shown, is_special, passes}
use Rattle.cjc_vtable.specs.Laws.{CallsAlike, itself}
use Rattle.cjc_world.proofs.Cycles.{class_named-name}
use Rattle.cjc_world.proofs.Settled.{lists-front}
use Rattle.cjc_world.proofs.Upwards.{line_goes_up}
use Rattle.cjc_world.proofs.UpwardLaws.Lines.{below_on, listed_below}
use Rattle.cjc_world.specs.Added.{added}
use Rattle.cjc_world.specs.ClassFile.declared.tree.ClassTree.{ClassTree}
use Rattle.cjc_world.specs.Classes.{Class, Member, class_named, declared}
use Rattle.cjc_world.specs.Files.{Files}
use Rattle.cjc_world.specs.Lookup.{first, is_called, is_selectable, member_at, own_method}
use Rattle.cjc_world.specs.Lookup as lookup
use Rattle.cjc_world.specs.Supertypes.{foremost, line, supertypes}
use Rattle.cjc_world.specs.Upwards.{Below, IsOrdered}
use Rattle.cjc_world.specs.declared.found.Found.{Found}
use Rattle.cjc_joint_whole.specs.Selected.{OutsideClassesAgree, SelectTogether}
use Rattle.cjc_joint_whole.specs.Sent.{FoundAlike, FoundAreSentAlike, LinesAreFoundAlike, LinesBindSpecials}
use Rattle.cjc_joint_whole.specs.Sent.{bears, begun, bound, nowhere, sent_for, sent_of}
use Rattle.cjc_joint_whole.proofs.WholeLaws.FixedNamed.{AloneLaws}
use Rattle.cjc_joint_whole.proofs.WholeLaws.HiddenCalls.{no_array}
use Rattle.cjc_joint_whole.proofs.WholeLaws.OpenHits.{seen_so}
use Rattle.cjc_joint_whole.proofs.WholeLaws.Receiving.{known_by}
use Rattle.cjc_joint_whole.proofs.WholeLaws.SentBy.{package_sends, shown_sends}
use Rattle.cjc_joint_whole.proofs.WholeLaws.SentOutside.{open_own, outside_alike, outside_bound, sendable_is}
use Rattle.cjc_joint_whole.proofs.WholeLaws.SentOutside.{virtual_ordinary}
use Rattle.cjc_joint_whole.proofs.WholeLaws.Shown.{search_from}
use Rattle.cjc_joint_whole.proofs.WholeLaws.TokenMeans.{ImportsAreExposed}

-- ---- tokens of the package at a place

abbrev token_in : ℕ → Option Token → Option Token
token_in q None = None
token_in q (Some (Open t)) = Some (Open t)
token_in q (Some (Hidden home t)) = Some (Hidden q t)

-- what Descriptor says of a method, in the group
part_token : (q : ℕ) (d : Described) → described_token (described_in q d) ≡ token_in q (described_token d)
part_token q d = by (has_no_token d.method) (nat_lt d.method.token 0x80)
  where
    by : (a b : Bool) → (if a then None else (if b then Some (Open d.method.token) else Some (Hidden q (d.method.token
        - 0x80)))) ≡ token_in q (if a then None else (if b then Some (Open d.method.token) else Some (Hidden d.part
        (d.method.token - 0x80))))
    by true b = refl
    by false true = refl
    by false false = refl

one_class : {a b : classes.Class} → Some a ≡ Some b → b ≡ a
one_class e = cc

no_class : {A : Type 0} {tree number part offset : ℕ} → External tree number ≡ Own part offset → A
no_class e = absurd (cc)

-- an initialiser's name
init_special : (id : MemberId) → is_initialiser id.name ≡ true → is_special (signature id) ≡ true
init_special id init = ap (λ b. is_constructor id.name || b) init ∙ or_true (is_constructor id.name)

-- the first method that a class declares under a name and descriptor, by its place
own_place : (name desc : List ℕ) (d : Class) → own_method false name desc d ≡ option_map (λ i. member_at d (length
    d.fields + i)) (position (λ (m : Member). is_called name desc m) d.methods)
unfolding own_method
own_place name desc d = refl

-- a virtual method that is not public or protected is package-visible
unseen_so : (m : Member) → is_virtual m ≡ true → is_shown m ≡ false → is_package_visible m.flags ≡ true
unseen_so m virtual not_shown = by (is_exposed m.flags) (is_private m.flags) (is_static m.flags) (is_special
    (signature_of m)) virtual not_shown
  where
    by : (x p t k : Bool) → ((not p && not t) && not k) ≡ true → (x && ((not p && not t) && not k)) ≡ false
        → (not x && not p) ≡ true
    by true p t k e f = let no : true ≡ false = sym e ∙ f in absurd (cc)
    by false true t k e f = absurd (cc)
    by false false t k e f = refl

module _ (forms : FormsLaw) (offsets : OffsetsLaw) (packages : List Package) (is : SelectTogether packages)
    (each : (q : ℕ) (p : Package) → slice_get packages q ≡ Some p → AloneLaws p) (at : Method → Placed)
    (stand : StandByPackage packages at)
    (exposed : (q : ℕ) (p : Package) → slice_get packages q ≡ Some p → ImportsAreExposed p)
    (outside : OutsideClassesAgree packages)
    (leads : (q : ℕ) (p : Package) → slice_get packages q ≡ Some p → AllLead (group_of packages) (member_of p)) where
  abbrev l : Loaded
  l = loaded_together packages

  abbrev group : List Files
  group = files_together packages

  abbrev w : List Class
  w = world_together packages

  order : IsOrdered w
  order = ordered group is.ordered

  facts : (q : ℕ) (p : Package) → slice_get packages q ≡ Some p → Facts p
  facts q p it = let a = each q p it in a.facts

  -- the superclass of a class on the card
  abbrev super_of : classes.Class → Option classes.Class
  super_of (Own part offset) = superclass l part offset
  super_of (External tree number) = None

  module _ (id : MemberId) where
    abbrev s : Signature
    s = signature id

    abbrev finds : Class → Option Found
    finds = own_method false id.name id.desc

    abbrev test : Member → Bool
    test m = is_called id.name id.desc m

    abbrev Alike : List ℕ → Option Found → Option (Option Token) → Type 0
    Alike y f t = FoundAlike packages at y id f t

    -- what is so above is so below
    alike_below : (y z : List ℕ) → Below w y z → (f : Option Found) (t : Option (Option Token)) → Alike z f t
        → Alike y f t
    alike_below y z far f t nowhere = nowhere
    alike_below y z far f t (bound hit there kind) = bound hit there kind
    alike_below y z far f t (bears hit there kind sends) = bears hit there kind (λ x c named plain
        below. sends x c named plain (below_on w x y z below far))

    -- ---- a class file of a package

    module _ (q : ℕ) (p : Package) (it : slice_get packages q ≡ Some p) (place : ℕ) (t : ClassTree)
        (file : let f = p.files in slice_get f.classes place ≡ Some t) (y : List ℕ)
        (known : class_named (world p) y ≡ Some (declared place t))
        (named : class_named w y ≡ Some (declared (before group q + place) t)) (plain : is_interface t.flags ≡ false)
      where
        abbrev v : List Class
        v = world p

        abbrev c : Class
        c = declared place t

        abbrev k : Class
        k = declared (before group q + place) t

        its : Facts p
        its = facts q p it

        tables_here : SaysTables v (naming p) (method_offset p) y c t.superclass
        tables_here = tables p its y t.superclass c known refl plain refl

        above : (d : Class) × (class_named v t.superclass ≡ Some d) × (is_interface d.flags ≡ false)
        above = let f = its in f.super_there y t.superclass c known refl refl

        is_in : (x : List ℕ) (d : Class) → class_named v x ≡ Some d → class_in l q (class_at p x)
            ≡ Some (class_together packages x)
        is_in = class_is_in packages is.linked leads (λ r e there. stand_up e (facts r e there)) q p it

        has_no_other : HasNoOther (loaded p) l q
        has_no_other = no_other (group_of packages) q (member_of p) (member_at_place packages q p it) (leads q p it)

        own_is : class_together packages y ≡ Own q (let a = tables_here in a.at)
        own_is = let a = tables_here in one_class (sym (ap (class_in l q) a.on_card) ∙ is_in y c known)

        super_is : superclass l q (let a = tables_here in a.at) ≡ Some (class_together packages t.superclass)
        super_is =
            let a = tables_here in
            superclasses_agree (loaded p) l q (part_of packages is.linked q p it) has_no_other a.at
            ∙ ap (option_and_then (class_in l q)) (ap (superclass_by (loaded p) 0) a.there ∙ a.superclass)
            ∙ is_in t.superclass above.0 above.1

        abbrev described_here : Option Found → Option Described
        described_here o = option_map (described_in q) (option_map (λ m. record { part = 0; method = m }) (option_map
            (method_descriptor p c) o))

        says : declared_on_card l (Own q (let a = tables_here in a.at)) id ≡ described_here (if is_initialiser id.name
            then None else finds c)
        says =
            let a = tables_here in
            declared_same (loaded p) l q (part_of packages is.linked q p it) a.at id
            ∙ ap (λ z. option_map (described_in q) (declared_on_card (loaded p) z id)) (sym a.on_card
            ∙ sym (ap (class_at p) (class_named-name v y c known)))
            ∙ ap (option_map (described_in q)) (declared_is p its y c known refl id)

        -- one step upwards
        pub step_up : (n : ℕ) → found_token l (suc (suc n)) (Some (class_together packages y)) id
            ≡ token_or (described_here (if is_initialiser id.name then None else finds c))
            (found_token l (suc n) (Some (class_together packages t.superclass)) id)
        step_up n =
            ap (λ z. found_token l (suc (suc n)) (Some z) id) own_is
            ∙ ap (λ o. token_or (declared_on_card l (Own q (let a = tables_here in a.at)) id) (found_token l (suc n) o
            id)) super_is
            ∙ ap (λ o. token_or o (found_token l (suc n) (Some (class_together packages t.superclass)) id)) says

        -- ---- a method that it declares

        abbrev found_at : ℕ → Found
        found_at j = member_at k (length k.fields + j)

        abbrev described_at : ℕ → Described
        described_at j = record {
          part = 0;
          method = method_descriptor p c (member_at c (length c.fields
              + j));
        }

        own_line : line_of v y ≡ Declared c (added v c) (line_in v (supertypes v c.supers))
        own_line = let f = its in line_of-declared v f.are_supertypes f.one_supertypes f.rules y c known refl

        calls : CallsAlike v y y
        calls = let f = its in f.virtual_calls y y c c known plain known itself

        module _ (ordinary : is_initialiser id.name ≡ false) (j : ℕ) (m : Member)
            (there : slice_get c.methods j ≡ Some m)
            (is_first : chosen any_method s c.methods ≡ Some m) where
          names : signature_of m ≡ s
          names = (chosen-passes any_method s c.methods m is_first).0

          same_name : m.name ≡ id.name
          same_name = ap (λ (u : Signature). u.name) names

          hit_there : method_hit w (found_at j) ≡ Some (record { owner = k; flags = m.flags })
          hit_there = hit_is w k j m (at-number (joint group) y k named) there

          may_send : is_sendable id (record { owner = k; flags = m.flags }) ≡ is_virtual m
          may_send = sendable_is id k m same_name

          of_token : (o : Option Token) → described_token (described_at j) ≡ o → Alike y (Some (found_at j)) (Some
              (token_in q o)) → Alike y (Some (found_at j)) (Some (described_token (described_in q (described_at j))))
          of_token o e alike = subst (λ u. Alike y (Some (found_at j)) (Some u)) (sym (part_token q (described_at j)
              ∙ ap (token_in q) e)) alike

          -- no virtual method
          no_virtual : is_virtual m ≡ false → Alike y (Some (found_at j)) (Some (described_token (described_in q
              (described_at j))))
          no_virtual not_one =
              let a = each q p it in
              let r = a.runs in
              let b = r.runnable in
              of_token None (bound_described r.list p b.sound its y c known refl plain j m there (fixed (is_static
              m.flags) (is_private m.flags) (is_constructor m.name) (is_initialiser m.name) not_one (ap is_initialiser
              same_name ∙ ordinary))) (bound (record { owner = k; flags = m.flags }) hit_there (may_send ∙ not_one))
            where
              fixed : (st pr k i : Bool) → ((not pr && not st) && not (k || i)) ≡ false → i ≡ false
                  → (st || (pr || k)) ≡ true
              fixed true pr k i e f = refl
              fixed false true k i e f = refl
              fixed false false true i e f = refl
              fixed false false false false e f = absurd (cc)
              fixed false false false true e f = absurd (cc)

          -- a public or protected one
          shown_one : is_virtual m ≡ true → is_shown m ≡ true → Alike y (Some (found_at j)) (Some (described_token
              (described_in q (described_at j))))
          shown_one virtual shown =
              let a = each q p it in
              let r = a.runs in
              let b = r.runnable in
              let finds_it : finds_shown (line_of v y) s ≡ true = ap (λ z. finds_shown z s) own_line
              ∙ ap (λ o. passes is_shown o (finds_shown (line_in v (supertypes v c.supers)) s)) is_first
              ∙ shown in
              let o = (let n = calls in n.open_method) s finds_it in
              let seen = (and_true (is_exposed m.flags) (is_virtual m) shown).0 in
              let own = open_own id k j m there names virtual seen in
              of_token (Some (Open o.0)) (shown_described r.list p b.sound its y c known refl plain j m there virtual
              shown o.0 (ap (token (slots (line_of v y))) names ∙ o.1) (b.tokens y c s o.0 known plain o.1)) (bears
              (record {
                owner = k;
                flags = m.flags;
              }) hit_there (may_send ∙ virtual) (shown_sends forms offsets packages is each at stand exposed outside
              leads q p it id (virtual_ordinary id m names virtual) y c k known plain named plain o.0 o.1 own.0
              (search_from w order.acyclic (own_where is_open id.name id.desc) y k named own.0 own.1) (record {
                owner = k;
                flags = m.flags;
              }) (seen_so m.flags seen)))

          -- a package-visible one
          hidden_one : is_virtual m ≡ true → is_shown m ≡ false → Alike y (Some (found_at j)) (Some (described_token
              (described_in q (described_at j))))
          hidden_one virtual not_shown =
              let a = each q p it in
              let r = a.runs in
              let b = r.runnable in
              let finds_it : finds_hidden (line_of v y) s ≡ true = ap (λ z. finds_hidden z s) own_line
              ∙ ap (λ o. passes is_hidden o (finds_hidden (line_in v (supertypes v c.supers)) s)) is_first
              ∙ virtual_kinds m virtual not_shown in
              let o = (let n = calls in n.package_method) s finds_it in
              of_token (Some (Hidden 0 o.0)) (hidden_described r.list p b.sound its y c known refl plain j m there
              virtual not_shown o.0 (ap (token (hidden_slots (line_of v y))) names ∙ o.1)) (bears (record {
                owner = k;
                flags = m.flags;
              }) hit_there (may_send ∙ virtual) (package_sends forms offsets packages is each at stand q p it id
              ordinary y place t file known plain finds_it o.0 o.1 named (record {
                owner = k;
                flags = m.flags;
              }) (unseen_so m virtual not_shown) (package_home packages is.linked q p it y c known refl)))

          declared_alike : Alike y (Some (found_at j)) (Some (described_token (described_in q (described_at j))))
          declared_alike = by (is_virtual m) (is_shown m) refl refl
            where
              by : (a b : Bool) → is_virtual m ≡ a → is_shown m ≡ b → Alike y (Some (found_at j)) (Some (described_token
                  (described_in q (described_at j))))
              by false b virtual shown = no_virtual virtual
              by true true virtual shown = shown_one virtual shown
              by true false virtual shown = hidden_one virtual shown

        -- ---- what it declares, and else what is above

        below_here : Below w y t.superclass
        below_here = listed_below w y t.superclass t.superclass k named (lists-front t.superclass k.supers
            k.interfaces foremost) (inl refl)

        own_alike : is_initialiser id.name ≡ false → (f : Option Found) (u : Option (Option Token))
            → Alike t.superclass f u → Alike y (lookup.or_else (finds k) f) (token_or (described_here (finds c)) u)
        own_alike ordinary f u rest =
            subst (λ o. Alike y (lookup.or_else o f) (token_or (described_here (finds c)) u)) (sym (own_place id.name
            id.desc k)) (subst (λ o. Alike y (lookup.or_else (option_map found_at (position test k.methods)) f)
            (token_or (described_here o) u)) (sym (own_place id.name id.desc c)) (by (position test c.methods) refl))
          where
            by : (o : Option ℕ) → position test c.methods ≡ o
                → Alike y (lookup.or_else (option_map found_at o) f) (token_or (described_here (option_map (λ i.
                member_at c (length c.fields + i)) o)) u)
            by None e = alike_below y t.superclass below_here f u rest
            by (Some j) e =
                let m = position_there test c.methods j e in
                declared_alike ordinary j m.0 m.1 (chosen_first s c.methods j m.0 e m.1)

        line_here : first finds (line w y) ≡ lookup.or_else (finds k) (first finds (line w t.superclass))
        line_here = ap (first finds) (line_goes_up w order.acyclic y t.superclass k named refl)
            ∙ first_step finds k (line w t.superclass)

        pub inside_alike : is_initialiser id.name ≡ false → (n : ℕ) → Alike t.superclass (first finds (line w
            t.superclass)) (found_token l (suc n) (Some (class_together packages t.superclass)) id)
            → Alike y (first finds (line w y)) (found_token l (suc (suc n)) (Some (class_together packages y)) id)
        inside_alike ordinary n rest =
            subst (λ o. Alike y o (found_token l (suc (suc n)) (Some (class_together packages y)) id)) (sym line_here)
            (subst (Alike y (lookup.or_else (finds k) (first finds (line w t.superclass)))) (sym (step_up n
            ∙ ap (λ b. token_or (described_here (if b then None else finds c)) (found_token l (suc n) (Some
            (class_together packages t.superclass)) id)) ordinary)) (own_alike ordinary (first finds (line w
            t.superclass)) (found_token l (suc n) (Some (class_together packages t.superclass)) id) rest))

        -- ---- its superclass

        pub super_there : (d : Class) × (class_named w t.superclass ≡ Some d) × (is_interface d.flags ≡ false)
        super_there =
            let h = class_stands group is.ordered q p.files (together_at packages is.linked q p it) t.superclass above.0
            above.1 in
            (h.class, h.named, order.supers y t.superclass k h.class named foremost h.named)

        pub goes_up : (a b : classes.Class) → a ≡ class_together packages y → super_of a ≡ Some b
            → b ≡ class_together packages t.superclass
        goes_up a b one e = one_class (sym super_is ∙ sym (ap super_of (one ∙ own_is)) ∙ e)

    -- ---- each class, by how high it stands

    climb : is_initialiser id.name ≡ false → {h : ℕ} {a : classes.Class} → towers.Stands l h a → (y : List ℕ)
        (k : Class) → class_named w y ≡ Some k → is_interface k.flags ≡ false → a ≡ class_together packages y → (n : ℕ)
        → h ≤ n → Alike y (first finds (line w y)) (found_token l (suc n) (Some (class_together packages y)) id)
    climb ordinary towers.outside y k named plain one n low =
        ⊎_elim (λ i. no_class (one ∙ i.on_card))
        (λ o. outside_alike forms offsets packages is each at stand exposed outside leads id y k named o plain n)
        (stands packages is.linked y k named)
    climb ordinary (towers.own entry info super rest) y k named plain one zero low = absurd (omega (arith, low))
    climb ordinary (towers.own {part = part} {offset = offset} {s = b} entry info super rest) y k named plain one
        (suc n) low =
        ⊎_elim (λ i. inside i (λ x d known ground up_is. climb ordinary rest x d known ground up_is n (omega (
          arith,
          low,
        ))))
        (λ o. no_class (sym o.on_card ∙ sym one))
        (stands packages is.linked y k named)
      where
        inside : Inside packages is.linked y k → ((x : List ℕ) (d : Class) → class_named w x ≡ Some d
            → is_interface d.flags ≡ false → b ≡ class_together packages x
            → Alike x (first finds (line w x)) (found_token l (suc n) (Some (class_together packages x)) id))
            → Alike y (first finds (line w y)) (found_token l (suc (suc n)) (Some (class_together packages y)) id)
        inside i rise =
            let named_i = named ∙ ap Some i.is in
            let plain_i = ap (λ (d : Class). is_interface d.flags) (sym i.is) ∙ plain in
            let d = super_there i.part i.«package» i.here i.place i.tree i.file y i.there named_i plain_i in
            let up_is = goes_up i.part i.«package» i.here i.place i.tree i.file y i.there named_i plain_i (Own part
            offset) b one (ap (superclass_by l part) info ∙ super) in
            inside_alike i.part i.«package» i.here i.place i.tree i.file y i.there named_i plain_i ordinary n
            (rise (let t = i.tree in t.superclass) d.0 d.1 d.2 up_is)

    -- an initialiser has no token
    climb_bound : is_initialiser id.name ≡ true → {h : ℕ} {a : classes.Class} → towers.Stands l h a → (y : List ℕ)
        (k : Class) → class_named w y ≡ Some k → is_interface k.flags ≡ false → a ≡ class_together packages y → (n : ℕ)
        → h ≤ n → (t : Token) → found_token l (suc n) (Some (class_together packages y)) id ≡ Some (Some t) → ⊥
    climb_bound init towers.outside y k named plain one n low t e =
        ⊎_elim (λ i. no_class (one ∙ i.on_card))
        (λ o. outside_bound forms offsets packages is each at stand exposed outside leads id y k named o (init_special
        id init) n t e)
        (stands packages is.linked y k named)
    climb_bound init (towers.own entry info super rest) y k named plain one zero low t e = absurd (omega (arith, low))
    climb_bound init (towers.own {part = part} {offset = offset} {s = b} entry info super rest) y k named plain one
        (suc n) low t e =
        ⊎_elim (λ i. inside i (λ x d known ground up_is. climb_bound init rest x d known ground up_is n (omega (
          arith,
          low,
        )) t))
        (λ o. no_class (sym o.on_card ∙ sym one))
        (stands packages is.linked y k named)
      where
        inside : Inside packages is.linked y k → ((x : List ℕ) (d : Class) → class_named w x ≡ Some d
            → is_interface d.flags ≡ false → b ≡ class_together packages x
            → found_token l (suc n) (Some (class_together packages x)) id ≡ Some (Some t) → ⊥) → ⊥
        inside i rise =
            let named_i = named ∙ ap Some i.is in
            let plain_i = ap (λ (d : Class). is_interface d.flags) (sym i.is) ∙ plain in
            let d = super_there i.part i.«package» i.here i.place i.tree i.file y i.there named_i plain_i in
            let up_is = goes_up i.part i.«package» i.here i.place i.tree i.file y i.there named_i plain_i (Own part
            offset) b one (ap (superclass_by l part) info ∙ super) in
            let c = declared i.place i.tree in
            rise (let t = i.tree in t.superclass) d.0 d.1 d.2 up_is (sym
            (step_up i.part i.«package» i.here i.place i.tree i.file y i.there named_i plain_i n
            ∙ ap (λ b. token_or (option_map (described_in i.part) (option_map (λ m. record { part = 0; method = m })
            (option_map (method_descriptor i.«package» c) (if b then None else finds c)))) (found_token l (suc n) (Some
            (class_together packages (let t = i.tree in t.superclass))) id)) init) ∙ e)

  -- ---- what holds of each

  stands_low : (y : List ℕ) (d : Class) → class_named w y ≡ Some d → is_interface d.flags ≡ false
      → StandsLow packages y
  stands_low y d named plain =
      let s = known_by packages is.linked order (no_array forms offsets packages is each at stand) y d named plain in
      climbs_low packages is.linked leads facts s.part s.«package» s.here y s.class s.named s.plain

  pub lines_alike : LinesAreFoundAlike packages at
  lines_alike y d named plain id ordinary =
      let h = stands_low y d named plain in
      climb id ordinary h.stands y d named plain refl (depth l) h.low

  pub lines_bind : LinesBindSpecials packages at
  lines_bind y d named plain id special t e = by (is_initialiser id.name) refl
    where
      unsendable : (hit : ResolvedMember) → is_sendable id hit ≡ false
      unsendable hit = split (is_selectable hit.flags) (is_constructor id.name) (is_initialiser id.name) special
        where
          split : (a b k : Bool) → (b || k) ≡ true → ((a && not b) && not k) ≡ false
          split true true k h = refl
          split true false true h = refl
          split true false false h = absurd (cc)
          split false b k h = refl

      of_alike : (f : Option Found) (u : Option (Option Token)) → FoundAlike packages at y id f u → u ≡ Some (Some t)
          → ⊥
      of_alike f u nowhere g = absurd (cc)
      of_alike f u (bound hit there kind) g = absurd (cc)
      of_alike f u (bears hit there kind sends) g = let no : false ≡ true = sym (unsendable hit) ∙ kind in absurd (cc)

      by : (b : Bool) → is_initialiser id.name ≡ b → ⊥
      by true init =
          let h = stands_low y d named plain in
          climb_bound id init h.stands y d named plain refl (depth l) h.low t e
      by false ordinary = of_alike (first (own_method false id.name id.desc) (line w y)) (found_token l (suc (depth l))
          (Some (class_together packages y)) id) (lines_alike y d named plain id ordinary) e

  pub found_sent : FoundAreSentAlike packages at
  found_sent x c named plain id ordinary y d named_y plain_y below f found z =
      by (first (own_method false id.name id.desc) (line w y)) (found_token l (suc (depth l)) (Some (class_together
      packages y)) id) (lines_alike y d named_y plain_y id ordinary) found
    where
      by : (o : Option Found) (t : Option (Option Token)) → FoundAlike packages at y id o t → o ≡ Some f
          → start_selected l (sent_by l (Some (class_together packages x)) z id t)
          ≡ begun packages at (sent_of packages at x id true (Some f))
      by o t nowhere e = absurd (cc)
      by o t (bound {f = g} hit there kind) e =
          let same : g ≡ f = cc in
          sym (ap (λ q. begun packages at (option_and_then (sent_for packages at x id true) q)) (ap (method_hit w) (sym
          same) ∙ there) ∙ ap (λ b. begun packages at (if b && true then option_and_then (method_at (joint group))
          (selection_for w hit x id) else None)) kind)
      by o t (bears {f = g} hit there kind sends) e =
          let same : g ≡ f = cc in
          sends x c named plain below
          ∙ sym (ap (λ q. begun packages at (option_and_then (sent_for packages at x id true) q)) (ap (method_hit w)
          (sym same) ∙ there) ∙ ap (λ b. begun packages at (if b && true then option_and_then (method_at (joint group))
          (selection_for w hit x id) else None)) kind)
