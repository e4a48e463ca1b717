-- What the code of a package calls of a superclass it finds from there by itself: a method at which selection may end,
-- and neither a constructor nor an initialiser.
use Rattle.std.proofs.Common.{◌≡◌, ℕ, ◌+◌, refl, sym, ap, subst, ◌∙◌, Bool, true, false, List, [], ◌∷◌, length}
use Rattle.std.specs.Prelude.{◌&&◌, ◌||◌, not, Option, Some, None, option_and_then, option_map, position, slice_get}
use Rattle.std.specs.Prelude.{if◌then◌else◌}
use Rattle.cjc_bytes.specs.AccessFlags.{is_interface, is_private}
use Rattle.cjc_bytes.specs.declared.fault.MemberId.{MemberId}
use Rattle.cjc_bytes.proofs.Bools.{or_left, or_right}
use Rattle.cjc_bytes.proofs.Gets.{any_at}
use Rattle.cjc_components.specs.Bytecode.declared.insn.JOp.TheVariants as jop
use Rattle.cjc_components.specs.Bytecode.declared.method_code.MethodCode.{MethodCode}
use Rattle.cjc_components.specs.Package.{LaidMethod, Package, world}
use Rattle.cjc_jvm_semantics.specs.OnePackage.{ResolvedMember, is_constructor, is_initialiser, method_hit, of_class}
use Rattle.cjc_narrow_proof.specs.Laws.Unbroken.{IsInsnOf, KeepsNames}
use Rattle.cjc_narrow_proof.proofs.LawsLaws.Own.{first_here, own_kept}
use Rattle.cjc_shape_proof.specs.LowerJudge.Rules.{settings_of}
use Rattle.cjc_shape_proof.specs.WorldProof.Calls.Solid.{IsSolid}
use Rattle.cjc_shape_proof.specs.Written.Checked.{IsOfFiles}
use Rattle.cjc_shape_proof.proofs.WrittenLaws.Checked.{own_names, own_solid}
use Rattle.cjc_theorem.proofs.AlikeLaws.MetLaws.KeySources as met
use Rattle.cjc_theorem.proofs.AlikeLaws.MetLaws.KeySources.{IsMet, insn_met}
use Rattle.cjc_theorem.proofs.AlikeLaws.NamedCalls.Operations.{is_that_call, no_call, no_test}
use Rattle.cjc_theorem.proofs.AlikeLaws.NamedLaws.Names.{Calls_method, called}
use Rattle.cjc_theorem.proofs.AlikeLaws.VirtualCalls.Chosen.{IsFirstOf, first_found, own_first, placed as place_of}
use Rattle.cjc_theorem.proofs.AlikeLaws.VirtualCalls.MethodKinds.{in_get}
use Rattle.cjc_theorem.specs.Alike.Opcodes.{CallsHaveOpcodes}
use Rattle.cjc_token_proof.proofs.ByToken.Members.{member_tells}
use Rattle.cjc_token_proof.proofs.WorldProofOwn.{hit_is, is_found, mapped_at}
use Rattle.cjc_token_proof.proofs.WorldProofSelects.{called_by}
use Rattle.cjc_token_proof.proofs.WorldProofTypes.{receiver_class}
use Rattle.cjc_token_proof.proofs.WrittenCalls.Reached.{find_first}
use Rattle.cjc_token_proof.proofs.WrittenSends.Operations.{flat_from}
use Rattle.cjc_token_proof.specs.Calls.Selecting.{signature}
use Rattle.cjc_token_proof.specs.CardSemantics.Bytecode.Effects.{Call}
use Rattle.cjc_token_proof.specs.CardSemantics.Bytecode.Meanings.{Calls, Gets, GetsStatic, Makes, MakesReferences}
use Rattle.cjc_token_proof.specs.CardSemantics.Bytecode.Meanings.{Meaning, Puts, PutsStatic, Special, Static, Uses}
use Rattle.cjc_token_proof.specs.CardSemantics.Bytecode.Meanings.{Virtual, meaning}
use Rattle.cjc_token_proof.specs.List.Listed.{ListTree}
use Rattle.cjc_token_proof.specs.NCode.ByLabel.{Callee, Fixed, OnInterface, OnObject, OnSuper, naming, operation}
use Rattle.cjc_token_proof.specs.NCode.PoolOrder.{insn_keys}
use Rattle.cjc_token_proof.specs.NCode.declared.narrow.NInsn.{NInsn}
use Rattle.cjc_token_proof.specs.NCode.declared.narrow.NInsn.TheVariants as insns
use Rattle.cjc_token_proof.specs.NCode.declared.narrow.PoolKey.{PoolKey}
use Rattle.cjc_token_proof.specs.NCode.declared.narrow.PoolKey.TheVariants as keys
use Rattle.cjc_token_proof.specs.Narrow.Rows.Resolved.{by_owner, method_found, special_by}
use Rattle.cjc_token_proof.specs.Subset.Members as subset
use Rattle.cjc_token_proof.specs.Subset.Names.{is_bodiless, is_unfit_super}
use Rattle.cjc_token_proof.specs.WrittenSends.Named.{callee_in, calls_in, calls_of, same_call}
use Rattle.cjc_tokens.proofs.Facts.{chosen-In, chosen-passes, same-refl}
use Rattle.cjc_tokens.specs.Members.{In, Signature, chosen, signature_of}
use Rattle.cjc_vtable.proofs.Filed.{Has, IsFiled, at-number, at_front, filed, in_class_file, in_export_file}
use Rattle.cjc_vtable.specs.Calls.{any_method, is_special, selects}
use Rattle.cjc_vtable.specs.Laws.{selection}
use Rattle.cjc_world.proofs.Upwards.{line_goes_up}
use Rattle.cjc_world.proofs.UpwardLaws.Lines.{below_line, line_begins, line_named, of_line}
use Rattle.cjc_world.specs.ClassFile.declared.tree.ClassTree.{ClassTree}
use Rattle.cjc_world.specs.Classes.{Class, Member, class_named, declared, method_of_class}
use Rattle.cjc_world.specs.Lookup.{first, is_called, is_selectable, is_wanted, member_at, or_else, own_method}
use Rattle.cjc_world.specs.Lookup.{receiver, selected}
use Rattle.cjc_world.specs.Rules.{is_earlier, is_twice}
use Rattle.cjc_world.specs.Supertypes.{Lists, foremost, is_below, line}
use Rattle.cjc_world.specs.Upwards as upwards
use Rattle.cjc_world.specs.Upwards.{IsOrdered, OnLine, after, here, up}
use Rattle.cjc_world.specs.declared.found.Found.{Found}
use Rattle.cjc_joint_whole.specs.Above.{FindsAbove, ImportsKeepKinds}
use Rattle.cjc_joint_whole.specs.Selected.{NamesVirtual}
use Rattle.cjc_joint_whole.proofs.WholeLaws.KindsKept.{all_kinds}
use Rattle.cjc_joint_whole.proofs.WholeLaws.LinesBack.{one_listed}

-- an instruction that calls a method of the superclass names it
super_key : (how : Meaning) (key : PoolKey) (m : MemberId) → naming how key ≡ Call (OnSuper m) → key ≡ keys.Super m
super_key (Uses (Calls Virtual)) (keys.Virtual k) m e = absurd (cc)
super_key (Uses (Calls Special)) (keys.Super k) m e = let same : OnSuper k ≡ OnSuper m = cc in
    ap keys.Super (let is : k ≡ m = cc in is)
super_key (Uses (Calls Special)) (keys.StaticMethod k) m e = absurd (cc)
super_key (Uses (Calls Static)) (keys.StaticMethod k) m e = absurd (cc)
super_key (Uses (Gets this letter)) (keys.Field f) m e = absurd (cc)
super_key (Uses (Puts this letter)) (keys.Field f) m e = absurd (cc)
super_key (Uses (GetsStatic letter)) (keys.StaticField f) m e = absurd (cc)
super_key (Uses (PutsStatic letter)) (keys.StaticField f) m e = absurd (cc)
super_key (Uses Makes) (keys.Class c) m e = absurd (cc)
super_key (Uses MakesReferences) (keys.Class c) m e = absurd (cc)
super_key how key m e = absurd (cc)

super_insn : (i : NInsn) (m : MemberId) → operation i ≡ Call (OnSuper m) → Has (keys.Super m) (insn_keys i)
super_insn (insns.Op op) m e = absurd (no_call (insns.Op op) (OnSuper m) refl e)
super_insn (insns.Push op value) m e = absurd (no_call (insns.Push op value) (OnSuper m) refl e)
super_insn (insns.Local op index) m e = absurd (no_call (insns.Local op index) (OnSuper m) refl e)
super_insn (insns.Inc op index by) m e = absurd (no_call (insns.Inc op index by) (OnSuper m) refl e)
super_insn (insns.Words op a b) m e = absurd (no_call (insns.Words op a b) (OnSuper m) refl e)
super_insn (insns.Jump op target) m e = absurd (no_call (insns.Jump op target) (OnSuper m) refl e)
super_insn (insns.Switch op other low cases) m e = absurd (no_call (insns.Switch op other low cases) (OnSuper m) refl e)
super_insn (insns.Named op key) m e = subst (λ (k : PoolKey). Has (keys.Super m) (k ∷ []))
    (sym (super_key (meaning op) key m e)) at_front
super_insn (insns.Interface nargs k) m e = absurd (cc)
super_insn (insns.NewArray number) m e = absurd (no_call (insns.NewArray number) (OnSuper m) refl e)
super_insn (insns.TypeTest op number None) m e = absurd (no_call (insns.TypeTest op number None) (OnSuper m) refl e)
super_insn (insns.TypeTest op number (Some c)) m e = absurd (no_test _ _ (OnSuper m) e)

super_tells : (m : MemberId) (c : Callee) → same_call (OnSuper m) c ≡ true → c ≡ OnSuper m
super_tells m (Fixed on k) e = absurd (cc)
super_tells m (OnSuper k) e = ap OnSuper (sym (member_tells m k e))
super_tells m (OnObject k) e = absurd (cc)
super_tells m (OnInterface n k) e = absurd (cc)

-- ---- look-up

-- what has a body is selected
chosen_some : (w : List Class) (super : List ℕ) (id : MemberId) → receiver super ≡ super → (o : Option Found)
    → selected w super id.name id.desc ≡ o → is_bodiless (subset.hit w false o) ≡ false → (f : Found)
    × (selection w super (signature id) ≡ Some f)
unfolding selected subset.hit
chosen_some w super id same_name None g e = absurd cc
chosen_some w super id same_name (Some f) g e = (
  f,
  ap (λ y. first (own_method true id.name id.desc) (line w y))
      (sym same_name) ∙ g,
)

-- a class that declares a method finds one of its name and descriptor
own_there : (s : Signature) (c : Class) (m : Member) → In m c.methods → signature_of m ≡ s → (f : Found)
    × (own_method false s.name s.desc c ≡ Some f)
unfolding own_method
own_there s c m i one =
    let place = in_get m c.methods i in
    let met : (is_wanted false m.flags && is_called s.name s.desc m) ≡ true = called_by s.name s.desc m (ap (λ
    (u : Signature). u.name) one) (ap (λ (u : Signature). u.desc) one) in
    let at = is_found (λ (k : Member). is_wanted false k.flags && is_called s.name s.desc k) c.methods place.0 m place.1
    met in
    (member_at c (length c.fields + at.0), ap (option_map (λ i. member_at c (length c.fields + i))) at.1)

-- where nothing is found, no class has one
none_along : (own : Class → Option Found) (cs : List Class) (c : Class) → upwards.Has c cs → first own cs ≡ None
    → own c ≡ None
unfolding first
none_along own [] c h e = elim h [ ]
none_along own (d ∷ cs) _ upwards.foremost e = by (own d) refl e
  where
    by : (o : Option Found) → own d ≡ o → or_else o (first own cs) ≡ None → own d ≡ None
    by None f g = f
    by (Some k) f g = absurd (cc)
none_along own (d ∷ cs) c (after h) e = none_along own cs c h (by (own d) e)
  where
    by : (o : Option Found) → or_else o (first own cs) ≡ None → first own cs ≡ None
    by None g = g
    by (Some k) g = absurd (cc)

module _ (list : ListTree) (codes : List MethodCode) (p : Package) (is : IsOfFiles list codes p)
    (opcodes : CallsHaveOpcodes codes) (keep : ImportsKeepKinds p) where
  abbrev w : List Class
  w = world p

  abbrev u : KeepsNames list.name p.files codes (settings_of list)
  u = own_names list codes p is.checked

  abbrev solid : IsSolid p.files
  solid = own_solid list codes p is.checked

  abbrev order : IsOrdered w
  order = (let s = own_solid list codes p is.checked in s.ordered)

  -- a method of a class of the package is the first of its signature there (202)
  first_own : (c : Class) → class_named w c.name ≡ Some c → c.is_imported ≡ false → (k : ℕ) (m : Member)
      → slice_get c.methods k ≡ Some m → chosen any_method (signature_of m) c.methods ≡ Some m
  unfolding is_twice
  first_own c known own k m e = by c (filed p.files c.name c known) own e
    where
      by : (c : Class) → IsFiled p.files c → c.is_imported ≡ false → slice_get c.methods k ≡ Some m
          → chosen any_method (signature_of m) c.methods ≡ Some m
      by c (in_export_file n t at) own e = absurd cc
      by c (in_class_file n t at) own e =
          let q = u in
          let x = mapped_at method_of_class t.methods k m e in
          let kept = own_kept p.files list.name q.listed q.world n t at in
          let once = (kept.methods k x.0 x.1).0 in
          let apart = ap (λ (v : Member). is_earlier (position (λ y. is_called v.name v.desc y) (declared n t).methods)
          k) x.2 ∙ once in
          let at_place = first_here (λ y. is_called m.name m.desc y) (declared n t).methods k m e
          (same-refl (signature_of m)) apart in
          let r = place_of any_method (signature_of m) (declared n t).methods k at_place in
          let both : Some r.0 ≡ Some m = sym r.2 ∙ e in
          let one : r.0 ≡ m = cc in
          r.1 ∙ ap Some one

  -- ---- along a line

  -- what a class declares first, as it is found
  found_flags : (s : Signature) (x : List ℕ) (c : Class) → class_named w x ≡ Some c → (f : Found) (h : ResolvedMember)
      → own_method false s.name s.desc c ≡ Some f → method_hit w f ≡ Some h → (n : Member)
      × (chosen any_method s c.methods ≡ Some n) × (h.flags ≡ n.flags)
  found_flags s x c known f h own hit =
      let o = own_first false s c f own in
      let n = o.method in
      let two : Some h ≡ Some (record { owner = c; flags = n.flags }) = sym hit ∙ ap (method_hit w) o.is ∙ hit_is w c
      o.place n (at-number p.files x c known) o.there in
      let same : h ≡ record { owner = c; flags = n.flags } = cc in
      (n, o.is_first, ap (λ (k : ResolvedMember). k.flags) same)

  module _ (s : Signature) (ordinary : is_special s ≡ false) (d : Class) (m : Member) (among : In m d.methods)
      (one : signature_of m ≡ s) (may : selects m ≡ true) where
    abbrev own_one : Class → Option Found
    own_one = own_method false s.name s.desc

    -- selection may end at what is found first from a class
    abbrev EndsFirst : List ℕ → Type 0
    EndsFirst x = (f : Found) (h : ResolvedMember) → first own_one (line w x) ≡ Some f → method_hit w f ≡ Some h
        → is_selectable h.flags ≡ true

    at_class : (x : List ℕ) (c : Class) → class_named w x ≡ Some c → is_interface c.flags ≡ false → OnLine w x d
        → (c.is_imported ≡ false → (n : Member) → chosen any_method s c.methods ≡ Some n → selects n ≡ true)
        → (c.is_imported ≡ false → own_one c ≡ None → (y : List ℕ) → c.supers ≡ y ∷ [] → EndsFirst y) → EndsFirst x
    unfolding first
    at_class x c known plain on itself above f h found hit = split c.is_imported refl
      where
        split : (b : Bool) → c.is_imported ≡ b → is_selectable h.flags ≡ true
        split true import = keep x c d m s f h known import plain ordinary on among one may found hit
        split false own = by (own_one c) refl
          where
            super : (y : List ℕ) × (c.supers ≡ y ∷ [])
            super = by_file (filed p.files x c known) own
              where
                by_file : {c : Class} → IsFiled p.files c → c.is_imported ≡ false → (y : List ℕ) × (c.supers ≡ y ∷ [])
                by_file (in_class_file n t at) own = (t.superclass, refl)
                by_file (in_export_file n t at) own = absurd (cc)

            goes_up : line w x ≡ c ∷ line w super.0
            goes_up = line_goes_up w (let o = order in o.acyclic) x super.0 c known super.1

            found_at : (o : Option Found) → own_one c ≡ o → or_else o (first own_one (line w super.0)) ≡ Some f
            found_at o e = sym (ap (first own_one) goes_up ∙ ap (λ o. or_else o (first own_one (line w super.0))) e)
                ∙ found

            by : (o : Option Found) → own_one c ≡ o → is_selectable h.flags ≡ true
            by (Some k) e =
                let two : Some k ≡ Some f = found_at (Some k) e in
                let same : k ≡ f = cc in
                let r = found_flags s x c known f h (e ∙ ap Some same) hit in
                ap is_selectable r.2 ∙ itself own r.0 r.1
            by None e = above own e super.0 super.1 f h (found_at None e) hit

    walk : (x : List ℕ) → OnLine w x d → ((c : Class) → class_named w x ≡ Some c → is_interface c.flags ≡ false)
        → EndsFirst x
    walk x (here e) plain = at_class x d e (plain d e) (here e) itself above
      where
        once : d.is_imported ≡ false → chosen any_method s d.methods ≡ Some m
        once own =
            let place = in_get m d.methods among in
            subst (λ (v : Signature). chosen any_method v d.methods ≡ Some m) one (first_own d (line_named w x d (here
            e)) own place.0 m place.1)

        itself : d.is_imported ≡ false → (n : Member) → chosen any_method s d.methods ≡ Some n → selects n ≡ true
        itself own n chosen_one =
            let two : Some m ≡ Some n = sym (once own) ∙ chosen_one in
            let same : m ≡ n = cc in
            subst (λ (k : Member). selects k ≡ true) same may

        above : d.is_imported ≡ false → own_one d ≡ None → (y : List ℕ) → d.supers ≡ y ∷ [] → EndsFirst y
        above own none y supers =
            let has = own_there s d m among one in
            let no : Some has.0 ≡ None = sym has.1 ∙ none in
            absurd (cc)
    walk x (up {s = y} c e l rest) plain = at_class x c e (plain c e) (up c e l rest) itself (λ own none z supers.
        subst EndsFirst (one_listed y z (subst (λ ys. Lists y ys) supers l)) (walk y rest plain_above))
      where
        plain_above : (k : Class) → class_named w y ≡ Some k → is_interface k.flags ≡ false
        plain_above k named = let o = order in o.supers x y c k e l named

        itself : c.is_imported ≡ false → (n : Member) → chosen any_method s c.methods ≡ Some n → selects n ≡ true
        itself own n chosen_one =
            let q = u in
            let is_n = (chosen-passes any_method s c.methods n chosen_one).0 in
            all_kinds list.name p.files codes (settings_of list) q.checks (let o = order in o.acyclic) x y c d n m e own
            l rest (chosen-In any_method s c.methods n chosen_one) among (is_n ∙ sym one) (ap is_special is_n
            ∙ ordinary) may

  -- ---- an invokespecial

  module _ (class : ClassTree) (id : MemberId) (of : IsInsnOf p.files codes class (jop.Call 0xB7 id)) (number : ℕ)
      (holder : class_named w class.name ≡ Some (declared number class))
      (no_constructor : is_constructor id.name ≡ false) (hit : ResolvedMember)
      (is_hit : method_found w id ≡ Some hit) (visible : is_private hit.flags ≡ false) where
    abbrev s : Signature
    s = signature id

    abbrev n : Calls_method list codes p is class 0xB7 id
    n = called list codes p is class 0xB7 id of

    abbrev flags : ℕ
    flags = (let c = n in let a = c.at in let m = a.member in m.flags)

    open_one : is_private flags ≡ false
    open_one =
        let c = n in
        let here : ResolvedMember = record { owner = c.owner; flags = flags } in
        let both : Some here ≡ Some hit = sym (ap (option_and_then (method_hit w)) c.found ∙ c.hit) ∙ is_hit in
        let same : here ≡ hit = cc in
        ap (λ (h : ResolvedMember). is_private h.flags) same ∙ visible

    plain_name : is_special s ≡ false
    plain_name = let c = n in let f = c.fits in either (is_constructor id.name) (is_initialiser id.name) no_constructor
        f.no_initialiser
      where
        either : (a b : Bool) → a ≡ false → b ≡ false → (a || b) ≡ false
        either false false e f = refl
        either true b e f = absurd cc
        either false true e f = absurd cc

    abbrev super : List ℕ
    super = class.superclass

    fit : is_unfit_super w class id ≡ false
    fit = let c = n in last (is_constructor id.name) (is_private flags) (is_unfit_super w class id) no_constructor
        open_one c.fits_class
      where
        last : (a b v : Bool) → a ≡ false → b ≡ false → (true && not a && not b && v) ≡ false → v ≡ false
        last false false v e f g = g
        last true b v e f g = absurd cc
        last false true v e f g = absurd cc

    named_on : OnLine w super (let c = n in c.named_class)
    named_on =
        let c = n in
        let below_it = not_false (is_below w super id.class) (or_left (not (is_below w super id.class))
        (is_bodiless (subset.hit w false (selected w super id.name id.desc))) fit) in
        below_line w (let o = order in o.acyclic) super id.class c.named_class below_it c.names_class
      where
        not_false : (a : Bool) → not a ≡ false → a ≡ true
        not_false true e = refl
        not_false false e = absurd cc

    super_there : (d : Class) × (class_named w super ≡ Some d)
    super_there = line_begins w super (let c = n in c.named_class) named_on

    plain_super : (k : Class) → class_named w super ≡ Some k → is_interface k.flags ≡ false
    plain_super k named = let o = order in o.supers class.name super (declared number class) k holder foremost named

    -- what is selected from there
    selected_some : (f : Found) × (selection w super s ≡ Some f)
    selected_some =
        let q = solid in
        chosen_some w super id (receiver_class super (q.plain super super_there.0 super_there.1))
        (selected w super id.name id.desc) refl
        (or_right (not (is_below w super id.class))
        (is_bodiless (subset.hit w false (selected w super id.name id.desc))) fit)

    ends : IsFirstOf true s (line w super) selected_some.0
    ends = first_found true s (line w super) selected_some.0 selected_some.1

    abbrev d : Class
    d = let r = ends in r.class

    abbrev m : Member
    m = let r = ends in let a = r.at in a.method

    is_m : (signature_of m ≡ s) × (selects m ≡ true)
    is_m = let r = ends in let a = r.at in chosen-passes selects s d.methods m a.is_first

    among : In m d.methods
    among = let r = ends in let a = r.at in chosen-In selects s d.methods m a.is_first

    finds_super : NamesVirtual w (of_class super id)
    finds_super = by (first (own_method false id.name id.desc) (line w super)) refl
      where
        by : (o : Option Found) → first (own_method false id.name id.desc) (line w super) ≡ o
            → NamesVirtual w (of_class super id)
        by None e =
            let r = ends in
            let none = none_along (own_method false id.name id.desc) (line w super) d r.among e in
            let has = own_there s d m among is_m.0 in
            let no : Some has.0 ≡ None = sym has.1 ∙ none in
            absurd (cc)
        by (Some f) e =
            let r = first_found false s (line w super) f e in
            let c = r.class in
            let a = r.at in
            let k = a.method in
            let on = of_line w (let o = order in o.acyclic) super c r.among in
            let way = (let q = ends in of_line w (let o = order in o.acyclic) super d q.among) in
            let hit_it : method_hit w f ≡ Some (record { owner = c; flags = k.flags }) = ap (method_hit w) a.is
            ∙ hit_is w c a.place k (at-number p.files c.name c (line_named w super c on)) a.there in
            record {
              place = f;
              found = find_first w super id.name id.desc f e;
              hit = record { owner = c; flags = k.flags };
              is_hit = hit_it;
              selectable = walk s plain_name d m among is_m.0 is_m.1 super way plain_super f (record {
                owner = c;
                flags = k.flags;
              }) e hit_it;
              ordinary = plain_name;
            }

  -- ---- all calls

  -- what is asked of one
  abbrev FoundAbove : MemberId → Type 0
  FoundAbove m = (c : Class) (super : List ℕ) → class_named w m.class ≡ Some c → c.supers ≡ super ∷ []
      → NamesVirtual w (of_class super m)

  special_met : (class : ClassTree) (id m : MemberId) (number : ℕ) → IsInsnOf p.files codes class (jop.Call 0xB7 id)
      → class_named w class.name ≡ Some (declared number class) → (o : Option ResolvedMember) → method_found w id ≡ o
      → special_by class.name id o ≡ keys.Super m → FoundAbove m
  special_met class id m number of holder None told e = absurd (cc)
  special_met class id m number of holder (Some hit) told e = by (is_constructor id.name) refl (is_private hit.flags)
      refl e
    where
      same_key : {a b : MemberId} → keys.Super a ≡ keys.Super b → a ≡ b
      same_key e = cc

      there : is_constructor id.name ≡ false → is_private hit.flags ≡ false → FoundAbove (of_class class.name id)
      there g h c super known supers =
          let both : Some (declared number class) ≡ Some c = sym holder ∙ known in
          let same : declared number class ≡ c = cc in
          let lists : class.superclass ∷ [] ≡ super ∷ [] = ap (λ (k : Class). k.supers) same ∙ supers in
          let one : class.superclass ≡ super = cc in
          subst (λ y. NamesVirtual w (of_class y id)) one (finds_super class id of number holder g hit told h)

      by : (a : Bool) → is_constructor id.name ≡ a → (b : Bool) → is_private hit.flags ≡ b → (if a || b
          then keys.StaticMethod (by_owner id (Some hit)) else keys.Super (of_class class.name id)) ≡ keys.Super m
          → FoundAbove m
      by true g b h e = absurd (cc)
      by false g true h e = absurd (cc)
      by false g false h e = subst FoundAbove (same_key e) (there g h)

  super_met : (key : PoolKey) (m : MemberId) → IsMet p.files codes key → key ≡ keys.Super m → FoundAbove m
  super_met _ m (met.of_class c known) e = absurd (cc)
  super_met _ m (met.of_field class put id of) e = absurd (cc)
  super_met _ m (met.of_static class put id of none) e = absurd (cc)
  super_met _ m (met.of_virtual class id of) e = absurd (cc)
  super_met _ m (met.of_special n class id named plain of) e = special_met class id m n of named (method_found w id)
      refl e
  super_met _ m (met.of_call class id of) e = absurd (cc)

  -- what code calls of a superclass is found from there
  pub finds_above : FindsAbove p
  finds_above m c super calls known supers =
      let r = any_at (same_call (OnSuper m)) (calls_of p) calls in
      let same = super_tells m r.1 r.3 in
      let k = flat_from (λ (x : LaidMethod). let code = x.code in calls_in code.insns) p.methods r.0 (OnSuper m) (r.2
      ∙ ap Some same) in
      let insns = (let x = k.1 in let code = x.code in code.insns) in
      let i = flat_from (λ (i : NInsn). callee_in (operation i)) insns k.3.0 (OnSuper m) k.3.1 in
      let call = is_that_call (operation i.1) i.3.0 (OnSuper m) i.3.1 in
      super_met (keys.Super m) m (insn_met list codes p is opcodes k.0 k.1 k.2 i.0 i.1 i.2 (keys.Super m)
      (super_insn i.1 m call)) refl c super known supers
