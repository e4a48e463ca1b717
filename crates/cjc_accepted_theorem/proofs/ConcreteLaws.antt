-- What a class of which objects are made has for its tokens: selection by name gives it, and it is no abstract method.
use Rattle.std.proofs.Common.{◌≡◌, ⊎_elim, inl, ℕ, ◌+◌, refl, sym, ap, subst, ◌∙◌, arith, Bool, true}
use Rattle.std.proofs.Common.{false, List, [], ◌∷◌, ◌++◌, length, map}
use Rattle.std.specs.Prelude.{◌&&◌, ◌||◌, not, codes, Option, Some, None, if◌then◌else◌, option_to_list, slice_get}
use Rattle.std.specs.Str.{bytes_eq}
use Rattle.cjc_verified_proof.specs.Bytes.AccessFlags.{is_abstract, is_interface, is_static}
use Rattle.cjc_verified_proof.proofs.BytesBools.{clash}
use Rattle.cjc_verified_proof.proofs.BytesPlain.{same_some}
use Rattle.cjc_verified_proof.specs.Components.Descriptor.{as_added}
use Rattle.cjc_verified_proof.specs.Components.Package.{Package, world}
use Rattle.cjc_verified_proof.specs.JvmSemantics.OnePackage.{ResolvedMember, method_hit}
use Rattle.cjc_verified_proof.specs.List.Listed.{ListTree}
use Rattle.cjc_verified_proof.specs.World.Added.{added, asked_by, declares_open, has_open, is_one_of, lacking}
use Rattle.cjc_verified_proof.specs.World.Added.{methods_of, own_methods, takes_added, without_initialiser}
use Rattle.cjc_verified_proof.specs.World.Classes.{Class, Member, class_named}
use Rattle.cjc_verified_proof.specs.World.Interfaces.{Interface, gathered, known}
use Rattle.cjc_verified_proof.specs.World.Lookup.{first, own_method, receiver, selected}
use Rattle.cjc_verified_proof.specs.World.Supertypes.{AreSupertypes, End, Known, Lists, Supertypes}
use Rattle.cjc_verified_proof.specs.World.Supertypes.{Unknown, after, foremost}
use Rattle.cjc_verified_proof.specs.World.Supertypes.{known_here, line, supertypes, unknown_here, upwards}
use Rattle.cjc_verified_proof.specs.World.declared.found.Found.{Found}
use Rattle.cjc_verified_proof.specs.WorldProof.Calls.Solid.{IsSolid}
use Rattle.cjc_theorem.specs.LowerJudge.declared.judged.Judged.{Judged}
use Rattle.cjc_theorem.specs.ShapeProof.Written.LaidOut.{IsLaidOut}
use Rattle.cjc_theorem.proofs.AlikeLaws.VirtualCalls.Chosen.{any_selects, own_first}
use Rattle.cjc_theorem.proofs.AlikeLaws.VirtualCalls.Lines.{HasHidden, HasShown, hidden_below, shown_below}
use Rattle.cjc_theorem.proofs.AlikeLaws.VirtualCalls.Lines.{shown_selected}
use Rattle.cjc_theorem.proofs.ShapeProofMeant.{added_method}
use Rattle.cjc_verified_proof.specs.World.Upwards.{Has, OnLine, here, up}
use Rattle.cjc_verified_proof.specs.World.Upwards as upward
use Rattle.cjc_verified_proof.proofs.WorldLines.{first_has, line_named, of_line}
use Rattle.cjc_verified_proof.specs.Tokens.Lines.{Declared, Imported, line_in, line_of}
use Rattle.cjc_verified_proof.specs.Tokens.Members.{In, Signature, all_methods, chosen, has, is_constructor, is_hidden}
use Rattle.cjc_verified_proof.specs.Tokens.Members.{is_initialiser}
use Rattle.cjc_verified_proof.specs.Tokens.Members.{first_of, is_shown, later, same, signature_of, signatures}
use Rattle.cjc_verified_proof.specs.Tokens.Slots.{has_slot, hidden_slots, listed_slots, slots, taken_slots, token}
use Rattle.cjc_verified_proof.specs.Tokens.Slots.{with_new}
use Rattle.cjc_verified_proof.proofs.TokensFacts.{chosen-In, chosen-passes, same-true}
use Rattle.cjc_verified_proof.proofs.TokensHeld.{here-has_slot, listed_slot, shown-virtual, token-slot}
use Rattle.cjc_verified_proof.proofs.TokensWalks.{supertypes-known}
use Rattle.cjc_theorem.specs.VTable.Calls.{any_method, is_special, selects, selects_shown}
use Rattle.cjc_theorem.specs.VTable.Dispatch.{dispatched, tower_of}
use Rattle.cjc_theorem.specs.VTable.Kept.{Keeps}
use Rattle.cjc_theorem.specs.VTable.Laws.{Under, below, itself, selection}
use Rattle.cjc_theorem.proofs.VTableAgrees.{virtual_plain}
use Rattle.cjc_theorem.proofs.VTableAsked.{chosen-behind, chosen-front, has-In, public-shown}
use Rattle.cjc_theorem.proofs.VTableGiven.{In-split, slot-of, taken-has, with_new-slot}
use Rattle.cjc_theorem.proofs.VTableTold.{In-behind, In-front}
use Rattle.cjc_verified_proof.proofs.WorldProofOwn.{IsAt, hit_is, own_at}
use Rattle.cjc_verified_proof.proofs.WorldProofTypes.{receiver_class}
use Rattle.cjc_verified_proof.proofs.TokenProofWrittenCallsFacts.{Facts}
use Rattle.cjc_verified_proof.proofs.TokenProofWrittenCallsFiles.{place_in}
use Rattle.cjc_verified_proof.proofs.TokenProofWrittenCallsTowers.{line_is}

-- ---- lists of methods

-- what interfaces ask for, they ask for beside others
asked_front : (us bs : List Interface) (m : Member) → In m (methods_of (known us)) → In m (methods_of (known (us
    ++ bs)))
unfolding methods_of known
asked_front [] bs m i = elim i [ ]
asked_front (u ∷ us) bs m i = by u.class i (asked_front us bs m)
  where
    by : (o : Option Class) → In m (methods_of (option_to_list o ++ known us)) → (In m (methods_of (known us))
        → In m (methods_of (known (us ++ bs)))) → In m (methods_of (option_to_list o ++ known (us ++ bs)))
    by None j rest = rest j
    by (Some c) j rest = ⊎_elim (λ k. In-front m (own_methods c) (methods_of (known (us ++ bs))) k)
        (λ k. In-behind m (own_methods c) (methods_of (known (us ++ bs))) (rest k))
        (In-split m (own_methods c) (methods_of (known us)) j)

-- what is added was asked for
lacking_asked : (there : Member → Bool) (given ms : List Member) (s : Signature) → has (map signature_of (lacking there
    given ms)) s ≡ true → (m : Member) × In m ms × (signature_of m ≡ s)
unfolding lacking
lacking_asked there given [] s e = absurd cc
lacking_asked there given (n ∷ ms) s e = by (there n || is_one_of given n.name n.desc) (same (signature_of n) s) refl e
    (lacking_asked there given ms s) (lacking_asked there (given ++ n ∷ []) ms s)
  where
    by : (b a : Bool) → same (signature_of n) s ≡ a → has (map signature_of (if b then lacking there given ms else n
        ∷ lacking there (given ++ n ∷ []) ms)) s ≡ true → (has (map signature_of (lacking there given ms)) s ≡ true
        → (m : Member) × In m ms × (signature_of m ≡ s)) → (has (map signature_of (lacking there (given ++ n ∷ []) ms))
        s
        ≡ true → (m : Member) × In m ms × (signature_of m ≡ s)) → (m : Member) × In m (n ∷ ms) × (signature_of m ≡ s)
    by true a h e old fresh = let r = old e in (r.0, later r.1, r.2)
    by false true h e old fresh = (n, first_of, same-true (signature_of n) s h)
    by false false h e old fresh =
        let r = fresh (ap (λ v. v || has (map signature_of (lacking there (given ++ n ∷ []) ms)) s) (sym h) ∙ e) in
        (r.0, later r.1, r.2)

added_asked : (w : List Class) (c : Class) (s : Signature) → has (map signature_of (added w c)) s ≡ true
    → (m : Member) × In m (asked_by (supertypes w c.supers) (supertypes w c.interfaces)) × (signature_of m ≡ s)
unfolding added
added_asked w c s e = by (takes_added c) e
  where
    by : (b : Bool) → has (map signature_of (if b then lacking (λ m. declares_open m.name m.desc c
        || has_open m.name m.desc (supertypes w c.supers)) [] (asked_by (supertypes w c.supers)
        (supertypes w c.interfaces)) else [])) s ≡ true → (m : Member) × In m (asked_by (supertypes w c.supers)
        (supertypes w c.interfaces)) × (signature_of m ≡ s)
    by false g = absurd cc
    by true g = lacking_asked (λ m. declares_open m.name m.desc c || has_open m.name m.desc (supertypes w c.supers)) []
        (asked_by (supertypes w c.supers) (supertypes w c.interfaces)) s g

-- no interface asks for an initialiser
no_initialiser : (ms : List Member) (m : Member) → In m (without_initialiser ms) → is_initialiser m.name ≡ false
no_initialiser [] m i = elim i [ ]
no_initialiser (n ∷ ms) m i = by (bytes_eq n.name (codes "<clinit>")) refl i (no_initialiser ms m)
  where
    here_or : {A : Type 0} (n : Member) (ms : List Member) → In m (n ∷ ms) → (n ≡ m → A) → (In m ms → A) → A
    here_or _ _ first_of one rest = one refl
    here_or _ _ (later j) one rest = rest j

    by : (b : Bool) → bytes_eq n.name (codes "<clinit>") ≡ b → In m (if b then without_initialiser ms
        else n ∷ without_initialiser ms) → (In m (without_initialiser ms) → is_initialiser m.name ≡ false)
        → is_initialiser m.name ≡ false
    by true e j rest = rest j
    by false e j rest = here_or n (without_initialiser ms) j (λ one. ap (λ (v : Member). is_initialiser v.name) (sym
        one)
        ∙ e) rest

asked_no_initialiser : (cs : List Class) (m : Member) → In m (methods_of cs) → is_initialiser m.name ≡ false
unfolding methods_of own_methods
asked_no_initialiser [] m i = elim i [ ]
asked_no_initialiser (c ∷ cs) m i = ⊎_elim (λ j. no_initialiser (if c.is_imported
    then Rattle.cjc_verified_proof.specs.World.Added.by_token (length c.methods) 0 c.methods else c.methods) m j) (λ j.
    asked_no_initialiser cs m j) (In-split m (own_methods c) (methods_of cs) i)

-- a method with one of these signatures
signed_in : (test : Member → Bool) (ms : List Member) (s : Signature) → has (signatures test ms) s ≡ true
    → (m : Member) × In m ms × (test m ≡ true) × (signature_of m ≡ s)
signed_in test [] s e = absurd cc
signed_in test (n ∷ ms) s e = by (test n) refl e (signed_in test ms s)
  where
    one : (b : Bool) → same (signature_of n) s ≡ b → test n ≡ true → (b || has (signatures test ms) s) ≡ true
        → (has (signatures test ms) s ≡ true → (m : Member) × In m ms × (test m ≡ true) × (signature_of m ≡ s))
        → (m : Member) × In m (n ∷ ms) × (test m ≡ true) × (signature_of m ≡ s)
    one true g t f rest = (n, first_of, t, same-true (signature_of n) s g)
    one false g t f rest = let r = rest f in (r.0, later r.1, r.2, r.3)

    by : (b : Bool) → test n ≡ b → has (if b then signature_of n ∷ signatures test ms else signatures test ms) s ≡ true
        → (has (signatures test ms) s ≡ true → (m : Member) × In m ms × (test m ≡ true) × (signature_of m ≡ s))
        → (m : Member) × In m (n ∷ ms) × (test m ≡ true) × (signature_of m ≡ s)
    by true t f rest = one (same (signature_of n) s) refl t f rest
    by false t f rest = let r = rest f in (r.0, later r.1, r.2, r.3)

-- a method of one of these classes
class_of : (cs : List Class) (m : Member) → In m (all_methods cs) → (d : Class) × Has d cs × In m d.methods
class_of [] m i = elim i [ ]
class_of (c ∷ cs) m i = ⊎_elim (λ j. (c, upward.foremost, j)) (λ j. let r = class_of cs m j in (
  r.0,
  upward.after r.1,
  r.2,
)) (In-split m c.methods (all_methods cs) i)

-- the class of the first of all methods, where it is the first too
chosen_class : (s : Signature) (cs : List Class) (m : Member) → chosen selects s (all_methods cs) ≡ Some m
    → (d : Class) × Has d cs × (chosen selects s d.methods ≡ Some m)
chosen_class s [] m e = absurd cc
chosen_class s (c ∷ cs) m e = by (chosen selects s c.methods) refl (chosen_class s cs m)
  where
    by : (o : Option Member) → chosen selects s c.methods ≡ o → (chosen selects s (all_methods cs) ≡ Some m
        → (d : Class) × Has d cs × (chosen selects s d.methods ≡ Some m)) → (d : Class) × Has d (c ∷ cs)
        × (chosen selects s d.methods ≡ Some m)
    by (Some q) f rest =
        let one : q ≡ m = same_some (sym (chosen-front selects s c.methods (all_methods cs) q f) ∙ e) in
        (c, upward.foremost, f ∙ ap (λ v. Some v) one)
    by None f rest = let r = rest (sym (chosen-behind selects s c.methods (all_methods cs) f) ∙ e) in (
      r.0,
      upward.after r.1,
      r.2,
    )

shown_selects : (m : Member) → is_shown m ≡ true → selects m ≡ true
shown_selects m e = by (selects m) (is_constructor m.name || is_initialiser m.name) (shown-virtual m e)
  where
    by : (a b : Bool) → (a && not b) ≡ true → a ≡ true
    by true b f = refl
    by false b f = absurd cc

module _ (list : ListTree) (files : List (List ℕ)) (judged : Judged) (p : Package)
    (laid : IsLaidOut list files judged p)
    (facts : Facts p) (keeps : Keeps (world p)) (solid : IsSolid p.files) where
  abbrev w : List Class
  w = world p

  -- what the interfaces of a class ask for
  abbrev asked : Class → List Member
  asked c = asked_by (supertypes w c.supers) (supertypes w c.interfaces)

  -- ---- above a class

  never_back : {x y : List ℕ} → Under w x y → ((c : Class) → class_named w x ≡ Some c → c.is_imported ≡ true)
      → (d : Class) → class_named w y ≡ Some d → d.is_imported ≡ true
  never_back itself import d f = import d f
  never_back {x = x} (below {y = z} c e l rest) import d f = never_back rest (λ b g. facts.rules.apart x z c b e (import
      c e) l g) d f

  on_abroad : {x : List ℕ} (d : Class) → OnLine w x d → ((c : Class) → class_named w x ≡ Some c → c.is_imported ≡ true)
      → d.is_imported ≡ true
  on_abroad d (here e) import = import d e
  on_abroad {x = x} d (up {s = z} c e l rest) import = on_abroad d rest (λ b g. facts.rules.apart x z c b e (import c e)
      l g)

  only : (y s : List ℕ) → Lists y (s ∷ []) → y ≡ s
  only y s foremost = refl
  only y s (after l) = elim l [ ]

  asked_up : (x s : List ℕ) (c d : Class) → class_named w x ≡ Some c → c.supers ≡ s ∷ [] → class_named w s ≡ Some d
      → (m : Member) → In m (asked d) → In m (asked c)
  unfolding asked_by gathered
  asked_up x s c d e supers f m i =
      let A = gathered false (supertypes w d.supers) in
      let B = gathered true (supertypes w d.interfaces) in
      let C = gathered true (supertypes w c.interfaces) in
      let tree : supertypes w c.supers ≡ Known d (supertypes w d.supers) (supertypes w d.interfaces) End =
      ap (supertypes w) supers ∙ supertypes-known w facts.are_supertypes facts.one_supertypes s d f in
      subst (λ (k : Supertypes). In m (methods_of (known (gathered false k ++ C)))) (sym tree) (asked_front (A ++ B ++
      []
      ++ []) C m (asked_front (A ++ B ++ []) [] m (asked_front (A ++ B) [] m i)))

  asked_down : {x y : List ℕ} → Under w x y → (d : Class) → class_named w y ≡ Some d → d.is_imported ≡ false
      → (m : Member) → In m (asked d) → (c : Class) → class_named w x ≡ Some c → In m (asked c)
  asked_down itself d f own m i c e = subst (λ (v : Class). In m (asked v)) (same_some (sym f ∙ e)) i
  asked_down {x = x} {y = y} (below {y = z} b g l rest) d f own m i c e = by c.is_imported refl (asked_down rest d f own
      m i)
    where
      by : (v : Bool) → c.is_imported ≡ v → ((u : Class) → class_named w z ≡ Some u → In m (asked u)) → In m (asked c)
      by true import rise = clash d.is_imported (never_back (below b g l rest) (λ v h. ap (λ (u : Class). u.is_imported)
          (same_some (sym h ∙ e)) ∙ import) d f) own
      by false mine rise =
          let s = facts.rules.single x c e mine in
          let same = ap (λ (v : Class). v.supers) (same_some (sym g ∙ e)) ∙ s.1 in
          let at : z ≡ s.0 = only z s.0 (subst (Lists z) same l) in
          let u = facts.super_there x s.0 c e mine s.1 in
          asked_up x s.0 c u.0 e s.1 u.1 m (rise u.0 (ap (class_named w) at ∙ u.1))

  -- ---- where a slot comes from

  data Source (x : List ℕ) (s : Signature) : Type 0 where
    declares : HasShown w x s → Source x s
    gets : (y : List ℕ) (d : Class) → Under w x y → class_named w y ≡ Some d → d.is_imported ≡ false → (m : Member)
        → In m (asked d) → signature_of m ≡ s → is_special s ≡ false → Source x s

  source_up : (x y : List ℕ) (s : Signature) → Under w x y → Source y s → Source x s
  source_up x y s under (declares h) = declares (shown_below w x y s under h)
  source_up x y s under (gets z d far e own m i one plain) = gets z d (on_more under far) e own m i one plain
    where
      on_more : {x y z : List ℕ} → Under w x y → Under w y z → Under w x z
      on_more itself far = far
      on_more (below c e l rest) far = below c e l (on_more rest far)

  own_declares : (x : List ℕ) (d : Class) → class_named w x ≡ Some d → d.is_imported ≡ false → (s : Signature)
      → has (signatures is_shown d.methods) s ≡ true → HasShown w x s
  own_declares x d e own s h =
      let r = signed_in is_shown d.methods s h in
      let m = r.0 in
      let at = place_in d.methods m r.1 in
      let found = facts.first_one x d e own at.0 m at.1 in
      let one = own_first false (signature_of m) d _ found in
      let many : length d.fields + at.0 ≡ length d.fields + one.place = ap (λ (v : Found). v.member) one.is in
      let place : at.0 ≡ one.place = omega (arith, many) in
      let same : one.method ≡ m = same_some (sym one.there ∙ ap (slice_get d.methods) (sym place) ∙ at.1) in
      record {
        class = d;
        on = here e;
        method = m;
        among = r.1;
        shown = r.2;
        one = r.3;
        is_first = λ no. any_selects s d.methods m (subst (λ (v : Signature). chosen any_method
            v d.methods ≡ Some m) r.3 (one.is_first ∙ ap (λ v. Some v) same)) (shown_selects m r.2);
      }

  own_gets : (x : List ℕ) (d : Class) → class_named w x ≡ Some d → d.is_imported ≡ false → (s : Signature)
      → has (map signature_of (added w d)) s ≡ true → Source x s
  unfolding asked_by
  own_gets x d e own s h =
      let r = has-In (added w d) s h in
      let at = place_in (added w d) r.0 r.1 in
      let read = added_method list files judged p laid x d e at.0 r.0 at.1 in
      let a = added_asked w d s h in
      let name = ap (λ (v : Signature). v.name) r.2 in
      let asks = ap (λ (v : Signature). v.name) a.2 in
      gets x d itself e own a.0 a.1 a.2 (neither (is_constructor s.name) (is_initialiser s.name) (ap is_constructor (sym
      name) ∙ last (is_static (let v = as_added r.0 in v.flags)) (is_constructor (let v = r.0 in v.name)) read.1)
      (ap is_initialiser (sym asks) ∙ asked_no_initialiser (known (gathered false (supertypes w d.supers)
      ++ gathered true (supertypes w d.interfaces))) a.0 a.1))
    where
      last : (a b : Bool) → (a || b) ≡ false → b ≡ false
      last true b f = absurd cc
      last false b f = f

      neither : (a b : Bool) → a ≡ false → b ≡ false → (a || b) ≡ false
      neither false false f g = refl
      neither true b f g = absurd cc
      neither false true f g = absurd cc

  source_by : (k : Supertypes) (x : List ℕ) (c : Class) → AreSupertypes w (x ∷ []) k → class_named w x ≡ Some c
      → (s : Signature) → has_slot (slots (line_in w k)) s ≡ true → Source x s
  source_by End x c h e s f = elim h [ ]
  source_by (Unknown y next) x c (unknown_here none rest) e s f = absurd cc
  source_by (Known d supers interfaces next) x c (known_here known ks ki kn) e s f =
      by d.is_imported refl f (λ y a listed is named_y g. source_up x y s (below d known listed itself) (source_by
      supers
      y a is named_y s g))
    where
      far : d.is_imported ≡ true → (m : Member) → In m (all_methods (d ∷ upwards supers)) → is_shown m ≡ true
          → signature_of m ≡ s → Source x s
      far import m i shown one =
          let line_same : line w x ≡ d ∷ upwards supers = line_is p facts x d known ∙ ap (λ k. d ∷ upwards k)
          (facts.one_supertypes d.supers (supertypes w d.supers) supers (facts.are_supertypes d.supers) ks) in
          let r = class_of (d ∷ upwards supers) m i in
          let on = of_line w (let o = solid.ordered in o.acyclic) x r.0 (subst (Has r.0) (sym line_same) r.1) in
          declares (record {
            class = r.0;
            on = on;
            method = m;
            among = r.2;
            shown = shown;
            one = one;
            is_first = λ own. clash (let v = r.0 in v.is_imported) (on_abroad r.0 on (λ v g. ap (λ (u : Class).
                u.is_imported) (same_some (sym g ∙ known)) ∙ import)) own;
          })

      by : (b : Bool) → d.is_imported ≡ b → has_slot (slots (if b then Imported (d ∷ upwards supers) else Declared d
          (added w d) (line_in w supers))) s ≡ true → ((y : List ℕ) (a : Class) → Lists y d.supers
          → AreSupertypes w (y ∷ []) supers → class_named w y ≡ Some a → has_slot (slots (line_in w supers)) s ≡ true
          → Source x s) → Source x s
      by true import g rest =
          let t = slot-of (listed_slots (all_methods (d ∷ upwards supers))) s g in
          let m = listed_slot (all_methods (d ∷ upwards supers)) t.0 s t.1 in
          far import m.0 m.1 m.2 m.4
      by false own g rest =
          let above = line_in w supers in
          let taken = taken_slots d above (slots above) in
          let sigs = signatures is_shown d.methods in
          ⊎_elim (λ h. ⊎_elim (λ j. ⊎_elim (λ k. (
          let one = facts.rules.single x d known own in
          let u = facts.super_there x one.0 d known own one.1 in
          rest one.0 u.0 (subst (Lists one.0) (sym one.1) foremost) (subst (λ ss. AreSupertypes w ss supers) one.1 ks)
          u.1
          k
          )) (λ k. declares (own_declares x d known own s k)) (taken-has d above (slots above) s j))
          (λ j. declares (own_declares x d known own s j)) (with_new-slot taken sigs s h))
          (λ h. own_gets x d known own s h) (with_new-slot (with_new taken sigs) (map signature_of (added w d)) s g)

  -- a package-visible method that has a slot is declared by a class of the package
  own_hidden : (x : List ℕ) (d : Class) → class_named w x ≡ Some d → d.is_imported ≡ false → (s : Signature)
      → has (signatures is_hidden d.methods) s ≡ true → HasHidden w x s
  own_hidden x d e own s h =
      let r = signed_in is_hidden d.methods s h in
      let m = r.0 in
      let at = place_in d.methods m r.1 in
      let found = facts.first_one x d e own at.0 m at.1 in
      let one = own_first false (signature_of m) d _ found in
      let many : length d.fields + at.0 ≡ length d.fields + one.place = ap (λ (v : Found). v.member) one.is in
      let place : at.0 ≡ one.place = omega (arith, many) in
      let same : one.method ≡ m = same_some (sym one.there ∙ ap (slice_get d.methods) (sym place) ∙ at.1) in
      record {
        class = d;
        on = here e;
        own = own;
        method = m;
        hidden_one = r.2;
        is_first = subst (λ (v : Signature). chosen any_method v d.methods ≡ Some m) r.3 (one.is_first ∙ ap (λ v. Some
            v)
            same);
      }

  hidden_by : (k : Supertypes) (x : List ℕ) (c : Class) → AreSupertypes w (x ∷ []) k → class_named w x ≡ Some c
      → (s : Signature) → has_slot (hidden_slots (line_in w k)) s ≡ true → HasHidden w x s
  hidden_by End x c h e s f = elim h [ ]
  hidden_by (Unknown y next) x c (unknown_here none rest) e s f = absurd cc
  hidden_by (Known d supers interfaces next) x c (known_here known ks ki kn) e s f =
      by d.is_imported refl f (λ y a listed is named_y g. hidden_below w x y s (below d known listed itself) (hidden_by
      supers y a is named_y s g))
    where
      by : (b : Bool) → d.is_imported ≡ b → has_slot (hidden_slots (if b then Imported (d ∷ upwards supers) else
          Declared d
          (added w d) (line_in w supers))) s ≡ true → ((y : List ℕ) (a : Class) → Lists y d.supers
          → AreSupertypes w (y ∷ []) supers → class_named w y ≡ Some a → has_slot (hidden_slots (line_in w supers)) s
          ≡ true → HasHidden w x s) → HasHidden w x s
      by true import g rest = absurd cc
      by false own g rest = ⊎_elim (λ k. (
          let one = facts.rules.single x d known own in
          let u = facts.super_there x one.0 d known own one.1 in
          rest one.0 u.0 (subst (Lists one.0) (sym one.1) foremost) (subst (λ ss. AreSupertypes w ss supers) one.1 ks)
          u.1
          k
          )) (λ k. own_hidden x d known own s k) (with_new-slot (hidden_slots (line_in w supers)) (signatures is_hidden
          d.methods) s g)

  pub hidden_source : (x : List ℕ) (c : Class) → class_named w x ≡ Some c → (s : Signature)
      → has_slot (hidden_slots (line_of w x)) s ≡ true → HasHidden w x s
  hidden_source x c e s h = hidden_by (supertypes w (x ∷ [])) x c (facts.are_supertypes (x ∷ [])) e s h

  -- ---- a class of which objects are made

  module _ (x : List ℕ) (c : Class) (e : class_named w x ≡ Some c) (own : c.is_imported ≡ false)
      (plain : is_interface c.flags ≡ false) (made : is_abstract c.flags ≡ false) where
    -- selection gives a public or protected method for each of its slots
    slot_selected : (s : Signature) → has_slot (slots (line_of w x)) s ≡ true → selects_shown (line_of w x) s ≡ true
    slot_selected s h = by (source_by (supertypes w (x ∷ [])) x c (facts.are_supertypes (x ∷ [])) e s h)
      where
        by : Source x s → selects_shown (line_of w x) s ≡ true
        by (declares a) = shown_selected w facts.are_supertypes facts.one_supertypes facts.rules x s a
        by (gets y d under f mine m i one plain_name) =
            let n = facts.interfaces.methods x c m e own made (asked_down under d f mine m i c e) in
            let first_one = subst (λ (v : Signature). chosen selects v (all_methods (line w x)) ≡ Some n.0) one n.1 in
            let r = chosen_class s (line w x) n.0 first_one in
            let passes = chosen-passes selects s (let v = r.0 in v.methods) n.0 r.2 in
            shown_selected w facts.are_supertypes facts.one_supertypes facts.rules x s (record {
              class = r.0;
              on = of_line w (let o = solid.ordered in o.acyclic) x r.0 r.1;
              method = n.0;
              among = chosen-In selects s (let v = r.0 in v.methods) n.0 r.2;
              shown = public-shown n.0 s passes.0 passes.1 n.2 plain_name;
              one = passes.0;
              is_first = λ no. r.2;
            })

    pub slot_plain : (s : Signature) → has_slot (slots (line_of w x)) s ≡ true → is_special s ≡ false
    slot_plain s h = by (source_by (supertypes w (x ∷ [])) x c (facts.are_supertypes (x ∷ [])) e s h)
      where
        by : Source x s → is_special s ≡ false
        by (declares a) = ap is_special (sym a.one) ∙ virtual_plain a.method (shown-virtual a.method a.shown)
        by (gets y d under f mine m i one plain_name) = plain_name

    -- so a token means what selection gives
    pub slot_means : (s : Signature) (t : ℕ) → token (slots (line_of w x)) s ≡ Some t → dispatched (tower_of w x) t
        ≡ selection w x s
    slot_means s t f =
        let calls = facts.virtual_calls x x c c e plain e itself in
        calls.by_token s t f (slot_selected s (here-has_slot (slots (line_of w x)) t s (token-slot (slots (line_of w x))
        s t f)))

    -- what is selected is no abstract method
    pub selected_whole : (s : Signature) → is_initialiser s.name ≡ false → (f : Found) → selection w x s ≡ Some f
        → (hit : ResolvedMember) × (method_hit w f ≡ Some hit) × (is_abstract hit.flags ≡ false)
    unfolding selected
    selected_whole s plain_name f found =
        let one = first_has (own_method true s.name s.desc) (line w x) f found in
        let d = one.0 in
        let on = of_line w (let o = solid.ordered in o.acyclic) x d one.1 in
        let at = own_at true s.name s.desc d f one.2 in
        let m = at.member in
        let named = line_named w x d on in (
          record { owner = d; flags = m.flags },
          ap (method_hit w) at.is ∙ hit_is w d at.place m (solid.numbered d.name d named) at.is_member,
          by d on named at (is_abstract m.flags) refl,
        )
      where
        by : (d : Class) → OnLine w x d → class_named w d.name ≡ Some d → (at : IsAt true s.name s.desc d f) → (b :
            Bool)
            → is_abstract (let m = at.member in m.flags) ≡ b → is_abstract (let m = at.member in m.flags) ≡ false
        by d on named at false g = g
        by d on named at true bare =
            let m = at.member in
            let code = solid.implemented x c d at.place m e (record {
              own = own;
              no_interface = plain;
              no_abstract = made;
            }) named (inl on) at.is_member (inl bare) (ap is_initialiser at.has_name ∙ plain_name) in
            let same_place : Some f ≡ Some code.place = sym found
            ∙ ap (λ y. first (own_method true s.name s.desc) (line w y)) (sym (receiver_class x (solid.plain x c e)))
            ∙ ap (λ n. first (own_method true n s.desc) (line w (receiver x))) (sym at.has_name)
            ∙ ap (λ n. first (own_method true m.name n) (line w (receiver x))) (sym at.has_desc) ∙ code.found in
            let hit : Some (record { owner = d; flags = m.flags }) ≡ Some code.hit =
            sym (hit_is w d at.place m (solid.numbered d.name d named) at.is_member) ∙ ap (method_hit w) (sym at.is)
            ∙ ap (method_hit w) (same_some same_place) ∙ code.is_hit in
            ap (λ (h : ResolvedMember). is_abstract h.flags) (same_some hit) ∙ code.is_concrete
