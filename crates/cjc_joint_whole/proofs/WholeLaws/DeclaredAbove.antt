-- Each public or protected method that can be selected and that the export file of a package lists of a class or an
-- interface is declared by it, or by a class or interface above it.
use Rattle.std.proofs.Common.{◌≡◌, ℕ, ◌+◌, refl, sym, ap, subst, ◌∙◌, arith, Bool, true, false, List, [], ◌∷◌, ◌++◌}
use Rattle.std.proofs.Common.{Option, Some, None, cond, inl, inr, ⊎_elim, length, map, suc, zero}
use Rattle.std.specs.List.{Contains}
use Rattle.std.specs.Prelude.{◌⊎◌, ◌&&◌, ◌||◌, not, option_map, position, slice_get, if◌then◌else◌}
use Rattle.std.proofs.lemmas.Option.{slice_get-map}
use Rattle.cjc_bytes.specs.AccessFlags.{is_abstract, is_interface, is_static}
use Rattle.cjc_bytes.proofs.Bools.{true_or_false}
use Rattle.cjc_bytes.proofs.Gets.{contained, get_behind, in_front, mapped_at}
use Rattle.cjc_components.specs.Descriptor.{as_added, methods_with_added}
use Rattle.cjc_components.specs.ExportFile.{added_from, export_class, inherited, inherited_from}
use Rattle.cjc_components.specs.ExportFile.{method_meant, methods_from, supers_from}
use Rattle.cjc_components.specs.Exports.{exported_classes}
use Rattle.cjc_components.specs.Package.{Package, world}
use Rattle.cjc_jvm_semantics.specs.Group.{is_open}
use Rattle.cjc_jvm_semantics.specs.OnePackage.{is_constructor, is_initialiser}
use Rattle.cjc_shape_proof.proofs.ExportedOwn.{own_class}
use Rattle.cjc_shape_proof.proofs.WrittenLaws.FittingLaws.Standing.{IsListedAt, listed_in}
use Rattle.cjc_shape_proof.proofs.WritingLaws.Entries.{IsSuperAt, supers_in}
use Rattle.cjc_shape_proof.proofs.WritingLaws.Lacking.{lacking_has}
use Rattle.cjc_shape_proof.proofs.WritingLaws.Signatures.{asked_plain}
use Rattle.cjc_theorem.proofs.AlikeLaws.VirtualCalls.Ways.{line_class}
use Rattle.cjc_theorem.proofs.FairWriting.Entries.{named as own_named, place_meant}
use Rattle.cjc_token_proof.proofs.TablesLaws.Filed.{has-front as front_of}
use Rattle.cjc_token_proof.proofs.TablesLaws.Filed.{has-back as back_of}
use Rattle.cjc_token_proof.proofs.WorldProofOwn.{own_at}
use Rattle.cjc_tokens.proofs.TokenLaws.Meant.{above, found_method, has_token}
use Rattle.cjc_tokens.specs.Lines.{Declared, Imported, line_at, line_in}
use Rattle.cjc_tokens.specs.Members.{Signature, is_shown, is_virtual, signature_of}
use Rattle.cjc_tokens.specs.Methods.{interface_methods, interface_row}
use Rattle.cjc_tokens.specs.Slots.{got, implementing, meant_by, own, row, slots}
use Rattle.cjc_vtable.proofs.Filed.{Has as Stands, at_front, behind, get-has, has-either, has-get}
use Rattle.cjc_vtable.proofs.SlotNames.{position-at}
use Rattle.cjc_world.proofs.Cycles.{class_named-name}
use Rattle.cjc_world.proofs.Settled.{lists-front, supertypes-AreSupertypes}
use Rattle.cjc_world.proofs.UpwardLaws.Lines.{below_on, first_has, gathered_above, has-cons, line_below}
use Rattle.cjc_world.proofs.UpwardLaws.Lines.{line_named, listed_below}
use Rattle.cjc_world.proofs.UpwardLaws.Lines.{listed_line}
use Rattle.cjc_world.specs.Added.{added, asked_by, declares_open, has_open, lacking, methods_of, own_methods}
use Rattle.cjc_world.specs.Added.{takes_added}
use Rattle.cjc_world.specs.Classes.{Class, Member as WorldMember, class_named}
use Rattle.cjc_world.specs.ExportFile.declared.tree.ExportMethod.{ExportMethod}
use Rattle.cjc_world.specs.Interfaces.{gathered, known}
use Rattle.cjc_world.specs.Lookup.{first, is_called, member_at, method_of_interface, or_else, own_method, own_of}
use Rattle.cjc_world.specs.Supertypes.{AreSupertypes, End, Known, Lists, Supertypes, Unknown, ends, foremost, known_here}
use Rattle.cjc_world.specs.Supertypes.{supertypes, unknown_here, upwards}
use Rattle.cjc_world.specs.Upwards.{Below, Has, IsOrdered, OnLine, here, up}
use Rattle.cjc_world.specs.Upwards as upwards_of
use Rattle.cjc_world.specs.declared.found.Found.{Found}
use Rattle.cjc_joint_whole.specs.Entries.{IsOwnVirtual}
use Rattle.cjc_joint_whole.specs.Told.{IsDeclaredAbove, IsOfKind, ListedAreAbove}
use Rattle.cjc_joint_whole.proofs.WholeLaws.HiddenStands.{no_static}
use Rattle.cjc_joint_whole.proofs.WholeLaws.Nearest.{only}
use Rattle.cjc_joint_whole.proofs.WholeLaws.OwnKept.{IsKeptBy, interface_open}
use Rattle.cjc_joint_whole.proofs.WholeLaws.Shown.{open_parts}
use Rattle.cjc_joint_whole.proofs.WholeLaws.VirtualEntries.{virtual_are_own}

-- ---- lists

-- a list of one kind and of the other
upward : {A : Type 0} (x : A) (xs : List A) → Stands x xs → Has x xs
upward {A = A} x xs h = let at = has-get x xs h in by xs at.0 at.1
  where
    by : (xs : List A) (k : ℕ) → slice_get xs k ≡ Some x → Has x xs
    by [] k e = absurd cc
    by (y ∷ xs) zero e = let same : y ≡ x = cc in subst (λ z. Has x (z ∷ xs)) (sym same) upwards_of.foremost
    by (y ∷ xs) (suc k) e = upwards_of.after (by xs k e)

same_member : {m n : WorldMember} → Some m ≡ Some n → m ≡ n
same_member e = cc

same_found : {f g : Found} → Some f ≡ Some g → f ≡ g
same_found e = cc

nothing : {f : Found} → None ≡ Some f → ⊥
nothing e = cc

unbound_off : (a b : Bool) → a ≡ false → b ≡ false → (a || b) ≡ false
unbound_off false false e f = refl
unbound_off true b e f = absurd cc
unbound_off false true e f = absurd cc

-- ---- a package

module _ (p : Package) (kept : IsKeptBy p.files) where
  abbrev w : List Class
  w = world p

  order : IsOrdered w
  order = let s = kept.solid in s.ordered

  are : (xs : List (List ℕ)) → AreSupertypes w xs (supertypes w xs)
  are = supertypes-AreSupertypes w order.acyclic

  place_of : (d : Class) → class_named w d.name ≡ Some d → (i : ℕ) (m : WorldMember)
      → slice_get (methods_with_added w d) i ≡ Some m → method_meant w (member_at d (length d.fields + i)) ≡ Some m
  place_of = place_meant kept.list p kept.codes kept.settings kept.sound kept.checks order

  -- ---- of an interface

  -- what is found in an interface, one above it or itself declares
  pub record IsOfInterface (x name desc : List ℕ) (f : Found) : Type 0 where
    pub class : Class
    pub named : class_named w class.name ≡ Some class
    pub below : Below w x class.name
    pub it : is_interface class.flags ≡ true
    pub place : ℕ
    pub method : WorldMember
    pub there : slice_get class.methods place ≡ Some method
    pub has_name : method.name ≡ name
    pub has_desc : method.desc ≡ desc
    pub meant : method_meant w f ≡ Some method

  of_own : (x : List ℕ) (z : Class) → class_named w z.name ≡ Some z → Below w x z.name → is_interface z.flags ≡ true
      → (name desc : List ℕ) (f : Found) → own_method false name desc z ≡ Some f → IsOfInterface x name desc f
  of_own x z named way it name desc f e =
      let a = own_at false name desc z f e in
      record {
        class = z;
        named = named;
        below = way;
        it = it;
        place = a.place;
        method = a.member;
        there = a.is_member;
        has_name = a.has_name;
        has_desc = a.has_desc;
        meant = ap (method_meant w) a.is ∙ place_of z named a.place a.member (in_front z.methods (map as_added (added w
            z)) a.place a.member a.is_member);
      }

  pub of_interface : (c : Class) → class_named w c.name ≡ Some c → is_interface c.flags ≡ true → (name desc : List ℕ)
      (f : Found) → method_of_interface w c.name name desc ≡ Some f → IsOfInterface c.name name desc f
  unfolding method_of_interface
  of_interface c named it name desc f e = by (own_method false name desc c) refl
      (sym (ap (λ q. or_else (own_of name desc q) rest) named) ∙ e)
    where
      rest : Option Found
      rest = first (own_method false name desc) (known (gathered false (supertypes w (c.name ∷ []))))

      by : (o : Option Found) → own_method false name desc c ≡ o → or_else o rest ≡ Some f
          → IsOfInterface c.name name desc f
      by (Some g) k h = of_own c.name c named (inl refl) it name desc f (k ∙ h)
      by None k h =
          let r = first_has (own_method false name desc) (known (gathered false (supertypes w (c.name ∷ [])))) f h in
          let a = gathered_above w order false (c.name ∷ []) (supertypes w (c.name ∷ [])) r.0 (are (c.name ∷ []))
          (λ same. absurd (never same)) r.1 in
          of_own c.name r.0 a.3 (subst (λ y. Below w y (let z = r.0 in z.name)) (only a.0 c.name a.1) a.2) a.4 name desc
          f r.2
        where
          never : false ≡ true → ⊥
          never same = cc

  -- ---- where a method stands that a line means

  record IsSource (x : List ℕ) (f : Found) : Type 0 where
    class : Class
    named : class_named w class.name ≡ Some class
    below : Below w x class.name
    place : ℕ
    method : WorldMember
    there : slice_get class.methods place ≡ Some method
    member : WorldMember
    meant : method_meant w f ≡ Some member
    one : signature_of method ≡ signature_of member
    kind : ((method.flags ≡ member.flags) × (is_interface class.flags ≡ false))
        ⊎ ((is_interface class.flags ≡ true) × (is_abstract member.flags ≡ true) × (is_open method.flags ≡ true))

  own_source : (x : List ℕ) (d : Class) → class_named w d.name ≡ Some d → Below w x d.name
      → is_interface d.flags ≡ false → (test : WorldMember → Bool) (s : Signature) (f : Found) → own test s d ≡ Some f
      → IsSource x f
  unfolding own
  own_source x d named way ground test s f e = by (position P d.methods) refl e
    where
      P : WorldMember → Bool
      P m = test m && is_called s.name s.desc m

      by : (o : Option ℕ) → position P d.methods ≡ o → option_map (λ i. member_at d (length d.fields + i)) o ≡ Some f
          → IsSource x f
      by None g h = absurd cc
      by (Some i) g h =
          let same : member_at d (length d.fields + i) ≡ f = cc in
          let r = position-at P d.methods i g in
          record {
            class = d;
            named = named;
            below = way;
            place = i;
            method = r.0;
            there = r.1;
            member = r.0;
            meant = ap (method_meant w) (sym same) ∙ place_of d named i r.0 (in_front d.methods (map as_added (added w
                d)) i r.0 r.1);
            one = refl;
            kind = inl (refl, ground);
          }

  asked_stands : (ds : List Class) (m : WorldMember) → Stands m (methods_of ds) → (d : Class) × Stands d ds
      × Stands m (own_methods d)
  unfolding methods_of
  asked_stands [] m h = elim h [ ]
  asked_stands (d ∷ ds) m h = ⊎_elim (λ g. (d, at_front, g)) (λ g. let r = asked_stands ds m g in (r.0, behind r.1, r.2))
      (has-either m (own_methods d) (methods_of ds) h)

  -- the interface that asks for a method which a class got
  added_asked : (d : Class) (i : ℕ) (m : WorldMember) → slice_get (added w d) i ≡ Some m → (z : Class)
      × Stands z (known (gathered false (supertypes w d.supers) ++ gathered true (supertypes w d.interfaces)))
      × Stands m (own_methods z) × (is_initialiser m.name ≡ false)
  unfolding added asked_by
  added_asked d i m e = by (takes_added d) e
    where
      test : WorldMember → Bool
      test q = declares_open q.name q.desc d || has_open q.name q.desc (supertypes w d.supers)

      asked : List WorldMember
      asked = asked_by (supertypes w d.supers) (supertypes w d.interfaces)

      of_asked : Stands m asked → (z : Class) × Stands z (known (gathered false (supertypes w d.supers)
          ++ gathered true (supertypes w d.interfaces))) × Stands m (own_methods z) × (is_initialiser m.name ≡ false)
      of_asked h =
          let r = asked_stands (known (gathered false (supertypes w d.supers) ++ gathered true (supertypes w
          d.interfaces))) m h in (
            r.0,
            r.1,
            r.2,
            asked_plain (supertypes w d.supers) (supertypes w d.interfaces) d m (front_of m asked
                (own_methods d) h),
          )

      by : (b : Bool) → slice_get (if b then lacking test [] asked else []) i ≡ Some m → (z : Class)
          × Stands z (known (gathered false (supertypes w d.supers) ++ gathered true (supertypes w d.interfaces)))
          × Stands m (own_methods z) × (is_initialiser m.name ≡ false)
      by true f = of_asked (lacking_has test [] asked i m f)
      by false f = absurd cc

  tree : (x : List ℕ) (d : Class) → class_named w x ≡ Some d
      → AreSupertypes w (x ∷ []) (Known d (supertypes w d.supers) (supertypes w d.interfaces) End)
  tree x d named = known_here named (are d.supers) (are d.interfaces) ends

  -- an interface's own method by token, or one that it inherits: one above it declares it
  of_listed : (z : Class) → class_named w z.name ≡ Some z → is_interface z.flags ≡ true → (m : WorldMember)
      → Stands m (own_methods z) → (f : Found) × IsOfInterface z.name m.name m.desc f
  of_listed z named it m h =
      let i = has-get m (own_methods z) h in
      let asked = asked_by (supertypes w z.supers) (supertypes w z.interfaces) in
      let t = has_token w z m (on z.is_imported (own_methods z) (asked ++ own_methods z) (contained (own_methods z) i.0 m i.1) (let j = has-get m (asked
      ++ own_methods z) (back_of m asked (own_methods z) h) in contained (asked ++ own_methods z) j.0 m j.1)) in
      let f = found_method w order.acyclic z named t.0 (signature_of m) t.1 in
      (f.0, of_interface z named it m.name m.desc f.0 f.1)
    where
      on : (b : Bool) (xs ys : List WorldMember) → Contains xs m → Contains ys m → Contains (cond b xs ys) m
      on true xs ys x y = x
      on false xs ys x y = y

  got_source : (x : List ℕ) (d : Class) → class_named w d.name ≡ Some d → Below w x d.name → (s : Signature) (f : Found)
      → got (added w d) s d ≡ Some f → IsSource x f
  unfolding got
  got_source x d named way s f e = by (position P (added w d)) refl e
    where
      P : WorldMember → Bool
      P m = is_called s.name s.desc m

      by : (o : Option ℕ) → position P (added w d) ≡ o
          → option_map (λ i. member_at d (length d.fields + length d.methods + i)) o ≡ Some f → IsSource x f
      by None g h = absurd cc
      by (Some i) g h =
          let same : member_at d (length d.fields + length d.methods + i) ≡ f = cc in
          let moved : length d.fields + (length d.methods + i) ≡ length d.fields + length d.methods + i = omega arith in
          let r = position-at P (added w d) i g in
          let y = r.0 in
          let at : slice_get (methods_with_added w d) (length d.methods + i) ≡ Some (as_added y) =
          get_behind d.methods (map as_added (added w d)) i ∙ slice_get-map as_added (added w d) i
          ∙ ap (option_map as_added) r.1 in
          let a = added_asked d i y r.1 in
          let all : known (gathered false (Known d (supertypes w d.supers) (supertypes w d.interfaces) End))
          ≡ known (gathered false (supertypes w d.supers) ++ gathered true (supertypes w d.interfaces)) =
          ap known (above d (supertypes w d.supers) (supertypes w d.interfaces)) in
          let z = a.0 in
          let up = gathered_above w order false (d.name ∷ []) (Known d (supertypes w d.supers) (supertypes w
          d.interfaces) End) z (tree d.name d named) (λ same. absurd (never same)) (subst (Has z) (sym all) (upward z (known
          (gathered false (supertypes w d.supers) ++ gathered true (supertypes w d.interfaces))) a.1)) in
          let from = of_listed z up.3 up.4 y a.2 in
          let o = from.1 in
          let c = o.class in
          let k = o.method in
          record {
            class = c;
            named = o.named;
            below = below_on w x d.name c.name way (below_on w d.name z.name c.name (subst (λ n. Below w n z.name)
                (only up.0 d.name up.1) up.2) o.below);
            place = o.place;
            method = k;
            there = o.there;
            member = as_added y;
            meant = ap (method_meant w) (sym (ap (member_at d) moved ∙ same)) ∙ place_of d named (length d.methods + i)
                (as_added y) at;
            one = same_signature k.name k.desc y.name y.desc o.has_name o.has_desc;
            kind = inr (
              o.it,
              refl,
              interface_open p.files kept c.name c o.place k o.named o.it o.there (ap is_initialiser o.has_name ∙ a.3),
            );
          }
        where
          never : false ≡ true → ⊥
          never same = cc

          signed : List ℕ → List ℕ → Signature
          signed n t = record { name = n; desc = t }

          same_signature : (a b c d : List ℕ) → a ≡ c → b ≡ d → signed a b ≡ signed c d
          same_signature a b c d e f = ap (λ n. signed n b) e ∙ ap (signed c) f

  lifted : (x y : List ℕ) (c : Class) → class_named w x ≡ Some c → Lists y (c.supers ++ c.interfaces) → (f : Found)
      → IsSource y f → IsSource x f
  lifted x y c named l f s = record {
    class = s.class;
    named = s.named;
    below = listed_below w x y (let d = s.class in d.name) c named l s.below;
    place = s.place;
    method = s.method;
    there = s.there;
    member = s.member;
    meant = s.meant;
    one = s.one;
    kind = s.kind;
  }

  line_source : (xs : List (List ℕ)) (k : Supertypes) → AreSupertypes w xs k → ((y : List ℕ) (d : Class) → Lists y xs
      → class_named w y ≡ Some d → is_interface d.flags ≡ false) → (s : Signature) (f : Found)
      → implementing (line_in w k) s ≡ Some f → (x : List ℕ) × Lists x xs × IsSource x f
  line_source xs End ends kinds s f e = absurd cc
  line_source xs (Unknown x next) (unknown_here g n) kinds s f e = absurd cc
  line_source xs (Known c over interfaces next) (known_here {x = x} {xs = rest} g sk ik n) kinds s f e =
      (x, foremost, by c.is_imported e (line_source c.supers over sk (λ y d l h. order.supers x y c d g l h) s f))
    where
      name : c.name ≡ x
      name = class_named-name w x c g

      known_one : class_named w c.name ≡ Some c
      known_one = ap (class_named w) name ∙ g

      ground : is_interface c.flags ≡ false
      ground = kinds x c foremost g

      by : (b : Bool) → implementing (if b then Imported (c ∷ upwards over) else Declared c (added w c) (line_in w
          over)) s ≡ Some f → (implementing (line_in w over) s ≡ Some f → (y : List ℕ) × Lists y c.supers
          × IsSource y f) → IsSource x f
      by true h rest_of =
          let r = first_has (own is_virtual s) (c ∷ upwards over) f h in
          let d = r.0 in
          let on : OnLine w x d = ⊎_elim (λ same. here (g ∙ ap Some (sym same)))
          (λ i. let l = listed_line w c.supers over d sk i in up c g l.1 l.2) (has-cons d c (upwards over) r.1) in
          own_source x d (line_named w x d on) (line_below w x d on) (line_class w order x c d on g ground) is_virtual s
          f r.2
      by false h rest_of = own_first (own is_shown s c) refl h
        where
          above_one : (y : List ℕ) × Lists y c.supers × IsSource y f → IsSource x f
          above_one r = lifted x r.0 c g (lists-front r.0 c.supers c.interfaces r.1) f r.2

          got_first : (o : Option Found) → got (added w c) s c ≡ o → or_else o (implementing (line_in w over) s) ≡ Some f
              → IsSource x f
          got_first (Some d) i j = got_source x c known_one (inl (sym name)) s f (i ∙ j)
          got_first None i j = above_one (rest_of j)

          own_first : (o : Option Found) → own is_shown s c ≡ o → or_else o (or_else (got (added w c) s c) (implementing
              (line_in w over) s)) ≡ Some f → IsSource x f
          own_first (Some d) i j = own_source x c known_one (inl (sym name)) ground is_shown s f (i ∙ j)
          own_first None i j = got_first (got (added w c) s c) refl j

  -- ---- what is listed

  pub exported_named : (k : ℕ) (c : Class) → slice_get (exported_classes p) k ≡ Some c
      → (class_named w c.name ≡ Some c) × (c.is_imported ≡ false)
  exported_named k c at =
      let o = own_class p k c at in (
        subst (λ (d : Class). class_named w d.name ≡ Some d) (sym o.is) (own_named kept.list p kept.codes kept.settings
            kept.sound kept.checks order o.number o.tree o.is_tree),
        ap (λ (d : Class). d.is_imported) o.is,
      )

  -- an interface gets no method
  pub none_added : (c : Class) → is_interface c.flags ≡ true → added w c ≡ []
  unfolding added
  none_added c it = ap (λ b. if b then lacking (λ m. declares_open m.name m.desc c || has_open m.name m.desc (supertypes
      w c.supers)) [] (asked_by (supertypes w c.supers) (supertypes w c.interfaces)) else []) (takes c.is_imported
      (is_abstract c.flags) (is_interface c.flags) it)
    where
      takes : (i a f : Bool) → f ≡ true → (not i && a && not f) ≡ false
      takes true a f e = refl
      takes false false f e = refl
      takes false true true e = refl
      takes false true false e = absurd cc

  pub interface_methods_are : (c : Class) → is_interface c.flags ≡ true → (let x = export_class p c in x.methods)
      ≡ methods_from p c (length c.fields) c.methods ++ supers_from w c 0 (interface_methods w c) (interface_row w c)
  interface_methods_are c it =
      ap (λ g. methods_from p c (length c.fields) c.methods ++ (added_from p c (length c.fields + length c.methods) g
      ++ inherited w c)) (none_added c it)
      ∙ ap (λ b. methods_from p c (length c.fields) c.methods ++ (if b then supers_from w c 0 (interface_methods w c)
      (interface_row w c) else inherited_from w c 0 (row (line_at w c)))) it

  module _ (k i : ℕ) (c : Class) (e : ExportMethod) (at : slice_get (exported_classes p) k ≡ Some c)
      (there : (let x = export_class p c in slice_get x.methods i ≡ Some e)) (open_one : is_open e.flags ≡ true)
      (ordinary : is_constructor e.name ≡ false) where
    abbrev Declared_above : Type 0
    Declared_above = (d : IsDeclaredAbove w c.name e.name e.desc) × IsOfKind d e.flags (is_interface c.flags)

    named_c : class_named w c.name ≡ Some c
    named_c = let o = exported_named k c at in o.0

    of_class : is_interface c.flags ≡ false → Declared_above
    of_class ground = by slot.0 slot.2
      where
        v : IsOwnVirtual p c e
        v = virtual_are_own kept.list p kept.codes kept.settings kept.sound kept.checks order (let all = kept.keeps
            in all.rules) k i c e at ground there (unbound_off (is_static e.flags) (is_constructor e.name)
            (no_static e.flags (open_parts e.flags open_one).0) ordinary)

        slot : (q : Option Signature) × (slice_get (slots (line_at w c)) e.token ≡ Some q)
            × (meant_by (implementing (line_at w c)) q ≡ Some v.found)
        slot = mapped_at (meant_by (implementing (line_at w c))) (slots (line_at w c)) e.token (Some v.found) v.there

        kinds : (y : List ℕ) (d : Class) → Lists y (c.name ∷ []) → class_named w y ≡ Some d → is_interface d.flags
            ≡ false
        kinds y d l h =
            let both : Some c ≡ Some d = sym named_c ∙ ap (class_named w) (sym (only y c.name l)) ∙ h in
            let same : c ≡ d = cc in
            sym (ap (λ (u : Class). is_interface u.flags) same) ∙ ground

        of_source : IsSource c.name v.found → Declared_above
        of_source s =
            let m = s.method in
            let same : s.member ≡ v.member = same_member (sym s.meant ∙ v.meant) in
            let flags : (let n = s.member in n.flags) ≡ e.flags = ap (λ (n : WorldMember). n.flags) same
            ∙ ap (λ (y : ExportMethod). y.flags) v.is in
            let from : IsDeclaredAbove w c.name e.name e.desc = record {
              class = s.class;
              named = s.named;
              below = s.below;
              place = s.place;
              method = m;
              there = s.there;
              has_name = ap (λ (u : Signature). u.name) s.one ∙ ap (λ (n : WorldMember). n.name) same
                  ∙ ap (λ (y : ExportMethod). y.name) v.is;
              has_desc = ap (λ (u : Signature). u.desc) s.one ∙ ap (λ (n : WorldMember). n.desc) same
                  ∙ ap (λ (y : ExportMethod). y.desc) v.is;
              opened = ⊎_elim (λ own. ap is_open (own.0 ∙ flags) ∙ open_one) (λ face. face.2) s.kind;
            } in (
              from,
              ⊎_elim (λ own. inl (own.0 ∙ flags, own.1 ∙ sym ground)) (λ face. inr (
                face.0,
                ap is_abstract
                    (sym flags) ∙ face.1,
              )) s.kind,
            )

        by : (q : Option Signature) → meant_by (implementing (line_at w c)) q ≡ Some v.found → Declared_above
        by None h = absurd (nothing h)
        by (Some s) h =
            let r = line_source (c.name ∷ []) (Known c (supertypes w c.supers) (supertypes w c.interfaces) End)
            (tree c.name c named_c) kinds s v.found h in
            of_source (subst (λ y. IsSource y v.found) (only r.0 c.name r.1) r.2)

    of_face : is_interface c.flags ≡ true → Declared_above
    of_face it =
        ⊎_elim
        (λ h. own (listed_in p c (length c.fields) c.methods e h))
        (λ h. over (supers_in w c 0 (interface_methods w c) (interface_row w c) e h))
        (has-either e (methods_from p c (length c.fields) c.methods) (supers_from w c 0 (interface_methods w c)
        (interface_row w c)) (subst (Stands e) (interface_methods_are c it) (get-has e (let x = export_class p c
        in x.methods) i there)))
      where
        own : IsListedAt p c (length c.fields) c.methods e → Declared_above
        own r =
            let flags : (let m = r.member in m.flags) ≡ e.flags = ap (λ (y : ExportMethod). y.flags) r.is in
            let from : IsDeclaredAbove w c.name e.name e.desc = record {
              class = c;
              named = named_c;
              below = inl refl;
              place = r.place;
              method = r.member;
              there = r.there;
              has_name = ap (λ (y : ExportMethod). y.name) r.is;
              has_desc = ap (λ (y : ExportMethod). y.desc) r.is;
              opened = ap is_open flags ∙ open_one;
            } in
            (from, inl (flags, refl))

        over : IsSuperAt w c 0 (interface_methods w c) (interface_row w c) e → Declared_above
        over r =
            let u = mapped_at (λ (s : Signature). method_of_interface w c.name s.name s.desc) (interface_methods w c)
            r.place (Some r.found) r.there in
            let s = u.0 in
            let o = of_interface c named_c it s.name s.desc r.found u.2 in
            let m = o.method in
            let same : m ≡ r.member = same_member (sym o.meant ∙ r.meant) in
            let flags : m.flags ≡ e.flags = ap (λ (n : WorldMember). n.flags) same ∙ ap (λ (y : ExportMethod). y.flags)
            r.is in
            let from : IsDeclaredAbove w c.name e.name e.desc = record {
              class = o.class;
              named = o.named;
              below = o.below;
              place = o.place;
              method = m;
              there = o.there;
              has_name = ap (λ (n : WorldMember). n.name) same ∙ ap (λ (y : ExportMethod). y.name) r.is;
              has_desc = ap (λ (n : WorldMember). n.desc) same ∙ ap (λ (y : ExportMethod). y.desc) r.is;
              opened = ap is_open flags ∙ open_one;
            } in
            (from, inl (flags, o.it ∙ sym it))

    declared_above : Declared_above
    declared_above = ⊎_elim of_face of_class (true_or_false (is_interface c.flags))

  pub listed_are_above : ListedAreAbove p
  listed_are_above = declared_above
