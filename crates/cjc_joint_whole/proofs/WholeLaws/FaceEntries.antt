-- What the export file of a package lists of an interface: its methods and those of its superinterfaces, each under the
-- place that it has among the methods of the interface.
use Rattle.std.proofs.Common.{◌≡◌, ℕ, zero, suc, ◌+◌, ◌-◌, ◌<◌, ◌≤◌, ◌==◌, refl, sym, ap, subst, ◌∙◌, arith, Bool}
use Rattle.std.proofs.Common.{true, false, List, [], ◌∷◌, ◌++◌, length, map, Option, Some, None, ⊎_elim}
use Rattle.std.specs.Prelude.{not, ◌&&◌, ◌||◌, option_and_then, option_map, position, slice_get, unwrap_or}
use Rattle.std.specs.Prelude.{if◌then◌else◌}
use Rattle.std.proofs.lemmas.List.{length-map}
use Rattle.std.proofs.lemmas.Option.{slice_get-map, slice_get_cases}
use Rattle.cjc_bytes.specs.AccessFlags.{is_abstract, is_interface}
use Rattle.cjc_bytes.proofs.Gets.{get_behind, in_front}
use Rattle.cjc_bytes.proofs.Numbers.{like_number, number_same}
use Rattle.cjc_components.specs.Descriptor.{as_added, method_in, methods_with_added, no_member}
use Rattle.cjc_components.specs.ExportFile.{added_from, declares, export_class, inherited, inherited_from, is_listed}
use Rattle.cjc_components.specs.ExportFile.{method_entry, method_meant, methods_from, supers_from}
use Rattle.cjc_components.specs.Names.{member_token}
use Rattle.cjc_components.specs.Package.{Package, has_applets, world}
use Rattle.cjc_shape_proof.proofs.CheckProofLists.{has-mapped}
use Rattle.cjc_shape_proof.proofs.WrittenLaws.FittingLaws.Standing.{listed_in}
use Rattle.cjc_shape_proof.proofs.WritingLaws.Entries.{listed_has, supers_has, supers_in}
use Rattle.cjc_shape_proof.proofs.WritingLaws.Signatures.{asked_plain, new_has, new_once, own_kept_there}
use Rattle.cjc_token_proof.proofs.TablesLaws.Clean.{own_name}
use Rattle.cjc_token_proof.proofs.TablesLaws.Filed.{has-back, has-front, own_in}
use Rattle.cjc_token_proof.proofs.WorldProofOwn.{own_at}
use Rattle.cjc_token_proof.specs.Tables.Sound.{IsSound}
use Rattle.cjc_tokens.proofs.Facts.{same-true}
use Rattle.cjc_tokens.proofs.Means.{kept-at}
use Rattle.cjc_tokens.proofs.TokenLaws.Meant.{found_method, has_token}
use Rattle.cjc_tokens.specs.Fields.{field_tokens}
use Rattle.cjc_tokens.specs.Lines.{line_at}
use Rattle.cjc_tokens.specs.Members.{Signature, has as is_among, is_exposed, is_initialiser, same, signature_of}
use Rattle.cjc_tokens.specs.Members.{signatures}
use Rattle.cjc_tokens.specs.Methods.{class_method_tokens, interface_methods, interface_row, interface_token}
use Rattle.cjc_tokens.specs.Slots.{hidden_slots, row, shown_token}
use Rattle.cjc_tokens.specs.Tokens.{OfClass, assigned, joined, method_tokens, token_of_member}
use Rattle.cjc_vtable.proofs.Filed.{Has, at-number, at_front, behind, has-either}
use Rattle.cjc_world.proofs.Settled.{supertypes-AreSupertypes}
use Rattle.cjc_world.proofs.UpwardLaws.Lines.{first_has, gathered_above}
use Rattle.cjc_world.specs.Added.{added, asked_by, declares_open, has_open, lacking, own_methods, takes_added}
use Rattle.cjc_world.specs.ClassFile.declared.tree.ClassTree.{ClassTree}
use Rattle.cjc_world.specs.ClassFile.declared.tree.FieldTree.{FieldTree}
use Rattle.cjc_world.specs.Classes.{Class, Member, class_named, declared, field_of_class, method_of_export}
use Rattle.cjc_world.specs.ExportFile.declared.tree.ExportMethod.{ExportMethod}
use Rattle.cjc_world.specs.Exported.{is_exported}
use Rattle.cjc_world.specs.Interfaces.{gathered, known}
use Rattle.cjc_world.specs.Lookup.{first, member_at, method_of_interface, or_else, own_method, own_of}
use Rattle.cjc_world.specs.Supertypes.{supertypes}
use Rattle.cjc_world.specs.Upwards.{IsOrdered}
use Rattle.cjc_world.specs.declared.found.Found.{Found}

-- ---- numbers of a list

-- a list without the first of a number
without : ℕ → List ℕ → List ℕ
without n [] = []
without n (x ∷ xs) = if x == n then xs else x ∷ without n xs

without_long : (n : ℕ) (xs : List ℕ) → Has n xs → suc (length (without n xs)) ≡ length xs
unfolding without
without_long n [] h = elim h [ ]
without_long n (x ∷ xs) at_front = ap (λ b. suc (length (if b then xs else x ∷ without n xs))) (like_number n)
without_long n (x ∷ xs) (behind h) = by (x == n) (without_long n xs h)
  where
    by : (b : Bool) → suc (length (without n xs)) ≡ length xs
        → suc (length (if b then xs else x ∷ without n xs)) ≡ suc (length xs)
    by true rest = refl
    by false rest = ap suc rest

without_has : (n i : ℕ) (xs : List ℕ) → Has i xs → (i ≡ n → ⊥) → Has i (without n xs)
unfolding without
without_has n i [] h other = elim h [ ]
without_has n i (x ∷ xs) at_front other = by (i == n) refl
  where
    by : (b : Bool) → (i == n) ≡ b → Has i (if b then xs else i ∷ without n xs)
    by true e = absurd (other (number_same i n e))
    by false e = at_front
without_has n i (x ∷ xs) (behind h) other = by (x == n) (without_has n i xs h other)
  where
    by : (b : Bool) → Has i (without n xs) → Has i (if b then xs else x ∷ without n xs)
    by true rest = h
    by false rest = behind rest

-- where each number below one stands in it, there are so many
pub enough : (n : ℕ) (xs : List ℕ) → ((i : ℕ) → i < n → Has i xs) → n ≤ length xs
enough zero xs all = omega arith
enough (suc n) xs all =
    let long = without_long n xs (all n (omega arith)) in
    let rest = enough n (without n xs) (λ i lt. without_has n i xs (all i (omega (arith, lt))) (λ same. omega (
      arith,
      lt,
      same,
    ))) in
    omega (arith, long, rest)

-- ---- signatures

sign_is : (s : Signature) (m : Member) → m.name ≡ s.name → m.desc ≡ s.desc → signature_of m ≡ s
sign_is s m e f = ap (λ n. signed n m.desc) e ∙ ap (signed s.name) f
  where
    signed : List ℕ → List ℕ → Signature
    signed n d = record { name = n; desc = d }

-- a method that is declared
declared_at : (ms : List Member) (s : Signature) → is_among (signatures (λ m. true) ms) s ≡ true → (k : ℕ)
    × (m : Member) × (slice_get ms k ≡ Some m) × (signature_of m ≡ s)
declared_at [] s e = cc
declared_at (m ∷ ms) s e = by (same (signature_of m) s) refl e (declared_at ms s)
  where
    by : (b : Bool) → same (signature_of m) s ≡ b → (b || is_among (signatures (λ m. true) ms) s) ≡ true
        → (is_among (signatures (λ m. true) ms) s ≡ true → (k : ℕ) × (n : Member) × (slice_get ms k ≡ Some n)
        × (signature_of n ≡ s))
        → (k : ℕ) × (n : Member) × (slice_get (m ∷ ms) k ≡ Some n) × (signature_of n ≡ s)
    by true f g rest = (0, m, refl, same-true (signature_of m) s f)
    by false f g rest = let r = rest g in (suc r.0, r.1, r.2, r.3)

fields_long : (exported : Bool) (fs : List FieldTree) (i : ℕ) (rest : List FieldTree)
    → length (field_tokens exported fs i rest) ≡ length rest
unfolding field_tokens
fields_long exported fs i [] = refl
fields_long exported fs i (f ∷ rest) = ap suc (fields_long exported fs (i + 1) rest)

-- ---- an interface of a package

module _ (list : List ℕ) (p : Package) (sound : IsSound list p.files) (order : IsOrdered (world p)) (n : ℕ)
    (t : ClassTree) (there : (let v = p.files in slice_get v.classes n ≡ Some t)) (face : is_interface t.flags ≡ true)
  where
    abbrev w : List Class
    w = world p

    abbrev c : Class
    c = declared n t

    abbrev its_methods : List Signature
    its_methods = interface_methods w c

    abbrev its_row : List (Option Found)
    its_row = interface_row w c

    abbrev fields : ℕ
    fields = length (let d = c in d.fields)

    abbrev methods : List Member
    methods = let d = c in d.methods

    abbrev tok : ℕ → ℕ
    tok j = member_token p (Some (member_at c j))

    named : class_named w (let u = t in u.name) ≡ Some c
    named = own_name list p.files sound c (own_in p.files sound.classes sound.exports n t there)

    -- ---- the signatures of its tokens

    signed_plain : (i : ℕ) (s : Signature) → slice_get its_methods i ≡ Some s → is_initialiser s.name ≡ false
    unfolding interface_methods
    signed_plain i s e =
        let d = c in
        let all = asked_by (supertypes w d.supers) (supertypes w d.interfaces) ++ own_methods c in
        let r = has-mapped signature_of s all (new_has [] (map signature_of all) i s e) in
        ap (λ (u : Signature). is_initialiser u.name) (sym r.2)
        ∙ asked_plain (supertypes w d.supers) (supertypes w d.interfaces) c r.0 r.1

    pub signed_once : (i : ℕ) (s : Signature) → slice_get its_methods i ≡ Some s → position (λ u. same u s) its_methods
        ≡ Some i
    unfolding interface_methods
    signed_once i s e = let d = c
        in new_once [] (map signature_of (asked_by (supertypes w d.supers) (supertypes w d.interfaces)
        ++ own_methods c)) i s e

    own_signed : (k : ℕ) (m : Member) → slice_get methods k ≡ Some m → is_initialiser m.name ≡ false → (i : ℕ)
        × (slice_get its_methods i ≡ Some (signature_of m))
    own_signed k m e plain = let d = c
        in has_token w c m (own_kept_there (supertypes w d.supers) (supertypes w d.interfaces) c refl k m e plain)

    -- ---- the tokens of its own methods

    token_is : (k : ℕ) (m : Member) → slice_get methods k ≡ Some m → token_of_member (assigned (has_applets p) p.files)
        (member_at c (fields + k)) ≡ interface_token its_methods m
    token_is k m e =
        let u = t in
        let kept = kept-at p.files (has_applets p) n t there in
        let ex = is_exported w (has_applets p) c in
        let front = field_tokens ex u.fields 0 u.fields in
        let own = map (interface_token its_methods) methods in
        let counted : fields ≡ length front = length-map u.fields field_of_class
        ∙ sym (fields_long ex u.fields 0 u.fields) in
        let as_own : method_tokens w ex c ≡ own =
        ap (λ b. if b then own else class_method_tokens ex (shown_token (line_at w c)) (hidden_slots (line_at w c))
        methods 0
        methods ++ map (λ m. shown_token (line_at w c) (signature_of m)) (added w c)) face in
        ap (option_and_then (λ (x : OfClass). joined (slice_get x.members (fields + k)))) kept.1
        ∙ ap (λ i. joined (slice_get (front ++ method_tokens w ex c) (i + k))) counted
        ∙ ap joined (get_behind front (method_tokens w ex c) k)
        ∙ ap (λ xs. joined (slice_get xs k)) as_own
        ∙ ap joined (slice_get-map (interface_token its_methods) methods k)
        ∙ ap (λ q. joined (option_map (interface_token its_methods) q)) e

    own_token : (k : ℕ) (m : Member) (i : ℕ) → slice_get methods k ≡ Some m → is_initialiser m.name ≡ false
        → slice_get its_methods i ≡ Some (signature_of m) → tok (fields + k) ≡ i
    own_token k m i e plain signed =
        ap (λ q. unwrap_or q 0xFF) (token_is k m e ∙ ap (λ b. if b then None
        else position (λ s. same s (signature_of m)) its_methods) plain ∙ signed_once i (signature_of m) signed)

    -- ---- which methods its tokens mean

    -- the method that is found of a signature
    record IsSuper (s : Signature) (f : Found) : Type 0 where
      member : Member
      meant : method_meant w f ≡ Some member
      signed : signature_of member ≡ s

    place_meant : (d : Class) → class_named w d.name ≡ Some d → (i : ℕ) (m : Member)
        → slice_get (methods_with_added w d) i ≡ Some m → method_meant w (member_at d (length d.fields + i)) ≡ Some m
    place_meant d called i m at =
        let sub : length d.fields + i - length d.fields ≡ i = omega arith in
        ap (option_map (λ (y : Class). method_in w y (length d.fields + i))) (at-number p.files d.name d called)
        ∙ ap (λ j. Some (unwrap_or (slice_get (methods_with_added w d) j) no_member)) sub
        ∙ ap (λ o. Some (unwrap_or o no_member)) at

    of_own : (d : Class) → class_named w d.name ≡ Some d → (s : Signature) (f : Found)
        → own_method false s.name s.desc d ≡ Some f → IsSuper s f
    of_own d called s f e =
        let a = own_at false s.name s.desc d f e in
        record {
          member = a.member;
          meant = ap (method_meant w) a.is ∙ place_meant d called a.place a.member (in_front d.methods (map as_added
              (added w d)) a.place a.member a.is_member);
          signed = sign_is s a.member a.has_name a.has_desc;
        }

    super_of : (s : Signature) (f : Found) → method_of_interface w (let d = c in d.name) s.name s.desc ≡ Some f
        → IsSuper s f
    unfolding method_of_interface
    super_of s f e = by (own_method false s.name s.desc c) refl
        (sym (ap (λ q. or_else (own_of s.name s.desc q) rest) named) ∙ e)
      where
        rest : Option Found
        rest = first (own_method false s.name s.desc) (known (gathered false (supertypes w ((let d = c in d.name)
            ∷ []))))

        never : {A : Type 0} → false ≡ true → A
        never e = absurd cc

        by : (q : Option Found) → own_method false s.name s.desc c ≡ q → or_else q rest ≡ Some f → IsSuper s f
        by (Some g) k h = of_own c named s f (k ∙ h)
        by None k h =
            let r = first_has (own_method false s.name s.desc) (known (gathered false (supertypes w ((let d = c
            in d.name) ∷ [])))) f h in
            let a = gathered_above w order false ((let d = c in d.name) ∷ []) (supertypes w ((let d = c in d.name)
            ∷ [])) r.0 (supertypes-AreSupertypes w order.acyclic ((let d = c in d.name) ∷ [])) (λ same_one. never
            same_one) r.1 in
            of_own r.0 a.3 s f r.2

    -- what a token means
    super_at_token : (i : ℕ) (s : Signature) (f : Found) → slice_get its_methods i ≡ Some s
        → slice_get its_row i ≡ Some (Some f) → IsSuper s f
    super_at_token i s f e g =
        let means : Some (Some f) ≡ Some (method_of_interface w (let d = c in d.name) s.name s.desc) =
        sym g ∙ slice_get-map (λ (u : Signature). method_of_interface w (let d = c in d.name) u.name u.desc)
        its_methods i
        ∙ ap (option_map (λ (u : Signature). method_of_interface w (let d = c in d.name) u.name u.desc)) e in
        let is_it : method_of_interface w (let d = c in d.name) s.name s.desc ≡ Some f = cc in
        super_of s f is_it

    -- ---- its entries

    abbrev A : List ExportMethod
    A = methods_from p c fields methods

    abbrev S : List ExportMethod
    S = supers_from w c 0 its_methods its_row

    none_added : added w c ≡ []
    unfolding added
    none_added = let d = c in ap (λ b. if b then lacking (λ m. declares_open m.name m.desc c
        || has_open m.name m.desc (supertypes w d.supers)) [] (asked_by (supertypes w d.supers)
        (supertypes w d.interfaces)) else []) takes
      where
        takes : takes_added c ≡ false
        takes = by (let d = c in is_abstract d.flags) (let d = c in is_interface d.flags) face
          where
            by : (a b : Bool) → b ≡ true → (true && a && not b) ≡ false
            by true true e = refl
            by false true e = refl
            by true false e = cc
            by false false e = cc

    listed : (let e = export_class p c in e.methods) ≡ A ++ S
    listed =
        ap (λ g. A ++ (added_from p c (fields + length methods) g ++ inherited w c)) none_added
        ∙ ap (λ b. A ++ (if b then S else inherited_from w c 0 (row (line_at w c)))) face

    -- an entry has the place of its name and descriptor for a token
    abbrev IsPlaced : ExportMethod → Type 0
    IsPlaced e = slice_get its_methods e.token ≡ Some (signature_of (method_of_export e))

    started : (m : Member) → is_listed c m ≡ true → is_initialiser m.name ≡ false
    started m e = by (let d = c in is_interface d.flags || is_exposed m.flags) (is_initialiser m.name) e
      where
        by : (a b : Bool) → (a && not b) ≡ true → b ≡ false
        by true false e = refl
        by true true e = cc
        by false b e = cc

    own_placed : (e : ExportMethod) → Has e A → IsPlaced e
    own_placed e h =
        let r = listed_in p c fields methods e h in
        let start = started r.member r.listed in
        let i = own_signed r.place r.member r.there start in
        subst IsPlaced r.is (subst (λ k. slice_get its_methods k ≡ Some (signature_of r.member))
        (sym (own_token r.place r.member i.0 r.there start i.1)) i.1)

    super_placed : (e : ExportMethod) → Has e S → IsPlaced e
    super_placed e h =
        let r = supers_in w c 0 its_methods its_row e h in
        let s = super_at_token r.place r.signature r.found r.wanted r.there in
        let both : Some s.member ≡ Some r.member = sym s.meant ∙ r.meant in
        let one : s.member ≡ r.member = cc in
        let z : r.place ≡ 0 + r.place = omega arith in
        subst IsPlaced r.is (subst (λ k. slice_get its_methods k ≡ Some (signature_of r.member)) z
        (r.wanted ∙ ap (λ (u : Signature). Some u) (sym s.signed) ∙ ap (λ (m : Member). Some (signature_of m)) one))

    pub entry_placed : (e : ExportMethod) → Has e (let x = export_class p c in x.methods) → IsPlaced e
    entry_placed e h = ⊎_elim (λ a. own_placed e a) (λ b. super_placed e b) (has-either e A S (subst (Has e) listed h))

    -- ---- each token is that of one

    entry_at : (i : ℕ) (s : Signature) → slice_get its_methods i ≡ Some s → (x : ExportMethod) × Has x (A ++ S)
        × (x.token ≡ i)
    entry_at i s e = by (declares c s) refl
      where
        shown : (m : Member) → is_initialiser m.name ≡ false → is_listed c m ≡ true
        shown m e = on (let d = c in is_interface d.flags) (is_exposed m.flags) (is_initialiser m.name) face e
          where
            on : (a b q : Bool) → a ≡ true → q ≡ false → ((a || b) && not q) ≡ true
            on true b false f g = refl
            on true b true f g = cc
            on false b q f g = cc

        by : (b : Bool) → declares c s ≡ b → (x : ExportMethod) × Has x (A ++ S) × (x.token ≡ i)
        by true own =
            let r = declared_at methods s own in
            let start : is_initialiser (let m = r.1 in m.name) ≡ false =
            ap (λ (u : Signature). is_initialiser u.name) r.3 ∙ signed_plain i s e in
            let signed : slice_get its_methods i ≡ Some (signature_of r.1) = e ∙ ap (λ (u : Signature). Some u) (sym
            r.3) in (
              method_entry (tok (fields + r.0)) r.1,
              has-front (method_entry (tok (fields + r.0)) r.1) A S
                  (listed_has p c fields methods r.0 r.1 r.2 (shown r.1 start)),
              own_token r.0 r.1 i r.2 start signed,
            )
        by false own =
            let f = found_method w order.acyclic c named i s e in
            let row_is : slice_get its_row i ≡ Some (Some f.0) =
            slice_get-map (λ (u : Signature). method_of_interface w (let d = c in d.name) u.name u.desc) its_methods i
            ∙ ap (option_map (λ (u : Signature). method_of_interface w (let d = c in d.name) u.name u.desc)) e
            ∙ ap (λ q. Some q) f.1 in
            let s_is = super_of s f.0 f.1 in
            let z : 0 + i ≡ i = omega arith in (
              method_entry (0 + i) s_is.member,
              has-back (method_entry (0 + i) s_is.member) A S
                  (supers_has w c 0 its_methods its_row i s f.0 s_is.member e row_is own s_is.meant),
              z,
            )

    pub entry_there : (i : ℕ) (s : Signature) → slice_get its_methods i ≡ Some s → (x : ExportMethod)
        × Has x (let e = export_class p c in e.methods) × (x.token ≡ i)
    entry_there i s e = let r = entry_at i s e in (r.0, subst (Has r.0) (sym listed) r.1, r.2)

    pub all_there : (i : ℕ) → i < length its_methods → (x : ExportMethod)
        × Has x (let e = export_class p c in e.methods) × (x.token ≡ i)
    all_there i lt = ⊎_elim (λ r. entry_there i r.0 r.2) (λ r. (let le = r.0 in absurd (omega (arith, lt, le))))
        (slice_get_cases its_methods i).1

    pub methods_plain : (i : ℕ) (s : Signature) → slice_get its_methods i ≡ Some s → is_initialiser s.name ≡ false
    methods_plain = signed_plain
