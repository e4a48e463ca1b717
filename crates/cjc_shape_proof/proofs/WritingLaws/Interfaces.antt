-- The methods of an exported interface can stand in an export file: each has a token of its own below their number, and
-- none is named as a constructor or an initialiser is.
use Rattle.std.proofs.Common.{◌≡◌, ℕ, zero, suc, ◌+◌, ◌-◌, ◌<◌, ◌≤◌, ◌^◌, refl, sym, ap, subst, ◌∙◌, arith, Bool}
use Rattle.std.proofs.Common.{true, false, List, [], ◌∷◌, ◌++◌, length, map, ⊎_elim, Option, Some, None}
use Rattle.std.specs.Prelude.{not, ◌&&◌, ◌||◌, count_by, nat_lt, option_and_then, option_map, position}
use Rattle.std.specs.Prelude.{slice_get, unwrap_or, if◌then◌else◌}
use Rattle.std.proofs.lemmas.Bool.{ltb-false}
use Rattle.std.proofs.lemmas.Bool.Decides.{nat_tests}
use Rattle.std.proofs.lemmas.List.{length-map}
use Rattle.std.proofs.lemmas.Option.{slice_get-map, slice_get_cases, slice_get_within}
use Rattle.cjc_bytes.specs.AccessFlags.{is_abstract, is_interface, is_static}
use Rattle.cjc_bytes.proofs.Bools.{or_left}
use Rattle.cjc_bytes.proofs.Gets.{in_front as at_front, get_behind, mapped_at}
use Rattle.cjc_world.specs.ClassFile.declared.tree.ClassTree.{ClassTree}
use Rattle.cjc_components.specs.Class.{is_shareable}
use Rattle.cjc_components.specs.Descriptor.{as_added, method_in, methods_with_added, no_member}
use Rattle.cjc_components.specs.ExportFile.{added_from, declares, export_class, inherited, inherited_from, is_listed}
use Rattle.cjc_components.specs.ExportFile.{method_entry, method_meant, methods_from, supers_from}
use Rattle.cjc_components.specs.Exports.{exported_classes}
use Rattle.cjc_components.specs.Names.{member_token}
use Rattle.cjc_components.specs.Package.{Package, has_applets, world}
use Rattle.cjc_world.specs.ExportFile.Members.{is_unbound, not_special}
use Rattle.cjc_world.specs.ExportFile.Writable.{EachAfter, MethodStands}
use Rattle.cjc_world.specs.ExportFile.declared.tree.ExportMethod.{ExportMethod}
use Rattle.cjc_shape.proofs.ExportedOwn.{IsOwn, own_class}
use Rattle.cjc_shape.proofs.ExportedTokens.{low_tokens}
use Rattle.cjc_shape.specs.LowerJudge.declared.judged.Judged.{Judged}
use Rattle.cjc_classes.specs.List.Listed.{ListTree}
use Rattle.cjc_narrow_proof.proofs.LawsLaws.Own.{class_by_name, first_here, own_kept}
use Rattle.cjc_tokens.proofs.TokenLaws.Meant.{found_method, has_token, above}
use Rattle.cjc_tokens.proofs.Facts.{same-refl, same-true}
use Rattle.cjc_tokens.proofs.Means.{kept-at}
use Rattle.cjc_tokens.specs.Fields.{field_tokens}
use Rattle.cjc_tokens.specs.Lines.{line_at}
use Rattle.cjc_tokens.specs.Members.{Signature, has as is_among, is_constructor, is_exposed, is_initialiser, same}
use Rattle.cjc_tokens.specs.Members.{signature_of, signatures}
use Rattle.cjc_tokens.specs.Methods.{class_method_tokens, interface_methods, interface_row, interface_token}
use Rattle.cjc_tokens.specs.Methods.{is_open_bound}
use Rattle.cjc_tokens.specs.Rules.{has_high_method, has_high_token}
use Rattle.cjc_tokens.specs.Slots.{hidden_slots, row, shown_token}
use Rattle.cjc_tokens.specs.Tokens.{OfClass, assigned, joined, method_tokens, token_of_member}
use Rattle.cjc_vtable.proofs.Filed.{Has, at-number, behind, get-has, has-either}
use Rattle.cjc_vtable.proofs.Filed as filed
use Rattle.cjc_vtable.proofs.SlotNames.{position-at}
use Rattle.cjc_world.proofs.Cycles.{class_named-name}
use Rattle.cjc_world.proofs.Settled.{supertypes-known}
use Rattle.cjc_world.specs.Added.{added, asked_by, declares_open, has_open, lacking, own_methods, takes_added}
use Rattle.cjc_world.specs.Classes.{Class, Member, class_named, declared, field_of_class, method_of_class}
use Rattle.cjc_world.specs.Exported.{is_exported}
use Rattle.cjc_world.specs.Interfaces.{gathered, known}
use Rattle.cjc_world.specs.Supertypes.{supertypes}
use Rattle.cjc_world.specs.Lookup.{first, is_called, is_wanted, member_at, method_of_interface, or_else, own_method}
use Rattle.cjc_world.specs.Lookup.{own_of}
use Rattle.cjc_world.specs.Rules.{is_twice}
use Rattle.cjc_world.specs.declared.found.Found.{Found}
use Rattle.cjc_shape_proof.proofs.WrittenLaws.FittingLaws.Interfaces.{are_asked}
use Rattle.cjc_shape_proof.proofs.WrittenLaws.FittingLaws.Limited.{acyclic, few_imports, are_supertypes, tokens}
use Rattle.cjc_shape_proof.proofs.WrittenLaws.FittingLaws.Limited.{unbroken}
use Rattle.cjc_shape_proof.proofs.WrittenLaws.FittingLaws.Meant.{IsMethodRead, named_method}
use Rattle.cjc_shape_proof.proofs.WrittenLaws.FittingLaws.Order.{has_none}
use Rattle.cjc_shape_proof.proofs.WrittenLaws.FittingLaws.Standing.{listed_in}
use Rattle.cjc_shape_proof.specs.Written.LaidOut.{ExportedInterfacesStand, IsLaidOut, MethodsStand}
use Rattle.cjc_shape_proof.proofs.WritingLaws.Entries.{Differ, IsMet, as_many, differ_append, listed_differ, listed_has}
use Rattle.cjc_shape_proof.proofs.WritingLaws.Entries.{stand, supers_differ, supers_has, supers_in}
use Rattle.cjc_shape_proof.proofs.WritingLaws.Signatures.{asked_plain, new_has, new_once, own_kept_there}
use Rattle.cjc_classes.proofs.KeyTokens.Kept.{fields_long}
use Rattle.cjc_check_proof.proofs.TokenProofFiled.{has-front}
use Rattle.cjc_check_proof.proofs.ClassesLaws.Lists.{has-back, has-mapped}
use Rattle.cjc_shape_proof.proofs.WritingLaws.Flags.{interface_kept}

-- ---- names and look-up

plain_name : (name : List ℕ) → is_constructor name ≡ false → is_initialiser name ≡ false → not_special name ≡ Some name
plain_name name a b = by (is_constructor name) (is_initialiser name) a b
  where
    by : (p q : Bool) → p ≡ false → q ≡ false → (if (p || q) then None else Some name) ≡ Some name
    by false false e f = refl
    by false true e f = cc
    by true q e f = cc

first_in : (own : Class → Option Found) (cs : List Class) (f : Found) → first own cs ≡ Some f → (d : Class) × Has d cs
    × (own d ≡ Some f)
unfolding first
first_in own [] f e = cc
first_in own (c ∷ cs) f e = by (own c) refl e (first_in own cs f)
  where
    by : (o : Option Found) → own c ≡ o → or_else o (first own cs) ≡ Some f → (first own cs ≡ Some f → (d : Class)
        × Has d cs × (own d ≡ Some f)) → (d : Class) × Has d (c ∷ cs) × (own d ≡ Some f)
    by (Some g) k h rest = (c, filed.at_front, k ∙ h)
    by None k h rest = let r = rest h in (r.0, behind r.1, r.2)

-- ---- what a class declares

pub declared_at : (ms : List Member) (s : Signature) → is_among (signatures (λ m. true) ms) s ≡ true → (k : ℕ)
    × (m : Member) × (slice_get ms k ≡ Some m) × (signature_of m ≡ s)
declared_at [] s e = cc
declared_at (m ∷ ms) s e = by (same (signature_of m) s) refl e (declared_at ms s)
  where
    by : (b : Bool) → same (signature_of m) s ≡ b → (b || is_among (signatures (λ m. true) ms) s) ≡ true
        → (is_among (signatures (λ m. true) ms) s ≡ true → (k : ℕ) × (n : Member) × (slice_get ms k ≡ Some n)
        × (signature_of n ≡ s))
        → (k : ℕ) × (n : Member) × (slice_get (m ∷ ms) k ≡ Some n) × (signature_of n ≡ s)
    by true f g rest = (0, m, refl, same-true (signature_of m) s f)
    by false f g rest = let r = rest g in (suc r.0, r.1, r.2, r.3)

declared_there : (ms : List Member) (k : ℕ) (m : Member) → slice_get ms k ≡ Some m
    → is_among (signatures (λ m. true) ms) (signature_of m) ≡ true
declared_there [] k m e = cc
declared_there (x ∷ ms) zero m e = let is : x ≡ m = cc
    in ap (λ b. b || is_among (signatures (λ m. true) ms) (signature_of m))
    (ap (λ (y : Member). same (signature_of y) (signature_of m)) is ∙ same-refl (signature_of m))
declared_there (x ∷ ms) (suc k) m e = last (same (signature_of x) (signature_of m)) (declared_there ms k m e)
  where
    last : (a : Bool) {b : Bool} → b ≡ true → (a || b) ≡ true
    last true f = refl
    last false f = f

-- ---- an interface

module _ (list : ListTree) (files : List (List ℕ)) (judged : Judged) (p : Package) (is : IsLaidOut list files judged p)
    (place : ℕ) (owner : Class) (at : slice_get (exported_classes p) place ≡ Some owner)
    (interface : (let o = own_class p place owner at in let t = o.tree in is_interface t.flags ≡ true)) where
  abbrev o : IsOwn p owner
  o = own_class p place owner at

  abbrev n : ℕ
  n = let own = o in own.number

  abbrev t : ClassTree
  t = let own = o in own.tree

  there : (let v = p.files in slice_get v.classes n ≡ Some t)
  there = let own = o in own.is_tree

  abbrev w : List Class
  w = world p

  abbrev c : Class
  c = declared n t

  abbrev its_methods : List Signature
  its_methods = interface_methods w c

  abbrev its_row : List (Option Found)
  its_row = interface_row w c

  abbrev fields : ℕ
  fields = length (let d = c in d.fields)

  abbrev methods : List Member
  methods = let d = c in d.methods

  abbrev tok : ℕ → ℕ
  tok j = member_token p (Some (member_at c j))

  named : class_named w (let u = t in u.name) ≡ Some c
  named = let u = unbroken list files judged p is in class_by_name p.files list.name u.listed u.world n t there

  -- 413
  few_methods : length its_methods ≤ 128
  unfolding has_high_token
  few_methods = by (let u = t in is_interface u.flags) interface
      (or_left _ _ (low_tokens p owner o (tokens list files judged p is)))
    where
      by : (b : Bool) → b ≡ true → (if b then nat_lt 128 (length its_methods) else (has_high_method w c
          || (true && nat_lt 255 (count_by is_open_bound methods)))) ≡ false → length its_methods ≤ 128
      by true e f = ltb-false 128 (length its_methods) f
      by false e f = cc

  -- ---- the signatures of its tokens

  signed_plain : (i : ℕ) (s : Signature) → slice_get its_methods i ≡ Some s → is_initialiser s.name ≡ false
  unfolding interface_methods
  signed_plain i s e =
      let d = c in
      let all = asked_by (supertypes w d.supers) (supertypes w d.interfaces) ++ own_methods c in
      let r = has-mapped signature_of s all (new_has [] (map signature_of all) i s e) in
      ap (λ (u : Signature). is_initialiser u.name) (sym r.2)
      ∙ asked_plain (supertypes w d.supers) (supertypes w d.interfaces) c r.0 r.1

  signed_once : (i : ℕ) (s : Signature) → slice_get its_methods i ≡ Some s → position (λ u. same u s) its_methods
      ≡ Some i
  unfolding interface_methods
  signed_once i s e = let d = c
      in new_once [] (map signature_of (asked_by (supertypes w d.supers) (supertypes w d.interfaces) ++ own_methods c))
      i s e

  own_signed : (k : ℕ) (m : Member) → slice_get methods k ≡ Some m → is_initialiser m.name ≡ false → (i : ℕ)
      × (slice_get its_methods i ≡ Some (signature_of m))
  own_signed k m e plain = let d = c
      in has_token w c m (own_kept_there (supertypes w d.supers) (supertypes w d.interfaces) c refl k m e plain)

  -- ---- the tokens of its own methods

  token_is : (k : ℕ) (m : Member) → slice_get methods k ≡ Some m → token_of_member (assigned (has_applets p) p.files)
      (member_at c (fields + k)) ≡ interface_token its_methods m
  token_is k m e =
      let u = t in
      let kept = kept-at p.files (has_applets p) n t there in
      let ex = is_exported w (has_applets p) c in
      let front = field_tokens ex u.fields 0 u.fields in
      let own = map (interface_token its_methods) methods in
      let counted : fields ≡ length front = length-map u.fields field_of_class
      ∙ sym (fields_long ex u.fields 0 u.fields) in
      let as_own : method_tokens w ex c ≡ own =
      ap (λ b. if b then own else class_method_tokens ex (shown_token (line_at w c)) (hidden_slots (line_at w c))
      methods 0
      methods ++ map (λ m. shown_token (line_at w c) (signature_of m)) (added w c)) interface in
      ap (option_and_then (λ (x : OfClass). joined (slice_get x.members (fields + k)))) kept.1
      ∙ ap (λ i. joined (slice_get (front ++ method_tokens w ex c) (i + k))) counted
      ∙ ap joined (get_behind front (method_tokens w ex c) k)
      ∙ ap (λ xs. joined (slice_get xs k)) as_own
      ∙ ap joined (slice_get-map (interface_token its_methods) methods k)
      ∙ ap (λ q. joined (option_map (interface_token its_methods) q)) e

  own_token : (k : ℕ) (m : Member) (i : ℕ) → slice_get methods k ≡ Some m → is_initialiser m.name ≡ false
      → slice_get its_methods i ≡ Some (signature_of m) → tok (fields + k) ≡ i
  own_token k m i e plain signed =
      ap (λ q. unwrap_or q 0xFF) (token_is k m e ∙ ap (λ b. if b then None else position (λ s. same s (signature_of m))
      its_methods) plain ∙ signed_once i (signature_of m) signed)

  -- 202
  own_apart : (j k : ℕ) (m x : Member) → j < k → slice_get methods j ≡ Some m → slice_get methods k ≡ Some x
      → signature_of m ≡ signature_of x → ⊥
  unfolding is_twice
  own_apart j k m x lt e f same_one =
      let here = first_here (λ (q : Member). is_called m.name m.desc q) methods j m e (same-refl (signature_of m))
      (once j m e) in
      let later = first_here (λ (q : Member). is_called x.name x.desc q) methods k x f (same-refl (signature_of x))
      (once k x f) in
      let alike : position (λ (q : Member). is_called m.name m.desc q) methods
      ≡ position (λ (q : Member). is_called x.name x.desc q) methods =
      ap (λ (s : Signature). position (λ (q : Member). is_called s.name s.desc q) methods) same_one in
      let both : Some j ≡ Some k = sym here ∙ alike ∙ later in
      let one : j ≡ k = cc in
      omega (arith, one, lt)
    where
      once : (k : ℕ) (m : Member) → slice_get methods k ≡ Some m → is_twice methods k m.name m.desc ≡ false
      once k m e = let u = unbroken list files judged p is in
          let r = mapped_at method_of_class (let v = t in v.methods) k m e in
          let kept = own_kept p.files list.name u.listed u.world n t there in
          ap (λ (x : Member). is_twice methods k x.name x.desc) (sym r.2) ∙ (kept.methods k r.0 r.1).0

  -- ---- which methods its tokens mean

  -- the method that is found of a signature
  record IsSuper (s : Signature) (f : Found) : Type 0 where
    member : Member
    meant : method_meant w f ≡ Some member
    signed : signature_of member ≡ s
    read : IsMethodRead member
    plain : not_special member.name ≡ Some member.name
    -- it is one that an interface declares, and no initialiser
    class : Class
    called : class_named w class.name ≡ Some class
    kind : is_interface class.flags ≡ true
    its_place : ℕ
    declared_there : slice_get class.methods its_place ≡ Some member
    start : is_initialiser member.name ≡ false

  of_own : (d : Class) → class_named w d.name ≡ Some d → is_interface d.flags ≡ true → (s : Signature) (f : Found)
      → is_initialiser s.name ≡ false → own_method false s.name s.desc d ≡ Some f → IsSuper s f
  unfolding own_method
  of_own d called kind s f start e = by (position (λ m. is_wanted false m.flags && is_called s.name s.desc m) d.methods)
      refl e
    where
      by : (q : Option ℕ) → position (λ m. is_wanted false m.flags && is_called s.name s.desc m) d.methods ≡ q
          → option_map (λ i. member_at d (length d.fields + i)) q ≡ Some f → IsSuper s f
      by None g h = cc
      by (Some i) g h =
          let is_it : member_at d (length d.fields + i) ≡ f = cc in
          let r = position-at (λ m. is_wanted false m.flags && is_called s.name s.desc m) d.methods i g in
          let m = r.0 in
          let signed : signature_of m ≡ s = same-true (signature_of m) s r.2 in
          let known_one = named_method list files judged p is d.name d called m (get-has m d.methods i r.1) in
          let sub : length d.fields + i - length d.fields ≡ i = omega arith in
          let in_it : method_in w d (length d.fields + i) ≡ m =
          ap (λ j. unwrap_or (slice_get (methods_with_added w d) j) no_member) sub
          ∙ ap (λ q. unwrap_or q no_member) (at_front d.methods (map as_added (added w d)) i m r.1) in
          let started : is_initialiser m.name ≡ false = ap (λ (u : Signature). is_initialiser u.name) signed ∙ start in
          subst (IsSuper s) is_it (record {
            member = m;
            meant = ap (option_map (λ (x : Class). method_in w x (length d.fields + i))) (at-number p.files d.name d
                called) ∙ ap (λ (x : Member). Some x) in_it;
            signed = signed;
            read = known_one.0;
            plain = plain_name m.name (known_one.1 kind started) started;
            class = d;
            called = called;
            kind = kind;
            its_place = i;
            declared_there = r.1;
            start = started;
          })

  super_of : (s : Signature) (f : Found) → is_initialiser s.name ≡ false → method_of_interface w (let d = c
      in d.name) s.name s.desc ≡ Some f → IsSuper s f
  unfolding method_of_interface
  super_of s f start e = by (own_method false s.name s.desc c) refl
      (sym (ap (λ q. or_else (own_of s.name s.desc q) rest) named) ∙ e)
    where
      rest : Option Found
      rest = first (own_method false s.name s.desc) (known (gathered false (supertypes w ((let d = c in d.name) ∷ []))))

      by : (q : Option Found) → own_method false s.name s.desc c ≡ q → or_else q rest ≡ Some f → IsSuper s f
      by (Some g) k h = of_own c named interface s f start (k ∙ h)
      by None k h = let u = unbroken list files judged p is in
          let d = c in
          let r = first_in (own_method false s.name s.desc) (known (gathered false (supertypes w (d.name ∷ [])))) f h in
          let gathered_is : gathered false (supertypes w (d.name ∷ [])) ≡ gathered false (supertypes w d.supers)
          ++ gathered true (supertypes w d.interfaces) =
          ap (gathered false) (supertypes-known w (acyclic list files judged p is) d.name c named)
          ∙ above c (supertypes w d.supers) (supertypes w d.interfaces) in
          let asked = are_asked list.name p.files u.listed (few_imports list files judged p is) u.world
          (acyclic list files judged p is) (are_supertypes list files judged p is) d.name c r.0 named
          (subst (λ is. Has r.0 (known is)) gathered_is r.1) in
          of_own r.0 (ap (class_named w) (class_named-name w asked.1.0 r.0 asked.1.1) ∙ asked.1.1) asked.0 s f start r.2

  -- ---- its entries

  abbrev A : List ExportMethod
  A = methods_from p c fields methods

  abbrev S : List ExportMethod
  S = supers_from w c 0 its_methods its_row

  none_added : added w c ≡ []
  unfolding added
  none_added = let d = c in ap (λ b. if b then lacking (λ m. declares_open m.name m.desc c
      || has_open m.name m.desc (supertypes w d.supers)) [] (asked_by (supertypes w d.supers)
      (supertypes w d.interfaces)) else []) takes
    where
      takes : takes_added c ≡ false
      takes = by (let d = c in is_abstract d.flags) (let d = c in is_interface d.flags) interface
        where
          by : (a b : Bool) → b ≡ true → (true && a && not b) ≡ false
          by true true e = refl
          by false true e = refl
          by true false e = cc
          by false false e = cc

  listed : (let e = export_class p c in e.methods) ≡ A ++ S
  listed =
      ap (λ g. A ++ (added_from p c (fields + length methods) g ++ inherited w c)) none_added
      ∙ ap (λ b. A ++ (if b then S else inherited_from w c 0 (row (line_at w c)))) interface

  -- an entry has the place of its name and descriptor for a token
  record IsPlaced (e : ExportMethod) : Type 0 where
    met : IsMet (length its_methods) e
    signed : slice_get its_methods e.token ≡ Some (record { name = e.name; desc = e.desc })

  started : (m : Member) → is_listed c m ≡ true → is_initialiser m.name ≡ false
  started m e = by (let d = c in is_interface d.flags || is_exposed m.flags) (is_initialiser m.name) e
    where
      by : (a b : Bool) → (a && not b) ≡ true → b ≡ false
      by true false e = refl
      by true true e = cc
      by false b e = cc

  placed : (m : Member) (i : ℕ) → IsMethodRead m → not_special m.name ≡ Some m.name → slice_get its_methods i
      ≡ Some (signature_of m) → IsPlaced (method_entry i m)
  placed m i read plain signed =
      let lt = slice_get_within its_methods i (signature_of m) signed in
      let le = few_methods in
      record {
        met = record {
          fits = record {
            token = omega (arith, lt, le);
            flags = read.flags;
            name = read.name;
            desc = read.desc;
            is_desc = read.is_desc;
          };
          low = lt;
          plain = plain;
        };
        signed = signed;
      }

  own_placed : (e : ExportMethod) → Has e A → IsPlaced e
  own_placed e h =
      let r = listed_in p c fields methods e h in
      let start = started r.member r.listed in
      let i = own_signed r.place r.member r.there start in
      let known_one = named_method list files judged p is (let u = t in u.name) c named r.member
      (get-has r.member methods r.place r.there) in
      subst IsPlaced r.is
      (subst (λ k. IsPlaced (method_entry k r.member)) (sym (own_token r.place r.member i.0 r.there start i.1))
      (placed r.member i.0 known_one.0 (plain_name r.member.name (known_one.1 interface start) start) i.1))

  -- what a token means
  super_at_token : (i : ℕ) (s : Signature) (f : Found) → slice_get its_methods i ≡ Some s
      → slice_get its_row i ≡ Some (Some f) → IsSuper s f
  super_at_token i s f e g =
      let means : Some (Some f) ≡ Some (method_of_interface w (let d = c in d.name) s.name s.desc) =
      sym g ∙ slice_get-map (λ (u : Signature). method_of_interface w (let d = c in d.name) u.name u.desc) its_methods i
      ∙ ap (option_map (λ (u : Signature). method_of_interface w (let d = c in d.name) u.name u.desc)) e in
      let is_it : method_of_interface w (let d = c in d.name) s.name s.desc ≡ Some f = cc in
      super_of s f (signed_plain i s e) is_it

  super_placed : (e : ExportMethod) → Has e S → IsPlaced e
  super_placed e h =
      let r = supers_in w c 0 its_methods its_row e h in
      let s = super_at_token r.place r.signature r.found r.wanted r.there in
      let both : Some s.member ≡ Some r.member = sym s.meant ∙ r.meant in
      let one : s.member ≡ r.member = cc in
      let z : r.place ≡ 0 + r.place = omega arith in
      subst IsPlaced r.is (subst (λ k. IsPlaced (method_entry k r.member)) z
      (subst (λ (m : Member). IsPlaced (method_entry r.place m)) one (placed s.member r.place s.read s.plain
      (r.wanted ∙ ap (λ (u : Signature). Some u) (sym s.signed)))))

  -- ---- no two of one token

  own_differ : Differ A
  own_differ = listed_differ p c fields methods pair
    where
      pair : (j k : ℕ) (m x : Member) → j < k → slice_get methods j ≡ Some m → slice_get methods k ≡ Some x
          → is_listed c m ≡ true → is_listed c x ≡ true → tok (fields + j) ≡ tok (fields + k) → ⊥
      pair j k m x lt e f l q same_token =
          let a = own_signed j m e (started m l) in
          let b = own_signed k x f (started x q) in
          let one = own_token j m a.0 e (started m l) a.1 in
          let two = own_token k x b.0 f (started x q) b.1 in
          let both : Some (signature_of m) ≡ Some (signature_of x) = sym a.1 ∙ ap (slice_get its_methods) (sym one
          ∙ same_token ∙ two) ∙ b.1 in
          let alike : signature_of m ≡ signature_of x = cc in
          own_apart j k m x lt e f alike

  across : (x y : ExportMethod) → Has x A → Has y S → x.token ≡ y.token → ⊥
  across x y h g same_token =
      let a = listed_in p c fields methods x h in
      let b = supers_in w c 0 its_methods its_row y g in
      let placed_one = own_placed x h in
      let at_y : b.place ≡ x.token = (let z : 0 + b.place ≡ y.token = ap (λ (e : ExportMethod). e.token) b.is
      in omega (arith, z, same_token)) in
      let both : Some b.signature ≡ Some (record { name = x.name; desc = x.desc }) = sym b.wanted
      ∙ ap (slice_get its_methods) at_y ∙ placed_one.signed in
      let alike : b.signature ≡ record { name = x.name; desc = x.desc } = cc in
      let its_own : declares c (signature_of a.member) ≡ true = declared_there methods a.place a.member a.there in
      let as_x : signature_of a.member ≡ record { name = x.name; desc = x.desc } =
      ap (λ (e : ExportMethod). signature e) a.is in
      absurd (let z : true ≡ false = sym its_own ∙ ap (declares c) (as_x ∙ sym alike) ∙ b.other in cc)
    where
      signature : ExportMethod → Signature
      signature e = record { name = e.name; desc = e.desc }

  all_differ : Differ (A ++ S)
  all_differ = differ_append A S own_differ (supers_differ w c 0 its_methods its_row) across

  all_placed : (e : ExportMethod) → Has e (A ++ S) → IsPlaced e
  all_placed e h = ⊎_elim (λ a. own_placed e a) (λ b. super_placed e b) (has-either e A S h)

  -- ---- each token is that of one

  all_there : (i : ℕ) → i < length its_methods → (x : ExportMethod) × Has x (A ++ S) × (x.token ≡ i)
  all_there i lt = ⊎_elim (λ r. there_at r.0 r.2 (declares c r.0) refl) (λ r. (let le = r.0
      in absurd (omega (arith, lt, le)))) (slice_get_cases its_methods i).1
    where
      there_at : (s : Signature) → slice_get its_methods i ≡ Some s → (b : Bool) → declares c s ≡ b → (x : ExportMethod)
          × Has x (A ++ S) × (x.token ≡ i)
      there_at s e true own =
          let r = declared_at methods s own in
          let start : is_initialiser (let m = r.1 in m.name) ≡ false = ap (λ (u : Signature). is_initialiser u.name) r.3
          ∙ signed_plain i s e in
          let signed : slice_get its_methods i ≡ Some (signature_of r.1) = e ∙ ap (λ (u : Signature). Some u) (sym r.3)
          in
          let shown : is_listed c r.1 ≡ true = is_shown_one r.1 start in (
            method_entry (tok (fields + r.0)) r.1,
            has-front (method_entry (tok (fields + r.0)) r.1) A S
                (listed_has p c fields methods r.0 r.1 r.2 shown),
            own_token r.0 r.1 i r.2 start signed,
          )
        where
          is_shown_one : (m : Member) → is_initialiser m.name ≡ false → is_listed c m ≡ true
          is_shown_one m e = on (let d = c in is_interface d.flags) (is_exposed m.flags) (is_initialiser m.name)
              interface e
            where
              on : (a b q : Bool) → a ≡ true → q ≡ false → ((a || b) && not q) ≡ true
              on true b false f g = refl
              on true b true f g = cc
              on false b q f g = cc
      there_at s e false own =
          let f = found_method w (acyclic list files judged p is) c named i s e in
          let row_is : slice_get its_row i ≡ Some (Some f.0) =
          slice_get-map (λ (u : Signature). method_of_interface w (let d = c in d.name) u.name u.desc) its_methods i
          ∙ ap (option_map (λ (u : Signature). method_of_interface w (let d = c in d.name) u.name u.desc)) e
          ∙ ap (λ q. Some q) f.1 in
          let s_is = super_of s f.0 (signed_plain i s e) f.1 in
          let z : 0 + i ≡ i = omega arith in (
            method_entry (0 + i) s_is.member,
            has-back (method_entry (0 + i) s_is.member) A S
                (supers_has w c 0 its_methods its_row i s f.0 s_is.member e row_is own s_is.meant),
            z,
          )

  many : length (A ++ S) ≡ length its_methods
  many = as_many (length its_methods) (A ++ S) all_differ (λ x h. let r = all_placed x h in let m = r.met
      in m.low) all_there

  -- ---- where no method of an interface is static but its initialiser

  module _ (bare : (d : Class) (k : ℕ) (m : Member) → class_named w d.name ≡ Some d → is_interface d.flags ≡ true
      → slice_get d.methods k ≡ Some m → is_initialiser m.name ≡ false → is_static m.flags ≡ false) where
    bound : (flags : ℕ) (name : List ℕ) → is_static flags ≡ false → not_special name ≡ Some name → is_unbound flags name
        ≡ false
    bound flags name e f = by (is_static flags) (is_constructor name) (is_initialiser name) e f
      where
        by : (s q i : Bool) → s ≡ false → (if q || i then None else Some name) ≡ Some name → (s || q) ≡ false
        by false false i g h = refl
        by false true i g h = cc
        by true q i g h = cc

    own_bound : (e : ExportMethod) → Has e A → is_unbound e.flags e.name ≡ false
    own_bound e h =
        let r = listed_in p c fields methods e h in
        let start = started r.member r.listed in
        let known_one = named_method list files judged p is (let u = t in u.name) c named r.member
        (get-has r.member methods r.place r.there) in
        let m = r.member in
        ap (λ (x : ExportMethod). is_unbound x.flags x.name) (sym r.is)
        ∙ bound m.flags m.name (bare c r.place m named interface r.there start) (plain_name m.name (known_one.1
        interface start) start)

    super_bound : (e : ExportMethod) → Has e S → is_unbound e.flags e.name ≡ false
    super_bound e h =
        let r = supers_in w c 0 its_methods its_row e h in
        let s = super_at_token r.place r.signature r.found r.wanted r.there in
        let both : Some s.member ≡ Some r.member = sym s.meant ∙ r.meant in
        let one : s.member ≡ r.member = cc in
        let m = s.member in
        ap (λ (x : ExportMethod). is_unbound x.flags x.name) (sym r.is)
        ∙ ap (λ (x : Member). is_unbound x.flags x.name) (sym one)
        ∙ bound m.flags m.name (bare s.class s.its_place m s.called s.kind s.declared_there s.start) s.plain

    -- no entry is static or a constructor
    pub none_unbound : (e : ExportMethod) → Has e (let x = export_class p c in x.methods) → is_unbound e.flags e.name
        ≡ false
    none_unbound e h = ⊎_elim (λ a. own_bound e a) (λ b. super_bound e b) (has-either e A S (subst (Has e) listed h))

  pub interface_stands : MethodsStand p c
  interface_stands =
      let le = few_methods in
      let all = many in
      let kind : is_interface (let e = export_class p c in e.flags) ≡ true = interface_kept (let d = c
      in d.flags) (is_shareable w c) ∙ interface in
      let long : length (let e = export_class p c in e.methods) ≡ length (A ++ S) = ap length listed in
      let count = length (let e = export_class p c in e.methods) in
      let stands : EachAfter (MethodStands true count) [] (A ++ S) =
      stand count [] (A ++ S) (λ m x h g. has_none m h) all_differ
      (λ x h. let r = all_placed x h in let m = r.met in let lt = m.low in record {
        fits = m.fits;
        low = omega (arith, lt, all, long);
        plain = m.plain;
      }) in
      let few : nat_lt 255 count ≡ false = (let z : count ≤ 128 = omega (arith, le, all, long)
      in grind (arith, nat_tests)) in
      record {
        methods = (let z : count < 2 ^ 16 = omega (arith, le, all, long) in z);
        count = ap (λ b. if is_interface (let e = export_class p c in e.flags) && b then None else Some count) few
            ∙ off (is_interface (let e = export_class p c in e.flags)) count;
        each = subst (λ b. EachAfter (MethodStands b count) [] (let e = export_class p c in e.methods)) (sym kind)
            (subst (λ xs. EachAfter (MethodStands true count) [] xs) (sym listed) stands);
      }
    where
      off : (b : Bool) (n : ℕ) → (if b && false then None else Some n) ≡ Some n
      off true n = refl
      off false n = refl

-- ---- all exported interfaces

pub interfaces_stand : (list : ListTree) (files : List (List ℕ)) (judged : Judged) (p : Package)
    → IsLaidOut list files judged p → ExportedInterfacesStand p
interfaces_stand list files judged p is place owner at kind =
    let own = own_class p place owner at in
    subst (MethodsStand p) (sym own.is) (interface_stands list files judged p is place owner at
    (ap (λ (d : Class). is_interface d.flags) (sym own.is) ∙ kind))
