-- The token of a method that an interface declares is its place among the interface's methods.
use Rattle.std.proofs.Common.{◌≡◌, ℕ, zero, suc, ◌+◌, ◌<◌, refl, sym, ap, subst, ◌∙◌, arith, Bool, true, false}
use Rattle.std.proofs.Common.{List, [], ◌∷◌, ◌++◌, length, map}
use Rattle.std.specs.Prelude.{◌==◌, ◌&&◌, ◌||◌, not, nat_lt, Some, None, option_and_then, option_map, position}
use Rattle.std.specs.Prelude.{slice_get, if◌then◌else◌, codes}
use Rattle.std.specs.List.{AllByRecursion, IsDistinct, list_any}
use Rattle.std.specs.Str.{bytes_eq}
use Rattle.std.proofs.lemmas.Bool.{eqb-true}
use Rattle.std.proofs.lemmas.Bool.Decides.{nat_tests}
use Rattle.std.proofs.lemmas.List.{length-map}
use Rattle.std.proofs.lemmas.Option.{slice_get-map}
use Rattle.std.proofs.lemmas.Slice.Eq.{bytes_eq-Decides}
use Rattle.cjc_bytes.specs.AccessFlags.{is_interface}
use Rattle.cjc_bytes.specs.declared.fault.MemberId.{MemberId}
use Rattle.cjc_bytes.proofs.Gets.{in_front, get_behind, at_end}
use Rattle.cjc_world.specs.ClassFile.declared.tree.ClassTree.{ClassTree}
use Rattle.cjc_world.specs.ExportFile.Members.{interface_token_taken, not_special}
use Rattle.cjc_world.specs.ExportFile.Members as export_members
use Rattle.cjc_world.specs.ExportFile.Writable.{ClassFits, EachAfter, IsWritable, MethodStands}
use Rattle.cjc_world.specs.ExportFile.declared.tree.ExportClass.{ExportClass}
use Rattle.cjc_world.specs.ExportFile.declared.tree.ExportMethod.{ExportMethod}
use Rattle.cjc_world.specs.ExportFile.declared.tree.ExportTree.{ExportTree}
use Rattle.cjc_shape.proofs.JudgedLaws.Called.{IsDeclared}
use Rattle.cjc_shape.proofs.JudgedLaws.Owners.{IsOwn}
use Rattle.cjc_shape.proofs.JudgedLaws.Tokens.{listed_at, import_token}
use Rattle.cjc_narrow_proof.proofs.LawsLaws.Own.{first_here}
use Rattle.cjc_shape.specs.Pool.Pool.{token_of}
use Rattle.cjc_classes.specs.Subset.Members.{imports}
use Rattle.cjc_tokens.proofs.Means.{kept-at}
use Rattle.cjc_tokens.specs.Fields.{field_tokens}
use Rattle.cjc_tokens.specs.Lines.{line_at}
use Rattle.cjc_tokens.specs.Members.{Signature, is_initialiser, same, signature_of}
use Rattle.cjc_tokens.specs.Methods.{class_method_tokens, interface_methods, interface_token}
use Rattle.cjc_tokens.specs.Slots.{hidden_slots, shown_token}
use Rattle.cjc_tokens.specs.Tokens.{assigned, joined}
use Rattle.cjc_tokens.specs.Tokens.{method_tokens, token_of_member}
use Rattle.cjc_vtable.proofs.Filed.{IsFiled, filed, get-has, has-get, in_class_file}
use Rattle.cjc_vtable.proofs.Filed.{in_export_file, of-imports}
use Rattle.cjc_vtable.proofs.Read.{each-after}
use Rattle.cjc_world.specs.Added.{added, own_methods}
use Rattle.cjc_world.specs.Classes.{Class, Member, all_classes, class_named, declared, field_of_class}
use Rattle.cjc_world.specs.Classes.{imported, method_of_export}
use Rattle.cjc_world.specs.Exported.{is_exported}
use Rattle.cjc_world.specs.Files.{Files}
use Rattle.cjc_world.specs.Lookup.{is_called}
use Rattle.cjc_world.specs.Rules.{breaks, is_twice}
use Rattle.cjc_world.specs.declared.found.Found.{Found}
use Rattle.cjc_shape_proof.proofs.WrittenLaws.WholeLaws.ByToken.{only_one, place_is_token, token_is_place}
use Rattle.cjc_shape_proof.proofs.WrittenLaws.WholeLaws.Once.{once}
use Rattle.cjc_classes.proofs.KeyTokens.Kept.{fields_long}

-- ---- methods of an interface of an export file

abbrev token_list : List ExportMethod → List ℕ
token_list ms = map (λ m. m.token) (map method_of_export ms)

module _ (count : ℕ) where
  new_token : (before : List ExportMethod) (t : ℕ) → export_members.interface_token count before t ≡ Some t
      → (t < count) × (interface_token_taken before t ≡ false)
  new_token before t e = by (nat_lt t count) (interface_token_taken before t) refl refl e
    where
      by : (a b : Bool) → nat_lt t count ≡ a → interface_token_taken before t ≡ b
          → (if a && not b then Some t else None) ≡ Some t → (t < count) × (interface_token_taken before t ≡ false)
      by true false f g e = (grind (arith, nat_tests, f), g)
      by true true f g e = cc
      by false b f g e = cc

  not_taken : (before : List ExportMethod) (t k : ℕ) (b : ExportMethod) → interface_token_taken before t ≡ false
      → slice_get before k ≡ Some b → (b.token == t) ≡ false
  not_taken [] t k b e f = cc
  not_taken (x ∷ before) t zero b e f = let is : x ≡ b = cc in ap (λ (y : ExportMethod). y.token == t) (sym is)
      ∙ by (x.token == t) e
    where
      by : (a : Bool) → (a || interface_token_taken before t) ≡ false → a ≡ false
      by true e = cc
      by false e = refl
  not_taken (x ∷ before) t (suc k) b e f = not_taken before t k b (by (x.token == t) e) f
    where
      by : (a : Bool) → (a || interface_token_taken before t) ≡ false → interface_token_taken before t ≡ false
      by true e = cc
      by false e = e

  later_apart : (before rest : List ExportMethod) (b : ExportMethod) (k : ℕ) → slice_get before k ≡ Some b
      → EachAfter (MethodStands true count) before rest → AllByRecursion (λ t. (b.token == t) ≡ false) (token_list rest)
  later_apart before [] b k e h = tt
  later_apart before (y ∷ rest) b k e h =
      let n = new_token before y.token h.0.1 in (
        not_taken before y.token k b n.1 e,
        later_apart (before ++ y ∷ []) rest b k (in_front before (y ∷ []) k b e)
            h.1,
      )

  tokens_apart : (before rest : List ExportMethod) → EachAfter (MethodStands true count) before rest
      → IsDistinct (λ s t. s == t) (token_list rest)
  unfolding IsDistinct
  tokens_apart before [] h = tt
  tokens_apart before (y ∷ rest) h = (
    later_apart (before ++ y ∷ []) rest y (length before) (at_end before y) h.1,
    tokens_apart (before ++ y ∷ []) rest h.1,
  )

  tokens_low : (before rest : List ExportMethod) → EachAfter (MethodStands true count) before rest → (q : ℕ)
      → list_any (λ x. q == x) (token_list rest) ≡ true → q < count
  tokens_low before [] h q e = cc
  tokens_low before (y ∷ rest) h q e = by (q == y.token) refl e (tokens_low (before ++ y ∷ []) rest h.1 q)
    where
      by : (a : Bool) → (q == y.token) ≡ a → (a || list_any (λ x. q == x) (token_list rest)) ≡ true
          → (list_any (λ x. q == x) (token_list rest) ≡ true → q < count) → q < count
      by true f g more = let is = eqb-true q y.token f in let low = (new_token before y.token h.0.1).0
          in omega (arith, is, low)
      by false f g more = more g

  names_plain : (before rest : List ExportMethod) → EachAfter (MethodStands true count) before rest
      → (i : ℕ) (x : Member) → slice_get (map method_of_export rest) i ≡ Some x → bytes_eq x.name (codes "<clinit>")
      ≡ false
  names_plain before [] h i x e = cc
  names_plain before (y ∷ rest) h zero x e = let is : method_of_export y ≡ x = cc
      in subst (λ (m : Member). bytes_eq m.name (codes "<clinit>") ≡ false) is (by (bytes_eq y.name (codes "<clinit>"))
      refl)
    where
      by : (b : Bool) → bytes_eq y.name (codes "<clinit>") ≡ b → b ≡ false
      by false f = refl
      by true f =
          let none : not_special y.name ≡ None = ap not_special ((bytes_eq-Decides y.name (codes "<clinit>")).0 f) in
          let some = h.0.2 in
          cc
  names_plain before (y ∷ rest) h (suc i) x e = names_plain (before ++ y ∷ []) rest h.1 i x e

-- two methods that are apart are at two places
one_place : (ms : List Member) → ((k : ℕ) (m : Member) → slice_get ms k ≡ Some m → is_twice ms k m.name m.desc ≡ false)
    → (i j : ℕ) (x y : Member) → slice_get ms i ≡ Some x → slice_get ms j ≡ Some y → x.name ≡ y.name → x.desc ≡ y.desc
    → i ≡ j
unfolding is_twice
one_place ms apart i j x y e f names descs =
    let own = λ (m : Member). is_called m.name m.desc m in
    let at = first_here (λ k. is_called x.name x.desc k) ms i x e (itself x) (apart i x e) in
    let there = first_here (λ k. is_called y.name y.desc k) ms j y f (itself y) (apart j y f) in
    let same_test : position (λ k. is_called x.name x.desc k) ms ≡ position (λ k. is_called y.name y.desc k) ms =
    ap (λ n. position (λ k. is_called n x.desc k) ms) names ∙ ap (λ d. position (λ k. is_called y.name d k) ms) descs in
    let both : Some i ≡ Some j = sym at ∙ same_test ∙ there in
    cc
  where
    itself : (m : Member) → is_called m.name m.desc m ≡ true
    itself m = ap (λ b. b && bytes_eq m.desc m.desc) ((bytes_eq-Decides m.name m.name).1 refl)
        ∙ (bytes_eq-Decides m.desc m.desc).1 refl

-- ---- tokens of members

module _ (list : List ℕ) (files : Files) (unbroken : breaks list files ≡ []) (writable : (e : ℕ) (t : ExportTree)
    → slice_get files.exports e ≡ Some t → IsWritable t) (applets : Bool) where
  abbrev w : List Class
  w = all_classes files

  in_package : (n : ℕ) (c : ClassTree) → slice_get files.classes n ≡ Some c → (name desc : List ℕ) (f : Found)
      → (own : IsOwn (declared n c) name desc f) → is_interface c.flags ≡ true → is_initialiser name ≡ false
      → token_of_member (assigned applets files) f ≡ position (λ s. same s (signature_of own.member))
      (interface_methods w (declared n c))
  in_package n c there name desc f own interface plain =
      let d = declared n c in
      let i = own.place in
      let kept = kept-at files applets n c there in
      let exported = is_exported w applets d in
      let fields = field_tokens exported c.fields 0 c.fields in
      let methods = method_tokens w exported d in
      let listed = map (interface_token (interface_methods w d)) d.methods in
      let counted : length d.fields ≡ length fields = length-map c.fields field_of_class
      ∙ sym (fields_long exported c.fields 0 c.fields) in
      ap (token_of_member (assigned applets files)) own.is_place
      ∙ ap (option_and_then (λ k. joined (slice_get k.members (length d.fields + i)))) kept.1
      ∙ ap (λ k. joined (slice_get (fields ++ methods) (k + i))) counted
      ∙ ap joined (get_behind fields methods i)
      ∙ ap (λ b. joined (slice_get (if b then listed else class_method_tokens exported (shown_token (line_at w d))
      (hidden_slots (line_at w d)) d.methods 0 d.methods ++ map (λ m. shown_token (line_at w d) (signature_of m))
      (added w d)) i)) interface
      ∙ ap joined (slice_get-map (interface_token (interface_methods w d)) d.methods i)
      ∙ ap (λ o. joined (option_map (interface_token (interface_methods w d)) o)) own.is_member
      ∙ ap (λ b. if b then None else position (λ s. same s (signature_of own.member)) (interface_methods w d))
      (ap is_initialiser own.has_name ∙ plain)

  -- the place in an interface of an export file
  pub place_there : (n : ℕ) (c : ExportClass) → slice_get (imports files.exports) n ≡ Some c → class_named w c.name
      ≡ Some (imported n c) → is_interface c.flags ≡ true
      → (i : ℕ) (m : Member) → slice_get (map method_of_export c.methods) i ≡ Some m
      → position (λ s. same s (signature_of m)) (interface_methods w (imported n c)) ≡ Some m.token
  unfolding interface_methods own_methods
  place_there n c there named interface i m e =
      let tree = of-imports c files.exports (get-has c (imports files.exports) n there) in
      let place = has-get tree.0 files.exports tree.1 in
      let fits = each-after ClassFits [] (let t = tree.0 in t.classes) c (writable place.0 tree.0 place.1).classes
      tree.2 in
      let stands : EachAfter (MethodStands true (length c.methods)) [] c.methods =
      subst (λ b. EachAfter (MethodStands b (length c.methods)) [] c.methods) interface fits.1.methods in
      let count : length (map method_of_export c.methods) ≡ length c.methods = length-map c.methods method_of_export in
      place_is_token (map method_of_export c.methods) (tokens_apart (length c.methods) [] c.methods stands)
      (λ q h. let low = tokens_low (length c.methods) [] c.methods stands q h in subst (λ k. q < k) (sym count) low)
      (one_place (map method_of_export c.methods) (once list files unbroken c.name (imported n c) named))
      (names_plain (length c.methods) [] c.methods stands) i m e

  -- A method of an interface of an export file that stands at a place, by the export file.
  pub record StandsThere (c : ExportClass) (t : ℕ) (s : Signature) : Type 0 where
    pub place : ℕ
    pub method : ExportMethod
    pub there : slice_get c.methods place ≡ Some method
    pub token : method.token ≡ t
    pub signature : signature_of (method_of_export method) ≡ s
    pub no_constructor : bytes_eq method.name (codes "<init>") ≡ false
    pub only_one : (j : ℕ) (z : ExportMethod) → slice_get c.methods j ≡ Some z → z.token ≡ t
        → method_of_export z ≡ method_of_export method

  pub method_there : (n : ℕ) (c : ExportClass) → slice_get (imports files.exports) n ≡ Some c → class_named w c.name
      ≡ Some (imported n c) → is_interface c.flags ≡ true
      → (t : ℕ) (s : Signature) → slice_get (interface_methods w (imported n c)) t ≡ Some s → StandsThere c t s
  unfolding interface_methods own_methods
  method_there n c there named interface t s e =
      let tree = of-imports c files.exports (get-has c (imports files.exports) n there) in
      let place = has-get tree.0 files.exports tree.1 in
      let fits = each-after ClassFits [] (let t = tree.0 in t.classes) c (writable place.0 tree.0 place.1).classes
      tree.2 in
      let stands : EachAfter (MethodStands true (length c.methods)) [] c.methods =
      subst (λ b. EachAfter (MethodStands b (length c.methods)) [] c.methods) interface fits.1.methods in
      let count : length (map method_of_export c.methods) ≡ length c.methods = length-map c.methods method_of_export in
      let ms = map method_of_export c.methods in
      let apart = tokens_apart (length c.methods) [] c.methods stands in
      let low : (q : ℕ) → list_any (λ x. q == x) (map (λ (m : Member). m.token) ms) ≡ true → q < length ms =
      λ q h. let low = tokens_low (length c.methods) [] c.methods stands q h in subst (λ k. q < k) (sym count) low in
      let once_each = one_place ms (once list files unbroken c.name (imported n c) named) in
      let plain = names_plain (length c.methods) [] c.methods stands in
      let r = token_is_place ms apart low once_each plain t s e in
      let y = listed_at c.methods r.0 r.1 r.2 in
      record {
        place = r.0;
        method = y.0;
        there = y.1;
        token = ap (λ (x : Member). x.token) y.2 ∙ r.3;
        signature = ap signature_of y.2 ∙ r.4;
        no_constructor = (let one = each-after (MethodStands true (length c.methods)) [] c.methods y.0 stands
            (get-has y.0 c.methods r.0 y.1) in no_constructor y.0.name one.1.2);
        only_one = λ j z f g. only_one ms apart low once_each plain j r.0 (method_of_export z) (method_of_export y.0)
            (slice_get-map method_of_export c.methods j ∙ ap (option_map method_of_export) f)
            (slice_get-map method_of_export c.methods r.0 ∙ ap (option_map method_of_export) y.1) (g
            ∙ sym (ap (λ (x : Member). x.token) y.2 ∙ r.3));
      }
    where
      no_constructor : (name : List ℕ) → not_special name ≡ Some name → bytes_eq name (codes "<init>") ≡ false
      no_constructor name e = by (bytes_eq name (codes "<init>")) refl
        where
          by : (b : Bool) → bytes_eq name (codes "<init>") ≡ b → b ≡ false
          by false f = refl
          by true f = (let none : not_special name ≡ None = ap not_special ((bytes_eq-Decides name (codes "<init>")).0
              f) in cc)

  of_owner : (o : Class) → IsFiled files o → class_named w o.name ≡ Some o
      → (name desc : List ℕ) (f : Found) (own : IsOwn o name desc f) → is_interface o.flags ≡ true
      → is_initialiser name ≡ false
      → (t : ℕ) → token_of_member (assigned applets files) f ≡ Some t → position (λ s. same s (signature_of own.member))
      (interface_methods w o) ≡ Some t
  of_owner o (in_class_file n c there) named name desc f own interface plain t e =
      sym (in_package n c there name desc f own interface plain) ∙ e
  of_owner o (in_export_file n c there) named name desc f own interface plain t e =
      place_there n c there named interface own.place own.member own.is_member
      ∙ sym (import_token files applets n c there name desc f own plain) ∙ e

  -- so the token of a method that an interface declares is its place there
  pub declared_place : (id : MemberId) (d : IsDeclared files id) (t : ℕ) → token_of files (assigned applets files) id
      ≡ Some t
      → (o : Class) × (class_named w id.class ≡ Some o)
      × (position (λ s. same s (record { name = id.name; desc = id.desc })) (interface_methods w o) ≡ Some t)
  declared_place id d t e =
      let o = d.owner in
      let own = d.own in
      let token : token_of_member (assigned applets files) d.at ≡ Some t =
      sym (ap (option_and_then (token_of_member (assigned applets files))) d.found) ∙ e in
      let signature : signature_of own.member ≡ record { name = id.name; desc = id.desc } =
      signatures own.member id own.has_name own.has_desc in (
        o,
        ap (class_named w) d.by_owner ∙ d.named,
        ap (λ x. position (λ s. same s x) (interface_methods w o)) (sym signature)
            ∙ of_owner o (filed files o.name o d.named) d.named id.name id.desc d.at own d.interface d.plain t token,
      )
    where
      signatures : (m : Member) (id : MemberId) → m.name ≡ id.name → m.desc ≡ id.desc
          → ◌≡◌ {A = Signature} (record { name = m.name; desc = m.desc }) (record { name = id.name; desc = id.desc })
      signatures m id e f = ap (λ n. record { name = n; desc = m.desc }) e
          ∙ ap (λ x. record { name = id.name; desc = x }) f
