-- Each method of an interface has a token of one byte.
use Rattle.std.proofs.Common.{◌≡◌, ℕ, zero, suc, ◌+◌, ◌<◌, ◌≤◌, refl, sym, ap, subst, ◌∙◌, arith, Bool, true, false}
use Rattle.std.proofs.Common.{List, [], ◌∷◌, ◌++◌, length, map}
use Rattle.std.specs.Prelude.{◌||◌, ◌&&◌, Some, None, option_and_then, option_map, position, slice_get}
use Rattle.std.specs.Prelude.{count_by, nat_lt, if◌then◌else◌}
use Rattle.std.specs.List.{Contains}
use Rattle.std.proofs.lemmas.Bool.{ltb-false}
use Rattle.std.proofs.lemmas.List.{length-map, map-append}
use Rattle.std.proofs.lemmas.List.Elements.{Contains-append_right}
use Rattle.std.proofs.lemmas.List.Quantifiers.{position-Some}
use Rattle.std.proofs.lemmas.Option.{slice_get-map}
use Rattle.cjc_exported.specs.Bytes.AccessFlags.{is_interface}
use Rattle.cjc_exported.specs.Bytes.Breaks.{Break}
use Rattle.cjc_exported.specs.Bytes.Order.{file_of}
use Rattle.cjc_exported.specs.Bytes.declared.settings.FileLine.{FileLine}
use Rattle.cjc_exported.specs.ClassFile.declared.tree.ClassTree.{ClassTree}
use Rattle.cjc_exported.specs.ClassFile.declared.tree.FieldTree.{FieldTree}
use Rattle.cjc_narrow_proof.specs.ExportFile.Writable.{ClassFits, IsWritable, MethodFits, MethodStands}
use Rattle.cjc_narrow_proof.specs.ExportFile.declared.tree.ExportClass.{ExportClass}
use Rattle.cjc_narrow_proof.specs.ExportFile.declared.tree.ExportMethod.{ExportMethod}
use Rattle.cjc_narrow_proof.specs.ExportFile.declared.tree.ExportTree.{ExportTree}
use Rattle.cjc_methods.specs.Subset.Members.{imports}
use Rattle.cjc_methods.proofs.TokensMeant.{has_token}
use Rattle.cjc_methods.proofs.TokensFacts.{position-cons, same-refl}
use Rattle.cjc_methods.proofs.TokensMeans.{kept-at}
use Rattle.cjc_methods.specs.Tokens.Fields.{field_tokens, is_open_static}
use Rattle.cjc_methods.specs.Tokens.Lines.{line_at}
use Rattle.cjc_methods.specs.Tokens.Members.{is_initialiser, same, signature_of}
use Rattle.cjc_methods.specs.Tokens.Methods.{class_method_tokens, interface_methods, interface_token, is_open_bound}
use Rattle.cjc_methods.specs.Tokens.Rules.{at_class, breaks_from, breaks_where, has_high_method, has_high_token}
use Rattle.cjc_methods.specs.Tokens.Rules.{token_breaks}
use Rattle.cjc_methods.specs.Tokens.Slots.{hidden_slots, shown_token}
use Rattle.cjc_methods.specs.Tokens.Tokens.{assigned, imports_of, joined, listed_field_token, listed_method_token}
use Rattle.cjc_methods.specs.Tokens.Tokens.{method_tokens, of_import, token_of_member}
use Rattle.cjc_narrow_proof.proofs.VTableFiled.{Has, IsFiled, filed, get-has, has-get, in_class_file}
use Rattle.cjc_narrow_proof.proofs.VTableFiled.{in_export_file, of-imports}
use Rattle.cjc_exported.specs.World.Added.{added, asked_by, own_methods, without_initialiser}
use Rattle.cjc_exported.specs.World.Classes.{Class, Member, all_classes, class_named, declared, field_of_class}
use Rattle.cjc_exported.specs.World.Classes.{field_of_export}
use Rattle.cjc_exported.specs.World.Classes.{imported, method_of_export}
use Rattle.cjc_exported.specs.World.Exported.{is_exported}
use Rattle.cjc_exported.specs.World.Files.{Files}
use Rattle.cjc_exported.specs.World.Supertypes.{supertypes}
use Rattle.cjc_exported.specs.World.declared.found.Found.{Found}
use Rattle.cjc_exported.specs.Fixpoint.Working.Edges.{contains_head, contains_tail}
use Rattle.cjc_shape.proofs.JudgedLaws.Owners.{IsOwn}
use Rattle.cjc_methods.proofs.BytesLists.{none_left, none_right}
use Rattle.cjc_methods.proofs.BytesBools.{or_left}
use Rattle.cjc_methods.proofs.BytesGets.{get_behind}
use Rattle.cjc_narrow_proof.proofs.VTableRead.{each-after}

-- ---- lists

-- an item that passes is found, or one before it
passing : {A : Type 0} (p : A → Bool) (xs : List A) (k : ℕ) (x : A) → slice_get xs k ≡ Some x → p x ≡ true → (i : ℕ)
    × (position p xs ≡ Some i)
passing p [] k x e is = cc
passing p (y ∷ xs) zero x e is = let same_item : y ≡ x = cc in (
  0,
  position-cons p y xs ∙ ap (λ b. if b then Some 0
      else option_map suc (position p xs)) (ap p same_item ∙ is),
)
passing p (y ∷ xs) (suc k) x e is = let r = passing p xs k x e is in let s = by (p y) r in (
  s.0,
  position-cons p y xs
      ∙ s.1,
)
  where
    by : (b : Bool) → (i : ℕ) × (position p xs ≡ Some i) → (i : ℕ)
        × ((if b then Some 0 else option_map suc (position p xs)) ≡ Some i)
    by true r = (0, refl)
    by false r = (suc r.0, ap (option_map suc) r.1)

-- ---- a class of the package

fields_counted : (exported : Bool) (fs : List FieldTree) (i : ℕ) (rest : List FieldTree)
    → length (field_tokens exported fs i rest) ≡ length rest
unfolding field_tokens
fields_counted exported fs i [] = refl
fields_counted exported fs i (f ∷ rest) = ap suc (fields_counted exported fs (i + 1) rest)

pub unbroken_where : (b : Bool) (x : Break) → breaks_where b x ≡ [] → b ≡ false
unbroken_where false x e = refl
unbroken_where true x e = cc

module _ (w : List Class) (applets : Bool) (lines : List FileLine) where
  -- no class has a token that is too high
  none_high : (k : ℕ) (cs : List ClassTree) (n : ℕ) (c : ClassTree) → breaks_from w applets lines k cs ≡ []
      → slice_get cs n ≡ Some c → has_high_token w (is_exported w applets (declared (k + n) c)) (k + n) c ≡ false
  unfolding breaks_from
  none_high k [] n c e f = cc
  none_high k (d ∷ cs) zero c e f =
      let m : k + 0 ≡ k = omega arith in
      let is : d ≡ c = cc in
      ap (λ i. has_high_token w (is_exported w applets (declared i c)) i c) m
      ∙ sym (ap (λ x. has_high_token w (is_exported w applets (declared k x)) k x) is)
      ∙ unbroken_where (has_high_token w (is_exported w applets (declared k d)) k d) (at_class (file_of lines k) d.name)
      (none_left _ (breaks_from w applets lines (k + 1) cs) e)
  none_high k (d ∷ cs) (suc n) c e f =
      let m : k + suc n ≡ k + 1 + n = omega arith in
      ap (λ i. has_high_token w (is_exported w applets (declared i c)) i c) m
      ∙ none_high (k + 1) cs n c (none_right (breaks_where (has_high_token w (is_exported w applets (declared k d)) k d)
      (at_class (file_of lines k) d.name)) _ e) f

module _ (files : Files) (applets : Bool) (unbroken : token_breaks applets files ≡ []) where
  abbrev w : List Class
  w = all_classes files

  few_methods : (n : ℕ) (c : ClassTree) → slice_get files.classes n ≡ Some c → is_interface c.flags ≡ true
      → length (interface_methods w (declared n c)) ≤ 128
  unfolding token_breaks has_high_token
  few_methods n c there interface =
      let m : 0 + n ≡ n = omega arith in
      let exported = is_exported w applets (declared n c) in
      let low : has_high_token w exported n c ≡ false =
      sym (ap (λ i. has_high_token w (is_exported w applets (declared i c)) i c) m)
      ∙ none_high w applets files.lines 0 files.classes n c unbroken there in
      let own = or_left (if is_interface c.flags then nat_lt 128 (length (interface_methods w (declared n c)))
      else (has_high_method w (declared n c)
      || (exported && nat_lt 255 (count_by is_open_bound (declared n c).methods)))) (exported
      && nat_lt 255 (count_by is_open_static c.fields)) low in
      ltb-false 128 (length (interface_methods w (declared n c)))
      (sym (ap (λ b. if b then nat_lt 128 (length (interface_methods w (declared n c)))
      else (has_high_method w (declared n c)
      || (exported && nat_lt 255 (count_by is_open_bound (declared n c).methods)))) interface) ∙ own)

  -- the token of a method of an interface of the package
  own_token : (n : ℕ) (c : ClassTree) → slice_get files.classes n ≡ Some c → is_interface c.flags ≡ true
      → (i : ℕ) (m : Member) → slice_get (declared n c).methods i ≡ Some m → is_initialiser m.name ≡ false
      → (t : ℕ) × (interface_token (interface_methods w (declared n c)) m ≡ Some t) × (t < 256)
  unfolding own_methods
  own_token n c there interface i m e plain =
      let listed = has_token w (declared n c) m (asked i m e plain) in
      let r = passing (λ s. same s (signature_of m)) (interface_methods w (declared n c)) listed.0 (signature_of m)
      listed.1 (same-refl (signature_of m)) in
      let few = few_methods n c there interface in
      let within = (position-Some (λ s. same s (signature_of m)) (interface_methods w (declared n c)) r.0
      (signature_of m) r.1).0 in (
        r.0,
        ap (λ b. if b then None else position (λ s. same s (signature_of m)) (interface_methods w (declared n c)))
            plain ∙ r.1,
        omega (arith, few, within),
      )
    where
      kept : (ms : List Member) (i : ℕ) (m : Member) → slice_get ms i ≡ Some m → is_initialiser m.name ≡ false
          → Contains (without_initialiser ms) m
      kept [] i m e plain = cc
      kept (x ∷ ms) zero m e plain =
          let is : x ≡ m = cc in
          subst (λ b. Contains (if b then without_initialiser ms else x ∷ without_initialiser ms) m)
          (sym (ap (λ (y : Member). is_initialiser y.name) is ∙ plain))
          (subst (λ y. Contains (x ∷ without_initialiser ms) y) is (contains_head x (without_initialiser ms)))
      kept (x ∷ ms) (suc i) m e plain = by (is_initialiser x.name) (kept ms i m e plain)
        where
          by : (b : Bool) → Contains (without_initialiser ms) m → Contains (if b then without_initialiser ms
              else x ∷ without_initialiser ms) m
          by true h = h
          by false h = contains_tail x (without_initialiser ms) m h

      asked : (i : ℕ) (m : Member) → slice_get (declared n c).methods i ≡ Some m → is_initialiser m.name ≡ false
          → Contains (asked_by (supertypes w (c.superclass ∷ [])) (supertypes w c.interfaces)
          ++ own_methods (declared n c)) m
      asked i m e plain = Contains-append_right (asked_by (supertypes w (c.superclass ∷ []))
          (supertypes w c.interfaces)) (without_initialiser (declared n c).methods) m (kept (declared n c).methods i m e
          plain)

  -- the same of its place among all that the class has
  in_package : (n : ℕ) (c : ClassTree) → slice_get files.classes n ≡ Some c → (name desc : List ℕ) (f : Found)
      → IsOwn (declared n c) name desc f → is_interface c.flags ≡ true → is_initialiser name ≡ false
      → (t : ℕ) × (token_of_member (assigned applets files) f ≡ Some t) × (t < 256)
  in_package n c there name desc f own interface plain =
      let d = declared n c in
      let i = own.place in
      let kept = kept-at files applets n c there in
      let exported = is_exported w applets d in
      let fields = field_tokens exported c.fields 0 c.fields in
      let methods = method_tokens w exported d in
      let listed = map (interface_token (interface_methods w d)) d.methods in
      let counted : length d.fields ≡ length fields = length-map c.fields field_of_class
      ∙ sym (fields_counted exported c.fields 0 c.fields) in
      let one = own_token n c there interface i own.member own.is_member (ap is_initialiser own.has_name ∙ plain) in (
        one.0,
        ap (token_of_member (assigned applets files)) own.is_place
            ∙ ap (option_and_then (λ k. joined (slice_get k.members (length d.fields + i)))) kept.1
            ∙ ap (λ k. joined (slice_get (fields ++ methods) (k + i))) counted
            ∙ ap joined (get_behind fields methods i)
            ∙ ap (λ b. joined (slice_get (if b then listed else class_method_tokens exported (shown_token (line_at w d))
            (hidden_slots (line_at w d)) d.methods 0 d.methods
            ++ map (λ m. shown_token (line_at w d) (signature_of m)) (added w d)) i)) interface
            ∙ ap joined (slice_get-map (interface_token (interface_methods w d)) d.methods i)
            ∙ ap (λ o. joined (option_map (interface_token (interface_methods w d)) o)) own.is_member
            ∙ one.1,
        one.2,
      )

-- ---- a class of an export file

pub imports_are : (ts : List ExportTree) → imports_of ts ≡ map of_import (imports ts)
imports_are [] = refl
imports_are (t ∷ ts) = ap (λ rows. map of_import t.classes ++ rows) (imports_are ts)
    ∙ sym (map-append of_import t.classes (imports ts))

pub method_fits : (interface : Bool) (count : ℕ) (before : List ExportMethod) (m : ExportMethod)
    → MethodStands interface count before m → MethodFits m
method_fits true count before m h = h.0
method_fits false count before m h = h.0

small_token : (t : ExportTree) (c : ExportClass) (m : ExportMethod) → IsWritable t → Has c t.classes → Has m c.methods
    → m.token < 256
small_token t c m writable in_tree in_class =
    let class = each-after ClassFits [] t.classes c writable.classes in_tree in
    let stands = each-after (MethodStands (is_interface c.flags) (length c.methods)) [] c.methods m class.1.methods
    in_class in
    (method_fits (is_interface c.flags) (length c.methods) stands.0 m stands.1).token

pub listed_at : (ms : List ExportMethod) (i : ℕ) (m : Member) → slice_get (map method_of_export ms) i ≡ Some m
    → (x : ExportMethod) × (slice_get ms i ≡ Some x) × (method_of_export x ≡ m)
listed_at [] i m e = cc
listed_at (x ∷ ms) zero m e = (x, refl, cc)
listed_at (x ∷ ms) (suc i) m e = listed_at ms i m e

-- a method of an export file has the token that its file gives it
module _ (files : Files) (applets : Bool) where
  pub import_token : (n : ℕ) (c : ExportClass) → slice_get (imports files.exports) n ≡ Some c
      → (name desc : List ℕ) (f : Found) → (own : IsOwn (imported n c) name desc f) → is_initialiser name ≡ false
      → token_of_member (assigned applets files) f ≡ (let m = own.member in Some m.token)
  unfolding assigned
  import_token n c there name desc f own plain =
      let d = imported n c in
      let i = own.place in
      let fields = map listed_field_token c.fields in
      let methods = map listed_method_token c.methods in
      let counted : length d.fields ≡ length fields = length-map c.fields field_of_export
      ∙ sym (length-map c.fields listed_field_token) in
      let kept : slice_get (imports_of files.exports) n ≡ Some (of_import c) =
      ap (λ rows. slice_get rows n) (imports_are files.exports) ∙ slice_get-map of_import (imports files.exports) n
      ∙ ap (option_map of_import) there in
      let m = listed_at c.methods i own.member own.is_member in
      let named : is_initialiser m.0.name ≡ false = ap (λ (x : Member). is_initialiser x.name) m.2
      ∙ ap is_initialiser own.has_name ∙ plain in
      ap (token_of_member (assigned applets files)) own.is_place
      ∙ ap (option_and_then (λ k. joined (slice_get k (length d.fields + i)))) kept
      ∙ ap (λ k. joined (slice_get (fields ++ methods) (k + i))) counted
      ∙ ap joined (get_behind fields methods i)
      ∙ ap joined (slice_get-map listed_method_token c.methods i)
      ∙ ap (λ o. joined (option_map listed_method_token o)) m.1
      ∙ ap (λ b. if b then None else Some m.0.token) named
      ∙ ap (λ (x : Member). Some x.token) m.2

module _ (files : Files) (applets : Bool) (writable : (e : ℕ) (t : ExportTree) → slice_get files.exports e ≡ Some t
    → IsWritable t) where
  in_export : (n : ℕ) (c : ExportClass) → slice_get (imports files.exports) n ≡ Some c
      → (name desc : List ℕ) (f : Found) → IsOwn (imported n c) name desc f → is_initialiser name ≡ false
      → (t : ℕ) × (token_of_member (assigned applets files) f ≡ Some t) × (t < 256)
  in_export n c there name desc f own plain =
      let m = listed_at c.methods own.place own.member own.is_member in
      let tree = of-imports c files.exports (get-has c (imports files.exports) n there) in
      let place = has-get tree.0 files.exports tree.1 in (
        m.0.token,
        import_token files applets n c there name desc f own plain ∙ ap (λ (x : Member). Some x.token) (sym m.2),
        small_token tree.0 c m.0 (writable place.0 tree.0 place.1) tree.2 (get-has m.0 c.methods own.place m.1),
      )

-- ---- any class

module _ (files : Files) (applets : Bool) (unbroken : token_breaks applets files ≡ [])
    (writable : (e : ℕ) (t : ExportTree) → slice_get files.exports e ≡ Some t → IsWritable t) where
  pub interface_tokens : (d : Class) → class_named (all_classes files) d.name ≡ Some d
      → (name desc : List ℕ) (f : Found) → IsOwn d name desc f → is_interface d.flags ≡ true
      → is_initialiser name ≡ false
      → (t : ℕ) × (token_of_member (assigned applets files) f ≡ Some t) × (t < 256)
  interface_tokens d named name desc f own interface plain = by d (filed files d.name d named) own interface
    where
      by : (d : Class) → IsFiled files d → IsOwn d name desc f → is_interface d.flags ≡ true → (t : ℕ)
          × (token_of_member (assigned applets files) f ≡ Some t) × (t < 256)
      by d (in_class_file n c there) own interface = in_package files applets unbroken n c there name desc f own
          interface plain
      by d (in_export_file n c there) own interface = in_export files applets writable n c there name desc f own plain
