-- Where 413 is not broken, class tables and interface maps have few entries.
use Rattle.std.proofs.Common.{◌≡◌, ℕ, zero, suc, ◌+◌, ◌≤◌, refl, sym, ap, subst, ◌∙◌, arith, Bool, true, false, not}
use Rattle.std.proofs.Common.{List, [], ◌∷◌, ◌++◌, length, map, drop, length-append, length-drop, Option, Some, None}
use Rattle.std.specs.Prelude.{◌&&◌, ◌||◌, ◌==◌, codes, count_by, nat_lt, option_to_list, slice_get, if◌then◌else◌}
use Rattle.std.specs.List.{AllByRecursion}
use Rattle.std.specs.Str.{bytes_eq}
use Rattle.std.proofs.lemmas.Bool.{ltb-false}
use Rattle.std.proofs.lemmas.List.{length-map}
use Rattle.cjc_bytes.specs.AccessFlags.{is_interface, is_private, is_static}
use Rattle.cjc_bytes.specs.Order.{file_of}
use Rattle.cjc_bytes.specs.declared.settings.FileLine.{FileLine}
use Rattle.cjc_bytes.proofs.Lists.{none_left, none_right}
use Rattle.cjc_bytes.proofs.Bools.{or_left, or_right}
use Rattle.cjc_classes.specs.ClassOrder.Classes.Numbers.{class_count}
use Rattle.cjc_world.specs.ClassFile.declared.tree.ClassTree.{ClassTree}
use Rattle.cjc_components.specs.Class.{interfaces_of}
use Rattle.cjc_world.specs.ExportFile.ExportFile.{method_count}
use Rattle.cjc_world.specs.ExportFile.Members.{is_unbound, method_token_taken, method_token_wrong}
use Rattle.cjc_world.specs.ExportFile.Writable.{ClassFits, EachAfter, IsWritable, MethodStands}
use Rattle.cjc_world.specs.ExportFile.declared.tree.ExportClass.{ExportClass}
use Rattle.cjc_world.specs.ExportFile.declared.tree.ExportMethod.{ExportMethod}
use Rattle.cjc_world.specs.ExportFile.declared.tree.ExportTree.{ExportTree}
use Rattle.cjc_narrow_proof.proofs.LawsLaws.Own.{class_by_name}
use Rattle.cjc_check_proof.proofs.WorldProofRules.{listed_abroad, super_class}
use Rattle.cjc_classes.specs.Subset.Members.{imports}
use Rattle.cjc_check_proof.specs.TokenProof.Tables.Sound.{export_count}
use Rattle.cjc_tokens.specs.Lines.{line_at}
use Rattle.cjc_tokens.specs.Members.{Signature, is_constructor, is_initialiser, is_virtual, signature_of}
use Rattle.cjc_tokens.specs.Methods.{interface_methods, is_open_bound}
use Rattle.cjc_tokens.specs.Rules.{at_class, breaks_from, breaks_where, has_high_method, has_high_token, token_breaks}
use Rattle.cjc_tokens.specs.Slots.{Slots, has_slot, hidden_row, hidden_slots, implementing, implementing_hidden}
use Rattle.cjc_tokens.specs.Slots.{meant_by, new_in, row, shown_token, slots}
use Rattle.cjc_vtable.proofs.Filed.{Has, IsFiled, at_front, behind, filed, get-has, has-get, in_class_file}
use Rattle.cjc_vtable.proofs.Filed.{in_export_file, of-imports}
use Rattle.cjc_vtable.specs.Tables.{base, entries, interface_map, methods, of_package, or_zero, table_of}
use Rattle.cjc_vtable.specs.declared.table.InterfaceMap.{InterfaceMap}
use Rattle.cjc_vtable.proofs.Read.{each-after}
use Rattle.cjc_world.specs.Added.{by_token, own_methods, with_token, without_initialiser}
use Rattle.cjc_world.specs.Classes.{Class, Member, all_classes, class_named, declared, imported, method_of_export}
use Rattle.cjc_world.specs.Exported.{is_exported}
use Rattle.cjc_world.specs.Files.{Files}
use Rattle.cjc_world.specs.Supertypes.{IsAcyclic, AreSupertypes, Supertypes, supertypes}
use Rattle.cjc_world.specs.Rules.{breaks}
use Rattle.cjc_world.specs.declared.found.Found.{Found}
use Rattle.cjc_world.proofs.Settled.{lists-front}
use Rattle.cjc_shape_proof.proofs.WrittenLaws.FittingLaws.Interfaces.{are_interfaces}
use Rattle.cjc_shape_proof.proofs.WrittenLaws.FittingLaws.Slots.{IsLow, IsLowMember, class_few}

-- ---- tables

methods_few : (os : List (Option Found)) → length (methods os) ≤ length os
methods_few [] = let z : 0 ≤ 0 = omega arith in z
methods_few (o ∷ os) = by o (methods_few os)
  where
    by : (o : Option Found) → length (methods os) ≤ length os → length (option_to_list o ++ methods os) ≤ suc
        (length os)
    by None le = omega (arith, le)
    by (Some f) le = omega (arith, le)

entries_few : (class : ℕ) (os : List (Option Found)) → length (entries class os) ≤ length os
entries_few class os =
    let a = length-map (drop (base class os) os) of_package in
    let b = length-drop (base class os) os in
    omega (arith, a, b)

-- ---- interfaces

new_few : (S : Slots) (ss : List Signature) → length (new_in S ss) ≤ length ss
new_few S [] = let z : 0 ≤ 0 = omega arith in z
new_few S (s ∷ ss) = by (has_slot S s) (new_few S ss) (new_few (S ++ Some s ∷ []) ss)
  where
    by : (b : Bool) → length (new_in S ss) ≤ length ss → length (new_in (S ++ Some s ∷ []) ss) ≤ length ss
        → length (if b then new_in S ss else s ∷ new_in (S ++ Some s ∷ []) ss) ≤ suc (length ss)
    by true old new = omega (arith, old)
    by false old new = omega (arith, new)

without_few : (ms : List Member) → length (without_initialiser ms) ≤ length ms
without_few [] = let z : 0 ≤ 0 = omega arith in z
without_few (m ∷ ms) = by (bytes_eq m.name (codes "<clinit>")) (without_few ms)
  where
    by : (b : Bool) → length (without_initialiser ms) ≤ length ms → length (if b then without_initialiser ms
        else m ∷ without_initialiser ms) ≤ suc (length ms)
    by true le = omega (arith, le)
    by false le = omega (arith, le)

-- ---- no class has a token that is too high

module _ (w : List Class) (applets : Bool) (lines : List FileLine) where
  none_high : (k : ℕ) (cs : List ClassTree) (n : ℕ) (c : ClassTree) → breaks_from w applets lines k cs ≡ []
      → slice_get cs n ≡ Some c → has_high_token w (is_exported w applets (declared (k + n) c)) (k + n) c ≡ false
  unfolding breaks_from
  none_high k [] n c e f = cc
  none_high k (d ∷ cs) zero c e f =
      let m : k + 0 ≡ k = omega arith in
      let is : d ≡ c = cc in
      let b = has_high_token w (is_exported w applets (declared k d)) k d in
      ap (λ i. has_high_token w (is_exported w applets (declared i c)) i c) m
      ∙ sym (ap (λ x. has_high_token w (is_exported w applets (declared k x)) k x) is)
      ∙ off b (none_left (breaks_where b (at_class (file_of lines k) d.name)) (breaks_from w applets lines (k + 1) cs)
      e)
    where
      off : (b : Bool) → breaks_where b (at_class (file_of lines k) d.name) ≡ [] → b ≡ false
      off true g = cc
      off false g = refl
  none_high k (d ∷ cs) (suc n) c e f =
      let m : k + suc n ≡ k + 1 + n = omega arith in
      ap (λ i. has_high_token w (is_exported w applets (declared i c)) i c) m
      ∙ none_high (k + 1) cs n c (none_right (breaks_where (has_high_token w (is_exported w applets (declared k d)) k d)
      (at_class (file_of lines k) d.name)) (breaks_from w applets lines (k + 1) cs) e) f

-- ---- imported classes

low_token : (before : List ExportMethod) (m : ExportMethod) → method_token_wrong before (is_unbound m.flags m.name)
    m.token ≡ false → is_virtual (method_of_export m) ≡ true → m.token ≤ 127
low_token before m e virtual =
    ltb-false 127 m.token (free (is_static m.flags) (is_constructor m.name) (is_private m.flags) (is_initialiser m.name)
    (nat_lt 127 m.token) virtual
    (or_right (method_token_taken before (is_unbound m.flags m.name) m.token) (not (is_unbound m.flags m.name)
    && nat_lt 127 m.token) e))
  where
    free : (s c p i t : Bool) → ((not p && not s) && not (c || i)) ≡ true → (not (s || c) && t) ≡ false → t ≡ false
    free false false p i t v f = f
    free true c true i t v f = cc
    free true c false i t v f = cc
    free false true true i t v f = cc
    free false true false i t v f = cc

all_low : (before ms : List ExportMethod) (count : ℕ) → EachAfter (MethodStands false count) before ms
    → AllByRecursion IsLowMember (map method_of_export ms)
all_low before [] count h = tt
all_low before (m ∷ ms) count h = ((λ v. low_token before m h.0.1 v), all_low (before ++ m ∷ []) ms count h.1)

token_few : (token : ℕ) (ms : List Member) → length (with_token token ms) ≤ 1
token_few token [] = let z : 0 ≤ 1 = omega arith in z
token_few token (m ∷ ms) = by (m.token == token) (token_few token ms)
  where
    by : (b : Bool) → length (with_token token ms) ≤ 1 → length (if b then m ∷ [] else with_token token ms) ≤ 1
    by true le = let z : 1 ≤ 1 = omega arith in z
    by false le = le

by_token_few : (count token : ℕ) (ms : List Member) → length (by_token count token ms) ≤ count
by_token_few zero token ms = let z : 0 ≤ 0 = omega arith in z
by_token_few (suc count) token ms =
    let a = token_few token ms in
    let b = by_token_few count (token + 1) ms in
    let c = length-append (with_token token ms) (by_token count (token + 1) ms) in
    omega (arith, a, b, c)

count_few : (n : ℕ) → method_count true n ≡ Some n → n ≤ 255
count_few n e = ltb-false 255 n (by (nat_lt 255 n) e)
  where
    by : (b : Bool) → (if (true && b) then None else Some n) ≡ Some n → b ≡ false
    by true e = cc
    by false e = refl

-- ---- the classes of a package

module _ (list : List ℕ) (files : Files) (own_listed : length files.classes ≤ class_count files.lines) (imports_listed :
    length files.exports ≤ export_count files.lines) (unbroken : breaks list files ≡ [])
    (acyclic : IsAcyclic (all_classes files))
    (are_supertypes : (xs : List (List ℕ)) → AreSupertypes (all_classes files) xs (supertypes (all_classes files) xs))
    (one_supertypes : (xs : List (List ℕ)) (j k : Supertypes) → AreSupertypes (all_classes files) xs j
    → AreSupertypes (all_classes files) xs k → j ≡ k)
    (applets : Bool) (tokens : token_breaks applets files ≡ []) (writable : (n : ℕ) (t : ExportTree)
    → slice_get files.exports n ≡ Some t → IsWritable t) where
  abbrev w : List Class
  w = all_classes files

  high_off : (n : ℕ) (t : ClassTree) → slice_get files.classes n ≡ Some t
      → has_high_token w (is_exported w applets (declared n t)) n t ≡ false
  unfolding token_breaks
  high_off n t e =
      let z : 0 + n ≡ n = omega arith in
      sym (ap (λ i. has_high_token w (is_exported w applets (declared i t)) i t) z)
      ∙ none_high w applets files.lines 0 files.classes n t tokens e

  own_low : (n : ℕ) (t : ClassTree) → slice_get files.classes n ≡ Some t → is_interface t.flags ≡ false
      → has_high_method w (declared n t) ≡ false
  unfolding has_high_token
  own_low n t e plain = by (is_interface t.flags) plain (or_left _ _ (high_off n t e))
    where
      by : (b : Bool) → b ≡ false
          → (if b then nat_lt 128 (length (interface_methods w (declared n t))) else (has_high_method w (declared n t)
          || (is_exported w applets (declared n t) && nat_lt 255 (count_by is_open_bound (declared n t).methods))))
          ≡ false → has_high_method w (declared n t) ≡ false
      by true f g = cc
      by false f g = or_left (has_high_method w (declared n t)) (is_exported w applets (declared n t)
          && nat_lt 255 (count_by is_open_bound (declared n t).methods)) g

  own_few : (n : ℕ) (t : ClassTree) → slice_get files.classes n ≡ Some t → is_interface t.flags ≡ true
      → length (interface_methods w (declared n t)) ≤ 128
  unfolding has_high_token
  own_few n t e interface = by (is_interface t.flags) interface (or_left _ _ (high_off n t e))
    where
      by : (b : Bool) → b ≡ true
          → (if b then nat_lt 128 (length (interface_methods w (declared n t))) else (has_high_method w (declared n t)
          || (is_exported w applets (declared n t) && nat_lt 255 (count_by is_open_bound (declared n t).methods))))
          ≡ false → length (interface_methods w (declared n t)) ≤ 128
      by true f g = ltb-false 128 (length (interface_methods w (declared n t))) g
      by false f g = cc

  import_fits : (k : ℕ) (c : ExportClass) → slice_get (imports files.exports) k ≡ Some c → (before : List ExportClass)
      × ClassFits before c
  import_fits k c e =
      let o = of-imports c files.exports (get-has c (imports files.exports) k e) in
      let t = o.0 in
      let place = has-get t files.exports o.1 in
      let fits = writable place.0 t place.1 in
      each-after ClassFits [] t.classes c fits.classes o.2

  import_low : (k : ℕ) (c : ExportClass) → slice_get (imports files.exports) k ≡ Some c → is_interface c.flags ≡ false
      → AllByRecursion IsLowMember (map method_of_export c.methods)
  import_low k c e plain =
      let f = (import_fits k c e).1 in
      all_low [] c.methods (length c.methods) (subst (λ b. EachAfter (MethodStands b (length c.methods)) [] c.methods)
      plain f.methods)

  import_few : (k : ℕ) (c : ExportClass) → slice_get (imports files.exports) k ≡ Some c → is_interface c.flags ≡ true
      → length (interface_methods w (imported k c)) ≤ 255
  unfolding interface_methods own_methods
  import_few k c e interface =
      let f = (import_fits k c e).1 in
      let ms = map method_of_export c.methods in
      let own = without_initialiser (by_token (length ms) 0 ms) in
      let a = new_few [] (map signature_of own) in
      let b = length-map own signature_of in
      let d = without_few (by_token (length ms) 0 ms) in
      let g = by_token_few (length ms) 0 ms in
      let h = length-map c.methods method_of_export in
      let n = count_few (length c.methods) (subst (λ b. method_count b (length c.methods) ≡ Some (length c.methods))
      interface f.count) in
      omega (arith, a, b, d, g, h, n)

  is_low : (x : List ℕ) (c : Class) → class_named w x ≡ Some c → IsLow w c
  is_low x c e = record {
    own = λ own plain. (by (filed files x c e)).0 own plain;
    listed = λ im plain. (by (filed files x c e)).1 im plain;
    supers = λ s d l f. super_class list files unbroken x s c d e l f;
    abroad = λ im s d l f. listed_abroad list files unbroken x s c d e im (lists-front s c.supers c.interfaces l) f;
  }
    where
      by : {d : Class} → IsFiled files d → (d.is_imported ≡ false → is_interface d.flags ≡ false
          → has_high_method w d ≡ false) × (d.is_imported ≡ true → is_interface d.flags ≡ false
          → AllByRecursion IsLowMember d.methods)
      by (in_class_file n t at) = (
        (λ own plain. own_low n t at plain),
        (λ im plain. absurd (let never : false ≡ true = im in cc)),
      )
      by (in_export_file k t at) = (
        (λ own plain. absurd (let never : true ≡ false = own in cc)),
        (λ im plain. import_low k t at plain),
      )

  interface_few : (y : List ℕ) (d : Class) → class_named w y ≡ Some d → is_interface d.flags ≡ true
      → length (interface_methods w d) ≤ 255
  interface_few y d e interface = by (filed files y d e) interface
    where
      by : {c : Class} → IsFiled files c → is_interface c.flags ≡ true → length (interface_methods w c) ≤ 255
      by (in_class_file n t at) is = let few = own_few n t at is in omega (arith, few)
      by (in_export_file k t at) is = import_few k t at is

  module _ (n : ℕ) (t : ClassTree) (at : slice_get files.classes n ≡ Some t) where
    abbrev c : Class
    c = declared n t

    there : class_named w t.name ≡ Some c
    there = class_by_name files list own_listed unbroken n t at

    maps_few : (all : Signature → Option ℕ) (is : List Class) →
        ((d : Class) → Has d is → length (interface_methods w d) ≤ 255)
        → AllByRecursion (λ (m : InterfaceMap). length m.index ≤ 255) (map (interface_map w all) is)
    maps_few all [] few = tt
    maps_few all (d ∷ is) few =
        let here = few d at_front in
        let same = length-map (interface_methods w d) (λ (s : Signature). or_zero (all s)) in (
          (let z : length (let m = interface_map w all d in m.index) ≤ 255 = omega (arith, here, same) in z),
          maps_few all is (λ e h. few e (behind h)),
        )

    pub own_maps : AllByRecursion (λ (m : InterfaceMap). length m.index ≤ 255) (let u = table_of w c in u.maps)
    own_maps = maps_few (shown_token (line_at w c)) (interfaces_of w c)
        (λ d h. let r = are_interfaces list files own_listed
        imports_listed unbroken acyclic are_supertypes t.name c d there h in interface_few r.1.0 d r.1.1 r.0)

    pub few_slots : is_interface t.flags ≡ false → length (slots (line_at w c)) ≤ 128
    few_slots plain = (class_few w are_supertypes one_supertypes is_low t.name c there plain).0

    pub own_public : is_interface t.flags ≡ false → length (let u = table_of w c in u.public) ≤ 255
    own_public plain =
        let line = line_at w c in
        let few = few_slots plain in
        let a = entries_few n (row line) in
        let b = length-map (slots line) (meant_by (implementing line)) in
        omega (arith, few, a, b)

    pub own_package : is_interface t.flags ≡ false → length (let u = table_of w c in u.«package») ≤ 255
    own_package plain =
        let line = line_at w c in
        let few = (class_few w are_supertypes one_supertypes is_low t.name c there plain).1 in
        let a = entries_few n (hidden_row line) in
        let b = length-map (hidden_slots line) (meant_by (implementing_hidden line)) in
        let d = methods_few (entries n (hidden_row line)) in
        omega (arith, few, a, b, d)
