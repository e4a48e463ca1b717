-- Entries of the pool name the members of the package that their keys name.
use Rattle.std.proofs.Common.{◌≡◌, ℕ, zero, suc, ◌+◌, ◌*◌, ◌<◌, ◌≤◌, length-append, refl, sym, ap, subst, ◌∙◌, arith}
use Rattle.std.proofs.Common.{Bool, true, false, List, [], ◌∷◌, ◌++◌, length, map, Some}
use Rattle.std.specs.Prelude.{◌==◌, ◌&&◌, ◌||◌, not, if◌then◌else◌, flat_map, is_some, nat_lt, slice_get, sum_by}
use Rattle.std.specs.List.{AllByRecursion, list_any}
use Rattle.std.proofs.lemmas.Bool.{lt-ltb, or_right}
use Rattle.std.proofs.lemmas.Bool.Decides.{nat_tests}
use Rattle.std.proofs.lemmas.List.Sums.{sum_by-append, sum_by-cons}
use Rattle.cjc_bytes.specs.declared.fault.MemberId.{MemberId}
use Rattle.cjc_bytes.specs.AccessFlags.{is_final, is_static}
use Rattle.cjc_bytes.proofs.Gets.{all_at}
use Rattle.cjc_bytes.proofs.Numbers.{like_number}
use Rattle.cjc_bytes.proofs.Quantified.{any_front, any_right}
use Rattle.cjc_capread.specs.declared.tree.ClassDescriptor.{ClassDescriptor}
use Rattle.cjc_capread.specs.declared.tree.ClassRef.{ClassRef}
use Rattle.cjc_capread.specs.declared.tree.ClassRef.TheVariants.{Inside, Outside}
use Rattle.cjc_capread.specs.declared.tree.FieldDescriptor.{FieldDescriptor}
use Rattle.cjc_capread.specs.declared.tree.FieldPlace.TheVariants as places
use Rattle.cjc_capread.specs.declared.tree.MethodDescriptor.{MethodDescriptor}
use Rattle.cjc_capread.specs.declared.tree.StaticRef.TheVariants as refs
use Rattle.cjc_capread.specs.ClassRefs.{same_class}
use Rattle.cjc_token_proof.specs.CardSemantics.Machine.Classes.{Class as CardClass, External, Own}
use Rattle.cjc_world.specs.ClassFile.declared.tree.FieldTree.{FieldTree}
use Rattle.cjc_check_rules.specs.Spots.{along, in_info, unless}
use Rattle.cjc_check_rules.specs.Members.{all_fields, class_methods, has_field, is_cell_at, is_instance}
use Rattle.cjc_check_rules.specs.Members.{is_method_start}
use Rattle.cjc_check_rules.specs.PoolEntries.{is_field, is_method, names_member, pool_spots}
use Rattle.cjc_world.specs.ExportFile.Members.{is_constant_type}
use Rattle.cjc_tokens.specs.Fields.{is_constant}
use Rattle.cjc_pool.specs.Clinit.Image.{field_id}
use Rattle.cjc_world.specs.declared.found.Found.{Found}
use Rattle.cjc_world.specs.declared.image.ArrayCell.{ArrayCell}
use Rattle.cjc_world.specs.declared.image.StaticImage.{StaticImage}
use Rattle.cjc_world.specs.declared.image.ValueCell.{ValueCell}
use Rattle.cjc_world.specs.Classes.{Class}
use Rattle.cjc_world.specs.Lookup.{find_method, member_at}
use Rattle.cjc_world.specs.Order.{class_order, in_order, method_order}
use Rattle.cjc_ncode.specs.declared.narrow.PoolKey.{PoolKey}
use Rattle.cjc_ncode.specs.declared.narrow.PoolKey.TheVariants as keys
use Rattle.cjc_ncode.specs.PoolOrder.{same_member}
use Rattle.cjc_ncode.specs.Lowering.Naming.{entry_of}
use Rattle.cjc_components.specs.Package.{LaidMethod, Package, pool, world}
use Rattle.cjc_components.specs.Class.{fields_of}
use Rattle.cjc_components.specs.Descriptor.{class_descriptor, field_descriptor, fields_from}
use Rattle.cjc_components.specs.Methods.{Extent, extent_at, extent_from, extent_of, first_method, handler_count}
use Rattle.cjc_components.specs.Methods.{is_member, method_offset, method_size}
use Rattle.cjc_components.specs.Names.{class_at, class_ref, field_token, member_ref, member_token, names, offset_where}
use Rattle.cjc_components.specs.Names.{ref_to}
use Rattle.cjc_components.specs.Statics.{cell_offset, cell_order, offset_from, size_of_field, static_field, value_bytes}
use Rattle.cjc_token_proof.specs.Components.Methods.{HasMethods}
use Rattle.cjc_token_proof.specs.Components.OwnNames.{HaveOwnNames}
use Rattle.cjc_token_proof.specs.Components.Whole.{exports_of, whole}
use Rattle.cjc_token_proof.proofs.ComponentsLaws.Starts.{ref_is_start}
use Rattle.cjc_token_proof.proofs.ComponentsLaws.Tests.{none_in_both, passes}
use Rattle.cjc_check_proof.specs.Code.Members.{AllAreNamed, by_token, CellsFit, imported_cell, imported_field}
use Rattle.cjc_check_proof.specs.Code.Members.{imported_method, imported_virtual, IsNamed, IsOwnCell, IsOwnField}
use Rattle.cjc_check_proof.specs.Code.Members.{IsOwnMethod, of_cell, of_class, of_field, of_method}
use Rattle.cjc_token_proof.proofs.ComponentsLaws.Apart.{IsOwn, order_own}
use Rattle.cjc_check_proof.proofs.CodeLaws.Described.{AreOf, classes_are, itself}
use Rattle.cjc_check_proof.proofs.CodeLaws.Imported.{cell_listed, field_listed, method_listed, virtual_listed}
use Rattle.cjc_check_proof.proofs.CodeLaws.OwnClasses.{own_classes}

-- ---- cells

-- the cell of a field among others lies before their end
cell_before : (at : ℕ) (fields : List MemberId) (f : MemberId) → AllByRecursion (λ (g : MemberId). 0 < size_of_field g)
    fields → list_any (λ (g : MemberId). same_member g f) fields ≡ true
    → offset_from at fields f < at + sum_by size_of_field fields
cell_before at [] f some e = absurd cc
cell_before at (g ∷ fields) f some e = by (same_member g f) e (cell_before (at + size_of_field g) fields f some.1)
  where
    by : (b : Bool) → (b || list_any (λ (h : MemberId). same_member h f) fields) ≡ true
        → (list_any (λ (h : MemberId). same_member h f) fields ≡ true → offset_from (at + size_of_field g) fields f < at
        + size_of_field g + sum_by size_of_field fields)
        → (if b then at else offset_from (at + size_of_field g) fields f) < at + sum_by size_of_field (g ∷ fields)
    by true h rest = let one = some.0 in let all = sum_by-cons size_of_field g fields in omega (arith, one, all)
    by false h rest = let low = rest h in let all = sum_by-cons size_of_field g fields in omega (arith, low, all)

two_each : {A : Type 0} (field : A → MemberId) (xs : List A) → AllByRecursion (λ (x : A). size_of_field (field x) ≡ 2)
    xs → sum_by size_of_field (map field xs) ≡ 2 * length xs
two_each field [] all = omega arith
two_each field (x ∷ xs) all =
    let a = sum_by-cons size_of_field (field x) (map field xs) in
    let one = all.0 in
    let r = two_each field xs all.1 in
    omega (arith, a, one, r)

same_fields : (xs : List MemberId) → map (λ (f : MemberId). f) xs ≡ xs
same_fields [] = refl
same_fields (x ∷ xs) = ap (λ ys. x ∷ ys) (same_fields xs)

values_fit : (vs : List ValueCell) → AllByRecursion (λ (v : ValueCell). length (value_bytes v) ≡ size_of_field v.field)
    vs → sum_by size_of_field (map (λ (v : ValueCell). v.field) vs) ≡ length (flat_map value_bytes vs)
values_fit [] all = refl
values_fit (v ∷ vs) all =
    let a = sum_by-cons size_of_field v.field (map (λ (x : ValueCell). x.field) vs) in
    let one = all.0 in
    let r = values_fit vs all.1 in
    let b = length-append (value_bytes v) (flat_map value_bytes vs) in
    omega (arith, a, one, r, b)

-- the cell of a field lies in the image
cell_inside : (image : StaticImage) (f : MemberId) → CellsFit image → list_any (λ (g : MemberId). same_member g f)
    (cell_order image) ≡ true → cell_offset image f < (let s = static_field image in s.image_size)
cell_inside image f fit has =
    let arrays = map (λ (a : ArrayCell). a.field) image.arrays in
    let others = map (λ (v : ValueCell). v.field) image.others in
    let low = cell_before 0 (cell_order image) f fit.some has in
    let a = sum_by-append size_of_field arrays (image.nulls ++ (image.zeros ++ others)) in
    let b = sum_by-append size_of_field image.nulls (image.zeros ++ others) in
    let c = sum_by-append size_of_field image.zeros others in
    let x = two_each (λ (a : ArrayCell). a.field) image.arrays fit.arrays in
    let y : sum_by size_of_field image.nulls ≡ 2 * length image.nulls =
    ap (sum_by size_of_field) (sym (same_fields image.nulls)) ∙ two_each (λ (f : MemberId). f) image.nulls fit.nulls
    in
    let z = values_fit image.others fit.others in
    omega (arith, low, a, b, c, x, y, z)

-- ---- methods

module _ (p : Package) where
  -- among descriptors of members one has the offset of each
  of_there : (ds : List MethodDescriptor) (fs : List Found) (k : ℕ) (f : Found) → AreOf p ds fs
      → slice_get fs k ≡ Some f → list_any (λ (d : MethodDescriptor). d.offset == (let e = extent_of p f in e.offset))
      ds ≡ true
  of_there [] [] zero f of e = absurd cc
  of_there [] [] (suc k) f of e = absurd cc
  of_there [] (g ∷ fs) k f of e = absurd of
  of_there (d ∷ ds) [] k f of e = absurd of
  of_there (d ∷ ds) (g ∷ fs) zero f of e =
      let same : g ≡ f = cc in
      let here : d.offset ≡ (let x = extent_of p f in x.offset) = of.0 ∙ ap (λ h. let x = extent_of p h
      in x.offset) same in
      ap (λ b. b || list_any (λ (d : MethodDescriptor). d.offset == (let x = extent_of p f in x.offset)) ds)
      (ap (λ n. n == (let x = extent_of p f in x.offset)) here ∙ like_number (let x = extent_of p f in x.offset))
  of_there (d ∷ ds) (g ∷ fs) (suc k) f of e = or_right (d.offset == (let x = extent_of p f in x.offset)) _
      (of_there ds fs k f of.2 e)

  -- a method that is there stands behind the handlers
  stands_behind : (at k : ℕ) (ms : List LaidMethod) (j : ℕ) (f : Found) → slice_get (map (λ m. m.member) ms) j ≡ Some f
      → f.imported ≡ false → at ≤ (let e = extent_from at k ms f in e.offset)
  stands_behind at k [] zero f e own = absurd cc
  stands_behind at k [] (suc j) f e own = absurd cc
  stands_behind at k (m ∷ ms) zero f e own =
      let same : m.member ≡ f = cc in
      let here : is_member f m ≡ true = ap (λ g. not f.imported && f.class == (let h = g in h.class)
      && f.member == (let h = g in h.member)) same ∙ itself f own in
      subst (λ (x : Extent). at ≤ x.offset) (sym (ap (λ b. if b then extent_at at k m
      else extent_from (at + method_size m) (k + handler_count m) ms f) here)) (omega arith)
  stands_behind at k (m ∷ ms) (suc j) f e own =
      by (is_member f m) (stands_behind (at + method_size m) (k + handler_count m) ms j f e own)
    where
      by : (b : Bool) → at + method_size m ≤ (let x = extent_from (at + method_size m) (k + handler_count m) ms f
          in x.offset)
          → at ≤ (let x = (if b then extent_at at k m else extent_from (at + method_size m) (k + handler_count m) ms f)
          in x.offset)
      by true le = omega arith
      by false le = omega (arith, le)

  module _ (apart : HaveOwnNames (class_order (world p))) (order : HasMethods p) where
    -- a method of the package's classes is a method start
    pub start_there : (k : ℕ) (f : Found) → slice_get (method_order (world p)) k ≡ Some f
        → is_method_start (whole p) (method_offset p f) ≡ true
    unfolding method_order
    start_there k f e =
        let offset = method_offset p f in
        let own : f.imported ≡ false = all_at IsOwn (method_order (world p)) k f (order_own (world p)) e in
        let high = stands_behind (first_method p.methods) 0 p.methods k f (ap (λ fs. slice_get fs k) order ∙ e) own in
        let some : (offset == 0) ≡ false = grind (arith, nat_tests, high) in
        let ds : class_methods (whole p) ≡ flat_map (λ (d : ClassDescriptor). d.methods) (map (class_descriptor p)
        (in_order (world p) false)) = ap (flat_map (λ (d : ClassDescriptor). d.methods)) (own_classes p apart) in
        ap (λ b. not b && list_any (λ (d : MethodDescriptor). d.offset == offset) (class_methods (whole p))) some
        ∙ ap (list_any (λ (d : MethodDescriptor). d.offset == offset)) ds
        ∙ of_there _ (method_order (world p)) k f (classes_are p (in_order (world p) false)) e

    own_ref : (x : CardClass) (s offset token : ℕ) → ref_to x ≡ Inside s → member_ref x offset token
        ≡ refs.Inside offset
    own_ref (Own part at) s offset token e = refl
    own_ref (External file class) s offset token e = absurd cc

    pub method_named : (m : MemberId) → IsOwnMethod p m
        → names_member (whole p) (exports_of p) (entry_of (names p) (keys.StaticMethod m)) ≡ true
    method_named m is =
        let o = is.own in
        let r = ref_is_start p apart o.place is.class o.there in
        let inside : class_ref p m.class ≡ Inside r.0 = ap (class_ref p) (sym o.named) ∙ r.2 in
        let f = find_method (world p) m.class m.name m.desc in
        ap (is_method (whole p) (exports_of p)) (own_ref (class_at p m.class) r.0 (offset_where p f) (member_token p f)
        inside)
        ∙ ap (λ g. is_method_start (whole p) (offset_where p g)) is.found
        ∙ start_there is.place is.member is.there

    -- ---- fields

    instance_plain : (f : FieldTree) → is_static f.flags ≡ false → is_constant f ≡ false
    instance_plain f e = by (is_static f.flags) (is_final f.flags) (is_constant_type f.desc) (is_some f.constant) e
      where
        by : (a b c d : Bool) → a ≡ false → ((a && b && c) && d) ≡ false
        by true b c d e = absurd cc
        by false true true d e = refl
        by false true false d e = refl
        by false false true d e = refl
        by false false false d e = refl

    same_ref : (r : ClassRef) → same_class r r ≡ true
    same_ref (Inside offset) = like_number offset
    same_ref (Outside import class) = ap (λ b. b && class == class) (like_number import) ∙ like_number class

    -- a field that is no constant is described
    field_described : (c : Class) (i : ℕ) (fs : List FieldTree) (k : ℕ) (f : FieldTree) (test : FieldDescriptor → Bool)
        → slice_get fs k ≡ Some f → is_constant f ≡ false → test (field_descriptor p c (i + k) f) ≡ true
        → list_any test (fields_from p c i fs) ≡ true
    field_described c i [] zero f test e plain t = absurd cc
    field_described c i [] (suc k) f test e plain t = absurd cc
    field_described c i (g ∷ fs) zero f test e plain t =
        let same : g ≡ f = cc in
        let here : i + 0 ≡ i = omega arith in
        let none : is_constant g ≡ false = ap is_constant same ∙ plain in
        ap (λ b. list_any test ((if b then [] else field_descriptor p c i g ∷ []) ++ fields_from p c (i + 1) fs)) none
        ∙ ap (λ b. b || list_any test (fields_from p c (i + 1) fs)) (ap (λ x. test (field_descriptor p c i x)) same
        ∙ ap (λ j. test (field_descriptor p c j f)) (sym here) ∙ t)
    field_described c i (g ∷ fs) (suc k) f test e plain t =
        let next : i + 1 + k ≡ i + suc k = omega arith in
        any_right test (if is_constant g then [] else field_descriptor p c i g ∷ []) (fields_from p c (i + 1) fs)
        (field_described c (i + 1) fs k f test e plain (ap (λ j. test (field_descriptor p c j f)) next ∙ t))

    class_described : (cs : List Class) (k : ℕ) (c : Class) (test : FieldDescriptor → Bool) → slice_get cs k ≡ Some c
        → list_any test (fields_from p c 0 (fields_of p.files c)) ≡ true
        → list_any test (flat_map (λ (d : ClassDescriptor). d.fields) (map (class_descriptor p) cs)) ≡ true
    class_described [] zero c test e t = absurd cc
    class_described [] (suc k) c test e t = absurd cc
    class_described (d ∷ cs) zero c test e t =
        let same : d ≡ c = cc in
        any_front test (fields_from p d 0 (fields_of p.files d)) (flat_map (λ (d : ClassDescriptor). d.fields)
        (map (class_descriptor p) cs)) (ap (λ (x : Class). list_any test (fields_from p x 0 (fields_of p.files x)))
        same ∙ t)
    class_described (d ∷ cs) (suc k) c test e t =
        any_right test (fields_from p d 0 (fields_of p.files d)) (flat_map (λ (d : ClassDescriptor). d.fields)
        (map (class_descriptor p) cs)) (class_described cs k c test e t)

    pub field_named : (f : MemberId) → IsOwnField p f
        → names_member (whole p) (exports_of p) (entry_of (names p) (keys.Field f)) ≡ true
    field_named f is =
        let o = is.own in
        let c = is.class in
        let r = ref_is_start p apart o.place c o.there in
        let inside : class_ref p f.class ≡ Inside r.0 = ap (class_ref p) (sym o.named) ∙ r.2 in
        let token = field_token p f in
        let tree = is.tree in
        let test : FieldDescriptor → Bool = λ (d : FieldDescriptor). is_instance d.place (Inside r.0) token in
        let its : member_token p (Some (member_at c (0 + is.place))) ≡ token =
        (let z : 0 + is.place ≡ is.place = omega arith in ap (λ j. member_token p (Some (member_at c j))) z)
        ∙ sym (ap (member_token p) is.found) in
        let here : test (field_descriptor p c (0 + is.place) tree) ≡ true =
        ap (λ b. is_instance (if b then places.Static (cell_offset p.image (field_id c.name tree))
        else places.Instance (class_ref p c.name) (member_token p (Some (member_at c (0 + is.place))))) (Inside r.0)
        token) is.is_instance
        ∙ ap (λ x. same_class x (Inside r.0) && member_token p (Some (member_at c (0 + is.place))) == token) r.2
        ∙ ap (λ b. b && member_token p (Some (member_at c (0 + is.place))) == token) (same_ref (Inside r.0))
        ∙ ap (λ t. t == token) its ∙ like_number token in
        ap (λ x. has_field (whole p) (exports_of p) x token) inside
        ∙ class_described (class_order (world p)) o.place c test o.there (field_described c 0 (fields_of p.files c)
        is.place tree test is.there (instance_plain tree is.is_instance) here)

    -- ---- static fields

    pub cell_named : (f : MemberId) → IsOwnCell p f
        → names_member (whole p) (exports_of p) (entry_of (names p) (keys.StaticField f)) ≡ true
    cell_named f is =
        let o = is.own in
        let c = is.class in
        let r = ref_is_start p apart o.place c o.there in
        let inside : class_ref p f.class ≡ Inside r.0 = ap (class_ref p) (sym o.named) ∙ r.2 in
        let at = cell_offset p.image f in
        let tree = is.tree in
        let test : FieldDescriptor → Bool = λ (d : FieldDescriptor). is_cell_at d.place at in
        let low : nat_lt at (let s = static_field p.image in s.image_size) ≡ true =
        lt-ltb at _ (cell_inside p.image f is.cells is.has_cell) in
        let here : test (field_descriptor p c (0 + is.place) tree) ≡ true =
        ap (λ b. is_cell_at (if b then places.Static (cell_offset p.image (field_id c.name tree))
        else places.Instance (class_ref p c.name) (member_token p (Some (member_at c (0 + is.place))))) at)
        is.is_static
        ∙ ap (λ g. cell_offset p.image g == at) is.is ∙ like_number at in
        ap (is_field (whole p) (exports_of p)) (own_ref (class_at p f.class) r.0 at (field_token p f) inside)
        ∙ ap (λ b. b && list_any test (all_fields (whole p))) low
        ∙ class_described (class_order (world p)) o.place c test o.there (field_described c 0 (fields_of p.files c)
        is.place tree test is.there is.is_no_constant here)

    -- ---- all entries

    key_named : (key : PoolKey) → IsNamed p key → names_member (whole p) (exports_of p) (entry_of (names p) key) ≡ true
    key_named (keys.Class c) of_class = refl
    key_named (keys.Field f) (of_field is) = field_named f is
    key_named (keys.StaticField f) (of_cell is) = cell_named f is
    key_named (keys.StaticMethod m) (of_method is) = method_named m is
    key_named (keys.Field f) (imported_field is) = field_listed p f is
    key_named (keys.StaticField f) (imported_cell is) = cell_listed p f is
    key_named (keys.Virtual m) (imported_virtual is) = virtual_listed p m is
    key_named (keys.StaticMethod m) (imported_method is) = method_listed p m is
    key_named key (by_token e) = e

    none_missing : (at : ℕ) (ks : List PoolKey) → AllByRecursion (IsNamed p) ks
        → along (λ x. 4) (λ at x. unless (names_member (whole p) (exports_of p) x) (in_info 5 at)) at
        (map (entry_of (names p)) ks) ≡ []
    unfolding along
    none_missing at [] all = refl
    none_missing at (key ∷ ks) all = none_in_both (passes _ (in_info 5 at) (key_named key all.0)) (none_missing (at + 4)
        ks all.1)

    pub all_named : AllAreNamed p → pool_spots (whole p) (exports_of p) ≡ []
    all_named all = none_missing 2 (pool p) all
