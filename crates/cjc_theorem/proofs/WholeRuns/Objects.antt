-- The fields of the package's classes are of types that values are of, and so those of its objects; those that are not
-- int are of one word.
use Rattle.std.proofs.Common.{◌≡◌, ℕ, suc, ◌<◌, ◌^◌, refl, sym, ap, subst, ◌∙◌, arith, Bool, true, false, List}
use Rattle.std.proofs.Common.{[], ◌∷◌, ◌++◌, length, reverse, ⊎_elim}
use Rattle.std.specs.Prelude.{◌&&◌, Some, slice_get, if◌then◌else◌}
use Rattle.std.specs.List.{flat_map, list_all}
use Rattle.std.proofs.lemmas.List.{reverse-append}
use Rattle.cjc_bytes.specs.AccessFlags.{is_static}
use Rattle.cjc_bytes.specs.declared.fault.MemberId.{MemberId}
use Rattle.cjc_bytes.specs.declared.settings.Settings.{Settings}
use Rattle.cjc_bytes.proofs.Gets.{all_at}
use Rattle.cjc_jvm_semantics.specs.OnePackage.{declared_fields, instance_fields, member_of, object_fields}
use Rattle.cjc_shape_proof.specs.WorldProof.Calls.Solid.{IsSolid}
use Rattle.cjc_token_proof.proofs.WorldProofOwn.{mapped_at}
use Rattle.cjc_world.proofs.ClassFileFitting.{spelt_fits}
use Rattle.cjc_world.specs.ClassFile.Fits as fits
use Rattle.cjc_world.specs.ClassFile.declared.tree.ClassTree.{ClassTree}
use Rattle.cjc_world.specs.ClassFile.declared.tree.FieldTree.{FieldTree}
use Rattle.cjc_components.specs.Bytecode.declared.method_code.MethodCode.{MethodCode}
use Rattle.cjc_shape_proof.specs.Finds.{IsUsable}
use Rattle.cjc_shape_proof.proofs.FindsLaws.Descs.{read_of}
use Rattle.cjc_shape_proof.proofs.FindsLaws.Fields.{value_field, word_field}
use Rattle.cjc_narrow_proof.specs.Runs.Names.{IsWordField}
use Rattle.cjc_token_proof.specs.Script.Sorts.{field_sort}
use Rattle.cjc_narrow_proof.specs.Selection.Objects.{has_values, is_field}
use Rattle.cjc_shape_proof.specs.WorldProof.Files.{AreReadFiles}
use Rattle.cjc_token_proof.proofs.WorldProofRules.{field_kept}
use Rattle.cjc_token_proof.specs.Subset.Checks.{check_breaks}
use Rattle.cjc_token_proof.specs.Subset.Types.{is_int_desc}
use Rattle.cjc_world.specs.Upwards.{Has, after, foremost}
use Rattle.cjc_world.proofs.UpwardLaws.Lines.{has-cons, has-either, line_named, of_line}
use Rattle.cjc_world.specs.Classes.{Class, Member, all_classes, class_named, field_of_class}
use Rattle.cjc_world.specs.Files.{Files}
use Rattle.cjc_world.specs.Supertypes.{line}

-- ---- lists

all_both : (P : MemberId → Bool) (xs ys : List MemberId) → list_all P xs ≡ true → list_all P ys ≡ true
    → list_all P (xs ++ ys) ≡ true
all_both P [] ys p q = q
all_both P (x ∷ xs) ys p q = by (P x) p (all_both P xs ys)
  where
    by : (b : Bool) → (b && list_all P xs) ≡ true → (list_all P xs ≡ true → list_all P ys ≡ true → list_all P (xs ++ ys)
        ≡ true) → (b && list_all P (xs ++ ys)) ≡ true
    by true p rest = rest p q
    by false p rest = absurd cc

all_flat : (P : MemberId → Bool) (f : Class → List MemberId) (xs : List Class) → ((c : Class) → Has c xs
    → list_all P (f c) ≡ true) → list_all P (flat_map f xs) ≡ true
all_flat P f [] h = refl
all_flat P f (x ∷ xs) h = all_both P (f x) (flat_map f xs) (h x foremost) (all_flat P f xs (λ c g. h c (after g)))

of_reverse : {A : Type 0} (x : A) (xs : List A) → Has x (reverse xs) → Has x xs
of_reverse x [] h = elim h [ ]
of_reverse x (y ∷ xs) h = ⊎_elim (λ g. after (of_reverse x xs g)) (λ g. ⊎_elim (λ same. subst (λ z. Has z (y ∷ xs))
    (sym same) foremost) (λ more. elim more [ ]) (has-cons x y [] g))
    (has-either x (reverse xs) (y ∷ []) (subst (Has x) (reverse-append (y ∷ []) xs) h))

-- ---- fields

of_objects : (class : List ℕ) (ms : List Member) → ((i : ℕ) (m : Member) → slice_get ms i ≡ Some m
    → has_values (field_sort m.desc) ≡ true) → list_all is_field (instance_fields class ms) ≡ true
of_objects class [] h = refl
of_objects class (m ∷ ms) h = by (is_static m.flags) (of_objects class ms (λ i x e. h (suc i) x e))
  where
    by : (b : Bool) → list_all is_field (instance_fields class ms) ≡ true
        → list_all is_field (if b then instance_fields class ms else member_of class m ∷ instance_fields class ms)
        ≡ true
    by true q = q
    by false q = ap (λ x. x && list_all is_field (instance_fields class ms)) (h 0 m refl) ∙ q

module _ (list : List ℕ) (files : Files) (codes : List MethodCode) (settings : Settings) (unbroken : check_breaks list
    files codes settings ≡ []) (read : AreReadFiles files) where
  -- 301 of a field of a class file
  pub own_field_usable : (n k : ℕ) (t : ClassTree) (x : FieldTree) → slice_get files.classes n ≡ Some t
      → slice_get t.fields k ≡ Some x → IsUsable false x.desc
  own_field_usable n k t x is_class is_field =
      let kept = field_kept list files codes settings unbroken n t is_class k x is_field in
      let bytes = read.classes n t is_class in
      let few = spelt_fits t bytes.0 bytes.1 bytes.2 in
      let one = all_at fits.FieldFits t.fields k x few.fields is_field in
      let short : length x.desc < 2 ^ 32 = (let s = one.desc in omega (arith, s)) in
      let parsed = (let r = read_of files read n t is_class in r.fields) k x is_field in
      record {
        types = parsed.0;
        short = short;
        is_desc = parsed.1;
        of_method = parsed.2;
        supported = kept.0;
      }

  -- which is not int
  pub own_field_word : (n k : ℕ) (t : ClassTree) (x : FieldTree) → slice_get files.classes n ≡ Some t
      → slice_get t.fields k ≡ Some x → is_int_desc x.desc ≡ false → IsWordField x.desc
  own_field_word n k t x is_class is_field no_int =
      let d = own_field_usable n k t x is_class is_field in
      word_field x.desc d.types d.short d.is_desc d.of_method d.supported no_int

  -- 301 of a field of a class file
  pub own_field_values : (n k : ℕ) (t : ClassTree) (x : FieldTree) → slice_get files.classes n ≡ Some t
      → slice_get t.fields k ≡ Some x → has_values (field_sort x.desc) ≡ true
  own_field_values n k t x is_class is_field =
      let d = own_field_usable n k t x is_class is_field in
      value_field x.desc d.types d.short d.is_desc d.of_method d.supported

  module _ (solid : IsSolid files) where
    abbrev w : List Class
    w = all_classes files

    declared_are : (c : Class) → class_named w c.name ≡ Some c → list_all is_field (declared_fields c) ≡ true
    declared_are c named = by c.is_imported refl
      where
        by : (b : Bool) → c.is_imported ≡ b → list_all is_field (if b then [] else instance_fields c.name c.fields)
            ≡ true
        by true own = refl
        by false own =
            let t = solid.own c.name c named own in
            of_objects c.name c.fields (λ i m e.
            (let x = mapped_at field_of_class (let u = t.0 in u.fields) i m (ap (λ (v : Class). slice_get v.fields i)
            (sym t.2) ∙ e) in
            ap (λ (v : Member). has_values (field_sort v.desc)) x.2 ∙ own_field_values c.number i t.0 x.0 t.1 x.1))

    -- the fields of an object of a class
    pub objects_have_values : (name : List ℕ) → list_all is_field (object_fields w name) ≡ true
    objects_have_values name = all_flat is_field declared_fields (reverse (line w name)) (λ c h. declared_are c
        (line_named w name c (of_line w solid.ordered.acyclic name c (of_reverse c (line w name) h))))
