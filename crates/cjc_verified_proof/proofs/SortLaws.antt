-- The cells of the static image of a package are of fields of its class files, references first.
use Rattle.std.proofs.Common.{◌≡◌, ℕ, zero, suc, Bool, true, false, List, [], ◌∷◌, ◌++◌, map, slice_get, Some}
use Rattle.std.proofs.Common.{refl, sym, ap, subst, ◌∙◌, inl, inr, append_assoc}
use Rattle.std.specs.Prelude.{◌||◌, cond, filter}
use Rattle.std.proofs.lemmas.List.Concat.{flat_map-cons}
use Rattle.cjc_bytes.specs.declared.fault.MemberId.{MemberId}
use Rattle.cjc_world.specs.ClassFile.declared.tree.ClassTree.{ClassTree}
use Rattle.cjc_world.specs.ClassFile.declared.tree.FieldTree.{FieldTree}
use Rattle.cjc_world.specs.declared.image.ArrayCell.{ArrayCell}
use Rattle.cjc_world.specs.declared.image.ValueCell.{ValueCell}
use Rattle.cjc_intervals.specs.Bytecode.declared.method_code.MethodCode.{MethodCode}
use Rattle.cjc_token_proof.specs.NCode.PoolOrder.{same_member}
use Rattle.cjc_card_semantics.specs.Script.Sorts.{Sort, Boolean, Byte, Short, Int, Reference, NoValue, field_sort}
use Rattle.cjc_verify.specs.Clinit.Fields.{is_cell}
use Rattle.cjc_verify.specs.Clinit.Image.{IsImage, field_id}
use Rattle.cjc_components.specs.Package.{Package}
use Rattle.cjc_components.specs.Statics.{cell_order}
use Rattle.cjc_token_proof.specs.LowerWorldProof.Initialisers.Values.{StandOnce}
use Rattle.cjc_token_proof.specs.ByToken.Cells.{HasCells, fields, is_number, is_one_of, letter_by}
use Rattle.cjc_token_proof.specs.ByToken.Objects.{is_reference as is_reference_sort}
use Rattle.cjc_token_proof.specs.Tables.Known.{order_of, statics_in, statics_of}
use Rattle.cjc_token_proof.specs.Tables.Sound.{IsSound, AreTyped, AreFieldDescs, IsTyped, IsFieldDesc}
use Rattle.cjc_verified_proof.specs.PackageTypes.{HasSorts}
use Rattle.cjc_token_proof.proofs.ByToken.Members.{member_tells, member_same}
use Rattle.cjc_token_proof.proofs.TablesLaws.Puts.{one_either, one_front, one_back}
use Rattle.cjc_token_proof.proofs.TablesLaws.Statics.{has_cells}

one_at : (fs : List MemberId) (k : ℕ) (f : MemberId) → slice_get fs k ≡ Some f → is_one_of f fs ≡ true
one_at [] k f e = cc
one_at (g ∷ fs) zero f e = let same : g ≡ f = cc in ap (λ b. b || is_one_of f fs) (ap (λ x. same_member x f) same
    ∙ member_same f)
one_at (g ∷ fs) (suc k) f e = ap (λ b. same_member g f || b) (one_at fs k f e) ∙ by (same_member g f)
  where
    by : (b : Bool) → (b || true) ≡ true
    by true = refl
    by false = refl

-- a field of a class file by its place
record IsPlaced (classes : List ClassTree) (desc : List ℕ) : Type 0 where
  class : ℕ
  place : ℕ
  tree : ClassTree
  field : FieldTree
  at : slice_get classes class ≡ Some tree
  there : slice_get tree.fields place ≡ Some field
  is : field.desc ≡ desc

placed_in : (name : List ℕ) (fs : List FieldTree) (f : MemberId) → is_one_of f (map (field_id name) (filter is_cell fs))
    ≡ true → (k : ℕ) × (g : FieldTree) × (slice_get fs k ≡ Some g) × (g.desc ≡ f.desc)
placed_in name [] f e = cc
placed_in name (g ∷ fs) f e = by (is_cell g) e (placed_in name fs f)
  where
    later : (k : ℕ) × (h : FieldTree) × (slice_get fs k ≡ Some h) × (h.desc ≡ f.desc)
        → (k : ℕ) × (h : FieldTree) × (slice_get (g ∷ fs) k ≡ Some h) × (h.desc ≡ f.desc)
    later r = (suc r.0, r.1, r.2, r.3)

    one : (b : Bool) → same_member (field_id name g) f ≡ b → (b || is_one_of f (map (field_id name)
        (filter is_cell fs)))
        ≡ true → (is_one_of f (map (field_id name) (filter is_cell fs)) ≡ true
        → (k : ℕ) × (h : FieldTree) × (slice_get fs k ≡ Some h) × (h.desc ≡ f.desc))
        → (k : ℕ) × (h : FieldTree) × (slice_get (g ∷ fs) k ≡ Some h) × (h.desc ≡ f.desc)
    one true is h rest = (0, g, refl, ap (λ (m : MemberId). m.desc) (member_tells (field_id name g) f is))
    one false is h rest = later (rest h)

    by : (b : Bool) → is_one_of f (map (field_id name) (cond b (g ∷ filter is_cell fs) (filter is_cell fs))) ≡ true
        → (is_one_of f (map (field_id name) (filter is_cell fs)) ≡ true
        → (k : ℕ) × (h : FieldTree) × (slice_get fs k ≡ Some h) × (h.desc ≡ f.desc))
        → (k : ℕ) × (h : FieldTree) × (slice_get (g ∷ fs) k ≡ Some h) × (h.desc ≡ f.desc)
    by true h rest = one (same_member (field_id name g) f) refl h rest
    by false h rest = later (rest h)

placed : (classes : List ClassTree) (f : MemberId) → is_one_of f (statics_of classes) ≡ true → IsPlaced classes f.desc
placed [] f e = cc
placed (t ∷ ts) f e = elim (one_either f (statics_in t) (statics_of ts) (sym (ap (is_one_of f)
    (flat_map-cons statics_in t
    ts)) ∙ e)) [
      | inl h ↦ (
          let r = placed_in t.name t.fields f h in
          record { class = 0; place = r.0; tree = t; field = r.1; at = refl; there = r.2; is = r.3 }
          )
      | inr h ↦ (
          let r = placed ts f h in
          record {
            class = suc r.class;
            place = r.place;
            tree = r.tree;
            field = r.field;
            at = r.at;
            there = r.there;
            is = r.is;
          }
          )
    ]

reference_letter : (s : Sort) → is_number (letter_by s) ≡ false → is_reference_sort s ≡ true
reference_letter (Reference shape) e = refl
reference_letter Boolean e = cc
reference_letter Byte e = cc
reference_letter Short e = cc
reference_letter Int e = cc
reference_letter NoValue e = cc

number_letter : (s : Sort) → is_number (letter_by s) ≡ true → is_reference_sort s ≡ false
number_letter (Reference shape) e = cc
number_letter Boolean e = refl
number_letter Byte e = refl
number_letter Short e = refl
number_letter Int e = refl
number_letter NoValue e = refl

module _ (list : List ℕ) (p : Package) (sound : IsSound list p.files) (typed : AreTyped p.files)
    (descs : AreFieldDescs p.files) (codes : List MethodCode) (image : IsImage p.files codes p.image)
    (once : StandOnce p.files codes) where
  has : HasCells (order_of p.image) (statics_of (let files = p.files in files.classes))
  has = has_cells list p sound typed codes image once

  of_class : (f : MemberId) → is_one_of f (fields (order_of p.image)) ≡ true
      → IsPlaced (let files = p.files in files.classes) f.desc
  of_class f e = placed (let files = p.files in files.classes) f (let h = has in h.no_other f e)

  is_typed : (f : MemberId) → is_one_of f (fields (order_of p.image)) ≡ true → IsTyped f.desc
  is_typed f e = let r = of_class f e in subst IsTyped r.is (typed r.class r.place r.tree r.field r.at r.there)

  ordered : (k : ℕ) (f : MemberId) → slice_get (cell_order p.image) k ≡ Some f
      → is_one_of f (fields (order_of p.image)) ≡ true
  ordered k f e =
      let i = p.image in
      ap (is_one_of f) (append_assoc (map (λ (a : ArrayCell). a.field) i.arrays) i.nulls (i.zeros
      ++ map (λ (v : ValueCell). v.field) i.others)) ∙ one_at (cell_order p.image) k f e

  pub has_sorts : HasSorts p.image
  has_sorts = record {
    references = λ k f e. (
        let i = p.image in
        let rs = map (λ (a : ArrayCell). a.field) i.arrays ++ i.nulls in
        let ns = i.zeros ++ map (λ (v : ValueCell). v.field) i.others in
        let one = one_at rs k f e in
        let t = is_typed f (one_front f rs ns one) in
        let order = (let h = has in h.order) in
        sym t.reference ∙ reference_letter (field_sort f.desc) (order.references f one)
        );
    numbers = λ k f e. (
        let i = p.image in
        let rs = map (λ (a : ArrayCell). a.field) i.arrays ++ i.nulls in
        let ns = i.zeros ++ map (λ (v : ValueCell). v.field) i.others in
        let one = one_at ns k f e in
        let t = is_typed f (one_back f rs ns one) in
        let order = (let h = has in h.order) in
        sym t.reference ∙ number_letter (field_sort f.desc) (order.numbers f one)
        );
    typed = λ k f e. is_typed f (ordered k f e);
    described = λ k f e. (
        let r = of_class f (ordered k f e) in
        subst IsFieldDesc r.is (descs r.class r.place r.tree r.field r.at r.there)
        );
  }
