-- The fields that the static images of packages tell are those of their own classes.
use Rattle.std.proofs.Common.{◌≡◌, ℕ, zero, suc, sym, ap, ◌∙◌, Bool, true, false, List, [], ◌∷◌, filter, map, refl, ⊎_elim}
use Rattle.std.specs.Prelude.{◌||◌, Option, Some, None, option_map, slice_get}
use Rattle.cjc_bytes.specs.declared.fault.MemberId.{MemberId}
use Rattle.cjc_bytes.proofs.Gets.{get_mapped}
use Rattle.cjc_components.specs.Package.{Package}
use Rattle.cjc_joint_proof.specs.Begun.{AreBegun, all_files, all_images}
use Rattle.cjc_joint_proof.specs.Images.{IsFieldOf, TellOwnFields}
use Rattle.cjc_joint_proof.specs.Worlds.{AreApart}
use Rattle.cjc_joint_proof.proofs.PackageNames.{package_is}
use Rattle.cjc_jvm_semantics.specs.Group.{package_of}
use Rattle.cjc_token_proof.proofs.ByToken.Members.{behind_all, behind_one, either_field, front_all, front_one}
use Rattle.cjc_token_proof.proofs.ByToken.Members.{member_tells}
use Rattle.cjc_token_proof.proofs.TablesLaws.Statics.{has_cells}
use Rattle.cjc_token_proof.specs.ByToken.Cells.{HasCells, is_one_of}
use Rattle.cjc_token_proof.specs.Clinit.Fields.{is_cell}
use Rattle.cjc_token_proof.specs.Clinit.Image.{field_id}
use Rattle.cjc_token_proof.specs.NCode.PoolOrder.{same_member}
use Rattle.cjc_token_proof.specs.Tables.Known.{order_of, statics_of}
use Rattle.cjc_token_proof.specs.Tables.Known as known
use Rattle.cjc_world.specs.ClassFile.declared.tree.ClassTree.{ClassTree}
use Rattle.cjc_world.specs.ClassFile.declared.tree.FieldTree.{FieldTree}
use Rattle.cjc_world.specs.declared.image.ArrayCell.{ArrayCell}
use Rattle.cjc_world.specs.declared.image.StaticImage.{StaticImage}
use Rattle.cjc_world.specs.declared.image.ValueCell.{ValueCell}

class_of_field : (name : List ℕ) (fs : List FieldTree) (f : MemberId) → is_one_of f (map (field_id name) fs) ≡ true
    → f.class ≡ name
class_of_field name [] f e = cc
class_of_field name (g ∷ fs) f e = by (same_member (field_id name g) f) refl e (class_of_field name fs f)
  where
    by : (b : Bool) → same_member (field_id name g) f ≡ b → (b || is_one_of f (map (field_id name) fs)) ≡ true
        → (is_one_of f (map (field_id name) fs) ≡ true → f.class ≡ name) → f.class ≡ name
    by true h k rest = sym (ap (λ (m : MemberId). m.class) (member_tells (field_id name g) f h))
    by false h k rest = rest k

-- the class file that has it
record HasClass (classes : List ClassTree) (f : MemberId) : Type 0 where
  place : ℕ
  class : ClassTree
  there : slice_get classes place ≡ Some class
  name : f.class ≡ class.name

has_class : (classes : List ClassTree) (f : MemberId) → is_one_of f (statics_of classes) ≡ true → HasClass classes f
has_class [] f e = cc
has_class (c ∷ classes) f e = ⊎_elim
    (λ here. record {
      place = 0;
      class = c;
      there = refl;
      name = class_of_field c.name (filter is_cell c.fields) f here;
    })
    (λ rest. let r = has_class classes f rest in record {
      place = suc r.place;
      class = r.class;
      there = r.there;
      name = r.name;
    })
    (either_field (known.statics_in c) (statics_of classes) f e)

array_among : (arrays : List ArrayCell) (k : ℕ) (a : ArrayCell) → slice_get arrays k ≡ Some a
    → is_one_of a.field (map (λ (x : ArrayCell). x.field) arrays) ≡ true
array_among [] k a e = cc
array_among (x ∷ arrays) zero a e = let same : x ≡ a = cc in
    ap (λ (y : ArrayCell). is_one_of y.field (x.field ∷ map (λ (z : ArrayCell). z.field) arrays)) (sym same)
    ∙ front_one x.field (map (λ (z : ArrayCell). z.field) arrays)
array_among (x ∷ arrays) (suc k) a e =
    behind_one a.field x.field (map (λ (z : ArrayCell). z.field) arrays) (array_among arrays k a e)

value_among : (values : List ValueCell) (k : ℕ) (v : ValueCell) → slice_get values k ≡ Some v
    → is_one_of v.field (map (λ (x : ValueCell). x.field) values) ≡ true
value_among [] k v e = cc
value_among (x ∷ values) zero v e = let same : x ≡ v = cc in
    ap (λ (y : ValueCell). is_one_of y.field (x.field ∷ map (λ (z : ValueCell). z.field) values)) (sym same)
    ∙ front_one x.field (map (λ (z : ValueCell). z.field) values)
value_among (x ∷ values) (suc k) v e =
    behind_one v.field x.field (map (λ (z : ValueCell). z.field) values) (value_among values k v e)

module _ (packages : List Package) (begun : AreBegun packages) (apart : AreApart (all_files packages)) where
  its_cells : (q : ℕ) (p : Package) → slice_get packages q ≡ Some p
      → HasCells (order_of p.image) (statics_of (let files = p.files in files.classes))
  its_cells q p is = let b = begun q p is in has_cells b.list p b.sound b.typed b.codes b.image b.once

  its_files : (q : ℕ) (p : Package) → slice_get packages q ≡ Some p → slice_get (all_files packages) q ≡ Some p.files
  its_files q p is = get_mapped (λ (x : Package). x.files) packages q ∙ ap (option_map (λ (x : Package). x.files)) is

  -- a static field of a package is of its name
  its_field : (q : ℕ) (p : Package) → slice_get packages q ≡ Some p → (f : MemberId)
      → is_one_of f (statics_of (let files = p.files in files.classes)) ≡ true
      → IsFieldOf (all_files packages) q f
  its_field q p is f e =
      let files = p.files in
      let c = has_class files.classes f e in
      let d = c.class in
      record {
        files = files;
        member = its_files q p is;
        home = ap package_of c.name ∙ package_is files.package_name d.name (apart.own q c.place files d (record {
          member = its_files q p is;
          file = c.there;
        }));
      }

  -- the package that has an image
  record HasPackage (q : ℕ) (i : StaticImage) : Type 0 where
    package_there : Package
    is : slice_get packages q ≡ Some package_there
    image : package_there.image ≡ i

  of_image : (q : ℕ) (i : StaticImage) → slice_get (all_images packages) q ≡ Some i → HasPackage q i
  of_image q i e = by (slice_get packages q) refl (sym (get_mapped (λ (x : Package). x.image) packages q) ∙ e)
    where
      by : (o : Option Package) → slice_get packages q ≡ o → option_map (λ (x : Package). x.image) o ≡ Some i
          → HasPackage q i
      by None at f = cc
      by (Some p) at f = let same : p.image ≡ i = cc in record { package_there = p; is = at; image = same }

  pub own_fields : TellOwnFields (all_files packages) (all_images packages)
  own_fields = record {
    arrays = λ q k i a is at. (let r = of_image q i is in
        let p = r.package_there in
        let image = p.image in
        let h = its_cells q p r.is in
        let among = array_among image.arrays k a (ap (λ (j : StaticImage). slice_get j.arrays k) r.image ∙ at) in
        let o = order_of image in
        its_field q p r.is a.field (h.no_other a.field (front_all o.references o.numbers a.field (front_all (map (λ (x :
        ArrayCell). x.field) image.arrays) image.nulls a.field among))));
    others = λ q k i v is at. (let r = of_image q i is in
        let p = r.package_there in
        let image = p.image in
        let h = its_cells q p r.is in
        let among = value_among image.others k v (ap (λ (j : StaticImage). slice_get j.others k) r.image ∙ at) in
        let o = order_of image in
        its_field q p r.is v.field (h.no_other v.field (behind_all o.references o.numbers v.field (behind_all
        image.zeros (map (λ (x : ValueCell). x.field) image.others) v.field among))));
  }
