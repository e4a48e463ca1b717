-- What Export says of a class, by the offsets of a package.
use Rattle.std.proofs.Common.{◌≡◌, ℕ, ◌+◌, ◌≤◌, ◌<◌, refl, sym, ap, subst, ◌∙◌, arith, Bool, true, false, List, [], ◌∷◌}
use Rattle.std.proofs.Common.{◌++◌, length, map}
use Rattle.std.specs.Prelude.{Option, Some, None, if◌then◌else◌, option_and_then, option_map, slice_get, unwrap_or}
use Rattle.std.proofs.lemmas.Option.{slice_get-map}
use Rattle.cjc_components.specs.LowerCapRead.declared.tree.ClassRef.{ClassRef}
use Rattle.cjc_components.specs.LowerCapRead.declared.tree.ExportedClass.{ExportedClass}
use Rattle.cjc_world.specs.ClassFile.declared.tree.ClassTree.{ClassTree}
use Rattle.cjc_world.specs.ExportFile.declared.tree.ExportTree.{ExportTree}
use Rattle.cjc_world.specs.declared.found.Found.{Found}
use Rattle.cjc_world.specs.Classes.{Member, Class, class_at}
use Rattle.cjc_world.specs.Lookup.{member_at}
use Rattle.cjc_components.specs.LowerTokens.Methods.{is_open_bound}
use Rattle.cjc_components.specs.LowerCardSemantics.Machine.Classes.{Own, External, external_from, or_else, token_named}
use Rattle.cjc_components.specs.LowerClinit.Image.{field_id}
use Rattle.cjc_components.proofs.VTableNumbers.{at-tree}
use Rattle.cjc_components.specs.Package.{Package, world}
use Rattle.cjc_components.specs.Class.{fields_in}
use Rattle.cjc_components.specs.Exports.{export, export_with, exported_class, exported_classes, open_methods}
use Rattle.cjc_components.specs.Methods.{method_offset}
use Rattle.cjc_components.specs.Names.{class_offset, class_ref, ref_to}
use Rattle.cjc_components.specs.Statics.{cell_offset}
use Rattle.cjc_exported.specs.declared.export_file.component.Offsets.{Offsets}
use Rattle.cjc_exported.specs.ExportFile.Offsets.{AreOffsets, offset_at}
use Rattle.cjc_exported.specs.ExportFile.Working.Exported.{offset_in, ref_offset, row_at}

-- ---- the offset of a class

-- a class of an export file has none
external-offset : (n : ℕ) (trees : List ExportTree) (name : List ℕ)
    → offset_in (ref_to (unwrap_or (external_from n trees name) (Own 0 0))) ≡ 0
external-offset n [] name = refl
external-offset n (t ∷ trees) name = by (token_named t.classes name) (external-offset (n + 1) trees name)
  where
    by : (o : Option ℕ) → offset_in (ref_to (unwrap_or (external_from (n + 1) trees name) (Own 0 0))) ≡ 0
        → offset_in (ref_to (unwrap_or (or_else (option_map (External n) o) (external_from (n + 1) trees name))
        (Own 0 0))) ≡ 0
    by None e = e
    by (Some token) e = refl

ref-class : (p : Package) (name : List ℕ) → offset_in (class_ref p name) ≡ unwrap_or (class_offset p name) 0
ref-class p name = by (class_offset p name)
  where
    by : (o : Option ℕ)
        → offset_in (ref_to (unwrap_or (or_else (option_map (Own 0) o) (let files = p.files
        in external_from 0 files.exports name)) (Own 0 0))) ≡ unwrap_or o 0
    by None = let files = p.files in external-offset 0 files.exports name
    by (Some offset) = refl

pub offset-of-class : (p : Package) (o : Offsets) (c : Class) → AreOffsets p o → class_at (world p) false c.number
    ≡ Some c → ref_offset o.refs.now c.number ≡ unwrap_or (class_offset p c.name) 0
offset-of-class p o c all there = ap (λ (r : Option ClassRef). unwrap_or (option_map offset_in r) 0)
    (all.refs c.number c there) ∙ ref-class p c.name

-- ---- those of its members

row-of : (rows : List (List ℕ)) (n : ℕ) (row : List ℕ) → slice_get rows n ≡ Some row → row_at rows n ≡ row
row-of rows n row e = ap (λ (r : Option (List ℕ)). unwrap_or r []) e

pub cells-of-class : (p : Package) (o : Offsets) (c : Class) → AreOffsets p o → class_at (world p) false c.number
    ≡ Some c
    → (let files = p.files in row_at o.cells.now c.number ≡ map (λ f. cell_offset p.image (field_id c.name f))
    (fields_in (slice_get files.classes c.number)))
cells-of-class p o c all there =
    let files = p.files in
    let t = at-tree files c.number c there in
    let cell : ClassTree → List ℕ = λ t. map (λ f. cell_offset p.image (field_id t.name f)) t.fields in
    ap (λ (rows : List (List ℕ)). row_at rows c.number) all.cells
    ∙ row-of (map cell files.classes) c.number (cell t.0) (slice_get-map cell files.classes c.number
    ∙ ap (option_map cell) t.1)
    ∙ ap (λ (d : Class). map (λ f. cell_offset p.image (field_id d.name f)) t.0.fields) (sym t.2)
    ∙ ap (λ (r : Option ClassTree). map (λ f. cell_offset p.image (field_id c.name f)) (fields_in r)) (sym t.1)

in-row : (rows : List (List ℕ)) (n k x : ℕ) → offset_at rows n k ≡ Some x → slice_get (row_at rows n) k ≡ Some x
in-row rows n k x e = by (slice_get rows n) e
  where
    by : (r : Option (List ℕ)) → option_and_then (λ (row : List ℕ). slice_get row k) r ≡ Some x
        → slice_get (unwrap_or r []) k ≡ Some x
    by None f = cc
    by (Some row) f = f

pub headers-of-class : (p : Package) (o : Offsets) (c : Class) → AreOffsets p o → class_at (world p) false c.number
    ≡ Some c
    → (k : ℕ) → length c.fields ≤ k → k < length c.fields + length c.methods
    → slice_get (row_at o.methods.now c.number) k ≡ Some (method_offset p (member_at c k))
headers-of-class p o c all there k low high = in-row o.methods.now c.number k (method_offset p (member_at c k))
    (all.methods c.number k c there low high)

pub opened : (h : Found → ℕ) (c : Class) (i : ℕ) (m : Member) (ms : List Member) → map h (open_methods c i (m ∷ ms))
    ≡ (if is_open_bound m then h (member_at c i) ∷ [] else []) ++ map h (open_methods c (i + 1) ms)
opened h c i m ms = by (is_open_bound m)
  where
    by : (b : Bool) → map h ((if b then member_at c i ∷ [] else []) ++ open_methods c (i + 1) ms)
        ≡ (if b then h (member_at c i) ∷ [] else []) ++ map h (open_methods c (i + 1) ms)
    by true = refl
    by false = refl

-- ---- the component

pub export-none : (p : Package) (cs : List ExportedClass) → cs ≡ map (exported_class p) (exported_classes p)
    → length cs ≡ 0 → None ≡ export p
export-none p cs is e = by (exported_classes p) (ap length (sym is) ∙ e)
  where
    by : (xs : List Class) → length (map (exported_class p) xs) ≡ 0 → None ≡ export_with p xs
    by [] f = refl
    by (x ∷ xs) f = absurd (omega (arith, f))

pub export-some : (p : Package) (cs : List ExportedClass) → cs ≡ map (exported_class p) (exported_classes p)
    → 0 < length cs → Some (record { classes = cs }) ≡ export p
export-some p cs is e = ap (λ (xs : List ExportedClass). Some (record { classes = xs })) is
    ∙ by (exported_classes p) (let f : 0 < length (map (exported_class p) (exported_classes p)) = subst
    (λ (xs : List ExportedClass). 0 < length xs) is e in f)
  where
    by : (xs : List Class) → 0 < length (map (exported_class p) xs)
        → Some (record { classes = map (exported_class p) xs }) ≡ export_with p xs
    by [] f = absurd (omega (arith, f))
    by (x ∷ xs) f = refl

pub class-made : (a b : ℕ) (xs ys us vs : List ℕ) → a ≡ b → xs ≡ ys → us ≡ vs
    → ◌≡◌ {A = ExportedClass} (record { class_offset = a; fields = xs; methods = us }) (record {
      class_offset = b;
      fields = ys;
      methods = vs;
    })
class-made a b xs ys us vs e f g =
    let made : ℕ → List ℕ → List ℕ → ExportedClass = λ n x u. record { class_offset = n; fields = x; methods = u } in
    ap (λ n. made n xs us) e ∙ ap (λ x. made b x us) f ∙ ap (λ u. made b ys u) g
