-- The static cells of several packages before the first entry, by name and in their images.
use Rattle.std.proofs.Common.{◌≡◌, ℕ, zero, suc, ◌+◌, ◌-◌, arith, refl, sym, ap, ◌∙◌, Bool, true, false, List, [], ◌∷◌}
use Rattle.std.proofs.Common.{◌++◌, map, length, replicate}
use Rattle.std.specs.Prelude.{Some, if◌then◌else◌}
use Rattle.cjc_token_proof.proofs.BytesLists.{map_append}
use Rattle.cjc_card_semantics.specs.Bytes.declared.fault.MemberId.{MemberId}
use Rattle.cjc_card_semantics.specs.Script.declared.report.FieldValue.{FieldValue}
use Rattle.cjc_card_semantics.specs.Script.declared.value.Value.{Value}
use Rattle.cjc_card_semantics.specs.Script.declared.value.Value.TheVariants.{Num, Null, Obj}
use Rattle.cjc_card_semantics.specs.Bytecode.Effects.{Byte, Int, Letter, Reference, Short, slot_of}
use Rattle.cjc_card_semantics.specs.CapRead.declared.tree.StaticField.{StaticField}
use Rattle.cjc_card_semantics.specs.Machine.Statics.{Image, first_image, number_bytes, objects_from}
use Rattle.cjc_exported.specs.Narrow.Rows.Package.{first_cell}
use Rattle.cjc_token_proof.specs.NCode.PoolOrder.{same_member}
use Rattle.cjc_token_proof.specs.ByToken.Cells.{Order, are_cells, bytes_of, image_of, letter, value_in, value_of}
use Rattle.cjc_joint_proof.specs.Cells.{HaveCells, all_fields, images_of}
use Rattle.cjc_joint_proof.specs.Images.{cell_behind, value_behind}
use Rattle.cjc_joint_proof.specs.Memory.{AllBegin, First, all_cells, fields_in, images_from, image_behind}
use Rattle.cjc_joint_proof.proofs.CellLaws.{all_images, joined, next_have}

abbrev image_with : List Value → List ℕ → Image
image_with references bytes = record { references = references; bytes = bytes }

-- ---- on the card

objects_move : (n k count : ℕ) → objects_from (n + k) count ≡ map (value_behind n) (objects_from k count)
objects_move n k zero = refl
objects_move n k (suc count) =
    let s : n + k + 1 ≡ n + (k + 1) = omega arith in
    ap (λ vs. Obj (n + k) ∷ vs) (ap (λ m. objects_from m count) s ∙ objects_move n (k + 1) count)

nulls_stay : (n count : ℕ) → replicate count Null ≡ map (value_behind n) (replicate count Null)
nulls_stay n zero = refl
nulls_stay n (suc count) = ap (λ vs. Null ∷ vs) (nulls_stay n count)

pub image_moves : (n : ℕ) (s : StaticField) → first_image n s ≡ image_behind n (first_image 0 s)
image_moves n s =
    let arrays = length s.array_inits in
    let z : n ≡ n + 0 = omega arith in
    let nulls = replicate (s.reference_count - arrays) Null in
    let bytes = replicate s.default_value_count 0 ++ s.values in
    ap (λ vs. image_with (vs ++ nulls) bytes) (ap (λ m. objects_from m arrays) z ∙ objects_move n 0 arrays)
    ∙ (ap (λ vs. image_with (map (value_behind n) (objects_from 0 arrays) ++ vs) bytes) (nulls_stay n
    (s.reference_count - arrays))
    ∙ ap (λ vs. image_with vs bytes) (sym (map_append (value_behind n) (objects_from 0 arrays) nulls)))

-- ---- by name

value_moves : (n : ℕ) (cells : List FieldValue) (f : MemberId)
    → value_of (map first_cell (map (cell_behind n) cells)) f ≡ value_behind n (value_of (map first_cell cells) f)
value_moves n [] f = refl
value_moves n (c ∷ cells) f = by (same_member c.field f) (value_moves n cells f)
  where
    by : (b : Bool) → value_of (map first_cell (map (cell_behind n) cells)) f ≡ value_behind n (value_of (map first_cell
        cells) f) → value_in (if b then Some (value_behind n c.value) else slot_of same_member (map first_cell (map
        (cell_behind n) cells)) f) ≡ value_behind n (value_in (if b then Some c.value else slot_of same_member (map
        first_cell cells) f))
    by true e = refl
    by false e = e

bytes_stay : (n : ℕ) (k : Letter) (v : Value) → number_bytes k (value_behind n v) ≡ number_bytes k v
bytes_stay n k (Num z) = refl
bytes_stay n k Null = refl
bytes_stay n Byte (Obj j) = refl
bytes_stay n Short (Obj j) = refl
bytes_stay n Int (Obj j) = refl
bytes_stay n Reference (Obj j) = refl

references_move : (n : ℕ) (cells : List FieldValue) (fs : List MemberId)
    → map (value_of (map first_cell (map (cell_behind n) cells))) fs
    ≡ map (value_behind n) (map (value_of (map first_cell cells)) fs)
references_move n cells [] = refl
references_move n cells (f ∷ fs) =
    ap (λ v. v ∷ map (value_of (map first_cell (map (cell_behind n) cells))) fs) (value_moves n cells f)
    ∙ ap (λ vs. value_behind n (value_of (map first_cell cells) f) ∷ vs) (references_move n cells fs)

numbers_stay : (n : ℕ) (cells : List FieldValue) (fs : List MemberId)
    → bytes_of (map first_cell (map (cell_behind n) cells)) fs ≡ bytes_of (map first_cell cells) fs
numbers_stay n cells [] = refl
numbers_stay n cells (f ∷ fs) =
    ap (λ v. number_bytes (letter f) v ++ bytes_of (map first_cell (map (cell_behind n) cells)) fs) (value_moves n cells
    f)
    ∙ (ap (λ bs. bs ++ bytes_of (map first_cell (map (cell_behind n) cells)) fs) (bytes_stay n (letter f) (value_of (map
    first_cell cells) f))
    ∙ ap (λ bs. number_bytes (letter f) (value_of (map first_cell cells) f) ++ bs) (numbers_stay n cells fs))

pub image_of_moves : (n : ℕ) (o : Order) (cells : List FieldValue)
    → image_of o (map first_cell (map (cell_behind n) cells)) ≡ image_behind n (image_of o (map first_cell cells))
image_of_moves n o cells =
    ap (λ vs. image_with vs (bytes_of (map first_cell (map (cell_behind n) cells)) o.numbers)) (references_move n cells
    o.references)
    ∙ ap (image_with (map (value_behind n) (map (value_of (map first_cell cells)) o.references))) (numbers_stay n cells
    o.numbers)

-- ---- all packages

joined_cells : (xs ys : List FieldValue) → map first_cell (xs ++ ys) ≡ map first_cell xs ++ map first_cell ys
joined_cells xs ys = map_append first_cell xs ys

pub images_begin : (n : ℕ) (group : List First) → AllBegin n group → HaveCells (fields_in group)
    → images_from n group ≡ images_of (fields_in group) (map first_cell (all_cells n group))
images_begin n [] all have = refl
images_begin n (p ∷ group) all have =
    let s = p.fields in
    let static = p.component in
    let next = n + length static.array_inits in
    let here = all.0 in
    let rest = images_begin next group all.1 (next_have s (fields_in group) have) in
    let own : first_image n static ≡ image_of s.order (map first_cell (map (cell_behind n) p.cells)) = image_moves n
    static ∙ (ap (image_behind n) here.image ∙ sym (image_of_moves n s.order p.cells)) in
    ap (λ i. i ∷ images_from next group) own
    ∙ (ap (λ is. image_of s.order (map first_cell (map (cell_behind n) p.cells)) ∷ is) rest
    ∙ (sym (all_images s (fields_in group) have (map first_cell (map (cell_behind n) p.cells)) (map first_cell
    (all_cells next group)) here.fit)
    ∙ ap (images_of (s ∷ fields_in group)) (sym (joined_cells (map (cell_behind n) p.cells) (all_cells next group)))))

-- all cells can hold their values
pub cells_fit : (n : ℕ) (group : List First) → AllBegin n group
    → are_cells (all_fields (fields_in group)) (map first_cell (all_cells n group)) ≡ true
cells_fit n [] all = refl
cells_fit n (p ∷ group) all =
    let s = p.fields in
    let static = p.component in
    let next = n + length static.array_inits in
    let here = all.0 in
    ap (are_cells (s.all ++ all_fields (fields_in group))) (joined_cells (map (cell_behind n) p.cells) (all_cells next
    group))
    ∙ joined s.all (all_fields (fields_in group)) (map first_cell (map (cell_behind n) p.cells)) (map first_cell
    (all_cells next group)) here.fit (cells_fit next group all.1)
