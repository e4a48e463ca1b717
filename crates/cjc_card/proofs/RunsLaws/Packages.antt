-- The packages of a group one after the other: their arrays and images at the start, and their static cells in a
-- report.
use Rattle.std.proofs.Common.{◌≡◌, ℕ, ◌+◌, ◌<◌, List, [], ◌∷◌, ◌++◌, length, map, drop, refl, sym, ap, ◌∙◌}
use Rattle.std.proofs.Common.{append_assoc, Bor, true, false}
use Rattle.std.proofs.lemmas.List.{append-nil, length-append, length-map}
use Rattle.std.specs.Prelude.{Option, Some, None, is_some, option_copied, option_map, slice_get}
use Rattle.cjc_card_semantics.specs.CapRead.declared.tree.StaticField.{StaticField}
use Rattle.cjc_script.specs.declared.report.FieldValue.{FieldValue}
use Rattle.cjc_card_semantics.specs.Machine.Loaded.{CellName, Part}
use Rattle.cjc_card_semantics.specs.Machine.Statics.{Image, first_array, first_arrays, first_image, first_images}
use Rattle.cjc_card_semantics.specs.Machine.ByToken.{shown_cell, shown_cells}
use Rattle.cjc_card_frame.specs.Kinds.{cells_in}
use Rattle.cjc_card.specs.Acts.States.{HeapByToken}
use Rattle.cjc_card.proofs.RunsLaws.Lists.{is_within, left_are, none_left}

-- the static field image of a package
abbrev pub statics_in : Option Part → Option StaticField
statics_in o = option_map (λ p. p.statics) o

-- a package whose image is there
pub package_there : (o : Option Part) (s : StaticField) → Some s ≡ statics_in o → (p : Part) × (Some p ≡ o)
    × (s ≡ p.statics)
package_there None s e = absurd (cc e)
package_there (Some p) s e = (p, refl, cc e)

-- no package is there
pub package_none : (o : Option Part) → None ≡ statics_in o → None ≡ o
package_none None e = refl
package_none (Some p) e = absurd (cc e)

-- an image that was found, or none
pub image_there : (r : Option (Bor StaticField)) (o : Option Part) → is_some r ≡ true → option_copied r ≡ statics_in o
    → (s : StaticField) × (Some s ≡ statics_in o)
image_there None o h e = absurd cc
image_there (Some b) o h e = (b.now, e)

pub image_none : (r : Option (Bor StaticField)) (o : Option Part) → is_some r ≡ false → option_copied r ≡ statics_in o
    → None ≡ statics_in o
image_none None o h e = e
image_none (Some b) o h e = absurd cc

module _ (parts : List Part) (k : ℕ) where
  -- a package of the number
  pub within : (s : StaticField) → Some s ≡ statics_in (slice_get parts k) → k < length parts
  within s e = let p = package_there (slice_get parts k) s e in is_within parts k p.0 p.1

  -- none is left
  pub none_behind : None ≡ statics_in (slice_get parts k) → drop k parts ≡ []
  none_behind e = none_left parts k (package_none (slice_get parts k) e)

  -- the arrays of one more
  pub arrays_more : (s : StaticField) (first heap more : HeapByToken) → Some s ≡ statics_in (slice_get parts k)
      → first ++ first_arrays parts ≡ heap ++ first_arrays (drop k parts) → more ≡ heap ++ map first_array s.array_inits
      → first ++ first_arrays parts ≡ more ++ first_arrays (drop (k + 1) parts)
  arrays_more s first heap more e before pushed =
      let p = package_there (slice_get parts k) s e in
      let arrays = map first_array s.array_inits in
      let rest = first_arrays (drop (k + 1) parts) in
      before
      ∙ ap (λ ps. heap ++ first_arrays ps) (left_are parts k p.0 p.1)
      ∙ ap (λ (t : StaticField). heap ++ (map first_array t.array_inits ++ rest)) (sym p.2)
      ∙ sym (append_assoc heap arrays rest)
      ∙ ap (λ (hs : HeapByToken). hs ++ rest) (sym pushed)

  -- the image of one more
  pub images_more : (s : StaticField) (first heap more : HeapByToken) (begun images next : List Image)
      → Some s ≡ statics_in (slice_get parts k) → begun ++ first_images (length first) parts ≡ images
      ++ first_images (length heap) (drop k parts) → more ≡ heap ++ map first_array s.array_inits → next ≡ images
      ++ first_image (length heap) s ∷ [] → begun ++ first_images (length first) parts ≡ next
      ++ first_images (length more) (drop (k + 1) parts)
  images_more s first heap more begun images next e before pushed put =
      let p = package_there (slice_get parts k) s e in
      let rest = first_images (length more) (drop (k + 1) parts) in
      let count : length heap + length s.array_inits ≡ length more =
      ap (λ n. length heap + n) (sym (length-map s.array_inits first_array))
      ∙ sym (length-append heap (map first_array s.array_inits))
      ∙ ap (λ (hs : HeapByToken). length hs) (sym pushed) in
      before
      ∙ ap (λ ps. images ++ first_images (length heap) ps) (left_are parts k p.0 p.1)
      ∙ ap (λ (t : StaticField). images
      ++ (first_image (length heap) t ∷ first_images (length heap + length t.array_inits) (drop (k + 1) parts)))
      (sym p.2)
      ∙ ap (λ n. images ++ (first_image (length heap) s ∷ first_images n (drop (k + 1) parts))) count
      ∙ sym (append_assoc images (first_image (length heap) s ∷ []) rest)
      ∙ ap (λ (is : List Image). is ++ rest) (sym put)

  -- all arrays
  pub arrays_all : (first heap : HeapByToken) → None ≡ statics_in (slice_get parts k) → first ++ first_arrays parts
      ≡ heap ++ first_arrays (drop k parts) → heap ≡ first ++ first_arrays parts
  arrays_all first heap e before =
      sym (append-nil heap) ∙ ap (λ ps. heap ++ first_arrays ps) (sym (none_behind e)) ∙ sym before

  -- all images
  pub images_all : (first heap : HeapByToken) (begun images : List Image) → None ≡ statics_in (slice_get parts k)
      → begun ++ first_images (length first) parts ≡ images ++ first_images (length heap) (drop k parts)
      → images ≡ begun ++ first_images (length first) parts
  images_all first heap begun images e before =
      sym (append-nil images) ∙ ap (λ ps. images ++ first_images (length heap) ps) (sym (none_behind e)) ∙ sym before

  -- the static cells of one more
  pub cells_more : (s : StaticField) (images : List Image) (cells : List CellName) (fields more : List FieldValue)
      → Some s ≡ statics_in (slice_get parts k) → cells ≡ cells_in (slice_get parts k) → shown_cells 0 parts images
      ≡ fields ++ shown_cells k (drop k parts) images → more ≡ fields ++ map (shown_cell k images) cells
      → shown_cells 0 parts images ≡ more ++ shown_cells (k + 1) (drop (k + 1) parts) images
  cells_more s images cells fields more e named before put =
      let p = package_there (slice_get parts k) s e in
      let rest = shown_cells (k + 1) (drop (k + 1) parts) images in
      let own : p.0.cells ≡ cells = ap cells_in p.1 ∙ sym named in
      before
      ∙ ap (λ ps. fields ++ shown_cells k ps images) (left_are parts k p.0 p.1)
      ∙ ap (λ (cs : List CellName). fields ++ (map (shown_cell k images) cs ++ rest)) own
      ∙ sym (append_assoc fields (map (shown_cell k images) cells) rest)
      ∙ ap (λ (fs : List FieldValue). fs ++ rest) (sym put)

  -- all static cells
  pub cells_all : (images : List Image) (fields : List FieldValue) → None ≡ statics_in (slice_get parts k)
      → shown_cells 0 parts images ≡ fields ++ shown_cells k (drop k parts) images → fields ≡ shown_cells 0 parts images
  cells_all images fields e before =
      sym (append-nil fields) ∙ ap (λ ps. fields ++ shown_cells k ps images) (sym (none_behind e)) ∙ sym before
