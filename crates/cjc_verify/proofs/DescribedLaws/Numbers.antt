-- What the fields give one part of the order of cells behind the other.
use Rattle.std.proofs.Common.{◌≡◌, List, [], ◌++◌, map, sym, ap, ◌∙◌, append_assoc}
use Rattle.cjc_bytes.specs.declared.fault.MemberId.{MemberId}
use Rattle.cjc_bytes.proofs.Lists.{map_append, map_map}
use Rattle.cjc_classes.specs.LowerComponents.Statics.{cell_order}
use Rattle.cjc_world.specs.declared.image.ArrayCell.{ArrayCell}
use Rattle.cjc_world.specs.declared.image.StaticImage.{StaticImage}
use Rattle.cjc_world.specs.declared.image.ValueCell.{ValueCell}

pub in_parts : {B : Type 0} (of : MemberId → B) (image : StaticImage) (arrays : List ArrayCell) (nulls zeros : List
    MemberId) (others : List ValueCell)
    (none first second third all : List B) → arrays ≡ image.arrays → nulls ≡ image.nulls
    → zeros ≡ image.zeros → others ≡ image.others → none ≡ []
    → first ≡ none ++ map (λ (a : ArrayCell). of a.field) arrays
    → second ≡ first ++ map (λ (f : MemberId). of f) nulls
    → third ≡ second ++ map (λ (f : MemberId). of f) zeros
    → all ≡ third ++ map (λ (v : ValueCell). of v.field) others
    → all ≡ map (λ (f : MemberId). of f) (cell_order image)
in_parts {B} of image arrays nulls zeros others none first second third all ea en ez eo e0 e1 e2 e3 e4 =
    let a = map (λ (x : ArrayCell). x.field) image.arrays in
    let o = map (λ (x : ValueCell). x.field) image.others in
    let fa : first ≡ map of a = e1 ∙ ap (λ (q : List B). q ++ map (λ (x : ArrayCell). of x.field)
    arrays) e0 ∙ ap (map (λ (x : ArrayCell). of x.field)) ea ∙ sym (map_map of (λ (x : ArrayCell).
    x.field) image.arrays) in
    let fb : second ≡ map of a ++ map of image.nulls = e2 ∙ ap (λ (q : List B). q ++ map of nulls) fa
    ∙ ap (λ (q : List MemberId). map of a ++ map of q) en in
    let fc : third ≡ (map of a ++ map of image.nulls) ++ map of image.zeros = e3 ∙ ap (λ (q : List B). q
    ++ map of zeros) fb ∙ ap (λ (q : List MemberId). (map of a ++ map of image.nulls) ++ map of q) ez in
    let fd : all ≡ ((map of a ++ map of image.nulls) ++ map of image.zeros) ++ map of o = e4
    ∙ ap (λ (q : List B). q ++ map (λ (v : ValueCell). of v.field) others) fc
    ∙ ap (λ (q : List ValueCell). ((map of a ++ map of image.nulls) ++ map of image.zeros) ++ map (λ (v : ValueCell).
    of v.field) q) eo
    ∙ ap (λ (q : List B). ((map of a ++ map of image.nulls) ++ map of image.zeros) ++ q)
    (sym (map_map of (λ (x : ValueCell). x.field) image.others)) in
    fd
    ∙ append_assoc (map of a ++ map of image.nulls) (map of image.zeros) (map of o)
    ∙ append_assoc (map of a) (map of image.nulls) (map of image.zeros ++ map of o)
    ∙ ap (λ (q : List B). map of a ++ (map of image.nulls ++ q)) (sym (map_append of image.zeros o))
    ∙ ap (λ (q : List B). map of a ++ q) (sym (map_append of image.nulls (image.zeros ++ o)))
    ∙ sym (map_append of a (image.nulls ++ (image.zeros ++ o)))
