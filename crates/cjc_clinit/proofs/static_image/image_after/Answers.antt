use Rattle.std.proofs.Common.{◌≡◌, ◌∙◌, ap, List}
use Rattle.std.specs.Prelude.{Result, Ok, Err, IfOk}
use Rattle.cjc_subset.specs.LowerClassFile.declared.tree.ClassTree.{ClassTree}
use Rattle.cjc_subset.specs.LowerWorld.declared.image.StaticImage.{StaticImage}
use Rattle.cjc_clinit.specs.Image.{IsImage, image_of}
use Rattle.cjc_clinit.proofs.Effects.{image-so}
use Rattle.cjc_clinit.proofs.static_image.image_after.Goals as goal

if-made : {E : Type 0} (P Q : StaticImage → Type 0) (r : Result StaticImage E) → ((i : StaticImage) → P i → Q i)
    → IfOk r P → IfOk r Q
if-made P Q (Ok i) f h = f i h
if-made P Q (Err e) f h = tt

pub returns : goal.returns
returns c =
    let w = c.args.world.now in
    let codes = c.args.codes.now in
    if-made (λ i. i ≡ image_of c.items.result.now c.args.arrays c.args.rows.now) (IsImage w codes) c.image_of.result
    (λ i is. image-so w codes c.args.arrays c.args.rows.now i c.requires (is
    ∙ ap (λ (q : List ClassTree). image_of q c.args.arrays c.args.rows.now) (c.items.ensures ∙ c.classes.ensures)))
    c.image_of.ensures
