use Rattle.std.specs.Prelude.{◌≡◌, []}
use Rattle.cjc_components.specs.Components.{components_of}
use Rattle.cjc_components.specs.Limits.{size_breaks}
use Rattle.cjc_convert.proofs.ConvertingLaws.Results.{both}
use Rattle.cjc_convert.proofs.ConvertingLaws.Shapes.{its_draft}
use Rattle.cjc_convert.proofs.ConvertingLaws.Stops.{keeps_limits}
use Rattle.cjc_convert.specs.Made.{AreCaps}
use Rattle.cjc_convert.proofs.converting.conversion.judged_components.Goals as goal

pub shaped_components-requires-clause-shaped : goal.shaped_components-requires-clause-shaped
shaped_components-requires-clause-shaped c =
    let (files, is) = c.requires.sound in
    let (p, shaped) = c.in_ok-shaped.ensures.shaped files is in
    (files, p, is, shaped)

pub returns-clause-made : goal.returns-clause-made
returns-clause-made c = λ files is.
    let list = c.args.list.now in
    let judged = c.args.judged.now in
    let s = c.in_ok-shaped.shaped in
    let (p, shaped) = c.in_ok-shaped.ensures.shaped files is in
    let by = is.judged_by in
    both c.shaped_components.result (λ t. t ≡ components_of p) (λ _. size_breaks p ≡ []) (AreCaps list files)
    (λ caps are small. record {
      unbroken = by.unbroken;
      whole = p;
      is_package = shaped.is_package;
      limits = keeps_limits list files judged is p shaped.is_package (its_draft list files s p shaped) shaped.words
          shaped.forms small;
      are = are;
    })
    (c.shaped_components.ensures.made files p is shaped) (c.shaped_components.ensures.sizes files p is shaped)

pub returns-clause-refused : goal.returns-clause-refused
returns-clause-refused c = λ files is.
    let (p, shaped) = c.in_ok-shaped.ensures.shaped files is in
    c.shaped_components.ensures.refused files p is shaped
