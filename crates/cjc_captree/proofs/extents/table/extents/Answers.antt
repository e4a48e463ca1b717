use Rattle.std.proofs.Common.{◌≡◌, ◌∙◌, ap, arith, sym, List, length}
use Rattle.cjc_exported.specs.World.Files.{Files}
use Rattle.cjc_classes.specs.declared.descriptor.parts.Extent.{Extent}
use Rattle.cjc_methods.specs.declared.layouts.laid.Laid.{Laid}
use Rattle.cjc_captree.specs.Working.Tables.{extents_by, found_in, nowhere, table_of}
use Rattle.cjc_captree.proofs.ExtentsLaws.Finding.{extents_long}
use Rattle.cjc_captree.proofs.ExtentsLaws.Joining.{joined}
use Rattle.cjc_classes.proofs.BytesGets.{written_back}
use Rattle.cjc_captree.proofs.extents.table.extents.Goals as goal

pub put_extents-requires : goal.put_extents-requires
put_extents-requires c =
    let ls = c.items-laid.result.now in
    let os = c.args.offsets.now in
    let count : length os ≡ length ls = c.requires.count ∙ sym c.requires.laid.count
    ∙ ap (λ (xs : List Laid). length xs) (sym c.items-laid.ensures) in
    let long = extents_long 0 os ls count in
    let same = c.items.ensures in
    let made = c.in_ok-extents.ensures in
    cc

pub returns : goal.returns
returns c = λ p files methods at.
    let w = c.args.world.now in
    let m = c.args.methods.now in
    let ls = c.items-laid.result.now in
    let os = c.args.offsets.now in
    let made : c.items.result.now ≡ extents_by 0 os ls = (let same = c.items.ensures in let is = c.in_ok-extents.ensures
    in cc) in
    let empty : c.deref_mut.result.now ≡ table_of w (λ _. nowhere) = (let same = c.deref_mut.ensures.value
    in let is = c.in_ok-rows.ensures in cc) in
    let same : length c.put_extents.new.rows ≡ length c.in_ok-rows.rows.items = c.put_extents.auto.rows
    ∙ ap (λ (q : List (List Extent)). length q) c.deref_mut.ensures.value in
    let len : c.in_ok-rows.rows.len ≡ length c.in_ok-rows.rows.items = omega arith in
    let put : c.of.result ≡ c.put_extents.new.rows = c.of.ensures
    ∙ written_back c.put_extents.new.rows c.in_ok-rows.rows.items c.in_ok-rows.rows.len same len in
    put
    ∙ c.put_extents.ensures w empty
    ∙ ap (λ (es : List Extent). table_of w (found_in ls es)) made
    ∙ ap (λ (xs : List Laid). table_of w (found_in xs (extents_by 0 os xs))) c.items-laid.ensures
    ∙ ap (λ (f : Files). table_of f (found_in m.laid (extents_by 0 os m.laid))) (sym files)
    ∙ joined p m os c.requires.laid methods at
