use Rattle.std.proofs.Common.{◌≡◌, ◌+◌, List, Option, None, arith, ap, ◌∙◌, drop, get_or}
use Rattle.std.specs.Prelude.{sum_by}
use Rattle.cjc_capread.specs.declared.tree.ClassDescriptor.{ClassDescriptor}
use Rattle.cjc_check_index.specs.Lookup.Parts.{complete_of}
use Rattle.cjc_check_rules.specs.Complete.{exported_size}
use Rattle.cjc_check_rules.specs.Exports.{in_exported}
use Rattle.cjc_check_rules.specs.Spots.{first}
use Rattle.cjc_check_rules.proofs.Firsts.{sum_step}
use Rattle.cjc_check_rules.proofs.Numbered.{numbered_more, numbered_all}
use Rattle.cjc_check_tables.specs.Exported.{exported_spot}
use Rattle.cjc_check_tables.proofs.ExportedLaws.Marks.{class_there}
use Rattle.cjc_check_tables.proofs.exported.offsets.class_spot.Goals as goal

pub loop-i-preserved : goal.loop-i-preserved
loop-i-preserved c =
    let whole = complete_of c.args.methods.now.names.now.parts.now in
    let xs = c.args.exported.now in
    let i = c.loop-i.i in
    let at = c.loop-i.at in
    let x = c.index-exported-i.result in
    let lt = c.loop-i-test.true in
    let n : c.size.result ≡ exported_size x = c.size.ensures in
    let s : sum_by exported_size (drop i xs) ≡ exported_size x + sum_by exported_size (drop (i + 1) xs) =
    sum_step exported_size i x xs lt c.index-exported-i.is in
    let h = c.loop-i.invariant.0 in
    let place : get_or c.items-places.result.now i None ≡ _ = ap (λ (ps : List (Option _)). get_or ps i None)
    c.items-places.ensures ∙ c.in_ok-places.ensures.each i x lt in
    let found = ap (λ (o : Option ClassDescriptor). first (in_exported whole at x o))
    (class_there whole.descriptor.classes c.items-classes.result.now i x (get_or xs i x) _ c.items-classes.ensures
    c.index-exported-i.is place) in (
      omega (arith, s, n, h),
      rw c.earlier-least.ensures (numbered_more exported_size (exported_spot whole) at _ i x xs
          c.loop-i.least c.in_ok-at_place.field-0 _ lt c.index-exported-i.is (omega (arith, n))
          (c.in_ok-at_place.ensures
          ∙ found) c.loop-i.invariant.1),
    )

pub returns : goal.returns
returns c = numbered_all exported_size (exported_spot (complete_of c.args.methods.now.names.now.parts.now)) c.loop-i.at
    c.loop-i.i c.args.exported.now c.loop-i.least _ c.loop-i-test.false c.loop-i.invariant.1
