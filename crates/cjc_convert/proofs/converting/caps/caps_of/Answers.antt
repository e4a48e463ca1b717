use Rattle.std.proofs.Common.{◌∙◌, List, ap, map, sym}
use Rattle.cjc_components.specs.Methods.{first_method, placed_from}
use Rattle.cjc_components.specs.Package.{LaidMethod}
use Rattle.cjc_ncode.specs.PoolOrder.{pool_order}
use Rattle.cjc_convert.proofs.ConvertingLaws.Shapes.{its_codes}
use Rattle.cjc_convert.proofs.converting.caps.caps_of.Goals as goal

pub offsets-requires : goal.offsets-requires
offsets-requires c = let (files, p, is, shaped, fit) = c.requires in shaped.laid

pub methods_of-requires-clause-shaped : goal.methods_of-requires-clause-shaped
methods_of-requires-clause-shaped c = let (files, p, is, shaped, fit) = c.requires in (
  c.args.list.now,
  files,
  p,
  is,
  shaped,
)

pub returns : goal.returns
returns c = λ files p is shaped.
    let list = c.args.list.now in
    let s = c.args.shaped.now in
    let stand = c.in_ok-offsets.ensures.each
    ∙ ap (λ (ms : List LaidMethod). map (λ q. q.offset) (placed_from (first_method ms) ms)) (sym shaped.by_methods)
    in
    let pool = c.in_ok-pool.ensures in
    let keys = pool.keys ∙ ap pool_order (its_codes list files s p shaped) in
    let at = c.items.ensures ∙ stand in
    c.caps_with.ensures files p is shaped (c.items-2.ensures ∙ stand) keys (c.in_ok-written.ensures.method list files p
    is shaped at pool) (c.in_ok-written.ensures.locations list files p is shaped at pool)
