use Rattle.std.proofs.Common.{◌≡◌, ◌<◌, ◌+◌, List, [], ◌∷◌, Bool, ap, ◌∙◌, arith, length, get_or, length-append}
use Rattle.cjc_capread.specs.declared.tree.ClassEntry.{ClassEntry}
use Rattle.cjc_check_tables.specs.Links.Leaving.{leaves_among}
use Rattle.cjc_check_tables.proofs.LinksLaws.Leaving.{leaving_more}
use Rattle.cjc_check_tables.proofs.links.tables.leaving_of.Goals as goal

pub loop-class-preserved : goal.loop-class-preserved
loop-class-preserved c =
    let info = c.args.names.now.parts.now.class.now in
    let table = c.loop-class.leaving in
    let i = c.loop-class.class-index in
    let x = c.class-item.result in
    let q = c.items-class-items.ensures in
    let m : length c.items-class-items.result.now ≡ length info.classes = ap (λ (xs : List ClassEntry). length xs) q in
    let test = c.loop-class-test.true in
    let lt : i < length info.classes = omega (arith, m, test) in
    let is : x ≡ get_or info.classes i x = c.class-item.is ∙ ap (λ (xs : List ClassEntry). get_or xs i x) q in
    let len : length table ≡ i = c.loop-class.invariant.1 in
    let n = c.in_ok-push.ensures.ok in
    let l : length c.push.new.self ≡ length table + 1 = ap (λ (bs : List Bool). length bs) n
    ∙ length-append table (c.leaves-is_leaving.result ∷ []) in (
      leaving_more info table c.push.new.self i x c.leaves-is_leaving.result lt is len n
          (c.leaves-is_leaving.ensures ∙ ap (λ (bs : List Bool). leaves_among info (length bs) x.superclass)
          c.items.ensures) c.loop-class.invariant.0,
      omega (arith, l, len),
    )
