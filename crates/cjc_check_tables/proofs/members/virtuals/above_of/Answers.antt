use Rattle.std.proofs.Common.{◌≡◌, ◌<◌, ◌+◌, List, [], ◌∷◌, Bool, ap, ◌∙◌, arith, length, get_or, map, length-append}
use Rattle.cjc_capread.specs.declared.tree.ClassEntry.{ClassEntry}
use Rattle.cjc_check_index.specs.Imported.Tokens.{all_tokens}
use Rattle.cjc_check_tables.specs.Members.Working.Above.{has_among}
use Rattle.cjc_check_tables.proofs.MembersLaws.Above.{above_more}
use Rattle.cjc_check_tables.proofs.members.virtuals.above_of.Goals as goal

pub loop-class-preserved : goal.loop-class-preserved
loop-class-preserved c =
    let info = c.args.names.now.parts.now.class.now in
    let exports = c.args.names.now.exports.now in
    let tables = c.loop-class.above in
    let i = c.loop-class.class-index in
    let x = c.class-item.result in
    let q = c.items-class-items.ensures in
    let m : length c.items-class-items.result.now ≡ length info.classes = ap (λ (xs : List ClassEntry). length xs) q in
    let test = c.loop-class-test.true in
    let lt : i < length info.classes = omega (arith, m, test) in
    let is : x ≡ get_or info.classes i x = c.class-item.is ∙ ap (λ (xs : List ClassEntry). get_or xs i x) q in
    let len : length tables ≡ i = c.loop-class.invariant.1 in
    let n = c.in_ok-push.ensures.ok in
    let row = c.in_ok-row.row in
    let l : length c.push.new.self ≡ length tables + 1 = ap (λ (rs : List (List Bool)). length rs) n
    ∙ length-append tables (row ∷ []) in (
      above_more info exports tables c.push.new.self i x row lt is len n
          (c.in_ok-row.ensures ∙ ap (λ (rs : List (List Bool)). map (has_among info exports (length rs) x.superclass)
          all_tokens) c.items.ensures) c.loop-class.invariant.0,
      omega (arith, l, len),
    )
