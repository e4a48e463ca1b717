use Rattle.std.proofs.Common.{◌≡◌, ◌<◌, ◌+◌, ◌-◌, ◌∙◌, ap, sym, arith, map, drop, length, Bor}
use Rattle.std.specs.Prelude.{insert}
use Rattle.std.proofs.lemmas.List.{length-map}
use Rattle.cjc_ncode.specs.declared.narrow.NCatch.{NCatch}
use Rattle.cjc_layout.specs.Handlers.{inserted, table_order}
use Rattle.cjc_layout.specs.Working.{place_for}
use Rattle.cjc_layout.proofs.Orders.{place_inside, insert_place, map_insert, order_more}
use Rattle.cjc_ncode.proofs.BytesGets.{slice_get_at}
use Rattle.cjc_layout.proofs.handlers.table_order.Goals as goal

pub insert-requires : goal.insert-requires
insert-requires c =
    let now : Bor NCatch → NCatch = λ r. r.now in
    let d = c.index-catches-k.result in
    let p = place_inside d.target (map now c.deref.result.now) in
    let m = length-map c.deref.result.now now in
    omega (arith, p, m, c.place_for-place.ensures, c.deref.ensures.len)

pub loop-k-preserved-in-Continue-1 : goal.loop-k-preserved-in-Continue-1
loop-k-preserved-in-Continue-1 c =
    let now : Bor NCatch → NCatch = λ r. r.now in
    let d = c.index-catches-k.result in
    let cs = c.args.catches.now in
    let items = c.loop-k.order.items in
    let s : c.loop-k.k - 1 + 1 ≡ c.loop-k.k = omega (arith, c.loop-k-test.true) in
    let lt : c.loop-k.k - 1 < length cs = omega (arith, c.loop-k-test.true, c.loop-k.invariant.0) in
    let e = slice_get_at cs (c.loop-k.k - 1) d lt c.index-catches-k.is in
    let q : c.place_for-place.result ≡ place_for d.target (map now items) = c.place_for-place.ensures
    ∙ ap (λ xs. place_for d.target (map now xs)) c.deref.ensures.value in (
      omega (arith, lt),
      ap (map now) c.in_ok-insert.ensures.items ∙ map_insert now items c.place_for-place.result _
          ∙ ap (λ n. insert (map now items) n d) q ∙ insert_place d (map now items)
          ∙ ap (inserted d) c.loop-k.invariant.1
          ∙ ap (λ n. inserted d (table_order (drop n cs))) (sym s)
          ∙ order_more cs (c.loop-k.k - 1) d e (sym c.has_range.ensures ∙ c.if-has_range.true),
    )
