use Rattle.std.proofs.Common.{◌≡◌, ◌<◌, [], ◌∷◌, length, length-append, arith, sym, ap, subst, ◌∙◌}
use Rattle.std.specs.Prelude.{Some, slice_get}
use Rattle.cjc_world.specs.Working.Unchecked.{is_ready_of, is_number_ready}
use Rattle.cjc_world.proofs.Indexing.{got_some}
use Rattle.cjc_world.proofs.Adding.{added-here, added-made}
use Rattle.cjc_world.proofs.class_index.ClassIndex.added_rows.Goals as goal

pub loop-place-preserved : goal.loop-place-preserved
loop-place-preserved c =
    let files = c.args.self.now in
    let class = c.index-items-place.result in
    let within : c.loop-place.place < length files.classes = let e = c.in_ok-place-end.ensures in let t =
    c.loop-place-test.true in omega arith in
    let here : slice_get files.classes c.loop-place.place ≡ Some class =
    ap (λ cs. slice_get cs c.loop-place.place) (sym (c.items.ensures ∙ c.classes.ensures))
    ∙ sym (got_some c.items.result.now c.loop-place.place class (subst (λ cs. c.loop-place.place < length cs)
    (sym (c.items.ensures ∙ c.classes.ensures)) within) c.index-items-place.is) in
    record {
      count = ap length c.in_ok-push.ensures.items ∙ length-append c.loop-place.added.items
          (c.in_ok-added_where_ready.field-0 ∷ []) ∙ (let n = c.loop-place.invariant.count in omega arith);
      made = λ i l ready.
          ap (λ xs. slice_get xs i) c.in_ok-push.ensures.items
          ∙ added-made files c.loop-place.added.items c.in_ok-added_where_ready.field-0 c.loop-place.place
          (is_number_ready files c.args.rows.now) c.loop-place.invariant.count c.loop-place.invariant.made
          (λ h. c.in_ok-added_where_ready.ensures (ap (is_ready_of files c.args.rows.now c.loop-place.place) (sym here)
          ∙ h) ∙ added-here files c.loop-place.place class here) i l ready;
    }
