use Rattle.std.proofs.Common.{◌<◌, ◌++◌, ◌∙◌, sym, ap, subst, ℕ, List, length, get_or, map}
use Rattle.std.proofs.lemmas.Option.{slice_get-get_or}
use Rattle.cjc_pool.specs.Layout.OnCard.{handler_on_card}
use Rattle.cjc_pool.specs.Layout.declared.layout.Handler.{Handler as Placed}
use Rattle.cjc_components.specs.Names.{names}
use Rattle.cjc_pool.specs.NCode.declared.narrow.NMethod.{NMethod}
use Rattle.cjc_methods.proofs.ComponentLaws.Standing.{as_many_laid, by_keys, handlers_more, read_by, read_one}
use Rattle.cjc_methods.proofs.ComponentLaws.Standing.{read_there}
use Rattle.cjc_methods.proofs.component.handlers.all_handlers.Goals as goal

pub loop-k-preserved : goal.loop-k-preserved
loop-k-preserved c = λ p same offs can.
    let ms = c.args.methods.now in
    let ks = c.args.pool.now in
    let k = c.loop-k.k in
    let cs = c.items-codes.result.now in
    let ls = c.items-laid.result.now in
    let code = c.index-codes-k.result in
    let lt = c.loop-k-test.true in
    let lt2 = as_many_laid ms cs ls k c.requires.laid c.items-codes.ensures c.items-laid.ensures lt in
    let lt3 = subst (λ n. k < n) (sym c.requires.count) (subst (λ (xs : List NMethod). k < length xs)
    c.items-codes.ensures lt) in
    let l = get_or ls k c.index-laid-k.result in
    let at = get_or c.args.offsets.now k 0 in
    let r = read_there p ms ks c.args.offsets.now k code l at c.requires.laid same offs can
    (read_one cs ms.codes k code c.items-codes.ensures lt c.index-codes-k.is)
    (read_by ls ms.laid k c.index-laid-k.result c.items-laid.ensures lt2) (slice_get-get_or c.args.offsets.now k 0
    lt3) in
    handlers_more p ms ks c.args.offsets.now k code l at r c.loop-k.out c.put_handlers.new.out _
    (c.in_ok-put_handlers.ensures (names p) (by_keys p ks.keys can.keys)
    ∙ ap (λ (hs : List Placed). c.loop-k.out ++ map (handler_on_card (names p) c.first_of-first.result) hs)
    c.items.ensures
    ∙ ap (λ (first : ℕ). c.loop-k.out ++ map (handler_on_card (names p) first) l.layout.handlers)
    c.first_of-first.ensures.is)
    (c.loop-k.invariant p same offs can)
