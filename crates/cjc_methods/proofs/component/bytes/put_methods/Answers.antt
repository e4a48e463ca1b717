use Rattle.std.proofs.Common.{◌≡◌, ◌<◌, ◌++◌, ◌∙◌, sym, ap, subst, List, length, get_or, map}
use Rattle.std.proofs.lemmas.Option.{slice_get-get_or}
use Rattle.cjc_components.specs.Methods.{placed_methods}
use Rattle.cjc_components.specs.Names.{names}
use Rattle.cjc_components.specs.Package.{Package}
use Rattle.cjc_pool.specs.NCode.declared.narrow.NMethod.{NMethod}
use Rattle.cjc_methods.specs.declared.layouts.laid.Laid.{Laid}
use Rattle.cjc_methods.specs.Layouts.Laid.{laid_methods}
use Rattle.cjc_methods.specs.Component.Emittable.{AreEmittable}
use Rattle.cjc_methods.specs.Component.Working.Parts.{flagged}
use Rattle.cjc_methods.proofs.ComponentLaws.Standing.{IsRead, as_many_laid, bytes_more, places_more}
use Rattle.cjc_methods.proofs.ComponentLaws.Standing.{read_by, read_one, read_there}
use Rattle.cjc_bytes.proofs.Gets.{any_default}
use Rattle.cjc_methods.proofs.component.bytes.put_methods.Goals as goal

pub emit-requires : goal.emit-requires
emit-requires c =
    let ms = c.args.methods.now in
    let k = c.loop-k.k in
    let cs = c.items-codes.result.now in
    let ls = c.items-laid.result.now in
    let lt = c.loop-k-test.true in
    let lt2 = as_many_laid ms cs ls k c.requires.laid c.items-codes.ensures c.items-laid.ensures lt in
    c.requires.laid.each k c.index-codes-k.result (get_or ls k c.index-laid-k.result)
    (read_one cs ms.codes k c.index-codes-k.result c.items-codes.ensures lt c.index-codes-k.is)
    (read_by ls ms.laid k c.index-laid-k.result c.items-laid.ensures lt2)

pub loop-k-preserved : goal.loop-k-preserved
loop-k-preserved c =
    let ms = c.args.methods.now in
    let ks = c.args.pool.now in
    let k = c.loop-k.k in
    let cs = c.items-codes.result.now in
    let ls = c.items-laid.result.now in
    let os = c.args.offsets.now in
    let code = c.index-codes-k.result in
    let lt = c.loop-k-test.true in
    let lt2 = as_many_laid ms cs ls k c.requires.laid c.items-codes.ensures c.items-laid.ensures lt in
    let lt3 = subst (λ n. k < n) (sym c.requires.count) (subst (λ (xs : List NMethod). k < length xs)
    c.items-codes.ensures lt) in
    let l = get_or ls k c.index-laid-k.result in
    let at = get_or os k 0 in
    let emitted = c.in_ok-emitted.emitted in
    let read : (p : Package) → p.methods ≡ laid_methods ms → os ≡ map (λ q. q.offset) (placed_methods p)
    → AreEmittable p ks → IsRead p ms ks os k code l at = λ p same offs can. read_there p ms ks os k code l at
    c.requires.laid same offs can
    (read_one cs ms.codes k code c.items-codes.ensures lt c.index-codes-k.is)
    (read_by ls ms.laid k c.index-laid-k.result c.items-laid.ensures lt2) (slice_get-get_or os k 0 lt3) in
    record {
      bytes = λ p same offs can.
          let r = read p same offs can in
          bytes_more p ms ks os k code l at r emitted (c.in_ok-emitted.ensures (names p) r.emittable) c.loop-k.out
          c.put_method.new.out _
          (c.in_ok-put_method.ensures.bytes ∙ ap (λ (x : Laid). c.loop-k.out ++ flagged x.is_abstract emitted.bytes)
          (any_default ls k c.index-laid-k-in-loop-k.result c.index-laid-k.result lt2))
          (c.loop-k.invariant.bytes p same offs can);
      ones = λ p same offs can.
          let r = read p same offs can in
          let is = c.in_ok-emitted.ensures (names p) r.emittable in
          places_more p ms ks os k code l at r 1 emitted.ones is.ones c.loop-k.ones c.put_method.new.ones _
          c.in_ok-put_method.ensures.ones (c.loop-k.invariant.ones p same offs can);
      twos = λ p same offs can.
          let r = read p same offs can in
          let is = c.in_ok-emitted.ensures (names p) r.emittable in
          places_more p ms ks os k code l at r 2 emitted.twos is.twos c.loop-k.twos c.put_method.new.twos _
          c.in_ok-put_method.ensures.twos (c.loop-k.invariant.twos p same offs can);
    }
