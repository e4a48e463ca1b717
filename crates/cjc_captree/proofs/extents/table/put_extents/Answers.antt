use Rattle.std.proofs.Common.{◌≡◌, ◌∙◌, ◌+◌, ◌-◌, ◌<◌, ap, sym, arith, List, drop, length, get_or}
use Rattle.std.proofs.lemmas.List.{drop_all}
use Rattle.cjc_methods.specs.declared.layouts.laid.Laid.{Laid}
use Rattle.cjc_captree.specs.Working.Tables.{found_in, nowhere, table_of}
use Rattle.cjc_captree.proofs.ExtentsLaws.Finding.{put_more}
use Rattle.cjc_classes.proofs.BytesGets.{any_default}
use Rattle.cjc_captree.proofs.extents.table.put_extents.Goals as goal

pub loop-k-init : goal.loop-k-init
loop-k-init c =
    let ls = c.args.laid.now in
    let n = length ls in
    record {
      within = omega arith;
      rows = λ files e. e ∙ ap (λ (xs : List Laid). table_of files (found_in xs (drop n c.args.extents.now)))
          (sym (drop_all n ls (omega arith)));
    }

pub loop-k-preserved : goal.loop-k-preserved
loop-k-preserved c =
    let k = c.loop-k.k in
    let ls = c.args.laid.now in
    let es = c.args.extents.now in
    let l = get_or ls (k - 1) c.index-laid-k.result in
    let x = get_or es (k - 1) nowhere in
    let some = c.loop-k-test.true in
    let le = c.loop-k.invariant.within in
    let same = c.requires in
    let back : k ≡ k - 1 + 1 = omega (arith, some) in
    let lt : k - 1 < length ls = omega (arith, some, le) in
    let lt2 : k - 1 < length es = omega (arith, some, le, same) in
    record {
      within = omega (arith, le);
      rows = λ files e.
          put_more files (k - 1) ls es l x c.loop-k.rows c.put.new.rows lt lt2 (any_default ls (k - 1)
          c.index-laid-k.result l lt) (any_default es (k - 1) nowhere x lt2) c.put.ensures
          (c.loop-k.invariant.rows files e ∙ ap (λ j. table_of files (found_in (drop j ls) (drop j es))) back);
    }

pub returns : goal.returns
returns c = λ files e.
    let past = c.loop-k-test.false in
    let none : c.loop-k.k ≡ 0 = omega (arith, past) in
    c.loop-k.invariant.rows files e
    ∙ ap (λ j. table_of files (found_in (drop j c.args.laid.now) (drop j c.args.extents.now))) none
