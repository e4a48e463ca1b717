use Rattle.std.proofs.Common.{◌<◌, sym, subst, List, []}
use Rattle.std.specs.Prelude.{option_map}
use Rattle.cjc_bytes.specs.Breaks.{Break, IsFirstOf}
use Rattle.cjc_bytes.specs.Told.{break_of}
use Rattle.cjc_bytes.proofs.Firsts.{each_all, each_more, each_none}
use Rattle.cjc_bytes.proofs.Gets.{same_item}
use Rattle.cjc_methods.specs.Layouts.Working.Tries as tries
use Rattle.cjc_methods.specs.Layouts.Working.Tries.{AreAll, code_breaks}
use Rattle.cjc_methods.specs.declared.layouts.laid.Laid.{Laid}
use Rattle.cjc_methods.proofs.LayoutsLaws.Tested.{all_next, all_taken, where_member}
use Rattle.cjc_methods.proofs.layouts.layouts.lay_methods.Goals as goal

pub loop-k-init : goal.loop-k-init
loop-k-init c = record {
  first = λ p same. each_none (code_breaks p c.args.members.now) c.args.codes.now;
  laid = λ fine. subst (λ (ls : List Laid). AreAll c.args.world.now [] [] ls) (sym c.requires.none) tries.none;
}

pub loop-k-preserved : goal.loop-k-preserved
loop-k-preserved c =
    let k = c.loop-k.k in
    let ms = c.args.codes.now in
    let fs = c.args.members.now in
    let lt = c.loop-k-test.true in
    let lt2 = subst (λ n. k < n) c.requires.count lt in
    record {
      first = λ p same.
          each_more (code_breaks p fs) k ms c.index-codes-k.result (option_map break_of c.first-least.result) lt
          c.index-codes-k.is
          (c.first-least.ensures _ _ (c.loop-k.invariant.first p same)
          (subst (λ (bs : List Break). IsFirstOf bs (option_map break_of c.in_ok-broken.broken))
          (sym (where_member p fs k _ c.index-codes-k.result lt2 (same_item fs k _ lt2)))
          (c.in_ok-broken.ensures.first p same)));
      laid = all_next c.args.world.now fs ms k _ c.index-codes-k.result c.loop-k.laid c.lay_method.new.laid lt lt2
          c.index-codes-k.is (same_item fs k _ lt2) c.loop-k.invariant.laid c.in_ok-broken.ensures.put;
    }

pub returns-clause-first : goal.returns-clause-first
returns-clause-first c = λ p same. each_all (code_breaks p c.args.members.now) c.loop-k.k c.args.codes.now
    (option_map break_of c.loop-k.least) c.loop-k-test.false (c.loop-k.invariant.first p same)

pub returns-clause-laid : goal.returns-clause-laid
returns-clause-laid c = all_taken c.args.world.now c.args.members.now c.args.codes.now c.loop-k.k c.loop-k.laid
    c.requires.count c.loop-k-test.false c.loop-k.invariant.laid
