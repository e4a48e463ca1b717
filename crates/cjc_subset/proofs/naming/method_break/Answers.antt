use Rattle.std.proofs.Common.{subst, List}
use Rattle.std.specs.Prelude.{option_map}
use Rattle.cjc_code.specs.ClassFile.declared.tree.Catch.{Catch}
use Rattle.cjc_bytes.specs.Told.{break_of}
use Rattle.cjc_bytes.specs.Breaks.{IsFirstOf, each}
use Rattle.cjc_subset.specs.Names.{catch_breaks, method_breaks}
use Rattle.cjc_subset.proofs.naming.method_break.Goals as goal

pub returns : goal.returns
unfolding method_breaks
returns c = λ f e.
    let catches = subst (λ (ks : List Catch). IsFirstOf (each (λ _ k. catch_breaks c.args.world.now f c.args.class.now
    c.args.place c.args.method.now k) ks) (option_map break_of c.catches_break.result)) c.catches_of.ensures
    (c.catches_break.ensures f e) in
    c.first.ensures _ _ (c.insns_break.ensures f e) catches
