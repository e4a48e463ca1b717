use Rattle.std.proofs.Common.{◌<◌, ◌^◌, length, sym, ap, subst}
use Rattle.cjc_types.specs.Flow.{Body}
use Rattle.cjc_types.specs.Tables.{IsTypeTable, rows_of}
use Rattle.cjc_types.proofs.Few.{insns_few}
use Rattle.cjc_types.specs.World.Classes.{all_classes}
use Rattle.cjc_flow.specs.Working.Kept.{Ranged}
use Rattle.cjc_flow.proofs.ranging.Ranging.new.Goals as goal

pub invariant_of-result : goal.invariant_of-result
invariant_of-result c =
    let of = c.requires.code in
    let method = c.new-method.ensures of.0 of.1 of.2 of.3 in
    let types = c.args.types.now in
    record {
      classes = all_classes c.args.world.now;
      typed = subst (λ (b : Body). IsTypeTable (all_classes c.args.world.now) b types) (sym method)
          (c.requires.types of.0 of.1 of.2 of.3);
      elements_are = c.in_ok-elements.ensures;
      first_is = c.in_ok-first.ensures;
      few = subst (λ (b : Body). length b.insns < 2 ^ 32) (sym method) (insns_few c.args.world.now c.args.code.now of.0
          of.1 of.2 of.3);
    }

pub returns : goal.returns
returns c = λ k m t of.
    let make : Body → Ranged = λ b. record { body = b; values = c.args.values; types = rows_of b c.args.types.now } in
    ap make (c.new-method.ensures k m t of)
