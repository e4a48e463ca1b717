use Rattle.std.proofs.Common.{ap, ◌∙◌, ◌++◌, [], ◌∷◌, get_or, refl, None}
use Rattle.std.specs.Prelude.{Option}
use Rattle.cjc_world.specs.Classes.{all_classes}
use Rattle.cjc_world.specs.Lookup.{method_of_interface}
use Rattle.cjc_world.specs.declared.found.Found.{Found}
use Rattle.cjc_tokens.specs.Members.{Signature}
use Rattle.cjc_tokens.proofs.Means.{row-next, row-end}
use Rattle.cjc_tokens.proofs.class.interface_row.Goals as goal

pub loop-slot-preserved : goal.loop-slot-preserved
loop-slot-preserved c = λ ss e.
    let f : Signature → Option Found = λ s. method_of_interface (all_classes c.args.world.now) c.args.interface.now
    s.name s.desc in
    c.in_ok-push.ensures.ok ∙ ap (λ r. r ++ c.meant_in.result ∷ []) (c.loop-slot.invariant ss e)
    ∙ row-next f ss c.args.methods.now c.loop-slot.slot-index None (get_or c.args.methods.now c.loop-slot.slot-index
    None) c.meant_in.result c.loop-slot-test.true refl e c.meant_in.ensures

pub returns : goal.returns
returns c = λ ss e.
    c.loop-slot.invariant ss e ∙ row-end (λ s. method_of_interface (all_classes c.args.world.now) c.args.interface.now
    s.name s.desc) ss c.args.methods.now c.loop-slot.slot-index c.loop-slot-test.false e
