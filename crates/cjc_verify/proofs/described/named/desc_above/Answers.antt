use Rattle.std.proofs.Common.{◌∙◌, ℕ, List, ap}
use Rattle.cjc_classes.specs.LowerComponents.Class.{superclass}
use Rattle.cjc_world.specs.Classes.{Class, class_named}
use Rattle.cjc_verify.specs.Named.{virtual_desc_in}
use Rattle.cjc_verify.specs.Pairs.{world}
use Rattle.cjc_verify.proofs.DescribedLaws.Entries.{by_declared, by_none}
use Rattle.cjc_verify.proofs.described.named.desc_above.Goals as goal

pub returns-in-Some : goal.returns-in-Some
returns-in-Some c =
    c.virtual_desc_in.ensures
    ∙ ap (λ (name : List ℕ). virtual_desc_in c.args.pair.now c.args.token (class_named (world c.args.pair.now) name))
    c.items.ensures
    ∙ by_declared (λ (d : Class). virtual_desc_in c.args.pair.now c.args.token (class_named (world c.args.pair.now)
    (superclass d))) c.args.pair.now.files.classes c.args.number c.in-Some.class.now c.in-Some.ensures

pub returns-in-None : goal.returns-in-None
returns-in-None c = by_none (λ (d : Class). virtual_desc_in c.args.pair.now c.args.token (class_named (world
    c.args.pair.now) (superclass d))) c.args.pair.now.files.classes c.args.number c.in-None.ensures
