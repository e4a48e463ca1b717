use Rattle.std.proofs.Common.{sym, ap, ◌∙◌, Some}
use Rattle.cjc_card.specs.Calls.{start_selected}
use Rattle.cjc_card.specs.Dispatch.{dispatched_interface}
use Rattle.cjc_card_heap.specs.declared.class.Class.{Class as ClassData}
use Rattle.cjc_card_heap.specs.Objects.{class_of}
use Rattle.cjc_card_lookups.specs.Tables.{loaded_of}
use Rattle.cjc_card_named.proofs.Selected.{none_abroad}
use Rattle.cjc_card_named.proofs.interfaces.start_on_class.Goals as goal

pub returns-in-Foreign : goal.returns-in-Foreign
returns-in-Foreign c =
    let l = loaded_of c.args.tables.now in
    none_abroad l (class_of c.args.interface) c.args.token
    ∙ ap (λ (k : ClassData). start_selected l (dispatched_interface l (Some (class_of k)) (class_of c.args.interface) c.args.token)) (sym c.in-Foreign.is)
