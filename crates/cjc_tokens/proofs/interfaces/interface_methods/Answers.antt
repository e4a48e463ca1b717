use Rattle.std.proofs.Common.{◌∙◌, ap}
use Rattle.cjc_world.specs.Classes.{all_classes}
use Rattle.cjc_world.specs.Working.Known.{class_of}
use Rattle.cjc_tokens.specs.Working.{signs}
use Rattle.cjc_tokens.proofs.Asked.{methods-are}
use Rattle.cjc_tokens.proofs.interfaces.interface_methods.Goals as goal

pub returns : goal.returns
returns c = ap signs c.into_row.ensures ∙ methods-are (all_classes c.args.world.now) (class_of c.args.class)
    (signs c.in_ok-row.row.items) (signs c.put_above_where.new.row.items) (signs c.put_own.new.row.items)
    (ap signs (c.in_ok-row.ensures ∙ c.new.ensures.items)) c.in_ok-put_above_where.ensures c.in_ok-put_own.ensures
