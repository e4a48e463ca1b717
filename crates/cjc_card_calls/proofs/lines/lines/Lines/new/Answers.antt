use Rattle.std.proofs.Common.{List, ap, ◌∙◌, map, Bool, Option, Some, None}
use Rattle.std.specs.Prelude.{if◌then◌else◌}
use Rattle.cjc_card_semantics.specs.Machine.Classes.{Class, or_else, upwards}
use Rattle.cjc_card_frame.specs.declared.heap.class.Class.{Class as ClassData}
use Rattle.cjc_card_frame.specs.Objects.{class_of}
use Rattle.cjc_card_link.specs.Tables.{loaded_of}
use Rattle.cjc_card_calls.specs.Lines.Lines.{line_by}
use Rattle.cjc_card_calls.proofs.lines.lines.Lines.new.Goals as goal

pub returns : goal.returns
returns c = λ x.
    let l = loaded_of c.args.tables.now in
    c.in_ok-note_all.ensures x
    ∙ ap (λ (o : Option (List Class)). or_else o (line_by l (map class_of c.items.result.now) x)) (c.empty-lines.ensures
    x)
    ∙ ap (λ (cs : List ClassData). line_by l (map class_of cs) x) c.items.ensures
    ∙ ap (λ (b : Bool). if b then Some (upwards l x) else None) (c.in_ok-classes.ensures x)
