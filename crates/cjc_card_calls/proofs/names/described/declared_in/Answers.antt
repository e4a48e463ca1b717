use Rattle.std.proofs.Common.{List, ap, map, ◌∙◌}
use Rattle.std.specs.Prelude.{option_and_then, slice_get}
use Rattle.cjc_card_semantics.specs.Machine.Calls.{named_in_part}
use Rattle.cjc_card_link.specs.declared.names.MethodName.{MethodName}
use Rattle.cjc_card_link.specs.Names.{class_names_of, method_name_of}
use Rattle.cjc_card_link.specs.Tables.{loaded_of}
use Rattle.cjc_card_calls.specs.Names.Described.{described_among}
use Rattle.cjc_card_calls.proofs.names.described.declared_in.Goals as goal

pub returns-in-Some-part : goal.returns-in-Some-part
returns-in-Some-part c =
    let l = loaded_of c.args.tables.now in
    let p = c.args.part in
    let o = c.args.offset in
    let id = c.args.id.now in
    c.described_among.ensures
    ∙ ap (λ (ms : List MethodName). described_among p o id (map method_name_of ms)
    c.in-Some-part.components.descriptor.now) c.items.ensures
    ∙ ap (option_and_then (named_in_part p o id (class_names_of c.in-Some.names.now))) c.in-Some-part.ensures.1
    ∙ ap (option_and_then (λ names. option_and_then (named_in_part p o id names) (slice_get l.parts p)))
    c.in-Some.ensures

pub returns-in-None-part : goal.returns-in-None-part
returns-in-None-part c =
    let l = loaded_of c.args.tables.now in
    let p = c.args.part in
    let o = c.args.offset in
    let id = c.args.id.now in
    ap (option_and_then (named_in_part p o id (class_names_of c.in-Some.names.now))) c.in-None-part.ensures
    ∙ ap (option_and_then (λ names. option_and_then (named_in_part p o id names) (slice_get l.parts p)))
    c.in-Some.ensures

pub returns-in-None : goal.returns-in-None
returns-in-None c =
    let l = loaded_of c.args.tables.now in
    ap (option_and_then (λ names. option_and_then (named_in_part c.args.part c.args.offset c.args.id.now names)
    (slice_get l.parts c.args.part))) c.in-None.ensures
