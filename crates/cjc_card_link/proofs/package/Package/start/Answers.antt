use Rattle.std.proofs.Common.{refl, sym, ap, ◌∙◌, Some, None}
use Rattle.std.specs.Prelude.{map}
use Rattle.cjc_card_semantics.specs.CapRead.Decoder.Decoded.{header_of}
use Rattle.cjc_card_semantics.specs.Machine.Methods.{start_in}
use Rattle.cjc_card_link.specs.Described.{bytes_among}
use Rattle.cjc_card_link.specs.Group.{import_of, part_with}
use Rattle.cjc_card_link.proofs.Lengths.{header_here, start_found}
use Rattle.cjc_card_link.proofs.package.Package.start.Goals as goal

pub returns-in_default : goal.returns-in_default
returns-in_default c =
    let i = c.self.inside in
    let part = part_with (map import_of i.imports) i.part in
    let o = c.args.offset in
    start_found c.args.part part o None (bytes_among part.class part.descriptor o)
    (header_here part o i.begin c.items.result.now c.bytes_at-bytes.result.now None c.items.ensures
    c.self.invariant.begins c.bytes_at-bytes.ensures c.in_default.ensures.is) refl
    ∙ ap (start_in c.args.part o) c.self.view_is

pub start_at-requires-clause-offset : goal.start_at-requires-clause-offset
start_at-requires-clause-offset c =
    (c.self.invariant.are_small c.args.offset c.in-Some-get.length (sym c.in-Some-get.ensures)).0

pub start_at-requires-clause-length : goal.start_at-requires-clause-length
start_at-requires-clause-length c =
    (c.self.invariant.are_small c.args.offset c.in-Some-get.length (sym c.in-Some-get.ensures)).1

pub returns-in_default-get : goal.returns-in_default-get
returns-in_default-get c =
    let i = c.self.inside in
    let part = part_with (map import_of i.imports) i.part in
    let o = c.args.offset in
    start_found c.args.part part o (Some (header_of c.in-Some.header)) None
    (header_here part o i.begin c.items.result.now c.bytes_at-bytes.result.now (Some (header_of c.in-Some.header))
    c.items.ensures c.self.invariant.begins c.bytes_at-bytes.ensures c.in-Some.ensures.is)
    (c.in_default-get.ensures ∙ c.self.invariant.are_lengths o)
    ∙ ap (start_in c.args.part o) c.self.view_is

pub returns : goal.returns
returns c =
    let i = c.self.inside in
    let part = part_with (map import_of i.imports) i.part in
    let o = c.args.offset in
    ap (λ s. Some s) c.start_at.ensures
    ∙ start_found c.args.part part o (Some (header_of c.in-Some.header)) (Some c.in-Some-get.length)
    (header_here part o i.begin c.items.result.now c.bytes_at-bytes.result.now (Some (header_of c.in-Some.header))
    c.items.ensures c.self.invariant.begins c.bytes_at-bytes.ensures c.in-Some.ensures.is)
    (c.in-Some-get.ensures ∙ c.self.invariant.are_lengths o)
    ∙ ap (start_in c.args.part o) c.self.view_is
