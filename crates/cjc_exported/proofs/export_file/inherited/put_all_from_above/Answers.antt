use Rattle.std.proofs.Common.{◌≡◌, ◌<◌, ◌+◌, ◌∙◌, ◌++◌, ◌∷◌, ap, sym, arith, drop, get_or, length}
use Rattle.std.specs.Prelude.{None, Some, option_map, slice_get}
use Rattle.std.proofs.lemmas.List.{length-map}
use Rattle.std.proofs.lemmas.Option.{get_or_from_slice_get, slice_get-get_or}
use Rattle.cjc_world.specs.Working.Known.{class_of}
use Rattle.cjc_components.specs.LowerTokens.Members.{Signature}
use Rattle.cjc_components.specs.LowerTokens.Working.{signature_in}
use Rattle.cjc_components.specs.ExportFile.{super_at, supers_from}
use Rattle.cjc_exported.specs.ExportFile.Working.Sources.{world_in}
use Rattle.cjc_exported.proofs.ExportFile.Methods.{slot-signed, supers-ended}
use Rattle.cjc_exported.proofs.ExportFile.Piles.{piled, piled-all}
use Rattle.cjc_world.proofs.BytesGets.{drop_at}
use Rattle.cjc_exported.proofs.export_file.inherited.put_all_from_above.Goals as goal

pub loop-token-preserved : goal.loop-token-preserved
loop-token-preserved c = λ ms is.
    let w = world_in c.args.source.now in
    let k = class_of c.args.class in
    let i = c.loop-token.token in
    let slots = c.args.slots.now in
    let row = c.args.row.now in
    let in_slots : i < length slots = omega (arith, c.loop-token-test.true, c.min-token-end.ensures) in
    let in_row : i < length row = omega (arith, c.loop-token-test.true, c.min-token-end.ensures) in
    let o = get_or slots i None in
    let at_slot : slice_get slots i ≡ Some o = slice_get-get_or slots i None in_slots in
    let r = slot-signed slots ms i o is at_slot in
    let f = get_or row i None in
    let at_row : slice_get row i ≡ Some f = slice_get-get_or row i None in_row in
    let old = c.loop-token.methods in
    piled c.put_at_slot.new.methods old (super_at w k i r.0 f) (supers_from w k (i + 1) (drop (i + 1) ms)
    (drop (i + 1) row)) _
    (c.in_ok-put_at_slot.ensures r.0 (ap (option_map signature_in) (get_or_from_slice_get slots i o _ at_slot) ∙ r.1)
    ∙ ap (λ g. old ++ super_at w k i r.0 g) (get_or_from_slice_get row i f _ at_row))
    (ap (λ xs. old ++ supers_from w k i xs (f ∷ drop (i + 1) row)) (sym (drop_at ms i r.0 r.2))
    ∙ ap (λ ys. old ++ supers_from w k i (drop i ms) ys) (sym (drop_at row i f at_row))
    ∙ c.loop-token.invariant ms is)

pub returns : goal.returns
returns c = λ ms is.
    let w = world_in c.args.source.now in
    let k = class_of c.args.class in
    let i = c.loop-token.token in
    let row = c.args.row.now in
    let counts : length ms ≡ length c.args.slots.now = sym (length-map ms (λ (s : Signature). Some s))
    ∙ ap length (sym is) ∙ length-map c.args.slots.now (option_map signature_in) in
    piled-all c.loop-token.methods (supers_from w k i (drop i ms) (drop i row)) _
    (supers-ended w k ms row i (λ p q. omega (arith, p, q, counts, c.loop-token-test.false, c.min-token-end.ensures)))
    (c.loop-token.invariant ms is)
