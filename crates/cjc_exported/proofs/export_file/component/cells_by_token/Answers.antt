use Rattle.std.proofs.Common.{◌≡◌, ◌+◌, ◌∙◌, ◌++◌, ◌∷◌, [], ap, sym, refl, drop, length, map}
use Rattle.std.specs.Prelude.{filter, if◌then◌else◌, option_map, slice_get, unwrap_or, Some}
use Rattle.std.proofs.Math.ListN.{drop_of_length-le}
use Rattle.std.proofs.lemmas.Option.{slice_get-map, slice_get_read}
use Rattle.cjc_components.specs.LowerTokens.Fields.{is_open_static}
use Rattle.cjc_exported.proofs.ExportFile.Piles.{mapped, piled, piled-all}
use Rattle.cjc_world.proofs.BytesGets.{drop_at}
use Rattle.cjc_exported.proofs.export_file.component.cells_by_token.Goals as goal

pub loop-place-preserved : goal.loop-place-preserved
loop-place-preserved c = λ g is.
    let all = c.args.fields.now in
    let i = c.loop-place.place in
    let f = c.index-fields-place.result in
    let at : slice_get all i ≡ Some f = slice_get_read all (length all) i f refl c.loop-place-test.true
    c.index-fields-place.is in
    let value : c.offset_at.result ≡ g f = c.offset_at.ensures ∙ ap (λ xs. unwrap_or (slice_get xs i) 0) is
    ∙ ap (λ o. unwrap_or o 0) (slice_get-map g all i ∙ ap (option_map g) at) in
    let old = c.loop-place.cells in
    piled c.put_cell.new.cells old (if is_open_static f then g f ∷ []
    else []) (map g (filter is_open_static (drop (i + 1) all))) _
    (c.in_ok-put_cell.ensures ∙ ap (λ n. old ++ (if is_open_static f then n ∷ [] else [])) value)
    (ap (λ q. old ++ q) (sym (ap (λ xs. map g (filter is_open_static xs)) (drop_at all i f at)
    ∙ mapped is_open_static g f (drop (i + 1) all))) ∙ c.loop-place.invariant g is)

pub returns : goal.returns
returns c = λ g is.
    let all = c.args.fields.now in
    piled-all c.loop-place.cells (map g (filter is_open_static (drop c.loop-place.place all))) _
    (ap (λ xs. map g (filter is_open_static xs)) (drop_of_length-le all c.loop-place-test.false))
    (c.loop-place.invariant g is)
