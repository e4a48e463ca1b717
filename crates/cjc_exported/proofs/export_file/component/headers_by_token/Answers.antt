use Rattle.std.proofs.Common.{◌≡◌, ◌≤◌, ◌<◌, ◌+◌, ◌∙◌, ◌++◌, ◌∷◌, [], ap, sym, subst, arith, drop, get_or, length, map}
use Rattle.std.specs.Prelude.{if◌then◌else◌, slice_get, unwrap_or, Some}
use Rattle.std.proofs.Math.ListN.{drop_of_length-le}
use Rattle.std.proofs.lemmas.Option.{slice_get-get_or}
use Rattle.cjc_world.specs.Classes.{Member}
use Rattle.cjc_world.specs.Lookup.{member_at}
use Rattle.cjc_world.specs.Working.Known.{class_of}
use Rattle.cjc_components.specs.LowerTokens.Methods.{is_open_bound}
use Rattle.cjc_components.specs.Descriptor.{no_member}
use Rattle.cjc_components.specs.Exports.{open_methods}
use Rattle.cjc_exported.proofs.ExportFile.Exporting.{opened}
use Rattle.cjc_exported.proofs.ExportFile.Piles.{piled, piled-all}
use Rattle.cjc_world.proofs.BytesGets.{drop_at}
use Rattle.cjc_exported.proofs.export_file.component.headers_by_token.Goals as goal

pub loop-place-preserved : goal.loop-place-preserved
loop-place-preserved c = λ h rows.
    let k = class_of c.args.class in
    let i = c.loop-place.place in
    let first = length k.fields in
    let m = get_or k.methods i no_member in
    let within : i < length k.methods = subst (λ n. i < n) c.member_count-place-end.ensures c.loop-place-test.true in
    let at : slice_get k.methods i ≡ Some m = slice_get-get_or k.methods i no_member within in
    let place : c.in_ok-member.member ≡ first + i = c.in_ok-member.ensures ∙ ap (λ n. n + i) c.field_count.ensures in
    let low : first ≤ first + i = omega arith in
    let high : first + i < first + length k.methods = omega (arith, within) in
    let value : c.offset_at-offset.result ≡ h (member_at k (first + i)) =
    c.offset_at-offset.ensures ∙ ap (λ n. unwrap_or (slice_get c.args.row.now n) 0) place
    ∙ ap (λ o. unwrap_or o 0) (rows (first + i) low high) in
    let next : first + i + 1 ≡ first + (i + 1) = omega arith in
    let old = c.loop-place.headers in
    piled c.put_header.new.headers old (if is_open_bound m then h (member_at k (first + i)) ∷ []
    else []) (map h (open_methods k (first + (i + 1)) (drop (i + 1) k.methods))) _
    (c.in_ok-put_header.ensures ∙ ap (λ (q : Member). old ++ (if is_open_bound q then c.offset_at-offset.result ∷ []
    else [])) (c.own_method.ensures no_member) ∙ ap (λ n. old ++ (if is_open_bound m then n ∷ [] else [])) value)
    (ap (λ n. old ++ ((if is_open_bound m then h (member_at k (first + i)) ∷ [] else [])
    ++ map h (open_methods k n (drop (i + 1) k.methods)))) (sym next)
    ∙ ap (λ q. old ++ q) (sym (ap (λ xs. map h (open_methods k (first + i) xs)) (drop_at k.methods i m at)
    ∙ opened h k (first + i) m (drop (i + 1) k.methods)))
    ∙ c.loop-place.invariant h rows)

pub returns : goal.returns
returns c = λ h rows.
    let k = class_of c.args.class in
    let i = c.loop-place.place in
    let past : length k.methods ≤ i = subst (λ n. n ≤ i) c.member_count-place-end.ensures c.loop-place-test.false in
    piled-all c.loop-place.headers (map h (open_methods k (length k.fields + i) (drop i k.methods))) _
    (ap (λ xs. map h (open_methods k (length k.fields + i) xs)) (drop_of_length-le k.methods past))
    (c.loop-place.invariant h rows)
