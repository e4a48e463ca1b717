use Rattle.std.proofs.Common.{◌≡◌, ◌<◌, ◌+◌, ◌∙◌, ◌++◌, ◌∷◌, [], ap, sym, subst, arith, drop, get_or, length}
use Rattle.std.specs.Prelude.{if◌then◌else◌, Some, slice_get}
use Rattle.std.proofs.lemmas.Option.{slice_get-get_or}
use Rattle.cjc_world.specs.Lookup.{member_at}
use Rattle.cjc_world.specs.Working.Known.{class_of}
use Rattle.cjc_components.specs.Descriptor.{no_member}
use Rattle.cjc_components.specs.ExportFile.{is_listed, method_entry, methods_from}
use Rattle.cjc_components.specs.Names.{member_token}
use Rattle.cjc_exported.specs.ExportFile.Working.Sources.{package_in}
use Rattle.cjc_exported.proofs.ExportFile.Piles.{piled}
use Rattle.cjc_world.proofs.BytesGets.{drop_at}
use Rattle.cjc_exported.proofs.export_file.own.put_own.Goals as goal

pub loop-place-preserved : goal.loop-place-preserved
loop-place-preserved c =
    let k = class_of c.args.class in
    let p = package_in c.args.source.now in
    let i = c.loop-place.place in
    let first = length k.fields in
    let m = get_or k.methods i no_member in
    let within : i < length k.methods = subst (λ n. i < n) c.member_count-place-end.ensures c.loop-place-test.true in
    let at : slice_get k.methods i ≡ Some m = slice_get-get_or k.methods i no_member within in
    let next : first + i + 1 ≡ first + (i + 1) = omega arith in
    piled c.put_listed.new.methods c.loop-place.methods (if is_listed k m
    then method_entry (member_token p (Some (member_at k (first + i)))) m ∷ []
    else []) (methods_from p k (first + (i + 1)) (drop (i + 1) k.methods)) _
    (c.in_ok-put_listed.ensures no_member)
    (ap (λ n. c.loop-place.methods
    ++ ((if is_listed k m then method_entry (member_token p (Some (member_at k (first + i)))) m ∷ [] else [])
    ++ methods_from p k n (drop (i + 1) k.methods))) (sym next)
    ∙ ap (λ xs. c.loop-place.methods ++ methods_from p k (first + i) xs) (sym (drop_at k.methods i m at))
    ∙ c.loop-place.invariant)
