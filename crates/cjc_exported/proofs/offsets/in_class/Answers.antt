use Rattle.std.proofs.Common.{ℕ, List, Bool, ◌+◌, ◌*◌, ap, ◌∙◌, length}
use Rattle.cjc_lookup.specs.Parts.{complete_of}
use Rattle.cjc_sentences.specs.Spots.{first, in_info, numbered, unless}
use Rattle.cjc_sentences.proofs.Firsts.{joined}
use Rattle.cjc_exported.specs.Exported.{field_spot, method_spot}
use Rattle.cjc_exported.proofs.offsets.in_class.Goals as goal

pub returns : goal.returns
returns c =
    let at = c.args.at in
    let d = c.args.class.now in
    let whole = complete_of c.args.methods.now.names.now.parts.now in
    let fields = c.args.exported.now.fields in
    c.earlier-2.ensures ∙ joined c.earlier.result c.first_numbered-second.result _ _
    (c.earlier.ensures ∙ joined c.unless-own.result c.first_numbered-first.result _ _
    (c.unless-own.ensures ∙ ap (λ (b : Bool). first (unless b (in_info 10 at))) c.is_start.ensures)
    (c.first_numbered-first.ensures ∙ ap (λ (xs : List ℕ). first (numbered (λ o. 2) (field_spot d) 0 (at + 4) xs)) c.items-fields.ensures))
    (c.first_numbered-second.ensures ∙ ap (λ (xs : List ℕ). first (numbered (λ o. 2) (method_spot whole d) 0 (at + 4 + 2 * length xs) c.items.result.now)) c.items-fields.ensures
    ∙ ap (λ (xs : List ℕ). first (numbered (λ o. 2) (method_spot whole d) 0 (at + 4 + 2 * length fields) xs)) c.items.ensures)
