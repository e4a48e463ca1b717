use Rattle.std.proofs.Common.{◌≡◌, ◌∙◌, ◌∷◌, ap, sym, map}
use Rattle.std.specs.Prelude.{if◌then◌else◌}
use Rattle.cjc_world.specs.Added.{added}
use Rattle.cjc_world.specs.Classes.{all_classes}
use Rattle.cjc_world.specs.Lookup.{first}
use Rattle.cjc_world.specs.Supertypes.{supertypes, upwards}
use Rattle.cjc_world.specs.Working.Known.{class_of}
use Rattle.cjc_tokens.specs.Lines.{Declared, Imported, line_at, line_in}
use Rattle.cjc_tokens.specs.Members.{Signature, all_methods, is_virtual}
use Rattle.cjc_tokens.specs.Slots.{listed_slots, own, shown_token}
use Rattle.cjc_tokens.specs.Working.{signs, told_among}
use Rattle.cjc_tokens.proofs.Listings.{imported-meant}
use Rattle.cjc_tokens.proofs.told.imported_token.Goals as goal

pub returns : goal.returns
returns c =
    let w = all_classes c.args.world.now in
    let k = class_of c.args.class in
    let tree = supertypes w k.supers in
    let s : Signature = record { name = c.args.name.now; desc = c.args.desc.now } in
    let line : line_at w k ≡ Imported (k ∷ upwards tree) = ap (λ b. if b then Imported (k ∷ upwards tree)
    else Declared k (added w k) (line_in w tree)) c.requires in
    c.token_meant.ensures
    ∙ imported-meant w k (map class_of c.in_ok-classes.classes.items) k.supers tree s
    (c.lookup_laws.ensures.are_supertypes w c.acyclic.ensures k.supers) c.in_ok-classes.ensures
    (signs c.deref-4.result.now) (ap signs c.deref-4.ensures.value ∙ c.in_ok-row.ensures
    ∙ ap (λ ks. listed_slots (all_methods (map class_of ks))) c.deref.ensures.value)
    c.token.result (c.token.ensures ∙ c.in_ok-told.ensures s ∙ ap (λ ks. told_among (map class_of ks) s)
    c.deref-2.ensures.value)
    c.in_ok-method.method (c.in_ok-method.ensures ∙ ap (λ ks. first (own is_virtual s) (map class_of ks))
    c.deref-3.ensures.value)
    ∙ ap (λ l. shown_token l s) (sym line)
