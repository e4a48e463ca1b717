use Rattle.std.proofs.Common.{◌≡◌, ◌∙◌, [], ◌∷◌, ap, sym, map}
use Rattle.std.proofs.lemmas.Result.{IfOk-weaker}
use Rattle.cjc_world.specs.Classes.{all_classes}
use Rattle.cjc_world.specs.Kin.{kin, once, upwards}
use Rattle.cjc_world.specs.Working.Known.{class_of}
use Rattle.cjc_tokens.specs.Lines.{Line, line_at}
use Rattle.cjc_tokens.specs.Members.{all_methods}
use Rattle.cjc_tokens.specs.Slots.{listed_slots, slots, token}
use Rattle.cjc_tokens.specs.Working.{signs}
use Rattle.cjc_key_tokens.specs.Walks.{called}
use Rattle.cjc_key_tokens.proofs.Listed.{slots_once}
use Rattle.cjc_key_tokens.proofs.Walked.{imported_line}
use Rattle.cjc_key_tokens.proofs.imported.imported_token.Goals as goal

pub returns : goal.returns
returns c =
    let files = c.args.world.now in
    let w = all_classes files in
    let is_kin = c.lookup_laws.ensures.is_kin w c.acyclic.ensures in
    let one_kin = c.lookup_laws.ensures.one_kin w in
    let s = called c.args.name.now c.args.desc.now in
    let k = class_of c.args.class in
    let row : signs c.in_ok-row.row.items ≡ listed_slots (all_methods (k ∷ once [] (upwards (kin w k.supers)))) =
    c.in_ok-row.ensures ∙ ap (λ cs. listed_slots (all_methods cs)) (ap (map class_of) c.deref.ensures.value ∙ c.in_ok-classes.ensures) in
    let all = slots_once w k k.supers (kin w k.supers) c.in_ok-row.row (is_kin k.supers) row in
    let line = imported_line files is_kin one_kin s k c.requires in
    IfOk-weaker c.as_byte.result (λ t. t ≡ c.token.result) (λ t. t ≡ token (slots (line_at w k)) s)
    (λ t h. h ∙ c.token.ensures ∙ ap (λ xs. token (signs xs) s) c.deref-2.ensures.value ∙ ap (λ ss. token ss s) all ∙ ap (λ (l : Line). token (slots l) s) (sym line)) c.as_byte.ensures
