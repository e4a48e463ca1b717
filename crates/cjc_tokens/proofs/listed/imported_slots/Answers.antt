use Rattle.std.proofs.Common.{◌≡◌, ◌∙◌, ◌∷◌, ap, sym, map}
use Rattle.std.specs.Prelude.{if◌then◌else◌}
use Rattle.std.proofs.lemmas.Result.{IfOk-weaker}
use Rattle.cjc_world.specs.Added.{added}
use Rattle.cjc_world.specs.Classes.{all_classes}
use Rattle.cjc_world.specs.Supertypes.{supertypes, upwards}
use Rattle.cjc_world.specs.Working.Known.{class_of}
use Rattle.cjc_tokens.specs.Lines.{Declared, Imported, line_at, line_in}
use Rattle.cjc_tokens.specs.Members.{all_methods}
use Rattle.cjc_tokens.specs.Slots.{listed_slots, slots}
use Rattle.cjc_tokens.specs.Working.{signs}
use Rattle.cjc_tokens.proofs.Once.{slots-once}
use Rattle.cjc_tokens.proofs.listed.imported_slots.Goals as goal

pub returns : goal.returns
returns c =
    let w = all_classes c.args.world.now in
    let k = class_of c.args.class in
    let tree = supertypes w k.supers in
    let classes = ap (map class_of) c.deref.ensures.value ∙ c.in_ok-classes.ensures in
    let all = ap (λ cs. listed_slots (all_methods cs)) classes
    ∙ slots-once w k k.supers tree (c.lookup_laws.ensures.are_supertypes w c.acyclic.ensures k.supers) in
    let line : line_at w k ≡ Imported (k ∷ upwards tree) = ap (λ b. if b then Imported (k ∷ upwards tree)
    else Declared k (added w k) (line_in w tree)) c.requires in
    IfOk-weaker c.listed.result _ (λ row. signs row.items ≡ slots (line_at w k)) (λ row h. h ∙ all
    ∙ ap slots (sym line)) c.listed.ensures
