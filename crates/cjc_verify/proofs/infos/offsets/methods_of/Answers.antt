use Rattle.std.proofs.Common.{◌+◌, ◌∙◌, ◌++◌, ℕ, List, length, ap, sym}
use Rattle.cjc_bytes.specs.declared.fault.MemberId.{MemberId}
use Rattle.cjc_bytes.proofs.Gets.{get_below}
use Rattle.cjc_methods.specs.Working.Members.{places, written}
use Rattle.cjc_methods.proofs.Members.{added_long, class_methods}
use Rattle.cjc_world.specs.declared.found.Found.{Found}
use Rattle.cjc_world.specs.Classes.{all_classes}
use Rattle.cjc_verify.proofs.infos.offsets.methods_of.Goals as goal

pub added-requires : goal.added-requires
added-requires c = get_below c.args.world.now.classes c.args.number c.args.class.now c.requires

pub returns : goal.returns
returns c =
    let files = c.args.world.now in
    let n = c.args.number in
    let t = c.args.class.now in
    let front = written n (length t.fields) t.methods in
    let first = length t.fields + length t.methods in
    c.in_ok-put_methods.ensures
    ∙ ap (λ (row : List Found). (row ++ front) ++ places n first (length c.items-added.result.now)) c.new-row.ensures
    ∙ ap (λ (ids : List MemberId). front ++ places n first (length ids)) (c.items-added.ensures ∙ c.added.ensures)
    ∙ ap (λ (k : ℕ). front ++ places n first k) (added_long files n t c.requires)
    ∙ sym (class_methods n t (all_classes files))
