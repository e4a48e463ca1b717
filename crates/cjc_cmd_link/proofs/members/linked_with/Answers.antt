use Rattle.std.proofs.Common.{◌≡◌, ◌∙◌, ◌<◌, ◌++◌, ◌∷◌, [], List, ap, get_or, length, subst, sym}
use Rattle.std.proofs.lemmas.List.{get_or-map, length-map}
use Rattle.cjc_group.specs.Members.{Member}
use Rattle.cjc_link_semantics.specs.ExportFile.declared.tree.ExportTree.{ExportTree}
use Rattle.cjc_cmd_link.proofs.Made.{each_more}
use Rattle.cjc_cmd_link.specs.Working.{linked_as, world_of, written_of}
use Rattle.cjc_cmd_link.proofs.members.linked_with.Goals as goal

pub bounds-trees-place : goal.bounds-trees-place
bounds-trees-place c =
    let place = c.loop-place.place in
    subst (λ n. place < n) (sym (ap length c.requires ∙ length-map c.args.members.now written_of))
    c.loop-place-test.true

pub loop-place-preserved : goal.loop-place-preserved
loop-place-preserved c =
    let place = c.loop-place.place in
    let members = c.args.members.now in
    let t = c.index-members-place.result in
    let tree = c.index-trees-place.result in
    let written : tree ≡ written_of t = c.index-trees-place.is
    ∙ ap (λ (ts : List ExportTree). get_or ts place tree) c.requires
    ∙ get_or-map written_of members place t tree c.loop-place-test.true
    ∙ sym (ap written_of c.index-members-place.is) in
    let one = c.new.ensures ∙ ap (λ (w : ExportTree). record {
      list = t.input.now.list;
      files = world_of t;
      written = w;
    }) written in
    each_more linked_as members place t _ _ c.loop-place-test.true c.index-members-place.is c.loop-place.invariant
    (c.in_ok-push.ensures.ok ∙ ap (λ (m : Member). c.loop-place.group ++ m ∷ []) one)
