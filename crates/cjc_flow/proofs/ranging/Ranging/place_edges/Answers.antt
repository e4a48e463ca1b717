use Rattle.std.proofs.Common.{◌≡◌, Option, Some, slice_get, get_or, None, IfOk, sym, ap, ◌∙◌, subst}
use Rattle.std.proofs.lemmas.Option.{slice_get_within}
use Rattle.cjc_types.specs.Bytecode.declared.insn.JInsn.{JInsn}
use Rattle.cjc_flow.specs.Working.Kept.{Ranged, kept_place}
use Rattle.cjc_flow.proofs.Edges.{place_by, place_none}
use Rattle.cjc_flow.proofs.ranging.Ranging.place_edges.Goals as goal

pub insn_edges-requires : goal.insn_edges-requires
insn_edges-requires c = slice_get_within c.args.self.now.body.insns c.args.at c.in-Some.insn.now (sym (c.in-Some.ensures
    ∙ ap (λ (r : Ranged). slice_get r.body.insns c.args.at) c.self.view_is))

pub returns-in-Some-element_at : goal.returns-in-Some-element_at
returns-in-Some-element_at c =
    let r = c.args.self.now in
    let there : slice_get r.body.insns c.args.at ≡ Some c.in-Some.insn.now = sym (c.in-Some.ensures
    ∙ ap (λ (s : Ranged). slice_get s.body.insns c.args.at) c.self.view_is) in
    subst (λ (o : Option JInsn). IfOk c.insn_edges.result (λ es. es ≡ kept_place r c.args.at o (get_or r.types c.args.at
    None) c.args.before)) (sym there)
    (place_by r c.args.at c.in-Some.insn.now (get_or r.types c.args.at None) c.args.before c.in-Some-element_at.element
    c.insn_edges.result (sym c.in-Some-element_at.is ∙ c.element_at.ensures c.in-Some.insn.now there)
    (λ t is. c.insn_edges.ensures t is))

pub returns-in-None-element_at : goal.returns-in-None-element_at
returns-in-None-element_at c =
    let r = c.args.self.now in
    let there : slice_get r.body.insns c.args.at ≡ Some c.in-Some.insn.now = sym (c.in-Some.ensures
    ∙ ap (λ (s : Ranged). slice_get s.body.insns c.args.at) c.self.view_is) in
    c.new.ensures ∙ place_none r c.args.at c.in-Some.insn.now (get_or r.types c.args.at None) c.args.before
    (sym c.in-None-element_at.is ∙ c.element_at.ensures c.in-Some.insn.now there)
    ∙ ap (λ (o : Option JInsn). kept_place r c.args.at o (get_or r.types c.args.at None) c.args.before) (sym there)
