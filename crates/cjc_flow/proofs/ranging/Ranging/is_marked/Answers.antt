use Rattle.std.proofs.Common.{◌≡◌, ◌<◌, length, refl, sym, ap, ◌∙◌, subst}
use Rattle.cjc_fixpoint.specs.Kept.{mark_of}
use Rattle.cjc_types.specs.Flow.{Body}
use Rattle.cjc_types.specs.Marks.{is_marked}
use Rattle.cjc_flow.specs.Working.Kept.{Ranged}
use Rattle.cjc_flow.proofs.Marked.{marked_is}
use Rattle.cjc_flow.proofs.ranging.Ranging.is_marked.Goals as goal

pub returns : goal.returns
returns c =
    let body = ap (λ (r : Ranged). r.body) c.self.view_is in
    subst (λ (b : Body). c.is_marked.result ≡ is_marked b c.args.at) body
    (c.is_marked.ensures ∙ marked_is c.self.inside.method c.items.result.now c.args.at (c.items.ensures
    ∙ c.self.invariant.typed.marks) (λ e. subst (λ (b : Body). 0 < length b.insns) (sym body) (c.requires e))
    (mark_of c.items.result.now c.args.at) refl)
