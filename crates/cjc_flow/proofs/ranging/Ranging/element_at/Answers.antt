use Rattle.std.proofs.Common.{◌≡◌, List, Option, Some, None, slice_get, get_or, ap, ◌∙◌, subst}
use Rattle.cjc_range.specs.Span.{Span}
use Rattle.cjc_types.specs.Bytecode.declared.insn.JInsn.{JInsn}
use Rattle.cjc_flow.specs.Working.Given.{element_at}
use Rattle.cjc_flow.specs.Working.Kept.{Ranged}
use Rattle.cjc_flow.proofs.Loading.{element_kept}
use Rattle.cjc_flow.proofs.ranging.Ranging.element_at.Goals as goal

pub returns : goal.returns
returns c = subst (λ (r : Ranged). (insn : JInsn) → slice_get r.body.insns c.args.at ≡ Some insn
    → c.kept_at.result ≡ element_at insn (get_or r.types c.args.at None)) c.self.view_is
    (λ insn is. c.kept_at.ensures ∙ ap (λ (es : List (Option Span)). get_or es c.args.at None) c.items.ensures
    ∙ element_kept c.self.inside.method c.self.inside.types.now c.self.inside.elements c.self.invariant.elements_are
    c.args.at insn is)
