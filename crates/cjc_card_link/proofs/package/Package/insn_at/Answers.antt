use Rattle.std.proofs.Common.{ℕ, List, ap, ◌∙◌}
use Rattle.cjc_card_semantics.specs.Machine.Loaded.{Part}
use Rattle.cjc_card_semantics.specs.Machine.Methods.{methods_begin}
use Rattle.cjc_card_frame.specs.Codes.{insn_at}
use Rattle.cjc_card_link.proofs.package.Package.insn_at.Goals as goal

pub returns-clause-is : goal.returns-clause-is
returns-clause-is c =
    let i = c.self.inside in
    let code = c.args.code in
    c.insn_at.ensures.is
    ∙ ap (λ (xs : List ℕ). insn_at xs i.begin code.first code.end c.args.at) c.items.ensures
    ∙ ap (λ (n : ℕ). insn_at i.part.method.now.methods n code.first code.end c.args.at) c.self.invariant.begins
    ∙ ap (λ (q : Part). insn_at q.method.methods (methods_begin q) code.first code.end c.args.at) c.self.view_is
