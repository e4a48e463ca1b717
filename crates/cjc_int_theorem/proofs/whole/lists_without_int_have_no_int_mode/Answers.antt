use Rattle.std.proofs.Common.{◌≡◌, sym, ◌∙◌, true, false}
use Rattle.cjc_int_theorem.proofs.whole.lists_without_int_have_no_int_mode.Goals as goal

pub returns : goal.returns
returns c = λ list files none code class method tree among of plain types least ranges ranged is.
    (let clash : true ≡ false = sym is.allowed ∙ none in absurd cc)
