use Rattle.cjc_shape.proofs.JudgedLaws.Selected.{judged_selectable, judged_whole}
use Rattle.cjc_shape.proofs.judged.judged_methods_are_selected.Goals as goal

pub returns-clause-selectable : goal.returns-clause-selectable
returns-clause-selectable c = λ list files judged is code class method tree table one free. judged_selectable list files
    judged is code class method tree table one free

pub returns-clause-whole : goal.returns-clause-whole
returns-clause-whole c = λ list files judged is code class method tree table one near. judged_whole list files judged is
    code class method tree table one near
