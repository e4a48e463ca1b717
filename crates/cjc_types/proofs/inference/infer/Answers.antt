use Rattle.std.proofs.Common.{List, get_or, ap, ◌∙◌}
use Rattle.cjc_classfile.specs.Code.{CodeTree}
use Rattle.cjc_classfile.specs.declared.tree.ClassTree.{ClassTree}
use Rattle.cjc_classfile.specs.declared.tree.MethodTree.{MethodTree}
use Rattle.cjc_world.specs.Classes.{all_classes}
use Rattle.cjc_types.specs.Flow.{body_of}
use Rattle.cjc_types.specs.Tables.{IsMethodOf}
use Rattle.cjc_types.specs.Working.Told.{ToldAs}
use Rattle.cjc_types.proofs.Telling.{told_for, told_inferred, told_only, told_refused, told_breaks}
use Rattle.cjc_types.proofs.inference.infer.Goals as goal

-- what is told of the method that the code names
told : (c : goal.After-told) (k : ClassTree) (m : MethodTree) (t : CodeTree)
    → IsMethodOf c.args.world.now c.args.code.now k m t → ToldAs c.args.file.now k m c.infer_method-answer.result
    c.told.result
told c =
    told_for c.args.file.now c.args.world.now c.args.code.now c.index-items-code.result c.index-items-code-2.result
    c.infer_method-answer.result c.told.result
    (c.index-items-code.is ∙ ap (λ (ks : List ClassTree). get_or ks c.args.code.now.class c.index-items-code.result)
    (c.items.ensures ∙ c.classes.ensures))
    (c.index-items-code-2.is ∙ ap (λ (ms : List MethodTree). get_or ms c.args.code.now.method
    c.index-items-code-2.result) c.items-2.ensures)
    c.told.ensures

pub returns-clause-inferred : goal.returns-clause-inferred
returns-clause-inferred c = λ k m t of. told_inferred (all_classes c.args.world.now) c.args.file.now k m
    (body_of k m t c.args.code.now.insns) _ _ (told c k m t of) (c.infer_method-answer.ensures.inferred k m t of)

pub returns-clause-only : goal.returns-clause-only
returns-clause-only c = λ k m t of table is. told_only (all_classes c.args.world.now) c.args.file.now k m
    (body_of k m t c.args.code.now.insns) _ _ (told c k m t of) table (c.infer_method-answer.ensures.only k m t of table
    is)

pub returns-clause-refused : goal.returns-clause-refused
returns-clause-refused c = λ k m t of. told_refused (all_classes c.args.world.now) c.args.file.now k m
    (body_of k m t c.args.code.now.insns) _ _ (told c k m t of) (c.infer_method-answer.ensures.broken k m t of)

pub returns-clause-breaks : goal.returns-clause-breaks
returns-clause-breaks c = λ k m t of r is. told_breaks (all_classes c.args.world.now) c.args.file.now k m
    (body_of k m t c.args.code.now.insns) _ _ (told c k m t of) (c.infer_method-answer.ensures.breaks k m t of) r is
