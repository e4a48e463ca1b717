use Rattle.std.proofs.Common.{subst}
use Rattle.cjc_classfile.specs.Code.{CodeTree}
use Rattle.cjc_classfile.specs.declared.tree.ClassTree.{ClassTree}
use Rattle.cjc_classfile.specs.declared.tree.MethodTree.{MethodTree}
use Rattle.cjc_world.specs.Classes.{all_classes}
use Rattle.cjc_types.specs.Flow.{Body, body_of}
use Rattle.cjc_types.specs.Tables.{IsMethodOf, Answers}
use Rattle.cjc_types.proofs.Least.{inferred_of, only_of, broken_of, breaks_of}
use Rattle.cjc_types.proofs.inference.infer_method.Goals as goal

-- what the call answered, for the method that the code names
answered : (c : goal.After-types_of) (k : ClassTree) (m : MethodTree) (t : CodeTree)
    → IsMethodOf c.args.world.now c.args.code.now k m t
    → Answers (all_classes c.args.world.now) (body_of k m t c.args.code.now.insns) c.types_of.result
answered c k m t of = subst (λ (b : Body). Answers (all_classes c.args.world.now) b c.types_of.result)
    (c.new-method.ensures k m t of) c.types_of.ensures

pub returns-clause-inferred : goal.returns-clause-inferred
returns-clause-inferred c = λ k m t of. inferred_of (all_classes c.args.world.now) (body_of k m t c.args.code.now.insns)
    c.types_of.result (answered c k m t of)

pub returns-clause-only : goal.returns-clause-only
returns-clause-only c = λ k m t of table is. only_of (all_classes c.args.world.now)
    (body_of k m t c.args.code.now.insns) c.types_of.result (answered c k m t of) table is

pub returns-clause-broken : goal.returns-clause-broken
returns-clause-broken c = λ k m t of. broken_of (all_classes c.args.world.now) (body_of k m t c.args.code.now.insns)
    c.types_of.result (answered c k m t of)

pub returns-clause-breaks : goal.returns-clause-breaks
returns-clause-breaks c = λ k m t of r is. breaks_of (all_classes c.args.world.now)
    (body_of k m t c.args.code.now.insns) c.types_of.result (answered c k m t of) r is
