use Rattle.cjc_jvm_step.proofs.HeapLaws.Shapes.{shape_by_name}
use Rattle.cjc_jvm_step.proofs.heap.kind.Element.array_name.Goals as goal

pub returns-in-Boolean-clause-shape : goal.returns-in-Boolean-clause-shape
returns-in-Boolean-clause-shape c = shape_by_name c.args.self

pub returns-in-Byte-clause-shape : goal.returns-in-Byte-clause-shape
returns-in-Byte-clause-shape c = shape_by_name c.args.self

pub returns-in-Short-clause-shape : goal.returns-in-Short-clause-shape
returns-in-Short-clause-shape c = shape_by_name c.args.self

pub returns-in-Int-clause-shape : goal.returns-in-Int-clause-shape
returns-in-Int-clause-shape c = shape_by_name c.args.self
