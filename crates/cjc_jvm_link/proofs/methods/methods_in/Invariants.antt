use Rattle.std.proofs.Common.{◌≡◌, ◌+◌, ◌++◌, take, drop, map}
use Rattle.cjc_jvm_step.specs.Bytecode.PackageCodes.{of_methods, of_classes, code_with}
use Rattle.cjc_jvm_semantics.specs.OnePackage.{method_by}
use Rattle.cjc_jvm_link.specs.Methods.{AreIndices}
use Rattle.cjc_jvm_link.proofs.methods.methods_in.Given as goal

abbrev pub invariant-loop-place : goal.invariant-loop-place
invariant-loop-place l = record {
  codes : l.rest.codes.now ≡ of_methods code_with l.number l.place l.class (drop l.place l.class.methods)
      ++ of_classes code_with (l.number + 1) l.later;
  indices : AreIndices l.rest.codes.now l.rest.indices.now;
  methods : l.methods ≡ map (λ m. method_by l.class m m.code) (take l.place l.class.methods);
}
