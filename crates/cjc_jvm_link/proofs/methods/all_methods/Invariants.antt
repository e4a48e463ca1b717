use Rattle.std.proofs.Common.{◌≡◌, take, drop, map}
use Rattle.cjc_jvm_step.specs.Bytecode.PackageCodes.{of_classes, code_with}
use Rattle.cjc_jvm_link.specs.Methods.{AreIndices, methods_of}
use Rattle.cjc_jvm_link.proofs.methods.all_methods.Given as goal

abbrev pub invariant-loop-number : goal.invariant-loop-number
invariant-loop-number l = record {
  codes : l.rest.codes.now ≡ of_classes code_with l.number (drop l.number l.classes);
  indices : AreIndices l.rest.codes.now l.rest.indices.now;
  methods : l.methods ≡ map methods_of (take l.number l.classes);
}
