use Rattle.std.proofs.Common.{◌<◌, length, take, All}
use Rattle.cjc_types.specs.Index.{IsIndex}
use Rattle.cjc_types.proofs.index.index.Given as goal

abbrev pub invariant-loop-place : goal.invariant-loop-place
invariant-loop-place l = record {
  inside : All (λ insn. insn.at < length l.places.items) l.insns;
  index : IsIndex (take l.place l.insns) l.places.items;
}
