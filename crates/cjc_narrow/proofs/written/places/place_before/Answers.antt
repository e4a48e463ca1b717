use Rattle.std.proofs.Common.{arith, rules, sym}
use Rattle.std.specs.Prelude.{nat_lt}
use Rattle.std.proofs.lemmas.List.Sorted.{IsPartitionPoint-from_clause, IsPartitionedBy-ltb}
use Rattle.std.proofs.lemmas.List.Sums.{prefix_len_is}
use Rattle.cjc_types.specs.Bytecode.declared.insn.JInsn.{JInsn}
use Rattle.cjc_types.specs.Bytecode.declared.insn.JOp.TheVariants as jop
use Rattle.cjc_narrow.proofs.WrittenLaws.Order.{rising}
use Rattle.cjc_narrow.proofs.written.places.place_before.Goals as goal

pub returns-clause-place : goal.returns-clause-place
returns-clause-place c =
    let parted = IsPartitionedBy-ltb (λ i. i.at) c.args.insns.now c.args.offset (rising c.args.insns.now c.requires) in
    let point = IsPartitionPoint-from_clause (λ i. nat_lt i.at c.args.offset) _ _ c.partition_point.ensures.partitioned
    parted (λ a r q k. search rules) in
    let any : JInsn = record { at = 0; op = jop.Nop } in
    sym (prefix_len_is (λ i. nat_lt i.at c.args.offset) c.args.insns.now _ any c.partition_point.ensures.bound
    (λ k lt. point.0 k any (omega arith) lt) (λ lt. point.1 _ any (omega arith) lt))
