use Rattle.std.proofs.Common.{arith, rules, sym}
use Rattle.std.specs.Prelude.{nat_le, [], false}
use Rattle.std.proofs.lemmas.List.Sorted.{IsPartitionPoint-from_clause, IsPartitionedBy-leb}
use Rattle.std.proofs.lemmas.List.Sums.{prefix_len_is}
use Rattle.cjc_check.specs.declared.codes.code.Body.{Body}
use Rattle.cjc_check.proofs.JumpsLaws.Apart.{ends_rise}
use Rattle.cjc_check.proofs.jumps.handlers.place_behind.Goals as goal

pub returns : goal.returns
returns c =
    let parted = IsPartitionedBy-leb (λ (b : Body). b.end) c.args.bodies.now c.args.offset
    (ends_rise 0 c.args.bodies.now c.requires) in
    let point = IsPartitionPoint-from_clause (λ (b : Body). nat_le b.end c.args.offset) _ _
    c.partition_point.ensures.partitioned parted (λ a r q k. search rules) in
    let any : Body = record { is_abstract = false; first = 0; end = 0; insns = []; starts = [] } in
    sym (prefix_len_is (λ (b : Body). nat_le b.end c.args.offset) c.args.bodies.now _ any
    c.partition_point.ensures.bound (λ k lt. point.0 k any (omega arith) lt) (λ lt. point.1 _ any (omega arith) lt))
