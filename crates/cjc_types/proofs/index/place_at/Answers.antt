use Rattle.std.proofs.Common.{rules, sym, arith}
use Rattle.std.proofs.lemmas.List.Sorted.{answers_always}
use Rattle.cjc_types.proofs.Indexing.{found_place, missing_place}
use Rattle.cjc_types.proofs.index.place_at.Goals as goal

pub overflow_cast-result : goal.overflow_cast-result
overflow_cast-result c =
    let facts = c.binary_search_by_key.ensures in
    let found = found_place c.args.insns.now c.requires.order c.args.offset c.in-Ok.place _ facts.bound
    (facts.position (λ insn. insn.at) (answers_always _ _ _ (λ f a r g called. search rules))) c.in-Ok.is in
    let few = c.requires.few in
    let lt = found.0 in
    omega (arith, lt, few)

pub returns-in-Ok : goal.returns-in-Ok
returns-in-Ok c =
    let facts = c.binary_search_by_key.ensures in
    sym (found_place c.args.insns.now c.requires.order c.args.offset c.in-Ok.place _ facts.bound
    (facts.position (λ insn. insn.at) (answers_always _ _ _ (λ f a r g called. search rules))) c.in-Ok.is).1

pub returns-in-Err : goal.returns-in-Err
returns-in-Err c =
    let facts = c.binary_search_by_key.ensures in
    sym (missing_place c.args.insns.now c.requires.order c.args.offset c.in-Err.field-0 _ facts.bound
    (facts.position (λ insn. insn.at) (answers_always _ _ _ (λ f a r g called. search rules))) c.in-Err.is)
