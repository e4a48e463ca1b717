use Rattle.std.proofs.Common.{sym, ap, ◌∙◌}
use Rattle.cjc_card_semantics.specs.Machine.Calls.{declared}
use Rattle.cjc_components.specs.Names.{class_at}
use Rattle.cjc_components.specs.Package.{world}
use Rattle.cjc_token_proof.specs.Tables.Loading.{loaded}
use Rattle.cjc_token_proof.proofs.WrittenCalls.Called.{declared_own, token_there}
use Rattle.cjc_token_proof.proofs.WrittenCalls.Known.{facts}
use Rattle.cjc_token_proof.proofs.WrittenCalls.Written.{methods_fit}
use Rattle.cjc_world.proofs.Cycles.{class_named-name}
use Rattle.cjc_token_proof.proofs.written_calls.methods_are_declared.Goals as goal

pub returns-clause-declared : goal.returns-clause-declared
returns-clause-declared c = λ list p sound small keeps keep id d known own plain f found.
    let acyclic = keeps.rules.acyclic in
    let laws = c.lookup_laws.ensures in
    let dispatch = c.dispatch_laws.ensures in
    let facts_of = facts list p sound (methods_fit p small) keep keeps (laws.are_supertypes (world p) acyclic)
    (laws.one_supertypes (world p)) (dispatch.virtual_calls (world p) keeps.rules) (dispatch.interface_calls
    (world p) keeps.rules keeps.interfaces) (c.token_laws.ensures (world p) keeps.rules) in
    ap (λ y. declared (loaded p) (class_at p y) id) (sym (class_named-name (world p) id.class d known))
    ∙ declared_own p facts_of id.class d known own id plain f found

pub returns-clause-tokens : goal.returns-clause-tokens
returns-clause-tokens c = λ list p sound small keeps keep x d known own.
    let acyclic = keeps.rules.acyclic in
    let laws = c.lookup_laws.ensures in
    let dispatch = c.dispatch_laws.ensures in
    let facts_of = facts list p sound (methods_fit p small) keep keeps (laws.are_supertypes (world p) acyclic)
    (laws.one_supertypes (world p)) (dispatch.virtual_calls (world p) keeps.rules) (dispatch.interface_calls
    (world p) keeps.rules keeps.interfaces) (c.token_laws.ensures (world p) keeps.rules) in
    token_there p facts_of x d known own
