use Rattle.cjc_components.specs.Package.{world}
use Rattle.cjc_token_proof.proofs.WrittenCalls.Fitting.{special_fits, static_fits, super_fits, virtual_fits}
use Rattle.cjc_token_proof.proofs.WrittenCalls.Known.{facts}
use Rattle.cjc_token_proof.proofs.WrittenCalls.Tables.{class_meant}
use Rattle.cjc_token_proof.proofs.WrittenCalls.Written.{methods_fit}
use Rattle.cjc_token_proof.proofs.written_calls.calls_fit_their_keys.Goals as goal

pub returns-clause-classes : goal.returns-clause-classes
returns-clause-classes c = λ list p sound small keeps keep.
    let acyclic = keeps.rules.acyclic in
    let laws = c.lookup_laws.ensures in
    let dispatch = c.dispatch_laws.ensures in
    let known = facts list p sound (methods_fit p small) keep keeps (laws.are_supertypes (world p) acyclic)
    (laws.one_supertypes (world p)) (dispatch.virtual_calls (world p) keeps.rules) (dispatch.interface_calls
    (world p) keeps.rules keeps.interfaces) (c.token_laws.ensures (world p) keeps.rules) in
    class_meant p known

pub returns-clause-virtual_call : goal.returns-clause-virtual_call
returns-clause-virtual_call c = λ list p sound small keeps keep tokens.
    let acyclic = keeps.rules.acyclic in
    let laws = c.lookup_laws.ensures in
    let dispatch = c.dispatch_laws.ensures in
    let known = facts list p sound (methods_fit p small) keep keeps (laws.are_supertypes (world p) acyclic)
    (laws.one_supertypes (world p)) (dispatch.virtual_calls (world p) keeps.rules) (dispatch.interface_calls
    (world p) keeps.rules keeps.interfaces) (c.token_laws.ensures (world p) keeps.rules) in
    virtual_fits p known tokens

pub returns-clause-super_call : goal.returns-clause-super_call
returns-clause-super_call c = λ list p sound small keeps keep tokens.
    let acyclic = keeps.rules.acyclic in
    let laws = c.lookup_laws.ensures in
    let dispatch = c.dispatch_laws.ensures in
    let known = facts list p sound (methods_fit p small) keep keeps (laws.are_supertypes (world p) acyclic)
    (laws.one_supertypes (world p)) (dispatch.virtual_calls (world p) keeps.rules) (dispatch.interface_calls
    (world p) keeps.rules keeps.interfaces) (c.token_laws.ensures (world p) keeps.rules) in
    super_fits p known tokens

pub returns-clause-special_call : goal.returns-clause-special_call
returns-clause-special_call c = λ list p sound small keeps keep tokens.
    let acyclic = keeps.rules.acyclic in
    let laws = c.lookup_laws.ensures in
    let dispatch = c.dispatch_laws.ensures in
    let known = facts list p sound (methods_fit p small) keep keeps (laws.are_supertypes (world p) acyclic)
    (laws.one_supertypes (world p)) (dispatch.virtual_calls (world p) keeps.rules) (dispatch.interface_calls
    (world p) keeps.rules keeps.interfaces) (c.token_laws.ensures (world p) keeps.rules) in
    special_fits p known tokens

pub returns-clause-static_call : goal.returns-clause-static_call
returns-clause-static_call c = λ list p sound small keeps keep tokens.
    let acyclic = keeps.rules.acyclic in
    let laws = c.lookup_laws.ensures in
    let dispatch = c.dispatch_laws.ensures in
    let known = facts list p sound (methods_fit p small) keep keeps (laws.are_supertypes (world p) acyclic)
    (laws.one_supertypes (world p)) (dispatch.virtual_calls (world p) keeps.rules) (dispatch.interface_calls
    (world p) keeps.rules keeps.interfaces) (c.token_laws.ensures (world p) keeps.rules) in
    static_fits p known tokens
