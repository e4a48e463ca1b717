use Rattle.cjc_components.specs.Package.{world}
use Rattle.cjc_vtable.proofs.Numbers.{named-number}
use Rattle.cjc_check_proof.proofs.TokensLaws.Called.{all_named}
use Rattle.cjc_check_proof.proofs.tokens.pool_entries_name_what_is_there.Goals as goal

pub returns : goal.returns
returns c = λ list p sound methods keeps tokens all.
    let w = world p in
    let laws = c.lookup_laws.ensures in
    c.pool_entries_name_members.ensures p (c.classes_keep_rules.ensures.order list p sound) methods
    (all_named list p sound (laws.are_supertypes w keeps.rules.acyclic) (laws.one_supertypes w) keeps.rules tokens
    (c.tokens_mean_methods.ensures.public w keeps.rules (named-number p.files))
    (c.tokens_mean_methods.ensures.package_visible w keeps.rules)
    (c.dispatch_laws.ensures.virtual_calls w keeps.rules) (c.token_laws.ensures w keeps.rules) all)
