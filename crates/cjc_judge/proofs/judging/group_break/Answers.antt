use Rattle.std.proofs.Common.{inl, inr, ap}
use Rattle.std.specs.Prelude.{option_map}
use Rattle.cjc_bytes.specs.Told.{break_of}
use Rattle.cjc_judge.specs.Tokens.{asks_tokens}
use Rattle.cjc_judge.proofs.Families.{checks_language}
use Rattle.cjc_judge.proofs.Folds.{as_list, if_list}
use Rattle.cjc_judge.proofs.Early.{none_early}
use Rattle.cjc_judge.proofs.judging.group_break.Goals as goal

pub returns-in-Unsupported : goal.returns-in-Unsupported
returns-in-Unsupported c = rw c.in-Unsupported.is (as_list _ (option_map break_of c.unsupported_insns_break.result)
    c.unsupported_insns_break.ensures)

pub returns-in_ok-broken-in-Language : goal.returns-in_ok-broken-in-Language
returns-in_ok-broken-in-Language c =
    let checks = rw (c.items.ensures, c.requires.settings) at c.in_ok-broken-in-Language.ensures in
    rw c.in-Language.is (c.of_third_hundred.ensures _ checks
    (λ b i. ((checks_language c.args.list.now.name c.args.world.now c.args.codes.now _).holds b i).0))

pub returns-in-Initialisers : goal.returns-in-Initialisers
returns-in-Initialisers c = rw c.in-Initialisers.is c.first_broken-in-Initialisers.ensures

pub returns-in-Limits : goal.returns-in-Limits
returns-in-Limits c = rw c.in-Limits.is (if_list break_of _ c.first_broken-in-Limits.result
    (rw (c.items-in-Limits.ensures, c.requires.settings) at c.first_broken-in-Limits.ensures))

pub returns-in-Tokens : goal.returns-in-Tokens
returns-in-Tokens c = rw c.in-Tokens.is (as_list _ _ (c.requires.high (ap asks_tokens c.in-Tokens.is)))

pub returns-in-Types : goal.returns-in-Types
returns-in-Types c = elim c.in-Types.is [ inl e ↦ rw e none_early | inr e ↦ rw e none_early ]
