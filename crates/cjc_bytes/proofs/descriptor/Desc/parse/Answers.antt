use Rattle.std.proofs.Common.{Ok, ap, sym, ◌∙◌}
use Rattle.cjc_bytes.proofs.DescriptorTypes.{parts_found, only_parts, no_parts, longest, desc_found, desc_none}
use Rattle.cjc_bytes.proofs.descriptor.Desc.parse.Goals as goal

pub returns-in-None-clause-found : goal.returns-in-None-clause-found
returns-in-None-clause-found c = parts_found c.args.bytes.now (sym c.first_bad.ensures ∙ c.in-None.is)

pub returns-in-None-clause-only : goal.returns-in-None-clause-only
returns-in-None-clause-only c = λ d h. ap Ok (only_parts c.args.bytes.now d (sym c.first_bad.ensures ∙ c.in-None.is) h)

pub returns-in-None-clause-parts : goal.returns-in-None-clause-parts
returns-in-None-clause-parts c = desc_found c.args.bytes.now (sym c.first_bad.ensures ∙ c.in-None.is)

pub returns-in-Some-clause-only : goal.returns-in-Some-clause-only
returns-in-Some-clause-only c = λ d h. no_parts c.args.bytes.now d c.in-Some.at (sym c.first_bad.ensures
    ∙ c.in-Some.is) h

pub returns-in-Some-clause-bad : goal.returns-in-Some-clause-bad
returns-in-Some-clause-bad c = longest c.args.bytes.now c.in-Some.at (sym c.first_bad.ensures ∙ c.in-Some.is)

pub returns-in-Some-clause-parts : goal.returns-in-Some-clause-parts
returns-in-Some-clause-parts c = desc_none c.args.bytes.now c.in-Some.at (sym c.first_bad.ensures ∙ c.in-Some.is)
