use Rattle.cjc_world.specs.Classes.{all_classes}
use Rattle.cjc_vtable.proofs.Clean.{breaks_none}
use Rattle.cjc_vtable.proofs.Keeping.{keeps}
use Rattle.cjc_vtable.proofs.kept.package_laws.Goals as goal

pub returns-clause-unbroken : goal.returns-clause-unbroken
returns-clause-unbroken c = breaks_none

pub returns-clause-keeps : goal.returns-clause-keeps
returns-clause-keeps c = λ list files codes settings kept.
    let acyclic = c.lookup_laws.ensures.acyclic list files kept.unbroken.world in
    keeps list files codes settings kept acyclic (c.lookup_laws.ensures.are_supertypes (all_classes files) acyclic)
    (c.lookup_laws.ensures.one_supertypes (all_classes files))

pub returns-clause-calls : goal.returns-clause-calls
returns-clause-calls c = λ list files codes settings kept.
    let acyclic = c.lookup_laws.ensures.acyclic list files kept.unbroken.world in
    let all = keeps list files codes settings kept acyclic (c.lookup_laws.ensures.are_supertypes (all_classes files)
    acyclic) (c.lookup_laws.ensures.one_supertypes (all_classes files)) in
    record {
      virtual_calls = c.dispatch_laws.ensures.virtual_calls (all_classes files) all.rules;
      interface_calls = c.dispatch_laws.ensures.interface_calls (all_classes files) all.rules all.interfaces;
      imported_calls = c.dispatch_laws.ensures.imported_calls (all_classes files) all.rules all.imported;
      tokens = c.token_laws.ensures (all_classes files) all.rules;
    }
