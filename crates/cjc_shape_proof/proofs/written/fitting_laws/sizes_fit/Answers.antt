use Rattle.cjc_shape_proof.proofs.WrittenLaws.FittingLaws.Consistency.{near_types, short_methods, short_refs}
use Rattle.cjc_shape_proof.proofs.written.fitting_laws.sizes_fit.Goals as goal

pub returns-clause-types : goal.returns-clause-types
returns-clause-types c = λ list files judged p is sizes. near_types list files judged p is
    c.limits_are_kept.ensures.types sizes

pub returns-clause-classes : goal.returns-clause-classes
returns-clause-classes c = λ list files judged p is sizes. short_refs list files judged p is
    c.limits_are_kept.ensures.classes sizes

pub returns-clause-methods : goal.returns-clause-methods
returns-clause-methods c = λ list files judged p is sizes. short_methods list files judged p is sizes
