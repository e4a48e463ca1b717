use Rattle.cjc_accepted_proof.specs.Accepted.{HasTable}
use Rattle.cjc_accepted_theorem.proofs.stands.code_of_converted_packages_stands.Goals as goal
use Rattle.cjc_accepted_theorem.specs.Stands.{bare, in_int_mode, written}

pub returns : goal.returns
returns c = λ list files judged p is by_int k v there.
    elim (c.converted_methods_stand_beside.ensures list files judged p is k v there) as (λ s. HasTable p v) [
      | bare none ↦ c.methods_without_code_have_tables.ensures p v none
      | written m b free read stand ↦ c.converted_methods_have_tables.ensures list files judged p is m b free v read
          stand (c.converted_handlers_are_named.ensures list files judged p is m b)
      | in_int_mode int ↦ by_int k v there int
    ]
