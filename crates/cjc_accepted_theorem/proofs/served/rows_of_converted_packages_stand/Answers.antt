use Rattle.cjc_accepted_theorem.proofs.served.rows_of_converted_packages_stand.Goals as goal
use Rattle.cjc_verified_proof.specs.Components.Names.{names}
use Rattle.cjc_verified_proof.specs.Components.Package.{world}
use Rattle.cjc_accepted_proof.specs.Beside.{body_by_name, label_in, names_in, offset_in, opened_in}
use Rattle.cjc_accepted_proof.specs.Coded.{card_type, is_of, is_wide}
use Rattle.cjc_accepted_proof.specs.Written.{written_pair}

pub returns : goal.returns
returns c = λ list files judged p is paired m b free at i x here row before behind.
    let least = b.least in
    let tree = m.tree in
    c.rows_outside_pairs_stand.ensures (card_type p) (is_of p) (world p) (body_by_name m) (written_pair p) m.result
    (names p) (names_in p m) m.rows (opened_in p m) (offset_in p m) (is_wide p m.laid) tree.max_locals
    (c.converted_methods_are_served.ensures list files judged p is m b) (paired.decoded m b) least.closed b.unbroken
    (paired.paired m b) at (label_in p m i.at) i x here row before behind (c.converted_instructions_are_served.ensures
    list files judged p is m b free at i x here row)
