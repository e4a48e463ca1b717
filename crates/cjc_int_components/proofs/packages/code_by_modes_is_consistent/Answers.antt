use Rattle.cjc_check_proof.specs.LowerComponents.Names.{names}
use Rattle.cjc_int_components.proofs.packages.code_by_modes_is_consistent.Goals as goal

pub returns-clause-whole : goal.returns-clause-whole
returns-clause-whole c p apart order made = c.methods_are_cut.ensures.whole p apart order
    (c.methods_by_modes_are_consistent.ensures.written (names p) p.files p.methods made)

pub returns-clause-jumps : goal.returns-clause-jumps
returns-clause-jumps c p apart order made =
    let by = c.methods_by_modes_are_consistent.ensures in
    c.jumps_land_in_code.ensures p apart order (by.written (names p) p.files p.methods made)
    (by.inside (names p) p.files p.methods made)

pub returns-clause-indices : goal.returns-clause-indices
returns-clause-indices c p apart order made =
    let by = c.methods_by_modes_are_consistent.ensures in
    c.indices_name_entries.ensures p apart order (by.written (names p) p.files p.methods made)
    (by.kinds (names p) p.files p.methods made)

pub returns-clause-handlers : goal.returns-clause-handlers
returns-clause-handlers c p apart order made =
    let by = c.methods_by_modes_are_consistent.ensures in
    c.handlers_stand_in_code.ensures p apart order (by.written (names p) p.files p.methods made)
    (by.handlers (names p) p.files p.methods made)

pub returns-clause-stops : goal.returns-clause-stops
returns-clause-stops c p made =
    let by = c.methods_by_modes_are_consistent.ensures in
    c.stop_bits_end_searches.ensures p (by.written (names p) p.files p.methods made)
    (by.handlers (names p) p.files p.methods made)

pub returns-clause-locations : goal.returns-clause-locations
returns-clause-locations c p apart order made = c.index_places_are_listed.ensures p apart order
    (c.methods_by_modes_are_consistent.ensures.written (names p) p.files p.methods made)
