use Rattle.cjc_accepted_theorem.proofs.coded.converted_methods_have_tables.Goals as goal

pub returns : goal.returns
returns c = λ list files judged p is m b free v read stand named.
    let pairs = c.methods_stand_in_pairs.ensures in
    c.checked_methods_have_tables.ensures.tables p m judged.codes b v (record {
      read = read;
      served = record {
        in_code = c.converted_methods_are_served.ensures list files judged p is m b;
        each = c.converted_instructions_are_served.ensures list files judged p is m b free;
      };
      writable = is.writable;
      handlers = stand;
      catches = named;
    }) (c.rows_of_converted_packages_stand.ensures list files judged p is (record {
      decoded = λ n of. pairs.decoded p n judged.codes of;
      paired = λ n of. pairs.pairs p n judged.codes of;
    }) m b free)
