use Rattle.cjc_components.specs.Components.{components_of}
use Rattle.cjc_check_proof.specs.Classes.Premises.{HasShortRefs}
use Rattle.cjc_token_proof.specs.Components.Whole.{exports_of, whole}
use Rattle.cjc_check_proof.proofs.ConsistentLaws.Sentences.{all_consistent}
use Rattle.cjc_check_proof.proofs.consistent.components_are_consistent.Goals as goal

pub returns : goal.returns
returns c = λ list p files code names sizes.
    let own = c.classes_keep_rules.ensures.order list p files.sound in
    let limits = c.limits_are_kept.ensures in
    let short : HasShortRefs p = record { few_bytes = limits.classes p sizes.components; few_imports = sizes.imports }
    in
    all_consistent (components_of p) (exports_of p) (whole p) (c.components_are_whole.ensures p)
    (c.directory_says_what_is_there.ensures p) (c.flags_say_what_is_there.ensures p)
    (record {
      imports = c.imports_are_export_files.ensures p;
      class_refs = c.class_refs_are_there.ensures list p files.sound names.classes names.types short;
      supers = c.superclasses_are_classes.ensures list p files.sound;
      tables = c.table_entries_are_method_starts.ensures list p files.sound code.methods sizes.methods;
      maps = c.map_indices_are_tokens.ensures list p files.sound files.keeps files.access files.tokens;
      pool = c.pool_entries_name_what_is_there.ensures list p files.sound code.methods files.keeps files.tokens
          names.members;
      whole = c.methods_are_cut.ensures.whole p own code.methods code.written;
      jumps = c.jumps_land_in_code.ensures p own code.methods code.written code.inside;
      indices = c.indices_name_entries.ensures p own code.methods code.written names.kinds;
      handlers = c.handlers_stand_in_code.ensures p own code.methods code.written code.handlers;
      stops = c.stop_bits_end_searches.ensures p code.written code.handlers;
      locations = c.index_places_are_listed.ensures p own code.methods code.written;
      installs = c.install_methods_are_static.ensures list p files.sound code.methods files.installs;
      image = c.static_image_adds_up.ensures p.image;
      exported = c.exports_are_described.ensures list p files.sound code.methods files.interfaces;
      descriptor = c.descriptor_describes_what_is_there.ensures p own code.methods files.typed
          (limits.types p sizes.types);
    })
