use Rattle.cjc_accepted_modes.proofs.readable.packages_by_modes_are_readable.Goals as goal
use Rattle.cjc_verified_proof.specs.Components.Names.{names}

pub returns : goal.returns
returns c = λ list files judged p laid conv.
    let t = laid.is_package.tables in
    let codes = judged.codes in
    let made = c.methods_by_modes_are_made.ensures in
    let law = c.methods_by_modes_are_consistent.ensures in
    let each = made.made list codes t p conv in
    let of_files = c.packages_by_modes_are_of_files.ensures list codes t p conv in
    let there = c.names_of_files_are_there.ensures list codes p of_files (c.calls_of_files_have_opcodes.ensures list
    codes p conv.checked) (made.small list codes t p conv) (law.kinds (names p) p.files p.methods each) in (
      record {
        laid = laid;
        of_files = of_files;
        runs = c.packages_by_modes_are_runnable.ensures list codes t p conv there;
        words = c.methods_by_modes_take_their_words.ensures.words list p.files codes t p conv.is_package;
        methods = conv.is_package.members;
        writable = law.written (names p) p.files p.methods each;
        inside = law.inside (names p) p.files p.methods each;
        sizes = conv.sizes;
      },
      conv,
    )
