use Rattle.std.proofs.Common.{refl}
use Rattle.cjc_accepted_modes.proofs.MethodsLaws.{in_int_mode_by}
use Rattle.cjc_accepted_modes.proofs.ReadLaws.{handlers_are, instructions_are}
use Rattle.cjc_accepted_modes.proofs.TablesLaws.{caught_here, decoded, some}
use Rattle.cjc_accepted_modes.proofs.stands.code_in_int_mode_stands.Goals as goal
use Rattle.cjc_accepted_modes.specs.InIntMode.{body_by_name, names_in, ranges_in, types_in}
use Rattle.cjc_check_proof.specs.TokenProof.Tables.Loading.{components}
use Rattle.cjc_verify.specs.Bodies.{type_of_body}

pub returns : goal.returns
returns c = λ list files judged t p is by_modes k v there stands.
    let beside = c.methods_in_int_mode_stand_beside.ensures list judged.codes t p by_modes k stands.laid stands.is_laid
    (in_int_mode_by list judged.codes t p by_modes k stands) in
    let m = beside.0 in
    let b = beside.2 in
    let from = c.converted_methods_are_read.ensures list files judged p is k v there in
    let read = c.methods_in_int_mode_are_read.ensures list files judged t p is by_modes m k b v there in
    let result = (let y = type_of_body (components p) v in y.result) in
    c.methods_in_int_mode_stand.ensures.tables p k from.offset m.laid b.is_laid is.writable (handlers_are p t judged.codes
    m k b v from) (names_in p m) m.tree (body_by_name m) (types_in t m) (ranges_in t m) b.written result v
    (instructions_are p t judged.codes m k b v from) refl read
    (c.converted_packages_have_their_types.ensures.few list files judged p is) (some p t judged.codes m k b) (record {
      decoded = decoded p t judged.codes m k b;
      closed = b.least.closed;
      unbroken = b.unbroken;
      in_code = c.methods_in_int_mode_are_served.ensures list files judged t p is by_modes m k b v there;
      each = c.instructions_in_int_mode_are_served.ensures list files judged t p is m k b;
      caught = caught_here list judged.codes p is.of_files t m k b;
    }) refl
