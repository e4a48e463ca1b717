use Rattle.cjc_components.specs.Bytecode.PackageCodes.{all_codes}
use Rattle.cjc_components.specs.Package.{pool}
use Rattle.cjc_theorem.proofs.AlikeLaws.JoinedLaws.Faults.{faults_are_classes}
use Rattle.cjc_token_proof.specs.Narrow.Rows.Selected.{near_fields}
use Rattle.cjc_theorem.proofs.alike.joined_laws.converted_packages_are_joined.Goals as goal
use Rattle.cjc_shape_proof.specs.LowerJudge.Rules.{settings_of}
use Rattle.cjc_shape_proof.proofs.WrittenLaws.Files.{is_kept}

pub returns : goal.returns
returns c = λ list files judged p is sends.
    let sound = c.converted_files_are_sound.ensures.sound list files judged p is in
    let rules = c.converted_classes_keep_rules.ensures in
    let keeps = rules.keeps list files judged p is in
    let subtypes = rules.subtypes list files judged p is in
    let tokens = rules.tokens list files judged p is in
    let methods = c.converted_methods_are_in_order.ensures list files judged p is in
    let small = c.converted_methods_are_consistent.ensures.small list files judged p is in
    let there = c.names_are_there.ensures.all list files judged p is (c.calls_have_opcodes.ensures list files judged
    is.sound) in
    let ready = c.converted_methods_are_ready.ensures list files judged p is there in
    let exports = c.export_files_are_kept.ensures list files judged p is in
    let kept = is_kept list files judged p is (λ l fs none fine. c.package_laws.ensures.unbroken l fs judged.codes
    (settings_of list) none fine) in
    let laid = is.is_package in
    let codes = (let w = p.files in all_codes w.classes) in
    let names = c.instructions_name_what_is_there.ensures list files judged p is in
    let calls = c.calls_are_named.ensures list files judged p is in
    let objects = c.known_objects_receive_calls.ensures.objects p (faults_are_classes p.files is.exports) in
    let ask = c.package_interfaces_ask.ensures.ask list.name p.files judged.codes (settings_of list) kept in
    record {
      there = there;
      exports = exports;
      cells = c.first_cells_are_typed.ensures.converted list files judged p is;
      operations = λ m k insn among at. c.operations_are_known.ensures.known p (near_fields (pool p))
          (c.code_names_as_written.ensures list codes laid.rows p laid.is_package) names m k insn among at;
      calls = λ m known. c.operations_are_known.ensures.calls p calls m known;
      takes = λ m k known words. c.calls_take_words.ensures list.name p sound ready methods
          (c.methods_take_their_words.ensures list p.files codes laid.rows p laid.is_package) small keeps subtypes
          tokens exports m (c.operations_are_known.ensures.calls p calls m known)
          (c.operations_are_known.ensures.words p calls m known) k words;
      receives = objects;
      sent = λ kind id thing. c.sent_methods_begin_alike.ensures list.name p sound ready methods small keeps subtypes
          tokens exports ask sends kind (objects kind thing) id;
    }
