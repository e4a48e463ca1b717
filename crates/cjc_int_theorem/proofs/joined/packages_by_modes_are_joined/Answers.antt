use Rattle.std.proofs.Common.{subst}
use Rattle.cjc_classes.specs.Clinit.Image.{IsImage}
use Rattle.cjc_components.specs.Names.{names as names_of}
use Rattle.cjc_components.specs.Package.{pool}
use Rattle.cjc_classes.specs.Narrow.Rows.Selected.{near_fields}
use Rattle.cjc_components.specs.Bytecode.PackageCodes.{all_codes}
use Rattle.cjc_shape.specs.LowerJudge.Rules.{settings_of}
use Rattle.cjc_shape_proof.proofs.WrittenLaws.Checked.{image_fits, is_kept}
use Rattle.cjc_theorem.proofs.AlikeLaws.JoinedLaws.Faults.{faults_are_classes}
use Rattle.cjc_theorem.proofs.AlikeLaws.NamedLaws.Exports.{exports_keep}
use Rattle.cjc_int_theorem.proofs.Methods.{code_named}
use Rattle.cjc_int_theorem.proofs.joined.packages_by_modes_are_joined.Goals as goal

pub returns : goal.returns
returns c = λ list codes t p is sends.
    let files = c.packages_by_modes_are_of_files.ensures list codes t p is in
    let opcodes = c.calls_of_files_have_opcodes.ensures list codes p is.checked in
    let made = c.methods_by_modes_are_made.ensures in
    let kinds = c.methods_by_modes_are_consistent.ensures.kinds (names_of p) p.files p.methods
    (made.made list codes t p is) in
    let there = c.names_of_files_are_there.ensures list codes p files opcodes (made.small list codes t p is) kinds in
    let image = subst (λ cs. IsImage p.files cs p.image) is.checked.codes_are is.is_package.image in
    let names = c.instructions_of_files_name_what_is_there.ensures list codes p files image in
    let calls = c.calls_of_files_are_named.ensures list codes p files opcodes in
    let r = c.packages_by_modes_are_runnable.ensures list codes t p is there in
    let its = is.checked in
    let exports = exports_keep list.name p r.sound its.exports its.plain in
    let kept = is_kept list codes p its (λ l fs none fine. c.package_laws.ensures.unbroken l fs codes
    (settings_of list) none fine) in
    let objects = c.known_objects_receive_calls.ensures.objects p (faults_are_classes p.files its.exports) in
    let ask = c.package_interfaces_ask.ensures.ask list.name p.files codes (settings_of list) kept in
    let words = c.methods_by_modes_take_their_words.ensures.words list p.files codes t p is.is_package in
    record {
      there = there;
      exports = exports;
      cells = c.first_cells_are_typed.ensures.image list.name p (let w = p.files in all_codes w.classes) r.sound r.typed
          r.image r.once (image_fits list codes p its is.is_package.image);
      operations = λ m k insn among at. c.operations_are_known.ensures.known p (near_fields (pool p))
          (code_named list codes t p is) names m k insn among at;
      calls = λ m known. c.operations_are_known.ensures.calls p calls m known;
      takes = λ m k known taken. c.calls_take_words.ensures list.name p r.sound r.ready r.methods words r.small r.keeps
          r.subtypes r.tokens exports m (c.operations_are_known.ensures.calls p calls m known)
          (c.operations_are_known.ensures.words p calls m known) k taken;
      receives = objects;
      sent = λ kind id thing. c.sent_methods_begin_alike.ensures list.name p r.sound r.ready r.methods r.small r.keeps
          r.subtypes r.tokens exports ask sends kind (objects kind thing) id;
    }
