use Rattle.cjc_shape_proof.specs.LowerJudge.Rules.{settings_of}
use Rattle.cjc_shape_proof.proofs.WrittenLaws.Checked.{files_sound, is_kept, own_tokens}
use Rattle.cjc_theorem.proofs.AlikeLaws.NamedLaws.Catches.{catches_fit}
use Rattle.cjc_theorem.proofs.AlikeLaws.NamedLaws.Exports.{exports_keep}
use Rattle.cjc_theorem.proofs.AlikeLaws.NamedLaws.Names.{names_fit}
use Rattle.cjc_theorem.proofs.alike.named_laws.names_of_files_are_there.Goals as goal

pub returns : goal.returns
returns c = λ list codes p is opcodes small kinds.
    let its = is.checked in
    let sound = files_sound list codes p its in
    let kept = is_kept list codes p its (λ l fs none fine. c.package_laws.ensures.unbroken l fs codes
    (settings_of list) none fine) in
    let keeps = c.package_laws.ensures.keeps list.name p.files codes (settings_of list) kept in
    let low = own_tokens list codes p its in
    let keep = exports_keep list.name p sound its.exports its.plain in
    let law = c.calls_fit_their_keys.ensures in
    record {
      names = λ k m e j insn f. names_fit list codes p is
          (λ x d known. law.classes list.name p sound small keeps keep x d known)
          (λ q d known plain. law.virtual_call list.name p sound small keeps keep low q d known plain)
          (λ q d known plain. law.super_call list.name p sound small keeps keep low q d known plain)
          (λ q d known own. law.special_call list.name p sound small keeps keep low q d known own)
          (λ q d known own. law.static_call list.name p sound small keeps keep low q d known own)
          k m e j insn f (kinds k m e j insn f) opcodes;
      catches = catches_fit list codes p is (λ x d known. law.classes list.name p sound small keeps keep x d known);
    }
