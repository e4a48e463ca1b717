use Rattle.cjc_accepted_theorem.proofs.BodiesLaws.{body_read, handlers_there, header_says}
use Rattle.cjc_accepted_theorem.proofs.NamingLaws.{stand_alike}
use Rattle.cjc_verified_proof.specs.Components.Methods.{placed_at}
use Rattle.cjc_accepted_theorem.proofs.coded.converted_methods_are_read.Goals as goal
use Rattle.cjc_verified_proof.proofs.TokenProofOrder.{own_names}

pub returns : goal.returns
returns c = λ list files judged p is k v there.
    let methods = is.methods in
    let ready = is.runs.ready in
    let apart = own_names list.name p.files is.runs.sound in
    let forms = c.layouts_are_laid_out.ensures.forms in
    let offsets = c.layouts_are_laid_out.ensures.offsets in
    let whole = c.methods_are_cut.ensures.whole p apart methods is.writable in
    let same = c.methods_are_cut.ensures.codes p apart methods is.writable in
    let r = body_read p apart methods whole same k v there in
    let a = r.at in
    record {
      offset = a.offset;
      laid = a.laid;
      is_laid = a.is_laid;
      instructions = r.instructions;
      header = header_says p apart methods whole same forms offsets ready k v there;
      handlers = stand_alike p (placed_at a.offset a.laid) (handlers_there p apart methods whole same forms offsets
          ready k v there);
    }
