use Rattle.cjc_joint_whole.proofs.WholeLaws.AloneLaws.{alone_laws}
use Rattle.cjc_joint_whole.proofs.WholeLaws.SentTokens.{sent_agrees}
use Rattle.cjc_joint_whole.proofs.sent.joint_objects_are_sent_alike.Goals as goal

pub returns : goal.returns
returns c = λ packages is at stand objects calls.
    let d = c.dispatch_laws.ensures in
    let layouts = c.layouts_are_laid_out.ensures in
    record {
      calls = calls;
      sent = sent_agrees c.joint_classes_are_told.ensures.types layouts.forms layouts.offsets packages is
          (alone_laws d.virtual_calls d.interface_calls c.token_laws.ensures packages is) at stand objects;
    }
