use Rattle.cjc_int_accepted.proofs.SingleLaws.{right_frame}
use Rattle.cjc_int_accepted.proofs.singles.unbroken_frames_are_right.Goals as goal

pub returns : goal.returns
returns c = right_frame
