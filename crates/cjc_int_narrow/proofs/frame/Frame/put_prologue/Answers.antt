use Rattle.std.proofs.Common.{◌≡◌, ◌+◌, ◌++◌, sym, ap, ◌∙◌, append_assoc}
use Rattle.std.proofs.lemmas.Result.{on_ok_weaker}
use Rattle.cjc_int_mode.specs.Script.Sorts.{signature_of}
use Rattle.cjc_ncode.specs.IntCode.IntCode.{nargs}
use Rattle.cjc_int_mode.specs.Written.{params_by}
use Rattle.cjc_int_narrow.specs.Working.Frames.{frame_of}
use Rattle.cjc_int_narrow.specs.Working.Moves.{moved_all, moved_by, receiver_kept}
use Rattle.cjc_int_narrow.proofs.Moves.{prologue_own, prologue_static}
use Rattle.cjc_int_narrow.proofs.frame.Frame.put_prologue.Goals as goal

pub returns-then-is_static : goal.returns-then-is_static
returns-then-is_static c =
    let f = c.self.inside in
    let view : c.args.self.now ≡ frame_of f.class.now f.flags f.desc.now f.max_locals = cc in
    let words : f.words ≡ nargs (frame_of f.class.now f.flags f.desc.now f.max_locals) = cc in
    let moves = prologue_static f.class.now f.flags f.desc.now f.max_locals c.args.self.now f.words c.is_static.result
    view words c.is_static.ensures c.if-is_static.true in
    on_ok_weaker c.put_all.result (λ more. more ∙ ap (λ code. c.args.out.now ++ code) (sym moves)) c.put_all.ensures

pub returns : goal.returns
returns c =
    let f = c.self.inside in
    let view : c.args.self.now ≡ frame_of f.class.now f.flags f.desc.now f.max_locals = cc in
    let words : f.words ≡ nargs (frame_of f.class.now f.flags f.desc.now f.max_locals) = cc in
    let moves = prologue_own f.class.now f.flags f.desc.now f.max_locals c.args.self.now f.words c.is_static.result
    view words c.is_static.ensures c.if-is_static.false in
    let own = moved_by receiver_kept 0 f.words in
    let rest = moved_all 1 (f.words + 2) (params_by (signature_of f.desc.now)) in
    on_ok_weaker c.put_all-2.result (
    λ more. more ∙ ap (λ out. out ++ rest) c.in_ok-put_moved.ensures ∙ append_assoc c.args.out.now own rest
    ∙ ap (λ code. c.args.out.now ++ code) (sym moves)
    ) c.put_all-2.ensures
