-- A method of Method in int mode has a table of frames that is closed and breaks no rule, where its rows stand.
use Rattle.std.proofs.Common.{◌≡◌, ℕ, ◌<◌, List, length, slice_get, Option, Some}
use Rattle.cjc_types.specs.ClassFile.Code.{CodeTree}
use Rattle.cjc_types.specs.Flow.{Body as BodyByName}
use Rattle.cjc_types.specs.declared.state.State.{State}
use Rattle.cjc_int_mode.specs.Intervals.Frames.{RangeState}
use Rattle.cjc_int_mode.specs.Written.{written_in_int_mode}
use Rattle.cjc_ncode.specs.Written.{Resolution}
use Rattle.cjc_check_proof.specs.Code.Codes.{code_at}
use Rattle.cjc_check_proof.specs.Code.Written.{AllWritable}
use Rattle.cjc_check_proof.specs.NCode.Lowering.Placed.{HandlersStand}
use Rattle.cjc_check_proof.specs.NarrowProof.Tables.Analysis.{IsDecoded}
use Rattle.cjc_check_proof.specs.TokenProof.Tables.Loading.{components, part}
use Rattle.cjc_verify.specs.Bodies.{Body, frames_of, type_of_body}
use Rattle.cjc_verify.specs.CardActs.CardTypes.{ValueType}
use Rattle.cjc_verify.specs.Components.Methods.{placed_at}
use Rattle.cjc_verify.specs.Components.Names.{names}
use Rattle.cjc_verify.specs.Components.Package.{LaidMethod, Package}
use Rattle.cjc_accepted_proof.specs.Coded.{card_type, is_of, label_at, step_of}
use Rattle.cjc_accepted_proof.specs.Frames.{AreFew}
use Rattle.cjc_accepted_proof.specs.Written.{written_pair}
use Rattle.cjc_int_accepted.specs.Headers.{IsReadInIntMode, InsnsStand}
use Rattle.cjc_int_accepted.specs.Methods.{IsWrittenInIntMode}
use Rattle.cjc_int_accepted.specs.Selection.{front_of, label_in, room_of, selected}
use Rattle.cjc_int_accepted.proofs.BeginsLaws.{method_begins, method_laid}
use Rattle.cjc_int_accepted.proofs.HandlersLaws.{handler_for}
use Rattle.cjc_int_accepted.proofs.ReachedLaws.{is_written_low}

module _ (p : Package) (number offset : ℕ) (laid : LaidMethod) (is_laid : slice_get p.methods number ≡ Some laid)
    (can : AllWritable (names p) p.methods) (stand : HandlersStand (names p) (placed_at offset laid) (part p))
    (r : Resolution) (code : CodeTree) (b : BodyByName) (rows : List (Option State))
    (ranges : List (Option RangeState)) (written : laid.code ≡ written_in_int_mode r code b rows ranges)
    (result : ValueType) (v : Body) (instructions : v.instructions ≡ (let c = code_at (names p) offset laid
    in c.instructions)) (returned : (let t = type_of_body (components p) v in t.result) ≡ result)
    (read : IsReadInIntMode (card_type p) (written_pair p) r code b rows ranges v) (few : AreFew (card_type p))
    (some : 0 < length b.insns) (decoded : IsDecoded b) (insns : InsnsStand p r b rows ranges (step_of p result offset
    laid) (label_at p offset laid) laid v)
    (same : b.catches ≡ code.catches)
  where
    pub table_written : IsWrittenInIntMode (card_type p) (is_of p) (room_of b rows ranges) (selected r b rows ranges
        (step_of p result offset laid)) b rows (label_in r b rows ranges) (label_at p offset laid) (frames_of
        (written_pair p) v) (front_of r b rows ranges (step_of p result offset laid))
    table_written = is_written_low (card_type p) (is_of p) r b rows ranges (step_of p result offset laid) (label_at p offset
        laid) (frames_of (written_pair p) v) code few some decoded.ascend read.room read.stack (method_laid p number
        offset laid is_laid can stand r code b rows ranges written result v instructions returned read) insns.short (record {
          begins = method_begins p number offset laid is_laid can stand r code b rows ranges written result
              (selected r b
              rows ranges (step_of p result offset laid)) (label_in r b rows ranges) v read;
          stand = insns.stand;
          handlers = handler_for p number offset laid is_laid can stand r code b rows ranges written same
              insns.caught result;
        })
