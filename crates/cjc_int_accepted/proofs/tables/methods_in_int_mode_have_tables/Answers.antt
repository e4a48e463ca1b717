use Rattle.std.specs.Prelude.{Some, map}
use Rattle.cjc_accepted_proof.specs.Coded.{card_type, is_of, label_at, step_of}
use Rattle.cjc_accepted_proof.specs.Written.{written_pair}
use Rattle.cjc_verify.specs.Bodies.{frames_of}
use Rattle.cjc_int_accepted.specs.Methods.{stretches_in}
use Rattle.cjc_int_accepted.specs.Selection.{front_of, label_in, room_of, selected}
use Rattle.cjc_int_accepted.specs.Stretches.{frames_in}
use Rattle.cjc_int_accepted.proofs.TablesLaws.{table_written}
use Rattle.cjc_int_accepted.proofs.tables.methods_in_int_mode_have_tables.Goals as goal

pub returns : goal.returns
returns c = λ p number offset laid is_laid can stand r code b rows ranges written result v instructions returned read
    few some decoded insns same closed.
    let step = step_of p result offset laid in
    let new = selected r b rows ranges step in
    let m = room_of b rows ranges in
    let front = front_of r b rows ranges step in
    let frames = frames_of (written_pair p) v in
    let whole = table_written p number offset laid is_laid can stand r code b rows ranges written result v instructions
    returned read few some decoded insns same in
    let law = c.tables_in_int_mode_are_closed.ensures in
    record {
      rows = map Some (frames_in (stretches_in (card_type p) m new b rows frames front));
      closed = law.closed (card_type p) (is_of p) m new b rows (label_in r b rows ranges) (label_at p offset laid)
          frames front whole decoded closed;
      unbroken = law.unbroken (card_type p) (is_of p) m new b rows (label_in r b rows ranges) (label_at p offset laid)
          frames front whole decoded closed;
    }
