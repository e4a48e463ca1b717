use Rattle.std.proofs.Common.{◌≤◌, length, arith}
use Rattle.cjc_classfile.proofs.Taken.{taken_length}
use Rattle.cjc_classfile.proofs.pool.read_utf8.Goals as goal

pub desc_kind-requires : goal.desc_kind-requires
desc_kind-requires c =
    let short : length c.in_ok-bytes.bytes.now ≤ c.from.result = taken_length c.from.result c.u2.new.self _ _
    c.in_ok-bytes.ensures.takes in
    omega (arith, c.from.ensures)
