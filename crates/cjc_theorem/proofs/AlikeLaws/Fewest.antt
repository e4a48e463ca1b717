-- The least choice of wide jumps has the fewest bytes of all legal ones.
use Rattle.std.proofs.Common.{◌≤◌, arith, Bool, List, length}
use Rattle.cjc_components.proofs.LayoutPlaces.{distance_grows}
use Rattle.cjc_token_proof.specs.Layout.Legal.{IsLeast, IsLegal}
use Rattle.cjc_token_proof.specs.Layout.Sizes.{code_size}
use Rattle.cjc_ncode.specs.declared.narrow.NInsn.{NInsn}

pub fewest_bytes : (insns : List NInsn) (wide other : List Bool) → IsLeast insns wide → IsLegal insns other
    → code_size insns wide ≤ code_size insns other
fewest_bytes insns wide other least legal =
    let grows = distance_grows insns wide other least.legal.count legal.count (least.least other legal) 0 (length insns)
    (omega arith) in
    omega (arith, grows)
