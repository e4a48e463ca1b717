use Rattle.cjc_int_runs.proofs.Arithmetic.{iadd, isub, imul, idiv, irem, ishl, ishr, iushr, iand, ior, ixor, ineg}
use Rattle.cjc_int_runs.proofs.Arithmetic.{i2b, i2s}
use Rattle.cjc_int_runs.proofs.rows.arithmetic_agrees.Goals as goal

pub returns-clause-iadd : goal.returns-clause-iadd
returns-clause-iadd c = iadd

pub returns-clause-isub : goal.returns-clause-isub
returns-clause-isub c = isub

pub returns-clause-imul : goal.returns-clause-imul
returns-clause-imul c = imul

pub returns-clause-idiv : goal.returns-clause-idiv
returns-clause-idiv c = idiv

pub returns-clause-irem : goal.returns-clause-irem
returns-clause-irem c = irem

pub returns-clause-ishl : goal.returns-clause-ishl
returns-clause-ishl c = ishl

pub returns-clause-ishr : goal.returns-clause-ishr
returns-clause-ishr c = ishr

pub returns-clause-iushr : goal.returns-clause-iushr
returns-clause-iushr c = iushr

pub returns-clause-iand : goal.returns-clause-iand
returns-clause-iand c = iand

pub returns-clause-ior : goal.returns-clause-ior
returns-clause-ior c = ior

pub returns-clause-ixor : goal.returns-clause-ixor
returns-clause-ixor c = ixor

pub returns-clause-ineg : goal.returns-clause-ineg
returns-clause-ineg c = ineg

pub returns-clause-i2b : goal.returns-clause-i2b
returns-clause-i2b c = i2b

pub returns-clause-i2s : goal.returns-clause-i2s
returns-clause-i2s c = i2s
