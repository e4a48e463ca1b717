use Rattle.cjc_card_semantics.specs.CapRead.Decoder.Decoded.{values}
use Rattle.cjc_card_frame.proofs.frame.cells.Cells.calculate.Goals as goal

pub returns-in-Store : goal.returns-in-Store
returns-in-Store c = rw c.in-Store.is (c.store_numbered.ensures c.args.room)

pub returns-in-StoreAt : goal.returns-in-StoreAt
returns-in-StoreAt c = rw (c.in-StoreAt.is, ← c.from-in-StoreAt.ensures) (c.store.ensures c.args.room)

pub returns-in-Increase : goal.returns-in-Increase
returns-in-Increase c = rw c.in-Increase.is (c.increase_by.ensures c.args.room)

pub returns-in-IncreaseInt : goal.returns-in-IncreaseInt
returns-in-IncreaseInt c = rw c.in-IncreaseInt.is (c.increase_int_by.ensures c.args.room)

pub returns-in-Pop : goal.returns-in-Pop
returns-in-Pop c = rw (c.in-Pop.is, ← c.from-in-Pop.ensures) (c.pop.ensures c.args.room)

pub returns-in_ok-swap_by-in-Swap : goal.returns-in_ok-swap_by-in-Swap
returns-in_ok-swap_by-in-Swap c = rw c.in-Swap.is (c.in_ok-swap_by-in-Swap.ensures c.args.room)

pub returns-in_ok-operate-in-Words : goal.returns-in_ok-operate-in-Words
returns-in_ok-operate-in-Words c = rw c.in-Words.is (c.in_ok-operate-in-Words.ensures (values c.args.operands)
    c.args.room)

pub returns-in_ok-operate_ints-in-Ints : goal.returns-in_ok-operate_ints-in-Ints
returns-in_ok-operate_ints-in-Ints c = rw c.in-Ints.is (c.in_ok-operate_ints-in-Ints.ensures (values c.args.operands)
    c.args.room)

pub returns-in_ok-divide-in-DivideWords : goal.returns-in_ok-divide-in-DivideWords
returns-in_ok-divide-in-DivideWords c = rw c.in-DivideWords.is (c.in_ok-divide-in-DivideWords.ensures
    (values c.args.operands) c.args.room)

pub returns-in_ok-divide_ints-in-DivideInts : goal.returns-in_ok-divide_ints-in-DivideInts
returns-in_ok-divide_ints-in-DivideInts c = rw c.in-DivideInts.is (c.in_ok-divide_ints-in-DivideInts.ensures
    (values c.args.operands) c.args.room)

pub returns-in_ok-negate-in-NegateWord : goal.returns-in_ok-negate-in-NegateWord
returns-in_ok-negate-in-NegateWord c = rw c.in-NegateWord.is (c.in_ok-negate-in-NegateWord.ensures
    (values c.args.operands) c.args.room)

pub returns-in_ok-negate_int-in-NegateInt : goal.returns-in_ok-negate_int-in-NegateInt
returns-in_ok-negate_int-in-NegateInt c = rw c.in-NegateInt.is (c.in_ok-negate_int-in-NegateInt.ensures
    (values c.args.operands) c.args.room)

pub returns-in_ok-keep_byte-in-WordToByte : goal.returns-in_ok-keep_byte-in-WordToByte
returns-in_ok-keep_byte-in-WordToByte c = rw c.in-WordToByte.is (c.in_ok-keep_byte-in-WordToByte.ensures
    (values c.args.operands) c.args.room)

pub returns-in_ok-int_to_byte-in-IntToByte : goal.returns-in_ok-int_to_byte-in-IntToByte
returns-in_ok-int_to_byte-in-IntToByte c = rw c.in-IntToByte.is (c.in_ok-int_to_byte-in-IntToByte.ensures
    (values c.args.operands) c.args.room)

pub returns-in_ok-int_to_word-in-IntToWord : goal.returns-in_ok-int_to_word-in-IntToWord
returns-in_ok-int_to_word-in-IntToWord c = rw c.in-IntToWord.is (c.in_ok-int_to_word-in-IntToWord.ensures
    (values c.args.operands) c.args.room)

pub returns-in_ok-compare-in-CompareInts : goal.returns-in_ok-compare-in-CompareInts
returns-in_ok-compare-in-CompareInts c = rw c.in-CompareInts.is (c.in_ok-compare-in-CompareInts.ensures
    (values c.args.operands) c.args.room)

pub returns-in_ok-widen-in-WordToInt : goal.returns-in_ok-widen-in-WordToInt
returns-in_ok-widen-in-WordToInt c = rw c.in-WordToInt.is (c.in_ok-widen-in-WordToInt.ensures (values c.args.operands))
