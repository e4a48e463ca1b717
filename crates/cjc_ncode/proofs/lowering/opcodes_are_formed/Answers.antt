use Rattle.std.proofs.Common.{refl}
use Rattle.cjc_card_semantics.specs.Script.Sorts.{Booleans, Bytes, Shorts, Ints}
use Rattle.cjc_card_semantics.specs.Bytecode.Meanings.{meaning}
use Rattle.cjc_ncode.specs.Lowering.Laid.{numbers, push, local, increase, words, jump, range, lookup, casts, asks}
use Rattle.cjc_ncode.proofs.lowering.opcodes_are_formed.Goals as goal

pub returns-clause-pushes : goal.returns-clause-pushes
unfolding meaning
returns-clause-pushes c = λ n value. (push refl, (push refl, (push refl, (push refl, (push refl, tt)))))

pub returns-clause-locals : goal.returns-clause-locals
unfolding meaning
returns-clause-locals c =
    λ n index. (local refl, (local refl, (local refl, (local refl, (local refl, (local refl, tt))))))

pub returns-clause-increases : goal.returns-clause-increases
unfolding meaning
returns-clause-increases c = λ n index by. (increase refl, (increase refl, (increase refl, (increase refl, tt))))

pub returns-clause-copies : goal.returns-clause-copies
unfolding meaning
returns-clause-copies c = λ n high low. (words refl, (words refl, tt))

pub returns-clause-jumps : goal.returns-clause-jumps
unfolding meaning
returns-clause-jumps c = λ n target. (
  jump refl refl,
  (
    jump refl refl,
    (
      jump refl refl,
      (
        jump refl refl,
        (
          jump refl refl,
          (
            jump refl refl,
            (
              jump refl refl,
              (
                jump refl refl,
                (
                  jump refl refl,
                  (
                    jump refl refl,
                    (
                      jump refl refl,
                      (
                        jump refl refl,
                        (jump refl refl, (jump refl refl, (jump refl refl, (jump refl refl, (jump refl refl, tt))))),
                      ),
                    ),
                  ),
                ),
              ),
            ),
          ),
        ),
      ),
    ),
  ),
)

pub returns-clause-switches : goal.returns-clause-switches
unfolding meaning
returns-clause-switches c = λ n other low cases. (range refl, (range refl, (lookup refl, (lookup refl, tt))))

pub returns-clause-casts : goal.returns-clause-casts
unfolding meaning
returns-clause-casts c = λ n. (
  casts refl (numbers Booleans),
  (
    casts refl (numbers Bytes),
    (
      casts refl (numbers Shorts),
      (casts refl (numbers Ints), tt),
    ),
  ),
)

pub returns-clause-asks : goal.returns-clause-asks
unfolding meaning
returns-clause-asks c = λ n. (
  asks refl (numbers Booleans),
  (
    asks refl (numbers Bytes),
    (
      asks refl (numbers Shorts),
      (asks refl (numbers Ints), tt),
    ),
  ),
)
