use Rattle.cjc_verify_proof.specs.Heaps.{object_is}
use Rattle.cjc_verify_proof.proofs.GrowthLaws.{object_still, words_stay, locals_stay}
use Rattle.cjc_verify_proof.proofs.growth.growing_heaps_keep_words.Goals as goal

pub returns-clause-words : goal.returns-clause-words
returns-clause-words c l heap after more = words_stay (object_is l heap) (object_is l after)
    (object_still l heap after more)

pub returns-clause-locals : goal.returns-clause-locals
returns-clause-locals c l heap after more = locals_stay (object_is l heap) (object_is l after)
    (object_still l heap after more)
