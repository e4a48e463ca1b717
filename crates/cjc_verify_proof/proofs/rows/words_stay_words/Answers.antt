use Rattle.cjc_verify_proof.proofs.WordLaws.{word_up}
use Rattle.cjc_verify_proof.proofs.rows.words_stay_words.Goals as goal

pub returns : goal.returns
returns c = word_up
