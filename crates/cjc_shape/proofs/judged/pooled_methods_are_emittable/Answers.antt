use Rattle.cjc_shape.proofs.JudgedLaws.Emittable.{calls_have_tokens, can_be_emitted}
use Rattle.cjc_shape.proofs.judged.pooled_methods_are_emittable.Goals as goal

pub returns-clause-tokens : goal.returns-clause-tokens
returns-clause-tokens c = λ list files judged is applets methods pool pooled id e. calls_have_tokens list files judged
    is applets methods pool pooled id e

pub returns-clause-emittable : goal.returns-clause-emittable
returns-clause-emittable c =
    λ list files judged is applets methods pool pooled n named k narrow there layout laid short. can_be_emitted list
    files judged is applets methods pool pooled n named k narrow there c.layouts_can_be_said.ensures.written layout laid
    short
