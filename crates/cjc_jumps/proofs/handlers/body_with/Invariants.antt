use Rattle.std.proofs.Common.{◌≡◌, drop, map}
use Rattle.std.specs.List.{find}
use Rattle.cjc_codes.specs.Bodies.{code_of}
use Rattle.cjc_sentences.specs.Instructions.{has_start}
use Rattle.cjc_jumps.proofs.handlers.body_with.Given as goal

abbrev pub invariant-loop-body : goal.invariant-loop-body
invariant-loop-body l = find (λ code. has_start code l.offset) (map code_of (drop l.body-index l.bodies)) ≡ find (λ code. has_start code l.offset) (map code_of l.bodies)
