-- What the inputs of a command decide is one, where what is made of them is one.
use Rattle.std.proofs.Common.{◌≡◌, ◌⊎◌, inl, inr, Option, Some, IfSome, Result, Ok, Err, refl, sym, ap, subst, ◌∙◌}
use Rattle.cjc_bytes.specs.declared.fault.Refusal.{Refusal}
use Rattle.cjc_shelf.specs.Shelf.{Files}
use Rattle.cjc_shelf.specs.Command.Plan.{Verdict, verdict, known_end, absent, too_long, refused, complete}
use Rattle.cjc_shelf.specs.Command.Answer.{Command, IsMade, Decides, IsEndOver, IsRefused}
use Rattle.cjc_shelf.specs.declared.command.status.Status.{Status}
use Rattle.cjc_shelf.specs.declared.command.status.Status.TheVariants as status
use Rattle.cjc_shelf.specs.declared.command.status.Todo.{Todo}

-- Something is made, and nothing refused; or there is one refusal.
pub record IsOneAnswer (Makes : Result Todo Refusal → Type 0) : Type 0 where
  pub one : (r s : Refusal) → Makes (Err r) → Makes (Err s) → r ≡ s
  pub not_both : (todo : Todo) (r : Refusal) → Makes (Ok todo) → Makes (Err r) → ⊥

abbrev IsEnd : (Result Todo Refusal → Type 0) → Status → Type 0
IsEnd Makes answer = ((answer ≡ status.Done) × ((todo : Todo) × Makes (Ok todo)))
    ⊎ ((r : Refusal) × (answer ≡ status.Refused r) × Makes (Err r))

end_of : (Makes : Result Todo Refusal → Type 0) (answer : Status) → IsMade Makes answer → IsEnd Makes answer
end_of Makes status.Done made = inl (refl, made)
end_of Makes (status.Refused r) made = inr (r, refl, made)
end_of Makes status.Usage made = absurd made
end_of Makes (status.Absent name) made = absurd made
end_of Makes (status.TooLong name) made = absurd made
end_of Makes (status.ShelfFault name) made = absurd made
end_of Makes status.SinkFault made = absurd made
end_of Makes status.NoMemory made = absurd made

one_end : (Makes : Result Todo Refusal → Type 0) → IsOneAnswer Makes → (a b : Status) → IsEnd Makes a → IsEnd Makes b
    → a ≡ b
one_end Makes h a b (inl (is, todo)) (inl (is', todo')) = is ∙ sym is'
one_end Makes h a b (inl (is, todo)) (inr (r, is', made)) = absurd (h.not_both todo.0 r todo.1 made)
one_end Makes h a b (inr (r, is, made)) (inl (is', todo)) = absurd (h.not_both todo.0 r todo.1 made)
one_end Makes h a b (inr (r, is, made)) (inr (s, is', made')) = is ∙ ap status.Refused (h.one r s made made') ∙ sym is'

-- how the reads end decides one answer
pub one_decided : (command : Command) → ((inputs : command.Inputs) → IsOneAnswer (command.Makes inputs))
    → (end : Verdict command.Inputs) (a b : Status) → Decides command end a → Decides command end b → a ≡ b
one_decided command h (absent name) a b p q = p ∙ sym q
one_decided command h (too_long name) a b p q = p ∙ sym q
one_decided command h (refused r) a b p q = p ∙ sym q
one_decided command h (complete inputs) a b p q = one_end (command.Makes inputs) (h inputs) a b
    (end_of (command.Makes inputs) a p) (end_of (command.Makes inputs) b q)

module _ (command : Command) (once : (inputs : command.Inputs) → IsOneAnswer (command.Makes inputs)) (files : Files)
  where
    decides : (answer : Status) → IsEndOver command files answer → Decides command (verdict files command.plan) answer
    decides answer h =
        by (subst (λ (o : Option Files). IfSome (known_end o command.plan) (λ end. (answer ≡ status.NoMemory)
        ⊎ Decides command end answer)) h.told (h.decided h.shelf h.sink))
      where
        by : (answer ≡ status.NoMemory) ⊎ Decides command (verdict files command.plan) answer
            → Decides command (verdict files command.plan) answer
        by (inl memory) = absurd (h.memory memory)
        by (inr end) = end

    -- runs over the same files end the same way
    pub one_end_over : (a b : Status) → IsEndOver command files a → IsEndOver command files b → a ≡ b
    one_end_over a b p q = one_decided command once (verdict files command.plan) a b (decides a p) (decides b q)

    refusal_decides : (r : Refusal) → IsRefused command (Some files) r → Decides command (verdict files command.plan)
        (status.Refused r)
    refusal_decides r (inl ends) = subst (λ (v : Verdict command.Inputs). Decides command v (status.Refused r))
        (sym ends)
        refl
    refusal_decides r (inr (inputs, ends, made)) = subst (λ (v : Verdict command.Inputs). Decides command v
        (status.Refused r)) (sym ends) made

    refusal_is : (r s : Refusal) → status.Refused r ≡ status.Refused s → r ≡ s
    refusal_is r s e = cc

    -- and the refusal is one
    pub one_refusal_over : (r s : Refusal) → IsRefused command (Some files) r → IsRefused command (Some files) s → r ≡ s
    one_refusal_over r s p q = refusal_is r s (one_decided command once (verdict files command.plan) (status.Refused r)
        (status.Refused s) (refusal_decides r p) (refusal_decides s q))
