-- What is thrown.
use Rattle.std.proofs.Common.{◌≡◌, ℕ, List, refl, sym, ap, ◌∙◌, ◌∷◌}
use Rattle.std.specs.Prelude.{Option, Some, None, option_map}
use Rattle.cjc_script.specs.declared.report.Thing.{Thing}
use Rattle.cjc_by_name.specs.Linked.{Linked}
use Rattle.cjc_by_name.specs.Effects.{type_of}
use Rattle.cjc_by_name.specs.Machine.{Frame, State, offset, stuck_at, after_throw, after_athrow}

module _ (l : Linked) (f : Frame) (outer : List Frame) (object : ℕ) (s : State) where
  -- an array or object of a type
  pub athrow_type : (o : Option Thing) (name : List ℕ) → Some name ≡ option_map type_of o → after_athrow l o f outer object s ≡ after_throw l (offset f) (f ∷ outer) object name s
  athrow_type None name e = absurd (cc e)
  athrow_type (Some thing) name e = let h : name ≡ type_of thing = cc e in ap (λ n. after_throw l (offset f) (f ∷ outer) object n s) (sym h)

  -- nothing has the number
  pub athrow_nothing : (o : Option Thing) → None ≡ option_map type_of o → after_athrow l o f outer object s ≡ stuck_at (offset f) s
  athrow_nothing None e = refl
  athrow_nothing (Some thing) e = absurd (cc e)
