-- A public or protected method, or a package-visible one, that stands at or above a class is one that calls can seek
-- from there.
use Rattle.std.proofs.Common.{◌≡◌, ℕ, false, List}
use Rattle.std.specs.Prelude.{Some}
use Rattle.cjc_bytes.specs.AccessFlags.{is_interface}
use Rattle.cjc_bytes.specs.declared.fault.MemberId.{MemberId}
use Rattle.cjc_token_proof.specs.Calls.Selecting.{signature}
use Rattle.cjc_vtable.specs.Laws.{KeepsRules}
use Rattle.cjc_world.specs.Classes.{Class, class_named}
use Rattle.cjc_world.specs.Supertypes.{AreSupertypes, Supertypes, supertypes}
use Rattle.cjc_token_proof.specs.WrittenCalls.Calls.{IsSought, got, hidden}
use Rattle.cjc_theorem.proofs.AlikeLaws.VirtualCalls.Lines.{HasHidden, HasShown, KeepsKinds, hidden_found, shown_alone}
use Rattle.cjc_theorem.proofs.AlikeLaws.VirtualCalls.Lines.{shown_below, shown_selected, shown_token}

module _ (w : List Class) (are_supertypes : (xs : List (List ℕ)) → AreSupertypes w xs (supertypes w xs))
    (one_supertypes : (xs : List (List ℕ)) (j k : Supertypes) → AreSupertypes w xs j → AreSupertypes w xs k
    → j ≡ k) (rules : KeepsRules w) where
  pub shown_sought : (m : MemberId) (d : Class) → class_named w m.class ≡ Some d → is_interface d.flags ≡ false
      → HasShown w m.class (signature m) → IsSought w m
  shown_sought m d named class_here h =
      let t = shown_token w are_supertypes one_supertypes rules m.class d named class_here (signature m) h in
      got t.0 t.1 (shown_alone w are_supertypes one_supertypes rules m.class (signature m) h)
      (λ x c f known plain may under sel. shown_selected w are_supertypes one_supertypes rules x (signature m)
      (shown_below w x m.class (signature m) under h))

  pub hidden_sought : KeepsKinds w → (m : MemberId) → HasHidden w m.class (signature m) → IsSought w m
  hidden_sought kinds m h = hidden (hidden_found w are_supertypes one_supertypes rules kinds m.class (signature m) h)
