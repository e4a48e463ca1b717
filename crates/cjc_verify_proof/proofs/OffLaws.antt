-- What never stands above interfaces and imported classes: a class of the group.
use Rattle.std.proofs.Common.{◌≡◌, ℕ, Bool, true, false, [], ◌++◌, map, sym, ap, subst, refl, inl, inr}
use Rattle.std.proofs.Common.{Option, Some, None}
use Rattle.std.specs.Prelude.{◌||◌, option_to_list}
use Rattle.std.specs.List.{list_any}
use Rattle.cjc_card_semantics.specs.Machine.Loaded.{Loaded}
use Rattle.cjc_card_semantics.specs.Machine.Classes.{Class, Own, External, Info, IsInterface, IsClass, all_supers}
use Rattle.cjc_card_semantics.specs.Machine.Classes.{class_of, info_of, is_in, is_interface, is_interface_info}
use Rattle.cjc_card_semantics.specs.Machine.Classes.{is_kind_of}
use Rattle.cjc_card_semantics.specs.Machine.Classes.{is_object, object_above, object_class, some_of, supers}
use Rattle.cjc_verify_proof.specs.Memories.{SupersStand}
use Rattle.cjc_card_semantics.proofs.MachineLaws.Upwards.{Over, here, up, told_over, either_in, first_or_later}

module _ (l : Loaded) (s : SupersStand l) where
  -- imported, or no class of the group
  abbrev pub Off : Class → Type 0
  Off (Own p offset) = is_interface l (Own p offset) ≡ true
  Off (External tree token) = Unit {0}

  pub interface_off : (c : Class) → is_interface l c ≡ true → Off c
  interface_off (Own p offset) e = e
  interface_off (External tree token) e = tt

  object_off : (c : Class) → is_in c (option_to_list (object_class l)) ≡ true → Off c
  object_off c e = by (object_class l) refl e
    where
      own : (o : Class) → object_class l ≡ Some o → Off o
      own (Own p offset) h = absurd (s.object p offset h)
      own (External tree token) h = tt

      by : (o : Option Class) → object_class l ≡ o → is_in c (option_to_list o) ≡ true → Off c
      by None h f = cc
      by (Some o) h f = elim (first_or_later c o [] f) [
        | inl same ↦ subst Off (sym same) (own o h)
        | inr never ↦ cc
      ]

  pub stays_off : (c b : Class) → Off c → is_in b (supers l c) ≡ true → Off b
  stays_off (Own p offset) b off e = by (info_of l p offset) refl off e
    where
      by : (o : Option Info) → info_of l p offset ≡ o → is_interface_info o ≡ true
          → is_in b (some_of (map (class_of l p) (all_supers o)) ++ object_above l o) ≡ true → Off b
      by None is i h = cc
      by (Some (IsClass c)) is i h = cc
      by (Some (IsInterface i)) is j h = elim (either_in b (some_of (map (class_of l p) i.superinterfaces))
          (option_to_list (object_class l)) h) [
            | inl f ↦ interface_off b (s.interfaces p offset (IsInterface i) b is f)
            | inr f ↦ object_off b f
          ]
  stays_off (External tree token) (Own p offset) off e = let no = s.outside tree token p offset in cc
  stays_off (External tree token) (External t u) off e = tt

  pub all_off : {c d : Class} → Over (supers l) c d → Off c → Off d
  all_off here off = off
  all_off (up {c = c} {b = b} direct more) off = all_off more (stays_off c b off direct)

  -- java/lang/Object is below no class of the group
  pub no_object : (p offset : ℕ) → is_interface l (Own p offset) ≡ false → is_object l (Own p offset) ≡ false
  no_object p offset e = by (object_class l) refl
    where
      apart : (c : Class) (b : Bool) → Off c → is_kind_of l c (Own p offset) ≡ b → b ≡ false
      apart c false off h = refl
      apart c true off h = let on : is_interface l (Own p offset) ≡ true = all_off (told_over l c (Own p offset) h) off
          in cc

      at : (o : Class) → object_class l ≡ Some o → Off o
      at (Own q above) h = absurd (s.object q above h)
      at (External tree token) h = tt

      by : (o : Option Class) → object_class l ≡ o → list_any (λ x. is_kind_of l x (Own p offset)) (option_to_list o)
          ≡ false
      by None h = refl
      by (Some c) h = ap (λ b. b || false) (apart c (is_kind_of l c (Own p offset)) (at c h) refl)
