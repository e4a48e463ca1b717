-- A method that 205 finds nothing wrong with is found by look-up from the named class on, a constructor too.
use Rattle.std.proofs.Common.{◌≡◌, ℕ, refl, ap, ◌∙◌, Bool, true, false, not, ◌&&◌, ◌||◌, List, [], ◌∷◌, ◌++◌, length}
use Rattle.std.specs.Prelude.{◌+◌, Option, Some, None, is_some, option_map, position, if◌then◌else◌}
use Rattle.cjc_bytes.specs.declared.fault.MemberId.{MemberId}
use Rattle.cjc_code.specs.declared.insn.JOp.TheVariants as jop
use Rattle.cjc_subset.specs.Members.{is_array, is_constructor}
use Rattle.cjc_subset.specs.Names.{callee_found, is_name_missing, is_not_found, is_unfound, lacks, names_unfound}
use Rattle.cjc_world.specs.declared.found.Found.{Found}
use Rattle.cjc_world.specs.Classes.{Class, class_named}
use Rattle.cjc_world.specs.Interfaces.{gathered, known}
use Rattle.cjc_world.specs.Lookup.{find_method, first, is_called, member_at, or_else, own_method, own_of}
use Rattle.cjc_world.specs.Supertypes.{End, known_as, line, supertypes, supertypes_within, upwards}

module _ (w : List Class) (class name desc : List ℕ) where
  -- what the class of a name declares is what look-up from that name on finds
  pub own_found : (f : Found) → own_of name desc (class_named w class) ≡ Some f → find_method w class name desc ≡ Some f
  unfolding find_method line supertypes supertypes_within first
  own_found f e = by (class_named w class) refl e
    where
      by : (o : Option Class) → class_named w class ≡ o → own_of name desc o ≡ Some f → find_method w class name desc
          ≡ Some f
      by None is own = absurd cc
      by (Some c) is own =
          let others = first (own_method false name desc) (known (gathered false (supertypes w (class ∷ [])))) in
          let above = first (own_method false name desc) (upwards (supertypes_within w (length w) c.supers) ++ []) in
          ap (λ o. or_else (first (own_method false name desc) (upwards (known_as (supertypes_within w (length w)) class
          o End))) others) is
          ∙ ap (λ o. or_else (or_else o above) others) own

  -- whether the class of a name declares it, by the place where it does
  pub declared_at : (c : Class) (o : Option ℕ) → class_named w class ≡ Some c
      → position (λ m. is_called name desc m) c.methods ≡ o → is_not_found (own_of name desc (class_named w class))
      ≡ not (is_some o)
  unfolding own_method
  declared_at c o is at = ap (λ k. is_not_found (own_of name desc k)) is
      ∙ by (position (λ m. is_called name desc m) c.methods) ∙ ap (λ k. not (is_some k)) at
    where
      by : (k : Option ℕ) → is_not_found (option_map (λ i. member_at c (length c.fields + i)) k) ≡ not (is_some k)
      by None = refl
      by (Some i) = refl

module _ (w : List Class) (id : MemberId) where
  -- a callee that is found is found by look-up
  callee_by_look_up : (f : Found) → callee_found w id ≡ Some f → find_method w id.class id.name id.desc ≡ Some f
  callee_by_look_up f e = by (is_constructor id.name) e
    where
      by : (b : Bool) → (if b then own_of id.name id.desc (class_named w id.class)
          else find_method w id.class id.name id.desc) ≡ Some f → find_method w id.class id.name id.desc ≡ Some f
      by true e = own_found w id.class id.name id.desc f e
      by false e = e

  pub method_unfound : (op : ℕ) → names_unfound w (jop.Call op id) ≡ false
      → is_unfound w id (find_method w id.class id.name id.desc) ≡ false
  unfolding names_unfound
  method_unfound op e = by (callee_found w id) refl e
    where
      less : (a b : Bool) → (a && (b || true)) ≡ false → (a && (b || false)) ≡ false
      less true true e = e
      less true false e = absurd cc
      less false b e = refl

      worse : (b : Bool) → lacks w id true ≡ false → lacks w id b ≡ false
      worse true e = e
      worse false e = less (not (is_name_missing w id.class)) (is_array id.class) e

      by : (o : Option Found) → callee_found w id ≡ o → is_unfound w id o ≡ false
          → is_unfound w id (find_method w id.class id.name id.desc) ≡ false
      by (Some f) is e = ap (is_unfound w id) (callee_by_look_up f is) ∙ e
      by None is e = worse (is_not_found (find_method w id.class id.name id.desc)) e
