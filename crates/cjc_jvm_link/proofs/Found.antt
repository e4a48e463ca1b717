-- Methods of class files that look-ups found.
use Rattle.std.proofs.Common.{◌≡◌, ℕ, ◌+◌, ◌-◌, refl, sym, ap, ◌∙◌, arith, Bool, true, false, List, [], ◌∷◌, length}
use Rattle.std.specs.Prelude.{Some, None, option_map, option_and_then, slice_get, if◌then◌else◌, ◌==◌, ◌&&◌, position}
use Rattle.std.specs.Prelude.{not}
use Rattle.std.proofs.lemmas.Bool.Decides.{Decides-eqb}
use Rattle.cjc_world.specs.Bytes.declared.fault.MemberId.{MemberId}
use Rattle.cjc_world.specs.Bytes.AccessFlags.{is_static}
use Rattle.cjc_world.specs.declared.found.Found.{Found}
use Rattle.cjc_world.specs.Files.{Files}
use Rattle.cjc_world.specs.Classes.{Member, Class, class_at, is_at}
use Rattle.cjc_world.specs.Lookup.{own_method, member_at, is_called, find_method}
use Rattle.cjc_world.specs.Subtype.{is_subtype}
use Rattle.cjc_jvm_semantics.specs.OnePackage.{ResolvedMember, method_at, method_hit, entry_in, sent_named, sent_by}
use Rattle.cjc_jvm_semantics.specs.OnePackage.{select_in, is_sendable}

-- ---- what scripts call

at_itself : (c : Class) → is_at c.is_imported c.number c ≡ true
at_itself c = by c.is_imported
  where
    by : (t : Bool) → ((if t then t else not t) && (c.number == c.number)) ≡ true
    by true = (Decides-eqb c.number c.number).1 refl
    by false = (Decides-eqb c.number c.number).1 refl

pub no_entry : (files : Files) (id : MemberId) (c : Class) → position (λ m. is_called id.name id.desc m) c.methods
    ≡ None → entry_in files id c ≡ None
unfolding own_method
no_entry files id c e = ap (λ o. option_and_then (λ f. option_and_then (λ hit. let h : ResolvedMember = hit
    in if is_static h.flags then method_at files f else None) (method_hit (c ∷ []) f))
    (option_map (λ i. member_at c (length c.fields + i)) o)) e

pub entry_of : (files : Files) (id : MemberId) (c : Class) (place : ℕ) (m : Member)
    → position (λ m. is_called id.name id.desc m) c.methods ≡ Some place → slice_get c.methods place ≡ Some m
    → entry_in files id c ≡ (if is_static m.flags then method_at files (member_at c (length c.fields + place))
    else None)
unfolding own_method class_at
entry_of files id c place m e s =
    ap (λ o. option_and_then (λ f. option_and_then (λ hit. let h : ResolvedMember = hit in if is_static h.flags
    then method_at files f else None) (method_hit (c ∷ []) f)) (option_map (λ i. member_at c (length c.fields + i))
    o)) e
    ∙ ap (λ o. option_and_then (λ hit. let h : ResolvedMember = hit in if is_static h.flags
    then method_at files (member_at c (length c.fields + place)) else None) o) hit
  where
    hit : method_hit (c ∷ []) (member_at c (length c.fields + place)) ≡ Some (record { owner = c; flags = m.flags })
    hit = ap (λ t. option_and_then (λ k. option_map (λ x. record { owner = k; flags = x.flags })
        (slice_get k.methods ((length c.fields + place) - length k.fields))) (if t then Some c else None)) (at_itself c)
        ∙ ap (λ n. option_map (λ x. record { owner = c; flags = x.flags }) (slice_get c.methods n))
        (let n : (length c.fields + place) - length c.fields ≡ place = omega arith in n)
        ∙ ap (option_map (λ x. record { owner = c; flags = x.flags })) s

-- ---- what scripts send

module _ (files : Files) (w : List Class) (type : List ℕ) (id : MemberId) (f : Found) (hit : ResolvedMember)
    (found : find_method w id.class id.name id.desc ≡ Some f) (is_hit : method_hit w f ≡ Some hit) where
  sent_is : sent_named files w type id ≡ sent_by files w (select_in w) type id hit
  sent_is = ap (option_and_then (λ f. option_and_then (sent_by files w (select_in w) type id) (method_hit w f))) found
      ∙ ap (option_and_then (sent_by files w (select_in w) type id)) is_hit

  pub not_sent : (is_sendable id hit && is_subtype w type id.class) ≡ false → None ≡ sent_named files w type id
  not_sent e = sym (sent_is ∙ ap (λ t. if t then option_and_then (method_at files) (select_in w type id) else None) e)

  pub sent : (is_sendable id hit && is_subtype w type id.class) ≡ true
      → option_and_then (method_at files) (select_in w type id) ≡ sent_named files w type id
  sent e = sym (sent_is ∙ ap (λ t. if t then option_and_then (method_at files) (select_in w type id) else None) e)
