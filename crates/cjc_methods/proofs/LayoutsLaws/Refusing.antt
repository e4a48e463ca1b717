-- What laying out a method gives, by what it is refused for; and which methods are headers alone.
use Rattle.std.proofs.Common.{◌≡◌, ℕ, ◌-◌, ◌≤◌, refl, sym, ap, subst, ◌∙◌, ⊎_elim, Bool, true, false, nat_lt, List, []}
use Rattle.std.proofs.Common.{◌∷◌, ◌++◌, length}
use Rattle.std.specs.Prelude.{slice_get, option_map, option_and_then, if◌then◌else◌, Option, Some, None}
use Rattle.std.proofs.lemmas.Bool.{ltb-false, ltb-true}
use Rattle.cjc_bytes.specs.declared.fault.Fault.TheVariants as faults
use Rattle.cjc_bytes.specs.declared.fault.MemberId.{MemberId}
use Rattle.cjc_bytes.specs.declared.fault.Refusal.{Refusal}
use Rattle.cjc_world.specs.ClassFile.Code.{CodeTree}
use Rattle.cjc_world.specs.ClassFile.declared.tree.ClassTree.{ClassTree}
use Rattle.cjc_world.specs.ClassFile.declared.tree.MethodTree.{MethodTree}
use Rattle.cjc_world.specs.declared.found.Found.{Found}
use Rattle.cjc_world.specs.Files.{Files}
use Rattle.cjc_pool.specs.JvmSemantics.OnePackage.{method_by, method_in}
use Rattle.cjc_pool.specs.NCode.declared.narrow.NMethod.{NMethod}
use Rattle.cjc_pool.specs.Layout.declared.layout.Layout.{Layout}
use Rattle.cjc_pool.specs.Layout.Layouts.{IsLayout}
use Rattle.cjc_pool.specs.Layout.Refusals.{IsRefusalBy, first_of, if_too_long, of_method, refusal_of}
use Rattle.cjc_components.specs.Written.{is_abstract_at, is_abstract_by}
use Rattle.cjc_methods.specs.declared.layouts.laid.Laid.{Laid}
use Rattle.cjc_methods.specs.declared.layouts.tries.Try.TheVariants as tries
use Rattle.cjc_methods.specs.Layouts.Working.Tries.{IsPut, IsTry, overtaken, refused}

-- ---- 311 and 415

not_long : (file : List ℕ) (id : MemberId) (w : ℕ) → if_too_long file id w ≡ None → w ≤ 32767
not_long file id w e = by (nat_lt 32767 w) refl e
  where
    by : (b : Bool) → nat_lt 32767 w ≡ b → (if b then Some (of_method file id 415 0) else None) ≡ None → w ≤ 32767
    by true h f = cc
    by false h f = ltb-false 32767 w h

unrefused_by : (file : List ℕ) (id : MemberId) (o : Option ℕ) (w : ℕ) → first_of file id o w ≡ None → (o ≡ None)
    × (w ≤ 32767)
unrefused_by file id None w e = (refl, not_long file id w e)
unrefused_by file id (Some offset) w e = cc

pub laid : (file : List ℕ) (id : MemberId) (m : NMethod) (l : Layout) → refusal_of file id m ≡ None → IsLayout m l
    → IsTry m (tries.Done l)
laid file id m l e is = let h = unrefused_by file id (overtaken m) m.widest e in (is, h.0, h.1)

too_long : (file : List ℕ) (id : MemberId) (m : NMethod) (r : Refusal) → overtaken m ≡ None
    → if_too_long file id m.widest ≡ Some r → IsTry m (refused r)
too_long file id m r none e = by (nat_lt 32767 m.widest) refl e
  where
    by : (b : Bool) → nat_lt 32767 m.widest ≡ b → (if b then Some (of_method file id 415 0) else None) ≡ Some r
        → IsTry m (refused r)
    by true h f = let same : of_method file id 415 0 ≡ r = cc in subst (λ x. IsTry m (refused x)) same (
      none,
      ltb-true 32767 m.widest h,
    )
    by false h f = cc

refused_by : (file : List ℕ) (id : MemberId) (m : NMethod) (r : Refusal) (o : Option ℕ) → overtaken m ≡ o
    → first_of file id o m.widest ≡ Some r → IsTry m (refused r)
refused_by file id m r None is e = too_long file id m r is e
refused_by file id m r (Some offset) is e = let same : of_method file id 311 offset ≡ r = cc
    in subst (λ x. IsTry m (refused x)) same is

pub not_laid : (file : List ℕ) (id : MemberId) (m : NMethod) (r : Refusal)
    → IsRefusalBy (refusal_of file id m) (faults.Refused r) → IsTry m (refused r)
not_laid file id m r h = ⊎_elim
    (λ e. absurd cc)
    (λ there. let (x, is, same) = there in let y : x ≡ r = cc in refused_by file id m r (overtaken m) refl (is
    ∙ ap Some y))
    h

-- ---- what is put

pub put_one : (files : Files) (f : Found) (m : NMethod) (before after : List Laid) (kind : Bool) (l : Layout)
    → kind ≡ is_abstract_at files f → after ≡ before ++ (record { member = f; is_abstract = kind; layout = l }) ∷ []
    → IsTry m (tries.Done l) → IsPut files f m before after
put_one files f m before after kind l is e t = record {
  last = record { member = f; is_abstract = kind; layout = l };
  is_last = e;
  is_laid = record { member = refl; kind = is; layout = t.0; short = t.2 };
}

-- ---- headers alone

abbrev pub none_there : Option CodeTree → Bool
none_there None = true
none_there (Some t) = false

pub kind_of : (c : ClassTree) (m : MethodTree) (o : Option CodeTree) (b : Bool) → b ≡ none_there o
    → b ≡ is_abstract_by (Some (method_by c m o))
kind_of c m None b e = e
kind_of c m (Some t) b e = e

pub of_import : (files : Files) (f : Found) → f.imported ≡ true → true ≡ is_abstract_at files f
of_import files f e =
    sym (ap (λ b. is_abstract_by (if b then None else option_and_then (method_in f.member) (slice_get files.classes
    f.class))) e)

own_kind : (files : Files) (f : Found) → f.imported ≡ false → is_abstract_at files f
    ≡ is_abstract_by (option_and_then (method_in f.member) (slice_get files.classes f.class))
own_kind files f e = ap (λ b. is_abstract_by (if b then None else option_and_then (method_in f.member)
    (slice_get files.classes f.class))) e

pub of_no_class : (files : Files) (f : Found) → f.imported ≡ false → slice_get files.classes f.class ≡ None
    → true ≡ is_abstract_at files f
of_no_class files f own e = sym (own_kind files f own
    ∙ ap (λ o. is_abstract_by (option_and_then (method_in f.member) o)) e)

in_tree : (files : Files) (f : Found) (c : ClassTree) (o : Option MethodTree) → f.imported ≡ false
    → slice_get files.classes f.class ≡ Some c → slice_get c.methods (f.member - length c.fields) ≡ o
    → is_abstract_at files f ≡ is_abstract_by (option_map (λ m. method_by c m m.code) o)
in_tree files f c o own is e =
    own_kind files f own ∙ ap (λ x. is_abstract_by (option_and_then (method_in f.member) x)) is
    ∙ ap (λ x. is_abstract_by (option_map (λ (m : MethodTree). method_by c m m.code) x)) e

pub of_no_method : (files : Files) (f : Found) (c : ClassTree) → f.imported ≡ false → slice_get files.classes f.class
    ≡ Some c → slice_get c.methods (f.member - length c.fields) ≡ None → true ≡ is_abstract_at files f
of_no_method files f c own is e = sym (in_tree files f c None own is e)

pub of_method_there : (files : Files) (f : Found) (c : ClassTree) (m : MethodTree) (b : Bool) → f.imported ≡ false
    → slice_get files.classes f.class ≡ Some c → slice_get c.methods (f.member - length c.fields) ≡ Some m
    → b ≡ none_there m.code → b ≡ is_abstract_at files f
of_method_there files f c m b own is e h = kind_of c m m.code b h ∙ sym (in_tree files f c (Some m) own is e)
