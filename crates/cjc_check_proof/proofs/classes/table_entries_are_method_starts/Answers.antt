use Rattle.std.proofs.Common.{◌≡◌, ℕ, ◌+◌, ◌*◌, ◌==◌, refl, ap, subst, ◌∙◌, arith, Bool, true, false, List, [], length}
use Rattle.std.proofs.Common.{reverse}
use Rattle.std.specs.Prelude.{not, ◌&&◌, Option, Some, None, slice_get, if◌then◌else◌}
use Rattle.std.proofs.lemmas.Bool.Decides.{nat_tests}
use Rattle.cjc_bytes.specs.AccessFlags.{is_interface}
use Rattle.cjc_check_rules.specs.Spots.{in_info}
use Rattle.cjc_check_rules.specs.Complete.{class_size}
use Rattle.cjc_check_rules.specs.Classes.{classes_at, first_class}
use Rattle.cjc_check_rules.specs.Members.{is_method_start}
use Rattle.cjc_check_rules.specs.Tables.{in_tables, is_package_entry, is_public_entry, leaves, package_spot}
use Rattle.cjc_check_rules.specs.Tables.{public_spot}
use Rattle.cjc_world.specs.declared.found.Found.{Found}
use Rattle.cjc_world.specs.Classes.{Class}
use Rattle.cjc_world.specs.Order.{in_order}
use Rattle.cjc_vtable.specs.Tables.{table_of}
use Rattle.cjc_vtable.proofs.Filed.{Has, has-get}
use Rattle.cjc_components.specs.Package.{Package, world}
use Rattle.cjc_components.specs.Class.{class_entry, superclass, table_entry}
use Rattle.cjc_components.specs.Methods.{method_offset}
use Rattle.cjc_components.specs.Names.{class_ref}
use Rattle.cjc_token_proof.specs.Components.Methods.{HasMethods}
use Rattle.cjc_token_proof.specs.Components.Whole.{whole}
use Rattle.cjc_token_proof.proofs.ComponentsLaws.Tests.{passes, none_in_both}
use Rattle.cjc_token_proof.specs.Tables.Sound.{IsSound}
use Rattle.cjc_token_proof.proofs.TablesLaws.Order.{kind-in, own_names}
use Rattle.cjc_check_proof.specs.Classes.Premises.{HasShortMethods}
use Rattle.cjc_check_proof.proofs.ClassesLaws.Installs.{method_start, start_below}
use Rattle.cjc_check_proof.proofs.ClassesLaws.Leaving.{super_leaves}
use Rattle.cjc_check_proof.proofs.ClassesLaws.Lists.{none_along}
use Rattle.cjc_check_proof.proofs.ClassesLaws.Refs.{info}
use Rattle.cjc_check_proof.proofs.ClassesLaws.Tabled.{IsOwn, package_own, public_own}
use Rattle.cjc_check_proof.proofs.classes.table_entries_are_method_starts.Goals as goal

module _ (list : List ℕ) (p : Package) (sound : IsSound list p.files) (methods : HasMethods p) (short : HasShortMethods
    p) where
  abbrev w : List Class
  w = world p

  starts : (f : Found) → IsOwn w f → is_method_start (whole p) (method_offset p f) ≡ true
  starts f r = method_start p (own_names list p.files sound) methods r.class f r.there r.one

  not_marked : (f : Found) → IsOwn w f → (method_offset p f == 0xFFFF) ≡ false
  not_marked f r =
      let lt = start_below p (own_names list p.files sound) methods r.class f r.there r.one in
      let few = short in
      grind (arith, nat_tests, lt, few)

  public_entry : (k : ℕ) (c : Class) → slice_get (in_order w false) k ≡ Some c → (o : Option Found)
      → ((f : Found) → o ≡ Some f → IsOwn w f) → is_public_entry (whole p) (class_entry (class_ref p) p c)
      (table_entry p o) ≡ true
  public_entry k c e None own = super_leaves list p sound k c e
  public_entry k c e (Some f) own =
      ap (λ b. if b then leaves (reverse (classes_at (info p))) (class_ref p (superclass c))
      else is_method_start (whole p) (method_offset p f)) (not_marked f (own f refl))
      ∙ starts f (own f refl)

  package_entry : (f : Found) → IsOwn w f → is_package_entry (whole p) (method_offset p f) ≡ true
  package_entry f r = ap (λ b. not b && is_method_start (whole p) (method_offset p f)) (not_marked f r) ∙ starts f r

  plain : (b : Bool) → not b ≡ true → b ≡ false
  plain true e = absurd (cc)
  plain false e = refl

  class_tables : (at : ℕ) (c : Class) → Has c (in_order w false)
      → in_tables (whole p) at (class_entry (class_ref p) p c) ≡ []
  class_tables at c h =
      let k = has-get c (in_order w false) h in
      let m = kind-in list p.files sound false c h in
      let kind : is_interface c.flags ≡ false = plain (is_interface c.flags) m.2 in
      let table = table_of w c in
      let x = class_entry (class_ref p) p c in
      none_in_both
      (none_along (λ e. 2) (public_spot (whole p) x) (table_entry p) (at + 10) table.public
      (λ i o g. passes _ (in_info 6 i) (public_entry k.0 c k.1 o (λ f is. public_own list p sound c m.0 kind f
      (subst (λ (q : Option Found). Has q table.public) is g)))))
      (none_along (λ e. 2) (package_spot (whole p)) (method_offset p) (at + 10 + 2 * length x.public_methods)
      table.«package»
      (λ i f g. passes _ (in_info 6 i) (package_entry f (package_own list p sound c m.0 kind f g))))

pub returns : goal.returns
returns c list p sound methods short =
    none_along class_size (in_tables (whole p)) (class_entry (class_ref p) p) (first_class (info p))
    (in_order (world p) false) (λ at x h. class_tables list p sound methods short at x h)
