-- What is kept where 411 and 416 are not broken.
use Rattle.std.proofs.Common.{◌≡◌, ℕ, ◌≤◌, refl, Bool, true, false, List, [], ◌∷◌, ◌++◌, length, arith}
use Rattle.std.specs.Prelude.{nat_lt}
use Rattle.std.specs.List.{list_any}
use Rattle.std.proofs.lemmas.Bool.Decides.{nat_tests}
use Rattle.cjc_bytes.specs.Breaks.{Break, RulePlace, at}
use Rattle.cjc_bytes.proofs.Bools.{or_left, or_right}
use Rattle.cjc_pool.specs.CapWrite.Files.{Infos, infos_of, is_too_large, is_wide}
use Rattle.cjc_pool.specs.CapWrite.Descriptor.{types_bytes}
use Rattle.cjc_components.specs.Package.{Package, pool}
use Rattle.cjc_components.specs.Components.{components_of}
use Rattle.cjc_components.specs.Descriptor.{descriptor}
use Rattle.cjc_components.specs.Limits.{else_of, form_breaks, has_far_types, has_large_component}
use Rattle.cjc_components.specs.Limits.{has_many_entries, layout_breaks, of_methods, size_breaks, spot_of_list}
use Rattle.cjc_components.specs.Limits.{widest_method}

front_off : (a b : Bool) (s : RulePlace) (m n : ℕ) → at a s m ++ at b s n ≡ [] → a ≡ false
front_off true b s m n e = cc
front_off false b s m n e = refl

back_off : (a b : Bool) (s : RulePlace) (m n : ℕ) → at a s m ++ at b s n ≡ [] → b ≡ false
back_off true b s m n e = cc
back_off false true s m n e = cc
back_off false false s m n e = refl

-- at most so many
pub at_most : (limit n : ℕ) → nat_lt limit n ≡ false → n ≤ limit
at_most limit n e = grind (arith, nat_tests, e)

-- ---- what is tested first is not broken either

pub after_first : (a b : List Break) → else_of a b ≡ [] → b ≡ []
after_first [] b e = e
after_first (x ∷ a) b e = cc

pub before_second : (a b : List Break) → else_of a b ≡ [] → a ≡ []
before_second [] b e = refl
before_second (x ∷ a) b e = cc

behind_off : (a : List Break) (b : Bool) (s : RulePlace) (n : ℕ) → a ++ at b s n ≡ [] → b ≡ false
behind_off [] true s n e = cc
behind_off [] false s n e = refl
behind_off (x ∷ a) b s n e = cc

module _ (p : Package) (none : else_of (form_breaks p) (size_breaks p) ≡ []) where
  pub sizes_kept : size_breaks p ≡ []
  sizes_kept = after_first (form_breaks p) (size_breaks p) none

  forms_kept : form_breaks p ≡ []
  forms_kept = before_second (form_breaks p) (size_breaks p) none

  many_off : has_many_entries p ≡ false
  many_off = behind_off (of_methods p (layout_breaks p)) (has_many_entries p) (spot_of_list p) 414 forms_kept

  pub entries_few : length (pool p) ≤ 16383
  entries_few = at_most 16383 (length (pool p)) (or_left _ _ many_off)

-- ---- bytes

-- the bytes of components that are not too large
pub record AreShort (i : Infos) : Type 0 where
  pub header : length i.header ≤ 65535
  pub directory : length i.directory ≤ 65535
  pub applet : length i.applet ≤ 65535
  pub import : length i.import ≤ 65535
  pub pool : length i.pool ≤ 65535
  pub class : length i.class ≤ 32767
  pub statics : length i.statics ≤ 65535
  pub locations : length i.locations ≤ 65535
  pub export : length i.export ≤ 65535
  pub descriptor : length i.descriptor ≤ 65535

pub are_short : (i : Infos) → is_too_large i ≡ false → AreShort i
are_short i e =
    let e1 = or_right _ _ e in
    let e2 = or_right _ _ e1 in
    let e3 = or_right _ _ e2 in
    let e4 = or_right _ _ e3 in
    let e5 = or_right _ _ e4 in
    let e6 = or_right _ _ e5 in
    let e7 = or_right _ _ e6 in
    let e8 = or_right _ _ e7 in
    let e9 = or_right _ _ e8 in
    record {
      class = at_most 32767 (length i.class) (or_left _ _ e);
      header = at_most 65535 (length i.header) (or_left _ _ e1);
      directory = at_most 65535 (length i.directory) (or_left _ _ e2);
      applet = at_most 65535 (length i.applet) (or_left _ _ e3);
      import = at_most 65535 (length i.import) (or_left _ _ e4);
      pool = at_most 65535 (length i.pool) (or_left _ _ e5);
      statics = at_most 65535 (length i.statics) (or_left _ _ e6);
      locations = at_most 65535 (length i.locations) (or_left _ _ e7);
      export = at_most 65535 (length i.export) (or_left _ _ e8);
      descriptor = at_most 65535 (length i.descriptor) e9;
    }

module _ (p : Package) (none : size_breaks p ≡ []) where
  not_large : has_large_component p ≡ false
  not_large = back_off (has_far_types p) (has_large_component p) (spot_of_list p) 411 416 none

  pub method_counted : widest_method p ≤ 65535
  method_counted = at_most 65535 (widest_method p) (or_left _ _ not_large)

  pub components_short : AreShort (infos_of (components_of p))
  components_short = are_short (infos_of (components_of p)) (or_right _ _ not_large)

  not_far : has_far_types p ≡ false
  not_far = front_off (has_far_types p) (has_large_component p) (spot_of_list p) 411 416 none

  pub narrow_types : list_any is_wide (let d = descriptor p in d.types) ≡ false
  narrow_types = or_left _ _ not_far

  pub types_near : length (types_bytes (descriptor p)) ≤ 32767
  types_near = at_most 32767 (length (types_bytes (descriptor p))) (or_right _ _ not_far)
