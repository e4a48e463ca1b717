-- What laying out one method gives, and the rules that it breaks, by its code alone.
use Rattle.std.specs.Prelude.{◌≡◌, ℕ, ◌≤◌, ◌<◌, List, [], ◌∷◌, ◌++◌, slice_get, nat_lt, ◌==◌, if◌then◌else◌, Option}
use Rattle.std.specs.Prelude.{Some, None}
use Rattle.cjc_bytes.specs.Breaks.{Break, at}
use Rattle.cjc_bytes.specs.declared.fault.Refusal.{Refusal}
use Rattle.cjc_world.specs.declared.found.Found.{Found}
use Rattle.cjc_world.specs.Classes.{Class, class_at}
use Rattle.cjc_world.specs.Files.{Files}
use Rattle.cjc_pool.specs.NCode.declared.narrow.NMethod.{NMethod}
use Rattle.cjc_pool.specs.Layout.Layouts.{IsLayout}
use Rattle.cjc_pool.specs.Layout.Refusals.{least, overtaking}
use Rattle.cjc_components.specs.Descriptor.{method_in}
use Rattle.cjc_components.specs.Limits.{method_spot, order_breaks}
use Rattle.cjc_components.specs.Package.{Package, world}
use Rattle.cjc_components.specs.Written.{is_abstract_at}
use Rattle.cjc_methods.specs.declared.layouts.laid.Laid.{Laid}
use Rattle.cjc_methods.specs.declared.layouts.tries.Try.{Try}
use Rattle.cjc_methods.specs.declared.layouts.tries.Try.TheVariants as tries

-- ---- one method

-- the first handler that stands in another order than its offset
abbrev pub overtaken : NMethod → Option ℕ
overtaken m = least (overtaking [] m.catches)

-- a layout, or what is broken
abbrev pub IsTry : NMethod → Try → Type 0
IsTry m (tries.Done layout) = IsLayout m layout × (overtaken m ≡ None) × (m.widest ≤ 32767)
IsTry m (tries.Overtaken offset) = overtaken m ≡ Some offset
IsTry m tries.TooLong = (overtaken m ≡ None) × (32767 < m.widest)

-- by the rule of a refusal
abbrev pub refused : Refusal → Try
refused r = let rule = r.rule in let place = r.place in if rule.0 == 311 then tries.Overtaken place.offset
    else tries.TooLong

-- 311 and 415 of a method of a class
abbrev pub breaks_in : Package → Class → Found → NMethod → List Break
breaks_in p c f code = let place = method_spot p c f (method_in (world p) c f.member) in
    order_breaks place (overtaken code) ++ at (nat_lt 32767 code.widest) (place 0) 415

-- 311 and 415 of a method beside its class, if there is one
abbrev pub breaks_by : Package → Found → NMethod → Option Class → List Break
breaks_by p f code None = []
breaks_by p f code (Some c) = breaks_in p c f code

-- 311 and 415 of a method, by the class that has it
abbrev pub breaks_at : Package → Found → NMethod → List Break
breaks_at p f code = breaks_by p f code (class_at (world p) f.imported f.class)

-- ---- all

-- of the member of the same place
abbrev pub breaks_where : Package → Option Found → NMethod → List Break
breaks_where p None code = []
breaks_where p (Some f) code = breaks_at p f code

-- 311 and 415 of the code at a place, by the member at the same place
abbrev pub code_breaks : Package → List Found → ℕ → NMethod → List Break
code_breaks p members k code = breaks_where p (slice_get members k) code

-- a method that breaks none of them
pub record IsFine (m : NMethod) : Type 0 where
  pub ordered : overtaken m ≡ None
  pub short : m.widest ≤ 32767

-- a method with its layout
pub record IsLaid (files : Files) (f : Found) (m : NMethod) (l : Laid) : Type 0 where
  pub member : l.member ≡ f
  pub kind : l.is_abstract ≡ is_abstract_at files f
  pub layout : IsLayout m l.layout
  pub short : m.widest ≤ 32767

-- the last of these is such a method
pub record IsPut (files : Files) (f : Found) (m : NMethod) (before after : List Laid) : Type 0 where
  pub last : Laid
  pub is_last : after ≡ before ++ last ∷ []
  pub is_laid : IsLaid files f m last

-- these are such methods
pub data AreAll (files : Files) : List Found → List NMethod → List Laid → Type 0 where
  none : AreAll files [] [] []
  more : {f : Found} {m : NMethod} {l : Laid} {fs : List Found} {ms : List NMethod} {ls : List Laid}
      → IsLaid files f m l → AreAll files fs ms ls → AreAll files (f ∷ fs) (m ∷ ms) (l ∷ ls)

-- each of these breaks none
pub data AreFine : List NMethod → Type 0 where
  none : AreFine []
  more : {m : NMethod} {ms : List NMethod} → IsFine m → AreFine ms → AreFine (m ∷ ms)
