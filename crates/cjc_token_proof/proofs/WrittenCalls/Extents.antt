-- Where members of a package stand among the methods of Method.
use Rattle.std.proofs.Common.{◌≡◌, ℕ, suc, ◌+◌, ◌<◌, ◌≤◌, refl, sym, ap, ◌∙◌, arith, Bool, true, false, List, [], ◌∷◌}
use Rattle.std.proofs.Common.{length}
use Rattle.std.specs.Prelude.{Some, slice_get, if◌then◌else◌, ◌||◌}
use Rattle.std.specs.List.{list_any}
use Rattle.cjc_components.specs.Methods.{Extent, extent_at, extent_from, header_of, is_member, method_size, placed_at}
use Rattle.cjc_components.specs.Methods.{placed_from, with_abstract, handler_count}
use Rattle.cjc_components.specs.Package.{LaidMethod}
use Rattle.cjc_components.specs.LowerEmit.Emitted.{is_short}
use Rattle.cjc_ncode.specs.Lowering.Placed.{short_header, extended_header}
use Rattle.cjc_ncode.specs.declared.narrow.NMethod.{NMethod}
use Rattle.cjc_world.specs.declared.found.Found.{Found}
use Rattle.cjc_world.specs.Files.{Files}
use Rattle.cjc_bytes.specs.declared.fault.MemberId.{MemberId}
use Rattle.cjc_jvm_semantics.specs.Linked.{Method}
use Rattle.cjc_jvm_semantics.specs.OnePackage.{method_at}
use Rattle.cjc_token_proof.specs.WrittenCalls.Standing.{is_method_of, place_from}

-- ---- headers have bytes

header_by : (is_abstract short : Bool) → NMethod → List ℕ
header_by is_abstract short m = let bytes = if short then short_header m else extended_header m in if is_abstract
    then with_abstract bytes else bytes

header_some : (a s : Bool) (m : NMethod) → 0 < length (if a then with_abstract (if s then short_header m
    else extended_header m) else (if s then short_header m else extended_header m))
header_some true true m = omega arith
header_some true false m = omega arith
header_some false true m = omega arith
header_some false false m = omega arith

pub header_there : (m : LaidMethod) → 0 < length (header_of m)
header_there m = header_some m.is_abstract (is_short m.code) m.code

pub some_bytes : (m : LaidMethod) → 0 < method_size m
some_bytes m = let h = header_there m in omega (arith, h)

-- ---- one offset, one extent

abbrev pub offset_in : Extent → ℕ
offset_in e = e.offset

-- a member that stands among methods stands at the first of them or behind
not_before : (at k : ℕ) (ms : List LaidMethod) (f : Found) → 0 < offset_in (extent_from at k ms f)
    → at ≤ offset_in (extent_from at k ms f)
not_before at k [] f some = absurd (omega (arith, some))
not_before at k (m ∷ ms) f some = by (is_member f m) some (not_before (at + method_size m) (k + handler_count m) ms f)
  where
    by : (t : Bool) → 0 < offset_in (if t then extent_at at k m
        else extent_from (at + method_size m) (k + handler_count m) ms f)
        → (0 < offset_in (extent_from (at + method_size m) (k + handler_count m) ms f)
        → at + method_size m ≤ offset_in (extent_from (at + method_size m) (k + handler_count m) ms f))
        → at ≤ offset_in (if t then extent_at at k m else extent_from (at + method_size m) (k + handler_count m) ms
        f)
    by true some behind = omega arith
    by false some behind = let rest = behind some in omega (arith, rest)

-- two members at one offset have one extent
pub same_extent : (at k : ℕ) (ms : List LaidMethod) (f g : Found) → 0 < at → 0 < offset_in (extent_from at k ms f)
    → offset_in (extent_from at k ms f) ≡ offset_in (extent_from at k ms g) → extent_from at k ms f
    ≡ extent_from at k ms g
same_extent at k [] f g low some e = refl
same_extent at k (m ∷ ms) f g low some e = by (is_member f m) (is_member g m) some e
    (λ s x. same_extent (at + method_size m) (k + handler_count m) ms f g (omega (arith, low)) s x)
  where
    by : (s t : Bool) → 0 < offset_in (if s then extent_at at k m
        else extent_from (at + method_size m) (k + handler_count m) ms f)
        → offset_in (if s then extent_at at k m else extent_from (at + method_size m) (k + handler_count m) ms f)
        ≡ offset_in (if t then extent_at at k m else extent_from (at + method_size m) (k + handler_count m) ms g)
        → (0 < offset_in (extent_from (at + method_size m) (k + handler_count m) ms f)
        → offset_in (extent_from (at + method_size m) (k + handler_count m) ms f)
        ≡ offset_in (extent_from (at + method_size m) (k + handler_count m) ms g)
        → extent_from (at + method_size m) (k + handler_count m) ms f ≡ extent_from (at + method_size m)
        (k + handler_count m) ms g)
        → (if s then extent_at at k m else extent_from (at + method_size m) (k + handler_count m) ms f)
        ≡ (if t then extent_at at k m else extent_from (at + method_size m) (k + handler_count m) ms g)
    by true true some e rest = refl
    by true false some e rest =
        let later : 0 < offset_in (extent_from (at + method_size m) (k + handler_count m) ms g) = omega (arith, low, e)
        in
        let far = not_before (at + method_size m) (k + handler_count m) ms g later in
        let long = some_bytes m in absurd (omega (arith, far, long, e))
    by false true some e rest =
        let far = not_before (at + method_size m) (k + handler_count m) ms f some in
        let long = some_bytes m in absurd (omega (arith, far, long, e))
    by false false some e rest = rest some e

-- ---- where a member stands

-- the id is that of the member and of no other
abbrev pub Tells : Files → MemberId → List LaidMethod → Found → Type 0
Tells files id ms f = (j : ℕ) (m : LaidMethod) → slice_get ms j ≡ Some m
    → is_member f m ≡ is_method_of id (method_at files m.member)

-- A member that is one of these methods: the method with its place among them, its offset and the number of handlers
-- before it; and it is the one that is found by its id.
pub record Stands (at k : ℕ) (ms : List LaidMethod) (f : Found) : Type 0 where
  pub number : ℕ
  pub method : LaidMethod
  pub offset : ℕ
  pub handlers : ℕ
  pub there : slice_get ms number ≡ Some method
  pub is : is_member f method ≡ true
  pub placed : slice_get (placed_from at ms) number ≡ Some (placed_at offset method)
  pub extent : extent_from at k ms f ≡ extent_at offset handlers method
  pub found : (files : Files) (near : List MemberId) (x : Method) → Tells files x.id ms f
      → place_from files near at ms x ≡ placed_at offset method
  pub low : at ≤ offset

pub stands : (at k : ℕ) (ms : List LaidMethod) (f : Found) → list_any (is_member f) ms ≡ true → Stands at k ms f
stands at k [] f any = absurd (cc)
stands at k (m ∷ ms) f any = by (is_member f m) refl any (stands (at + method_size m) (k + handler_count m) ms f)
  where
    by : (t : Bool) → is_member f m ≡ t → (t || list_any (is_member f) ms) ≡ true → (list_any (is_member f) ms ≡ true
        → Stands (at + method_size m) (k + handler_count m) ms f) → Stands at k (m ∷ ms) f
    by true is any rest = record {
      number = 0;
      method = m;
      offset = at;
      handlers = k;
      there = refl;
      is = is;
      placed = refl;
      extent = ap (λ t. if t then extent_at at k m else extent_from (at + method_size m) (k + handler_count m) ms f) is;
      found = λ files near x tells. ap (λ t. if t then placed_at at m else place_from files near (at + method_size m) ms
          x) (sym (tells 0 m refl) ∙ is);
      low = omega arith;
    }
    by false is any rest =
        let r = rest any in
        let low = r.low in
        record {
          number = suc r.number;
          method = r.method;
          offset = r.offset;
          handlers = r.handlers;
          there = r.there;
          is = r.is;
          placed = r.placed;
          extent = ap (λ t. if t then extent_at at k m else extent_from (at + method_size m) (k + handler_count m) ms f)
              is ∙ r.extent;
          found = λ files near x tells. ap (λ t. if t then placed_at at m
              else place_from files near (at + method_size m) ms x) (sym (tells 0 m refl) ∙ is)
              ∙ r.found files near x (λ j o e. tells (suc j) o e);
          low = omega (arith, low);
        }
