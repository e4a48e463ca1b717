-- Each method of a class file that stands in Method begins at its offset.
use Rattle.std.proofs.Common.{◌≡◌, ℕ, ◌<◌, refl, sym, ap, subst, ◌∙◌, arith, Bool, true, false}
use Rattle.std.specs.Prelude.{Option, Some, None, slice_get, option_and_then, ◌==◌, if◌then◌else◌}
use Rattle.std.specs.List.{list_any}
use Rattle.std.proofs.lemmas.Bool.Decides.{nat_tests}
use Rattle.std.proofs.lemmas.Map.Keys.{any_passes_from_place}
use Rattle.cjc_jvm_semantics.specs.Linked.{Method}
use Rattle.cjc_jvm_semantics.specs.OnePackage.{method_at, method_in}
use Rattle.cjc_token_proof.proofs.ByToken.Members.{member_same}
use Rattle.cjc_token_proof.specs.Calls.Reaching.{BeginsAtOffsets, is_in_method, is_same}
use Rattle.cjc_card_semantics.specs.Machine.Methods.{start_of}
use Rattle.cjc_components.specs.Methods.{bytecode_count, extent_of, first_method, is_member}
use Rattle.cjc_components.specs.Methods.{method_offset, placed_at, placed_methods}
use Rattle.cjc_components.specs.Package.{LaidMethod, Package, pool, world}
use Rattle.cjc_components.specs.Written.{is_abstract_at, is_abstract_by}
use Rattle.cjc_ncode.specs.Lowering.Agreement.{IsAmong}
use Rattle.cjc_ncode.specs.Lowering.Placed.{IsListed, Placed, start_on_card}
use Rattle.cjc_ncode.proofs.LoweringLaws.Beginning.{begins}
use Rattle.cjc_ncode.proofs.LoweringLaws.Packed.{bytes_stand}
use Rattle.cjc_components.specs.LowerNarrow.Rows.Selected.{near_fields}
use Rattle.cjc_ncode.specs.PoolOrder.{same_member}
use Rattle.cjc_world.specs.declared.found.Found.{Found}
use Rattle.cjc_world.specs.Order.{method_order}
use Rattle.cjc_token_proof.specs.Tables.Loading.{naming, part}
use Rattle.cjc_token_proof.specs.WrittenCalls.Standing.{AreMethods, AreReady, ClassesStand, HaveOwnIds, is_method_of}
use Rattle.cjc_token_proof.specs.WrittenCalls.Standing.{place}
use Rattle.cjc_token_proof.proofs.WrittenCalls.Extents.{Stands, Tells, offset_in, same_extent, stands}
use Rattle.cjc_token_proof.proofs.WrittenCalls.Begins.{any_member, get_member, same_found, same_itself, told}
use Rattle.cjc_token_proof.proofs.WrittenCalls.HeadersRead.{header_read}
use Rattle.cjc_token_proof.proofs.WrittenCalls.Held.{FormsLaw, OffsetsLaw, count_same, methods_held}
use Rattle.cjc_token_proof.proofs.WrittenCalls.Orders.{method_own}

module _ (forms : FormsLaw) (offsets : OffsetsLaw) (p : Package) (ready : AreReady p) (methods : AreMethods p)
    (own : HaveOwnIds p) (classes : ClassesStand p) where
  -- a method of Method
  in_order_at : (j : ℕ) (t : LaidMethod) → slice_get p.methods j ≡ Some t → slice_get (method_order (world p)) j
      ≡ Some t.member
  in_order_at j t e = ap (λ fs. slice_get fs j) (sym methods.members) ∙ get_member p.methods j t e

  is_own : (j : ℕ) (t : LaidMethod) → slice_get p.methods j ≡ Some t → t.member.imported ≡ false
  is_own j t e = method_own (world p) j t.member (in_order_at j t e)

  in_method : (j : ℕ) (t : LaidMethod) → slice_get p.methods j ≡ Some t → is_in_method (world p) t.member ≡ true
  in_method j t e = any_passes_from_place (is_same t.member) (method_order (world p)) j t.member (in_order_at j t e)
      (same_itself t.member (is_own j t e))

  module _ (f : Found) (f_own : f.imported ≡ false) (is_there : is_in_method (world p) f ≡ true) where
    pub stood : Stands (first_method p.methods) 0 p.methods f
    stood = stands (first_method p.methods) 0 p.methods f (sym (any_member f p.methods)
        ∙ ap (list_any (is_same f)) methods.members ∙ is_there)

    abbrev q : Placed
    q = placed_at stood.offset stood.method

    some : 0 < stood.offset
    some = let low = stood.low in omega (arith, low)

    at_offset : method_offset p f ≡ stood.offset
    at_offset = ap offset_in stood.extent

    one_count : (g : Found) → method_offset p g ≡ stood.offset → (let e = extent_of p g in e.bytecode_count)
        ≡ bytecode_count stood.method
    one_count g e =
        let low : 0 < first_method p.methods = omega arith in
        let here : 0 < offset_in (extent_of p f) = subst (λ x. 0 < x) (sym at_offset) some in
        let same : extent_of p f ≡ extent_of p g = same_extent (first_method p.methods) 0 p.methods f g low here
        (at_offset ∙ sym e) in
        sym (ap (λ (x : Rattle.cjc_components.specs.Methods.Extent). x.bytecode_count) same)
        ∙ ap (λ (x : Rattle.cjc_components.specs.Methods.Extent). x.bytecode_count) stood.extent

    member_is : stood.method.member ≡ f
    member_is = same_found f stood.method.member f_own (is_own stood.number stood.method stood.there) stood.is

    among : list_any (λ g. method_offset p g == stood.offset) (method_order (world p)) ≡ true
    among = any_passes_from_place (λ g. method_offset p g == stood.offset) (method_order
        (world p)) stood.number stood.method.member
        (in_order_at stood.number stood.method stood.there)
        (ap (λ g. method_offset p g == stood.offset) member_is ∙ ap (λ x. x == stood.offset) at_offset
        ∙ same_number stood.offset)
      where
        same_number : (x : ℕ) → (x == x) ≡ true
        same_number x = grind (arith, nat_tests)

    listed : IsListed (naming p) q (part p)
    listed =
        let r = told p stood.offset (bytecode_count stood.method) some one_count classes among in
        let whole = ready stood.number stood.method stood.there in
        record {
          descriptor = r.0;
          there = r.1;
          count = r.2
              ∙ sym (count_same forms offsets (naming p) stood.offset stood.method (whole.laid_out stood.offset));
        }

    -- each method of Method begins at its offset
    starts_there : start_of (naming p).loaded 0 (method_offset p f)
        ≡ Some (start_on_card (naming p) stood.method.is_abstract q)
    starts_there =
        let held = methods_held forms offsets p ready in
        ap (start_of (naming p).loaded 0) at_offset
        ∙ begins (naming p) q (part p) stood.method.is_abstract (header_read stood.method) (bytes_stand (naming p)
        (part p) (placed_methods p) held stood.number q stood.placed) listed

    -- one that no class file has is abstract
    pub added_starts : method_at p.files f ≡ None → start_of (naming p).loaded 0 (method_offset p f)
        ≡ Some (start_on_card (naming p) true q)
    added_starts none =
        starts_there
        ∙ ap (λ t. Some (start_on_card (naming p) t q)) (methods.is_abstract stood.number stood.method stood.there
        ∙ ap (is_abstract_at p.files) member_is ∙ ap is_abstract_by none)

    -- what holds of the method of Method that is the member
    pub stood_has : (Q : LaidMethod → Type 0) → ((j : ℕ) (t : LaidMethod) → slice_get p.methods j ≡ Some t
        → t.member ≡ f → Q t) → Q stood.method
    stood_has Q all = all stood.number stood.method stood.there member_is

  module _ (f : Found) (m : Method) (is_there : is_in_method (world p) f ≡ true) (is_method : method_at p.files f
      ≡ Some m) where
    -- what stands in Method is of the package
    f_own : f.imported ≡ false
    f_own = by f.imported refl is_method
      where
        by : (t : Bool) → f.imported ≡ t
            → (if t then None else option_and_then (method_in f.member) (slice_get p.files.classes f.class)) ≡ Some m
            → f.imported ≡ false
        by true is h = absurd (cc)
        by false is h = is

    tells : Tells p.files m.id p.methods f
    tells j t e = by (is_member f t) refl
      where
        other : (o : Option Method) → method_at p.files t.member ≡ o → is_member f t ≡ false
            → false ≡ is_method_of m.id o
        other None is not_it = refl
        other (Some k) is not_it = split (same_member k.id m.id) refl
          where
            split : (s : Bool) → same_member k.id m.id ≡ s → false ≡ s
            split false same = refl
            split true same =
                let one : f ≡ t.member = own f t.member m k is_there (in_method j t e) is_method is same in
                sym not_it ∙ ap (is_same f) (sym one) ∙ same_itself f f_own

        by : (s : Bool) → is_member f t ≡ s → s ≡ is_method_of m.id (method_at p.files t.member)
        by true is =
            let one : t.member ≡ f = same_found f t.member f_own (is_own j t e) is in
            sym (ap (λ g. is_method_of m.id (method_at p.files g)) one ∙ ap (is_method_of m.id) is_method
            ∙ member_same m.id)
        by false is = other (method_at p.files t.member) refl is

    abbrev here : Stands (first_method p.methods) 0 p.methods f
    here = stood f f_own is_there

    is_abstract_same : here.method.is_abstract ≡ m.is_abstract
    is_abstract_same = methods.is_abstract here.number here.method here.there
        ∙ ap (is_abstract_at p.files) (member_is f f_own is_there) ∙ ap is_abstract_by is_method

    pub begins_there : start_of (naming p).loaded 0 (method_offset p f) ≡ Some (start_on_card (naming p) m.is_abstract
        (place p m))
    begins_there =
        starts_there f f_own is_there
        ∙ ap (λ t. Some (start_on_card (naming p) t (placed_at here.offset here.method))) is_abstract_same
        ∙ ap (λ x. Some (start_on_card (naming p) m.is_abstract x)) (sym (here.found p.files (near_fields (pool p)) m
        tells))

    -- what is asked of the code of each method of Method holds of the code at its place
    pub place_has : (Q : LaidMethod → Type 0) → ((j : ℕ) (t : LaidMethod) → slice_get p.methods j ≡ Some t
        → t.member ≡ f → Q t) → (offset : ℕ) × (t : LaidMethod) × (place p m ≡ placed_at offset t) × Q t
    place_has Q all = (
      here.offset,
      here.method,
      here.found p.files (near_fields (pool p)) m tells,
      all here.number here.method here.there (member_is f f_own is_there),
    )

    -- its place is one of those of Method
    pub place_among : IsAmong (placed_methods p) (place p m)
    place_among = record {
      place = here.number;
      there = here.placed
          ∙ ap Some (sym (here.found p.files (near_fields (pool p)) m tells));
    }

pub methods_begin : (forms : FormsLaw) (offsets : OffsetsLaw) (p : Package) → AreReady p → AreMethods p → HaveOwnIds p
    → ClassesStand p → BeginsAtOffsets p.files (world p) (naming p) (method_offset p) (place p)
methods_begin forms offsets p ready methods own classes f m is_there is_method = begins_there forms offsets p ready
    methods own classes f m is_there is_method
