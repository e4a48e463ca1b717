-- The methods of components as the card runs them: what begins at an offset, and which instruction is fetched.
use Rattle.std.proofs.Common.{◌≡◌, ℕ, suc, ◌+◌, ◌-◌, ◌<◌, ◌≤◌, ◌==◌, refl, sym, ap, subst, ◌∙◌, arith, Bool, true}
use Rattle.std.proofs.Common.{false, List, [], ◌∷◌, ◌++◌, length, drop, map, slice_get, Option, Some, None, Result, Ok}
use Rattle.std.proofs.Common.{Err}
use Rattle.std.specs.Prelude.{◌*◌, if◌then◌else◌, ◌||◌, cond, filter, flat_map, nat_le, option_and_then, option_map}
use Rattle.std.specs.Prelude.{sum_by}
use Rattle.std.proofs.lemmas.List.{drop-drop}
use Rattle.std.proofs.lemmas.List.Concat.{flat_map-cons}
use Rattle.std.proofs.lemmas.List.Sums.{sum_by-cons}
use Rattle.cjc_check_rules.specs.CapRead.declared.tree.ClassEntry.{ClassEntry}
use Rattle.cjc_check_rules.specs.CapRead.declared.tree.ClassRef.{ClassRef}
use Rattle.cjc_check_rules.specs.CapRead.declared.tree.ClassRef.TheVariants.{Inside, Outside}
use Rattle.cjc_check_rules.specs.CapRead.declared.tree.ClassDescriptor.{ClassDescriptor}
use Rattle.cjc_check_rules.specs.CapRead.declared.tree.ImplementedInterface.{ImplementedInterface}
use Rattle.cjc_check_rules.specs.CapRead.declared.tree.InterfaceEntry.{InterfaceEntry}
use Rattle.cjc_check_rules.specs.CapRead.declared.tree.MethodDescriptor.{MethodDescriptor}
use Rattle.cjc_check_rules.specs.CapRead.Decode.{Instruction, decode, size}
use Rattle.cjc_check_rules.specs.CapRead.MethodHeader.{MethodHeader, method_header}
use Rattle.cjc_check_rules.specs.Spots.{Placed, begins, placed}
use Rattle.cjc_check_rules.specs.Classes.{first_class, is_own_class}
use Rattle.cjc_check_rules.specs.Codes.{Code as Cut, codes, cut, instructions, whole_spots}
use Rattle.cjc_check_rules.specs.Codes as check
use Rattle.cjc_check_rules.specs.Complete.{Complete, class_size, interface_size, map_size}
use Rattle.cjc_check_rules.specs.Members.{class_methods}
use Rattle.cjc_card_semantics.specs.Bytecode.Machine.{Start}
use Rattle.cjc_card_semantics.specs.Machine.Classes.{Info, IsClass, IsInterface, info_size, map_sizes, number_from}
use Rattle.cjc_card_semantics.specs.Machine.Classes.{or_else}
use Rattle.cjc_card_semantics.specs.Machine.Loaded.{Loaded, Part}
use Rattle.cjc_card_semantics.specs.Machine.Methods.{Code, bytes_from, described, fetch, fetched_as, fetched_in}
use Rattle.cjc_card_semantics.specs.Machine.Methods.{fetched_within, is_class_at, is_class_info, method_among}
use Rattle.cjc_card_semantics.specs.Machine.Methods.{methods_begin, start_at, start_in}
use Rattle.cjc_check_rules.proofs.BytesNumbers.{at_most, number_same, other_number}
use Rattle.cjc_cut_proof.specs.Cuts.{AreOf, IsCut, IsMethodAt}
use Rattle.cjc_cut_proof.proofs.CutLaws.{AreCut, code_beside, cut_from, first_of_offset}
use Rattle.cjc_cut_proof.proofs.CutLaws.{found_by_offset, next_begins, stands}

-- ---- infos of classes

map_bytes : (maps : List ImplementedInterface) → sum_by map_size maps ≡ map_sizes maps
map_bytes [] = refl
map_bytes (m ∷ maps) = sum_by-cons map_size m maps ∙ ap (λ n. 3 + length m.index + n) (map_bytes maps)

class_bytes : (c : ClassEntry) → class_size c ≡ info_size (IsClass c)
class_bytes c = ap (λ n. 10 + 2 * length c.public_methods + 2 * length c.package_methods + n) (map_bytes c.interfaces)

-- items begin from an offset on
begin_behind : {A : Type 0} (size : A → ℕ) (from : ℕ) (xs : List A) (offset : ℕ) → offset < from
    → begins (placed size from xs) offset ≡ false
unfolding placed
begin_behind size from [] offset lt = refl
begin_behind size from (x ∷ xs) offset lt =
    ap (λ b. b || begins (placed size (from + size x) xs) offset) (other_number from offset (λ e. omega (arith, lt, e)))
    ∙ begin_behind size (from + size x) xs offset (omega (arith, lt))

abbrev class_among : (infos : List Info) → Option ℕ → Bool
class_among infos o = is_class_info (option_and_then (slice_get infos) o)

among_later : (i : Info) (infos : List Info) (o : Option ℕ) → class_among (i ∷ infos) (option_map suc o)
    ≡ class_among infos o
among_later i infos None = refl
among_later i infos (Some k) = refl

-- a class info stands where a class begins
only_classes : (at : ℕ) (cs : List ClassEntry) (offset : ℕ) → class_among (map IsClass cs) (number_from at
    (map IsClass cs) offset) ≡ begins (placed class_size at cs) offset
unfolding placed
only_classes at [] offset = refl
only_classes at (c ∷ cs) offset = by (at == offset) (only_classes (at + info_size (IsClass c)) cs offset)
  where
    by : (t : Bool) → class_among (map IsClass cs) (number_from (at + info_size (IsClass c)) (map IsClass cs) offset)
        ≡ begins (placed class_size (at + info_size (IsClass c)) cs) offset
        → class_among (IsClass c ∷ map IsClass cs) (if t then Some 0 else option_map suc (number_from (at
        + info_size (IsClass c)) (map IsClass cs) offset))
        ≡ (t || begins (placed class_size (at + class_size c) cs) offset)
    by true more = refl
    by false more = among_later (IsClass c) (map IsClass cs) (number_from (at + info_size (IsClass c)) (map IsClass cs)
        offset) ∙ more ∙ ap (λ n. begins (placed class_size (at + n) cs) offset) (sym (class_bytes c))

class_stands : (at : ℕ) (is : List InterfaceEntry) (cs : List ClassEntry) (offset : ℕ)
    → class_among (map IsInterface is ++ map IsClass cs) (number_from at (map IsInterface is ++ map IsClass cs) offset)
    ≡ begins (placed class_size (at + sum_by interface_size is) cs) offset
class_stands at [] cs offset = only_classes at cs offset ∙ (let z : at ≡ at + 0 = omega arith
    in ap (λ n. begins (placed class_size n cs) offset) z)
class_stands at (i ∷ is) cs offset = by (at == offset) refl (class_stands (at + info_size (IsInterface i)) is cs offset)
  where
    rest : List Info
    rest = map IsInterface is ++ map IsClass cs

    same : at + info_size (IsInterface i) + sum_by interface_size is ≡ at + sum_by interface_size (i ∷ is)
    same = let s = sum_by-cons interface_size i is in omega (arith, s)

    by : (t : Bool) → (at == offset) ≡ t
        → class_among (map IsInterface is ++ map IsClass cs) (number_from (at + info_size (IsInterface i))
        (map IsInterface is ++ map IsClass cs) offset)
        ≡ begins (placed class_size (at + info_size (IsInterface i) + sum_by interface_size is) cs) offset
        → class_among (IsInterface i ∷ (map IsInterface is ++ map IsClass cs)) (if t then Some 0
        else option_map suc (number_from (at + info_size (IsInterface i)) (map IsInterface is ++ map IsClass cs)
        offset)) ≡ begins (placed class_size (at + sum_by interface_size (i ∷ is)) cs) offset
    by true t more = let here = number_same at offset t in let s = sum_by-cons interface_size i is
        in sym (begin_behind class_size (at + sum_by interface_size (i ∷ is)) cs offset (omega (arith, here, s)))
    by false t more = among_later (IsInterface i) (map IsInterface is ++ map IsClass cs) (number_from
        (at + info_size (IsInterface i)) (map IsInterface is ++ map IsClass cs) offset) ∙ more
        ∙ ap (λ n. begins (placed class_size n cs) offset) same

-- the card takes the same class_refs for classes of the package as the rules do
pub class_refs_agree : (part : Part) (c : Complete) → part.class ≡ c.class → (r : ClassRef) → is_class_at part r
    ≡ is_own_class c.class r
class_refs_agree part c same (Outside import class) = refl
class_refs_agree part c same (Inside offset) = by part.class same
  where
    by : (x : _) → x ≡ c.class → is_class_info (option_and_then (slice_get (map IsInterface x.interfaces
        ++ map IsClass x.classes)) (number_from 2 (map IsInterface x.interfaces ++ map IsClass x.classes) offset))
        ≡ is_own_class c.class (Inside offset)
    by x e = class_stands 2 x.interfaces x.classes offset ∙ ap (λ y. begins (placed class_size
        (first_class y) y.classes)
        offset) e

-- ---- methods by offset

among_both : (xs ys : List MethodDescriptor) (offset : ℕ) → method_among (xs ++ ys) offset
    ≡ or_else (method_among xs offset) (method_among ys offset)
among_both [] ys offset = refl
among_both (m ∷ xs) ys offset = by (m.offset == offset) (among_both xs ys offset)
  where
    by : (t : Bool) → method_among (xs ++ ys) offset ≡ or_else (method_among xs offset) (method_among ys offset)
        → (if t then Some m else method_among (xs ++ ys) offset) ≡ or_else (if t then Some m
        else method_among xs offset) (method_among ys offset)
    by true more = refl
    by false more = more

-- the methods of some of the classes
abbrev methods_of : (ClassRef → Bool) → List ClassDescriptor → List MethodDescriptor
methods_of own ds = flat_map (λ (d : ClassDescriptor). d.methods) (filter (λ
    (d : ClassDescriptor). own d.this_class) ds)

described_flat : (part : Part) (own : ClassRef → Bool) → ((r : ClassRef) → is_class_at part r ≡ own r)
    → (ds : List ClassDescriptor) (offset : ℕ) → described part ds offset ≡ method_among (methods_of own ds) offset
described_flat part own agree [] offset = refl
described_flat part own agree (d ∷ ds) offset = by (is_class_at part d.this_class) (own d.this_class)
    (agree d.this_class) (described_flat part own agree ds offset)
  where
    by : (s t : Bool) → s ≡ t → described part ds offset ≡ method_among (methods_of own ds) offset
        → (if s then or_else (method_among d.methods offset) (described part ds offset) else described part ds offset)
        ≡ method_among (flat_map (λ (d : ClassDescriptor). d.methods) (cond t (d
        ∷ filter (λ (d : ClassDescriptor). own d.this_class) ds) (filter (λ (d : ClassDescriptor). own d.this_class)
        ds))) offset
    by true true e more = ap (or_else (method_among d.methods offset)) more ∙ sym (among_both d.methods
        (methods_of own ds) offset) ∙ ap (λ ms. method_among ms offset) (sym (flat_map-cons (λ (d : ClassDescriptor).
        d.methods) d (filter (λ (d : ClassDescriptor). own d.this_class) ds)))
    by false false e more = more
    by true false e more = cc
    by false true e more = cc

module _ (c : Complete) (whole : whole_spots c ≡ []) where
  pub all_cut : AreCut (check.methods_begin c) (let m = c.method in m.methods) (class_methods c) (codes c)
  all_cut = by (cut c) refl whole
    where
      by : (r : Result (List Cut) ℕ) → cut c ≡ r → check.where_cut_ends r ≡ []
          → AreCut (check.methods_begin c) (let m = c.method in m.methods) (class_methods c) (check.all_codes r)
      by (Err at) e f = cc
      by (Ok cs) e f = cut_from (check.methods_begin c) (class_methods c) (let m = c.method in m.methods) cs e

  -- each method of a class has a code
  pub method_has_code : (k : ℕ) (m : MethodDescriptor) → slice_get (class_methods c) k ≡ Some m
      → (code : Cut) × (slice_get (codes c) k ≡ Some code) × IsMethodAt c m code
  method_has_code k m e =
      let x = c.method in
      let from = check.methods_begin c in
      let r = code_beside from x.methods (class_methods c) (codes c) all_cut k m e in
      let at = r.2 in
      let far = at.offset in
      let n : at.skipped ≡ m.offset - from = omega (arith, far) in (
        r.0,
        r.1,
        record {
          begins = omega (arith, far);
          is_cut = subst (λ s. IsCut m (drop s x.methods) r.0) n at.is_cut;
        },
      )

  module _ (part : Part) (of : AreOf part c) where
    begin_alike : methods_begin part ≡ check.methods_begin c
    begin_alike = ap (λ m. 1 + 8 * length m.handlers) of.method

    bytes_alike : (at : ℕ) → check.methods_begin c ≤ at → bytes_from part at
        ≡ (let m = c.method in drop (at - check.methods_begin c) m.methods)
    bytes_alike at le =
        let m = c.method in
        ap (λ x. if nat_le (1 + 8 * length x.handlers) at then drop (at - (1 + 8 * length x.handlers)) x.methods
        else []) of.method ∙ ap (λ b. if b then drop (at - check.methods_begin c) m.methods else [])
        (at_most (check.methods_begin c) at le)

    described_alike : (offset : ℕ) → described part part.descriptor offset ≡ method_among (class_methods c) offset
    described_alike offset = described_flat part (is_own_class c.class) (class_refs_agree part c of.class)
        part.descriptor offset ∙ ap (λ ds. method_among (methods_of (is_own_class c.class) ds) offset) of.descriptor

    -- a method of a class begins at its offset
    pub method_starts : (p k : ℕ) (m : MethodDescriptor) → slice_get (class_methods c) k ≡ Some m → (code : Cut)
        → (at : IsMethodAt c m code) → start_in p m.offset part ≡ Some (start_at p m.offset (let i = at.is_cut
        in i.header) m)
    method_starts p k m e code at =
        let i = at.is_cut in
        let x = c.method in
        let first = first_of_offset (check.methods_begin c) x.methods (class_methods c) (codes c) all_cut k m e in
        ap (λ bs. option_and_then (λ h. option_map (start_at p m.offset h) (described part part.descriptor m.offset))
        (method_header bs)) (bytes_alike m.offset at.begins)
        ∙ ap (option_and_then (λ h. option_map (start_at p m.offset h) (described part part.descriptor m.offset)))
        i.is_header
        ∙ ap (option_map (start_at p m.offset i.header)) (described_alike m.offset ∙ first)

    -- what begins at an offset is a method of a class
    pub starts_there : (p offset : ℕ) (s : Start Code) → start_in p offset part ≡ Some s
        → (k : ℕ) × (m : MethodDescriptor) × (slice_get (class_methods c) k ≡ Some m) × (m.offset ≡ offset)
    starts_there p offset s e = by (method_header (bytes_from part offset)) e
      where
        found : (h : MethodHeader) (o : Option MethodDescriptor) → described part part.descriptor offset ≡ o
            → option_map (start_at p offset h) o ≡ Some s
            → (k : ℕ) × (m : MethodDescriptor) × (slice_get (class_methods c) k ≡ Some m) × (m.offset ≡ offset)
        found h None f g = cc
        found h (Some m) f g = let r = found_by_offset (class_methods c) offset m (sym (described_alike offset) ∙ f)
            in (r.0, m, r.1, r.2)

        by : (o : Option MethodHeader) → option_and_then (λ h. option_map (start_at p offset h) (described part
            part.descriptor offset)) o ≡ Some s
            → (k : ℕ) × (m : MethodDescriptor) × (slice_get (class_methods c) k ≡ Some m) × (m.offset ≡ offset)
        by None f = cc
        by (Some h) f = found h (described part part.descriptor offset) refl f

    -- the instructions of a method are fetched
    pub instruction_fetched : (l : Loaded) (p room : ℕ) → slice_get l.parts p ≡ Some part → (m : MethodDescriptor)
        (code : Cut) (at : IsMethodAt c m code) → (k : ℕ) (i : Placed Instruction) → slice_get code.instructions k
        ≡ Some i
        → (let h = (let x = at.is_cut in x.header) in fetch l (record {
          part = p;
          room = room;
          first = m.offset + h.size;
          end = m.offset + h.size + m.bytecode_count;
        }) i.at) ≡ Some (fetched_as l p part.pool i.at i.item)
    instruction_fetched l p room here m code at k i e =
        let is = at.is_cut in
        let h = is.header in
        let x = c.method in
        let from = check.methods_begin c in
        let s = stands m.bytecode_count m.bytecode_count (m.offset + h.size)
        (drop h.size (drop (m.offset - from) x.methods)) code.instructions is.cut k i e in
        let low = at.begins in
        let is_at = s.at in
        let within = s.within in
        let n : m.offset - from + h.size + s.skipped ≡ i.at - from = omega (arith, low, is_at) in
        let decoded : decode (bytes_from part i.at) ≡ Some i.item = ap decode (bytes_alike i.at (omega (
          arith,
          low,
          is_at,
        ))) ∙ sym (ap decode (drop-drop s.skipped h.size (drop (m.offset - from) x.methods)
        ∙ drop-drop (h.size + s.skipped) (m.offset - from) x.methods ∙ (let z : m.offset - from
        + (h.size + s.skipped) ≡ i.at - from = omega (arith, low, is_at) in ap (λ y. drop y x.methods) z)))
        ∙ s.decoded in
        let body : Code = record {
          part = p;
          room = room;
          first = m.offset + h.size;
          end = m.offset + h.size + m.bytecode_count;
        } in
        ap (option_and_then (fetched_in l body i.at)) here
        ∙ ap (λ t. if t then option_and_then (fetched_within l body i.at part) (decode (bytes_from part i.at))
        else None) (at_most (m.offset + h.size) i.at (omega (arith, is_at)))
        ∙ ap (option_and_then (fetched_within l body i.at part)) decoded
        ∙ ap (λ t. if t then Some (fetched_as l p part.pool i.at i.item) else None)
        (at_most (i.at + size i.item) (m.offset + h.size + m.bytecode_count) (omega (arith, is_at, within)))

-- the next instruction begins where one ends
pub follows_next : (c : Complete) (m : MethodDescriptor) (code : Cut) → IsMethodAt c m code → (k : ℕ)
    (i j : Placed Instruction) → slice_get code.instructions k ≡ Some i → slice_get code.instructions (suc k) ≡ Some j
    → j.at ≡ i.at + size i.item
follows_next c m code at k i j e f =
    let is = at.is_cut in
    let h = is.header in
    let x = c.method in
    next_begins m.bytecode_count m.bytecode_count (m.offset + h.size) (drop h.size (drop
    (m.offset - check.methods_begin c)
    x.methods)) code.instructions is.cut k i j e f
