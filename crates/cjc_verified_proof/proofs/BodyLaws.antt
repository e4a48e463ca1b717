-- The methods of Method as the type checker lists them: their headers, their instructions, and what begins at their
-- offsets.
use Rattle.std.proofs.Common.{◌≡◌, ℕ, zero, suc, ◌+◌, ◌-◌, refl, sym, ap, subst, ◌∙◌, List, [], ◌∷◌, ◌++◌, drop, map}
use Rattle.std.proofs.Common.{slice_get, Option, Some, None}
use Rattle.std.specs.Prelude.{filter, flat_map, option_and_then, option_map}
use Rattle.std.proofs.lemmas.List.Concat.{flat_map-cons}
use Rattle.cjc_capread.specs.declared.tree.ClassDescriptor.{ClassDescriptor}
use Rattle.cjc_capread.specs.declared.tree.ClassRef.{ClassRef}
use Rattle.cjc_capread.specs.declared.tree.MethodDescriptor.{MethodDescriptor}
use Rattle.cjc_capread.specs.MethodHeader.{MethodHeader}
use Rattle.cjc_check_rules.specs.Classes.{is_own_class}
use Rattle.cjc_check_rules.specs.Codes.{Code as Cut, codes, whole_spots}
use Rattle.cjc_check_rules.specs.Complete.{Complete}
use Rattle.cjc_check_rules.specs.Members.{class_methods}
use Rattle.cjc_verify.specs.Bodies.{Body, bodies, bodies_of, body_with, header_at, listed_in}
use Rattle.cjc_cut_proof.specs.Cuts.{IsMethodAt}
use Rattle.cjc_bytes.proofs.Gets.{get_mapped, mapped_at}
use Rattle.cjc_bytes.proofs.Lists.{map_append}
use Rattle.cjc_bytes.proofs.Plain.{same_some}
use Rattle.cjc_cut_proof.proofs.CardLaws.{method_has_code}

-- ---- methods under their classes

-- a method under the class that Descriptor lists it under
pub record Under : Type 0 where
  pub holder : ClassRef
  pub method : MethodDescriptor

-- the methods of a class
abbrev pub under_in : ClassDescriptor → List Under
under_in d = map (λ (m : MethodDescriptor). record { holder = d.this_class; method = m }) d.methods

-- the classes of Descriptor that are no interfaces
abbrev pub own_classes : Complete → List ClassDescriptor
own_classes c = filter (λ (d : ClassDescriptor). is_own_class c.class d.this_class) (let d = c.descriptor in d.classes)

-- the methods of all classes
abbrev pub under : Complete → List Under
under c = flat_map under_in (own_classes c)

methods_back : (holder : ClassRef) (ms : List MethodDescriptor) → map (λ (x : Under). x.method)
    (map (λ (m : MethodDescriptor). record { holder = holder; method = m }) ms) ≡ ms
methods_back holder [] = refl
methods_back holder (m ∷ ms) = ap (λ xs. m ∷ xs) (methods_back holder ms)

all_under : (ds : List ClassDescriptor) → map (λ (x : Under). x.method) (flat_map under_in ds)
    ≡ flat_map (λ (d : ClassDescriptor). d.methods) ds
all_under [] = refl
all_under (d ∷ ds) =
    ap (map (λ (x : Under). x.method)) (flat_map-cons under_in d ds)
    ∙ map_append (λ (x : Under). x.method) (under_in d) (flat_map under_in ds)
    ∙ ap (λ ms. ms ++ map (λ (x : Under). x.method) (flat_map under_in ds)) (methods_back d.this_class d.methods)
    ∙ ap (λ ms. d.methods ++ ms) (all_under ds)
    ∙ sym (flat_map-cons (λ (d : ClassDescriptor). d.methods) d ds)

-- they are the methods of classes
pub under_methods : (c : Complete) → map (λ (x : Under). x.method) (under c) ≡ class_methods c
under_methods c = all_under (own_classes c)

-- ---- methods beside their codes

abbrev body_as : Under → Option MethodHeader → Cut → List Body
body_as x None code = []
body_as x (Some h) code = record {
  holder = x.holder;
  method = x.method;
  header = h;
  instructions = code.instructions;
} ∷ []

abbrev bodies_as : Complete → List Under → List Cut → List Body
bodies_as c (x ∷ xs) (code ∷ codes) = body_as x (header_at c (let m = x.method in m.offset)) code
    ++ bodies_as c xs codes
bodies_as c xs codes = []

same_with : {L : Type 0} (with : L → Option MethodHeader → Cut → List Body) (x : L) (y : Under) (code : Cut)
    → with x None code ≡ [] → ((h : MethodHeader) → with x (Some h) code ≡ body_as y (Some h) code)
    → (o : Option MethodHeader) → with x o code ≡ body_as y o code
same_with with x y code none some None = none
same_with with x y code none some (Some h) = some h

one_class : {L : Type 0} (c : Complete) (B : List L → List Cut → List Body) → ((x : L) (xs : List L) → B (x ∷ xs) []
    ≡ []) → (holder : ClassRef) (f : MethodDescriptor → L) → ((m : MethodDescriptor) (xs : List L) (code : Cut)
    (cs : List Cut) → B (f m ∷ xs) (code ∷ cs) ≡ body_as (record { holder = holder; method = m })
    (header_at c m.offset) code ++ B xs cs) → (ms : List MethodDescriptor) (xs : List L) (ys : List Under)
    → ((cs : List Cut) → B xs cs ≡ bodies_as c ys cs) → (cs : List Cut) → B (map f ms ++ xs) cs
    ≡ bodies_as c (map (λ (m : MethodDescriptor). record { holder = holder; method = m }) ms ++ ys) cs
one_class c B none holder f put [] xs ys same cs = same cs
one_class c B none holder f put (m ∷ ms) xs ys same [] = none (f m) (map f ms ++ xs)
one_class c B none holder f put (m ∷ ms) xs ys same (code ∷ cs) = put m (map f ms ++ xs) code cs
    ∙ ap (λ bs. body_as (record { holder = holder; method = m }) (header_at c m.offset) code ++ bs) (one_class c B none
    holder f put ms xs ys same cs)

all_classes : (c : Complete) (ds : List ClassDescriptor) (cs : List Cut) → bodies_of c (flat_map listed_in ds) cs
    ≡ bodies_as c (flat_map under_in ds) cs
all_classes c [] cs = refl
all_classes c (d ∷ ds) cs =
    ap (λ xs. bodies_of c xs cs) (flat_map-cons listed_in d ds)
    ∙ one_class c (bodies_of c) (λ x xs. refl) d.this_class _ (λ m xs code rest. ap (λ bs. bs ++ bodies_of c xs rest)
    (same_with body_with _ (record { holder = d.this_class; method = m }) code refl (λ h. refl)
    (header_at c m.offset))) d.methods (flat_map listed_in ds) (flat_map under_in ds) (all_classes c ds) cs
    ∙ sym (ap (λ xs. bodies_as c xs cs) (flat_map-cons under_in d ds))

-- a method with its header and its instructions
abbrev HasBody : Complete → Under → Cut → Body → Type 0
HasBody c x code b = (b.holder ≡ x.holder) × (b.method ≡ x.method)
    × (header_at c (let m = x.method in m.offset) ≡ Some b.header) × (b.instructions ≡ code.instructions)

-- all headers are there
abbrev HaveHeaders : Complete → List Under → List Cut → Type 0
HaveHeaders c xs codes = (k : ℕ) (x : Under) (code : Cut) → slice_get xs k ≡ Some x → slice_get codes k ≡ Some code
    → (h : MethodHeader) × (header_at c (let m = x.method in m.offset) ≡ Some h)

put_together : (c : Complete) (x : Under) (code : Cut) (rest : List Body) (h : MethodHeader)
    → header_at c (let m = x.method in m.offset) ≡ Some h
    → body_as x (header_at c (let m = x.method in m.offset)) code ++ rest ≡ record {
      holder = x.holder;
      method = x.method;
      header = h;
      instructions = code.instructions;
    } ∷ rest
put_together c x code rest h e = ap (λ o. body_as x o code ++ rest) e

beside : (c : Complete) (xs : List Under) (codes : List Cut) → HaveHeaders c xs codes → (k : ℕ) (x : Under)
    (code : Cut) → slice_get xs k ≡ Some x → slice_get codes k ≡ Some code
    → (b : Body) × (slice_get (bodies_as c xs codes) k ≡ Some b) × HasBody c x code b
beside c [] codes all k x code e f = absurd cc
beside c (y ∷ xs) [] all k x code e f = absurd cc
beside c (y ∷ xs) (z ∷ codes) all zero x code e f =
    let h = all 0 y z refl refl in
    let first : y ≡ x = same_some e in
    let second : z ≡ code = same_some f in (
      record { holder = y.holder; method = y.method; header = h.0; instructions = z.instructions },
      ap (λ bs. slice_get bs 0) (put_together c y z (bodies_as c xs codes) h.0 h.1),
      (
        ap (λ (q : Under). q.holder) first,
        ap (λ (q : Under). q.method) first,
        ap (λ (q : Under). header_at c (let m = q.method in m.offset)) (sym first) ∙ h.1,
        ap (λ (q : Cut). q.instructions) second,
      ),
    )
beside c (y ∷ xs) (z ∷ codes) all (suc k) x code e f =
    let h = all 0 y z refl refl in
    let r = beside c xs codes (λ j. all (suc j)) k x code e f in
    (r.0, ap (λ bs. slice_get bs (suc k)) (put_together c y z (bodies_as c xs codes) h.0 h.1) ∙ r.1, r.2)

apart : (c : Complete) (xs : List Under) (codes : List Cut) → HaveHeaders c xs codes → (k : ℕ) (b : Body)
    → slice_get (bodies_as c xs codes) k ≡ Some b → (x : Under) × (code : Cut) × (slice_get xs k ≡ Some x)
    × (slice_get codes k ≡ Some code) × HasBody c x code b
apart c [] codes all k b e = absurd cc
apart c (y ∷ xs) [] all k b e = absurd cc
apart c (y ∷ xs) (z ∷ codes) all zero b e =
    let h = all 0 y z refl refl in
    let is = same_some (sym (ap (λ bs. slice_get bs 0) (put_together c y z (bodies_as c xs codes) h.0 h.1)) ∙ e) in
    subst (λ (q : Body). (x : Under) × (code : Cut) × (slice_get (y ∷ xs) 0 ≡ Some x)
    × (slice_get (z ∷ codes) 0 ≡ Some code) × HasBody c x code q) is (y, z, refl, refl, (refl, refl, h.1, refl))
apart c (y ∷ xs) (z ∷ codes) all (suc k) b e =
    let h = all 0 y z refl refl in
    apart c xs codes (λ j. all (suc j)) k b (sym (ap (λ bs. slice_get bs (suc k)) (put_together c y z
    (bodies_as c xs codes) h.0 h.1)) ∙ e)

-- ---- the methods of components that are cut whole

-- a method of Method: what Descriptor says of it, where it stands and its code
pub record StandsIn (c : Complete) (k : ℕ) (b : Body) : Type 0 where
  pub code : Cut
  pub among : slice_get (codes c) k ≡ Some code
  pub listed : slice_get (under c) k ≡ Some (record { holder = b.holder; method = b.method })
  pub method : slice_get (class_methods c) k ≡ Some b.method
  pub at : IsMethodAt c b.method code
  pub header : (let i = at.is_cut in i.header) ≡ b.header
  pub instructions : b.instructions ≡ code.instructions

module _ (c : Complete) (whole : whole_spots c ≡ []) where
  bodies_are : bodies c ≡ bodies_as c (under c) (codes c)
  bodies_are = all_classes c (own_classes c) (codes c)

  method_of_under : (k : ℕ) (x : Under) → slice_get (under c) k ≡ Some x → slice_get (class_methods c) k
      ≡ Some x.method
  method_of_under k x e = ap (λ ms. slice_get ms k) (sym (under_methods c))
      ∙ get_mapped (λ (x : Under). x.method) (under c) k ∙ ap (option_map (λ (x : Under). x.method)) e

  headers : HaveHeaders c (under c) (codes c)
  headers k x code e f =
      let r = method_has_code c whole k x.method (method_of_under k x e) in
      let at = r.2 in
      let is = at.is_cut in
      (is.header, is.is_header)

  stands_by : (k : ℕ) (b : Body) (x : Under) (code : Cut) → slice_get (under c) k ≡ Some x → slice_get (codes c) k
      ≡ Some code → HasBody c x code b → StandsIn c k b
  stands_by k b x code e f h =
      let same : record { holder = x.holder; method = x.method } ≡ record { holder = b.holder; method = b.method } =
      ap (λ r. record { holder = r; method = x.method }) (sym h.0) ∙ ap (λ m. record { holder = b.holder; method = m })
      (sym h.1) in
      let here : slice_get (under c) k ≡ Some (record { holder = b.holder; method = b.method }) = e
      ∙ ap (λ (q : Under). Some q) same in
      let r = method_has_code c whole k b.method (method_of_under k (record {
        holder = b.holder;
        method = b.method;
      }) here) in
      let one : r.0 ≡ code = same_some (sym r.1 ∙ f) in
      let at : IsMethodAt c b.method code = subst (IsMethodAt c b.method) one r.2 in
      let is = at.is_cut in
      record {
        code = code;
        among = f;
        listed = here;
        method = method_of_under k (record { holder = b.holder; method = b.method }) here;
        at = at;
        header = same_some (sym is.is_header ∙ ap (λ (m : MethodDescriptor). header_at c m.offset) h.1 ∙ h.2);
        instructions = h.3;
      }

  -- each method of Method stands so
  pub body_stands : (k : ℕ) (b : Body) → slice_get (bodies c) k ≡ Some b → StandsIn c k b
  body_stands k b e =
      let r = apart c (under c) (codes c) headers k b (sym (ap (λ bs. slice_get bs k) bodies_are) ∙ e) in
      stands_by k b r.0 r.1 r.2 r.3 r.4

  -- each method of a class of Descriptor is one
  pub method_has_body : (k : ℕ) (m : MethodDescriptor) → slice_get (class_methods c) k ≡ Some m
      → (b : Body) × (slice_get (bodies c) k ≡ Some b) × (b.method ≡ m)
  method_has_body k m e =
      let code = method_has_code c whole k m e in
      let r = mapped_at (λ (x : Under). x.method) (under c) k m (ap (λ ms. slice_get ms k) (under_methods c) ∙ e) in
      let b = beside c (under c) (codes c) headers k r.0 code.0 r.1 code.1 in
      let h = b.2 in
      (b.0, ap (λ bs. slice_get bs k) bodies_are ∙ b.1, h.1 ∙ r.2)
