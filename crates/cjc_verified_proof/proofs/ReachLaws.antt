-- Entries of scripts that name a static method begin one of the program.
use Rattle.std.proofs.Common.{◌≡◌, ℕ, zero, suc, ◌+◌, refl, sym, ap, subst, ◌∙◌, Bool, true, false, not, List, []}
use Rattle.std.proofs.Common.{◌∷◌, ◌++◌, length, slice_get, Option, Some, None}
use Rattle.std.specs.Prelude.{◌&&◌, if◌then◌else◌, option_and_then, option_map}
use Rattle.std.specs.Str.{bytes_eq}
use Rattle.cjc_bytes.specs.declared.fault.MemberId.{MemberId}
use Rattle.cjc_bytes.specs.AccessFlags.{is_static}
use Rattle.cjc_capread.specs.declared.tree.ClassDescriptor.{ClassDescriptor}
use Rattle.cjc_capread.specs.declared.tree.ClassRef.{ClassRef}
use Rattle.cjc_capread.specs.declared.tree.MethodDescriptor.{MethodDescriptor}
use Rattle.cjc_capread.specs.ClassRefs.{is_inside}
use Rattle.cjc_check_rules.specs.Codes.{whole_spots}
use Rattle.cjc_check_rules.specs.Complete.{Complete}
use Rattle.cjc_check_rules.specs.Described.{all_starts, classes_in_order}
use Rattle.cjc_check_rules.specs.Instructions.{jump_spots}
use Rattle.cjc_world.specs.declared.found.Found.{Found}
use Rattle.cjc_world.specs.declared.image.StaticImage.{StaticImage}
use Rattle.cjc_world.specs.Added.{added}
use Rattle.cjc_world.specs.Classes as world
use Rattle.cjc_world.specs.Files.{Files}
use Rattle.cjc_world.specs.Order.{class_order, methods_of_class, places, written}
use Rattle.cjc_tokens.specs.Tokens.{assigned}
use Rattle.cjc_card_semantics.specs.Bytecode.Machine.{Start}
use Rattle.cjc_card_semantics.specs.Machine.Calls.{called, class_among, is_named, named_among, named_in_part}
use Rattle.cjc_card_semantics.specs.Machine.Calls.{static_start}
use Rattle.cjc_card_semantics.specs.Machine.Calls as machine
use Rattle.cjc_card_semantics.specs.Machine.Classes.{Class, External, Own, class_named, number_from, offset_from}
use Rattle.cjc_card_semantics.specs.Machine.Loaded.{ClassNames, Loaded, MethodName, Part}
use Rattle.cjc_card_semantics.specs.Machine.Methods.{Code, start_at, start_of}
use Rattle.cjc_card_semantics.specs.Script.Sorts.{signature_of}
use Rattle.cjc_card_acts.specs.CardTypes.{MemberType}
use Rattle.cjc_components.specs.Descriptor.{method_in}
use Rattle.cjc_components.specs.Paired.Naming.{class_names, method_name, method_names, part_of}
use Rattle.cjc_components.specs.Paired.Pairs.{ArePaired}
use Rattle.cjc_verify.specs.Bodies.{type_of_body}
use Rattle.cjc_verify.specs.ClassTypes.{class_type}
use Rattle.cjc_verify.specs.Headers.{has_code}
use Rattle.cjc_verify.specs.Infos.{infos}
use Rattle.cjc_verify.specs.Named.{holds}
use Rattle.cjc_verify.specs.Pairs.{Described, Pair, described, described_among, described_in, member_of, method_at}
use Rattle.cjc_verify.specs.Pairs.{pair_of}
use Rattle.cjc_verify.specs.Verified.{IsVerified}
use Rattle.cjc_verify_proof.specs.Calls.{AreSorts, argument_cells}
use Rattle.cjc_verify_proof.specs.Frames.{Begins, Program}
use Rattle.cjc_verify_proof.specs.Runs.{IsEntry}
use Rattle.cjc_verified_proof.specs.Entries.{AreCounted, AreRefs}
use Rattle.cjc_verified_proof.specs.Programs.{IsProgramOf}
use Rattle.cjc_verified_proof.specs.Suited.{HaveCode, StandsAt, holder_type}
use Rattle.cjc_bytes.proofs.Gets.{get_behind, in_front, mapped_at}
use Rattle.cjc_bytes.proofs.Lists.{bytes_true}
use Rattle.cjc_bytes.proofs.Numbers.{number_same}
use Rattle.cjc_bytes.proofs.Plain.{same_some}
use Rattle.cjc_verify.proofs.CardLinkInfoPlaces.{all_starts as starts_of_infos}
use Rattle.cjc_verified_proof.proofs.DescribedLaws.{fits, own_found}
use Rattle.cjc_verified_proof.proofs.MethodLaws.{body_starts}
use Rattle.cjc_verified_proof.proofs.NameLaws.{number_back, starts_read}
use Rattle.cjc_verified_proof.proofs.StandingLaws.{header_codes, sorts_said, stands_at}

-- ---- look-ups by name

-- the method of a name has the name's place
named_there : (names : List MethodName) (ms : List MethodDescriptor) (id : MemberId) (m : MethodDescriptor)
    → named_among names ms id ≡ Some m → (j : ℕ) × (n : MethodName) × (slice_get names j ≡ Some n)
    × (slice_get ms j ≡ Some m) × (is_named n id ≡ true)
named_there [] ms id m e = absurd cc
named_there (n ∷ names) [] id m e = absurd cc
named_there (n ∷ names) (x ∷ ms) id m e = by (is_named n id) refl e (named_there names ms id m)
  where
    by : (b : Bool) → is_named n id ≡ b → (if b then Some x else named_among names ms id) ≡ Some m
        → (named_among names ms id ≡ Some m → (j : ℕ) × (u : MethodName) × (slice_get names j ≡ Some u)
        × (slice_get ms j ≡ Some m) × (is_named u id ≡ true)) → (j : ℕ) × (u : MethodName)
        × (slice_get (n ∷ names) j ≡ Some u) × (slice_get (x ∷ ms) j ≡ Some m) × (is_named u id ≡ true)
    by true is f more = (0, n, refl, f, is)
    by false is f more = let r = more f in (suc r.0, r.1, r.2, r.3, r.4)

class_there : (ds : List ClassDescriptor) (offset : ℕ) (d : ClassDescriptor) → class_among ds offset ≡ Some d
    → (k : ℕ) × (slice_get ds k ≡ Some d) × (is_inside d.this_class offset ≡ true)
class_there [] offset d e = absurd cc
class_there (x ∷ ds) offset d e = by (is_inside x.this_class offset) refl e (class_there ds offset d)
  where
    by : (b : Bool) → is_inside x.this_class offset ≡ b → (if b then Some x else class_among ds offset) ≡ Some d
        → (class_among ds offset ≡ Some d → (k : ℕ) × (slice_get ds k ≡ Some d)
        × (is_inside d.this_class offset ≡ true)) → (k : ℕ) × (slice_get (x ∷ ds) k ≡ Some d)
        × (is_inside d.this_class offset ≡ true)
    by true is f more = (0, f, ap (λ (y : ClassDescriptor). is_inside y.this_class offset) (sym (same_some f)) ∙ is)
    by false is f more = let r = more f in (suc r.0, r.1, r.2)

-- ---- methods among all

abbrev pub as_described : world.Class → ClassRef → Found → MethodDescriptor → Described
as_described cl h f m = record { class = cl; member = f; holder = h; method = m }

in_there : (cl : world.Class) (h : ClassRef) (fs : List Found) (ms : List MethodDescriptor) (j : ℕ) (f : Found)
    (m : MethodDescriptor) → slice_get fs j ≡ Some f → slice_get ms j ≡ Some m → slice_get (described_in cl h fs ms) j
    ≡ Some (as_described cl h f m)
in_there cl h [] ms j f m e g = absurd cc
in_there cl h (x ∷ fs) [] j f m e g = absurd cc
in_there cl h (x ∷ fs) (y ∷ ms) zero f m e g = ap (λ q. Some (as_described cl h q y)) (same_some e)
    ∙ ap (λ q. Some (as_described cl h f q)) (same_some g)
in_there cl h (x ∷ fs) (y ∷ ms) (suc j) f m e g = in_there cl h fs ms j f m e g

pub among_there : (w order : List world.Class) (xs : List ClassDescriptor) (k : ℕ) (cl : world.Class)
    (x : ClassDescriptor)
    → slice_get order k ≡ Some cl → slice_get xs k ≡ Some x → (j : ℕ) (f : Found) (m : MethodDescriptor)
    → slice_get (methods_of_class w cl) j ≡ Some f → slice_get x.methods j ≡ Some m
    → (n : ℕ) × (slice_get (described_among w order xs) n ≡ Some (as_described cl x.this_class f m))
among_there w [] xs k cl x e g j f m h i = absurd cc
among_there w (u ∷ order) [] k cl x e g j f m h i = absurd cc
among_there w (u ∷ order) (y ∷ xs) zero cl x e g j f m h i =
    let there = in_there cl x.this_class (methods_of_class w cl) x.methods j f m h i in (
      j,
      ap (λ q. slice_get (described_in q y.this_class (methods_of_class w q) y.methods ++ described_among w order xs) j)
          (same_some e)
          ∙ ap (λ (q : ClassDescriptor). slice_get (described_in cl q.this_class (methods_of_class w cl) q.methods
          ++ described_among w order xs) j) (same_some g)
          ∙ in_front (described_in cl x.this_class (methods_of_class w cl) x.methods) (described_among w order xs) j
          (as_described cl x.this_class f m) there,
    )
among_there w (u ∷ order) (y ∷ xs) (suc k) cl x e g j f m h i =
    let r = among_there w order xs k cl x e g j f m h i in
    let front = described_in u y.this_class (methods_of_class w u) y.methods in
    (length front + r.0, get_behind front (described_among w order xs) r.0 ∙ r.1)

two : (a b : Bool) → (a && b) ≡ true → (a ≡ true) × (b ≡ true)
two true true e = (refl, refl)
two true false e = cc
two false b e = cc

not_both : (a b : Bool) → (a && b) ≡ false → b ≡ true → a ≡ false
not_both true true e f = cc
not_both true false e f = cc
not_both false b e f = refl

-- ---- methods by their names

module _ (applets : Bool) (files : Files) (image : StaticImage) (c : Complete) (whole : whole_spots c ≡ [])
    (ordered : (let d = c.descriptor in classes_in_order d.classes (all_starts c.class)) ≡ [])
    (paired : ArePaired files image c) (verified : IsVerified (pair_of applets files image c)) where
  abbrev p : Pair
  p = pair_of applets files image c

  abbrev l : Loaded
  l = p.loaded

  abbrev part : Part
  part = part_of applets files image c

  abbrev w : List world.Class
  w = world.all_classes files

  abbrev ds : List ClassDescriptor
  ds = let d = c.descriptor in d.classes

  -- a method that Descriptor lists under the class at an offset, by the name and descriptor of its class file
  pub record IsNamed (offset : ℕ) (id : MemberId) (m : MethodDescriptor) : Type 0 where
    pub number : ℕ
    pub it : Described
    pub listed : slice_get (described p) number ≡ Some it
    pub method : it.method ≡ m
    -- where Descriptor has it
    pub at_class : ℕ
    pub holder : ClassDescriptor
    pub holder_is : slice_get ds at_class ≡ Some holder
    pub at_method : ℕ
    pub method_is : slice_get holder.methods at_method ≡ Some m
    -- the class, and the method among those of its file
    pub place : ℕ
    pub at : number_from 2 (infos c.class) offset ≡ Some place
    pub in_order : slice_get (class_order w) place ≡ Some it.class
    pub written_at : ℕ
    pub is_written : (let y = it.class in slice_get (written y (length y.fields) y.methods) written_at)
        ≡ Some it.member
    pub name : (let y = member_of p it in y.name) ≡ id.name
    pub desc : (let y = member_of p it in y.desc) ≡ id.desc

  -- the method that a class and a name find
  by_name : (offset k : ℕ) → number_from 2 (infos c.class) offset ≡ Some k → (names : ClassNames)
      → slice_get part.classes k ≡ Some names → (d : ClassDescriptor) → class_among ds offset ≡ Some d
      → (id : MemberId) (m : MethodDescriptor) → named_among names.methods d.methods id ≡ Some m → IsNamed offset id m
  by_name offset k number names there d among id m named =
      let a = mapped_at (class_names files (assigned applets files)) (class_order w) k names there in
      let q = class_there ds offset d among in
      let f = fits applets files image c whole ordered paired verified q.0 d q.1 in
      let same : f.offset ≡ offset = number_same f.offset offset (ap (λ r. is_inside r offset) (sym f.holder) ∙ q.2) in
      let at : offset_from 2 (infos c.class) q.0 ≡ Some f.offset = sym (starts_read 2 (infos c.class) q.0)
      ∙ sym (ap (λ (xs : List ℕ). slice_get xs q.0) (starts_of_infos c.class)) ∙ f.starts in
      let place : k ≡ q.0 = same_some (sym number ∙ ap (number_from 2 (infos c.class)) (sym same)
      ∙ number_back 2 (infos c.class) q.0 f.offset at) in
      let cl : a.0 ≡ f.class = same_some (sym a.1 ∙ ap (slice_get (class_order w)) place ∙ f.in_order) in
      let n = named_there names.methods d.methods id m named in
      let listed : slice_get (method_names w f.class) n.0 ≡ Some n.1 = ap (λ (x : world.Class).
      slice_get (method_names w x) n.0) (sym cl) ∙ ap (λ (x : ClassNames). slice_get x.methods n.0) a.2 ∙ n.2 in
      let y = f.class in
      let g = mapped_at (λ (x : Found). method_name (method_in w f.class x.member)) (written y
      (length y.fields) y.methods)
      n.0 n.1 listed in
      let here = in_front (written y (length y.fields) y.methods) (places y (length y.fields + length y.methods)
      (length (added w y))) n.0 g.0 g.1 in
      let r = among_there w (class_order w) ds q.0 f.class d f.in_order q.1 n.0 g.0 m here n.3 in
      let both = two (bytes_eq (let x = n.1 in x.name) id.name) (bytes_eq (let x = n.1 in x.desc) id.desc) n.4 in
      record {
        number = r.0;
        it = as_described f.class d.this_class g.0 m;
        listed = r.1;
        method = refl;
        at_class = q.0;
        holder = d;
        holder_is = q.1;
        at_method = n.0;
        method_is = n.3;
        place = q.0;
        at = number ∙ ap (λ v. Some v) place;
        in_order = f.in_order;
        written_at = n.0;
        is_written = g.1;
        name = ap (λ (x : MethodName). x.name) g.2 ∙ bytes_true (let x = n.1 in x.name) id.name both.0;
        desc = ap (λ (x : MethodName). x.desc) g.2 ∙ bytes_true (let x = n.1 in x.desc) id.desc both.1;
      }

  -- what the machine finds under a class of the package is such a method
  pub declared_named : (offset : ℕ) (id : MemberId) (b : machine.Described) → machine.declared l (Own 0 offset) id
      ≡ Some b → (b.part ≡ 0) × IsNamed offset id b.method
  declared_named offset id b e = of_number (number_from 2 (infos c.class) offset) refl e
    where
      of_method : (k : ℕ) → number_from 2 (infos c.class) offset ≡ Some k → (names : ClassNames)
          → slice_get part.classes k ≡ Some names → (d : ClassDescriptor) → class_among ds offset ≡ Some d
          → (o : Option MethodDescriptor) → named_among names.methods d.methods id ≡ o
          → option_map (λ m. record { part = 0; method = m }) o ≡ Some b → (b.part ≡ 0) × IsNamed offset id b.method
      of_method k number names there d among None named f = absurd cc
      of_method k number names there d among (Some x) named f = (
        ap (λ (y : machine.Described). y.part) (sym (same_some f)),
        subst (IsNamed offset id) (ap (λ (y : machine.Described). y.method) (same_some f))
            (by_name offset k number names
            there d among id x named),
      )

      of_descriptor : (k : ℕ) → number_from 2 (infos c.class) offset ≡ Some k → (names : ClassNames)
          → slice_get part.classes k ≡ Some names → (o : Option ClassDescriptor) → class_among ds offset ≡ o
          → option_and_then (λ (d : ClassDescriptor). option_map (λ m. record { part = 0; method = m })
          (named_among names.methods d.methods id)) o ≡ Some b → (b.part ≡ 0) × IsNamed offset id b.method
      of_descriptor k number names there None among f = absurd cc
      of_descriptor k number names there (Some d) among f = of_method k number names there d among
          (named_among names.methods d.methods id) refl f

      of_names : (k : ℕ) → number_from 2 (infos c.class) offset ≡ Some k → (o : Option ClassNames)
          → slice_get part.classes k ≡ o → option_and_then (λ names. named_in_part 0 offset id names part) o ≡ Some b
          → (b.part ≡ 0) × IsNamed offset id b.method
      of_names k number None there f = absurd cc
      of_names k number (Some names) there f = of_descriptor k number names there (class_among ds offset) refl f

      of_number : (o : Option ℕ) → number_from 2 (infos c.class) offset ≡ o
          → option_and_then (λ names. named_in_part 0 offset id names part) (option_and_then (slice_get part.classes) o)
          ≡ Some b → (b.part ≡ 0) × IsNamed offset id b.method
      of_number None number f = absurd cc
      of_number (Some k) number f = of_names k number (slice_get part.classes k) refl f

  -- ---- entries of scripts

  module _ (jump : jump_spots c ≡ []) (refs : AreRefs c) (counted : AreCounted files) (program : Program)
      (of : IsProgramOf (pair_of applets files image c) program) (codes : HaveCode
      (pair_of applets files image c)) where
    -- a static method among all begins one of the program
    entry : (j : ℕ) (d : Described) → slice_get (described p) j ≡ Some d → is_static (let m = d.method in m.flags)
        ≡ true
        → (desc : List ℕ) → (let x = member_of p d in x.desc) ≡ desc → (m : Start Code)
        → start_of l 0 (let m = d.method in m.offset) ≡ Some m → IsEntry l program None desc m
    entry j d e static desc same m starts =
        let o = own_found applets files image c whole ordered paired verified j d e (ap not
        (codes.in_classes j d e static))
        in
        let b = o.1 in
        let at = ap (λ (x : MethodDescriptor). x.offset) o.3 in
        let s = subst (StandsAt p program) at (stands_at applets files image c whole jump ordered paired verified refs
        counted
        program of o.0 b o.2) in
        let is : s.described ≡ d = same_some (sym s.is_described ∙ o.4) in
        let one : s.start ≡ m = same_some (sym s.starts ∙ starts) in
        let header : (let h = b.header in h.is_abstract) ≡ false = not_both (let h = b.header in h.is_abstract)
        (holds (has_code p) (method_at p (let x = b.method in x.offset))) (header_codes p verified o.0 b o.2)
        (ap (λ n. holds (has_code p) (method_at p n)) at ∙ ap (holds (has_code p)) o.4 ∙ codes.coded j d e static) in
        let begun : start_at 0 (let x = b.method in x.offset) b.header b.method ≡ s.start = same_some (sym
        (body_starts applets
        files image c whole jump o.0 b o.2) ∙ ap (start_of l 0) at ∙ s.starts) in
        let concrete : (let x = s.start in x.is_abstract) ≡ false = ap (λ (x : Start Code). x.is_abstract) (sym begun)
        ∙ header in
        let t = s.typed concrete in
        let g = codes.signed j d e in
        let sorts = sorts_said applets files image c whole jump ordered paired verified refs counted
        (let x = member_of p s.described in x.desc) s.nibbles g.0 s.said (ap (λ (x : Described). signature_of
        (let y = member_of p x in y.desc)) is
        ∙ g.1) in
        let none : holder_type s.body ≡ None = ap (λ (f : MethodDescriptor). if is_static f.flags then None
        else Some (class_type (let y = s.body in y.holder))) (sym s.method ∙ ap (λ (x : Described). x.method) is)
        ∙ ap (λ z. if z then None else Some (class_type (let y = s.body in y.holder))) static in
        record {
          method = t.0;
          among = t.1;
          begins = subst (Begins t.0) one t.2;
          holder = None;
          held = tt;
          signature = g.0;
          types = ap signature_of (sym same) ∙ g.1;
          params = (let y = type_of_body c s.body in y.params);
          sorts = subst (λ (y : MemberType). AreSorts l (let z = g.0 in z.params) y.params) (sym s.types) sorts.0;
          arguments = t.3 ∙ ap (λ h. argument_cells h (let y = type_of_body c s.body in y.params)) none;
        }

    pub calls : (id : MemberId) (m : Start Code) → called l id ≡ Some m → IsEntry l program None id.desc m
    calls id m e = of_class (class_named l id.class) e
      where
        of_static : (offset : ℕ) (d : MethodDescriptor) → IsNamed offset id d → (b : Bool) → is_static d.flags ≡ b →
            (if b then start_of l 0 d.offset else None) ≡ Some m
            → IsEntry l program None id.desc m
        of_static offset d r true static f = entry r.number r.it r.listed
            (ap (λ (y : MethodDescriptor). is_static y.flags) r.method ∙ static) id.desc r.desc m
            (ap (λ (y : MethodDescriptor). start_of l 0 y.offset) r.method ∙ f)
        of_static offset d r false static f = absurd cc

        of_declared : (offset : ℕ) (o : Option machine.Described) → machine.declared l (Own 0 offset) id ≡ o
            → option_and_then (static_start l) o ≡ Some m → IsEntry l program None id.desc m
        of_declared offset None is f = absurd cc
        of_declared offset (Some b) is f =
            let r = declared_named offset id b is in
            let d = b.method in
            of_static offset d r.1 (is_static d.flags) refl (ap (λ n. if is_static d.flags then start_of l n d.offset
            else None) (sym r.0) ∙ f)

        of_class : (o : Option Class) → option_and_then (λ c. option_and_then (static_start l)
            (machine.declared l c id)) o
            ≡ Some m → IsEntry l program None id.desc m
        of_class None f = absurd cc
        of_class (Some (External tree token)) f = absurd cc
        of_class (Some (Own zero offset)) f = of_declared offset (machine.declared l (Own 0 offset) id) refl f
        of_class (Some (Own (suc k) offset)) f = absurd cc
