-- The program of components that the type checker passes: its methods with their least tables, and what stands at the
-- offsets of methods.
use Rattle.std.proofs.Common.{◌≡◌, ℕ, zero, suc, ◌+◌, ◌==◌, refl, sym, ap, subst, ◌∙◌, Bool, true, false, List, [], ◌∷◌}
use Rattle.std.proofs.Common.{◌++◌, length, map, slice_get, Option, Some, None}
use Rattle.std.specs.Prelude.{◌&&◌, Contains, cond, filter, flat_map, if◌then◌else◌, not}
use Rattle.std.specs.List.{list_any}
use Rattle.cjc_bytes.specs.AccessFlags.{is_static}
use Rattle.cjc_bytes.specs.Breaks.{Among, Break}
use Rattle.cjc_capread.specs.declared.tree.MethodDescriptor.{MethodDescriptor}
use Rattle.cjc_check_rules.specs.Codes.{whole_spots}
use Rattle.cjc_check_rules.specs.Complete.{Complete}
use Rattle.cjc_check_rules.specs.Consistent.{break_at}
use Rattle.cjc_check_rules.specs.Described.{all_starts, classes_in_order}
use Rattle.cjc_check_rules.specs.Instructions.{jump_spots}
use Rattle.cjc_check_rules.specs.Members.{class_methods, is_method_start}
use Rattle.cjc_check_rules.specs.Spots.{in_info}
use Rattle.cjc_world.specs.declared.image.StaticImage.{StaticImage}
use Rattle.cjc_world.specs.Files.{Files}
use Rattle.cjc_card_semantics.specs.Bytecode.Machine.{Start}
use Rattle.cjc_card_semantics.specs.Machine.Methods.{start_at, start_of}
use Rattle.cjc_card_semantics.specs.Script.Sorts.{Signature, signature_of}
use Rattle.cjc_intervals.specs.Types.declared.state.State.{State}
use Rattle.cjc_verify.specs.Frames.Acts.{given}
use Rattle.cjc_verify.specs.Frames.declared.acts.Given.TheVariants.{AnObject}
use Rattle.cjc_verify.specs.Frames.Flow.{frame_flow}
use Rattle.cjc_verify.specs.Frames.Flow as flow
use Rattle.cjc_verify.specs.Frames.Tables.{IsLeastTable}
use Rattle.cjc_card_acts.specs.CardTypes.{MemberType, type_at, type_by, types_in, words}
use Rattle.cjc_components.specs.Paired.Pairs.{ArePaired}
use Rattle.cjc_verify.specs.Bodies.{Body, arguments, bodies, frames_of, receiver_of, type_of_body}
use Rattle.cjc_verify.specs.ClassTypes.{class_type}
use Rattle.cjc_verify.specs.Described.{all_array_spots, described_spots}
use Rattle.cjc_verify.specs.Headers.{argument_words, has_code, header_spots, is_fit_header}
use Rattle.cjc_verify.specs.Instructions.{throwable}
use Rattle.cjc_verify.specs.Named.{holds}
use Rattle.cjc_verify.specs.Pairs.{Described, Pair, class_ref, member_of, method_at, pair_of}
use Rattle.cjc_verify.specs.Verified.{IsVerified, class_breaks, header_breaks, listed}
use Rattle.cjc_verify_proof.specs.Calls.{argument_cells, receiver_cells}
use Rattle.cjc_verify_proof.specs.Control.{cells_of}
use Rattle.cjc_verify_proof.specs.Frames.{Begins, Program, Typing}
use Rattle.cjc_verified_proof.specs.PackageTypes.{field_types}
use Rattle.cjc_verified_proof.specs.Programs.{IsProgramOf, IsTypingOf, code_of, is_concrete, is_made}
use Rattle.cjc_verified_proof.specs.Entries.{AreCounted, AreRefs}
use Rattle.cjc_verified_proof.specs.Suited.{AreStanding, HaveSorts, StandsAt, holder_type}
use Rattle.cjc_bytes.proofs.BrokenRules.{among_left, among_right}
use Rattle.cjc_bytes.proofs.Gets.{any_at, contained, contains_at, mapped_at, item_there, none_each}
use Rattle.cjc_bytes.proofs.Numbers.{number_same}
use Rattle.cjc_bytes.proofs.Plain.{same_some}
use Rattle.cjc_verify.specs.Frames.Working.FlowLaws.{frame_flow_stays, frame_laws}
use Rattle.cjc_intervals.proofs.RangeLaws.Least.{least_exists}
use Rattle.cjc_verified_proof.proofs.BodyLaws.{method_has_body}
use Rattle.cjc_verified_proof.proofs.DescribedLaws.{body_own, body_says, filter_got, filter_has}
use Rattle.cjc_verified_proof.proofs.EntryLaws.{no_spots, unless_holds}
use Rattle.cjc_verified_proof.proofs.MethodLaws.{begins_there_typed, body_starts, typing, typing_is}
use Rattle.cjc_verified_proof.proofs.NameLaws.{names_meant}
use Rattle.cjc_verified_proof.proofs.TypeLaws.{arguments_given, have_sorts}

-- ---- tables

-- each method has a least table
pub least_rows : flow.Body → List (Option State)
least_rows b = (least_exists (frame_flow b) (length b.steps) (frame_laws b) (frame_flow_stays b)).0

pub least_there : (b : flow.Body) → IsLeastTable b (least_rows b)
unfolding least_rows
least_there b = (least_exists (frame_flow b) (length b.steps) (frame_laws b) (frame_flow_stays b)).1

-- ---- lists

filter_passes : {A : Type 0} (f : A → Bool) (xs : List A) (k : ℕ) (x : A) → slice_get (filter f xs) k ≡ Some x
    → f x ≡ true
filter_passes f [] k x e = absurd cc
filter_passes {A} f (y ∷ xs) k x e = by (f y) refl k e (filter_passes f xs)
  where
    by : (b : Bool) → f y ≡ b → (k : ℕ) → slice_get (cond b (y ∷ filter f xs) (filter f xs)) k ≡ Some x
        → ((k : ℕ) (z : A) → slice_get (filter f xs) k ≡ Some z → f z ≡ true) → f x ≡ true
    by true g zero e more = ap f (sym (same_some e)) ∙ g
    by true g (suc k) e more = more k x e
    by false g k e more = more k x e

both : (a b : Bool) → (a && b) ≡ true → (a ≡ true) × (b ≡ true)
both true b e = (refl, e)
both false b e = absurd cc

-- ---- the program

abbrev pub program_of : Pair → (exceptions : List ℕ) → Program
program_of p exceptions = record {
  methods = map (λ (b : Body). typing p b (least_rows (frames_of p b))) (filter is_concrete (bodies p.components));
  exceptions = exceptions;
  fields = field_types p;
  made = is_made p;
}

pub program_is : (p : Pair) (exceptions : List ℕ) → throwable p ≡ Some exceptions → IsProgramOf p
    (program_of p exceptions)
program_is p exceptions thrown = record {
  each = λ t among. (
      let all = filter is_concrete (bodies p.components) in
      let r = contains_at (map (λ (b : Body). typing p b (least_rows (frames_of p b))) all) t among in
      let m = mapped_at (λ (b : Body). typing p b (least_rows (frames_of p b))) all r.0 t r.1 in
      let g = filter_got is_concrete (bodies p.components) r.0 m.0 m.1 in (
        g.0,
        m.0,
        g.1,
        filter_passes is_concrete (bodies p.components) r.0 m.0 m.1,
        subst (IsTypingOf p m.0) m.2 (record {
          code = refl;
          body = refl;
          least = least_there (frames_of p m.0);
          result = refl;
        }),
      )
      );
  all = λ k b e concrete. (
      let all = filter is_concrete (bodies p.components) in
      let h = filter_has is_concrete (bodies p.components) k b e concrete in
      let t = item_there (λ (b : Body). typing p b (least_rows (frames_of p b))) all h.0 b h.1 in (
        typing p b (least_rows (frames_of p b)),
        contained (map (λ (b : Body). typing p b (least_rows (frames_of p b))) all) h.0 (typing p b
            (least_rows (frames_of p b))) t,
        record { code = refl; body = refl; least = least_there (frames_of p b); result = refl },
      )
      );
  exceptions = thrown;
  fields = refl;
  made = refl;
}

-- ---- headers

headers_none : (p : Pair) → IsVerified p → flat_map (header_spots p) (bodies p.components) ≡ []
headers_none p verified = no_spots 727 (flat_map (header_spots p) (bodies p.components)) (λ b among. verified b
    (listed b
    (among_left b (class_breaks p ++ header_breaks p ++ map (break_at 728) (all_array_spots p)) (map (break_at 721)
    (described_spots p)) (among_left b (class_breaks p ++ header_breaks p) (map (break_at 728) (all_array_spots p))
    (among_right b (class_breaks p) (header_breaks p) among)))))

-- a header has the words of its method's type
pub header_counts : (p : Pair) → IsVerified p → (k : ℕ) (b : Body) → slice_get (bodies p.components) k ≡ Some b
    → (let h = b.header in h.nargs) ≡ argument_words p b
header_counts p verified k b e =
    let h = b.header in
    let m = b.method in
    let fit = unless_holds (is_fit_header p b) (in_info 7 m.offset) (none_each (header_spots p)
    (bodies p.components) k b
    (headers_none p verified) e) in
    number_same h.nargs (argument_words p b) (both (h.nargs == argument_words p b) (not (h.is_abstract
    && holds (has_code p) (method_at p m.offset))) fit).0

-- and is not abstract where the package's method has code
pub header_codes : (p : Pair) → IsVerified p → (k : ℕ) (b : Body) → slice_get (bodies p.components) k ≡ Some b
    → (let h = b.header in let m = b.method in h.is_abstract && holds (has_code p) (method_at p m.offset)) ≡ false
header_codes p verified k b e =
    let h = b.header in
    let m = b.method in
    let fit = unless_holds (is_fit_header p b) (in_info 7 m.offset) (none_each (header_spots p)
    (bodies p.components) k b
    (headers_none p verified) e) in
    unturned (h.is_abstract && holds (has_code p) (method_at p m.offset)) (both (h.nargs == argument_words p b)
    (not (h.is_abstract && holds (has_code p) (method_at p m.offset))) fit).1
  where
    unturned : (a : Bool) → not a ≡ true → a ≡ false
    unturned true f = cc
    unturned false f = refl

-- ---- arguments

receiver_given : (b : Body) → map (given [] []) (receiver_of b) ≡ receiver_cells (holder_type b)
receiver_given b = by (let m = b.method in is_static m.flags)
  where
    by : (s : Bool) → map (given [] []) (if s then [] else AnObject (class_type b.holder) ∷ [])
        ≡ receiver_cells (if s then None else Some (class_type b.holder))
    by true = refl
    by false = refl

pub arguments_held : (c : Complete) (b : Body) → map (given [] []) (arguments c b) ≡ argument_cells (holder_type b)
    (let t = type_of_body c b in t.params)
arguments_held c b = arguments_given (receiver_of b) (let t = type_of_body c b in t.params)
    ∙ ap (λ xs. xs ++ flat_map cells_of (let t = type_of_body c b in t.params)) (receiver_given b)

module _ (applets : Bool) (files : Files) (image : StaticImage) (c : Complete) (whole : whole_spots c ≡ [])
    (jump : jump_spots c ≡ []) (ordered : (let d = c.descriptor in classes_in_order d.classes (all_starts c.class))
    ≡ [])
    (paired : ArePaired files image c) (verified : IsVerified (pair_of applets files image c)) (refs : AreRefs c)
    (counted : AreCounted files) where
  abbrev p : Pair
  p = pair_of applets files image c

  -- a descriptor of a method has the types that its nibbles say
  pub sorts_said : HaveSorts p
  sorts_said desc nibbles s said is =
      let h = have_sorts p.loaded (class_ref p) (names_meant applets files image c ordered refs counted) desc s is
      nibbles
      said in
      (h.params, h.result)

  module _ (program : Program) (of : IsProgramOf p program) where
    -- a method of Method
    pub stands_at : (k : ℕ) (b : Body) → slice_get (bodies c) k ≡ Some b → StandsAt p program (let m = b.method
        in m.offset)
    stands_at k b e =
        let o = body_own applets files image c whole ordered paired verified k b e in
        let s = body_says applets files image c whole ordered paired verified k b e in
        let m = b.method in
        record {
          body = b;
          at = refl;
          described = o.described;
          is_described = o.found;
          method = o.method;
          holder = o.holder;
          nibbles = s.nibbles;
          said = s.wanted;
          types = s.type_is;
          start = start_at 0 m.offset b.header b.method;
          starts = body_starts applets files image c whole jump k b e;
          words = header_counts p verified k b e;
          typed = λ concrete. (
              let t = of.all k b e (ap not concrete) in
              let is = t.2 in (
                t.0,
                t.1,
                subst (λ (x : Typing). Begins x (start_at 0 m.offset b.header b.method)) (typing_is p b t.0 is)
                    (begins_there_typed applets files image c whole jump k b e (t.0).rows concrete),
                ap (λ (x : flow.Body). map (given [] []) x.arguments) is.body ∙ arguments_held c b,
                is.result,
              )
              );
        }

    pub are_standing : AreStanding p program
    are_standing offset e =
        let a = any_at (λ (m : MethodDescriptor). m.offset == offset) (class_methods c) (both (not (offset == 0))
        (list_any (λ (m : MethodDescriptor). m.offset == offset) (class_methods c)) e).1 in
        let b = method_has_body c whole a.0 a.1 a.2 in
        subst (StandsAt p program) (ap (λ (m : MethodDescriptor). m.offset) b.2 ∙ number_same _ offset a.3)
        (stands_at a.0
        b.0 b.1)
