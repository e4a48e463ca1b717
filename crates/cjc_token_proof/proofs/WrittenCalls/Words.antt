-- Calls take as many words by token as by name.
use Rattle.std.proofs.Common.{◌≡◌, ℕ, ◌+◌, ◌-◌, refl, sym, ap, ◌∙◌, arith, Bool, true, false, List, [], ◌∷◌, length}
use Rattle.std.proofs.Common.{inl, ⊎_elim}
use Rattle.std.specs.Prelude.{Option, Some, None, slice_get, option_map, option_and_then, not, if◌then◌else◌}
use Rattle.cjc_bytes.specs.AccessFlags.{is_interface, is_private, is_static}
use Rattle.cjc_bytes.specs.declared.fault.MemberId.{MemberId}
use Rattle.cjc_bytes.proofs.Bools.{and_true}
use Rattle.cjc_card_semantics.specs.Bytecode.Arguments.{widths}
use Rattle.cjc_card_semantics.specs.Bytecode.Machine.{Start}
use Rattle.cjc_jvm_semantics.specs.Linked.{Method}
use Rattle.cjc_jvm_semantics.specs.OnePackage.{callee_at, first_imported, is_initialiser, method_at, method_hit}
use Rattle.cjc_jvm_semantics.specs.OnePackage.{of_class, select_in, selected_from}
use Rattle.cjc_token_proof.specs.ByToken.Supers.{SaysKinds}
use Rattle.cjc_token_proof.specs.Calls.Dispatching.{event, selection_of}
use Rattle.cjc_token_proof.specs.Calls.Reaching.{BeginsAtOffsets, SaysSuper, StandsInMethod, is_in_method}
use Rattle.cjc_token_proof.specs.Calls.Selecting.{signature}
use Rattle.cjc_token_proof.proofs.CallsLaws.Dispatch.{dispatch_agrees}
use Rattle.cjc_card_semantics.specs.Machine.Calls as card
use Rattle.cjc_card_semantics.specs.Machine.Dispatch.{At, Outward, dispatched, tower}
use Rattle.cjc_card_semantics.specs.Machine.Methods.{Code, start_of}
use Rattle.cjc_card_semantics.specs.Machine.Operations as operations
use Rattle.cjc_world_proof.specs.Bytecode.declared.method_code.MethodCode.{MethodCode}
use Rattle.cjc_components.specs.Methods.{method_offset, placed_at}
use Rattle.cjc_components.specs.Package.{LaidMethod, Package, pool, world}
use Rattle.cjc_components.specs.Written.{IsPackage, added_words, code_by}
use Rattle.cjc_components.specs.LowerList.Listed.{ListTree}
use Rattle.cjc_ncode.specs.Lowering.Naming.{Naming, callee}
use Rattle.cjc_ncode.specs.Lowering.Placed.{Placed, start_on_card}
use Rattle.cjc_components.specs.LowerNarrow.Rows.Package.{flags_of, words, words_where, words_with}
use Rattle.cjc_components.specs.LowerNarrow.Rows.Resolved.{argument_words, method_found, parameter_words}
use Rattle.cjc_components.specs.LowerNarrow.Rows.Selected.{near_fields}
use Rattle.cjc_ncode.specs.declared.narrow.NMethod.{NMethod}
use Rattle.cjc_ncode.specs.ByLabel.{Callee, Fixed, OnObject, OnSuper}
use Rattle.cjc_script.specs.Sorts.{Signature, signature_of}
use Rattle.cjc_token_proof.specs.Tables.Loading.{loaded, naming}
use Rattle.cjc_vtable.specs.Meant.{PackageTokensMean, TokensMean}
use Rattle.cjc_tokens.specs.Lines.{line_of}
use Rattle.cjc_tokens.specs.Members.{Signature as Sign}
use Rattle.cjc_tokens.specs.Slots.{slots, token}
use Rattle.cjc_vtable.specs.Calls.{finds_hidden}
use Rattle.cjc_vtable.specs.Laws.{itself, selection}
use Rattle.cjc_world.specs.declared.found.Found.{Found}
use Rattle.cjc_world.specs.Classes.{Class, Member, class_at, class_named}
use Rattle.cjc_world.specs.Files.{Files}
use Rattle.cjc_world.specs.Supertypes.{supertypes, line, upwards}
use Rattle.cjc_world.specs.Lookup.{first, member_at, or_else, own_method, receiver, selected}
use Rattle.cjc_world.proofs.Cycles.{class_named-name as name_is}
use Rattle.cjc_token_proof.specs.WrittenCalls.Calls.{ExportsKeep, IsNamed, IsSought, KeepsSubtypes, KeepsTokens}
use Rattle.cjc_token_proof.specs.WrittenCalls.Calls.{TakesWords, fixed, fixed_words, got, hidden, on_interface}
use Rattle.cjc_token_proof.specs.WrittenCalls.Calls.{on_object, on_super, shown, super_words, virtual_words}
use Rattle.cjc_token_proof.specs.WrittenCalls.Standing.{AreMethods, AreReady, ClassesStand, HaveOwnIds}
use Rattle.cjc_token_proof.specs.WrittenCalls.Standing.{TakeTheirWords, place}
use Rattle.cjc_token_proof.proofs.WrittenCalls.Facts.{Facts}
use Rattle.cjc_token_proof.proofs.WrittenCalls.Found.{Own, first_own, line_named, own_is, stands_in_method}
use Rattle.cjc_token_proof.proofs.WrittenCalls.Got.{Got, Holder, got_in_method, got_is, got_words, holder, shown_is}
use Rattle.cjc_token_proof.proofs.WrittenCalls.Held.{FormsLaw, OffsetsLaw}
use Rattle.cjc_token_proof.proofs.WrittenCalls.Offsets.{added_starts, place_has, stood, stood_has}
use Rattle.cjc_token_proof.proofs.WrittenCalls.Reached.{agrees, find_first, fixed_is, hidden_own, super_class}
use Rattle.cjc_token_proof.proofs.WrittenCalls.Reached.{super_says}
use Rattle.cjc_token_proof.proofs.WrittenCalls.Receivers.{first_step, found_stands, line_found}
use Rattle.cjc_token_proof.proofs.WrittenCalls.Tokens.{dispatched_shown, token_says}
use Rattle.cjc_token_proof.proofs.WrittenCalls.Towers.{class_stands, height_fits, line_is}

-- ---- what is written

abbrev nargs_of : NMethod → ℕ
nargs_of m = m.nargs

-- the code of a method takes the words of its flags and its descriptor
pub written_words : {A : Type 0} (list : ListTree) (files : Files) (codes : List MethodCode) (rows : Method
    → List (Option A)) (p : Package) → IsPackage list files codes rows p → TakeTheirWords p
written_words list files codes rows p is = record {
  declared = λ j t e k there. by_code j t e (Some k) there;
  added = λ j t e there. by_code j t e None there;
}
  where
    by_code : (j : ℕ) (t : LaidMethod) → slice_get p.methods j ≡ Some t → (o : Option Method)
        → method_at p.files t.member ≡ o → nargs_of t.code
        ≡ nargs_of (code_by p.files (near_fields (pool p)) rows t.member o)
    by_code j t e o there =
        let q = is.methods j t e in
        ap nargs_of q.code
        ∙ ap (λ fs. nargs_of (code_by fs (near_fields (pool p)) rows t.member (method_at fs t.member)))
        (sym is.by_files)
        ∙ ap (λ o. nargs_of (code_by p.files (near_fields (pool p)) rows t.member o)) there

-- ---- words

receiver_same : (s on : Bool) → on ≡ not s → ◌≡◌ {A = ℕ} (if s then 0 else 1) (if on then 1 else 0)
receiver_same true true e = absurd (cc)
receiver_same true false e = refl
receiver_same false true e = refl
receiver_same false false e = absurd (cc)

taken : {A : Type 0} (on : Bool) (m : MemberId) (n : ℕ) (o : Option A) → words_where on m o ≡ Some n
    → words_with on m ≡ n
taken on m n None e = absurd (cc)
taken on m n (Some f) e = cc

event_words : (on : Bool) (m : MemberId) (s : Signature) → signature_of m.desc ≡ Some s
    → option_map (card.argument_words on) (signature_of m.desc) ≡ Some (words_with on m)
event_words on m s e = ap (option_map (card.argument_words on)) e ∙ by on
    ∙ sym (ap (λ o. Some ((if on then 1 else 0) + parameter_words o)) e)
  where
    by : (t : Bool) → Some (card.argument_words t s) ≡ Some ((if t then 1 else 0) + widths s.params)
    by true = refl
    by false = let z : widths s.params ≡ 0 + widths s.params = omega arith in ap (λ n. Some n) z

abbrev member_id : List ℕ → Member → MemberId
member_id x m = record { class = x; name = m.name; desc = m.desc }

module _ (p : Package) (facts : Facts p) where
  -- a class's own method is the one that is found by its name
  found_own : (x : List ℕ) (c : Class) → class_named (world p) x ≡ Some c → c.is_imported ≡ false → (i : ℕ) (m : Member)
      → slice_get c.methods i ≡ Some m → method_found (world p) (member_id x m) ≡ Some (record {
        owner = c;
        flags = m.flags;
      })
  found_own x c known own i m there =
      let w = world p in
      let line_has = ap (first (own_method false m.name m.desc)) (line_is p facts x c known)
      ∙ first_step (own_method false m.name m.desc) c (upwards (supertypes w c.supers))
      ∙ ap (λ q. or_else q (first (own_method false m.name m.desc) (upwards (supertypes w c.supers))))
      (facts.first_one x c known own i m there) in
      let left : length c.fields + i - length c.fields ≡ i = omega arith in
      ap (option_and_then (method_hit w)) (find_first w x m.name m.desc (member_at c (length c.fields + i)) line_has)
      ∙ ap (option_and_then (λ (d : Class). option_map (λ (q : Member). record { owner = d; flags = q.flags })
      (slice_get d.methods (length c.fields + i - length d.fields)))) (facts.placed x c known)
      ∙ ap (λ j. option_map (λ (q : Member). record { owner = c; flags = q.flags }) (slice_get c.methods j)) left
      ∙ ap (option_map (λ (q : Member). record { owner = c; flags = q.flags })) there

-- the code of a method at its place takes the words of its flags and its descriptor
abbrev pub Counts : Package → (at : Method → Placed) → Type 0
Counts p at = (f : Found) (k : Method) → is_in_method (world p) f ≡ true → method_at p.files f ≡ Some k
    → (let q = at k in nargs_of q.method) ≡ argument_words (flags_of (method_found (world p) k.id)) (let id = k.id
    in id.desc)

-- a method that its class got begins with the words of its descriptor
abbrev pub AddedCount : Package → Type 0
AddedCount p = (f : Found) → f.imported ≡ false → is_in_method (world p) f ≡ true → method_at p.files f ≡ None
    → (s : Start Code) × (start_of (loaded p) 0 (method_offset p f) ≡ Some s)
    × (s.nargs ≡ added_words (world p) f (class_at (world p) f.imported f.class))

-- what a class got has no code of a class file
abbrev pub GotNoCode : Package → Type 0
GotNoCode p = (d : Class) → class_named (world p) d.name ≡ Some d → d.is_imported ≡ false → (s : Sign) (f : Found)
    → Got (world p) d s f → method_at p.files f ≡ None

module _ (p : Package) (facts : Facts p) (subtypes : KeepsSubtypes (world p)) (tokens : KeepsTokens (world p))
    (keep : ExportsKeep p) (kinds : SaysKinds (world p) (naming p)) (at : Method
    → Placed) (begins : BeginsAtOffsets p.files (world p) (naming p) (method_offset p) at) (counts : Counts p at)
    (added_count : AddedCount p) (no_code : GotNoCode p) (mean : TokensMean (world p)) (mean_here : PackageTokensMean
    (world p)) where
  abbrev w : List Class
  w = world p

  abbrev n : Naming
  n = naming p

  -- by the header of a class's own method
  own_words : (x : List ℕ) (c : Class) → class_named w x ≡ Some c → c.is_imported ≡ false → (i : ℕ) (m : Member)
      → slice_get c.methods i ≡ Some m → is_in_method w (member_at c (length c.fields + i)) ≡ true
      → option_map (λ (s : Start Code). s.nargs) (start_of (loaded p) 0
      (method_offset p (member_at c (length c.fields + i)))) ≡ Some (argument_words m.flags m.desc)
  own_words x c known own i m there inside =
      let k = facts.filed x c known own i m there in
      ap (option_map (λ (s : Start Code). s.nargs)) (begins (member_at c (length c.fields + i)) k.0 inside k.1)
      ∙ ap Some (counts (member_at c (length c.fields + i)) k.0 inside k.1)
      ∙ ap (λ (id : MemberId). Some (argument_words (flags_of (method_found w id)) id.desc)) k.2
      ∙ ap (λ o. Some (argument_words (flags_of o) m.desc)) (found_own p facts x c known own i m there)

  -- of a method that a look-up finds
  found_words : (on : Bool) (m : MemberId) (s : Signature) → signature_of m.desc ≡ Some s
      → (z : List ℕ) (b : Bool) (d : Class) → class_named w d.name ≡ Some d
      → (f : Found) (o : Own w b m.name m.desc d f) → StandsInMethod w f → (d.is_imported ≡ false
      → on ≡ not (is_static o.method.flags))
      → card.words_of (loaded p) on (selection_of n (method_offset p) z (signature m) f) ≡ Some (words_with on m)
  found_words on m s sig z b d known f o stands has_receiver = by d.is_imported refl
    where
      by : (t : Bool) → d.is_imported ≡ t → card.words_of (loaded p) on (if f.imported
          then Outward (event z (signature m)) else At 0 (method_offset p f)) ≡ Some (words_with on m)
      by true is =
          let import : f.imported ≡ true = ap (λ (q : Found). q.imported) o.is ∙ is in
          ap (λ t. card.words_of (loaded p) on (if t then Outward (event z (signature m))
          else At 0 (method_offset p f))) import ∙ event_words on m s sig
      by false is =
          let import : f.imported ≡ false = ap (λ (q : Found). q.imported) o.is ∙ is in
          ap (λ t. card.words_of (loaded p) on (if t then Outward (event z (signature m))
          else At 0 (method_offset p f))) import
          ∙ ap (λ q. option_map (λ (s : Start Code). s.nargs) (start_of (loaded p) 0 (method_offset p q))) o.is
          ∙ own_words d.name d known is o.place o.method o.there (sym (ap (is_in_method w) o.is) ∙ stands import)
          ∙ ap (λ y. Some (argument_words o.method.flags y)) o.desc_is
          ∙ ap (λ k. Some (k + parameter_words (signature_of m.desc))) (receiver_same (is_static o.method.flags) on
          (has_receiver is))

  -- ---- static methods, constructors and private methods

  fixed_taken : (on : Bool) (m : MemberId) (c : Class) (f : Found) → class_named w m.class ≡ Some c
      → is_interface c.flags ≡ false → is_initialiser m.name ≡ false → own_method false m.name m.desc c ≡ Some f
      → (s : Signature) → signature_of m.desc ≡ Some s → on ≡ not (is_static (flags_of (method_found w m)))
      → card.words (loaded p) (n.fixed on m) ≡ Some (words_with on m)
  fixed_taken on m c f known class_here plain own s sig has_receiver =
      let o = own_is w false m.name m.desc c f own in
      let name = name_is w m.class c known in
      let line_has = ap (first (own_method false m.name m.desc)) (line_is p facts m.class c known)
      ∙ first_step (own_method false m.name m.desc) c (upwards (supertypes w c.supers))
      ∙ ap (λ q. or_else q (first (own_method false m.name m.desc) (upwards (supertypes w c.supers)))) own in
      let r = fixed_is p facts subtypes tokens keep kinds at begins on m c f known class_here plain own f
      (find_first w m.class m.name m.desc f line_has) in
      ap (card.words (loaded p)) r.0 ∙ same_words f.imported
      ∙ found_words on m s sig m.class false c (ap (class_named w) name ∙ known) f o r.1
      (λ is. has_receiver ∙ ap (λ (id : MemberId). not (is_static (flags_of (method_found w id)))) (sym (named_so o))
      ∙ ap (λ q. not (is_static (flags_of q))) (found_own p facts m.class c known is o.place o.method o.there))
    where
      named_so : (o : Own w false m.name m.desc c f) → member_id m.class o.method ≡ m
      named_so o = ap (λ x. record { class = m.class; name = x; desc = o.method.desc }) o.name_is
          ∙ ap (λ x. record { class = m.class; name = m.name; desc = x }) o.desc_is

      same_words : (t : Bool) → card.words (loaded p) (if t then operations.Outer on m
          else operations.Fixed on 0 (method_offset p f)) ≡ card.words_of (loaded p) on (if t
          then Outward (event m.class (signature m)) else At 0 (method_offset p f))
      same_words true = refl
      same_words false = refl

  -- ---- methods that are selected

  selected_taken : (x : List ℕ) (m : MemberId) (c : Class) → class_named w x ≡ Some c → is_interface c.flags ≡ false
      → is_initialiser m.name ≡ false → (s : Signature) → signature_of m.desc ≡ Some s → (z : List ℕ) (f : Found)
      → selection w x (signature m) ≡ Some f
      → card.words_of (loaded p) true (selection_of n (method_offset p) z (signature m) f) ≡ Some (words_with true m)
  selected_taken x m c known class_here plain s sig z f sel =
      let d = first_own w (own_method true m.name m.desc) (line w x) f (line_named w x) sel in
      let o = own_is w true m.name m.desc d.0 f d.2 in
      let two = and_true (not (is_private o.method.flags)) (not (is_static o.method.flags)) o.wanted in
      found_words true m s sig z true d.0 d.1 f o (found_stands p facts true m.name m.desc plain x c known class_here f
      sel) (λ is. sym two.1)

  selected_virtual : (m : MemberId) (d : Class) → class_named w m.class ≡ Some d → is_interface d.flags ≡ false
      → is_initialiser m.name ≡ false → IsSought w m → (s : Signature) → signature_of m.desc ≡ Some s → (f : Found)
      → selection w m.class (signature m) ≡ Some f
      → card.words (loaded p) (callee n (OnObject m)) ≡ Some (words_with true m)
  selected_virtual m d known class_here plain sought s sig f sel =
      let stands = class_stands p facts m.class d known class_here in
      let calls = agrees p facts subtypes tokens keep kinds at begins m.class d known class_here in
      ap (card.words_of (loaded p) true) (calls.virtual_call m d f known itself (token_says p facts tokens m d known
      class_here (hidden_own p facts subtypes tokens keep kinds at begins m.class d (signature m) known) m.class d
      known class_here (inl refl) sought) sel (line_found p facts true m.name m.desc m.class f sel))
      ∙ selected_taken m.class m d known class_here plain s sig stands.foot f sel

  -- the method of a token: one that a class declares, or got
  pub held_words : (m : MemberId) → is_initialiser m.name ≡ false → (s : Signature) → signature_of m.desc ≡ Some s
      → (z : List ℕ) (f : Found) → (f.imported ≡ false → Holder p facts (signature m) f)
      → card.words_of (loaded p) true (selection_of n (method_offset p) z (signature m) f) ≡ Some (words_with true m)
  held_words m plain s sig z f holds = by f.imported refl
    where
      told : f.imported ≡ false → card.words_of (loaded p) true (At 0 (method_offset p f)) ≡ Some (words_with true m)
      told here =
          let h = holds here in
          let d = h.class in
          ⊎_elim
          (λ e. (let o = shown_is w d (signature m) f e in
          let two = and_true (not (is_private o.method.flags)) (not (is_static o.method.flags)) o.wanted in
          let i = facts.own d.name d h.known h.own_class in
          sym (ap (λ t. card.words_of (loaded p) true (if t then Outward (event z (signature m))
          else At 0 (method_offset p f))) here)
          ∙ found_words true m s sig z true d h.known f o (λ here_too. ap (is_in_method w) o.is
          ∙ stands_in_method w i.number d i.ordered h.class_here h.own_class o.place o.method o.there
          (ap is_initialiser o.name_is ∙ plain)) (λ is. sym two.1)))
          (λ e. (let g = got_is w d (signature m) f e in
          let r = added_count f here (got_in_method p facts d h.known h.own_class h.class_here (signature m) f g)
          (no_code d h.known h.own_class (signature m) f g) in
          ap (option_map (λ (q : Start Code). q.nargs)) r.1 ∙ ap Some r.2
          ∙ ap Some (got_words p facts d h.known h.own_class h.class_here (signature m) f g)))
          h.has

      by : (t : Bool) → f.imported ≡ t → card.words_of (loaded p) true (if t then Outward (event z (signature m))
          else At 0 (method_offset p f)) ≡ Some (words_with true m)
      by true is = event_words true m s sig
      by false is = told is

  got_taken : (m : MemberId) (d : Class) → class_named w m.class ≡ Some d → is_interface d.flags ≡ false
      → is_initialiser m.name ≡ false → (t : ℕ) → token (slots (line_of w m.class)) (signature m) ≡ Some t
      → finds_hidden (line_of w m.class) (signature m) ≡ false → (s : Signature) → signature_of m.desc ≡ Some s
      → card.words (loaded p) (callee n (OnObject m)) ≡ Some (words_with true m)
  got_taken m d known class_here plain t e none s sig =
      let r = mean m.class d known class_here (signature m) t e in
      let stands = class_stands p facts m.class d known class_here in
      let agree = dispatch_agrees w facts.are_supertypes facts.one_supertypes n (method_offset p) facts.low kinds
      stands.height m.class stands.foot stands.tower (height_fits p facts m.class d known stands) in
      ap (λ q. card.words_of (loaded p) true (dispatched (tower (loaded p) (n.class m.class)) q))
      (dispatched_shown p facts tokens m d known class_here none t e)
      ∙ ap (card.words_of (loaded p) true) (agree.open_method t r.method (signature m) r.by_token r.name)
      ∙ held_words m plain s sig stands.foot r.method (λ here. holder p facts (signature m) r.method here m.class d
      known class_here r.nearest)

  virtual_taken : (m : MemberId) (d : Class) → class_named w m.class ≡ Some d → is_interface d.flags ≡ false
      → is_initialiser m.name ≡ false → IsSought w m → (s : Signature) → signature_of m.desc ≡ Some s
      → card.words (loaded p) (callee n (OnObject m)) ≡ Some (words_with true m)
  virtual_taken m d known class_here plain (shown finds none) s sig =
      let calls = facts.virtual_calls m.class m.class d d known class_here known itself in
      let t = calls.open_method (signature m) finds in
      let r = mean m.class d known class_here (signature m) t.0 t.1 in
      selected_virtual m d known class_here plain (shown finds none) s sig r.method (sym t.2 ∙ r.by_token)
  virtual_taken m d known class_here plain (hidden finds) s sig =
      let calls = facts.virtual_calls m.class m.class d d known class_here known itself in
      let t = calls.package_method (signature m) finds in
      let r = mean_here m.class d known (signature m) t.0 t.1 in
      selected_virtual m d known class_here plain (hidden finds) s sig r.method (sym t.2 ∙ r.by_token)
  virtual_taken m d known class_here plain (got t e none selects) s sig = got_taken m d known class_here plain t e none
      s sig

  super_taken : (m : MemberId) (c d : Class) (super : List ℕ) (known : class_named w m.class ≡ Some c)
      (own : c.is_imported ≡ false) (class_here : is_interface c.flags ≡ false) (supers : c.supers ≡ super
      ∷ []) (super_is : class_named w super ≡ Some d) (plain : is_initialiser m.name ≡ false)
      (sought : IsSought w (of_class super m)) (alike : finds_hidden (line_of w m.class) (signature m)
      ≡ finds_hidden (line_of w super) (signature m))
      → (s : Signature) → signature_of m.desc ≡ Some s → (k : ℕ) → words p.files w (OnSuper m) ≡ Some k
      → card.words (loaded p) (callee n (OnSuper m)) ≡ Some k
  unfolding selected
  super_taken m c d super known own class_here supers super_is plain sought alike s sig k h =
      by (select_in w super m) refl
      (sym (ap (λ o. words_where true m (option_and_then (λ y. selected_from p.files w (select_in w) y m) o))
      says.first_one) ∙ h)
    where
      says : SaysSuper w n m super (let t = class_stands p facts super d super_is (super_class p facts subtypes tokens
          keep kinds at begins m c d super known own class_here supers super_is plain sought alike) in t.foot)
      says = super_says p facts subtypes tokens keep kinds at begins m c d super known own class_here supers super_is
          plain sought alike

      here : is_interface d.flags ≡ false
      here = super_class p facts subtypes tokens keep kinds at begins m c d super known own class_here supers super_is
          plain sought alike

      by : (o : Option Found) → select_in w super m ≡ o
          → words_where true m (option_and_then (λ f. callee_at p.files (first_imported (line w (receiver super))) m f)
          o) ≡ Some k → card.words (loaded p) (callee n (OnSuper m)) ≡ Some k
      by None is e = absurd (cc)
      by (Some f) is e =
          let calls = agrees p facts subtypes tokens keep kinds at begins super d super_is here in
          let sel : selection w super (signature m) ≡ Some f =
          ap (λ y. first (own_method true m.name m.desc) (line w y)) (sym says.itself) ∙ is in
          let stands = class_stands p facts super d super_is here in
          ap (λ t. card.words_of (loaded p) true (dispatched t (n.dispatch_token m))) says.tables
          ∙ ap (λ t. card.words_of (loaded p) true (dispatched (tower (loaded p) (n.class super)) t)) says.same_token
          ∙ ap (card.words_of (loaded p) true) (calls.virtual_call (of_class super m) d f super_is itself says.token sel
          (says.found f sel))
          ∙ selected_taken super m d super_is here plain s sig stands.foot f sel
          ∙ ap Some (taken true m k (callee_at p.files (first_imported (line w (receiver super))) m f) e)

  -- ---- all calls

  -- Each call takes as many words by token as by name.
  pub words_taken : (m : Callee) → IsNamed w m → TakesWords w m → (k : ℕ) → words p.files w m ≡ Some k
      → card.words (loaded p) (callee n m) ≡ Some k
  words_taken m (fixed {on = on} {m = id} c f known class_here plain own) takes k h = by takes
    where
      by : TakesWords w (Fixed on id) → card.words (loaded p) (callee n (Fixed on id)) ≡ Some k
      by (fixed_words s sig has) = fixed_taken on id c f known class_here plain own s sig has
          ∙ ap Some (taken on id k (method_found w id) h)
  words_taken m (on_object {m = id} d known class_here plain sought) takes k h = by takes
    where
      by : TakesWords w (OnObject id) → card.words (loaded p) (callee n (OnObject id)) ≡ Some k
      by (virtual_words s sig) = virtual_taken id d known class_here plain sought s sig
          ∙ ap Some (taken true id k (method_found w id) h)
  words_taken m (on_super {m = id} c d super known own class_here supers super_is plain sought alike) takes k h =
      by takes
    where
      by : TakesWords w (OnSuper id) → card.words (loaded p) (callee n (OnSuper id)) ≡ Some k
      by (super_words s sig) = super_taken id c d super known own class_here supers super_is plain sought alike s sig k
          h
  words_taken m (on_interface i j known interface_here plain placed) takes k h = h

-- ---- the code at places

pub counts_from : (p : Package) → TakeTheirWords p → (forms : FormsLaw) (offsets : OffsetsLaw)
    → AreReady p → AreMethods p → HaveOwnIds p → ClassesStand p → Counts p (place p)
counts_from p takes forms offsets ready methods own classes f k inside there =
    let r = place_has forms offsets p ready methods own classes f k inside there (λ t. nargs_of t.code
    ≡ argument_words (flags_of (method_found (world p) k.id)) (let id = k.id in id.desc))
    (λ j t e same. takes.declared j t e k (ap (method_at p.files) same ∙ there)) in
    ap (λ (q : Placed). nargs_of q.method) r.2 ∙ r.3

-- A method that is added to its class begins as an abstract one with the words of its descriptor.
pub added_begins : (p : Package) → TakeTheirWords p → (forms : FormsLaw) (offsets : OffsetsLaw) → AreReady p
    → AreMethods p → HaveOwnIds p → ClassesStand p
    → (f : Found) → f.imported ≡ false → is_in_method (world p) f ≡ true → method_at p.files f ≡ None
    → (s : Start Code) × (start_of (loaded p) 0 (method_offset p f) ≡ Some s) × (s.is_abstract ≡ true)
    × (s.nargs ≡ added_words (world p) f (class_at (world p) f.imported f.class))
added_begins p takes forms offsets ready methods ids classes f own inside none =
    let here = added_starts forms offsets p ready methods ids classes f own inside none in
    let words_are = stood_has forms offsets p ready methods ids classes f own inside (λ t. nargs_of t.code
    ≡ added_words (world p) f (class_at (world p) f.imported f.class))
    (λ j t e same. takes.added j t e (ap (method_at p.files) same ∙ none)
    ∙ ap (λ (g : Found). added_words (world p) g (class_at (world p) g.imported g.class)) same) in
    let at = stood forms offsets p ready methods ids classes f own inside in
    (start_on_card (naming p) true (placed_at at.offset at.method), here, refl, words_are)
