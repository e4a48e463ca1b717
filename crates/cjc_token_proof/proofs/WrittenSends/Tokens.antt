-- A virtual method that a class of the package declares has in Descriptor the token of its slot.
use Rattle.std.proofs.Common.{◌≡◌, ℕ, zero, suc, ◌+◌, ◌-◌, ◌<◌, refl, sym, ap, ◌∙◌, arith, Bool, true, false, List, []}
use Rattle.std.proofs.Common.{◌∷◌, ◌++◌, length}
use Rattle.std.specs.Prelude.{Option, Some, None, map, not, option_map, option_and_then, position, slice_get, unwrap_or}
use Rattle.std.specs.Prelude.{nat_lt, ◌&&◌, ◌||◌, if◌then◌else◌}
use Rattle.std.proofs.lemmas.Bool.Decides.{nat_tests}
use Rattle.std.proofs.lemmas.List.{length-map}
use Rattle.cjc_bytes.specs.AccessFlags.{is_interface, is_private, is_static}
use Rattle.cjc_bytes.proofs.Gets.{in_front, get_behind}
use Rattle.cjc_card_semantics.specs.Machine.Calls.{Described, described_token}
use Rattle.cjc_card_semantics.specs.Machine.Dispatch.{Hidden, Open, Token}
use Rattle.cjc_world.specs.ClassFile.declared.tree.FieldTree.{FieldTree}
use Rattle.cjc_components.specs.Descriptor.{method_descriptor}
use Rattle.cjc_components.specs.Package.{Package, has_applets, tokens, world}
use Rattle.cjc_token_proof.specs.Tables.Sound.{IsSound}
use Rattle.cjc_token_proof.proofs.TablesLaws.Clean.{has_named}
use Rattle.cjc_token_proof.proofs.TablesLaws.Filed.{own_filed}
use Rattle.cjc_tokens.proofs.Walks.{supertypes-known}
use Rattle.cjc_tokens.specs.Fields.{field_tokens}
use Rattle.cjc_tokens.specs.Lines.{line_at, line_in, line_of}
use Rattle.cjc_tokens.specs.Members.{Signature, chosen, is_constructor, is_hidden, is_initialiser, is_shown, is_virtual}
use Rattle.cjc_tokens.specs.Members.{signature_of}
use Rattle.cjc_tokens.specs.Methods.{class_method_token, class_method_tokens, with_high_bit}
use Rattle.cjc_tokens.specs.Slots.{Slots, hidden_slots, shown_token, slots, token}
use Rattle.cjc_tokens.specs.Tokens.{OfClass, assigned, joined, method_tokens, of_class}
use Rattle.cjc_tokens.specs.Tokens.{token_of_member}
use Rattle.cjc_vtable.proofs.Worlds.{shown-place}
use Rattle.cjc_vtable.specs.Calls.{any_method}
use Rattle.cjc_world.specs.Added.{added}
use Rattle.cjc_world.specs.Classes.{Class, Member, class_named, declared, field_of_class}
use Rattle.cjc_world.specs.Exported.{is_exported}
use Rattle.cjc_world.specs.Lookup.{is_called, member_at}
use Rattle.cjc_token_proof.proofs.WrittenCalls.Facts.{Facts}
use Rattle.cjc_token_proof.proofs.WrittenCalls.Called.{token_there}
use Rattle.cjc_tokens.proofs.Means.{kept-at}

-- ---- tokens by place

pub fields_long : (exported : Bool) (fs : List FieldTree) (k : ℕ) (rest : List FieldTree)
    → length (field_tokens exported fs k rest) ≡ length rest
unfolding field_tokens
fields_long exported fs k [] = refl
fields_long exported fs k (f ∷ rest) = ap suc (fields_long exported fs (k + 1) rest)

module _ (exported : Bool) (shown : Signature → Option ℕ) (hidden : Slots) (ms : List Member) where
  pub method_row : (k : ℕ) (rest : List Member) (i : ℕ) (m : Member) → slice_get rest i ≡ Some m
      → slice_get (class_method_tokens exported shown hidden ms k rest) i
      ≡ Some (class_method_token exported shown hidden ms (k + i) m)
  unfolding class_method_tokens
  method_row k [] i m e = absurd (cc)
  method_row k (n ∷ rest) zero m e = let is : n ≡ m = cc in let z : k ≡ k + 0 = omega arith
      in ap (λ v. Some (class_method_token exported shown hidden ms k v)) is
      ∙ ap (λ j. Some (class_method_token exported shown hidden ms j m)) z
  method_row k (n ∷ rest) (suc i) m e = let s : k + 1 + i ≡ k + suc i = omega arith in method_row (k + 1) rest i m e
      ∙ ap (λ j. Some (class_method_token exported shown hidden ms j m)) s

  open_token : (k : ℕ) (m : Member) → is_shown m ≡ true → class_method_token exported shown hidden ms k m
      ≡ shown (signature_of m)
  unfolding class_method_token
  open_token k m e = skip _ _ (is_shown m) e
    where
      skip : (x y : Option ℕ) (a : Bool) → a ≡ true → (if a then x else y) ≡ x
      skip x y true f = refl
      skip x y false f = absurd (cc)

  hidden_token : (k : ℕ) (m : Member) → is_shown m ≡ false → is_hidden m ≡ true
      → class_method_token exported shown hidden ms k m ≡ option_map with_high_bit (token hidden (signature_of m))
  unfolding class_method_token
  hidden_token k m e f = skip _ _ _ (is_shown m) (is_hidden m) e f
    where
      skip : (x y z : Option ℕ) (a b : Bool) → a ≡ false → b ≡ true → (if a then x else if b then y else z) ≡ y
      skip x y z false true f g = refl
      skip x y z true b f g = absurd (cc)
      skip x y z false false f g = absurd (cc)

-- the first method of a name and descriptor is the one that is chosen
pub chosen_first : (s : Signature) (ms : List Member) (i : ℕ) (m : Member)
    → position (λ (q : Member). is_called s.name s.desc q) ms ≡ Some i → slice_get ms i ≡ Some m
    → chosen any_method s ms ≡ Some m
chosen_first s [] i m e there = absurd (cc)
chosen_first s (n ∷ ms) i m e there = by (is_called s.name s.desc n) (sym (Rattle.cjc_tokens.proofs.Facts.position-cons
    (λ (q : Member). is_called s.name s.desc q) n ms) ∙ e) there (λ j h g. chosen_first s ms j m h g)
  where
    by : (t : Bool) → (if t then Some 0 else option_map suc (position (λ (q : Member). is_called s.name s.desc q) ms))
        ≡ Some i → slice_get (n ∷ ms) i ≡ Some m
        → ((j : ℕ) → position (λ (q : Member). is_called s.name s.desc q) ms ≡ Some j → slice_get ms j ≡ Some m
        → chosen any_method s ms ≡ Some m)
        → (if t then Some n else chosen any_method s ms) ≡ Some m
    by true h g rest = let zero_is : 0 ≡ i = cc in sym (ap (slice_get (n ∷ ms)) (sym zero_is)) ∙ g
    by false h g rest = later (position (λ (q : Member). is_called s.name s.desc q) ms) refl h
      where
        later : (o : Option ℕ) → position (λ (q : Member). is_called s.name s.desc q) ms ≡ o → option_map suc o ≡ Some i
            → chosen any_method s ms ≡ Some m
        later None is f = absurd (cc)
        later (Some j) is f = let next : suc j ≡ i = cc in rest j is (ap (slice_get (n ∷ ms)) next ∙ g)

-- virtual methods are public or protected ones, or package-visible
pub virtual_kinds : (m : Member) → is_virtual m ≡ true → is_shown m ≡ false → is_hidden m ≡ true
virtual_kinds m virtual not_shown = by (Rattle.cjc_tokens.specs.Members.is_exposed m.flags) (is_virtual m) virtual
    not_shown
  where
    by : (a b : Bool) → b ≡ true → (a && b) ≡ false → (not a && b) ≡ true
    by true true e f = absurd (cc)
    by false true e f = refl
    by a false e f = absurd (cc)

module _ (list : List ℕ) (p : Package) (sound : IsSound list p.files) (facts : Facts p) where
  abbrev w : List Class
  w = world p

  -- the line of a class by its name
  line_same : (x : List ℕ) (c : Class) → class_named w x ≡ Some c → line_of w x ≡ line_at w c
  line_same x c e = ap (line_in w) (supertypes-known w facts.are_supertypes facts.one_supertypes x c e)

  module _ (x : List ℕ) (c : Class) (known : class_named w x ≡ Some c) (own : c.is_imported ≡ false)
      (class_here : is_interface c.flags ≡ false) (i : ℕ) (m : Member) (there : slice_get c.methods i ≡ Some m) where
    assigned_token : (exported : Bool) × (token_of_member (tokens p) (member_at c (length c.fields + i))
        ≡ class_method_token exported (shown_token (line_at w c)) (hidden_slots (line_at w c)) c.methods i m)
    unfolding assigned
    assigned_token =
        let f = own_filed p.files sound.classes sound.exports c (has_named w x c known) own in
        let n = f.0 in
        let t = f.1 in
        let r = kept-at p.files (has_applets p) n t f.2 in
        let zi : 0 + i ≡ i = omega arith in
        let exported = is_exported w (has_applets p) (declared n t) in
        let d = declared n t in
        let no_interface : is_interface d.flags ≡ false = ap (λ (q : Class). is_interface q.flags) (sym f.3)
        ∙ class_here in
        let here : slice_get d.methods i ≡ Some m = ap (λ (q : Class). slice_get q.methods i) (sym f.3) ∙ there in
        let shown = shown_token (line_at w d) in
        let hidden = hidden_slots (line_at w d) in
        let row = of_class w (has_applets p) r.0 n t in
        let long : length d.fields ≡ length (field_tokens exported t.fields 0 t.fields) =
        length-map t.fields field_of_class ∙ sym (fields_long exported t.fields 0 t.fields) in
        let tail : method_tokens w exported d ≡ class_method_tokens exported shown hidden d.methods 0 d.methods
        ++ map (λ q. shown (signature_of q)) (added w d) =
        ap (λ b. if b
        then map (Rattle.cjc_tokens.specs.Methods.interface_token (Rattle.cjc_tokens.specs.Methods.interface_methods
        w d)) d.methods else class_method_tokens exported shown hidden d.methods 0 d.methods
        ++ map (λ q. shown (signature_of q)) (added w d)) no_interface in
        let in_row : slice_get row.members (length d.fields + i) ≡ Some (class_method_token exported shown hidden
        d.methods i m) =
        ap (λ l. slice_get row.members (l + i)) long
        ∙ get_behind (field_tokens exported t.fields 0 t.fields) (method_tokens w exported d) i
        ∙ ap (λ xs. slice_get xs i) tail
        ∙ in_front (class_method_tokens exported shown hidden d.methods 0 d.methods)
        (map (λ q. shown (signature_of q)) (added w d)) i (class_method_token exported shown hidden d.methods
        i m)
        (method_row exported shown hidden d.methods 0 d.methods i m here
        ∙ ap (λ j. Some (class_method_token exported shown hidden d.methods j m)) zi) in (
          exported,
          ap (λ (q : Class). token_of_member (tokens p) (member_at q (length q.fields + i))) f.3
              ∙ ap (option_and_then (λ (k : OfClass). joined (slice_get k.members (length d.fields + i)))) r.1
              ∙ ap joined in_row
              ∙ ap (λ (q : Class). class_method_token exported (shown_token (line_at w q)) (hidden_slots (line_at w q))
              q.methods i m) (sym f.3),
        )

    abbrev described : Described
    described = record { part = 0; method = method_descriptor p c (member_at c (length c.fields + i)) }

    no_token : (is_static m.flags || (is_private m.flags || is_constructor m.name)) ≡ true → described_token described
        ≡ None
    no_token e = ap (λ t. if t then None else (if nat_lt described.method.token 0x80
        then Some (Open described.method.token) else Some (Hidden 0 (described.method.token - 0x80))))
        (token_there p facts x c known own i m there ∙ e)

    abbrev by_byte : ℕ → Option Token
    by_byte t = if nat_lt t 0x80 then Some (Open t) else Some (Hidden 0 (t - 0x80))

    has_token : is_virtual m ≡ true → described_token described
        ≡ by_byte (unwrap_or (token_of_member (tokens p) (member_at c (length c.fields + i))) 0xFF)
    has_token virtual = ap (λ t. if t then None else by_byte described.method.token) (token_there p facts x c known own
        i m there ∙ plain (is_private m.flags) (is_static m.flags) (is_constructor m.name) (is_initialiser m.name)
        virtual)
      where
        plain : (q s k i : Bool) → ((not q && not s) && not (k || i)) ≡ true → (s || (q || k)) ≡ false
        plain false false false i e = refl
        plain false false true i e = absurd (cc)
        plain false true k i e = absurd (cc)
        plain true s k i e = absurd (cc)

    -- a public or protected one has the token of its slot
    pub shown_described : is_virtual m ≡ true → is_shown m ≡ true → (t : ℕ)
        → token (slots (line_of w x)) (signature_of m) ≡ Some t → t < 128 → described_token described ≡ Some (Open t)
    shown_described virtual shown_here t is low =
        let a = assigned_token in
        let small : nat_lt t 128 ≡ true = grind (arith, nat_tests, low) in
        has_token virtual
        ∙ ap (λ o. by_byte (unwrap_or o 0xFF)) (a.1 ∙ open_token a.0 (shown_token (line_at w c))
        (hidden_slots (line_at w c))
        c.methods i m shown_here ∙ ap (λ l. shown_token l (signature_of m)) (sym (line_same x c known))
        ∙ shown-place w facts.are_supertypes facts.one_supertypes facts.rules x c (signature_of m) known
        (λ far. class_here) ∙ is)
        ∙ ap (λ b. if b then Some (Open t) else Some (Hidden 0 (t - 0x80))) small

    -- a package-visible one has it with the high bit
    pub hidden_described : is_virtual m ≡ true → is_shown m ≡ false → (t : ℕ)
        → token (hidden_slots (line_of w x)) (signature_of m) ≡ Some t → described_token described ≡ Some (Hidden 0 t)
    hidden_described virtual not_shown t is =
        let a = assigned_token in
        let large : nat_lt (t + 128) 128 ≡ false = grind (arith, nat_tests) in
        let less : t + 128 - 128 ≡ t = omega arith in
        has_token virtual
        ∙ ap (λ o. by_byte (unwrap_or o 0xFF)) (a.1 ∙ hidden_token a.0 (shown_token (line_at w c))
        (hidden_slots (line_at w c)) c.methods i m not_shown (virtual_kinds m virtual not_shown)
        ∙ ap (λ l. option_map with_high_bit (token (hidden_slots l) (signature_of m))) (sym (line_same x c known))
        ∙ ap (option_map with_high_bit) is)
        ∙ ap (λ b. if b then Some (Open (t + 128)) else Some (Hidden 0 (t + 128 - 128))) large
        ∙ ap (λ k. Some (Hidden 0 k)) less

    pub bound_described : (is_static m.flags || (is_private m.flags || is_constructor m.name)) ≡ true
        → described_token described ≡ None
    bound_described e = no_token e
