-- The pool's entries of virtual methods and of those of superclasses name tokens that are there.
use Rattle.std.proofs.Common.{◌≡◌, ℕ, zero, suc, ◌+◌, ◌<◌, ◌==◌, refl, sym, ap, subst, ◌∙◌, arith, true, false, List}
use Rattle.std.proofs.Common.{[], ◌∷◌}
use Rattle.std.specs.Prelude.{Some, cond, map, option_map, slice_get, unwrap_or, if◌then◌else◌}
use Rattle.std.specs.List.{AllByRecursion, find}
use Rattle.std.proofs.lemmas.Bool.Decides.{nat_tests}
use Rattle.cjc_bytes.specs.AccessFlags.{is_interface}
use Rattle.cjc_bytes.specs.declared.fault.MemberId.{MemberId}
use Rattle.cjc_pool.specs.JvmSemantics.OnePackage.{of_class}
use Rattle.cjc_token_proof.specs.Calls.Selecting.{signature}
use Rattle.cjc_check_rules.specs.Spots.{item_at, placed, starts}
use Rattle.cjc_check_rules.specs.Complete.{class_size}
use Rattle.cjc_check_rules.specs.Classes.{first_class}
use Rattle.cjc_check_rules.specs.Members.{has_above, has_virtual, superclass_has}
use Rattle.cjc_check_rules.specs.PoolEntries.{names_member}
use Rattle.cjc_world.specs.Classes.{Class, class_named}
use Rattle.cjc_world.specs.Supertypes.{AreSupertypes, Supertypes, Lists, foremost, supertypes}
use Rattle.cjc_world.specs.Order.{in_order}
use Rattle.cjc_world.specs.Rules.{is_interface_of}
use Rattle.cjc_world.proofs.Cycles.{class_named-name}
use Rattle.cjc_tokens.specs.Lines.{Line, line_of}
use Rattle.cjc_tokens.specs.Methods.{with_high_bit}
use Rattle.cjc_tokens.specs.Members.{Signature}
use Rattle.cjc_tokens.specs.Slots.{hidden_slots, shown_token, slots, token}
use Rattle.cjc_vtable.specs.Calls.{finds_hidden}
use Rattle.cjc_vtable.specs.Laws.{KeepsRules, TokensAreOnce, VirtualCallsAgree, below, itself}
use Rattle.cjc_vtable.specs.Tables.{or_zero}
use Rattle.cjc_vtable.proofs.Filed.{has-get}
use Rattle.cjc_vtable.proofs.Worlds.{shown-place}
use Rattle.cjc_vtable.specs.Meant.{PackageTokensMean, TokensMean}
use Rattle.cjc_ncode.specs.ByLabel.{OnObject, OnSuper}
use Rattle.cjc_ncode.specs.declared.narrow.PoolKey.{PoolKey}
use Rattle.cjc_ncode.specs.declared.narrow.PoolKey.TheVariants as keys
use Rattle.cjc_ncode.specs.Lowering.Naming.{entry_of}
use Rattle.cjc_components.specs.Package.{Package, pool, world}
use Rattle.cjc_components.specs.Class.{class_entry}
use Rattle.cjc_components.specs.Names.{class_ref, names, token_in, virtual_token}
use Rattle.cjc_token_proof.specs.Components.Whole.{exports_of, whole}
use Rattle.cjc_check_proof.specs.Code.Members.{AllAreNamed, IsNamed as NamesMember, by_token}
use Rattle.cjc_token_proof.specs.Tables.Sound.{IsSound}
use Rattle.cjc_token_proof.proofs.TablesLaws.Clean.{has_named, kept}
use Rattle.cjc_token_proof.proofs.TablesLaws.Lists.{right_supers}
use Rattle.cjc_token_proof.proofs.TablesLaws.Order.{own_names}
use Rattle.cjc_check_proof.proofs.ClassesLaws.Lists.{start_within}
use Rattle.cjc_check_proof.proofs.ClassesLaws.Refs.{class_some, info, own_ref}
use Rattle.cjc_check_proof.proofs.ClassesLaws.Supers.{in_place}
use Rattle.cjc_token_proof.specs.WrittenCalls.Calls.{IsNamed, IsSought, KeepsTokens, got, hidden, on_object, on_super}
use Rattle.cjc_token_proof.specs.WrittenCalls.Calls.{shown}
use Rattle.cjc_check_proof.specs.Keys.{AllAreThere, IsThere, called, called_above, member}
use Rattle.cjc_check_proof.proofs.TokensLaws.Reached.{open_there, package_there}

-- the item that begins where another one of this place does
item_there : {A : Type 0} (size : A → ℕ) → ((x : A) → 0 < size x) → (from : ℕ) (xs : List A) (k s : ℕ) (x : A)
    → slice_get xs k ≡ Some x → slice_get (starts size from xs) k ≡ Some s → item_at (placed size from xs) s ≡ Some x
unfolding placed
item_there size some from [] k s x e f = absurd (cc)
item_there size some from (y ∷ xs) zero s x e f =
    let at : from ≡ s = cc in
    let is : y ≡ x = cc in
    let same : (from == s) ≡ true = grind (arith, nat_tests, at) in
    ap (λ b. option_map (λ q. q.item) (cond b (Some (record { at = from; item = y })) (find (λ q. q.at == s)
    (placed size (from + size y) xs)))) same ∙ ap Some is
item_there size some from (y ∷ xs) (suc k) s x e f =
    let within = start_within size (from + size y) xs k s some f in
    let low = within.0 in
    let more = some y in
    let other : (from == s) ≡ false = grind (arith, nat_tests, low, more) in
    ap (λ b. option_map (λ q. q.item) (cond b (Some (record { at = from; item = y })) (find (λ q. q.at == s)
    (placed size (from + size y) xs)))) other ∙ item_there size some (from + size y) xs k s x e f

module _ (list : List ℕ) (p : Package) (sound : IsSound list p.files) (are_supertypes : (xs : List (List ℕ))
    → AreSupertypes (world p) xs (supertypes (world p) xs)) (one_supertypes : (xs : List (List ℕ)) (j k : Supertypes)
    → AreSupertypes (world p) xs j → AreSupertypes (world p) xs k → j ≡ k)
    (rules : KeepsRules (world p)) (tokens : KeepsTokens (world p)) (mean : TokensMean (world p))
    (mean_here : PackageTokensMean (world p)) (virtual_calls : VirtualCallsAgree (world p))
    (once : TokensAreOnce (world p)) where
  abbrev w : List Class
  w = world p

  place : (x : List ℕ) (c : Class) (s : Signature) → class_named w x ≡ Some c → is_interface c.flags ≡ false
      → shown_token (line_of w x) s ≡ token (slots (line_of w x)) s
  place x c s e class_here = shown-place w are_supertypes one_supertypes rules x c s e (λ far. class_here)

  -- a number that the class of a method has as a token of it, as has each line that finds the method alike and keeps
  -- its tokens
  record HasToken (m : MemberId) : Type 0 where
    number : ℕ
    there : has_virtual (whole p) (exports_of p) (class_ref p m.class) number ≡ true
    is : (line : Line) → finds_hidden line (signature m) ≡ finds_hidden (line_of w m.class) (signature m)
        → ((t : ℕ) → token (slots (line_of w m.class)) (signature m) ≡ Some t → shown_token line (signature m)
        ≡ Some t)
        → ((t : ℕ) → token (hidden_slots (line_of w m.class)) (signature m) ≡ Some t
        → token (hidden_slots line) (signature m) ≡ Some t) → token_in line (signature m) ≡ number

  module _ (m : MemberId) (d : Class) (known : class_named w m.class ≡ Some d) (class_here : is_interface d.flags
      ≡ false) where
    open_has : (t : ℕ) → token (slots (line_of w m.class)) (signature m) ≡ Some t
        → finds_hidden (line_of w m.class) (signature m) ≡ false → HasToken m
    open_has t e none =
        let r = mean m.class d known class_here (signature m) t e in
        record {
          number = t;
          there = open_there list p sound are_supertypes one_supertypes rules m.class d known class_here t
              (tokens m.class d (signature m) t known class_here e) r.method r.by_token;
          is = λ line alike open_same hidden_same.
              ap (λ b. if b then with_high_bit (or_zero (token (hidden_slots line) (signature m)))
              else or_zero (shown_token line (signature m))) (alike ∙ none)
              ∙ ap or_zero (open_same t e);
        }

    package_has : (t : ℕ) → token (hidden_slots (line_of w m.class)) (signature m) ≡ Some t
        → finds_hidden (line_of w m.class) (signature m) ≡ true → HasToken m
    package_has t e finds =
        let r = mean_here m.class d known (signature m) t e in
        record {
          number = t + 128;
          there = package_there list p sound are_supertypes one_supertypes rules m.class d known class_here t r.method
              r.by_token;
          is = λ line alike open_same hidden_same.
              ap (λ b. if b then with_high_bit (or_zero (token (hidden_slots line) (signature m)))
              else or_zero (shown_token line (signature m))) (alike ∙ finds)
              ∙ ap (λ o. with_high_bit (or_zero o)) (hidden_same t e);
        }

    has_token : IsSought w m → HasToken m
    has_token (shown finds none) = let calls = virtual_calls m.class m.class d d known class_here known itself
        in let r = calls.open_method (signature m) finds in open_has r.0 r.1 none
    has_token (hidden finds) = let calls = virtual_calls m.class m.class d d known class_here known itself in let r =
        calls.package_method (signature m) finds in package_has r.0 r.1 finds
    has_token (got t e none selects) = open_has t e none

  virtual_there : (m : MemberId) → IsNamed w (OnObject m)
      → names_member (whole p) (exports_of p) (entry_of (names p) (keys.Virtual m)) ≡ true
  virtual_there m (on_object d known class_here plain sought) =
      let r = has_token m d known class_here sought in
      ap (has_virtual (whole p) (exports_of p) (class_ref p m.class)) (r.is (line_of w m.class) refl
      (λ t e. place m.class d (signature m) known class_here ∙ e) (λ t e. e)) ∙ r.there

  -- what is above a class of the package is its superclass
  above_is : (x super : List ℕ) (c : Class) → class_named w x ≡ Some c → c.is_imported ≡ false → is_interface c.flags
      ≡ false → c.supers ≡ super ∷ [] → (n : ℕ) → has_above (whole p) (exports_of p) (class_ref p x) n
      ≡ has_virtual (whole p) (exports_of p) (class_ref p super) n
  above_is x super c e own class_here supers n =
      let k = has-get c (in_order w false) (in_place list p sound c false (has_named w x c e) own class_here) in
      let r = own_ref p (own_names list p.files sound) k.0 c k.1 in
      let entries = map (class_entry (class_ref p) p) (in_order w false) in
      let item = item_there class_size class_some (first_class (info p)) entries k.0 r.0 (class_entry (class_ref p) p c)
      (Rattle.cjc_check_proof.proofs.ClassesLaws.Lists.get-map (class_entry (class_ref p) p) (in_order w false) k.0
      c k.1) r.1 in
      ap (λ y. has_above (whole p) (exports_of p) (class_ref p y) n) (sym (class_named-name w x c e))
      ∙ ap (λ q. has_above (whole p) (exports_of p) q n) r.2
      ∙ ap (λ o. superclass_has (whole p) (exports_of p) o n) item
      ∙ ap (λ ss. has_virtual (whole p) (exports_of p) (class_ref p (unwrap_or (slice_get ss 0) [])) n) supers

  super_there : (m : MemberId) → IsNamed w (OnSuper m)
      → names_member (whole p) (exports_of p) (entry_of (names p) (keys.Super m)) ≡ true
  super_there m (on_super c d super known own class_here supers super_is plain sought alike) =
      let listed : Lists super c.supers = subst (Lists super) (sym supers) foremost in
      let rule = right_supers w c (let u = kept list p.files sound c (has_named w m.class c known) in u.supers) in
      let here : is_interface d.flags ≡ false = sym (ap is_interface_of super_is) ∙ rule.supers super listed in
      let r = has_token (of_class super m) d super_is here sought in
      let keeps = once m.class super c d known class_here super_is (below c known listed itself) in
      above_is m.class super c known own class_here supers (virtual_token p m)
      ∙ ap (has_virtual (whole p) (exports_of p) (class_ref p super)) (r.is (line_of w m.class) alike
      (λ t e. place m.class c (signature m) known class_here ∙ keeps.inherited (signature m) t e)
      (keeps.hidden_inherited (signature m)))
      ∙ r.there

  named_one : (key : PoolKey) → IsThere p key → NamesMember p key
  named_one (keys.Virtual m) (called is) = by_token (virtual_there m is)
  named_one (keys.Super m) (called_above is) = by_token (super_there m is)
  named_one key (member is) = is

  named_each : (ks : List PoolKey) → AllByRecursion (IsThere p) ks → AllByRecursion (NamesMember p) ks
  named_each [] all = tt
  named_each (key ∷ ks) all = (named_one key all.0, named_each ks all.1)

  pub all_named : AllAreThere p → AllAreNamed p
  all_named all = named_each (pool p) all
