-- What keys of calls name is what their entries mean.
use Rattle.std.proofs.Common.{◌≡◌, ℕ, ◌<◌, refl, sym, ap, ◌∙◌, arith, Bool, true, false, List, ◌∷◌}
use Rattle.std.specs.Prelude.{Option, Some, None, unwrap_or, nat_lt, if◌then◌else◌}
use Rattle.std.proofs.lemmas.Bool.Decides.{nat_tests}
use Rattle.cjc_bytes.specs.AccessFlags.{is_interface}
use Rattle.cjc_bytes.specs.declared.fault.MemberId.{MemberId}
use Rattle.cjc_card_semantics.specs.Bytecode.Meanings.{Calls, Special, Static, Virtual}
use Rattle.cjc_token_proof.specs.Calls.Selecting.{signature}
use Rattle.cjc_card_semantics.specs.Machine.Classes.{External, Own}
use Rattle.cjc_card_semantics.specs.Machine.Dispatch.{Open, Token}
use Rattle.cjc_card_semantics.specs.Machine.Operations.{token_of}
use Rattle.cjc_components.specs.Names.{class_at, fixed_as, member_ref, member_token, offset_where, virtual_token}
use Rattle.cjc_components.specs.Package.{Package, world}
use Rattle.cjc_ncode.specs.Lowering.Naming.{Fit, IsFixed, IsToken, calls_special, calls_static, calls_super}
use Rattle.cjc_ncode.specs.Lowering.Naming.{calls_virtual}
use Rattle.cjc_ncode.specs.declared.narrow.PoolKey.TheVariants as keys
use Rattle.cjc_token_proof.specs.Tables.Loading.{naming}
use Rattle.cjc_tokens.proofs.Walks.{supertypes-known}
use Rattle.cjc_tokens.specs.Lines.{Declared, Imported, line_in, line_of}
use Rattle.cjc_tokens.specs.Methods.{with_high_bit}
use Rattle.cjc_tokens.specs.Slots.{hidden_slots, shown_token, slots, token}
use Rattle.cjc_vtable.proofs.Worlds.{shown-place}
use Rattle.cjc_vtable.specs.Calls.{finds_hidden}
use Rattle.cjc_vtable.specs.Tables.{or_zero}
use Rattle.cjc_world.specs.Added.{added}
use Rattle.cjc_world.specs.Classes.{Class, class_named}
use Rattle.cjc_world.specs.Supertypes.{supertypes, upwards}
use Rattle.cjc_world.specs.Lookup.{find_method}
use Rattle.cjc_world.proofs.Cycles.{class_named-name}
use Rattle.cjc_token_proof.specs.WrittenCalls.Calls.{KeepsTokens}
use Rattle.cjc_token_proof.proofs.WrittenCalls.Facts.{Facts}
use Rattle.cjc_token_proof.proofs.WrittenCalls.Tables.{class_meant}

-- a token that is there is the one that is taken
own_taken : (q offset t : ℕ) → token_of (Own q offset) t ≡ Some (unwrap_or (token_of (Own q offset) t) (Open 0))
own_taken q offset t = refl

file_taken : (tree number t : ℕ) → t < 128 → token_of (External tree number) t
    ≡ Some (unwrap_or (token_of (External tree number) t) (Open 0))
file_taken tree number t low =
    let small : nat_lt t 128 ≡ true = grind (arith, nat_tests, low) in
    let is : token_of (External tree number) t ≡ Some (Open t) = ap (λ (b : Bool). if b then Some (Open t)
    else None) small in
    is ∙ ap (λ (o : Option Token). Some (unwrap_or o (Open 0))) (sym is)

module _ (p : Package) (facts : Facts p) (tokens : KeepsTokens (world p)) where
  abbrev w : List Class
  w = world p

  token_low : (m : MemberId) (d : Class) → class_named w m.class ≡ Some d → is_interface d.flags ≡ false
      → d.is_imported ≡ true → virtual_token p m < 128
  token_low m d known class_here import =
      let line : line_of w m.class ≡ Imported (d ∷ upwards (supertypes w d.supers)) =
      ap (line_in w) (supertypes-known w facts.are_supertypes facts.one_supertypes m.class d known)
      ∙ ap (λ t. if t then Imported (d ∷ upwards (supertypes w d.supers))
      else Declared d (added w d) (line_in w (supertypes w d.supers))) import in
      let open_one : virtual_token p m ≡ or_zero (token (slots (line_of w m.class)) (signature m)) =
      ap (λ b. if b then with_high_bit (or_zero (token (hidden_slots (line_of w m.class)) (signature m)))
      else or_zero (shown_token (line_of w m.class) (signature m))) (ap (λ l. finds_hidden l (signature m)) line)
      ∙ ap or_zero (shown-place w facts.are_supertypes facts.one_supertypes facts.rules m.class d (signature m) known
      (λ far. class_here)) in
      by (token (slots (line_of w m.class)) (signature m)) refl open_one
    where
      by : (o : Option ℕ) → token (slots (line_of w m.class)) (signature m) ≡ o
          → virtual_token p m ≡ or_zero (token (slots (line_of w m.class)) (signature m)) → virtual_token p m < 128
      by None is e = let z = e ∙ ap or_zero is in omega (arith, z)
      by (Some t) is e =
          let z = e ∙ ap or_zero is in
          let low = tokens m.class d (signature m) t known class_here is in omega (arith, z, low)

  token_means : (m : MemberId) (d : Class) → class_named w m.class ≡ Some d → is_interface d.flags ≡ false
      → IsToken (naming p) m
  token_means m d known class_here = by d.is_imported refl
    where
      name : d.name ≡ m.class
      name = class_named-name w m.class d known

      by : (t : Bool) → d.is_imported ≡ t → token_of (class_at p m.class) (virtual_token p m)
          ≡ Some (unwrap_or (token_of (class_at p m.class) (virtual_token p m)) (Open 0))
      by true import =
          let h = facts.file m.class d known import in
          let at = sym (ap (class_at p) (class_named-name w m.class d known)) ∙ h.on_card in
          ap (λ k. token_of k (virtual_token p m)) at ∙ file_taken h.file h.entry.token (virtual_token p m)
          (token_low m d known class_here import)
          ∙ ap (λ k. Some (unwrap_or (token_of k (virtual_token p m)) (Open 0))) (sym at)
      by false own =
          let h = facts.own m.class d known own in
          let at = sym (ap (class_at p) (class_named-name w m.class d known)) ∙ h.on_card in
          ap (λ k. token_of k (virtual_token p m)) at ∙ own_taken 0 h.offset (virtual_token p m)
          ∙ ap (λ k. Some (unwrap_or (token_of k (virtual_token p m)) (Open 0))) (sym at)

  pub virtual_fits : (m : MemberId) (d : Class) → class_named w m.class ≡ Some d → is_interface d.flags ≡ false
      → Fit (naming p) (Calls Virtual) (keys.Virtual m)
  virtual_fits m d known class_here = calls_virtual (class_meant p facts m.class d known) (token_means m d known
      class_here)

  pub super_fits : (m : MemberId) (c : Class) → class_named w m.class ≡ Some c → is_interface c.flags ≡ false
      → Fit (naming p) (Calls Special) (keys.Super m)
  super_fits m c known class_here = calls_super (class_meant p facts m.class c known) (token_means m c known class_here)

  fixed_means : (on : Bool) (m : MemberId) (c : Class) → class_named w m.class ≡ Some c → c.is_imported ≡ false
      → IsFixed (naming p) on m
  fixed_means on m c known own =
      let h = facts.own m.class c known own in
      let at = sym (ap (class_at p) (class_named-name w m.class c known)) ∙ h.on_card in
      ap (λ k. Rattle.cjc_card_semantics.specs.Machine.Operations.static_method (naming p).loaded 0 on
      (member_ref k (offset_where p (find_method w m.class m.name m.desc))
      (member_token p (find_method w m.class m.name m.desc)))) at
      ∙ sym (ap (λ k. Some (fixed_as on m (member_ref k (offset_where p (find_method w m.class m.name m.desc))
      (member_token p (find_method w m.class m.name m.desc))))) at)

  -- of the package
  pub special_fits : (m : MemberId) (c : Class) → class_named w m.class ≡ Some c → c.is_imported ≡ false
      → Fit (naming p) (Calls Special) (keys.StaticMethod m)
  special_fits m c known own = calls_special (fixed_means true m c known own)

  pub static_fits : (m : MemberId) (c : Class) → class_named w m.class ≡ Some c → c.is_imported ≡ false
      → Fit (naming p) (Calls Static) (keys.StaticMethod m)
  static_fits m c known own = calls_static (fixed_means false m c known own)
