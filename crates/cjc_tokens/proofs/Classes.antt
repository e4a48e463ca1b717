-- The tokens of one class, from what the code holds of it.
use Rattle.std.proofs.Common.{◌≡◌, ℕ, refl, sym, ap, ◌∙◌, Bool, true, false, List, [], ◌++◌, length, append_assoc}
use Rattle.std.specs.Prelude.{◌&&◌, ◌||◌, map, nat_lt, count_by, if◌then◌else◌, Option, Some, None}
use Rattle.std.specs.List.{list_any}
use Rattle.cjc_bytes.specs.declared.fault.MemberId.{MemberId}
use Rattle.cjc_world.specs.ClassFile.declared.tree.ClassTree.{ClassTree}
use Rattle.cjc_world.specs.declared.found.Found.{Found}
use Rattle.cjc_world.specs.Classes.{Class, declared, method_of_class}
use Rattle.cjc_bytes.specs.AccessFlags.{is_interface}
use Rattle.cjc_bytes.proofs.Quantified.{any_of_map}
use Rattle.cjc_bytes.proofs.Lists.{map_map}
use Rattle.cjc_world.specs.Added.{added, named_by}
use Rattle.cjc_tokens.specs.declared.slot.Rows.{Rows}
use Rattle.cjc_tokens.specs.Members.{Signature, signature_of}
use Rattle.cjc_tokens.specs.Lines.{line_at}
use Rattle.cjc_tokens.specs.Slots.{Slots, hidden_slots, shown_token, row, hidden_row}
use Rattle.cjc_tokens.specs.Fields.{is_open_static, field_tokens, instance_tokens}
use Rattle.cjc_tokens.specs.Methods.{interface_methods, interface_row, interface_token, is_open_bound, virtual_token}
use Rattle.cjc_tokens.specs.Methods.{class_method_tokens}
use Rattle.cjc_world.specs.Exported.{is_exported}
use Rattle.cjc_tokens.specs.Tokens.{OfClass, of_class}
use Rattle.cjc_tokens.specs.Rules.{has_high_token, is_above, has_high_method}
use Rattle.cjc_tokens.specs.Working.{AreRowsOf, is_high_class, is_high_interface, member_of, methods_in, signs}

abbrev made : Option ℕ → List (Option ℕ) → List (Option ℕ) → List (Option Found) → List (Option Found) → OfClass
made a m i p h = record { class = a; members = m; instances = i; public_methods = p; package_methods = h }

same : {a a' : Option ℕ} {m m' i i' : List (Option ℕ)} {p p' h h' : List (Option Found)} → a ≡ a' → m ≡ m' → i ≡ i'
    → p ≡ p' → h ≡ h' → made a m i p h ≡ made a' m' i' p' h'
same a m i p h = cc

-- the first of the four breaks of 413
pub high-first : (a b c d : Bool) → (((a || b) || c) || d) ≡ false → a ≡ false
high-first true b c d e = cc
high-first false b c d e = refl

module _ (w : List Class) (n : ℕ) (c : ClassTree) where
  -- the tokens of the class, where it is an interface and where it is none
  abbrev whole : (applets : Bool) (before : ℕ) (interface : Bool) → OfClass
  whole applets before b =
      made (if is_exported w applets (declared n c) then Some before else None)
      (field_tokens (is_exported w applets (declared n c)) c.fields 0 c.fields
      ++ (if b then map (interface_token (interface_methods w (declared n c))) (map method_of_class c.methods)
      else class_method_tokens (is_exported w applets (declared n c)) (shown_token (line_at w (declared n c)))
      (hidden_slots (line_at w (declared n c))) (map method_of_class c.methods) 0 (map method_of_class c.methods)
      ++ map (λ m. shown_token (line_at w (declared n c)) (signature_of m)) (added w (declared n c))))
      (instance_tokens c.fields 0 c.fields)
      (if b then interface_row w (declared n c) else row (line_at w (declared n c)))
      (if b then [] else hidden_row (line_at w (declared n c)))

  -- what the code holds of the class: the tokens of public and protected virtual methods, and the rows
  module _ (shown : Signature → Option ℕ) (shown_is : shown ≡ shown_token (line_at w (declared n c))) (rows : Rows)
      (rows_are : AreRowsOf (line_at w (declared n c)) rows) (ids : List MemberId)
      (ids_are : ids ≡ map (named_by c.name) (added w (declared n c))) where
    pub high-class : (exported : Bool) → is_interface c.flags ≡ false
        → is_high_class exported shown (signs rows.hidden.items) c ids ≡ has_high_token w exported n c
    unfolding has_high_token
    high-class exported plain =
        ap (λ q. is_high_class exported q (signs rows.hidden.items) c ids) shown_is
        ∙ ap (λ q. is_high_class exported (shown_token (line_at w (declared n c))) q c ids) rows_are.hidden_slots_are
        ∙ ap (λ q. is_high_class exported (shown_token (line_at w (declared n c)))
        (hidden_slots (line_at w (declared n c))) c q) ids_are
        ∙ ap (λ q. ((q
        || list_any (λ m. is_above 127 (shown_token (line_at w (declared n c)) (signature_of (member_of m))))
        (map (named_by c.name) (added w (declared n c))))
        || (exported && nat_lt 255 (count_by is_open_bound (map method_of_class c.methods))))
        || (exported && nat_lt 255 (count_by is_open_static c.fields)))
        (sym (any_of_map (λ m. is_above 127 (virtual_token (shown_token (line_at w (declared n c)))
        (hidden_slots (line_at w (declared n c))) m)) method_of_class c.methods))
        ∙ ap (λ q. ((list_any (λ m. is_above 127 (virtual_token (shown_token (line_at w (declared n c)))
        (hidden_slots (line_at w (declared n c))) m)) (map method_of_class c.methods) || q)
        || (exported && nat_lt 255 (count_by is_open_bound (map method_of_class c.methods))))
        || (exported && nat_lt 255 (count_by is_open_static c.fields)))
        (any_of_map (λ m. is_above 127 (shown_token (line_at w (declared n c)) (signature_of (member_of m))))
        (named_by c.name) (added w (declared n c)))
        ∙ ap (λ b. (if b then nat_lt 128 (length (interface_methods w (declared n c)))
        else has_high_method w (declared n c)
        || (exported && nat_lt 255 (count_by is_open_bound (map method_of_class c.methods))))
        || (exported && nat_lt 255 (count_by is_open_static c.fields))) (sym plain)

    pub tokens-class : (applets : Bool) (before : ℕ) (class : Option ℕ) (members instances : List (Option ℕ))
        (public hidden : List (Option Found))
        → is_interface c.flags ≡ false
        → class ≡ (if is_exported w applets (declared n c) then Some before else None)
        → members ≡ field_tokens (is_exported w applets (declared n c)) c.fields 0 c.fields
        ++ class_method_tokens (is_exported w applets (declared n c)) shown
        (signs rows.hidden.items) (map method_of_class c.methods) 0 (map method_of_class c.methods)
        ++ map (λ m. shown (signature_of (member_of m))) ids
        → instances ≡ instance_tokens c.fields 0 c.fields → public ≡ methods_in rows.shown.items
        → hidden ≡ methods_in rows.hidden.items
        → record {
          class = class;
          members = members;
          instances = instances;
          public_methods = public;
          package_methods = hidden;
        } ≡ of_class w applets before n c
    tokens-class applets before class members instances public hidden plain k m i p h =
        same k (m ∙ more) i (p ∙ rows_are.shown_methods) (h ∙ rows_are.hidden_methods) ∙ ap (whole applets before)
        (sym plain)
      where
        F : List (Option ℕ)
        F = field_tokens (is_exported w applets (declared n c)) c.fields 0 c.fields

        T : Signature → Option ℕ
        T = shown_token (line_at w (declared n c))

        H : Slots
        H = hidden_slots (line_at w (declared n c))

        more : field_tokens (is_exported w applets (declared n c)) c.fields 0 c.fields
            ++ class_method_tokens (is_exported w applets (declared n c)) shown
            (signs rows.hidden.items) (map method_of_class c.methods) 0 (map method_of_class c.methods)
            ++ map (λ m. shown (signature_of (member_of m))) ids
            ≡ field_tokens (is_exported w applets (declared n c)) c.fields 0 c.fields
            ++ (class_method_tokens (is_exported w applets (declared n c)) (shown_token (line_at w (declared n c)))
            (hidden_slots (line_at w (declared n c))) (map method_of_class c.methods) 0
            (map method_of_class c.methods)
            ++ map (λ m. shown_token (line_at w (declared n c)) (signature_of m)) (added w (declared n c)))
        more =
            ap (λ q. F ++ class_method_tokens (is_exported w applets (declared n c)) q (signs rows.hidden.items)
            (map method_of_class c.methods) 0 (map method_of_class c.methods)
            ++ map (λ m. q (signature_of (member_of m))) ids) shown_is
            ∙ ap (λ q. F ++ class_method_tokens (is_exported w applets (declared n c)) T
            q (map method_of_class c.methods) 0 (map method_of_class c.methods)
            ++ map (λ m. T (signature_of (member_of m))) ids) rows_are.hidden_slots_are
            ∙ ap (λ q. F ++ class_method_tokens (is_exported w applets (declared n c)) T H
            (map method_of_class c.methods) 0 (map method_of_class c.methods)
            ++ map (λ m. T (signature_of (member_of m))) q) ids_are
            ∙ ap (λ q. F ++ class_method_tokens (is_exported w applets (declared n c)) T H
            (map method_of_class c.methods) 0 (map method_of_class c.methods) ++ q)
            (map_map (λ m. T (signature_of (member_of m))) (named_by c.name) (added w (declared n c)))
            ∙ append_assoc F (class_method_tokens (is_exported w applets (declared n c)) T H
            (map method_of_class c.methods) 0 (map method_of_class c.methods))
            (map (λ m. T (signature_of m)) (added w (declared n c)))

  pub high-interface : (exported : Bool) (count : ℕ) → is_interface c.flags ≡ true
      → count ≡ length (interface_methods w (declared n c)) → is_high_interface exported count c
      ≡ has_high_token w exported n c
  unfolding has_high_token
  high-interface exported count plain e =
      ap (λ q. is_high_interface exported q c) e
      ∙ ap (λ b. (if b then nat_lt 128 (length (interface_methods w (declared n c)))
      else has_high_method w (declared n c)
      || (exported && nat_lt 255 (count_by is_open_bound (map method_of_class c.methods))))
      || (exported && nat_lt 255 (count_by is_open_static c.fields))) (sym plain)

  pub tokens-interface : (applets : Bool) (before : ℕ) (class : Option ℕ) (members instances : List (Option ℕ))
      (public hidden : List (Option Found))
      → is_interface c.flags ≡ true
      → class ≡ (if is_exported w applets (declared n c) then Some before else None)
      → members ≡ field_tokens (is_exported w applets (declared n c)) c.fields 0 c.fields
      ++ map (interface_token (interface_methods w (declared n c))) (map method_of_class c.methods)
      → instances ≡ instance_tokens c.fields 0 c.fields → public ≡ interface_row w (declared n c) → hidden ≡ []
      → record {
        class = class;
        members = members;
        instances = instances;
        public_methods = public;
        package_methods = hidden;
      } ≡ of_class w applets before n c
  tokens-interface applets before class members instances public hidden plain k m i p h = same k m i p h
      ∙ ap (whole applets before) (sym plain)
