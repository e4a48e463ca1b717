-- What one class says of a signature, and what its line says, as the code walks up.
use Rattle.std.specs.Prelude.{◌≡◌, ℕ, List, Option, Some, None, true, false, map, option_map}
use Rattle.cjc_world.specs.Added.{added}
use Rattle.cjc_world.specs.Classes.{Class, Member}
use Rattle.cjc_tokens.specs.Lines.{Line, line_at}
use Rattle.cjc_tokens.specs.Members.{Signature, chosen, has, is_hidden, is_shown, signature_of, signatures}
use Rattle.cjc_tokens.specs.Methods.{with_high_bit}
use Rattle.cjc_tokens.specs.Slots.{hidden_slots, shown_token, token}
use Rattle.cjc_components.specs.LowerVTable.Calls.{any_method, finds_hidden}

-- a name and a descriptor as a signature
abbrev pub called : (name desc : List ℕ) → Signature
called name desc = record { name = name; desc = desc }

-- ---- package-visible methods

-- the token of the slot, with the high bit
abbrev pub hidden_token : Line → Signature → Option ℕ
hidden_token line s = option_map with_high_bit (token (hidden_slots line) s)

-- No method is called so; or the first is not package-visible; or it is, and has this token.
abbrev pub IsHiddenHere : List Class → Class → Signature → Option (Option ℕ) → Type 0
IsHiddenHere w c s None = chosen any_method s c.methods ≡ None
IsHiddenHere w c s (Some None) = (m : Member) × (chosen any_method s c.methods ≡ Some m) × (is_hidden m ≡ false)
IsHiddenHere w c s (Some (Some t)) = (m : Member) × (chosen any_method s c.methods ≡ Some m) × (is_hidden m ≡ true)
    × (hidden_token (line_at w c) s ≡ Some t)

-- A look-up finds no package-visible method of the package; or it does, and the class has this token for it.
abbrev pub TellsHidden : Line → Signature → Option ℕ → Type 0
TellsHidden line s None = finds_hidden line s ≡ false
TellsHidden line s (Some t) = (finds_hidden line s ≡ true) × (hidden_token line s ≡ Some t)

-- ---- public and protected methods

-- The class has no such method of its own, and got none; or it gives this token.
abbrev pub IsShownHere : List Class → Class → Signature → Option ℕ → Type 0
IsShownHere w c s None = (has (signatures is_shown c.methods) s ≡ false) × (has (map signature_of (added w c)) s
    ≡ false)
IsShownHere w c s (Some t) = shown_token (line_at w c) s ≡ Some t
