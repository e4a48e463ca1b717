-- The name and the descriptor that a method has which a look-up or a token means.
use Rattle.std.specs.Prelude.{ℕ, ◌-◌, List, [], ◌++◌, length, nat_lt, Option, Some, None, option_map, option_and_then}
use Rattle.std.specs.Prelude.{slice_get, if◌then◌else◌}
use Rattle.cjc_world.specs.declared.found.Found.{Found}
use Rattle.cjc_world.specs.Files.{Files}
use Rattle.cjc_world.specs.Classes.{Class, class_at}
use Rattle.cjc_world.specs.Added.{added}
use Rattle.cjc_tokens.specs.Members.{Signature, signature_of}

-- the method at a place of a class: its own, then those that are added to it
abbrev pub method_named : List Class → Class → ℕ → Option Signature
method_named w c i = option_map signature_of (slice_get (c.methods ++ added w c) i)

-- fields are counted before methods
abbrev pub member_named : List Class → ℕ → Class → Option Signature
member_named w member c = if nat_lt member (length c.fields) then None else method_named w c (member - length c.fields)

unfoldable pub named : List Class → Found → Option Signature
named w f = option_and_then (member_named w f.member) (class_at w f.imported f.class)

-- of a method that a token means
abbrev pub named_where : List Class → Option Found → Option Signature
named_where w None = None
named_where w (Some f) = named w f
