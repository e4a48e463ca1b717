-- Applets by what gives the offsets of methods (Java Card Virtual Machine Specification 2.2.2, section 6.5).
use Rattle.std.specs.Prelude.{ℕ, List, Option, Some, None, codes}
use Rattle.cjc_bytes.specs.declared.settings.AppletLine.{AppletLine}
use Rattle.cjc_components.specs.LowerCapRead.declared.tree.AppletEntry.{AppletEntry}
use Rattle.cjc_world.specs.declared.found.Found.{Found}
use Rattle.cjc_world.specs.Classes.{Class}
use Rattle.cjc_world.specs.Lookup.{find_method}

-- of a method that is found; 0 where none is
abbrev pub where_found : (Found → ℕ) → Option Found → ℕ
where_found offset None = 0
where_found offset (Some f) = offset f

-- an applet with the offset of the install method of its class
abbrev pub entry_by : (Found → ℕ) → List Class → AppletLine → AppletEntry
entry_by offset w a = record {
  aid = a.aid;
  install_method = where_found offset (find_method w a.class (codes "install")
      (codes "([BSB)V"));
}
