-- Rule 309: the applet lines of the list.
use Rattle.std.specs.Prelude.{ℕ, List, [], ◌∷◌, Bool, true, false, not, ◌&&◌, ◌||◌, Option, Some, None, codes}
use Rattle.std.specs.List.{list_any}
use Rattle.std.specs.Str.{bytes_eq}
use Rattle.cjc_bytes.specs.declared.settings.AppletLine.{AppletLine}
use Rattle.cjc_world.specs.Classes.{Class, Member, class_named}
use Rattle.cjc_bytes.specs.AccessFlags.{is_abstract, is_public, is_static}
use Rattle.cjc_world.specs.Supertypes.{is_below}
use Rattle.cjc_world.specs.Lookup.{is_called}

-- the class that all applets are below
abbrev pub applet : List ℕ
applet = codes "javacard/framework/Applet"

-- public static install([BSB)V
abbrev pub is_install : Member → Bool
is_install m = is_called (codes "install") (codes "([BSB)V") m && is_public m.flags && is_static m.flags

-- one of its supers is javacard/framework/Applet or a subclass
abbrev pub is_applet : List Class → Class → Bool
is_applet w c = list_any (λ s. is_below w s applet) c.supers

-- there is no class, or it is none that an applet can be of
abbrev pub is_unfit_class : List Class → Option Class → Bool
is_unfit_class w None = true
is_unfit_class w (Some c) =
    -- it is not in the package
    c.is_imported
    || is_abstract c.flags
    || not (is_applet w c)
    || not (list_any is_install c.methods)

-- of the class that an applet line names
unfoldable pub is_unfit_applet : List Class → List ℕ → Bool
is_unfit_applet w name = is_unfit_class w (class_named w name)

-- the AID of an applet line stands in a later one too
unfoldable pub repeats_aid : List AppletLine → Bool
repeats_aid [] = false
repeats_aid (a ∷ rest) = list_any (λ b. bytes_eq b.aid a.aid) rest || repeats_aid rest

-- an applet line names a class that an applet can not be of, or two lines have the same AID
unfoldable pub has_unfit_applets : List Class → List AppletLine → Bool
has_unfit_applets w applets = list_any (λ a. is_unfit_applet w a.class) applets || repeats_aid applets
