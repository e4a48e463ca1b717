-- The applets of the package (section 6.5).
use Rattle.cjc_bytes.specs.Format.{Format, gives, ◌>>=◌, repeated, u1, u2}
use Rattle.cjc_capread.specs.declared.tree.Applet.{Applet}
use Rattle.cjc_capread.specs.declared.tree.AppletEntry.{AppletEntry}
use Rattle.cjc_capread.specs.Parts.{bytes1}

-- an applet: its AID and its install method
unfoldable pub applet_entry : Format AppletEntry
applet_entry = do
  aid ← bytes1
  install_method ← u2
  gives (record { aid = aid; install_method = install_method })

-- the applets, behind their number
unfoldable pub applet : Format Applet
applet = do
  count ← u1
  applets ← repeated count applet_entry
  gives (record { applets = applets })
