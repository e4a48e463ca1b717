-- A converted package is laid out.
use Rattle.std.proofs.Common.{◌≡◌, ◌≤◌, ℕ, List, [], ◌∷◌, length, sym, subst}
use Rattle.std.specs.List.{AllByRecursion}
use Rattle.cjc_bytes.specs.Text.{TextLine}
use Rattle.cjc_bytes.specs.declared.settings.AppletLine.{AppletLine}
use Rattle.cjc_components.specs.Package.{Package}
use Rattle.cjc_fitting_laws.specs.LaidOut.{AidsAreShort, IsLaidOut}
use Rattle.cjc_judge.specs.Spelt.{IsRead}
use Rattle.cjc_judge.specs.declared.judged.Judged.{Judged}
use Rattle.cjc_list.specs.Listed.{ListTree}
use Rattle.cjc_list.specs.Spelling.{AllSay, applets_of}
use Rattle.cjc_list.specs.declared.line.Item.{Item}
use Rattle.cjc_list.specs.declared.line.Item.TheVariants.{Applet, File}
use Rattle.cjc_written_laws.specs.Converted.{IsConverted}

aids_said : (items : List Item) (rest : List TextLine) → AllSay items rest → AllByRecursion (λ (a : AppletLine). length a.aid ≤ 16) (applets_of items)
aids_said [] [] h = h
aids_said [] (l ∷ ls) h = absurd h
aids_said (i ∷ is) [] h = absurd h
aids_said (Applet a ∷ is) (l ∷ ls) h = (h.0.2.3.2, aids_said is ls h.1)
aids_said (File f ∷ is) (l ∷ ls) h = aids_said is ls h.1

-- an AID of a list has at most 16 bytes
pub aids_short : (list : ListTree) → IsRead list → AidsAreShort list
aids_short list read =
    let spelt = read.2.0.3 in
    subst (λ (as : List AppletLine). AllByRecursion (λ (a : AppletLine). length a.aid ≤ 16) as) (sym spelt.applets) (aids_said spelt.items read.2.0.1 spelt.says)

pub laid_out : (list : ListTree) (files : List (List ℕ)) (judged : Judged) (p : Package) → IsConverted list files judged p → IsLaidOut list files judged p
laid_out list files judged p is = record { read = is.read; aids = aids_short list is.read; sound = is.sound; is_package = is.is_package; words = is.words; forms = is.forms }
