-- A wallet: an applet that keeps a balance, its script, and the report of its run.
use Rattle.std.specs.Prelude.{ℕ, List, [], ◌∷◌, ◌++◌, Some, None, true, false, pos, codes}
use Rattle.cjc_code.specs.ClassFile.declared.tree.ClassTree.{ClassTree}
use Rattle.cjc_code.specs.ClassFile.PoolItem.{PoolItem}
use Rattle.cjc_code.specs.ClassFile.PoolItem as items
use Rattle.cjc_world.specs.ExportFile.declared.tree.ExportTree.{ExportTree}
use Rattle.cjc_script.specs.declared.value.Value.TheVariants.{Num, Null, Obj}
use Rattle.cjc_script.specs.declared.script.Act.{Act}
use Rattle.cjc_script.specs.declared.script.Act.TheVariants as acts
use Rattle.cjc_script.specs.declared.script.Entry.{Entry}
use Rattle.cjc_script.specs.declared.script.Answer.{Answer}
use Rattle.cjc_script.specs.declared.script.Reply.{Reply}
use Rattle.cjc_script.specs.declared.script.Reply.TheVariants.{Give, Throw}
use Rattle.cjc_script.specs.declared.script.Script.{Script}
use Rattle.cjc_script.specs.declared.report.Note.{Note}
use Rattle.cjc_script.specs.declared.report.Note.TheVariants.{Event, Result, Thrown}
use Rattle.cjc_script.specs.declared.report.Outcome.TheVariants.{Done}
use Rattle.cjc_script.specs.declared.report.Report.{Report}
use Rattle.cjc_script.specs.declared.report.Thing.TheVariants as things
use Rattle.cjc_world.specs.Files.{Files}
use Rattle.cjc_jvm_semantics.specs.Worked.{id, method, virtual, class, field, object, export, exported, lang, bare}
use Rattle.cjc_jvm_semantics.specs.Worked.{call, send, ends}

-- names
abbrev pub applet : List ℕ
applet = codes "javacard/framework/Applet"

-- the class of the command that process is given
abbrev pub apdu : List ℕ
apdu = codes "javacard/framework/APDU"

-- the class of exceptions with a status word
abbrev pub iso_exception : List ℕ
iso_exception = codes "javacard/framework/ISOException"

-- the applet's class
abbrev pub wallet : List ℕ
wallet = codes "p/Wallet"

-- the descriptor of a method that takes an APDU and gives nothing
abbrev pub of_apdu : List ℕ
of_apdu = codes "(Ljavacard/framework/APDU;)V"

-- javacard/framework
abbrev pub framework : ExportTree
framework = record {
  name = codes "javacard/framework";
  aid = [];
  major = 1;
  minor = 0;
  library = true;
  classes =
      record (export applet (object ∷ []) (exported 0 4 (codes "<init>") (codes "()V") ∷ exported 1 4 (codes "register")
      (codes "()V") ∷ exported 2 0x0401 (codes "process") of_apdu ∷ [])) { flags = 0x0401 }
      ∷ export apdu (object ∷ []) (exported 1 1 (codes "getBuffer") (codes "()[B") ∷ [])
      ∷ export iso_exception (codes "java/lang/Throwable" ∷ object ∷ []) (exported 0 9 (codes "throwIt") (codes "(S)V")
      ∷ [])
      ∷ [];
}

-- what the code names, from index 1 on
abbrev pub names : List PoolItem
names =
    items.Class wallet
    ∷ items.Method (id wallet (codes "<init>") (codes "()V"))
    ∷ items.Method (id wallet (codes "register") (codes "()V"))
    ∷ items.Method (id applet (codes "<init>") (codes "()V"))
    ∷ items.Method (id apdu (codes "getBuffer") (codes "()[B"))
    ∷ items.Field (id wallet (codes "balance") (codes "S"))
    ∷ items.Method (id iso_exception (codes "throwIt") (codes "(S)V"))
    ∷ []

-- byte[] b = apdu.getBuffer(), and a lookupswitch of b[1] with targets for 0x30, 0x40 and others
abbrev pub choice : List ℕ
choice =
    0x2B ∷ 0xB6 ∷ 0 ∷ 5 ∷ 0x4D ∷ 0x2C ∷ 0x04 ∷ 0x33
    ∷ 0xAB ∷ 0 ∷ 0 ∷ 0 ∷ 0 ∷ 0 ∷ 0 ∷ 76 ∷ 0 ∷ 0 ∷ 0 ∷ 2 ∷ 0 ∷ 0 ∷ 0 ∷ 0x30 ∷ 0 ∷ 0 ∷ 0 ∷ 28 ∷ 0 ∷ 0 ∷ 0 ∷ 0x40 ∷ 0 ∷ 0
    ∷ 0 ∷ 44 ∷ []

-- balance = (short) (balance + b[5]), and to the end
abbrev pub credit : List ℕ
credit = 0x2A ∷ 0x2A ∷ 0xB4 ∷ 0 ∷ 6 ∷ 0x2C ∷ 0x08 ∷ 0x33 ∷ 0x60 ∷ 0x93 ∷ 0xB5 ∷ 0 ∷ 6 ∷ 0xA7 ∷ 0 ∷ 41 ∷ []

-- if (b[5] > balance) throwIt(0x6A85); balance = (short) (balance - b[5]), and to the end
abbrev pub debit : List ℕ
debit =
    0x2C ∷ 0x08 ∷ 0x33 ∷ 0x2A ∷ 0xB4 ∷ 0 ∷ 6 ∷ 0xA4 ∷ 0 ∷ 9 ∷ 0x11 ∷ 0x6A ∷ 0x85 ∷ 0xB8 ∷ 0 ∷ 7
    ∷ 0x2A ∷ 0x2A ∷ 0xB4 ∷ 0 ∷ 6 ∷ 0x2C ∷ 0x08 ∷ 0x33 ∷ 0x64 ∷ 0x93 ∷ 0xB5 ∷ 0 ∷ 6 ∷ 0xA7 ∷ 0 ∷ 9 ∷ []

-- throwIt(0x6D00), and the end
abbrev pub refusal : List ℕ
refusal = 0x11 ∷ 0x6D ∷ 0x00 ∷ 0xB8 ∷ 0 ∷ 7 ∷ 0xB1 ∷ []

-- the applet
abbrev pub wallet_class : ClassTree
wallet_class = class 0x0021 wallet applet [] names (field 0 (codes "balance") (codes "S") None ∷ [])
    (virtual (codes "<init>") (codes "()V") 1 1 (0x2A ∷ 0xB7 ∷ 0 ∷ 4 ∷ 0xB1 ∷ [])
    ∷ method (codes "install") (codes "([BSB)V") 2 3 [] (0xBB ∷ 0 ∷ 1 ∷ 0x59 ∷ 0xB7 ∷ 0 ∷ 2 ∷ 0xB6 ∷ 0 ∷ 3 ∷ 0xB1 ∷ [])
    ∷ virtual (codes "process") of_apdu 4 3 (choice ++ (credit ++ (debit ++ refusal))) ∷ [])

-- its package over java/lang and javacard/framework
abbrev pub wallet_package : Files
wallet_package = record {
  package_name = codes "p";
  lines = record { class_file = false; name = [] } ∷ record { class_file = false; name = [] }
      ∷ record { class_file = true; name = [] } ∷ [];
  classes = wallet_class ∷ [];
  exports = lang ∷ framework ∷ [];
}

-- an answer with its number and acts
abbrev pub answer : (number : ℕ) → List Act → Reply → Answer
answer number acts reply = record { number = number; acts = acts; reply = reply }

-- process is sent to the wallet, with the APDU
abbrev pub processes : (number : ℕ) → List Act → Entry
processes number acts = record (send wallet (codes "process") of_apdu (Obj 0 ∷ Obj 1 ∷ [])) {
  number = number;
  acts = acts;
}

-- install; a credit of 50, a debit of 20, and one of 100
abbrev pub wallet_script : Script
wallet_script = record {
  entries =
      call wallet (codes "install") (codes "([BSB)V") (Null ∷ Num (pos 0) ∷ Num (pos 0) ∷ [])
      ∷ processes 3 (acts.Object apdu ∷ [])
      ∷ processes 5 []
      ∷ processes 7 []
      ∷ [];
  answers =
      answer 1 [] (Give None)
      ∷ answer 2 [] (Give None)
      ∷ answer 4 (acts.Array (codes "[B") (pos 6) ∷ acts.Put 2 (pos 1) (Num (pos 48))
      ∷ acts.Put 2 (pos 5) (Num (pos 50)) ∷ []) (Give (Some (Obj 2)))
      ∷ answer 6 (acts.Put 2 (pos 1) (Num (pos 64)) ∷ acts.Put 2 (pos 5) (Num (pos 20)) ∷ []) (Give (Some (Obj 2)))
      ∷ answer 8 (acts.Put 2 (pos 5) (Num (pos 100)) ∷ []) (Give (Some (Obj 2)))
      ∷ answer 9 [] (Throw iso_exception)
      ∷ [];
}

-- an imported call of the wallet's run
abbrev pub got_buffer : Note
got_buffer = Event (id apdu (codes "getBuffer") (codes "()[B")) (Obj 1 ∷ [])

-- what the run makes known: the balance is 30, and the last debit is refused with 27269
abbrev pub wallet_report : Report
wallet_report = ends
    (Event (id applet (codes "<init>") (codes "()V")) (Obj 0 ∷ [])
    ∷ Event (id applet (codes "register") (codes "()V")) (Obj 0 ∷ [])
    ∷ Result None
    ∷ got_buffer ∷ Result None
    ∷ got_buffer ∷ Result None
    ∷ got_buffer ∷ Event (id iso_exception (codes "throwIt") (codes "(S)V")) (Num (pos 27269) ∷ [])
    ∷ Thrown iso_exception 3 ∷ [])
    (things.Object wallet (record { field = id wallet (codes "balance") (codes "S"); value = Num (pos 30) } ∷ [])
    ∷ bare apdu
    ∷ things.Array (codes "[B") (Num (pos 0) ∷ Num (pos 64) ∷ Num (pos 0) ∷ Num (pos 0) ∷ Num (pos 0) ∷ Num (pos 100)
    ∷ [])
    ∷ bare iso_exception ∷ [])
    Done 65
