-- A package of the form: `short f(short a) { return (short) (a + 1); }` in class p/T.
use Rattle.std.specs.Prelude.{ℕ, true, codes, List, [], ◌∷◌, Some, pos, false}
use Rattle.cjc_classfile.specs.declared.tree.PoolItem.TheVariants.{Class, Other}
use Rattle.cjc_classfile.specs.declared.tree.MethodTree.{MethodTree}
use Rattle.cjc_classfile.specs.declared.tree.ClassTree.{ClassTree}
use Rattle.cjc_classfile.specs.Code.{CodeTree}
use Rattle.cjc_code.specs.declared.insn.JInsn.{JInsn}
use Rattle.cjc_code.specs.declared.insn.JOp.TheVariants.{Number, Load, Arith, Narrow, Return}
use Rattle.cjc_bytes.specs.declared.fault.MemberId.{MemberId}
use Rattle.cjc_export.specs.declared.tree.ExportClass.{ExportClass}
use Rattle.cjc_export.specs.declared.tree.ExportTree.{ExportTree}
use Rattle.cjc_script.specs.declared.script.Script.{Script}
use Rattle.cjc_script.specs.declared.script.Act.TheVariants.{Array, Object, Put}
use Rattle.cjc_script.specs.declared.report.Thing.TheVariants.{Array as ArrayThing, Object as ObjectThing}
use Rattle.cjc_script.specs.declared.report.Note.TheVariants.{Result}
use Rattle.cjc_script.specs.declared.report.Outcome.TheVariants.{Unfit}
use Rattle.cjc_script.specs.declared.report.Report.{Report}
use Rattle.cjc_script.specs.declared.value.Value.TheVariants.{Num}
use Rattle.cjc_first.specs.FirstForm.{PackageLine, object}

abbrev pub example_line : PackageLine
example_line = record { name = 112 ∷ []; aid = 0xA0 ∷ 0 ∷ 0 ∷ 0 ∷ 1 ∷ []; major = 1; minor = 0 }

abbrev pub example_code : CodeTree
example_code = record { max_stack = 2; max_locals = 1; bytes = 0x1A ∷ 0x04 ∷ 0x60 ∷ 0x93 ∷ 0xAC ∷ []; catches = [] }

abbrev pub example_insns : List JInsn
example_insns =
    record { at = 0; op = Load false 0 } ∷ record { at = 1; op = Number (pos 1) } ∷ record { at = 2; op = Arith 0x60 }
    ∷ record { at = 3; op = Narrow 0x93 } ∷ record { at = 4; op = Return 0xAC } ∷ []

abbrev pub example_method : MethodTree
example_method = record { flags = 0x0009; name = 102 ∷ []; desc = 40 ∷ 83 ∷ 41 ∷ 83 ∷ []; code = Some example_code }

abbrev pub example_class : ClassTree
example_class = record {
  major = 52;
  flags = 0x0021;
  name = 112 ∷ 47 ∷ 84 ∷ [];
  superclass = object;
  interfaces = [];
  pool = Other ∷ Other ∷ Class (112 ∷ 47 ∷ 84 ∷ []) ∷ Other ∷ Class object ∷ Other ∷ Other ∷ Other ∷ [];
  fields = [];
  methods = example_method ∷ [];
}

-- java/lang/Object of token 0, with its constructor and `equals`
abbrev pub example_root : ExportClass
example_root = record {
  token = 0;
  flags = 0x0001;
  name = object;
  supers = [];
  interfaces = [];
  fields = [];
  methods = record { token = 0; flags = 0x0001; name = codes "<init>"; desc = codes "()V" }
      ∷ record { token = 0; flags = 0x0001; name = codes "equals"; desc = codes "(Ljava/lang/Object;)Z" } ∷ [];
}

-- java/lang with that class
abbrev pub example_lang : ExportTree
example_lang = record {
  name = codes "java/lang";
  aid = 0xA0 ∷ 0 ∷ 0 ∷ 0 ∷ 0x62 ∷ 0 ∷ 1 ∷ [];
  major = 1;
  minor = 0;
  library = true;
  classes = example_root ∷ [];
}

-- f(S)S of p/T
abbrev pub example_id : MemberId
example_id = record { class = 112 ∷ 47 ∷ 84 ∷ []; name = 102 ∷ []; desc = 40 ∷ 83 ∷ 41 ∷ 83 ∷ [] }

-- `call p/T f(S)S 32767`
abbrev pub example_script : Script
example_script = record {
  entries = record {
    number = 0;
    acts = [];
    virtual_call = false;
    method = record { class = 112 ∷ 47 ∷ 84 ∷ []; name = 102 ∷ []; desc = 40 ∷ 83 ∷ 41 ∷ 83 ∷ [] };
    args = Num (pos 32767) ∷ [];
  } ∷ [];
  answers = [];
}

-- a package java/lang with the class java/lang/Exception alone
abbrev pub example_export : ExportTree
example_export = record {
  name = codes "java/lang";
  aid = [];
  major = 1;
  minor = 0;
  library = true;
  classes = record {
    token = 2;
    flags = 0x0001;
    name = codes "java/lang/Exception";
    supers = [];
    interfaces = [];
    fields = [];
    methods = [];
  } ∷ [];
}

-- `array [B 3`, `object java/lang/Exception`, `put @0 1 7`, `call p/T f(S)S 5`, `put @0 3 7`, `call p/T f(S)S 5`
abbrev pub example_acts : Script
example_acts = record {
  entries = record {
    number = 0;
    acts = Array (codes "[B") (pos 3) ∷ Object (codes "java/lang/Exception") ∷ Put 0 (pos 1) (Num (pos 7)) ∷ [];
    virtual_call = false;
    method = example_id;
    args = Num (pos 5) ∷ [];
  } ∷ record {
    number = 1;
    acts = Put 0 (pos 3) (Num (pos 7)) ∷ [];
    virtual_call = false;
    method = example_id;
    args = Num (pos 5) ∷ [];
  } ∷ [];
  answers = [];
}

-- its report: the second entry puts behind the end of the array
abbrev pub example_report : ℕ → Report
example_report spent = record {
  notes = Result (Some (Num (pos 6))) ∷ [];
  statics = [];
  heap = ArrayThing (codes "[B") (Num (pos 0) ∷ Num (pos 7) ∷ Num (pos 0) ∷ []) ∷ ObjectThing (codes "java/lang/Exception") [] ∷ [];
  outcome = Unfit 1;
  spent = spent;
}
