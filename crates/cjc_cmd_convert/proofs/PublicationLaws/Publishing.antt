-- Files that are put one behind the other are a publication.
use Rattle.std.proofs.Common.{◌≡◌, ℕ, List, [], ◌∷◌, ◌++◌, map, refl, sym, ap, ◌∙◌, Option, Some, None}
use Rattle.std.proofs.lemmas.List.{map-append}
use Rattle.std.specs.Prelude.{codes}
use Rattle.cjc_convert.specs.CapWrite.declared.files.CapFiles.{CapFiles}
use Rattle.cjc_shelf.specs.declared.command.status.File.{File}
use Rattle.cjc_shelf.specs.declared.command.status.Todo.{Todo}
use Rattle.cjc_cmd_convert.specs.Publication.{below, components_of, file_line, files_made, last_part, named}
use Rattle.cjc_cmd_convert.specs.Publication.{publication, where_there, with_files}

abbrev todo : List File → List (List ℕ) → Todo
todo files lines = record { files = files; lines = lines }

step : (dir : List ℕ) (t u : Todo) (xs ys : List File) → t ≡ publication dir xs → u ≡ with_files dir t ys
    → u ≡ publication dir (xs ++ ys)
step dir t u xs ys e f =
    f ∙ ap (λ v. with_files dir v ys) e ∙ ap (λ fs. todo fs (map file_line xs ++ map file_line ys))
    (sym (map-append (below dir) xs ys)) ∙ ap (todo (map (below dir) (xs ++ ys))) (sym (map-append file_line xs ys))

pub begun : (dir : List ℕ) (files : List File) (lines : List (List ℕ)) → files ≡ [] → lines ≡ []
    → todo files lines ≡ publication dir []
begun dir files lines e f = ap (λ fs. todo fs lines) e ∙ ap (todo []) f

-- one behind the other, and grouped as components stand
grouped : (header directory import pool class method statics locations descriptor file export_name : List ℕ)
    (applet export : Option (List ℕ))
    → ((((((((((([] ++ (named (codes "Header.cap") header ∷ [])) ++ (named (codes "Directory.cap") directory ∷ []))
    ++ (where_there (codes "Applet.cap") applet)) ++ (named (codes "Import.cap") import ∷ []))
    ++ (named (codes "ConstantPool.cap") pool ∷ [])) ++ (named (codes "Class.cap") class ∷ []))
    ++ (named (codes "Method.cap") method ∷ [])) ++ (named (codes "StaticField.cap") statics ∷ []))
    ++ (named (codes "RefLocation.cap") locations ∷ [])) ++ (where_there (codes "Export.cap") export))
    ++ (named (codes "Descriptor.cap") descriptor ∷ [])) ++ named export_name file ∷ []
    ≡ components_of (record {
      header = header;
      directory = directory;
      applet = applet;
      import = import;
      pool = pool;
      class = class;
      method = method;
      statics = statics;
      locations = locations;
      export = export;
      descriptor =
          descriptor;
    }) ++ named export_name file ∷ []
grouped h d i p c m s l t f n None None = refl
grouped h d i p c m s l t f n None (Some b) = refl
grouped h d i p c m s l t f n (Some a) None = refl
grouped h d i p c m s l t f n (Some a) (Some b) = refl

module _ (dir name : List ℕ) (caps : CapFiles) (made : List ℕ) where
  pub filed : (t0 t1 t2 t3 t4 t5 t6 t7 t8 t9 t10 t11 t12 : Todo) (export_name : List ℕ) → t0 ≡ publication dir []
      → t1 ≡ with_files dir t0 (named (codes "Header.cap") caps.header ∷ [])
      → t2 ≡ with_files dir t1 (named (codes "Directory.cap") caps.directory ∷ [])
      → t3 ≡ with_files dir t2 (where_there (codes "Applet.cap") caps.applet)
      → t4 ≡ with_files dir t3 (named (codes "Import.cap") caps.import ∷ [])
      → t5 ≡ with_files dir t4 (named (codes "ConstantPool.cap") caps.pool ∷ [])
      → t6 ≡ with_files dir t5 (named (codes "Class.cap") caps.class ∷ [])
      → t7 ≡ with_files dir t6 (named (codes "Method.cap") caps.method ∷ [])
      → t8 ≡ with_files dir t7 (named (codes "StaticField.cap") caps.statics ∷ [])
      → t9 ≡ with_files dir t8 (named (codes "RefLocation.cap") caps.locations ∷ [])
      → t10 ≡ with_files dir t9 (where_there (codes "Export.cap") caps.export)
      → t11 ≡ with_files dir t10 (named (codes "Descriptor.cap") caps.descriptor ∷ [])
      → t12 ≡ with_files dir t11 (named export_name made ∷ []) → export_name ≡ last_part name ++ codes ".exp"
      → t12 ≡ publication dir (files_made name caps made)
  filed t0 t1 t2 t3 t4 t5 t6 t7 t8 t9 t10 t11 t12 export_name e0 e1 e2 e3 e4 e5 e6 e7 e8 e9 e10 e11 e12 x =
      let s1 = step dir t0 t1 [] (named (codes "Header.cap") caps.header ∷ []) e0 e1 in
      let s2 = step dir t1 t2 ([] ++ (named (codes "Header.cap") caps.header ∷ [])) (named (codes "Directory.cap")
      caps.directory ∷ []) s1 e2 in
      let s3 = step dir t2 t3 (([] ++ (named (codes "Header.cap") caps.header ∷ []))
      ++ (named (codes "Directory.cap") caps.directory ∷ [])) (where_there (codes "Applet.cap") caps.applet) s2 e3
      in
      let s4 = step dir t3 t4 ((([] ++ (named (codes "Header.cap") caps.header ∷ []))
      ++ (named (codes "Directory.cap") caps.directory ∷ [])) ++ (where_there (codes "Applet.cap") caps.applet))
      (named (codes "Import.cap") caps.import ∷ []) s3 e4 in
      let s5 = step dir t4 t5 (((([] ++ (named (codes "Header.cap") caps.header ∷ []))
      ++ (named (codes "Directory.cap") caps.directory ∷ [])) ++ (where_there (codes "Applet.cap") caps.applet))
      ++ (named (codes "Import.cap") caps.import ∷ [])) (named (codes "ConstantPool.cap") caps.pool ∷ []) s4 e5 in
      let s6 = step dir t5 t6 ((((([] ++ (named (codes "Header.cap") caps.header ∷ []))
      ++ (named (codes "Directory.cap") caps.directory ∷ [])) ++ (where_there (codes "Applet.cap") caps.applet))
      ++ (named (codes "Import.cap") caps.import ∷ [])) ++ (named (codes "ConstantPool.cap") caps.pool ∷ []))
      (named (codes "Class.cap") caps.class ∷ []) s5 e6 in
      let s7 = step dir t6 t7
      (((((([] ++ (named (codes "Header.cap") caps.header ∷ [])) ++ (named (codes "Directory.cap") caps.directory
      ∷ [])) ++ (where_there (codes "Applet.cap") caps.applet)) ++ (named (codes "Import.cap") caps.import ∷ []))
      ++ (named (codes "ConstantPool.cap") caps.pool ∷ [])) ++ (named (codes "Class.cap") caps.class ∷ []))
      (named (codes "Method.cap") caps.method ∷ []) s6 e7 in
      let s8 = step dir t7 t8
      ((((((([] ++ (named (codes "Header.cap") caps.header ∷ [])) ++ (named (codes "Directory.cap") caps.directory
      ∷ [])) ++ (where_there (codes "Applet.cap") caps.applet)) ++ (named (codes "Import.cap") caps.import ∷ []))
      ++ (named (codes "ConstantPool.cap") caps.pool ∷ [])) ++ (named (codes "Class.cap") caps.class ∷ []))
      ++ (named (codes "Method.cap") caps.method ∷ [])) (named (codes "StaticField.cap") caps.statics ∷ []) s7 e8 in
      let s9 = step dir t8 t9
      (((((((([] ++ (named (codes "Header.cap") caps.header ∷ [])) ++ (named (codes "Directory.cap") caps.directory
      ∷ [])) ++ (where_there (codes "Applet.cap") caps.applet)) ++ (named (codes "Import.cap") caps.import ∷ []))
      ++ (named (codes "ConstantPool.cap") caps.pool ∷ [])) ++ (named (codes "Class.cap") caps.class ∷ []))
      ++ (named (codes "Method.cap") caps.method ∷ [])) ++ (named (codes "StaticField.cap") caps.statics ∷ []))
      (named (codes "RefLocation.cap") caps.locations ∷ []) s8 e9 in
      let s10 = step dir t9 t10
      ((((((((([] ++ (named (codes "Header.cap") caps.header ∷ [])) ++ (named (codes "Directory.cap") caps.directory
      ∷ [])) ++ (where_there (codes "Applet.cap") caps.applet)) ++ (named (codes "Import.cap") caps.import ∷ []))
      ++ (named (codes "ConstantPool.cap") caps.pool ∷ [])) ++ (named (codes "Class.cap") caps.class ∷ []))
      ++ (named (codes "Method.cap") caps.method ∷ [])) ++ (named (codes "StaticField.cap") caps.statics ∷ []))
      ++ (named (codes "RefLocation.cap") caps.locations ∷ [])) (where_there (codes "Export.cap") caps.export) s9
      e10 in
      let s11 = step dir t10 t11
      (((((((((([] ++ (named (codes "Header.cap") caps.header ∷ []))
      ++ (named (codes "Directory.cap") caps.directory ∷ [])) ++ (where_there (codes "Applet.cap") caps.applet))
      ++ (named (codes "Import.cap") caps.import ∷ [])) ++ (named (codes "ConstantPool.cap") caps.pool ∷ []))
      ++ (named (codes "Class.cap") caps.class ∷ [])) ++ (named (codes "Method.cap") caps.method ∷ []))
      ++ (named (codes "StaticField.cap") caps.statics ∷ [])) ++ (named (codes "RefLocation.cap") caps.locations
      ∷ [])) ++ (where_there (codes "Export.cap") caps.export)) (named (codes "Descriptor.cap") caps.descriptor
      ∷ []) s10 e11 in
      let s12 = step dir t11 t12
      ((((((((((([] ++ (named (codes "Header.cap") caps.header ∷ []))
      ++ (named (codes "Directory.cap") caps.directory ∷ [])) ++ (where_there (codes "Applet.cap") caps.applet))
      ++ (named (codes "Import.cap") caps.import ∷ [])) ++ (named (codes "ConstantPool.cap") caps.pool ∷ []))
      ++ (named (codes "Class.cap") caps.class ∷ [])) ++ (named (codes "Method.cap") caps.method ∷ []))
      ++ (named (codes "StaticField.cap") caps.statics ∷ [])) ++ (named (codes "RefLocation.cap") caps.locations
      ∷ [])) ++ (where_there (codes "Export.cap") caps.export)) ++ (named (codes "Descriptor.cap") caps.descriptor
      ∷ [])) (named export_name made ∷ []) s11 e12 in
      s12 ∙ ap (publication dir) (grouped caps.header caps.directory caps.import caps.pool caps.class caps.method
      caps.statics caps.locations caps.descriptor made export_name caps.applet caps.export
      ∙ ap (λ n. components_of caps ++ named n made ∷ []) x)
