-- Files that are written under names of their own all stand.
use Rattle.std.proofs.Common.{◌≡◌, ◌⊎◌, inl, inr, ℕ, Bool, true, false, cond, List, [], ◌∷◌, ◌++◌, map, Option, Some, None, codes, nat_eq, reverse, rules, refl, sym, ap, subst, ◌∙◌, arith}
use Rattle.std.specs.Prelude.{bytes_eq}
use Rattle.std.specs.FinMap.{get, insert, get-insert}
use Rattle.std.proofs.lemmas.Cmp.{nat_list_cmp_total}
use Rattle.std.proofs.lemmas.List.{reverse-append}
use Rattle.std.proofs.lemmas.Map.Text.{is_eq-slice_cmp}
use Rattle.cjc_shelf.specs.Shelf.{Files}
use Rattle.cjc_command.specs.declared.status.File.{File}
use Rattle.cjc_command.specs.Publish.{written_files}
use Rattle.cjc_convert.specs.declared.conversion.Converted.{Converted}
use Rattle.jcconv.specs.Convert.{named, below, last_part, files_made}
use Rattle.jcconv.specs.Promise.{Stand}

-- ---- names

same_number : (c : ℕ) → nat_eq c c ≡ true
same_number c = search rules

same_name : (name : List ℕ) → bytes_eq name name ≡ true
same_name [] = refl
same_name (c ∷ name) = rw (same_number c) (same_name name)

-- a common beginning makes no difference
behind_same : (front a b : List ℕ) → bytes_eq (front ++ a) (front ++ b) ≡ bytes_eq a b
behind_same [] a b = refl
behind_same (c ∷ front) a b = rw (same_number c) (behind_same front a b)

equal_names : (a b : List ℕ) → bytes_eq a b ≡ true → a ≡ b
equal_names a b e = search rules

-- The name is none of the files' names.
abbrev pub IsNew : List ℕ → List File → Type 0
IsNew name [] = Unit {0}
IsNew name (file ∷ files) = (bytes_eq name file.name ≡ false) × IsNew name files

-- No name stands twice.
abbrev pub AreDistinct : List File → Type 0
AreDistinct [] = Unit {0}
AreDistinct (file ∷ files) = IsNew file.name files × AreDistinct files

abbrev pub Has : List File → File → Type 0
Has [] file = ⊥
Has (other ∷ files) file = (file ≡ other) ⊎ Has files file

new_below : (dir name : List ℕ) (files : List File) → IsNew name files → IsNew (dir ++ codes "/" ++ name) (map (below dir) files)
new_below dir name [] n = tt
new_below dir name (file ∷ files) n = (behind_same (dir ++ codes "/") name file.name ∙ n.0, new_below dir name files n.1)

distinct_below : (dir : List ℕ) (files : List File) → AreDistinct files → AreDistinct (map (below dir) files)
distinct_below dir [] d = tt
distinct_below dir (file ∷ files) d = (new_below dir file.name files d.0, distinct_below dir files d.1)

has_below : (dir : List ℕ) (files : List File) (file : File) → Has files file → Has (map (below dir) files) (below dir file)
has_below dir [] file h = absurd h
has_below dir (other ∷ files) file (inl e) = inl (ap (below dir) e)
has_below dir (other ∷ files) file (inr h) = inr (has_below dir files file h)

-- ---- what stands after writes

after_own : (files : Files) (name bytes : List ℕ) → get (insert files name bytes) name ≡ Some bytes
after_own files name bytes = get-insert nat_list_cmp_total files name bytes name ∙ ap (λ b. cond b (Some bytes) (get files name)) (is_eq-slice_cmp name name ∙ same_name name)

after_other : (files : Files) (name bytes other : List ℕ) → bytes_eq other name ≡ false → get (insert files name bytes) other ≡ get files other
after_other files name bytes other n = get-insert nat_list_cmp_total files name bytes other ∙ ap (λ b. cond b (Some bytes) (get files other)) (is_eq-slice_cmp other name ∙ n)

after_others : (written : List File) (files : Files) (name bytes : List ℕ) → IsNew name written → get files name ≡ Some bytes → get (written_files written files) name ≡ Some bytes
after_others [] files name bytes n e = e
after_others (file ∷ written) files name bytes n e = after_others written (insert files file.name file.bytes) name bytes n.1 (after_other files file.name file.bytes name n.0 ∙ e)

pub stands : (written : List File) (files : Files) → AreDistinct written → (file : File) → Has written file → get (written_files written files) file.name ≡ Some file.bytes
stands [] files d file h = absurd h
stands (first ∷ written) files d file (inl e) =
    subst (λ (f : File). get (written_files written (insert files first.name first.bytes)) f.name ≡ Some f.bytes) (sym e)
    (after_others written (insert files first.name first.bytes) first.name first.bytes d.0 (after_own files first.name first.bytes))
stands (first ∷ written) files d file (inr h) = stands written (insert files first.name first.bytes) d.1 file h

stands_below : (dir : List ℕ) (written : List File) (files : Files) → AreDistinct written → (file : File) → Has written file
    → get (written_files (map (below dir) written) files) (dir ++ codes "/" ++ file.name) ≡ Some file.bytes
stands_below dir written files d file h = stands (map (below dir) written) files (distinct_below dir written d) (below dir file) (has_below dir written file h)

-- ---- the files of a conversion

second : List ℕ → ℕ
second (a ∷ b ∷ rest) = b
second (a ∷ []) = 0
second [] = 0

-- a component's name and an export file's differ in the letter before the last
not_export : (front last : List ℕ) → front ++ codes ".cap" ≡ last ++ codes ".exp" → ⊥
unfolding second
not_export front last e =
    let back = sym (reverse-append front (codes ".cap")) ∙ ap reverse e ∙ reverse-append last (codes ".exp") in
    let letters : ◌≡◌ {A = ℕ} 97 120 = ap second back in
    absurd (omega arith)

is_false : (b : Bool) → (b ≡ true → ⊥) → b ≡ false
is_false true f = absurd (f refl)
is_false false f = refl

apart : (front last : List ℕ) → bytes_eq (front ++ codes ".cap") (last ++ codes ".exp") ≡ false
apart front last = is_false _ (λ e. not_export front last (equal_names _ _ e))

abbrev made_of : (h d i p c m s l x export : List ℕ) (applet exported : Option (List ℕ)) → Converted
made_of h d i p c m s l x export applet exported = record {
  caps = record { header = h; directory = d; applet = applet; import = i; pool = p; class = c; method = m; statics = s; locations = l; export = exported; descriptor = x };
  export = export;
}

stand_all : (dir name : List ℕ) (files : Files) (h d i p c m s l x export : List ℕ) (applet exported : Option (List ℕ))
    → Stand dir (made_of h d i p c m s l x export applet exported).caps (written_files (map (below dir) (files_made name (made_of h d i p c m s l x export applet exported))) files)
stand_all dir name files h d i p c m s l x export None None =
    let distinct : AreDistinct (files_made name (made_of h d i p c m s l x export None None)) =
    ((refl, (refl, (refl, (refl, (refl, (refl, (refl, (refl, (apart (codes "Header") (last_part name), tt))))))))), ((refl, (refl, (refl, (refl, (refl, (refl, (refl, (apart (codes "Directory") (last_part name), tt)))))))), ((refl, (refl, (refl, (refl, (refl, (refl, (apart (codes "Import") (last_part name), tt))))))), ((refl, (refl, (refl, (refl, (refl, (apart (codes "ConstantPool") (last_part name), tt)))))), ((refl, (refl, (refl, (refl, (apart (codes "Class") (last_part name), tt))))), ((refl, (refl, (refl, (apart (codes "Method") (last_part name), tt)))), ((refl, (refl, (apart (codes "StaticField") (last_part name), tt))), ((refl, (apart (codes "RefLocation") (last_part name), tt)), ((apart (codes "Descriptor") (last_part name), tt), (tt, tt)))))))))) in
    let at = stands_below dir (files_made name (made_of h d i p c m s l x export None None)) files distinct in
    record {
      header = at (named (codes "Header.cap") h) (inl refl);
      directory = at (named (codes "Directory.cap") d) (inr (inl refl));
      applet = tt;
      import = at (named (codes "Import.cap") i) (inr (inr (inl refl)));
      pool = at (named (codes "ConstantPool.cap") p) (inr (inr (inr (inl refl))));
      class = at (named (codes "Class.cap") c) (inr (inr (inr (inr (inl refl)))));
      method = at (named (codes "Method.cap") m) (inr (inr (inr (inr (inr (inl refl))))));
      statics = at (named (codes "StaticField.cap") s) (inr (inr (inr (inr (inr (inr (inl refl)))))));
      locations = at (named (codes "RefLocation.cap") l) (inr (inr (inr (inr (inr (inr (inr (inl refl))))))));
      export = tt;
      descriptor = at (named (codes "Descriptor.cap") x) (inr (inr (inr (inr (inr (inr (inr (inr (inl refl)))))))));
    }
stand_all dir name files h d i p c m s l x export None (Some e) =
    let distinct : AreDistinct (files_made name (made_of h d i p c m s l x export None (Some e))) =
    ((refl, (refl, (refl, (refl, (refl, (refl, (refl, (refl, (refl, (apart (codes "Header") (last_part name), tt)))))))))), ((refl, (refl, (refl, (refl, (refl, (refl, (refl, (refl, (apart (codes "Directory") (last_part name), tt))))))))), ((refl, (refl, (refl, (refl, (refl, (refl, (refl, (apart (codes "Import") (last_part name), tt)))))))), ((refl, (refl, (refl, (refl, (refl, (refl, (apart (codes "ConstantPool") (last_part name), tt))))))), ((refl, (refl, (refl, (refl, (refl, (apart (codes "Class") (last_part name), tt)))))), ((refl, (refl, (refl, (refl, (apart (codes "Method") (last_part name), tt))))), ((refl, (refl, (refl, (apart (codes "StaticField") (last_part name), tt)))), ((refl, (refl, (apart (codes "RefLocation") (last_part name), tt))), ((refl, (apart (codes "Export") (last_part name), tt)), ((apart (codes "Descriptor") (last_part name), tt), (tt, tt))))))))))) in
    let at = stands_below dir (files_made name (made_of h d i p c m s l x export None (Some e))) files distinct in
    record {
      header = at (named (codes "Header.cap") h) (inl refl);
      directory = at (named (codes "Directory.cap") d) (inr (inl refl));
      applet = tt;
      import = at (named (codes "Import.cap") i) (inr (inr (inl refl)));
      pool = at (named (codes "ConstantPool.cap") p) (inr (inr (inr (inl refl))));
      class = at (named (codes "Class.cap") c) (inr (inr (inr (inr (inl refl)))));
      method = at (named (codes "Method.cap") m) (inr (inr (inr (inr (inr (inl refl))))));
      statics = at (named (codes "StaticField.cap") s) (inr (inr (inr (inr (inr (inr (inl refl)))))));
      locations = at (named (codes "RefLocation.cap") l) (inr (inr (inr (inr (inr (inr (inr (inl refl))))))));
      export = at (named (codes "Export.cap") e) (inr (inr (inr (inr (inr (inr (inr (inr (inl refl)))))))));
      descriptor = at (named (codes "Descriptor.cap") x) (inr (inr (inr (inr (inr (inr (inr (inr (inr (inl refl))))))))));
    }
stand_all dir name files h d i p c m s l x export (Some a) None =
    let distinct : AreDistinct (files_made name (made_of h d i p c m s l x export (Some a) None)) =
    ((refl, (refl, (refl, (refl, (refl, (refl, (refl, (refl, (refl, (apart (codes "Header") (last_part name), tt)))))))))), ((refl, (refl, (refl, (refl, (refl, (refl, (refl, (refl, (apart (codes "Directory") (last_part name), tt))))))))), ((refl, (refl, (refl, (refl, (refl, (refl, (refl, (apart (codes "Applet") (last_part name), tt)))))))), ((refl, (refl, (refl, (refl, (refl, (refl, (apart (codes "Import") (last_part name), tt))))))), ((refl, (refl, (refl, (refl, (refl, (apart (codes "ConstantPool") (last_part name), tt)))))), ((refl, (refl, (refl, (refl, (apart (codes "Class") (last_part name), tt))))), ((refl, (refl, (refl, (apart (codes "Method") (last_part name), tt)))), ((refl, (refl, (apart (codes "StaticField") (last_part name), tt))), ((refl, (apart (codes "RefLocation") (last_part name), tt)), ((apart (codes "Descriptor") (last_part name), tt), (tt, tt))))))))))) in
    let at = stands_below dir (files_made name (made_of h d i p c m s l x export (Some a) None)) files distinct in
    record {
      header = at (named (codes "Header.cap") h) (inl refl);
      directory = at (named (codes "Directory.cap") d) (inr (inl refl));
      applet = at (named (codes "Applet.cap") a) (inr (inr (inl refl)));
      import = at (named (codes "Import.cap") i) (inr (inr (inr (inl refl))));
      pool = at (named (codes "ConstantPool.cap") p) (inr (inr (inr (inr (inl refl)))));
      class = at (named (codes "Class.cap") c) (inr (inr (inr (inr (inr (inl refl))))));
      method = at (named (codes "Method.cap") m) (inr (inr (inr (inr (inr (inr (inl refl)))))));
      statics = at (named (codes "StaticField.cap") s) (inr (inr (inr (inr (inr (inr (inr (inl refl))))))));
      locations = at (named (codes "RefLocation.cap") l) (inr (inr (inr (inr (inr (inr (inr (inr (inl refl)))))))));
      export = tt;
      descriptor = at (named (codes "Descriptor.cap") x) (inr (inr (inr (inr (inr (inr (inr (inr (inr (inl refl))))))))));
    }
stand_all dir name files h d i p c m s l x export (Some a) (Some e) =
    let distinct : AreDistinct (files_made name (made_of h d i p c m s l x export (Some a) (Some e))) =
    ((refl, (refl, (refl, (refl, (refl, (refl, (refl, (refl, (refl, (refl, (apart (codes "Header") (last_part name), tt))))))))))), ((refl, (refl, (refl, (refl, (refl, (refl, (refl, (refl, (refl, (apart (codes "Directory") (last_part name), tt)))))))))), ((refl, (refl, (refl, (refl, (refl, (refl, (refl, (refl, (apart (codes "Applet") (last_part name), tt))))))))), ((refl, (refl, (refl, (refl, (refl, (refl, (refl, (apart (codes "Import") (last_part name), tt)))))))), ((refl, (refl, (refl, (refl, (refl, (refl, (apart (codes "ConstantPool") (last_part name), tt))))))), ((refl, (refl, (refl, (refl, (refl, (apart (codes "Class") (last_part name), tt)))))), ((refl, (refl, (refl, (refl, (apart (codes "Method") (last_part name), tt))))), ((refl, (refl, (refl, (apart (codes "StaticField") (last_part name), tt)))), ((refl, (refl, (apart (codes "RefLocation") (last_part name), tt))), ((refl, (apart (codes "Export") (last_part name), tt)), ((apart (codes "Descriptor") (last_part name), tt), (tt, tt)))))))))))) in
    let at = stands_below dir (files_made name (made_of h d i p c m s l x export (Some a) (Some e))) files distinct in
    record {
      header = at (named (codes "Header.cap") h) (inl refl);
      directory = at (named (codes "Directory.cap") d) (inr (inl refl));
      applet = at (named (codes "Applet.cap") a) (inr (inr (inl refl)));
      import = at (named (codes "Import.cap") i) (inr (inr (inr (inl refl))));
      pool = at (named (codes "ConstantPool.cap") p) (inr (inr (inr (inr (inl refl)))));
      class = at (named (codes "Class.cap") c) (inr (inr (inr (inr (inr (inl refl))))));
      method = at (named (codes "Method.cap") m) (inr (inr (inr (inr (inr (inr (inl refl)))))));
      statics = at (named (codes "StaticField.cap") s) (inr (inr (inr (inr (inr (inr (inr (inl refl))))))));
      locations = at (named (codes "RefLocation.cap") l) (inr (inr (inr (inr (inr (inr (inr (inr (inl refl)))))))));
      export = at (named (codes "Export.cap") e) (inr (inr (inr (inr (inr (inr (inr (inr (inr (inl refl))))))))));
      descriptor = at (named (codes "Descriptor.cap") x) (inr (inr (inr (inr (inr (inr (inr (inr (inr (inr (inl refl)))))))))));
    }

-- all components stand in the folder
pub stand_made : (dir name : List ℕ) (files : Files) (made : Converted) → Stand dir made.caps (written_files (map (below dir) (files_made name made)) files)
stand_made dir name files made =
    stand_all dir name files made.caps.header made.caps.directory made.caps.import made.caps.pool made.caps.class made.caps.method made.caps.statics made.caps.locations
    made.caps.descriptor made.export made.caps.applet made.caps.export
