-- Lines of the forms of declarations, behind the version, are read as what the declarations are a run to.
use Rattle.std.proofs.Common.{◌≡◌, ◌∙◌, ◌≤◌, ℕ, true, Some, None, List, [], ◌∷◌, map, length, Result, Ok, refl, ap, arith}
use Rattle.std.specs.List.{list_all}
use Rattle.am_term.proofs.Tests.{and_both}
use Rattle.am_text.specs.declared.form.Form.{Form}
use Rattle.am_text.specs.Grammar.{highest}
use Rattle.am_text.specs.Spelling.{is_writable, bare, lines, ReadsAs}
use Rattle.am_text.proofs.Trip.{lines_again}
use Rattle.am_theory.specs.declared.declaration.Declaration.{Declaration}
use Rattle.am_theory.specs.declared.fault.TheoryFault.{TheoryFault}
use Rattle.am_theory.specs.Contents.{Contents, nothing, with_decl}
use Rattle.am_theory.specs.Declarations.{decl_of}
use Rattle.am_theory.specs.Faults.{first_kind}
use Rattle.am_canon.specs.CanonicalText.{decl_form, version_form}
use Rattle.am_theory.specs.Limits.{file_limit, depth_limit}
use Rattle.am_theory.specs.Reading.{◌>>=◌, checked, declared_by, declared, read_from, versioned, forms_theory, text_theory, theory}
use Rattle.am_theory.specs.Traces.{Trace}
use Rattle.am_canon.proofs.VersionForm.{IsVersion, version-writable, version-height, version-read, version-begins}
use Rattle.am_theory.proofs.NoFault.{faultless}
use Rattle.am_canon.proofs.DeclarationAgain.{declaration_again}
use Rattle.am_canon.proofs.DeclarationPlaces.{same_declaration, same_version}
use Rattle.am_canon.proofs.DeclarationRead.{declaration_no_higher, read_declaration_is_spellable}
use Rattle.am_canon.proofs.DeclarationWritten.{declaration_written}

-- ---- forms of a run
all-writable : (ds : List Declaration) (c last : Contents) → Trace c ds last → list_all is_writable (map decl_form ds) ≡ true
all-writable [] c last t = refl
all-writable (d ∷ ds) c last t = and_both (is_writable (decl_form d)) (list_all is_writable (map decl_form ds)) (declaration_written d (read_declaration_is_spellable c d t.1 (faultless c d t.0).plain)) (all-writable ds (with_decl c d) last t.2)

all-low : (ds : List Declaration) (c last : Contents) → Trace c ds last → highest (map decl_form ds) ≤ depth_limit
all-low [] c last t = omega arith
all-low (d ∷ ds) c last t = let h = declaration_no_higher t.1.form d t.1.read in let l = t.1.low in let i = all-low ds (with_decl c d) last t.2 in omega arith

-- ---- such forms, places aside, are read as what the run leads to
abbrev ok : Contents → Result Contents TheoryFault
ok c = Ok c

one-read : (c last : Contents) (d : Declaration) (f : Form) (fs : List Form) → decl_of f ≡ Some d → first_kind c d ≡ None → read_from (with_decl c d) fs ≡ ok last → read_from c (f ∷ fs) ≡ ok last
unfolding read_from declared
one-read c last d f fs e k r =
    ap (λ o. declared_by f.place c o >>= λ next. read_from next fs) e
    ∙ ap (λ o. checked f.place c d o >>= λ next. read_from next fs) k
    ∙ r

none-read : (c last : Contents) → c ≡ last → read_from c [] ≡ ok last
unfolding read_from
none-read c last t = ap ok t

first_bare : (f g : Form) (fs gs : List Form) → map bare (f ∷ fs) ≡ map bare (g ∷ gs) → bare f ≡ bare g
first_bare f g fs gs e = cc

rest_bare : (f g : Form) (fs gs : List Form) → map bare (f ∷ fs) ≡ map bare (g ∷ gs) → map bare fs ≡ map bare gs
rest_bare f g fs gs e = cc

run-read : (ds : List Declaration) (c last : Contents) (fs : List Form) → Trace c ds last → map bare fs ≡ map bare (map decl_form ds) → read_from c fs ≡ ok last
run-read [] c last [] t e = none-read c last t
run-read [] c last (f ∷ fs) t e = absurd cc
run-read (d ∷ ds) c last [] t e = absurd cc
run-read (d ∷ ds) c last (f ∷ fs) t e =
    one-read c last d f fs
    (same_declaration f (decl_form d) (first_bare f (decl_form d) fs (map decl_form ds) e) ∙ declaration_again d (read_declaration_is_spellable c d t.1 (faultless c d t.0).plain))
    t.0
    (run-read ds (with_decl c d) last fs t.2 (rest_bare f (decl_form d) fs (map decl_form ds) e))

-- ---- the whole
module _ (v : ℕ) (h : IsVersion v) where
  headed-read : (size : ℕ) (ds : List Declaration) (last : Contents) (fs : List Form) → Trace (nothing v) ds last → map bare fs ≡ map bare (version_form v ∷ map decl_form ds) → forms_theory size fs ≡ ok last
  unfolding forms_theory
  headed-read size ds last [] t e = absurd cc
  headed-read size ds last (f ∷ fs) t e =
      ap (λ o. versioned f.place o fs) (same_version f (version_form v) (first_bare f (version_form v) fs (map decl_form ds) e) ∙ version-read v)
      ∙ version-begins v h f.place fs
      ∙ run-read ds (nothing v) last fs t (rest_bare f (version_form v) fs (map decl_form ds) e)

  pub lines_theory : (ds : List Declaration) (last : Contents) → Trace (nothing v) ds last → length (lines (version_form v ∷ map decl_form ds)) ≤ file_limit → theory (lines (version_form v ∷ map decl_form ds)) ≡ ok last
  unfolding theory
  lines_theory ds last t short =
      let r : ReadsAs file_limit depth_limit (lines (version_form v ∷ map decl_form ds)) (version_form v ∷ map decl_form ds) =
      lines_again file_limit depth_limit (version_form v ∷ map decl_form ds)
      (and_both (is_writable (version_form v)) (list_all is_writable (map decl_form ds)) (version-writable v h) (all-writable ds (nothing v) last t))
      (let i = all-low ds (nothing v) last t in omega (arith, version-height v))
      short in
      ap (text_theory (length (lines (version_form v ∷ map decl_form ds)))) r.1
      ∙ headed-read (length (lines (version_form v ∷ map decl_form ds))) ds last r.0 t r.2
