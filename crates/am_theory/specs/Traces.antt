-- A run of declarations without their forms, and what holds of a declaration that stood in a file.
use Rattle.std.specs.Prelude.{◌≡◌, ◌≤◌, ◌&&◌, ℕ, Bool, true, Option, Some, None, List, [], ◌∷◌, is_none, IsTrue}
use Rattle.std.specs.List.{list_all}
use Rattle.am_term.specs.Names.{is_name}
use Rattle.am_text.specs.declared.form.Form.{Form}
use Rattle.am_text.specs.Grammar.{height}
use Rattle.am_text.specs.Spelling.{is_word, is_text, fits_word, is_writable}
use Rattle.am_syntax.specs.Forms.{is_some_list}
use Rattle.am_theory.specs.declared.theory.LitValue.{LitValue}
use Rattle.am_theory.specs.declared.theory.LitValue.TheVariants as value
use Rattle.am_theory.specs.declared.declaration.WrittenRep.{WrittenRep}
use Rattle.am_theory.specs.declared.declaration.WrittenRep.TheVariants as written
use Rattle.am_theory.specs.declared.declaration.Typed.{Typed}
use Rattle.am_theory.specs.declared.declaration.Declaration.{Declaration}
use Rattle.am_theory.specs.declared.declaration.Declaration.TheVariants as decl
use Rattle.am_theory.specs.Contents.{Contents, with_decl}
use Rattle.am_theory.specs.Declarations.{decl_of}
use Rattle.am_theory.specs.Faults.{first_kind}
use Rattle.am_theory.specs.Limits.{depth_limit}

-- ---- the declaration of a form

-- the declaration is that of a form which can stand in a file
pub record IsOfForm (d : Declaration) : Type 0 where
  pub form : Form
  pub read : decl_of form ≡ Some d
  pub writable : is_writable form ≡ true
  pub low : height form ≤ depth_limit

-- both are names
abbrev pub is_typed : Typed → Bool
is_typed v = is_name v.name && is_name v.sort

-- the numbers of a representation fit 64 bits
abbrev pub fits_rep : WrittenRep → Bool
fits_rep written.Double = true
fits_rep written.Integer = true
fits_rep written.Logical = true
fits_rep (written.Char n) = fits_word n
fits_rep (written.DoubleVec m) = fits_word m
fits_rep (written.DoubleMat m n) = fits_word m && fits_word n
fits_rep (written.IntegerVec m) = fits_word m

-- a copy routine stands behind a representation alone
abbrev pub is_rep_with : Option WrittenRep → Option (List ℕ) → Bool
is_rep_with None copy = is_none copy
is_rep_with (Some r) None = fits_rep r
is_rep_with (Some r) (Some w) = fits_rep r && is_word w

-- a number fits 64 bits, a text has at most 255 bytes, each of them allowed
abbrev pub is_written_value : LitValue → Bool
is_written_value (value.Int n) = fits_word n
is_written_value (value.Text t) = is_text t

-- The names of a declaration are names, its FORTRAN names are words, its numbers fit 64 bits, its text may be a
-- text, and a routine has one or more outputs.
abbrev pub IsWritten : Declaration → Type 0
IsWritten (decl.Sort n r copy) = IsTrue (is_name n) × IsTrue (is_rep_with r copy)
IsWritten (decl.Subsort n s) = IsTrue (is_name n) × IsTrue (is_name s)
IsWritten (decl.Function n args r) = IsTrue (is_name n) × IsTrue (list_all is_name args) × IsTrue (is_name r)
IsWritten (decl.Relation n args) = IsTrue (is_name n) × IsTrue (list_all is_name args)
IsWritten (decl.Literal n s v) = IsTrue (is_name n) × IsTrue (is_name s) × IsTrue (is_written_value v)
IsWritten (decl.Routine n inputs outputs) = IsTrue (is_word n) × IsTrue (list_all is_name inputs) × IsTrue (list_all is_typed outputs) × IsTrue (is_some_list outputs)
IsWritten (decl.Value f n args r) = IsTrue (is_word f) × IsTrue (is_name n) × IsTrue (list_all is_name args) × IsTrue (is_name r)
IsWritten (decl.Axiom vs g) = IsTrue (list_all is_typed vs)

-- ---- runs

-- Each declaration is that of a form and has no fault in the light of those before it; what they declare,
-- beside what there is, is all there is at the end.
abbrev pub Trace : Contents → List Declaration → Contents → Type 0
Trace c [] last = c ≡ last
Trace c (d ∷ ds) last = (first_kind c d ≡ None) × IsOfForm d × Trace (with_decl c d) ds last
