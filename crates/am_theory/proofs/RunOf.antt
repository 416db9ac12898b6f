-- Each theory that was read is the end of a run of declarations of forms.
use Rattle.std.proofs.Common.{◌≡◌, ◌∙◌, ◌⊎◌, inl, inr, ◌≤◌, ℕ, Bool, true, false, List, [], ◌∷◌, length, Option, Some, None, Result, Ok, Err, refl, sym, ap, subst, arith}
use Rattle.std.specs.Prelude.{ℤ, pos, if◌then◌else◌}
use Rattle.std.specs.Ordering.{int_eq}
use Rattle.std.specs.List.{list_all}
use Rattle.am_term.proofs.Tests.{and_left, and_right}
use Rattle.am_text.specs.declared.form.Form.{Form}
use Rattle.am_text.specs.declared.fault.TextFault.{TextFault}
use Rattle.am_text.specs.Grammar.{height, highest}
use Rattle.am_text.specs.Spelling.{is_writable}
use Rattle.am_text.specs.Scan.{read}
use Rattle.am_text.proofs.Found.{read_found}
use Rattle.am_text.proofs.Trip.{read_writable}
use Rattle.am_theory.specs.declared.declaration.Declaration.{Declaration}
use Rattle.am_theory.specs.declared.declaration.Declaration.TheVariants as decl
use Rattle.am_theory.specs.declared.fault.TheoryFault.{TheoryFault}
use Rattle.am_theory.specs.declared.fault.TheoryKind.{TheoryKind}
use Rattle.am_theory.specs.Contents.{Contents, nothing, with_decl}
use Rattle.am_theory.specs.Declarations.{decl_of, version_of}
use Rattle.am_theory.specs.Faults.{first_kind}
use Rattle.am_theory.specs.Limits.{file_limit, depth_limit}
use Rattle.am_theory.specs.Reading.{◌>>=◌, checked, declared_by, declared, read_from, versioned, forms_theory, text_theory, theory}
use Rattle.am_theory.specs.Traces.{IsOfForm, Trace}

abbrev ok : Contents → Result Contents TheoryFault
ok c = Ok c

-- declarations that come to this end
abbrev pub Run : Contents → Contents → Type 0
Run c last = (ds : List Declaration) × Trace c ds last

abbrev then_read : List Form → Result Contents TheoryFault → Result Contents TheoryFault
then_read fs r = r >>= λ next. read_from next fs

-- one more declaration, by its first kind of fault
by_kind : (p : ℕ) (fs : List Form) (c last : Contents) (d : Declaration) (k : Option TheoryKind) → first_kind c d ≡ k → IsOfForm d → ((next : Contents) → read_from next fs ≡ ok last → Run next last) → then_read fs (checked p c d k) ≡ ok last → Run c last
by_kind p fs c last d None none of more e = let r = more (with_decl c d) e in (d ∷ r.0, (none, of, r.1))
by_kind p fs c last d (Some k) none of more e = absurd cc

by_decl : (f : Form) (fs : List Form) (c last : Contents) (o : Option Declaration) → decl_of f ≡ o → is_writable f ≡ true → height f ≤ depth_limit → ((next : Contents) → read_from next fs ≡ ok last → Run next last) → then_read fs (declared_by f.place c o) ≡ ok last → Run c last
by_decl f fs c last None of w low more e = absurd cc
by_decl f fs c last (Some d) of w low more e = by_kind f.place fs c last d (first_kind c d) refl (record { form = f; read = of; writable = w; low = low }) more e

pub run_from : (fs : List Form) (c last : Contents) → list_all is_writable fs ≡ true → highest fs ≤ depth_limit → read_from c fs ≡ ok last → Run c last
unfolding read_from declared
run_from [] c last w low e = ([], cc)
run_from (f ∷ fs) c last w low e =
    by_decl f fs c last (decl_of f) refl (and_left (is_writable f) (list_all is_writable fs) w) (omega arith)
    (λ next k. run_from fs next last (and_right (is_writable f) (list_all is_writable fs) w) (omega arith) k) e

-- a declaration leaves the version
version-with : (c : Contents) (d : Declaration) → (with_decl c d).version ≡ c.version
unfolding with_decl
version-with c (decl.Sort n r copy) = refl
version-with c (decl.Subsort n s) = refl
version-with c (decl.Function n args r) = refl
version-with c (decl.Relation n args) = refl
version-with c (decl.Literal n s v) = refl
version-with c (decl.Routine n inputs outputs) = refl
version-with c (decl.Value f n args r) = refl
version-with c (decl.Axiom vs f) = refl

pub version-run : (ds : List Declaration) (c last : Contents) → Trace c ds last → last.version ≡ c.version
version-run [] c last t = ap (λ (x : Contents). x.version) (sym t)
version-run (d ∷ ds) c last t = version-run ds (with_decl c d) last t.2 ∙ version-with c d

-- declarations in a file of a version that there is
pub record Started (last : Contents) : Type 0 where
  pub versioned : (last.version ≡ 1) ⊎ (last.version ≡ 2)
  pub run : Run (nothing last.version) last

started : (v : ℕ) (last : Contents) → (v ≡ 1) ⊎ (v ≡ 2) → Run (nothing v) last → Started last
started v last h r =
    let same : v ≡ last.version = sym (version-run r.0 (nothing v) last r.1) in
    record { versioned = subst (λ n. (n ≡ 1) ⊎ (n ≡ 2)) same h; run = subst (λ n. Run (nothing n) last) same r }

by_number : (a b : Bool) (fs : List Form) (p : ℕ) (k : TheoryKind) (last : Contents) → list_all is_writable fs ≡ true → highest fs ≤ depth_limit → (if a then read_from (nothing 1) fs else if b then read_from (nothing 2) fs else Err (record { place = p; kind = k })) ≡ ok last → Started last
by_number true b fs p k last w low e = started 1 last (inl refl) (run_from fs (nothing 1) last w low e)
by_number false true fs p k last w low e = started 2 last (inr refl) (run_from fs (nothing 2) last w low e)
by_number false false fs p k last w low e = absurd cc

by_version : (o : Option ℤ) (fs : List Form) (p : ℕ) (last : Contents) → list_all is_writable fs ≡ true → highest fs ≤ depth_limit → versioned p o fs ≡ ok last → Started last
by_version None fs p last w low e = absurd cc
by_version (Some n) fs p last w low e = by_number (int_eq n (pos 1)) (int_eq n (pos 2)) fs p _ last w low e

by_forms : (size : ℕ) (fs : List Form) (last : Contents) → list_all is_writable fs ≡ true → highest fs ≤ depth_limit → forms_theory size fs ≡ ok last → Started last
unfolding forms_theory
by_forms size [] last w low e = absurd cc
by_forms size (f ∷ fs) last w low e = by_version (version_of f) fs f.place last (and_right (is_writable f) (list_all is_writable fs) w) (omega arith) e

by_text : (bytes : List ℕ) (r : Result (List Form) TextFault) (last : Contents) → read file_limit depth_limit bytes ≡ r → text_theory (length bytes) r ≡ ok last → Started last
by_text bytes (Ok fs) last is e = by_forms (length bytes) fs last (read_writable file_limit depth_limit bytes fs is) (let r = read_found file_limit depth_limit bytes fs is in r.1) e
by_text bytes (Err f) last is e = absurd cc

-- a theory that was read is the end of a run of declarations of forms, from nothing in its version
pub run_of : (bytes : List ℕ) (c : Contents) → theory bytes ≡ ok c → Started c
unfolding theory
run_of bytes c e = by_text bytes (read file_limit depth_limit bytes) c refl e
