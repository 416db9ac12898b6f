-- Which theory a file is, or its first fault, with its place and its kind.
use Rattle.std.specs.Prelude.{◌≡◌, ◌⊎◌, ℕ, ℤ, pos, Option, Some, None, Result, Ok, Err, List, [], ◌∷◌, length, if◌then◌else◌}
use Rattle.std.specs.Ordering.{int_eq}
use Rattle.am_text.specs.declared.form.Form.{Form}
use Rattle.am_text.specs.declared.fault.TextFault.{TextFault}
use Rattle.am_text.specs.Scan.{read}
use Rattle.am_theory.specs.declared.theory.Theory.{Theory}
use Rattle.am_theory.specs.declared.declaration.Declaration.{Declaration}
use Rattle.am_theory.specs.declared.fault.TheoryFault.{TheoryFault}
use Rattle.am_theory.specs.declared.fault.TheoryKind.{TheoryKind}
use Rattle.am_theory.specs.declared.fault.TheoryKind.TheVariants.{Text, BadHead, Version, NoMemory}
use Rattle.am_theory.specs.declared.fault.ReadError.{ReadError}
use Rattle.am_theory.specs.declared.fault.ReadError.TheVariants as errors
use Rattle.am_theory.specs.Contents.{Contents, contents, nothing, with_decl}
use Rattle.am_theory.specs.Declarations.{decl_of, version_of}
use Rattle.am_theory.specs.Faults.{first_kind}
use Rattle.am_theory.specs.Limits.{file_limit, depth_limit}

-- first one thing, and with what it gives another; the first fault stands
infixl 10 ◌>>=◌
abbrev pub ◌>>=◌ : {A B : Type 0} → Result A TheoryFault → (A → Result B TheoryFault) → Result B TheoryFault
(Ok x) >>= f = f x
(Err e) >>= f = Err e

abbrev pub fault : {A : Type 0} → ℕ → TheoryKind → Result A TheoryFault
fault p k = Err (record { place = p; kind = k })

-- the declaration is added, unless it has a fault
abbrev pub checked : ℕ → Contents → Declaration → Option TheoryKind → Result Contents TheoryFault
checked p c d None = Ok (with_decl c d)
checked p c d (Some k) = fault p k

abbrev pub declared_by : ℕ → Contents → Option Declaration → Result Contents TheoryFault
declared_by p c None = fault p BadHead
declared_by p c (Some d) = checked p c d (first_kind c d)

-- one more form: it has the shape of a declaration, which has no fault; its place is that of the form
unfoldable pub declared : Contents → Form → Result Contents TheoryFault
declared c f = declared_by f.place c (decl_of f)

-- the declarations in order
unfoldable pub read_from : Contents → List Form → Result Contents TheoryFault
read_from c [] = Ok c
read_from c (f ∷ fs) = declared c f >>= λ next. read_from next fs

abbrev pub versioned : ℕ → Option ℤ → List Form → Result Contents TheoryFault
versioned p None fs = fault p BadHead
versioned p (Some n) fs =
    if int_eq n (pos 1) then read_from (nothing 1) fs
    else if int_eq n (pos 2) then read_from (nothing 2) fs
    else fault p Version

-- `(theory 1)` or `(theory 2)` and then declarations; the length of the file is the place of a missing first form
unfoldable pub forms_theory : ℕ → List Form → Result Contents TheoryFault
forms_theory size [] = fault size BadHead
forms_theory size (f ∷ fs) = versioned f.place (version_of f) fs

abbrev pub text_theory : ℕ → Result (List Form) TextFault → Result Contents TheoryFault
text_theory size (Ok fs) = forms_theory size fs
text_theory size (Err e) = fault e.place (Text e.kind)

-- the theory of a file, or the file's first fault: a fault of the text comes before all others
unfoldable pub theory : List ℕ → Result Contents TheoryFault
theory bytes = text_theory (length bytes) (read file_limit depth_limit bytes)

-- ---- answers

-- an error: the end of memory may come at any time, a fault is that of the definition
abbrev pub Fails : {Y : Type 0} → ReadError → Result Y TheoryFault → Type 0
Fails errors.Memory answer = Unit {0}
Fails (errors.Fault f) answer = answer ≡ Err f

-- what a step returned is what its definition gives, unless memory ran out
abbrev pub Gives : {X Y : Type 0} → (X → Y) → Result X ReadError → Result Y TheoryFault → Type 0
Gives view (Ok x) answer = answer ≡ Ok (view x)
Gives view (Err e) answer = Fails e answer

-- the one fault that may come for any file
abbrev pub no_memory : TheoryFault
no_memory = record { place = 0; kind = NoMemory }

-- the answer of the whole has what the definition gives, or is the fault that it gives, or memory is out
abbrev pub IsAnswer : Result Theory TheoryFault → Result Contents TheoryFault → Type 0
IsAnswer (Ok t) answer = answer ≡ Ok (contents t)
IsAnswer (Err f) answer = (f ≡ no_memory) ⊎ (answer ≡ Err f)
