-- Which diagram a file is over a theory, or its first fault, with its place and its kind.
use Rattle.std.specs.Prelude.{◌≡◌, ◌⊎◌, ℕ, Option, Some, None, Result, Ok, Err, List, [], ◌∷◌, length}
use Rattle.am_text.specs.declared.form.Form.{Form}
use Rattle.am_text.specs.declared.fault.TextFault.{TextFault}
use Rattle.am_text.specs.Scan.{read}
use Rattle.am_theory.specs.declared.theory.Theory.{Theory}
use Rattle.am_theory.specs.Limits.{file_limit, depth_limit}
use Rattle.am_diagram.specs.declared.declaration.Declaration.{Declaration}
use Rattle.am_diagram.specs.declared.diagram.Diagram.{Diagram}
use Rattle.am_diagram.specs.declared.draft.Draft.{Draft}
use Rattle.am_diagram.specs.declared.fault.DiagramFault.{DiagramFault}
use Rattle.am_diagram.specs.declared.fault.DiagramKind.{DiagramKind}
use Rattle.am_diagram.specs.declared.fault.DiagramKind.TheVariants.{Text, BadHead, NoMemory}
use Rattle.am_diagram.specs.declared.fault.ReadError.{ReadError}
use Rattle.am_diagram.specs.declared.fault.ReadError.TheVariants as errors
use Rattle.am_diagram.specs.Declarations.{decl_of, diagram_name_of}
use Rattle.am_diagram.specs.Drafts.{started, with_decl, diagram_of}
use Rattle.am_diagram.specs.Faults.{first_kind, head_kind, end_kind}

-- first one thing, and with what it gives another; the first fault stands
infixl 10 ◌>>=◌
abbrev pub ◌>>=◌ : {A B : Type 0} → Result A DiagramFault → (A → Result B DiagramFault) → Result B DiagramFault
(Ok x) >>= f = f x
(Err e) >>= f = Err e

abbrev pub fault : {A : Type 0} → ℕ → DiagramKind → Result A DiagramFault
fault p k = Err (record { place = p; kind = k })

-- unless it has a fault
abbrev pub unless : {A : Type 0} → ℕ → Option DiagramKind → A → Result A DiagramFault
unless p None x = Ok x
unless p (Some k) x = fault p k

abbrev pub declared_by : Theory → ℕ → Draft → Option Declaration → Result Draft DiagramFault
declared_by t p d None = fault p BadHead
declared_by t p d (Some e) = unless p (first_kind t d e) (with_decl t d e)

-- one more form: it has the shape of a declaration, which has no fault; its place is that of the form
unfoldable pub declared : Theory → Draft → Form → Result Draft DiagramFault
declared t d f = declared_by t f.place d (decl_of f)

-- the declarations in order
unfoldable pub read_from : Theory → Draft → List Form → Result Draft DiagramFault
read_from t d [] = Ok d
read_from t d (f ∷ fs) = declared t d f >>= λ next. read_from t next fs

abbrev pub draft_of_head : Theory → ℕ → Option (List ℕ) → Result Draft DiagramFault
draft_of_head t p None = fault p BadHead
draft_of_head t p (Some n) = unless p (head_kind t n) (started n)

-- the end, whose place is the file's length
abbrev pub ended : Theory → ℕ → Draft → Result Diagram DiagramFault
ended t size d = unless size (end_kind d) (diagram_of t d)

-- `(diagram FNAME)` and then declarations, among them an output and a requirement
unfoldable pub forms_diagram : Theory → ℕ → List Form → Result Diagram DiagramFault
forms_diagram t size [] = fault size BadHead
forms_diagram t size (f ∷ fs) = draft_of_head t f.place (diagram_name_of f) >>= λ d. read_from t d fs >>= ended t size

abbrev pub text_diagram : Theory → ℕ → Result (List Form) TextFault → Result Diagram DiagramFault
text_diagram t size (Ok fs) = forms_diagram t size fs
text_diagram t size (Err e) = fault e.place (Text e.kind)

-- the diagram of a file over a theory, or the file's first fault: a fault of the text comes before all others
unfoldable pub diagram : Theory → List ℕ → Result Diagram DiagramFault
diagram t bytes = text_diagram t (length bytes) (read file_limit depth_limit bytes)

-- ---- answers

-- an error: the end of memory may come at any time, a fault is that of the definition
abbrev pub Fails : {Y : Type 0} → ReadError → Result Y DiagramFault → Type 0
Fails errors.Memory answer = Unit {0}
Fails (errors.Fault f) answer = answer ≡ Err f

-- what a step returned is what its definition gives, unless memory ran out
abbrev pub Gives : {X Y : Type 0} → (X → Y) → Result X ReadError → Result Y DiagramFault → Type 0
Gives view (Ok x) answer = answer ≡ Ok (view x)
Gives view (Err e) answer = Fails e answer

-- the one fault that may come for any file
abbrev pub no_memory : DiagramFault
no_memory = record { place = 0; kind = NoMemory }

-- the answer of the whole is what its definition gives, or that memory is out
abbrev pub IsAnswer : Result Diagram DiagramFault → Result Diagram DiagramFault → Type 0
IsAnswer (Ok d) answer = answer ≡ Ok d
IsAnswer (Err f) answer = (f ≡ no_memory) ⊎ (answer ≡ Err f)
