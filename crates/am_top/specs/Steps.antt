-- What the steps towards an answer come to: forms for private contracts.
use Rattle.std.specs.Prelude.{◌≡◌, ◌≢◌, ℕ, Option, List, length}
use Rattle.am_clause.specs.declared.row.Log.{Log}
use Rattle.am_theory.specs.declared.theory.Theory.{Theory}
use Rattle.am_theory.specs.declared.fault.TheoryFault.{TheoryFault}
use Rattle.am_theory.specs.declared.fault.TheoryKind.TheVariants as theory_kind
use Rattle.am_theory.specs.Facts.{WellFormed as WellFormedTheory}
use Rattle.am_theory.specs.Limits.{file_limit}
use Rattle.am_canon.specs.CanonicalText.{canonical_text}
use Rattle.am_diagram.specs.declared.diagram.Diagram.{Diagram}
use Rattle.am_diagram.specs.declared.fault.DiagramFault.{DiagramFault}
use Rattle.am_diagram.specs.declared.fault.DiagramKind.TheVariants as diagram_kind
use Rattle.am_diagram.specs.Facts.{WellFormed}
use Rattle.am_top.specs.declared.answer.Answer.{Answer}
use Rattle.am_top.specs.declared.answer.Answer.TheVariants.{Text, Usage, Refused, Unread, NoMemory}
use Rattle.am_top.specs.declared.answer.Refusal.TheVariants as refusal
use Rattle.am_check.specs.Accepted.{Accepted}
use Rattle.am_top.specs.Answers.{Where, Prints, AreBytes, IsAnswerOf}
use Rattle.am_search.specs.Plain.{Pick}
use Rattle.am_search.specs.Searched.{IsSearched}
use Rattle.am_search.specs.declared.fate.Entry.{Entry}
use Rattle.am_search.specs.declared.outcome.Limits.{Limits}
use Rattle.am_search.specs.declared.outcome.Outcome.TheVariants.{Found}
use Rattle.am_top.specs.Commands.{IsTheory, IsDiagram, TheoryOf, DiagramOf, FilesOf, SearchOf, ProductOf, IsSummary, HasTextFault, demo_limits}
use Rattle.am_top.specs.Messages.{theory_message, diagram_message, accepted_text}

-- the theory of a file's bytes
pub record FoundTheory (told : Option (List ℕ)) (t : Theory) : Type 0 where
  pub well : WellFormedTheory t
  pub bytes : List ℕ
  pub loaded : AreBytes file_limit told bytes
  pub read : IsTheory bytes t

-- the diagram of a file's bytes over a theory
pub record FoundDiagram (t : Theory) (told : Option (List ℕ)) (d : Diagram) : Type 0 where
  pub well : WellFormed t d
  pub bytes : List ℕ
  pub loaded : AreBytes file_limit told bytes
  pub read : IsDiagram t bytes d

-- the bytes are a theory, and over it a diagram
pub record IsRead (bytes : List ℕ) (t : Theory) : Type 0 where
  pub well : WellFormedTheory t
  pub read : IsTheory bytes t

pub record IsDrawnFrom (t : Theory) (bytes : List ℕ) (d : Diagram) : Type 0 where
  pub well : WellFormed t d
  pub read : IsDiagram t bytes d

-- the answer where no theory was found: that of the step with nothing behind it
abbrev pub NoTheory : Option (List ℕ) → Type 0 → Answer → Type 0
NoTheory told sure = IsAnswerOf (TheoryOf told sure (λ t answer. ⊥))

-- the answer where no diagram was found
abbrev pub NoDiagram : Theory → Option (List ℕ) → Type 0 → Answer → Type 0
NoDiagram t told sure = IsAnswerOf (DiagramOf t told sure (λ d answer. ⊥))

-- the theory and the diagram of two files' bytes
pub record FoundFiles (told : List ℕ → Option (List ℕ)) (first second : List ℕ) (t : Theory) (d : Diagram) : Type 0 where
  pub in_theory : FoundTheory (told first) t
  pub in_diagram : FoundDiagram t (told second) d

-- the answer where a theory or a diagram wasn't found
abbrev pub NoFiles : (List ℕ → Option (List ℕ)) → (List ℕ → Type 0) → List ℕ → List ℕ → Answer → Type 0
NoFiles told sure first second = IsAnswerOf (FilesOf told sure first second (λ t d answer. ⊥))

-- a log that a search found, after so many inferences
pub record FoundLog (t : Theory) (d : Diagram) (limits : Limits) (pick : Pick) (log : Log) (made : ℕ) : Type 0 where
  pub entries : List Entry
  pub choices : List ℕ
  pub searched : IsSearched t d limits pick (Found log entries choices)
  pub counts : made ≡ length entries

-- the answer where a search found none
abbrev pub NoLog : Theory → Diagram → Limits → Pick → Answer → Type 0
NoLog t d limits pick = IsAnswerOf (SearchOf t d limits pick (λ log made answer. ⊥))

-- the rest of `make` behind the diagram
abbrev pub FromDiagram : Limits → Pick → Theory → Diagram → Answer → Type 0
FromDiagram limits pick t d = SearchOf t d limits pick (λ log made. ProductOf t d log)

-- the rest of `demo` behind the diagram
abbrev pub FromDemo : ℕ → Pick → Theory → Diagram → Answer → Type 0
FromDemo k pick t d = SearchOf t d demo_limits pick (λ log made. Prints (IsSummary t k log made))

-- the rest of `check` behind the text
abbrev pub FromText : Theory → Diagram → List ℕ → Answer → Type 0
FromText t d x = Where (Accepted t d x) (HasTextFault t d x) (Prints (λ text. text ≡ accepted_text))

-- the rest of `theory` behind the theory
abbrev pub TheText : Theory → Answer → Type 0
TheText t = Prints (λ text. text ≡ canonical_text t)

-- the answer to a fault of a theory file: its message, or that memory is out
abbrev pub TellsTheoryFault : TheoryFault → Answer → Type 0
TellsTheoryFault f (Text text) = ⊥
TellsTheoryFault f Usage = ⊥
TellsTheoryFault f (Refused r message) = (f.kind ≢ theory_kind.NoMemory) × (r ≡ refusal.File) × (message.items ≡ theory_message f)
TellsTheoryFault f (Unread g) = ⊥
TellsTheoryFault f NoMemory = Unit {0}

-- the same for a diagram file
abbrev pub TellsDiagramFault : DiagramFault → Answer → Type 0
TellsDiagramFault f (Text text) = ⊥
TellsDiagramFault f Usage = ⊥
TellsDiagramFault f (Refused r message) = (f.kind ≢ diagram_kind.NoMemory) × (r ≡ refusal.File) × (message.items ≡ diagram_message f)
TellsDiagramFault f (Unread g) = ⊥
TellsDiagramFault f NoMemory = Unit {0}
