-- Which answer each command has: the order of refusals is the order of its steps.
use Rattle.std.specs.Prelude.{◌≡◌, ◌≤◌, ◌<◌, ◌⊎◌, ℕ, Option, Some, None, Ok, Err, List, length, slice_get}
use Rattle.am_term.specs.declared.term.Term.{Term}
use Rattle.am_clause.specs.declared.row.Log.{Log}
use Rattle.am_theory.specs.declared.theory.Theory.{Theory}
use Rattle.am_theory.specs.declared.fault.TheoryFault.{TheoryFault}
use Rattle.am_theory.specs.Contents.{contents}
use Rattle.am_theory.specs.Limits.{file_limit}
use Rattle.am_theory.specs.Reading.{theory}
use Rattle.am_canon.specs.CanonicalText.{canonical_text}
use Rattle.am_diagram.specs.declared.diagram.Diagram.{Diagram}
use Rattle.am_diagram.specs.declared.fault.DiagramFault.{DiagramFault}
use Rattle.am_diagram.specs.Reading.{diagram}
use Rattle.am_plan.specs.Calls.{calls}
use Rattle.am_log.specs.Text.{byte_limit as text_limit}
use Rattle.am_check.specs.declared.reason.Reason.{Reason}
use Rattle.am_check.specs.Accepted.{Accepted, EndsWith}
use Rattle.am_check.specs.FirstFault.{IsFirstFault}
use Rattle.am_search.specs.Plain.{Pick}
use Rattle.am_search.specs.Searched.{IsSearched}
use Rattle.am_search.specs.declared.outcome.Limits.{Limits}
use Rattle.am_search.specs.declared.outcome.Outcome.{Outcome}
use Rattle.am_search.specs.declared.outcome.Outcome.TheVariants.{Found, Spent, Exhausted, Contradiction}
use Rattle.am_product.specs.Product.{IsProduct, AreRefuted}
use Rattle.am_demo.specs.Files.{theory_text, diagram_text, summary_text}
use Rattle.am_words.specs.declared.command.Command.{Command}
use Rattle.am_words.specs.declared.command.Command.TheVariants.{Make, Check, Theory as TheoryCommand, Demo}
use Rattle.am_top.specs.declared.answer.Answer.{Answer}
use Rattle.am_top.specs.declared.answer.Answer.TheVariants.{Usage}
use Rattle.am_top.specs.declared.answer.File.TheVariants as file
use Rattle.am_top.specs.declared.answer.Refusal.TheVariants as refusal
use Rattle.am_top.specs.Answers.{Then, Where, Prints, Refuses, AreBytes, NotLoaded, IsAnswerOf}
use Rattle.am_top.specs.Messages.{theory_message, diagram_message, refused_message, accepted_text, spent_message, exhausted_message, contradiction_message, long_message}

-- all files that the command names are sure
abbrev pub AllSure : Option Command → (List ℕ → Type 0) → Type 0
AllSure None sure = Unit {0}
AllSure (Some (Make a b budget weight place)) sure = sure a × sure b
AllSure (Some (Check a b x)) sure = sure a × sure b × sure x
AllSure (Some (TheoryCommand a)) sure = sure a
AllSure (Some (Demo k)) sure = Unit {0}

-- ---- steps

-- the bytes are a theory; else the first fault is told
abbrev pub IsTheory : List ℕ → Theory → Type 0
IsTheory a t = theory a ≡ Ok (contents t)

abbrev pub HasTheoryFault : List ℕ → Answer → Type 0
HasTheoryFault a answer = (f : TheoryFault) × (theory a ≡ Err f) × Refuses refusal.File (theory_message f) answer

-- over a theory the bytes are a diagram; else the first fault is told
abbrev pub IsDiagram : Theory → List ℕ → Diagram → Type 0
IsDiagram t b d = diagram t b ≡ Ok d

abbrev pub HasDiagramFault : Theory → List ℕ → Answer → Type 0
HasDiagramFault t b answer = (f : DiagramFault) × (diagram t b ≡ Err f) × Refuses refusal.File (diagram_message f) answer

-- the text isn't accepted; its first fault is told
abbrev pub HasTextFault : Theory → Diagram → List ℕ → Answer → Type 0
HasTextFault t d x answer = (line : ℕ) × (why : Reason) × IsFirstFault t d x line why × Refuses refusal.Text (refused_message line why) answer

-- ---- files as steps

-- the theory file is loaded and read
abbrev pub TheoryOf : Option (List ℕ) → Type 0 → (Theory → Answer → Type 0) → Answer → Type 0
TheoryOf told sure next =
    Then (AreBytes file_limit told) (NotLoaded file.Theory file_limit told sure) (λ a.
    Then (IsTheory a) (HasTheoryFault a) next)

-- over a theory the diagram file is loaded and read
abbrev pub DiagramOf : Theory → Option (List ℕ) → Type 0 → (Diagram → Answer → Type 0) → Answer → Type 0
DiagramOf t told sure next =
    Then (AreBytes file_limit told) (NotLoaded file.Diagram file_limit told sure) (λ b.
    Then (IsDiagram t b) (HasDiagramFault t b) next)

-- the text to check is loaded
abbrev pub TextOf : Option (List ℕ) → Type 0 → (List ℕ → Answer → Type 0) → Answer → Type 0
TextOf told sure next = Then (AreBytes text_limit told) (NotLoaded file.Text text_limit told sure) next

-- ---- the search as a step

-- how a search ended: where something was found, the rest of the chain speaks of the log and of how many inferences were
-- made; else the end is told. Where givens and axioms contradict, no inputs meet the givens in any model of the axioms.
abbrev pub EndsBy : Theory → Diagram → Limits → (Log → ℕ → Answer → Type 0) → Outcome → Answer → Type 0
EndsBy t d limits next (Found log entries choices) answer = next log (length entries) answer
EndsBy t d limits next (Spent entries choices) answer = Refuses refusal.Spent (spent_message limits.budget) answer
EndsBy t d limits next (Exhausted entries choices) answer = Refuses refusal.Exhausted (exhausted_message (length entries)) answer
EndsBy t d limits next (Contradiction log entries choices) answer = AreRefuted t d × Refuses refusal.Contradiction (contradiction_message (length entries)) answer

-- the search of a theory and a diagram by a chooser that picks so
abbrev pub SearchOf : Theory → Diagram → Limits → Pick → (Log → ℕ → Answer → Type 0) → Answer → Type 0
SearchOf t d limits pick next answer = (outcome : Outcome) × IsSearched t d limits pick outcome × EndsBy t d limits next outcome answer

-- the product of the log is longer than a text may be
abbrev pub IsLong : Theory → Diagram → Log → Type 0
IsLong t d log = (text : List ℕ) × IsProduct t d log text × (text_limit < length text)

-- the text is the product of the log, no longer than a text may be, and accepted
abbrev pub IsPrinted : Theory → Diagram → Log → List ℕ → Type 0
IsPrinted t d log text = IsProduct t d log text × (length text ≤ text_limit) × Accepted t d text

-- the product of the log is printed, or it is too long
abbrev pub ProductOf : Theory → Diagram → Log → Answer → Type 0
ProductOf t d log answer = (IsLong t d log × Refuses refusal.Long (long_message text_limit) answer) ⊎ Prints (IsPrinted t d log) answer

-- the line that sums a demonstration up: its size, how many inferences were made, how many different calls the proof's
-- answer asks for, and how many rows the proof has
abbrev pub IsSummary : Theory → ℕ → Log → ℕ → List ℕ → Type 0
IsSummary t k log made text = (terms : List Term) × EndsWith log.rows terms × (text ≡ summary_text k made (length (calls t terms)) (length log.rows))

-- ---- commands

-- the limits of a demonstration
abbrev pub demo_limits : Limits
demo_limits = record { budget = 5000; weight = 400 }

-- what `demo` answers for a size, by a chooser that picks so: the search of two files that are made in memory
abbrev pub Demonstrates : ℕ → Pick → Answer → Type 0
Demonstrates k pick =
    Then (IsTheory (theory_text k)) (HasTheoryFault (theory_text k)) (λ t.
    Then (IsDiagram t (diagram_text k)) (HasDiagramFault t (diagram_text k)) (λ d.
    SearchOf t d demo_limits pick (λ log made.
    Prints (IsSummary t k log made))))

module _ (told : List ℕ → Option (List ℕ)) (sure : List ℕ → Type 0) where
  -- a theory and over it a diagram are loaded and read
  abbrev pub FilesOf : List ℕ → List ℕ → (Theory → Diagram → Answer → Type 0) → Answer → Type 0
  FilesOf first second next = TheoryOf (told first) (sure first) (λ t. DiagramOf t (told second) (sure second) (next t))

  -- what `make` answers over the files of two names, by a chooser that picks so
  abbrev pub Makes : List ℕ → List ℕ → Limits → Pick → Answer → Type 0
  Makes first second limits pick =
      FilesOf first second (λ t d.
      SearchOf t d limits pick (λ log made.
      ProductOf t d log))

  -- what `check` answers over the files of three names
  abbrev pub Checks : List ℕ → List ℕ → List ℕ → Answer → Type 0
  Checks first second third =
      FilesOf first second (λ t d.
      TextOf (told third) (sure third) (λ x.
      Where (Accepted t d x) (HasTextFault t d x) (
      Prints (λ text. text ≡ accepted_text))))

  -- what `theory` answers over the file of a name
  abbrev pub Shows : List ℕ → Answer → Type 0
  Shows first =
      TheoryOf (told first) (sure first) (λ t.
      Prints (λ text. text ≡ canonical_text t))

  -- what a command answers, where the choosers pick so, in order
  abbrev pub Does : List Pick → Command → Answer → Type 0
  Does picks (Make first second budget weight place) answer =
      (pick : Pick) × (slice_get picks place ≡ Some pick) × Makes first second (record { budget = budget; weight = weight }) pick answer
  Does picks (Check first second third) answer = Checks first second third answer
  Does picks (TheoryCommand first) answer = Shows first answer
  Does picks (Demo k) answer = (pick : Pick) × (slice_get picks 0 ≡ Some pick) × Demonstrates k pick answer

  -- what words have as an answer: the usage where they have no reading, else what the command answers
  abbrev pub Says : List Pick → Option Command → Answer → Type 0
  Says picks None answer = answer ≡ Usage
  Says picks (Some c) answer = Does picks c answer

  -- the answer of words; want of memory is free
  abbrev pub HasAnswer : List Pick → Option Command → Answer → Type 0
  HasAnswer picks command = IsAnswerOf (Says picks command)
