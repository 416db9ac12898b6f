-- What single clauses of a run say, where the library tells the files that the words name.
use Rattle.std.specs.Prelude.{◌≡◌, ◌<◌, ◌⊎◌, ℕ, String, Option, Some, None, Err, List, length, map, slice_get, string_bytes}
use Rattle.am_outside.specs.Causes.{Rose}
use Rattle.am_clause.specs.declared.row.Log.{Log}
use Rattle.am_clause.specs.declared.row.Row.{Row}
use Rattle.am_theory.specs.declared.theory.Theory.{Theory}
use Rattle.am_theory.specs.declared.fault.TheoryFault.{TheoryFault}
use Rattle.am_theory.specs.Limits.{file_limit}
use Rattle.am_theory.specs.Reading.{theory}
use Rattle.am_diagram.specs.declared.diagram.Diagram.{Diagram}
use Rattle.am_diagram.specs.declared.fault.DiagramFault.{DiagramFault}
use Rattle.am_diagram.specs.Reading.{diagram}
use Rattle.am_diagram.specs.Steps.{formulas_of}
use Rattle.am_world.specs.Interpretation.{Interpretation}
use Rattle.am_world.specs.Truth.{Models}
use Rattle.am_exec.specs.Right.{Right}
use Rattle.am_log.specs.Text.{byte_limit as text_limit}
use Rattle.am_check.specs.declared.reason.Reason.{Reason}
use Rattle.am_check.specs.Accepted.{Accepted}
use Rattle.am_check.specs.FirstFault.{IsFirstFault}
use Rattle.am_search.specs.Plain.{History, Pick, Picked, Plain, Infers, due, inferences, judged, rows}
use Rattle.am_search.specs.Searched.{IsLogOf, rules_for}
use Rattle.am_search.specs.Starting.{starting_rows}
use Rattle.am_search.specs.declared.fate.End.{End}
use Rattle.am_search.specs.declared.fate.End.TheVariants as end
use Rattle.am_search.specs.declared.outcome.Limits.{Limits}
use Rattle.am_product.specs.Product.{AreRefuted}
use Rattle.am_demo.specs.Files.{theory_text, diagram_text}
use Rattle.am_words.specs.Commands.{reading}
use Rattle.am_words.specs.declared.command.Command.{Command}
use Rattle.am_words.specs.declared.command.Command.TheVariants.{Make, Check, Theory as TheoryCommand, Demo}
use Rattle.am_top.specs.declared.answer.File.TheVariants as file
use Rattle.am_top.specs.declared.status.Status.{Status}
use Rattle.am_top.specs.declared.status.Status.TheVariants as status
use Rattle.am_top.specs.Commands.{IsTheory, IsDiagram, IsPrinted, IsLong, IsSummary, demo_limits}
use Rattle.am_top.specs.Messages.{longer, theory_message, diagram_message, refused_message}

-- the command that the words are, if they are one
abbrev pub command_in : {Z : Type 0} → List (String Z) → Option Command
command_in words = reading (map string_bytes words)

-- a fact that holds where none of three counts of faults rose: those of the library, of the texts' and of the messages' sink
abbrev pub WhereNoneRose : ℕ → ℕ → ℕ → ℕ → ℕ → ℕ → Type 0 → Type 0
WhereNoneRose library library_now out out_now err err_now Fact =
    (Rose library library_now → ⊥) → (Rose out out_now → ⊥) → (Rose err err_now → ⊥) → Fact

-- ---- facts of what the words name

-- a fact of the two files of `make`, where both are told, with its limits and what its chooser picks
abbrev pub WhereMade : Option Command → (List ℕ → Option (List ℕ)) → List Pick → (List ℕ → List ℕ → Limits → Pick → Type 0) → Type 0
WhereMade command told picks Fact =
    (first second a b : List ℕ) (budget weight place : ℕ) (pick : Pick) → command ≡ Some (Make first second budget weight place)
    → told first ≡ Some a → told second ≡ Some b → slice_get picks place ≡ Some pick → Fact a b (record { budget = budget; weight = weight }) pick

-- a fact of the three files of `check`, where all are told
abbrev pub WhereChecked : Option Command → (List ℕ → Option (List ℕ)) → (List ℕ → List ℕ → List ℕ → Type 0) → Type 0
WhereChecked command told Fact = (first second third a b x : List ℕ) → command ≡ Some (Check first second third) → told first ≡ Some a → told second ≡ Some b → told third ≡ Some x → Fact a b x

-- a fact of the file of `theory`, where it is told
abbrev pub WhereShown : Option Command → (List ℕ → Option (List ℕ)) → (List ℕ → Type 0) → Type 0
WhereShown command told Fact = (first a : List ℕ) → command ≡ Some (TheoryCommand first) → told first ≡ Some a → Fact a

-- a fact of the size of `demo`, with what its chooser picks
abbrev pub WhereDemonstrated : Option Command → List Pick → (ℕ → Pick → Type 0) → Type 0
WhereDemonstrated command picks Fact = (k : ℕ) (pick : Pick) → command ≡ Some (Demo k) → slice_get picks 0 ≡ Some pick → Fact k pick

-- the command searches over these two files, within these limits, by a chooser that picks so
abbrev pub SearchesOver : (List ℕ → Option (List ℕ)) → List Pick → Command → List ℕ → List ℕ → Limits → Pick → Type 0
SearchesOver told picks (Make first second budget weight place) a b limits pick =
    (told first ≡ Some a) × (told second ≡ Some b) × (limits ≡ record { budget = budget; weight = weight }) × (slice_get picks place ≡ Some pick)
SearchesOver told picks (Check first second third) a b limits pick = ⊥
SearchesOver told picks (TheoryCommand first) a b limits pick = ⊥
SearchesOver told picks (Demo k) a b limits pick = (a ≡ theory_text k) × (b ≡ diagram_text k) × (limits ≡ demo_limits) × (slice_get picks 0 ≡ Some pick)

-- a fact of the two files that a command searches over
abbrev pub WhereSearched : Option Command → (List ℕ → Option (List ℕ)) → List Pick → (List ℕ → List ℕ → Limits → Pick → Type 0) → Type 0
WhereSearched command told picks Fact =
    (c : Command) (a b : List ℕ) (limits : Limits) (pick : Pick) → command ≡ Some c → SearchesOver told picks c a b limits pick → Fact a b limits pick

-- the words are those of `make` or `demo`
abbrev pub IsSearch : Option Command → Type 0
IsSearch None = ⊥
IsSearch (Some (Make first second budget weight place)) = Unit {0}
IsSearch (Some (Check first second third)) = ⊥
IsSearch (Some (TheoryCommand first)) = ⊥
IsSearch (Some (Demo k)) = Unit {0}

-- the words are those of `make`
abbrev pub IsMake : Option Command → Type 0
IsMake None = ⊥
IsMake (Some (Make first second budget weight place)) = Unit {0}
IsMake (Some (Check first second third)) = ⊥
IsMake (Some (TheoryCommand first)) = ⊥
IsMake (Some (Demo k)) = ⊥

-- the words are those of `check`
abbrev pub IsCheck : Option Command → Type 0
IsCheck None = ⊥
IsCheck (Some (Make first second budget weight place)) = ⊥
IsCheck (Some (Check first second third)) = Unit {0}
IsCheck (Some (TheoryCommand first)) = ⊥
IsCheck (Some (Demo k)) = ⊥

-- ---- files

-- the files are a theory and a diagram over it
pub record AreRead (a b : List ℕ) (t : Theory) (d : Diagram) : Type 0 where
  pub is_theory : IsTheory a t
  pub is_diagram : IsDiagram t b d

-- the theory file has a fault, and the message says so
abbrev pub SaysTheoryKind : List ℕ → List ℕ → Type 0
SaysTheoryKind a message = (f : TheoryFault) × (theory a ≡ Err f) × (message ≡ theory_message f)

-- the theory file is too long, or has a fault, and the message says so
abbrev pub SaysTheoryFault : List ℕ → List ℕ → Type 0
SaysTheoryFault a message = ((file_limit < length a) × (message ≡ longer file.Theory file_limit)) ⊎ SaysTheoryKind a message

-- over a theory the diagram file has a fault, and the message says so
abbrev pub SaysDiagramKind : Theory → List ℕ → List ℕ → Type 0
SaysDiagramKind t b message = (f : DiagramFault) × (diagram t b ≡ Err f) × (message ≡ diagram_message f)

-- over a theory the diagram file is too long, or has a fault, and the message says so
abbrev pub SaysFaultOver : Theory → List ℕ → List ℕ → Type 0
SaysFaultOver t b message = ((file_limit < length b) × (message ≡ longer file.Diagram file_limit)) ⊎ SaysDiagramKind t b message

-- the theory file is a theory, and over it the diagram file is at fault
abbrev pub SaysDiagramFault : List ℕ → List ℕ → List ℕ → Type 0
SaysDiagramFault a b message = (t : Theory) × IsTheory a t × SaysFaultOver t b message

-- a file of `check` is too long or has a fault, and the message says so
abbrev pub SaysFileFault : List ℕ → List ℕ → List ℕ → List ℕ → Type 0
SaysFileFault a b x message =
    SaysTheoryFault a message
    ⊎ ((t : Theory) × IsTheory a t × (SaysFaultOver t b message ⊎ ((d : Diagram) × IsDiagram t b d × (text_limit < length x) × (message ≡ longer file.Text text_limit))))

-- a file of a demonstration has a fault, and the message says so
abbrev pub SaysDemoFault : ℕ → List ℕ → Type 0
SaysDemoFault k message = SaysTheoryKind (theory_text k) message ⊎ ((t : Theory) × IsTheory (theory_text k) t × SaysDiagramKind t (diagram_text k) message)

-- ---- searches

-- the plain search of a theory and a diagram, within the limits and by a chooser that picks so, has this history and end
pub record IsHistoryOf (t : Theory) (d : Diagram) (limits : Limits) (pick : Pick) (h : History) (e : End) : Type 0 where
  pub plain : Plain (rules_for t d limits.weight) (starting_rows t d) limits.budget h e
  pub picked : Picked pick (rules_for t d limits.weight) (starting_rows t d) h

-- the plain search over two files has made so many inferences at this end
pub record HasEnded (a b : List ℕ) (limits : Limits) (pick : Pick) (e : End) (made : ℕ) : Type 0 where
  pub t : Theory
  pub d : Diagram
  pub files : AreRead a b t d
  pub history : History
  pub is : IsHistoryOf t d limits pick history e
  pub counts : made ≡ inferences history

-- the plain search over two files has made as many inferences as the budget is, and another is due
pub record IsSpent (a b : List ℕ) (limits : Limits) (pick : Pick) : Type 0 where
  pub ended : HasEnded a b limits pick end.Spent limits.budget
  pub row : Row
  pub another : due (rules_for ended.t ended.d limits.weight) (starting_rows ended.t ended.d) ended.history ≡ Infers row

-- it has shown that no inputs meet the givens in any model of the axioms
pub record IsContradiction (a b : List ℕ) (limits : Limits) (pick : Pick) (made : ℕ) : Type 0 where
  pub ended : HasEnded a b limits pick end.Contradiction made
  pub refuted : AreRefuted ended.t ended.d

-- the plain search over two files has found an answer, with this history and this log of its last row
pub record IsFound (a b : List ℕ) (limits : Limits) (pick : Pick) (t : Theory) (d : Diagram) (h : History) (log : Log) : Type 0 where
  pub files : AreRead a b t d
  pub is : IsHistoryOf t d limits pick h end.Found
  pub log_is : IsLogOf (rows (starting_rows t d) h) (judged (rules_for t d limits.weight) (starting_rows t d) h).fates log.rows

-- the text is the product of what was found; it is accepted, and in each model of the theory's axioms its unit is right
pub record IsMade (a b : List ℕ) (limits : Limits) (pick : Pick) (text : List ℕ) : Type 0 where
  pub t : Theory
  pub d : Diagram
  pub history : History
  pub log : Log
  pub found : IsFound a b limits pick t d history log
  pub printed : IsPrinted t d log text
  pub right : (w : Interpretation) → Models t.sig (formulas_of t) w → Right w t d printed.2.unit

-- the product of what was found is longer than a text may be
abbrev pub IsTooLong : List ℕ → List ℕ → Limits → Pick → Type 0
IsTooLong a b limits pick = (t : Theory) × (d : Diagram) × (h : History) × (log : Log) × IsFound a b limits pick t d h log × IsLong t d log

-- the text sums up what was found in a demonstration
abbrev pub IsDemonstrated : ℕ → Pick → List ℕ → Type 0
IsDemonstrated k pick text =
    (t : Theory) × (d : Diagram) × (h : History) × (log : Log) × IsFound (theory_text k) (diagram_text k) demo_limits pick t d h log × IsSummary t k log (inferences h) text

-- the status of a search that ended so; a text that was found may be too long
abbrev pub Comes : End → Status → Type 0
Comes end.Found s = (s ≡ status.Ok) ⊎ (s ≡ status.Long) ⊎ (s ≡ status.NoMemory)
Comes end.Spent s = (s ≡ status.Spent) ⊎ (s ≡ status.NoMemory)
Comes end.Exhausted s = (s ≡ status.Exhausted) ⊎ (s ≡ status.NoMemory)
Comes end.Contradiction s = (s ≡ status.Contradiction) ⊎ (s ≡ status.NoMemory)

-- ---- checks

-- the text is accepted for the diagram of the files, and in each model of the theory's axioms its unit is right
pub record IsAccepted (a b x : List ℕ) : Type 0 where
  pub t : Theory
  pub d : Diagram
  pub files : AreRead a b t d
  pub accepted : Accepted t d x
  pub right : (w : Interpretation) → Models t.sig (formulas_of t) w → Right w t d accepted.unit

-- the text isn't accepted for the diagram of the files, and the message tells its first fault
pub record IsRefused (a b x message : List ℕ) : Type 0 where
  pub t : Theory
  pub d : Diagram
  pub files : AreRead a b t d
  pub line : ℕ
  pub why : Reason
  pub fault : IsFirstFault t d x line why
  pub says : message ≡ refused_message line why
