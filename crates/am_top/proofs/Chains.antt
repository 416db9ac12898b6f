-- From what the steps come to to the answer of a command.
use Rattle.std.proofs.Common.{◌≡◌, inl, inr, ℕ, subst, sym, Option, Ok, List}
use Rattle.std.proofs.lemmas.Grind.{common_steps}
use Rattle.am_theory.specs.declared.theory.Theory.{Theory as TheoryValue}
use Rattle.am_theory.specs.Contents.{contents}
use Rattle.am_theory.specs.Facts.{WellFormed as WellFormedTheory}
use Rattle.am_theory.specs.Limits.{file_limit}
use Rattle.am_theory.specs.Reading.{theory}
use Rattle.am_diagram.specs.declared.diagram.Diagram.{Diagram as DiagramValue}
use Rattle.am_diagram.specs.Reading.{diagram}
use Rattle.am_top.specs.declared.answer.Answer.{Answer}
use Rattle.am_top.specs.declared.answer.File.TheVariants.{Text as TextFile}
use Rattle.am_top.specs.Answers.{Then, AreBytes, NotLoaded, IsAnswerOf}
use Rattle.am_search.specs.Plain.{Pick}
use Rattle.am_theory.specs.Laws.{ReadTheoriesAreWellFormed}
use Rattle.am_diagram.specs.Laws.{ReadDiagramsAreWellFormed}
use Rattle.am_demo.specs.Files.{theory_text, diagram_text}
use Rattle.am_top.specs.Commands.{IsDiagram, HasDiagramFault, TheoryOf, DiagramOf, FilesOf, TextOf, Checks, Shows, Demonstrates}
use Rattle.am_log.specs.Text.{byte_limit as text_limit}
use Rattle.am_top.specs.Steps.{FoundTheory, FoundDiagram, FoundFiles, IsRead, IsDrawnFrom, NoDiagram, NoFiles, FromDemo, FromText, TheText}

-- ---- one file

pub theory_found : ReadTheoriesAreWellFormed → (told : Option (List ℕ)) (bytes read : List ℕ) (t : TheoryValue) → AreBytes file_limit told bytes → read ≡ bytes → theory read ≡ Ok (contents t) → FoundTheory told t
theory_found law told bytes read t loaded same is = record { well = law read t is; bytes = read; loaded = subst (AreBytes file_limit told) (sym same) loaded; read = is }

pub diagram_found : ReadDiagramsAreWellFormed → (t : TheoryValue) (told : Option (List ℕ)) (bytes read : List ℕ) (d : DiagramValue) → WellFormedTheory t → AreBytes file_limit told bytes → read ≡ bytes → diagram t read ≡ Ok d → FoundDiagram t told d
diagram_found law t told bytes read d well loaded same is = record { well = law t read d well is; bytes = read; loaded = subst (AreBytes file_limit told) (sym same) loaded; read = is }

-- ---- steps in a chain

module _ (told : Option (List ℕ)) (sure : Type 0) (next : TheoryValue → Answer → Type 0) where
  with_theory : (t : TheoryValue) (answer : Answer) → FoundTheory told t → next t answer → TheoryOf told sure next answer
  with_theory t answer found after = inr (found.bytes, found.loaded, inr (t, found.read, after))

module _ (t : TheoryValue) (told : Option (List ℕ)) (sure later : Type 0) (next : DiagramValue → Answer → Type 0) where
  -- a file that was sure stays so
  diagram_refused : (sure → later) → (answer : Answer) → DiagramOf t told later (λ d x. ⊥) answer → DiagramOf t told sure next answer
  diagram_refused stays answer (inl (inl unread)) = inl (inl (unread.0, λ s. unread.1 (stays s)))
  diagram_refused stays answer (inl (inr long)) = inl (inr long)
  diagram_refused stays answer (inr (bytes, loaded, inl fault)) = inr (bytes, loaded, inl fault)
  diagram_refused stays answer (inr (bytes, loaded, inr (d, is, none))) = absurd none

  no_diagram : (sure → later) → (answer : Answer) → NoDiagram t told later answer → IsAnswerOf (DiagramOf t told sure next) answer
  no_diagram stays answer (inl none) = inl none
  no_diagram stays answer (inr not) = inr (diagram_refused stays answer not)

  with_diagram : (d : DiagramValue) (answer : Answer) → FoundDiagram t told d → next d answer → DiagramOf t told sure next answer
  with_diagram d answer found after = inr (found.bytes, found.loaded, inr (d, found.read, after))

-- ---- two files, and a third

-- what needs no file behind a theory and a diagram
abbrev NoMore : TheoryValue → DiagramValue → Answer → Type 0
NoMore t d answer = ⊥

module _ (told : List ℕ → Option (List ℕ)) (sure : List ℕ → Type 0) (first second : List ℕ) where
  module _ (t : TheoryValue) (found : FoundTheory (told first) t) where
    files_later : (answer : Answer) → IsAnswerOf (DiagramOf t (told second) (sure second) (NoMore t)) answer → NoFiles told sure first second answer
    files_later answer (inl none) = inl none
    files_later answer (inr is) = inr (with_theory (told first) (sure first) (λ u. DiagramOf u (told second) (sure second) (NoMore u)) t answer found is)

    pub files_no_diagram : (later : Type 0) (then_told : Option (List ℕ)) (answer : Answer) → (sure second → later) → then_told ≡ told second → NoDiagram t then_told later answer → NoFiles told sure first second answer
    files_no_diagram later then_told answer stays same not =
        files_later answer (no_diagram t (told second) (sure second) later (NoMore t) stays answer (subst (λ (o : Option (List ℕ)). NoDiagram t o later answer) same not))

    pub files_found : (d : DiagramValue) (then_told : Option (List ℕ)) → then_told ≡ told second → FoundDiagram t then_told d → FoundFiles told first second t d
    files_found d then_told same there = record { in_theory = found; in_diagram = subst (λ (o : Option (List ℕ)). FoundDiagram t o d) same there }

  module _ (next : TheoryValue → DiagramValue → Answer → Type 0) where
    files_refused : (answer : Answer) → FilesOf told sure first second NoMore answer → FilesOf told sure first second next answer
    files_refused answer (inl not) = inl not
    files_refused answer (inr (bytes, loaded, inl fault)) = inr (bytes, loaded, inl fault)
    files_refused answer (inr (bytes, loaded, inr (t, is, behind))) = inr (bytes, loaded, inr (t, is, diagram_refused t (told second) (sure second) (sure second) (next t) (λ s. s) answer behind))

    -- where a file wasn't found, the command has its answer
    pub no_files : (answer : Answer) → NoFiles told sure first second answer → IsAnswerOf (FilesOf told sure first second next) answer
    no_files answer (inl none) = inl none
    no_files answer (inr not) = inr (files_refused answer not)

    module _ (t : TheoryValue) (d : DiagramValue) (found : FoundFiles told first second t d) where
      -- the answer of what comes behind the files
      pub with_files : (answer : Answer) → next t d answer → FilesOf told sure first second next answer
      with_files answer after = with_theory (told first) (sure first) (λ u. DiagramOf u (told second) (sure second) (next u)) t answer found.in_theory
          (with_diagram t (told second) (sure second) (sure second) (next t) d answer found.in_diagram after)

      pub behind_files : (answer : Answer) → IsAnswerOf (next t d) answer → IsAnswerOf (FilesOf told sure first second next) answer
      behind_files answer (inl none) = inl none
      behind_files answer (inr is) = inr (with_files answer is)

module _ (told : List ℕ → Option (List ℕ)) (sure : List ℕ → Type 0) (first second third : List ℕ) where
  -- what `check` asks behind the two files
  abbrev pub BehindFiles : TheoryValue → DiagramValue → Answer → Type 0
  BehindFiles t d = TextOf (told third) (sure third) (FromText t d)

  pub check_no_files : (answer : Answer) → NoFiles told sure first second answer → IsAnswerOf (Checks told sure first second third) answer
  check_no_files answer not = no_files told sure first second BehindFiles answer not

  module _ (t : TheoryValue) (d : DiagramValue) (found : FoundFiles told first second t d) where
    text_refused : (later : Type 0) (answer : Answer) → (sure third → later) → NotLoaded TextFile text_limit (told third) later answer → BehindFiles t d answer
    text_refused later answer stays (inl unread) = inl (inl (unread.0, λ s. unread.1 (stays s)))
    text_refused later answer stays (inr long) = inl (inr long)

    text_lost : (later : Type 0) (answer : Answer) → (sure third → later) → IsAnswerOf (NotLoaded TextFile text_limit (told third) later) answer → IsAnswerOf (BehindFiles t d) answer
    text_lost later answer stays (inl none) = inl none
    text_lost later answer stays (inr not) = inr (text_refused later answer stays not)

    pub check_not_loaded : (later : Type 0) (then_told : Option (List ℕ)) (answer : Answer) → (sure third → later) → then_told ≡ told third → IsAnswerOf (NotLoaded TextFile text_limit then_told later) answer
        → IsAnswerOf (Checks told sure first second third) answer
    check_not_loaded later then_told answer stays same not =
        behind_files told sure first second BehindFiles t d found answer
        (text_lost later answer stays (subst (λ (o : Option (List ℕ)). IsAnswerOf (NotLoaded TextFile text_limit o later) answer) same not))

    module _ (x read : List ℕ) (then_told : Option (List ℕ)) (same : then_told ≡ told third) (loaded : AreBytes text_limit then_told x) (one : read ≡ x) where
      these_bytes : AreBytes text_limit (told third) read
      these_bytes = subst (AreBytes text_limit (told third)) (sym one) (subst (λ (o : Option (List ℕ)). AreBytes text_limit o x) same loaded)

      pub check_printed : (answer : Answer) → FromText t d read answer → Checks told sure first second third answer
      check_printed answer is = with_files told sure first second BehindFiles t d found answer (inr (read, these_bytes, is))

      pub check_behind : (answer : Answer) → IsAnswerOf (FromText t d read) answer → IsAnswerOf (Checks told sure first second third) answer
      check_behind answer (inl none) = inl none
      check_behind answer (inr is) = inr (check_printed answer is)

-- ---- demonstrations

module _ (k : ℕ) (pick : Pick) where
  -- what comes behind the theory of a demonstration
  abbrev DemoBehind : TheoryValue → Answer → Type 0
  DemoBehind t = Then (IsDiagram t (diagram_text k)) (HasDiagramFault t (diagram_text k)) (FromDemo k pick t)

  module _ (t : TheoryValue) (read : IsRead (theory_text k) t) where
    pub demo_no_diagram : (answer : Answer) → IsAnswerOf (HasDiagramFault t (diagram_text k)) answer → IsAnswerOf (Demonstrates k pick) answer
    demo_no_diagram answer (inl none) = inl none
    demo_no_diagram answer (inr fault) = let behind : DemoBehind t answer = inl fault in inr (inr (t, read.read, behind))

    module _ (d : DiagramValue) (drawn : IsDrawnFrom t (diagram_text k) d) where
      pub demo_printed : (answer : Answer) → FromDemo k pick t d answer → Demonstrates k pick answer
      demo_printed answer is = let behind : DemoBehind t answer = inr (d, drawn.read, is) in inr (t, read.read, behind)

      pub demo_behind : (answer : Answer) → IsAnswerOf (FromDemo k pick t d) answer → IsAnswerOf (Demonstrates k pick) answer
      demo_behind answer (inl none) = inl none
      demo_behind answer (inr is) = inr (demo_printed answer is)

pub theory_read : ReadTheoriesAreWellFormed → (bytes read : List ℕ) (t : TheoryValue) → read ≡ bytes → theory read ≡ Ok (contents t) → IsRead bytes t
theory_read law bytes read t same is = subst (λ (b : List ℕ). IsRead b t) same (record { well = law read t is; read = is })

pub diagram_read : ReadDiagramsAreWellFormed → (t : TheoryValue) (bytes read : List ℕ) (d : DiagramValue) → WellFormedTheory t → read ≡ bytes → diagram t read ≡ Ok d → IsDrawnFrom t bytes d
diagram_read law t bytes read d well same is = subst (λ (b : List ℕ). IsDrawnFrom t b d) same (record { well = law t read d well is; read = is })

module _ (told : List ℕ → Option (List ℕ)) (sure : List ℕ → Type 0) (first : List ℕ) where
  pub show_text : (t : TheoryValue) (answer : Answer) → FoundTheory (told first) t → TheText t answer → Shows told sure first answer
  show_text t answer found is = with_theory (told first) (sure first) TheText t answer found is

pub ruleset loading = (common_steps)

pub ruleset answering = (common_steps)
