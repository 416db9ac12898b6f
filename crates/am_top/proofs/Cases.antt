-- What each command comes to, where its files are told.
use Rattle.std.proofs.Common.{◌≡◌, ◌⊎◌, ◌<◌, inl, inr, ℕ, refl, ap, subst, Option, Some, Ok, List, length}
use Rattle.am_clause.specs.declared.row.Log.{Log}
use Rattle.am_theory.specs.declared.theory.Theory.{Theory as TheoryValue}
use Rattle.am_theory.specs.Contents.{Contents, contents}
use Rattle.am_theory.specs.Reading.{theory}
use Rattle.am_canon.specs.CanonicalText.{canon}
use Rattle.am_diagram.specs.declared.diagram.Diagram.{Diagram as DiagramValue}
use Rattle.am_log.specs.Text.{byte_limit as text_limit}
use Rattle.am_check.specs.declared.reason.Reason.{Reason}
use Rattle.am_check.specs.Accepted.{Accepted}
use Rattle.am_check.specs.FirstFault.{IsFirstFault}
use Rattle.am_search.specs.Laws.{EntriesLaw}
use Rattle.am_search.specs.Plain.{History, Pick}
use Rattle.am_search.specs.Searched.{IsSearched}
use Rattle.am_search.specs.declared.fate.End.TheVariants as end
use Rattle.am_search.specs.declared.fate.Entry.{Entry}
use Rattle.am_search.specs.declared.outcome.Limits.{Limits}
use Rattle.am_search.specs.declared.outcome.Outcome.{Outcome}
use Rattle.am_search.specs.declared.outcome.Outcome.TheVariants.{Found, Spent, Exhausted, Contradiction}
use Rattle.am_demo.specs.Files.{theory_text, diagram_text}
use Rattle.am_top.specs.declared.answer.File.TheVariants.{Text as TextFile}
use Rattle.am_top.specs.declared.answer.Answer.{Answer}
use Rattle.am_top.specs.declared.answer.Refusal.TheVariants as refusal
use Rattle.am_top.specs.declared.status.Status.TheVariants as status
use Rattle.am_top.specs.Answers.{Prints, IsAnswerOf, IsUnread, status_of, text_of}
use Rattle.am_top.specs.Clauses.{AreRead, SaysTheoryFault, SaysDiagramFault, SaysFileFault, SaysDemoFault, IsFound, IsSpent, HasEnded, IsContradiction, IsTooLong, IsDemonstrated}
use Rattle.am_top.specs.Commands.{DiagramOf, TextOf, SearchOf, EndsBy, ProductOf, IsPrinted, IsSummary, Makes, Checks, Shows, Demonstrates, demo_limits}
use Rattle.am_top.specs.Messages.{refused_message, longer, accepted_text, spent_message, exhausted_message, contradiction_message, long_message}
use Rattle.am_top.specs.Steps.{FromDiagram, FromText, TheText}
use Rattle.am_top.proofs.Chains.{BehindFiles}
use Rattle.am_top.proofs.Ends.{IsTold, IsLost, told_so, unread_status, printed_status, theory_case, diagram_case}
use Rattle.am_top.proofs.Histories.{spent_so, exhausted_so, contradicted_so, found_so, found_count}

-- ---- what came of a command

-- a search found nothing
pub data Ended (a b : List ℕ) (limits : Limits) (pick : Pick) (answer : Answer) : Type 0 where
  used_up : IsSpent a b limits pick → IsTold status.Spent (spent_message limits.budget) answer → Ended a b limits pick answer
  nothing_left : (made : ℕ) → HasEnded a b limits pick end.Exhausted made → IsTold status.Exhausted (exhausted_message made) answer → Ended a b limits pick answer
  contradicting : (made : ℕ) → IsContradiction a b limits pick made → IsTold status.Contradiction (contradiction_message made) answer → Ended a b limits pick answer

-- what `make` comes to
pub data Made (a b : List ℕ) (limits : Limits) (pick : Pick) (sure : Type 0) (answer : Answer) : Type 0 where
  lost : IsLost sure answer → Made a b limits pick sure answer
  no_memory : status_of answer ≡ status.NoMemory → (IsUnread answer → ⊥) → Made a b limits pick sure answer
  faulty : (message : List ℕ) → SaysTheoryFault a message ⊎ SaysDiagramFault a b message → IsTold status.File message answer → Made a b limits pick sure answer
  ended : Ended a b limits pick answer → Made a b limits pick sure answer
  too_long : IsTooLong a b limits pick → IsTold status.Long (long_message text_limit) answer → Made a b limits pick sure answer
  printed : (t : TheoryValue) (d : DiagramValue) (h : History) (log : Log) → IsFound a b limits pick t d h log → IsPrinted t d log (text_of answer) → status_of answer ≡ status.Ok → Made a b limits pick sure answer

-- what `check` comes to
pub data Checked (a b x : List ℕ) (sure : Type 0) (answer : Answer) : Type 0 where
  lost : IsLost sure answer → Checked a b x sure answer
  no_memory : status_of answer ≡ status.NoMemory → (IsUnread answer → ⊥) → Checked a b x sure answer
  faulty : (message : List ℕ) → SaysFileFault a b x message → IsTold status.File message answer → Checked a b x sure answer
  not_accepted : (t : TheoryValue) (d : DiagramValue) (line : ℕ) (why : Reason) → AreRead a b t d → IsFirstFault t d x line why → IsTold status.Refused (refused_message line why) answer → Checked a b x sure answer
  is_accepted : (t : TheoryValue) (d : DiagramValue) → AreRead a b t d → Accepted t d x → status_of answer ≡ status.Ok → text_of answer ≡ accepted_text → Checked a b x sure answer

-- what `theory` comes to
pub data Shown (a : List ℕ) (sure : Type 0) (answer : Answer) : Type 0 where
  lost : IsLost sure answer → Shown a sure answer
  no_memory : status_of answer ≡ status.NoMemory → (IsUnread answer → ⊥) → Shown a sure answer
  faulty : (message : List ℕ) → SaysTheoryFault a message → IsTold status.File message answer → Shown a sure answer
  printed : (c : Contents) → theory a ≡ Ok c → text_of answer ≡ canon c → status_of answer ≡ status.Ok → Shown a sure answer

-- what `demo` comes to
pub data Demonstrated (k : ℕ) (pick : Pick) (answer : Answer) : Type 0 where
  no_memory : status_of answer ≡ status.NoMemory → Demonstrated k pick answer
  faulty : (message : List ℕ) → SaysDemoFault k message → IsTold status.File message answer → Demonstrated k pick answer
  ended : Ended (theory_text k) (diagram_text k) demo_limits pick answer → Demonstrated k pick answer
  printed : (t : TheoryValue) (d : DiagramValue) (h : History) (log : Log) → IsFound (theory_text k) (diagram_text k) demo_limits pick t d h log → IsDemonstrated k pick (text_of answer) → status_of answer ≡ status.Ok → Demonstrated k pick answer

-- ---- searches

module _ (law : EntriesLaw) (a b : List ℕ) (limits : Limits) (pick : Pick) (t : TheoryValue) (d : DiagramValue) (files : AreRead a b t d) (answer : Answer) (next : Log → ℕ → Answer → Type 0) where
  -- a search ends without a log, or what is behind it has the answer
  abbrev Searched : Type 0
  Searched = Ended a b limits pick answer ⊎ ((log : Log) × (es : List Entry) × (ns : List ℕ) × IsSearched t d limits pick (Found log es ns) × next log (length es) answer)

  by_outcome : (o : Outcome) → IsSearched t d limits pick o → EndsBy t d limits next o answer → Searched
  by_outcome (Found log es ns) s ends = inr (log, es, ns, s, ends)
  by_outcome (Spent es ns) s ends = inl (used_up (spent_so law a b limits pick t d files es ns s) (told_so refusal.Spent _ answer ends))
  by_outcome (Exhausted es ns) s ends = inl (nothing_left (length es) (exhausted_so law a b limits pick t d files es ns s) (told_so refusal.Exhausted _ answer ends))
  by_outcome (Contradiction log es ns) s ends = inl (contradicting (length es) (contradicted_so law a b limits pick t d files log es ns s ends.0) (told_so refusal.Contradiction _ answer ends.1))

  search_case : SearchOf t d limits pick next answer → Searched
  search_case (o, searched, ends) = by_outcome o searched ends

-- ---- commands

module _ (law : EntriesLaw) (told : List ℕ → Option (List ℕ)) (sure : List ℕ → Type 0) (answer : Answer) where
  abbrev pub BothSure : List ℕ → List ℕ → Type 0
  BothSure first second = sure first × sure second

  -- what comes of a product
  made_of : (a b : List ℕ) (limits : Limits) (pick : Pick) (is_sure : Type 0) (t : TheoryValue) (d : DiagramValue) → AreRead a b t d → FromDiagram limits pick t d answer → Made a b limits pick is_sure answer
  made_of a b limits pick is_sure t d files h = elim (search_case law a b limits pick t d files answer (λ log made. ProductOf t d log) h) [
    | inl e ↦ ended e
    | inr (log, es, ns, s, inl (long, refused)) ↦ too_long (t, d, s.history, log, found_so law a b limits pick t d files log es ns s, long) (told_so refusal.Long _ answer refused)
    | inr (log, es, ns, s, inr prints) ↦ let p = printed_status _ answer prints in printed t d s.history log (found_so law a b limits pick t d files log es ns s) p.1 p.0
  ]

  pub make_case : (first second a b : List ℕ) (limits : Limits) (pick : Pick) → told first ≡ Some a → told second ≡ Some b → IsAnswerOf (Makes told sure first second limits pick) answer → Made a b limits pick (BothSure first second) answer
  make_case first second a b limits pick ea eb (inl none) = no_memory (ap status_of none) (λ u. subst IsUnread none u)
  make_case first second a b limits pick ea eb (inr h) = elim (theory_case (told first) (sure first) a ea answer (λ t. DiagramOf t (told second) (sure second) (FromDiagram limits pick t)) h) [
    | inl l ↦ lost (record { status = l.status; unread = l.unread; unsure = λ s. l.unsure s.0 })
    | inr (inl (message, says, is)) ↦ faulty message (inl says) is
    | inr (inr (t, is_theory, after)) ↦ elim (diagram_case (told second) (sure second) b eb answer t (FromDiagram limits pick t) after) [
      | inl l ↦ lost (record { status = l.status; unread = l.unread; unsure = λ s. l.unsure s.1 })
      | inr (inl (message, says, is)) ↦ faulty message (inr (t, is_theory, says)) is
      | inr (inr (d, is_diagram, more)) ↦ made_of a b limits pick (BothSure first second) t d (record { is_theory = is_theory; is_diagram = is_diagram }) more
    ]
  ]

  pub demo_case : (k : ℕ) (pick : Pick) → IsAnswerOf (Demonstrates k pick) answer → Demonstrated k pick answer
  demo_case k pick (inl none) = no_memory (ap status_of none)
  demo_case k pick (inr (inl (f, is, refused))) = faulty _ (inl (f, is, refl)) (told_so refusal.File _ answer refused)
  demo_case k pick (inr (inr (t, is_theory, inl (f, is, refused)))) = faulty _ (inr (t, is_theory, (f, is, refl))) (told_so refusal.File _ answer refused)
  demo_case k pick (inr (inr (t, is_theory, inr (d, is_diagram, h)))) = by_search (record { is_theory = is_theory; is_diagram = is_diagram })
    where
      by_search : AreRead (theory_text k) (diagram_text k) t d → Demonstrated k pick answer
      by_search files = elim (search_case law (theory_text k) (diagram_text k) demo_limits pick t d files answer (λ log made. Prints (IsSummary t k log made)) h) [
        | inl e ↦ ended e
        | inr (log, es, ns, s, prints) ↦
            let p = printed_status _ answer prints in
            let found = found_so law (theory_text k) (diagram_text k) demo_limits pick t d files log es ns s in
            printed t d s.history log found (t, d, s.history, log, found, subst (λ (n : ℕ). IsSummary t k log n (text_of answer)) (found_count law (theory_text k) (diagram_text k) demo_limits pick t d files log es ns s) p.1) p.0
      ]

  abbrev pub AllThree : List ℕ → List ℕ → List ℕ → Type 0
  AllThree first second third = sure first × sure second × sure third

  text_case : (third x : List ℕ) → told third ≡ Some x → (t : TheoryValue) (d : DiagramValue) → TextOf (told third) (sure third) (FromText t d) answer
      → IsLost (sure third) answer ⊎ (((text_limit < length x) × IsTold status.File (longer TextFile text_limit) answer) ⊎ FromText t d x answer)
  text_case third x ex t d (inl (inl (unread, unsure))) = let s = unread_status TextFile answer unread in inl (record { status = s.0; unread = s.1; unsure = unsure })
  text_case third x ex t d (inl (inr (refused, long))) = inr (inl (long x ex, told_so refusal.File _ answer refused))
  text_case third x ex t d (inr (bytes, loaded, after)) = inr (inr (subst (λ (y : List ℕ). FromText t d y answer) (loaded.same x ex) after))

  pub check_case : (first second third a b x : List ℕ) → told first ≡ Some a → told second ≡ Some b → told third ≡ Some x → IsAnswerOf (Checks told sure first second third) answer → Checked a b x (AllThree first second third) answer
  check_case first second third a b x ea eb ex (inl none) = no_memory (ap status_of none) (λ u. subst IsUnread none u)
  check_case first second third a b x ea eb ex (inr h) = elim (theory_case (told first) (sure first) a ea answer (λ t. DiagramOf t (told second) (sure second) (BehindFiles told sure first second third t)) h) [
    | inl l ↦ lost (record { status = l.status; unread = l.unread; unsure = λ s. l.unsure s.0 })
    | inr (inl (message, says, is)) ↦ faulty message (inl says) is
    | inr (inr (t, is_theory, after)) ↦ elim (diagram_case (told second) (sure second) b eb answer t (BehindFiles told sure first second third t) after) [
      | inl l ↦ lost (record { status = l.status; unread = l.unread; unsure = λ s. l.unsure s.1 })
      | inr (inl (message, says, is)) ↦ faulty message (inr (t, is_theory, inl says)) is
      | inr (inr (d, is_diagram, more)) ↦ elim (text_case third x ex t d more) [
        | inl l ↦ lost (record { status = l.status; unread = l.unread; unsure = λ s. l.unsure s.2 })
        | inr (inl (long, is)) ↦ faulty _ (inr (t, is_theory, inr (d, is_diagram, long, refl))) is
        | inr (inr (inl (line, why, fault, says))) ↦ not_accepted t d line why (record { is_theory = is_theory; is_diagram = is_diagram }) fault (told_so refusal.Text _ answer says)
        | inr (inr (inr (good, prints))) ↦ let p = printed_status _ answer prints in is_accepted t d (record { is_theory = is_theory; is_diagram = is_diagram }) good p.0 p.1
      ]
    ]
  ]

  pub show_case : (first a : List ℕ) → told first ≡ Some a → IsAnswerOf (Shows told sure first) answer → Shown a (sure first) answer
  show_case first a ea (inl none) = no_memory (ap status_of none) (λ u. subst IsUnread none u)
  show_case first a ea (inr h) = elim (theory_case (told first) (sure first) a ea answer TheText h) [
    | inl l ↦ lost l
    | inr (inl (message, says, is)) ↦ faulty message says is
    | inr (inr (t, is_theory, prints)) ↦ let p = printed_status _ answer prints in printed (contents t) is_theory p.1 p.0
  ]
