-- Which statuses each command may have.
use Rattle.std.proofs.Common.{◌≡◌, inl, inr, ℕ, refl, ap, sym, ◌∙◌, subst, Bool, true, false, true≢false, Option, Some, None, List}
use Rattle.am_theory.specs.declared.theory.Theory.{Theory as TheoryValue}
use Rattle.am_diagram.specs.declared.diagram.Diagram.{Diagram as DiagramValue}
use Rattle.am_clause.specs.declared.row.Log.{Log}
use Rattle.am_log.specs.Text.{byte_limit as text_limit}
use Rattle.am_search.specs.Plain.{Pick}
use Rattle.am_search.specs.declared.outcome.Limits.{Limits}
use Rattle.am_words.specs.declared.command.Command.{Command}
use Rattle.am_words.specs.declared.command.Command.TheVariants.{Make, Check, Theory as TheoryCommand, Demo}
use Rattle.am_top.specs.declared.answer.Answer.{Answer}
use Rattle.am_top.specs.declared.answer.File.TheVariants.{Text as TextFile}
use Rattle.am_top.specs.declared.answer.Refusal.TheVariants as refusal
use Rattle.am_top.specs.declared.status.Status.{Status}
use Rattle.am_top.specs.declared.status.Status.TheVariants as status
use Rattle.am_top.specs.Answers.{Prints, status_of, IsUnread}
use Rattle.am_top.specs.Commands.{AllSure, TextOf, DiagramOf, ProductOf, Makes, Checks, Shows, Demonstrates, IsSummary, Does, HasAnswer, demo_limits}
use Rattle.am_top.specs.Clauses.{IsSearch, IsMake, IsCheck}
use Rattle.am_top.specs.Steps.{FromDiagram, FromText, TheText}
use Rattle.am_top.proofs.Chains.{BehindFiles}
use Rattle.am_top.proofs.Ends.{refused_may, printed_may, not_loaded_may, theory_may, diagram_may, search_may, unread_answer}

-- ---- what holds of the statuses of a command's refusals holds of its status

module _ (ok : Status → Bool) (answer : Answer) (printed : ok status.Ok ≡ true) (faulty : ok status.File ≡ true) (told : List ℕ → Option (List ℕ)) (sure : List ℕ → Type 0) where
  abbrev Lost : List ℕ → Type 0
  Lost n = (sure n → ⊥) → ok status.Read ≡ true

  made_may : ok status.Spent ≡ true → ok status.Exhausted ≡ true → ok status.Contradiction ≡ true → ok status.Long ≡ true → (first second : List ℕ) → Lost first → Lost second → (limits : Limits) (pick : Pick)
      → Makes told sure first second limits pick answer → ok (status_of answer) ≡ true
  made_may spent exhausted contradicts long first second lost lost_too limits pick h =
      theory_may ok answer faulty (told first) (sure first) lost (λ t. DiagramOf t (told second) (sure second) (FromDiagram limits pick t))
      (λ t after. diagram_may ok answer faulty t (told second) (sure second) lost_too (FromDiagram limits pick t) (λ d more. search_may ok answer spent exhausted contradicts t d limits pick (λ log made. ProductOf t d log) (by_product t d) more) after) h
    where
      by_product : (t : TheoryValue) (d : DiagramValue) (log : Log) (made : ℕ) → ProductOf t d log answer → ok (status_of answer) ≡ true
      by_product t d log made (inl (is, refused)) = refused_may ok answer refusal.Long _ long refused
      by_product t d log made (inr prints) = printed_may ok answer _ printed prints

  checked_may : ok status.Refused ≡ true → (first second third : List ℕ) → Lost first → Lost second → Lost third → Checks told sure first second third answer → ok (status_of answer) ≡ true
  checked_may bad first second third lost lost_too lost_text h =
      theory_may ok answer faulty (told first) (sure first) lost (λ t. DiagramOf t (told second) (sure second) (BehindFiles told sure first second third t))
      (λ t after. diagram_may ok answer faulty t (told second) (sure second) lost_too (BehindFiles told sure first second third t) (λ d more. by_text t d more) after) h
    where
      by_text : (t : TheoryValue) (d : DiagramValue) → TextOf (told third) (sure third) (FromText t d) answer → ok (status_of answer) ≡ true
      by_text t d (inl not) = not_loaded_may ok answer faulty TextFile text_limit (told third) (sure third) lost_text not
      by_text t d (inr (bytes, loaded, inl (line, why, fault, refused))) = refused_may ok answer refusal.Text _ bad refused
      by_text t d (inr (bytes, loaded, inr (good, prints))) = printed_may ok answer _ printed prints

  shown_may : (first : List ℕ) → Lost first → Shows told sure first answer → ok (status_of answer) ≡ true
  shown_may first lost h = theory_may ok answer faulty (told first) (sure first) lost TheText (λ t prints. printed_may ok answer _ printed prints) h

  demo_may : ok status.Spent ≡ true → ok status.Exhausted ≡ true → ok status.Contradiction ≡ true → (k : ℕ) (pick : Pick) → Demonstrates k pick answer → ok (status_of answer) ≡ true
  demo_may spent exhausted contradicts k pick (inl (f, is, refused)) = refused_may ok answer refusal.File _ faulty refused
  demo_may spent exhausted contradicts k pick (inr (t, is, inl (f, is_too, refused))) = refused_may ok answer refusal.File _ faulty refused
  demo_may spent exhausted contradicts k pick (inr (t, is, inr (d, is_too, more))) = search_may ok answer spent exhausted contradicts t d demo_limits pick (λ log made. Prints (IsSummary t k log made)) (λ log made prints. printed_may ok answer (IsSummary t k log made) printed prints) more

-- ---- where all names are sure

abbrev is_no_read : Status → Bool
is_no_read status.Ok = true
is_no_read status.Usage = true
is_no_read status.File = true
is_no_read status.Spent = true
is_no_read status.Exhausted = true
is_no_read status.Refused = true
is_no_read status.Read = false
is_no_read status.Write = true
is_no_read status.NoMemory = true
is_no_read status.Contradiction = true
is_no_read status.Long = true

module _ (told : List ℕ → Option (List ℕ)) (sure : List ℕ → Type 0) (picks : List Pick) (answer : Answer) where
  sure_of : (n : List ℕ) → sure n → (sure n → ⊥) → is_no_read status.Read ≡ true
  sure_of n s unsure = absurd (unsure s)

  does_read : (c : Command) → AllSure (Some c) sure → Does told sure picks c answer → is_no_read (status_of answer) ≡ true
  does_read (Make first second budget weight place) s (pick, chosen, h) = made_may is_no_read answer refl refl told sure refl refl refl refl first second (sure_of first s.0) (sure_of second s.1) _ pick h
  does_read (Check first second third) s h = checked_may is_no_read answer refl refl told sure refl first second third (sure_of first s.0) (sure_of second s.1) (sure_of third s.2) h
  does_read (TheoryCommand first) s h = shown_may is_no_read answer refl refl told sure first (sure_of first s) h
  does_read (Demo k) s (pick, chosen, h) = demo_may is_no_read answer refl refl told sure refl refl refl k pick h

  sure_read : (command : Option Command) → AllSure command sure → HasAnswer told sure picks command answer → is_no_read (status_of answer) ≡ true
  sure_read command s (inl none) = ap (λ (x : Answer). is_no_read (status_of x)) none
  sure_read None s (inr h) = ap (λ (x : Answer). is_no_read (status_of x)) h
  sure_read (Some c) s (inr h) = does_read c s h

  -- where all files that the words name are sure, no file is unread
  pub never_unread : (command : Option Command) → AllSure command sure → HasAnswer told sure picks command answer → IsUnread answer → ⊥
  never_unread command s h u = true≢false (sym (sure_read command s h) ∙ ap is_no_read (unread_answer answer u))

-- ---- which command has which status

abbrev may : Command → Status → Bool
may c status.Ok = true
may c status.Usage = false
may c status.File = true
may (Make first second budget weight place) status.Spent = true
may (Check first second third) status.Spent = false
may (TheoryCommand first) status.Spent = false
may (Demo k) status.Spent = true
may (Make first second budget weight place) status.Exhausted = true
may (Check first second third) status.Exhausted = false
may (TheoryCommand first) status.Exhausted = false
may (Demo k) status.Exhausted = true
may (Make first second budget weight place) status.Refused = false
may (Check first second third) status.Refused = true
may (TheoryCommand first) status.Refused = false
may (Demo k) status.Refused = false
may c status.Read = true
may c status.Write = false
may c status.NoMemory = true
may (Make first second budget weight place) status.Contradiction = true
may (Check first second third) status.Contradiction = false
may (TheoryCommand first) status.Contradiction = false
may (Demo k) status.Contradiction = true
may (Make first second budget weight place) status.Long = true
may (Check first second third) status.Long = false
may (TheoryCommand first) status.Long = false
may (Demo k) status.Long = false

module _ (told : List ℕ → Option (List ℕ)) (sure : List ℕ → Type 0) (picks : List Pick) (answer : Answer) where
  does_may : (c : Command) → Does told sure picks c answer → may c (status_of answer) ≡ true
  does_may (Make first second budget weight place) (pick, chosen, h) = made_may (may (Make first second budget weight place)) answer refl refl told sure refl refl refl refl first second (λ u. refl) (λ u. refl) _ pick h
  does_may (Check first second third) h = checked_may (may (Check first second third)) answer refl refl told sure refl first second third (λ u. refl) (λ u. refl) (λ u. refl) h
  does_may (TheoryCommand first) h = shown_may (may (TheoryCommand first)) answer refl refl told sure first (λ u. refl) h
  does_may (Demo k) (pick, chosen, h) = demo_may (may (Demo k)) answer refl refl told sure refl refl refl k pick h

  -- a status that neither words without a reading nor want of memory have is one of the command's
  by_command : (s : Status) (Is : Option Command → Type 0) → (s ≡ status.NoMemory → ⊥) → (s ≡ status.Usage → ⊥) → ((c : Command) → may c s ≡ true → Is (Some c))
      → (command : Option Command) → HasAnswer told sure picks command answer → status_of answer ≡ s → Is command
  by_command s Is memory usage is command (inl none) e = absurd (memory (sym e ∙ ap status_of none))
  by_command s Is memory usage is None (inr h) e = absurd (usage (sym e ∙ ap status_of h))
  by_command s Is memory usage is (Some c) (inr h) e = is c (subst (λ (x : Status). may c x ≡ true) e (does_may c h))

  pub usage_by_none : (command : Option Command) → HasAnswer told sure picks command answer → status_of answer ≡ status.Usage → command ≡ None
  usage_by_none command (inl none) e = absurd (apart (sym e ∙ ap status_of none))
    where
      apart : status.Usage ≡ status.NoMemory → ⊥
      apart k = cc
  usage_by_none None (inr h) e = refl
  usage_by_none (Some c) (inr h) e = absurd (true≢false (sym (subst (λ (x : Status). may c x ≡ true) e (does_may c h))))

  pub refused_by_check : (command : Option Command) → HasAnswer told sure picks command answer → status_of answer ≡ status.Refused → IsCheck command
  refused_by_check = by_command status.Refused IsCheck (λ e. cc) (λ e. cc) one
    where
      one : (c : Command) → may c status.Refused ≡ true → IsCheck (Some c)
      one (Make first second budget weight place) h = absurd (true≢false (sym h))
      one (Check first second third) h = tt
      one (TheoryCommand first) h = absurd (true≢false (sym h))
      one (Demo k) h = absurd (true≢false (sym h))

  pub long_by_make : (command : Option Command) → HasAnswer told sure picks command answer → status_of answer ≡ status.Long → IsMake command
  long_by_make = by_command status.Long IsMake (λ e. cc) (λ e. cc) one
    where
      one : (c : Command) → may c status.Long ≡ true → IsMake (Some c)
      one (Make first second budget weight place) h = tt
      one (Check first second third) h = absurd (true≢false (sym h))
      one (TheoryCommand first) h = absurd (true≢false (sym h))
      one (Demo k) h = absurd (true≢false (sym h))

  pub spent_by_search : (command : Option Command) → HasAnswer told sure picks command answer → status_of answer ≡ status.Spent → IsSearch command
  spent_by_search = by_command status.Spent IsSearch (λ e. cc) (λ e. cc) one
    where
      one : (c : Command) → may c status.Spent ≡ true → IsSearch (Some c)
      one (Make first second budget weight place) h = tt
      one (Check first second third) h = absurd (true≢false (sym h))
      one (TheoryCommand first) h = absurd (true≢false (sym h))
      one (Demo k) h = tt

  pub exhausted_by_search : (command : Option Command) → HasAnswer told sure picks command answer → status_of answer ≡ status.Exhausted → IsSearch command
  exhausted_by_search = by_command status.Exhausted IsSearch (λ e. cc) (λ e. cc) one
    where
      one : (c : Command) → may c status.Exhausted ≡ true → IsSearch (Some c)
      one (Make first second budget weight place) h = tt
      one (Check first second third) h = absurd (true≢false (sym h))
      one (TheoryCommand first) h = absurd (true≢false (sym h))
      one (Demo k) h = tt

  pub contradiction_by_search : (command : Option Command) → HasAnswer told sure picks command answer → status_of answer ≡ status.Contradiction → IsSearch command
  contradiction_by_search = by_command status.Contradiction IsSearch (λ e. cc) (λ e. cc) one
    where
      one : (c : Command) → may c status.Contradiction ≡ true → IsSearch (Some c)
      one (Make first second budget weight place) h = tt
      one (Check first second third) h = absurd (true≢false (sym h))
      one (TheoryCommand first) h = absurd (true≢false (sym h))
      one (Demo k) h = tt
