-- The clauses of a run, of its answer and its status.
use Rattle.std.proofs.Common.{◌≡◌, ◌≢◌, ◌∙◌, ◌⊎◌, ◌<◌, ◌≤◌, arith, inl, inr, ℕ, refl, sym, subst, Option, Some, None, Result, Ok, Err, List, length, slice_get}
use Rattle.am_outside.specs.Growth.{Grows}
use Rattle.am_world.specs.Interpretation.{Interpretation}
use Rattle.am_world.specs.Truth.{Models}
use Rattle.am_clause.specs.declared.row.Log.{Log}
use Rattle.am_theory.specs.declared.theory.Theory.{Theory as TheoryValue}
use Rattle.am_theory.specs.Contents.{Contents, contents}
use Rattle.am_theory.specs.Reading.{theory}
use Rattle.am_canon.specs.CanonicalText.{canon}
use Rattle.am_diagram.specs.declared.diagram.Diagram.{Diagram as DiagramValue}
use Rattle.am_diagram.specs.Reading.{diagram}
use Rattle.am_diagram.specs.Steps.{formulas_of}
use Rattle.am_log.specs.Text.{byte_limit as text_limit}
use Rattle.am_check.specs.declared.reason.Reason.{Reason}
use Rattle.am_check.specs.Accepted.{Accepted}
use Rattle.am_check.specs.FirstFault.{IsFirstFault}
use Rattle.am_check.specs.Laws.{AcceptedIsRight, EachHasOneOutcome}
use Rattle.am_exec.specs.Right.{Right}
use Rattle.am_search.specs.Laws.{OneHistory, EntriesLaw}
use Rattle.am_search.specs.Plain.{History, Pick}
use Rattle.am_search.specs.declared.fate.End.{End}
use Rattle.am_search.specs.declared.fate.End.TheVariants as end
use Rattle.am_search.specs.declared.outcome.Limits.{Limits}
use Rattle.am_demo.specs.Files.{theory_text, diagram_text}
use Rattle.am_words.specs.declared.command.Command.{Command}
use Rattle.am_words.specs.declared.command.Command.TheVariants.{Make, Check, Theory as TheoryCommand, Demo}
use Rattle.am_top.specs.declared.answer.Answer.{Answer}
use Rattle.am_top.specs.declared.answer.Answer.TheVariants.{NoMemory}
use Rattle.am_top.specs.declared.status.Status.{Status}
use Rattle.am_top.specs.declared.status.Status.TheVariants as status
use Rattle.am_top.specs.Answers.{IsUnread, CountsFaults, IsAnswerOf, status_of, text_of, message_of}
use Rattle.am_top.specs.Clauses.{WhereMade, WhereChecked, WhereShown, WhereDemonstrated, WhereSearched, SearchesOver, IsSearch, IsMake, IsCheck, AreRead, SaysTheoryFault, SaysFaultOver, SaysDiagramFault, SaysFileFault, SaysDemoFault, IsHistoryOf, HasEnded, IsSpent, IsContradiction, IsFound, IsMade, IsTooLong, IsDemonstrated, Comes, IsAccepted, IsRefused}
use Rattle.am_top.specs.Commands.{AllSure, IsTheory, IsDiagram, Makes, Demonstrates, HasAnswer, demo_limits}
use Rattle.am_top.specs.Messages.{accepted_text, spent_message, exhausted_message, contradiction_message, long_message}
use Rattle.am_top.proofs.Premises.{ReadAreWellFormed}
use Rattle.am_top.proofs.SameContents.{same_theory}
use Rattle.am_top.proofs.TooLong.{long_theory, long_diagram, theory-long, diagram-long}
use Rattle.am_top.proofs.Ends.{read_answer}
use Rattle.am_lineage.specs.Laws.{AncestorsAreOne}
use Rattle.am_product.specs.Laws.{OneProduct}
use Rattle.am_product.specs.Product.{IsProduct}
use Rattle.am_top.proofs.Histories.{one_end, one_found}
use Rattle.am_top.proofs.Statuses.{never_unread, usage_by_none, refused_by_check, long_by_make, spent_by_search, exhausted_by_search, contradiction_by_search}
use Rattle.am_top.proofs.Cases.{Ended, used_up, nothing_left, contradicting, Made, Checked, Shown, Demonstrated, lost, no_memory, faulty, ended, too_long, printed, not_accepted, is_accepted, make_case, check_case, show_case, demo_case}

-- ---- one answer

ok_once : {A B : Type 0} (x y : A) (r : Result A B) → r ≡ Ok x → r ≡ Ok y → x ≡ y
ok_once x y r h k = let e : Ok x ≡ Ok y = sym h ∙ k in cc

never_both : {A B : Type 0} (x : A) (f : B) (r : Result A B) → r ≡ Ok x → r ≡ Err f → ⊥
never_both x f r h k = let e : Ok x ≡ Err f = sym h ∙ k in cc

some_once : {A : Type 0} (x y : A) (o : Option A) → o ≡ Some x → o ≡ Some y → x ≡ y
some_once x y o h k = let e : Some x ≡ Some y = sym h ∙ k in cc

-- the bytes are one theory
one_theory : (a : List ℕ) (t u : TheoryValue) → IsTheory a t → IsTheory a u → t ≡ u
one_theory a t u h k = same_theory t u (ok_once (contents t) (contents u) (theory a) h k)

-- the files of a command are one theory and one diagram
same_files : (a b : List ℕ) (t u : TheoryValue) (d c : DiagramValue) → AreRead a b t d → AreRead a b u c → (u ≡ t) × (c ≡ d)
same_files a b t u d c h k =
    let one = one_theory a u t k.is_theory h.is_theory in
    (one, ok_once c d (diagram t b) (subst (λ (x : TheoryValue). IsDiagram x b c) one k.is_diagram) h.is_diagram)

-- ---- files that have no fault

no_fault_of : (a : List ℕ) (c : Contents) (message : List ℕ) → theory a ≡ Ok c → SaysTheoryFault a message → ⊥
no_fault_of a c message is (inl (long, says)) = never_both c long_theory (theory a) is (theory-long a long)
no_fault_of a c message is (inr (f, err, says)) = never_both c f (theory a) is err

no_theory_fault : (a : List ℕ) (t : TheoryValue) (message : List ℕ) → IsTheory a t → SaysTheoryFault a message → ⊥
no_theory_fault a t message is says = no_fault_of a (contents t) message is says

no_fault_over : (b : List ℕ) (t : TheoryValue) (d : DiagramValue) (message : List ℕ) → IsDiagram t b d → SaysFaultOver t b message → ⊥
no_fault_over b t d message is (inl (long, says)) = never_both d long_diagram (diagram t b) is (diagram-long t b long)
no_fault_over b t d message is (inr (f, err, says)) = never_both d f (diagram t b) is err

no_diagram_fault : (a b : List ℕ) (t : TheoryValue) (d : DiagramValue) (message : List ℕ) → AreRead a b t d → SaysDiagramFault a b message → ⊥
no_diagram_fault a b t d message files (u, is_u, says) =
    no_fault_over b u d message (subst (λ (x : TheoryValue). IsDiagram x b d) (one_theory a t u files.is_theory is_u) files.is_diagram) says

no_fault_of_two : (a b : List ℕ) (t : TheoryValue) (d : DiagramValue) (message : List ℕ) → AreRead a b t d → SaysTheoryFault a message ⊎ SaysDiagramFault a b message → ⊥
no_fault_of_two a b t d message files (inl says) = no_theory_fault a t message files.is_theory says
no_fault_of_two a b t d message files (inr says) = no_diagram_fault a b t d message files says

no_demo_fault : (k : ℕ) (t : TheoryValue) (d : DiagramValue) (message : List ℕ) → AreRead (theory_text k) (diagram_text k) t d → SaysDemoFault k message → ⊥
no_demo_fault k t d message files (inl says) = no_theory_fault (theory_text k) t message files.is_theory (inr says)
no_demo_fault k t d message files (inr (u, is_u, says)) = no_diagram_fault (theory_text k) (diagram_text k) t d message files (u, is_u, inr says)

no_file_fault : (a b x : List ℕ) (t : TheoryValue) (d : DiagramValue) (message : List ℕ) → AreRead a b t d → length x ≤ text_limit → SaysFileFault a b x message → ⊥
no_file_fault a b x t d message files short (inl says) = no_theory_fault a t message files.is_theory says
no_file_fault a b x t d message files short (inr (u, is, inl says)) = no_diagram_fault a b t d message files (u, is, says)
no_file_fault a b x t d message files short (inr (u, is, inr (c, is_c, long, says))) = past (length x) text_limit short long
  where
    past : (m n : ℕ) → m ≤ n → n < m → ⊥
    past m n h k = omega arith

-- what is accepted over the files that were read is so over these
accepted_over : (a b x : List ℕ) (t u : TheoryValue) (d c : DiagramValue) → AreRead a b t d → AreRead a b u c → Accepted u c x → Accepted t d x
accepted_over a b x t u d c files others good =
    let same = same_files a b t u d c files others in
    subst (λ (y : DiagramValue). Accepted t y x) same.1 (subst (λ (y : TheoryValue). Accepted y c x) same.0 good)

never_refused : ReadAreWellFormed → EachHasOneOutcome → (a b x : List ℕ) (t u : TheoryValue) (d c : DiagramValue) (line : ℕ) (why : Reason) → AreRead a b t d → AreRead a b u c → length x ≤ text_limit → Accepted t d x → IsFirstFault u c x line why → ⊥
never_refused reads law a b x t u d c line why files others short good fault =
    let well = reads.theories a u others.is_theory in
    (law u c x well (reads.diagrams u b c well others.is_diagram) short).not_both line why (accepted_over a b x u t c d others files good) fault

right_over : ReadAreWellFormed → AcceptedIsRight → (a b x : List ℕ) (t : TheoryValue) (d : DiagramValue) → AreRead a b t d → (good : Accepted t d x) → (w : Interpretation) → Models t.sig (formulas_of t) w → Right w t d good.unit
right_over reads law a b x t d files good =
    let well = reads.theories a t files.is_theory in
    law t d x well (reads.diagrams t b d well files.is_diagram) good

-- ---- the status of a run

-- the status is that of the answer, or a put failed
abbrev Ran : Answer → Status → Type 0
Ran answer result = (result ≡ status_of answer) ⊎ (result ≡ status.Write)

-- a status other than that of a failed put is that of the answer
of_answer : (answer : Answer) (result s : Status) → Ran answer result → result ≡ s → s ≢ status.Write → status_of answer ≡ s
of_answer answer result s (inl e) is other = sym e ∙ is
of_answer answer result s (inr w) is other = absurd (other (sym is ∙ w))

by_status : (answer : Answer) (result s : Status) → Ran answer result → (result ≡ status.Write → ⊥) → (status_of answer ≡ s) ⊎ (status_of answer ≡ status.NoMemory) → (result ≡ s) ⊎ (result ≡ status.NoMemory)
by_status answer result s (inl e) no_write (inl ok) = inl (e ∙ ok)
by_status answer result s (inl e) no_write (inr none) = inr (e ∙ none)
by_status answer result s (inr w) no_write h = absurd (no_write w)

-- two statuses of one answer
clash : (answer : Answer) (s r : Status) → status_of answer ≡ s → status_of answer ≡ r → s ≡ r
clash answer s r h k = sym h ∙ k

by_comes : (answer : Answer) (result : Status) (e : End) → Ran answer result → (result ≡ status.Write → ⊥) → Comes e (status_of answer) → Comes e result
by_comes answer result e (inl is) no_write h = subst (Comes e) (sym is) h
by_comes answer result e (inr w) no_write h = absurd (no_write w)

comes_no_memory : (e : End) (s : Status) → s ≡ status.NoMemory → Comes e s
comes_no_memory end.Found s is = inr (inr is)
comes_no_memory end.Spent s is = inr is
comes_no_memory end.Exhausted s is = inr is
comes_no_memory end.Contradiction s is = inr is

-- no other status comes
abbrev AnyOf : Status → Type 0
AnyOf s =
    (s ≡ status.Ok) ⊎ (s ≡ status.Usage) ⊎ (s ≡ status.File) ⊎ (s ≡ status.Spent) ⊎ (s ≡ status.Exhausted) ⊎ (s ≡ status.Refused)
    ⊎ (s ≡ status.Read) ⊎ (s ≡ status.Write) ⊎ (s ≡ status.NoMemory) ⊎ (s ≡ status.Contradiction) ⊎ (s ≡ status.Long)

pub any_of : (s : Status) → AnyOf s
any_of status.Ok = inl refl
any_of status.Usage = inr (inl refl)
any_of status.File = inr (inr (inl refl))
any_of status.Spent = inr (inr (inr (inl refl)))
any_of status.Exhausted = inr (inr (inr (inr (inl refl))))
any_of status.Refused = inr (inr (inr (inr (inr (inl refl)))))
any_of status.Read = inr (inr (inr (inr (inr (inr (inl refl))))))
any_of status.Write = inr (inr (inr (inr (inr (inr (inr (inl refl)))))))
any_of status.NoMemory = inr (inr (inr (inr (inr (inr (inr (inr (inl refl))))))))
any_of status.Contradiction = inr (inr (inr (inr (inr (inr (inr (inr (inr (inl refl)))))))))
any_of status.Long = inr (inr (inr (inr (inr (inr (inr (inr (inr (inr refl)))))))))

-- where a search found nothing, the status is none of the others
ended_apart : (a b : List ℕ) (limits : Limits) (pick : Pick) (answer : Answer) (s : Status) → Ended a b limits pick answer → status_of answer ≡ s → (status.Spent ≡ s → ⊥) → (status.Exhausted ≡ s → ⊥) → (status.Contradiction ≡ s → ⊥) → ⊥
ended_apart a b limits pick answer s (used_up h is) e spent exhausted contradicts = spent (sym is.status ∙ e)
ended_apart a b limits pick answer s (nothing_left made h is) e spent exhausted contradicts = exhausted (sym is.status ∙ e)
ended_apart a b limits pick answer s (contradicting made h is) e spent exhausted contradicts = contradicts (sym is.status ∙ e)

-- ---- clauses

module _ (law : EntriesLaw) (told : List ℕ → Option (List ℕ)) (sure : List ℕ → Type 0) (picks : List Pick) (command : Option Command) (answer : Answer) (result : Status) (has : HasAnswer told sure picks command answer) (ran : Ran answer result) where
  abbrev HasFor : Option Command → Type 0
  HasFor c = HasAnswer told sure picks c answer

  -- what `make` answers is by the chooser of the words
  by_pick : (first second : List ℕ) (limits : Limits) (place : ℕ) (pick : Pick) → slice_get picks place ≡ Some pick
      → (answer ≡ NoMemory) ⊎ ((p : Pick) × (slice_get picks place ≡ Some p) × Makes told sure first second limits p answer) → IsAnswerOf (Makes told sure first second limits pick) answer
  by_pick first second limits place pick chosen (inl none) = inl none
  by_pick first second limits place pick chosen (inr (p, is, h)) = inr (subst (λ (q : Pick). Makes told sure first second limits q answer) (some_once p pick (slice_get picks place) is chosen) h)

  demo_by_pick : (k : ℕ) (pick : Pick) → slice_get picks 0 ≡ Some pick → (answer ≡ NoMemory) ⊎ ((p : Pick) × (slice_get picks 0 ≡ Some p) × Demonstrates k p answer) → IsAnswerOf (Demonstrates k pick) answer
  demo_by_pick k pick chosen (inl none) = inl none
  demo_by_pick k pick chosen (inr (p, is, h)) = inr (subst (λ (q : Pick). Demonstrates k q answer) (some_once p pick (slice_get picks 0) is chosen) h)

  made_at : (first second a b : List ℕ) (budget weight place : ℕ) (pick : Pick) → command ≡ Some (Make first second budget weight place) → told first ≡ Some a → told second ≡ Some b → slice_get picks place ≡ Some pick
      → Made a b (record { budget = budget; weight = weight }) pick (sure first × sure second) answer
  made_at first second a b budget weight place pick e ea eb chosen =
      make_case law told sure answer first second a b (record { budget = budget; weight = weight }) pick ea eb (by_pick first second (record { budget = budget; weight = weight }) place pick chosen (subst HasFor e has))

  demo_at : (k : ℕ) (pick : Pick) → command ≡ Some (Demo k) → slice_get picks 0 ≡ Some pick → Demonstrated k pick answer
  demo_at k pick e chosen = demo_case law told sure answer k pick (demo_by_pick k pick chosen (subst HasFor e has))

  shown_at : (first a : List ℕ) → command ≡ Some (TheoryCommand first) → told first ≡ Some a → Shown a (sure first) answer
  shown_at first a e ea = show_case law told sure answer first a ea (subst HasFor e has)

  checked_at : (first second third a b x : List ℕ) → command ≡ Some (Check first second third) → told first ≡ Some a → told second ≡ Some b → told third ≡ Some x → Checked a b x (sure first × sure second × sure third) answer
  checked_at first second third a b x e ea eb ex = check_case law told sure answer first second third a b x ea eb ex (subst HasFor e has)

  -- ---- faults of the library

  pub sure_from : AllSure command sure → result ≢ status.Read
  sure_from s is = never_unread told sure picks answer command s has (read_answer answer (of_answer answer result status.Read ran is (λ w. cc)))

  pub calm_from : (old new : ℕ) → CountsFaults (IsUnread answer) old new → AllSure command sure → new ≡ old
  calm_from old new counts s = counts.kept (λ u. never_unread told sure picks answer command s has u)

  -- ---- which command has which status

  pub usage_from : result ≡ status.Usage → command ≡ None
  usage_from is = usage_by_none told sure picks answer command has (of_answer answer result status.Usage ran is (λ w. cc))

  pub refused_by_from : result ≡ status.Refused → IsCheck command
  refused_by_from is = refused_by_check told sure picks answer command has (of_answer answer result status.Refused ran is (λ w. cc))

  pub long_by_from : result ≡ status.Long → IsMake command
  long_by_from is = long_by_make told sure picks answer command has (of_answer answer result status.Long ran is (λ w. cc))

  pub searched_by_from : (result ≡ status.Spent) ⊎ (result ≡ status.Exhausted) ⊎ (result ≡ status.Contradiction) → IsSearch command
  searched_by_from (inl is) = spent_by_search told sure picks answer command has (of_answer answer result status.Spent ran is (λ w. cc))
  searched_by_from (inr (inl is)) = exhausted_by_search told sure picks answer command has (of_answer answer result status.Exhausted ran is (λ w. cc))
  searched_by_from (inr (inr is)) = contradiction_by_search told sure picks answer command has (of_answer answer result status.Contradiction ran is (λ w. cc))

  -- ---- texts

  pub printed_from : ReadAreWellFormed → AcceptedIsRight → (old new : Option (List ℕ)) → (result ≢ status.Write → Grows old new (text_of answer)) → result ≡ status.Ok
      → WhereMade command told picks (λ a b limits pick. (text : List ℕ) × IsMade a b limits pick text × Grows old new text)
  printed_from reads right old new grown ok first second a b budget weight place pick e ea eb chosen =
      let s = of_answer answer result status.Ok ran ok (λ w. cc) in
      let other : result ≢ status.Write = λ w. cc in
      elim (made_at first second a b budget weight place pick e ea eb chosen) [
        | lost l ↦ let c = clash answer _ _ s l.status in absurd cc
        | no_memory n r ↦ let c = clash answer _ _ s n in absurd cc
        | faulty m h is ↦ let c = clash answer _ _ s is.status in absurd cc
        | ended h ↦ absurd (ended_apart _ _ _ _ answer status.Ok h s (λ k. cc) (λ k. cc) (λ k. cc))
        | too_long h is ↦ let c = clash answer _ _ s is.status in absurd cc
        | printed t d h log found p is ↦
            (text_of answer, record { t = t; d = d; history = h; log = log; found = found; printed = p; right = right_over reads right a b (text_of answer) t d found.files p.2 }, grown other)
      ]

  pub demonstrated_from : (old new : Option (List ℕ)) → (result ≢ status.Write → Grows old new (text_of answer)) → result ≡ status.Ok
      → WhereDemonstrated command picks (λ k pick. (text : List ℕ) × IsDemonstrated k pick text × Grows old new text)
  demonstrated_from old new grown ok k pick e chosen =
      let s = of_answer answer result status.Ok ran ok (λ w. cc) in
      let other : result ≢ status.Write = λ w. cc in
      elim (demo_at k pick e chosen) [
        | no_memory n ↦ let c = clash answer _ _ s n in absurd cc
        | faulty m h is ↦ let c = clash answer _ _ s is.status in absurd cc
        | ended h ↦ absurd (ended_apart _ _ _ _ answer status.Ok h s (λ j. cc) (λ j. cc) (λ j. cc))
        | printed t d h log found summed is ↦ (text_of answer, summed, grown other)
      ]

  pub accepted_from : ReadAreWellFormed → AcceptedIsRight → (old new : Option (List ℕ)) → (result ≢ status.Write → Grows old new (text_of answer)) → result ≡ status.Ok
      → WhereChecked command told (λ a b x. IsAccepted a b x × Grows old new accepted_text)
  accepted_from reads right old new grown ok first second third a b x e ea eb ex =
      let s = of_answer answer result status.Ok ran ok (λ w. cc) in
      let other : result ≢ status.Write = λ w. cc in
      elim (checked_at first second third a b x e ea eb ex) [
        | lost l ↦ let c = clash answer _ _ s l.status in absurd cc
        | no_memory n r ↦ let c = clash answer _ _ s n in absurd cc
        | faulty m h is ↦ let c = clash answer _ _ s is.status in absurd cc
        | not_accepted t d line why files fault is ↦ let c = clash answer _ _ s is.status in absurd cc
        | is_accepted t d files good is prints ↦ (record { t = t; d = d; files = files; accepted = good; right = right_over reads right a b x t d files good }, subst (Grows old new) prints (grown other))
      ]

  pub shown_from : (old new : Option (List ℕ)) → (result ≢ status.Write → Grows old new (text_of answer)) → result ≡ status.Ok
      → WhereShown command told (λ a. (c : Contents) × (theory a ≡ Ok c) × Grows old new (canon c))
  shown_from old new grown ok first a e ea =
      let s = of_answer answer result status.Ok ran ok (λ w. cc) in
      let other : result ≢ status.Write = λ w. cc in
      elim (shown_at first a e ea) [
        | lost l ↦ let c = clash answer _ _ s l.status in absurd cc
        | no_memory n r ↦ let c = clash answer _ _ s n in absurd cc
        | faulty m h is ↦ let c = clash answer _ _ s is.status in absurd cc
        | printed cs read is st ↦ (cs, read, subst (Grows old new) is (grown other))
      ]

  -- ---- ends of a search

  -- what a search ended by, whichever command searched
  ended_at : (s : Status) → status_of answer ≡ s → (s ≡ status.Read → ⊥) → (s ≡ status.NoMemory → ⊥) → (s ≡ status.File → ⊥) → (s ≡ status.Long → ⊥) → (s ≡ status.Ok → ⊥) → WhereSearched command told picks (λ a b limits pick. Ended a b limits pick answer)
  ended_at s is no_read no_memory_ no_file no_long no_ok (Make first second budget weight place) a b limits pick e (ea, eb, same, chosen) =
      subst (λ (l : Limits). Ended a b l pick answer) (sym same) (elim (made_at first second a b budget weight place pick e ea eb chosen) [
        | lost l ↦ absurd (no_read (clash answer _ _ is l.status))
        | no_memory n r ↦ absurd (no_memory_ (clash answer _ _ is n))
        | faulty m h f ↦ absurd (no_file (clash answer _ _ is f.status))
        | ended h ↦ h
        | too_long h f ↦ absurd (no_long (clash answer _ _ is f.status))
        | printed t d h log found p ok ↦ absurd (no_ok (clash answer _ _ is ok))
      ])
  ended_at s is no_read no_memory_ no_file no_long no_ok (Check first second third) a b limits pick e over = absurd over
  ended_at s is no_read no_memory_ no_file no_long no_ok (TheoryCommand first) a b limits pick e over = absurd over
  ended_at s is no_read no_memory_ no_file no_long no_ok (Demo k) a b limits pick e (ea, eb, same, chosen) =
      subst (λ (l : Limits). Ended a b l pick answer) (sym same)
      (subst (λ (x : List ℕ). Ended x b demo_limits pick answer) (sym ea) (subst (λ (x : List ℕ). Ended (theory_text k) x demo_limits pick answer) (sym eb) (elim (demo_at k pick e chosen) [
        | no_memory n ↦ absurd (no_memory_ (clash answer _ _ is n))
        | faulty m h f ↦ absurd (no_file (clash answer _ _ is f.status))
        | ended h ↦ h
        | printed t d h log found summed ok ↦ absurd (no_ok (clash answer _ _ is ok))
      ])))

  pub spent_from : (old new : Option (List ℕ)) → (result ≢ status.Write → Grows old new (message_of answer)) → result ≡ status.Spent
      → WhereSearched command told picks (λ a b limits pick. IsSpent a b limits pick × Grows old new (spent_message limits.budget))
  spent_from old new grown is c a b limits pick e over =
      let s = of_answer answer result status.Spent ran is (λ w. cc) in
      let other : result ≢ status.Write = λ w. cc in
      elim (ended_at status.Spent s (λ k. cc) (λ k. cc) (λ k. cc) (λ k. cc) (λ k. cc) c a b limits pick e over) [
        | used_up h f ↦ (h, subst (Grows old new) f.message (grown other))
        | nothing_left made h f ↦ let k = clash answer _ _ s f.status in absurd cc
        | contradicting made h f ↦ let k = clash answer _ _ s f.status in absurd cc
      ]

  pub exhausted_from : (old new : Option (List ℕ)) → (result ≢ status.Write → Grows old new (message_of answer)) → result ≡ status.Exhausted
      → WhereSearched command told picks (λ a b limits pick. (made : ℕ) × HasEnded a b limits pick end.Exhausted made × Grows old new (exhausted_message made))
  exhausted_from old new grown is c a b limits pick e over =
      let s = of_answer answer result status.Exhausted ran is (λ w. cc) in
      let other : result ≢ status.Write = λ w. cc in
      elim (ended_at status.Exhausted s (λ k. cc) (λ k. cc) (λ k. cc) (λ k. cc) (λ k. cc) c a b limits pick e over) [
        | used_up h f ↦ let k = clash answer _ _ s f.status in absurd cc
        | nothing_left made h f ↦ (made, h, subst (Grows old new) f.message (grown other))
        | contradicting made h f ↦ let k = clash answer _ _ s f.status in absurd cc
      ]

  pub contradiction_from : (old new : Option (List ℕ)) → (result ≢ status.Write → Grows old new (message_of answer)) → result ≡ status.Contradiction
      → WhereSearched command told picks (λ a b limits pick. (made : ℕ) × IsContradiction a b limits pick made × Grows old new (contradiction_message made))
  contradiction_from old new grown is c a b limits pick e over =
      let s = of_answer answer result status.Contradiction ran is (λ w. cc) in
      let other : result ≢ status.Write = λ w. cc in
      elim (ended_at status.Contradiction s (λ k. cc) (λ k. cc) (λ k. cc) (λ k. cc) (λ k. cc) c a b limits pick e over) [
        | used_up h f ↦ let k = clash answer _ _ s f.status in absurd cc
        | nothing_left made h f ↦ let k = clash answer _ _ s f.status in absurd cc
        | contradicting made h f ↦ (made, h, subst (Grows old new) f.message (grown other))
      ]

  pub long_from : (old new : Option (List ℕ)) → (result ≢ status.Write → Grows old new (message_of answer)) → result ≡ status.Long
      → WhereMade command told picks (λ a b limits pick. IsTooLong a b limits pick × Grows old new (long_message text_limit))
  long_from old new grown is first second a b budget weight place pick e ea eb chosen =
      let s = of_answer answer result status.Long ran is (λ w. cc) in
      let other : result ≢ status.Write = λ w. cc in
      elim (made_at first second a b budget weight place pick e ea eb chosen) [
        | lost l ↦ let c = clash answer _ _ s l.status in absurd cc
        | no_memory n r ↦ let c = clash answer _ _ s n in absurd cc
        | faulty m h f ↦ let c = clash answer _ _ s f.status in absurd cc
        | ended h ↦ absurd (ended_apart _ _ _ _ answer status.Long h s (λ k. cc) (λ k. cc) (λ k. cc))
        | too_long h f ↦ (h, subst (Grows old new) f.message (grown other))
        | printed t d h log found p ok ↦ let c = clash answer _ _ s ok in absurd cc
      ]

  -- ---- faults of files and texts

  pub refused_from : (old new : Option (List ℕ)) → (result ≢ status.Write → Grows old new (message_of answer)) → result ≡ status.Refused
      → WhereChecked command told (λ a b x. (message : List ℕ) × IsRefused a b x message × Grows old new message)
  refused_from old new grown is first second third a b x e ea eb ex =
      let s = of_answer answer result status.Refused ran is (λ w. cc) in
      let other : result ≢ status.Write = λ w. cc in
      elim (checked_at first second third a b x e ea eb ex) [
        | lost l ↦ let c = clash answer _ _ s l.status in absurd cc
        | no_memory n r ↦ let c = clash answer _ _ s n in absurd cc
        | faulty m h f ↦ let c = clash answer _ _ s f.status in absurd cc
        | not_accepted t d line why files fault f ↦ (_, record { t = t; d = d; files = files; line = line; why = why; fault = fault; says = refl }, subst (Grows old new) f.message (grown other))
        | is_accepted t d files good ok prints ↦ let c = clash answer _ _ s ok in absurd cc
      ]

  pub file_of_check_from : (old new : Option (List ℕ)) → (result ≢ status.Write → Grows old new (message_of answer)) → result ≡ status.File
      → WhereChecked command told (λ a b x. (message : List ℕ) × SaysFileFault a b x message × Grows old new message)
  file_of_check_from old new grown is first second third a b x e ea eb ex =
      let s = of_answer answer result status.File ran is (λ w. cc) in
      let other : result ≢ status.Write = λ w. cc in
      elim (checked_at first second third a b x e ea eb ex) [
        | lost l ↦ let c = clash answer _ _ s l.status in absurd cc
        | no_memory n r ↦ let c = clash answer _ _ s n in absurd cc
        | faulty m h f ↦ (m, h, subst (Grows old new) f.message (grown other))
        | not_accepted t d line why files fault f ↦ let c = clash answer _ _ s f.status in absurd cc
        | is_accepted t d files good ok prints ↦ let c = clash answer _ _ s ok in absurd cc
      ]

  pub file_of_make_from : (old new : Option (List ℕ)) → (result ≢ status.Write → Grows old new (message_of answer)) → result ≡ status.File
      → WhereMade command told picks (λ a b limits pick. (message : List ℕ) × (SaysTheoryFault a message ⊎ SaysDiagramFault a b message) × Grows old new message)
  file_of_make_from old new grown is first second a b budget weight place pick e ea eb chosen =
      let s = of_answer answer result status.File ran is (λ w. cc) in
      let other : result ≢ status.Write = λ w. cc in
      elim (made_at first second a b budget weight place pick e ea eb chosen) [
        | lost l ↦ let c = clash answer _ _ s l.status in absurd cc
        | no_memory n r ↦ let c = clash answer _ _ s n in absurd cc
        | faulty m h f ↦ (m, h, subst (Grows old new) f.message (grown other))
        | ended h ↦ absurd (ended_apart _ _ _ _ answer status.File h s (λ k. cc) (λ k. cc) (λ k. cc))
        | too_long h f ↦ let c = clash answer _ _ s f.status in absurd cc
        | printed t d h log found p ok ↦ let c = clash answer _ _ s ok in absurd cc
      ]

  pub file_of_demo_from : (old new : Option (List ℕ)) → (result ≢ status.Write → Grows old new (message_of answer)) → result ≡ status.File
      → WhereDemonstrated command picks (λ k pick. (message : List ℕ) × SaysDemoFault k message × Grows old new message)
  file_of_demo_from old new grown is k pick e chosen =
      let s = of_answer answer result status.File ran is (λ w. cc) in
      let other : result ≢ status.Write = λ w. cc in
      elim (demo_at k pick e chosen) [
        | no_memory n ↦ let c = clash answer _ _ s n in absurd cc
        | faulty m h f ↦ (m, h, subst (Grows old new) f.message (grown other))
        | ended h ↦ absurd (ended_apart _ _ _ _ answer status.File h s (λ j. cc) (λ j. cc) (λ j. cc))
        | printed t d h log found summed ok ↦ let c = clash answer _ _ s ok in absurd cc
      ]

  pub file_of_theory_from : (old new : Option (List ℕ)) → (result ≢ status.Write → Grows old new (message_of answer)) → result ≡ status.File
      → WhereShown command told (λ a. (message : List ℕ) × SaysTheoryFault a message × Grows old new message)
  file_of_theory_from old new grown is first a e ea =
      let s = of_answer answer result status.File ran is (λ w. cc) in
      let other : result ≢ status.Write = λ w. cc in
      elim (shown_at first a e ea) [
        | lost l ↦ let c = clash answer _ _ s l.status in absurd cc
        | no_memory n r ↦ let c = clash answer _ _ s n in absurd cc
        | faulty m h f ↦ (m, h, subst (Grows old new) f.message (grown other))
        | printed cs read text ok ↦ let c = clash answer _ _ s ok in absurd cc
      ]

  -- ---- without a cause nothing is refused

  module _ (RoseL RoseO RoseE : Type 0) (unread : IsUnread answer → RoseL) (write : result ≡ status.Write → RoseO ⊎ RoseE) (calm_l : RoseL → ⊥) (calm_o : RoseO → ⊥) (calm_e : RoseE → ⊥) where
    no_write : result ≡ status.Write → ⊥
    no_write w = elim (write w) [ inl r ↦ calm_o r | inr r ↦ calm_e r ]

    -- a search ends as the plain search does
    ends_as : OneHistory → (a b : List ℕ) (limits : Limits) (pick : Pick) (t : TheoryValue) (d : DiagramValue) (h : History) (e : End) → AreRead a b t d → IsHistoryOf t d limits pick h e
        → (f : End) (u : TheoryValue) (c : DiagramValue) (k : History) → AreRead a b u c → IsHistoryOf u c limits pick k f → Comes f (status_of answer) → Comes e (status_of answer)
    ends_as one a b limits pick t d h e files is f u c k others also comes =
        let same = same_files a b t u d c files others in
        subst (λ (x : End). Comes x (status_of answer)) (one_end one limits pick t u d c h k e f same.0 same.1 is also) comes

    ended_comes : OneHistory → (a b : List ℕ) (limits : Limits) (pick : Pick) (t : TheoryValue) (d : DiagramValue) (h : History) (e : End) → AreRead a b t d → IsHistoryOf t d limits pick h e → Ended a b limits pick answer → Comes e (status_of answer)
    ended_comes one a b limits pick t d h e files is (used_up s f) =
        ends_as one a b limits pick t d h e files is end.Spent s.ended.t s.ended.d s.ended.history s.ended.files s.ended.is (inl f.status)
    ended_comes one a b limits pick t d h e files is (nothing_left made s f) =
        ends_as one a b limits pick t d h e files is end.Exhausted s.t s.d s.history s.files s.is (inl f.status)
    ended_comes one a b limits pick t d h e files is (contradicting made s f) =
        ends_as one a b limits pick t d h e files is end.Contradiction s.ended.t s.ended.d s.ended.history s.ended.files s.ended.is (inl f.status)

    found_comes : OneHistory → (a b : List ℕ) (limits : Limits) (pick : Pick) (t : TheoryValue) (d : DiagramValue) (h : History) (e : End) → AreRead a b t d → IsHistoryOf t d limits pick h e
        → (u : TheoryValue) (c : DiagramValue) (k : History) (log : Log) → IsFound a b limits pick u c k log → (status_of answer ≡ status.Ok) ⊎ (status_of answer ≡ status.Long) → Comes e (status_of answer)
    found_comes one a b limits pick t d h e files is u c k log found (inl ok) = ends_as one a b limits pick t d h e files is end.Found u c k found.files found.is (inl ok)
    found_comes one a b limits pick t d h e files is u c k log found (inr long) = ends_as one a b limits pick t d h e files is end.Found u c k found.files found.is (inr (inl long))

    make_comes : OneHistory → (first second a b : List ℕ) (budget weight place : ℕ) (pick : Pick) → command ≡ Some (Make first second budget weight place) → told first ≡ Some a → told second ≡ Some b → slice_get picks place ≡ Some pick
        → (t : TheoryValue) (d : DiagramValue) (h : History) (e : End) → AreRead a b t d → IsHistoryOf t d (record { budget = budget; weight = weight }) pick h e → Comes e (status_of answer)
    make_comes one first second a b budget weight place pick is_command ea eb chosen t d h e files is = elim (made_at first second a b budget weight place pick is_command ea eb chosen) [
      | lost l ↦ absurd (calm_l (unread l.unread))
      | no_memory n r ↦ comes_no_memory e (status_of answer) n
      | faulty message says f ↦ absurd (no_fault_of_two a b t d message files says)
      | ended s ↦ ended_comes one a b (record { budget = budget; weight = weight }) pick t d h e files is s
      | too_long (u, c, k, log, found, long) f ↦ found_comes one a b (record { budget = budget; weight = weight }) pick t d h e files is u c k log found (inr f.status)
      | printed u c k log found p ok ↦ found_comes one a b (record { budget = budget; weight = weight }) pick t d h e files is u c k log found (inl ok)
    ]

    demo_comes : OneHistory → (k : ℕ) (pick : Pick) → command ≡ Some (Demo k) → slice_get picks 0 ≡ Some pick → (t : TheoryValue) (d : DiagramValue) (h : History) (e : End) → AreRead (theory_text k) (diagram_text k) t d → IsHistoryOf t d demo_limits pick h e
        → Comes e (status_of answer)
    demo_comes one k pick is_command chosen t d h e files is = elim (demo_at k pick is_command chosen) [
      | no_memory n ↦ comes_no_memory e (status_of answer) n
      | faulty message says f ↦ absurd (no_demo_fault k t d message files says)
      | ended s ↦ ended_comes one (theory_text k) (diagram_text k) demo_limits pick t d h e files is s
      | printed u c j log found summed ok ↦ found_comes one (theory_text k) (diagram_text k) demo_limits pick t d h e files is u c j log found (inl ok)
    ]

    pub complete_at : OneHistory → (c : Command) (a b : List ℕ) (limits : Limits) (pick : Pick) → command ≡ Some c → SearchesOver told picks c a b limits pick → (t : TheoryValue) (d : DiagramValue) (h : History) (e : End) → AreRead a b t d
        → IsHistoryOf t d limits pick h e → Comes e result
    complete_at one (Make first second budget weight place) a b limits pick is_command (ea, eb, same, chosen) t d h e files is =
        by_comes answer result e ran no_write (make_comes one first second a b budget weight place pick is_command ea eb chosen t d h e files (subst (λ (l : Limits). IsHistoryOf t d l pick h e) same is))
    complete_at one (Check first second third) a b limits pick is_command over t d h e files is = absurd over
    complete_at one (TheoryCommand first) a b limits pick is_command over t d h e files is = absurd over
    complete_at one (Demo k) a b limits pick is_command (ea, eb, same, chosen) t d h e files is =
        by_comes answer result e ran no_write (demo_comes one k pick is_command chosen t d h e
        (subst (λ (x : List ℕ). AreRead (theory_text k) x t d) eb (subst (λ (x : List ℕ). AreRead x b t d) ea files)) (subst (λ (l : Limits). IsHistoryOf t d l pick h e) same is))

    -- a search that found nothing found nothing else
    ended_apart_from : OneHistory → (a b : List ℕ) (limits : Limits) (pick : Pick) (t : TheoryValue) (d : DiagramValue) (h : History) (log : Log) → IsFound a b limits pick t d h log → Ended a b limits pick answer → ⊥
    ended_apart_from one a b limits pick t d h log found (used_up s f) =
        let same = same_files a b t s.ended.t d s.ended.d found.files s.ended.files in
        let e : end.Spent ≡ end.Found = one_end one limits pick t s.ended.t d s.ended.d h s.ended.history end.Found end.Spent same.0 same.1 found.is s.ended.is in cc
    ended_apart_from one a b limits pick t d h log found (nothing_left made s f) =
        let same = same_files a b t s.t d s.d found.files s.files in
        let e : end.Exhausted ≡ end.Found = one_end one limits pick t s.t d s.d h s.history end.Found end.Exhausted same.0 same.1 found.is s.is in cc
    ended_apart_from one a b limits pick t d h log found (contradicting made s f) =
        let same = same_files a b t s.ended.t d s.ended.d found.files s.ended.files in
        let e : end.Contradiction ≡ end.Found = one_end one limits pick t s.ended.t d s.ended.d h s.ended.history end.Found end.Contradiction same.0 same.1 found.is s.ended.is in cc

    -- the products of what is found are one text
    one_text : OneHistory → AncestorsAreOne → OneProduct → (a b : List ℕ) (limits : Limits) (pick : Pick) (t u : TheoryValue) (d c : DiagramValue) (h k : History) (log other : Log) (text found_text : List ℕ)
        → IsFound a b limits pick t d h log → IsFound a b limits pick u c k other → IsProduct t d log text → IsProduct u c other found_text → found_text ≡ text
    one_text one ancestry product a b limits pick t u d c h k log other text found_text found also is is_too =
        let same = same_files a b t u d c found.files also.files in
        let log_same : other ≡ log = one_found one ancestry a b limits pick t u d c h k log other same.0 same.1 found also in
        product t d log found_text text
        (subst (λ (x : Log). IsProduct t d x found_text) log_same (subst (λ (y : DiagramValue). IsProduct t y other found_text) same.1 (subst (λ (x : TheoryValue). IsProduct x c other found_text) same.0 is_too))) is

    past_limit : (x y : List ℕ) → y ≡ x → length x ≤ text_limit → text_limit < length y → ⊥
    past_limit x y e short long = past (length x) text_limit short (subst (λ (z : List ℕ). text_limit < length z) e long)
      where
        past : (m n : ℕ) → m ≤ n → n < m → ⊥
        past m n p q = omega arith

    pub complete_product_at : OneHistory → AncestorsAreOne → OneProduct → (first second a b : List ℕ) (budget weight place : ℕ) (pick : Pick) → command ≡ Some (Make first second budget weight place) → told first ≡ Some a → told second ≡ Some b → slice_get picks place ≡ Some pick
        → (t : TheoryValue) (d : DiagramValue) (h : History) (log : Log) (text : List ℕ) → IsFound a b (record { budget = budget; weight = weight }) pick t d h log → IsProduct t d log text → length text ≤ text_limit → (result ≡ status.Ok) ⊎ (result ≡ status.NoMemory)
    complete_product_at one ancestry product first second a b budget weight place pick e ea eb chosen t d h log text found is short = by_status answer result status.Ok ran no_write (elim (made_at first second a b budget weight place pick e ea eb chosen) [
      | lost l ↦ absurd (calm_l (unread l.unread))
      | no_memory n r ↦ inr n
      | faulty message says f ↦ absurd (no_fault_of_two a b t d message found.files says)
      | ended s ↦ absurd (ended_apart_from one a b (record { budget = budget; weight = weight }) pick t d h log found s)
      | too_long (u, c, k, other, also, (long_text, is_too, long)) f ↦
          absurd (past_limit text long_text (one_text one ancestry product a b (record { budget = budget; weight = weight }) pick t u d c h k log other text long_text found also is is_too) short long)
      | printed u c k other also p ok ↦ inl ok
    ])

    pub complete_long_at : OneHistory → AncestorsAreOne → OneProduct → (first second a b : List ℕ) (budget weight place : ℕ) (pick : Pick) → command ≡ Some (Make first second budget weight place) → told first ≡ Some a → told second ≡ Some b → slice_get picks place ≡ Some pick
        → (t : TheoryValue) (d : DiagramValue) (h : History) (log : Log) (text : List ℕ) → IsFound a b (record { budget = budget; weight = weight }) pick t d h log → IsProduct t d log text → text_limit < length text → (result ≡ status.Long) ⊎ (result ≡ status.NoMemory)
    complete_long_at one ancestry product first second a b budget weight place pick e ea eb chosen t d h log text found is long = by_status answer result status.Long ran no_write (elim (made_at first second a b budget weight place pick e ea eb chosen) [
      | lost l ↦ absurd (calm_l (unread l.unread))
      | no_memory n r ↦ inr n
      | faulty message says f ↦ absurd (no_fault_of_two a b t d message found.files says)
      | ended s ↦ absurd (ended_apart_from one a b (record { budget = budget; weight = weight }) pick t d h log found s)
      | too_long w f ↦ inl f.status
      | printed u c k other also p ok ↦
          absurd (past_limit (text_of answer) text (sym (one_text one ancestry product a b (record { budget = budget; weight = weight }) pick t u d c h k log other text (text_of answer) found also is p.0)) p.1 long)
    ])

    pub complete_check_at : ReadAreWellFormed → EachHasOneOutcome → (first second third a b x : List ℕ) → command ≡ Some (Check first second third) → told first ≡ Some a → told second ≡ Some b → told third ≡ Some x → (t : TheoryValue) (d : DiagramValue) → AreRead a b t d
        → length x ≤ text_limit → Accepted t d x → (result ≡ status.Ok) ⊎ (result ≡ status.NoMemory)
    complete_check_at reads one first second third a b x e ea eb ex t d files short good = by_status answer result status.Ok ran no_write (elim (checked_at first second third a b x e ea eb ex) [
      | lost l ↦ absurd (calm_l (unread l.unread))
      | no_memory n r ↦ inr n
      | faulty message says is ↦ absurd (no_file_fault a b x t d message files short says)
      | not_accepted u c line why others fault is ↦ absurd (never_refused reads one a b x t u d c line why files others short good fault)
      | is_accepted u c others also ok prints ↦ inl ok
    ])

    pub complete_refusal_at : (first second third a b x : List ℕ) → command ≡ Some (Check first second third) → told first ≡ Some a → told second ≡ Some b → told third ≡ Some x → (t : TheoryValue) (d : DiagramValue) → AreRead a b t d
        → length x ≤ text_limit → (Accepted t d x → ⊥) → (result ≡ status.Refused) ⊎ (result ≡ status.NoMemory)
    complete_refusal_at first second third a b x e ea eb ex t d files short bad = by_status answer result status.Refused ran no_write (elim (checked_at first second third a b x e ea eb ex) [
      | lost l ↦ absurd (calm_l (unread l.unread))
      | no_memory n r ↦ inr n
      | faulty message says is ↦ absurd (no_file_fault a b x t d message files short says)
      | not_accepted u c line why others fault is ↦ inl is.status
      | is_accepted u c others also ok prints ↦ absurd (bad (accepted_over a b x t u d c files others also))
    ])

    pub complete_theory_at : (first a : List ℕ) → command ≡ Some (TheoryCommand first) → told first ≡ Some a → (c : Contents) → theory a ≡ Ok c → (result ≡ status.Ok) ⊎ (result ≡ status.NoMemory)
    complete_theory_at first a e ea c m = by_status answer result status.Ok ran no_write (elim (shown_at first a e ea) [
      | lost l ↦ absurd (calm_l (unread l.unread))
      | no_memory n r ↦ inr n
      | faulty message says is ↦ absurd (no_fault_of a c message m says)
      | printed cs read is ok ↦ inl ok
    ])
