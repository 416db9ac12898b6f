-- Ends of a chain, and what the files of a chain come to.
use Rattle.std.proofs.Common.{◌≡◌, ◌⊎◌, inl, inr, ℕ, refl, ap, subst, Bool, true, Option, Some, Err, List, length}
use Rattle.am_clause.specs.declared.row.Log.{Log}
use Rattle.am_theory.specs.declared.theory.Theory.{Theory as TheoryValue}
use Rattle.am_theory.specs.Limits.{file_limit}
use Rattle.am_theory.specs.Reading.{theory}
use Rattle.am_diagram.specs.declared.diagram.Diagram.{Diagram as DiagramValue}
use Rattle.am_diagram.specs.Reading.{diagram}
use Rattle.am_search.specs.Plain.{Pick}
use Rattle.am_search.specs.declared.outcome.Limits.{Limits}
use Rattle.am_search.specs.declared.outcome.Outcome.{Outcome}
use Rattle.am_search.specs.declared.outcome.Outcome.TheVariants.{Found, Spent, Exhausted, Contradiction}
use Rattle.am_top.specs.declared.answer.File.{File}
use Rattle.am_top.specs.declared.answer.File.TheVariants.{Theory, Diagram}
use Rattle.am_top.specs.declared.answer.Answer.{Answer}
use Rattle.am_top.specs.declared.answer.Answer.TheVariants.{Text, Usage, Refused, Unread, NoMemory}
use Rattle.am_top.specs.declared.answer.Refusal.{Refusal}
use Rattle.am_top.specs.declared.answer.Refusal.TheVariants as refusal
use Rattle.am_top.specs.declared.status.Status.{Status}
use Rattle.am_top.specs.declared.status.Status.TheVariants as status
use Rattle.am_top.specs.Answers.{Prints, Refuses, CannotRead, NotLoaded, IsUnread, status_at, status_of, text_of, message_of}
use Rattle.am_top.specs.Clauses.{SaysTheoryFault, SaysFaultOver}
use Rattle.am_top.specs.Commands.{IsTheory, IsDiagram, TheoryOf, DiagramOf, SearchOf, EndsBy}

-- ---- the end of a chain

pub unread_status : (f : File) (answer : Answer) → CannotRead f answer → (status_of answer ≡ status.Read) × IsUnread answer
unread_status f (Text text) h = absurd h
unread_status f Usage h = absurd h
unread_status f (Refused r message) h = absurd h
unread_status f (Unread g) h = (refl, tt)
unread_status f NoMemory h = absurd h

pub refused_status : (r : Refusal) (says : List ℕ) (answer : Answer) → Refuses r says answer → (status_of answer ≡ status_at r) × (message_of answer ≡ says)
refused_status r says (Text text) h = absurd h
refused_status r says Usage h = absurd h
refused_status r says (Refused s message) h = (ap status_at h.0, h.1)
refused_status r says (Unread g) h = absurd h
refused_status r says NoMemory h = absurd h

pub printed_status : (Is : List ℕ → Type 0) (answer : Answer) → Prints Is answer → (status_of answer ≡ status.Ok) × Is (text_of answer)
printed_status Is (Text text) h = (refl, h)
printed_status Is Usage h = absurd h
printed_status Is (Refused s message) h = absurd h
printed_status Is (Unread g) h = absurd h
printed_status Is NoMemory h = absurd h

-- an answer of this status is that a file is unread
pub read_answer : (answer : Answer) → status_of answer ≡ status.Read → IsUnread answer
read_answer (Text text) e = absurd cc
read_answer Usage e = absurd cc
read_answer (Refused refusal.File message) e = absurd cc
read_answer (Refused refusal.Text message) e = absurd cc
read_answer (Refused refusal.Spent message) e = absurd cc
read_answer (Refused refusal.Exhausted message) e = absurd cc
read_answer (Refused refusal.Contradiction message) e = absurd cc
read_answer (Refused refusal.Long message) e = absurd cc
read_answer (Unread g) e = tt
read_answer NoMemory e = absurd cc

pub unread_answer : (answer : Answer) → IsUnread answer → status_of answer ≡ status.Read
unread_answer (Text text) u = absurd u
unread_answer Usage u = absurd u
unread_answer (Refused r message) u = absurd u
unread_answer (Unread g) u = refl
unread_answer NoMemory u = absurd u

-- the answer has this status, and says this
pub record IsTold (s : Status) (text : List ℕ) (answer : Answer) : Type 0 where
  pub status : status_of answer ≡ s
  pub message : message_of answer ≡ text

pub told_so : (r : Refusal) (says : List ℕ) (answer : Answer) → Refuses r says answer → IsTold (status_at r) says answer
told_so r says answer h = let s = refused_status r says answer h in record { status = s.0; message = s.1 }

-- a file can't be read, and isn't sure
pub record IsLost (sure : Type 0) (answer : Answer) : Type 0 where
  pub status : status_of answer ≡ status.Read
  pub unread : IsUnread answer
  pub unsure : sure → ⊥

-- ---- what came of a file, where it is told

module _ (told : Option (List ℕ)) (sure : Type 0) (a : List ℕ) (ea : told ≡ Some a) (answer : Answer) where
  pub theory_case : (next : TheoryValue → Answer → Type 0) → TheoryOf told sure next answer
      → IsLost sure answer ⊎ (((message : List ℕ) × SaysTheoryFault a message × IsTold status.File message answer) ⊎ ((t : TheoryValue) × IsTheory a t × next t answer))
  theory_case next (inl (inl (unread, unsure))) = let s = unread_status Theory answer unread in inl (record { status = s.0; unread = s.1; unsure = unsure })
  theory_case next (inl (inr (refused, long))) = inr (inl (_, inl (long a ea, refl), told_so refusal.File _ answer refused))
  theory_case next (inr (bytes, loaded, inl (f, is, refused))) =
      inr (inl (_, inr (f, subst (λ (x : List ℕ). theory x ≡ Err f) (loaded.same a ea) is, refl), told_so refusal.File _ answer refused))
  theory_case next (inr (bytes, loaded, inr (t, is, after))) = inr (inr (t, subst (λ (x : List ℕ). IsTheory x t) (loaded.same a ea) is, after))

  pub diagram_case : (t : TheoryValue) (next : DiagramValue → Answer → Type 0) → DiagramOf t told sure next answer
      → IsLost sure answer ⊎ (((message : List ℕ) × SaysFaultOver t a message × IsTold status.File message answer) ⊎ ((d : DiagramValue) × IsDiagram t a d × next d answer))
  diagram_case t next (inl (inl (unread, unsure))) = let s = unread_status Diagram answer unread in inl (record { status = s.0; unread = s.1; unsure = unsure })
  diagram_case t next (inl (inr (refused, long))) = inr (inl (_, inl (long a ea, refl), told_so refusal.File _ answer refused))
  diagram_case t next (inr (bytes, loaded, inl (f, is, refused))) =
      inr (inl (_, inr (f, subst (λ (x : List ℕ). diagram t x ≡ Err f) (loaded.same a ea) is, refl), told_so refusal.File _ answer refused))
  diagram_case t next (inr (bytes, loaded, inr (d, is, after))) = inr (inr (d, subst (λ (x : List ℕ). IsDiagram t x d) (loaded.same a ea) is, after))

-- ---- which statuses a chain may have: what holds of those of its refusals, and of what is behind, holds of its status

module _ (ok : Status → Bool) (answer : Answer) where
  pub refused_may : (r : Refusal) (says : List ℕ) → ok (status_at r) ≡ true → Refuses r says answer → ok (status_of answer) ≡ true
  refused_may r says is h = subst (λ (s : Status). ok s ≡ true) (back (refused_status r says answer h).0) is
    where
      back : status_of answer ≡ status_at r → status_at r ≡ status_of answer
      back e = cc

  pub printed_may : (Is : List ℕ → Type 0) → ok status.Ok ≡ true → Prints Is answer → ok (status_of answer) ≡ true
  printed_may Is is h = subst (λ (s : Status). ok s ≡ true) (back (printed_status Is answer h).0) is
    where
      back : status_of answer ≡ status.Ok → status.Ok ≡ status_of answer
      back e = cc

  unread_may : (f : File) → ok status.Read ≡ true → CannotRead f answer → ok (status_of answer) ≡ true
  unread_may f is h = subst (λ (s : Status). ok s ≡ true) (back (unread_status f answer h).0) is
    where
      back : status_of answer ≡ status.Read → status.Read ≡ status_of answer
      back e = cc

  module _ (faulty : ok status.File ≡ true) where
    pub not_loaded_may : (f : File) (limit : ℕ) (told : Option (List ℕ)) (sure : Type 0) → ((sure → ⊥) → ok status.Read ≡ true) → NotLoaded f limit told sure answer → ok (status_of answer) ≡ true
    not_loaded_may f limit told sure lost (inl (cannot, unsure)) = unread_may f (lost unsure) cannot
    not_loaded_may f limit told sure lost (inr (refused, long)) = refused_may refusal.File _ faulty refused

    pub theory_may : (told : Option (List ℕ)) (sure : Type 0) → ((sure → ⊥) → ok status.Read ≡ true) → (next : TheoryValue → Answer → Type 0) → ((t : TheoryValue) → next t answer → ok (status_of answer) ≡ true)
        → TheoryOf told sure next answer → ok (status_of answer) ≡ true
    theory_may told sure lost next rest (inl not) = not_loaded_may Theory file_limit told sure lost not
    theory_may told sure lost next rest (inr (bytes, loaded, inl (f, is, refused))) = refused_may refusal.File _ faulty refused
    theory_may told sure lost next rest (inr (bytes, loaded, inr (t, is, after))) = rest t after

    pub diagram_may : (t : TheoryValue) (told : Option (List ℕ)) (sure : Type 0) → ((sure → ⊥) → ok status.Read ≡ true) → (next : DiagramValue → Answer → Type 0) → ((d : DiagramValue) → next d answer → ok (status_of answer) ≡ true)
        → DiagramOf t told sure next answer → ok (status_of answer) ≡ true
    diagram_may t told sure lost next rest (inl not) = not_loaded_may Diagram file_limit told sure lost not
    diagram_may t told sure lost next rest (inr (bytes, loaded, inl (f, is, refused))) = refused_may refusal.File _ faulty refused
    diagram_may t told sure lost next rest (inr (bytes, loaded, inr (d, is, after))) = rest d after

  module _ (spent : ok status.Spent ≡ true) (exhausted : ok status.Exhausted ≡ true) (contradicts : ok status.Contradiction ≡ true) where
    pub search_may : (t : TheoryValue) (d : DiagramValue) (limits : Limits) (pick : Pick) (next : Log → ℕ → Answer → Type 0) → ((log : Log) (made : ℕ) → next log made answer → ok (status_of answer) ≡ true)
        → SearchOf t d limits pick next answer → ok (status_of answer) ≡ true
    search_may t d limits pick next rest (o, searched, ends) = by_end o ends
      where
        by_end : (o : Outcome) → EndsBy t d limits next o answer → ok (status_of answer) ≡ true
        by_end (Found log entries choices) h = rest log (length entries) h
        by_end (Spent entries choices) h = refused_may refusal.Spent _ spent h
        by_end (Exhausted entries choices) h = refused_may refusal.Exhausted _ exhausted h
        by_end (Contradiction log entries choices) h = refused_may refusal.Contradiction _ contradicts h.1
