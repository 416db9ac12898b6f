-- A text has one outcome: it is accepted, or has one first fault.
use Rattle.std.proofs.Common.{◌≡◌, ◌∙◌, ◌+◌, ◌<◌, ◌≤◌, ◌++◌, ◌⊎◌, inl, inr, ℕ, zero, suc, Bool, true, false, eqb-true, get_or, refl, sym, ap, subst, arith, List, [], ◌∷◌, Option, Some, None, Result, Ok, Err, length, length-append, take, slice_get}
use Rattle.std.specs.Prelude.{◌==◌, if◌then◌else◌}
use Rattle.std.specs.List.{AllByRecursion}
use Rattle.std.proofs.lemmas.Bool.{cases_order}
use Rattle.std.proofs.lemmas.Bool.Decides.{nat_tests}
use Rattle.am_term.specs.declared.term.Term.{Term}
use Rattle.am_clause.specs.declared.clause.Clause.{Clause}
use Rattle.am_clause.specs.declared.row.Row.{Row}
use Rattle.am_clause.specs.declared.row.Log.{Log}
use Rattle.am_calculus.specs.declared.fault.StepFault.{StepFault}
use Rattle.am_calculus.specs.declared.fault.StepFault.TheVariants as step
use Rattle.am_theory.specs.declared.theory.Theory.{Theory}
use Rattle.am_theory.specs.Facts.{WellFormed}
use Rattle.am_diagram.specs.declared.diagram.Diagram.{Diagram}
use Rattle.am_diagram.specs.Facts.{WellFormed as WellDrawn}
use Rattle.am_diagram.specs.Listed.{entry_sorts}
use Rattle.am_diagram.specs.Steps.{IsProof, sources}
use Rattle.am_calculus.specs.Faults.{first_fault}
use Rattle.am_log.specs.declared.fault.LogKind.{LogKind}
use Rattle.am_log.specs.declared.fault.LogKind.TheVariants as log
use Rattle.am_log.specs.Faults.{lines_in, line_at, rank, IsFault as IsLogFault}
use Rattle.am_log.specs.Groups.{groups}
use Rattle.am_log.specs.Laws.{OneText, OneSplit, LogIsTheProofPart, EachIsLogOrFault}
use Rattle.am_log.specs.Split.{IsSplit, begin_without_c, is_no_c, lines_begin}
use Rattle.am_log.specs.Text.{byte_limit, log_text}
use Rattle.am_fortran.specs.declared.fault.UnitKind.{UnitKind}
use Rattle.am_fortran.specs.declared.unit.Unit.{Unit as Subroutine}
use Rattle.am_fortran.specs.Lines.{Line, lines_of, onto_first}
use Rattle.am_fortran.specs.Text.{unit_text}
use Rattle.am_fortran.specs.Units.{IsUnit}
use Rattle.am_fortran.proofs.Cards.{fits_card}
use Rattle.am_fortran.proofs.Parts.{unit_injective}
use Rattle.am_fortran.proofs.Reached.{no_fault, one_fault}
use Rattle.am_exec.specs.declared.fault.ExecKind.{ExecKind}
use Rattle.am_exec.specs.declared.fault.ExecFault.{ExecFault}
use Rattle.am_exec.specs.Terms.{terms, fault_at}
use Rattle.am_check.specs.Accepted.{Accepted, EndsWith}
use Rattle.am_check.specs.FirstFault.{row_line, item_line, end_item_number, IsLog, IsProofOf, IsTextOf, IsFirstBad, HasBadStep, IsUnfinished, HasBadUnit, HasBadRun, HasOtherTerms, IsFaultOf, IsFirstFault}
use Rattle.am_check.specs.Laws.{EachHasOneOutcome}
use Rattle.am_check.specs.Phases.{of_step}
use Rattle.am_check.specs.declared.reason.Reason.{Reason}
use Rattle.am_check.specs.declared.reason.Reason.TheVariants as reason
use Rattle.am_check.proofs.Rows.{proof-good}

-- ---- one fault or no fault, by phases

abbrev Faults : Type 1
Faults = ℕ → Reason → Type 0

abbrev One : Faults → Type 0
One F = (l m : ℕ) (w v : Reason) → F l w → F m v → (l ≡ m) × (w ≡ v)

abbrev Not : Faults → Type 0
Not F = (l : ℕ) (w : Reason) → F l w → ⊥

-- a fault of a phase, or the phase is passed and a later one has a fault
abbrev Then : Faults → Type 0 → Faults → Faults
Then F P G l w = F l w ⊎ (P × G l w)

one-then : (F : Faults) (P : Type 0) (G : Faults) → (P → Not F) → One F → One G → One (Then F P G)
one-then F P G not f g l m w v (inl a) (inl b) = f l m w v a b
one-then F P G not f g l m w v (inl a) (inr b) = absurd (not b.0 l w a)
one-then F P G not f g l m w v (inr a) (inl b) = absurd (not a.0 m v b)
one-then F P G not f g l m w v (inr a) (inr b) = g l m w v a.1 b.1

not-then : (F : Faults) (P : Type 0) (G : Faults) → Not F → Not G → Not (Then F P G)
not-then F P G f g l w (inl a) = f l w a
not-then F P G f g l w (inr a) = g l w a.1

-- ---- rows

take-take : {A : Type 0} (p q : ℕ) (xs : List A) → p < q → take p (take q xs) ≡ take p xs
take-take zero q xs h = refl
take-take (suc p) zero xs h = absurd (omega arith)
take-take (suc p) (suc q) [] h = refl
take-take (suc p) (suc q) (x ∷ xs) h = ap (λ z. x ∷ z) (take-take p q xs (omega arith))

get-take : {A : Type 0} (p q : ℕ) (xs : List A) → p < q → slice_get (take q xs) p ≡ slice_get xs p
get-take p zero xs h = absurd (omega arith)
get-take p (suc q) [] h = refl
get-take zero (suc q) (x ∷ xs) h = refl
get-take (suc p) (suc q) (x ∷ xs) h = get-take p q xs (omega arith)

bad-within : (t : Theory) (d : Diagram) (rows : List Row) (p q : ℕ) (f : StepFault) → p < q → IsFirstBad t d rows p f → IsFirstBad t d (take q rows) p f
bad-within t d rows p q f h b = record {
  before = subst (IsProof t d) (sym (take-take p q rows h)) b.before;
  row = b.row;
  there = get-take p q rows h ∙ b.there;
  bad = subst (λ (z : List Row). first_fault t.sig (entry_sorts d.inputs) (sources t d) z b.row ≡ Some f) (sym (take-take p q rows h)) b.bad;
}

one-bad : (t : Theory) (d : Diagram) (rows : List Row) (p q : ℕ) (f g : StepFault) → IsFirstBad t d rows p f → IsFirstBad t d rows q g → (p ≡ q) × (f ≡ g)
one-bad t d rows p q f g a b = elim (cases_order p q) [
  | inl e ↦ (e, same-place e)
  | inr c ↦ elim c [
    | inl lt ↦ absurd (proof-good t d (take q rows) p f b.before (bad-within t d rows p q f lt a))
    | inr gt ↦ absurd (proof-good t d (take p rows) q g a.before (bad-within t d rows q p g gt b))
  ]
]
  where
    same-place : p ≡ q → f ≡ g
    same-place e =
        let r : Some a.row ≡ Some b.row = sym a.there ∙ ap (slice_get rows) e ∙ b.there in
        let row : a.row ≡ b.row = cc in
        let x : Some f ≡ Some g = sym a.bad ∙ ap (λ (z : Row). first_fault t.sig (entry_sorts d.inputs) (sources t d) (take p rows) z) row ∙ ap (λ (k : ℕ). first_fault t.sig (entry_sorts d.inputs) (sources t d) (take k rows) b.row) e ∙ b.bad in
        cc

ends-one : (rows : List Row) (x y : List Term) → EndsWith rows x → EndsWith rows y → x ≡ y
ends-one rows x y e f = let h : Some (record { literals = []; answer = Some x }) ≡ Some (record { literals = []; answer = Some y }) = sym e ∙ f in ap answer_in (ap clause_in h)
  where
    clause_in : Option Clause → Clause
    clause_in None = record { literals = []; answer = None }
    clause_in (Some c) = c

    term_in : Option (List Term) → List Term
    term_in None = []
    term_in (Some ts) = ts

    answer_in : Clause → List Term
    answer_in c = term_in c.answer

-- ---- the phases

-- the laws of the text of logs
pub record LogLaws (t : Theory) (d : Diagram) (proof : List ℕ) : Type 0 where
  pub same : (log other : Log) → IsLog t d proof log → IsLog t d proof other → log ≡ other
  pub none : (log : Log) → IsLog t d proof log → (line : ℕ) (kind : LogKind) → IsLogFault t d proof line kind → ⊥
  pub one : (line other : ℕ) (kind also : LogKind) → IsLogFault t d proof line kind → IsLogFault t d proof other also → (line ≡ other) × (kind ≡ also)

module _ (t : Theory) (d : Diagram) (proof unit : List ℕ) (laws : LogLaws t d proof) where
  abbrev F1 : Faults
  F1 l w = (kind : LogKind) × (w ≡ reason.Log kind) × IsLogFault t d proof l kind

  abbrev F2 : Faults
  F2 l w = (f : StepFault) × (w ≡ of_step f) × HasBadStep t d proof l f

  abbrev F3 : Faults
  F3 l w = (w ≡ reason.NotFinal) × IsUnfinished t d proof l

  abbrev F4 : Faults
  F4 l w = (kind : UnitKind) × (w ≡ reason.Unit kind) × HasBadUnit t d proof unit l kind

  abbrev F5 : Faults
  F5 l w = (kind : ExecKind) × (w ≡ reason.Exec kind) × HasBadRun t d proof unit l kind

  abbrev F6 : Faults
  F6 l w = (w ≡ reason.Differs) × HasOtherTerms t d proof unit l

  abbrev P1 : Type 0
  P1 = (log : Log) × IsLog t d proof log

  abbrev P2 : Type 0
  P2 = (log : Log) × IsLog t d proof log × IsProof t d log.rows

  abbrev P3 : Type 0
  P3 = (answer : List Term) × IsProofOf t d proof answer

  abbrev P4 : Type 0
  P4 = (u : Subroutine) × IsTextOf unit u

  abbrev P5 : Type 0
  P5 = (u : Subroutine) × (ts : List Term) × IsTextOf unit u × (terms t d u ≡ Ok ts)

  abbrev S5 : Faults
  S5 = Then F5 P5 F6

  abbrev S4 : Faults
  S4 = Then F4 P4 S5

  abbrev S3 : Faults
  S3 = Then F3 P3 S4

  abbrev S2 : Faults
  S2 = Then F2 P2 S3

  abbrev S1 : Faults
  S1 = Then F1 P1 S2

  from1 : (l : ℕ) (w : Reason) → P1 → S2 l w → S1 l w
  from1 l w p s = inr (p, s)

  from2 : (l : ℕ) (w : Reason) → P2 → S3 l w → S1 l w
  from2 l w p s = from1 l w (p.0, p.1) (inr (p, s))

  from3 : (l : ℕ) (w : Reason) → P3 → S4 l w → S1 l w
  from3 l w p s = from2 l w (p.1.log, p.1.read, p.1.steps) (inr (p, s))

  row_fault : (l : ℕ) (f : StepFault) → HasBadStep t d proof l f → S1 l (of_step f)
  row_fault l f h = from1 l (of_step f) (h.log, h.read) (inl (f, refl, h))

  phased : (l : ℕ) (w : Reason) → IsFaultOf t d proof unit l w → S1 l w
  phased l (reason.Log kind) h = inl (kind, refl, h)
  phased l reason.NoSuchParent h = row_fault l step.NoSuchParent h
  phased l reason.BadPlace h = row_fault l step.BadPlace h
  phased l reason.BadBindings h = row_fault l step.BadBindings h
  phased l reason.NotEqual h = row_fault l step.NotEqual h
  phased l reason.AnswersDiffer h = row_fault l step.AnswersDiffer h
  phased l reason.WrongConclusion h = row_fault l step.WrongConclusion h
  phased l reason.NotFinal h = from2 l reason.NotFinal (h.log, h.read, h.steps) (inl (refl, h))
  phased l (reason.Unit kind) h = from3 l (reason.Unit kind) (h.answer, h.proved) (inl (kind, refl, h))
  phased l (reason.Exec kind) h = from3 l (reason.Exec kind) (h.answer, h.proved) (inr ((h.run, h.read), inl (kind, refl, h)))
  phased l reason.Differs h = from3 l reason.Differs (h.answer, h.proved) (inr ((h.run, h.read), inr ((h.run, h.gives, h.read, h.leaves), (refl, h))))

  one1 : One F1
  one1 l m w v a b = let e = laws.one l m a.0 b.0 a.2 b.2 in (e.0, a.1 ∙ ap reason.Log e.1 ∙ sym b.1)

  not1 : P1 → Not F1
  not1 p l w a = laws.none p.0 p.1 l a.0 a.2

  one2 : One F2
  one2 l m w v a b =
      let e : a.2.log ≡ b.2.log = laws.same a.2.log b.2.log a.2.read b.2.read in
      let f : IsFirstBad t d b.2.log.rows a.2.place a.0 = subst (λ (z : Log). IsFirstBad t d z.rows a.2.place a.0) e a.2.first in
      let g = one-bad t d b.2.log.rows a.2.place b.2.place a.0 b.0 f b.2.first in
      (a.2.begins ∙ ap (λ (k : ℕ). row_line proof (suc k)) g.0 ∙ sym b.2.begins, a.1 ∙ ap of_step g.1 ∙ sym b.1)

  not2 : P2 → Not F2
  not2 p l w a = proof-good t d a.2.log.rows a.2.place a.0 (subst (λ (z : Log). IsProof t d z.rows) (laws.same p.0 a.2.log p.1 a.2.read) p.2) a.2.first

  one3 : One F3
  one3 l m w v a b = (a.1.begins ∙ ap (λ (z : Log). row_line proof (length z.rows)) (laws.same a.1.log b.1.log a.1.read b.1.read) ∙ sym b.1.begins, a.0 ∙ sym b.0)

  not3 : P3 → Not F3
  not3 p l w a = a.1.open_end p.0 (subst (λ (z : Log). EndsWith z.rows p.0) (laws.same p.1.log a.1.log p.1.read a.1.read) p.1.ends)

  one4 : One F4
  one4 l m w v a b =
      let e = one_fault unit a.2.within b.2.within a.0 b.0 a.2.fault b.2.fault in
      (a.2.begins ∙ ap (λ (k : ℕ). lines_in proof + k) e.0 ∙ sym b.2.begins, a.1 ∙ ap reason.Unit e.1 ∙ sym b.1)

  not4 : P4 → Not F4
  not4 p l w a = no_fault p.0 p.1.is_unit unit p.1.text a.2.within a.0 a.2.fault

  same-unit : (u v : Subroutine) → IsTextOf unit u → IsTextOf unit v → u ≡ v
  same-unit u v a b = unit_injective u v a.is_unit b.is_unit (sym a.text ∙ b.text)

  one5 : One F5
  one5 l m w v a b =
      let e : a.2.run ≡ b.2.run = same-unit a.2.run b.2.run a.2.read b.2.read in
      let f : Err (fault_at a.2.item a.0) ≡ Err (fault_at b.2.item b.0) = sym a.2.fault ∙ ap (λ (u : Subroutine). terms t d u) e ∙ b.2.fault in
      let g : fault_at a.2.item a.0 ≡ fault_at b.2.item b.0 = ap fault_in f in
      let i : a.2.item ≡ b.2.item = ap (λ (x : ExecFault). x.item) g in
      let k : a.0 ≡ b.0 = ap (λ (x : ExecFault). x.kind) g in
      (a.2.begins ∙ ap (λ (n : ℕ). lines_in proof + item_line unit n) i ∙ sym b.2.begins, a.1 ∙ ap reason.Exec k ∙ sym b.1)
    where
      fault_in : Result (List Term) ExecFault → ExecFault
      fault_in (Ok ts) = fault_at 0 a.0
      fault_in (Err e) = e

  not5 : P5 → Not F5
  not5 p l w a = let e : Ok p.1 ≡ Err (fault_at a.2.item a.0) = sym p.3 ∙ ap (λ (u : Subroutine). terms t d u) (same-unit p.0 a.2.run p.2 a.2.read) ∙ a.2.fault in absurd cc

  one6 : One F6
  one6 l m w v a b = (a.1.begins ∙ ap (λ (u : Subroutine). lines_in proof + item_line unit (end_item_number u)) (same-unit a.1.run b.1.run a.1.read b.1.read) ∙ sym b.1.begins, a.0 ∙ sym b.0)

  -- two first faults are one
  pub one-outcome : (l m : ℕ) (w v : Reason) → IsFaultOf t d proof unit l w → IsFaultOf t d proof unit m v → (l ≡ m) × (w ≡ v)
  one-outcome l m w v f g =
      one-then F1 P1 S2 not1 one1 (one-then F2 P2 S3 not2 one2 (one-then F3 P3 S4 not3 one3 (one-then F4 P4 S5 not4 one4 (one-then F5 P5 F6 not5 one5 one6))))
      l m w v (phased l w f) (phased m v g)

  -- a unit that leaves the answer of the proof has none
  pub no-outcome : (answer : List Term) → IsProofOf t d proof answer → (u : Subroutine) → IsTextOf unit u → terms t d u ≡ Ok answer → Not (IsFaultOf t d proof unit)
  no-outcome answer p u r e l w f =
      not-then F1 P1 S2 (not1 (p.log, p.read)) (not-then F2 P2 S3 (not2 (p.log, p.read, p.steps)) (not-then F3 P3 S4 (not3 (answer, p)) (not-then F4 P4 S5 (not4 (u, r)) (not-then F5 P5 F6 (not5 (u, answer, r, e)) not6))))
      l w (phased l w f)
    where
      not6 : Not F6
      not6 k v a =
          let log : p.log ≡ a.1.proved.log = laws.same p.log a.1.proved.log p.read a.1.proved.read in
          let same : answer ≡ a.1.answer = ends-one a.1.proved.log.rows answer a.1.answer (subst (λ (z : Log). EndsWith z.rows answer) log p.ends) a.1.proved.ends in
          let both : Ok a.1.gives ≡ Ok answer = sym a.1.leaves ∙ ap (λ (x : Subroutine). terms t d x) (same-unit a.1.run u a.1.read r) ∙ e in
          let given : a.1.gives ≡ answer = cc in
          a.1.other (given ∙ same)

-- ---- texts

-- no line of a unit's text begins with `C`
abbrev plain-line : Line → Type 0
plain-line l = slice_get l.text 0 ≡ Some 67 → ⊥

all-from : (ls : List Line) → ((k : ℕ) (e : Line) → k < length ls → plain-line (get_or ls k e)) → AllByRecursion plain-line ls
all-from [] h = tt
all-from (l ∷ ls) h = (h 0 l (omega arith), all-from ls (λ k e lt. h (suc k) e (omega arith)))

abbrev rest-of : List Line → List Line
rest-of [] = []
rest-of (l ∷ ls) = ls

abbrev begins-so : (start : Bool) → List Line → Type 0
begins-so true ls = AllByRecursion plain-line ls
begins-so false ls = AllByRecursion plain-line (rest-of ls)

onto-rest : (b : ℕ) (ls : List Line) → rest-of (onto_first b ls) ≡ rest-of ls
unfolding onto_first
onto-rest b [] = refl
onto-rest b (l ∷ ls) = refl

onto-plain : (b : ℕ) (ls : List Line) → AllByRecursion plain-line (onto_first b ls) → (b ≡ 67 → ⊥) × AllByRecursion plain-line (rest-of ls)
unfolding onto_first
onto-plain b [] h = (λ e. h.0 (ap Some e), tt)
onto-plain b (l ∷ ls) h = (λ e. h.0 (ap Some e), h.1)

no-c : (b : ℕ) → (b ≡ 67 → ⊥) → is_no_c b ≡ true
no-c b h = grind (arith, nat_tests)

lines-step : (b : ℕ) (bs : List ℕ) → ((s : Bool) → begins-so s (lines_of bs) → lines_begin is_no_c s bs ≡ true) → (s t : Bool) → (b == 10) ≡ t → begins-so s (if t then record { text = []; ended = true } ∷ lines_of bs else onto_first b (lines_of bs)) → lines_begin is_no_c s (b ∷ bs) ≡ true
lines-step b bs k true true e h = rw (no-c b (λ c. omega (arith, c, eqb-true b 10 e)), e) (k true h.1)
lines-step b bs k false true e h = rw e (k true h)
lines-step b bs k true false e h = let p = onto-plain b (lines_of bs) h in rw (no-c b p.0, e) (k false p.1)
lines-step b bs k false false e h = rw e (k false (subst (AllByRecursion plain-line) (onto-rest b (lines_of bs)) h))

lines-without : (bs : List ℕ) (start : Bool) → begins-so start (lines_of bs) → lines_begin is_no_c start bs ≡ true
unfolding lines_of
lines-without [] start h = refl
lines-without (b ∷ bs) start h = lines-step b bs (lines-without bs) start (b == 10) refl h

pub unit-without : (u : Subroutine) → IsUnit u → begin_without_c (unit_text u) ≡ true
unit-without u h = let f = fits_card u h in lines-without (unit_text u) true (all-from (lines_of (unit_text u)) (λ k e l. (f.columns k e l).no_comment))

-- ---- one fault of a log

kind-of-rank : ℕ → LogKind
kind-of-rank n =
    if n == 1 then log.NotProof
    else if n == 2 then log.BadWrap
    else if n == 3 then log.BadRow
    else if n == 4 then log.BadNumber
    else if n == 5 then log.UnknownName
    else if n == 6 then log.BadSort
    else log.NoMemory

kind-again : (kind : LogKind) → kind-of-rank (rank kind) ≡ kind
unfolding kind-of-rank
kind-again log.NotProof = refl
kind-again log.BadWrap = refl
kind-again log.BadRow = refl
kind-again log.BadNumber = refl
kind-again log.UnknownName = refl
kind-again log.BadSort = refl
kind-again log.NoMemory = refl

meet : (p q a b : ℕ) → (p < q) ⊎ ((p ≡ q) × (a ≤ b)) → (q < p) ⊎ ((q ≡ p) × (b ≤ a)) → (p ≡ q) × (a ≡ b)
meet p q a b (inl x) (inl y) = absurd (omega (arith, x, y))
meet p q a b (inl x) (inr y) = absurd (let z = y.0 in omega (arith, x, z))
meet p q a b (inr x) (inl y) = absurd (let z = x.0 in omega (arith, y, z))
meet p q a b (inr x) (inr y) = let z = x.1 in let v = y.1 in (x.0, omega (arith, z, v))

one-log-fault : (t : Theory) (d : Diagram) (bytes : List ℕ) (line other : ℕ) (kind also : LogKind) → IsLogFault t d bytes line kind → IsLogFault t d bytes other also → (line ≡ other) × (kind ≡ also)
one-log-fault t d bytes line other kind also f g =
    let m = meet f.place g.place (rank kind) (rank also) (f.at.first g.place also g.at.holds) (g.at.first f.place kind f.at.holds) in
    (f.begins ∙ ap (line_at (groups bytes)) m.0 ∙ sym g.begins, sym (kind-again kind) ∙ ap kind-of-rank m.1 ∙ kind-again also)

log-laws : OneText → EachIsLogOrFault → (t : Theory) (d : Diagram) → WellFormed t → WellDrawn t d → (proof : List ℕ) → length proof ≤ byte_limit → LogLaws t d proof
log-laws texts each t d wt wd proof small = record {
  same = λ log other a b. texts t d log other wt wd a.has_text b.has_text (sym a.text ∙ b.text);
  none = λ log a. (each t d proof wt wd small).not_both log a.has_text a.text;
  one = one-log-fault t d proof;
}

-- ---- all together

pub record TextLaws : Type 0 where
  pub texts : OneText
  pub each : EachIsLogOrFault
  pub splits : OneSplit
  pub part : LogIsTheProofPart

part-small : (text proof unit : List ℕ) → text ≡ proof ++ unit → length text ≤ byte_limit → length proof ≤ byte_limit
part-small text proof unit e h = let n : length text ≡ length proof + length unit = ap length e ∙ length-append proof unit in omega (arith, n, h)

accepted-none : TextLaws → (t : Theory) (d : Diagram) (text : List ℕ) → WellFormed t → WellDrawn t d → length text ≤ byte_limit → (line : ℕ) (why : Reason) → Accepted t d text → IsFirstFault t d text line why → ⊥
accepted-none laws t d text wt wd small line why a f =
    let proof = log_text t d a.log in
    let unit = unit_text a.unit in
    let split : IsSplit text proof unit = subst (λ (x : List ℕ). IsSplit x proof unit) (sym a.is) (laws.part t d a.log unit wt wd a.logged (unit-without a.unit a.lawful)) in
    let same = laws.splits text f.proof f.unit proof unit f.split split in
    let fault : IsFaultOf t d proof unit line why = subst (λ (x : List ℕ). IsFaultOf t d proof x line why) same.1 (subst (λ (x : List ℕ). IsFaultOf t d x f.unit line why) same.0 f.fault) in
    no-outcome t d proof unit (log-laws laws.texts laws.each t d wt wd proof (part-small text proof unit a.is small)) a.answer
    (record { log = a.log; read = record { has_text = a.logged; text = refl }; steps = a.proved; ends = a.ends }) a.unit (record { is_unit = a.lawful; text = refl }) a.gives line why fault

fault-one : TextLaws → (t : Theory) (d : Diagram) (text : List ℕ) → WellFormed t → WellDrawn t d → length text ≤ byte_limit → (line other : ℕ) (why because : Reason) → IsFirstFault t d text line why → IsFirstFault t d text other because → (line ≡ other) × (why ≡ because)
fault-one laws t d text wt wd small line other why because f g =
    let same = laws.splits text g.proof g.unit f.proof f.unit g.split f.split in
    let fault : IsFaultOf t d f.proof f.unit other because = subst (λ (x : List ℕ). IsFaultOf t d f.proof x other because) same.1 (subst (λ (x : List ℕ). IsFaultOf t d x g.unit other because) same.0 g.fault) in
    one-outcome t d f.proof f.unit (log-laws laws.texts laws.each t d wt wd f.proof (part-small text f.proof f.unit f.split.all small)) line other why because f.fault fault

pub each-has-one : TextLaws → EachHasOneOutcome
each-has-one laws t d text wt wd small = record { not_both = accepted-none laws t d text wt wd small; one = fault-one laws t d text wt wd small }
