-- The row by which a search ends has no literals and no variables, and where the end says so an answer that a program can
-- compute.
use Rattle.std.proofs.Common.{◌≡◌, ◌∙◌, ◌&&◌, ◌++◌, ◌+◌, ◌-◌, ℕ, zero, suc, Bool, true, false, refl, sym, ap, subst}
use Rattle.std.proofs.Common.{List, [], ◌∷◌, length, Option, Some, None, option_map, is_some, if◌then◌else◌}
use Rattle.am_term.specs.declared.id.SortId.{SortId}
use Rattle.am_term.specs.declared.signature.Signature.{Signature}
use Rattle.am_term.proofs.Tests.{and_left, and_right}
use Rattle.am_clause.specs.declared.clause.Clause.{Clause}
use Rattle.am_clause.specs.declared.row.Made.{Made}
use Rattle.am_clause.specs.declared.row.Row.{Row}
use Rattle.am_clause.specs.declared.row.Rule.TheVariants as R
use Rattle.am_clause.specs.Steps.{Sources, AreSteps}
use Rattle.am_clause.specs.Variables.{variables}
use Rattle.am_rules.specs.Inference.{row_of}
use Rattle.am_agenda.specs.declared.wait_row.WaitRow.{WaitRow}
use Rattle.am_rules.specs.Conclusions.{closed_off}
use Rattle.am_search.specs.Members.{Member, clause_rows, is_empty, kept_rows, processed, row_at}
use Rattle.am_search.specs.Plain.{kept_or_closed, last_or, dropped_or, rewritten_or, big_or, fate_of, Judged, fated}
use Rattle.am_search.specs.Plain.{prepare, when_quiet, begun, start_prepared, next_start, row_judged, at_first, judged, rest}
use Rattle.am_search.specs.Plain.{History, Start, Then, Choose, Infer, rows, choices, Infers, EachIsDue, due_at}
use Rattle.am_search.specs.Plain.{wait_list}
use Rattle.am_search.specs.Rules.{Rules, rules_of, ends}
use Rattle.am_search.specs.Rules.{rules_of-is_last, rules_of-has_answer, rules_of-close_of, rules_of-reason}
use Rattle.am_search.specs.declared.fate.Fate.{Fate}
use Rattle.am_search.specs.declared.fate.Fate.TheVariants.{Last}
use Rattle.am_search.specs.declared.fate.Prepared.{Prepared}
use Rattle.am_search.specs.declared.fate.Stage.{Stage}
use Rattle.am_search.specs.declared.fate.Stage.TheVariants.{Quiet, Makes, Closes, Ended}
use Rattle.am_search.proofs.Entered.{row_found}
use Rattle.am_search.proofs.Replayed.{at_more}
use Rattle.am_simplify.specs.Numbering.{or_else}
use Rattle.am_simplify.specs.Reasons.{NumberedClause, is_uncomputed, is_open, own_reason, reason, reason_if, too_big, subsumer, by_subsumer}
use Rattle.am_simplify.specs.declared.reason.Reason.{Reason}
use Rattle.am_simplify.specs.declared.reason.Reason.TheVariants.{Tautology, AnswerNotComputable, OpenAnswer}
use Rattle.am_simplify.specs.Steps.{IsProper}
use Rattle.am_derivation.proofs.ClosedEnds.{HasEnd, close-ends}
use Rattle.am_derivation.proofs.InferredRows.{proper-row}
use Rattle.am_derivation.proofs.Nestings.{passed}
use Rattle.am_clause.specs.Tautology.{tautology}
use Rattle.am_term.specs.declared.term.Term.{Term}

-- ---- a clause that ends

nothing : {A : Type 0} (xs : List A) → is_empty xs ≡ true → xs ≡ []
nothing [] e = refl
nothing (x ∷ xs) e = absurd cc

end-has : (sig : Signature) (c : Clause) (b : Bool) → ends c ≡ true → is_some c.answer ≡ b
    → is_uncomputed sig c.answer ≡ false → HasEnd sig c b
end-has sig c b e a computed = (
  nothing c.literals (and_left (is_empty c.literals) (is_empty (variables c)) e),
  nothing (variables c) (and_right (is_empty c.literals) (is_empty (variables c)) e),
  a,
  computed,
)

closes-end : (sig : Signature) (ins : List SortId) (n : ℕ) (p : Clause) → IsProper sig ins p
    → is_uncomputed sig p.answer ≡ false → (b : Bool) (x : Row)
    → (if b then option_map (row_of (R.Close n)) (closed_off sig ins p) else None) ≡ Some x → HasEnd sig x.clause true
closes-end sig ins n p h computed true x e = by (closed_off sig ins p) refl e
  where
    by : (o : Option Made) → closed_off sig ins p ≡ o → option_map (row_of (R.Close n)) o ≡ Some x
        → HasEnd sig x.clause true
    by None is e = absurd cc
    by (Some m) is e =
        let same : row_of (R.Close n) m ≡ x = cc in
        subst (λ (y : Row). HasEnd sig y.clause true) same (close-ends sig ins p h computed m is)
closes-end sig ins n p h computed false x e = absurd cc

-- ---- a clause that is dropped for no reason

neither-reason : (a b : Option Reason) → or_else a b ≡ None → (a ≡ None) × (b ≡ None)
neither-reason (Some r) b e = absurd cc
neither-reason None b e = (refl, e)

-- its answer, if it has one, can be computed
kept-computed : (sig : Signature) (ins : List SortId) (most : ℕ) (kept : List NumberedClause) (c : Clause)
    (with : List (List Term)) → reason sig ins most kept c with ≡ None → is_uncomputed sig c.answer ≡ false
kept-computed sig ins most kept c with e =
    let last : Option Reason = reason_if (is_open sig ins c) OpenAnswer None in
    let uncomputed : Option Reason = reason_if (is_uncomputed sig c.answer) AnswerNotComputable last in
    let own = (neither-reason (own_reason sig ins most c with) (by_subsumer (subsumer sig ins kept c)) e).0 in
    let sized = (passed (tautology c) Tautology (or_else (too_big most c with) uncomputed) own).1 in
    (passed (is_uncomputed sig c.answer) AnswerNotComputable last
    (neither-reason (too_big most c with) uncomputed sized).1).0

-- the row that got its fate last is Last, and has such an end
pub record EndsBy (sig : Signature) (rs : List Row) (fates : List Prepared) (b : Bool) : Type 0 where
  pub earlier : List Prepared
  pub number : ℕ
  pub row : Row
  pub fates_are : fates ≡ earlier ++ (record { number = number; fate = Last }) ∷ []
  pub stands : row_at rs number ≡ Some row
  pub has : HasEnd sig row.clause b

-- the close row that is due ends the search, and so does the row by which it is at its end
record Good (sig : Signature) (rs : List Row) (j : Judged) : Type 0 where
  ended : (b : Bool) → j.stage ≡ Ended b → EndsBy sig rs j.fates b
  closes : (r : Row) → j.stage ≡ Closes r → HasEnd sig r.clause true

-- the same of a fate and what it asks for
record Says (sig : Signature) (row : Row) (f : Fate × Stage) : Type 0 where
  ended : (b : Bool) → f.1 ≡ Ended b → (f.0 ≡ Last) × HasEnd sig row.clause b
  closes : (r : Row) → f.1 ≡ Closes r → HasEnd sig r.clause true

fated-good : (sig : Signature) (rs : List Row) (n : ℕ) (row : Row) (f : Fate × Stage) (j : Judged) → row_at rs n ≡ Some row → Says sig row f
    → Good sig rs (fated n f j)
fated-good sig rs n row f j at_ says = record {
  ended = λ b is. let e = says.ended b is in record {
    earlier = j.fates;
    number = n;
    row = row;
    fates_are = ap (λ (x : Fate). j.fates ++ (record { number = n; fate = x }) ∷ []) e.0;
    stands = at_;
    has = e.1;
  };
  closes = says.closes;
}

good-more : (sig : Signature) (rs more : List Row) (j : Judged) → Good sig rs j → Good sig (rs ++ more) j
good-more sig rs more j g = record {
  ended = λ b is. let e = g.ended b is in record {
    earlier = e.earlier;
    number = e.number;
    row = e.row;
    fates_are = e.fates_are;
    stands = at_more rs more e.number e.row e.stands;
    has = e.has;
  };
  closes = g.closes;
}

-- the close row that is due is the one that comes
due-close : (waits : List WaitRow) (xs : List Row) (s : Stage) (r row : Row) → due_at waits xs s ≡ Infers row
    → s ≡ Closes r → r ≡ row
due-close waits xs Quiet r row due is = absurd cc
due-close waits xs (Makes x) r row due is = absurd cc
due-close waits xs (Closes x) r row due is = let one : x ≡ row = cc in let other : x ≡ r = cc in sym other ∙ one
due-close waits xs (Ended b) r row due is = absurd cc

module _ (sig : Signature) (ins : List SortId) (most axioms starting : ℕ) where
  abbrev the_rules : Rules
  the_rules = rules_of sig ins most axioms starting

  module _ (n : ℕ) (row : Row) (proper : IsProper sig ins row.clause) where
    abbrev Computed : Type 0
    Computed = is_uncomputed sig row.clause.answer ≡ false

    closed-says : Computed → (o : Option Row) → the_rules.close_of n row ≡ o → Says sig row (kept_or_closed n o)
    closed-says computed None e = record { ended = λ b is. absurd cc; closes = λ r is. absurd cc }
    closed-says computed (Some x) e = record {
      ended = λ b is. absurd cc;
      closes = λ r is.
          let same : x ≡ r = cc in
          subst (λ (y : Row). HasEnd sig y.clause true) same
          (closes-end sig ins n row.clause proper computed (is_empty row.clause.literals && is_some row.clause.answer) x
          (sym (rules_of-close_of sig ins most axioms starting n row) ∙ e));
    }

    last-says : Computed → (d : Bool) → the_rules.is_last row ≡ d → Says sig row (last_or the_rules n row d)
    last-says computed true e = record {
      ended = λ b is.
          let same : the_rules.has_answer row ≡ b = cc in (
            refl,
            end-has sig row.clause b (sym (rules_of-is_last sig ins most axioms starting row) ∙ e)
                (sym (rules_of-has_answer sig ins most axioms starting row) ∙ same) computed,
          );
      closes = λ r is. absurd cc;
    }
    last-says computed false e = closed-says computed (the_rules.close_of n row) refl

    dropped-says : (ks : List Member) (o : Option Reason) → the_rules.reason ks row ≡ o → Says sig row (dropped_or the_rules n row o)
    dropped-says ks (Some reason) e = record { ended = λ b is. absurd cc; closes = λ r is. absurd cc }
    dropped-says ks None e =
        last-says (kept-computed sig ins most (clause_rows ks) row.clause row.with
        (sym (rules_of-reason sig ins most axioms starting ks row) ∙ e)) (the_rules.is_last row) refl

    module _ (rs : List Row) (ns : List ℕ) (fates : List Prepared) where
      rewritten-says : (o : Option Row) → Says sig row (rewritten_or the_rules rs fates n row o)
      rewritten-says (Some x) = record { ended = λ b is. absurd cc; closes = λ r is. absurd cc }
      rewritten-says None = dropped-says (kept_rows the_rules.axioms rs fates) (the_rules.reason (kept_rows the_rules.axioms rs fates) row) refl

      big-says : (o : Option Reason) → Says sig row (big_or the_rules rs ns fates n row o)
      big-says (Some reason) = record { ended = λ b is. absurd cc; closes = λ r is. absurd cc }
      big-says None = rewritten-says (the_rules.step_of (processed the_rules.axioms rs ns) n row)

  module _ (from : Sources) (rs : List Row) (steps : AreSteps sig ins from [] rs) (ns : List ℕ) where
    prepare-good : (n : ℕ) (o : Option Row) (j : Judged) → ((row : Row) → o ≡ Some row → row_at rs n ≡ Some row)
        → Good sig rs j → Good sig rs (prepare the_rules rs ns n o j)
    prepare-good n None j at_ g = g
    prepare-good n (Some row) j at_ g =
        fated-good sig rs n row (fate_of the_rules rs ns j.fates n row) j (at_ row refl)
        (big-says n row (proper-row sig ins from rs steps n row (at_ row refl)) rs ns j.fates (the_rules.too_big row))

    when-good : (s : Stage) (j k : Judged) → Good sig rs j → Good sig rs k → Good sig rs (when_quiet s j k)
    when-good Quiet j k a b = a
    when-good (Makes row) j k a b = b
    when-good (Closes row) j k a b = b
    when-good (Ended e) j k a b = b

    begun-good : (left : ℕ) (j : Judged) → Good sig rs j → Good sig rs (begun the_rules rs ns left j)
    begun-good zero j g = g
    begun-good (suc left) j g =
        when-good j.stage (begun the_rules rs ns left (start_prepared the_rules rs ns left j)) j
        (begun-good left (start_prepared the_rules rs ns left j)
        (prepare-good (next_start the_rules j.left) (row_at rs (next_start the_rules j.left)) (record j { left = left })
        (λ row e. e) (record { ended = g.ended; closes = g.closes }))) g

    joined-good : (n : ℕ) (row : Row) (s : Stage) (j : Judged) → row_at rs n ≡ Some row
        → ((r : Row) → s ≡ Closes r → HasEnd sig row.clause true) → Good sig rs j → Good sig rs (row_judged the_rules rs ns n row s j)
    joined-good n row Quiet j at_ c g = prepare-good n (Some row) j (λ r e. at_ ∙ e) g
    joined-good n row (Makes x) j at_ c g = prepare-good n (Some row) j (λ r e. at_ ∙ e) g
    joined-good n row (Closes x) j at_ c g =
        fated-good sig rs n row (Last, Ended true) j at_ (record {
          ended = λ b is.
              let same : true ≡ b = cc in
              (refl, subst (λ (y : Bool). HasEnd sig row.clause y) same (c x refl));
          closes = λ r is. absurd cc;
        })
    joined-good n row (Ended b) j at_ c g = g

  module _ (from : Sources) (start : List Row)
      (proof : (h : History) → EachIsDue the_rules start h → AreSteps sig ins from [] (rows start h)) where
    all-good : (h : History) → EachIsDue the_rules start h → Good sig (rows start h) (judged the_rules start h)
    all-good Start f =
        begun-good from start (proof Start f) [] (the_rules.starting - the_rules.axioms) (at_first the_rules)
        (record { ended = λ b is. absurd cc; closes = λ r is. absurd cc })
    all-good (Then h (Choose n)) f = all-good h f.1
    all-good (Then h (Infer row)) f =
        let rs : List Row = rows start h ++ row ∷ [] in
        let j : Judged = judged the_rules start h in
        let n : ℕ = length (rows start h) + 1 in
        let k : Judged = row_judged the_rules rs (choices h) n row j.stage j in
        let g = all-good h f.1 in
        let steps = proof (Then h (Infer row)) f in
        begun-good from rs steps (choices h) k.left k
        (joined-good from rs steps (choices h) n row j.stage j (row_found (rows start h) row [])
        (λ r is. subst (λ (y : Row). HasEnd sig y.clause true)
        (due-close (wait_list the_rules start h) (rest the_rules start h) j.stage r row f.0 is) (g.closes r is))
        (good-more sig (rows start h) (row ∷ []) j g))

    -- where the search is at its end by a row
    pub ends-by : (h : History) → EachIsDue the_rules start h → (b : Bool) → (judged the_rules start h).stage ≡ Ended b
        → EndsBy sig (rows start h) (judged the_rules start h).fates b
    ends-by h f b is = (all-good h f).ended b is
