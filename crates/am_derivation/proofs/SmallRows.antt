-- In a search each row that gets a fate other than Dropped, and each that another row names, is an axiom's or small.
use Rattle.std.proofs.Common.{◌≡◌, ◌∙◌, ◌&&◌, ◌++◌, ◌+◌, ◌-◌, ℕ, zero, suc, Bool, true, false, refl, sym, subst, inr}
use Rattle.std.proofs.Common.{List, [], ◌∷◌, length, Option, Some, None, option_map, is_some, if◌then◌else◌}
use Rattle.std.specs.List.{AllByRecursion}
use Rattle.am_term.specs.declared.id.SortId.{SortId}
use Rattle.am_term.specs.declared.signature.Signature.{Signature}
use Rattle.am_clause.specs.declared.row.Made.{Made}
use Rattle.am_clause.specs.declared.row.Row.{Row}
use Rattle.am_clause.specs.declared.row.Rule.TheVariants as R
use Rattle.am_clause.specs.Steps.{Sources, AreSteps}
use Rattle.am_rules.specs.Inference.{row_of}
use Rattle.am_agenda.specs.declared.wait_row.WaitRow.{WaitRow}
use Rattle.am_rules.specs.Conclusions.{closed_off}
use Rattle.am_search.specs.Members.{is_empty, kept_rows, processed, row_at}
use Rattle.am_search.specs.Plain.{kept_or_closed, last_or, dropped_or, rewritten_or, big_or, fate_of, Judged, fated}
use Rattle.am_search.specs.Plain.{prepare, when_quiet, begun, start_prepared, next_start, row_judged, at_first, judged, rest}
use Rattle.am_search.specs.Plain.{History, Start, Then, Choose, Infer, rows, choices, Infers, EachIsDue, due_at}
use Rattle.am_search.specs.Plain.{wait_list, turn_at, rest_after, Pick, Picked, lists_shown}
use Rattle.am_search.specs.Replay.{HasNoParents}
use Rattle.am_search.specs.Rules.{Rules, rules_of, rules_of-close_of, rules_of-too_big, rules_of-step_of, rules_of-turn}
use Rattle.am_search.specs.declared.fate.Fate.{Fate}
use Rattle.am_search.specs.declared.fate.Fate.TheVariants.{Last}
use Rattle.am_search.specs.declared.fate.Prepared.{Prepared}
use Rattle.am_search.specs.declared.fate.Stage.{Stage}
use Rattle.am_search.specs.declared.fate.Stage.TheVariants.{Quiet, Makes, Closes, Ended}
use Rattle.am_search.proofs.Entered.{row_found}
use Rattle.am_simplify.specs.Steps.{IsProper}
use Rattle.am_simplify.specs.declared.reason.Reason.{Reason}
use Rattle.am_derivation.specs.Sizes.{IsSmall}
use Rattle.am_derivation.proofs.InferredRows.{proper-row}
use Rattle.am_derivation.proofs.NamedRows.{close-named, turn-named, step-named}
use Rattle.am_derivation.proofs.RestedRows.{AxiomsFirst, FitsAt, RestsWell, FateFits, AllFit, bare-rest, processed-fit}
use Rattle.am_derivation.proofs.RestedRows.{chosen-more, rests-more, all-rest-more, all-fit-more, picked-fits}
use Rattle.am_derivation.proofs.SmallCloses.{closes-small}
use Rattle.am_derivation.proofs.StartingRows.{all-append}

all-pushed : {A : Type 0} (P : A → Type 0) (xs : List A) (x : A) → AllByRecursion P xs → P x
    → AllByRecursion P (xs ++ x ∷ [])
all-pushed P xs x a h = all-append P xs (x ∷ []) a (h, tt)

module _ (most : ℕ) where
  -- what a stage asks for rests on such rows, and a close row is small
  abbrev pub StageFits : List Row → Stage → Type 0
  StageFits rs Quiet = Unit {0}
  StageFits rs (Makes row) = RestsWell most rs row
  StageFits rs (Closes row) = RestsWell most rs row × IsSmall most row
  StageFits rs (Ended b) = Unit {0}

  stage-more : (rs more : List Row) (s : Stage) → StageFits rs s → StageFits (rs ++ more) s
  stage-more rs more Quiet a = a
  stage-more rs more (Makes row) a = rests-more most rs more row a
  stage-more rs more (Closes row) a = (rests-more most rs more row a.0, a.1)
  stage-more rs more (Ended b) a = a

  -- the same of a fate and what it asks for
  record Says (rs : List Row) (n : ℕ) (f : Fate × Stage) : Type 0 where
    fate : FateFits most rs n f.0
    stage : StageFits rs f.1

  -- and of all fates
  pub record Fitting (rs : List Row) (j : Judged) : Type 0 where
    pub fates : AllFit most rs j.fates
    pub stage : StageFits rs j.stage

  fated-fitting : (rs : List Row) (n : ℕ) (f : Fate × Stage) (j : Judged) → Says rs n f → AllFit most rs j.fates
      → Fitting rs (fated n f j)
  fated-fitting rs n f j s a = record {
    fates = all-pushed (λ (p : Prepared). FateFits most rs p.number p.fate) j.fates (record { number = n; fate = f.0 })
        a s.fate;
    stage = s.stage;
  }

  fitting-more : (rs more : List Row) (j : Judged) → Fitting rs j → Fitting (rs ++ more) j
  fitting-more rs more j g = record {
    fates = all-fit-more most rs more j.fates g.fates;
    stage = stage-more rs more j.stage g.stage;
  }

  -- ---- what is due

  due-rests : (rs : List Row) (waits : List WaitRow) (xs : List Row) (s : Stage) (row : Row)
      → due_at waits xs s ≡ Infers row → StageFits rs s → AllByRecursion (RestsWell most rs) xs → RestsWell most rs row
  due-rests rs waits xs (Ended b) row due a k = absurd cc
  due-rests rs waits xs (Makes r) row due a k = let same : r ≡ row = cc in subst (RestsWell most rs) same a
  due-rests rs waits xs (Closes r) row due a k = let same : r ≡ row = cc in subst (RestsWell most rs) same a.0
  due-rests rs waits (x ∷ xs) Quiet row due a k = let same : x ≡ row = cc in subst (RestsWell most rs) same k.0
  due-rests rs (w ∷ ws) [] Quiet row due a k = absurd cc
  due-rests rs [] [] Quiet row due a k = absurd cc

  due-small : (rs : List Row) (waits : List WaitRow) (xs : List Row) (s : Stage) (row : Row)
      → due_at waits xs s ≡ Infers row → StageFits rs s → (x : Row) → s ≡ Closes x → IsSmall most row
  due-small rs waits xs Quiet row due a x is = absurd cc
  due-small rs waits xs (Makes r) row due a x is = absurd cc
  due-small rs waits xs (Closes r) row due a x is =
      let same : r ≡ row = cc in subst (λ (y : Row). IsSmall most y) same a.1
  due-small rs waits xs (Ended b) row due a x is = absurd cc

  rest-fits : (rs xs : List Row) (s : Stage) → AllByRecursion (RestsWell most rs) xs
      → AllByRecursion (RestsWell most rs) (rest_after s xs)
  rest-fits rs [] Quiet a = tt
  rest-fits rs (x ∷ xs) Quiet a = a.1
  rest-fits rs xs (Makes row) a = a
  rest-fits rs xs (Closes row) a = a
  rest-fits rs xs (Ended b) a = a

  module _ (sig : Signature) (ins : List SortId) (axioms starting : ℕ) where
    abbrev the_rules : Rules
    the_rules = rules_of sig ins most axioms starting

    close-small : (n : ℕ) (row : Row) → IsProper sig ins row.clause → IsSmall most row → (b : Bool) (x : Row)
        → (if b then option_map (row_of (R.Close n)) (closed_off sig ins row.clause) else None) ≡ Some x → IsSmall most x
    close-small n row proper small true x e = by (closed_off sig ins row.clause) refl e
      where
        by : (o : Option Made) → closed_off sig ins row.clause ≡ o → option_map (row_of (R.Close n)) o ≡ Some x
            → IsSmall most x
        by None is e = absurd cc
        by (Some m) is e =
            let same : row_of (R.Close n) m ≡ x = cc in
            subst (λ (y : Row). IsSmall most y) same
            (closes-small most sig ins row.clause row.with proper small m is)
    close-small n row proper small false x e = absurd cc

    -- a row with its number
    module _ (rs : List Row) (n : ℕ) (row : Row) (at_ : row_at rs n ≡ Some row)
        (proper : IsProper sig ins row.clause) where
      module _ (small : IsSmall most row) where
        fits-so : FitsAt most rs n
        fits-so = (row, at_, inr small)

        closed-says : (o : Option Row) → the_rules.close_of n row ≡ o → Says rs n (kept_or_closed n o)
        closed-says None e = record { fate = fits-so; stage = tt }
        closed-says (Some x) e =
            let b : Bool = is_empty row.clause.literals && is_some row.clause.answer in
            let made : (if b then option_map (row_of (R.Close n)) (closed_off sig ins row.clause) else None) ≡ Some x =
            sym (rules_of-close_of sig ins most axioms starting n row) ∙ e in
            record {
              fate = fits-so;
              stage = (
                close-named (FitsAt most rs) n fits-so b (closed_off sig ins row.clause) x made,
                close-small n row proper small b x made,
              );
            }

        last-says : (b : Bool) → Says rs n (last_or the_rules n row b)
        last-says true = record { fate = fits-so; stage = tt }
        last-says false = closed-says (the_rules.close_of n row) refl

        dropped-says : (o : Option Reason) → Says rs n (dropped_or the_rules n row o)
        dropped-says (Some reason) = record { fate = tt; stage = tt }
        dropped-says None = last-says (the_rules.is_last row)

      module _ (ns : List ℕ) (fates : List Prepared) (first : AxiomsFirst the_rules.axioms rs)
          (chosen : AllByRecursion (FitsAt most rs) ns) where
        rewritten-says : IsSmall most row → (o : Option Row)
            → the_rules.step_of (processed the_rules.axioms rs ns) n row ≡ o
            → Says rs n (rewritten_or the_rules rs fates n row o)
        rewritten-says small None e = dropped-says small (the_rules.reason (kept_rows the_rules.axioms rs fates) row)
        rewritten-says small (Some x) e = record {
          fate = fits-so small;
          stage = step-named (FitsAt most rs) sig ins n (fits-so small) row.clause (processed the_rules.axioms rs ns)
              (processed-fit most sig ins rs the_rules.axioms ns first chosen) x
              (sym (rules_of-step_of sig ins most axioms starting (processed the_rules.axioms rs ns) n row) ∙ e);
        }

        big-says : (o : Option Reason) → the_rules.too_big row ≡ o → Says rs n (big_or the_rules rs ns fates n row o)
        big-says (Some reason) e = record { fate = tt; stage = tt }
        big-says None e =
            rewritten-says (sym (rules_of-too_big sig ins most axioms starting row) ∙ e)
            (the_rules.step_of (processed the_rules.axioms rs ns) n row) refl

    module _ (from : Sources) (rs : List Row) (steps : AreSteps sig ins from [] rs)
        (first : AxiomsFirst the_rules.axioms rs) (ns : List ℕ) (chosen : AllByRecursion (FitsAt most rs) ns) where
      prepare-fitting : (n : ℕ) (o : Option Row) (j : Judged) → ((row : Row) → o ≡ Some row → row_at rs n ≡ Some row)
          → Fitting rs j → Fitting rs (prepare the_rules rs ns n o j)
      prepare-fitting n None j at_ g = g
      prepare-fitting n (Some row) j at_ g =
          let there : row_at rs n ≡ Some row = at_ row refl in
          fated-fitting rs n (fate_of the_rules rs ns j.fates n row) j
          (big-says rs n row there (proper-row sig ins from rs steps n row there) ns j.fates first chosen
          (the_rules.too_big row) refl) g.fates

      when-fitting : (s : Stage) (j k : Judged) → Fitting rs j → Fitting rs k → Fitting rs (when_quiet s j k)
      when-fitting Quiet j k a b = a
      when-fitting (Makes row) j k a b = b
      when-fitting (Closes row) j k a b = b
      when-fitting (Ended e) j k a b = b

      begun-fitting : (left : ℕ) (j : Judged) → Fitting rs j → Fitting rs (begun the_rules rs ns left j)
      begun-fitting zero j g = g
      begun-fitting (suc left) j g =
          when-fitting j.stage (begun the_rules rs ns left (start_prepared the_rules rs ns left j)) j
          (begun-fitting left (start_prepared the_rules rs ns left j)
          (prepare-fitting (next_start the_rules j.left) (row_at rs (next_start the_rules j.left))
          (record j { left = left }) (λ row e. e) (record { fates = g.fates; stage = g.stage }))) g

      joined-fitting : (n : ℕ) (row : Row) (s : Stage) (j : Judged) → row_at rs n ≡ Some row
          → ((x : Row) → s ≡ Closes x → IsSmall most row) → Fitting rs j
          → Fitting rs (row_judged the_rules rs ns n row s j)
      joined-fitting n row Quiet j at_ c g = prepare-fitting n (Some row) j (λ r e. at_ ∙ e) g
      joined-fitting n row (Makes x) j at_ c g = prepare-fitting n (Some row) j (λ r e. at_ ∙ e) g
      joined-fitting n row (Closes x) j at_ c g =
          fated-fitting rs n (Last, Ended true) j (record { fate = (row, at_, inr (c x refl)); stage = tt }) g.fates
      joined-fitting n row (Ended b) j at_ c g = g

      turn-fits : (n : ℕ) (o : Option Row) → FitsAt most rs n
          → AllByRecursion (RestsWell most rs) (turn_at the_rules (processed the_rules.axioms rs ns) n o)
      turn-fits n None f = tt
      turn-fits n (Some row) f =
          subst (λ (xs : List Row). AllByRecursion (RestsWell most rs) xs)
          (sym (rules_of-turn sig ins most axioms starting (processed the_rules.axioms rs ns) n row))
          (turn-named (FitsAt most rs) sig ins axioms (record { number = n; row = row }) f
          (processed the_rules.axioms rs ns) (processed-fit most sig ins rs the_rules.axioms ns first chosen))

    module _ (from : Sources) (pick : Pick) (start : List Row) (bare : AllByRecursion HasNoParents start)
        (first : (h : History) → AxiomsFirst the_rules.axioms (rows start h))
        (proof : (h : History) → EachIsDue the_rules start h → AreSteps sig ins from [] (rows start h)) where
      -- all rows that are named, chosen or left of a turn are such
      pub record Standing (h : History) : Type 0 where
        pub fitting : Fitting (rows start h) (judged the_rules start h)
        pub chosen : AllByRecursion (FitsAt most (rows start h)) (choices h)
        pub left : AllByRecursion (RestsWell most (rows start h)) (rest the_rules start h)
        pub all : AllByRecursion (RestsWell most (rows start h)) (rows start h)

      chooses : (h : History) (n : ℕ) → EachIsDue the_rules start h → Picked pick the_rules start (Then h (Choose n))
          → Standing h → Standing (Then h (Choose n))
      chooses h n f p s =
          let rs : List Row = rows start h in
          let fit : FitsAt most rs n =
          picked-fits most sig ins rs the_rules.most (judged the_rules start h).fates (choices h)
          (pick (lists_shown the_rules start h) (wait_list the_rules start h)) n s.fitting.fates p.0 in
          let now : AllByRecursion (FitsAt most rs) (choices h ++ n ∷ []) =
          all-pushed (FitsAt most rs) (choices h) n s.chosen fit in
          record {
            fitting = s.fitting;
            chosen = now;
            left = turn-fits from rs (proof h f) (first h) (choices h ++ n ∷ []) now n (row_at rs n) fit;
            all = s.all;
          }

      infers : (h : History) (row : Row) → EachIsDue the_rules start (Then h (Infer row)) → Standing h
          → Standing (Then h (Infer row))
      infers h row f s =
          let rs : List Row = rows start h in
          let more : List Row = row ∷ [] in
          let j : Judged = judged the_rules start h in
          let n : ℕ = length rs + 1 in
          let k : Judged = row_judged the_rules (rs ++ more) (choices h) n row j.stage j in
          let waits : List WaitRow = wait_list the_rules start h in
          let steps = proof (Then h (Infer row)) f in
          let ax = first (Then h (Infer row)) in
          let chosen = chosen-more most rs more (choices h) s.chosen in
          let rests : RestsWell most rs row =
          due-rests rs waits (rest the_rules start h) j.stage row f.0 s.fitting.stage s.left in
          record {
            fitting = begun-fitting from (rs ++ more) steps ax (choices h) chosen k.left k
                (joined-fitting from (rs ++ more) steps ax (choices h) chosen n row j.stage j (row_found rs row [])
                (due-small rs waits (rest the_rules start h) j.stage row f.0 s.fitting.stage)
                (fitting-more rs more j s.fitting));
            chosen = chosen;
            left = all-rest-more most rs more (rest_after j.stage (rest the_rules start h))
                (rest-fits rs (rest the_rules start h) j.stage s.left);
            all = all-pushed (RestsWell most (rs ++ more)) rs row (all-rest-more most rs more rs s.all)
                (rests-more most rs more row rests);
          }

      pub all-standing : (h : History) → EachIsDue the_rules start h → Picked pick the_rules start h → Standing h
      all-standing Start f p = record {
        fitting = begun-fitting from start (proof Start f) (first Start) [] tt (the_rules.starting - the_rules.axioms)
            (at_first the_rules) (record { fates = tt; stage = tt });
        chosen = tt;
        left = tt;
        all = bare-rest most start start bare;
      }
      all-standing (Then h (Choose n)) f p = chooses h n f.1 p (all-standing h f.1 p.1)
      all-standing (Then h (Infer row)) f p = infers h row f (all-standing h f.1 p)
