-- The test finds a subsumption exactly where there is one.
use Rattle.std.proofs.Common.{inl, inr, option_map, ◌≡◌, ◌∙◌, ◌==◌, ◌+◌, ◌<◌, ◌≤◌, ◌↔◌, ℕ, zero, suc, Bool, true, false, refl, sym, ap, subst, arith, Option, Some, None, List, [], ◌∷◌, length, slice_get, nat_le, if◌then◌else◌, IsTrue}
use Rattle.std.specs.List.{AllByRecursion, list_any}
use Rattle.std.proofs.lemmas.Bool.Decides.{nat_tests}
use Rattle.std.proofs.lemmas.Option.{slice_get-map}
use Rattle.am_term.specs.Instance.{instances, instance_literal}
use Rattle.am_term.specs.Same.{same_literal}
use Rattle.am_term.specs.Sorting.{fit_places, fits_place, sort_of, sorts_of}
use Rattle.am_term.specs.declared.id.SortId.{SortId}
use Rattle.am_term.specs.declared.signature.Signature.{Signature}
use Rattle.am_term.specs.declared.term.Literal.{Literal}
use Rattle.am_term.specs.declared.term.Term.{Term}
use Rattle.am_term.specs.declared.term.Term.TheVariants.{Var}
use Rattle.am_term.proofs.Alike.{same_literal-refl, same_literal-sound}
use Rattle.am_term.proofs.Forest.{fits-same}
use Rattle.am_term.proofs.Tests.{and_left, and_right, and_both, or_cases, or_left, or_right}
use Rattle.am_clause.specs.Distinct.{among}
use Rattle.am_clause.specs.Numbered.{IsNumbered, sorts_in}
use Rattle.am_clause.specs.Renaming.{places_in}
use Rattle.am_clause.specs.SortedClause.{is_sorted_clause}
use Rattle.am_clause.specs.Variables.{Variable, in_answer, in_atom, in_clause, in_literals, same_variable, variables}
use Rattle.am_clause.specs.declared.clause.Clause.{Clause}
use Rattle.am_clause.proofs.Bijections.{listed as listed-variable, read-place}
use Rattle.am_clause.proofs.Places.{same_variable-refl}
use Rattle.am_clause.proofs.Renames.{Within}
use Rattle.am_unify.specs.Substitution.{bound_to, listed, IsRising}
use Rattle.am_unify.proofs.Keeping.{variable-fits}
use Rattle.am_unify.proofs.Standing.{number_is, number_same}
use Rattle.am_simplify.specs.Subsuming.{Bindings, covers, match_answer, match_literal, match_terms, meets, subsumed_by}
use Rattle.am_simplify.specs.Subsumption.{AnswerBecomes, Subsumes, become_among}
use Rattle.am_simplify.proofs.Claims.{AreFitting, Claim, Fit, HasSort, Says, Solves, literal-matches, moved, terms-match}
use Rattle.am_rules.proofs.Posing.{clause-valid}
use Rattle.am_rules.proofs.RowLaws.{in-variables}
use Rattle.am_rules.proofs.Standing.{never, Each, each-left, each-right}

-- a member that passes a test
record IsFound (f : Literal → Bool) (ms : List Literal) : Type 0 where
  member : Literal
  passes : f member ≡ true
  among : among same_literal member ms ≡ true

found : (f : Literal → Bool) (ms : List Literal) → list_any f ms ≡ true → IsFound f ms
found f [] e = never e
found f (m ∷ ms) e = elim (or_cases (f m) (list_any f ms) e) [
  | inl a ↦ record { member = m; passes = a; among = or_left (same_literal m m) (among same_literal m ms) (same_literal-refl m) }
  | inr b ↦ (let k : IsFound f ms = found f ms b in record { member = k.member; passes = k.passes; among = or_right (same_literal k.member m) (among same_literal k.member ms) k.among })
]

passing : (f : Literal → Bool) (x : Literal) (ms : List Literal) → among same_literal x ms ≡ true → f x ≡ true → list_any f ms ≡ true
passing f x [] a e = never a
passing f x (m ∷ ms) a e = elim (or_cases (same_literal x m) (among same_literal x ms) a) [
  | inl b ↦ or_left (f m) (list_any f ms) (ap f (sym (same_literal-sound x m b)) ∙ e)
  | inr b ↦ or_right (f m) (list_any f ms) (passing f x ms b e)
]

module _ (sig : Signature) (ins : List SortId) (ss : List SortId) (all : List Literal) where
  -- bindings under which the literals become some of all
  record IsCovered (ls : List Literal) (bs : Bindings) : Type 0 where
    last : Bindings
    rising : IsRising last
    fits : AllByRecursion (Fit sig ins ss) last
    solves : (with : List Term) → Solves with last → Solves with bs × (become_among with all ls ≡ true)

  sound : (ls : List Literal) (bs : Bindings) → Each (HasSort sig ins ss) (in_literals ls) → IsRising bs → AllByRecursion (Fit sig ins ss) bs → covers sig ins ls all bs ≡ true → IsCovered ls bs
  sound [] bs each r f e = record { last = bs; rising = r; fits = f; solves = λ with s. (s, refl) }
  sound (l ∷ ls) bs each r f e =
      let k : IsFound (λ m. meets (match_literal sig ins l m bs) (covers sig ins ls all)) all = found (λ m. meets (match_literal sig ins l m bs) (covers sig ins ls all)) all e in
      by_match k.member k.among (match_literal sig ins l k.member bs) k.passes (literal-matches sig ins ss l k.member bs (each-left (HasSort sig ins ss) (in_atom l.atom) (in_literals ls) each)) (sound ls)
    where
      by_match : (m : Literal) → among same_literal m all ≡ true → (o : Option Bindings) → meets o (covers sig ins ls all) ≡ true → Claim sig ins ss (λ with. instance_literal with l ≡ m) bs o
          → ((cs : Bindings) → Each (HasSort sig ins ss) (in_literals ls) → IsRising cs → AllByRecursion (Fit sig ins ss) cs → covers sig ins ls all cs ≡ true → IsCovered ls cs) → IsCovered (l ∷ ls) bs
      by_match m a None e c next = never e
      by_match m a (Some cs) e c next =
          let k : IsCovered ls cs = next cs (each-right (HasSort sig ins ss) (in_atom l.atom) (in_literals ls) each) (c.rising r) (c.fits f) e in
          record {
            last = k.last;
            rising = k.rising;
            fits = k.fits;
            solves = λ with s.
                let later = k.solves with s in
                let here = c.solves with later.0 in
                (here.0, and_both (among same_literal (instance_literal with l) all) (become_among with all ls) (ap (λ x. among same_literal x all) here.1 ∙ a) later.1);
          }

  complete : (ls : List Literal) (bs : Bindings) → Each (HasSort sig ins ss) (in_literals ls) → (with : List Term) → AreFitting sig ins ss with → Solves with bs → become_among with all ls ≡ true → covers sig ins ls all bs ≡ true
  complete [] bs each with f s e = refl
  complete (l ∷ ls) bs each with f s e =
      passing (λ m. meets (match_literal sig ins l m bs) (covers sig ins ls all)) (instance_literal with l) all (and_left (among same_literal (instance_literal with l) all) (become_among with all ls) e)
      (by_match (match_literal sig ins l (instance_literal with l) bs) (literal-matches sig ins ss l (instance_literal with l) bs (each-left (HasSort sig ins ss) (in_atom l.atom) (in_literals ls) each))
      (λ cs t. complete ls cs (each-right (HasSort sig ins ss) (in_atom l.atom) (in_literals ls) each) with f t (and_right (among same_literal (instance_literal with l) all) (become_among with all ls) e)))
    where
      by_match : (o : Option Bindings) → Claim sig ins ss (λ ts. instance_literal ts l ≡ instance_literal with l) bs o → ((cs : Bindings) → Solves with cs → covers sig ins ls all cs ≡ true) → meets o (covers sig ins ls all) ≡ true
      by_match None c next = absurd (c with f s refl)
      by_match (Some cs) c next = next cs (c.solved with f s refl)

-- a list of terms from bindings: an unbound variable becomes itself

abbrev filled : Bindings → ℕ → List SortId → List Term
filled cs k [] = []
filled cs k (s ∷ ss) = listed cs k s ∷ filled cs (k + 1) ss

filled-get : (cs : Bindings) (k : ℕ) (ss : List SortId) (n : ℕ) (s : SortId) → slice_get ss n ≡ Some s → slice_get (filled cs k ss) n ≡ Some (listed cs (k + n) s)
filled-get cs k [] n s e = absurd cc
filled-get cs k (r ∷ ss) zero s e = let is : r ≡ s = cc in ap (λ x. Some (listed cs k x)) is ∙ ap (λ i. Some (listed cs i s)) (omega arith)
filled-get cs k (r ∷ ss) (suc n) s e = filled-get cs (k + 1) ss n s e ∙ ap (λ i. Some (listed cs i s)) (omega arith)

filled-at : (cs : Bindings) (ss : List SortId) (n : ℕ) (s : SortId) → slice_get ss n ≡ Some s → slice_get (filled cs 0 ss) n ≡ Some (listed cs n s)
filled-at cs ss n s e = filled-get cs 0 ss n s e ∙ ap (λ i. Some (listed cs i s)) (omega arith)

-- each of rising bindings is the first of its number
first-bound : (b : ℕ × Term) (cs ds : Bindings) → AllByRecursion (λ (c : ℕ × Term). b.0 < c.0) cs → AllByRecursion (λ (c : ℕ × Term). (d : Term) → bound_to ds c.0 d ≡ c.1) cs → AllByRecursion (λ (c : ℕ × Term). (d : Term) → bound_to (b ∷ ds) c.0 d ≡ c.1) cs
first-bound b [] ds h k = tt
first-bound b (c ∷ cs) ds h k = (λ d. by_test d (b.0 == c.0) refl (k.0 d), first-bound b cs ds h.1 k.1)
  where
    by_test : (d : Term) (e : Bool) → (b.0 == c.0) ≡ e → bound_to ds c.0 d ≡ c.1 → (if e then b.1 else bound_to ds c.0 d) ≡ c.1
    by_test d true e g = let less : b.0 < c.0 = h.0 in absurd (grind (arith, nat_tests))
    by_test d false e g = g

all-bound : (cs : Bindings) → IsRising cs → AllByRecursion (λ (c : ℕ × Term). (d : Term) → bound_to cs c.0 d ≡ c.1) cs
all-bound [] r = tt
all-bound (b ∷ cs) r = (λ d. ap (λ e. if e then b.1 else bound_to cs b.0 d) (number_same b.0), first-bound b cs cs r.0 (all-bound cs r.1))

module _ (sig : Signature) (ins : List SortId) (ss : List SortId) (cs : Bindings) where
  solving : (bs : Bindings) → AllByRecursion (Fit sig ins ss) bs → AllByRecursion (λ (c : ℕ × Term). (d : Term) → bound_to cs c.0 d ≡ c.1) bs → Solves (filled cs 0 ss) bs
  solving [] f h = tt
  solving (b ∷ bs) f h =
      let k : Fit sig ins ss b = f.0 in
      (filled-at cs ss b.0 k.sort k.there ∙ ap Some (h.0 (Var b.0 k.sort)), solving bs f.1 h.1)

  listed-fits : (bs : Bindings) → AllByRecursion (Fit sig ins ss) bs → (n : ℕ) (s : SortId) → slice_get ss n ≡ Some s → s.0 < length sig.sorts → fits_place sig (sort_of sig ins (listed bs n s)) s ≡ true
  listed-fits [] f n s e valid = variable-fits sig ins n s s valid (fits-same sig s)
  listed-fits (b ∷ bs) f n s e valid = by_test (b.0 == n) refl (listed-fits bs f.1 n s e valid)
    where
      by_test : (c : Bool) → (b.0 == n) ≡ c → fits_place sig (sort_of sig ins (listed bs n s)) s ≡ true → fits_place sig (sort_of sig ins (if c then b.1 else bound_to bs n (Var n s))) s ≡ true
      by_test true is k =
          let g : Fit sig ins ss b = f.0 in
          let one : slice_get ss b.0 ≡ Some s = ap (slice_get ss) (number_is b.0 n is) ∙ e in
          let sort : g.sort ≡ s = (let h : Some g.sort ≡ Some s = sym g.there ∙ one in cc) in
          subst (λ x. fits_place sig (sort_of sig ins b.1) x ≡ true) sort g.fits
      by_test false is k = k

  filled-fits : (k : ℕ) (rs : List SortId) → ((n : ℕ) (s : SortId) → slice_get rs n ≡ Some s → fits_place sig (sort_of sig ins (listed cs (k + n) s)) s ≡ true) → fit_places sig (sorts_of sig ins (filled cs k rs)) rs ≡ true
  filled-fits k [] h = refl
  filled-fits k (r ∷ rs) h = and_both (fits_place sig (sort_of sig ins (listed cs k r)) r) (fit_places sig (sorts_of sig ins (filled cs (k + 1) rs)) rs)
      (subst (λ i. fits_place sig (sort_of sig ins (listed cs i r)) r ≡ true) (omega arith) (h 0 r refl))
      (filled-fits (k + 1) rs (λ n s e. subst (λ i. fits_place sig (sort_of sig ins (listed cs i s)) s ≡ true) (omega arith) (h (suc n) s e)))

read-within : (vs : List Variable) (n : ℕ) (v : Variable) → slice_get vs n ≡ Some v → Within v vs
read-within [] n v e = absurd cc
read-within (w ∷ vs) zero v e = let is : w ≡ v = cc in or_left (same_variable v w) (among same_variable v vs) (subst (λ x. same_variable v x ≡ true) (sym is) (same_variable-refl v))
read-within (w ∷ vs) (suc n) v e = or_right (same_variable v w) (among same_variable v vs) (read-within vs n v e)

module _ (sig : Signature) (ins : List SortId) (d : Clause) (numbered : IsNumbered d) where
  -- each variable has the sort that is listed for its number
  has-sorts : Each (HasSort sig ins (sorts_in d)) (in_clause d)
  has-sorts v m =
      let there : slice_get (variables d) (places_in (variables d) v.0 v.1) ≡ Some v = read-place (variables d) v (listed-variable v d m) in
      let at : v.0 ≡ places_in (variables d) v.0 v.1 = numbered (places_in (variables d) v.0 v.1) v there in
      let read : slice_get (variables d) v.0 ≡ Some v = ap (slice_get (variables d)) at ∙ there in
      slice_get-map (λ (v : Variable). v.1) (variables d) v.0 ∙ ap (option_map (λ (v : Variable). v.1)) read

  answer-matches : (o u : Option (List Term)) → Each (HasSort sig ins (sorts_in d)) (in_answer o) → Claim sig ins (sorts_in d) (λ with. AnswerBecomes with o u) [] (match_answer sig ins o u)
  answer-matches None u each = record { solves = λ with s. (s, tt); solved = λ with f s w. s; rising = λ r. r; fits = λ f. f }
  answer-matches (Some ts) None each = λ with f s e. absurd cc
  answer-matches (Some ts) (Some us) each =
      moved sig ins (sorts_in d) (λ with. instances with ts ≡ us) (λ with. AnswerBecomes with (Some ts) (Some us)) []
      (λ with e. ap Some (sym e))
      (λ with e. cc)
      (match_terms sig ins ts us []) (terms-match sig ins (sorts_in d) ts each us [])

  -- the sort that is listed for a number is that of a variable
  valid-sorts : is_sorted_clause sig ins d ≡ true → (n : ℕ) (s : SortId) → slice_get (sorts_in d) n ≡ Some s → s.0 < length sig.sorts
  valid-sorts sorted n s e = by_variable (slice_get (variables d) n) refl (sym (slice_get-map (λ (v : Variable). v.1) (variables d) n) ∙ e)
    where
      by_variable : (o : Option Variable) → slice_get (variables d) n ≡ o → option_map (λ (v : Variable). v.1) o ≡ Some s → s.0 < length sig.sorts
      by_variable None e f = absurd cc
      by_variable (Some v) e f =
          let is : v.1 ≡ s = cc in
          subst (λ (r : SortId). r.0 < length sig.sorts) is (clause-valid sig ins d sorted v (in-variables v d (read-within (variables d) n v e)))

  abbrev Sorts : List SortId
  Sorts = sorts_in d

  from-bindings : is_sorted_clause sig ins d ≡ true → (c : Clause) → length d.literals ≤ length c.literals → (bs : Bindings) → Says sig ins Sorts (λ with. AnswerBecomes with d.answer c.answer) [] bs → IsCovered sig ins Sorts c.literals d.literals bs → Subsumes sig ins d c
  from-bindings sorted c few bs a k =
      let with : List Term = filled k.last 0 Sorts in
      let solved : Solves with k.last = solving sig ins Sorts k.last k.last k.fits (all-bound k.last k.rising) in
      let covered = k.solves with solved in
      let answered = a.solves with covered.0 in (
        with,
        record {
          few = few;
          binds = filled-fits sig ins Sorts k.last 0 Sorts (λ n s e. subst (λ i. fits_place sig (sort_of sig ins (listed k.last i s)) s ≡ true) (omega arith) (listed-fits sig ins Sorts k.last k.last k.fits n s e (valid-sorts sorted n s e)));
          literals = covered.1;
          answer = answered.1;
        },
      )

  there : is_sorted_clause sig ins d ≡ true → (c : Clause) → IsTrue (subsumed_by sig ins d c) → Subsumes sig ins d c
  there sorted c e = by_match (match_answer sig ins d.answer c.answer) (answer-matches d.answer c.answer (each-right (HasSort sig ins Sorts) (in_literals d.literals) (in_answer d.answer) has-sorts)) (and_right (nat_le (length d.literals) (length c.literals)) (meets (match_answer sig ins d.answer c.answer) (covers sig ins d.literals c.literals)) e)
    where
      test : nat_le (length d.literals) (length c.literals) ≡ true
      test = and_left (nat_le (length d.literals) (length c.literals)) (meets (match_answer sig ins d.answer c.answer) (covers sig ins d.literals c.literals)) e

      few : length d.literals ≤ length c.literals
      few = grind (arith, nat_tests, test)

      by_match : (o : Option Bindings) → Claim sig ins Sorts (λ with. AnswerBecomes with d.answer c.answer) [] o → meets o (covers sig ins d.literals c.literals) ≡ true → Subsumes sig ins d c
      by_match None a e = never e
      by_match (Some bs) a e = from-bindings sorted c few bs a (sound sig ins Sorts c.literals d.literals bs (each-left (HasSort sig ins Sorts) (in_literals d.literals) (in_answer d.answer) has-sorts) (a.rising tt) (a.fits tt) e)

  back : (c : Clause) → Subsumes sig ins d c → IsTrue (subsumed_by sig ins d c)
  back c h = and_both (nat_le (length d.literals) (length c.literals)) (meets (match_answer sig ins d.answer c.answer) (covers sig ins d.literals c.literals)) test
      (by_match (match_answer sig ins d.answer c.answer) (answer-matches d.answer c.answer (each-right (HasSort sig ins Sorts) (in_literals d.literals) (in_answer d.answer) has-sorts)))
    where
      test : nat_le (length d.literals) (length c.literals) ≡ true
      test = let few : length d.literals ≤ length c.literals = h.1.few in grind (arith, nat_tests)

      by_match : (o : Option Bindings) → Claim sig ins Sorts (λ with. AnswerBecomes with d.answer c.answer) [] o → meets o (covers sig ins d.literals c.literals) ≡ true
      by_match None a = absurd (a h.0 h.1.binds tt h.1.answer)
      by_match (Some bs) a = complete sig ins Sorts c.literals d.literals bs (each-left (HasSort sig ins Sorts) (in_literals d.literals) (in_answer d.answer) has-sorts) h.0 h.1.binds (a.solved h.0 h.1.binds tt h.1.answer) h.1.literals

  pub law : is_sorted_clause sig ins d ≡ true → (c : Clause) → IsTrue (subsumed_by sig ins d c) ↔ Subsumes sig ins d c
  law sorted c = (there sorted c, back c)
