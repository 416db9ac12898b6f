-- The variables of a numbered row have numbers below the count of their occurrences.
use Rattle.std.proofs.Common.{◌≡◌, ◌∙◌, ◌≤◌, ◌<◌, ◌^◌, ◌++◌, ℕ, suc, arith, refl, ap, Bool, true, false, not}
use Rattle.std.proofs.Common.{cond, List, [], ◌∷◌, Option, Some, None, length, map, flat_map, filter}
use Rattle.std.specs.List.{list_all}
use Rattle.std.proofs.lemmas.Bool.{lt-ltb}
use Rattle.am_term.specs.declared.id.SortId.{SortId}
use Rattle.am_term.specs.declared.term.Atom.{Atom}
use Rattle.am_term.specs.declared.term.Atom.TheVariants.{Rel, Eq}
use Rattle.am_term.specs.declared.term.Literal.{Literal}
use Rattle.am_term.specs.declared.term.Term.{Term}
use Rattle.am_term.specs.declared.term.Term.TheVariants.{Var, App}
use Rattle.am_term.specs.Induct.{term_induct}
use Rattle.am_term.proofs.Tests.{and_both, or_left}
use Rattle.am_syntax.specs.Forms.{all_true}
use Rattle.am_clause.specs.declared.row.Row.{Row}
use Rattle.am_clause.specs.Distinct.{among, distinct}
use Rattle.am_clause.specs.Numbered.{AreNumbered, IsNumberedRow, in_made}
use Rattle.am_clause.specs.Renaming.{places_in}
use Rattle.am_clause.specs.Variables.{Variable, same_variable, occurrences, occurrences_all, in_atom, in_literals}
use Rattle.am_clause.specs.Variables.{in_answer, in_clause, occurrences-Var, occurrences-App, occurrences-more}
use Rattle.am_clause.proofs.Bijections.{read-place}
use Rattle.am_clause.proofs.Members.{any-distinct}
use Rattle.am_clause.proofs.Places.{same_variable-refl, same_variable-sound, place-low}
use Rattle.am_clause.proofs.Renames.{Within, within-left, within-right}
use Rattle.am_log.specs.Spelled.{is_u32}
use Rattle.am_log.specs.Text.{numbers_fit, numbers-Var, numbers-In, numbers-App, atom_fits, literal_fits, answer_fits}

-- ---- numbers by first occurrence

filter-le : {X : Type 0} (p : X → Bool) (xs : List X) → length (filter p xs) ≤ length xs
filter-le p [] = omega arith
filter-le p (x ∷ xs) = by (p x) (filter-le p xs)
  where
    by : (b : Bool) → length (filter p xs) ≤ length xs
        → length (cond b (x ∷ filter p xs) (filter p xs)) ≤ suc (length xs)
    by true h = omega arith
    by false h = omega arith

distinct-le : (vs : List Variable) → length (distinct same_variable vs) ≤ length vs
distinct-le [] = omega arith
distinct-le (v ∷ vs) =
    let h = distinct-le vs in
    let f = filter-le (λ w. not (same_variable v w)) (distinct same_variable vs) in
    omega (arith, h, f)

number-low : (vs : List Variable) → AreNumbered vs → (v : Variable) → Within v vs → v.0 < length vs
number-low vs numbered v m =
    let us : List Variable = distinct same_variable vs in
    let there : among same_variable v us ≡ true =
    any-distinct same_variable same_variable-sound same_variable-refl (same_variable v) vs ∙ m in
    let at : v.0 ≡ places_in us v.0 v.1 = numbered (places_in us v.0 v.1) v (read-place us v there) in
    let low : places_in us v.0 v.1 < length us = place-low us v.0 v.1 there in
    let few = distinct-le vs in
    omega arith

-- ---- numbers that fit 32 bits

-- each variable has such a number
abbrev pub AreSmall : List Variable → Type 0
AreSmall vs = (v : Variable) → Within v vs → is_u32 v.0 ≡ true

before : (vs ws : List Variable) → AreSmall (vs ++ ws) → AreSmall vs
before vs ws h v m = h v (within-left v vs ws m)

behind : (vs ws : List Variable) → AreSmall (vs ++ ws) → AreSmall ws
behind vs ws h v m = h v (within-right v vs ws m)

moved-small : (vs ws : List Variable) → vs ≡ ws → AreSmall vs → AreSmall ws
moved-small vs ws e h v m = h v (ap (among same_variable v) e ∙ m)

var-fits : (k : ℕ) (s : SortId) → AreSmall (occurrences (Var k s)) → numbers_fit (Var k s) ≡ true
var-fits k s h =
    let own : Within (k, s) (occurrences (Var k s)) =
    ap (among same_variable (k, s)) (occurrences-Var k s)
    ∙ or_left (same_variable (k, s) (k, s)) false (same_variable-refl (k, s)) in
    numbers-Var k s ∙ h (k, s) own

more-small : (x : Term) (xs : List Term) → AreSmall (occurrences_all (x ∷ xs))
    → AreSmall (occurrences x ++ occurrences_all xs)
more-small x xs = moved-small (occurrences_all (x ∷ xs)) (occurrences x ++ occurrences_all xs) (occurrences-more x xs)

term-fits : (x : Term) → AreSmall (occurrences x) → numbers_fit x ≡ true
term-fits = term_induct
    (λ x. AreSmall (occurrences x) → numbers_fit x ≡ true)
    (λ xs. AreSmall (occurrences_all xs) → all_true (map numbers_fit xs) ≡ true)
    var-fits
    (λ k h. numbers-In k)
    (λ f args law h. numbers-App f args
    ∙ law (moved-small (occurrences (App f args)) (occurrences_all args) (occurrences-App f args) h))
    (λ h. refl)
    (λ x xs law laws h.
    let s = more-small x xs h in
    and_both (numbers_fit x) (all_true (map numbers_fit xs)) (law (before (occurrences x) (occurrences_all xs) s))
    (laws (behind (occurrences x) (occurrences_all xs) s)))

terms-fit : (xs : List Term) → AreSmall (occurrences_all xs) → list_all numbers_fit xs ≡ true
terms-fit [] h = refl
terms-fit (x ∷ xs) h =
    let s = more-small x xs h in
    and_both (numbers_fit x) (list_all numbers_fit xs) (term-fits x (before (occurrences x) (occurrences_all xs) s))
    (terms-fit xs (behind (occurrences x) (occurrences_all xs) s))

lists-fit : (xss : List (List Term)) → AreSmall (flat_map occurrences_all xss)
    → list_all (list_all numbers_fit) xss ≡ true
lists-fit [] h = refl
lists-fit (xs ∷ xss) h =
    and_both (list_all numbers_fit xs) (list_all (list_all numbers_fit) xss)
    (terms-fit xs (before (occurrences_all xs) (flat_map occurrences_all xss) h))
    (lists-fit xss (behind (occurrences_all xs) (flat_map occurrences_all xss) h))

atom-fits : (a : Atom) → AreSmall (in_atom a) → atom_fits a ≡ true
atom-fits (Rel r args) h = terms-fit args h
atom-fits (Eq left right) h =
    and_both (numbers_fit left) (numbers_fit right) (term-fits left (before (occurrences left) (occurrences right) h))
    (term-fits right (behind (occurrences left) (occurrences right) h))

literals-fit : (ls : List Literal) → AreSmall (in_literals ls) → list_all literal_fits ls ≡ true
literals-fit [] h = refl
literals-fit (l ∷ ls) h =
    and_both (literal_fits l) (list_all literal_fits ls) (atom-fits l.atom (before (in_atom l.atom) (in_literals ls) h))
    (literals-fit ls (behind (in_atom l.atom) (in_literals ls) h))

answer-fits : (o : Option (List Term)) → AreSmall (in_answer o) → answer_fits o ≡ true
answer-fits None h = refl
answer-fits (Some xs) h = terms-fit xs h

-- ---- rows

-- the terms of the row have numbers that fit
pub record HasSmallTerms (r : Row) : Type 0 where
  pub lists : list_all (list_all numbers_fit) r.with ≡ true
  pub literals : list_all literal_fits r.clause.literals ≡ true
  pub answer : answer_fits r.clause.answer ≡ true

pub terms-small : (r : Row) → IsNumberedRow r → length (in_made r.with r.clause) ≤ 2 ^ 32 → HasSmallTerms r
terms-small r numbered few =
    let vs : List Variable = in_made r.with r.clause in
    let all : AreSmall vs = λ v m. let l = number-low vs numbered v m in lt-ltb v.0 (2 ^ 32) (omega (arith, l, few)) in
    let first : AreSmall (in_clause r.clause) = before (in_clause r.clause) (flat_map occurrences_all r.with) all in
    record {
      lists = lists-fit r.with (behind (in_clause r.clause) (flat_map occurrences_all r.with) all);
      literals =
          literals-fit r.clause.literals (before (in_literals r.clause.literals) (in_answer r.clause.answer) first);
      answer = answer-fits r.clause.answer (behind (in_literals r.clause.literals) (in_answer r.clause.answer) first);
    }
