-- Numbering rows: the same for rows that are alike but for a bijection of variables.
use Rattle.std.proofs.Common.{◌≡◌, ◌∙◌, ◌++◌, ℕ, true, refl, sym, ap, subst, List, [], ◌∷◌, map}
use Rattle.std.proofs.lemmas.List.{map-append}
use Rattle.am_term.specs.declared.id.SortId.{SortId}
use Rattle.am_term.specs.declared.term.Term.{Term}
use Rattle.am_term.specs.declared.term.Term.TheVariants.{Var, App}
use Rattle.am_term.specs.Induct.{term_induct}
use Rattle.am_term.proofs.Tests.{same_tests}
use Rattle.am_clause.specs.declared.clause.Clause.{Clause}
use Rattle.am_clause.specs.declared.row.Made.{Made}
use Rattle.am_clause.specs.Distinct.{among, distinct}
use Rattle.am_clause.specs.Variables.{Variable, same_variable, occurrences_all, in_clause, variables}
use Rattle.am_clause.specs.Renaming.{Numbers, renamed, renamed_all, renamed_clause, renamed-Var, renamed-In, renamed-App, places_in}
use Rattle.am_clause.proofs.Members.{any-distinct}
use Rattle.am_clause.proofs.Places.{same_variable-refl, same_variable-sound}
use Rattle.am_clause.proofs.Bijections.{distinct-map, place-map, read-place}
use Rattle.am_clause.proofs.Renames.{moved, Within, terms-moved, clause-moved, clause-twice, clause-agrees, clause-itself, term-twice, after, itself}
use Rattle.am_rules.specs.Row.{row, in_lists, variables_of_made, renamed_lists}
use Rattle.am_rules.specs.Most.{IsUndone}
use Rattle.am_rules.proofs.Standing.{Each, each-left, each-right, lists-agree}
use Rattle.am_clause.specs.NumberedMade.{made_occurrences, renamed_made, numbered_made}
use Rattle.am_clause.specs.Numbered.{AreNumbered}

-- which variables there are
pub lists-moved : (to : Numbers) (ws : List (List Term)) → in_lists (renamed_lists to ws) ≡ map (moved to) (in_lists ws)
lists-moved to [] = refl
lists-moved to (w ∷ ws) = ap (λ vs. vs ++ in_lists (renamed_lists to ws)) (terms-moved to w) ∙ (ap (λ vs. map (moved to) (occurrences_all w) ++ vs) (lists-moved to ws) ∙ sym (map-append (moved to) (occurrences_all w) (in_lists ws)))

pub made-moved : (to : Numbers) (m : Made) → made_occurrences (renamed_made to m) ≡ map (moved to) (made_occurrences m)
made-moved to m = ap (λ vs. vs ++ in_lists (renamed_lists to m.with)) (clause-moved to m.clause) ∙ (ap (λ vs. map (moved to) (in_clause m.clause) ++ vs) (lists-moved to m.with) ∙ sym (map-append (moved to) (in_clause m.clause) (in_lists m.with)))

-- renaming twice
all-twice : (second first : Numbers) (ts : List Term) → renamed_all second (renamed_all first ts) ≡ renamed_all (after second first) ts
all-twice second first [] = refl
all-twice second first (t ∷ ts) = ap (λ x. x ∷ renamed_all second (renamed_all first ts)) (term-twice second first t) ∙ ap (λ xs. renamed (after second first) t ∷ xs) (all-twice second first ts)

pub lists-twice : (second first : Numbers) (ws : List (List Term)) → renamed_lists second (renamed_lists first ws) ≡ renamed_lists (after second first) ws
lists-twice second first [] = refl
lists-twice second first (w ∷ ws) = ap (λ x. x ∷ renamed_lists second (renamed_lists first ws)) (all-twice second first w) ∙ ap (λ xs. renamed_all (after second first) w ∷ xs) (lists-twice second first ws)

made-twice : (second first : Numbers) (m : Made) → renamed_made second (renamed_made first m) ≡ renamed_made (after second first) m
made-twice second first m = ap (λ c. row c (renamed_lists second (renamed_lists first m.with))) (clause-twice second first m.clause) ∙ ap (row (renamed_clause (after second first) m.clause)) (lists-twice second first m.with)

-- numbers that agree where the variables are
made-agrees : (to from : Numbers) (m : Made) → Each (λ v. to v.0 v.1 ≡ from v.0 v.1) (made_occurrences m) → renamed_made to m ≡ renamed_made from m
made-agrees to from m h =
    ap (λ c. row c (renamed_lists to m.with)) (clause-agrees to from m.clause (each-left (λ v. to v.0 v.1 ≡ from v.0 v.1) (in_clause m.clause) (in_lists m.with) h))
    ∙ ap (row (renamed_clause from m.clause)) (lists-agree (renamed to) (renamed from) (λ v. to v.0 v.1 ≡ from v.0 v.1)
    (λ n s e. renamed-Var to n s ∙ (ap (λ i. Var i s) e ∙ sym (renamed-Var from n s)))
    (λ k. renamed-In to k ∙ sym (renamed-In from k)) (renamed-App to) (renamed-App from) m.with
    (each-right (λ v. to v.0 v.1 ≡ from v.0 v.1) (in_clause m.clause) (in_lists m.with) h))

-- each its own number
pub term-itself : (t : Term) → renamed itself t ≡ t
term-itself = term_induct (λ t. renamed itself t ≡ t) (λ ts. renamed_all itself ts ≡ ts)
    (λ n s. renamed-Var itself n s)
    (λ k. renamed-In itself k)
    (λ f args h. renamed-App itself f args ∙ ap (App f) h)
    refl
    (λ t ts h k. ap (λ x. x ∷ renamed_all itself ts) h ∙ ap (λ xs. t ∷ xs) k)

pub all-itself : (ts : List Term) → renamed_all itself ts ≡ ts
all-itself [] = refl
all-itself (t ∷ ts) = ap (λ x. x ∷ renamed_all itself ts) (term-itself t) ∙ ap (λ xs. t ∷ xs) (all-itself ts)

pub lists-itself : (ws : List (List Term)) → renamed_lists itself ws ≡ ws
lists-itself [] = refl
lists-itself (w ∷ ws) = ap (λ x. x ∷ renamed_lists itself ws) (all-itself w) ∙ ap (λ xs. w ∷ xs) (lists-itself ws)

made-itself : (m : Made) → renamed_made itself m ≡ m
made-itself m = ap (λ c. row c (renamed_lists itself m.with)) (clause-itself m.clause) ∙ ap (row m.clause) (lists-itself m.with)

-- the numbers of the variables of a list

pub within-distinct : (v : Variable) (vs : List Variable) → among same_variable v (distinct same_variable vs) ≡ among same_variable v vs
within-distinct v vs = any-distinct same_variable same_variable-sound same_variable-refl (same_variable v) vs

pub in-variables : (v : Variable) (c : Clause) → Within v (variables c) → Within v (in_clause c)
unfolding variables
in-variables v c h = sym (within-distinct v (in_clause c)) ∙ h

module _ (to back : Numbers) (vs : List Variable) (u : IsUndone to back vs) where
  pub apart : (v w : Variable) → Within v vs → Within w vs → moved to v ≡ moved to w → v ≡ w
  apart v w a b e =
      let s : v.1 ≡ w.1 = ap (λ (x : Variable). x.1) e in
      let n : v.0 ≡ w.0 = sym (u.undone v.0 v.1 a) ∙ (ap (λ (x : Variable). back x.0 x.1) e ∙ u.undone w.0 w.1 b) in
      ap (λ (i : ℕ). let x : Variable = (i, v.1) in x) n ∙ ap (λ (r : SortId). let x : Variable = (w.0, r) in x) s

  kept-test : (v w : Variable) → Within v vs → Within w vs → same_variable (moved to v) (moved to w) ≡ same_variable v w
  kept-test v w a b = same_tests (same_variable (moved to v) (moved to w)) (same_variable v w)
      (λ e. subst (λ (x : Variable). same_variable v x ≡ true) (apart v w a b (same_variable-sound (moved to v) (moved to w) e)) (same_variable-refl v))
      (λ e. subst (λ (x : Variable). same_variable (moved to v) (moved to x) ≡ true) (same_variable-sound v w e) (same_variable-refl (moved to v)))

  pub distinct-moved : distinct same_variable (map (moved to) vs) ≡ map (moved to) (distinct same_variable vs)
  distinct-moved = distinct-map (moved to) vs apart

  pub place-moved : (v : Variable) → Within v vs → places_in (distinct same_variable (map (moved to) vs)) (to v.0 v.1) v.1 ≡ places_in (distinct same_variable vs) v.0 v.1
  place-moved v m = ap (λ (ws : List Variable). places_in ws (to v.0 v.1) v.1) distinct-moved
      ∙ place-map (moved to) v (distinct same_variable vs) (λ w n. kept-test v w m (sym (within-distinct w vs) ∙ n))

-- the laws

module _ (to back : Numbers) (m : Made) (u : IsUndone to back (made_occurrences m)) where
  pub variables-moved : variables_of_made (renamed_made to m) ≡ map (moved to) (variables_of_made m)
  variables-moved = ap (distinct same_variable) (made-moved to m) ∙ distinct-moved to back (made_occurrences m) u

  pub renumbered-moved : numbered_made (renamed_made to m) ≡ numbered_made m
  unfolding numbered_made
  renumbered-moved = made-twice (places_in (variables_of_made (renamed_made to m))) to m
      ∙ made-agrees (after (places_in (variables_of_made (renamed_made to m))) to) (places_in (variables_of_made m)) m
      (λ v h. ap (λ (vs : List Variable). places_in (distinct same_variable vs) (to v.0 v.1) v.1) (made-moved to m) ∙ place-moved to back (made_occurrences m) u v h)

pub listed : (v : Variable) (m : Made) → Within v (made_occurrences m) → Within v (variables_of_made m)
listed v m h = within-distinct v (made_occurrences m) ∙ h

pub numbered-fixed : (m : Made) → AreNumbered (made_occurrences m) → numbered_made m ≡ m
unfolding numbered_made
numbered-fixed m h = made-agrees (places_in (variables_of_made m)) itself m (λ v i. sym (h (places_in (variables_of_made m) v.0 v.1) v (read-place (variables_of_made m) v (listed v m i)))) ∙ made-itself m
