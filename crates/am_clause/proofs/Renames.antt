-- Renaming: which variables there are afterwards, renaming twice, and by numbers that agree.
use Rattle.std.proofs.Common.{◌≡◌, ◌∙◌, ◌++◌, ℕ, Bool, true, false, refl, sym, ap, List, [], ◌∷◌, map, Option, Some, None}
use Rattle.std.proofs.lemmas.List.{map-append}
use Rattle.std.proofs.lemmas.List.Folds.{list_any-append}
use Rattle.am_term.specs.declared.id.SortId.{SortId}
use Rattle.am_term.specs.declared.id.SymId.{SymId}
use Rattle.am_term.specs.declared.term.Term.{Term}
use Rattle.am_term.specs.declared.term.Term.TheVariants.{Var, App}
use Rattle.am_term.specs.declared.term.Atom.{Atom}
use Rattle.am_term.specs.declared.term.Atom.TheVariants.{Rel, Eq}
use Rattle.am_term.specs.declared.term.Literal.{Literal}
use Rattle.am_term.specs.Induct.{term_induct}
use Rattle.am_term.proofs.Tests.{or_left, or_right}
use Rattle.am_clause.specs.declared.clause.Clause.{Clause}
use Rattle.am_clause.specs.Distinct.{among}
use Rattle.am_clause.specs.Variables.{Variable, same_variable, occurrences, occurrences_all, in_atom, in_literals, in_answer, in_clause, occurrences-Var, occurrences-In, occurrences-App, occurrences-none, occurrences-more}
use Rattle.am_clause.specs.Renaming.{Numbers, renamed, renamed_all, renamed_atom, renamed_literal, renamed_answer, renamed_clause, renamed-Var, renamed-In, renamed-App}
use Rattle.am_clause.proofs.Places.{same_variable-refl}

-- a variable with its new number
abbrev pub moved : Numbers → Variable → Variable
moved to v = (to v.0 v.1, v.1)

abbrev pub Within : Variable → List Variable → Type 0
Within v vs = among same_variable v vs ≡ true

pub within-left : (v : Variable) (vs ws : List Variable) → Within v vs → Within v (vs ++ ws)
within-left v vs ws h = list_any-append (same_variable v) vs ws ∙ or_left (among same_variable v vs) (among same_variable v ws) h

pub within-right : (v : Variable) (vs ws : List Variable) → Within v ws → Within v (vs ++ ws)
within-right v vs ws h = list_any-append (same_variable v) vs ws ∙ or_right (among same_variable v vs) (among same_variable v ws) h

-- a literal with another atom
abbrev with_atom : Bool → Atom → Literal
with_atom sign a = record { positive = sign; atom = a }

abbrev with_parts : List Literal → Option (List Term) → Clause
with_parts ls o = record { literals = ls; answer = o }

-- which variables occur

module _ (to : Numbers) where
  pub term-moved : (t : Term) → occurrences (renamed to t) ≡ map (moved to) (occurrences t)
  term-moved = term_induct
      (λ t. occurrences (renamed to t) ≡ map (moved to) (occurrences t))
      (λ ts. occurrences_all (renamed_all to ts) ≡ map (moved to) (occurrences_all ts))
      (λ n s. rw (renamed-Var, occurrences-Var (to n s) s, occurrences-Var n s) refl)
      (λ k. rw (renamed-In, occurrences-In) refl)
      (λ f args h. rw (renamed-App, occurrences-App f (renamed_all to args), occurrences-App f args) h)
      (rw occurrences-none refl)
      (λ t ts h k. occurrences-more (renamed to t) (renamed_all to ts) ∙ (ap (λ vs. vs ++ occurrences_all (renamed_all to ts)) h ∙ (ap (λ vs. map (moved to) (occurrences t) ++ vs) k
      ∙ sym (ap (map (moved to)) (occurrences-more t ts) ∙ map-append (moved to) (occurrences t) (occurrences_all ts)))))

  pub terms-moved : (ts : List Term) → occurrences_all (renamed_all to ts) ≡ map (moved to) (occurrences_all ts)
  terms-moved [] = rw occurrences-none refl
  terms-moved (t ∷ ts) = occurrences-more (renamed to t) (renamed_all to ts) ∙ (ap (λ vs. vs ++ occurrences_all (renamed_all to ts)) (term-moved t) ∙ (ap (λ vs. map (moved to) (occurrences t) ++ vs) (terms-moved ts)
      ∙ sym (ap (map (moved to)) (occurrences-more t ts) ∙ map-append (moved to) (occurrences t) (occurrences_all ts))))

  atom-moved : (a : Atom) → in_atom (renamed_atom to a) ≡ map (moved to) (in_atom a)
  atom-moved (Rel r args) = terms-moved args
  atom-moved (Eq left right) = ap (λ vs. vs ++ occurrences (renamed to right)) (term-moved left) ∙ (ap (λ vs. map (moved to) (occurrences left) ++ vs) (term-moved right) ∙ sym (map-append (moved to) (occurrences left) (occurrences right)))

  literals-moved : (ls : List Literal) → in_literals (map (renamed_literal to) ls) ≡ map (moved to) (in_literals ls)
  literals-moved [] = refl
  literals-moved (l ∷ ls) = ap (λ vs. vs ++ in_literals (map (renamed_literal to) ls)) (atom-moved l.atom) ∙ (ap (λ vs. map (moved to) (in_atom l.atom) ++ vs) (literals-moved ls) ∙ sym (map-append (moved to) (in_atom l.atom) (in_literals ls)))

  answer-moved : (o : Option (List Term)) → in_answer (renamed_answer to o) ≡ map (moved to) (in_answer o)
  answer-moved None = refl
  answer-moved (Some ts) = terms-moved ts

  pub clause-moved : (c : Clause) → in_clause (renamed_clause to c) ≡ map (moved to) (in_clause c)
  clause-moved c = ap (λ vs. vs ++ in_answer (renamed_answer to c.answer)) (literals-moved c.literals) ∙ (ap (λ vs. map (moved to) (in_literals c.literals) ++ vs) (answer-moved c.answer) ∙ sym (map-append (moved to) (in_literals c.literals) (in_answer c.answer)))

-- renaming twice

module _ (second first : Numbers) where
  abbrev pub after : Numbers
  after n s = second (first n s) s

  pub term-twice : (t : Term) → renamed second (renamed first t) ≡ renamed after t
  term-twice = term_induct
      (λ t. renamed second (renamed first t) ≡ renamed after t)
      (λ ts. renamed_all second (renamed_all first ts) ≡ renamed_all after ts)
      (λ n s. ap (renamed second) (renamed-Var first n s) ∙ (renamed-Var second (first n s) s ∙ sym (renamed-Var after n s)))
      (λ k. ap (renamed second) (renamed-In first k) ∙ (renamed-In second k ∙ sym (renamed-In after k)))
      (λ f args h. ap (renamed second) (renamed-App first f args) ∙ (renamed-App second f (renamed_all first args) ∙ (ap (App f) h ∙ sym (renamed-App after f args))))
      refl
      (λ t ts h k. ap (λ x. x ∷ renamed_all second (renamed_all first ts)) h ∙ ap (λ xs. renamed after t ∷ xs) k)

  terms-twice : (ts : List Term) → renamed_all second (renamed_all first ts) ≡ renamed_all after ts
  terms-twice [] = refl
  terms-twice (t ∷ ts) = ap (λ x. x ∷ renamed_all second (renamed_all first ts)) (term-twice t) ∙ ap (λ xs. renamed after t ∷ xs) (terms-twice ts)

  atom-twice : (a : Atom) → renamed_atom second (renamed_atom first a) ≡ renamed_atom after a
  atom-twice (Rel r args) = ap (Rel r) (terms-twice args)
  atom-twice (Eq left right) = ap (λ x. Eq x (renamed second (renamed first right))) (term-twice left) ∙ ap (Eq (renamed after left)) (term-twice right)

  literals-twice : (ls : List Literal) → map (renamed_literal second) (map (renamed_literal first) ls) ≡ map (renamed_literal after) ls
  literals-twice [] = refl
  literals-twice (l ∷ ls) = ap (λ a. with_atom l.positive a ∷ map (renamed_literal second) (map (renamed_literal first) ls)) (atom-twice l.atom) ∙ ap (λ xs. renamed_literal after l ∷ xs) (literals-twice ls)

  answer-twice : (o : Option (List Term)) → renamed_answer second (renamed_answer first o) ≡ renamed_answer after o
  answer-twice None = refl
  answer-twice (Some ts) = ap Some (terms-twice ts)

  pub clause-twice : (c : Clause) → renamed_clause second (renamed_clause first c) ≡ renamed_clause after c
  clause-twice c = ap (λ ls. with_parts ls (renamed_answer second (renamed_answer first c.answer))) (literals-twice c.literals) ∙ ap (with_parts (map (renamed_literal after) c.literals)) (answer-twice c.answer)

-- numbers that agree where the variables are

module _ (to from : Numbers) where
  abbrev pub Agree : List Variable → Type 0
  Agree vs = (v : Variable) → Within v vs → to v.0 v.1 ≡ from v.0 v.1

  left : (vs ws : List Variable) → Agree (vs ++ ws) → Agree vs
  left vs ws h v m = h v (within-left v vs ws m)

  right : (vs ws : List Variable) → Agree (vs ++ ws) → Agree ws
  right vs ws h v m = h v (within-right v vs ws m)

  abbrev TermAgrees : Term → Type 0
  TermAgrees t = Agree (occurrences t) → renamed to t ≡ renamed from t

  abbrev TermsAgree : List Term → Type 0
  TermsAgree ts = Agree (occurrences_all ts) → renamed_all to ts ≡ renamed_all from ts

  var_agrees : (n : ℕ) (s : SortId) → TermAgrees (Var n s)
  var_agrees n s h =
      let v : Variable = (n, s) in
      let m : Within v (occurrences (Var n s)) = rw occurrences-Var (or_left (same_variable v v) false (same_variable-refl v)) in
      renamed-Var to n s ∙ (ap (λ i. Var i s) (h v m) ∙ sym (renamed-Var from n s))

  app_agrees : (f : SymId) (args : List Term) → TermsAgree args → TermAgrees (App f args)
  app_agrees f args k h = renamed-App to f args ∙ (ap (App f) (k (rw occurrences-App at h)) ∙ sym (renamed-App from f args))

  more_agree : (t : Term) (ts : List Term) → TermAgrees t → TermsAgree ts → TermsAgree (t ∷ ts)
  more_agree t ts k l h =
      let g : Agree (occurrences t ++ occurrences_all ts) = rw occurrences-more at h in
      ap (λ x. x ∷ renamed_all to ts) (k (left (occurrences t) (occurrences_all ts) g)) ∙ ap (λ xs. renamed from t ∷ xs) (l (right (occurrences t) (occurrences_all ts) g))

  pub term-agrees : (t : Term) → TermAgrees t
  term-agrees = term_induct TermAgrees TermsAgree var_agrees (λ k h. renamed-In to k ∙ sym (renamed-In from k)) app_agrees (λ h. refl) more_agree

  terms-agree : (ts : List Term) → TermsAgree ts
  terms-agree [] = λ h. refl
  terms-agree (t ∷ ts) = more_agree t ts (term-agrees t) (terms-agree ts)

  atom-agrees : (a : Atom) → Agree (in_atom a) → renamed_atom to a ≡ renamed_atom from a
  atom-agrees (Rel r args) h = ap (Rel r) (terms-agree args h)
  atom-agrees (Eq l r) h = ap (λ x. Eq x (renamed to r)) (term-agrees l (left (occurrences l) (occurrences r) h)) ∙ ap (Eq (renamed from l)) (term-agrees r (right (occurrences l) (occurrences r) h))

  literals-agree : (ls : List Literal) → Agree (in_literals ls) → map (renamed_literal to) ls ≡ map (renamed_literal from) ls
  literals-agree [] h = refl
  literals-agree (l ∷ ls) h = ap (λ a. with_atom l.positive a ∷ map (renamed_literal to) ls) (atom-agrees l.atom (left (in_atom l.atom) (in_literals ls) h)) ∙ ap (λ xs. renamed_literal from l ∷ xs) (literals-agree ls (right (in_atom l.atom) (in_literals ls) h))

  answer-agrees : (o : Option (List Term)) → Agree (in_answer o) → renamed_answer to o ≡ renamed_answer from o
  answer-agrees None h = refl
  answer-agrees (Some ts) h = ap Some (terms-agree ts h)

  pub clause-agrees : (c : Clause) → Agree (in_clause c) → renamed_clause to c ≡ renamed_clause from c
  clause-agrees c h = ap (λ ls. with_parts ls (renamed_answer to c.answer)) (literals-agree c.literals (left (in_literals c.literals) (in_answer c.answer) h)) ∙ ap (with_parts (map (renamed_literal from) c.literals)) (answer-agrees c.answer (right (in_literals c.literals) (in_answer c.answer) h))

-- each variable its own number

abbrev pub itself : Numbers
itself n s = n

term-itself : (t : Term) → renamed itself t ≡ t
term-itself = term_induct (λ t. renamed itself t ≡ t) (λ ts. renamed_all itself ts ≡ ts)
    (λ n s. renamed-Var itself n s)
    (λ k. renamed-In itself k)
    (λ f args h. renamed-App itself f args ∙ ap (App f) h)
    refl
    (λ t ts h k. ap (λ x. x ∷ renamed_all itself ts) h ∙ ap (λ xs. t ∷ xs) k)

terms-itself : (ts : List Term) → renamed_all itself ts ≡ ts
terms-itself [] = refl
terms-itself (t ∷ ts) = ap (λ x. x ∷ renamed_all itself ts) (term-itself t) ∙ ap (λ xs. t ∷ xs) (terms-itself ts)

atom-itself : (a : Atom) → renamed_atom itself a ≡ a
atom-itself (Rel r args) = ap (Rel r) (terms-itself args)
atom-itself (Eq l r) = ap (λ x. Eq x (renamed itself r)) (term-itself l) ∙ ap (Eq l) (term-itself r)

literals-itself : (ls : List Literal) → map (renamed_literal itself) ls ≡ ls
literals-itself [] = refl
literals-itself (l ∷ ls) = ap (λ a. with_atom l.positive a ∷ map (renamed_literal itself) ls) (atom-itself l.atom) ∙ ap (λ xs. l ∷ xs) (literals-itself ls)

answer-itself : (o : Option (List Term)) → renamed_answer itself o ≡ o
answer-itself None = refl
answer-itself (Some ts) = ap Some (terms-itself ts)

pub clause-itself : (c : Clause) → renamed_clause itself c ≡ c
clause-itself c = ap (λ ls. with_parts ls (renamed_answer itself c.answer)) (literals-itself c.literals) ∙ ap (with_parts c.literals) (answer-itself c.answer)
