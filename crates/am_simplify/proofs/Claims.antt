-- What matching with bindings says of the lists of terms that agree with them.
use Rattle.std.proofs.Common.{◌≡◌, ◌∙◌, ◌==◌, ◌&&◌, ℕ, zero, suc, Bool, true, false, true≢false, refl, sym, ap, subst, arith, Option, Some, None, List, [], ◌∷◌, map, length, slice_get, nat_lt, if◌then◌else◌}
use Rattle.std.specs.List.{AllByRecursion}
use Rattle.std.specs.Bool.{beq}
use Rattle.std.proofs.lemmas.Bool.Decides.{nat_tests}
use Rattle.std.proofs.lemmas.List.{length-map}
use Rattle.std.proofs.lemmas.Option.{get_or_from_slice_get}
use Rattle.am_term.specs.Induct.{term_induct}
use Rattle.am_term.specs.Instance.{instance, instances, instance_atom, instance_literal, instance-Var, instance-In, instance-App}
use Rattle.am_term.specs.Same.{is_in, same_term, same_term-In}
use Rattle.am_term.specs.Sorting.{fit_places, fits_place, sort_of, sorts_of}
use Rattle.am_term.specs.declared.id.SortId.{SortId}
use Rattle.am_term.specs.declared.id.SymId.{SymId}
use Rattle.am_term.specs.declared.signature.Signature.{Signature}
use Rattle.am_term.specs.declared.term.Atom.{Atom}
use Rattle.am_term.specs.declared.term.Atom.TheVariants.{Rel, Eq}
use Rattle.am_term.specs.declared.term.Literal.{Literal}
use Rattle.am_term.specs.declared.term.Term.{Term}
use Rattle.am_term.specs.declared.term.Term.TheOpen.{Term-F}
use Rattle.am_term.specs.declared.term.Term.TheVariants.{Var, In, App}
use Rattle.am_term.specs.declared.term.Term.TheViews.{out-Term}
use Rattle.am_term.proofs.Alike.{same_term-refl, same_term-sound}
use Rattle.am_term.proofs.Tests.{and_left, and_right, and_both}
use Rattle.am_clause.specs.Variables.{Variable, in_atom, occurrences, occurrences_all, occurrences-none}
use Rattle.am_unify.specs.Matching.{and_then, bind_held, held, match_all, match_app, matched, matched-Var, matched-In, matched-App}
use Rattle.am_unify.specs.Substitution.{insert_binding, IsRising}
use Rattle.am_unify.proofs.Instances.{all-insert, rising-insert}
use Rattle.am_unify.proofs.Renamed.{app-var, heads, tails}
use Rattle.am_unify.proofs.Solved.{AreAlike, app-alike, in-app}
use Rattle.am_unify.proofs.Standing.{number_is, number_same}
use Rattle.am_unify.proofs.Steps.{is_var, is_in as is_input, is_app}
use Rattle.am_simplify.specs.Subsuming.{Bindings, match_atom, match_literal, match_terms}
use Rattle.am_rules.proofs.Standing.{never, Each, each-Var, each-App, each-head, each-tail, each-left, each-right, each-more}

-- what holds of all, with one more, holds of that one and of all
all-inserted : (P : ℕ × Term → Type 0) (n : ℕ) (t : Term) (bs : Bindings) → AllByRecursion P (insert_binding n t bs) → P (n, t) × AllByRecursion P bs
all-inserted P n t [] h = (h.0, tt)
all-inserted P n t (b ∷ bs) h = by_test (all-inserted P n t bs) (nat_lt b.0 n) h
  where
    by_test : (AllByRecursion P (insert_binding n t bs) → P (n, t) × AllByRecursion P bs) → (l : Bool) → AllByRecursion P (if l then b ∷ insert_binding n t bs else (n, t) ∷ b ∷ bs) → P (n, t) × AllByRecursion P (b ∷ bs)
    by_test k true d = let e = k d.1 in (e.0, (d.0, e.1))
    by_test k false d = (d.0, d.1)

-- a number that isn't held is bound nowhere
held-none : (n : ℕ) (t : Term) (bs : Bindings) → held bs n t ≡ None → AllByRecursion (λ (c : ℕ × Term). (n == c.0) ≡ false) bs
held-none n t [] e = tt
held-none n t (b ∷ bs) e = by_test (held-none n t bs) (b.0 == n) refl e
  where
    by_test : (held bs n t ≡ None → AllByRecursion (λ (c : ℕ × Term). (n == c.0) ≡ false) bs) → (c : Bool) → (b.0 == n) ≡ c → (if c then Some (same_term b.1 t) else held bs n t) ≡ None → AllByRecursion (λ (c : ℕ × Term). (n == c.0) ≡ false) (b ∷ bs)
    by_test k true is d = absurd cc
    by_test k false is d = (grind (arith, nat_tests), k d)

-- the list has this term at the number of the binding
abbrev pub Has : List Term → ℕ × Term → Type 0
Has with b = slice_get with b.0 ≡ Some b.1

-- the list has the term of each binding at its number
abbrev pub Solves : List Term → Bindings → Type 0
Solves with bs = AllByRecursion (Has with) bs

-- the term that a list has for a bound number, compared with another
record IsHeld (with : List Term) (n : ℕ) (t : Term) (r : Bool) : Type 0 where
  term : Term
  there : slice_get with n ≡ Some term
  test : same_term term t ≡ r

held-solved : (n : ℕ) (t : Term) (bs : Bindings) (r : Bool) → held bs n t ≡ Some r → (with : List Term) → Solves with bs → IsHeld with n t r
held-solved n t [] r e with h = absurd cc
held-solved n t (b ∷ bs) r e with h = by_test (λ d. held-solved n t bs r d with h.1) (b.0 == n) refl e
  where
    by_test : (held bs n t ≡ Some r → IsHeld with n t r) → (c : Bool) → (b.0 == n) ≡ c → (if c then Some (same_term b.1 t) else held bs n t) ≡ Some r → IsHeld with n t r
    by_test k true is d = record { term = b.1; there = ap (slice_get with) (sym (number_is b.0 n is)) ∙ h.0; test = cc }
    by_test k false is d = k d

read : (with : List Term) (n : ℕ) (s : SortId) (t : Term) → slice_get with n ≡ Some t → instance with (Var n s) ≡ t
read with n s t e = instance-Var with n s ∙ get_or_from_slice_get with n t (Var n s) e

module _ (sig : Signature) (ins : List SortId) (ss : List SortId) where
  -- one term for each sort, and each fits
  abbrev pub AreFitting : List Term → Type 0
  AreFitting with = fit_places sig (sorts_of sig ins with) ss ≡ true

  -- a variable of the sort that is listed for its number
  abbrev pub HasSort : Variable → Type 0
  HasSort v = slice_get ss v.0 ≡ Some v.1

  -- a binding to a term whose sort fits that which is listed for the number
  pub record Fit (b : ℕ × Term) : Type 0 where
    pub sort : SortId
    pub there : slice_get ss b.0 ≡ Some sort
    pub fits : fits_place sig (sort_of sig ins b.1) sort ≡ true

  -- the bindings cs say what bs say, and what is asked besides
  pub record Says (Asked : List Term → Type 0) (bs cs : Bindings) : Type 0 where
    pub solves : (with : List Term) → Solves with cs → Solves with bs × Asked with
    pub solved : (with : List Term) → AreFitting with → Solves with bs → Asked with → Solves with cs
    pub rising : IsRising bs → IsRising cs
    pub fits : AllByRecursion Fit bs → AllByRecursion Fit cs

  -- no list of terms that fit meets what bs say and what is asked, or the bindings say so
  abbrev pub Claim : (List Term → Type 0) → Bindings → Option Bindings → Type 0
  Claim Asked bs None = (with : List Term) → AreFitting with → Solves with bs → Asked with → ⊥
  Claim Asked bs (Some cs) = Says Asked bs cs

  pub moved : (Asked Wanted : List Term → Type 0) (bs : Bindings) → ((with : List Term) → Asked with → Wanted with) → ((with : List Term) → Wanted with → Asked with) → (o : Option Bindings) → Claim Asked bs o → Claim Wanted bs o
  moved Asked Wanted bs there back None h = λ with fit s w. h with fit s (back with w)
  moved Asked Wanted bs there back (Some cs) h = record {
    solves = λ with s. let k = h.solves with s in (k.0, there with k.1);
    solved = λ with f s w. h.solved with f s (back with w);
    rising = h.rising;
    fits = h.fits;
  }

  -- one after the other
  pub chained : (Asked Wanted : List Term → Type 0) (bs cs : Bindings) → Says Asked bs cs → (o : Option Bindings) → Claim Wanted cs o → Claim (λ with. Asked with × Wanted with) bs o
  chained Asked Wanted bs cs h None k = λ with fit s w. k with fit (h.solved with fit s w.0) w.1
  chained Asked Wanted bs cs h (Some ds) k = record {
    solves = λ with s. let a = k.solves with s in let b = h.solves with a.0 in (b.0, (b.1, a.1));
    solved = λ with f s w. k.solved with f (h.solved with f s w.0) w.1;
    rising = λ r. k.rising (h.rising r);
    fits = λ f. k.fits (h.fits f);
  }

  -- nothing is bound, and what is asked holds
  same : (Asked : List Term → Type 0) (bs : Bindings) → ((with : List Term) → Solves with bs → Asked with) → Says Asked bs bs
  same Asked bs h = record { solves = λ with s. (s, h with s); solved = λ with f s w. s; rising = λ r. r; fits = λ f. f }

  -- a fitting term at each number that has a sort
  record IsFitted (with : List Term) (n : ℕ) (s : SortId) : Type 0 where
    term : Term
    there : slice_get with n ≡ Some term
    fits : fits_place sig (sort_of sig ins term) s ≡ true

  fitted : (with : List Term) (rs : List SortId) (n : ℕ) (s : SortId) → fit_places sig (sorts_of sig ins with) rs ≡ true → slice_get rs n ≡ Some s → IsFitted with n s
  fitted [] [] n s f e = absurd cc
  fitted [] (r ∷ rs) n s f e = never f
  fitted (t ∷ with) [] n s f e = never f
  fitted (t ∷ with) (r ∷ rs) zero s f e =
      let is : r ≡ s = cc in
      record { term = t; there = refl; fits = subst (λ x. fits_place sig (sort_of sig ins t) x ≡ true) is (and_left (fits_place sig (sort_of sig ins t) r) (fit_places sig (sorts_of sig ins with) rs) f) }
  fitted (t ∷ with) (r ∷ rs) (suc n) s f e =
      let k : IsFitted with n s = fitted with rs n s (and_right (fits_place sig (sort_of sig ins t) r) (fit_places sig (sorts_of sig ins with) rs) f) e in
      record { term = k.term; there = k.there; fits = k.fits }

  abbrev Matches : Term → Type 0
  Matches t = Each HasSort (occurrences t) → (u : Term) (bs : Bindings) → Claim (λ with. instance with t ≡ u) bs (matched sig ins t u bs)

  abbrev MatchAll : List Term → Type 0
  MatchAll ts = Each HasSort (occurrences_all ts) → (us : List Term) (bs : Bindings) → Claim (λ with. instances with ts ≡ us) bs (match_all (map (matched sig ins) ts) us bs)

  module _ (n : ℕ) (s : SortId) (sorted : slice_get ss n ≡ Some s) (u : Term) (bs : Bindings) where
    abbrev Asked : List Term → Type 0
    Asked with = instance with (Var n s) ≡ u

    fresh : (b : Bool) → fits_place sig (sort_of sig ins u) s ≡ b → held bs n u ≡ None → Claim Asked bs (if b then Some (insert_binding n u bs) else None)
    fresh true fit e = record {
      solves = λ with h. let k = all-inserted (Has with) n u bs h in (k.1, read with n s u k.0);
      solved = λ with f h is.
          let k : IsFitted with n s = fitted with ss n s f sorted in
          let t : k.term ≡ u = sym (read with n s k.term k.there) ∙ is in
          all-insert (Has with) n u bs (k.there ∙ ap Some t) h;
      rising = λ h. rising-insert n u bs (held-none n u bs e) h;
      fits = λ h. all-insert Fit n u bs (record { sort = s; there = sorted; fits = fit }) h;
    }
    fresh false fit e = λ with f h is.
        let k : IsFitted with n s = fitted with ss n s f sorted in
        let t : k.term ≡ u = sym (read with n s k.term k.there) ∙ is in
        true≢false (sym k.fits ∙ (ap (λ x. fits_place sig (sort_of sig ins x) s) t ∙ fit))

    by_held : (o : Option Bool) → held bs n u ≡ o → Claim Asked bs (bind_held sig ins n s u bs o)
    by_held (Some true) e = same Asked bs (λ with h. let k : IsHeld with n u true = held-solved n u bs true e with h in read with n s k.term k.there ∙ same_term-sound k.term u k.test)
    by_held (Some false) e = λ with f h is.
        let k : IsHeld with n u false = held-solved n u bs false e with h in
        let t : k.term ≡ u = sym (read with n s k.term k.there) ∙ is in
        true≢false (sym (same_term-refl u) ∙ (ap (λ x. same_term x u) (sym t) ∙ k.test))
    by_held None e = fresh (fits_place sig (sort_of sig ins u) s) refl e

    variable-matches : Claim Asked bs (matched sig ins (Var n s) u bs)
    variable-matches = subst (Claim Asked bs) (sym (matched-Var sig ins n s u bs)) (by_held (held bs n u) refl)

  input-matches : (k : ℕ) → Matches (In k)
  input-matches k each u bs = subst (Claim (λ with. instance with (In k) ≡ u) bs) (sym (matched-In sig ins k u bs)) (by_test (is_in k (out-Term u)) refl)
    where
      by_test : (b : Bool) → is_in k (out-Term u) ≡ b → Claim (λ with. instance with (In k) ≡ u) bs (if b then Some bs else None)
      by_test true e = same (λ with. instance with (In k) ≡ u) bs (λ with h. instance-In with k ∙ same_term-sound (In k) u (same_term-In k u ∙ e))
      by_test false e = λ with f h is.
          let one : In k ≡ u = sym (instance-In with k) ∙ is in
          true≢false (sym (same_term-refl (In k)) ∙ (ap (same_term (In k)) one ∙ (same_term-In k u ∙ e)))

  application-matches : (f : SymId) (args : List Term) → MatchAll args → Matches (App f args)
  application-matches f args h each u bs = subst (Claim (λ with. instance with (App f args) ≡ u) bs) (sym (matched-App sig ins f args u bs)) (by_kind (out-Term u) refl)
    where
      by_count : (g : SymId) (us : List Term) (b : Bool) → u ≡ App g us → (f.0 == g.0 && length (map (matched sig ins) args) == length us) ≡ b
          → Claim (λ with. instance with (App f args) ≡ u) bs (if b then match_all (map (matched sig ins) args) us bs else None)
      by_count g us true is e =
          let same : f ≡ g = ap (λ (i : ℕ). let x : SymId = record { 0 = i } in x) (number_is f.0 g.0 (and_left (f.0 == g.0) (length (map (matched sig ins) args) == length us) e)) in
          moved (λ with. instances with args ≡ us) (λ with. instance with (App f args) ≡ u) bs
          (λ with d. instance-App with f args ∙ (ap (App f) d ∙ (ap (λ x. App x us) same ∙ sym is)))
          (λ with d. let a : AreAlike f g (instances with args) us = app-alike f g (instances with args) us (sym (instance-App with f args) ∙ (d ∙ is)) in a.arguments)
          (match_all (map (matched sig ins) args) us bs)
          (h (each-App HasSort f args each) us bs)
      by_count g us false is e = λ with fitting s d.
          let a : AreAlike f g (instances with args) us = app-alike f g (instances with args) us (sym (instance-App with f args) ∙ (d ∙ is)) in
          let symbols : f.0 ≡ g.0 = ap (λ (x : SymId). x.0) a.symbols in
          let counts : length (map (matched sig ins) args) ≡ length us = length-map args (matched sig ins) ∙ (sym (length-map args (instance with)) ∙ ap length a.arguments) in
          true≢false (sym (and_both (f.0 == g.0) (length (map (matched sig ins) args) == length us) (subst (λ x. (f.0 == x) ≡ true) symbols (number_same f.0)) (subst (λ x. (length (map (matched sig ins) args) == x) ≡ true) counts (number_same (length (map (matched sig ins) args))))) ∙ e)

      by_kind : (x : Term-F Term) → out-Term u ≡ x → Claim (λ with. instance with (App f args) ≡ u) bs (match_app sig ins f (map (matched sig ins) args) x bs)
      by_kind (Term-F.Var n s) is = λ with fitting k d. app-var f (instances with args) n s (sym (instance-App with f args) ∙ (d ∙ is_var u n s is))
      by_kind (Term-F.In j) is = λ with fitting k d. in-app j f (instances with args) (sym (sym (instance-App with f args) ∙ (d ∙ is_input u j is)))
      by_kind (Term-F.App g us) is = by_count g us (f.0 == g.0 && length (map (matched sig ins) args) == length us) (is_app u g us is) refl

  none-match : MatchAll []
  none-match each [] bs = same (λ with. [] ≡ []) bs (λ with h. refl)
  none-match each (u ∷ us) bs = λ with f h e. absurd cc

  more-match : (t : Term) (ts : List Term) → Matches t → MatchAll ts → MatchAll (t ∷ ts)
  more-match t ts h k each [] bs = λ with f s e. absurd cc
  more-match t ts h k each (u ∷ us) bs = by_test (matched sig ins t u bs) (h (each-head HasSort t ts each) u bs)
    where
      by_test : (o : Option Bindings) → Claim (λ with. instance with t ≡ u) bs o
          → Claim (λ with. instances with (t ∷ ts) ≡ (u ∷ us)) bs (and_then o (match_all (map (matched sig ins) ts) us))
      by_test None c = λ with fitting s e. c with fitting s (heads (instance with t) u (instances with ts) us e)
      by_test (Some cs) c = moved (λ with. (instance with t ≡ u) × (instances with ts ≡ us)) (λ with. instances with (t ∷ ts) ≡ (u ∷ us)) bs
          (λ with e. ap (λ x. x ∷ instances with ts) e.0 ∙ ap (λ xs. u ∷ xs) e.1)
          (λ with e. (heads (instance with t) u (instances with ts) us e, tails (instance with t) u (instances with ts) us e))
          (match_all (map (matched sig ins) ts) us cs)
          (chained (λ with. instance with t ≡ u) (λ with. instances with ts ≡ us) bs cs c (match_all (map (matched sig ins) ts) us cs) (k (each-tail HasSort t ts each) us cs))

  pub term-matches : (t : Term) → Matches t
  term-matches = term_induct Matches MatchAll (λ n s each u bs. variable-matches n s (each-Var HasSort n s each) u bs) input-matches application-matches none-match more-match

  pub terms-match : (ts : List Term) → MatchAll ts
  terms-match [] = none-match
  terms-match (t ∷ ts) = more-match t ts (term-matches t) (terms-match ts)

  -- the sides of an equation are matched as two terms
  sides-each : (left right : Term) → Each HasSort (in_atom (Eq left right)) → Each HasSort (occurrences_all (left ∷ right ∷ []))
  sides-each left right each =
      each-more HasSort left (right ∷ []) (each-left HasSort (occurrences left) (occurrences right) each)
      (each-more HasSort right [] (each-right HasSort (occurrences left) (occurrences right) each) (λ v m. never (rw occurrences-none at m)))

  pub atom-matches : (a b : Atom) (bs : Bindings) → Each HasSort (in_atom a) → Claim (λ with. instance_atom with a ≡ b) bs (match_atom sig ins a b bs)
  atom-matches (Rel r ps) (Rel q ts) bs each = by_test (r.0 == q.0) refl
    where
      by_test : (b : Bool) → (r.0 == q.0) ≡ b → Claim (λ with. Rel r (instances with ps) ≡ Rel q ts) bs (if b then match_terms sig ins ps ts bs else None)
      by_test true e =
          let one : r ≡ q = ap (λ (i : ℕ). let x : SymId = record { 0 = i } in x) (number_is r.0 q.0 e) in
          moved (λ with. instances with ps ≡ ts) (λ with. Rel r (instances with ps) ≡ Rel q ts) bs
          (λ with d. ap (Rel r) d ∙ ap (λ x. Rel x ts) one)
          (λ with d. cc)
          (match_terms sig ins ps ts bs) (terms-match ps each ts bs)
      by_test false e = λ with f s d.
          let one : r ≡ q = cc in
          true≢false (sym (number_same r.0) ∙ (ap (λ (x : SymId). r.0 == x.0) one ∙ e))
  atom-matches (Rel r ps) (Eq left right) bs each = λ with f s d. absurd cc
  atom-matches (Eq left right) (Rel q ts) bs each = λ with f s d. absurd cc
  atom-matches (Eq left right) (Eq first second) bs each =
      moved (λ with. instances with (left ∷ right ∷ []) ≡ first ∷ second ∷ []) (λ with. Eq (instance with left) (instance with right) ≡ Eq first second) bs
      (λ with d. cc)
      (λ with d. cc)
      (match_terms sig ins (left ∷ right ∷ []) (first ∷ second ∷ []) bs) (terms-match (left ∷ right ∷ []) (sides-each left right each) (first ∷ second ∷ []) bs)

  pub literal-matches : (l m : Literal) (bs : Bindings) → Each HasSort (in_atom l.atom) → Claim (λ with. instance_literal with l ≡ m) bs (match_literal sig ins l m bs)
  literal-matches l m bs each = by_sign l.positive m.positive refl refl
    where
      sign : (with : List Term) → instance_literal with l ≡ m → l.positive ≡ m.positive
      sign with e = ap (λ (x : Literal). x.positive) e

      one_sign : l.positive ≡ m.positive → Claim (λ with. instance_literal with l ≡ m) bs (match_atom sig ins l.atom m.atom bs)
      one_sign e = moved (λ with. instance_atom with l.atom ≡ m.atom) (λ with. instance_literal with l ≡ m) bs
          (λ with d. ap (λ (p : Bool). let x : Literal = record { positive = p; atom = instance_atom with l.atom } in x) e ∙ ap (λ (a : Atom). let x : Literal = record { positive = m.positive; atom = a } in x) d)
          (λ with d. ap (λ (x : Literal). x.atom) d)
          (match_atom sig ins l.atom m.atom bs) (atom-matches l.atom m.atom bs each)

      by_sign : (p q : Bool) → l.positive ≡ p → m.positive ≡ q → Claim (λ with. instance_literal with l ≡ m) bs (if beq p q then match_atom sig ins l.atom m.atom bs else None)
      by_sign true true e f = one_sign (e ∙ sym f)
      by_sign true false e f = λ with g s d. true≢false (sym e ∙ (sign with d ∙ f))
      by_sign false true e f = λ with g s d. true≢false (sym f ∙ (sym (sign with d) ∙ e))
      by_sign false false e f = one_sign (e ∙ sym f)
