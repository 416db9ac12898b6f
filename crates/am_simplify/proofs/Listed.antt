-- The places that are listed are those of the parts that aren't variables.
use Rattle.std.proofs.Common.{◌≡◌, ◌∙◌, ◌⊎◌, inl, inr, ◌++◌, ◌+◌, ℕ, zero, suc, false, true≢false, refl, sym, ap, subst, arith, append_assoc, List, [], ◌∷◌, Option, Some, None, option_and_then, slice_get}
use Rattle.am_term.specs.Induct.{term_induct}
use Rattle.am_term.specs.Parts.{parts_of}
use Rattle.am_term.specs.Place.{args_of, args_of-Var, args_of-In, args_of-App, member, place}
use Rattle.am_term.specs.Variables.{is_variable, is_variable-Var, is_variable-In, is_variable-App}
use Rattle.am_term.specs.declared.id.SortId.{SortId}
use Rattle.am_term.specs.declared.id.SymId.{SymId}
use Rattle.am_term.specs.declared.term.Atom.{Atom}
use Rattle.am_term.specs.declared.term.Term.{Term}
use Rattle.am_term.specs.declared.term.Term.TheVariants.{Var, In, App}
use Rattle.am_simplify.specs.Places.{IsListed, IsPlace, places, places_all, places_of_atom, places-Var, places-In, places-App}

-- a part of a term that isn't a variable
record IsPart (t : Term) (path : List ℕ) : Type 0 where
  part : Term
  stands : place path t ≡ Some part
  solid : is_variable part ≡ false

-- a part, that isn't a variable, of the term at a number
record IsPartOf (ts : List Term) (number : ℕ) (path : List ℕ) : Type 0 where
  term : Term
  there : slice_get ts number ≡ Some term
  part : IsPart term path

-- a path that goes on from another
record GoesOn (ts : List Term) (k : ℕ) (from p : List ℕ) : Type 0 where
  number : ℕ
  path : List ℕ
  is : p ≡ from ++ (k + number) ∷ path
  part : IsPartOf ts number path

listed-cases : (p : List ℕ) (ps qs : List (List ℕ)) → IsListed p (ps ++ qs) → IsListed p ps ⊎ IsListed p qs
listed-cases p [] qs h = inr h
listed-cases p (q ∷ ps) qs h = elim h [ inl a ↦ inl (inl a) | inr b ↦ elim (listed-cases p ps qs b) [ inl c ↦ inl (inr c) | inr c ↦ inr c ] ]

listed-left : (p : List ℕ) (ps qs : List (List ℕ)) → IsListed p ps → IsListed p (ps ++ qs)
listed-left p [] qs h = absurd h
listed-left p (q ∷ ps) qs h = elim h [ inl a ↦ inl a | inr b ↦ inr (listed-left p ps qs b) ]

listed-right : (p : List ℕ) (ps qs : List (List ℕ)) → IsListed p qs → IsListed p (ps ++ qs)
listed-right p [] qs h = h
listed-right p (q ∷ ps) qs h = inr (listed-right p ps qs h)

-- what is listed of a term that stands at a path goes on from there to a part
record Ends (t : Term) (from p : List ℕ) : Type 0 where
  path : List ℕ
  is : p ≡ from ++ path
  part : IsPart t path

whole : (from : List ℕ) → from ≡ from ++ []
whole [] = refl
whole (k ∷ from) = ap (λ xs. k ∷ xs) (whole from)

-- a part of an argument is one of the whole
of-argument : (f : SymId) (args : List Term) (number : ℕ) (path : List ℕ) → IsPartOf args number path → IsPart (App f args) (suc number ∷ path)
of-argument f args number path h = record {
  part = h.part.part;
  stands = ap (λ ts. option_and_then (place path) (slice_get ts number)) (args_of-App f args) ∙ (ap (option_and_then (place path)) h.there ∙ h.part.stands);
  solid = h.part.solid;
}

below-part : (f : SymId) (args : List Term) (from p : List ℕ) → GoesOn args 1 from p → Ends (App f args) from p
below-part f args from p g = record {
  path = suc g.number ∷ g.path;
  is = g.is ∙ ap (λ i. from ++ i ∷ g.path) (omega arith);
  part = of-argument f args g.number g.path g.part;
}

abbrev EndEach : List Term → Type 0
EndEach ts = (k : ℕ) (from p : List ℕ) → IsListed p (places_all k ts from) → GoesOn ts k from p

more-end : (t : Term) (ts : List Term) → ((from p : List ℕ) → IsListed p (places t from) → Ends t from p) → EndEach ts → EndEach (t ∷ ts)
more-end t ts h rest k from p l = elim (listed-cases p (places t (from ++ k ∷ [])) (places_all (k + 1) ts from) l) [ inl a ↦ first (h (from ++ k ∷ []) p a) | inr b ↦ later (rest (k + 1) from p b) ]
  where
    first : Ends t (from ++ k ∷ []) p → GoesOn (t ∷ ts) k from p
    first e = record {
      number = 0;
      path = e.path;
      is = e.is ∙ (append_assoc from (k ∷ []) e.path ∙ ap (λ i. from ++ i ∷ e.path) (omega arith));
      part = record { term = t; there = refl; part = e.part };
    }

    later : GoesOn ts (k + 1) from p → GoesOn (t ∷ ts) k from p
    later g = record {
      number = suc g.number;
      path = g.path;
      is = g.is ∙ ap (λ i. from ++ i ∷ g.path) (omega arith);
      part = record { term = g.part.term; there = g.part.there; part = g.part.part };
    }

each-ends : (t : Term) (from p : List ℕ) → IsListed p (places t from) → Ends t from p
each-ends = term_induct
    (λ t. (from p : List ℕ) → IsListed p (places t from) → Ends t from p)
    EndEach
    (λ n s from p h. let g : IsListed p [] = subst (IsListed p) (places-Var n s from) h in absurd g)
    (λ k from p h.
    let g : IsListed p (from ∷ []) = subst (IsListed p) (places-In k from) h in
    elim g [ inl a ↦ record { path = []; is = a ∙ whole from; part = record { part = In k; stands = refl; solid = is_variable-In k } } | inr b ↦ absurd b ])
    (λ f args h from p l.
    let g : IsListed p (from ∷ places_all 1 args from) = subst (IsListed p) (places-App f args from) l in
    elim g [
      | inl a ↦ record { path = []; is = a ∙ whole from; part = record { part = App f args; stands = refl; solid = is_variable-App f args } }
      | inr b ↦ below-part f args from p (h 1 from p b)
    ])
    (λ k from p h. absurd h)
    more-end

ends-all : (ts : List Term) → EndEach ts
ends-all [] = λ k from p h. absurd h
ends-all (t ∷ ts) = more-end t ts (each-ends t) (ends-all ts)

-- an argument that is there
abbrev args-there : List Term → ℕ → List ℕ → Type 0
args-there ts number path = (part : Term) → option_and_then (place path) (slice_get ts number) ≡ Some part → is_variable part ≡ false → IsPartOf ts number path

found-argument : (ts : List Term) (number : ℕ) (path : List ℕ) → args-there ts number path
found-argument ts number path part e solid = by (slice_get ts number) refl e
  where
    by : (o : Option Term) → slice_get ts number ≡ o → option_and_then (place path) o ≡ Some part → IsPartOf ts number path
    by None is e = absurd cc
    by (Some t) is e = record { term = t; there = is; part = record { part = part; stands = e; solid = solid } }

no-argument : {A : Type 0} (t : Term) → args_of t ≡ [] → (k : ℕ) (path : List ℕ) → IsPart t (k ∷ path) → A
no-argument t none k path h = by k (sym (ap (λ ts. option_and_then (place path) (member ts k)) none) ∙ h.stands)
  where
    by : {A : Type 0} (k : ℕ) → option_and_then (place path) (member [] k) ≡ Some h.part → A
    by zero e = absurd cc
    by (suc k) e = absurd cc

abbrev ListEach : List Term → Type 0
ListEach ts = (k : ℕ) (from : List ℕ) (number : ℕ) (path : List ℕ) → IsPartOf ts number path → IsListed (from ++ (k + number) ∷ path) (places_all k ts from)

more-listed : (t : Term) (ts : List Term) → ((from path : List ℕ) → IsPart t path → IsListed (from ++ path) (places t from)) → ListEach ts → ListEach (t ∷ ts)
more-listed t ts h rest k from zero path e =
    let is : t ≡ e.term = (let g : Some t ≡ Some e.term = e.there in cc) in
    let part : IsPart t path = subst (λ x. IsPart x path) (sym is) e.part in
    let way : ((from ++ k ∷ []) ++ path) ≡ from ++ (k + 0) ∷ path = append_assoc from (k ∷ []) path ∙ ap (λ i. from ++ i ∷ path) (omega arith) in
    listed-left (from ++ (k + 0) ∷ path) (places t (from ++ k ∷ [])) (places_all (k + 1) ts from) (subst (λ p. IsListed p (places t (from ++ k ∷ []))) way (h (from ++ k ∷ []) path part))
more-listed t ts h rest k from (suc number) path e =
    let way : (from ++ ((k + 1) + number) ∷ path) ≡ from ++ (k + suc number) ∷ path = ap (λ i. from ++ i ∷ path) (omega arith) in
    listed-right (from ++ (k + suc number) ∷ path) (places t (from ++ k ∷ [])) (places_all (k + 1) ts from)
    (subst (λ p. IsListed p (places_all (k + 1) ts from)) way (rest (k + 1) from number path (record { term = e.term; there = e.there; part = e.part })))

some-is : (t u : Term) → Some t ≡ Some u → t ≡ u
some-is t u e = cc

each-listed : (t : Term) (from path : List ℕ) → IsPart t path → IsListed (from ++ path) (places t from)
each-listed = term_induct
    (λ t. (from path : List ℕ) → IsPart t path → IsListed (from ++ path) (places t from))
    ListEach
    at-variable
    at-input
    at-application
    (λ k from number path e. none-there number e.term e.there)
    more-listed
  where
    none-there : {A : Type 0} (number : ℕ) (t : Term) → slice_get [] number ≡ Some t → A
    none-there number t e = absurd cc

    at-variable : (n : ℕ) (s : SortId) (from path : List ℕ) → IsPart (Var n s) path → IsListed (from ++ path) (places (Var n s) from)
    at-variable n s from [] h = absurd (true≢false (sym (is_variable-Var n s) ∙ (ap is_variable (some-is (Var n s) h.part h.stands) ∙ h.solid)))
    at-variable n s from (k ∷ path) h = no-argument (Var n s) (args_of-Var n s) k path h

    at-input : (j : ℕ) (from path : List ℕ) → IsPart (In j) path → IsListed (from ++ path) (places (In j) from)
    at-input j from [] h = subst (IsListed (from ++ [])) (sym (places-In j from)) (inl (sym (whole from)))
    at-input j from (k ∷ path) h = no-argument (In j) (args_of-In j) k path h

    at-application : (f : SymId) (args : List Term) → ListEach args → (from path : List ℕ) → IsPart (App f args) path → IsListed (from ++ path) (places (App f args) from)
    at-application f args h from [] e = subst (IsListed (from ++ [])) (sym (places-App f args from)) (inl (sym (whole from)))
    at-application f args h from (zero ∷ path) e = absurd (let g : None ≡ Some e.part = e.stands in cc)
    at-application f args h from (suc number ∷ path) e =
        let part : IsPartOf args number path = found-argument args number path e.part (sym (ap (λ ts. option_and_then (place path) (slice_get ts number)) (args_of-App f args)) ∙ e.stands) e.solid in
        let way : (from ++ (1 + number) ∷ path) ≡ from ++ suc number ∷ path = ap (λ i. from ++ i ∷ path) (omega arith) in
        subst (IsListed (from ++ suc number ∷ path)) (sym (places-App f args from)) (inr (subst (λ p. IsListed p (places_all 1 args from)) way (h 1 from number path part)))

listed-all : (ts : List Term) → ListEach ts
listed-all [] = λ k from number path e. absurd (let g : slice_get [] number ≡ Some e.term = e.there in cc)
listed-all (t ∷ ts) = more-listed t ts (each-listed t) (listed-all ts)

is-place : (a : Atom) (path : List ℕ) → IsListed path (places_of_atom a) → IsPlace a path
is-place a path h =
    let g : GoesOn (parts_of a) 1 [] path = ends-all (parts_of a) 1 [] path h in
    let way : path ≡ suc g.number ∷ g.path = g.is ∙ ap (λ i. i ∷ g.path) (omega arith) in
    subst (IsPlace a) (sym way) (record { part = g.part.part.part; stands = ap (option_and_then (place g.path)) g.part.there ∙ g.part.part.stands; solid = g.part.part.solid })

place-is : (a : Atom) (path : List ℕ) → IsPlace a path → IsListed path (places_of_atom a)
place-is a [] h = absurd (let g : None ≡ Some h.part = h.stands in cc)
place-is a (zero ∷ path) h = absurd (let g : None ≡ Some h.part = h.stands in cc)
place-is a (suc number ∷ path) h =
    let part : IsPartOf (parts_of a) number path = found-argument (parts_of a) number path h.part h.stands h.solid in
    let way : (1 + number) ∷ path ≡ suc number ∷ path = ap (λ i. i ∷ path) (omega arith) in
    subst (λ p. IsListed p (places_of_atom a)) way (listed-all (parts_of a) 1 [] number path part)

pub place-law : (a : Atom) (path : List ℕ) → (IsListed path (places_of_atom a) → IsPlace a path) × (IsPlace a path → IsListed path (places_of_atom a))
place-law a path = (is-place a path, place-is a path)
