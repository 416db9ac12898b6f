-- Which variables stand in terms and pairs.
use Rattle.std.proofs.Common.{◌≡◌, ◌∙◌, ◌==◌, ◌||◌, ◌<◌, ◌≤◌, ◌++◌, ◌⊎◌, inl, inr, ℕ, Bool, true, false, true≢false, refl, sym, ap, subst, arith, List, [], ◌∷◌, map, if◌then◌else◌}
use Rattle.std.specs.List.{list_any, zip}
use Rattle.std.proofs.lemmas.Bool.Decides.{nat_tests}
use Rattle.std.proofs.lemmas.List.Folds.{list_any-append}
use Rattle.am_term.specs.declared.id.SortId.{SortId}
use Rattle.am_term.specs.declared.id.SymId.{SymId}
use Rattle.am_term.specs.declared.term.Term.{Term}
use Rattle.am_term.specs.declared.term.Term.TheVariants.{Var, In, App}
use Rattle.am_term.specs.Induct.{term_induct}
use Rattle.am_term.specs.Span.{span, spans, spans-more, span-Var, span-App}
use Rattle.am_term.proofs.Tests.{or_cases, or_left, or_right, fails}
use Rattle.am_unify.specs.Occurrence.{number_occurs, number_occurs-Var, number_occurs-In, number_occurs-App, number_occurs_in, span_of, count_of_numbers}
use Rattle.am_unify.specs.Substitution.{apply-Var, apply-In, apply-App, listed, replace, replace_in}
use Rattle.am_unify.proofs.Counting.{count-within, count-le, count-less}

pub number_same : (n : ℕ) → (n == n) ≡ true
number_same n = grind (arith, nat_tests)

pub number_is : (n m : ℕ) → (n == m) ≡ true → n ≡ m
number_is n m e = grind (arith, nat_tests)

never : {A : Type 0} → false ≡ true → A
never e = absurd (true≢false (sym e))

-- a term's variables are numbered below its span

pub number_occurs-span : (n : ℕ) (t : Term) → number_occurs n t ≡ true → n < span t
number_occurs-span n = term_induct
    (λ t. number_occurs n t ≡ true → n < span t)
    (λ ts. list_any (number_occurs n) ts ≡ true → n < spans ts)
    (λ m s e. let is = number_is n m (sym (number_occurs-Var n m s) ∙ e) in rw span-Var (omega arith))
    (λ k e. never (sym (number_occurs-In n k) ∙ e))
    (λ f args h e. rw span-App (h (sym (number_occurs-App n f args) ∙ e)))
    (λ e. never e)
    (λ t ts h k e. rw spans-more (elim (or_cases (number_occurs n t) (list_any (number_occurs n) ts) e) [
      | inl d ↦ let l = h d in omega arith
      | inr d ↦ let l = k d in omega arith
    ]))

pub number_occurs_in-span : (n : ℕ) (ps : List (Term × Term)) → number_occurs_in n ps ≡ true → n < span_of ps
number_occurs_in-span n [] e = never e
number_occurs_in-span n (p ∷ ps) e = elim (or_cases (number_occurs n p.0 || number_occurs n p.1) (number_occurs_in n ps) e) [
  | inl d ↦ elim (or_cases (number_occurs n p.0) (number_occurs n p.1) d) [
    | inl c ↦ let l = number_occurs-span n p.0 c in omega arith
    | inr c ↦ let l = number_occurs-span n p.1 c in omega arith
  ]
  | inr d ↦ let l = number_occurs_in-span n ps d in omega arith
]

-- places where a variable stands in pairs

pub stands_left : (n : ℕ) (t u : Term) (ps : List (Term × Term)) → number_occurs n t ≡ true → number_occurs_in n ((t, u) ∷ ps) ≡ true
stands_left n t u ps e = or_left (number_occurs n t || number_occurs n u) (number_occurs_in n ps) (or_left (number_occurs n t) (number_occurs n u) e)

pub stands_right : (n : ℕ) (t u : Term) (ps : List (Term × Term)) → number_occurs n u ≡ true → number_occurs_in n ((t, u) ∷ ps) ≡ true
stands_right n t u ps e = or_left (number_occurs n t || number_occurs n u) (number_occurs_in n ps) (or_right (number_occurs n t) (number_occurs n u) e)

pub stands_later : (n : ℕ) (t u : Term) (ps : List (Term × Term)) → number_occurs_in n ps ≡ true → number_occurs_in n ((t, u) ∷ ps) ≡ true
stands_later n t u ps e = or_right (number_occurs n t || number_occurs n u) (number_occurs_in n ps) e

pub number_occurs_in-append : (n : ℕ) (ps qs : List (Term × Term)) → number_occurs_in n (ps ++ qs) ≡ true → (number_occurs_in n ps ≡ true) ⊎ (number_occurs_in n qs ≡ true)
number_occurs_in-append n ps qs e = or_cases (number_occurs_in n ps) (number_occurs_in n qs) (sym (list_any-append (λ p. number_occurs n p.0 || number_occurs n p.1) ps qs) ∙ e)

pub number_occurs_in-zip : (n : ℕ) (ts us : List Term) → number_occurs_in n (zip ts us) ≡ true → (list_any (number_occurs n) ts ≡ true) ⊎ (list_any (number_occurs n) us ≡ true)
number_occurs_in-zip n [] us e = never e
number_occurs_in-zip n (t ∷ ts) [] e = never e
number_occurs_in-zip n (t ∷ ts) (u ∷ us) e = elim (or_cases (number_occurs n t || number_occurs n u) (number_occurs_in n (zip ts us)) e) [
  | inl d ↦ elim (or_cases (number_occurs n t) (number_occurs n u) d) [
    | inl c ↦ inl (or_left (number_occurs n t) (list_any (number_occurs n) ts) c)
    | inr c ↦ inr (or_left (number_occurs n u) (list_any (number_occurs n) us) c)
  ]
  | inr d ↦ elim (number_occurs_in-zip n ts us d) [
    | inl c ↦ inl (or_right (number_occurs n t) (list_any (number_occurs n) ts) c)
    | inr c ↦ inr (or_right (number_occurs n u) (list_any (number_occurs n) us) c)
  ]
]

-- what stands after a replacement

module _ (n : ℕ) (t : Term) where
  pub replace-Var : (m : ℕ) (s : SortId) → replace n t (Var m s) ≡ (if n == m then t else Var m s)
  unfolding replace
  replace-Var m s = apply-Var (listed ((n, t) ∷ [])) m s

  pub replace-In : (k : ℕ) → replace n t (In k) ≡ In k
  unfolding replace
  replace-In k = apply-In (listed ((n, t) ∷ [])) k

  pub replace-App : (f : SymId) (args : List Term) → replace n t (App f args) ≡ App f (map (replace n t) args)
  unfolding replace
  replace-App f args = apply-App (listed ((n, t) ∷ [])) f args

  -- it stands in t, or is another variable than n and stood there before
  abbrev pub Came : ℕ → Bool → Type 0
  Came m before = (number_occurs m t ≡ true) ⊎ (((n == m) ≡ false) × (before ≡ true))

  var_came : (m k : ℕ) (s : SortId) (b : Bool) → (n == k) ≡ b → number_occurs m (if b then t else Var k s) ≡ true → Came m (number_occurs m (Var k s))
  var_came m k s true is e = inl e
  var_came m k s false is e =
      let same : m ≡ k = number_is m k (sym (number_occurs-Var m k s) ∙ e) in
      inr (subst (λ x. (n == x) ≡ false) (sym same) is, e)

  pub number_occurs-replace : (m : ℕ) (u : Term) → number_occurs m (replace n t u) ≡ true → Came m (number_occurs m u)
  number_occurs-replace m = term_induct
      (λ u. number_occurs m (replace n t u) ≡ true → Came m (number_occurs m u))
      (λ us. list_any (number_occurs m) (map (replace n t) us) ≡ true → Came m (list_any (number_occurs m) us))
      (λ k s e. var_came m k s (n == k) refl (sym (ap (number_occurs m) (replace-Var k s)) ∙ e))
      (λ k e. never (sym (number_occurs-In m k) ∙ (sym (ap (number_occurs m) (replace-In k)) ∙ e)))
      (λ f args h e. rw number_occurs-App (h (sym (number_occurs-App m f (map (replace n t) args)) ∙ (sym (ap (number_occurs m) (replace-App f args)) ∙ e))))
      (λ e. never e)
      (λ u us h k e. elim (or_cases (number_occurs m (replace n t u)) (list_any (number_occurs m) (map (replace n t) us)) e) [
        | inl d ↦ elim (h d) [
          | inl c ↦ inl c
          | inr c ↦ inr (c.0, or_left (number_occurs m u) (list_any (number_occurs m) us) c.1)
        ]
        | inr d ↦ elim (k d) [
          | inl c ↦ inl c
          | inr c ↦ inr (c.0, or_right (number_occurs m u) (list_any (number_occurs m) us) c.1)
        ]
      ])

  pub number_occurs_in-replace : (m : ℕ) (ps : List (Term × Term)) → number_occurs_in m (replace_in n t ps) ≡ true → Came m (number_occurs_in m ps)
  number_occurs_in-replace m [] e = never e
  number_occurs_in-replace m (p ∷ ps) e = elim (or_cases (number_occurs m (replace n t p.0) || number_occurs m (replace n t p.1)) (number_occurs_in m (replace_in n t ps)) e) [
    | inl d ↦ elim (or_cases (number_occurs m (replace n t p.0)) (number_occurs m (replace n t p.1)) d) [
      | inl c ↦ elim (number_occurs-replace m p.0 c) [
        | inl b ↦ inl b
        | inr b ↦ inr (b.0, stands_left m p.0 p.1 ps b.1)
      ]
      | inr c ↦ elim (number_occurs-replace m p.1 c) [
        | inl b ↦ inl b
        | inr b ↦ inr (b.0, stands_right m p.0 p.1 ps b.1)
      ]
    ]
    | inr d ↦ elim (number_occurs_in-replace m ps d) [
      | inl b ↦ inl b
      | inr b ↦ inr (b.0, stands_later m p.0 p.1 ps b.1)
    ]
  ]

  -- what is replaced is gone
  pub replaced_gone : (ps : List (Term × Term)) → number_occurs n t ≡ false → number_occurs_in n (replace_in n t ps) ≡ false
  replaced_gone ps h = fails (number_occurs_in n (replace_in n t ps)) (λ e. elim (number_occurs_in-replace n ps e) [
    | inl b ↦ true≢false (sym b ∙ h)
    | inr b ↦ true≢false (sym (number_same n) ∙ b.0)
  ])

-- the variables of some pairs stand in others
pub record IsInside (qs ps : List (Term × Term)) : Type 0 where
  pub inside : (n : ℕ) → number_occurs_in n qs ≡ true → number_occurs_in n ps ≡ true

pub count_of_numbers-le : (qs ps : List (Term × Term)) → IsInside qs ps → count_of_numbers qs ≤ count_of_numbers ps
unfolding count_of_numbers
count_of_numbers-le qs ps h =
    let a = count-within (λ n. number_occurs_in n qs) (span_of ps) (λ k e. number_occurs_in-span k ps (h.inside k e)) (span_of qs) in
    let b = count-le (λ n. number_occurs_in n qs) (λ n. number_occurs_in n ps) h.inside (span_of ps) in
    omega arith

pub count_of_numbers-less : (qs ps : List (Term × Term)) (n : ℕ) → IsInside qs ps → number_occurs_in n ps ≡ true → number_occurs_in n qs ≡ false → count_of_numbers qs < count_of_numbers ps
unfolding count_of_numbers
count_of_numbers-less qs ps n h e d =
    let a = count-within (λ n. number_occurs_in n qs) (span_of ps) (λ k e. number_occurs_in-span k ps (h.inside k e)) (span_of qs) in
    let b = count-less (λ n. number_occurs_in n qs) (λ n. number_occurs_in n ps) h.inside (span_of ps) n (number_occurs_in-span n ps e) d e in
    omega arith
