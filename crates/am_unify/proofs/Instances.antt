-- Laws of substitutions.
use Rattle.std.proofs.Common.{◌≡◌, ◌∙◌, ◌==◌, ◌+◌, ◌<◌, ◌≤◌, inl, inr, ℕ, Bool, true, false, true≢false, refl, sym, ap, subst, arith, List, [], ◌∷◌, nat_lt, if◌then◌else◌}
use Rattle.std.specs.List.{list_any, list_all, sum_by, AllByRecursion}
use Rattle.std.proofs.lemmas.Bool.Decides.{nat_tests}
use Rattle.std.proofs.lemmas.List.Sums.{sum_by-cons}
use Rattle.am_term.specs.declared.id.SortId.{SortId}
use Rattle.am_term.specs.declared.id.SymId.{SymId}
use Rattle.am_term.specs.declared.term.Term.{Term}
use Rattle.am_term.specs.declared.term.Term.TheVariants.{Var, App}
use Rattle.am_term.specs.Induct.{term_induct}
use Rattle.am_term.specs.Weight.{nodes, nodes-App}
use Rattle.am_term.proofs.Forest.{same_sort-is}
use Rattle.am_term.proofs.Tests.{or_cases, or_left, or_right, and_left, and_right, and_both}
use Rattle.am_unify.specs.Occurrence.{number_occurs, number_occurs-Var, number_occurs-In, number_occurs-App, has_given_sorts, has_given_sorts-Var, has_given_sorts-In, has_given_sorts-App}
use Rattle.am_unify.specs.Substitution.{Substitution, apply, applies, apply-Var, apply-In, apply-App, bound_to, listed, insert_binding, IsRising, replace}
use Rattle.am_unify.proofs.Standing.{number_same, number_is}

never : {A : Type 0} → false ≡ true → A
never e = absurd (true≢false (sym e))

-- one substitution after another
pub apply-compose : (θ σ : Substitution) (t : Term) → apply θ (apply σ t) ≡ apply (λ n s. apply θ (σ n s)) t
apply-compose θ σ = term_induct
    (λ t. apply θ (apply σ t) ≡ apply (λ n s. apply θ (σ n s)) t)
    (λ ts. applies θ (applies σ ts) ≡ applies (λ n s. apply θ (σ n s)) ts)
    (λ n s. ap (apply θ) (apply-Var σ n s) ∙ sym (apply-Var (λ n s. apply θ (σ n s)) n s))
    (λ k. ap (apply θ) (apply-In σ k) ∙ (apply-In θ k ∙ sym (apply-In (λ n s. apply θ (σ n s)) k)))
    (λ f args h. ap (apply θ) (apply-App σ f args) ∙ (apply-App θ f (applies σ args) ∙ (ap (App f) h ∙ sym (apply-App (λ n s. apply θ (σ n s)) f args))))
    refl
    (λ t ts h k. ap (λ x. x ∷ applies θ (applies σ ts)) h ∙ ap (λ xs. apply (λ n s. apply θ (σ n s)) t ∷ xs) k)

pub applies-compose : (θ σ : Substitution) (ts : List Term) → applies θ (applies σ ts) ≡ applies (λ n s. apply θ (σ n s)) ts
applies-compose θ σ [] = refl
applies-compose θ σ (t ∷ ts) = ap (λ x. x ∷ applies θ (applies σ ts)) (apply-compose θ σ t) ∙ ap (λ xs. apply (λ n s. apply θ (σ n s)) t ∷ xs) (applies-compose θ σ ts)

module _ (sorts : ℕ → SortId) where
  pub given_sort : (n : ℕ) (s : SortId) → has_given_sorts sorts (Var n s) ≡ true → s ≡ sorts n
  given_sort n s e = same_sort-is s (sorts n) (sym (has_given_sorts-Var sorts n s) ∙ e)

  -- terms depend on the variables that stand in them alone
  pub apply-agree : (θ τ : Substitution) (t : Term) → has_given_sorts sorts t ≡ true → ((n : ℕ) → number_occurs n t ≡ true → θ n (sorts n) ≡ τ n (sorts n)) → apply θ t ≡ apply τ t
  apply-agree θ τ = term_induct
      (λ t. has_given_sorts sorts t ≡ true → ((n : ℕ) → number_occurs n t ≡ true → θ n (sorts n) ≡ τ n (sorts n)) → apply θ t ≡ apply τ t)
      (λ ts. list_all (has_given_sorts sorts) ts ≡ true → ((n : ℕ) → list_any (number_occurs n) ts ≡ true → θ n (sorts n) ≡ τ n (sorts n)) → applies θ ts ≡ applies τ ts)
      (λ n s f h.
      let is : s ≡ sorts n = given_sort n s f in
      let same : θ n s ≡ τ n s = subst (λ r. θ n r ≡ τ n r) (sym is) (h n (number_occurs-Var n n s ∙ number_same n)) in
      apply-Var θ n s ∙ (same ∙ sym (apply-Var τ n s)))
      (λ k f h. apply-In θ k ∙ sym (apply-In τ k))
      (λ g args e f h. apply-App θ g args ∙ (ap (App g) (e (sym (has_given_sorts-App sorts g args) ∙ f) (λ n o. h n (number_occurs-App n g args ∙ o))) ∙ sym (apply-App τ g args)))
      (λ f h. refl)
      (λ t ts e d f h.
      ap (λ x. x ∷ applies θ ts) (e (and_left (has_given_sorts sorts t) (list_all (has_given_sorts sorts) ts) f) (λ n o. h n (or_left (number_occurs n t) (list_any (number_occurs n) ts) o)))
      ∙ ap (λ xs. apply τ t ∷ xs) (d (and_right (has_given_sorts sorts t) (list_all (has_given_sorts sorts) ts) f) (λ n o. h n (or_right (number_occurs n t) (list_any (number_occurs n) ts) o))))

  -- the variables stay of their sorts
  pub has_given_sorts-apply : (σ : Substitution) → ((n : ℕ) → has_given_sorts sorts (σ n (sorts n)) ≡ true) → (t : Term) → has_given_sorts sorts t ≡ true → has_given_sorts sorts (apply σ t) ≡ true
  has_given_sorts-apply σ h = term_induct
      (λ t. has_given_sorts sorts t ≡ true → has_given_sorts sorts (apply σ t) ≡ true)
      (λ ts. list_all (has_given_sorts sorts) ts ≡ true → list_all (has_given_sorts sorts) (applies σ ts) ≡ true)
      (λ n s f. ap (has_given_sorts sorts) (apply-Var σ n s) ∙ subst (λ r. has_given_sorts sorts (σ n r) ≡ true) (sym (given_sort n s f)) (h n))
      (λ k f. ap (has_given_sorts sorts) (apply-In σ k) ∙ has_given_sorts-In sorts k)
      (λ g args e f. ap (has_given_sorts sorts) (apply-App σ g args) ∙ (has_given_sorts-App sorts g (applies σ args) ∙ e (sym (has_given_sorts-App sorts g args) ∙ f)))
      (λ f. refl)
      (λ t ts e d f. and_both (has_given_sorts sorts (apply σ t)) (list_all (has_given_sorts sorts) (applies σ ts))
      (e (and_left (has_given_sorts sorts t) (list_all (has_given_sorts sorts) ts) f))
      (d (and_right (has_given_sorts sorts t) (list_all (has_given_sorts sorts) ts) f)))

  -- what stands in an instance stands in the term of a variable
  pub record Source (σ : Substitution) (m : ℕ) (test : ℕ → Bool) : Type 0 where
    pub from : ℕ
    pub stands : test from ≡ true
    pub brings : number_occurs m (σ from (sorts from)) ≡ true

  source_more : (σ : Substitution) (m : ℕ) (f g : ℕ → Bool) → ((n : ℕ) → f n ≡ true → g n ≡ true) → Source σ m f → Source σ m g
  source_more σ m f g h s = record { from = s.from; stands = h s.from s.stands; brings = s.brings }

  pub number_occurs-apply : (σ : Substitution) (m : ℕ) (t : Term) → has_given_sorts sorts t ≡ true → number_occurs m (apply σ t) ≡ true → Source σ m (λ n. number_occurs n t)
  number_occurs-apply σ m = term_induct
      (λ t. has_given_sorts sorts t ≡ true → number_occurs m (apply σ t) ≡ true → Source σ m (λ n. number_occurs n t))
      (λ ts. list_all (has_given_sorts sorts) ts ≡ true → list_any (number_occurs m) (applies σ ts) ≡ true → Source σ m (λ n. list_any (number_occurs n) ts))
      (λ n s f e. record {
        from = n;
        stands = number_occurs-Var n n s ∙ number_same n;
        brings = subst (λ r. number_occurs m (σ n r) ≡ true) (given_sort n s f) (sym (ap (number_occurs m) (apply-Var σ n s)) ∙ e);
      })
      (λ k f e. never (sym (number_occurs-In m k) ∙ (sym (ap (number_occurs m) (apply-In σ k)) ∙ e)))
      (λ g args h f e. source_more σ m (λ n. list_any (number_occurs n) args) (λ n. number_occurs n (App g args)) (λ n o. number_occurs-App n g args ∙ o)
      (h (sym (has_given_sorts-App sorts g args) ∙ f) (sym (number_occurs-App m g (applies σ args)) ∙ (sym (ap (number_occurs m) (apply-App σ g args)) ∙ e))))
      (λ f e. never e)
      (λ t ts h k f e. elim (or_cases (number_occurs m (apply σ t)) (list_any (number_occurs m) (applies σ ts)) e) [
        | inl d ↦ source_more σ m (λ n. number_occurs n t) (λ n. list_any (number_occurs n) (t ∷ ts)) (λ n o. or_left (number_occurs n t) (list_any (number_occurs n) ts) o)
            (h (and_left (has_given_sorts sorts t) (list_all (has_given_sorts sorts) ts) f) d)
        | inr d ↦ source_more σ m (λ n. list_any (number_occurs n) ts) (λ n. list_any (number_occurs n) (t ∷ ts)) (λ n o. or_right (number_occurs n t) (list_any (number_occurs n) ts) o)
            (k (and_right (has_given_sorts sorts t) (list_all (has_given_sorts sorts) ts) f) d)
      ])

  -- a variable's term has no more nodes than what the variable stands in
  pub nodes-occurs : (θ : Substitution) (n : ℕ) (t : Term) → has_given_sorts sorts t ≡ true → number_occurs n t ≡ true → nodes (θ n (sorts n)) ≤ nodes (apply θ t)
  nodes-occurs θ n = term_induct
      (λ t. has_given_sorts sorts t ≡ true → number_occurs n t ≡ true → nodes (θ n (sorts n)) ≤ nodes (apply θ t))
      (λ ts. list_all (has_given_sorts sorts) ts ≡ true → list_any (number_occurs n) ts ≡ true → nodes (θ n (sorts n)) ≤ sum_by nodes (applies θ ts))
      (λ m s f e.
      let is : n ≡ m = number_is n m (sym (number_occurs-Var n m s) ∙ e) in
      let of : s ≡ sorts m = given_sort m s f in
      let same : nodes (apply θ (Var m s)) ≡ nodes (θ n (sorts n)) = ap nodes (apply-Var θ m s) ∙ (ap (λ r. nodes (θ m r)) of ∙ ap (λ x. nodes (θ x (sorts x))) (sym is)) in
      omega arith)
      (λ k f e. never (sym (number_occurs-In n k) ∙ e))
      (λ g args h f e.
      let l = h (sym (has_given_sorts-App sorts g args) ∙ f) (sym (number_occurs-App n g args) ∙ e) in
      let c : nodes (apply θ (App g args)) ≡ sum_by nodes (applies θ args) + 1 = ap nodes (apply-App θ g args) ∙ nodes-App g (applies θ args) in
      omega arith)
      (λ f e. never e)
      (λ t ts h k f e. elim (or_cases (number_occurs n t) (list_any (number_occurs n) ts) e) [
        | inl d ↦ let l = h (and_left (has_given_sorts sorts t) (list_all (has_given_sorts sorts) ts) f) d in omega (arith, sum_by-cons nodes (apply θ t) (applies θ ts))
        | inr d ↦ let l = k (and_right (has_given_sorts sorts t) (list_all (has_given_sorts sorts) ts) f) d in omega (arith, sum_by-cons nodes (apply θ t) (applies θ ts))
      ])

  args-occurs : (θ : Substitution) (n : ℕ) (ts : List Term) → list_all (has_given_sorts sorts) ts ≡ true → list_any (number_occurs n) ts ≡ true → nodes (θ n (sorts n)) ≤ sum_by nodes (applies θ ts)
  args-occurs θ n [] f e = never e
  args-occurs θ n (t ∷ ts) f e = elim (or_cases (number_occurs n t) (list_any (number_occurs n) ts) e) [
    | inl d ↦ let l = nodes-occurs θ n t (and_left (has_given_sorts sorts t) (list_all (has_given_sorts sorts) ts) f) d in omega (arith, sum_by-cons nodes (apply θ t) (applies θ ts))
    | inr d ↦ let l = args-occurs θ n ts (and_right (has_given_sorts sorts t) (list_all (has_given_sorts sorts) ts) f) d in omega (arith, sum_by-cons nodes (apply θ t) (applies θ ts))
  ]

  -- no substitution makes a variable equal to an application in which it stands
  pub number_occurs-clash : (θ : Substitution) (n : ℕ) (g : SymId) (args : List Term) → has_given_sorts sorts (App g args) ≡ true → number_occurs n (App g args) ≡ true → θ n (sorts n) ≡ apply θ (App g args) → ⊥
  number_occurs-clash θ n g args f e is =
      let l = args-occurs θ n args (sym (has_given_sorts-App sorts g args) ∙ f) (sym (number_occurs-App n g args) ∙ e) in
      let c : nodes (θ n (sorts n)) ≡ sum_by nodes (applies θ args) + 1 = ap nodes (is ∙ apply-App θ g args) ∙ nodes-App g (applies θ args) in
      omega arith

  -- a substitution that makes a variable and a term equal doesn't see the one replaced by the other
  pub replace-solved : (θ : Substitution) (n : ℕ) (t : Term) → θ n (sorts n) ≡ apply θ t → (u : Term) → has_given_sorts sorts u ≡ true → apply θ (replace n t u) ≡ apply θ u
  unfolding replace
  replace-solved θ n t is u f = apply-compose θ (listed ((n, t) ∷ [])) u ∙ apply-agree (λ m s. apply θ (listed ((n, t) ∷ []) m s)) θ u f (λ m o. by_test m (n == m) refl)
    where
      by_test : (m : ℕ) (b : Bool) → (n == m) ≡ b → apply θ (if b then t else Var m (sorts m)) ≡ θ m (sorts m)
      by_test m true e = sym is ∙ ap (λ x. θ x (sorts x)) (number_is n m e)
      by_test m false e = apply-Var θ m (sorts m)

-- lists of bindings

pub bound-insert : (n : ℕ) (t : Term) (bs : List (ℕ × Term)) (m : ℕ) (d : Term) → bound_to (insert_binding n t bs) m d ≡ (if n == m then t else bound_to bs m d)
bound-insert n t [] m d = refl
bound-insert n t (b ∷ bs) m d = by_test (bound-insert n t bs m d) (nat_lt b.0 n) (b.0 == m) (n == m) refl refl refl
  where
    by_test : bound_to (insert_binding n t bs) m d ≡ (if n == m then t else bound_to bs m d) → (l e f : Bool) → nat_lt b.0 n ≡ l → (b.0 == m) ≡ e → (n == m) ≡ f → bound_to (if l then b ∷ insert_binding n t bs else (n, t) ∷ b ∷ bs) m d ≡ (if f then t else (if e then b.1 else bound_to bs m d))
    by_test h true true true l e f = absurd (grind (arith, nat_tests))
    by_test h true true false l e f = rw e refl
    by_test h true false true l e f = rw e (h ∙ rw f refl)
    by_test h true false false l e f = rw e (h ∙ rw f refl)
    by_test h false e f l d g = rw (g, d) refl

pub all-insert : (P : ℕ × Term → Type 0) (n : ℕ) (t : Term) (bs : List (ℕ × Term)) → P (n, t) → AllByRecursion P bs → AllByRecursion P (insert_binding n t bs)
all-insert P n t [] h k = (h, tt)
all-insert P n t (b ∷ bs) h k = by_test (all-insert P n t bs h k.1) (nat_lt b.0 n)
  where
    by_test : AllByRecursion P (insert_binding n t bs) → (l : Bool) → AllByRecursion P (if l then b ∷ insert_binding n t bs else (n, t) ∷ b ∷ bs)
    by_test d true = (k.0, d)
    by_test d false = (h, k)

all-below : (n : ℕ) (b : ℕ) (bs : List (ℕ × Term)) → n < b → AllByRecursion (λ (c : ℕ × Term). b < c.0) bs → AllByRecursion (λ (c : ℕ × Term). n < c.0) bs
all-below n b [] l h = tt
all-below n b (c ∷ bs) l h = (let a : b < c.0 = h.0 in omega arith, all-below n b bs l h.1)

pub rising-insert : (n : ℕ) (t : Term) (bs : List (ℕ × Term)) → AllByRecursion (λ (c : ℕ × Term). (n == c.0) ≡ false) bs → IsRising bs → IsRising (insert_binding n t bs)
rising-insert n t [] h k = (tt, tt)
rising-insert n t (b ∷ bs) h k = by_test (rising-insert n t bs h.1 k.1) (nat_lt b.0 n) refl
  where
    by_test : IsRising (insert_binding n t bs) → (l : Bool) → nat_lt b.0 n ≡ l → IsRising (if l then b ∷ insert_binding n t bs else (n, t) ∷ b ∷ bs)
    by_test d true l = (all-insert (λ (c : ℕ × Term). b.0 < c.0) n t bs (grind (arith, nat_tests)) k.0, d)
    by_test d false l =
        let other : (n == b.0) ≡ false = h.0 in
        let less : n < b.0 = grind (arith, nat_tests) in
        ((less, all-below n b.0 bs less k.0), k)
