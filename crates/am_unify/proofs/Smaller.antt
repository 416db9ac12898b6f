-- What is left after a step is smaller: fewer variables, or as many and fewer nodes.
use Rattle.std.proofs.Common.{◌≡◌, ◌∙◌, ◌+◌, ◌<◌, ◌≤◌, ◌++◌, inl, inr, ℕ, zero, suc, true, false, ap, arith, List, [], ◌∷◌}
use Rattle.std.specs.List.{zip, sum_by}
use Rattle.std.proofs.lemmas.List.Sums.{sum_by-cons, sum_by-append}
use Rattle.am_term.specs.declared.id.SymId.{SymId}
use Rattle.am_term.specs.declared.term.Term.{Term}
use Rattle.am_term.specs.declared.term.Term.TheVariants.{App}
use Rattle.am_term.specs.Induct.{term_induct}
use Rattle.am_term.specs.Weight.{nodes, nodes-Var, nodes-In, nodes-App}
use Rattle.am_unify.specs.Occurrence.{number_occurs, number_occurs-App, number_occurs_in, count_of_numbers}
use Rattle.am_unify.specs.Size.{size}
use Rattle.am_unify.specs.Substitution.{replace_in}
use Rattle.am_unify.proofs.Standing.{IsInside, number_occurs_in-append, number_occurs_in-zip, number_occurs_in-replace, replaced_gone, stands_left, stands_right, stands_later, count_of_numbers-le, count_of_numbers-less}

pub nodes-positive : (t : Term) → 0 < nodes t
nodes-positive = term_induct (λ t. 0 < nodes t) (λ ts. Unit {0})
    (λ n s. rw nodes-Var (omega arith))
    (λ k. rw nodes-In (omega arith))
    (λ f args h. rw nodes-App (omega arith))
    tt
    (λ t ts h k. tt)

pub size-cons : (t u : Term) (ps : List (Term × Term)) → size ((t, u) ∷ ps) ≡ nodes t + size ps
size-cons t u ps = sum_by-cons (λ p. nodes p.0) (t, u) ps

size-zip : (ts us : List Term) → size (zip ts us) ≤ sum_by nodes ts
size-zip [] us = omega arith
size-zip (t ∷ ts) [] = omega arith
size-zip (t ∷ ts) (u ∷ us) = let h = size-zip ts us in omega (arith, size-cons t u (zip ts us), sum_by-cons nodes t ts)

pub record IsShorter (qs ps : List (Term × Term)) : Type 0 where
  pub inside : IsInside qs ps
  pub size : size qs < size ps

pub record HasFewer (qs ps : List (Term × Term)) : Type 0 where
  pub inside : IsInside qs ps
  pub fewer : count_of_numbers qs < count_of_numbers ps

module _ (t u : Term) (ps : List (Term × Term)) where
  pub rest-shorter : IsShorter ps ((t, u) ∷ ps)
  rest-shorter = record {
    inside = record { inside = λ n e. stands_later n t u ps e };
    size = let h = nodes-positive t in omega (arith, size-cons t u ps);
  }

  pub arguments-shorter : (f g : SymId) (as_ bs : List Term) → t ≡ App f as_ → u ≡ App g bs → IsShorter (zip as_ bs ++ ps) ((t, u) ∷ ps)
  arguments-shorter f g as_ bs is are = record {
    inside = record {
      inside = λ n e. elim (number_occurs_in-append n (zip as_ bs) ps e) [
        | inl d ↦ elim (number_occurs_in-zip n as_ bs d) [
          | inl c ↦ stands_left n t u ps (ap (number_occurs n) is ∙ (number_occurs-App n f as_ ∙ c))
          | inr c ↦ stands_right n t u ps (ap (number_occurs n) are ∙ (number_occurs-App n g bs ∙ c))
        ]
        | inr d ↦ stands_later n t u ps d
      ];
    };
    size =
        let a = size-zip as_ bs in
        let b : nodes t ≡ sum_by nodes as_ + 1 = ap nodes is ∙ nodes-App f as_ in
        omega (arith, size-cons t u ps, sum_by-append (λ (p : Term × Term). nodes p.0) (zip as_ bs) ps);
  }

  pub bound-fewer : (n : ℕ) (v : Term) → number_occurs_in n ((t, u) ∷ ps) ≡ true → ((m : ℕ) → number_occurs m v ≡ true → number_occurs_in m ((t, u) ∷ ps) ≡ true) → number_occurs n v ≡ false → HasFewer (replace_in n v ps) ((t, u) ∷ ps)
  bound-fewer n v stands inner out =
      let within : IsInside (replace_in n v ps) ((t, u) ∷ ps) = record {
        inside = λ m e. elim (number_occurs_in-replace n v m ps e) [
          | inl b ↦ inner m b
          | inr b ↦ stands_later m t u ps b.1
        ];
      } in
      record {
        inside = within;
        fewer = count_of_numbers-less (replace_in n v ps) ((t, u) ∷ ps) n within stands (replaced_gone n v ps out);
      }

-- induction over pairs, from what is smaller
module _ (P : List (Term × Term) → Type 0)
    (none : P [])
    (more : (p : Term × Term) (ps : List (Term × Term)) → ((qs : List (Term × Term)) → IsShorter qs (p ∷ ps) → P qs) → ((qs : List (Term × Term)) → HasFewer qs (p ∷ ps) → P qs) → P (p ∷ ps)) where
  down_sizes : (n : ℕ) → ((qs : List (Term × Term)) → count_of_numbers qs < n → P qs) → (m : ℕ) (ps : List (Term × Term)) → count_of_numbers ps ≤ n → size ps < m → P ps
  down_sizes n fewer m [] h k = none
  down_sizes n fewer zero (p ∷ ps) h k = absurd (omega arith)
  down_sizes n fewer (suc m) (p ∷ ps) h k = more p ps
      (λ qs l. let a = count_of_numbers-le qs (p ∷ ps) l.inside in let b = l.size in down_sizes n fewer m qs (omega arith) (omega arith))
      (λ qs l. let b = l.fewer in fewer qs (omega arith))

  down_variables : (n : ℕ) (ps : List (Term × Term)) → count_of_numbers ps < n → P ps
  down_variables zero ps h = absurd (omega arith)
  down_variables (suc n) ps h = down_sizes n (down_variables n) (suc (size ps)) ps (omega arith) (omega arith)

  pub pairs_induct : (ps : List (Term × Term)) → P ps
  pairs_induct ps = down_variables (suc (count_of_numbers ps)) ps (omega arith)
