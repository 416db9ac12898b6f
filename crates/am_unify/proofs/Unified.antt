-- The code's steps are those of the recursion.
use Rattle.std.proofs.Common.{◌≡◌, ◌∙◌, ◌==◌, ◌&&◌, ◌<◌, ◌≤◌, ◌++◌, ℕ, Bool, true, false, refl, sym, ap, subst, arith, Option, Some, None, List, [], ◌∷◌, length, slice_get, if◌then◌else◌}
use Rattle.std.specs.List.{zip, remove}
use Rattle.std.proofs.lemmas.Grind.{common_steps}
use Rattle.am_term.specs.declared.id.SortId.{SortId}
use Rattle.am_term.specs.declared.id.SymId.{SymId}
use Rattle.am_term.specs.declared.signature.Signature.{Signature}
use Rattle.am_term.specs.declared.term.Term.{Term}
use Rattle.am_term.specs.declared.term.Term.TheOpen.{Term-F}
use Rattle.am_term.specs.declared.term.Term.TheViews.{out-Term}
use Rattle.am_term.specs.declared.term.Term.TheVariants.{Var, App}
use Rattle.am_term.specs.Same.{same_term}
use Rattle.am_term.specs.Sorts.{fits}
use Rattle.am_term.specs.Sorting.{sort_of, fits_place}
use Rattle.am_unify.specs.declared.opening.Opened.{Opened}
use Rattle.am_unify.specs.declared.opening.Opened.TheVariants.{More, Bind, Clash}
use Rattle.am_unify.specs.Mgu.{bind, bind_term, bind_variable, decompose, open_pair, mgu}
use Rattle.am_unify.specs.Occurrence.{number_occurs, number_occurs_in, count_of_numbers}
use Rattle.am_unify.specs.Opening.{open_bind, open_term, open_variables, open_heads, opened, IsNext}
use Rattle.am_unify.specs.Size.{size}
use Rattle.am_unify.specs.Substitution.{after_binding, replace_in}
use Rattle.am_unify.proofs.Standing.{stands_left, stands_right, count_of_numbers-le}
use Rattle.am_unify.proofs.Smaller.{IsShorter, HasFewer, rest-shorter, arguments-shorter, bound-fewer}
use Rattle.am_unify.proofs.Steps.{is_var, is_app, var_stands, mgu-none, mgu-more}
use Rattle.am_unify.proofs.Solved.{mgu-solved}
use Rattle.am_unify.proofs.Walks.{removed_first}

module _ (sig : Signature) (ins : List SortId) where
  -- what a pair asks for is what the recursion does with it
  abbrev Agrees : List (Term × Term) → List (Term × Term) → Option (List (ℕ × Term)) → Opened → Type 0
  Agrees all ps answer (More qs) = (answer ≡ mgu sig ins (qs ++ ps)) × IsShorter (qs ++ ps) all
  Agrees all ps answer (Bind n v) = (answer ≡ after_binding n v (mgu sig ins (replace_in n v ps))) × HasFewer (replace_in n v ps) all
  Agrees all ps answer Clash = answer ≡ None

  module _ (t u : Term) (ps : List (Term × Term)) where
    bind-agrees : (n : ℕ) (v : Term) → number_occurs_in n ((t, u) ∷ ps) ≡ true → ((m : ℕ) → number_occurs m v ≡ true → number_occurs_in m ((t, u) ∷ ps) ≡ true) → Agrees ((t, u) ∷ ps) ps (bind sig ins (mgu sig ins) (mgu sig ins) n v ps) (open_bind n v)
    bind-agrees n v stands inner = by_test (number_occurs n v) refl
      where
        by_test : (b : Bool) → number_occurs n v ≡ b → Agrees ((t, u) ∷ ps) ps (if b then None else after_binding n v (mgu sig ins (replace_in n v ps))) (if b then Clash else Bind n v)
        by_test true e = refl
        by_test false e = (refl, bound-fewer t u ps n v stands inner e)

    left-agrees : (n : ℕ) (s : SortId) → t ≡ Var n s → Agrees ((t, u) ∷ ps) ps (bind sig ins (mgu sig ins) (mgu sig ins) n u ps) (open_bind n u)
    left-agrees n s is = bind-agrees n u (stands_left n t u ps (var_stands n t s is)) (λ m e. stands_right m t u ps e)

    right-agrees : (n : ℕ) (s : SortId) → u ≡ Var n s → Agrees ((t, u) ∷ ps) ps (bind sig ins (mgu sig ins) (mgu sig ins) n t ps) (open_bind n t)
    right-agrees n s is = bind-agrees n t (stands_right n t u ps (var_stands n u s is)) (λ m e. stands_left m t u ps e)

    term-agrees : (n : ℕ) (s : SortId) (v : Term) → Agrees ((t, u) ∷ ps) ps (bind sig ins (mgu sig ins) (mgu sig ins) n v ps) (open_bind n v) → Agrees ((t, u) ∷ ps) ps (bind_term sig ins (mgu sig ins) (mgu sig ins) n s v ps) (open_term sig ins n s v)
    term-agrees n s v h = by_test (fits_place sig (sort_of sig ins v) s)
      where
        by_test : (b : Bool) → Agrees ((t, u) ∷ ps) ps (if b then bind sig ins (mgu sig ins) (mgu sig ins) n v ps else None) (if b then open_bind n v else Clash)
        by_test true = h
        by_test false = refl

    variables-agree : (n m : ℕ) (s r : SortId) → t ≡ Var n s → u ≡ Var m r → Agrees ((t, u) ∷ ps) ps (bind_variable sig ins (mgu sig ins) (mgu sig ins) n s m r ps) (open_variables sig ins n s m r)
    variables-agree n m s r is are = by_test (fits sig r s) (fits sig s r)
      where
        one : Agrees ((t, u) ∷ ps) ps (bind sig ins (mgu sig ins) (mgu sig ins) n (Var m r) ps) (open_bind n (Var m r))
        one = subst (λ x. Agrees ((t, u) ∷ ps) ps (bind sig ins (mgu sig ins) (mgu sig ins) n x ps) (open_bind n x)) are (left-agrees n s is)

        two : Agrees ((t, u) ∷ ps) ps (bind sig ins (mgu sig ins) (mgu sig ins) m (Var n s) ps) (open_bind m (Var n s))
        two = subst (λ x. Agrees ((t, u) ∷ ps) ps (bind sig ins (mgu sig ins) (mgu sig ins) m x ps) (open_bind m x)) is (right-agrees m r are)

        by_test : (a b : Bool) → Agrees ((t, u) ∷ ps) ps (if a then bind sig ins (mgu sig ins) (mgu sig ins) n (Var m r) ps else if b then bind sig ins (mgu sig ins) (mgu sig ins) m (Var n s) ps else None) (if a then open_bind n (Var m r) else if b then open_bind m (Var n s) else Clash)
        by_test true b = one
        by_test false true = two
        by_test false false = refl

    applications-agree : (f g : SymId) (as_ bs : List Term) → t ≡ App f as_ → u ≡ App g bs → Agrees ((t, u) ∷ ps) ps (decompose sig ins (mgu sig ins) (mgu sig ins) f as_ g bs ps) (if f.0 == g.0 && length as_ == length bs then More (zip as_ bs) else Clash)
    applications-agree f g as_ bs is are = by_test (f.0 == g.0 && length as_ == length bs)
      where
        by_test : (b : Bool) → Agrees ((t, u) ∷ ps) ps (if b then mgu sig ins (zip as_ bs ++ ps) else None) (if b then More (zip as_ bs) else Clash)
        by_test true = (refl, arguments-shorter t u ps f g as_ bs is are)
        by_test false = refl

    heads-agree : (x y : Term-F Term) → out-Term t ≡ x → out-Term u ≡ y → Agrees ((t, u) ∷ ps) ps (open_pair sig ins (mgu sig ins) (mgu sig ins) t u x y ps) (open_heads sig ins t u x y)
    heads-agree (Term-F.Var n s) (Term-F.Var m r) is are = variables-agree n m s r (is_var t n s is) (is_var u m r are)
    heads-agree (Term-F.Var n s) (Term-F.In j) is are = term-agrees n s u (left-agrees n s (is_var t n s is))
    heads-agree (Term-F.Var n s) (Term-F.App g bs) is are = term-agrees n s u (left-agrees n s (is_var t n s is))
    heads-agree (Term-F.In k) (Term-F.Var m r) is are = term-agrees m r t (right-agrees m r (is_var u m r are))
    heads-agree (Term-F.In k) (Term-F.In j) is are = refl
    heads-agree (Term-F.In k) (Term-F.App g bs) is are = refl
    heads-agree (Term-F.App f as_) (Term-F.Var m r) is are = term-agrees m r t (right-agrees m r (is_var u m r are))
    heads-agree (Term-F.App f as_) (Term-F.In j) is are = refl
    heads-agree (Term-F.App f as_) (Term-F.App g bs) is are = applications-agree f g as_ bs (is_app t f as_ is) (is_app u g bs are)

    opened-agrees : Agrees ((t, u) ∷ ps) ps (mgu sig ins ((t, u) ∷ ps)) (opened sig ins t u)
    unfolding opened
    opened-agrees = subst (λ x. Agrees ((t, u) ∷ ps) ps x (opened sig ins t u)) (sym (mgu-more sig ins (t, u) ps)) (by_test (same_term t u) refl)
      where
        by_test : (b : Bool) → same_term t u ≡ b → Agrees ((t, u) ∷ ps) ps (if b then mgu sig ins ps else open_pair sig ins (mgu sig ins) (mgu sig ins) t u (out-Term t) (out-Term u) ps) (if b then More [] else open_heads sig ins t u (out-Term t) (out-Term u))
        by_test true e = (refl, rest-shorter t u ps)
        by_test false e = heads-agree (out-Term t) (out-Term u) refl refl

-- what is left has the same answer, and no more variables
pub record IsLeft (sig : Signature) (ins : List SortId) (first todo : List (Term × Term)) : Type 0 where
  pub same : mgu sig ins first ≡ mgu sig ins todo
  pub variables : count_of_numbers todo ≤ count_of_numbers first

module _ (sig : Signature) (ins : List SortId) (first old ps : List (Term × Term)) (p : Term × Term) (left : IsLeft sig ins first old) (item : slice_get old 0 ≡ Some p) (rest : ps ≡ remove old 0) where
  agrees_at : (o : Opened) → opened sig ins p.0 p.1 ≡ o → Agrees sig ins (p ∷ ps) ps (mgu sig ins (p ∷ ps)) o
  agrees_at o e = subst (Agrees sig ins (p ∷ ps) ps (mgu sig ins (p ∷ ps))) e (opened-agrees sig ins p.0 p.1 ps)

  begins : old ≡ p ∷ ps
  begins = removed_first old ps p item rest

  answer : mgu sig ins first ≡ mgu sig ins (p ∷ ps)
  answer = left.same ∙ ap (mgu sig ins) begins

  pub left-more : (qs new : List (Term × Term)) → opened sig ins p.0 p.1 ≡ More qs → new ≡ qs ++ ps → IsLeft sig ins first new
  left-more qs new e is =
      let h = agrees_at (More qs) e in
      let few : count_of_numbers (qs ++ ps) ≤ count_of_numbers (p ∷ ps) = count_of_numbers-le (qs ++ ps) (p ∷ ps) h.1.inside in
      let was : count_of_numbers (p ∷ ps) ≡ count_of_numbers old = ap count_of_numbers (sym begins) in
      let before = left.variables in
      let l : IsLeft sig ins first (qs ++ ps) = record { same = answer ∙ h.0; variables = omega arith } in
      subst (IsLeft sig ins first) (sym is) l

  pub shorter-more : (qs new : List (Term × Term)) → opened sig ins p.0 p.1 ≡ More qs → new ≡ qs ++ ps → size new < size old
  shorter-more qs new e is =
      let h = agrees_at (More qs) e in
      let few : size (qs ++ ps) < size (p ∷ ps) = h.1.size in
      subst (λ x. size x < size old) (sym is) (subst (λ x. size (qs ++ ps) < size x) (sym begins) few)

  pub next-bind : (n : ℕ) (v : Term) → opened sig ins p.0 p.1 ≡ Bind n v → IsNext sig ins first n v ps
  next-bind n v e =
      let h = agrees_at (Bind n v) e in
      let few : count_of_numbers (replace_in n v ps) < count_of_numbers (p ∷ ps) = h.1.fewer in
      let was : count_of_numbers (p ∷ ps) ≡ count_of_numbers old = ap count_of_numbers (sym begins) in
      let before = left.variables in
      record { same = answer ∙ h.0; fewer = omega arith }

  pub next-clash : opened sig ins p.0 p.1 ≡ Clash → mgu sig ins first ≡ None
  next-clash e = answer ∙ agrees_at Clash e

pub left-first : (sig : Signature) (ins : List SortId) (ps : List (Term × Term)) → IsLeft sig ins ps ps
left-first sig ins ps = record { same = refl; variables = omega arith }

pub left-done : (sig : Signature) (ins : List SortId) (first todo : List (Term × Term)) → IsLeft sig ins first todo → todo ≡ [] → mgu sig ins first ≡ Some []
left-done sig ins first todo h e = h.same ∙ (ap (mgu sig ins) e ∙ mgu-none sig ins)

pub ruleset stepping = (common_steps, left-first, left-done, left-more, shorter-more, next-bind, next-clash)

pub ruleset solving = (common_steps)

pub ruleset unified = (common_steps, mgu-solved)
