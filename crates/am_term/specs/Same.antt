-- Tests that tell whether two terms, atoms or literals are one.
use Rattle.std.specs.Prelude.{◌≡◌, ◌&&◌, ◌==◌, ℕ, Bool, true, false, List, [], ◌∷◌, map}
use Rattle.std.specs.Bool.{beq}
use Rattle.std.proofs.Common.{ap}
use Rattle.am_term.specs.declared.id.SortId.{SortId}
use Rattle.am_term.specs.declared.id.SymId.{SymId}
use Rattle.am_term.specs.declared.term.Term.{Term}
use Rattle.am_term.specs.declared.term.Term.TheOpen.{Term-F}
use Rattle.am_term.specs.declared.term.Term.TheViews.{out-Term}
use Rattle.am_term.specs.declared.term.Term.TheVariants.{Var, In, App}
use Rattle.am_term.specs.declared.term.Term.TheFolds.{fold-Term}
use Rattle.am_term.specs.declared.term.Atom.{Atom}
use Rattle.am_term.specs.declared.term.Atom.TheVariants.{Rel, Eq}
use Rattle.am_term.specs.declared.term.Literal.{Literal}
use Rattle.am_term.specs.Fold.{fold-Var, fold-In, fold-App}

-- as many tests as terms, and each test passes its term
abbrev pub all_pass : List (Term → Bool) → List Term → Bool
all_pass [] [] = true
all_pass [] (t ∷ ts) = false
all_pass (p ∷ ps) [] = false
all_pass (p ∷ ps) (t ∷ ts) = p t && all_pass ps ts

abbrev pub is_var : ℕ → SortId → Term-F Term → Bool
is_var n s (Term-F.Var m t) = n == m && s.0 == t.0
is_var n s (Term-F.In k) = false
is_var n s (Term-F.App g args) = false

abbrev pub is_in : ℕ → Term-F Term → Bool
is_in k (Term-F.Var m t) = false
is_in k (Term-F.In j) = k == j
is_in k (Term-F.App g args) = false

abbrev pub is_app : SymId → List (Term → Bool) → Term-F Term → Bool
is_app f tests (Term-F.Var m t) = false
is_app f tests (Term-F.In k) = false
is_app f tests (Term-F.App g args) = f.0 == g.0 && all_pass tests args

abbrev pub same_step : Term-F (Term → Bool) → Term → Bool
same_step (Term-F.Var n s) u = is_var n s (out-Term u)
same_step (Term-F.In k) u = is_in k (out-Term u)
same_step (Term-F.App f tests) u = is_app f tests (out-Term u)

-- both are one variable, one input, or one symbol at the same arguments
unfoldable pub same_term : Term → Term → Bool
same_term = fold-Term (Term → Bool) same_step

pub same_term-Var : (n : ℕ) (s : SortId) (u : Term) → same_term (Var n s) u ≡ is_var n s (out-Term u)
unfolding same_term
same_term-Var n s u = ap (λ (g : Term → Bool). g u) (fold-Var (Term → Bool) same_step n s)

pub same_term-In : (k : ℕ) (u : Term) → same_term (In k) u ≡ is_in k (out-Term u)
unfolding same_term
same_term-In k u = ap (λ (g : Term → Bool). g u) (fold-In (Term → Bool) same_step k)

pub same_term-App : (f : SymId) (args : List Term) (u : Term) → same_term (App f args) u ≡ is_app f (map same_term args) (out-Term u)
unfolding same_term
same_term-App f args u = ap (λ (g : Term → Bool). g u) (fold-App (Term → Bool) same_step f args)

pub ruleset same_laws = (same_term-Var, same_term-In, same_term-App)

-- as many terms, and each is its partner
abbrev pub same_terms : List Term → List Term → Bool
same_terms ts us = all_pass (map same_term ts) us

-- both are one relation at the same arguments, or equations with the same sides in the same order
abbrev pub same_atom : Atom → Atom → Bool
same_atom (Rel r ts) (Rel q us) = r.0 == q.0 && same_terms ts us
same_atom (Rel r ts) (Eq left right) = false
same_atom (Eq left right) (Rel q us) = false
same_atom (Eq left right) (Eq first second) = same_term left first && same_term right second

-- both have one sign and the same atom
abbrev pub same_literal : Literal → Literal → Bool
same_literal l m = beq l.positive m.positive && same_atom l.atom m.atom
