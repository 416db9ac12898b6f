-- Each rule of inference keeps truth.
use Rattle.std.proofs.Common.{◌≡◌, ◌∙◌, ◌==◌, ◌&&◌, ◌++◌, inl, inr, ℕ, Bool, true, false, not, refl, sym, ap, subst, arith, if◌then◌else◌, List, Option, Some, None, option_map}
use Rattle.std.specs.Bool.{beq}
use Rattle.std.specs.List.{list_any}
use Rattle.std.proofs.lemmas.Bool.Decides.{nat_tests}
use Rattle.std.proofs.lemmas.List.Folds.{list_any-append}
use Rattle.am_term.specs.declared.term.Term.{Term}
use Rattle.am_term.specs.declared.term.Atom.{Atom}
use Rattle.am_term.specs.declared.term.Atom.TheVariants.{Rel, Eq}
use Rattle.am_term.specs.declared.term.Literal.{Literal}
use Rattle.am_term.specs.Place.{member}
use Rattle.am_term.proofs.Alike.{same_term-sound, same_terms-sound, same_atom-sound}
use Rattle.am_term.proofs.Tests.{and_left, and_right, or_left, or_right, never_both}
use Rattle.am_clause.specs.declared.clause.Clause.{Clause}
use Rattle.am_clause.specs.declared.row.Side.{Side}
use Rattle.am_clause.specs.declared.row.Side.TheVariants.{Left, Right}
use Rattle.am_world.specs.Interpretation.{Interpretation}
use Rattle.am_world.specs.Value.{Assignment, value, atom_truth, literal_truth}
use Rattle.am_term.specs.Instance.{instance_literal}
use Rattle.am_clause.specs.Bound.{bound}
use Rattle.am_term.specs.Parts.{without, place_in}
use Rattle.am_clause.specs.Rules.{OneParent, TwoParents, is_equation, is_equation_of, are_opposite, have_one_atom, has_equal_sides, equates_sides, turned, side_of, side_at, part_at, are_one, go_together, shared, answers_agree, with_other, factor, reflex, close, resolve, para, rewrite}
use Rattle.am_world.specs.Holding.{Serves, HoldsAt}
use Rattle.am_calculus.proofs.Lists.{any-without, any-with, member-map}
use Rattle.am_world.proofs.Replaced.{side-replaced}

number-same : (n : ℕ) → (n == n) ≡ true
number-same n = grind (arith, nat_tests)

number-is : (n m : ℕ) → (n == m) ≡ true → n ≡ m
number-is n m e = grind (arith, nat_tests)

-- ---- kinds stay in instances

equation-kept : (with : List Term) (sign : Bool) (o : Option Literal) → is_equation_of sign o ≡ true → is_equation_of sign (option_map (instance_literal with) o) ≡ true
equation-kept with sign None e = e
equation-kept with sign (Some l) e = by l.positive l.atom e
  where
    by : (b : Bool) (x : Atom) → (beq b sign && is_equation x) ≡ true → is_equation_of sign (Some (instance_literal with (let m : Literal = record { positive = b; atom = x } in m))) ≡ true
    by b (Rel r args) e = e
    by b (Eq s t) e = e

equation-bound : (with : List Term) (sign : Bool) (p : Clause) (i : ℕ) → is_equation_of sign (member p.literals i) ≡ true → is_equation_of sign (member (bound with p).literals i) ≡ true
equation-bound with sign p i e = ap (is_equation_of sign) (member-map (instance_literal with) p.literals i) ∙ equation-kept with sign (member p.literals i) e

opposite-kept : (first second : List Term) (o u : Option Literal) → are_opposite o u ≡ true → are_opposite (option_map (instance_literal first) o) (option_map (instance_literal second) u) ≡ true
opposite-kept first second None u e = e
opposite-kept first second (Some l) None e = e
opposite-kept first second (Some l) (Some m) e = by l.positive l.atom m.positive m.atom e
  where
    by : (b : Bool) (x : Atom) (c : Bool) (y : Atom) → (not (is_equation x) && (not (is_equation y) && beq b (not c))) ≡ true
        → are_opposite (Some (instance_literal first (let l : Literal = record { positive = b; atom = x } in l))) (Some (instance_literal second (let m : Literal = record { positive = c; atom = y } in m))) ≡ true
    by b (Rel r ts) c (Rel q us) e = e
    by b (Rel r ts) c (Eq s t) e = e
    by b (Eq s t) c y e = absurd cc

opposite-bound : (first second : List Term) (p q : Clause) (i j : ℕ) → are_opposite (member p.literals i) (member q.literals j) ≡ true → are_opposite (member (bound first p).literals i) (member (bound second q).literals j) ≡ true
opposite-bound first second p q i j e =
    ap (λ o. are_opposite o (member (bound second q).literals j)) (member-map (instance_literal first) p.literals i)
    ∙ (ap (are_opposite (option_map (instance_literal first) (member p.literals i))) (member-map (instance_literal second) q.literals j)
    ∙ opposite-kept first second (member p.literals i) (member q.literals j) e)

module _ (w : Interpretation) (ins : List ℕ) (a : Assignment) where
  abbrev true_in : Literal → Bool
  true_in = literal_truth w ins a

  abbrev truth_at : Bool → Atom → Bool
  truth_at sign x = if sign then atom_truth w ins a x else not (atom_truth w ins a x)

  -- ---- reflex

  refuted : (sign : Bool) (x : Atom) → (beq sign false && is_equation x) ≡ true → has_equal_sides x ≡ true → truth_at sign x ≡ true → ⊥
  refuted true x e f t = absurd cc
  refuted false (Rel r args) e f t = absurd cc
  refuted false (Eq s u) e f t =
      let same : (value w ins a s == value w ins a u) ≡ true = ap (λ x. value w ins a s == value w ins a x) (sym (same_term-sound s u f)) ∙ number-same (value w ins a s) in
      never_both (not (value w ins a s == value w ins a u)) t (ap not same)

  reflex-true : (ls : List Literal) (i : ℕ) (o : Option Literal) → member ls i ≡ o → is_equation_of false o ≡ true → equates_sides o ≡ true → list_any true_in ls ≡ true → list_any true_in (without ls i) ≡ true
  reflex-true ls i None at k e t = absurd cc
  reflex-true ls i (Some l) at k e t = elim (any-without true_in ls i l at t) [
    | inl u ↦ absurd (refuted l.positive l.atom k e u)
    | inr u ↦ u
  ]

  -- ---- resolve

  clash : (b c : Bool) (x y : Atom) → beq b (not c) ≡ true → x ≡ y → truth_at b x ≡ true → truth_at c y ≡ true → ⊥
  clash true true x y o e t u = absurd cc
  clash true false x y o e t u = never_both (not (atom_truth w ins a y)) u (ap not (ap (atom_truth w ins a) (sym e) ∙ t))
  clash false true x y o e t u = never_both (not (atom_truth w ins a x)) t (ap not (ap (atom_truth w ins a) e ∙ u))
  clash false false x y o e t u = absurd cc

  resolve-true : (ls ms : List Literal) (i j : ℕ) (o u : Option Literal) → member ls i ≡ o → member ms j ≡ u → are_opposite o u ≡ true → have_one_atom o u ≡ true
      → list_any true_in ls ≡ true → list_any true_in ms ≡ true → list_any true_in (without ls i ++ without ms j) ≡ true
  resolve-true ls ms i j None u at there k e s t = absurd cc
  resolve-true ls ms i j (Some l) None at there k e s t = absurd cc
  resolve-true ls ms i j (Some l) (Some m) at there k e s t =
      list_any-append true_in (without ls i) (without ms j) ∙ elim (any-without true_in ls i l at s) [
        | inr x ↦ or_left (list_any true_in (without ls i)) (list_any true_in (without ms j)) x
        | inl x ↦ elim (any-without true_in ms j m there t) [
          | inr y ↦ or_right (list_any true_in (without ls i)) (list_any true_in (without ms j)) y
          | inl y ↦ absurd (clash l.positive m.positive l.atom m.atom (and_right (not (is_equation m.atom)) (beq l.positive (not m.positive)) (and_right (not (is_equation l.atom)) (not (is_equation m.atom) && beq l.positive (not m.positive)) k)) (same_atom-sound l.atom m.atom e) x y)
        ]
      ]

  -- ---- para

  abbrev HaveOneValue : Option Term → Option Term → Type 0
  HaveOneValue None other = Unit {0}
  HaveOneValue (Some side) None = Unit {0}
  HaveOneValue (Some side) (Some other) = value w ins a side ≡ value w ins a other

  sides-equal : (side : Side) (sign : Bool) (x : Atom) → (beq sign true && is_equation x) ≡ true → truth_at sign x ≡ true → HaveOneValue (side_of side x) (side_of (turned side) x)
  sides-equal side false x e t = absurd cc
  sides-equal side true (Rel r args) e t = absurd cc
  sides-equal Left true (Eq s u) e t = number-is (value w ins a s) (value w ins a u) t
  sides-equal Right true (Eq s u) e t = sym (number-is (value w ins a s) (value w ins a u) t)

  other-same : (path : List ℕ) (s o : Option Term) → HaveOneValue s o → (ms : List Literal) (i : ℕ) (u : Option Literal) → member ms i ≡ u → are_one s (part_at path u) ≡ true → list_any true_in (with_other o path u ms i) ≡ list_any true_in ms
  other-same path s None v ms i u at e = refl
  other-same path s (Some other) v ms i None at e = refl
  other-same path None (Some other) v ms i (Some m) at e = absurd cc
  other-same path (Some side) (Some other) v ms i (Some m) at e = any-with true_in ms i m _ at (side-replaced w ins a side other v path m (place_in path m.atom) refl e)

  para-true : (side : Side) (path : List ℕ) (ls ms : List Literal) (i j : ℕ) (o : Option Literal) → member ls j ≡ o → is_equation_of true o ≡ true → are_one (side_at side o) (part_at path (member ms i)) ≡ true
      → list_any true_in ls ≡ true → list_any true_in ms ≡ true → list_any true_in (with_other (side_at (turned side) o) path (member ms i) ms i ++ without ls j) ≡ true
  para-true side path ls ms i j None at k e s t = absurd cc
  para-true side path ls ms i j (Some l) at k e s t =
      let now : List Literal = with_other (side_of (turned side) l.atom) path (member ms i) ms i in
      list_any-append true_in now (without ls j) ∙ elim (any-without true_in ls j l at s) [
        | inr x ↦ or_right (list_any true_in now) (list_any true_in (without ls j)) x
        | inl x ↦ or_left (list_any true_in now) (list_any true_in (without ls j))
            (other-same path (side_of side l.atom) (side_of (turned side) l.atom) (sides-equal side l.positive l.atom k x) ms i (member ms i) refl e ∙ t)
      ]

  module _ (Q : List ℕ → Type 0) where
    -- ---- answers

    serves-first : (o u : Option (List Term)) → Serves w ins Q a o → Serves w ins Q a (shared o u)
    serves-first None u s = absurd s
    serves-first (Some ts) u s = s

    serves-second : (o u : Option (List Term)) → go_together o u ≡ true → Serves w ins Q a u → Serves w ins Q a (shared o u)
    serves-second None u e s = s
    serves-second (Some ts) None e s = absurd s
    serves-second (Some ts) (Some us) e s = subst (λ (xs : List Term). Serves w ins Q a (Some xs)) (sym (same_terms-sound ts us e)) s

    abbrev pub with_parts : List Literal → Option (List Term) → Clause
    with_parts ls o = record { literals = ls; answer = o }

    both-hold : (c d : Clause) (ls : List Literal) → (list_any true_in c.literals ≡ true → list_any true_in d.literals ≡ true → list_any true_in ls ≡ true) → answers_agree c d ≡ true
        → HoldsAt w ins Q a c → HoldsAt w ins Q a d → HoldsAt w ins Q a (with_parts ls (shared c.answer d.answer))
    both-hold c d ls k e h g = elim h [
      | inr s ↦ inr (serves-first c.answer d.answer s)
      | inl t ↦ elim g [
        | inr s ↦ inr (serves-second c.answer d.answer e s)
        | inl u ↦ inl (k t u)
      ]
    ]

    -- ---- the rules

    abbrev pub KeepsOne : OneParent → Type 0
    KeepsOne rule = (p : Clause) (first : List Term) → rule.suits p ≡ true → rule.equal (bound first p) ≡ true → HoldsAt w ins Q a (bound first p) → HoldsAt w ins Q a (rule.made (bound first p))

    abbrev pub KeepsTwo : TwoParents → Type 0
    KeepsTwo rule = (p q : Clause) (first second : List Term) → rule.suits p q ≡ true → rule.equal (bound first p) (bound second q) ≡ true → rule.answers (bound first p) (bound second q) ≡ true
        → HoldsAt w ins Q a (bound first p) → HoldsAt w ins Q a (bound second q) → HoldsAt w ins Q a (rule.made (bound first p) (bound second q))

    pub factor-keeps : (i j : ℕ) → KeepsOne (factor i j)
    factor-keeps i j p first k e h = h

    pub close-keeps : KeepsOne close
    close-keeps p first k e h = h

    pub reflex-keeps : (i : ℕ) → KeepsOne (reflex i)
    reflex-keeps i p first k e h = elim h [
      | inl t ↦ inl (reflex-true (bound first p).literals i (member (bound first p).literals i) refl (equation-bound first false p i k) e t)
      | inr s ↦ inr s
    ]

    pub resolve-keeps : (i j : ℕ) → KeepsTwo (resolve i j)
    resolve-keeps i j p q first second k e g = both-hold (bound first p) (bound second q) (without (bound first p).literals i ++ without (bound second q).literals j)
        (resolve-true (bound first p).literals (bound second q).literals i j (member (bound first p).literals i) (member (bound second q).literals j) refl refl (opposite-bound first second p q i j k) e) g

    pub para-keeps : (j : ℕ) (side : Side) (i : ℕ) (path : List ℕ) → KeepsTwo (para j side i path)
    para-keeps j side i path p q first second k e g = both-hold (bound first p) (bound second q) _
        (para-true side path (bound first p).literals (bound second q).literals i j (member (bound first p).literals j) refl (equation-bound first true p j (and_left _ _ k)) e) g

    pub rewrite-keeps : (j : ℕ) (side : Side) (i : ℕ) (path : List ℕ) → KeepsTwo (rewrite j side i path)
    rewrite-keeps j side i path p q first second k = para-keeps j side i path p q first second (and_right _ _ (and_right _ _ k))
