-- Two lists of most general bindings differ by a renaming of the variables in them.
use Rattle.std.proofs.Common.{◌≡◌, ◌∙◌, ℕ, true, false, refl, sym, ap, subst, Some, None, List, map, length, nat_lt, if◌then◌else◌}
use Rattle.am_term.specs.declared.id.SortId.{SortId}
use Rattle.am_term.specs.declared.signature.Signature.{Signature}
use Rattle.am_term.specs.declared.term.Term.{Term}
use Rattle.am_term.specs.declared.term.Term.TheOpen.{Term-F}
use Rattle.am_term.specs.declared.term.Term.TheViews.{out-Term}
use Rattle.am_term.specs.declared.term.Term.TheVariants.{Var, In, outs-Var, outs-In}
use Rattle.am_term.specs.Sorts.{fits}
use Rattle.am_term.specs.Sorting.{sort_of-Var, fits_place, term_fits}
use Rattle.am_term.proofs.Forest.{fits-antisym}
use Rattle.am_clause.specs.Variables.{Variable, occurrences}
use Rattle.am_clause.specs.Renaming.{Numbers, renamed, renamed-Var, renamed-In, renamed-App}
use Rattle.am_clause.proofs.Renames.{Within}
use Rattle.am_unify.specs.Substitution.{Substitution, apply, applies, apply-Var, apply-In, apply-App}
use Rattle.am_unify.proofs.Steps.{is_var, is_in, is_app}
use Rattle.am_unify.proofs.Renamed.{app-var}
use Rattle.am_rules.specs.Row.{in_lists}
use Rattle.am_rules.specs.Most.{AreInstances, AreMostGeneralBySubstitution, AreRenamed}
use Rattle.am_rules.proofs.Standing.{never, Each, within-var, lists-agree, lists-stay, lists-bring}

in-var : (k n : ℕ) (s : SortId) → In k ≡ Var n s → ⊥
in-var k n s e = let d : Term-F.In k ≡ Term-F.Var n s = sym (outs-In k) ∙ (ap out-Term e ∙ outs-Var n s) in cc

-- the number of a variable
abbrev number_at : Term-F Term → ℕ
number_at (Term-F.Var n s) = n
number_at (Term-F.In k) = 0
number_at (Term-F.App f ts) = 0

abbrev number_of : Term → ℕ
number_of t = number_at (out-Term t)

number-Var : (n : ℕ) (s : SortId) → number_of (Var n s) ≡ n
number-Var n s = ap number_at (outs-Var n s)

-- where a variable fits, its sort does
var_place : (sig : Signature) (s r : SortId) (b : _) → fits_place sig (if b then Some s else None) r ≡ true → fits sig s r ≡ true
var_place sig s r true e = e
var_place sig s r false e = never e

var-fits : (sig : Signature) (ins : List SortId) (n : ℕ) (s r : SortId) → term_fits sig ins (Var n s) r ≡ true → fits sig s r ≡ true
var-fits sig ins n s r e = var_place sig s r (nat_lt s.0 (length sig.sorts)) (sym (ap (λ o. fits_place sig o r) (sort_of-Var sig ins n s)) ∙ e)

module _ (sig : Signature) (ins : List SortId) (ws vs : List (List Term)) (a : AreInstances sig ins vs ws) (b : AreInstances sig ins ws vs) where
  abbrev θ : Substitution
  θ = a.by

  abbrev η : Substitution
  η = b.by

  abbrev to : Numbers
  to n s = number_of (θ n s)

  abbrev from : Numbers
  from n s = number_of (η n s)

  record IsMoved (v : Variable) : Type 0 where
    pub there : θ v.0 v.1 ≡ Var (to v.0 v.1) v.1
    pub back : η (to v.0 v.1) v.1 ≡ Var v.0 v.1

  back : Each (λ v. apply η (θ v.0 v.1) ≡ Var v.0 v.1) (in_lists ws)
  back = lists-stay η θ ws (sym (ap (map (applies η)) a.equal) ∙ sym b.equal)

  by_kind : (n : ℕ) (s : SortId) → Within (n, s) (in_lists ws) → (x : Term-F Term) → out-Term (θ n s) ≡ x → IsMoved (n, s)
  by_kind n s m (Term-F.Var k r) is =
      let named : θ n s ≡ Var k r = is_var (θ n s) k r is in
      let home : η k r ≡ Var n s = sym (apply-Var η k r) ∙ (sym (ap (apply η) named) ∙ back (n, s) m) in
      let down : fits sig r s ≡ true = var-fits sig ins k r s (subst (λ t. term_fits sig ins t s ≡ true) named (a.keeps n s m)) in
      let inner : Within (k, r) (occurrences (θ n s)) = subst (λ t. Within (k, r) (occurrences t)) (sym named) (within-var k r) in
      let there : Within (k, r) (in_lists vs) = subst (λ ls. Within (k, r) (in_lists ls)) (sym a.equal) (lists-bring θ (n, s) (k, r) inner ws m) in
      let up : fits sig s r ≡ true = var-fits sig ins n s r (subst (λ t. term_fits sig ins t r ≡ true) home (b.keeps k r there)) in
      let same : r ≡ s = fits-antisym sig r s down up in
      let number : to n s ≡ k = ap number_of named ∙ number-Var k r in
      record {
        there = named ∙ (ap (Var k) same ∙ ap (λ i. Var i s) (sym number));
        back = ap (λ i. η i s) number ∙ subst (λ q. η k q ≡ Var n s) same home;
      }
  by_kind n s m (Term-F.In k) is = absurd (in-var k n s (sym (ap (apply η) (is_in (θ n s) k is) ∙ apply-In η k) ∙ back (n, s) m))
  by_kind n s m (Term-F.App f ts) is = absurd (app-var f (applies η ts) n s (sym (ap (apply η) (is_app (θ n s) f ts is) ∙ apply-App η f ts) ∙ back (n, s) m))

  moved : Each IsMoved (in_lists ws)
  moved v m = by_kind v.0 v.1 m (out-Term (θ v.0 v.1)) refl

  pub renamed-lists : AreRenamed vs ws
  renamed-lists = record {
    to = to;
    back = from;
    undone = record { undone = λ n s m. ap number_of (moved (n, s) m).back ∙ number-Var n s };
    equal = a.equal ∙ lists-agree (apply θ) (renamed to) IsMoved
        (λ n s h. apply-Var θ n s ∙ (h.there ∙ sym (renamed-Var to n s)))
        (λ k. apply-In θ k ∙ sym (renamed-In to k))
        (apply-App θ) (renamed-App to) ws moved;
  }

-- any two most general lists differ by a renaming
pub most-renamed : (sig : Signature) (ins : List SortId) (Such : List (List Term) → Type 0) (ws vs : List (List Term)) → AreMostGeneralBySubstitution sig ins Such ws → AreMostGeneralBySubstitution sig ins Such vs → AreRenamed vs ws
most-renamed sig ins Such ws vs g h = renamed-lists sig ins ws vs (g.factors vs h.holds) (h.factors ws g.holds)
