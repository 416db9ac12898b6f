-- Terms for variables: as a substitution, and as a list over the variables of what is numbered.
use Rattle.std.proofs.Common.{◌≡◌, ◌∙◌, true, sym, ap, subst, List, map}
use Rattle.std.proofs.lemmas.List.{get_or-map}
use Rattle.am_term.specs.declared.id.SortId.{SortId}
use Rattle.am_term.specs.declared.signature.Signature.{Signature}
use Rattle.am_term.specs.declared.term.Term.{Term}
use Rattle.am_term.specs.declared.term.Term.TheVariants.{Var}
use Rattle.am_term.specs.Instance.{instance, instance-Var, instance-In, instance-App}
use Rattle.am_term.specs.Sorting.{term_fits}
use Rattle.am_clause.specs.declared.row.Made.{Made}
use Rattle.am_clause.specs.Distinct.{distinct}
use Rattle.am_clause.specs.Variables.{Variable, same_variable, in_clause}
use Rattle.am_clause.specs.Numbered.{AreNumbered}
use Rattle.am_clause.specs.NumberedMade.{made_occurrences}
use Rattle.am_clause.specs.MostGeneral.{IsInstanceOf}
use Rattle.am_clause.proofs.Renames.{Within, within-right}
use Rattle.am_unify.specs.Substitution.{apply, apply-Var, apply-In, apply-App}
use Rattle.am_rules.specs.Row.{in_lists}
use Rattle.am_rules.specs.Most.{AreInstances}
use Rattle.am_rules.proofs.RowLaws.{within-distinct}
use Rattle.am_rules.proofs.Standing.{lists-agree}
use Rattle.am_rules.proofs.Joining.{At, at-low, at-read, counted-at}

module _ (sig : Signature) (ins : List SortId) where
  -- a substitution, listed
  module _ (m : Made) (numbered : AreNumbered (made_occurrences m)) (us : List (List Term)) (a : AreInstances sig ins us m.with) where
    abbrev vs : List Variable
    vs = distinct same_variable (made_occurrences m)

    abbrev terms : List Term
    terms = map (λ (v : Variable). a.by v.0 v.1) vs

    abbrev Listed : Variable → Type 0
    Listed v = instance terms (Var v.0 v.1) ≡ a.by v.0 v.1

    at : (v : Variable) → Within v (in_lists m.with) → At vs v
    at v h = counted-at vs numbered v (within-distinct v (made_occurrences m) ∙ within-right v (in_clause m.clause) (in_lists m.with) h)

    listed : (v : Variable) → Within v (in_lists m.with) → Listed v
    listed v h = instance-Var terms v.0 v.1
        ∙ (get_or-map (λ (w : Variable). a.by w.0 w.1) vs v.0 v (Var v.0 v.1) (at-low vs v (at v h)) ∙ ap (λ (w : Variable). a.by w.0 w.1) (at-read vs v v (at v h)))

    pub as-list : IsInstanceOf sig ins m.with us
    as-list = record {
      by = terms;
      fits = λ v h. subst (λ t. term_fits sig ins t v.1 ≡ true) (sym (listed v h)) (a.keeps v.0 v.1 h);
      is = a.equal ∙ sym (lists-agree (instance terms) (apply a.by) Listed
          (λ n s h. h ∙ sym (apply-Var a.by n s))
          (λ k. instance-In terms k ∙ sym (apply-In a.by k))
          (instance-App terms) (apply-App a.by) m.with listed);
    }

  -- a list as a substitution
  pub as-substitution : (ws us : List (List Term)) → IsInstanceOf sig ins ws us → AreInstances sig ins us ws
  as-substitution ws us i = record {
    by = λ n s. instance i.by (Var n s);
    keeps = λ n s h. i.fits (n, s) h;
    equal = i.is ∙ lists-agree (instance i.by) (apply (λ n s. instance i.by (Var n s))) (λ v. Unit {0})
        (λ n s h. sym (apply-Var (λ n s. instance i.by (Var n s)) n s))
        (λ k. instance-In i.by k ∙ sym (apply-In (λ n s. instance i.by (Var n s)) k))
        (instance-App i.by) (apply-App (λ n s. instance i.by (Var n s))) ws (λ v h. tt);
  }
