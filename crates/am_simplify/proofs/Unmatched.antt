-- A pattern with which a term doesn't agree isn't matched with it, so its unit doesn't rewrite it.
use Rattle.std.proofs.Common.{◌≡◌, ◌∙◌, ◌==◌, ◌&&◌, ℕ, Bool, true, false, true≢false, refl, sym, ap, Option, Some, None, List, [], ◌∷◌, length, map, option_map, if◌then◌else◌}
use Rattle.std.proofs.lemmas.Bool.Decides.{nat_tests}
use Rattle.std.proofs.lemmas.Grind.{common_steps}
use Rattle.am_term.specs.Induct.{term_induct}
use Rattle.am_term.specs.Place.{member}
use Rattle.am_term.specs.Weight.{nodes_laws}
use Rattle.am_term.specs.declared.id.SortId.{SortId}
use Rattle.am_term.specs.declared.id.SymId.{SymId}
use Rattle.am_term.specs.declared.signature.Signature.{Signature}
use Rattle.am_term.specs.declared.term.Term.{Term}
use Rattle.am_term.specs.declared.term.Term.TheOpen.{Term-F}
use Rattle.am_term.specs.declared.term.Term.TheVariants.{Var, In, App}
use Rattle.am_term.specs.declared.term.Term.TheViews.{out-Term, the_lemmas}
use Rattle.am_term.proofs.Instances.{nodes-positive}
use Rattle.am_term.specs.Same.{all_pass}
use Rattle.am_clause.specs.Rules.{part_at, rewrite, side_at}
use Rattle.am_clause.specs.declared.clause.Clause.{Clause}
use Rattle.am_unify.specs.Matching.{and_then, match_all, match_app, matched, matched-In, matched-App}
use Rattle.am_rules.specs.Conclusions.{rewritten-is, rewriting_by}
use Rattle.am_rules.specs.Paramodulation.{sorted_only}
use Rattle.am_rules.specs.Rewriting.{found_match}
use Rattle.am_simplify.specs.Agreement.{term_agrees, agree-In, agree-App, agree-Var, agree_laws, is_headed, side_agrees, unit_agrees}
use Rattle.am_simplify.specs.NormalStep.{made_by_rule, rewrite_with}
use Rattle.am_simplify.specs.Standing.{IsPartAt}
use Rattle.am_simplify.specs.Subsuming.{Bindings}
use Rattle.am_simplify.specs.declared.step.StepRule.TheVariants.{Rewrite}
use Rattle.am_simplify.specs.declared.step.Unit.{Unit}

module _ (sig : Signature) (ins : List SortId) where
  abbrev Unmatched : Term → Type 0
  Unmatched t = (u : Term) (bs : Bindings) → term_agrees t u ≡ false → matched sig ins t u bs ≡ None

  abbrev AllUnmatched : List Term → Type 0
  AllUnmatched ts = (us : List Term) (bs : Bindings) → all_pass (map term_agrees ts) us ≡ false → match_all (map (matched sig ins) ts) us bs ≡ None

  variable-agrees : (n : ℕ) (s : SortId) → Unmatched (Var n s)
  variable-agrees n s u bs e = absurd (true≢false (sym (agree-Var n s u) ∙ e))

  input-unmatched : (k : ℕ) → Unmatched (In k)
  input-unmatched k u bs e = matched-In sig ins k u bs ∙ ap (λ b. if b then Some bs else None) (sym (agree-In k u) ∙ e)

  application-unmatched : (f : SymId) (args : List Term) → AllUnmatched args → Unmatched (App f args)
  application-unmatched f args h u bs e = matched-App sig ins f args u bs ∙ by_kind (out-Term u) (sym (agree-App f args u) ∙ e)
    where
      by_count : (us : List Term) (a c : Bool) → (a && all_pass (map term_agrees args) us) ≡ false → (if a && c then match_all (map (matched sig ins) args) us bs else None) ≡ None
      by_count us false c e = refl
      by_count us true false e = refl
      by_count us true true e = h us bs e

      by_kind : (x : Term-F Term) → is_headed f (map term_agrees args) x ≡ false → match_app sig ins f (map (matched sig ins) args) x bs ≡ None
      by_kind (Term-F.Var n s) e = refl
      by_kind (Term-F.In k) e = refl
      by_kind (Term-F.App g us) e = by_count us (f.0 == g.0) (length (map (matched sig ins) args) == length us) e

  more-unmatched : (t : Term) (ts : List Term) → Unmatched t → AllUnmatched ts → AllUnmatched (t ∷ ts)
  more-unmatched t ts h k [] bs e = refl
  more-unmatched t ts h k (u ∷ us) bs e = by_first (term_agrees t u) refl e
    where
      by_match : (o : Option Bindings) → ((cs : Bindings) → match_all (map (matched sig ins) ts) us cs ≡ None) → and_then o (match_all (map (matched sig ins) ts) us) ≡ None
      by_match None later = refl
      by_match (Some cs) later = later cs

      by_first : (b : Bool) → term_agrees t u ≡ b → (b && all_pass (map term_agrees ts) us) ≡ false → and_then (matched sig ins t u bs) (match_all (map (matched sig ins) ts) us) ≡ None
      by_first false is e = ap (λ o. and_then o (match_all (map (matched sig ins) ts) us)) (h u bs is)
      by_first true is e = by_match (matched sig ins t u bs) (λ cs. k us cs e)

  none-unmatched : AllUnmatched []
  none-unmatched [] bs e = absurd (true≢false e)
  none-unmatched (u ∷ us) bs e = refl

  pub unmatched : (t : Term) → Unmatched t
  unmatched = term_induct Unmatched AllUnmatched variable-agrees input-unmatched application-unmatched none-unmatched more-unmatched

  pub all-unmatched : (ts : List Term) → AllUnmatched ts
  all-unmatched [] = none-unmatched
  all-unmatched (t ∷ ts) = more-unmatched t ts (unmatched t) (all-unmatched ts)

  no-match : (pattern : Option Term) (part : Term) → side_agrees pattern part ≡ false → found_match sig ins pattern (Some part) ≡ None
  no-match None part e = refl
  no-match (Some t) part e = unmatched t part [] e

  -- a unit with which the part doesn't agree rewrites nothing there
  pub not-rewritten : (c : Clause) (i : ℕ) (path : List ℕ) (u : Unit) (part : Term) → IsPartAt c i path part → unit_agrees u part ≡ false → rewrite_with sig ins c i path u ≡ None
  not-rewritten c i path u part stands e =
      ap (option_map (made_by_rule (Rewrite u.row u.side i path)))
      (rewritten-is sig ins u.clause u.side c i path ∙ by_suits ((rewrite 1 u.side i path).suits u.clause c) (found_match sig ins (side_at u.side (member u.clause.literals 1)) (part_at path (member c.literals i))) unfound)
    where
      unfound : found_match sig ins (side_at u.side (member u.clause.literals 1)) (part_at path (member c.literals i)) ≡ None
      unfound = ap (found_match sig ins (side_at u.side (member u.clause.literals 1))) stands ∙ no-match (side_at u.side (member u.clause.literals 1)) part e

      by_suits : (b : Bool) (o : Option Bindings) → o ≡ None → (if b then sorted_only sig ins (option_map (rewriting_by u.clause u.side c i path) o) else None) ≡ None
      by_suits false o is = refl
      by_suits true o is = ap (λ o. sorted_only sig ins (option_map (rewriting_by u.clause u.side c i path) o)) is

pub ruleset agreeing = (common_steps, nat_tests, the_lemmas, agree_laws, nodes_laws, nodes-positive)

pub ruleset skipping = (common_steps, not-rewritten)
