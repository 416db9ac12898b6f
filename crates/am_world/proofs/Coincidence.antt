-- Values and truth depend on the variables that occur alone.
use Rattle.std.proofs.Common.{◌≡◌, ◌∙◌, ◌==◌, ◌||◌, ◌++◌, ℕ, Bool, false, not, refl, sym, ap, if◌then◌else◌, List, [], ◌∷◌}
use Rattle.std.specs.List.{list_any}
use Rattle.am_term.specs.declared.id.SortId.{SortId}
use Rattle.am_term.specs.declared.id.SymId.{SymId}
use Rattle.am_term.specs.declared.term.Term.{Term}
use Rattle.am_term.specs.declared.term.Term.TheVariants.{Var, App}
use Rattle.am_term.specs.declared.term.Atom.{Atom}
use Rattle.am_term.specs.declared.term.Atom.TheVariants.{Rel, Eq}
use Rattle.am_term.specs.declared.term.Literal.{Literal}
use Rattle.am_term.specs.Induct.{term_induct}
use Rattle.am_term.proofs.Tests.{or_left}
use Rattle.am_clause.specs.Variables.{Variable, same_variable, occurrences, occurrences_all, in_atom, in_literals, in_answer, in_clause, occurrences-Var, occurrences-App, occurrences-more}
use Rattle.am_clause.proofs.Places.{same_variable-refl}
use Rattle.am_clause.proofs.Renames.{Within, within-left, within-right}
use Rattle.am_world.specs.Agreement.{AgreeOn}
use Rattle.am_world.specs.Interpretation.{Interpretation}
use Rattle.am_clause.specs.declared.clause.Clause.{Clause}
use Rattle.am_world.specs.ClauseTruth.{clause_truth}
use Rattle.am_world.specs.Value.{Assignment, value, values, atom_truth, literal_truth, value-Var, value-In, value-App}

module _ (w : Interpretation) (ins : List ℕ) (a b : Assignment) where
  abbrev pub Agree : List Variable → Type 0
  Agree vs = AgreeOn vs a b

  pub left : (vs ws : List Variable) → Agree (vs ++ ws) → Agree vs
  left vs ws h v m = h v (within-left v vs ws m)

  pub right : (vs ws : List Variable) → Agree (vs ++ ws) → Agree ws
  right vs ws h v m = h v (within-right v vs ws m)

  abbrev ValueAgrees : Term → Type 0
  ValueAgrees t = Agree (occurrences t) → value w ins a t ≡ value w ins b t

  abbrev ValuesAgree : List Term → Type 0
  ValuesAgree ts = Agree (occurrences_all ts) → values w ins a ts ≡ values w ins b ts

  var_agrees : (n : ℕ) (s : SortId) → ValueAgrees (Var n s)
  var_agrees n s h =
      let v : Variable = (n, s) in
      let m : Within v (occurrences (Var n s)) = rw occurrences-Var (or_left (same_variable v v) false (same_variable-refl v)) in
      value-Var w ins a n s ∙ (h v m ∙ sym (value-Var w ins b n s))

  app_agrees : (f : SymId) (args : List Term) → ValuesAgree args → ValueAgrees (App f args)
  app_agrees f args k h = value-App w ins a f args ∙ (ap (w.fun f) (k (rw occurrences-App at h)) ∙ sym (value-App w ins b f args))

  more_agree : (t : Term) (ts : List Term) → ValueAgrees t → ValuesAgree ts → ValuesAgree (t ∷ ts)
  more_agree t ts k l h =
      let g : Agree (occurrences t ++ occurrences_all ts) = rw occurrences-more at h in
      ap (λ n. n ∷ values w ins a ts) (k (left (occurrences t) (occurrences_all ts) g)) ∙ ap (λ ns. value w ins b t ∷ ns) (l (right (occurrences t) (occurrences_all ts) g))

  pub value-agrees : (t : Term) → Agree (occurrences t) → value w ins a t ≡ value w ins b t
  value-agrees = term_induct ValueAgrees ValuesAgree var_agrees (λ k h. value-In w ins a k ∙ sym (value-In w ins b k)) app_agrees (λ h. refl) more_agree

  pub values-agree : (ts : List Term) → Agree (occurrences_all ts) → values w ins a ts ≡ values w ins b ts
  values-agree [] = λ h. refl
  values-agree (t ∷ ts) = more_agree t ts (value-agrees t) (values-agree ts)

  pub atom-agrees : (l : Atom) → Agree (in_atom l) → atom_truth w ins a l ≡ atom_truth w ins b l
  atom-agrees (Rel r args) h = ap (w.rel r) (values-agree args h)
  atom-agrees (Eq s t) h = ap (λ n. n == value w ins a t) (value-agrees s (left (occurrences s) (occurrences t) h)) ∙ ap (λ n. value w ins b s == n) (value-agrees t (right (occurrences s) (occurrences t) h))

  pub literal-agrees : (l : Literal) → Agree (in_atom l.atom) → literal_truth w ins a l ≡ literal_truth w ins b l
  literal-agrees l h = ap (λ (x : Bool). if l.positive then x else not x) (atom-agrees l.atom h)

  pub literals-agree : (ls : List Literal) → Agree (in_literals ls) → list_any (literal_truth w ins a) ls ≡ list_any (literal_truth w ins b) ls
  literals-agree [] h = refl
  literals-agree (l ∷ ls) h =
      ap (λ x. x || list_any (literal_truth w ins a) ls) (literal-agrees l (left (in_atom l.atom) (in_literals ls) h))
      ∙ ap (λ x. literal_truth w ins b l || x) (literals-agree ls (right (in_atom l.atom) (in_literals ls) h))

  pub clause-agrees : (c : Clause) → Agree (in_clause c) → clause_truth w ins a c ≡ clause_truth w ins b c
  clause-agrees c h = literals-agree c.literals (left (in_literals c.literals) (in_answer c.answer) h)
