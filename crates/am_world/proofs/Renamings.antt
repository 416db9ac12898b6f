-- Values and truth after renaming, and by assignments that agree where the variables are.
use Rattle.std.proofs.Common.{◌≡◌, ◌∙◌, ◌==◌, ◌||◌, ◌<◌, ◌++◌, ℕ, Bool, true, false, not, refl, sym, ap, arith, if◌then◌else◌, List, [], ◌∷◌, map, length, Option, Some, None, IsTrue, slice_get}
use Rattle.std.specs.List.{AllByRecursion}
use Rattle.std.proofs.lemmas.Bool.Decides.{nat_tests}
use Rattle.am_term.specs.declared.id.SortId.{SortId}
use Rattle.am_term.specs.declared.id.SymId.{SymId}
use Rattle.am_term.specs.declared.signature.Signature.{Signature}
use Rattle.am_term.specs.declared.term.Term.{Term}
use Rattle.am_term.specs.declared.term.Term.TheVariants.{Var, App}
use Rattle.am_term.specs.declared.term.Atom.{Atom}
use Rattle.am_term.specs.declared.term.Atom.TheVariants.{Rel, Eq}
use Rattle.am_term.specs.declared.term.Literal.{Literal}
use Rattle.am_term.specs.declared.term.Formula.{Formula}
use Rattle.am_term.specs.Induct.{term_induct}
use Rattle.am_term.specs.Same.{same_literal}
use Rattle.am_term.proofs.Alike.{same_literal-refl, same_literal-sound}
use Rattle.am_term.proofs.Tests.{and_left, and_right, and_both, or_left}
use Rattle.am_clause.specs.declared.clause.Clause.{Clause}
use Rattle.am_clause.specs.ClauseForm.{Lists, cnf, pos, merged_clause}
use Rattle.am_clause.specs.Merge.{merged}
use Rattle.am_clause.specs.Variables.{Variable, same_variable, occurrences, occurrences_all, in_atom, in_literals, in_clause, variables, occurrences-Var, occurrences-App, occurrences-more}
use Rattle.am_clause.specs.Renaming.{Numbers, renamed, renamed_all, renamed_atom, renamed_literal, places_in, renumbered, renamed-Var, renamed-In, renamed-App, renumbered-is}
use Rattle.am_clause.proofs.Members.{any-distinct}
use Rattle.am_clause.proofs.Places.{same_variable-refl}
use Rattle.am_clause.proofs.Bijections.{read-place, listed}
use Rattle.am_clause.proofs.Renames.{Within, within-left, within-right}
use Rattle.am_world.specs.Interpretation.{Interpretation}
use Rattle.am_world.specs.Value.{Assignment, IsAssignment, value, values, atom_truth, literal_truth, value-Var, value-In, value-App}
use Rattle.am_world.specs.ClauseTruth.{clause_truth, FormulaHolds, ClauseHolds, before_renaming}
use Rattle.am_world.proofs.Columns.{some_true, all_true, pos-truth}

module _ (w : Interpretation) (ins : List ℕ) where
  module _ (a : Assignment) (to : Numbers) where
    pub value-renamed : (t : Term) → value w ins a (renamed to t) ≡ value w ins (before_renaming a to) t
    value-renamed = term_induct
        (λ t. value w ins a (renamed to t) ≡ value w ins (before_renaming a to) t)
        (λ ts. values w ins a (renamed_all to ts) ≡ values w ins (before_renaming a to) ts)
        (λ n s. ap (value w ins a) (renamed-Var to n s) ∙ (value-Var w ins a (to n s) s ∙ sym (value-Var w ins (before_renaming a to) n s)))
        (λ k. ap (value w ins a) (renamed-In to k) ∙ (value-In w ins a k ∙ sym (value-In w ins (before_renaming a to) k)))
        (λ f args h. ap (value w ins a) (renamed-App to f args) ∙ (value-App w ins a f (renamed_all to args) ∙ (ap (w.fun f) h ∙ sym (value-App w ins (before_renaming a to) f args))))
        refl
        (λ t ts h k. ap (λ n. n ∷ values w ins a (renamed_all to ts)) h ∙ ap (λ ns. value w ins (before_renaming a to) t ∷ ns) k)

    values-renamed : (ts : List Term) → values w ins a (renamed_all to ts) ≡ values w ins (before_renaming a to) ts
    values-renamed [] = refl
    values-renamed (t ∷ ts) = ap (λ n. n ∷ values w ins a (renamed_all to ts)) (value-renamed t) ∙ ap (λ ns. value w ins (before_renaming a to) t ∷ ns) (values-renamed ts)

    atom-renamed : (l : Atom) → atom_truth w ins a (renamed_atom to l) ≡ atom_truth w ins (before_renaming a to) l
    atom-renamed (Rel r args) = ap (w.rel r) (values-renamed args)
    atom-renamed (Eq left right) = ap (λ n. n == value w ins a (renamed to right)) (value-renamed left) ∙ ap (λ n. value w ins (before_renaming a to) left == n) (value-renamed right)

    literal-renamed : (l : Literal) → literal_truth w ins a (renamed_literal to l) ≡ literal_truth w ins (before_renaming a to) l
    literal-renamed l = ap (λ (b : Bool). if l.positive then b else not b) (atom-renamed l.atom)

    literals-renamed : (ls : List Literal) → some_true w ins a (map (renamed_literal to) ls) ≡ some_true w ins (before_renaming a to) ls
    literals-renamed [] = refl
    literals-renamed (l ∷ ls) = ap (λ b. b || some_true w ins a (map (renamed_literal to) ls)) (literal-renamed l) ∙ ap (λ b. literal_truth w ins (before_renaming a to) l || b) (literals-renamed ls)

  -- assignments that agree

  module _ (a b : Assignment) where
    abbrev Agree : List Variable → Type 0
    Agree vs = (v : Variable) → Within v vs → a v.0 v.1 ≡ b v.0 v.1

    left : (vs ws : List Variable) → Agree (vs ++ ws) → Agree vs
    left vs ws h v m = h v (within-left v vs ws m)

    right : (vs ws : List Variable) → Agree (vs ++ ws) → Agree ws
    right vs ws h v m = h v (within-right v vs ws m)

    abbrev ValueAgrees : Term → Type 0
    ValueAgrees t = Agree (occurrences t) → value w ins a t ≡ value w ins b t

    abbrev ValuesAgree : List Term → Type 0
    ValuesAgree ts = Agree (occurrences_all ts) → values w ins a ts ≡ values w ins b ts

    var_agrees : (n : ℕ) (s : SortId) → ValueAgrees (Var n s)
    var_agrees n s h =
        let v : Variable = (n, s) in
        let m : Within v (occurrences (Var n s)) = rw occurrences-Var (or_left (same_variable v v) false (same_variable-refl v)) in
        value-Var w ins a n s ∙ (h v m ∙ sym (value-Var w ins b n s))

    app_agrees : (f : SymId) (args : List Term) → ValuesAgree args → ValueAgrees (App f args)
    app_agrees f args k h = value-App w ins a f args ∙ (ap (w.fun f) (k (rw occurrences-App at h)) ∙ sym (value-App w ins b f args))

    more_agree : (t : Term) (ts : List Term) → ValueAgrees t → ValuesAgree ts → ValuesAgree (t ∷ ts)
    more_agree t ts k l h =
        let g : Agree (occurrences t ++ occurrences_all ts) = rw occurrences-more at h in
        ap (λ n. n ∷ values w ins a ts) (k (left (occurrences t) (occurrences_all ts) g)) ∙ ap (λ ns. value w ins b t ∷ ns) (l (right (occurrences t) (occurrences_all ts) g))

    value-agrees : (t : Term) → ValueAgrees t
    value-agrees = term_induct ValueAgrees ValuesAgree var_agrees (λ k h. value-In w ins a k ∙ sym (value-In w ins b k)) app_agrees (λ h. refl) more_agree

    values-agree : (ts : List Term) → ValuesAgree ts
    values-agree [] = λ h. refl
    values-agree (t ∷ ts) = more_agree t ts (value-agrees t) (values-agree ts)

    atom-agrees : (l : Atom) → Agree (in_atom l) → atom_truth w ins a l ≡ atom_truth w ins b l
    atom-agrees (Rel r args) h = ap (w.rel r) (values-agree args h)
    atom-agrees (Eq s t) h = ap (λ n. n == value w ins a t) (value-agrees s (left (occurrences s) (occurrences t) h)) ∙ ap (λ n. value w ins b s == n) (value-agrees t (right (occurrences s) (occurrences t) h))

    literals-agree : (ls : List Literal) → Agree (in_literals ls) → some_true w ins a ls ≡ some_true w ins b ls
    literals-agree [] h = refl
    literals-agree (l ∷ ls) h =
        ap (λ (x : Bool). (if l.positive then x else not x) || some_true w ins a ls) (atom-agrees l.atom (left (in_atom l.atom) (in_literals ls) h))
        ∙ ap (λ x. literal_truth w ins b l || x) (literals-agree ls (right (in_atom l.atom) (in_literals ls) h))

  -- merging keeps truth
  merged-truth : (a : Assignment) (ls : List Literal) → some_true w ins a (merged ls) ≡ some_true w ins a ls
  merged-truth a ls = any-distinct same_literal same_literal-sound same_literal-refl (literal_truth w ins a) ls

  -- the numbers of a clause before it was renumbered
  abbrev numbers : List Literal → Numbers
  numbers ls = places_in (variables (merged_clause ls))

  -- a clause's truth after renumbering
  renumbered-truth : (a : Assignment) (ls : List Literal) → clause_truth w ins a (renumbered (merged_clause ls)) ≡ some_true w ins (before_renaming a (numbers ls)) ls
  renumbered-truth a ls = ap (clause_truth w ins a) (renumbered-is (merged_clause ls)) ∙ (literals-renamed a (numbers ls) (merged ls) ∙ merged-truth (before_renaming a (numbers ls)) ls)

  -- The assignment for the new numbers that says the same: where the k-th variable has the sort that is
  -- asked for, what it had.
  at_variable : Assignment → Option Variable → Assignment
  at_variable a None k s = a k s
  at_variable a (Some v) k s = if v.1.0 == s.0 then a v.0 s else a k s

  abbrev back : Assignment → List Variable → Assignment
  back a vs k s = at_variable a (slice_get vs k) k s

  same_number : (n : ℕ) → (n == n) ≡ true
  same_number n = grind (arith, nat_tests)

  at_itself : (a : Assignment) (v : Variable) (k : ℕ) → at_variable a (Some v) k v.1 ≡ a v.0 v.1
  unfolding at_variable
  at_itself a v k = rw (same_number v.1.0) refl

  back-is : (a : Assignment) (ls : List Literal) (v : Variable) → Within v (in_clause (merged_clause ls)) → a v.0 v.1 ≡ before_renaming (back a (variables (merged_clause ls))) (numbers ls) v.0 v.1
  back-is a ls v m = sym (ap (λ (o : Option Variable). at_variable a o (numbers ls v.0 v.1) v.1) (read-place (variables (merged_clause ls)) v (listed v (merged_clause ls) m)) ∙ at_itself a v (numbers ls v.0 v.1))

  back-truth : (a : Assignment) (ls : List Literal) → some_true w ins a ls ≡ clause_truth w ins (back a (variables (merged_clause ls))) (renumbered (merged_clause ls))
  back-truth a ls =
      sym (merged-truth a ls)
      ∙ (literals-agree a (before_renaming (back a (variables (merged_clause ls))) (numbers ls)) (merged ls) (λ v m. back-is a ls v (within-left v (in_literals (merged ls)) [] m))
      ∙ sym (ap (clause_truth w ins (back a (variables (merged_clause ls)))) (renumbered-is (merged_clause ls)) ∙ literals-renamed (back a (variables (merged_clause ls))) (numbers ls) (merged ls)))

  module _ (sig : Signature) where
    at-assigned : (a : Assignment) → IsAssignment sig w a → (o : Option Variable) (k : ℕ) (s : SortId) → s.0 < length sig.sorts → IsTrue (w.dom s (at_variable a o k s))
    unfolding at_variable
    at-assigned a g None k s h = g k s h
    at-assigned a g (Some v) k s h = by (v.1.0 == s.0)
      where
        by : (b : Bool) → IsTrue (w.dom s (if b then a v.0 s else a k s))
        by true = g v.0 s h
        by false = g k s h

    back-assigned : (a : Assignment) (vs : List Variable) → IsAssignment sig w a → IsAssignment sig w (back a vs)
    back-assigned a vs g k s h = at-assigned a g (slice_get vs k) k s h

    abbrev finished : Lists → List Clause
    finished cs = map (λ ls. renumbered (merged_clause ls)) cs

    forward : (cs : Lists) → ((a : Assignment) → IsAssignment sig w a → all_true w ins a cs ≡ true) → AllByRecursion (ClauseHolds sig w ins) (finished cs)
    forward [] h = tt
    forward (ls ∷ cs) h = (
      (λ a g. renumbered-truth a ls ∙ and_left (some_true w ins (before_renaming a (numbers ls)) ls) (all_true w ins (before_renaming a (numbers ls)) cs) (h (before_renaming a (numbers ls)) (λ n s l. g (numbers ls n s) s l))),
      forward cs (λ a g. and_right (some_true w ins a ls) (all_true w ins a cs) (h a g)),
    )

    backward : (cs : Lists) → AllByRecursion (ClauseHolds sig w ins) (finished cs) → (a : Assignment) → IsAssignment sig w a → all_true w ins a cs ≡ true
    backward [] h a g = refl
    backward (ls ∷ cs) h a g = and_both (some_true w ins a ls) (all_true w ins a cs)
        (back-truth a ls ∙ h.0 (back a (variables (merged_clause ls))) (back-assigned a (variables (merged_clause ls)) g))
        (backward cs h.1 a g)

    -- The formula holds whatever its variables stand for exactly where each clause of its clause form does.
    pub holds-clauses : (f : Formula) → FormulaHolds sig w ins f → AllByRecursion (ClauseHolds sig w ins) (cnf f)
    unfolding cnf
    holds-clauses f h = forward (pos f) (λ a g. pos-truth w ins a f ∙ h a g)

    pub clauses-hold : (f : Formula) → AllByRecursion (ClauseHolds sig w ins) (cnf f) → FormulaHolds sig w ins f
    unfolding cnf
    clauses-hold f h a g = sym (pos-truth w ins a f) ∙ backward (pos f) h a g
