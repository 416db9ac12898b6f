-- The form of a row is little higher than its terms nest, and a step has as many lists of terms as its rule binds rows.
use Rattle.std.proofs.Common.{◌≡◌, ◌∙◌, ◌+◌, ◌++◌, ◌≤◌, ℕ, pos, Bool, true, false, arith, ap}
use Rattle.std.proofs.Common.{List, [], ◌∷◌, map, length, slice_index_or, Option, Some, None}
use Rattle.std.specs.Prelude.{codes}
use Rattle.std.specs.List.{AllByRecursion}
use Rattle.am_term.specs.declared.id.SortId.{SortId}
use Rattle.am_term.specs.declared.id.SymId.{SymId}
use Rattle.am_term.specs.declared.signature.Signature.{Signature}
use Rattle.am_term.specs.declared.term.Atom.{Atom}
use Rattle.am_term.specs.declared.term.Atom.TheVariants.{Rel, Eq}
use Rattle.am_term.specs.declared.term.Literal.{Literal}
use Rattle.am_term.specs.declared.term.Term.{Term}
use Rattle.am_term.specs.declared.term.Term.TheVariants.{Var, In, App}
use Rattle.am_term.specs.Induct.{term_induct}
use Rattle.am_term.specs.Parts.{parts_of}
use Rattle.am_term.specs.Span.{greatest}
use Rattle.am_text.specs.declared.form.Form.{Form}
use Rattle.am_text.specs.declared.form.FormNode.TheVariants as node
use Rattle.am_text.specs.Grammar.{height, highest}
use Rattle.am_text.proofs.Folds.{height-Word, height-Number, height-form}
use Rattle.am_syntax.specs.Forms.{word_form}
use Rattle.am_clause.specs.declared.clause.Clause.{Clause}
use Rattle.am_clause.specs.declared.row.Row.{Row}
use Rattle.am_clause.specs.declared.row.Rule.{Rule}
use Rattle.am_clause.specs.declared.row.Rule.TheVariants as rule
use Rattle.am_clause.specs.declared.row.Side.{Side}
use Rattle.am_clause.specs.declared.row.Side.TheVariants.{Left, Right}
use Rattle.am_clause.specs.Rules.{OneParent, TwoParents, factor, reflex, close, resolve, para, rewrite}
use Rattle.am_clause.specs.Steps.{Sources, IsStart, FromOne, FromTwo, Follows}
use Rattle.am_log.specs.declared.named.NamedTerm.{NamedTerm}
use Rattle.am_log.specs.Naming.{Names, applied, named, named-Var, named-In, named-App, named_atom, named_literal}
use Rattle.am_log.specs.Naming.{named_answer}
use Rattle.am_log.specs.Spelled.{variable_word, number_form, term_form, form-Variable, form-Alone, form-Headed, atom_form}
use Rattle.am_log.specs.Spelled.{signed_form, literal_form, bindings_form, side_form, path_form, rule_word, rule_members}
use Rattle.am_log.specs.Spelled.{rows_bound, rule_form, clause_form, answer_forms}
use Rattle.am_derivation.specs.Sizes.{nesting, nesting-App, AreLow, terms_of_answer}
use Rattle.am_acceptance.specs.Rows.{LowRowsHaveLowForms, StepsAreBound}
use Rattle.am_acceptance.proofs.MeaningsLow.{height-headed, height-list}

-- ---- forms of words and numbers, and lists of forms

word-height : (w : List ℕ) → height (word_form w) ≡ 0
word-height w = height-form 0 (node.Word w) ∙ height-Word w

number-height : (n : ℕ) → height (number_form n) ≡ 0
number-height n = height-form 0 (node.Number (pos n)) ∙ height-Number (pos n)

-- each of the forms is at most so high
module _ (most : ℕ) where
  abbrev AreForms : List Form → Type 0
  AreForms fs = highest fs ≤ most

  more-forms : (f : Form) (fs : List Form) → height f ≤ most → AreForms fs → AreForms (f ∷ fs)
  more-forms f fs h k = omega arith

  joined-forms : (fs gs : List Form) → AreForms fs → AreForms gs → AreForms (fs ++ gs)
  joined-forms [] gs h k = k
  joined-forms (f ∷ fs) gs h k =
      let first : height f ≤ most = omega arith in
      let behind : highest fs ≤ most = omega arith in
      more-forms f (fs ++ gs) first (joined-forms fs gs behind k)

numbers-low : (ns : List ℕ) → highest (map number_form ns) ≤ 0
numbers-low [] = omega arith
numbers-low (n ∷ ns) =
    let one = number-height n in more-forms 0 (number_form n) (map number_form ns) (omega arith) (numbers-low ns)

-- ---- terms

module _ (names : Names) where
  abbrev IsTerm : Term → Type 0
  IsTerm t = height (term_form (named names t)) ≤ nesting t

  abbrev AreTerms : List Term → Type 0
  AreTerms ts = highest (map term_form (map (named names) ts)) ≤ greatest (map nesting ts)

  term-Var : (n : ℕ) (s : SortId) → IsTerm (Var n s)
  term-Var n s =
      let is = ap (λ (t : NamedTerm). height (term_form t)) (named-Var names n s)
      ∙ (ap height (form-Variable _ n) ∙ word-height (variable_word _ n)) in
      omega arith

  term-In : (k : ℕ) → IsTerm (In k)
  term-In k =
      let is = ap (λ (t : NamedTerm). height (term_form t)) (named-In names k) ∙ (ap height (form-Alone _) ∙ word-height _) in
      omega arith

  applied-low : (w : List ℕ) (ts : List NamedTerm) → height (term_form (applied w ts)) ≤ highest (map term_form ts) + 1
  applied-low w [] = let is = ap height (form-Alone w) ∙ word-height w in omega arith
  applied-low w (t ∷ ts) =
      let is = ap height (form-Headed w (t ∷ ts)) ∙ height-headed w (map term_form (t ∷ ts)) in omega arith

  term-App : (f : SymId) (args : List Term) → AreTerms args → IsTerm (App f args)
  term-App f args h =
      let is = ap (λ (t : NamedTerm). height (term_form t)) (named-App names f args) in
      let low = applied-low (slice_index_or names.symbols f.0 []) (map (named names) args) in
      let deep = nesting-App f args in
      omega arith

  term-more : (t : Term) (ts : List Term) → IsTerm t → AreTerms ts → AreTerms (t ∷ ts)
  term-more t ts h k = omega arith

  term-low : (t : Term) → IsTerm t
  term-low = term_induct IsTerm AreTerms term-Var term-In term-App (omega arith) term-more

  module _ (most : ℕ) where
    terms-low : (ts : List Term) → AreLow most ts → highest (map term_form (map (named names) ts)) ≤ most
    terms-low [] h = omega arith
    terms-low (t ∷ ts) h =
        let one = term-low t in
        let low = h.0 in
        more-forms most (term_form (named names t)) (map term_form (map (named names) ts)) (omega arith)
        (terms-low ts h.1)

    -- ---- clauses

    atom-low : (a : Atom) → AreLow most (parts_of a) → height (atom_form (named_atom names a)) ≤ most + 1
    atom-low (Rel r []) h = let is = word-height (slice_index_or names.symbols r.0 []) in omega arith
    atom-low (Rel r (t ∷ ts)) h =
        let is = height-headed (slice_index_or names.symbols r.0 []) (map term_form (map (named names) (t ∷ ts))) in
        let low = terms-low (t ∷ ts) h in
        omega arith
    atom-low (Eq left right) h =
        let is = height-headed (codes "=") (map term_form (map (named names) (left ∷ right ∷ []))) in
        let low = terms-low (left ∷ right ∷ []) h in
        omega arith

    signed-low : (b : Bool) (f : Form) → height f ≤ most + 1 → height (signed_form b f) ≤ most + 2
    signed-low true f h = omega arith
    signed-low false f h = let is = height-headed (codes "not") (f ∷ []) in omega arith

    literals-low : (ls : List Literal) → AllByRecursion (λ (l : Literal). AreLow most (parts_of l.atom)) ls
        → highest (map literal_form (map (named_literal names) ls)) ≤ most + 2
    literals-low [] h = omega arith
    literals-low (l ∷ ls) h =
        more-forms (most + 2) (literal_form (named_literal names l)) (map literal_form (map (named_literal names) ls))
        (signed-low l.positive (atom_form (named_atom names l.atom)) (atom-low l.atom h.0)) (literals-low ls h.1)

    answer-low : (o : Option (List Term)) → AreLow most (terms_of_answer o)
        → highest (answer_forms (named_answer names o)) ≤ most + 1
    answer-low None h = omega arith
    answer-low (Some ts) h =
        let is = height-headed (codes "answer") (map term_form (map (named names) ts)) in
        let low = terms-low ts h in
        omega arith

    -- ---- rules

    lists-low : (with : List (List Term)) → AllByRecursion (AreLow most) with
        → highest (map bindings_form (map (map (named names)) with)) ≤ most + 1
    lists-low [] h = omega arith
    lists-low (ts ∷ with) h =
        let is = height-headed (codes "with") (map term_form (map (named names) ts)) in
        let low = terms-low ts h.0 in
        more-forms (most + 1) (bindings_form (map (named names) ts)) (map bindings_form (map (map (named names)) with))
        (omega arith) (lists-low with h.1)

side-height : (s : Side) → height (side_form s) ≡ 0
side-height Left = word-height (codes "left")
side-height Right = word-height (codes "right")

path-height : (path : List ℕ) → height (path_form path) ≤ 1
path-height path =
    let is = height-list (map number_form path) in
    let low = numbers-low path in
    omega arith

-- numbers, a side and a path
module _ (n m : ℕ) (s : Side) (j i : ℕ) (path : List ℕ) where
  abbrev placed : List Form
  placed = number_form n ∷ number_form m ∷ side_form s ∷ number_form j ∷ number_form i ∷ path_form path ∷ []

  placed-low : highest placed ≤ 1
  placed-low =
      let a = number-height n in
      let b = number-height m in
      let c = side-height s in
      let e = number-height j in
      let f = number-height i in
      let g = path-height path in
      omega arith

numbers-members : (ns : List ℕ) → highest (map number_form ns) ≤ 1
numbers-members ns = let low = numbers-low ns in omega arith

members-low : (r : Rule) → highest (rule_members r) ≤ 1
members-low (rule.Axiom a c) = numbers-members (a ∷ c ∷ [])
members-low rule.Goal = numbers-members []
members-low (rule.Given k) = numbers-members (k ∷ [])
members-low (rule.Factor p i j) = numbers-members (p ∷ i ∷ j ∷ [])
members-low (rule.Reflex p i) = numbers-members (p ∷ i ∷ [])
members-low (rule.Resolve p i q j) = numbers-members (p ∷ i ∷ q ∷ j ∷ [])
members-low (rule.Para p j side q i path) = placed-low p j side q i path
members-low (rule.Rewrite p j side q i path) = placed-low p j side q i path
members-low (rule.Close p) = numbers-members (p ∷ [])

pub low-forms : LowRowsHaveLowForms
low-forms names k most row h =
    let members : List Form = rule_members row.rule in
    let lists : List Form = map bindings_form (map (map (named names)) row.with) in
    let few = members-low row.rule in
    let behind : highest (members ++ lists) ≤ most + 1 =
    joined-forms (most + 1) members lists (omega arith) (lists-low names most row.with h.lists) in
    let by : height (rule_form row.rule (map (map (named names)) row.with)) ≡ 1 + highest (members ++ lists) =
    height-headed (rule_word row.rule) (members ++ lists) in
    let literals : List Form = map literal_form (map (named_literal names) row.clause.literals) in
    let of_literals = literals-low names most row.clause.literals h.literals in
    let clause : height (clause_form (map (named_literal names) row.clause.literals)) ≡ 1 + highest literals =
    height-headed (codes "or") literals in
    let answer = answer-low names most row.clause.answer h.answer in
    let number = number-height k in
    let whole = height-list (number_form k ∷ rule_form row.rule (map (map (named names)) row.with)
    ∷ clause_form (map (named_literal names) row.clause.literals) ∷ answer_forms (named_answer names row.clause.answer)) in
    omega arith

-- ---- lists of terms

start-bound : (o : Option Clause) (with : List (List Term)) (d : Clause) → IsStart o with d → length with ≡ 0
start-bound o with d s = ap length s.unbound

one-bound : (sig : Signature) (ins : List SortId) (rows : List Row) (rule : OneParent) (m : ℕ) (with : List (List Term))
    (d : Clause) → FromOne sig ins rows rule m with d → length with ≡ 1
one-bound sig ins rows rule m with d s = ap length s.bound_by

two-bound : (sig : Signature) (ins : List SortId) (rows : List Row) (rule : TwoParents) (m n : ℕ)
    (with : List (List Term)) (d : Clause) → FromTwo sig ins rows rule m n with d → length with ≡ 2
two-bound sig ins rows rule m n with d s = ap length s.bound_by

module _ (sig : Signature) (ins : List SortId) (from : Sources) (rows : List Row) where
  lists-bound : (r : Rule) (with : List (List Term)) (d : Clause) → Follows sig ins from rows r with d
      → length with ≡ rows_bound r
  lists-bound (rule.Axiom k c) with d f = start-bound (from.axioms k c) with d f
  lists-bound rule.Goal with d f = start-bound (Some from.goal) with d f
  lists-bound (rule.Given k) with d f = start-bound (from.givens k) with d f
  lists-bound (rule.Factor m i j) with d f = one-bound sig ins rows (factor i j) m with d f
  lists-bound (rule.Reflex m i) with d f = one-bound sig ins rows (reflex i) m with d f
  lists-bound (rule.Resolve m i n j) with d f = two-bound sig ins rows (resolve i j) m n with d f
  lists-bound (rule.Para m j side n i path) with d f = two-bound sig ins rows (para j side i path) m n with d f
  lists-bound (rule.Rewrite m j side n i path) with d f = two-bound sig ins rows (rewrite j side i path) m n with d f
  lists-bound (rule.Close m) with d f = one-bound sig ins rows close m with d f

pub steps-bound : StepsAreBound
steps-bound sig ins from rows row s = lists-bound sig ins from rows row.rule row.with row.clause s.follows
