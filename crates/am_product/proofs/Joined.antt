-- A log and a unit joined to one text, and that there is one such text.
use Rattle.std.proofs.Common.{◌≡◌, ◌∙◌, ◌++◌, refl, sym, ap, subst, ℕ, List, [], Option, Some, None}
use Rattle.std.specs.List.{flat_map}
use Rattle.std.specs.Prelude.{codes}
use Rattle.am_term.specs.declared.term.Term.{Term}
use Rattle.am_clause.specs.declared.clause.Clause.{Clause}
use Rattle.am_clause.specs.declared.row.Row.{Row}
use Rattle.am_clause.specs.declared.row.Log.{Log}
use Rattle.am_theory.specs.declared.theory.Theory.{Theory}
use Rattle.am_diagram.specs.declared.diagram.Diagram.{Diagram}
use Rattle.am_log.specs.Text.{log_text}
use Rattle.am_fortran.specs.declared.statement.Decl.{Decl}
use Rattle.am_fortran.specs.declared.statement.Statement.{Statement}
use Rattle.am_fortran.specs.declared.unit.Unit.{Unit as Subroutine}
use Rattle.am_fortran.specs.Text.{line, head_text, declaration_text, statement_text, unit_text}
use Rattle.am_plan.specs.Plan.{IsPlan}
use Rattle.am_check.specs.Accepted.{EndsWith}
use Rattle.am_product.specs.Laws.{OneProduct}
use Rattle.am_product.specs.Planned.{IsPlanned}
use Rattle.am_product.specs.Product.{IsProduct}

pub joins : (t : Theory) (d : Diagram) (log : Log) (unit : Subroutine) (text : List ℕ) → IsPlanned t d log.rows unit → text ≡ log_text t d log ++ unit_text unit → IsProduct t d log text
joins t d log unit text p e = record { answer = p.answer; ends = p.ends; unit = unit; planned = p.is; is = e }

-- ---- one text

-- the text of a unit's parts
abbrev parts_text : List ℕ → List (List ℕ) → List Decl → List Statement → List ℕ
parts_text name dummies declarations statements = head_text name dummies ++ flat_map declaration_text declarations ++ flat_map statement_text statements ++ line (codes "END")

text-parts : (u : Subroutine) → unit_text u ≡ parts_text u.name u.dummies u.declarations u.statements
unfolding unit_text
text-parts u = refl

-- what the plan of an answer fixes is all that stands in a unit's text
one-unit : (t : Theory) (d : Diagram) (answer : List Term) (u v : Subroutine) → IsPlan t d answer u → IsPlan t d answer v → unit_text u ≡ unit_text v
one-unit t d answer u v p q =
    text-parts u
    ∙ ap (λ (x : List ℕ). parts_text x u.dummies u.declarations u.statements) (p.name ∙ sym q.name)
    ∙ ap (λ (x : List (List ℕ)). parts_text v.name x u.declarations u.statements) (p.dummies ∙ sym q.dummies)
    ∙ ap (λ (x : List Decl). parts_text v.name v.dummies x u.statements) (p.declarations ∙ sym q.declarations)
    ∙ ap (λ (x : List Statement). parts_text v.name v.dummies v.declarations x) (p.statements ∙ sym q.statements)
    ∙ sym (text-parts v)

ends-one : (rows : List Row) (x y : List Term) → EndsWith rows x → EndsWith rows y → x ≡ y
ends-one rows x y e f = ap answer_of (sym e ∙ f)
  where
    term_in : Option (List Term) → List Term
    term_in None = []
    term_in (Some ts) = ts

    answer_of : Option Clause → List Term
    answer_of None = []
    answer_of (Some c) = term_in c.answer

pub one-product : OneProduct
one-product t d log text other p q =
    let same = ends-one log.rows p.answer q.answer p.ends q.ends in
    let plan = subst (λ (x : List Term). IsPlan t d x q.unit) (sym same) q.planned in
    p.is ∙ ap (λ (x : List ℕ). log_text t d log ++ x) (one-unit t d p.answer p.unit q.unit p.planned plan) ∙ sym q.is
