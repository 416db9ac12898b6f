-- Which answers there is a subroutine for.
use Rattle.std.specs.Prelude.{◌≤◌, ◌&&◌, ℕ, Bool, true, false, List, [], ◌∷◌, slice_get, IsTrue}
use Rattle.std.specs.List.{list_all}
use Rattle.am_term.specs.declared.id.SortId.{SortId}
use Rattle.am_term.specs.declared.signature.Signature.{Signature}
use Rattle.am_term.specs.declared.term.Term.{Term}
use Rattle.am_term.specs.declared.term.Term.TheOpen.{Term-F}
use Rattle.am_term.specs.declared.term.Term.TheFolds.{fold-Term}
use Rattle.am_term.specs.Sorting.{term_fits}
use Rattle.am_term.specs.Weight.{nodes}
use Rattle.am_clause.specs.Final.{is_computable_symbol}
use Rattle.am_theory.specs.declared.theory.Theory.{Theory}
use Rattle.am_diagram.specs.declared.diagram.Diagram.{Diagram}
use Rattle.am_diagram.specs.Listed.{entry_sorts}

abbrev pub weight_limit : ℕ
weight_limit = 400

abbrev pub ready_step : Signature → Term-F Bool → Bool
ready_step sig (Term-F.Var n s) = false
ready_step sig (Term-F.In k) = true
ready_step sig (Term-F.App f bs) = is_computable_symbol (slice_get sig.symbols f.0) && list_all (λ b. b) bs

-- it has no variables, and a program can compute each of its symbols
unfoldable pub is_ready : Signature → Term → Bool
is_ready sig = fold-Term Bool (ready_step sig)

-- a term for an output of this sort
pub record ServesOutput (t : Theory) (d : Diagram) (sort : SortId) (x : Term) : Type 0 where
  pub sorted : IsTrue (term_fits t.sig (entry_sorts d.inputs) x sort)
  pub ready : IsTrue (is_ready t.sig x)
  pub small : nodes x ≤ weight_limit

-- one term for each output
abbrev pub AllServe : Theory → Diagram → List (List ℕ × SortId) → List Term → Type 0
AllServe t d [] [] = Unit {0}
AllServe t d [] (x ∷ xs) = ⊥
AllServe t d (o ∷ os) [] = ⊥
AllServe t d (o ∷ os) (x ∷ xs) = ServesOutput t d o.1 x × AllServe t d os xs

abbrev pub IsAnswerFor : Theory → Diagram → List Term → Type 0
IsAnswerFor t d answer = AllServe t d d.outputs answer
