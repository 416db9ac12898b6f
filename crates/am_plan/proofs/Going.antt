-- Units whose statements go on without a fault.
use Rattle.std.proofs.Common.{◌≡◌, ◌∙◌, ◌+◌, ◌++◌, ℕ, Bool, false, refl, sym, ap, subst, List, [], ◌∷◌, Option, Some, None, Ok, Err, length, if◌then◌else◌}
use Rattle.am_term.specs.declared.id.SortId.{SortId}
use Rattle.am_term.specs.declared.term.Term.{Term}
use Rattle.am_theory.specs.declared.theory.Theory.{Theory}
use Rattle.am_diagram.specs.declared.diagram.Diagram.{Diagram}
use Rattle.am_diagram.specs.Listed.{entry_names, entry_sorts}
use Rattle.am_fortran.specs.declared.statement.Statement.{Statement}
use Rattle.am_fortran.specs.declared.unit.Unit.{Unit as Subroutine}
use Rattle.am_exec.specs.declared.fault.ExecKind.{ExecKind}
use Rattle.am_exec.specs.declared.fault.ExecKind.TheVariants.{BadDeclaration}
use Rattle.am_exec.specs.States.{Store, inputs_held}
use Rattle.am_exec.specs.Effects.{put}
use Rattle.am_exec.specs.ItemFaults.{is_bad_head, lacks_dummy, statement_kind}
use Rattle.am_exec.specs.Terms.{◌>>=◌, fault_at, bad_declaration, terms_held, outputs_or_unset, unless, stated, after_declarations, terms}
use Rattle.am_exec.proofs.Passing.{Passes}

pub kind-none : (t : Theory) (d : Diagram) (u : Subroutine) (ins : List SortId) (store : Store) (s : Statement) → Passes t d u ins store s → statement_kind t d u ins store s ≡ None
kind-none t d u ins store s p = rw (p.known, p.counted, p.set, p.sorted, p.once, p.declared, p.small) refl

-- from one store the statements lead to another
abbrev pub Goes : Theory → Diagram → Subroutine → Store → List Statement → Store → Type 0
Goes t d u store [] end = store ≡ end
Goes t d u store (s ∷ ss) end = Passes t d u (entry_sorts d.inputs) store s × Goes t d u (put t d store s) ss end

module _ (t : Theory) (d : Diagram) (u : Subroutine) where
  pub goes-append : (store middle end : Store) (ss more : List Statement) → Goes t d u store ss middle → Goes t d u middle more end → Goes t d u store (ss ++ more) end
  goes-append store middle end [] more g k = subst (λ (x : Store). Goes t d u x more end) (sym g) k
  goes-append store middle end (s ∷ ss) more g k = (g.0, goes-append (put t d store s) middle end ss more g.1 k)

  -- one statement
  pub goes-one : (store end : Store) (s : Statement) → Passes t d u (entry_sorts d.inputs) store s → put t d store s ≡ end → Goes t d u store (s ∷ []) end
  goes-one store end s p e = (p, e)

  pub stated-goes : (item : ℕ) (store end : Store) (ss : List Statement) (ts : List Term) → Goes t d u store ss end → lacks_dummy u ≡ false → terms_held end (entry_names d.outputs) ≡ Some ts → stated t d u item store ss ≡ Ok ts
  stated-goes item store end [] ts g l e =
      ap (λ (b : Bool). if b then Err (fault_at item BadDeclaration) else outputs_or_unset item (terms_held store (entry_names d.outputs))) l
      ∙ ap (λ (x : Store). outputs_or_unset item (terms_held x (entry_names d.outputs))) g
      ∙ ap (outputs_or_unset item) e
  stated-goes item store end (s ∷ ss) ts g l e =
      ap (λ (o : Option ExecKind). unless item o (put t d store s) >>= (λ (next : Store). stated t d u (item + 1) next ss)) (kind-none t d u (entry_sorts d.inputs) store s g.0)
      ∙ stated-goes (item + 1) (put t d store s) end ss ts g.1 l e

  pub terms-go : (end : Store) (ts : List Term) → is_bad_head d u ≡ false → bad_declaration t d u [] u.declarations ≡ None → Goes t d u (inputs_held d.inputs) u.statements end → lacks_dummy u ≡ false → terms_held end (entry_names d.outputs) ≡ Some ts → terms t d u ≡ Ok ts
  unfolding terms
  terms-go end ts head declarations g l e =
      ap (λ (b : Bool). if b then Err (fault_at 1 BadDeclaration) else after_declarations t d u (bad_declaration t d u [] u.declarations)) head
      ∙ ap (after_declarations t d u) declarations
      ∙ stated-goes (length u.declarations + 2) (inputs_held d.inputs) end u.statements ts g l e
