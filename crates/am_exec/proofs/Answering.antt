-- Answers of steps, and the answer of the whole.
use Rattle.std.proofs.Common.{◌≡◌, ◌∙◌, ◌⊎◌, ◌++◌, ◌&&◌, ◌≤◌, ℕ, suc, true, false, Bool, not, refl, sym, ap, arith, inl, inr, List, [], ◌∷◌, Option, Some, None, Result, Ok, Err, length, append_assoc, length-append}
use Rattle.std.proofs.lemmas.Grind.{common_steps}
use Rattle.std.proofs.lemmas.Bool.Decides.{nat_tests}
use Rattle.std.specs.Str.{bytes_eq}
use Rattle.am_term.specs.declared.id.SortId.{SortId}
use Rattle.am_term.specs.declared.term.Term.{Term}
use Rattle.am_term.proofs.Tests.{and_right}
use Rattle.am_exec.specs.declared.fault.ExecFault.{ExecFault}
use Rattle.am_diagram.specs.declared.diagram.Diagram.{Diagram}
use Rattle.am_diagram.specs.Listed.{entry_names}
use Rattle.am_fortran.specs.declared.unit.Unit.{Unit as Subroutine}
use Rattle.am_exec.specs.Lawful.{dummies_of}
use Rattle.am_exec.specs.ItemFaults.{same_names, is_bad_head}
use Rattle.am_exec.specs.Terms.{◌>>=◌, with_held_term, no_memory}

-- a fault of a step is the fault of the whole
pub passed : {A B : Type 0} (f : ExecFault) (read : Result A ExecFault) (go : A → Result B ExecFault) (whole : Result B ExecFault) → (f ≡ no_memory) ⊎ (read ≡ Err f) → (read >>= go) ≡ whole → (f ≡ no_memory) ⊎ (whole ≡ Err f)
passed f read go whole (inl e) is = inl e
passed f read go whole (inr e) is = inr (sym is ∙ ap (λ r. r >>= go) e)

-- what a step gives goes on
pub going : {A B : Type 0} (x : A) (read : Result A ExecFault) (go : A → Result B ExecFault) (whole : Result B ExecFault) → read ≡ Ok x → (read >>= go) ≡ whole → go x ≡ whole
going x read go whole e is = sym (ap (λ r. r >>= go) e) ∙ is

-- terms in front of others, if there are others
abbrev pub in_front : List Term → Option (List Term) → Option (List Term)
in_front made None = None
in_front made (Some ts) = Some (made ++ ts)

pub in_front-none : (o : Option (List Term)) → in_front [] o ≡ o
in_front-none None = refl
in_front-none (Some ts) = refl

-- one more term
pub one_more : (made : List Term) (t : Term) (o : Option (List Term)) → in_front (made ++ t ∷ []) o ≡ in_front made (with_held_term (Some t) o)
one_more made t None = refl
one_more made t (Some ts) = ap Some (append_assoc made (t ∷ []) ts)

-- the dummies of a right head are as many as the inputs and the outputs
pub names-counted : (ns : List (List ℕ)) (es : List (List ℕ × SortId)) → same_names ns (entry_names es) ≡ true → length es ≡ length ns
names-counted [] [] e = refl
names-counted [] (x ∷ es) e = absurd cc
names-counted (n ∷ ns) [] e = absurd cc
names-counted (n ∷ ns) (x ∷ es) e = ap suc (names-counted ns es (and_right (bytes_eq n x.0) (same_names ns (entry_names es)) e))

pub inputs-few : (d : Diagram) (u : Subroutine) → is_bad_head d u ≡ false → length d.inputs ≤ length u.dummies
inputs-few d u e =
    let both : (bytes_eq u.name d.name && same_names u.dummies (entry_names (dummies_of d))) ≡ true = not_false _ e in
    let counted : length (d.inputs ++ d.outputs) ≡ length u.dummies = names-counted u.dummies (dummies_of d) (and_right (bytes_eq u.name d.name) (same_names u.dummies (entry_names (dummies_of d))) both) in
    omega (arith, length-append d.inputs d.outputs)
  where
    not_false : (b : Bool) → not b ≡ false → b ≡ true
    not_false true e = refl
    not_false false e = absurd cc

pub ruleset answering = (common_steps, nat_tests, in_front-none, one_more)
