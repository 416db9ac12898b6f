-- The axioms of the example theory are true in the example world.
use Rattle.std.proofs.Common.{◌≡◌, ◌∙◌, ◌==◌, ℕ, Bool, true, refl, sym, ap, subst, arith, Option, Some, None, List, [], map, IsTrue}
use Rattle.std.proofs.lemmas.Bool.Decides.{nat_tests}
use Rattle.std.proofs.lemmas.Int.{ints}
use Rattle.std.specs.List.{AllByRecursion}
use Rattle.am_term.specs.declared.id.SortId.{SortId}
use Rattle.am_term.specs.declared.id.SymId.{SymId}
use Rattle.am_term.specs.declared.term.Term.{Term}
use Rattle.am_term.specs.declared.term.Atom.TheVariants.{Eq}
use Rattle.am_term.specs.declared.term.Formula.{Formula}
use Rattle.am_term.specs.FoldFormula.{fold-Atom}
use Rattle.am_theory.specs.declared.theory.Axiom.{Axiom}
use Rattle.am_theory.specs.Contents.{Contents}
use Rattle.am_world.specs.Interpretation.{GivesMember}
use Rattle.am_world.specs.Truth.{truth, truth_step}
use Rattle.am_world.specs.Value.{Assignment, value, value-Var, value-App}
use Rattle.am_example.specs.ExampleSymbols as symbol
use Rattle.am_example.specs.ExampleTheory.{te, equation, time_axiom, place_axiom, nearest_axiom, angle_axiom}
use Rattle.am_example.specs.ExampleWorld.{example_world}
use Rattle.am_example.specs.Laws.{IsExampleWorld, ModelsExample}
use Rattle.am_example.specs.Whole.{zigzag}
use Rattle.am_example.proofs.Telling.{told}

same_number : (m n : ℕ) → m ≡ n → (m == n) ≡ true
same_number m n e = grind (arith, nat_tests)

module _ (a : Assignment) where
  equation_true : (l r : Term) → value example_world [] a l ≡ value example_world [] a r → IsTrue (truth example_world [] a (equation l r))
  unfolding truth
  equation_true l r e = fold-Atom Bool (truth_step example_world [] a) (Eq l r) ∙ same_number (value example_world [] a l) (value example_world [] a r) e

  time_true : IsTrue (truth example_world [] a time_axiom.formula)
  time_true = equation_true _ _ (simp (value-App, value-Var, told) refl)

  place_true : IsTrue (truth example_world [] a place_axiom.formula)
  place_true = equation_true _ _ (simp (value-App, value-Var, told) (ap zigzag (omega (arith, ints))))

  nearest_true : IsTrue (truth example_world [] a nearest_axiom.formula)
  nearest_true = equation_true _ _ (simp (value-App, value-Var, told) (ap zigzag (omega (arith, ints))))

  longitude_true : IsTrue (truth example_world [] a (angle_axiom symbol.longitude symbol.reclat-lon).formula)
  longitude_true = equation_true _ _ (simp (value-App, value-Var, told) refl)

  latitude_true : IsTrue (truth example_world [] a (angle_axiom symbol.latitude symbol.reclat-lat).formula)
  latitude_true = equation_true _ _ (simp (value-App, value-Var, told) refl)

  axioms_true : AllByRecursion (λ (f : Formula). IsTrue (truth example_world [] a f)) (map (λ (x : Axiom). x.formula) te.axioms)
  axioms_true = (time_true, (place_true, (nearest_true, (longitude_true, (latitude_true, tt)))))

gives_member : (f : SymId) (s : Option SortId) (ns : List ℕ) → GivesMember example_world f s ns
gives_member f None ns = tt
gives_member f (Some s) ns = refl

is_world : IsExampleWorld
is_world t is = record { inhabited = λ s h. (0, refl); upward = λ s p e n h. refl; closed = λ f y e ns h. gives_member f y.result ns }

pub models : ModelsExample
models t is = record {
  world = is_world t is;
  hold = λ a h. subst (λ (xs : List Axiom). AllByRecursion (λ (f : Formula). IsTrue (truth example_world [] a f)) (map (λ (x : Axiom). x.formula) xs)) (sym (ap (λ (c : Contents). c.axioms) is)) (axioms_true a);
}
