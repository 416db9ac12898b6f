-- The declarations of what a run declares are a run to the same.
use Rattle.std.proofs.Common.{◌≡◌, ◌∙◌, ℕ, List, ◌++◌, map, length, refl, sym, ap, subst, append_assoc}
use Rattle.std.specs.Prelude.{find}
use Rattle.am_syntax.specs.Scopes.{Profile}
use Rattle.am_theory.specs.declared.theory.Axiom.{Axiom}
use Rattle.am_theory.specs.declared.declaration.Declaration.{Declaration}
use Rattle.am_theory.specs.Contents.{Contents, nothing}
use Rattle.am_canon.specs.CanonicalText.{sort_decls, symbol_decls, written_axiom, declarations}
use Rattle.am_theory.specs.Traces.{Trace}
use Rattle.am_theory.proofs.Sound.{Sound}
use Rattle.am_canon.proofs.OrderedRun.{Ordered, ordered, run-append}
use Rattle.am_canon.proofs.SortsBack.{decls-same, AreSortsOf, sorts-back}
use Rattle.am_canon.proofs.Grown.{starts, computes, stands_for, IsBelow}
use Rattle.am_canon.proofs.SymbolsBack.{AreSymbolsOf, symbols-back}
use Rattle.am_canon.proofs.AxiomsBack.{AreAxiomsOf, axioms-back}

-- the declarations of symbols have nothing to do with axioms
without-axioms : (c : Contents) (xs : List Axiom) (k : ℕ) (ys : List Profile) → symbol_decls (record c { axioms = xs }) k ys ≡ symbol_decls c k ys
without-axioms c xs k ys = refl

-- ---- a run in order
module _ (v : ℕ) (start : Sound (nothing v)) (c : Contents) (o : Ordered (nothing v) c) where
  abbrev sorted : Contents
  sorted = o.with_sorts

  abbrev named : Contents
  named = o.with_symbols

  sorts_of : AreSortsOf (nothing v) o.sorts sorted
  sorts_of = sorts-back o.sorts (nothing v) sorted o.all_sorts o.sort_run start

  below : IsBelow sorted
  below = record {
    routines = λ k h. ap (find (starts k)) sorts_of.routines;
    functions = λ k h. ap (find (computes k)) sorts_of.functions;
    literals = λ k h. ap (find (stands_for k)) sorts_of.literals;
  }

  symbols_of : AreSymbolsOf sorted o.symbols named
  symbols_of = symbols-back o.symbols sorted named o.all_symbols o.symbol_run below

  axioms_of : AreAxiomsOf named o.axioms c
  axioms_of = axioms-back o.axioms named c o.all_axioms o.axiom_run

  names-again : c.sorts ≡ sorted.sorts
  names-again = ap (λ (b : Contents). b.sorts) axioms_of.rest ∙ symbols_of.grown.sorts

  sorts-again : sort_decls c c.sorts c.parents c.reps c.copies ≡ o.sorts
  sorts-again =
      decls-same c sorted names-again c.sorts c.parents c.reps c.copies
      ∙ ap (λ (b : Contents). sort_decls sorted b.sorts b.parents b.reps b.copies) axioms_of.rest
      ∙ ap (λ ns. sort_decls sorted ns named.parents named.reps named.copies) symbols_of.grown.sorts
      ∙ ap (λ ps. sort_decls sorted sorted.sorts ps named.reps named.copies) symbols_of.grown.parents
      ∙ ap (λ rs. sort_decls sorted sorted.sorts sorted.parents rs named.copies) symbols_of.grown.reps
      ∙ ap (λ ks. sort_decls sorted sorted.sorts sorted.parents sorted.reps ks) symbols_of.grown.copies
      ∙ sorts_of.back

  symbols-again : symbol_decls c 0 c.symbols ≡ o.symbols
  symbols-again =
      ap (λ (b : Contents). symbol_decls b 0 b.symbols) axioms_of.rest
      ∙ without-axioms named c.axioms 0 named.symbols
      ∙ ap (symbol_decls named 0) (symbols_of.grown.symbols ∙ ap (λ ys. ys ++ symbols_of.more) sorts_of.symbols)
      ∙ ap (λ (ys : List Profile). symbol_decls named (length ys) symbols_of.more) (sym sorts_of.symbols)
      ∙ symbols_of.back

  axioms-again : map (written_axiom c) c.axioms ≡ o.axioms
  axioms-again =
      ap (map (written_axiom c)) (axioms_of.axioms ∙ ap (λ xs. xs ++ axioms_of.more) (symbols_of.grown.axioms ∙ sorts_of.axioms))
      ∙ axioms_of.back

  in_order : declarations c ≡ o.sorts ++ (o.symbols ++ o.axioms)
  unfolding declarations
  in_order =
      append_assoc (sort_decls c c.sorts c.parents c.reps c.copies) (symbol_decls c 0 c.symbols) (map (written_axiom c) c.axioms)
      ∙ ap (λ ds. ds ++ (symbol_decls c 0 c.symbols ++ map (written_axiom c) c.axioms)) sorts-again
      ∙ ap (λ ds. o.sorts ++ (ds ++ map (written_axiom c) c.axioms)) symbols-again
      ∙ ap (λ ds. o.sorts ++ (o.symbols ++ ds)) axioms-again

  again : Trace (nothing v) (declarations c) c
  again =
      subst (λ (ds : List Declaration). Trace (nothing v) ds c) (sym in_order)
      (run-append o.sorts (o.symbols ++ o.axioms) (nothing v) sorted c o.sort_run
      (run-append o.symbols o.axioms sorted named c o.symbol_run o.axiom_run))

pub declared-again : (v : ℕ) → Sound (nothing v) → (ds : List Declaration) (c : Contents) → Trace (nothing v) ds c → Trace (nothing v) (declarations c) c
declared-again v start ds c t = again v start c (ordered ds (nothing v) c start t)
