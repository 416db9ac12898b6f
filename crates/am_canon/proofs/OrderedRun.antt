-- Each run of declarations leads to where one leads that has the sorts first, then the symbols, then the axioms.
use Rattle.std.proofs.Common.{◌≡◌, List, [], ◌∷◌, ◌++◌, refl, sym, subst}
use Rattle.std.specs.List.{AllByRecursion}
use Rattle.am_theory.specs.declared.declaration.Declaration.{Declaration}
use Rattle.am_theory.specs.declared.declaration.Declaration.TheVariants as decl
use Rattle.am_theory.specs.Contents.{Contents, with_decl}
use Rattle.am_theory.specs.Traces.{Trace}
use Rattle.am_theory.proofs.NoFault.{IsFaultless, faultless}
use Rattle.am_theory.proofs.OfForm.{of_form}
use Rattle.am_theory.proofs.Sound.{Sound}
use Rattle.am_theory.proofs.SoundAxiom.{sound-with}
use Rattle.am_canon.proofs.FirstNone.{first-none}
use Rattle.am_canon.proofs.Swapped.{IsSwapped, DeclaresSort, DeclaresSymbol, StatesAxiom}
use Rattle.am_canon.proofs.SortFirst.{sort-first}
use Rattle.am_canon.proofs.SortBeforeSymbol.{symbol-behind, new-copy, old-copy, symbol-leaves}
use Rattle.am_canon.proofs.SortBeforeAxiom.{axiom-stands, axiom-leaves}
use Rattle.am_canon.proofs.SymbolBeforeAxiom.{symbol-first}

-- ---- a declaration behind a run that it stood before
pub record IsPassed (c : Contents) (d : Declaration) (es : List Declaration) (last : Contents) : Type 0 where
  pub reached : Contents
  pub run : Trace c es reached
  pub sound : Sound reached
  pub passes : IsFaultless reached d
  pub same : with_decl reached d ≡ last

-- such declarations, each alone, may stand before d
abbrev MaySwap : (Declaration → Type 0) → Declaration → Type 0
MaySwap P d = (c : Contents) (e : Declaration) → P e → Sound c → IsFaultless c d → IsFaultless (with_decl c d) e → IsSwapped c d e

module _ (P : Declaration → Type 0) (d : Declaration) (swap : MaySwap P d) where
  pub pass : (es : List Declaration) (c last : Contents) → Sound c → IsFaultless c d → AllByRecursion P es → Trace (with_decl c d) es last → IsPassed c d es last
  pass [] c last h k all t = record { reached = c; run = refl; sound = h; passes = k; same = t }
  pass (e ∷ es) c last h k all t =
      let s = swap c e all.0 h k (faultless (with_decl c d) e t.0) in
      let p = pass es (with_decl c e) last (sound-with c e h (of_form e t.1) s.before) s.behind all.1 (subst (λ (b : Contents). Trace b es last) s.same t.2) in
      record { reached = p.reached; run = (first-none c e s.before, t.1, p.run); sound = p.sound; passes = p.passes; same = p.same }

sort_past-symbol : (d : Declaration) → DeclaresSymbol d → MaySwap DeclaresSort d
sort_past-symbol d i c e j h k l =
    sort-first c d (symbol-leaves c d i) (new-copy c d i) (old-copy c d i k)
    (λ n p r o u. symbol-behind c n p r o h d i k u) e j l

sort_past-axiom : (d : Declaration) → StatesAxiom d → MaySwap DeclaresSort d
sort_past-axiom (decl.Axiom vs g) i c e j h k l =
    sort-first c (decl.Axiom vs g) (axiom-leaves c vs g) (λ o x. tt) (λ o. tt)
    (λ n p r o u. axiom-stands c n p r o h vs g k) e j l
sort_past-axiom (decl.Sort n r copy) i c e j h k l = absurd i
sort_past-axiom (decl.Subsort n s) i c e j h k l = absurd i
sort_past-axiom (decl.Function n args r) i c e j h k l = absurd i
sort_past-axiom (decl.Relation n args) i c e j h k l = absurd i
sort_past-axiom (decl.Literal n s v) i c e j h k l = absurd i
sort_past-axiom (decl.Routine n inputs outputs) i c e j h k l = absurd i
sort_past-axiom (decl.Value f n args r) i c e j h k l = absurd i

symbol_past-axiom : (d : Declaration) → StatesAxiom d → MaySwap DeclaresSymbol d
symbol_past-axiom (decl.Axiom vs g) i c e j h k l = symbol-first c vs g h k e j l
symbol_past-axiom (decl.Sort n r copy) i c e j h k l = absurd i
symbol_past-axiom (decl.Subsort n s) i c e j h k l = absurd i
symbol_past-axiom (decl.Function n args r) i c e j h k l = absurd i
symbol_past-axiom (decl.Relation n args) i c e j h k l = absurd i
symbol_past-axiom (decl.Literal n s v) i c e j h k l = absurd i
symbol_past-axiom (decl.Routine n inputs outputs) i c e j h k l = absurd i
symbol_past-axiom (decl.Value f n args r) i c e j h k l = absurd i

-- ---- runs in order
pub record Ordered (c last : Contents) : Type 0 where
  pub sorts : List Declaration
  pub symbols : List Declaration
  pub axioms : List Declaration
  pub with_sorts : Contents
  pub with_symbols : Contents
  pub sort_run : Trace c sorts with_sorts
  pub symbol_run : Trace with_sorts symbols with_symbols
  pub axiom_run : Trace with_symbols axioms last
  pub all_sorts : AllByRecursion DeclaresSort sorts
  pub all_symbols : AllByRecursion DeclaresSymbol symbols
  pub all_axioms : AllByRecursion StatesAxiom axioms

module _ (c last : Contents) (sound : Sound c) (d : Declaration) (ds : List Declaration) (t : Trace c (d ∷ ds) last) (o : Ordered (with_decl c d) last) where
  sort_added : DeclaresSort d → Ordered c last
  sort_added h = record {
    sorts = d ∷ o.sorts;
    symbols = o.symbols;
    axioms = o.axioms;
    with_sorts = o.with_sorts;
    with_symbols = o.with_symbols;
    sort_run = (t.0, t.1, o.sort_run);
    symbol_run = o.symbol_run;
    axiom_run = o.axiom_run;
    all_sorts = (h, o.all_sorts);
    all_symbols = o.all_symbols;
    all_axioms = o.all_axioms;
  }

  symbol_added : DeclaresSymbol d → Ordered c last
  symbol_added h =
      let p = pass DeclaresSort d (sort_past-symbol d h) o.sorts c o.with_sorts sound (faultless c d t.0) o.all_sorts o.sort_run in
      record {
        sorts = o.sorts;
        symbols = d ∷ o.symbols;
        axioms = o.axioms;
        with_sorts = p.reached;
        with_symbols = o.with_symbols;
        sort_run = p.run;
        symbol_run = (first-none p.reached d p.passes, t.1, subst (λ (b : Contents). Trace b o.symbols o.with_symbols) (sym p.same) o.symbol_run);
        axiom_run = o.axiom_run;
        all_sorts = o.all_sorts;
        all_symbols = (h, o.all_symbols);
        all_axioms = o.all_axioms;
      }

  axiom_added : StatesAxiom d → Ordered c last
  axiom_added h =
      let p = pass DeclaresSort d (sort_past-axiom d h) o.sorts c o.with_sorts sound (faultless c d t.0) o.all_sorts o.sort_run in
      let q = pass DeclaresSymbol d (symbol_past-axiom d h) o.symbols p.reached o.with_symbols p.sound p.passes o.all_symbols (subst (λ (b : Contents). Trace b o.symbols o.with_symbols) (sym p.same) o.symbol_run) in
      record {
        sorts = o.sorts;
        symbols = o.symbols;
        axioms = d ∷ o.axioms;
        with_sorts = p.reached;
        with_symbols = q.reached;
        sort_run = p.run;
        symbol_run = q.run;
        axiom_run = (first-none q.reached d q.passes, t.1, subst (λ (b : Contents). Trace b o.axioms last) (sym q.same) o.axiom_run);
        all_sorts = o.all_sorts;
        all_symbols = o.all_symbols;
        all_axioms = (h, o.all_axioms);
      }

one_added : (c last : Contents) → Sound c → (d : Declaration) (ds : List Declaration) → Trace c (d ∷ ds) last → Ordered (with_decl c d) last → Ordered c last
one_added c last h (decl.Sort n r copy) ds t o = sort_added c last h (decl.Sort n r copy) ds t o tt
one_added c last h (decl.Subsort n s) ds t o = sort_added c last h (decl.Subsort n s) ds t o tt
one_added c last h (decl.Function n args r) ds t o = symbol_added c last h (decl.Function n args r) ds t o tt
one_added c last h (decl.Relation n args) ds t o = symbol_added c last h (decl.Relation n args) ds t o tt
one_added c last h (decl.Literal n s v) ds t o = symbol_added c last h (decl.Literal n s v) ds t o tt
one_added c last h (decl.Routine n inputs outputs) ds t o = symbol_added c last h (decl.Routine n inputs outputs) ds t o tt
one_added c last h (decl.Value f n args r) ds t o = symbol_added c last h (decl.Value f n args r) ds t o tt
one_added c last h (decl.Axiom vs g) ds t o = axiom_added c last h (decl.Axiom vs g) ds t o tt

pub ordered : (ds : List Declaration) (c last : Contents) → Sound c → Trace c ds last → Ordered c last
ordered [] c last h t = record {
  sorts = [];
  symbols = [];
  axioms = [];
  with_sorts = c;
  with_symbols = c;
  sort_run = refl;
  symbol_run = refl;
  axiom_run = t;
  all_sorts = tt;
  all_symbols = tt;
  all_axioms = tt;
}
ordered (d ∷ ds) c last h t = one_added c last h d ds t (ordered ds (with_decl c d) last (sound-with c d h (of_form d t.1) (faultless c d t.0)) t.2)

-- ---- one run and then another
pub run-append : (ds es : List Declaration) (c mid last : Contents) → Trace c ds mid → Trace mid es last → Trace c (ds ++ es) last
run-append [] es c mid last t u = subst (λ (b : Contents). Trace b es last) (sym t) u
run-append (d ∷ ds) es c mid last t u = (t.0, t.1, run-append ds es (with_decl c d) mid last t.2 u)
