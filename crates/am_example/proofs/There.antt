-- Some theory has what the example theory has.
use Rattle.std.proofs.Common.{◌≡◌, refl, ap, List, [], ◌∷◌, map, is_some}
use Rattle.std.specs.List.{AllByRecursion}
use Rattle.am_term.specs.declared.symbol.Symbol.{Symbol}
use Rattle.am_term.specs.Symbols.{has_result}
use Rattle.am_syntax.specs.Scopes.{Profile, profile}
use Rattle.am_example.specs.ExampleTheory.{te, te_symbols, te_parents}
use Rattle.am_example.specs.Laws.{HasTheory}
use Rattle.am_example.proofs.Orphans.{orphans}

abbrev Agrees : Profile → Type 0
Agrees p = is_some p.result ≡ has_result p.kind

of_profiles : (ps : List Profile) → AllByRecursion Agrees ps → (ys : List Symbol) × (map profile ys ≡ ps)
of_profiles [] h = ([], refl)
of_profiles (p ∷ ps) h =
    let rest : (ys : List Symbol) × (map profile ys ≡ ps) = of_profiles ps h.1 in
    let y : Symbol = record { name = p.name; args = p.args; result = p.result; kind = p.kind; agrees = h.0 } in
    (y ∷ rest.0, ap (λ (qs : List Profile). p ∷ qs) rest.1)

agree : AllByRecursion Agrees te_symbols
agree = search tt

pub there : HasTheory
there =
    let made : (ys : List Symbol) × (map profile ys ≡ te_symbols) = of_profiles te_symbols agree in (
      record {
        version = te.version;
        sig = record { sorts = te.sorts; parents = te.parents; symbols = made.0; parented = refl; lower = orphans te_parents refl };
        reps = te.reps;
        copies = te.copies;
        routines = te.routines;
        functions = te.functions;
        literals = te.literals;
        axioms = te.axioms;
      },
      ap (λ (ps : List Profile). record te { symbols = ps }) made.1,
    )
