-- After the declaration of a listed function all is sound.
use Rattle.std.proofs.Common.{◌≡◌, ◌∙◌, ℕ, true, false, not, Option, Some, None, List, [], ◌∷◌, ◌++◌, length, refl, sym, ap, true≢false}
use Rattle.std.specs.Prelude.{is_some, nat_lt}
use Rattle.std.specs.List.{Contains, list_any}
use Rattle.std.proofs.lemmas.List.Elements.{Contains-append_left, Contains-push}
use Rattle.am_term.specs.declared.kind.SymKind.TheVariants as kind
use Rattle.am_term.proofs.Tests.{false_not}
use Rattle.am_syntax.specs.Scopes.{Profile}
use Rattle.am_syntax.proofs.Among.{none_left, none_right}
use Rattle.am_theory.specs.declared.theory.Rep.{Rep}
use Rattle.am_theory.specs.declared.theory.FortranFunction.{FortranFunction}
use Rattle.am_theory.specs.declared.declaration.Declaration.TheVariants as decl
use Rattle.am_theory.specs.Contents.{Contents, sort_number, sort_numbers, rep_named, next_symbol, with_decl}
use Rattle.am_theory.specs.Faults.{has_unknown_name, is_unknown_sort, is_twice, is_badly_represented, is_abstract, is_returnable, has_bad_fortran_name, is_free_name, clashes, is_over_limit, is_past_symbols}
use Rattle.am_theory.specs.Limits.{argument_limit}
use Rattle.am_theory.specs.Traces.{IsWritten}
use Rattle.am_theory.proofs.Appends.{all-push, get-end}
use Rattle.am_theory.proofs.NoFault.{IsFaultless}
use Rattle.am_theory.proofs.MoreCalled.{function-called}
use Rattle.am_theory.proofs.MoreSymbols.{MayBeAdded, symbols-larger, routines-larger, functions-larger, literals-larger, one-each-larger, axioms-larger, of-kind}
use Rattle.am_theory.proofs.Sound.{FunctionSound, Sound, ValuesListed, sort_rep}
use Rattle.am_theory.proofs.SortNames.{sort-there, sorts-there, rep-there, concretes-there}
use Rattle.am_theory.proofs.SoundSymbol.{one-added, few-args, outputs-still, literals-still}
use Rattle.am_theory.proofs.SymbolNumbers.{function-numbered}

returnable-some : (o : Option Rep) → is_returnable o ≡ true → is_some o ≡ true
returnable-some None e = absurd (true≢false (sym e))
returnable-some (Some r) e = refl

module _ (c : Contents) (s : Sound c) (w n : List ℕ) (args : List (List ℕ)) (r : List ℕ) where
  abbrev value_profile : Profile
  value_profile = record { name = n; args = sort_numbers c args; result = Some (sort_number c r); kind = kind.Value }

  abbrev listed_function : FortranFunction
  listed_function = record { name = w; symbol = next_symbol c }

  abbrev larger : List Profile
  larger = c.symbols ++ value_profile ∷ []

  module _ (h : IsWritten (decl.Value w n args r)) (f : IsFaultless c (decl.Value w n args r)) where
    args_known : list_any (is_unknown_sort c) args ≡ false
    unfolding has_unknown_name
    args_known = none_left (list_any (is_unknown_sort c) args) (is_unknown_sort c r) f.known

    result_known : is_unknown_sort c r ≡ false
    unfolding has_unknown_name
    result_known = none_right (list_any (is_unknown_sort c) args) (is_unknown_sort c r) f.known

    args_concrete : list_any (is_abstract c) args ≡ false
    unfolding is_badly_represented
    args_concrete = none_left (list_any (is_abstract c) args) (not (is_returnable (rep_named c r))) f.represented

    returnable : is_returnable (sort_rep c.reps (sort_number c r)) ≡ true
    unfolding is_badly_represented
    returnable = ap is_returnable (sym (rep-there c r result_known)) ∙ false_not (is_returnable (rep_named c r)) (none_right (list_any (is_abstract c) args) (not (is_returnable (rep_named c r))) f.represented)

    value-added : MayBeAdded c (value_profile ∷ [])
    unfolding is_twice is_over_limit
    value-added =
        one-added c value_profile
        (record { named = h.1; args = sorts-there c args args_known; result = sort-there c r result_known; few = few-args c args (none_right (is_past_symbols c 1) (nat_lt argument_limit (length args)) f.few) })
        f.new (none_left (is_past_symbols c 1) (nat_lt argument_limit (length args)) f.few)

    function-sound : FunctionSound c.reps larger listed_function
    unfolding has_bad_fortran_name
    function-sound = record {
      named = false_not (is_free_name w) f.named;
      args = sort_numbers c args;
      stands = record {
        symbol = value_profile;
        there = get-end c.symbols [] value_profile;
        of_kind = refl;
        with_args = refl;
        sort = sort_number c r;
        result = refl;
        concrete = returnable-some (sort_rep c.reps (sort_number c r)) returnable;
      };
      concrete = concretes-there c args args_known args_concrete;
      returnable = returnable;
    }

    values : ValuesListed larger (c.functions ++ listed_function ∷ [])
    values k z e g = of-kind c.symbols value_profile kind.Value ((q : FortranFunction) × Contains (c.functions ++ listed_function ∷ []) q × (q.symbol.0 ≡ k)) k z e g
        (λ q. let o = s.values k z q g in (o.0, Contains-append_left c.functions (listed_function ∷ []) o.0 o.1, o.2))
        (λ i q. (listed_function, Contains-push c.functions listed_function, sym i))

    pub sound-Value : Sound (with_decl c (decl.Value w n args r))
    unfolding with_decl clashes
    sound-Value =
        let a = value-added in
        let ys = value_profile ∷ [] in
        record {
          of_sorts = s.of_sorts;
          of_called = function-called c s.of_called listed_function f.apart;
          of_symbols = symbols-larger c s ys a;
          of_routines = routines-larger c s ys a;
          of_functions = all-push (FunctionSound c.reps larger) c.functions listed_function (functions-larger c s ys a) function-sound;
          of_literals = literals-larger c s ys a;
          one_each = one-each-larger c s ys a;
          outputs = outputs-still c s value_profile (λ e. cc);
          values = values;
          constants = literals-still c s value_profile (λ e. cc);
          numbered = function-numbered c s listed_function refl;
          of_axioms = axioms-larger c s ys a;
          few_axioms = s.few_axioms;
        }
