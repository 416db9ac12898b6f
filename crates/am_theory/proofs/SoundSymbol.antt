-- After the declaration of a function symbol or a relation all is sound.
use Rattle.std.proofs.Common.{◌≡◌, ◌+◌, ◌≤◌, ℕ, false, Some, None, List, [], ◌∷◌, ◌++◌, length, refl, sym, subst}
use Rattle.std.specs.Prelude.{nat_lt}
use Rattle.std.specs.List.{Contains, list_any}
use Rattle.std.proofs.lemmas.Bool.{ltb-false}
use Rattle.std.proofs.lemmas.List.{length-map}
use Rattle.am_term.specs.declared.kind.SymKind.TheVariants as kind
use Rattle.am_term.specs.NameLists.{is_among}
use Rattle.am_syntax.specs.Scopes.{Profile}
use Rattle.am_syntax.proofs.Among.{none_left, none_right}
use Rattle.am_theory.specs.declared.theory.Routine.{Routine}
use Rattle.am_theory.specs.declared.theory.FortranFunction.{FortranFunction}
use Rattle.am_theory.specs.declared.theory.LiteralDecl.{LiteralDecl}
use Rattle.am_theory.specs.declared.declaration.Declaration.TheVariants as decl
use Rattle.am_theory.specs.Contents.{Contents, sort_number, sort_numbers, with_decl}
use Rattle.am_theory.specs.Faults.{has_unknown_name, is_unknown_sort, is_twice, is_taken, is_symbol_name, variable_names, is_over_limit, is_past_symbols}
use Rattle.am_theory.specs.Limits.{argument_limit, symbol_limit}
use Rattle.am_theory.specs.Traces.{IsWritten}
use Rattle.am_theory.proofs.NoFault.{IsFaultless}
use Rattle.am_theory.proofs.MoreSymbols.{MayBeAdded, symbols-larger, routines-larger, functions-larger, literals-larger, one-each-larger, axioms-larger, of-kind}
use Rattle.am_theory.proofs.Sound.{ProfileSound, Sound, OutputsListed, ValuesListed, LiteralsListed}
use Rattle.am_theory.proofs.SortNames.{sort-there, sorts-there}

-- one symbol whose name isn't taken may be added
pub one-added : (c : Contents) (y : Profile) → ProfileSound (length c.sorts) y → is_taken c y.name ≡ false → is_past_symbols c 1 ≡ false → MayBeAdded c (y ∷ [])
one-added c y h e f = record {
  sound = (h, tt);
  distinct = refl;
  new = (none_left (is_symbol_name c y.name) (is_among y.name (variable_names c)) e, tt);
  unused = (none_right (is_symbol_name c y.name) (is_among y.name (variable_names c)) e, tt);
  few = ltb-false symbol_limit (length c.symbols + 1) f;
}

pub few-args : (c : Contents) (args : List (List ℕ)) → nat_lt argument_limit (length args) ≡ false → length (sort_numbers c args) ≤ argument_limit
few-args c args e = subst (λ k. k ≤ argument_limit) (sym (length-map args (sort_number c))) (ltb-false argument_limit (length args) e)

module _ (c : Contents) (s : Sound c) (y : Profile) where
  abbrev with : List Profile
  with = c.symbols ++ y ∷ []

  pub outputs-still : (y.kind ≡ kind.Output → ⊥) → OutputsListed with c.routines
  outputs-still never k z e f = of-kind c.symbols y kind.Output ((r : Routine) × Contains c.routines r × Contains r.outputs (record { 0 = k })) k z e f (λ g. s.outputs k z g f) (λ i q. absurd (never q))

  pub values-still : (y.kind ≡ kind.Value → ⊥) → ValuesListed with c.functions
  values-still never k z e f = of-kind c.symbols y kind.Value ((g : FortranFunction) × Contains c.functions g × (g.symbol.0 ≡ k)) k z e f (λ g. s.values k z g f) (λ i q. absurd (never q))

  pub literals-still : (y.kind ≡ kind.Literal → ⊥) → LiteralsListed with c.literals
  literals-still never k z e f = of-kind c.symbols y kind.Literal ((l : LiteralDecl) × Contains c.literals l × (l.symbol.0 ≡ k)) k z e f (λ g. s.constants k z g f) (λ i q. absurd (never q))

module _ (c : Contents) (s : Sound c) (n : List ℕ) (args : List (List ℕ)) where
  -- ---- functions
  module _ (r : List ℕ) where
    abbrev function_profile : Profile
    function_profile = record { name = n; args = sort_numbers c args; result = Some (sort_number c r); kind = kind.Function }

    function-added : IsWritten (decl.Function n args r) → IsFaultless c (decl.Function n args r) → MayBeAdded c (function_profile ∷ [])
    unfolding has_unknown_name is_twice is_over_limit
    function-added w f =
        one-added c function_profile
        (record {
          named = w.0;
          args = sorts-there c args (none_left (list_any (is_unknown_sort c) args) (is_unknown_sort c r) f.known);
          result = sort-there c r (none_right (list_any (is_unknown_sort c) args) (is_unknown_sort c r) f.known);
          few = few-args c args (none_right (is_past_symbols c 1) (nat_lt argument_limit (length args)) f.few);
        })
        f.new (none_left (is_past_symbols c 1) (nat_lt argument_limit (length args)) f.few)

    pub sound-Function : IsWritten (decl.Function n args r) → IsFaultless c (decl.Function n args r) → Sound (with_decl c (decl.Function n args r))
    unfolding with_decl
    sound-Function w f =
        let a = function-added w f in
        let ys = function_profile ∷ [] in
        record {
          of_sorts = s.of_sorts;
          of_called = s.of_called;
          of_symbols = symbols-larger c s ys a;
          of_routines = routines-larger c s ys a;
          of_functions = functions-larger c s ys a;
          of_literals = literals-larger c s ys a;
          one_each = one-each-larger c s ys a;
          outputs = outputs-still c s function_profile (λ e. cc);
          values = values-still c s function_profile (λ e. cc);
          constants = literals-still c s function_profile (λ e. cc);
          numbered = s.numbered;
          of_axioms = axioms-larger c s ys a;
          few_axioms = s.few_axioms;
        }

  -- ---- relations
  abbrev relation_profile : Profile
  relation_profile = record { name = n; args = sort_numbers c args; result = None; kind = kind.Relation }

  relation-added : IsWritten (decl.Relation n args) → IsFaultless c (decl.Relation n args) → MayBeAdded c (relation_profile ∷ [])
  unfolding has_unknown_name is_twice is_over_limit
  relation-added w f =
      one-added c relation_profile
      (record {
        named = w.0;
        args = sorts-there c args f.known;
        result = tt;
        few = few-args c args (none_right (is_past_symbols c 1) (nat_lt argument_limit (length args)) f.few);
      })
      f.new (none_left (is_past_symbols c 1) (nat_lt argument_limit (length args)) f.few)

  pub sound-Relation : IsWritten (decl.Relation n args) → IsFaultless c (decl.Relation n args) → Sound (with_decl c (decl.Relation n args))
  unfolding with_decl
  sound-Relation w f =
      let a = relation-added w f in
      let ys = relation_profile ∷ [] in
      record {
        of_sorts = s.of_sorts;
        of_called = s.of_called;
        of_symbols = symbols-larger c s ys a;
        of_routines = routines-larger c s ys a;
        of_functions = functions-larger c s ys a;
        of_literals = literals-larger c s ys a;
        one_each = one-each-larger c s ys a;
        outputs = outputs-still c s relation_profile (λ e. cc);
        values = values-still c s relation_profile (λ e. cc);
        constants = literals-still c s relation_profile (λ e. cc);
        numbered = s.numbered;
        of_axioms = axioms-larger c s ys a;
        few_axioms = s.few_axioms;
      }
