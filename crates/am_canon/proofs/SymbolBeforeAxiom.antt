-- A symbol that is declared behind an axiom may stand before it.
use Rattle.std.proofs.Common.{◌≡◌, ◌∙◌, ℕ, false, List, [], ◌∷◌, ◌++◌, map, length, refl, sym, ap, Some, None}
use Rattle.std.specs.List.{list_any}
use Rattle.std.specs.Str.{bytes_eq}
use Rattle.std.proofs.lemmas.List.{append-nil, map-append}
use Rattle.std.proofs.lemmas.List.Folds.{list_any-append}
use Rattle.std.proofs.lemmas.Grind.{flat_map-append}
use Rattle.am_term.specs.declared.id.SortId.{SortId}
use Rattle.am_term.specs.declared.kind.SymKind.TheVariants as kind
use Rattle.am_term.specs.NameLists.{is_among}
use Rattle.am_syntax.specs.declared.written.WrittenFormula.{WrittenFormula}
use Rattle.am_syntax.specs.Positions.{position_of}
use Rattle.am_syntax.specs.Scopes.{Profile}
use Rattle.am_syntax.specs.Meaning.{formula_meaning}
use Rattle.am_syntax.specs.Laws.{Extends}
use Rattle.am_syntax.proofs.Among.{none_left, none_right}
use Rattle.am_theory.specs.declared.theory.Routine.{Routine}
use Rattle.am_theory.specs.declared.theory.FortranFunction.{FortranFunction}
use Rattle.am_theory.specs.declared.theory.LiteralDecl.{LiteralDecl}
use Rattle.am_theory.specs.declared.theory.Axiom.{Axiom}
use Rattle.am_theory.specs.declared.declaration.Typed.{Typed}
use Rattle.am_theory.specs.declared.declaration.Declaration.{Declaration}
use Rattle.am_theory.specs.declared.declaration.Declaration.TheVariants as decl
use Rattle.am_theory.specs.Contents.{Contents, sort_number, sort_numbers, symbol_names, axiom_scope, variable_of, output_profile, numbers_from, next_symbol, with_decl}
use Rattle.am_theory.specs.Faults.{names_in, has_unknown_name, axiom_names, variable_names, is_symbol_name, is_taken, is_literal_of, is_twice, is_badly_represented, clashes, is_over_limit}
use Rattle.am_syntax.proofs.Positions.{position_kept}
use Rattle.am_theory.proofs.NoFault.{IsFaultless}
use Rattle.am_theory.proofs.Appends.{none_both, get-left}
use Rattle.am_theory.proofs.Sound.{Sound}
use Rattle.am_canon.proofs.FaultlessSymbol.{symbol-faultless}
use Rattle.am_canon.proofs.Joined.{none-front, none-behind, none-also, none-either, disjoint-turned}
use Rattle.am_canon.proofs.SoundSorts.{results-in, standings-in}
use Rattle.am_canon.proofs.AxiomKept.{variables-known, meaning-kept, axiom-faultless}
use Rattle.am_canon.proofs.Swapped.{IsSwapped, DeclaresSymbol}

abbrev names_of : List Profile → List (List ℕ)
names_of ys = map (λ (y : Profile). y.name) ys

module _ (c : Contents) (vs : List Typed) (g : WrittenFormula) where
  -- the axiom, and what there is with it
  abbrev the_axiom : Axiom
  the_axiom = record { vars = map (variable_of c) vs; formula = formula_meaning (axiom_scope c vs) g }

  abbrev stated : Contents
  stated = record c { axioms = c.axioms ++ the_axiom ∷ [] }

  -- ---- the symbol before
  axiom-names : (xs : List Typed) → map (λ (v : List ℕ × SortId). v.0) (map (variable_of c) xs) ≡ names_in xs
  axiom-names [] = refl
  axiom-names (v ∷ xs) = ap (λ ns. v.name ∷ ns) (axiom-names xs)

  parted : (w : List ℕ) → is_taken stated w ≡ false → is_among w (variable_names c ++ (axiom_names the_axiom ++ [])) ≡ false
  parted w e =
      ap (is_among w) (sym (flat_map-append axiom_names c.axioms (the_axiom ∷ [])))
      ∙ none_right (is_symbol_name c w) (is_among w (variable_names stated)) e

  untaken : (w : List ℕ) → is_taken stated w ≡ false → is_taken c w ≡ false
  untaken w e =
      none_both (is_symbol_name c w) (is_among w (variable_names c))
      (none_left (is_symbol_name c w) (is_among w (variable_names stated)) e)
      (none-front (bytes_eq w) (variable_names c) (axiom_names the_axiom ++ []) (parted w e))

  unlike_variables : (w : List ℕ) → is_taken stated w ≡ false → is_among w (names_in vs) ≡ false
  unlike_variables w e =
      ap (is_among w) (sym (axiom-names vs))
      ∙ none-front (bytes_eq w) (axiom_names the_axiom) [] (none-behind (bytes_eq w) (variable_names c) (axiom_names the_axiom ++ []) (parted w e))

  symbol-before : (d : Declaration) → DeclaresSymbol d → IsFaultless stated d → IsFaultless c d
  unfolding has_unknown_name is_twice is_badly_represented clashes is_over_limit
  symbol-before (decl.Sort n r copy) h k = absurd h
  symbol-before (decl.Subsort n s) h k = absurd h
  symbol-before (decl.Function n args r) h k = symbol-faultless stated c (decl.Function n args r) tt k k.known (untaken n k.new) refl refl k.few
  symbol-before (decl.Relation n args) h k = symbol-faultless stated c (decl.Relation n args) tt k k.known (untaken n k.new) refl refl k.few
  symbol-before (decl.Literal n s v) h k =
      symbol-faultless stated c (decl.Literal n s v) tt k k.known
      (none_both (is_taken c n) (list_any (is_literal_of c (sort_number c s) v) c.literals)
      (untaken n (none_left (is_taken stated n) (list_any (is_literal_of c (sort_number c s) v) c.literals) k.new))
      (none_right (is_taken stated n) (list_any (is_literal_of c (sort_number c s) v) c.literals) k.new))
      k.represented refl k.few
  symbol-before (decl.Routine n inputs outputs) h k =
      symbol-faultless stated c (decl.Routine n inputs outputs) tt k k.known
      (none_both (list_any (is_taken c) (names_in outputs)) _
      (none-also (is_taken stated) (is_taken c) untaken (names_in outputs) (none_left (list_any (is_taken stated) (names_in outputs)) _ k.new))
      (none_right (list_any (is_taken stated) (names_in outputs)) _ k.new))
      k.represented k.apart k.few
  symbol-before (decl.Value f n args r) h k = symbol-faultless stated c (decl.Value f n args r) tt k k.known (untaken n k.new) k.represented k.apart k.few
  symbol-before (decl.Axiom xs f) h k = absurd h

  -- no variable has the name of one of these, which aren't taken
  apart_from : (ns : List (List ℕ)) → list_any (is_taken stated) ns ≡ false → list_any (λ v. is_among v ns) (names_in vs) ≡ false
  apart_from ns e = disjoint-turned ns (names_in vs) (none-also (is_taken stated) (λ w. is_among w (names_in vs)) unlike_variables ns e)

  -- ---- the axiom behind more symbols
  module _ (sound : Sound c) (k : IsFaultless c (decl.Axiom vs g)) (ys : List Profile) (rs : List Routine) (fs : List FortranFunction) (ls : List LiteralDecl) (apart : list_any (λ v. is_among v (names_of ys)) (names_in vs) ≡ false) where
    abbrev more : Contents
    more = record c { symbols = c.symbols ++ ys; routines = rs; functions = fs; literals = ls }

    extends : Extends (axiom_scope c vs) (axiom_scope more vs)
    extends = record {
      names = λ w i e. ap (position_of w) (map-append _ c.symbols ys) ∙ position_kept w (symbol_names c) (names_of ys) i e;
      symbols = λ i y e. get-left c.symbols ys i y e;
      bound = refl;
      more = [];
      parents = sym (append-nil c.parents);
      results = results-in c sound vs;
      standings = standings-in c sound vs (variables-known c vs g k);
    }

    unnamed : (w : List ℕ) → is_symbol_name c w ≡ false → is_among w (names_of ys) ≡ false → is_symbol_name more w ≡ false
    unnamed w e f =
        ap (is_among w) (map-append _ c.symbols ys)
        ∙ list_any-append (bytes_eq w) (symbol_names c) (names_of ys)
        ∙ none_both (is_symbol_name c w) (is_among w (names_of ys)) e f

    axiom-behind : IsFaultless more (decl.Axiom vs g)
    unfolding is_twice
    axiom-behind =
        axiom-faultless c vs g k more extends (variables-known c vs g k)
        (none-either (is_symbol_name c) (λ v. is_among v (names_of ys)) (is_symbol_name more) unnamed (names_in vs) (none_left (list_any (is_symbol_name c) (names_in vs)) _ k.new) apart)
        refl

    axiom-same : record more { axioms = c.axioms ++ the_axiom ∷ [] } ≡ with_decl more (decl.Axiom vs g)
    unfolding with_decl
    axiom-same = ap (λ f. record more { axioms = c.axioms ++ record { vars = map (variable_of c) vs; formula = f } ∷ [] }) (sym (meaning-kept c vs g k more extends))

  output-names : (inputs : List (List ℕ)) (os : List Typed) → names_of (map (output_profile c inputs) os) ≡ names_in os
  output-names inputs [] = refl
  output-names inputs (o ∷ os) = ap (λ ns. o.name ∷ ns) (output-names inputs os)

  -- ---- all kinds
  module _ (sound : Sound c) (k : IsFaultless c (decl.Axiom vs g)) where
    pub symbol-first : (d : Declaration) → DeclaresSymbol d → IsFaultless (with_decl c (decl.Axiom vs g)) d → IsSwapped c (decl.Axiom vs g) d
    unfolding with_decl is_twice
    symbol-first (decl.Sort n r copy) h l = absurd h
    symbol-first (decl.Subsort n s) h l = absurd h
    symbol-first (decl.Function n args r) h l =
        let ys : List Profile = record { name = n; args = sort_numbers c args; result = Some (sort_number c r); kind = kind.Function } ∷ [] in
        let apart = apart_from (n ∷ []) (none_both _ false l.new refl) in
        record {
          before = symbol-before (decl.Function n args r) tt l;
          behind = axiom-behind sound k ys c.routines c.functions c.literals apart;
          same = axiom-same sound k ys c.routines c.functions c.literals apart;
        }
    symbol-first (decl.Relation n args) h l =
        let ys : List Profile = record { name = n; args = sort_numbers c args; result = None; kind = kind.Relation } ∷ [] in
        let apart = apart_from (n ∷ []) (none_both _ false l.new refl) in
        record {
          before = symbol-before (decl.Relation n args) tt l;
          behind = axiom-behind sound k ys c.routines c.functions c.literals apart;
          same = axiom-same sound k ys c.routines c.functions c.literals apart;
        }
    symbol-first (decl.Literal n s v) h l =
        let ys : List Profile = record { name = n; args = []; result = Some (sort_number c s); kind = kind.Literal } ∷ [] in
        let ls : List LiteralDecl = c.literals ++ record { symbol = next_symbol c; value = v } ∷ [] in
        let apart = apart_from (n ∷ []) (none_both _ false (none_left (is_taken stated n) _ l.new) refl) in
        record {
          before = symbol-before (decl.Literal n s v) tt l;
          behind = axiom-behind sound k ys c.routines c.functions ls apart;
          same = axiom-same sound k ys c.routines c.functions ls apart;
        }
    symbol-first (decl.Routine n inputs outputs) h l =
        let ys : List Profile = map (output_profile c inputs) outputs in
        let rs : List Routine = c.routines ++ record { name = n; inputs = sort_numbers c inputs; outputs = numbers_from (length c.symbols) outputs } ∷ [] in
        let apart = ap (λ ns. list_any (λ v. is_among v ns) (names_in vs)) (output-names inputs outputs) ∙ apart_from (names_in outputs) (none_left (list_any (is_taken stated) (names_in outputs)) _ l.new) in
        record {
          before = symbol-before (decl.Routine n inputs outputs) tt l;
          behind = axiom-behind sound k ys rs c.functions c.literals apart;
          same = axiom-same sound k ys rs c.functions c.literals apart;
        }
    symbol-first (decl.Value f n args r) h l =
        let ys : List Profile = record { name = n; args = sort_numbers c args; result = Some (sort_number c r); kind = kind.Value } ∷ [] in
        let fs : List FortranFunction = c.functions ++ record { name = f; symbol = next_symbol c } ∷ [] in
        let apart = apart_from (n ∷ []) (none_both _ false l.new refl) in
        record {
          before = symbol-before (decl.Value f n args r) tt l;
          behind = axiom-behind sound k ys c.routines fs c.literals apart;
          same = axiom-same sound k ys c.routines fs c.literals apart;
        }
    symbol-first (decl.Axiom xs f) h l = absurd h
