-- After a run over symbols the declarations of what was added are those of the run.
use Rattle.std.proofs.Common.{◌≡◌, ◌∙◌, ◌+◌, ◌<◌, ◌≤◌, ℕ, Bool, true, false, Some, None, List, [], ◌∷◌, ◌++◌, map, length, cond, refl, sym, ap, subst, arith, append_assoc, length-append, true≢false}
use Rattle.std.specs.Prelude.{find, slice_get, slice_index_or, ◌&&◌}
use Rattle.std.specs.List.{AllByRecursion, list_any, list_all}
use Rattle.std.proofs.lemmas.List.{length-map}
use Rattle.am_term.specs.declared.id.SortId.{SortId}
use Rattle.am_term.specs.declared.kind.SymKind.TheVariants as kind
use Rattle.am_term.specs.Names.{is_name}
use Rattle.am_term.proofs.Tests.{and_right}
use Rattle.am_text.specs.Spelling.{is_word}
use Rattle.am_syntax.specs.Scopes.{Profile}
use Rattle.am_syntax.specs.Forms.{is_some_list}
use Rattle.am_syntax.proofs.Among.{none_left, none_right}
use Rattle.am_theory.specs.declared.theory.LitValue.{LitValue}
use Rattle.am_theory.specs.declared.theory.Routine.{Routine}
use Rattle.am_theory.specs.declared.theory.FortranFunction.{FortranFunction}
use Rattle.am_theory.specs.declared.theory.LiteralDecl.{LiteralDecl}
use Rattle.am_theory.specs.declared.declaration.Typed.{Typed}
use Rattle.am_theory.specs.declared.declaration.Declaration.{Declaration}
use Rattle.am_theory.specs.declared.declaration.Declaration.TheVariants as decl
use Rattle.am_theory.specs.Contents.{Contents, sort_number, sort_numbers, output_profile, numbers_from, next_symbol, with_decl}
use Rattle.am_theory.specs.Faults.{is_unknown_sort, has_unknown_name}
use Rattle.am_theory.specs.Parts.{sorts_in}
use Rattle.am_canon.specs.CanonicalText.{sort_name, sort_names, typed_at, typed_output, declared_routine, declared_literal, declared_value, symbol_decl, symbol_decls}
use Rattle.am_theory.specs.Traces.{Trace, IsOfForm, is_typed}
use Rattle.am_theory.proofs.NoFault.{IsFaultless, faultless}
use Rattle.am_theory.proofs.Appends.{get-end}
use Rattle.am_canon.proofs.Joined.{find-behind}
use Rattle.am_canon.proofs.KnownSorts.{name-back, names-back}
use Rattle.am_canon.proofs.Grown.{starts, computes, stands_for, other_number, own_number, found_nowhere, IsGrown, ungrown, grown-trans, IsBelow, added, routine_of, grown-one, below-one}
use Rattle.am_canon.proofs.DeclarationRead.{read_declaration_is_spellable}
use Rattle.am_canon.proofs.Swapped.{DeclaresSymbol}

-- ---- lists
-- the member behind those that don't pass is found
found_there : {A : Type 0} (test : A → Bool) (xs : List A) (x : A) (ys : List A) → find test xs ≡ None → test x ≡ true → find test ((xs ++ x ∷ []) ++ ys) ≡ Some x
found_there test xs x ys e f =
    ap (find test) (append_assoc xs (x ∷ []) ys)
    ∙ find-behind test xs (x ∷ ys) e
    ∙ ap (λ b. cond b (Some x) (find test ys)) f

decls-append : (c : Contents) (k : ℕ) (xs ys : List Profile) → symbol_decls c k (xs ++ ys) ≡ symbol_decls c k xs ++ symbol_decls c (k + length xs) ys
decls-append c k [] ys = ap (λ i. symbol_decls c i ys) (let e : k ≡ k + 0 = omega arith in e)
decls-append c k (x ∷ xs) ys =
    ap (λ ds. symbol_decl c k x x.kind ++ ds) (decls-append c (k + 1) xs ys)
    ∙ ap (λ i. symbol_decl c k x x.kind ++ (symbol_decls c (k + 1) xs ++ symbol_decls c i ys)) (let e : k + 1 + length xs ≡ k + length (x ∷ xs) = omega arith in e)
    ∙ sym (append_assoc (symbol_decl c k x x.kind) (symbol_decls c (k + 1) xs) (symbol_decls c (k + length (x ∷ xs)) ys))

-- ---- names of sorts come back where the sorts are those that there were
module _ (c m : Contents) (s : m.sorts ≡ c.sorts) where
  result-back : (w : List ℕ) → is_unknown_sort c w ≡ false → sort_name m (sort_number c w) ≡ w
  result-back w e = ap (λ xs. slice_index_or xs (sort_number c w).0 []) s ∙ name-back c w e

  args-back : (ws : List (List ℕ)) → list_any (is_unknown_sort c) ws ≡ false → sort_names m (sort_numbers c ws) ≡ ws
  args-back ws e = ap (λ (xs : List (List ℕ)). map (λ (t : SortId). slice_index_or xs t.0 []) (sort_numbers c ws)) s ∙ names-back c ws e

  -- outputs with their sorts
  typed-back : (inputs : List (List ℕ)) (os : List Typed) (before after : List Profile) (i : ℕ) → length before ≡ i → m.symbols ≡ before ++ (map (output_profile c inputs) os ++ after) → list_any (is_unknown_sort c) (sorts_in os) ≡ false → map (typed_output m) (numbers_from i os) ≡ os
  typed-back inputs [] before after i l e f = refl
  typed-back inputs (o ∷ os) before after i l e f =
      ap (λ y. typed_at m y ∷ map (typed_output m) (numbers_from (i + 1) os))
      (ap (slice_get m.symbols) (sym l) ∙ ap (λ ys. slice_get ys (length before)) e ∙ get-end before (map (output_profile c inputs) os ++ after) (output_profile c inputs o))
      ∙ ap (λ (w : List ℕ). record { name = o.name; sort = w } ∷ map (typed_output m) (numbers_from (i + 1) os)) (result-back o.sort (none_left (is_unknown_sort c o.sort) (list_any (is_unknown_sort c) (sorts_in os)) f))
      ∙ ap (λ xs. o ∷ xs)
      (typed-back inputs os (before ++ output_profile c inputs o ∷ []) after (i + 1)
      (length-append before (output_profile c inputs o ∷ []) ∙ ap (λ j. j + 1) l)
      (e ∙ sym (append_assoc before (output_profile c inputs o ∷ []) (map (output_profile c inputs) os ++ after)))
      (none_right (is_unknown_sort c o.sort) (list_any (is_unknown_sort c) (sorts_in os)) f))

-- ---- the declaration of what one declaration added, by its kind
module _ (c m : Contents) (more : List Profile) (b : IsBelow c) where
  abbrev IsWrittenBack : Declaration → Type 0
  IsWrittenBack d = symbol_decls m (length c.symbols) (added c d) ≡ d ∷ []

  function-back : (n : List ℕ) (args : List (List ℕ)) (r : List ℕ) → IsGrown (with_decl c (decl.Function n args r)) m more → has_unknown_name c (decl.Function n args r) ≡ false → IsWrittenBack (decl.Function n args r)
  unfolding with_decl has_unknown_name
  function-back n args r g e =
      ap (λ ws. decl.Function n ws (sort_name m (sort_number c r)) ∷ []) (args-back c m g.sorts args (none_left (list_any (is_unknown_sort c) args) (is_unknown_sort c r) e))
      ∙ ap (λ w. decl.Function n args w ∷ []) (result-back c m g.sorts r (none_right (list_any (is_unknown_sort c) args) (is_unknown_sort c r) e))

  relation-back : (n : List ℕ) (args : List (List ℕ)) → IsGrown (with_decl c (decl.Relation n args)) m more → has_unknown_name c (decl.Relation n args) ≡ false → IsWrittenBack (decl.Relation n args)
  unfolding with_decl has_unknown_name
  relation-back n args g e = ap (λ ws. decl.Relation n ws ∷ []) (args-back c m g.sorts args e)

  literal-back : (n s : List ℕ) (v : LitValue) → IsGrown (with_decl c (decl.Literal n s v)) m more → has_unknown_name c (decl.Literal n s v) ≡ false → IsWrittenBack (decl.Literal n s v)
  unfolding with_decl has_unknown_name
  literal-back n s v g e =
      let y : Profile = record { name = n; args = []; result = Some (sort_number c s); kind = kind.Literal } in
      let l : LiteralDecl = record { symbol = next_symbol c; value = v } in
      ap (λ o. declared_literal m y o ++ [])
      (ap (find (stands_for (length c.symbols))) g.literals ∙ found_there (stands_for (length c.symbols)) c.literals l g.literals_more (b.literals (length c.symbols) (omega arith)) (own_number (length c.symbols)))
      ∙ ap (λ w. decl.Literal n w v ∷ []) (result-back c m g.sorts s e)

  value-back : (f n : List ℕ) (args : List (List ℕ)) (r : List ℕ) → IsGrown (with_decl c (decl.Value f n args r)) m more → has_unknown_name c (decl.Value f n args r) ≡ false → IsWrittenBack (decl.Value f n args r)
  unfolding with_decl has_unknown_name
  value-back f n args r g e =
      let y : Profile = record { name = n; args = sort_numbers c args; result = Some (sort_number c r); kind = kind.Value } in
      let x : FortranFunction = record { name = f; symbol = next_symbol c } in
      ap (λ o. declared_value m y o ++ [])
      (ap (find (computes (length c.symbols))) g.functions ∙ found_there (computes (length c.symbols)) c.functions x g.functions_more (b.functions (length c.symbols) (omega arith)) (own_number (length c.symbols)))
      ∙ ap (λ ws. decl.Value f n ws (sort_name m (sort_number c r)) ∷ []) (args-back c m g.sorts args (none_left (list_any (is_unknown_sort c) args) (is_unknown_sort c r) e))
      ∙ ap (λ w. decl.Value f n args w ∷ []) (result-back c m g.sorts r (none_right (list_any (is_unknown_sort c) args) (is_unknown_sort c r) e))

  -- ---- a routine: its first output has it, the later ones have none
  module _ (n : List ℕ) (inputs : List (List ℕ)) (o : Typed) (os : List Typed) (g : IsGrown (with_decl c (decl.Routine n inputs (o ∷ os))) m more) where
    abbrev r : Routine
    r = routine_of c n inputs (o ∷ os)

    started-nowhere : (j : ℕ) → length c.symbols < j → j < length c.symbols + length (o ∷ os) → find (starts j) m.routines ≡ None
    unfolding with_decl
    started-nowhere j h i =
        ap (find (starts j)) g.routines
        ∙ find-behind (starts j) (c.routines ++ r ∷ []) g.routines_more (found_nowhere (starts j) c.routines r (b.routines j (omega arith)) (other_number (length c.symbols) j h))
        ∙ g.later j (omega (arith, length-append c.symbols (map (output_profile c inputs) (o ∷ os)), length-map (o ∷ os) (output_profile c inputs)))

    later-nothing : (xs : List Typed) (j : ℕ) → length c.symbols < j → j + length xs ≤ length c.symbols + length (o ∷ os) → symbol_decls m j (map (output_profile c inputs) xs) ≡ []
    later-nothing [] j h i = refl
    later-nothing (x ∷ xs) j h i =
        ap (λ q. declared_routine m q ++ symbol_decls m (j + 1) (map (output_profile c inputs) xs)) (started-nowhere j h (omega arith))
        ∙ later-nothing xs (j + 1) (omega arith) (omega arith)

    first-found : find (starts (length c.symbols)) m.routines ≡ Some r
    unfolding with_decl
    first-found =
        ap (find (starts (length c.symbols))) g.routines
        ∙ found_there (starts (length c.symbols)) c.routines r g.routines_more (b.routines (length c.symbols) (omega arith)) (own_number (length c.symbols))

    outputs-there : m.symbols ≡ c.symbols ++ (map (output_profile c inputs) (o ∷ os) ++ more)
    unfolding with_decl
    outputs-there = g.symbols ∙ append_assoc c.symbols (map (output_profile c inputs) (o ∷ os)) more

    sorts-there : m.sorts ≡ c.sorts
    unfolding with_decl
    sorts-there = g.sorts

    routine_some-back : has_unknown_name c (decl.Routine n inputs (o ∷ os)) ≡ false → IsWrittenBack (decl.Routine n inputs (o ∷ os))
    unfolding has_unknown_name
    routine_some-back e =
        ap (λ q. declared_routine m q ++ symbol_decls m (length c.symbols + 1) (map (output_profile c inputs) os)) first-found
        ∙ ap (λ ds. decl.Routine n (sort_names m (sort_numbers c inputs)) (map (typed_output m) r.outputs) ∷ ds) (later-nothing os (length c.symbols + 1) (omega arith) (omega arith))
        ∙ ap (λ ws. decl.Routine n ws (map (typed_output m) r.outputs) ∷ []) (args-back c m sorts-there inputs (none_left (list_any (is_unknown_sort c) inputs) (list_any (is_unknown_sort c) (sorts_in (o ∷ os))) e))
        ∙ ap (λ ts. decl.Routine n inputs ts ∷ [])
        (typed-back c m sorts-there inputs (o ∷ os) c.symbols more (length c.symbols) refl outputs-there (none_right (list_any (is_unknown_sort c) inputs) (list_any (is_unknown_sort c) (sorts_in (o ∷ os))) e))

  routine-back : (n : List ℕ) (inputs : List (List ℕ)) (outputs : List Typed) → is_some_list outputs ≡ true → IsGrown (with_decl c (decl.Routine n inputs outputs)) m more → has_unknown_name c (decl.Routine n inputs outputs) ≡ false → IsWrittenBack (decl.Routine n inputs outputs)
  routine-back n inputs [] some g e = absurd (true≢false (sym some))
  routine-back n inputs (o ∷ os) some g e = routine_some-back n inputs o os g e

-- ---- runs
pub record AreSymbolsOf (c : Contents) (ds : List Declaration) (last : Contents) : Type 0 where
  pub more : List Profile
  pub grown : IsGrown c last more
  pub back : symbol_decls last (length c.symbols) more ≡ ds

-- a routine that a form is has an output
routine-some : (c : Contents) (n : List ℕ) (inputs : List (List ℕ)) (outputs : List Typed) → IsOfForm (decl.Routine n inputs outputs) → IsFaultless c (decl.Routine n inputs outputs) → is_some_list outputs ≡ true
routine-some c n inputs outputs o k =
    let e = read_declaration_is_spellable c (decl.Routine n inputs outputs) o k.plain in
    and_right (list_all is_typed outputs) (is_some_list outputs)
    (and_right (list_all is_name inputs) (list_all is_typed outputs && is_some_list outputs)
    (and_right (is_word n) (list_all is_name inputs && (list_all is_typed outputs && is_some_list outputs)) e))

decl-back : (c m : Contents) (more : List Profile) (d : Declaration) → DeclaresSymbol d → IsOfForm d → IsBelow c → IsFaultless c d → IsGrown (with_decl c d) m more → symbol_decls m (length c.symbols) (added c d) ≡ d ∷ []
decl-back c m more (decl.Sort n r copy) h f b k g = absurd h
decl-back c m more (decl.Subsort n s) h f b k g = absurd h
decl-back c m more (decl.Function n args r) h f b k g = function-back c m more b n args r g k.known
decl-back c m more (decl.Relation n args) h f b k g = relation-back c m more b n args g k.known
decl-back c m more (decl.Literal n s v) h f b k g = literal-back c m more b n s v g k.known
decl-back c m more (decl.Routine n inputs outputs) h f b k g = routine-back c m more b n inputs outputs (routine-some c n inputs outputs f k) g k.known
decl-back c m more (decl.Value q n args r) h f b k g = value-back c m more b q n args r g k.known
decl-back c m more (decl.Axiom vs g) h f b k x = absurd h

one-more : (c last : Contents) (d : Declaration) (ds : List Declaration) → DeclaresSymbol d → IsOfForm d → IsBelow c → IsFaultless c d → AreSymbolsOf (with_decl c d) ds last → AreSymbolsOf c (d ∷ ds) last
one-more c last d ds h f b k s =
    let one = grown-one c d h in
    record {
      more = added c d ++ s.more;
      grown = grown-trans c (with_decl c d) last (added c d) s.more one s.grown;
      back =
          decls-append last (length c.symbols) (added c d) s.more
          ∙ ap (λ xs. xs ++ symbol_decls last (length c.symbols + length (added c d)) s.more) (decl-back c last s.more d h f b k s.grown)
          ∙ ap (λ i. d ∷ symbol_decls last i s.more) (sym (ap length one.symbols ∙ length-append c.symbols (added c d)))
          ∙ ap (λ xs. d ∷ xs) s.back;
    }

pub symbols-back : (ds : List Declaration) (c last : Contents) → AllByRecursion DeclaresSymbol ds → Trace c ds last → IsBelow c → AreSymbolsOf c ds last
symbols-back [] c last all t b = subst (λ (x : Contents). AreSymbolsOf c [] x) t (record { more = []; grown = ungrown c; back = refl })
symbols-back (d ∷ ds) c last all t b =
    one-more c last d ds all.0 t.1 b (faultless c d t.0) (symbols-back ds (with_decl c d) last all.1 t.2 (below-one c b d all.0))
