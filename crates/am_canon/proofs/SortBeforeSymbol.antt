-- A symbol stands behind one more sort as it stood before it.
use Rattle.std.proofs.Common.{◌≡◌, ◌∙◌, ◌||◌, ℕ, false, not, Option, Some, None, List, [], ◌∷◌, ◌++◌, map, length, refl, sym, ap}
use Rattle.std.specs.List.{list_any}
use Rattle.am_term.specs.declared.id.SortId.{SortId}
use Rattle.am_term.specs.declared.kind.SymKind.{SymKind}
use Rattle.am_term.specs.declared.kind.SymKind.TheVariants as kind
use Rattle.am_term.specs.NameLists.{is_among}
use Rattle.am_term.proofs.Tests.{false_not, not_true}
use Rattle.am_syntax.specs.Scopes.{Profile}
use Rattle.am_syntax.proofs.Among.{none_left, none_right}
use Rattle.am_theory.specs.declared.theory.LitValue.{LitValue}
use Rattle.am_theory.specs.declared.theory.Rep.{Rep}
use Rattle.am_theory.specs.declared.theory.Routine.{Routine}
use Rattle.am_theory.specs.declared.theory.FortranFunction.{FortranFunction}
use Rattle.am_theory.specs.declared.declaration.Typed.{Typed}
use Rattle.am_theory.specs.declared.declaration.Declaration.{Declaration}
use Rattle.am_theory.specs.declared.declaration.Declaration.TheVariants as decl
use Rattle.am_theory.specs.Contents.{Contents, sort_number, sort_numbers, of_sort, rep_named, output_profile, numbers_from, next_symbol, with_sort, with_decl}
use Rattle.am_theory.specs.Faults.{is_unknown_sort, has_unknown_name, is_taken, is_literal_of, is_twice, is_abstract, is_returnable, is_badly_represented, called_names, copy_names, copy_clashes, clashes, is_over_limit}
use Rattle.am_theory.specs.Parts.{sorts_in}
use Rattle.am_theory.proofs.NoFault.{IsFaultless}
use Rattle.am_theory.proofs.Appends.{none_both}
use Rattle.am_theory.proofs.Sound.{Sound}
use Rattle.am_canon.proofs.FaultlessSymbol.{symbol-faultless}
use Rattle.am_canon.proofs.Called.{IsUnlike, uncalled-routine, unlike-routine, uncalled-function, unlike-function, uncopied, unlike-copy}
use Rattle.am_canon.proofs.MoreSorts.{sort-known, sorts-known, number-kept, numbers-kept, concrete-kept, suited-kept, returned-kept, literals-kept}
use Rattle.am_canon.proofs.Swapped.{StandsBehind, LeavesSorts, CallsOther, DeclaresSymbol}

-- a symbol with these names of sorts
abbrev profile_of : Contents → List ℕ → List (List ℕ) → List ℕ → SymKind → Profile
profile_of c m args s k = record { name = m; args = sort_numbers c args; result = Some (sort_number c s); kind = k }

module _ (c : Contents) (n : List ℕ) (parent : Option SortId) (r : Option Rep) (copy : Option (List ℕ)) where
  abbrev wide : Contents
  wide = with_sort c n parent r copy

  -- ---- the symbol behind, by its kind
  function-behind : (m : List ℕ) (args : List (List ℕ)) (s : List ℕ) → IsFaultless c (decl.Function m args s) → IsFaultless wide (decl.Function m args s)
  unfolding has_unknown_name is_twice is_badly_represented clashes is_over_limit
  function-behind m args s k =
      symbol-faultless c wide (decl.Function m args s) tt k
      (none_both _ _
      (sorts-known c n parent r copy args (none_left (list_any (is_unknown_sort c) args) (is_unknown_sort c s) k.known))
      (sort-known c n parent r copy s (none_right (list_any (is_unknown_sort c) args) (is_unknown_sort c s) k.known)))
      k.new refl refl k.few

  relation-behind : (m : List ℕ) (args : List (List ℕ)) → IsFaultless c (decl.Relation m args) → IsFaultless wide (decl.Relation m args)
  unfolding has_unknown_name is_twice is_badly_represented clashes is_over_limit
  relation-behind m args k =
      symbol-faultless c wide (decl.Relation m args) tt k
      (sorts-known c n parent r copy args k.known)
      k.new refl refl k.few

  literal-behind : Sound c → (m s : List ℕ) (v : LitValue) → IsFaultless c (decl.Literal m s v) → IsFaultless wide (decl.Literal m s v)
  unfolding has_unknown_name is_twice is_badly_represented clashes is_over_limit
  literal-behind sound m s v k =
      symbol-faultless c wide (decl.Literal m s v) tt k
      (sort-known c n parent r copy s k.known)
      (ap (λ x. is_taken c m || list_any (is_literal_of wide x v) c.literals) (number-kept c n parent r copy s k.known)
      ∙ ap (λ b. is_taken c m || b) (literals-kept c n parent r copy sound s v k.known c.literals)
      ∙ k.new)
      (not_true _ (suited-kept c n parent r copy v s (false_not _ k.represented)))
      refl k.few

  routine-behind : (m : List ℕ) (inputs : List (List ℕ)) (outputs : List Typed) → IsUnlike m copy → IsFaultless c (decl.Routine m inputs outputs) → IsFaultless wide (decl.Routine m inputs outputs)
  unfolding has_unknown_name is_twice is_badly_represented clashes is_over_limit
  routine-behind m inputs outputs unlike k =
      symbol-faultless c wide (decl.Routine m inputs outputs) tt k
      (none_both _ _
      (sorts-known c n parent r copy inputs (none_left (list_any (is_unknown_sort c) inputs) (list_any (is_unknown_sort c) (sorts_in outputs)) k.known))
      (sorts-known c n parent r copy (sorts_in outputs) (none_right (list_any (is_unknown_sort c) inputs) (list_any (is_unknown_sort c) (sorts_in outputs)) k.known)))
      k.new
      (none_both _ _
      (concrete-kept c n parent r copy inputs (none_left (list_any (is_abstract c) inputs) (list_any (is_abstract c) (sorts_in outputs)) k.represented))
      (concrete-kept c n parent r copy (sorts_in outputs) (none_right (list_any (is_abstract c) inputs) (list_any (is_abstract c) (sorts_in outputs)) k.represented)))
      (none_both _ _
      (none_left (is_among m (called_names c)) (is_among m (copy_names c)) k.apart)
      (uncopied m c.copies copy (none_right (is_among m (called_names c)) (is_among m (copy_names c)) k.apart) unlike))
      k.few

  value-behind : (f m : List ℕ) (args : List (List ℕ)) (s : List ℕ) → IsUnlike f copy → IsFaultless c (decl.Value f m args s) → IsFaultless wide (decl.Value f m args s)
  unfolding has_unknown_name is_twice is_badly_represented clashes is_over_limit
  value-behind f m args s unlike k =
      symbol-faultless c wide (decl.Value f m args s) tt k
      (none_both _ _
      (sorts-known c n parent r copy args (none_left (list_any (is_unknown_sort c) args) (is_unknown_sort c s) k.known))
      (sort-known c n parent r copy s (none_right (list_any (is_unknown_sort c) args) (is_unknown_sort c s) k.known)))
      k.new
      (none_both _ _
      (concrete-kept c n parent r copy args (none_left (list_any (is_abstract c) args) (not (is_returnable (rep_named c s))) k.represented))
      (not_true _ (returned-kept c n parent r copy s (false_not _ (none_right (list_any (is_abstract c) args) (not (is_returnable (rep_named c s))) k.represented)))))
      (none_both _ _
      (none_left (is_among f (called_names c)) (is_among f (copy_names c)) k.apart)
      (uncopied f c.copies copy (none_right (is_among f (called_names c)) (is_among f (copy_names c)) k.apart) unlike))
      k.few

  -- ---- the symbols are the same
  profile-kept : (m : List ℕ) (args : List (List ℕ)) (s : List ℕ) (k : SymKind) → list_any (is_unknown_sort c) args ≡ false → is_unknown_sort c s ≡ false → profile_of wide m args s k ≡ profile_of c m args s k
  profile-kept m args s k e h =
      ap (λ (ss : List SortId). record { name = m; args = ss; result = Some (sort_number wide s); kind = k }) (numbers-kept c n parent r copy args e)
      ∙ ap (λ (t : SortId). record { name = m; args = sort_numbers c args; result = Some t; kind = k }) (number-kept c n parent r copy s h)

  function-same : (m : List ℕ) (args : List (List ℕ)) (s : List ℕ) → has_unknown_name c (decl.Function m args s) ≡ false → with_sort (with_decl c (decl.Function m args s)) n parent r copy ≡ with_decl wide (decl.Function m args s)
  unfolding has_unknown_name with_decl
  function-same m args s e =
      ap (λ (y : Profile). record wide { symbols = c.symbols ++ y ∷ [] })
      (sym (profile-kept m args s kind.Function (none_left (list_any (is_unknown_sort c) args) (is_unknown_sort c s) e) (none_right (list_any (is_unknown_sort c) args) (is_unknown_sort c s) e)))

  relation-same : (m : List ℕ) (args : List (List ℕ)) → has_unknown_name c (decl.Relation m args) ≡ false → with_sort (with_decl c (decl.Relation m args)) n parent r copy ≡ with_decl wide (decl.Relation m args)
  unfolding has_unknown_name with_decl
  relation-same m args e =
      ap (λ (ss : List SortId). record wide { symbols = c.symbols ++ record { name = m; args = ss; result = None; kind = kind.Relation } ∷ [] })
      (sym (numbers-kept c n parent r copy args e))

  literal-same : (m s : List ℕ) (v : LitValue) → has_unknown_name c (decl.Literal m s v) ≡ false → with_sort (with_decl c (decl.Literal m s v)) n parent r copy ≡ with_decl wide (decl.Literal m s v)
  unfolding has_unknown_name with_decl
  literal-same m s v e =
      ap (λ (y : Profile). record wide { symbols = c.symbols ++ y ∷ []; literals = c.literals ++ record { symbol = next_symbol c; value = v } ∷ [] })
      (sym (profile-kept m [] s kind.Literal refl e))

  outputs-kept : (inputs : List (List ℕ)) (os : List Typed) → list_any (is_unknown_sort c) inputs ≡ false → list_any (is_unknown_sort c) (sorts_in os) ≡ false → map (output_profile wide inputs) os ≡ map (output_profile c inputs) os
  outputs-kept inputs [] e h = refl
  outputs-kept inputs (o ∷ os) e h =
      ap (λ y. y ∷ map (output_profile wide inputs) os) (profile-kept o.name inputs o.sort kind.Output e (none_left (is_unknown_sort c o.sort) (list_any (is_unknown_sort c) (sorts_in os)) h))
      ∙ ap (λ ys. output_profile c inputs o ∷ ys) (outputs-kept inputs os e (none_right (is_unknown_sort c o.sort) (list_any (is_unknown_sort c) (sorts_in os)) h))

  routine-same_by : (m : List ℕ) (inputs : List (List ℕ)) (outputs : List Typed) → list_any (is_unknown_sort c) inputs ≡ false → list_any (is_unknown_sort c) (sorts_in outputs) ≡ false → with_sort (with_decl c (decl.Routine m inputs outputs)) n parent r copy ≡ with_decl wide (decl.Routine m inputs outputs)
  unfolding with_decl
  routine-same_by m inputs outputs e h =
      ap (λ (ys : List Profile). record wide { symbols = c.symbols ++ ys; routines = c.routines ++ record { name = m; inputs = sort_numbers c inputs; outputs = numbers_from (length c.symbols) outputs } ∷ [] }) (sym (outputs-kept inputs outputs e h))
      ∙ ap (λ (ss : List SortId). record wide { symbols = c.symbols ++ map (output_profile wide inputs) outputs; routines = c.routines ++ record { name = m; inputs = ss; outputs = numbers_from (length c.symbols) outputs } ∷ [] }) (sym (numbers-kept c n parent r copy inputs e))

  routine-same : (m : List ℕ) (inputs : List (List ℕ)) (outputs : List Typed) → has_unknown_name c (decl.Routine m inputs outputs) ≡ false → with_sort (with_decl c (decl.Routine m inputs outputs)) n parent r copy ≡ with_decl wide (decl.Routine m inputs outputs)
  unfolding has_unknown_name
  routine-same m inputs outputs e = routine-same_by m inputs outputs (none_left (list_any (is_unknown_sort c) inputs) (list_any (is_unknown_sort c) (sorts_in outputs)) e) (none_right (list_any (is_unknown_sort c) inputs) (list_any (is_unknown_sort c) (sorts_in outputs)) e)

  value-same : (f m : List ℕ) (args : List (List ℕ)) (s : List ℕ) → has_unknown_name c (decl.Value f m args s) ≡ false → with_sort (with_decl c (decl.Value f m args s)) n parent r copy ≡ with_decl wide (decl.Value f m args s)
  unfolding has_unknown_name with_decl
  value-same f m args s e =
      ap (λ (y : Profile). record wide { symbols = c.symbols ++ y ∷ []; functions = c.functions ++ record { name = f; symbol = next_symbol c } ∷ [] })
      (sym (profile-kept m args s kind.Value (none_left (list_any (is_unknown_sort c) args) (is_unknown_sort c s) e) (none_right (list_any (is_unknown_sort c) args) (is_unknown_sort c s) e)))

  -- ---- all kinds
  pub symbol-behind : Sound c → (d : Declaration) → DeclaresSymbol d → IsFaultless c d → CallsOther d copy → StandsBehind c d n parent r copy
  symbol-behind sound (decl.Sort m q o) h k u = absurd h
  symbol-behind sound (decl.Subsort m s) h k u = absurd h
  symbol-behind sound (decl.Function m args s) h k u = record { behind = function-behind m args s k; same = function-same m args s k.known }
  symbol-behind sound (decl.Relation m args) h k u = record { behind = relation-behind m args k; same = relation-same m args k.known }
  symbol-behind sound (decl.Literal m s v) h k u = record { behind = literal-behind sound m s v k; same = literal-same m s v k.known }
  symbol-behind sound (decl.Routine m inputs outputs) h k u = record { behind = routine-behind m inputs outputs u k; same = routine-same m inputs outputs k.known }
  symbol-behind sound (decl.Value f m args s) h k u = record { behind = value-behind f m args s u k; same = value-same f m args s k.known }
  symbol-behind sound (decl.Axiom vs g) h k u = absurd h

module _ (c : Contents) where
  -- ---- a copy routine has another name than a routine or function before it
  unlike_by_routine : (ρ : Routine) (o : Option (List ℕ)) → copy_clashes (record c { routines = c.routines ++ ρ ∷ [] }) o ≡ false → IsUnlike ρ.name o
  unlike_by_routine ρ None e = tt
  unlike_by_routine ρ (Some w) e = unlike-routine w c.routines c.functions ρ e

  unlike_by_function : (f : FortranFunction) (o : Option (List ℕ)) → copy_clashes (record c { functions = c.functions ++ f ∷ [] }) o ≡ false → IsUnlike f.name o
  unlike_by_function f None e = tt
  unlike_by_function f (Some w) e = unlike-function w c.routines c.functions f e

  pub new-copy : (d : Declaration) → DeclaresSymbol d → (o : Option (List ℕ)) → copy_clashes (with_decl c d) o ≡ false → CallsOther d o
  unfolding with_decl
  new-copy (decl.Sort n r copy) h o e = absurd h
  new-copy (decl.Subsort n s) h o e = absurd h
  new-copy (decl.Function n args r) h o e = tt
  new-copy (decl.Relation n args) h o e = tt
  new-copy (decl.Literal n s v) h o e = tt
  new-copy (decl.Routine n inputs outputs) h o e = unlike_by_routine (record { name = n; inputs = sort_numbers c inputs; outputs = numbers_from (length c.symbols) outputs }) o e
  new-copy (decl.Value f n args r) h o e = unlike_by_function (record { name = f; symbol = next_symbol c }) o e
  new-copy (decl.Axiom vs g) h o e = absurd h

  -- ---- and so have the copy routines that there were
  pub old-copy : (d : Declaration) → DeclaresSymbol d → IsFaultless c d → (o : Option ℕ) → CallsOther d (of_sort c.copies o)
  unfolding clashes
  old-copy (decl.Sort n r copy) h k o = absurd h
  old-copy (decl.Subsort n s) h k o = absurd h
  old-copy (decl.Function n args r) h k o = tt
  old-copy (decl.Relation n args) h k o = tt
  old-copy (decl.Literal n s v) h k o = tt
  old-copy (decl.Routine n inputs outputs) h k o = unlike-copy n c.copies o (none_right (is_among n (called_names c)) (is_among n (copy_names c)) k.apart)
  old-copy (decl.Value f n args r) h k o = unlike-copy f c.copies o (none_right (is_among f (called_names c)) (is_among f (copy_names c)) k.apart)
  old-copy (decl.Axiom vs g) h k o = absurd h

  -- ---- a symbol leaves the sorts
  pub symbol-leaves : (d : Declaration) → DeclaresSymbol d → LeavesSorts c (with_decl c d)
  unfolding with_decl
  symbol-leaves (decl.Sort n r copy) h = absurd h
  symbol-leaves (decl.Subsort n s) h = absurd h
  symbol-leaves (decl.Function n args r) h = record { version = refl; sorts = refl; reps = refl; copies = refl; called = λ w e. e }
  symbol-leaves (decl.Relation n args) h = record { version = refl; sorts = refl; reps = refl; copies = refl; called = λ w e. e }
  symbol-leaves (decl.Literal n s v) h = record { version = refl; sorts = refl; reps = refl; copies = refl; called = λ w e. e }
  symbol-leaves (decl.Routine n inputs outputs) h =
      let ρ : Routine = record { name = n; inputs = sort_numbers c inputs; outputs = numbers_from (length c.symbols) outputs } in
      record { version = refl; sorts = refl; reps = refl; copies = refl; called = λ w e. uncalled-routine w c.routines c.functions ρ e }
  symbol-leaves (decl.Value f n args r) h =
      let φ : FortranFunction = record { name = f; symbol = next_symbol c } in
      record { version = refl; sorts = refl; reps = refl; copies = refl; called = λ w e. uncalled-function w c.routines c.functions φ e }
  symbol-leaves (decl.Axiom vs g) h = absurd h
