-- Declarations looked up by the places of their names.
use Rattle.std.proofs.Common.{◌≡◌, ◌∙◌, ◌||◌, ℕ, suc, true, false, Bool, refl, sym, ap, List, [], ◌∷◌, Option, Some, None, cond, find, is_some, option_map, if◌then◌else◌}
use Rattle.std.proofs.lemmas.Grind.{common_steps}
use Rattle.std.specs.Str.{bytes_eq}
use Rattle.am_term.specs.NameLists.{is_among}
use Rattle.am_term.proofs.Tests.{same_tests}
use Rattle.am_fortran.specs.declared.statement.Decl.{Decl}
use Rattle.am_exec.specs.ItemFaults.{declared_names}
use Rattle.am_exec.specs.Places.{first_place, type_at}
use Rattle.am_exec.proofs.Held.{eq_flip}

some_later : (o : Option ℕ) → is_some (option_map suc o) ≡ is_some o
some_later None = refl
some_later (Some k) = refl

-- a name has a place where it is one of the names
pub placed_among : (n : List ℕ) (ns : List (List ℕ)) → is_some (first_place n ns) ≡ is_among n ns
placed_among n [] = refl
placed_among n (m ∷ ms) = by_test (bytes_eq n m) (placed_among n ms)
  where
    by_test : (b : Bool) → is_some (first_place n ms) ≡ is_among n ms → is_some (if b then Some 0 else option_map suc (first_place n ms)) ≡ (b || is_among n ms)
    by_test true h = refl
    by_test false h = some_later (first_place n ms) ∙ h

type_later : (e : Decl) (es : List Decl) (o : Option ℕ) → type_at (e ∷ es) (option_map suc o) ≡ type_at es o
type_later e es None = refl
type_later e es (Some k) = refl

-- the first declaration of a name stands at the name's place
pub type_placed : (n : List ℕ) (es : List Decl) → option_map (λ (e : Decl). e.ty) (find (λ (e : Decl). bytes_eq e.name n) es) ≡ type_at es (first_place n (declared_names es))
type_placed n [] = refl
type_placed n (e ∷ es) =
    ap (λ (b : Bool). option_map (λ (x : Decl). x.ty) (cond b (Some e) (find (λ (x : Decl). bytes_eq x.name n) es))) (same_tests (bytes_eq e.name n) (bytes_eq n e.name) (eq_flip e.name n) (eq_flip n e.name))
    ∙ by_test (bytes_eq n e.name) (type_placed n es)
  where
    by_test : (b : Bool) → option_map (λ (x : Decl). x.ty) (find (λ (x : Decl). bytes_eq x.name n) es) ≡ type_at es (first_place n (declared_names es))
        → option_map (λ (x : Decl). x.ty) (cond b (Some e) (find (λ (x : Decl). bytes_eq x.name n) es)) ≡ type_at (e ∷ es) (if b then Some 0 else option_map suc (first_place n (declared_names es)))
    by_test true h = refl
    by_test false h = h ∙ sym (type_later e es (first_place n (declared_names es)))

pub ruleset indexing = (common_steps, placed_among)
