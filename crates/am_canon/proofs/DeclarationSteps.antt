-- Steps of listing the declarations of a theory.
use Rattle.std.proofs.Common.{◌≡◌, ℕ, zero, suc, ◌+◌, ◌<◌, ◌≤◌, List, [], ◌∷◌, ◌++◌, length, map, drop, get_or, Option, Some, None, refl, sym, ap, ◌∙◌, arith, add-one, drop-cons, append_assoc}
use Rattle.std.specs.Prelude.{slice_get, slice_index_or, unwrap_or, option_map}
use Rattle.std.proofs.lemmas.List.{drop_all, append-nil}
use Rattle.std.proofs.lemmas.Grind.{common_steps}
use Rattle.am_term.specs.declared.symbol.Symbol.{Symbol}
use Rattle.am_syntax.specs.Scopes.{Profile, profile}
use Rattle.am_theory.specs.declared.declaration.Declaration.{Declaration}
use Rattle.am_theory.specs.Contents.{Contents}
use Rattle.am_canon.specs.CanonicalText.{symbol_decl, symbol_decls}

-- ---- sorts
pub append-on : {A : Type 0} (xs : List A) (y : A) (ys : List A) → (xs ++ y ∷ []) ++ ys ≡ xs ++ y ∷ ys
append-on xs y ys = append_assoc xs (y ∷ []) ys

pub ruleset sort_steps = (common_steps, append-on, append-nil)

-- ---- symbols
symbols_at : (c : Contents) (i : ℕ) (ys : List Symbol) (d : Symbol) → i < length ys → symbol_decls c i (map profile (drop i ys)) ≡ symbol_decl c i (profile (get_or ys i d)) (get_or ys i d).kind ++ symbol_decls c (i + 1) (map profile (drop (i + 1) ys))
symbols_at c i ys d lt = rw (drop-cons ys i d lt, add-one) refl

pub symbols_more : (c : Contents) (out : List Declaration) (i : ℕ) (ys : List Symbol) (d : Symbol) → i < length ys → (out ++ symbol_decl c i (profile (get_or ys i d)) (get_or ys i d).kind) ++ symbol_decls c (i + 1) (map profile (drop (i + 1) ys)) ≡ out ++ symbol_decls c i (map profile (drop i ys))
symbols_more c out i ys d lt = append_assoc out (symbol_decl c i (profile (get_or ys i d)) (get_or ys i d).kind) (symbol_decls c (i + 1) (map profile (drop (i + 1) ys))) ∙ ap (λ ds. out ++ ds) (sym (symbols_at c i ys d lt))

no_decls : (c : Contents) (out : List Declaration) (i : ℕ) → out ++ symbol_decls c i [] ≡ out
no_decls c out i = append-nil out

pub symbols_end : (c : Contents) (out : List Declaration) (i : ℕ) (ys : List Symbol) → length ys ≤ i → out ++ symbol_decls c i (map profile (drop i ys)) ≡ out
symbols_end c out i ys le = ap (λ (zs : List Symbol). out ++ symbol_decls c i (map profile zs)) (drop_all i ys le) ∙ no_decls c out i

pub ruleset symbol_steps = (common_steps, symbols_more, symbols_end)

-- ---- names by numbers
pub index-get : (xs : List (List ℕ)) (k : ℕ) → slice_index_or xs k [] ≡ unwrap_or (slice_get xs k) []
index-get [] k = refl
index-get (x ∷ xs) zero = refl
index-get (x ∷ xs) (suc k) = index-get xs k

pub get-map : (ys : List Symbol) (k : ℕ) → slice_get (map profile ys) k ≡ option_map profile (slice_get ys k)
get-map [] k = refl
get-map (y ∷ ys) zero = refl
get-map (y ∷ ys) (suc k) = get-map ys k

pub ruleset name_steps = (common_steps, index-get, get-map)

-- ---- names in axioms
pub names-profiles : (ys : List Symbol) → map (λ (y : Profile). y.name) (map profile ys) ≡ map (λ (y : Symbol). y.name) ys
names-profiles [] = refl
names-profiles (y ∷ ys) = ap (λ ns. y.name ∷ ns) (names-profiles ys)

pub ruleset naming_steps = (common_steps, names-profiles)
