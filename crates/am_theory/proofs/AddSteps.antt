-- What declarations add: representations, sorts, variables and outputs.
use Rattle.std.proofs.Common.{◌≡◌, ◌∙◌, ℕ, ◌+◌, ◌<◌, ◌≤◌, ◌^◌, Bool, true, false, List, [], ◌∷◌, ◌++◌, map, length, get_or, drop, Option, Some, None, Result, Ok, Err, refl, sym, ap, subst, arith, slice_get, append_assoc}
use Rattle.std.specs.Prelude.{◌||◌, ℤ, pos, negsuc, IfSome, OnOk, OnErr}
use Rattle.std.specs.Str.{bytes_eq}
use Rattle.std.proofs.lemmas.Grind.{common_steps}
use Rattle.std.proofs.lemmas.Bool.Decides.{nat_tests}
use Rattle.std.proofs.lemmas.List.{append-nil, drop_all, length-append}
use Rattle.std.proofs.lemmas.List.Folds.{list_any-append}
use Rattle.am_term.specs.declared.id.SortId.{SortId}
use Rattle.am_term.specs.NameLists.{is_among}
use Rattle.am_term.specs.declared.id.SymId.{SymId}
use Rattle.am_syntax.specs.Scopes.{Profile}
use Rattle.am_theory.specs.declared.theory.Routine.{Routine}
use Rattle.am_theory.specs.declared.declaration.Typed.{Typed}
use Rattle.am_theory.specs.Contents.{Contents, extent, sort_numbers, numbers_from, with_symbol, output_profile, variable_of, with_decl}
use Rattle.am_theory.specs.Faults.{names_in, is_out_of}
use Rattle.am_theory.specs.Limits.{length_limit, extent_limit}
use Rattle.am_theory.specs.Additions.{with_outputs, with_called}
use Rattle.am_theory.specs.declared.declaration.Declaration.TheVariants as decl
use Rattle.am_theory.proofs.Appends.{before, behind, get-side, get-only}
use Rattle.am_theory.proofs.Distinct.{one-left}

-- ---- numbers of representations
pub length-fits : (n : ℤ) → is_out_of length_limit n ≡ false → extent n < 2 ^ 32
length-fits (pos n) h = grind (arith, nat_tests)
length-fits (negsuc n) h = absurd cc

pub extent-fits : (n : ℤ) → is_out_of extent_limit n ≡ false → extent n < 2 ^ 32
extent-fits (pos n) h = grind (arith, nat_tests)
extent-fits (negsuc n) h = absurd cc

pub ruleset extent_steps = (common_steps, length-fits, extent-fits)

-- ---- sorts
abbrev AreLower : List (Option SortId) → Type 0
AreLower parents = (s : ℕ) (p : SortId) → slice_get parents s ≡ Some (Some p) → p.0 < s

some-lower : (n : ℕ) (parent : Option SortId) (p : SortId) → IfSome parent (λ q. q.0 < n) → parent ≡ Some p → p.0 < n
some-lower n None p h e = absurd cc
some-lower n (Some q) p h e = let same : q ≡ p = cc in subst (λ (x : SortId). x.0 < n) same h

lower-push : (parents : List (Option SortId)) (parent : Option SortId) → AreLower parents → IfSome parent (λ p. p.0 < length parents) → AreLower (parents ++ parent ∷ [])
lower-push parents parent h k s p e = elim (get-side parents (parent ∷ []) s (Some p) e) [
  | before g ↦ h s p g
  | behind j i g ↦ let o : (j ≡ 0) × (parent ≡ Some p) = get-only parent j (Some p) g in let l = some-lower (length parents) parent p k o.1 in omega arith
]

-- one more sort with its parent, or no sorts
pub sorts-hold : {E : Type 0} (r : Result (Unit {0}) E) (sorts more : List (List ℕ)) (name : List ℕ) (parents above : List (Option SortId)) (parent : Option SortId) → length parents ≡ length sorts → AreLower parents → IfSome parent (λ p. p.0 < length sorts) → OnOk r (more ≡ sorts ++ name ∷ []) → OnOk r (above ≡ parents ++ parent ∷ []) → OnErr r (more ≡ []) → OnErr r (above ≡ []) → (length above ≡ length more) × AreLower above
sorts-hold (Ok u) sorts more name parents above parent count lower placed e f g h = (
  ap length f ∙ length-append parents (parent ∷ []) ∙ ap (λ k. k + 1) count ∙ sym (length-append sorts (name ∷ [])) ∙ ap length (sym e),
  subst AreLower (sym f) (lower-push parents parent lower (subst (λ n. IfSome parent (λ p. p.0 < n)) (sym count) placed)),
)
sorts-hold (Err x) sorts more name parents above parent count lower placed e f g h = (
  ap length h ∙ ap length (sym g),
  subst AreLower (sym h) (λ s p k. absurd cc),
)

-- ---- names of calls
pub ruleset call_steps = (common_steps, list_any-append)

-- ---- variables of axioms
abbrev variable_name : List ℕ × SortId → List ℕ
variable_name v = v.0

pub names-of-variables : (c : Contents) (vs : List Typed) → map variable_name (map (variable_of c) vs) ≡ names_in vs
names-of-variables c [] = refl
names-of-variables c (v ∷ vs) = ap (λ ns. v.name ∷ ns) (names-of-variables c vs)

moved : (d n v : Bool) → (d || (n || v)) ≡ ((n || d) || v)
moved true true v = refl
moved true false v = refl
moved false true v = refl
moved false false v = refl

pub variables-on : (q : List ℕ) (vs : List Typed) (i : ℕ) (one : Typed) (v t : Bool) → i < length vs → one ≡ get_or vs i one → t ≡ (bytes_eq q one.name || v) → (is_among q (names_in (drop (i + 1) vs)) || t) ≡ (is_among q (names_in (drop i vs)) || v)
variables-on q vs i one v t h is e =
    ap (λ x. is_among q (names_in (drop (i + 1) vs)) || x) e
    ∙ moved (is_among q (names_in (drop (i + 1) vs))) (bytes_eq q one.name) v
    ∙ ap (λ (xs : List Typed). is_among q (names_in xs) || v) (sym (one-left vs i one h is))

pub variables-end : (q : List ℕ) (vs : List Typed) (i : ℕ) (v : Bool) → length vs ≤ i → (is_among q (names_in (drop i vs)) || v) ≡ v
variables-end q vs i v h = ap (λ (xs : List Typed). is_among q (names_in xs) || v) (drop_all i vs h)

-- ---- outputs of routines
abbrev with_profiles : Contents → List Profile → Contents
with_profiles c ys = record c { symbols = c.symbols ++ ys }

pub outputs-all : (c : Contents) (inputs : List (List ℕ)) (os : List Typed) → with_outputs c inputs os ≡ with_profiles c (map (output_profile c inputs) os)
outputs-all c inputs [] = ap (λ (ys : List Profile). let d : Contents = record c { symbols = ys } in d) (sym (append-nil c.symbols))
outputs-all c inputs (o ∷ os) =
    outputs-all (with_symbol c (output_profile c inputs o)) inputs os
    ∙ ap (λ (ys : List Profile). let d : Contents = record c { symbols = ys } in d) (append_assoc c.symbols (output_profile c inputs o ∷ []) (map (output_profile c inputs) os))

abbrev routine_of : List ℕ → List SortId → List SymId → Routine
routine_of n ins outs = record { name = n; inputs = ins; outputs = outs }

pub routine-made : (c after next : Contents) (n : List ℕ) (inputs : List (List ℕ)) (outputs : List Typed) (ins : List SortId) (outs : List SymId) → after ≡ with_outputs c inputs outputs → ins ≡ sort_numbers c inputs → outs ≡ numbers_from (length c.symbols) outputs → next ≡ with_called after (record { name = n; inputs = ins; outputs = outs }) → next ≡ with_decl c (decl.Routine n inputs outputs)
unfolding with_decl
routine-made c after next n inputs outputs ins outs e f g h =
    let made : Contents = with_profiles c (map (output_profile c inputs) outputs) in
    h ∙ ap (λ (x : Contents). with_called x (routine_of n ins outs)) (e ∙ outputs-all c inputs outputs)
    ∙ ap (λ (x : List SortId). with_called made (routine_of n x outs)) f
    ∙ ap (λ (x : List SymId). with_called made (routine_of n (sort_numbers c inputs) x)) g
