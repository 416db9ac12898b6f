-- Going over terms, pairs and bindings.
use Rattle.std.proofs.Common.{◌≡◌, ◌∙◌, ◌==◌, ◌+◌, ◌<◌, ◌++◌, ℕ, true, false, refl, sym, ap, Some, List, [], ◌∷◌, drop, length, slice_get, get_or, if◌then◌else◌, drop-cons, add-one, append_assoc}
use Rattle.std.specs.List.{remove, zip}
use Rattle.std.proofs.lemmas.Grind.{common_steps}
use Rattle.std.proofs.lemmas.Bool.Decides.{nat_tests}
use Rattle.std.proofs.lemmas.List.Folds.{list_any_more, list_any_at}
use Rattle.am_term.specs.declared.term.Term.{Term}
use Rattle.am_term.specs.declared.term.Term.TheViews.{the_lemmas}
use Rattle.am_unify.specs.Occurrence.{number_occurs_laws}
use Rattle.am_unify.specs.Opening.{starts_below}
use Rattle.am_unify.specs.Substitution.{apply_laws, bound_to, insert_binding}
use Rattle.am_unify.proofs.Standing.{replace-Var, replace-In, replace-App}

pub ruleset occurring = (common_steps, nat_tests, the_lemmas, number_occurs_laws, list_any_more, list_any_at)

pub ruleset replacing = (common_steps, nat_tests, the_lemmas, replace-Var, replace-In, replace-App)

-- what is left decides
pub bound_at : (bs : List (ℕ × Term)) (i n : ℕ) (d : Term) (x : ℕ × Term) → i < length bs → bound_to (drop i bs) n d ≡ (let b = get_or bs i x in if b.0 == n then b.1 else bound_to (drop (i + 1) bs) n d)
bound_at bs i n d x h = rw (add-one, drop-cons bs i x) refl

pub ruleset applying = (common_steps, nat_tests, the_lemmas, apply_laws, bound_at)

-- the first one of a list that isn't empty
pub removed_first : {A : Type 0} (xs ys : List A) (x : A) → slice_get xs 0 ≡ Some x → ys ≡ remove xs 0 → xs ≡ x ∷ ys
removed_first [] ys x e d = absurd cc
removed_first (y ∷ xs) ys x e d = let a : y ≡ x = cc in ap (λ z. z ∷ xs) a ∙ ap (λ zs. x ∷ zs) (sym d)

pub insert_below : (n : ℕ) (t : Term) (bs : List (ℕ × Term)) (b : ℕ × Term) (rest : List (ℕ × Term)) → starts_below bs n ≡ true → bs ≡ b ∷ rest → insert_binding n t bs ≡ b ∷ insert_binding n t rest
insert_below n t [] b rest e d = absurd cc
insert_below n t (c ∷ cs) b rest e d = rw e (cc)

pub insert_here : (n : ℕ) (t : Term) (bs : List (ℕ × Term)) → starts_below bs n ≡ false → insert_binding n t bs ≡ (n, t) ∷ bs
insert_here n t [] e = refl
insert_here n t (c ∷ cs) e = rw e refl

pub ruleset inserting = (common_steps, removed_first, insert_below, insert_here)

pub ruleset opening = (common_steps, nat_tests, the_lemmas)

zip-right : (ts : List Term) → zip {X = Term} ts [] ≡ []
zip-right [] = refl
zip-right (t ∷ ts) = refl

pub zip-stopped : (ts us : List Term) → us ≡ [] → zip ts us ≡ []
zip-stopped ts us e = ap (zip ts) e ∙ zip-right ts

pub ruleset zipping = (common_steps, removed_first, zip-stopped)

-- all is inserted
pub insert_done : (n : ℕ) (t : Term) (found made rest mid new : List (ℕ × Term)) → insert_binding n t found ≡ made ++ insert_binding n t rest → starts_below rest n ≡ false → mid ≡ made ++ (n, t) ∷ [] → new ≡ mid ++ rest → new ≡ insert_binding n t found
insert_done n t found made rest mid new h e m is = is ∙ (ap (λ x. x ++ rest) m ∙ (append_assoc made ((n, t) ∷ []) rest ∙ (ap (λ x. made ++ x) (sym (insert_here n t rest e)) ∙ sym h)))
