-- Instances under lists whose variables are renamed, and the variables and sorts of these.
use Rattle.std.proofs.Common.{IsTrue, ◌≡◌, ◌∙◌, ◌<◌, ℕ, zero, suc, true, refl, sym, ap, subst, arith, List, [], ◌∷◌, length, get_or, Option}
use Rattle.std.proofs.lemmas.List.{get_or-map, length-map}
use Rattle.am_term.specs.declared.id.SortId.{SortId}
use Rattle.am_term.specs.declared.signature.Signature.{Signature}
use Rattle.am_term.specs.declared.term.Term.{Term}
use Rattle.am_term.specs.declared.term.Term.TheVariants.{Var, App}
use Rattle.am_term.specs.Induct.{term_induct}
use Rattle.am_term.specs.Instance.{instance, instances, instance-Var, instance-In, instance-App}
use Rattle.am_term.specs.Sorting.{sort_of, sorts_of, sort_of-Var, sort_of-App, result_at, fit_places, fits_place}
use Rattle.am_term.proofs.Tests.{and_right}
use Rattle.am_clause.specs.declared.clause.Clause.{Clause}
use Rattle.am_clause.specs.Variables.{Variable, occurrences, occurrences_all, occurrences-In, occurrences-App, occurrences-none, occurrences-more, in_clause, variables}
use Rattle.am_clause.specs.Renaming.{Numbers, renamed, renamed_all, renamed-Var, renamed-In, renamed-App, places_in}
use Rattle.am_clause.specs.Numbered.{IsNumbered, sorts_in}
use Rattle.am_clause.proofs.Bijections.{read-place, listed}
use Rattle.am_clause.proofs.Places.{place-low}
use Rattle.am_clause.proofs.Renames.{Within, within-left, within-right}
use Rattle.am_rules.proofs.Standing.{never, Each, each-Var, each-App, each-head, each-tail, each-more, agree}
use Rattle.am_rules.proofs.Lifts.{all-after}
use Rattle.am_clause.specs.SortedClause.{are_bindings}

-- the variable's number is below a bound
abbrev pub Below : ℕ → Variable → Type 0
Below k v = v.0 < k

-- the renamed instance is the instance under renamed terms
module _ (to : Numbers) (xs : List Term) where
  pub instance-renamed : (t : Term) → Each (Below (length xs)) (occurrences t) → instance (renamed_all to xs) t ≡ renamed to (instance xs t)
  instance-renamed = agree (instance (renamed_all to xs)) (λ t. renamed to (instance xs t)) (Below (length xs))
      (λ n s h. let k : n < length xs = h in instance-Var (renamed_all to xs) n s ∙ (get_or-map (renamed to) xs n (Var n s) (Var n s) k ∙ sym (ap (renamed to) (instance-Var xs n s))))
      (λ k. instance-In (renamed_all to xs) k ∙ sym (ap (renamed to) (instance-In xs k) ∙ renamed-In to k))
      (instance-App (renamed_all to xs))
      (λ f ts. ap (renamed to) (instance-App xs f ts) ∙ (renamed-App to f (instances xs ts) ∙ ap (App f) (all-after (renamed to) (instance xs) ts)))

-- a term that is read is one of the list
pub read-within : (xs : List Term) (n : ℕ) (d : Term) → n < length xs → (v : Variable) → Within v (occurrences (get_or xs n d)) → Within v (occurrences_all xs)
read-within [] n d h v m = absurd (omega arith)
read-within (x ∷ xs) zero d h v m = rw occurrences-more (within-left v (occurrences x) (occurrences_all xs) m)
read-within (x ∷ xs) (suc n) d h v m = rw occurrences-more (within-right v (occurrences x) (occurrences_all xs) (read-within xs n d (omega arith) v m))

-- the variables of an instance are those of the list
pub instance-inner : (xs : List Term) (t : Term) → Each (Below (length xs)) (occurrences t) → Each (λ v. Within v (occurrences_all xs)) (occurrences (instance xs t))
instance-inner xs = term_induct
    (λ t. Each (Below (length xs)) (occurrences t) → Each (λ v. Within v (occurrences_all xs)) (occurrences (instance xs t)))
    (λ ts. Each (Below (length xs)) (occurrences_all ts) → Each (λ v. Within v (occurrences_all xs)) (occurrences_all (instances xs ts)))
    (λ n s h. let k : n < length xs = each-Var (Below (length xs)) n s h in rw instance-Var (λ v m. read-within xs n (Var n s) k v m))
    (λ k h v m. never (rw (instance-In, occurrences-In) at m))
    (λ f ts e h. rw (instance-App, occurrences-App f (instances xs ts)) (e (each-App (Below (length xs)) f ts h)))
    (λ h v m. never (rw occurrences-none at m))
    (λ t ts e d h. each-more (λ v. Within v (occurrences_all xs)) (instance xs t) (instances xs ts) (e (each-head (Below (length xs)) t ts h)) (d (each-tail (Below (length xs)) t ts h)))

-- renaming keeps sorts
module _ (sig : Signature) (ins : List SortId) (to : Numbers) where
  pub sort-renamed : (t : Term) → sort_of sig ins (renamed to t) ≡ sort_of sig ins t
  sort-renamed = term_induct
      (λ t. sort_of sig ins (renamed to t) ≡ sort_of sig ins t)
      (λ ts. sorts_of sig ins (renamed_all to ts) ≡ sorts_of sig ins ts)
      (λ n s. ap (sort_of sig ins) (renamed-Var to n s) ∙ (sort_of-Var sig ins (to n s) s ∙ sym (sort_of-Var sig ins n s)))
      (λ k. ap (sort_of sig ins) (renamed-In to k))
      (λ f ts h. ap (sort_of sig ins) (renamed-App to f ts) ∙ (sort_of-App sig ins f (renamed_all to ts) ∙ (ap (result_at sig _) h ∙ sym (sort_of-App sig ins f ts))))
      refl
      (λ t ts h k. ap (λ x. x ∷ sorts_of sig ins (renamed_all to ts)) h ∙ ap (λ xs. sort_of sig ins t ∷ xs) k)

  pub sorts-renamed : (ts : List Term) → sorts_of sig ins (renamed_all to ts) ≡ sorts_of sig ins ts
  sorts-renamed [] = refl
  sorts-renamed (t ∷ ts) = ap (λ x. x ∷ sorts_of sig ins (renamed_all to ts)) (sort-renamed t) ∙ ap (λ xs. sort_of sig ins t ∷ xs) (sorts-renamed ts)

-- as many terms as places
pub fit-length : (sig : Signature) (os : List (Option SortId)) (ps : List SortId) → fit_places sig os ps ≡ true → length os ≡ length ps
fit-length sig [] [] h = refl
fit-length sig [] (p ∷ ps) h = never h
fit-length sig (o ∷ os) [] h = never h
fit-length sig (o ∷ os) (p ∷ ps) h = ap suc (fit-length sig os ps (and_right (fits_place sig o p) (fit_places sig os ps) h))

pub bindings-length : (sig : Signature) (ins : List SortId) (c : Clause) (xs : List Term) → IsTrue (are_bindings sig ins xs c) → length xs ≡ length (variables c)
bindings-length sig ins c xs h =
    sym (length-map xs (sort_of sig ins)) ∙ (fit-length sig (sorts_of sig ins xs) (sorts_in c) h ∙ length-map (variables c) (λ (v : Variable). v.1))

-- a numbered clause has its variables below their count
pub numbered-below : (c : Clause) → IsNumbered c → Each (Below (length (variables c))) (in_clause c)
numbered-below c h v m =
    let l : Within v (variables c) = listed v c m in
    subst (λ k. k < length (variables c)) (sym (h (places_in (variables c) v.0 v.1) v (read-place (variables c) v l))) (place-low (variables c) v.0 v.1 l)
