-- What the names of a store hold.
use Rattle.std.proofs.Common.{◌≡◌, ◌∙◌, ◌⊎◌, inl, inr, ◌||◌, ℕ, zero, suc, ◌+◌, arith, Bool, true, false, not, refl, sym, ap, subst, List, [], ◌∷◌, Some, None, cond, map, slice_get, is_some, true≢false}
use Rattle.std.specs.List.{list_any}
use Rattle.std.specs.Str.{bytes_eq}
use Rattle.am_term.specs.declared.id.SortId.{SortId}
use Rattle.am_term.specs.declared.term.Term.{Term}
use Rattle.am_term.specs.declared.term.Term.TheVariants.{In}
use Rattle.am_term.specs.NameLists.{is_among, are_distinct}
use Rattle.am_term.proofs.Tests.{and_both, not_false, fails, or_cases}
use Rattle.am_exec.specs.States.{Store, term_held, is_held, inputs_held_from, entries_held}
use Rattle.am_exec.proofs.Held.{eq_is, eq_same, or_both}
use Rattle.am_plan.proofs.Membership.{Among, Different, among-map}

-- names
abbrev pub names_in : Store → List (List ℕ)
names_in = map (λ (e : List ℕ × Term). e.0)

pub not_among-is : (n : List ℕ) (ns : List (List ℕ)) → (Among n ns → ⊥) → is_among n ns ≡ false
not_among-is n [] h = refl
not_among-is n (m ∷ ns) h = or_both (bytes_eq n m) (is_among n ns) (fails (bytes_eq n m) (λ e. h (inl (eq_is n m e)))) (not_among-is n ns (λ a. h (inr a)))

pub among-is : (n : List ℕ) (ns : List (List ℕ)) → Among n ns → is_among n ns ≡ true
among-is n [] h = absurd h
among-is n (m ∷ ns) (inl e) = ap (λ (b : Bool). b || is_among n ns) (subst (λ (k : List ℕ). bytes_eq n k ≡ true) e (eq_same n))
among-is n (m ∷ ns) (inr h) = either (bytes_eq n m) (is_among n ns) (among-is n ns h)
  where
    either : (a b : Bool) → b ≡ true → (a || b) ≡ true
    either true b e = refl
    either false b e = e

pub is_among-so : (n : List ℕ) (ns : List (List ℕ)) → is_among n ns ≡ true → Among n ns
is_among-so n [] e = absurd (true≢false (sym e))
is_among-so n (m ∷ ns) e = by_side (is_among-so n ns) (or_cases (bytes_eq n m) (is_among n ns) e)
  where
    by_side : (is_among n ns ≡ true → Among n ns) → (bytes_eq n m ≡ true) ⊎ (is_among n ns ≡ true) → Among n (m ∷ ns)
    by_side later (inl a) = inl (eq_is n m a)
    by_side later (inr b) = inr (later b)

pub different-distinct : (ns : List (List ℕ)) → Different ns → are_distinct ns ≡ true
different-distinct [] h = refl
different-distinct (n ∷ ns) h = and_both (not (is_among n ns)) (are_distinct ns) (not_false (is_among n ns) (not_among-is n ns h.0)) (different-distinct ns h.1)

-- a name that is in no pair holds nothing
pub held-none : (store : Store) (n : List ℕ) → (Among n (names_in store) → ⊥) → term_held store n ≡ None
held-none [] n h = refl
held-none (p ∷ ps) n h = ap (λ (b : Bool). cond b (Some p.1) (term_held ps n)) (fails (bytes_eq p.0 n) (λ e. h (inl (sym (eq_is p.0 n e))))) ∙ held-none ps n (λ a. h (inr a))

-- where names differ, each holds the term of its pair
pub held-there : (store : Store) (n : List ℕ) (x : Term) → Different (names_in store) → Among (n, x) store → term_held store n ≡ Some x
held-there [] n x h a = absurd a
held-there (p ∷ ps) n x h (inl e) =
    ap (λ (b : Bool). cond b (Some p.1) (term_held ps n)) (subst (λ (q : List ℕ × Term). bytes_eq q.0 n ≡ true) e (eq_same n))
    ∙ ap (λ (q : List ℕ × Term). Some q.1) (sym e)
held-there (p ∷ ps) n x h (inr a) =
    ap (λ (b : Bool). cond b (Some p.1) (term_held ps n)) (fails (bytes_eq p.0 n) (λ e. h.0 (subst (λ (m : List ℕ). Among m (names_in ps)) (sym (eq_is p.0 n e)) (among-map (λ (e : List ℕ × Term). e.0) (n, x) ps a))))
    ∙ held-there ps n x h.1 a

-- names of which none holds anything
pub none-held : (store : Store) (ns : List (List ℕ)) → ((n : List ℕ) → Among n ns → Among n (names_in store) → ⊥) → list_any (is_held store) ns ≡ false
none-held store [] h = refl
none-held store (n ∷ ns) h = or_both (is_held store n) (list_any (is_held store) ns) (ap is_some (held-none store n (λ a. h n (inl refl) a))) (none-held store ns (λ m a. h m (inr a)))

-- the pairs of names and terms
pub entries-zip : (name : Term → List ℕ) (xs : List Term) → entries_held (map (λ (x : Term). Some (name x)) xs) xs ≡ map (λ (x : Term). (name x, x)) xs
entries-zip name [] = refl
entries-zip name (x ∷ xs) = ap (λ (es : Store). (name x, x) ∷ es) (entries-zip name xs)

-- the inputs
pub inputs-among : (ds : List (List ℕ × SortId)) (k i j : ℕ) (e : List ℕ × SortId) → slice_get ds i ≡ Some e → j ≡ k + i → Among (e.0, In j) (inputs_held_from k ds)
inputs-among [] k i j e at is = absurd cc
inputs-among (d ∷ ds) k zero j e at is =
    let same : d ≡ e = cc in
    let here : j ≡ k = omega arith in
    inl (ap (λ (q : List ℕ × SortId). let p : List ℕ × Term = (q.0, In j) in p) (sym same) ∙ ap (λ (i : ℕ). let p : List ℕ × Term = (d.0, In i) in p) here)
inputs-among (d ∷ ds) k (suc i) j e at is = inr (inputs-among ds (suc k) i j e at (omega arith))

pub inputs-names : (k : ℕ) (ds : List (List ℕ × SortId)) → names_in (inputs_held_from k ds) ≡ map (λ (e : List ℕ × SortId). e.0) ds
inputs-names k [] = refl
inputs-names k (d ∷ ds) = ap (λ (ns : List (List ℕ)). d.0 ∷ ns) (inputs-names (suc k) ds)
