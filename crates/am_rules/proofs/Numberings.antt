-- What a rule makes is one row, whichever most general bindings it is made of.
use Rattle.std.proofs.Common.{◌≡◌, ◌∙◌, ◌||◌, inl, inr, ℕ, zero, suc, false, true, refl, sym, ap, subst, List, [], ◌∷◌, map, Some, slice_get}
use Rattle.am_term.specs.declared.id.SortId.{SortId}
use Rattle.am_term.specs.declared.signature.Signature.{Signature}
use Rattle.am_term.specs.declared.term.Term.{Term}
use Rattle.am_term.specs.declared.term.Term.TheVariants.{App}
use Rattle.am_term.specs.Sorting.{term_fits}
use Rattle.am_term.proofs.Tests.{or_cases}
use Rattle.am_clause.specs.declared.clause.Clause.{Clause}
use Rattle.am_clause.specs.declared.row.Made.{Made}
use Rattle.am_clause.specs.Variables.{Variable, same_variable, in_clause}
use Rattle.am_clause.specs.Renaming.{Numbers, renamed, renamed_all, renamed_clause, renamed-Var, renamed-In, renamed-App, places_in}
use Rattle.am_clause.specs.Distinct.{among}
use Rattle.am_clause.proofs.Places.{same_variable-sound, same_variable-refl}
use Rattle.am_clause.proofs.Bijections.{read-place}
use Rattle.am_unify.specs.Substitution.{Substitution, apply, apply-Var, apply-In, apply-App}
use Rattle.am_clause.proofs.Renames.{moved, Within, within-right, within-left}
use Rattle.am_rules.specs.Row.{row, in_lists, variables_of_made, renamed_lists}
use Rattle.am_rules.specs.Most.{AreInstances, AreMostGeneralBySubstitution, IsUndone, AreRenamed}
use Rattle.am_rules.specs.Made.{IsMadeOfSuch, IsNatural}
use Rattle.am_rules.proofs.Standing.{never, within-cases, lists-agree}
use Rattle.am_rules.proofs.Uniques.{most-renamed}
use Rattle.am_rules.proofs.RowLaws.{lists-moved, renumbered-moved, numbered-fixed, listed, variables-moved}
use Rattle.am_rules.proofs.Orders.{apart-distinct, place-read, read-map}
use Rattle.am_clause.specs.NumberedMade.{made_occurrences, renamed_made, numbered_made}
use Rattle.am_clause.specs.Numbered.{AreNumbered}

module _ (sig : Signature) (ins : List SortId) (Such : List (List Term) → Type 0) (conclusion : List (List Term) → Clause) (natural : IsNatural Such conclusion) where
  inner : (m : Made) → IsMadeOfSuch sig ins Such conclusion m → (v : Variable) → Within v (made_occurrences m) → Within v (in_lists m.with)
  inner m h v i = elim (within-cases v (in_clause m.clause) (in_lists m.with) i) [
    | inl a ↦ natural.inner m.with h.general.holds v (subst (λ c. Within v (in_clause c)) h.concluded a)
    | inr b ↦ b
  ]

  pub made-unique : (m n : Made) → IsMadeOfSuch sig ins Such conclusion m → IsMadeOfSuch sig ins Such conclusion n → n ≡ m
  made-unique m n g h =
      let r : AreRenamed n.with m.with = most-renamed sig ins Such m.with n.with g.general h.general in
      let c : n.clause ≡ renamed_clause r.to m.clause = h.concluded ∙ (ap conclusion r.equal ∙ (natural.concluded r.to r.back m.with r.undone g.general.holds ∙ sym (ap (renamed_clause r.to) g.concluded))) in
      let is : n ≡ renamed_made r.to m = ap (λ x. row x n.with) c ∙ ap (row (renamed_clause r.to m.clause)) r.equal in
      let u : IsUndone r.to r.back (made_occurrences m) = record { undone = λ k s i. r.undone.undone k s (inner m g (k, s) i) } in
      sym (numbered-fixed n h.numbered) ∙ (ap numbered_made is ∙ (renumbered-moved r.to r.back m u ∙ numbered-fixed m g.numbered))

-- a member of moved variables is one that was moved
pub record WasMoved (f : Variable → Variable) (w : Variable) (vs : List Variable) : Type 0 where
  pub from : Variable
  pub within : Within from vs
  pub is : f from ≡ w

pub was-moved : (f : Variable → Variable) (w : Variable) (vs : List Variable) → Within w (map f vs) → WasMoved f w vs
was-moved f w [] m = never m
was-moved f w (v ∷ vs) m = elim (or_cases (same_variable w (f v)) (among same_variable w (map f vs)) m) [
  | inl a ↦ record { from = v; within = within-left v (v ∷ []) vs (one v); is = sym (same_variable-sound w (f v) a) }
  | inr b ↦ (let r : WasMoved f w vs = was-moved f w vs b in record { from = r.from; within = within-right r.from (v ∷ []) vs r.within; is = r.is })
]
  where
    one : (v : Variable) → (same_variable v v || false) ≡ true
    one v = rw (same_variable-refl v) refl

maps : {A B C : Type 0} (g : B → C) (f : A → B) (xs : List A) → map g (map f xs) ≡ map (λ x. g (f x)) xs
maps g f [] = refl
maps g f (x ∷ xs) = ap (λ ys. g (f x) ∷ ys) (maps g f xs)

lists_maps : {A B C : Type 0} (g : B → C) (f : A → B) (ws : List (List A)) → map (map g) (map (map f) ws) ≡ map (map (λ x. g (f x))) ws
lists_maps g f [] = refl
lists_maps g f (w ∷ ws) = ap (λ x. x ∷ map (map g) (map (map f) ws)) (maps g f w) ∙ ap (λ xs. map (λ x. g (f x)) w ∷ xs) (lists_maps g f ws)

-- renamed, most general lists stay most general
module _ (sig : Signature) (ins : List SortId) (to back : Numbers) (ws : List (List Term)) (u : IsUndone to back (in_lists ws)) where
  module _ (vs : List (List Term)) (a : AreInstances sig ins vs ws) where
    abbrev by : Substitution
    by n s = a.by (back n s) s

    abbrev Same : Variable → Type 0
    Same v = by (to v.0 v.1) v.1 ≡ a.by v.0 v.1

    pub renamed-instances : AreInstances sig ins vs (renamed_lists to ws)
    renamed-instances = record {
      by = by;
      keeps = λ n s i.
          let m : WasMoved (moved to) (n, s) (in_lists ws) = was-moved (moved to) (n, s) (in_lists ws) (subst (λ xs. Within (n, s) xs) (lists-moved to ws) i) in
          let h : term_fits sig ins (by (to m.from.0 m.from.1) m.from.1) m.from.1 ≡ true =
          subst (λ k. term_fits sig ins (a.by k m.from.1) m.from.1 ≡ true) (sym (u.undone m.from.0 m.from.1 m.within)) (a.keeps m.from.0 m.from.1 m.within) in
          subst (λ (x : Variable). term_fits sig ins (by x.0 x.1) x.1 ≡ true) m.is h;
      equal = a.equal ∙ sym (lists_maps (apply by) (renamed to) ws ∙ lists-agree (λ t. apply by (renamed to t)) (apply a.by) Same
          (λ n s h. ap (apply by) (renamed-Var to n s) ∙ (apply-Var by (to n s) s ∙ (h ∙ sym (apply-Var a.by n s))))
          (λ k. ap (apply by) (renamed-In to k) ∙ (apply-In by k ∙ sym (apply-In a.by k)))
          (λ f ts. ap (apply by) (renamed-App to f ts) ∙ (apply-App by f (renamed_all to ts) ∙ ap (App f) (maps (apply by) (renamed to) ts)))
          (apply-App a.by) ws
          (λ v i. ap (λ k. a.by k v.1) (u.undone v.0 v.1 i)));
    }

  pub most-kept : (Such : List (List Term) → Type 0) → Such (renamed_lists to ws) → AreMostGeneralBySubstitution sig ins Such ws → AreMostGeneralBySubstitution sig ins Such (renamed_lists to ws)
  most-kept Such h g = record { holds = h; factors = λ vs k. renamed-instances vs (g.factors vs k) }

-- numbers of places are undone by reading the places
abbrev pub number_there : List Variable → ℕ → ℕ
number_there [] k = 0
number_there (v ∷ vs) zero = v.0
number_there (v ∷ vs) (suc k) = number_there vs k

number-there : (vs : List Variable) (k : ℕ) (v : Variable) → slice_get vs k ≡ Some v → number_there vs k ≡ v.0
number-there [] k v e = absurd cc
number-there (w ∷ ws) zero v e = let i : w ≡ v = cc in ap (λ (x : Variable). x.0) i
number-there (w ∷ ws) (suc k) v e = number-there ws k v e

abbrev pub back_of : Made → Numbers
back_of m k s = number_there (variables_of_made m) k

pub places-undone : (m : Made) → IsUndone (places_in (variables_of_made m)) (back_of m) (made_occurrences m)
places-undone m = record { undone = λ n s i. number-there (variables_of_made m) (places_in (variables_of_made m) n s) (n, s) (read-place (variables_of_made m) (n, s) (listed (n, s) m i)) }

pub renumbered-numbered : (m : Made) → AreNumbered (made_occurrences (numbered_made m))
unfolding numbered_made
renumbered-numbered m k v e =
    let r : (w : Variable) × (slice_get (variables_of_made m) k ≡ Some w) × (moved (places_in (variables_of_made m)) w ≡ v) =
    read-map (moved (places_in (variables_of_made m))) (variables_of_made m) k v (sym (ap (λ (vs : List Variable). slice_get vs k) (variables-moved (places_in (variables_of_made m)) (back_of m) m (places-undone m))) ∙ e) in
    sym (ap (λ (x : Variable). x.0) r.2) ∙ place-read (variables_of_made m) (apart-distinct (made_occurrences m)) k r.0 r.1

-- what is made of most general lists, numbered
module _ (sig : Signature) (ins : List SortId) (Such : List (List Term) → Type 0) (conclusion : List (List Term) → Clause) (natural : IsNatural Such conclusion) where
  pub made-numbered : (ws : List (List Term)) → AreMostGeneralBySubstitution sig ins Such ws → IsMadeOfSuch sig ins Such conclusion (numbered_made (row (conclusion ws) ws))
  unfolding numbered_made
  made-numbered ws g =
      let m : Made = row (conclusion ws) ws in
      let to : Numbers = places_in (variables_of_made m) in
      let u : IsUndone to (back_of m) (in_lists ws) = record { undone = λ n s i. (places-undone m).undone n s (within-right (n, s) (in_clause (conclusion ws)) (in_lists ws) i) } in
      record {
        general = most-kept sig ins to (back_of m) ws u Such (natural.such to (back_of m) ws u g.holds) g;
        concluded = sym (natural.concluded to (back_of m) ws u g.holds);
        numbered = renumbered-numbered m;
      }
