-- Ids of what terms become, in a bank that grows.
use Rattle.std.proofs.Common.{◌≡◌, ◌==◌, ◌+◌, ◌<◌, ◌≤◌, ◌++◌, ◌∙◌, ℕ, zero, suc, Bool, true, false, List, [], ◌∷◌, Option, Some, None, Vec, refl, sym, ap, ap₂, subst, cond, map, length, take, drop, get_or, max, arith, slice_get, nat_eq, if◌then◌else◌}
use Rattle.std.proofs.lemmas.Grind.{common_steps}
use Rattle.std.proofs.lemmas.Bool.Decides.{nat_tests}
use Rattle.std.proofs.lemmas.List.{map-append, take_all, take_more, drop_more}
use Rattle.std.specs.Cmp.Lexicographic.{pointwise}
use Rattle.std.specs.declared.alloc.Global.{Global}
use Rattle.std.specs.HashMap.{HashMap, IsEmpty, get}
use Rattle.std.specs.Map.{lookup}
use Rattle.am_term.specs.declared.id.SortId.{SortId}
use Rattle.am_term.specs.declared.id.SymId.{SymId}
use Rattle.am_term.specs.declared.term.Term.{Term}
use Rattle.am_term.specs.declared.term.Term.TheVariants as term
use Rattle.am_unify.specs.Substitution.{Substitution, apply, applies, apply-Var, apply-In, apply-App, bound_to, listed, replace, replace_in}
use Rattle.am_bank.specs.declared.id.TermId.{TermId}
use Rattle.am_bank.specs.declared.node.Node.{Node}
use Rattle.am_bank.specs.declared.node.Node.TheVariants as node
use Rattle.am_bank.specs.Node.{Shared, numbers, node_shared}
use Rattle.am_bank.specs.Bank.{IsBank, Grows}
use Rattle.am_bank.proofs.Built.{grows-none, grows-on, grows-longer}
use Rattle.am_sharing.specs.Bound.{id_bound, node_bound}
use Rattle.am_sharing.specs.Pairs.{pairs_at, pairs_bound}
use Rattle.am_sharing.specs.Terms.{term_at, terms_at}
use Rattle.am_sharing.proofs.Nodes.{bound-at, node-term}
use Rattle.am_shared_unify.specs.Sides.{id_for, listed_at, sides_applied, sides_at, term_sides}
use Rattle.am_shared_unify.specs.Tables.{AreImages}
use Rattle.am_shared_unify.specs.Unifying.{pair_ids_bound}
use Rattle.am_shared_unify.proofs.Grown.{term-kept, terms-kept, pairs-kept, side-kept, sides-kept}

-- tables
module _ (ns : List Shared) (θ : Substitution) where
  pub no-images : (f : ℕ → Option TermId) → ((i : ℕ) → f i ≡ None) → AreImages ns θ f
  no-images f none = record {
    there = λ i j e. let h = none i in absurd cc;
    inside = λ i j e. let h = none i in absurd cc;
    are = λ i j e. let h = none i in absurd cc;
  }

  -- a new table holds nothing
  pub empty-images : {S : Type 0} (m : HashMap ℕ TermId S) → IsEmpty m → AreImages ns θ (get nat_eq m)
  empty-images m e = no-images (get nat_eq m) (λ i. ap (lookup (nat_eq i)) e)

  -- one more id has an image
  module _ (f g : ℕ → Option TermId) (k : ℕ) (j : TermId) (are : AreImages ns θ f) (is : (q : ℕ) → g q ≡ cond (nat_eq k q) (Some j) (f q)) (there : k < length ns) (inside : j.0 < length ns) (e : term_at ns j.0 ≡ apply θ (term_at ns k)) where
    by_id : {P : ℕ → TermId → Type 0} → P k j → ((q : ℕ) (m : TermId) → f q ≡ Some m → P q m) → (q : ℕ) (m : TermId) → g q ≡ Some m → P q m
    by_id {P} here others q m h = by_test (nat_eq k q) refl (sym (is q) ∙ h)
      where
        by_test : (b : Bool) → nat_eq k q ≡ b → cond (nat_eq k q) (Some j) (f q) ≡ Some m → P q m
        by_test true d s =
            let id : k ≡ q = grind (arith, nat_tests) in
            let image : j ≡ m = grind (arith, nat_tests) in
            subst (λ (i : ℕ). P i m) id (subst (λ (i : TermId). P k i) image here)
        by_test false d s = others q m (grind (arith, nat_tests))

    pub one-more : AreImages ns θ g
    one-more = record {
      there = by_id {P = λ (q : ℕ) (m : TermId). q < length ns} there are.there;
      inside = by_id {P = λ (q : ℕ) (m : TermId). m.0 < length ns} inside are.inside;
      are = by_id {P = λ (q : ℕ) (m : TermId). term_at ns m.0 ≡ apply θ (term_at ns q)} e are.are;
    }

-- one more id has an image in a bank that grew
pub image-more : (old new : List Shared) (θ : Substitution) (f g : ℕ → Option TermId) (k : ℕ) (j : TermId) → Grows old new → AreImages new θ f → ((q : ℕ) → g q ≡ cond (nat_eq k q) (Some j) (f q)) → k < length old → j.0 < length new → term_at new j.0 ≡ apply θ (term_at old k) → AreImages new θ g
image-more old new θ f g k j grows are is there inside e =
    let longer = grows-longer old new grows in
    one-more new θ f g k j are is (omega arith) inside (e ∙ ap (apply θ) (sym (term-kept old new grows k there)))

-- the first of what is left decides
pub id_for-at : (ps : List (ℕ × TermId)) (i n : ℕ) (d : TermId) (x : ℕ × TermId) → i < length ps → id_for (drop i ps) n d ≡ (let p = get_or ps i x in if p.0 == n then p.1 else id_for (drop (i + 1) ps) n d)
id_for-at ps i n d x h = rw (drop_more ps i x h) refl

pub ruleset binding = (common_steps, nat_tests, id_for-at)

module _ (ns : List Shared) where
  id_for-is : (ps : List (ℕ × TermId)) (n : ℕ) (d : TermId) → term_at ns (id_for ps n d).0 ≡ bound_to (pairs_at ns ps) n (term_at ns d.0)
  id_for-is [] n d = refl
  id_for-is (p ∷ ps) n d = by_test (p.0 == n) (id_for-is ps n d)
    where
      by_test : (b : Bool) → term_at ns (id_for ps n d).0 ≡ bound_to (pairs_at ns ps) n (term_at ns d.0) → term_at ns (if b then p.1 else id_for ps n d).0 ≡ (if b then term_at ns p.1.0 else bound_to (pairs_at ns ps) n (term_at ns d.0))
      by_test true e = refl
      by_test false e = e

  pub id_for-bound : (ps : List (ℕ × TermId)) (n : ℕ) (d : TermId) → (id_for ps n d).0 < max (pairs_bound ps) (d.0 + 1)
  id_for-bound [] n d = omega arith
  id_for-bound (p ∷ ps) n d = by_test (p.0 == n) (id_for-bound ps n d)
    where
      by_test : (b : Bool) → (id_for ps n d).0 < max (pairs_bound ps) (d.0 + 1) → (if b then p.1 else id_for ps n d).0 < max (max (p.1.0 + 1) (pairs_bound ps)) (d.0 + 1)
      by_test true h = omega arith
      by_test false h = omega arith

  -- what terms become, by their heads
  pub becomes-Var : (ps : List (ℕ × TermId)) (n : ℕ) (s : SortId) (i : TermId) → term_at ns i.0 ≡ term.Var n s → term_at ns (id_for ps n i).0 ≡ apply (listed_at ns ps) (term_at ns i.0)
  becomes-Var ps n s i e = id_for-is ps n i ∙ ap (bound_to (pairs_at ns ps) n) e ∙ sym (apply-Var (listed_at ns ps) n s) ∙ ap (apply (listed_at ns ps)) (sym e)

  pub becomes-In : (θ : Substitution) (k i : ℕ) → term_at ns i ≡ term.In k → term_at ns i ≡ apply θ (term_at ns i)
  becomes-In θ k i e = e ∙ sym (apply-In θ k) ∙ ap (apply θ) (sym e)

pub becomes-App : (old mid new : List Shared) (θ : Substitution) (f : SymId) (ids js : List TermId) (args : Vec TermId Global) (i j : ℕ) → Grows mid new → IsBank new → term_at old i ≡ term.App f (terms_at old ids) → terms_at mid js ≡ applies θ (terms_at old ids) → id_bound js ≤ length mid → js ≡ args.items → slice_get new j ≡ Some (node_shared (node.App f args)) → term_at new j ≡ apply θ (term_at old i)
becomes-App old mid new θ f ids js args i j grows bank e are below is at =
    node-term new bank j (node.App f args) at
    ∙ ap (term.App f) (ap (terms_at new) (sym is) ∙ terms-kept mid new grows js below ∙ are)
    ∙ sym (apply-App θ f (terms_at old ids)) ∙ ap (apply θ) (sym e)

-- where the arguments are ids of what they become, the id stays
pub becomes-same : (old now : List Shared) (θ : Substitution) (f : SymId) (ids : List TermId) (i : ℕ) → Grows old now → i < length old → id_bound ids ≤ length old → term_at old i ≡ term.App f (terms_at old ids) → terms_at now ids ≡ applies θ (terms_at old ids) → term_at now i ≡ apply θ (term_at old i)
becomes-same old now θ f ids i grows there below e are =
    term-kept old now grows i there ∙ e
    ∙ ap (term.App f) (sym (terms-kept old now grows ids below) ∙ are)
    ∙ sym (apply-App θ f (terms_at old ids)) ∙ ap (apply θ) (sym e)

pub ids-below : (x : Node) (f : SymId) (args : Vec TermId Global) (ids : List TermId) (i : ℕ) → x ≡ node.App f args → ids ≡ args.items → node_bound x ≤ i → id_bound ids ≤ i
ids-below x f args ids i is same h = subst (λ (js : List TermId). id_bound js ≤ i) (sym same) (subst (λ (y : Node). node_bound y ≤ i) is h)

pub ids-same : (xs ys : List TermId) → pointwise (λ (a b : TermId). nat_eq a.0 b.0) xs ys ≡ true → xs ≡ ys
ids-same [] [] e = refl
ids-same [] (y ∷ ys) e = cc
ids-same (x ∷ xs) [] e = cc
ids-same (x ∷ xs) (y ∷ ys) e = grind (arith, nat_tests, ids-same xs ys)

-- the arguments of a node are ids of the bank
pub args-below : (ids : List TermId) (n k i : ℕ) → id_bound ids ≤ n → slice_get (numbers ids) k ≡ Some i → i < n
args-below [] n zero i h e = absurd cc
args-below [] n (suc k) i h e = absurd cc
args-below (j ∷ ids) n zero i h e = let is : j.0 ≡ i = cc in omega arith
args-below (j ∷ ids) n (suc k) i h e = args-below ids n k i (omega arith) e

bound-push : (ids : List TermId) (j : TermId) → id_bound (ids ++ j ∷ []) ≡ max (id_bound ids) (j.0 + 1)
bound-push [] j = omega arith
bound-push (i ∷ ids) j = let h = bound-push ids j in omega arith

-- what some ids became so far, and what is known
pub record Became (old now : List Shared) (θ : Substitution) (f : ℕ → Option TermId) (ids made : List TermId) : Type 0 where
  pub grows : Grows old now
  pub images : AreImages now θ f
  pub are : terms_at now made ≡ applies θ (terms_at old ids)
  pub within : id_bound made ≤ length now

-- the same table, where what is bound is read in the bank that grew
pub images-again : (old now : List Shared) (found : List (ℕ × TermId)) (f : ℕ → Option TermId) → Grows old now → pairs_bound found ≤ length old → AreImages now (listed_at old found) f → AreImages now (listed_at now found) f
images-again old now found f grows below are = subst (λ (bs : List (ℕ × Term)). AreImages now (listed bs) f) (sym (pairs-kept old now grows found below)) are

pub images-before : (old now new : List Shared) (found : List (ℕ × TermId)) (f : ℕ → Option TermId) → Grows old now → pairs_bound found ≤ length old → AreImages new (listed_at now found) f → AreImages new (listed_at old found) f
images-before old now new found f grows below are = subst (λ (bs : List (ℕ × Term)). AreImages new (listed bs) f) (pairs-kept old now grows found below) are

-- what an id becomes is the same in the bank that grew
pub becomes-before : (old now : List Shared) (found : List (ℕ × TermId)) (i : ℕ) (t : Term) → Grows old now → pairs_bound found ≤ length old → i < length old → t ≡ apply (listed_at now found) (term_at now i) → t ≡ apply (listed_at old found) (term_at old i)
becomes-before old now found i t grows below within e = e ∙ ap₂ (λ (bs : List (ℕ × Term)) (u : Term). apply (listed bs) u) (pairs-kept old now grows found below) (term-kept old now grows i within)

module _ (old now new : List Shared) (found : List (ℕ × TermId)) (f g : ℕ → Option TermId) (below : pairs_bound found ≤ length old) where
  abbrev θ : Substitution
  θ = listed_at old found

  -- one more id
  pub became-more : (ids made pushed : List TermId) (k : ℕ) (d j : TermId) → Became old now θ f (take k ids) made → k < length ids → id_bound ids ≤ length old → Grows now new → AreImages new (listed_at now found) g → term_at new j.0 ≡ apply (listed_at now found) (term_at now (get_or ids k d).0) → j.0 < length new → pushed ≡ made ++ j ∷ [] → Became old new θ g (take (k + 1) ids) pushed
  became-more ids made pushed k d j so h small grows images e inside is =
      let at = bound-at ids k d h in
      let longer = grows-longer now new grows in
      let within = so.within in
      let push = ap id_bound is ∙ bound-push made j in
      record {
        grows = grows-on old now new so.grows grows;
        images = images-before old now new found g so.grows below images;
        are =
            ap (terms_at new) is ∙ map-append (λ (i : TermId). term_at new i.0) made (j ∷ [])
            ∙ ap₂ (λ (ts : List Term) (t : Term). ts ++ t ∷ []) (terms-kept now new grows made within ∙ so.are) (becomes-before old now found (get_or ids k d).0 (term_at new j.0) so.grows below (omega arith) e)
            ∙ sym (map-append (apply θ) (terms_at old (take k ids)) (term_at old (get_or ids k d).0 ∷ []))
            ∙ ap (map (apply θ)) (sym (map-append (λ (i : TermId). term_at old i.0) (take k ids) (get_or ids k d ∷ [])))
            ∙ ap (λ (is : List TermId). applies θ (terms_at old is)) (sym (take_more ids k d h));
        within = omega arith;
      }

-- ids of pairs
pub left-at : (ps : List (TermId × TermId)) (k : ℕ) (d : TermId × TermId) → k < length ps → (get_or ps k d).0.0 < pair_ids_bound ps
left-at [] k d h = absurd (omega arith)
left-at (p ∷ ps) zero d h = omega arith
left-at (p ∷ ps) (suc k) d h = let b = left-at ps k d (omega arith) in omega arith

pub right-at : (ps : List (TermId × TermId)) (k : ℕ) (d : TermId × TermId) → k < length ps → (get_or ps k d).1.0 < pair_ids_bound ps
right-at [] k d h = absurd (omega arith)
right-at (p ∷ ps) zero d h = omega arith
right-at (p ∷ ps) (suc k) d h = let b = right-at ps k d (omega arith) in omega arith

pairs-push : (ps : List (TermId × TermId)) (p : TermId × TermId) → pair_ids_bound (ps ++ p ∷ []) ≡ max (pair_ids_bound ps) (max (p.0.0 + 1) (p.1.0 + 1))
pairs-push [] p = omega arith
pairs-push (q ∷ ps) p = let h = pairs-push ps p in omega arith

-- what some pairs became so far, and what is known
pub record Replaced (old now : List Shared) (θ : Substitution) (f : ℕ → Option TermId) (ps made : List (TermId × TermId)) : Type 0 where
  pub grows : Grows old now
  pub images : AreImages now θ f
  pub are : term_sides now made ≡ map (sides_applied θ) (term_sides old ps)
  pub within : pair_ids_bound made ≤ length now

module _ (old now new : List Shared) (found : List (ℕ × TermId)) (f g : ℕ → Option TermId) (below : pairs_bound found ≤ length old) where
  -- one more pair
  pub replaced-more : (ps made pushed : List (TermId × TermId)) (k : ℕ) (d j : TermId × TermId) → Replaced old now (listed_at old found) f (take k ps) made → k < length ps → pair_ids_bound ps ≤ length old → Grows now new → AreImages new (listed_at now found) g
      → sides_at new j ≡ sides_applied (listed_at now found) (sides_at now (get_or ps k d)) → j.0.0 < length new → j.1.0 < length new → pushed ≡ made ++ j ∷ [] → Replaced old new (listed_at old found) g (take (k + 1) ps) pushed
  replaced-more ps made pushed k d j so h small grows images e inside inner is =
      let left = left-at ps k d h in
      let right = right-at ps k d h in
      let longer = grows-longer now new grows in
      let within = so.within in
      let push = ap pair_ids_bound is ∙ pairs-push made j in
      let θ : Substitution = listed_at old found in
      record {
        grows = grows-on old now new so.grows grows;
        images = images-before old now new found g so.grows below images;
        are =
            ap (term_sides new) is ∙ map-append (sides_at new) made (j ∷ [])
            ∙ ap₂ (λ (ts : List (Term × Term)) (t : Term × Term). ts ++ t ∷ []) (sides-kept now new grows made within ∙ so.are)
            (e ∙ ap₂ (λ (bs : List (ℕ × Term)) (p : Term × Term). sides_applied (listed bs) p) (pairs-kept old now so.grows found below) (side-kept old now so.grows (get_or ps k d) (omega arith) (omega arith)))
            ∙ sym (map-append (sides_applied θ) (term_sides old (take k ps)) (sides_at old (get_or ps k d) ∷ []))
            ∙ ap (map (sides_applied θ)) (sym (map-append (sides_at old) (take k ps) (get_or ps k d ∷ [])))
            ∙ ap (λ (qs : List (TermId × TermId)). map (sides_applied θ) (term_sides old qs)) (sym (take_more ps k d h));
        within = omega arith;
      }

-- all pairs
pub replaced-all : (old now : List Shared) (f : ℕ → Option TermId) (n : ℕ) (by : TermId) (ps made : List (TermId × TermId)) (k : ℕ) → Replaced old now (listed_at old ((n, by) ∷ [])) f (take k ps) made → length ps ≤ k → term_sides now made ≡ replace_in n (term_at old by.0) (term_sides old ps)
unfolding replace
replaced-all old now f n by ps made k so end = so.are ∙ ap (λ (qs : List (TermId × TermId)). map (sides_applied (listed_at old ((n, by) ∷ []))) (term_sides old qs)) (take_all k ps end)

pub ruleset becoming = (common_steps, nat_tests, bound-at, id_for-bound, grows-none, grows-on, grows-longer, images-again, empty-images)

pub ruleset replacing = (common_steps, nat_tests, left-at, right-at, grows-none, grows-on, grows-longer, images-again, images-before, empty-images)
