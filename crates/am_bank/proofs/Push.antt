-- A bank with one more node.
use Rattle.std.proofs.Common.{◌≡◌, ◌||◌, ℕ, zero, suc, Bool, true, false, refl, List, [], ◌∷◌, ◌++◌, ap, sym, ◌∙◌, subst, map, length, Some, ◌⊎◌, inl, inr, slice_get, cond, true≢false}
use Rattle.std.specs.List.{list_any}
use Rattle.std.proofs.lemmas.Option.{slice_get-map}
use Rattle.am_bank.specs.Node.{Shared, node_shared}
use Rattle.am_bank.specs.Bank.{ArgsBelow, IsBank}
use Rattle.am_bank.specs.declared.node.Node.{Node}
use Rattle.indexmap.specs.IndexSet.{insert_key}
use Rattle.am_bank.specs.Equal.{same, same_is, same_of}

some_is : (x y : Shared) → Some x ≡ Some y → x ≡ y
some_is x y e = cc

-- what stands in a list with one more
push_get : (ns : List Shared) (n : Shared) (i : ℕ) (x : Shared) → slice_get (ns ++ n ∷ []) i ≡ Some x → (slice_get ns i ≡ Some x) ⊎ ((i ≡ length ns) × (x ≡ n))
push_get [] n zero x e = inr (refl, sym (some_is n x e))
push_get [] n (suc i) x e = cc
push_get (y ∷ ys) n zero x e = inl e
push_get (y ∷ ys) n (suc i) x e = elim (push_get ys n i x e) [ inl h ↦ inl h | inr h ↦ inr (ap suc h.0, h.1) ]

-- a key that no test found is not there
not_there : (k : Node) (ks : List Node) (i : ℕ) → list_any (same k) ks ≡ false → slice_get (map node_shared ks) i ≡ Some (node_shared k) → ⊥
not_there k [] zero none e = cc
not_there k [] (suc i) none e = cc
not_there k (y ∷ ys) zero none e = let t : same k y ≡ true = same_of k y (sym (some_is (node_shared y) (node_shared k) e)) in or_false (same k y) (list_any (same k) ys) t none
  where
    or_false : (a b : Bool) → a ≡ true → (a || b) ≡ false → ⊥
    or_false true b e none = absurd (true≢false none)
    or_false false b e none = absurd (true≢false (sym e))
not_there k (y ∷ ys) (suc i) none e = not_there k ys i (or_right (same k y) (list_any (same k) ys) none) e
  where
    or_right : (a b : Bool) → (a || b) ≡ false → b ≡ false
    or_right true b none = absurd (true≢false none)
    or_right false b none = none

-- a new node goes behind
pub bank_push : (ns : List Shared) (n : Shared) → IsBank ns → ((i : ℕ) → slice_get ns i ≡ Some n → ⊥) → ArgsBelow (length ns) n → IsBank (ns ++ n ∷ [])
bank_push ns n bank fresh below = record {
  distinct = λ i j x p q. elim (push_get ns n i x p) [
    | inl h ↦ elim (push_get ns n j x q) [
      | inl g ↦ bank.distinct i j x h g
      | inr g ↦ absurd (fresh i (h ∙ ap Some g.1))
    ]
    | inr h ↦ elim (push_get ns n j x q) [
      | inl g ↦ absurd (fresh j (g ∙ ap Some h.1))
      | inr g ↦ h.0 ∙ sym g.0
    ]
  ];
  below = λ i x p. elim (push_get ns n i x p) [
    | inl h ↦ bank.below i x h
    | inr h ↦ let P : ℕ → Type 0 = λ m. ArgsBelow m x in subst P (sym h.0) (let Q : Shared → Type 0 = λ y. ArgsBelow (length ns) y in subst Q (sym h.1) below)
  ];
}

map-push : (ks : List Node) (k : Node) → map node_shared (ks ++ k ∷ []) ≡ map node_shared ks ++ node_shared k ∷ []
map-push [] k = refl
map-push (y ∷ ys) k = ap (λ r. node_shared y ∷ r) (map-push ys k)

length-nodes : (ks : List Node) → length (map node_shared ks) ≡ length ks
length-nodes [] = refl
length-nodes (y ∷ ys) = ap suc (length-nodes ys)

-- what an insert makes of a bank
pub data Inserted (old : List Shared) (n : Shared) (new : List Shared) : Type 0 where
  was_there : new ≡ old → Inserted old n new
  is_new : new ≡ old ++ n ∷ [] → ((i : ℕ) → slice_get old i ≡ Some n → ⊥) → Inserted old n new

pub inserted : (ks : List Node) (k : Node) (new : List Node) → new ≡ insert_key same ks k → Inserted (map node_shared ks) (node_shared k) (map node_shared new)
inserted ks k new e = by_test (list_any (same k) ks) refl (e)
  where
    by_test : (b : Bool) → list_any (same k) ks ≡ b → new ≡ cond (list_any (same k) ks) ks (ks ++ k ∷ []) → Inserted (map node_shared ks) (node_shared k) (map node_shared new)
    by_test true t e = was_there (ap (map node_shared) (e ∙ rw t refl))
    by_test false t e = is_new (ap (map node_shared) (e ∙ rw t refl) ∙ map-push ks k) (λ i at. not_there k ks i t at)

-- a bank stays one
pub stays_bank : (ks : List Node) (k : Node) (new : List Node) → IsBank (map node_shared ks) → ArgsBelow (length (map node_shared ks)) (node_shared k) → new ≡ insert_key same ks k → IsBank (map node_shared new)
stays_bank ks k new bank below e = elim (inserted ks k new e) [
  | was_there h ↦ subst IsBank (sym h) bank
  | is_new h fresh ↦ subst IsBank (sym h) (bank_push (map node_shared ks) (node_shared k) bank fresh below)
]

-- what stands at the place of a key that is equal
pub stored_at : (new : List Node) (k there : Node) (i : ℕ) → slice_get new i ≡ Some there → same k there ≡ true → slice_get (map node_shared new) i ≡ Some (node_shared k)
stored_at new k there i at is = slice_get-map node_shared new i ∙ rw at (ap Some (sym (same_is k there is)))

-- the old list, or one more with the place of the new one
pub grown : (ks : List Node) (k : Node) (new : List Node) (i : ℕ) → new ≡ insert_key same ks k → slice_get (map node_shared new) i ≡ Some (node_shared k)
    → (map node_shared new ≡ map node_shared ks) ⊎ ((map node_shared new ≡ map node_shared ks ++ node_shared k ∷ []) × (i ≡ length (map node_shared ks)))
grown ks k new i e at = elim (inserted ks k new e) [
  | was_there h ↦ inl h
  | is_new h fresh ↦ inr (h, elim (push_get (map node_shared ks) (node_shared k) i (node_shared k) (rw h at at)) [ inl g ↦ absurd (fresh i g) | inr g ↦ g.0 ])
]
