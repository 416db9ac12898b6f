-- What the terms of two ids ask for, by their nodes.
use Rattle.std.proofs.Common.{◌≡◌, ◌≢◌, ◌==◌, ◌&&◌, ◌+◌, ◌<◌, ◌≤◌, ◌∙◌, ℕ, Bool, true, false, List, [], ◌∷◌, refl, sym, ap, ap₂, length, drop, get_or, max, arith, if◌then◌else◌}
use Rattle.std.specs.List.{zip}
use Rattle.std.proofs.lemmas.Grind.{common_steps}
use Rattle.std.proofs.lemmas.Bool.Decides.{nat_tests}
use Rattle.std.proofs.lemmas.List.{drop_more}
use Rattle.am_term.specs.declared.id.SortId.{SortId}
use Rattle.am_term.specs.declared.id.SymId.{SymId}
use Rattle.am_term.specs.declared.signature.Signature.{Signature}
use Rattle.am_term.specs.declared.term.Term.{Term}
use Rattle.am_term.specs.declared.term.Term.TheOpen.{Term-F}
use Rattle.am_term.specs.declared.term.Term.TheViews.{out-Term}
use Rattle.am_term.specs.declared.term.Term.TheVariants as term
use Rattle.am_term.proofs.Alike.{same_term-is}
use Rattle.am_unify.specs.declared.opening.Opened.{Opened}
use Rattle.am_unify.specs.declared.opening.Opened.TheVariants.{More, Clash}
use Rattle.am_unify.specs.Opening.{open_heads, open_term, open_variables, opened}
use Rattle.am_bank.specs.declared.id.TermId.{TermId}
use Rattle.am_bank.specs.Node.{Shared}
use Rattle.am_bank.specs.Bank.{IsBank}
use Rattle.am_sharing.specs.Bound.{id_bound}
use Rattle.am_sharing.specs.Terms.{term_at, terms_at}
use Rattle.am_sharing.proofs.Nodes.{same-id, number-same}
use Rattle.am_sharing.proofs.Compared.{length-map}
use Rattle.am_shared_unify.specs.Sides.{term_sides}
use Rattle.am_shared_unify.specs.Unifying.{pair_ids_bound}

other : (m n : ℕ) → m ≢ n → (m == n) ≡ false
other m n h = grind (arith, nat_tests)

-- one id has one term
pub open-same : (sig : Signature) (ins : List SortId) (ns : List Shared) (l r : ℕ) → l ≡ r → opened sig ins (term_at ns l) (term_at ns r) ≡ More []
unfolding opened
open-same sig ins ns l r e =
    ap (λ (i : ℕ). opened sig ins (term_at ns l) (term_at ns i)) (sym e)
    ∙ ap (λ (b : Bool). if b then More [] else open_heads sig ins (term_at ns l) (term_at ns l) (out-Term (term_at ns l)) (out-Term (term_at ns l)))
    (sym (same_term-is (l == l) (term_at ns l) (term_at ns l) (λ h. refl) (λ h. number-same l l refl)) ∙ number-same l l refl)

module _ (sig : Signature) (ins : List SortId) (ns : List Shared) (bank : IsBank ns) (l r : ℕ) (below : l < length ns) (below_too : r < length ns) where
  abbrev Is : Opened → Type 0
  Is o = opened sig ins (term_at ns l) (term_at ns r) ≡ o

  abbrev Heads : Term-F Term → Term-F Term → Opened
  Heads = open_heads sig ins (term_at ns l) (term_at ns r)

  by_test : (b : Bool) → (l == r) ≡ b → Is (if b then More [] else Heads (out-Term (term_at ns l)) (out-Term (term_at ns r)))
  unfolding opened
  by_test b e = ap (λ (c : Bool). if c then More [] else Heads (out-Term (term_at ns l)) (out-Term (term_at ns r))) (sym (same-id ns bank l r below below_too) ∙ e)

  module _ (apart : (l == r) ≡ false) where
    by_heads : (x y : Term) → term_at ns l ≡ x → term_at ns r ≡ y → Is (Heads (out-Term x) (out-Term y))
    by_heads x y e d = by_test false apart ∙ ap₂ (λ (a b : Term). Heads (out-Term a) (out-Term b)) e d

    pub open-Var-Var : (n : ℕ) (s : SortId) (m : ℕ) (q : SortId) → term_at ns l ≡ term.Var n s → term_at ns r ≡ term.Var m q → Is (open_variables sig ins n s m q)
    open-Var-Var n s m q e d = by_heads (term.Var n s) (term.Var m q) e d ∙ ap₂ Heads (term.outs-Var n s) (term.outs-Var m q)

    pub open-Var-In : (n : ℕ) (s : SortId) (k : ℕ) → term_at ns l ≡ term.Var n s → term_at ns r ≡ term.In k → Is (open_term sig ins n s (term_at ns r))
    open-Var-In n s k e d = by_heads (term.Var n s) (term.In k) e d ∙ ap₂ Heads (term.outs-Var n s) (term.outs-In k)

    pub open-Var-App : (n : ℕ) (s : SortId) (g : SymId) (bs : List TermId) → term_at ns l ≡ term.Var n s → term_at ns r ≡ term.App g (terms_at ns bs) → Is (open_term sig ins n s (term_at ns r))
    open-Var-App n s g bs e d = by_heads (term.Var n s) (term.App g (terms_at ns bs)) e d ∙ ap₂ Heads (term.outs-Var n s) (term.outs-App g (terms_at ns bs))

    pub open-In-Var : (k m : ℕ) (q : SortId) → term_at ns l ≡ term.In k → term_at ns r ≡ term.Var m q → Is (open_term sig ins m q (term_at ns l))
    open-In-Var k m q e d = by_heads (term.In k) (term.Var m q) e d ∙ ap₂ Heads (term.outs-In k) (term.outs-Var m q)

    pub open-In-In : (k j : ℕ) → term_at ns l ≡ term.In k → term_at ns r ≡ term.In j → Is Clash
    open-In-In k j e d = by_heads (term.In k) (term.In j) e d ∙ ap₂ Heads (term.outs-In k) (term.outs-In j)

    pub open-In-App : (k : ℕ) (g : SymId) (bs : List TermId) → term_at ns l ≡ term.In k → term_at ns r ≡ term.App g (terms_at ns bs) → Is Clash
    open-In-App k g bs e d = by_heads (term.In k) (term.App g (terms_at ns bs)) e d ∙ ap₂ Heads (term.outs-In k) (term.outs-App g (terms_at ns bs))

    pub open-App-Var : (f : SymId) (as_ : List TermId) (m : ℕ) (q : SortId) → term_at ns l ≡ term.App f (terms_at ns as_) → term_at ns r ≡ term.Var m q → Is (open_term sig ins m q (term_at ns l))
    open-App-Var f as_ m q e d = by_heads (term.App f (terms_at ns as_)) (term.Var m q) e d ∙ ap₂ Heads (term.outs-App f (terms_at ns as_)) (term.outs-Var m q)

    pub open-App-In : (f : SymId) (as_ : List TermId) (j : ℕ) → term_at ns l ≡ term.App f (terms_at ns as_) → term_at ns r ≡ term.In j → Is Clash
    open-App-In f as_ j e d = by_heads (term.App f (terms_at ns as_)) (term.In j) e d ∙ ap₂ Heads (term.outs-App f (terms_at ns as_)) (term.outs-In j)

    module _ (f g : SymId) (as_ bs : List TermId) (e : term_at ns l ≡ term.App f (terms_at ns as_)) (d : term_at ns r ≡ term.App g (terms_at ns bs)) where
      by_symbols : (a b : Bool) → (f.0 == g.0) ≡ a → (length as_ == length bs) ≡ b → Is (if a && b then More (zip (terms_at ns as_) (terms_at ns bs)) else Clash)
      by_symbols a b same many =
          by_heads (term.App f (terms_at ns as_)) (term.App g (terms_at ns bs)) e d ∙ ap₂ Heads (term.outs-App f (terms_at ns as_)) (term.outs-App g (terms_at ns bs))
          ∙ ap₂ (λ (c : Bool) (k : Bool). if c && k then More (zip (terms_at ns as_) (terms_at ns bs)) else Clash) same
          (ap₂ (λ (m n : ℕ). m == n) (length-map (λ (i : TermId). term_at ns i.0) as_) (length-map (λ (i : TermId). term_at ns i.0) bs) ∙ many)

      pub open-unlike : f.0 ≢ g.0 → Is Clash
      open-unlike h = by_symbols false (length as_ == length bs) (other f.0 g.0 h) refl

      pub open-counts : length as_ ≢ length bs → Is Clash
      open-counts h = by_count (f.0 == g.0) refl
        where
          by_count : (b : Bool) → (f.0 == g.0) ≡ b → Is Clash
          by_count true same = by_symbols true false same (other (length as_) (length bs) h)
          by_count false same = by_symbols false false same (other (length as_) (length bs) h)

      pub open-arguments : f.0 ≡ g.0 → length as_ ≡ length bs → Is (More (zip (terms_at ns as_) (terms_at ns bs)))
      open-arguments h k = by_symbols true true (number-same f.0 g.0 h) (number-same (length as_) (length bs) k)

-- pairs of arguments
pub zip-sides : (ns : List Shared) (as_ bs : List TermId) → term_sides ns (zip as_ bs) ≡ zip (terms_at ns as_) (terms_at ns bs)
zip-sides ns [] bs = refl
zip-sides ns (a ∷ as_) [] = refl
zip-sides ns (a ∷ as_) (b ∷ bs) = ap (λ (ps : List (Term × Term)). (term_at ns a.0, term_at ns b.0) ∷ ps) (zip-sides ns as_ bs)

pub zip-bound : (as_ bs : List TermId) → pair_ids_bound (zip as_ bs) ≤ max (id_bound as_) (id_bound bs)
zip-bound [] bs = omega arith
zip-bound (a ∷ as_) [] = omega arith
zip-bound (a ∷ as_) (b ∷ bs) = let h = zip-bound as_ bs in omega arith

pub zip-at : (as_ bs : List TermId) (i : ℕ) (a b : TermId) → i < length as_ → i < length bs → zip (drop i as_) (drop i bs) ≡ (get_or as_ i a, get_or bs i b) ∷ zip (drop (i + 1) as_) (drop (i + 1) bs)
zip-at as_ bs i a b h k = rw (drop_more as_ i a h, drop_more bs i b k) refl

pub ruleset heads = (common_steps, nat_tests, open-same, open-Var-Var, open-Var-In, open-Var-App, open-In-Var, open-In-In, open-In-App, open-App-Var, open-App-In, open-unlike, open-counts, open-arguments, zip-sides, zip-bound)

pub ruleset zipping = (common_steps, zip-at)
