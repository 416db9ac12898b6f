-- Matching of two ids' terms, by their nodes.
use Rattle.std.proofs.Common.{◌≡◌, ◌≢◌, ◌==◌, ◌&&◌, ◌+◌, ◌<◌, ◌≤◌, ◌∙◌, ℕ, Bool, true, false, true≢false, List, [], Option, Some, None, refl, sym, ap, ap₂, subst, map, option_map, IfOk, Result, cond, nat_eq, length, drop, get_or, arith, if◌then◌else◌}
use Rattle.std.proofs.lemmas.Grind.{common_steps}
use Rattle.std.proofs.lemmas.Bool.Decides.{nat_tests}
use Rattle.std.proofs.lemmas.List.{drop_more, length-map as mapped-length}
use Rattle.std.proofs.lemmas.Result.{IfOk-weaker}
use Rattle.am_term.specs.declared.id.SortId.{SortId}
use Rattle.am_term.specs.declared.id.SymId.{SymId}
use Rattle.am_term.specs.declared.signature.Signature.{Signature}
use Rattle.am_term.specs.declared.term.Term.{Term}
use Rattle.am_term.specs.declared.term.Term.TheOpen.{Term-F}
use Rattle.am_term.specs.declared.term.Term.TheViews.{out-Term}
use Rattle.am_term.specs.declared.term.Term.TheVariants as term
use Rattle.am_term.specs.Same.{is_in, same_term, same_term-In}
use Rattle.am_unify.specs.Matching.{IsMatched, held, and_then, match_all, bind_held, match_app, matched, matched-Var, matched-In, matched-App}
use Rattle.am_unify.proofs.Matched.{all-count, matched-answer}
use Rattle.am_unify.specs.Unifier.{IsSortedUnder}
use Rattle.am_bank.specs.declared.id.TermId.{TermId}
use Rattle.am_bank.specs.declared.shared.SharedSubst.{SharedSubst}
use Rattle.am_bank.specs.Node.{Shared}
use Rattle.am_bank.specs.Bank.{IsBank}
use Rattle.am_bank.specs.Trees.{tree}
use Rattle.am_sharing.specs.Matching.{IsMatchedShared}
use Rattle.am_sharing.specs.Pairs.{pairs_at, answer_at, answer_bound}
use Rattle.am_sharing.specs.Settled.{AreSettled, AnswerSettled}
use Rattle.am_sharing.specs.Terms.{term_at, terms_at}
use Rattle.am_sharing.proofs.Nodes.{term_at-is, same-id, number-same, bound-at}
use Rattle.am_sharing.proofs.Compared.{length-map}
use Rattle.am_sharing.proofs.Settled.{empty-settled, answer-kept, held-same, held-unlike, one-more}
use Rattle.am_sharing.proofs.Pairs.{held-is, insert-is, insert-bound, bindings-are}

abbrev shared_subst : List (ℕ × TermId) → SharedSubst
shared_subst ps = record { 0 = ps }

other : (m n : ℕ) → m ≢ n → (m == n) ≡ false
other m n h = grind (arith, nat_tests)

module _ (sig : Signature) (ins : List SortId) (ns : List Shared) where
  -- other counts don't match
  pub ids-unequal : (ps ts : List TermId) (bs : List (ℕ × Term)) → length ps ≢ length ts → match_all (map (matched sig ins) (terms_at ns ps)) (terms_at ns ts) bs ≡ None
  ids-unequal ps ts bs h = all-count sig ins (terms_at ns ps) (terms_at ns ts) bs (λ e. h (sym (length-map (λ (i : TermId). term_at ns i.0) ps) ∙ e ∙ length-map (λ (i : TermId). term_at ns i.0) ts))

  module _ (p t : ℕ) (bs : List (ℕ × Term)) where
    abbrev Is : Option (List (ℕ × Term)) → Type 0
    Is o = matched sig ins (term_at ns p) (term_at ns t) bs ≡ o

    pub match-Var : (n : ℕ) (s : SortId) → term_at ns p ≡ term.Var n s → Is (bind_held sig ins n s (term_at ns t) bs (held bs n (term_at ns t)))
    match-Var n s e = ap (λ (a : Term). matched sig ins a (term_at ns t) bs) e ∙ matched-Var sig ins n s (term_at ns t) bs

    module _ (bank : IsBank ns) (h : p < length ns) (k : t < length ns) (j : ℕ) (e : term_at ns p ≡ term.In j) where
      input-is : is_in j (out-Term (term_at ns t)) ≡ (p == t)
      input-is = sym (same_term-In j (term_at ns t)) ∙ ap (λ (a : Term). same_term a (term_at ns t)) (sym e) ∙ sym (same-id ns bank p t h k)

      match-In : (b : Bool) → (p == t) ≡ b → Is (if b then Some bs else None)
      match-In b is = ap (λ (a : Term). matched sig ins a (term_at ns t) bs) e ∙ matched-In sig ins j (term_at ns t) bs ∙ ap (λ (c : Bool). if c then Some bs else None) (input-is ∙ is)

      pub match-input : (p == t) ≡ true → Is (Some bs)
      match-input is = match-In true is

      pub match-other : (p == t) ≡ false → Is None
      match-other is = match-In false is

    -- an application is matched by its head
    pub match-head : (f : SymId) (ps : List TermId) → term_at ns p ≡ term.App f (terms_at ns ps) → Is (match_app sig ins f (map (matched sig ins) (terms_at ns ps)) (out-Term (term_at ns t)) bs)
    match-head f ps e = ap (λ (a : Term). matched sig ins a (term_at ns t) bs) e ∙ matched-App sig ins f (terms_at ns ps) (term_at ns t) bs

  module _ (f : SymId) (ps : List TermId) (t : ℕ) (bs : List (ℕ × Term)) where
    abbrev Head : Term-F Term → Option (List (ℕ × Term))
    Head x = match_app sig ins f (map (matched sig ins) (terms_at ns ps)) x bs

    symbol-is : (x : Term) → term_at ns t ≡ x → Head (out-Term (term_at ns t)) ≡ Head (out-Term x)
    symbol-is x h = ap (λ (a : Term). Head (out-Term a)) h

    pub head-Var : (n : ℕ) (s : SortId) → term_at ns t ≡ term.Var n s → Head (out-Term (term_at ns t)) ≡ None
    head-Var n s h = symbol-is (term.Var n s) h ∙ ap Head (term.outs-Var n s)

    pub head-In : (k : ℕ) → term_at ns t ≡ term.In k → Head (out-Term (term_at ns t)) ≡ None
    head-In k h = symbol-is (term.In k) h ∙ ap Head (term.outs-In k)

    module _ (g : SymId) (ts : List TermId) (h : term_at ns t ≡ term.App g (terms_at ns ts)) where
      by_test : (a b : Bool) → (f.0 == g.0) ≡ a → (length (map (matched sig ins) (terms_at ns ps)) == length (terms_at ns ts)) ≡ b → Head (out-Term (term_at ns t)) ≡ (if a && b then match_all (map (matched sig ins) (terms_at ns ps)) (terms_at ns ts) bs else None)
      by_test a b is are = symbol-is (term.App g (terms_at ns ts)) h ∙ ap Head (term.outs-App g (terms_at ns ts)) ∙ ap₂ (λ (c d : Bool). if c && d then match_all (map (matched sig ins) (terms_at ns ps)) (terms_at ns ts) bs else None) is are

      pub head-unlike : f.0 ≢ g.0 → Head (out-Term (term_at ns t)) ≡ None
      head-unlike is = by_test false (length (map (matched sig ins) (terms_at ns ps)) == length (terms_at ns ts)) (other f.0 g.0 is) refl

      lengths : (length (map (matched sig ins) (terms_at ns ps)) == length (terms_at ns ts)) ≡ (length ps == length ts)
      lengths = ap₂ (λ (m n : ℕ). m == n) (mapped-length (terms_at ns ps) (matched sig ins) ∙ length-map (λ (i : TermId). term_at ns i.0) ps) (length-map (λ (i : TermId). term_at ns i.0) ts)

      pub head-all : f.0 ≡ g.0 → Head (out-Term (term_at ns t)) ≡ match_all (map (matched sig ins) (terms_at ns ps)) (terms_at ns ts) bs
      head-all is = by_count (length ps == length ts) refl
        where
          by_count : (b : Bool) → (length ps == length ts) ≡ b → Head (out-Term (term_at ns t)) ≡ match_all (map (matched sig ins) (terms_at ns ps)) (terms_at ns ts) bs
          by_count true are = by_test true true (number-same f.0 g.0 is) (lengths ∙ are)
          by_count false are = by_test true false (number-same f.0 g.0 is) (lengths ∙ are) ∙ sym (ids-unequal ps ts bs (λ e. true≢false (sym (number-same (length ps) (length ts) e) ∙ are)))

  -- once a variable is bound, what was matched stays settled
  pub variable-keeps : {E : Type 0} (p t n : ℕ) (s : SortId) (ps : List (ℕ × TermId)) (f : ℕ → Option TermId) (r : Result (Option (List (ℕ × TermId))) E) → term_at ns p ≡ term.Var n s → AreSettled sig ins ns (pairs_at ns ps) f
      → IfOk r (λ (o : Option (List (ℕ × TermId))). answer_at ns o ≡ bind_held sig ins n s (term_at ns t) (pairs_at ns ps) (held (pairs_at ns ps) n (term_at ns t))) → IfOk r (λ (o : Option (List (ℕ × TermId))). AnswerSettled sig ins ns o f)
  variable-keeps p t n s ps f r e settled h =
      IfOk-weaker r
      (λ (o : Option (List (ℕ × TermId))). answer_at ns o ≡ bind_held sig ins n s (term_at ns t) (pairs_at ns ps) (held (pairs_at ns ps) n (term_at ns t)))
      (λ (o : Option (List (ℕ × TermId))). AnswerSettled sig ins ns o f)
      (λ o is. answer-kept sig ins ns p t ps f settled o (is ∙ sym (match-Var p t (pairs_at ns ps) n s e))) h

  -- once an application is matched, it is settled too
  pub application-adds : (p : ℕ) (t : TermId) (f : SymId) (args : List TermId) (before ps : List (ℕ × TermId)) (o : Option (List (ℕ × TermId))) (old new : ℕ → Option TermId) → term_at ns p ≡ term.App f (terms_at ns args) → t.0 < length ns → o ≡ Some ps → AnswerSettled sig ins ns o old
      → answer_at ns o ≡ match_app sig ins f (map (matched sig ins) (terms_at ns args)) (out-Term (term_at ns t.0)) (pairs_at ns before) → ((q : ℕ) → new q ≡ cond (nat_eq p q) (Some t) (old q)) → AreSettled sig ins ns (pairs_at ns ps) new
  application-adds p t f args before ps o old new e within some settled is updates =
      one-more sig ins ns p t before ps old new within
      (subst (λ (q : Option (List (ℕ × TermId))). AnswerSettled sig ins ns q old) some settled)
      (ap (answer_at ns) (sym some) ∙ is ∙ sym (match-head p t.0 (pairs_at ns before) f args e))
      updates

  -- the first of what is left, and what is behind it
  pub ids-match : (ps ts : List TermId) (bs : List (ℕ × Term)) (i : ℕ) (x y : TermId) → i < length ps → i < length ts → match_all (map (matched sig ins) (terms_at ns (drop i ps))) (terms_at ns (drop i ts)) bs ≡ and_then (matched sig ins (term_at ns (get_or ps i x).0) (term_at ns (get_or ts i y).0) bs) (match_all (map (matched sig ins) (terms_at ns (drop (i + 1) ps))) (terms_at ns (drop (i + 1) ts)))
  ids-match ps ts bs i x y h k = rw (drop_more ps i x h, drop_more ts i y k) refl

  -- what was matched over ids with nothing bound before is the answer for the terms
  module _ (sorts : ℕ → SortId) (p t : ℕ) (a b : Term) (before : List (ℕ × TermId)) (none : before ≡ []) (e : tree ns p ≡ Some a) (h : tree ns t ≡ Some b) (sorted : IsSortedUnder sig ins sorts a) where
    terms-are : matched sig ins (term_at ns p) (term_at ns t) (pairs_at ns before) ≡ matched sig ins a b []
    terms-are = rw (term_at-is ns p a e, term_at-is ns t b h, none) refl

    by_answer : (q : Option (List (ℕ × TermId))) → answer_bound q ≤ length ns → answer_at ns q ≡ matched sig ins a b [] → IsMatchedShared ns sig ins sorts a b (option_map shared_subst q)
    by_answer None l is = subst (IsMatched sig ins sorts a b) (sym is) (matched-answer sig ins sorts a b sorted)
    by_answer (Some ps) l is = (pairs_at ns ps, (bindings-are ns ps l, subst (IsMatched sig ins sorts a b) (sym is) (matched-answer sig ins sorts a b sorted)))

    pub answered : (o q : Option (List (ℕ × TermId))) → o ≡ q → answer_bound o ≤ length ns → answer_at ns o ≡ matched sig ins (term_at ns p) (term_at ns t) (pairs_at ns before) → IsMatchedShared ns sig ins sorts a b (option_map shared_subst q)
    answered o q same l is = by_answer q (subst (λ (r : Option (List (ℕ × TermId))). answer_bound r ≤ length ns) same l) (ap (answer_at ns) (sym same) ∙ is ∙ terms-are)

pub ruleset extending = (common_steps, nat_tests, bound-at, match-Var, match-input, match-other, match-head, head-Var, head-In, head-unlike, head-all, ids-unequal, ids-match, empty-settled, held-same, held-unlike)

pub ruleset bind_ids = (common_steps, nat_tests, held-is, insert-is, insert-bound)
